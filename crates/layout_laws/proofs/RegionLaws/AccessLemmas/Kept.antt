use Rattle.std.proofs.Common.{◌≡◌, ℕ, List, Bool, Some, slice_get, inl, arith}
use Rattle.sdf_plan.specs.declared.plan.Plan.{Plan}
use Rattle.sdf_plan.specs.declared.plan.Net.{Net}
use Rattle.sdf_plan.specs.declared.plan.NetClient.{NetClient}
use Rattle.sdf_plan.specs.declared.plan.Serial.{Serial}
use Rattle.sdf_plan.specs.declared.plan.SerialClient.{SerialClient}
use Rattle.sdf_plan.specs.declared.plan.Blk.{Blk}
use Rattle.sdf_plan.specs.declared.plan.BlkClient.{BlkClient}
use Rattle.sdf_check.specs.ClassRules.{LacksChannel, LacksRight, IsSharedWithStranger, AreJoined, HasInterrupt, IsGranted}
use Rattle.sdf_check.specs.Valid.{Valid}
use Rattle.sdf_plan.specs.ClassTable.Table.{net_element, net_client_element, serial_element, serial_client_element, blk_element, blk_client_element}
use Rattle.region_layout.proofs.KeptLemmas.{net_keeps, net_client_keeps, serial_keeps, serial_client_keeps, blk_keeps, blk_client_keeps}
use Rattle.layout_laws.proofs.RegionLaws.AccessLemmas.Decide.{not-false, joined, granted, interrupted}

-- a link that can't be missed, and a right
pub link-kept : (plan : Plan) (link : List ℕ × List ℕ) → ((AreJoined plan link → ⊥) → ⊥) → AreJoined plan link
link-kept plan link fine = not-false (AreJoined plan link) (joined plan link) fine

pub right-kept : (plan : Plan) (right : List ℕ × List ℕ × Bool) → ((IsGranted plan right → ⊥) → ⊥) → IsGranted plan right
right-kept plan right fine = not-false (IsGranted plan right) (granted plan right) fine

pub interrupt-kept : (plan : Plan) (name : List ℕ) → ((HasInterrupt plan name → ⊥) → ⊥) → HasInterrupt plan name
interrupt-kept plan name fine = not-false (HasInterrupt plan name) (interrupted plan name) fine

module _ (plan : Plan) (valid : Valid plan) where
  module _ (net : Net) (is : plan.net ≡ Some net) where
    pub net-channels : LacksChannel plan (net_element net) → ⊥
    net-channels = net_keeps plan 22 valid (omega arith) (omega arith) net is

    pub net-rights : LacksRight plan (net_element net) → ⊥
    net-rights = net_keeps plan 23 valid (omega arith) (omega arith) net is

    pub net-strangers : IsSharedWithStranger plan (net_element net) → ⊥
    net-strangers s = net_keeps plan 24 valid (omega arith) (omega arith) net is (inl s)

    module _ (c : ℕ) (client : NetClient) (there : slice_get net.client c ≡ Some client) where
      pub net-client-channels : LacksChannel plan (net_client_element net c client) → ⊥
      net-client-channels = net_client_keeps plan 22 valid (omega arith) (omega arith) net c client is there

      pub net-client-rights : LacksRight plan (net_client_element net c client) → ⊥
      net-client-rights = net_client_keeps plan 23 valid (omega arith) (omega arith) net c client is there

      pub net-client-strangers : IsSharedWithStranger plan (net_client_element net c client) → ⊥
      net-client-strangers s = net_client_keeps plan 24 valid (omega arith) (omega arith) net c client is there (inl s)

  module _ (serial : Serial) (is : plan.serial ≡ Some serial) where
    pub serial-channels : LacksChannel plan (serial_element serial) → ⊥
    serial-channels = serial_keeps plan 22 valid (omega arith) (omega arith) serial is

    pub serial-rights : LacksRight plan (serial_element serial) → ⊥
    serial-rights = serial_keeps plan 23 valid (omega arith) (omega arith) serial is

    pub serial-strangers : IsSharedWithStranger plan (serial_element serial) → ⊥
    serial-strangers s = serial_keeps plan 24 valid (omega arith) (omega arith) serial is (inl s)

    module _ (c : ℕ) (client : SerialClient) (there : slice_get serial.client c ≡ Some client) where
      pub serial-client-channels : LacksChannel plan (serial_client_element serial c client) → ⊥
      serial-client-channels = serial_client_keeps plan 22 valid (omega arith) (omega arith) serial c client is there

      pub serial-client-rights : LacksRight plan (serial_client_element serial c client) → ⊥
      serial-client-rights = serial_client_keeps plan 23 valid (omega arith) (omega arith) serial c client is there

      pub serial-client-strangers : IsSharedWithStranger plan (serial_client_element serial c client) → ⊥
      serial-client-strangers s = serial_client_keeps plan 24 valid (omega arith) (omega arith) serial c client is there (inl s)

  module _ (blk : Blk) (is : plan.blk ≡ Some blk) where
    pub blk-channels : LacksChannel plan (blk_element blk) → ⊥
    blk-channels = blk_keeps plan 22 valid (omega arith) (omega arith) blk is

    pub blk-rights : LacksRight plan (blk_element blk) → ⊥
    blk-rights = blk_keeps plan 23 valid (omega arith) (omega arith) blk is

    pub blk-strangers : IsSharedWithStranger plan (blk_element blk) → ⊥
    blk-strangers s = blk_keeps plan 24 valid (omega arith) (omega arith) blk is (inl s)

    module _ (c : ℕ) (client : BlkClient) (there : slice_get blk.client c ≡ Some client) where
      pub blk-client-channels : LacksChannel plan (blk_client_element blk c client) → ⊥
      blk-client-channels = blk_client_keeps plan 22 valid (omega arith) (omega arith) blk c client is there

      pub blk-client-rights : LacksRight plan (blk_client_element blk c client) → ⊥
      blk-client-rights = blk_client_keeps plan 23 valid (omega arith) (omega arith) blk c client is there

      pub blk-client-strangers : IsSharedWithStranger plan (blk_client_element blk c client) → ⊥
      blk-client-strangers s = blk_client_keeps plan 24 valid (omega arith) (omega arith) blk c client is there (inl s)
