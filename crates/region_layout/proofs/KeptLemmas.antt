-- What a valid plan's rows keep: of each class and of each of its clients.
use Rattle.std.proofs.Common.{◌≡◌, ℕ, ◌≤◌, Some, slice_get}
use Rattle.std.specs.Option.{IsSomeAnd}
use Rattle.std.proofs.lemmas.Option.{slice_get_within}
use Rattle.sdf_plan.specs.declared.place.Place.TheVariants as At
use Rattle.sdf_plan.specs.declared.plan.Plan.{Plan}
use Rattle.sdf_plan.specs.declared.plan.Net.{Net}
use Rattle.sdf_plan.specs.declared.plan.NetClient.{NetClient}
use Rattle.sdf_plan.specs.declared.plan.Serial.{Serial}
use Rattle.sdf_plan.specs.declared.plan.SerialClient.{SerialClient}
use Rattle.sdf_plan.specs.declared.plan.Blk.{Blk}
use Rattle.sdf_plan.specs.declared.plan.BlkClient.{BlkClient}
use Rattle.sdf_plan.specs.ClassTable.Table.{net_element, net_client_element, serial_element, serial_client_element, blk_element, blk_client_element}
use Rattle.sdf_check.specs.Valid.{Valid, BreaksByRows, first_rule, last_rule}
use Rattle.sdf_check.proofs.SoughtLemmas.{here-some}
use Rattle.region_layout.proofs.WalkLemmas.{rows_kept, net_walked, net_client_walked, serial_walked, serial_client_walked, blk_walked, blk_client_walked}

module _ (plan : Plan) (rule : ℕ) (valid : Valid plan) (from : first_rule ≤ rule) (to : rule ≤ last_rule) where
  pub net_keeps : (net : Net) → plan.net ≡ Some net → BreaksByRows plan rule (net_element net) → ⊥
  net_keeps net is bad =
      rows_kept plan rule At.Net valid from to (net_walked plan net is) (here-some plan.net net (λ (x : Net). BreaksByRows plan rule (net_element x)) is bad)

  pub net_client_keeps : (net : Net) (c : ℕ) (client : NetClient) → plan.net ≡ Some net → slice_get net.client c ≡ Some client → BreaksByRows plan rule (net_client_element net c client) → ⊥
  net_client_keeps net c client is there bad =
      rows_kept plan rule (At.NetClient c) valid from to (net_client_walked plan net c is (slice_get_within net.client c client there))
      (here-some plan.net net (λ (x : Net). IsSomeAnd (slice_get x.client c) (λ (y : NetClient). BreaksByRows plan rule (net_client_element x c y))) is
      (here-some (slice_get net.client c) client (λ (y : NetClient). BreaksByRows plan rule (net_client_element net c y)) there bad))

  pub serial_keeps : (serial : Serial) → plan.serial ≡ Some serial → BreaksByRows plan rule (serial_element serial) → ⊥
  serial_keeps serial is bad =
      rows_kept plan rule At.Serial valid from to (serial_walked plan serial is) (here-some plan.serial serial (λ (x : Serial). BreaksByRows plan rule (serial_element x)) is bad)

  pub serial_client_keeps : (serial : Serial) (c : ℕ) (client : SerialClient) → plan.serial ≡ Some serial → slice_get serial.client c ≡ Some client → BreaksByRows plan rule (serial_client_element serial c client) → ⊥
  serial_client_keeps serial c client is there bad =
      rows_kept plan rule (At.SerialClient c) valid from to (serial_client_walked plan serial c is (slice_get_within serial.client c client there))
      (here-some plan.serial serial (λ (x : Serial). IsSomeAnd (slice_get x.client c) (λ (y : SerialClient). BreaksByRows plan rule (serial_client_element x c y))) is
      (here-some (slice_get serial.client c) client (λ (y : SerialClient). BreaksByRows plan rule (serial_client_element serial c y)) there bad))

  pub blk_keeps : (blk : Blk) → plan.blk ≡ Some blk → BreaksByRows plan rule (blk_element blk) → ⊥
  blk_keeps blk is bad =
      rows_kept plan rule At.Blk valid from to (blk_walked plan blk is) (here-some plan.blk blk (λ (x : Blk). BreaksByRows plan rule (blk_element x)) is bad)

  pub blk_client_keeps : (blk : Blk) (c : ℕ) (client : BlkClient) → plan.blk ≡ Some blk → slice_get blk.client c ≡ Some client → BreaksByRows plan rule (blk_client_element blk c client) → ⊥
  blk_client_keeps blk c client is there bad =
      rows_kept plan rule (At.BlkClient c) valid from to (blk_client_walked plan blk c is (slice_get_within blk.client c client there))
      (here-some plan.blk blk (λ (x : Blk). IsSomeAnd (slice_get x.client c) (λ (y : BlkClient). BreaksByRows plan rule (blk_client_element x c y))) is
      (here-some (slice_get blk.client c) client (λ (y : BlkClient). BreaksByRows plan rule (blk_client_element blk c y)) there bad))
