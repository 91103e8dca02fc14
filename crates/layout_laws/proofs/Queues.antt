-- The queues of a valid plan: of each the capacity is one, and its region has room for it.
use Rattle.std.proofs.Common.{◌≡◌, ℕ, ◌+◌, ◌*◌, ◌/◌, ◌≤◌, inl, List, Option, Some, None, slice_get, refl, arith}
use Rattle.std.specs.List.{All}
use Rattle.std.proofs.lemmas.Option.{none-some}
use Rattle.cargo_core.specs.Capacities.{IsCapacity}
use Rattle.cargo_core.specs.declared.item.QueueKind.{QueueKind}
use Rattle.sdf_plan.specs.declared.place.Place.{Place}
use Rattle.sdf_plan.specs.declared.plan.Plan.{Plan}
use Rattle.sdf_plan.specs.declared.plan.Region.{Region}
use Rattle.sdf_plan.specs.declared.plan.Net.{Net}
use Rattle.sdf_plan.specs.declared.plan.NetClient.{NetClient}
use Rattle.sdf_plan.specs.declared.plan.Serial.{Serial}
use Rattle.sdf_plan.specs.declared.plan.SerialClient.{SerialClient}
use Rattle.sdf_plan.specs.declared.plan.Blk.{Blk}
use Rattle.sdf_plan.specs.declared.plan.BlkClient.{BlkClient}
use Rattle.wire_core.specs.declared.names.ActorId.{ActorId}
use Rattle.sdf_plan.specs.declared.class_table.uses.Ends.{Ends}
use Rattle.sdf_plan.specs.declared.class_table.uses.Ends.TheVariants as Way
use Rattle.sdf_plan.specs.declared.class_table.uses.QueueUse.{QueueUse}
use Rattle.sdf_plan.specs.ClassTable.Named.{text_of}
use Rattle.sdf_plan.specs.ClassTable.Rows.{Name}
use Rattle.sdf_plan.specs.ClassTable.Sizes.{entry_size, queue_size, offset_behind}
use Rattle.sdf_plan.specs.ClassTable.Table.{Element, table_of, net_element, net_client_element, serial_element, serial_client_element, blk_element, blk_client_element}
use Rattle.sdf_plan.proofs.ClassTable.Everywhere.{all-flat, all-each, all-at}
use Rattle.sdf_check.specs.Names.{region_named}
use Rattle.sdf_check.specs.Rules.{IsMultiple}
use Rattle.sdf_check.specs.ClassRules.{IsSmaller, LacksRoom, OfLink, QueueLacksRoom, HasBadCapacity}
use Rattle.sdf_check.specs.Valid.{Valid, BreaksByRows}
use Rattle.sdf_check.proofs.SoughtLemmas.{here-some}
use Rattle.region_layout.specs.Rows.{queue_in, region_of, producer_of, consumer_of, queue_row, queue_rows, queues_of}
use Rattle.region_layout.proofs.KeptLemmas.{net_keeps, net_client_keeps, serial_keeps, serial_client_keeps, blk_keeps, blk_client_keeps}
use Rattle.region_layout.proofs.ValidLemmas.{is_capacity}
use Rattle.layout_laws.specs.Sound.{IsSoundQueue}
use Rattle.layout_laws.proofs.Found.{large-region}
use Rattle.layout_laws.proofs.Tables.{kept-table, all-rows}

-- a queue in no region
free_queue : (plan : Plan) (name : List ℕ) (producer consumer : ActorId) (kind : QueueKind) (offset capacity : ℕ) → IsCapacity capacity → IsSoundQueue plan (queue_in plan None offset name kind producer consumer capacity)
unfolding queue_in
free_queue plan name producer consumer kind offset capacity is = record { capacity = is; lies = λ r at. absurd (none-some r at) }

-- a queue in a region that is large enough
held_queue : (plan : Plan) (key name : List ℕ) (producer consumer : ActorId) (kind : QueueKind) (offset capacity need : ℕ) → IsCapacity capacity → IsMultiple offset 64
    → offset + (64 + entry_size kind * capacity) ≤ need → (IsSmaller plan (key, need) → ⊥)
    → IsSoundQueue plan (queue_in plan (region_named plan key) offset name kind producer consumer capacity)
unfolding queue_in
held_queue plan key name producer consumer kind offset capacity need is multiple fits large = record {
  capacity = is;
  lies = λ r at.
      let found = large-region plan key need r large at in
      let ends : offset + (64 + entry_size kind * capacity) ≤ found.0.size = omega (arith, fits, found.2) in
      here-some (slice_get plan.memory_region r) found.0 (λ (region : Region). IsMultiple offset 64 × (offset + (64 + entry_size kind * capacity) ≤ region.size)) found.1 (multiple, ends);
}

offset-multiple : (behind : Option QueueKind) (capacity : ℕ) → IsMultiple (offset_behind behind capacity) 64
offset-multiple None capacity = (0, refl)
offset-multiple (Some first) capacity = ((queue_size first capacity + 63) / 64, refl)

-- a queue of the table
row-sound : (plan : Plan) (place : Place) (name : Name) (kind : QueueKind) (ends : Ends Name) (behind : Option QueueKind) (capacity : ℕ) → IsCapacity capacity
    → (OfLink (λ link. IsSmaller plan (link.region, offset_behind behind capacity + queue_size kind capacity)) ends → ⊥)
    → IsSoundQueue plan (queue_in plan (region_of plan ends) (offset_behind behind capacity) name kind (producer_of plan place ends) (consumer_of plan place ends) capacity)
row-sound plan place name kind (Way.FromDevice driver) behind capacity is large = free_queue plan name _ _ kind (offset_behind behind capacity) capacity is
row-sound plan place name kind (Way.ToDevice driver) behind capacity is large = free_queue plan name _ _ kind (offset_behind behind capacity) capacity is
row-sound plan place name kind (Way.Across link) behind capacity is large =
    held_queue plan link.region name _ _ kind (offset_behind behind capacity) capacity (offset_behind behind capacity + queue_size kind capacity) is (offset-multiple behind capacity) (omega arith) large

element-sound : (plan : Plan) (e : Element) → (HasBadCapacity e → ⊥) → (LacksRoom plan e → ⊥) → All (IsSoundQueue plan) (queue_rows plan e)
element-sound plan e caps rooms =
    all-rows (IsSoundQueue plan) (queue_row plan e.place) e.queues (λ k (q : QueueUse Name) at.
    row-sound plan e.place (text_of q.name) q.kind q.ends q.behind q.capacity
    (is_capacity q.capacity (λ lacks. caps (k, here-some (slice_get e.queues k) q (λ (x : QueueUse Name). IsCapacity x.capacity → ⊥) at lacks)))
    (λ small. rooms (inl (k, here-some (slice_get e.queues k) q (QueueLacksRoom plan) at small))))

-- each queue of a valid plan
pub queues_sound : (plan : Plan) → Valid plan → All (IsSoundQueue plan) (queues_of plan)
unfolding queues_of
queues_sound plan valid =
    all-flat (IsSoundQueue plan) (queue_rows plan) (table_of plan) (all-each (λ (e : Element). All (IsSoundQueue plan) (queue_rows plan e)) (table_of plan) (λ n e at.
    element-sound plan e (all-at (λ (x : Element). BreaksByRows plan 25 x → ⊥) (table_of plan) (kept-table plan 25 valid (omega arith) (omega arith)) n e at)
    (all-at (λ (x : Element). BreaksByRows plan 27 x → ⊥) (table_of plan) (kept-table plan 27 valid (omega arith) (omega arith)) n e at)))

-- rule 27
pub net_fine : (plan : Plan) (net : Net) → Valid plan → plan.net ≡ Some net → LacksRoom plan (net_element net) → ⊥
net_fine plan net valid is = net_keeps plan 27 valid (omega arith) (omega arith) net is

pub net_client_fine : (plan : Plan) (net : Net) (c : ℕ) (client : NetClient) → Valid plan → plan.net ≡ Some net → slice_get net.client c ≡ Some client
    → LacksRoom plan (net_client_element net c client) → ⊥
net_client_fine plan net c client valid is there = net_client_keeps plan 27 valid (omega arith) (omega arith) net c client is there

pub serial_fine : (plan : Plan) (serial : Serial) → Valid plan → plan.serial ≡ Some serial → LacksRoom plan (serial_element serial) → ⊥
serial_fine plan serial valid is = serial_keeps plan 27 valid (omega arith) (omega arith) serial is

pub serial_client_fine : (plan : Plan) (serial : Serial) (c : ℕ) (client : SerialClient) → Valid plan → plan.serial ≡ Some serial → slice_get serial.client c ≡ Some client
    → LacksRoom plan (serial_client_element serial c client) → ⊥
serial_client_fine plan serial c client valid is there = serial_client_keeps plan 27 valid (omega arith) (omega arith) serial c client is there

pub blk_fine : (plan : Plan) (blk : Blk) → Valid plan → plan.blk ≡ Some blk → LacksRoom plan (blk_element blk) → ⊥
blk_fine plan blk valid is = blk_keeps plan 27 valid (omega arith) (omega arith) blk is

pub blk_client_fine : (plan : Plan) (blk : Blk) (c : ℕ) (client : BlkClient) → Valid plan → plan.blk ≡ Some blk → slice_get blk.client c ≡ Some client
    → LacksRoom plan (blk_client_element blk c client) → ⊥
blk_client_fine plan blk c client valid is there = blk_client_keeps plan 27 valid (omega arith) (omega arith) blk c client is there
