-- The numbers of the table are small where those of the plan are.
use Rattle.std.proofs.Common.{◌≡◌, ℕ, ◌^◌, ◌<◌, ◌≤◌, List, [], length, Option, Some, None, slice_get, refl, arith}
use Rattle.std.specs.List.{All}
use Rattle.std.specs.Option.{IfSome}
use Rattle.std.proofs.lemmas.List.Elements.{All-nil}
use Rattle.sdf_plan.specs.declared.plan.Plan.{Plan}
use Rattle.sdf_plan.specs.declared.plan.Net.{Net}
use Rattle.sdf_plan.specs.declared.plan.Serial.{Serial}
use Rattle.sdf_plan.specs.declared.plan.Blk.{Blk}
use Rattle.sdf_plan.specs.declared.class_table.uses.PoolUse.{PoolUse}
use Rattle.sdf_plan.specs.declared.class_table.uses.QueueUse.{QueueUse}
use Rattle.sdf_plan.specs.ClassTable.Numbers.{AreNumbered}
use Rattle.sdf_plan.specs.ClassTable.Rows.{Name, net_queues, net_pools, net_client_queues, net_client_pools, serial_queues, serial_client_queues, blk_queues, blk_pools, blk_client_queues, blk_client_pools}
use Rattle.sdf_plan.specs.ClassTable.Table.{Element, table_of}
use Rattle.sdf_plan.proofs.ClassTable.Everywhere.{each-all, all-table}
use Rattle.sdf_check.specs.ClassRules.{IsClientCount}
use Rattle.sdf_check.specs.Valid.{Valid}
use Rattle.region_layout.specs.Sizes.{HasSmallNumbers}
use Rattle.region_layout.specs.Uses.{IsSmallQueue, IsSmallPool, IsSmallElement}
use Rattle.region_layout.proofs.ValidLemmas.{net_counts, serial_counts, blk_counts}

abbrev Queue : QueueUse Name → Type 0
Queue q = IsSmallQueue q

abbrev Pool : PoolUse Name → Type 0
Pool p = IsSmallPool p

-- each element, by the numbers of its class and its client
pub small_elements : (plan : Plan) → HasSmallNumbers plan → All IsSmallElement (table_of plan)
small_elements plan small =
    let none : All Pool [] = All-nil Pool in
    all-table IsSmallElement plan
    (λ net is.
    let n = small.net net is in
    let r = n.rx_capacity in
    let t = n.tx_capacity in
    (each-all Queue (net_queues net) (r, (r, (t, (t, (r, (r, (t, (t, tt)))))))), each-all Pool (net_pools net) ((n.rx_buffers, n.rx_buffer_size), tt)))
    (λ net c client is there.
    let n = small.net net is in
    let own = n.clients c client there in
    let l = n.rx_capacity in
    let r = own.rx_capacity in
    let t = own.tx_capacity in (
      each-all Queue (net_client_queues net c client) (l, (l, (r, (r, (t, (t, tt)))))),
      each-all Pool (net_client_pools net c client) ((own.rx_buffers, own.rx_buffer_size), ((own.tx_buffers, own.tx_buffer_size), tt)),
    ))
    (λ serial is.
    let n = small.serial serial is in
    let r = n.rx_capacity in
    let t = n.tx_capacity in
    (each-all Queue (serial_queues serial) (r, (t, (r, (t, tt)))), none))
    (λ serial c client is there. let own = (small.serial serial is).clients c client there in (each-all Queue (serial_client_queues serial c client) (own.rx_capacity, (own.tx_capacity, tt)), none))
    (λ blk is. let c = (small.blk blk is).capacity in (each-all Queue (blk_queues blk) (c, (c, (c, (c, tt)))), each-all Pool (blk_pools blk) ((omega arith, omega arith), tt)))
    (λ blk c client is there.
    let own = (small.blk blk is).clients c client there in
    (each-all Queue (blk_client_queues blk c client) (own.capacity, (own.capacity, tt)), each-all Pool (blk_client_pools blk c client) ((own.buffers, omega arith), tt)))

-- the rules allow few clients
few : {C : Type 0} (o : Option C) (count : C → ℕ) → ((x : C) → o ≡ Some x → IsClientCount (count x)) → IfSome o (λ x. count x < 2 ^ 32)
few None count h = tt
few (Some x) count h = let c = h x refl in omega (arith, c.1)

pub numbered_clients : (plan : Plan) → Valid plan → AreNumbered plan
numbered_clients plan valid = record {
  net = few plan.net (λ (x : Net). length x.client) (λ net is. (net_counts plan net valid is).0);
  serial = few plan.serial (λ (x : Serial). length x.client) (λ serial is. serial_counts plan serial valid is);
  blk = few plan.blk (λ (x : Blk). length x.client) (λ blk is. blk_counts plan blk valid is);
}
