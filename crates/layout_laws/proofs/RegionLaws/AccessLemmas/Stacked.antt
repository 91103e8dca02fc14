use Rattle.std.proofs.Common.{◌≡◌, ℕ, zero, suc, ◌+◌, ◌-◌, ◌*◌, ◌/◌, ◌<◌, ◌≤◌, ◌⊎◌, inl, inr, ⊎_elim, List, [], ◌∷◌, ◌++◌, length, map, slice_index, Option, Some, None, slice_get, refl, sym, ap, ◌∙◌, subst, arith}
use Rattle.std.specs.Option.{option_map, option_map_or}
use Rattle.std.proofs.lemmas.Option.{slice_get-map}
use Rattle.cargo_core.specs.declared.item.QueueKind.{QueueKind}
use Rattle.wire_core.specs.declared.names.ActorId.{ActorId}
use Rattle.wire_core.specs.declared.names.QueueRow.{QueueRow}
use Rattle.sdf_plan.specs.declared.plan.Plan.{Plan}
use Rattle.sdf_plan.specs.declared.plan.Net.{Net}
use Rattle.sdf_plan.specs.declared.plan.NetClient.{NetClient}
use Rattle.sdf_plan.specs.declared.plan.Serial.{Serial}
use Rattle.sdf_plan.specs.declared.plan.SerialClient.{SerialClient}
use Rattle.sdf_plan.specs.declared.plan.Blk.{Blk}
use Rattle.sdf_plan.specs.declared.plan.BlkClient.{BlkClient}
use Rattle.sdf_check.specs.Names.{region_named}
use Rattle.sdf_check.specs.Rules.{IsMultiple, Range}
use Rattle.sdf_check.specs.Valid.{Valid}
use Rattle.sdf_check.proofs.ListLemmas.{get-either, get-left, get-right}
use Rattle.sdf_check.proofs.SweepLemmas.{some-inj}
use Rattle.region_layout.specs.Bases.{round_up, bases_of}
use Rattle.sdf_plan.specs.ClassTable.Sizes.{entry_size}
use Rattle.region_layout.specs.Rows.{queue_in, queue_pair, queue_span, each_client, eth_rx_queues, eth_tx_queues, net_rx_queues, net_tx_queues, lease_queues, client_rx_queues, client_tx_queues, net_client_queues, net_queues, uart_queues, shared_serial_queues, serial_client_queues, serial_queues, disk_queues, shared_blk_queues, blk_client_queues, blk_queues, queues_of, pools_of}
use Rattle.region_layout.proofs.SameLemmas.{queues_same}
use Rattle.layout_laws.specs.Sound.{queue_range, pool_range, ranges_of}
use Rattle.layout_laws.proofs.Spreads.{rows_apart}
use Rattle.layout_laws.specs.RegionLaws.Access.Placing.{IsBehind, AreStacked}

-- a queue of a list in a region is at its front, or behind the one before
abbrev Placing : List QueueRow → Type 0
Placing rows = (k : ℕ) (row : QueueRow) (r : ℕ) → slice_get rows k ≡ Some row → row.region ≡ Some r → (row.offset ≡ 0) ⊎ IsBehind rows k row

none : Placing []
none k row r at is = cc

both : (xs ys : List QueueRow) → Placing xs → Placing ys → Placing (xs ++ ys)
both xs ys one other k row r at is =
    ⊎_elim (λ (h : slice_get xs k ≡ Some row). left (one k row r h is))
    (λ (h : (length xs ≤ k) × (slice_get ys (k - length xs) ≡ Some row)). right h.0 (other (k - length xs) row r h.1 is)) (get-either xs ys k row at)
  where
    left : ((row.offset ≡ 0) ⊎ IsBehind xs k row) → (row.offset ≡ 0) ⊎ IsBehind (xs ++ ys) k row
    left (inl first) = inl first
    left (inr b) = inr (record { place = b.place; before = b.before; next = b.next; there = get-left xs ys b.place b.before b.there; same = b.same; multiple = b.multiple; behind = b.behind; least = b.least })

    right : length xs ≤ k → ((row.offset ≡ 0) ⊎ IsBehind ys (k - length xs) row) → (row.offset ≡ 0) ⊎ IsBehind (xs ++ ys) k row
    right past (inl first) = inl first
    right past (inr b) =
        let e = b.next in
        let place : k ≡ length xs + b.place + 1 = omega (arith, past, e) in
        inr (record { place = length xs + b.place; before = b.before; next = place; there = get-right xs ys b.place b.before b.there; same = b.same; multiple = b.multiple; behind = b.behind; least = b.least })

clients : {C : Type 0} (rows : ℕ → C → List QueueRow) (c : ℕ) (all : List C) → ((k : ℕ) (x : C) → Placing (rows k x)) → Placing (each_client rows c all)
clients rows c [] h = none
clients rows c (x ∷ rest) h = both (rows c x) (each_client rows (c + 1) rest) (h c x) (clients rows (c + 1) rest h)

class : {C : Type 0} (rows : C → List QueueRow) (o : Option C) → ((x : C) → Placing (rows x)) → Placing (option_map_or rows o [])
class rows None h = none
class rows (Some x) h = h x

-- two queues at the front
fronts : (x y : QueueRow) → x.offset ≡ 0 → y.offset ≡ 0 → Placing (x ∷ y ∷ [])
fronts x y one other zero row r at is = inl (ap (λ (q : QueueRow). q.offset) (sym (some-inj at)) ∙ one)
fronts x y one other (suc zero) row r at is = inl (ap (λ (q : QueueRow). q.offset) (sym (some-inj at)) ∙ other)
fronts x y one other (suc (suc k)) row r at is = cc

up_multiple : (n : ℕ) → IsMultiple (round_up n 64) 64
up_multiple n = ((n + (64 - 1)) / 64, refl)

up_behind : (n : ℕ) → n ≤ round_up n 64
up_behind n = omega arith

up_least : (n times : ℕ) → n ≤ times * 64 → round_up n 64 ≤ times * 64
up_least n times enough = omega (arith, enough)

behind : (x y : QueueRow) → x.offset ≡ 0 → x.region ≡ y.region → y.offset ≡ round_up (64 + entry_size x.kind * x.capacity) 64 → Placing (x ∷ y ∷ [])
behind x y front same span zero row r at is = inl (ap (λ (q : QueueRow). q.offset) (sym (some-inj at)) ∙ front)
behind x y front same span (suc zero) row r at is =
    let here : y ≡ row = some-inj at in
    inr (subst (IsBehind (x ∷ y ∷ []) 1) here (record {
      place = 0;
      before = x;
      next = refl;
      there = refl;
      same = same;
      multiple = let m = up_multiple (64 + entry_size x.kind * x.capacity) in (m.0, span ∙ m.1);
      behind = let b = up_behind (64 + entry_size x.kind * x.capacity) in omega (arith, front, span, b);
      least = λ other m past.
          let is = m.1 in
          let low : 64 + entry_size x.kind * x.capacity ≤ m.0 * 64 = omega (arith, is, past, front) in
          let l = up_least (64 + entry_size x.kind * x.capacity) m.0 low in
          omega (arith, is, span, l);
    }))
behind x y front same span (suc (suc k)) row r at is = cc

two_in : (plan : Plan) (first second : Option ℕ) (name other : List ℕ) (kind more : QueueKind) (a b c d : ActorId) (capacity size : ℕ)
    → Placing (queue_in plan first 0 name kind a b capacity ∷ queue_in plan second 0 other more c d size ∷ [])
unfolding queue_in
two_in plan first second name other kind more a b c d capacity size =
    fronts (queue_in plan first 0 name kind a b capacity) (queue_in plan second 0 other more c d size) refl refl

pair : (plan : Plan) (key first : List ℕ) (kind : QueueKind) (second : List ℕ) (back : QueueKind) (a b : ActorId) (capacity : ℕ) → Placing (queue_pair plan key first kind second back a b capacity)
unfolding queue_pair queue_in queue_span
pair plan key first kind second back a b capacity =
    behind (queue_in plan (region_named plan key) 0 first kind a b capacity) (queue_in plan (region_named plan key) (queue_span kind capacity) second back b a capacity) refl refl refl

net_client : (plan : Plan) (net : Net) (c : ℕ) (x : NetClient) → Placing (net_client_queues plan net c x)
unfolding net_client_queues lease_queues client_rx_queues client_tx_queues
net_client plan net c x =
    both (lease_queues plan net c x ++ client_rx_queues plan c x) (client_tx_queues plan net c x)
    (both (lease_queues plan net c x) (client_rx_queues plan c x) (pair plan _ _ _ _ _ _ _ _) (pair plan _ _ _ _ _ _ _ _)) (pair plan _ _ _ _ _ _ _ _)

net_stacked : (plan : Plan) (net : Net) → Placing (net_queues plan net)
unfolding net_queues eth_rx_queues eth_tx_queues net_rx_queues net_tx_queues
net_stacked plan net =
    both (eth_rx_queues plan net ++ eth_tx_queues plan net ++ net_rx_queues plan net ++ net_tx_queues plan net) (each_client (net_client_queues plan net) 0 net.client)
    (both (eth_rx_queues plan net ++ eth_tx_queues plan net ++ net_rx_queues plan net) (net_tx_queues plan net)
    (both (eth_rx_queues plan net ++ eth_tx_queues plan net) (net_rx_queues plan net)
    (both (eth_rx_queues plan net) (eth_tx_queues plan net) (two_in plan _ _ _ _ _ _ _ _ _ _ _ _) (two_in plan _ _ _ _ _ _ _ _ _ _ _ _)) (pair plan _ _ _ _ _ _ _ _)) (pair plan _ _ _ _ _ _ _ _))
    (clients (net_client_queues plan net) 0 net.client (net_client plan net))

serial_client : (plan : Plan) (serial : Serial) (c : ℕ) (x : SerialClient) → Placing (serial_client_queues plan serial c x)
unfolding serial_client_queues
serial_client plan serial c x = two_in plan _ _ _ _ _ _ _ _ _ _ _ _

serial_stacked : (plan : Plan) (serial : Serial) → Placing (serial_queues plan serial)
unfolding serial_queues uart_queues shared_serial_queues
serial_stacked plan serial =
    both (uart_queues plan serial ++ shared_serial_queues plan serial) (each_client (serial_client_queues plan serial) 0 serial.client)
    (both (uart_queues plan serial) (shared_serial_queues plan serial) (two_in plan _ _ _ _ _ _ _ _ _ _ _ _) (two_in plan _ _ _ _ _ _ _ _ _ _ _ _))
    (clients (serial_client_queues plan serial) 0 serial.client (serial_client plan serial))

blk_client : (plan : Plan) (blk : Blk) (c : ℕ) (x : BlkClient) → Placing (blk_client_queues plan blk c x)
unfolding blk_client_queues
blk_client plan blk c x = pair plan _ _ _ _ _ _ _ _

blk_stacked : (plan : Plan) (blk : Blk) → Placing (blk_queues plan blk)
unfolding blk_queues disk_queues shared_blk_queues
blk_stacked plan blk =
    both (disk_queues plan blk ++ shared_blk_queues plan blk) (each_client (blk_client_queues plan blk) 0 blk.client)
    (both (disk_queues plan blk) (shared_blk_queues plan blk) (two_in plan _ _ _ _ _ _ _ _ _ _ _ _) (pair plan _ _ _ _ _ _ _ _))
    (clients (blk_client_queues plan blk) 0 blk.client (blk_client plan blk))

stacked : (plan : Plan) → Placing (queues_of plan)
stacked plan =
    subst Placing (sym (queues_same plan)) (both (option_map_or (net_queues plan) plan.net [] ++ option_map_or (serial_queues plan) plan.serial []) (option_map_or (blk_queues plan) plan.blk [])
    (both (option_map_or (net_queues plan) plan.net []) (option_map_or (serial_queues plan) plan.serial []) (class (net_queues plan) plan.net (net_stacked plan))
    (class (serial_queues plan) plan.serial (serial_stacked plan))) (class (blk_queues plan) plan.blk (blk_stacked plan)))

abbrev start : Plan → ℕ → ℕ
start plan r = slice_index (bases_of plan.memory_region) r

-- what a queue takes at the front of its region
abbrev taken : Plan → ℕ → QueueRow → Range
taken plan r row = (start plan r + 0, start plan r + 0 + (64 + entry_size row.kind * row.capacity))

takes : (plan : Plan) (k r : ℕ) (row : QueueRow) → slice_get (queues_of plan) k ≡ Some row → row.region ≡ Some r → row.offset ≡ 0 → slice_get (ranges_of plan) k ≡ Some (Some (taken plan r row))
unfolding queue_range
takes plan k r row at is front =
    let range : queue_range plan row ≡ Some (taken plan r row) = rw (is, front) refl in
    get-left (map (queue_range plan) (queues_of plan)) (map pool_range (pools_of plan)) k (Some (taken plan r row))
    (slice_get-map (queue_range plan) (queues_of plan) k ∙ (ap (option_map (queue_range plan)) at ∙ ap Some range))

module _ (plan : Plan) (valid : Valid plan) (k : ℕ) (row : QueueRow) (r : ℕ) (at : slice_get (queues_of plan) k ≡ Some row) (is : row.region ≡ Some r) (front : row.offset ≡ 0) where
  -- no two queues stand at the front of one region
  not_both : (j : ℕ) (other : QueueRow) → j < k → slice_get (queues_of plan) j ≡ Some other → other.region ≡ Some r → other.offset ≡ 0 → ⊥
  not_both j other less there same first =
      rows_apart plan valid k
      (j, taken plan r other, taken plan r row, less, takes plan j r other there same first, takes plan k r row at is front, (start plan r, omega arith, omega arith, omega arith, omega arith))

  never : (j : ℕ) (other : QueueRow) → j < k → slice_get (queues_of plan) j ≡ Some other → other.region ≡ Some r → ⊥
  never zero other less there same =
      ⊎_elim (λ (first : other.offset ≡ 0). not_both zero other less there same first)
      (λ (b : IsBehind (queues_of plan) zero other). let e = b.next in let no : ⊥ = omega (arith, e) in no) (stacked plan zero other r there same)
  never (suc j) other less there same =
      ⊎_elim (λ (first : other.offset ≡ 0). not_both (suc j) other less there same first)
      (λ (b : IsBehind (queues_of plan) (suc j) other).
      let e = b.next in
      let place : b.place ≡ j = omega (arith, e) in
      never j b.before (omega (arith, less)) (subst (λ n. slice_get (queues_of plan) n ≡ Some b.before) place b.there) (b.same ∙ same)) (stacked plan (suc j) other r there same)

-- the queues of a valid plan
pub queues_stacked : (plan : Plan) → Valid plan → AreStacked (queues_of plan)
queues_stacked plan valid k row r at is =
    ⊎_elim (λ (front : row.offset ≡ 0). inl (front, never plan valid k row r at is front)) (λ (b : IsBehind (queues_of plan) k row). inr b) (stacked plan k row r at is)
