-- The ends at which an actor drops are those at which its part does.
use Rattle.std.proofs.Common.{◌≡◌, ◌==◌, ◌&&◌, ◌||◌, ◌⊎◌, ◌≢◌, ℕ, zero, suc, Bool, true, false, cond, Some, List, [], ◌∷◌, map, slice_get, refl, sym, ap, ◌∙◌, subst, arith, eq-eqb, inl, inr}
use Rattle.std.proofs.Math.Dec.{eqb}
use Rattle.std.proofs.lemmas.Bool.{eqb-true, ne_eqb}
use Rattle.std.proofs.lemmas.Bool.Decides.{eqb_tells}
use Rattle.wire_core.specs.declared.names.Side.TheVariants.{Backward}
use Rattle.wire_core.specs.Ends.{Role, Consumer, Producer}
use Rattle.turn_kit.specs.declared.ends.Outlet.{Outlet}
use Rattle.turn_kit.specs.Posts.{outlet_post}
use Rattle.turn_kit.specs.Turns.{Post}
use Rattle.turn_kit.specs.Dropping.{with_drops}
use Rattle.serial_virt.specs.Shares.{policy_at}
use Rattle.play_core.proofs.Lists.{some_is}
use Rattle.actor_set.specs.Parts.{Part, UartPart, DriverPart, RxPart, TxPart, ClientPart, NetworkPart, SendingPart, BlockPart, HostilePart}
use Rattle.play_core.specs.Wants.{intake}
use Rattle.net_law.specs.Parts.Parts.{NetPart, NetDevice, NetDriver, NetReceiver, NetCopier, NetClient}
use Rattle.actor_set.specs.Laws.Kinds.{dropping_ends, net_drop_seats, drop_seats, has_seat}
use Rattle.actor_set.proofs.LawsLemmas.PartEnds.{PartEnd}

-- the post of a client's end: it drops by the client's policy
pub record RxPost (ds : List Bool) (os : List Outlet) (k : ℕ) (p : Post) : Type 0 where
  pub end : Outlet
  pub there : slice_get os k ≡ Some end
  pub queue : p.queue ≡ end.queue.0
  pub side : p.side ≡ Backward
  pub drops : p.drops ≡ policy_at ds k

rx_posted : (ds : List Bool) (os : List Outlet) (k : ℕ) (o : Outlet) (q p : Post) → slice_get os k ≡ Some o → q.queue ≡ o.queue.0 → q.side ≡ Backward → q.drops ≡ policy_at ds k → Some q ≡ Some p → RxPost ds os k p
rx_posted ds os k o q p there queue side drops at = record {
  end = o;
  there = there;
  queue = ap (λ (z : Post). z.queue) (sym (some_is at)) ∙ queue;
  side = ap (λ (z : Post). z.side) (sym (some_is at)) ∙ side;
  drops = ap (λ (z : Post). z.drops) (sym (some_is at)) ∙ drops;
}

rx_further : (ds es : List Bool) (o : Outlet) (os : List Outlet) (k : ℕ) (p : Post) → policy_at es (suc k) ≡ policy_at ds k → RxPost ds os k p → RxPost es (o ∷ os) (suc k) p
rx_further ds es o os k p same r = record { end = r.end; there = r.there; queue = r.queue; side = r.side; drops = r.drops ∙ sym same }

pub rx_post : (ds : List Bool) (os : List Outlet) (k : ℕ) (p : Post) → slice_get (with_drops ds (map outlet_post os)) k ≡ Some p → RxPost ds os k p
rx_post [] [] k p at = cc
rx_post (d ∷ ds) [] k p at = cc
rx_post [] (o ∷ os) zero p at = rx_posted [] (o ∷ os) 0 o (outlet_post o) p refl refl refl refl at
rx_post [] (o ∷ os) (suc k) p at = rx_further [] [] o os k p refl (rx_post [] os k p at)
rx_post (d ∷ ds) (o ∷ os) zero p at = rx_posted (d ∷ ds) (o ∷ os) 0 o (record (outlet_post o) { drops = d }) p refl refl refl refl at
rx_post (d ∷ ds) (o ∷ os) (suc k) p at = rx_further ds (d ∷ ds) o os k p refl (rx_post ds os k p at)

-- each client's end has a post
abbrev pub HasRxPost : List Bool → List Outlet → ℕ → Outlet → Type 0
HasRxPost ds os k o = (p : Post) × (slice_get (with_drops ds (map outlet_post os)) k ≡ Some p) × (p.queue ≡ o.queue.0) × (p.side ≡ Backward)

pub rx_has : (ds : List Bool) (os : List Outlet) (k : ℕ) (o : Outlet) → slice_get os k ≡ Some o → HasRxPost ds os k o
rx_has ds [] k o at = cc
rx_has [] (x ∷ os) zero o at = (outlet_post x, refl, ap (λ (z : Outlet). z.queue.0) (some_is at), refl)
rx_has [] (x ∷ os) (suc k) o at = rx_has [] os k o at
rx_has (d ∷ ds) (x ∷ os) zero o at = (record (outlet_post x) { drops = d }, refl, ap (λ (z : Outlet). z.queue.0) (some_is at), refl)
rx_has (d ∷ ds) (x ∷ os) (suc k) o at = rx_has ds os k o at

or_no : (a b : Bool) → a ≡ false → (a || b) ≡ b
or_no true b h = cc
or_no false b h = refl

or_yes : (a b : Bool) → a ≡ true → (a || b) ≡ true
or_yes true b h = refl
or_yes false b h = cc

or_parts : (a b : Bool) → (a || b) ≡ true → (a ≡ true) ⊎ (b ≡ true)
or_parts true b h = inl refl
or_parts false b h = inr h

-- no consumer is among them
pub no_consumer : (qs : List ℕ) (ds : List Bool) (n : ℕ) → has_seat (dropping_ends qs ds) Consumer n ≡ false
no_consumer [] ds n = refl
no_consumer (q ∷ qs) [] n = refl
no_consumer (q ∷ qs) (true ∷ ds) n = no_consumer qs ds n
no_consumer (q ∷ qs) (false ∷ ds) n = no_consumer qs ds n

-- nor one that is no client's
none_there : (qs : List ℕ) (ds : List Bool) (n : ℕ) → ((j : ℕ) → slice_get qs j ≡ Some n → ⊥) → has_seat (dropping_ends qs ds) Producer n ≡ false
none_there [] ds n absent = refl
none_there (q ∷ qs) [] n absent = refl
none_there (q ∷ qs) (true ∷ ds) n absent = or_no (q == n) (has_seat (dropping_ends qs ds) Producer n) (by (eqb_tells q n)) ∙ none_there qs ds n (λ j at. absent (suc j) at)
  where
    by : ((eqb q n ≡ true) × (q ≡ n)) ⊎ ((eqb q n ≡ false) × (q ≢ n)) → eqb q n ≡ false
    by (inl t) = absurd (absent 0 (ap Some t.1))
    by (inr t) = t.0
none_there (q ∷ qs) (false ∷ ds) n absent = none_there qs ds n (λ j at. absent (suc j) at)

-- a client's is among them where its bytes may be dropped
pub client_there : (qs : List ℕ) (ds : List Bool) (k n : ℕ) → slice_get qs k ≡ Some n → ((j : ℕ) → slice_get qs j ≡ Some n → j ≡ k) → has_seat (dropping_ends qs ds) Producer n ≡ policy_at ds k
client_there [] ds k n at once = cc
client_there (q ∷ qs) [] zero n at once = refl
client_there (q ∷ qs) [] (suc k) n at once = refl
client_there (q ∷ qs) (true ∷ ds) zero n at once = or_yes (q == n) (has_seat (dropping_ends qs ds) Producer n) (by (eqb_tells q n))
  where
    by : ((eqb q n ≡ true) × (q ≡ n)) ⊎ ((eqb q n ≡ false) × (q ≢ n)) → eqb q n ≡ true
    by (inl t) = t.0
    by (inr t) = absurd (t.1 (some_is at))
client_there (q ∷ qs) (false ∷ ds) zero n at once = none_there qs ds n (λ j there. let no : suc j ≡ 0 = once (suc j) there in cc)
client_there (q ∷ qs) (true ∷ ds) (suc k) n at once = or_no (q == n) (has_seat (dropping_ends qs ds) Producer n) (by (eqb_tells q n)) ∙ client_there qs ds k n at (λ j there. let e : suc j ≡ suc k = once (suc j) there in omega (arith, e))
  where
    by : ((eqb q n ≡ true) × (q ≡ n)) ⊎ ((eqb q n ≡ false) × (q ≢ n)) → eqb q n ≡ false
    by (inl t) = let no : 0 ≡ suc k = once 0 (ap Some t.1) in cc
    by (inr t) = t.0
client_there (q ∷ qs) (false ∷ ds) (suc k) n at once = client_there qs ds k n at (λ j there. let e : suc j ≡ suc k = once (suc j) there in omega (arith, e))

-- each of them is a client's
abbrev IsClients : List ℕ → ℕ → Type 0
IsClients qs n = (k : ℕ) × (slice_get qs k ≡ Some n)

is_clients : (qs : List ℕ) (ds : List Bool) (n : ℕ) → has_seat (dropping_ends qs ds) Producer n ≡ true → IsClients qs n
is_clients [] ds n h = cc
is_clients (q ∷ qs) [] n h = cc
is_clients (q ∷ qs) (true ∷ ds) n h = elim (or_parts (q == n) (has_seat (dropping_ends qs ds) Producer n) h) [
  | inl e ↦ (0, ap Some (eqb-true q n e))
  | inr e ↦ let c = is_clients qs ds n e in (suc c.0, c.1)
]
is_clients (q ∷ qs) (false ∷ ds) n h = let c = is_clients qs ds n h in (suc c.0, c.1)

-- one end, or none, at which a buffer is looked for
pub seat_here : (b : Bool) (n : ℕ) → b ≡ has_seat (cond b (intake n ∷ []) []) Consumer n
seat_here true n = sym (ap (λ x. (true && x) || false) (eq-eqb n n refl))
seat_here false n = refl

pub no_outlet : (b : Bool) (n q : ℕ) → false ≡ has_seat (cond b (intake n ∷ []) []) Producer q
no_outlet true n q = refl
no_outlet false n q = refl

pub other_intake : (b : Bool) (n q : ℕ) → (n ≡ q → ⊥) → false ≡ has_seat (cond b (intake n ∷ []) []) Consumer q
other_intake true n q apart = sym (ap (λ x. (true && x) || false) (ne_eqb n q apart))
other_intake false n q apart = refl

-- it is a consumer's
is_intake : (b : Bool) (m : ℕ) (r : Role) (n : ℕ) → has_seat (cond b (intake m ∷ []) []) r n ≡ true → (r ≡ Consumer) × (n ≡ m)
is_intake true m Consumer n h = elim (or_parts (m == n) false h) [
  | inl e ↦ (refl, sym (eqb-true m n e))
  | inr e ↦ cc
]
is_intake true m Producer n h = cc
is_intake false m r n h = cc

net_drop_end : (p : NetPart) (r : Role) (n : ℕ) → has_seat (net_drop_seats p) r n ≡ true → PartEnd (NetworkPart p) r n
net_drop_end (NetDevice rx_free rx_active tx_active tx_free frames drops) r n h =
    let s = is_intake drops rx_free r n h in
    subst (λ z. PartEnd (NetworkPart (NetDevice rx_free rx_active tx_active tx_free frames drops)) z n) (sym s.0) (subst (PartEnd (NetworkPart (NetDevice rx_free rx_active tx_active tx_free frames drops)) Consumer) (sym s.1) (0, refl))
net_drop_end (NetCopier lease_active lease_free rx_active rx_free drops) r n h =
    let s = is_intake drops rx_free r n h in
    subst (λ z. PartEnd (NetworkPart (NetCopier lease_active lease_free rx_active rx_free drops)) z n) (sym s.0) (subst (PartEnd (NetworkPart (NetCopier lease_active lease_free rx_active rx_free drops)) Consumer) (sym s.1) (1, refl))
net_drop_end (NetDriver ways) r n h = cc
net_drop_end (NetReceiver active free pool clients) r n h = cc
net_drop_end (NetClient program mac rx_active rx_free tx_active tx_free rx tx) r n h = cc

-- where a part drops it has an end
pub drop_end : (p : Part) (r : Role) (n : ℕ) → has_seat (drop_seats p) r n ≡ true → PartEnd p r n
drop_end (RxPart rx clients drops) Consumer n h = let no : true ≡ false = sym h ∙ no_consumer clients drops n in cc
drop_end (RxPart rx clients drops) Producer n h = is_clients clients drops n h
drop_end (UartPart rx tx input) r n h = cc
drop_end (DriverPart device_rx device_tx rx tx) r n h = cc
drop_end (TxPart tx clients) r n h = cc
drop_end (ClientPart rx tx script) r n h = cc
drop_end (NetworkPart p) r n h = net_drop_end p r n h
drop_end (SendingPart p) r n h = cc
drop_end (BlockPart p) r n h = cc
drop_end (HostilePart p) r n h = cc
