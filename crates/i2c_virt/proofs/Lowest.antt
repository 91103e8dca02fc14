-- The end that is stepped where some end isn't settled: the lowest of these.
use Rattle.std.proofs.Common.{◌≡◌, ◌+◌, ◌<◌, ◌&&◌, ◌^◌, ℕ, zero, suc, Bool, true, false, not, cond, nat_lt, Option, Some, None, is_none, is_some, List, [], ◌∷◌, ◌++◌, length, slice_get, slice_set, slice_index_or, refl, sym, ap, ◌∙◌, subst, add-zero, zero-add, arith}
use Rattle.std.proofs.lemmas.List.{length-map, length-append}
use Rattle.std.proofs.lemmas.Option.{slice_get-get_or}
use Rattle.wire_core.specs.declared.names.Event.{Event}
use Rattle.wire_core.specs.declared.names.QueueId.{QueueId}
use Rattle.turn_kit.specs.Table.{is_settled}
use Rattle.turn_kit.specs.Turns.{Post, PostedAt, Choosing, choice_with, choice_of, choosing, offered_from, settled_all, is_at_rest, lower_if, unsettled_from}
use Rattle.turn_kit.specs.ManyEnds.{intake_posts, outlet_posts, needs_from}
use Rattle.turn_kit.specs.Posts.{intake_post, outlet_post}
use Rattle.turn_kit.specs.declared.turns.Stand.{Stand}
use Rattle.turn_kit.specs.declared.end_state.EndState.{EndState}
use Rattle.turn_kit.specs.declared.ends.Intake.{Intake}
use Rattle.turn_kit.specs.declared.ends.Outlet.{Outlet}
use Rattle.turn_kit.proofs.Offers.{get_need, get_map}
use Rattle.buffer_kit.specs.declared.virt_ends.VirtEnd.{VirtEnd}
use Rattle.buffer_kit.specs.declared.virt_ends.VirtEnd.TheVariants as At
use Rattle.buffer_kit.specs.declared.virt_ends.VirtEnds.{VirtEnds}
use Rattle.buffer_kit.specs.Virtualising.{SameVirt, IsNewVirt, IsThere, new_intake, new_outlet, from_queues, to_queues, virt_posts, virt_needs, virt_round, place_of, need_of}
use Rattle.buffer_kit.proofs.ManyClients.{some_eq}
use Rattle.buffer_kit.proofs.TwoLists.{needs_length, needs_same, get_front, get_behind}
use Rattle.buffer_kit.proofs.VirtTurns.{two_on}
use Rattle.i2c_virt.specs.declared.virtualiser.I2cVirt.{I2cVirt}
use Rattle.i2c_virt.specs.declared.work.Work.{Work}
use Rattle.i2c_virt.specs.Works.{WorkIsStill, is_owing, wants_at, gives_at}
use Rattle.i2c_virt.specs.Virtualising.{i2c_virt_round, lowest_of}

-- there are as many ends of the clients as queues
pub from_long : (v : VirtEnds) → length (intake_posts v.from_clients) ≡ length (from_queues v)
from_long v =
    let a = length-map v.from_clients.ends.items intake_post in
    let b = length-map v.from_clients.ends.items (λ (i : Intake). i.queue) in
    omega (arith, a, b)

pub to_long : (v : VirtEnds) → length (outlet_posts v.to_clients) ≡ length (to_queues v)
to_long v =
    let a = length-map v.to_clients.ends.items outlet_post in
    let b = length-map v.to_clients.ends.items (λ (o : Outlet). o.queue) in
    omega (arith, a, b)

-- an end below the number of all ends
pub within_ends : (v : VirtEnds) (place : ℕ) → place < length (virt_posts v) → place < 2 + length (from_queues v) + length (to_queues v)
within_ends v place lt =
    let a = from_long v in
    let b = to_long v in
    let all = length-append (intake_posts v.from_clients) (outlet_posts v.to_clients) in
    omega (arith, lt, a, b, all)

-- one list is looked at after the other
unsettled_append : (x : Option Stand) (place : ℕ) (ps qs : List Post) (ns ms : List Bool) → length ns ≡ length ps → unsettled_from x place (ps ++ qs) (ns ++ ms) ≡ unsettled_from (unsettled_from x place ps ns) (place + length ps) qs ms
unsettled_append x place [] qs [] ms e = ap (λ n. unsettled_from x n qs ms) (sym (add-zero place))
unsettled_append x place [] qs (n ∷ ns) ms e = absurd (omega (arith, e))
unsettled_append x place (p ∷ ps) qs [] ms e = absurd (omega (arith, e))
unsettled_append x place (p ∷ ps) qs (n ∷ ns) ms e =
    let now : Option Stand = lower_if (not (is_settled p.state n)) x (record { queue = p.queue; place = place }) in
    let on : place + 1 + length ps ≡ place + length (p ∷ ps) = omega arith in
    unsettled_append now (place + 1) ps qs ns ms (omega (arith, e)) ∙ ap (λ k. unsettled_from (unsettled_from now (place + 1) ps ns) k qs ms) on

-- all ends were looked at, in their order
pub all_looked : (v : VirtEnds) (need owed a b : Bool) (needs loads : ℕ → Bool) (n : ℕ) (x0 x1 x2 x3 x4 : Option Stand) → n ≡ length (from_queues v) → a ≡ is_settled v.input.state need → b ≡ is_settled v.output.state owed → x0 ≡ None
    → x1 ≡ lower_if (not a) x0 (record { queue = v.input.queue.0; place = 0 }) → x2 ≡ lower_if (not b) x1 (record { queue = v.output.queue.0; place = 1 })
    → x3 ≡ unsettled_from x2 2 (intake_posts v.from_clients) (needs_from needs 0 (from_queues v)) → x4 ≡ unsettled_from x3 (2 + n) (outlet_posts v.to_clients) (needs_from loads 0 (to_queues v)) → x4 ≡ unsettled_from None 0 (virt_posts v) (virt_needs v need owed needs loads)
all_looked v need owed a b needs loads n x0 x1 x2 x3 x4 many sa sb h0 h1 h2 h3 h4 =
    let one = from_long v in
    let ns = needs_length needs 0 (from_queues v) in
    let as_many : length (needs_from needs 0 (from_queues v)) ≡ length (intake_posts v.from_clients) = omega (arith, one, ns) in
    let behind : 2 + n ≡ 2 + length (intake_posts v.from_clients) = omega (arith, one, many) in
    let first : Option Stand = lower_if (not (is_settled v.input.state need)) None (record { queue = v.input.queue.0; place = 0 }) in
    let second : Option Stand = lower_if (not (is_settled v.output.state owed)) first (record { queue = v.output.queue.0; place = 1 }) in
    let e1 : x1 ≡ first = h1 ∙ (ap (λ y. lower_if (not y) x0 (record { queue = v.input.queue.0; place = 0 })) sa ∙ ap (λ o. lower_if (not (is_settled v.input.state need)) o (record { queue = v.input.queue.0; place = 0 })) h0) in
    let e2 : x2 ≡ second = h2 ∙ (ap (λ y. lower_if (not y) x1 (record { queue = v.output.queue.0; place = 1 })) sb ∙ ap (λ o. lower_if (not (is_settled v.output.state owed)) o (record { queue = v.output.queue.0; place = 1 })) e1) in
    h4 ∙ (ap (λ k. unsettled_from x3 k (outlet_posts v.to_clients) (needs_from loads 0 (to_queues v))) behind
    ∙ (ap (λ o. unsettled_from o (2 + length (intake_posts v.from_clients)) (outlet_posts v.to_clients) (needs_from loads 0 (to_queues v))) (h3 ∙ ap (λ o. unsettled_from o 2 (intake_posts v.from_clients) (needs_from needs 0 (from_queues v))) e2)
    ∙ sym (unsettled_append second 2 (intake_posts v.from_clients) (outlet_posts v.to_clients) (needs_from needs 0 (from_queues v)) (needs_from loads 0 (to_queues v)) as_many)))

-- new ends are few where their queues are
pub few_new_from : (input output : QueueId) (froms tos : List QueueId) (v : VirtEnds) → IsNewVirt input output froms tos v → length froms < 2 ^ 16 → length (from_queues v) < 2 ^ 32
few_new_from input output froms tos v n few =
    let a = length-map v.from_clients.ends.items (λ (i : Intake). i.queue) in
    let b = ap length n.from_is in
    let c = length-map froms new_intake in
    omega (arith, few, a, b, c)

pub few_new_to : (input output : QueueId) (froms tos : List QueueId) (v : VirtEnds) → IsNewVirt input output froms tos v → length tos < 2 ^ 16 → length (to_queues v) < 2 ^ 32
few_new_to input output froms tos v n few =
    let a = length-map v.to_clients.ends.items (λ (o : Outlet). o.queue) in
    let b = ap length n.to_is in
    let c = length-map tos new_outlet in
    omega (arith, few, a, b, c)

-- where one was found, none is lost
lower_some : (b : Bool) (s y : Stand) → (t : Stand) × (lower_if b (Some s) y ≡ Some t)
lower_some true s y = (cond (nat_lt y.queue s.queue) y s, refl)
lower_some false s y = (s, refl)

some_kept : (s : Stand) (place : ℕ) (ps : List Post) (ns : List Bool) → is_none (unsettled_from (Some s) place ps ns) ≡ false
some_kept s place [] ns = refl
some_kept s place (p ∷ ps) [] = refl
some_kept s place (p ∷ ps) (n ∷ ns) =
    let t = lower_some (not (is_settled p.state n)) s (record { queue = p.queue; place = place }) in
    ap (λ o. is_none (unsettled_from o (place + 1) ps ns)) t.1 ∙ some_kept t.0 (place + 1) ps ns

rest_step : (b : Bool) (place : ℕ) (y : Stand) (ps : List Post) (ns : List Bool) → settled_all ps ns ≡ is_none (unsettled_from None place ps ns) → (b && settled_all ps ns) ≡ is_none (unsettled_from (lower_if (not b) None y) place ps ns)
rest_step true place y ps ns h = h
rest_step false place y ps ns h = sym (some_kept y place ps ns)

pub none_by : {X : Type 0} (o : Option X) (b : Bool) → is_some o ≡ not b → b ≡ is_none o
none_by None true h = refl
none_by None false h = cc
none_by (Some x) true h = cc
none_by (Some x) false h = refl

-- all ends are settled exactly where none is found that isn't
pub rest_is : (place : ℕ) (ps : List Post) (ns : List Bool) → settled_all ps ns ≡ is_none (unsettled_from None place ps ns)
rest_is place [] ns = refl
rest_is place (p ∷ ps) [] = refl
rest_is place (p ∷ ps) (n ∷ ns) = rest_step (is_settled p.state n) (place + 1) (record { queue = p.queue; place = place }) ps ns (rest_is (place + 1) ps ns)

-- the lowest stays where an end that moves stays settled, or not settled
unsettled_set : (x : Option Stand) (place : ℕ) (ps : List Post) (ns : List Bool) (k : ℕ) (p q : Post) (n : Bool) → slice_get ps k ≡ Some p → slice_get ns k ≡ Some n → q.queue ≡ p.queue → is_settled q.state n ≡ is_settled p.state n → unsettled_from x place (slice_set ps k q) ns ≡ unsettled_from x place ps ns
unsettled_set x place [] ns k p q n at need e s = cc
unsettled_set x place (r ∷ ps) [] k p q n at need e s = cc
unsettled_set x place (r ∷ ps) (m ∷ ns) zero p q n at need e s =
    let rp : r ≡ p = some_eq at in
    let mn : m ≡ n = some_eq need in
    let same : is_settled q.state m ≡ is_settled r.state m = ap (is_settled q.state) mn ∙ (s ∙ (ap (λ (z : Post). is_settled z.state n) (sym rp) ∙ ap (is_settled r.state) (sym mn))) in
    let queue : q.queue ≡ r.queue = e ∙ ap (λ (z : Post). z.queue) (sym rp) in
    ap (λ b. unsettled_from (lower_if (not b) x (record { queue = q.queue; place = place })) (place + 1) ps ns) same
    ∙ ap (λ u. unsettled_from (lower_if (not (is_settled r.state m)) x (record { queue = u; place = place })) (place + 1) ps ns) queue
unsettled_set x place (r ∷ ps) (m ∷ ns) (suc k) p q n at need e s = unsettled_set (lower_if (not (is_settled r.state m)) x (record { queue = r.queue; place = place })) (place + 1) ps ns k p q n at need e s

-- what is needed or loaded stays
pub needs_still : (v w : I2cVirt) → SameVirt v.ends w.ends → WorkIsStill v.work w.work → (i2c_virt_round w).needs ≡ (i2c_virt_round v).needs
needs_still v w same h =
    let fs = from_queues w.ends in
    let ts = to_queues w.ends in
    ap (λ b. b ∷ is_owing w.work ∷ (needs_from (wants_at w.work) 0 fs ++ needs_from (gives_at w.work) 0 ts)) h.free
    ∙ (ap (λ b. is_none v.work.stray ∷ b ∷ (needs_from (wants_at w.work) 0 fs ++ needs_from (gives_at w.work) 0 ts)) h.owing
    ∙ (ap (λ l. is_none v.work.stray ∷ is_owing v.work ∷ (l ++ needs_from (gives_at w.work) 0 ts)) (needs_same (wants_at v.work) (wants_at w.work) 0 fs h.wants ∙ ap (needs_from (wants_at v.work) 0) same.from_clients)
    ∙ ap (λ l. is_none v.work.stray ∷ is_owing v.work ∷ (needs_from (wants_at v.work) 0 (from_queues v.ends) ++ l)) (needs_same (gives_at v.work) (gives_at w.work) 0 ts h.gives ∙ ap (needs_from (gives_at v.work) 0) same.to_clients)))

two_past : (n k : ℕ) → 2 + n + k ≡ suc (suc (n + k))
two_past n k = omega arith

no_queue : QueueId
no_queue = record { 0 = 0 }

-- an end that is there has its need
pub need_there : (v : VirtEnds) (need owed : Bool) (needs loads : ℕ → Bool) (at : VirtEnd) → IsThere v at → slice_get (virt_needs v need owed needs loads) (place_of v at) ≡ Some (need_of need owed needs loads at)
need_there v need owed needs loads At.Input there = refl
need_there v need owed needs loads At.Output there = refl
need_there v need owed needs loads (At.FromClient k) there =
    ap (slice_get (virt_needs v need owed needs loads)) (two_on k) ∙ get_front (needs_from needs 0 (from_queues v)) (needs_from loads 0 (to_queues v)) k (needs k)
    (get_need needs 0 (from_queues v) k (slice_index_or (from_queues v) k no_queue) (slice_get-get_or (from_queues v) k no_queue there) ∙ ap (λ n. Some (needs n)) (zero-add k))
need_there v need owed needs loads (At.ToClient k) there =
    let long = needs_length needs 0 (from_queues v) in
    ap (slice_get (virt_needs v need owed needs loads)) (two_past (length (from_queues v)) k)
    ∙ (ap (λ n. slice_get (needs_from needs 0 (from_queues v) ++ needs_from loads 0 (to_queues v)) (n + k)) (sym long) ∙ (get_behind (needs_from needs 0 (from_queues v)) (needs_from loads 0 (to_queues v)) k
    ∙ (get_need loads 0 (to_queues v) k (slice_index_or (to_queues v) k no_queue) (slice_get-get_or (to_queues v) k no_queue there) ∙ ap (λ n. Some (loads n)) (zero-add k))))

-- what stands at the place of a client's end

pub from_post : (v : VirtEnds) (k : ℕ) (i : Intake) (p : Post) → slice_get v.from_clients.ends.items k ≡ Some i → slice_get (virt_posts v) (2 + k) ≡ Some p → intake_post i ≡ p
from_post v k i p at h = some_eq (sym (ap (slice_get (virt_posts v)) (two_on k) ∙ get_front (intake_posts v.from_clients) (outlet_posts v.to_clients) k (intake_post i) (get_map intake_post v.from_clients.ends.items k i at)) ∙ h)

pub to_post : (v : VirtEnds) (k : ℕ) (o : Outlet) (p : Post) → slice_get v.to_clients.ends.items k ≡ Some o → slice_get (virt_posts v) (2 + length (from_queues v) + k) ≡ Some p → outlet_post o ≡ p
to_post v k o p at h =
    let long = from_long v in
    some_eq (sym (ap (slice_get (virt_posts v)) (two_past (length (from_queues v)) k) ∙ (ap (λ n. slice_get (intake_posts v.from_clients ++ outlet_posts v.to_clients) (n + k)) (sym long) ∙ (get_behind (intake_posts v.from_clients) (outlet_posts v.to_clients) k ∙ get_map outlet_post v.to_clients.ends.items k o at))) ∙ h)

-- it is one of theirs

pub from_there : (v : VirtEnds) (at : VirtEnd) (k : ℕ) → at ≡ At.FromClient k → IsThere v at → k < length v.from_clients.ends.items
from_there v at k is there =
    let lt : k < length (from_queues v) = subst (λ (a : VirtEnd). IsThere v a) is there in
    let long = length-map v.from_clients.ends.items (λ (i : Intake). i.queue) in
    omega (arith, lt, long)

pub to_there : (v : VirtEnds) (at : VirtEnd) (k : ℕ) → at ≡ At.ToClient k → IsThere v at → k < length v.to_clients.ends.items
to_there v at k is there =
    let lt : k < length (to_queues v) = subst (λ (a : VirtEnd). IsThere v a) is there in
    let long = length-map v.to_clients.ends.items (λ (o : Outlet). o.queue) in
    omega (arith, lt, long)

-- whether it is settled

abbrev pub IsSettledAt : I2cVirt → VirtEnd → Bool → Type 0
IsSettledAt v at b = (p : Post) → slice_get (virt_posts v.ends) (place_of v.ends at) ≡ Some p → b ≡ is_settled p.state (need_of (is_none v.work.stray) (is_owing v.work) (wants_at v.work) (gives_at v.work) at)

pub from_settled : (v : I2cVirt) (at : VirtEnd) (k : ℕ) (i : Intake) (b w : Bool) → at ≡ At.FromClient k → slice_get v.ends.from_clients.ends.items k ≡ Some i → w ≡ wants_at v.work k → b ≡ is_settled i.state w → IsSettledAt v at b
from_settled v at k i b w is there wants settled = subst (λ (a : VirtEnd). IsSettledAt v a b) (sym is) (λ p h. settled ∙ (ap (λ (q : Post). is_settled q.state w) (from_post v.ends k i p there h) ∙ ap (is_settled p.state) wants))

pub to_settled : (v : I2cVirt) (at : VirtEnd) (k : ℕ) (o : Outlet) (b g : Bool) → at ≡ At.ToClient k → slice_get v.ends.to_clients.ends.items k ≡ Some o → g ≡ gives_at v.work k → b ≡ is_settled o.state g → IsSettledAt v at b
to_settled v at k o b g is there gives settled = subst (λ (a : VirtEnd). IsSettledAt v a b) (sym is) (λ p h. settled ∙ (ap (λ (q : Post). is_settled q.state g) (to_post v.ends k o p there h) ∙ ap (is_settled p.state) gives))

-- where a client's end stands, and what is needed there, is the same
pub same_place : (v w : VirtEnds) → SameVirt v w → (at : VirtEnd) → place_of w at ≡ place_of v at
same_place v w same At.Input = refl
same_place v w same At.Output = refl
same_place v w same (At.FromClient k) = refl
same_place v w same (At.ToClient k) = ap (λ (qs : List QueueId). 2 + length qs + k) same.from_clients

pub same_need : (v w : Work) → WorkIsStill v w → (at : VirtEnd) → need_of (is_none w.stray) (is_owing w) (wants_at w) (gives_at w) at ≡ need_of (is_none v.stray) (is_owing v) (wants_at v) (gives_at v) at
same_need v w h At.Input = h.free
same_need v w h At.Output = h.owing
same_need v w h (At.FromClient k) = h.wants k
same_need v w h (At.ToClient k) = h.gives k

set_there : (ps : List Post) (k : ℕ) (p q : Post) → slice_get ps k ≡ Some p → slice_get (slice_set ps k q) k ≡ Some q
set_there [] k p q at = cc
set_there (r ∷ ps) zero p q at = refl
set_there (r ∷ ps) (suc k) p q at = set_there ps k p q at

module _ (v w : I2cVirt) (same : SameVirt v.ends w.ends) (still : WorkIsStill v.work w.work) (at : VirtEnd) (there : IsThere v.ends at) (e : Event) where
  abbrev need : I2cVirt → Bool
  need x = need_of (is_none x.work.stray) (is_owing x.work) (wants_at x.work) (gives_at x.work) at

  -- a step that changes neither what is needed nor whether its end is settled leaves the lowest
  pub lowest_kept : (was : Bool) → PostedAt (virt_posts v.ends) (place_of v.ends at) (need v) e (virt_posts w.ends)
      → ((p : Post) → slice_get (virt_posts v.ends) (place_of v.ends at) ≡ Some p → was ≡ is_settled p.state (need v))
      → ((p : Post) → slice_get (virt_posts w.ends) (place_of w.ends at) ≡ Some p → was ≡ is_settled p.state (need w)) → lowest_of w ≡ lowest_of v
  lowest_kept was t before after =
      let k = place_of v.ends at in
      let now : slice_get (virt_posts w.ends) (place_of w.ends at) ≡ Some t.moved = ap (slice_get (virt_posts w.ends)) (same_place v.ends w.ends same at) ∙ (ap (λ ps. slice_get ps k) t.after ∙ set_there (virt_posts v.ends) k t.post t.moved t.there) in
      let settled : is_settled t.moved.state (need v) ≡ is_settled t.post.state (need v) = ap (is_settled t.moved.state) (sym (same_need v.work w.work still at)) ∙ (sym (after t.moved now) ∙ before t.post t.there) in
      ap (λ ns. unsettled_from None 0 (virt_posts w.ends) ns) (needs_still v w same still)
      ∙ (ap (λ ps. unsettled_from None 0 ps (i2c_virt_round v).needs) t.after
      ∙ unsettled_set None 0 (virt_posts v.ends) (i2c_virt_round v).needs k t.post t.moved (need v) t.there (need_there v.ends (is_none v.work.stray) (is_owing v.work) (wants_at v.work) (gives_at v.work) at there) (ap (λ (p : Post). p.queue) t.posted.after) settled)

-- where all are settled, what is needed doesn't matter

abbrev are_false : List Bool → Type 0
are_false [] = Unit {0}
are_false (b ∷ bs) = (b ≡ false) × are_false bs

idle : (a b : Bool) → (a && b) ≡ true → (a && true) ≡ true
idle true b h = refl
idle false b h = h

both : (a b : Bool) → (a && b) ≡ true → (a ≡ true) × (b ≡ true)
both true b h = (refl, h)
both false b h = cc

settled_idle : (s : EndState) (n m : Bool) → m ≡ false → is_settled s n ≡ true → is_settled s m ≡ true
settled_idle s n m e h = ap (is_settled s) e ∙ idle _ _ h

offered_rest : (c : Choosing) (place : ℕ) (ps : List Post) (ns ms : List Bool) → length ns ≡ length ms → are_false ms → settled_all ps ns ≡ true → offered_from c place ps ms ≡ offered_from c place ps ns
offered_rest c place [] ns ms e f h = refl
offered_rest c place (p ∷ ps) [] [] e f h = refl
offered_rest c place (p ∷ ps) [] (m ∷ ms) e f h = absurd (omega (arith, e))
offered_rest c place (p ∷ ps) (n ∷ ns) [] e f h = absurd (omega (arith, e))
offered_rest c place (p ∷ ps) (n ∷ ns) (m ∷ ms) e f h =
    let b = both (is_settled p.state n) (settled_all ps ns) h in
    ap (λ s. offered_from (choice_with c (record { queue = p.queue; place = place }) s) (place + 1) ps ms) (settled_idle p.state n m f.0 b.0 ∙ sym b.0)
    ∙ offered_rest (choice_with c (record { queue = p.queue; place = place }) (is_settled p.state n)) (place + 1) ps ns ms (omega (arith, e)) f.1 b.1

false_needs : (place : ℕ) (qs : List QueueId) → are_false (needs_from (λ k. false) place qs)
false_needs place [] = tt
false_needs place (q ∷ qs) = (refl, false_needs (place + 1) qs)

false_append : (bs cs : List Bool) → are_false bs → are_false cs → are_false (bs ++ cs)
false_append [] cs f g = g
false_append (b ∷ bs) cs f g = (f.0, false_append bs cs f.1 g)

pub choice_rest : (v : I2cVirt) → is_at_rest (i2c_virt_round v) ≡ true → choice_of (virt_round v.ends false false (λ k. false) (λ k. false)) ≡ choice_of (i2c_virt_round v)
choice_rest v h =
    let fs = from_queues v.ends in
    let ts = to_queues v.ends in
    let a = needs_length (wants_at v.work) 0 fs in
    let b = needs_length (gives_at v.work) 0 ts in
    let c = needs_length (λ k. false) 0 fs in
    let d = needs_length (λ k. false) 0 ts in
    let one = length-append (needs_from (wants_at v.work) 0 fs) (needs_from (gives_at v.work) 0 ts) in
    let two = length-append (needs_from (λ k. false) 0 fs) (needs_from (λ k. false) 0 ts) in
    offered_rest (choosing (length (virt_posts v.ends)) v.ends.turn.last) 0 (virt_posts v.ends) (i2c_virt_round v).needs (virt_needs v.ends false false (λ k. false) (λ k. false)) (omega (arith, a, b, c, d, one, two))
    (refl, (refl, false_append (needs_from (λ k. false) 0 fs) (needs_from (λ k. false) 0 ts) (false_needs 0 fs) (false_needs 0 ts))) h

-- where all are settled, the lowest is the end that was woken, unless it is settled still
unsettled_rest : (x : Option Stand) (place : ℕ) (ps : List Post) (ns : List Bool) → settled_all ps ns ≡ true → unsettled_from x place ps ns ≡ x
unsettled_rest x place [] ns h = refl
unsettled_rest x place (r ∷ ps) [] h = refl
unsettled_rest x place (r ∷ ps) (m ∷ ns) h =
    let b = both (is_settled r.state m) (settled_all ps ns) h in
    ap (λ y. unsettled_from (lower_if (not y) x (record { queue = r.queue; place = place })) (place + 1) ps ns) b.0 ∙ unsettled_rest x (place + 1) ps ns b.1

pub unsettled_woken : (x : Option Stand) (place : ℕ) (ps : List Post) (ns : List Bool) (k : ℕ) (p q : Post) (n : Bool) → settled_all ps ns ≡ true → slice_get ps k ≡ Some p → slice_get ns k ≡ Some n
    → unsettled_from x place (slice_set ps k q) ns ≡ lower_if (not (is_settled q.state n)) x (record { queue = q.queue; place = place + k })
unsettled_woken x place [] ns k p q n h at need = cc
unsettled_woken x place (r ∷ ps) [] k p q n h at need = cc
unsettled_woken x place (r ∷ ps) (m ∷ ns) zero p q n h at need =
    let b = both (is_settled r.state m) (settled_all ps ns) h in
    unsettled_rest (lower_if (not (is_settled q.state m)) x (record { queue = q.queue; place = place })) (place + 1) ps ns b.1
    ∙ (ap (λ o. lower_if (not (is_settled q.state o)) x (record { queue = q.queue; place = place })) (some_eq need)
    ∙ ap (λ j. lower_if (not (is_settled q.state n)) x (record { queue = q.queue; place = j })) (sym (add-zero place)))
unsettled_woken x place (r ∷ ps) (m ∷ ns) (suc k) p q n h at need =
    let b = both (is_settled r.state m) (settled_all ps ns) h in
    ap (λ y. unsettled_from (lower_if (not y) x (record { queue = r.queue; place = place })) (place + 1) (slice_set ps k q) ns) b.0
    ∙ (unsettled_woken x (place + 1) ps ns k p q n b.1 at need
    ∙ ap (λ j. lower_if (not (is_settled q.state n)) x (record { queue = q.queue; place = j })) (omega arith))

-- the queue of a client's end

abbrev pub IsQueueAt : I2cVirt → VirtEnd → ℕ → Type 0
IsQueueAt v at q = (p : Post) → slice_get (virt_posts v.ends) (place_of v.ends at) ≡ Some p → q ≡ p.queue

pub from_queue : (v : I2cVirt) (at : VirtEnd) (k : ℕ) (i : Intake) → at ≡ At.FromClient k → slice_get v.ends.from_clients.ends.items k ≡ Some i → IsQueueAt v at i.queue.0
from_queue v at k i is there = subst (λ (a : VirtEnd). IsQueueAt v a i.queue.0) (sym is) (λ p h. ap (λ (q : Post). q.queue) (from_post v.ends k i p there h))

pub to_queue : (v : I2cVirt) (at : VirtEnd) (k : ℕ) (o : Outlet) → at ≡ At.ToClient k → slice_get v.ends.to_clients.ends.items k ≡ Some o → IsQueueAt v at o.queue.0
to_queue v at k o is there = subst (λ (a : VirtEnd). IsQueueAt v a o.queue.0) (sym is) (λ p h. ap (λ (q : Post). q.queue) (to_post v.ends k o p there h))
