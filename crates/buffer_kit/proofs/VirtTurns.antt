-- The turns of a virtualiser.
use Rattle.std.proofs.Common.{◌≡◌, ◌+◌, ◌&&◌, ℕ, suc, Bool, false, Some, ◌∷◌, ◌++◌, length, slice_get, slice_index_or, refl, sym, ap, ◌∙◌, subst, zero-add, arith}
use Rattle.std.proofs.lemmas.Option.{slice_get-get_or}
use Rattle.std.proofs.lemmas.List.{length-map, length-append}
use Rattle.wire_core.specs.declared.names.QueueId.{QueueId}
use Rattle.wire_core.specs.declared.names.Event.{Event}
use Rattle.wire_core.specs.Marks.{is_mark}
use Rattle.turn_kit.specs.declared.turns.Turn.{Turn}
use Rattle.turn_kit.specs.declared.ends.Intake.{Intake}
use Rattle.turn_kit.specs.declared.ends.Outlet.{Outlet}
use Rattle.turn_kit.specs.Table.{is_settled}
use Rattle.turn_kit.specs.Turns.{PostedAt, Turned, Choosing, choosing, choice_with, offered_from, choice_of, chosen_place, last_after, settled_all, is_at_rest}
use Rattle.turn_kit.specs.Posts.{intake_post, outlet_post}
use Rattle.turn_kit.specs.ManyEnds.{intake_posts, outlet_posts, needs_from}
use Rattle.turn_kit.proofs.Offers.{get_need, later}
use Rattle.turn_kit.proofs.Turning.{no_mark_at}
use Rattle.turn_kit.specs.declared.intakes.Intakes.{Intakes}
use Rattle.turn_kit.specs.declared.outlets.Outlets.{Outlets}
use Rattle.buffer_kit.specs.declared.virt_ends.VirtEnd.{VirtEnd}
use Rattle.buffer_kit.specs.declared.virt_ends.VirtEnd.TheVariants as At
use Rattle.buffer_kit.specs.declared.virt_ends.VirtEnds.{VirtEnds}
use Rattle.buffer_kit.specs.Virtualising.{SameVirt, IsThere, from_queues, to_queues, virt_posts, virt_needs, virt_round, place_of, need_of}
use Rattle.buffer_kit.proofs.TwoLists.{offered_append, offered_count, settled_append, posted_front, posted_behind, get_front, get_behind, needs_length, needs_same}

no_queue : QueueId
no_queue = record { 0 = 0 }

queues_long : (v : VirtEnds) → (length (intake_posts v.from_clients) ≡ length (from_queues v)) × (length (outlet_posts v.to_clients) ≡ length (to_queues v))
queues_long v =
    let a = length-map v.from_clients.ends.items intake_post in
    let b = length-map v.from_clients.ends.items (λ (i : Intake). i.queue) in
    let c = length-map v.to_clients.ends.items outlet_post in
    let d = length-map v.to_clients.ends.items (λ (o : Outlet). o.queue) in
    (omega (arith, a, b), omega (arith, c, d))

posts_long : (v : VirtEnds) → length (virt_posts v) ≡ 2 + length (from_queues v) + length (to_queues v)
posts_long v =
    let q = queues_long v in
    let all = length-append (intake_posts v.from_clients) (outlet_posts v.to_clients) in
    let one = q.0 in
    let two = q.1 in
    omega (arith, all, one, two)

needs_long : (v : VirtEnds) (need owed : Bool) (needs loads : ℕ → Bool) → length (virt_needs v need owed needs loads) ≡ length (virt_posts v)
needs_long v need owed needs loads =
    let posts = posts_long v in
    let one = needs_length needs 0 (from_queues v) in
    let two = needs_length loads 0 (to_queues v) in
    let all = length-append (needs_from needs 0 (from_queues v)) (needs_from loads 0 (to_queues v)) in
    omega (arith, posts, one, two, all)

-- as many ends are offered as there are
pub choice_count : (v : VirtEnds) (need owed : Bool) (needs loads : ℕ → Bool) → (choice_of (virt_round v need owed needs loads)).count ≡ 2 + length (from_queues v) + length (to_queues v)
choice_count v need owed needs loads = offered_count (choosing (length (virt_posts v)) v.turn.last) 0 (virt_posts v) (virt_needs v need owed needs loads) ∙ posts_long v

-- the ends were offered in their order
pub all_offered : (v : VirtEnds) (need owed a b : Bool) (needs loads : ℕ → Bool) (n : ℕ) (c0 c1 c2 c3 c4 : Choosing) → n ≡ 2 + length (from_queues v) + length (to_queues v) → a ≡ is_settled v.input.state need → b ≡ is_settled v.output.state owed
    → c0 ≡ choosing n v.turn.last → c1 ≡ choice_with c0 (record { queue = v.input.queue.0; place = 0 }) a → c2 ≡ choice_with c1 (record { queue = v.output.queue.0; place = 1 }) b
    → c3 ≡ offered_from c2 2 (intake_posts v.from_clients) (needs_from needs 0 (from_queues v)) → c4 ≡ offered_from c3 (2 + length (from_queues v)) (outlet_posts v.to_clients) (needs_from loads 0 (to_queues v)) → c4 ≡ choice_of (virt_round v need owed needs loads)
all_offered v need owed a b needs loads n c0 c1 c2 c3 c4 count sa sb h0 h1 h2 h3 h4 =
    let q = queues_long v in
    let one = q.0 in
    let ns = needs_length needs 0 (from_queues v) in
    let as_many : length (needs_from needs 0 (from_queues v)) ≡ length (intake_posts v.from_clients) = omega (arith, one, ns) in
    let long = posts_long v in
    let behind : 2 + length (from_queues v) ≡ 2 + length (intake_posts v.from_clients) = omega (arith, one) in
    let start : choosing n v.turn.last ≡ choosing (length (virt_posts v)) v.turn.last = ap (λ m. choosing m v.turn.last) (omega (arith, long, count)) in
    let first : Choosing = choice_with (choosing (length (virt_posts v)) v.turn.last) (record { queue = v.input.queue.0; place = 0 }) (is_settled v.input.state need) in
    let second : Choosing = choice_with first (record { queue = v.output.queue.0; place = 1 }) (is_settled v.output.state owed) in
    let e1 : c1 ≡ first = h1 ∙ (ap (λ x. choice_with c0 (record { queue = v.input.queue.0; place = 0 }) x) sa ∙ ap (λ c. choice_with c (record { queue = v.input.queue.0; place = 0 }) (is_settled v.input.state need)) (h0 ∙ start)) in
    let e2 : c2 ≡ second = h2 ∙ (ap (λ x. choice_with c1 (record { queue = v.output.queue.0; place = 1 }) x) sb ∙ ap (λ c. choice_with c (record { queue = v.output.queue.0; place = 1 }) (is_settled v.output.state owed)) e1) in
    h4 ∙ (ap (λ c. offered_from c (2 + length (from_queues v)) (outlet_posts v.to_clients) (needs_from loads 0 (to_queues v))) (h3 ∙ ap (λ c. offered_from c 2 (intake_posts v.from_clients) (needs_from needs 0 (from_queues v))) e2)
    ∙ (ap (λ k. offered_from (offered_from second 2 (intake_posts v.from_clients) (needs_from needs 0 (from_queues v))) k (outlet_posts v.to_clients) (needs_from loads 0 (to_queues v))) behind
    ∙ sym (offered_append second 2 (intake_posts v.from_clients) (outlet_posts v.to_clients) (needs_from needs 0 (from_queues v)) (needs_from loads 0 (to_queues v)) as_many)))

pub two_on : (k : ℕ) → 2 + k ≡ suc (suc k)
two_on k = omega arith

two_past : (n k : ℕ) → 2 + n + k ≡ suc (suc (n + k))
two_past n k = omega arith

-- an end that is there has its need
need_there : (v : VirtEnds) (need owed : Bool) (needs loads : ℕ → Bool) (at : VirtEnd) → IsThere v at → slice_get (virt_needs v need owed needs loads) (place_of v at) ≡ Some (need_of need owed needs loads at)
need_there v need owed needs loads At.Input there = refl
need_there v need owed needs loads At.Output there = refl
need_there v need owed needs loads (At.FromClient k) there =
    ap (slice_get (virt_needs v need owed needs loads)) (two_on k) ∙ get_front (needs_from needs 0 (from_queues v)) (needs_from loads 0 (to_queues v)) k (needs k)
    (get_need needs 0 (from_queues v) k (slice_index_or (from_queues v) k no_queue) (slice_get-get_or (from_queues v) k no_queue there) ∙ ap (λ n. Some (needs n)) (zero-add k))
need_there v need owed needs loads (At.ToClient k) there =
    let long = needs_length needs 0 (from_queues v) in
    ap (slice_get (virt_needs v need owed needs loads)) (two_past (length (from_queues v)) k)
    ∙ (ap (λ n. slice_get (needs_from needs 0 (from_queues v) ++ needs_from loads 0 (to_queues v)) (n + k)) (sym long) ∙ (get_behind (needs_from needs 0 (from_queues v)) (needs_from loads 0 (to_queues v)) k
    ∙ (get_need loads 0 (to_queues v) k (slice_index_or (to_queues v) k no_queue) (slice_get-get_or (to_queues v) k no_queue there) ∙ ap (λ n. Some (loads n)) (zero-add k))))

-- what is needed or loaded stays
pub record SameNeeds (need owed need' owed' : Bool) (needs loads needs' loads' : ℕ → Bool) : Type 0 where
  pub need_stays : need' ≡ need
  pub owed_stays : owed' ≡ owed
  pub needs_stay : (k : ℕ) → needs' k ≡ needs k
  pub loads_stay : (k : ℕ) → loads' k ≡ loads k

needs_stay : (old new : VirtEnds) (need owed need' owed' : Bool) (needs loads needs' loads' : ℕ → Bool) → SameVirt old new → SameNeeds need owed need' owed' needs loads needs' loads' → virt_needs new need' owed' needs' loads' ≡ virt_needs old need owed needs loads
needs_stay old new need owed need' owed' needs loads needs' loads' same h =
    ap (λ b. b ∷ owed' ∷ (needs_from needs' 0 (from_queues new) ++ needs_from loads' 0 (to_queues new))) h.need_stays
    ∙ (ap (λ b. need ∷ b ∷ (needs_from needs' 0 (from_queues new) ++ needs_from loads' 0 (to_queues new))) h.owed_stays
    ∙ (ap (λ l. need ∷ owed ∷ (l ++ needs_from loads' 0 (to_queues new))) (needs_same needs needs' 0 (from_queues new) h.needs_stay ∙ ap (needs_from needs 0) same.from_clients)
    ∙ ap (λ l. need ∷ owed ∷ (needs_from needs 0 (from_queues old) ++ l)) (needs_same loads loads' 0 (to_queues new) h.loads_stay ∙ ap (needs_from loads 0) same.to_clients)))

-- an end of a virtualiser had its turn
pub turned : (old mid new : VirtEnds) (t : Turn) (e : Event) (at : VirtEnd) (need owed need' owed' : Bool) (needs loads needs' loads' : ℕ → Bool) → mid ≡ record old { turn = t } → place_of old at ≡ chosen_place (choice_of (virt_round old need owed needs loads)) → IsThere old at
    → PostedAt (virt_posts mid) (place_of mid at) (need_of need owed needs loads at) e (virt_posts new) → SameVirt mid new → new.turn ≡ mid.turn → t.last ≡ last_after (choice_of (virt_round old need owed needs loads)) → (is_mark e.op e.answer ≡ false → SameNeeds need owed need' owed' needs loads needs' loads')
    → Turned (virt_round old need owed needs loads) e (virt_round new need' owed' needs' loads')
turned old mid new t e at need owed need' owed' needs loads needs' loads' after is there posted same turn last still =
    let posted' : PostedAt (virt_posts old) (place_of old at) (need_of need owed needs loads at) e (virt_posts new) = subst (λ (m : VirtEnds). PostedAt (virt_posts m) (place_of m at) (need_of need owed needs loads at) e (virt_posts new)) after posted in
    let same' : SameVirt old new = record {
      input = same.input ∙ ap (λ (m : VirtEnds). m.input.queue) after;
      output = same.output ∙ ap (λ (m : VirtEnds). m.output.queue) after;
      from_clients = same.from_clients ∙ ap (λ (m : VirtEnds). from_queues m) after;
      to_clients = same.to_clients ∙ ap (λ (m : VirtEnds). to_queues m) after;
    } in
    record {
      place = place_of old at;
      need = need_of need owed needs loads at;
      is_chosen = is;
      needed = need_there old need owed needs loads at there;
      posted = posted';
      needs = λ m. needs_stay old new need owed need' owed' needs loads needs' loads' same' (still (no_mark_at posted'.post e m));
      size = needs_long new need' owed' needs' loads';
      last = ap (λ (x : Turn). x.last) (turn ∙ ap (λ (m : VirtEnds). m.turn) after) ∙ last;
    }

-- all ends are settled
pub all_settled : (v : VirtEnds) (need owed a b x y : Bool) (needs loads : ℕ → Bool) → a ≡ is_settled v.input.state need → b ≡ is_settled v.output.state owed → x ≡ settled_all (intake_posts v.from_clients) (needs_from needs 0 (from_queues v)) → y ≡ settled_all (outlet_posts v.to_clients) (needs_from loads 0 (to_queues v))
    → (a && (b && (x && y))) ≡ is_at_rest (virt_round v need owed needs loads)
all_settled v need owed a b x y needs loads sa sb sx sy =
    let q = queues_long v in
    let one = q.0 in
    let ns = needs_length needs 0 (from_queues v) in
    let as_many : length (needs_from needs 0 (from_queues v)) ≡ length (intake_posts v.from_clients) = omega (arith, one, ns) in
    rw (sa, sb, sx, sy) (ap (λ t. is_settled v.input.state need && (is_settled v.output.state owed && t)) (sym (settled_append (intake_posts v.from_clients) (outlet_posts v.to_clients) (needs_from needs 0 (from_queues v)) (needs_from loads 0 (to_queues v)) as_many)))

-- an end of a client moved
pub posted_from : (v : VirtEnds) (xs : Intakes) (k : ℕ) (need : Bool) (e : Event) → PostedAt (intake_posts v.from_clients) k need e (intake_posts xs) → PostedAt (virt_posts v) (2 + k) need e (virt_posts (record v { from_clients = xs }))
posted_from v xs k need e h =
    rw (two_on k) (later (intake_post v.input) (outlet_post v.output ∷ (intake_posts v.from_clients ++ outlet_posts v.to_clients)) (outlet_post v.output ∷ (intake_posts xs ++ outlet_posts v.to_clients)) (suc k) need e
    (later (outlet_post v.output) (intake_posts v.from_clients ++ outlet_posts v.to_clients) (intake_posts xs ++ outlet_posts v.to_clients) k need e (posted_front (intake_posts v.from_clients) (intake_posts xs) (outlet_posts v.to_clients) k need e h)))

pub posted_to : (v : VirtEnds) (xs : Outlets) (k : ℕ) (need : Bool) (e : Event) → PostedAt (outlet_posts v.to_clients) k need e (outlet_posts xs) → PostedAt (virt_posts v) (2 + length (from_queues v) + k) need e (virt_posts (record v { to_clients = xs }))
posted_to v xs k need e h =
    let q = queues_long v in
    rw (two_past (length (from_queues v)) k, ← q.0) (later (intake_post v.input) (outlet_post v.output ∷ (intake_posts v.from_clients ++ outlet_posts v.to_clients)) (outlet_post v.output ∷ (intake_posts v.from_clients ++ outlet_posts xs)) (suc (length (intake_posts v.from_clients) + k)) need e
    (later (outlet_post v.output) (intake_posts v.from_clients ++ outlet_posts v.to_clients) (intake_posts v.from_clients ++ outlet_posts xs) (length (intake_posts v.from_clients) + k) need e (posted_behind (intake_posts v.from_clients) (outlet_posts v.to_clients) (outlet_posts xs) k need e h)))
