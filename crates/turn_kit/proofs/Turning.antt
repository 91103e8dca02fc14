use Rattle.std.proofs.Common.{◌≡◌, ◌≢◌, ◌⊎◌, ◌+◌, ◌==◌, ◌<◌, ◌≤◌, ◌||◌, ℕ, zero, suc, Bool, true, false, not, cond, Option, Some, None, is_none, List, [], ◌∷◌, length, slice_get, slice_set, length-set, refl, sym, ap, ◌∙◌, subst, inl, inr, arith, zero-add, eq-eqb}
use Rattle.std.proofs.Math.Dec.{eqb}
use Rattle.std.proofs.lemmas.Bool.{ltb-true, ltb-false, lt-ltb}
use Rattle.std.proofs.lemmas.Bool.Decides.{eqb_tells}
use Rattle.std.proofs.lemmas.Option.{slice_get_within, slice_get-get_or}
use Rattle.wire_core.specs.declared.names.Event.{Event}
use Rattle.wire_core.specs.Bells.{bit}
use Rattle.wire_core.proofs.Places.{slice_get_written, slice_get_beside}
use Rattle.turn_kit.specs.Table.{next_op, state_after, is_settled}
use Rattle.wire_core.specs.Marks.{is_mark}
use Rattle.turn_kit.specs.Calls.{may_answer, calls_left, settling_left, is_moving}
use Rattle.turn_kit.specs.Turns.{Post, Posted, is_drop, is_mark_at, forgotten_if, Round, Turned, IsRound, IsNext, choosing, choice_of, chosen_place, last_after, place_or, queue_or, is_at_rest, settled_all, Unsettled, calls_on}
use Rattle.turn_kit.specs.declared.turns.Stand.{Stand}
use Rattle.turn_kit.proofs.EveryState.{nearer, settles, moving_stays, moving_unsettled, and_left, and_right}
use Rattle.turn_kit.proofs.Choosing.{some_is, best, best_none, is_loose, is_late, is_any, offered_best, Among, Found, found, rest_none, none_rest}

or_left : (a b : Bool) → (a || b) ≡ false → a ≡ false
or_left false b h = refl
or_left true b h = cc

or_right : (a b : Bool) → (a || b) ≡ false → b ≡ false
or_right false b h = h
or_right true b h = cc

-- a call that is no mark of its actor is none elsewhere, and no drop
pub no_mark_at : (p : Post) (e : Event) → is_mark_at p e ≡ false → is_mark e.op e.answer ≡ false
no_mark_at p e m = or_right (is_drop p e) (is_mark e.op e.answer) m

no_drop_at : (p : Post) (e : Event) → is_mark_at p e ≡ false → is_drop p e ≡ false
no_drop_at p e m = or_left (is_drop p e) (is_mark e.op e.answer) m

-- an end keeps its queue and its side
pub queue_is : (p moved : Post) (b : Bool) (e : Event) → Posted p b e moved → moved.queue ≡ p.queue
queue_is p moved b e h = ap (λ (x : Post). x.queue) h.after

pub side_is : (p moved : Post) (b : Bool) (e : Event) → Posted p b e moved → moved.side ≡ p.side
side_is p moved b e h = ap (λ (x : Post). x.side) h.after

-- what is known of one call at one end that is no mark
module _ (p moved : Post) (b : Bool) (e : Event) (h : Posted p b e moved) (m : is_mark_at p e ≡ false) where
  pub no_mark : is_mark (next_op p.state p.side b) e.answer ≡ false
  no_mark = subst (λ o. is_mark o e.answer ≡ false) h.op (no_mark_at p e m)

  pub answers : may_answer (next_op p.state p.side b) e.answer ≡ true
  answers = subst (λ o. may_answer o e.answer ≡ true) h.op h.answer

  pub state_is : moved.state ≡ state_after p.state (next_op p.state p.side b) e.answer
  state_is = ap (λ (x : Post). x.state) h.after ∙ (ap (λ d. forgotten_if d (state_after p.state e.op e.answer)) (no_drop_at p e m) ∙ ap (λ o. state_after p.state o e.answer) h.op)

  pub post_nearer : is_settled p.state b ≡ false → calls_left moved.state b + 1 ≤ calls_left p.state b
  post_nearer s = rw state_is (nearer p.state b p.side e.answer s no_mark answers)

  pub post_settles : is_settled p.state b ≡ false → is_moving moved.state b ≡ false → settling_left moved.state b + 1 ≤ settling_left p.state b
  post_settles s g = rw state_is (settles p.state b p.side e.answer s no_mark answers (subst (λ k. is_moving k b ≡ false) state_is g))

  pub post_moving : is_moving p.state b ≡ true → is_moving moved.state b ≡ true
  post_moving s = rw state_is (moving_stays p.state b p.side e.answer s no_mark answers)

-- each end has its need
pub need_at : (ps : List Post) (ns : List Bool) (k : ℕ) (p : Post) → length ns ≡ length ps → slice_get ps k ≡ Some p → (n : Bool) × (slice_get ns k ≡ Some n)
need_at ps ns k p same at = (_, slice_get-get_or ns k false (subst (λ n. k < n) (sym same) (slice_get_within ps k p at)))

first_at : (ps : List Post) → 0 < length ps → (p : Post) × (slice_get ps 0 ≡ Some p)
first_at [] h = absurd (omega (arith, h))
first_at (p ∷ ps) h = (p, refl)

not_true : (b : Bool) → not b ≡ true → b ≡ false
not_true false h = refl
not_true true h = cc

module _ (r : Round) (e : Event) (m : Round) (t : Turned r e m) (ok : IsRound r) where
  abbrev Loose : Option Stand
  Loose = best is_loose None 0 r.posts r.needs

  abbrev Late : Option Stand
  Late = best (is_late r.last) None 0 r.posts r.needs

  abbrev First : Option Stand
  First = best is_any None 0 r.posts r.needs

  choice_is : choice_of r ≡ record { count = length r.posts; last = r.last; unsettled = Loose; after = Late; first = First }
  choice_is = offered_best (choosing (length r.posts) r.last) 0 r.posts r.needs

  place_is : t.place ≡ place_or Loose (place_or Late (place_or First 0))
  place_is = t.is_chosen ∙ ap chosen_place choice_is

  last_is : m.last ≡ cond (is_none Loose) (queue_or Late (queue_or First r.last)) r.last
  last_is = t.last ∙ ap last_after choice_is

  module _ (test : Post → Bool → Bool) (s : Stand) (a : Among test 0 r.posts r.needs s) (here : t.place ≡ s.place) where
    k_is : t.place ≡ a.k
    k_is = here ∙ (a.is_place ∙ zero-add a.k)

    post_is : t.posted.post ≡ a.post
    post_is = some_is (sym t.posted.there ∙ (ap (slice_get r.posts) k_is ∙ a.there))

    need_is : t.need ≡ a.need
    need_is = some_is (sym t.needed ∙ (ap (slice_get r.needs) k_is ∙ a.needed))

  -- where some end isn't settled, the one that is stepped isn't, and it has the lowest queue number
  loose_case : (u : Option Stand) → Loose ≡ u → is_at_rest r ≡ false → (is_settled t.posted.post.state t.need ≡ false) × ((k : ℕ) (p : Post) (n : Bool) → slice_get r.posts k ≡ Some p → slice_get r.needs k ≡ Some n → is_settled p.state n ≡ false → t.posted.post.queue ≤ p.queue) × (m.last ≡ r.last)
  loose_case None h rest = let no : true ≡ false = sym (none_rest 0 r.posts r.needs h) ∙ rest in cc
  loose_case (Some s) h rest = let f = found is_loose None 0 r.posts r.needs s h in elim f.from [ inl g ↦ cc | inr a ↦ here f a ]
    where
      here : Found is_loose None 0 r.posts r.needs s → Among is_loose 0 r.posts r.needs s → (is_settled t.posted.post.state t.need ≡ false) × ((k : ℕ) (p : Post) (n : Bool) → slice_get r.posts k ≡ Some p → slice_get r.needs k ≡ Some n → is_settled p.state n ≡ false → t.posted.post.queue ≤ p.queue) × (m.last ≡ r.last)
      here f a =
          let at : t.place ≡ s.place = place_is ∙ ap (λ u. place_or u (place_or Late (place_or First 0))) h in
          let same = post_is is_loose s a at in (
            not_true _ (ap (λ (p : Post). not (is_settled p.state t.need)) same ∙ (ap (λ n. not (is_settled a.post.state n)) (need_is is_loose s a at) ∙ a.test)),
            (λ k p n there needed loose. subst (λ x. x ≤ p.queue) (a.queue ∙ sym (ap (λ (x : Post). x.queue) same)) (f.least k p n there needed (ap not loose))),
            last_is ∙ ap (λ u. cond (is_none u) (queue_or Late (queue_or First r.last)) r.last) h,
          )

  pub loose_chosen : is_at_rest r ≡ false → (is_settled t.posted.post.state t.need ≡ false) × ((k : ℕ) (p : Post) (n : Bool) → slice_get r.posts k ≡ Some p → slice_get r.needs k ≡ Some n → is_settled p.state n ≡ false → t.posted.post.queue ≤ p.queue) × (m.last ≡ r.last)
  loose_chosen rest = loose_case Loose refl rest

  -- where all are settled, the next after the last is stepped
  module _ (rest : is_at_rest r ≡ true) where
    none : Loose ≡ None
    none = rest_none 0 r.posts r.needs rest

    rest_place : t.place ≡ place_or Late (place_or First 0)
    rest_place = place_is ∙ ap (λ u. place_or u (place_or Late (place_or First 0))) none

    rest_last : m.last ≡ queue_or Late (queue_or First r.last)
    rest_last = last_is ∙ ap (λ u. cond (is_none u) (queue_or Late (queue_or First r.last)) r.last) none

    first_case : (u : Option Stand) → First ≡ u → Late ≡ None → (m.last ≡ t.posted.post.queue) × IsNext r.last r.posts t.posted.post.queue
    first_case None h late = let p = first_at r.posts ok.some in let n = need_at r.posts r.needs 0 p.0 ok.needs p.1 in let no : true ≡ false = best_none is_any 0 r.posts r.needs h 0 p.0 n.0 p.1 n.1 in cc
    first_case (Some s) h late = let f = found is_any None 0 r.posts r.needs s h in elim f.from [ inl g ↦ cc | inr a ↦ here f a ]
      where
        here : Found is_any None 0 r.posts r.needs s → Among is_any 0 r.posts r.needs s → (m.last ≡ t.posted.post.queue) × IsNext r.last r.posts t.posted.post.queue
        here f a =
            let at : t.place ≡ s.place = rest_place ∙ (ap (λ u. place_or u (place_or First 0)) late ∙ ap (λ u. place_or u 0) h) in
            let q : s.queue ≡ t.posted.post.queue = a.queue ∙ sym (ap (λ (x : Post). x.queue) (post_is is_any s a at)) in (
              rest_last ∙ (ap (λ u. queue_or u (queue_or First r.last)) late ∙ (ap (λ u. queue_or u r.last) h ∙ q)),
              inr (
                (λ k p there. let n = need_at r.posts r.needs k p ok.needs there in ltb-false r.last p.queue (best_none (is_late r.last) 0 r.posts r.needs late k p n.0 there n.1)),
                (λ k p there. let n = need_at r.posts r.needs k p ok.needs there in subst (λ x. x ≤ p.queue) q (f.least k p n.0 there n.1 refl)),
              ),
            )

    late_case : (u : Option Stand) → Late ≡ u → (m.last ≡ t.posted.post.queue) × IsNext r.last r.posts t.posted.post.queue
    late_case None h = first_case First refl h
    late_case (Some s) h = let f = found (is_late r.last) None 0 r.posts r.needs s h in elim f.from [ inl g ↦ cc | inr a ↦ here f a ]
      where
        here : Found (is_late r.last) None 0 r.posts r.needs s → Among (is_late r.last) 0 r.posts r.needs s → (m.last ≡ t.posted.post.queue) × IsNext r.last r.posts t.posted.post.queue
        here f a =
            let at : t.place ≡ s.place = rest_place ∙ ap (λ u. place_or u (place_or First 0)) h in
            let q : s.queue ≡ t.posted.post.queue = a.queue ∙ sym (ap (λ (x : Post). x.queue) (post_is (is_late r.last) s a at)) in (
              rest_last ∙ (ap (λ u. queue_or u (queue_or First r.last)) h ∙ q),
              inl (
                subst (λ x. r.last < x) (sym a.queue ∙ q) (ltb-true r.last a.post.queue a.test),
                (λ k p there late. let n = need_at r.posts r.needs k p ok.needs there in subst (λ x. x ≤ p.queue) q (f.least k p n.0 there n.1 (lt-ltb r.last p.queue late))),
              ),
            )

    pub rest_chosen : (m.last ≡ t.posted.post.queue) × IsNext r.last r.posts t.posted.post.queue
    rest_chosen = late_case Late refl

  -- an end is the one that moved, or it stays
  pub moved_or : (j : ℕ) (p : Post) (b : Bool) → slice_get r.posts j ≡ Some p → slice_get r.needs j ≡ Some b → ((p ≡ t.posted.post) × (b ≡ t.need) × Posted p b e t.posted.moved × (slice_get m.posts j ≡ Some t.posted.moved)) ⊎ ((e.queue.0 ≡ p.queue → ⊥) × (slice_get m.posts j ≡ Some p))
  moved_or j p b at need = decide (eqb_tells j t.place)
    where
      decide : ((eqb j t.place ≡ true) × (j ≡ t.place)) ⊎ ((eqb j t.place ≡ false) × (j ≢ t.place)) → ((p ≡ t.posted.post) × (b ≡ t.need) × Posted p b e t.posted.moved × (slice_get m.posts j ≡ Some t.posted.moved)) ⊎ ((e.queue.0 ≡ p.queue → ⊥) × (slice_get m.posts j ≡ Some p))
      decide (inl same) =
          let p_is : p ≡ t.posted.post = some_is (sym at ∙ (ap (slice_get r.posts) same.1 ∙ t.posted.there)) in
          let b_is : b ≡ t.need = some_is (sym need ∙ (ap (slice_get r.needs) same.1 ∙ t.needed)) in
          inl (p_is, b_is, subst (λ x. Posted x b e t.posted.moved) (sym p_is) (subst (λ n. Posted t.posted.post n e t.posted.moved) (sym b_is) t.posted.posted), ap (λ ps. slice_get ps j) t.posted.after ∙ (ap (slice_get (slice_set r.posts t.place t.posted.moved)) same.1 ∙ slice_get_written r.posts t.place t.posted.post t.posted.moved t.posted.there))
      decide (inr apart) = inr ((λ q. apart.1 (ok.apart j t.place p t.posted.post at t.posted.there (sym q ∙ t.posted.posted.queue))), ap (λ ps. slice_get ps j) t.posted.after ∙ (slice_get_beside r.posts t.place j t.posted.moved apart.1 ∙ at))

  pub old_post : (k : ℕ) (p : Post) → slice_get m.posts k ≡ Some p → (q : Post) × (slice_get r.posts k ≡ Some q) × (q.queue ≡ p.queue)
  old_post k p at = decide (eqb_tells k t.place)
    where
      decide : ((eqb k t.place ≡ true) × (k ≡ t.place)) ⊎ ((eqb k t.place ≡ false) × (k ≢ t.place)) → (q : Post) × (slice_get r.posts k ≡ Some q) × (q.queue ≡ p.queue)
      decide (inl same) =
          let is : t.posted.moved ≡ p = some_is (sym (slice_get_written r.posts t.place t.posted.post t.posted.moved t.posted.there) ∙ (sym (ap (slice_get (slice_set r.posts t.place t.posted.moved)) same.1) ∙ (sym (ap (λ ps. slice_get ps k) t.posted.after) ∙ at))) in
          (t.posted.post, ap (slice_get r.posts) same.1 ∙ t.posted.there, sym (ap (λ (x : Post). x.queue) t.posted.posted.after) ∙ ap (λ (x : Post). x.queue) is)
      decide (inr apart) = (p, sym (slice_get_beside r.posts t.place k t.posted.moved apart.1) ∙ (sym (ap (λ ps. slice_get ps k) t.posted.after) ∙ at), refl)

  pub same_length : length m.posts ≡ length r.posts
  same_length = ap length t.posted.after ∙ length-set r.posts t.place t.posted.moved

  -- each end has its need afterwards, and no two ends are of one queue
  pub round_next : IsRound m
  round_next = record {
    some = subst (λ x. 0 < x) (sym same_length) ok.some;
    needs = t.size;
    apart = λ k j p q atk atj same. let a = old_post k p atk in let b = old_post j q atj in ok.apart k j a.0 b.0 a.1 b.1 (a.2 ∙ (same ∙ sym b.2));
  }

pub bit_same : (a b : ℕ) → a ≡ b → bit (a == b) ≡ 1
bit_same a b h = ap bit (eq-eqb a b h)

pub bit_other : (a b : ℕ) → (a ≡ b → ⊥) → bit (a == b) ≡ 0
bit_other a b h = decide (eqb_tells a b)
  where
    decide : ((eqb a b ≡ true) × (a ≡ b)) ⊎ ((eqb a b ≡ false) × (a ≢ b)) → bit (a == b) ≡ 0
    decide (inl same) = absurd (h same.1)
    decide (inr apart) = ap bit apart.0

-- before it is settled or a mark comes, an end makes at most so many calls
pub few_calls : (es : List Event) (r new : Round) → IsRound r → Unsettled r es new → (j : ℕ) (p : Post) (b : Bool) → slice_get r.posts j ≡ Some p → slice_get r.needs j ≡ Some b → calls_on p.queue es ≤ calls_left p.state b
few_calls [] r new ok u j p b at need = omega arith
few_calls (e ∷ es) r new ok u j p b at need = elim (moved_or r e u.0 u.2 ok j p b at need) [
  | inl h ↦
      let next = few_calls es u.0 new (round_next r e u.0 u.2 ok) u.4 j u.2.posted.moved b h.3 (ap (λ ns. slice_get ns j) (u.2.needs u.3) ∙ need) in
      let settled : is_settled p.state b ≡ false = ap (λ (x : Post). is_settled x.state b) h.0 ∙ (ap (is_settled u.2.posted.post.state) h.1 ∙ (loose_chosen r e u.0 u.2 ok u.1).0) in
      let near = post_nearer p u.2.posted.moved b e h.2 (ap (λ (x : Post). is_mark_at x e) h.0 ∙ u.3) settled in
      let here : bit (e.queue.0 == p.queue) ≡ 1 = bit_same e.queue.0 p.queue h.2.queue in
      let rest : calls_on p.queue es ≤ calls_left u.2.posted.moved.state b = subst (λ n. calls_on n es ≤ calls_left u.2.posted.moved.state b) (queue_is p u.2.posted.moved b e h.2) next in
      omega (arith, near, here, rest)
  | inr h ↦
      let next = few_calls es u.0 new (round_next r e u.0 u.2 ok) u.4 j p b h.1 (ap (λ ns. slice_get ns j) (u.2.needs u.3) ∙ need) in
      let here : bit (e.queue.0 == p.queue) ≡ 0 = bit_other e.queue.0 p.queue h.0 in
      omega (arith, next, here)
]

-- an end that saw that it can move an entry goes on so
pub still_moving : (es : List Event) (r new : Round) → IsRound r → Unsettled r es new → (j : ℕ) (p : Post) (b : Bool) → slice_get r.posts j ≡ Some p → slice_get r.needs j ≡ Some b → is_moving p.state b ≡ true → (q : Post) × (slice_get new.posts j ≡ Some q) × (slice_get new.needs j ≡ Some b) × (is_moving q.state b ≡ true)
still_moving [] r new ok u j p b at need h = (p, ap (λ (x : Round). slice_get x.posts j) (sym u) ∙ at, ap (λ (x : Round). slice_get x.needs j) (sym u) ∙ need, h)
still_moving (e ∷ es) r new ok u j p b at need h = elim (moved_or r e u.0 u.2 ok j p b at need) [
  | inl g ↦ still_moving es u.0 new (round_next r e u.0 u.2 ok) u.4 j u.2.posted.moved b g.3 (ap (λ ns. slice_get ns j) (u.2.needs u.3) ∙ need) (post_moving p u.2.posted.moved b e g.2 (ap (λ (x : Post). is_mark_at x e) g.0 ∙ u.3) h)
  | inr g ↦ still_moving es u.0 new (round_next r e u.0 u.2 ok) u.4 j p b g.1 (ap (λ ns. slice_get ns j) (u.2.needs u.3) ∙ need) h
]

-- where all are settled, each is
pub rest_at : (ps : List Post) (ns : List Bool) (k : ℕ) (p : Post) (n : Bool) → settled_all ps ns ≡ true → slice_get ps k ≡ Some p → slice_get ns k ≡ Some n → is_settled p.state n ≡ true
rest_at [] ns k p n h at need = cc
rest_at (q ∷ ps) [] k p n h at need = cc
rest_at (q ∷ ps) (m ∷ ns) zero p n h at need = ap (λ (x : Post). is_settled x.state n) (sym (some_is at)) ∙ (ap (is_settled q.state) (sym (some_is need)) ∙ and_left (is_settled q.state m) (settled_all ps ns) h)
rest_at (q ∷ ps) (m ∷ ns) (suc k) p n h at need = rest_at ps ns k p n (and_right (is_settled q.state m) (settled_all ps ns) h) at need

settled_no : (q : Post) (b : Bool) → is_settled q.state b ≡ true → is_moving q.state b ≡ true → ⊥
settled_no q b s m = let no : true ≡ false = sym s ∙ moving_unsettled q.state b m in cc

not_moving_if : (v : Bool) → (v ≡ true → ⊥) → v ≡ false
not_moving_if false h = refl
not_moving_if true h = absurd (h refl)

-- where at last all are settled, an end made at most so many calls
pub settling_calls : (es : List Event) (r new : Round) → IsRound r → Unsettled r es new → is_at_rest new ≡ true → (j : ℕ) (p : Post) (b : Bool) → slice_get r.posts j ≡ Some p → slice_get r.needs j ≡ Some b → calls_on p.queue es ≤ settling_left p.state b
settling_calls [] r new ok u rest j p b at need = omega arith
settling_calls (e ∷ es) r new ok u rest j p b at need = elim (moved_or r e u.0 u.2 ok j p b at need) [
  | inl h ↦
      let need' : slice_get u.0.needs j ≡ Some b = ap (λ ns. slice_get ns j) (u.2.needs u.3) ∙ need in
      let next = settling_calls es u.0 new (round_next r e u.0 u.2 ok) u.4 rest j u.2.posted.moved b h.3 need' in
      let settled : is_settled p.state b ≡ false = ap (λ (x : Post). is_settled x.state b) h.0 ∙ (ap (is_settled u.2.posted.post.state) h.1 ∙ (loose_chosen r e u.0 u.2 ok u.1).0) in
      let not_moving : is_moving u.2.posted.moved.state b ≡ false = not_moving_if (is_moving u.2.posted.moved.state b) (λ g. let q = still_moving es u.0 new (round_next r e u.0 u.2 ok) u.4 j u.2.posted.moved b h.3 need' g in settled_no q.0 b (rest_at new.posts new.needs j q.0 b rest q.1 q.2) q.3) in
      let near = post_settles p u.2.posted.moved b e h.2 (ap (λ (x : Post). is_mark_at x e) h.0 ∙ u.3) settled not_moving in
      let here : bit (e.queue.0 == p.queue) ≡ 1 = bit_same e.queue.0 p.queue h.2.queue in
      let rest : calls_on p.queue es ≤ settling_left u.2.posted.moved.state b = subst (λ n. calls_on n es ≤ settling_left u.2.posted.moved.state b) (queue_is p u.2.posted.moved b e h.2) next in
      omega (arith, near, here, rest)
  | inr h ↦
      let next = settling_calls es u.0 new (round_next r e u.0 u.2 ok) u.4 rest j p b h.1 (ap (λ ns. slice_get ns j) (u.2.needs u.3) ∙ need) in
      let here : bit (e.queue.0 == p.queue) ≡ 0 = bit_other e.queue.0 p.queue h.0 in
      omega (arith, next, here)
]
