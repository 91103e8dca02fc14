use Rattle.std.proofs.Common.{◌≡◌, ◌⊎◌, ◌==◌, ◌+◌, ◌≤◌, ℕ, Bool, true, false, Some, List, [], ◌∷◌, slice_get, inl, inr, sym, ap, ◌∙◌, subst, arith}
use Rattle.std.proofs.lemmas.Bool.Decides.{eqb_tells}
use Rattle.wire_core.specs.declared.names.Event.{Event}
use Rattle.wire_core.specs.Bells.{bit}
use Rattle.turn_kit.specs.Calls.{is_waking}
use Rattle.turn_kit.specs.Turns.{Post, is_mark_at, Round, IsRound, is_at_rest, Unmarked, calls_on}
use Rattle.turn_kit.proofs.Turning.{need_at, rest_chosen, moved_or, round_next, rest_at, bit_same, bit_other, queue_is, side_is, old_post}
use Rattle.turn_kit.proofs.Waking.{between, next_nearer, bit_le, rest_next, then_waking, vainly}
use Rattle.turn_kit.proofs.Marking.{new_post}
use Rattle.turn_kit.specs.Pace.{Unwoken}

pub bit_most : (b : Bool) → bit b ≤ 1
bit_most true = omega arith
bit_most false = omega arith

pub decide : (a b : ℕ) → (a ≡ b) ⊎ (a ≡ b → ⊥)
decide a b = elim (eqb_tells a b) [ inl h ↦ inl h.1 | inr h ↦ inr (λ e. h.1 e) ]

-- where all are settled, between two calls on one end comes one on each other end
pub even : (es : List Event) (r new : Round) → IsRound r → is_at_rest r ≡ true → Unmarked r es new → (k j : ℕ) (p q : Post) → slice_get r.posts k ≡ Some p → slice_get r.posts j ≡ Some q → (p.queue ≡ q.queue → ⊥) → calls_on q.queue es ≤ calls_on p.queue es + bit (between r.last p.queue q.queue)
even [] r new ok rest u k j p q atk atj apart = omega arith
even (e ∷ es) r new ok rest u k j p q atk atj apart =
    let c = rest_chosen r e u.0 u.1 ok rest in
    let a = new_post r e u.0 u.1 k p atk in
    let b = new_post r e u.0 u.1 j q atj in
    let h = even es u.0 new (round_next r e u.0 u.1 ok) (rest_next r e u.0 u.1 u.2 rest) u.3 k j a.0 b.0 a.1 b.1 (λ s. apart (sym a.2 ∙ (s ∙ b.2))) in
    let h1 = subst (λ n. calls_on b.0.queue es ≤ calls_on n es + bit (between u.0.last n b.0.queue)) a.2 h in
    let h2 = subst (λ n. calls_on n es ≤ calls_on p.queue es + bit (between u.0.last p.queue n)) b.2 h1 in
    let h3 : calls_on q.queue es ≤ calls_on p.queue es + bit (between e.queue.0 p.queue q.queue) = subst (λ l. calls_on q.queue es ≤ calls_on p.queue es + bit (between l p.queue q.queue)) (c.0 ∙ sym u.1.posted.posted.queue) h2 in
    elim (decide e.queue.0 p.queue) [
      | inl same ↦
          let here = bit_same e.queue.0 p.queue same in
          let there = bit_other e.queue.0 q.queue (λ s. apart (sym same ∙ s)) in
          let most = bit_most (between e.queue.0 p.queue q.queue) in
          omega (arith, h3, here, there, most)
      | inr away ↦
          let n = next_nearer r.last r.posts u.1.posted.post.queue k p atk c.1 (λ s. away (u.1.posted.posted.queue ∙ s)) in
          let here = bit_other e.queue.0 p.queue away in
          elim (decide e.queue.0 q.queue) [
            | inl same ↦
                let there = bit_same e.queue.0 q.queue same in
                let x : u.1.posted.post.queue ≡ q.queue = sym u.1.posted.posted.queue ∙ same in
                let was : bit (between r.last p.queue q.queue) ≡ 1 = ap bit (subst (λ y. between r.last p.queue y ≡ true) x n.was) in
                let out : bit (between e.queue.0 p.queue q.queue) ≡ 0 = ap bit (subst (λ y. between y p.queue q.queue ≡ false) (sym same) (subst (λ y. between y p.queue y ≡ false) x n.out)) in
                omega (arith, h3, here, there, was, out)
            | inr off ↦
                let there = bit_other e.queue.0 q.queue off in
                let less = bit_le (between e.queue.0 p.queue q.queue) (between r.last p.queue q.queue) (λ g. n.fewer q.queue (subst (λ y. between y p.queue q.queue ≡ true) u.1.posted.posted.queue g)) in
                omega (arith, h3, here, there, less)
          ]
    ]

-- an end whose next call is a wake makes none where it isn't woken
waking_none : (es : List Event) (r new : Round) → IsRound r → is_at_rest r ≡ true → Unmarked r es new → (j : ℕ) (p : Post) (b : Bool) → slice_get r.posts j ≡ Some p → slice_get r.needs j ≡ Some b → is_waking p.state b ≡ true → Unwoken p.queue p.side es → calls_on p.queue es ≤ 0
waking_none [] r new ok rest u j p b at need w none = omega arith
waking_none (e ∷ es) r new ok rest u j p b at need w none = elim (moved_or r e u.0 u.1 ok j p b at need) [
  | inl g ↦ let v = vainly p u.1.posted.moved b e g.2 (ap (λ (x : Post). is_mark_at x e) g.0 ∙ u.2) w in absurd (none.0 v.queue v.op)
  | inr g ↦
      let h = waking_none es u.0 new (round_next r e u.0 u.1 ok) (rest_next r e u.0 u.1 u.2 rest) u.3 j p b g.1 (ap (λ ns. slice_get ns j) (u.1.needs u.2) ∙ need) w none.1 in
      let here = bit_other e.queue.0 p.queue g.0 in
      omega (arith, h, here)
]

-- any settled end makes at most one
pub settled_once : (es : List Event) (r new : Round) → IsRound r → is_at_rest r ≡ true → Unmarked r es new → (j : ℕ) (p : Post) (b : Bool) → slice_get r.posts j ≡ Some p → slice_get r.needs j ≡ Some b → Unwoken p.queue p.side es → calls_on p.queue es ≤ 1
settled_once [] r new ok rest u j p b at need none = omega arith
settled_once (e ∷ es) r new ok rest u j p b at need none = elim (moved_or r e u.0 u.1 ok j p b at need) [
  | inl g ↦
      let w = then_waking p u.1.posted.moved b e g.2 (ap (λ (x : Post). is_mark_at x e) g.0 ∙ u.2) (rest_at r.posts r.needs j p b rest at need) in
      let q = queue_is p u.1.posted.moved b e g.2 in
      let s = side_is p u.1.posted.moved b e g.2 in
      let none' = subst (λ x. Unwoken x u.1.posted.moved.side es) (sym q) (subst (λ x. Unwoken p.queue x es) (sym s) none.1) in
      let h = waking_none es u.0 new (round_next r e u.0 u.1 ok) (rest_next r e u.0 u.1 u.2 rest) u.3 j u.1.posted.moved b g.3 (ap (λ ns. slice_get ns j) (u.1.needs u.2) ∙ need) w none' in
      let h' = subst (λ x. calls_on x es ≤ 0) q h in
      let most = bit_most (e.queue.0 == p.queue) in
      omega (arith, h', most)
  | inr g ↦
      let h = settled_once es u.0 new (round_next r e u.0 u.1 ok) (rest_next r e u.0 u.1 u.2 rest) u.3 j p b g.1 (ap (λ ns. slice_get ns j) (u.1.needs u.2) ∙ need) none.1 in
      let here = bit_other e.queue.0 p.queue g.0 in
      omega (arith, h, here)
]

-- where one end isn't woken, each makes at most two
pub two_calls : (es : List Event) (r new : Round) → IsRound r → is_at_rest r ≡ true → Unmarked r es new → (k j : ℕ) (p q : Post) → slice_get r.posts k ≡ Some p → slice_get r.posts j ≡ Some q → Unwoken p.queue p.side es → calls_on q.queue es ≤ 2
two_calls es r new ok rest u k j p q atk atj none =
    let b = need_at r.posts r.needs k p ok.needs atk in
    let once = settled_once es r new ok rest u k p b.0 atk b.1 none in
    elim (decide p.queue q.queue) [
      | inl same ↦ let h = subst (λ x. calls_on x es ≤ 1) same once in omega (arith, h)
      | inr apart ↦ let h = even es r new ok rest u k j p q atk atj apart in let most = bit_most (between r.last p.queue q.queue) in omega (arith, h, once, most)
    ]

-- no call is on a queue of no end
pub no_calls : (es : List Event) (r new : Round) → IsRound r → Unmarked r es new → (n : ℕ) → ((k : ℕ) (p : Post) → slice_get r.posts k ≡ Some p → p.queue ≡ n → ⊥) → calls_on n es ≤ 0
no_calls [] r new ok u n none = omega arith
no_calls (e ∷ es) r new ok u n none =
    let h = no_calls es u.0 new (round_next r e u.0 u.1 ok) u.3 n (λ k p at same. let o = old_post r e u.0 u.1 ok k p at in none k o.0 o.1 (o.2 ∙ same)) in
    let here = bit_other e.queue.0 n (λ s. none u.1.place u.1.posted.post u.1.posted.there (sym u.1.posted.posted.queue ∙ s)) in
    omega (arith, h, here)
