use Rattle.std.proofs.Common.{◌≡◌, ◌⊎◌, ◌+◌, ◌<◌, ◌≤◌, ◌&&◌, ◌||◌, ℕ, zero, suc, Bool, true, false, cond, nat_lt, Some, List, [], ◌∷◌, length, slice_get, slice_set, refl, sym, ap, ◌∙◌, subst, inl, inr, arith}
use Rattle.std.proofs.lemmas.Bool.{ltb-true, ltb-false, lt-ltb, le-ltb}
use Rattle.wire_core.specs.declared.names.Event.{Event}
use Rattle.wire_core.specs.declared.names.Side.{Side}
use Rattle.wire_core.specs.declared.names.Op.{Op}
use Rattle.wire_core.specs.declared.names.Op.TheVariants as Do
use Rattle.wire_core.specs.declared.names.Answer.{Answer}
use Rattle.wire_core.specs.declared.names.Answer.TheVariants.{Done, Yes, No}
use Rattle.wire_core.specs.Bells.{bit}
use Rattle.turn_kit.specs.Table.{is_settled}
use Rattle.wire_core.specs.Marks.{is_mark}
use Rattle.turn_kit.specs.Calls.{may_answer, is_waking}
use Rattle.turn_kit.specs.Turns.{Post, Posted, is_mark_at, Round, Turned, IsRound, IsNext, is_at_rest, settled_all, Unmarked, IsVainWake, WokenInVain}
use Rattle.turn_kit.proofs.EveryState.{settled_wakes, waking_settled, waking_op, and_left, and_right}
use Rattle.turn_kit.proofs.Choosing.{some_is}
use Rattle.turn_kit.proofs.Turning.{no_mark_at, no_mark, answers, state_is, queue_is, side_is, need_at, rest_at, rest_chosen, moved_or, round_next, same_length}

abbrev count_of : (ℕ → Bool) → List Post → ℕ
count_of f [] = 0
count_of f (p ∷ ps) = bit (f p.queue) + count_of f ps

pub bit_le : (a b : Bool) → (a ≡ true → b ≡ true) → bit a ≤ bit b
bit_le false true h = omega arith
bit_le false false h = omega arith
bit_le true true h = omega arith
bit_le true false h = let no : false ≡ true = h refl in cc

bit_lt : (a b : Bool) → a ≡ false → b ≡ true → bit a + 1 ≤ bit b
bit_lt false true h g = omega arith
bit_lt true b h g = cc
bit_lt false false h g = cc

count_le : (f g : ℕ → Bool) → ((y : ℕ) → f y ≡ true → g y ≡ true) → (ps : List Post) → count_of f ps ≤ count_of g ps
count_le f g h [] = omega arith
count_le f g h (p ∷ ps) = let a = bit_le (f p.queue) (g p.queue) (h p.queue) in let b = count_le f g h ps in omega (arith, a, b)

-- one that is counted by the second alone
count_lt : (f g : ℕ → Bool) → ((y : ℕ) → f y ≡ true → g y ≡ true) → (ps : List Post) (k : ℕ) (p : Post) → slice_get ps k ≡ Some p → f p.queue ≡ false → g p.queue ≡ true → count_of f ps + 1 ≤ count_of g ps
count_lt f g h [] k p at a b = cc
count_lt f g h (q ∷ ps) zero p at a b =
    let same : p ≡ q = some_is (sym at) in
    let x = bit_lt (f q.queue) (g q.queue) (ap (λ (z : Post). f z.queue) (sym same) ∙ a) (ap (λ (z : Post). g z.queue) (sym same) ∙ b) in
    let y = count_le f g h ps in omega (arith, x, y)
count_lt f g h (q ∷ ps) (suc k) p at a b = let x = bit_le (f q.queue) (g q.queue) (h q.queue) in let y = count_lt f g h ps k p at a b in omega (arith, x, y)

count_all : (ps : List Post) → count_of (λ y. true) ps ≡ length ps
count_all [] = refl
count_all (p ∷ ps) = let h = count_all ps in omega (arith, h)

-- what is counted stays where a queue stays
count_set : (f : ℕ → Bool) (ps : List Post) (k : ℕ) (p q : Post) → slice_get ps k ≡ Some p → q.queue ≡ p.queue → count_of f (slice_set ps k q) ≡ count_of f ps
count_set f [] k p q at same = refl
count_set f (x ∷ ps) zero p q at same = ap (λ n. bit (f n) + count_of f ps) (same ∙ ap (λ (z : Post). z.queue) (sym (some_is at)))
count_set f (x ∷ ps) (suc k) p q at same = ap (λ n. bit (f x.queue) + n) (count_set f ps k p q at same)

-- in rising order from the last on, and round again, y comes before q
abbrev pub between : ℕ → ℕ → ℕ → Bool
between last q y = cond (nat_lt last q) (nat_lt last y && nat_lt y q) (nat_lt last y || nat_lt y q)

between_high : (last q y : ℕ) → last < q → between last q y ≡ (nat_lt last y && nat_lt y q)
between_high last q y h = ap (λ v. cond v (nat_lt last y && nat_lt y q) (nat_lt last y || nat_lt y q)) (lt-ltb last q h)

between_low : (last q y : ℕ) → q ≤ last → between last q y ≡ (nat_lt last y || nat_lt y q)
between_low last q y h = ap (λ v. cond v (nat_lt last y && nat_lt y q) (nat_lt last y || nat_lt y q)) (le-ltb last q h)

both : (a b : Bool) → a ≡ true → b ≡ true → (a && b) ≡ true
both true true h g = refl
both false b h g = cc
both true false h g = cc

either_left : (a b : Bool) → a ≡ true → (a || b) ≡ true
either_left true b h = refl
either_left false b h = cc

either_right : (a b : Bool) → b ≡ true → (a || b) ≡ true
either_right true b h = refl
either_right false true h = refl
either_right false false h = cc

one_of : (a b : Bool) → (a || b) ≡ true → (a ≡ true) ⊎ (b ≡ true)
one_of true b h = inl refl
one_of false b h = inr h

no_self : (a b : Bool) → a ≡ false → b ≡ false → (a || b) ≡ false
no_self false false h g = refl
no_self true b h g = cc
no_self false true h g = cc

and_no : (a b : Bool) → a ≡ false → (a && b) ≡ false
and_no false b h = refl
and_no true b h = cc

not_lt_self : (x : ℕ) → nat_lt x x ≡ false
not_lt_self x = le-ltb x x (omega arith)

-- an end's own place isn't before it
self_out : (last q : ℕ) → between last q q ≡ false
self_out last q = go (nat_lt last q) refl
  where
    go : (v : Bool) → nat_lt last q ≡ v → between last q q ≡ false
    go true h = between_high last q q (ltb-true last q h) ∙ end (nat_lt last q) (nat_lt q q) (not_lt_self q)
      where
        end : (a b : Bool) → b ≡ false → (a && b) ≡ false
        end true b h = h
        end false b h = refl
    go false h = between_low last q q (ltb-false last q h) ∙ no_self (nat_lt last q) (nat_lt q q) h (not_lt_self q)

-- what the step of the next end leaves between
pub record Nearer (last q x : ℕ) : Type 0 where
  pub fewer : (y : ℕ) → between x q y ≡ true → between last q y ≡ true
  pub was : between last q x ≡ true
  pub out : between x q x ≡ false

out_of : (q x : ℕ) → x < q → between x q x ≡ false
out_of q x h = between_high x q x h ∙ and_no (nat_lt x x) (nat_lt x q) (not_lt_self x)

high_high : (last q x : ℕ) → last < x → x < q → last < q → Nearer last q x
high_high last q x a b c = record {
  fewer = λ y h. let g = sym (between_high x q y b) ∙ h in let l = ltb-true x y (and_left (nat_lt x y) (nat_lt y q) g) in between_high last q y c ∙ both (nat_lt last y) (nat_lt y q) (lt-ltb last y (omega (arith, a, l))) (and_right (nat_lt x y) (nat_lt y q) g);
  was = between_high last q x c ∙ both (nat_lt last x) (nat_lt x q) (lt-ltb last x a) (lt-ltb x q b);
  out = out_of q x b;
}

high_low : (last q x : ℕ) → last < x → q ≤ last → Nearer last q x
high_low last q x a c = record {
  fewer = λ y h. between_low last q y c ∙ go y (one_of (nat_lt x y) (nat_lt y q) (sym (between_low x q y (omega (arith, a, c))) ∙ h));
  was = between_low last q x c ∙ either_left (nat_lt last x) (nat_lt x q) (lt-ltb last x a);
  out = between_low x q x (omega (arith, a, c)) ∙ no_self (nat_lt x x) (nat_lt x q) (not_lt_self x) (le-ltb x q (omega (arith, a, c)));
}
  where
    go : (y : ℕ) → (nat_lt x y ≡ true) ⊎ (nat_lt y q ≡ true) → (nat_lt last y || nat_lt y q) ≡ true
    go y (inl h) = let l = ltb-true x y h in either_left (nat_lt last y) (nat_lt y q) (lt-ltb last y (omega (arith, a, l)))
    go y (inr h) = either_right (nat_lt last y) (nat_lt y q) h

low_low : (last q x : ℕ) → x < q → q ≤ last → Nearer last q x
low_low last q x b c = record {
  fewer = λ y h. between_low last q y c ∙ either_right (nat_lt last y) (nat_lt y q) (and_right (nat_lt x y) (nat_lt y q) (sym (between_high x q y b) ∙ h));
  was = between_low last q x c ∙ either_right (nat_lt last x) (nat_lt x q) (lt-ltb x q b);
  out = out_of q x b;
}

below : (x q : ℕ) → x ≤ q → (x ≡ q → ⊥) → x < q
below x q h n = go (nat_lt x q) refl
  where
    go : (v : Bool) → nat_lt x q ≡ v → x < q
    go true e = ltb-true x q e
    go false e = let l = ltb-false x q e in absurd (n (omega (arith, h, l)))

pub next_nearer : (last : ℕ) (ps : List Post) (x : ℕ) (k : ℕ) (p : Post) → slice_get ps k ≡ Some p → IsNext last ps x → (x ≡ p.queue → ⊥) → Nearer last p.queue x
next_nearer last ps x k p at (inl h) n = go (nat_lt last p.queue) refl
  where
    go : (v : Bool) → nat_lt last p.queue ≡ v → Nearer last p.queue x
    go true e = let l = ltb-true last p.queue e in high_high last p.queue x h.0 (below x p.queue (h.1 k p at l) n) l
    go false e = high_low last p.queue x h.0 (ltb-false last p.queue e)
next_nearer last ps x k p at (inr h) n = low_low last p.queue x (below x p.queue (h.1 k p at) n) (h.0 k p at)

abbrev gap : Round → ℕ → ℕ
gap r q = count_of (between r.last q) r.posts

gap_small : (r : Round) (k : ℕ) (p : Post) → slice_get r.posts k ≡ Some p → gap r p.queue + 1 ≤ length r.posts
gap_small r k p at = let h = count_lt (between r.last p.queue) (λ y. true) (λ y g. refl) r.posts k p at (self_out r.last p.queue) refl in let c = count_all r.posts in omega (arith, h, c)

-- where all are settled a step of another end brings an end nearer to its turn
gap_falls : (r : Round) (e : Event) (m : Round) (t : Turned r e m) → IsRound r → is_at_rest r ≡ true → (k : ℕ) (p : Post) → slice_get r.posts k ≡ Some p → (e.queue.0 ≡ p.queue → ⊥) → gap m p.queue + 1 ≤ gap r p.queue
gap_falls r e m t ok rest k p at other =
    let c = rest_chosen r e m t ok rest in
    let n = next_nearer r.last r.posts t.posted.post.queue k p at c.1 (λ h. other (t.posted.posted.queue ∙ h)) in
    let less = count_lt (between t.posted.post.queue p.queue) (between r.last p.queue) n.fewer r.posts t.place t.posted.post t.posted.there n.out n.was in
    let same : count_of (between m.last p.queue) m.posts ≡ count_of (between t.posted.post.queue p.queue) r.posts = ap (λ ps. count_of (between m.last p.queue) ps) t.posted.after ∙ (count_set (between m.last p.queue) r.posts t.place t.posted.post t.posted.moved t.posted.there (ap (λ (x : Post). x.queue) t.posted.posted.after) ∙ ap (λ l. count_of (between l p.queue) r.posts) c.0) in
    omega (arith, less, same)

-- what is settled stays so
settled_set : (ps : List Post) (ns : List Bool) (k : ℕ) (q : Post) (n : Bool) → settled_all ps ns ≡ true → slice_get ns k ≡ Some n → is_settled q.state n ≡ true → settled_all (slice_set ps k q) ns ≡ true
settled_set [] ns k q n h at g = refl
settled_set (p ∷ ps) [] k q n h at g = cc
settled_set (p ∷ ps) (m ∷ ns) zero q n h at g = both (is_settled q.state m) (settled_all ps ns) (ap (is_settled q.state) (some_is at) ∙ g) (and_right (is_settled p.state m) (settled_all ps ns) h)
settled_set (p ∷ ps) (m ∷ ns) (suc k) q n h at g = both (is_settled p.state m) (settled_all (slice_set ps k q) ns) (and_left (is_settled p.state m) (settled_all ps ns) h) (settled_set ps ns k q n (and_right (is_settled p.state m) (settled_all ps ns) h) at g)

module _ (p moved : Post) (b : Bool) (e : Event) (h : Posted p b e moved) (m : is_mark_at p e ≡ false) where
  pub then_waking : is_settled p.state b ≡ true → is_waking moved.state b ≡ true
  then_waking s = rw (state_is p moved b e h m) (settled_wakes p.state b p.side e.answer s (no_mark p moved b e h m) (answers p moved b e h m))

  pub then_settled : is_settled p.state b ≡ true → is_settled moved.state b ≡ true
  then_settled s = waking_settled moved.state b (then_waking s)

  answers_no : (o : Op) (s : Side) → o ≡ Do.Wake s → is_mark o e.answer ≡ false → may_answer o e.answer ≡ true → e.answer ≡ No
  answers_no o s is n a = no e.answer (subst (λ x. is_mark x e.answer ≡ false) is n) (subst (λ x. may_answer x e.answer ≡ true) is a)
    where
      no : (a : Answer) → is_mark (Do.Wake s) a ≡ false → may_answer (Do.Wake s) a ≡ true → a ≡ No
      no Yes x y = cc
      no No x y = refl
      no Done x y = cc

  pub vainly : is_waking p.state b ≡ true → IsVainWake p.queue p.side e
  vainly w = let o : e.op ≡ Do.Wake p.side = h.op ∙ waking_op p.state b p.side w in record { queue = h.queue; op = o; answer = answers_no e.op p.side o (no_mark_at p e m) h.answer }

pub rest_next : (r : Round) (e : Event) (m : Round) (t : Turned r e m) → is_mark_at t.posted.post e ≡ false → is_at_rest r ≡ true → is_at_rest m ≡ true
rest_next r e m t n rest = ap (λ ps. settled_all ps m.needs) t.posted.after ∙ (ap (settled_all (slice_set r.posts t.place t.posted.moved)) (t.needs n) ∙ settled_set r.posts r.needs t.place t.posted.moved t.need rest t.needed (then_settled t.posted.post t.posted.moved t.need e t.posted.posted n (rest_at r.posts r.needs t.place t.posted.post t.need rest t.posted.there t.needed)))

-- where all are settled they stay so until a mark
pub rest_stays : (es : List Event) (r new : Round) → Unmarked r es new → is_at_rest r ≡ true → is_at_rest new ≡ true
rest_stays [] r new u rest = ap is_at_rest (sym u) ∙ rest
rest_stays (e ∷ es) r new u rest = rest_stays es u.0 new u.3 (rest_next r e u.0 u.1 u.2 rest)

later_wake : (n : ℕ) (side : Side) (e : Event) (es : List Event) → WokenInVain n side es → WokenInVain n side (e ∷ es)
later_wake n side e es w = record { place = suc w.place; event = w.event; there = w.there; vain = w.vain }

-- an end whose next call is a wake makes it within a round
within_round : (es : List Event) (r new : Round) → IsRound r → is_at_rest r ≡ true → Unmarked r es new → (j : ℕ) (p : Post) (b : Bool) → slice_get r.posts j ≡ Some p → slice_get r.needs j ≡ Some b → is_waking p.state b ≡ true → gap r p.queue + 1 ≤ length es → WokenInVain p.queue p.side es
within_round [] r new ok rest u j p b at need w h = absurd (omega (arith, h))
within_round (e ∷ es) r new ok rest u j p b at need w h = elim (moved_or r e u.0 u.1 ok j p b at need) [
  | inl g ↦ record { place = 0; event = e; there = refl; vain = vainly p u.1.posted.moved b e g.2 (ap (λ (x : Post). is_mark_at x e) g.0 ∙ u.2) w }
  | inr g ↦ let f = gap_falls r e u.0 u.1 ok rest j p at g.0 in later_wake p.queue p.side e es (within_round es u.0 new (round_next r e u.0 u.1 ok) (rest_next r e u.0 u.1 u.2 rest) u.3 j p b g.1 (ap (λ ns. slice_get ns j) (u.1.needs u.2) ∙ need) w (omega (arith, h, f)))
]

-- any end makes a wake within two
within_two : (es : List Event) (r new : Round) → IsRound r → is_at_rest r ≡ true → Unmarked r es new → (j : ℕ) (p : Post) (b : Bool) → slice_get r.posts j ≡ Some p → slice_get r.needs j ≡ Some b → gap r p.queue + 1 + length r.posts ≤ length es → WokenInVain p.queue p.side es
within_two [] r new ok rest u j p b at need h = absurd (omega (arith, h))
within_two (e ∷ es) r new ok rest u j p b at need h = elim (moved_or r e u.0 u.1 ok j p b at need) [
  | inl g ↦
      let need' : slice_get u.0.needs j ≡ Some b = ap (λ ns. slice_get ns j) (u.1.needs u.2) ∙ need in
      let small = gap_small u.0 j u.1.posted.moved g.3 in
      let long = same_length r e u.0 u.1 ok in
      let w = within_round es u.0 new (round_next r e u.0 u.1 ok) (rest_next r e u.0 u.1 u.2 rest) u.3 j u.1.posted.moved b g.3 need' (then_waking p u.1.posted.moved b e g.2 (ap (λ (x : Post). is_mark_at x e) g.0 ∙ u.2) (rest_at r.posts r.needs j p b rest at need)) (omega (arith, h, small, long)) in
      later_wake p.queue p.side e es (subst (λ s. WokenInVain p.queue s es) (side_is p u.1.posted.moved b e g.2) (subst (λ n. WokenInVain n u.1.posted.moved.side es) (queue_is p u.1.posted.moved b e g.2) w))
  | inr g ↦
      let f = gap_falls r e u.0 u.1 ok rest j p at g.0 in
      let long = same_length r e u.0 u.1 ok in
      later_wake p.queue p.side e es (within_two es u.0 new (round_next r e u.0 u.1 ok) (rest_next r e u.0 u.1 u.2 rest) u.3 j p b g.1 (ap (λ ns. slice_get ns j) (u.1.needs u.2) ∙ need) (omega (arith, h, f, long)))
]

pub two_rounds : (r new : Round) (es : List Event) → IsRound r → is_at_rest r ≡ true → Unmarked r es new → length r.posts + length r.posts ≤ length es → (j : ℕ) (p : Post) → slice_get r.posts j ≡ Some p → WokenInVain p.queue p.side es
two_rounds r new es ok rest u h j p at = let n = need_at r.posts r.needs j p ok.needs at in let small = gap_small r j p at in within_two es r new ok rest u j p n.0 at n.1 (omega (arith, h, small))
