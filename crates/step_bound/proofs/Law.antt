use Rattle.std.proofs.Common.{◌≡◌, ◌+◌, ◌*◌, ◌<◌, ◌≤◌, ℕ, zero, suc, Bool, true, false, cond, Some, List, [], ◌∷◌, length, length-append, slice_get, refl, sym, ap, ◌∙◌, arith}
use Rattle.std.proofs.Math.Nat.{mul-add, mul-one, mul-zero, mul-suc}
use Rattle.std.proofs.lemmas.Nat.{mul-le}
use Rattle.cargo_core.specs.Lists.{IsPrefix}
use Rattle.std.proofs.lemmas.List.{append-nil}
use Rattle.wire_core.specs.declared.names.Entry.{Entry}
use Rattle.wire_core.specs.declared.names.QueueRow.{QueueRow}
use Rattle.wire_core.specs.Bells.{bit}
use Rattle.wire_core.specs.Journal.{History, Hostiles, track, LegalJournal, BellsHold, QueuesFlow}
use Rattle.wire_core.proofs.BellTheorem.{queues_flow}
use Rattle.wire_core.proofs.Tracks.{EachMoment-at}
use Rattle.wire_core.specs.Marks.{Drops, is_marked, dropped, AreFew, Brisk, AreOwned, ends_of, all_sent, since, sum_below}
use Rattle.step_bound.specs.Calm.{AreCalm}
use Rattle.step_bound.proofs.Sums.{sum_le}
use Rattle.step_bound.proofs.Paying.{marks_on, journal_pays}
use Rattle.step_bound.proofs.Counting.{all_marks, plain_marks, marks_or_drops, marks_within}
use Rattle.step_bound.proofs.Walking.{weigh, walk, few_now}

row_at : (rows : List QueueRow) (n : ℕ) → n < length rows → (row : QueueRow) × (slice_get rows n ≡ Some row)
row_at [] n l = absurd (omega (arith, l))
row_at (row ∷ rows) zero l = (row, refl)
row_at (row ∷ rows) (suc n) l = row_at rows n (omega (arith, l))

weigh_is : (drops : Drops) (w : ℕ) (es : List Entry) → weigh drops w es ≡ w * all_marks drops es
weigh_is drops w [] = sym (mul-zero w)
weigh_is drops w (e ∷ es) = go (is_marked drops e) (weigh_is drops w es)
  where
    go : (b : Bool) → weigh drops w es ≡ w * all_marks drops es → cond b w 0 + weigh drops w es ≡ w * (bit b + all_marks drops es)
    go b h = ap (λ x. cond b w 0 + x) h ∙ (ap (λ x. x + w * all_marks drops es) (one b) ∙ sym (mul-add w (bit b) (all_marks drops es)))
      where
        one : (b : Bool) → cond b w 0 ≡ w * bit b
        one true = sym (mul-one w)
        one false = sym (mul-zero w)

sum_times : (c k : ℕ) → sum_below (λ n. c) k ≡ c * k
sum_times c zero = sym (mul-zero c)
sum_times c (suc k) = let h = sum_times c k in ap (λ x. x + c) h ∙ go
  where
    go : c * k + c ≡ c * suc k
    go = let m = mul-suc c k in sym m

four_times : (f : ℕ → ℕ) (k : ℕ) → sum_below (λ n. 4 * f n) k ≡ 4 * sum_below f k
four_times f zero = refl
four_times f (suc k) = let h = four_times f k in omega (arith, h)

few_queue : (marks s0 k0 d0 s1 k1 d1 : ℕ) → marks + (s0 + k0 + (s0 + k0)) + d1 ≤ s1 + k1 + (s1 + k1) + d0 → d0 ≤ s0 + k0 → k1 ≤ s1 → marks ≤ 4 * s1
few_queue marks s0 k0 d0 s1 k1 d1 a b c = omega (arith, a, b, c)

prefix_short : (t : Type 0) (xs ys : List t) → IsPrefix xs ys → length xs ≤ length ys
prefix_short t xs ys p = let h = ap length p.1 in let l = length-append xs p.0 in omega (arith, h, l)

module _ (hostile : Hostiles) (history : History) (rows : List QueueRow) (journal : List Entry) (calm : AreCalm hostile rows) (hold : BellsHold hostile history rows []) (flow : QueuesFlow history rows []) (legal : LegalJournal hostile history rows journal) where
  marks_queue : (n : ℕ) → n < length rows → marks_on n journal ≤ 4 * length (track history n journal).sent
  marks_queue n l =
      let r = row_at rows n l in
      let pays = journal_pays hostile history rows n r.0 r.1 (calm n r.0 r.1) [] journal legal in
      let start = hold n r.0 r.1 (calm n r.0 r.1) in
      let cf = start.forward.counted in
      let cb = start.backward.counted in
      let ends = EachMoment-at (QueuesFlow history rows) journal journal (queues_flow hostile history rows journal flow legal) ([], append-nil journal) in
      let short = prefix_short _ _ _ (ends n r.0 r.1).begins in
      omega (arith, pays, cf, cb, short)

  pub few_marks : plain_marks journal ≤ 4 * all_sent history rows journal
  few_marks =
      let a = marks_within hostile history rows [] journal legal in
      let b = sum_le (λ n. marks_on n journal) (λ n. 4 * length (track history n journal).sent) (length rows) marks_queue in
      let c = four_times (λ n. length (track history n journal).sent) (length rows) in
      omega (arith, a, b, c)

spread : (x a m : ℕ) → 32 * (x + a + 1) * (m + 1) ≡ 32 * (m * x) + 32 * (m * a) + 32 * m + 32 * x + 32 * a + 32
spread x a m = grind arith

narrow : (x m : ℕ) → (8 * m + 1) * (4 * x) ≡ 32 * (m * x) + 4 * x
narrow x m = grind arith

pub bounded : (hostile : Hostiles) (drops : Drops) (history : History) (rows : List QueueRow) (journal : List Entry) (hops actors most : ℕ) → AreCalm hostile rows → BellsHold hostile history rows [] → QueuesFlow history rows [] → LegalJournal hostile history rows journal → Brisk hostile rows drops journal → AreOwned rows actors → ((a : ℕ) → ends_of a rows ≤ most) → all_sent history rows journal + dropped drops journal ≤ hops → length journal < 32 * (hops + actors + 1) * (most + 1)
bounded hostile drops history rows journal hops actors most calm hold flow legal brisk owned ends sent =
    let w = walk drops hostile history rows actors most owned ends calm [] journal legal (λ a. tt) brisk.0 brisk.1 in
    let now = EachMoment-at (AreFew hostile rows drops) journal journal brisk ([], append-nil journal) in
    let top = sum_le (λ a. length (since drops a journal)) (λ a. 8 * most) actors (λ a l. few_now drops hostile history rows actors most owned ends calm journal w.1 now a) in
    let tops = sum_times (8 * most) actors in
    let marks = few_marks hostile history rows journal calm hold flow legal in
    let either = marks_or_drops drops journal in
    let weight = weigh_is drops (8 * most + 1) journal in
    let heavy = mul-le (8 * most + 1) (all_marks drops journal) (8 * most + 1) (4 * hops) (omega arith) (omega (arith, marks, either, sent)) in
    let n = narrow hops most in
    let s = spread hops actors most in
    let t = eight_times most actors in
    omega (arith, w.0, top, tops, weight, heavy, n, s, t)
  where
    eight_times : (m a : ℕ) → 8 * m * a ≡ 8 * (m * a)
    eight_times m a = grind arith
