-- Which ends may be unsettled, and the lowest of those that aren't settled.
use Rattle.std.proofs.Common.{◌≡◌, ◌⊎◌, ◌+◌, ◌-◌, ◌*◌, ◌/◌, ◌%◌, ◌^◌, ◌≤◌, ◌<◌, ◌&&◌, bit_and, bit_or, w64, ℕ, zero, suc, Bool, true, false, not, Option, Some, None, is_none, is_some, inl, inr, List, [], ◌∷◌, length, drop, slice_get, slice_index_or, slice_set, refl, sym, ap, ◌∙◌, subst, add-zero, arith}
use Rattle.std.specs.Int.{bit_at, bit_not, trailing_zeros}
use Rattle.std.proofs.lemmas.Nat.{shr-shr}
use Rattle.std.specs.Int.Count.{trailing_of_zero}
use Rattle.std.proofs.Math.Nat.{div-le_self}
use Rattle.std.proofs.lemmas.Nat.Bits.{bit_at-zero, bit_at-trailing_zeros, bit_at_above, bit_at_set_same, bit_at_set_other, bit_at_clear_same, bit_at_clear_other}
use Rattle.std.proofs.lemmas.Bool.{cases_lt, cases_eq}
use Rattle.std.proofs.lemmas.List.{length-append}
use Rattle.std.proofs.lemmas.Option.{slice_get_within, slice_get-get_or}
use Rattle.wire_core.proofs.Places.{slice_get_beside}
use Rattle.wire_core.specs.declared.names.Event.{Event}
use Rattle.wire_core.specs.declared.names.QueueId.{QueueId}
use Rattle.turn_kit.specs.Table.{is_settled}
use Rattle.turn_kit.specs.Turns.{Post, PostedAt, lower_if, unsettled_from}
use Rattle.turn_kit.specs.ManyEnds.{needs_from, intake_posts, outlet_posts}
use Rattle.turn_kit.specs.Posts.{intake_post}
use Rattle.turn_kit.specs.declared.turns.Stand.{Stand}
use Rattle.turn_kit.specs.declared.end_state.EndState.{EndState}
use Rattle.buffer_kit.specs.declared.virt_ends.VirtEnd.{VirtEnd}
use Rattle.buffer_kit.specs.declared.virt_ends.VirtEnd.TheVariants as At
use Rattle.buffer_kit.specs.declared.virt_ends.VirtEnds.{VirtEnds}
use Rattle.buffer_kit.specs.Virtualising.{SameVirt, IsThere, from_queues, to_queues, virt_posts, virt_needs, place_of, need_of}
use Rattle.buffer_kit.proofs.ManyClients.{some_eq}
use Rattle.buffer_kit.proofs.TwoLists.{needs_length}
use Rattle.i2c_virt.specs.declared.loose.Loose.{Loose}
use Rattle.i2c_virt.specs.declared.desk.Desk.{Desk}
use Rattle.i2c_virt.specs.declared.virtualiser.I2cVirt.{I2cVirt}
use Rattle.i2c_virt.specs.declared.work.Stray.{Stray}
use Rattle.i2c_virt.specs.declared.work.Work.{Work}
use Rattle.i2c_virt.specs.Works.{WorkIsStill, RisesOnlyAt, is_owing, wants_at, gives_at}
use Rattle.i2c_virt.specs.Desks.{is_open}
use Rattle.buffer_kit.specs.Clients.{is_so}
use Rattle.i2c_virt.specs.Virtualising.{AreLoose, IsLeft, IsSettledEnd, i2c_virt_round, lowest_of}
use Rattle.i2c_virt.proofs.Lowest.{need_there, needs_still, same_place, same_need, from_long, to_long, IsSettledAt, IsQueueAt}

-- a bit that is set, cleared, or not before the next

pub with_bit : (n b k : ℕ) → b < 64 → bit_at (bit_or n (1 * 2 ^ b % 2 ^ 64)) k ≡ 0 → (bit_at n k ≡ 0) × (k ≡ b → ⊥)
with_bit n b k lt h = by (cases_eq k b)
  where
    by : (k ≡ b) ⊎ (k ≡ b → ⊥) → (bit_at n k ≡ 0) × (k ≡ b → ⊥)
    by (inl e) =
        let one : bit_at (bit_or n (1 * 2 ^ b % 2 ^ 64)) b ≡ 1 = bit_at_set_same w64 n b lt in
        let no : 1 ≡ 0 = sym one ∙ (ap (bit_at (bit_or n (1 * 2 ^ b % 2 ^ 64))) (sym e) ∙ h) in
        absurd (omega (arith, no))
    by (inr off) = (sym (bit_at_set_other w64 n b lt k off) ∙ h, off)

pub without_bit : (n b k : ℕ) (settled : Bool) → b < 64 → k < 64 → settled ≡ true → bit_at (bit_and n (bit_not w64 (1 * 2 ^ b % 2 ^ 64))) k ≡ 0 → (k ≡ b → settled ≡ false) → bit_at n k ≡ 0
without_bit n b k settled lt small is h off = by (cases_eq k b)
  where
    by : (k ≡ b) ⊎ (k ≡ b → ⊥) → bit_at n k ≡ 0
    by (inl e) = let no : true ≡ false = sym is ∙ off e in cc
    by (inr other) = sym (bit_at_clear_other w64 n b lt k small other) ∙ h

pub bit_off : (n b : ℕ) → b < 64 → bit_at (bit_and n (bit_not w64 (1 * 2 ^ b % 2 ^ 64))) b ≡ 0
bit_off n b lt = bit_at_clear_same w64 n b lt

pub bits_beside : (n b k : ℕ) (settled : Bool) → b < 64 → k < 64 → settled ≡ true → (k ≡ b → settled ≡ false) → bit_at (bit_and n (bit_not w64 (1 * 2 ^ b % 2 ^ 64))) k ≡ bit_at n k
bits_beside n b k settled lt small is off = by (cases_eq k b)
  where
    by : (k ≡ b) ⊎ (k ≡ b → ⊥) → bit_at (bit_and n (bit_not w64 (1 * 2 ^ b % 2 ^ 64))) k ≡ bit_at n k
    by (inl e) = let no : true ≡ false = sym is ∙ off e in cc
    by (inr other) = bit_at_clear_other w64 n b lt k small other

pub before_next : (n b k : ℕ) → n < 2 ^ 64 → b ≤ k → k < b + trailing_zeros w64 (n / 2 ^ b) → bit_at n k ≡ 0
before_next n b k fits le lt =
    let on : b + (k - b) ≡ k = omega (arith, le) in
    let shifted : bit_at (n / 2 ^ b) (k - b) ≡ bit_at n k = ap (λ x. x % 2) (shr-shr n b (k - b)) ∙ ap (bit_at n) on in
    sym shifted ∙ by (n / 2 ^ b) refl
  where
    by : (rest : ℕ) → rest ≡ n / 2 ^ b → bit_at (n / 2 ^ b) (k - b) ≡ 0
    by zero is = ap (λ x. bit_at x (k - b)) (sym is) ∙ bit_at-zero (k - b)
    by (suc rest) is =
        let small : n / 2 ^ b ≤ n = div-le_self n (2 ^ b) in
        (bit_at-trailing_zeros w64 (n / 2 ^ b) (omega (arith, is)) (omega (arith, small, fits))).2 (k - b) (omega (arith, lt, le))

-- the next one is set; where there is none, it is past all of them
next_shifted : (n b : ℕ) → bit_at (n / 2 ^ b) (trailing_zeros w64 (n / 2 ^ b)) ≡ bit_at n (b + trailing_zeros w64 (n / 2 ^ b))
next_shifted n b = ap (λ x. x % 2) (shr-shr n b (trailing_zeros w64 (n / 2 ^ b)))

none_after : (n b : ℕ) → 0 ≡ n / 2 ^ b → trailing_zeros w64 (n / 2 ^ b) ≡ 64
none_after n b is = ap (trailing_zeros w64) (sym is) ∙ trailing_of_zero 64

next_bit : (n b rest : ℕ) → n < 2 ^ 64 → suc rest ≡ n / 2 ^ b → bit_at n (b + trailing_zeros w64 (n / 2 ^ b)) ≡ 1
next_bit n b rest fits is =
    let small : n / 2 ^ b ≤ n = div-le_self n (2 ^ b) in
    sym (next_shifted n b) ∙ (bit_at-trailing_zeros w64 (n / 2 ^ b) (omega (arith, is)) (omega (arith, small, fits))).1

pub next_set : (n b : ℕ) → n < 2 ^ 64 → b + trailing_zeros w64 (n / 2 ^ b) < 64 → bit_at n (b + trailing_zeros w64 (n / 2 ^ b)) ≡ 1
next_set n b fits lt = by (n / 2 ^ b) refl
  where
    by : (rest : ℕ) → rest ≡ n / 2 ^ b → bit_at n (b + trailing_zeros w64 (n / 2 ^ b)) ≡ 1
    by zero is = let none = none_after n b is in absurd (omega (arith, none, lt))
    by (suc rest) is = next_bit n b rest fits is

pub next_none : (n b : ℕ) → n < 2 ^ 64 → 64 ≤ b + trailing_zeros w64 (n / 2 ^ b) → b + trailing_zeros w64 (n / 2 ^ b) ≡ b + 64
next_none n b fits le = by (n / 2 ^ b) refl
  where
    by : (rest : ℕ) → rest ≡ n / 2 ^ b → b + trailing_zeros w64 (n / 2 ^ b) ≡ b + 64
    by zero is = ap (λ t. b + t) (none_after n b is)
    by (suc rest) is =
        let no : 1 ≡ 0 = sym (next_bit n b rest fits is) ∙ bit_at_above n 64 (b + trailing_zeros w64 (n / 2 ^ b)) fits le in
        absurd (omega (arith, no))

-- what is needed of a client comes up where its desk was replaced, or where an entry was out of turn

pub rises_at : (old new : Work) (c : ℕ) (d : Desk) → new.desks.items ≡ slice_set old.desks.items c d → new.stray ≡ old.stray → RisesOnlyAt c old new
rises_at old new c d is stray = record {
  wants = λ k off h. sym (same k off (is_so is_open)) ∙ h;
  gives = λ k off h. sym (same k off (is_so (λ (x : Desk). is_some x.held))) ∙ h;
}
  where
    at : (k : ℕ) → (k ≡ c → ⊥) → slice_get new.desks.items k ≡ slice_get old.desks.items k
    at k off = ap (λ xs. slice_get xs k) is ∙ slice_get_beside old.desks.items c k d off

    same : (k : ℕ) → (k ≡ c → ⊥) → (f : Option Desk → Bool) → (is_none new.stray && f (slice_get new.desks.items k)) ≡ (is_none old.stray && f (slice_get old.desks.items k))
    same k off f = ap (λ s. is_none s && f (slice_get new.desks.items k)) stray ∙ ap (λ x. is_none old.stray && f x) (at k off)

pub rises_strayed : (w : Work) (s : Stray) (c : ℕ) → RisesOnlyAt c w (record w { stray = Some s })
rises_strayed w s c = record { wants = λ k off h. cc; gives = λ k off h. cc }

pub rises_nowhere : (w : Work) (c : ℕ) → RisesOnlyAt c w w
rises_nowhere w c = record { wants = λ k off h. h; gives = λ k off h. h }

-- each of the ends in turn

none_needed : (x : Option Stand) (place : ℕ) (ps : List Post) → unsettled_from x place ps [] ≡ x
none_needed x place [] = refl
none_needed x place (p ∷ ps) = refl

pub past_one : (x : Option Stand) (place k : ℕ) (ps : List Post) (ns : List Bool) (p : Post) (n : Bool) → slice_get ps k ≡ Some p → slice_get ns k ≡ Some n
    → unsettled_from x place (drop k ps) (drop k ns) ≡ unsettled_from (lower_if (not (is_settled p.state n)) x (record { queue = p.queue; place = place })) (place + 1) (drop (suc k) ps) (drop (suc k) ns)
past_one x place k [] ns p n at need = cc
past_one x place k (q ∷ ps) [] p n at need = cc
past_one x place zero (q ∷ ps) (m ∷ ns) p n at need =
    ap (λ (z : Post). unsettled_from (lower_if (not (is_settled z.state m)) x (record { queue = z.queue; place = place })) (place + 1) ps ns) (some_eq at)
    ∙ ap (λ b. unsettled_from (lower_if (not (is_settled p.state b)) x (record { queue = p.queue; place = place })) (place + 1) ps ns) (some_eq need)
past_one x place (suc k) (q ∷ ps) (m ∷ ns) p n at need = past_one x place k ps ns p n at need

abbrev IsSettledIn : List Post → List Bool → ℕ → Type 0
IsSettledIn ps ns k = (p : Post) (n : Bool) → slice_get ps k ≡ Some p → slice_get ns k ≡ Some n → is_settled p.state n ≡ true

past_settled : (x : Option Stand) (place k : ℕ) (ps : List Post) (ns : List Bool) → IsSettledIn ps ns k → unsettled_from x place (drop k ps) (drop k ns) ≡ unsettled_from x (place + 1) (drop (suc k) ps) (drop (suc k) ns)
past_settled x place zero [] ns h = refl
past_settled x place (suc k) [] ns h = refl
past_settled x place zero (p ∷ ps) [] h = sym (none_needed x (place + 1) ps)
past_settled x place (suc k) (p ∷ ps) [] h = none_needed x place (drop k ps) ∙ sym (none_needed x (place + 1) (drop (suc k) ps))
past_settled x place zero (p ∷ ps) (n ∷ ns) h = ap (λ b. unsettled_from (lower_if (not b) x (record { queue = p.queue; place = place })) (place + 1) ps ns) (h p n refl refl)
past_settled x place (suc k) (p ∷ ps) (n ∷ ns) h = past_settled x place k ps ns h

past_many : (x : Option Stand) (k i : ℕ) (ps : List Post) (ns : List Bool) → ((j : ℕ) → k ≤ j → j < k + i → IsSettledIn ps ns j) → unsettled_from x k (drop k ps) (drop k ns) ≡ unsettled_from x (k + i) (drop (k + i) ps) (drop (k + i) ns)
past_many x k zero ps ns h = ap (λ j. unsettled_from x j (drop j ps) (drop j ns)) (sym (add-zero k))
past_many x k (suc i) ps ns h =
    let next : k + 1 ≡ suc k = omega arith in
    let on : suc k + i ≡ k + suc i = omega arith in
    past_settled x k k ps ns (h k (omega arith) (omega arith))
    ∙ (ap (λ n. unsettled_from x n (drop (suc k) ps) (drop (suc k) ns)) next
    ∙ (past_many x (suc k) i ps ns (λ j a b. h j (omega (arith, a)) (omega (arith, b)))
    ∙ ap (λ n. unsettled_from x n (drop n ps) (drop n ns)) on))

-- up to a place, where all between are settled
past_to : (x : Option Stand) (k n : ℕ) (ps : List Post) (ns : List Bool) → k ≤ n → ((j : ℕ) → k ≤ j → j < n → IsSettledIn ps ns j) → unsettled_from x k (drop k ps) (drop k ns) ≡ unsettled_from x n (drop n ps) (drop n ns)
past_to x k n ps ns le h =
    let on : k + (n - k) ≡ n = omega (arith, le) in
    past_many x k (n - k) ps ns (λ j a b. h j a (omega (arith, b, le))) ∙ ap (λ j. unsettled_from x j (drop j ps) (drop j ns)) on

past_end : (x : Option Stand) (place k : ℕ) (ps : List Post) (ns : List Bool) → length ps ≤ k → unsettled_from x place (drop k ps) (drop k ns) ≡ x
past_end x place zero [] ns h = refl
past_end x place (suc k) [] ns h = refl
past_end x place zero (p ∷ ps) ns h = absurd (omega (arith, h))
past_end x place (suc k) (p ∷ ps) [] h = none_needed x place (drop k ps)
past_end x place (suc k) (p ∷ ps) (n ∷ ns) h = past_end x place k ps ns (omega (arith, h))

-- the ends are looked at in their order, but for those that aren't loose: from a place on the rest
-- gives the same as all of them
module _ (ps : List Post) (ns : List Bool) where
  abbrev pub Rest : Option Stand → ℕ → Type 0
  Rest x place = unsettled_from x place (drop place ps) (drop place ns) ≡ unsettled_from None 0 ps ns

  -- between a place and the next none is loose
  skipped : (l place next : ℕ) (x : Option Stand) → place ≤ next → length ps ≤ 63 → ((k : ℕ) → k < 64 → bit_at l k ≡ 0 → IsSettledIn ps ns k) → ((k : ℕ) → place ≤ k → k < next → bit_at l k ≡ 0)
      → unsettled_from x place (drop place ps) (drop place ns) ≡ unsettled_from x next (drop next ps) (drop next ns)
  skipped l place next x le few loose between = past_to x place next ps ns le (λ j a b. by j a b (cases_lt j 64))
    where
      by : (j : ℕ) → place ≤ j → j < next → (j < 64) ⊎ (64 ≤ j) → IsSettledIn ps ns j
      by j a b (inl small) = loose j small (between j a b)
      by j a b (inr big) = λ p n there needed. let within = slice_get_within ps j p there in absurd (omega (arith, within, few, big))

  pub rest_first : (l next : ℕ) (x : Option Stand) → length ps ≤ 63 → ((k : ℕ) → k < 64 → bit_at l k ≡ 0 → IsSettledIn ps ns k) → ((k : ℕ) → 0 ≤ k → k < next → bit_at l k ≡ 0) → x ≡ None → Rest x next
  rest_first l next x few loose between is = sym (skipped l 0 next x (omega arith) few loose between) ∙ ap (λ y. unsettled_from y 0 ps ns) is

  -- past the next, which is counted unless it is settled
  pub rest_on : (l place next : ℕ) (x y : Option Stand) (p : Post) (n : Bool) → place + 1 ≤ next → Rest x place → slice_get ps place ≡ Some p → slice_get ns place ≡ Some n
      → y ≡ lower_if (not (is_settled p.state n)) x (record { queue = p.queue; place = place }) → ((k : ℕ) → k < 64 → bit_at l k ≡ 0 → IsSettledIn ps ns k) → length ps ≤ 63
      → ((k : ℕ) → place + 1 ≤ k → k < next → bit_at l k ≡ 0) → Rest y next
  rest_on l place next x y p n le rest at need is loose few between =
      let on : suc place ≡ place + 1 = omega arith in
      let one : unsettled_from x place (drop place ps) (drop place ns) ≡ unsettled_from y (place + 1) (drop (place + 1) ps) (drop (place + 1) ns) =
      past_one x place place ps ns p n at need
      ∙ (ap (λ j. unsettled_from (lower_if (not (is_settled p.state n)) x (record { queue = p.queue; place = place })) (place + 1) (drop j ps) (drop j ns)) on
      ∙ ap (λ z. unsettled_from z (place + 1) (drop (place + 1) ps) (drop (place + 1) ns)) (sym is)) in
      sym (skipped l (place + 1) next y le few loose between) ∙ (sym one ∙ rest)

  pub rest_last : (x : Option Stand) (place : ℕ) → length ps ≤ place → Rest x place → x ≡ unsettled_from None 0 ps ns
  rest_last x place le rest = sym (past_end x place place ps ns le) ∙ rest

-- the end that was looked at is loose still, unless it is settled
pub loose_on : (l l' place : ℕ) (settled : Bool) (ps : List Post) (ns : List Bool) → ((k : ℕ) → k < 64 → bit_at l k ≡ 0 → IsSettledIn ps ns k) → ((p : Post) (n : Bool) → slice_get ps place ≡ Some p → slice_get ns place ≡ Some n → settled ≡ is_settled p.state n)
    → ((k : ℕ) → k < 64 → bit_at l' k ≡ 0 → (k ≡ place → settled ≡ false) → bit_at l k ≡ 0) → (k : ℕ) → k < 64 → bit_at l' k ≡ 0 → IsSettledIn ps ns k
loose_on l l' place settled ps ns loose here less k lt clear = by settled refl (cases_eq k place)
  where
    by : (b : Bool) → settled ≡ b → (k ≡ place) ⊎ (k ≡ place → ⊥) → IsSettledIn ps ns k
    by b is (inr off) = loose k lt (less k lt clear (λ e. absurd (off e)))
    by false is (inl e) = loose k lt (less k lt clear (λ e. is))
    by true is (inl e) = λ p n at need. sym (here p n (ap (slice_get ps) (sym e) ∙ at) (ap (slice_get ns) (sym e) ∙ need)) ∙ is

-- an end at each place
pub end_there : (v : VirtEnds) (k : ℕ) → k < 2 + length (from_queues v) + length (to_queues v) → (a : VirtEnd) × (place_of v a ≡ k) × IsThere v a
end_there v zero lt = (At.Input, refl, tt)
end_there v (suc zero) lt = (At.Output, refl, tt)
end_there v (suc (suc i)) lt = by (cases_lt i (length (from_queues v)))
  where
    by : (i < length (from_queues v)) ⊎ (length (from_queues v) ≤ i) → (a : VirtEnd) × (place_of v a ≡ suc (suc i)) × IsThere v a
    by (inl a) = (At.FromClient i, omega arith, a)
    by (inr b) = (At.ToClient (i - length (from_queues v)), omega (arith, b), omega (arith, lt, b))

needs_long : (v : VirtEnds) (need owed : Bool) (needs loads : ℕ → Bool) → length (virt_needs v need owed needs loads) ≡ 2 + length (from_queues v) + length (to_queues v)
needs_long v need owed needs loads =
    let a = needs_length needs 0 (from_queues v) in
    let b = needs_length loads 0 (to_queues v) in
    let all = length-append (needs_from needs 0 (from_queues v)) (needs_from loads 0 (to_queues v)) in
    omega (arith, a, b, all)

-- an end that is settled is so where it isn't needed
idle : (a b : Bool) → (a && b) ≡ true → (a && true) ≡ true
idle true b h = refl
idle false b h = h

still_settled : (s : EndState) (a b : Bool) → (b ≡ true → a ≡ true) → is_settled s a ≡ true → is_settled s b ≡ true
still_settled s a false falls h = idle _ _ h
still_settled s a true falls h = ap (is_settled s) (sym (falls refl)) ∙ h

there_same : (v w : VirtEnds) → SameVirt v w → (a : VirtEnd) → IsThere w a → IsThere v a
there_same v w same At.Input h = tt
there_same v w same At.Output h = tt
there_same v w same (At.FromClient k) h = subst (λ (qs : List QueueId). k < length qs) same.from_clients h
there_same v w same (At.ToClient k) h = subst (λ (qs : List QueueId). k < length qs) same.to_clients h

abbrev pub need_in : I2cVirt → VirtEnd → Bool
need_in v a = need_of (is_none v.work.stray) (is_owing v.work) (wants_at v.work) (gives_at v.work) a

module _ (v w : I2cVirt) (same : SameVirt v.ends w.ends) (at : VirtEnd) (there : IsThere v.ends at) (e : Event) (client : ℕ) (moved : Bool) (still : moved ≡ false → WorkIsStill v.work w.work) (rises : RisesOnlyAt client v.work w.work)
    (t : PostedAt (virt_posts v.ends) (place_of v.ends at) (need_in v at) e (virt_posts w.ends)) (loose : w.loose ≡ v.loose) (known : AreLoose v.loose (i2c_virt_round v)) where
  -- an end that isn't touched stays settled
  pub left_settled : (k : ℕ) → k < 64 → IsLeft w at moved client k → IsSettledEnd (i2c_virt_round w) k
  left_settled k lt l p need hp hn = by moved refl
    where
      post : slice_get (virt_posts v.ends) k ≡ Some p
      post = sym (slice_get_beside (virt_posts v.ends) (place_of v.ends at) k t.moved (λ h. l.another (h ∙ sym (same_place v.ends w.ends same at)))) ∙ (ap (λ ps. slice_get ps k) (sym t.after) ∙ hp)

      clear : bit_at v.loose.bits k ≡ 0
      clear = ap (λ (x : Loose). bit_at x.bits k) (sym loose) ∙ l.clear

      rise : moved ≡ true → (a : VirtEnd) → place_of w.ends a ≡ k → need_in w a ≡ true → need_in v a ≡ true
      rise m At.Input h n = absurd ((l.besides m).input (sym h))
      rise m At.Output h n = absurd ((l.besides m).output (sym h))
      rise m (At.FromClient j) h n = rises.wants j (λ d. (l.besides m).from (sym h ∙ ap (λ i. 2 + i) d)) n
      rise m (At.ToClient j) h n = rises.gives j (λ d. (l.besides m).to (sym h ∙ ap (λ i. 2 + length (from_queues w.ends) + i) d)) n

      at_end : moved ≡ true → (a : VirtEnd) × (place_of w.ends a ≡ k) × IsThere w.ends a → is_settled p.state need ≡ true
      at_end m (a, is, here) =
          let now : need ≡ need_in w a = some_eq (sym hn ∙ (ap (slice_get (i2c_virt_round w).needs) (sym is) ∙ need_there w.ends (is_none w.work.stray) (is_owing w.work) (wants_at w.work) (gives_at w.work) a here)) in
          let before : slice_get (i2c_virt_round v).needs k ≡ Some (need_in v a) = ap (slice_get (i2c_virt_round v).needs) (sym is ∙ same_place v.ends w.ends same a) ∙ need_there v.ends (is_none v.work.stray) (is_owing v.work) (wants_at v.work) (gives_at v.work) a (there_same v.ends w.ends same a here) in
          still_settled p.state (need_in v a) need (λ n. rise m a is (sym now ∙ n)) (known k lt clear p (need_in v a) post before)

      by : (b : Bool) → moved ≡ b → is_settled p.state need ≡ true
      by false m = known k lt clear p need post (ap (λ ns. slice_get ns k) (sym (needs_still v w same (still m))) ∙ hn)
      by true m =
          let within = slice_get_within (i2c_virt_round w).needs k need hn in
          let long = needs_long w.ends (is_none w.work.stray) (is_owing w.work) (wants_at w.work) (gives_at w.work) in
          at_end m (end_there w.ends k (omega (arith, within, long)))

  -- a call that moved no entry and left whether its end is settled leaves what is loose
  pub loose_kept : moved ≡ false → (was : Bool) → ((p : Post) → slice_get (virt_posts v.ends) (place_of v.ends at) ≡ Some p → was ≡ is_settled p.state (need_in v at))
      → ((p : Post) → slice_get (virt_posts w.ends) (place_of w.ends at) ≡ Some p → was ≡ is_settled p.state (need_in w at)) → AreLoose w.loose (i2c_virt_round w)
  loose_kept m was before after k lt clear p need hp hn = by (cases_eq k (place_of w.ends at))
    where
      none_moved : moved ≡ true → ⊥
      none_moved h = let no : true ≡ false = sym h ∙ m in cc

      here : k ≡ place_of w.ends at → is_settled p.state need ≡ true
      here is =
          let place : place_of w.ends at ≡ place_of v.ends at = same_place v.ends w.ends same at in
          let needed : need ≡ need_in v at = some_eq (sym hn ∙ (ap (λ ns. slice_get ns k) (needs_still v w same (still m)) ∙ (ap (slice_get (i2c_virt_round v).needs) (is ∙ place) ∙ need_there v.ends (is_none v.work.stray) (is_owing v.work) (wants_at v.work) (gives_at v.work) at there))) in
          let first : is_settled t.post.state (need_in v at) ≡ true = known k lt (ap (λ (x : Loose). bit_at x.bits k) (sym loose) ∙ clear) t.post (need_in v at) (ap (slice_get (virt_posts v.ends)) (is ∙ place) ∙ t.there)
          (ap (slice_get (i2c_virt_round v).needs) (is ∙ place) ∙ need_there v.ends (is_none v.work.stray) (is_owing v.work) (wants_at v.work) (gives_at v.work) at there) in
          ap (is_settled p.state) (needed ∙ sym (same_need v.work w.work (still m) at)) ∙ (sym (after p (ap (slice_get (virt_posts w.ends)) (sym is) ∙ hp)) ∙ (before t.post t.there ∙ first))

      by : (k ≡ place_of w.ends at) ⊎ (k ≡ place_of w.ends at → ⊥) → is_settled p.state need ≡ true
      by (inl is) = here is
      by (inr off) = left_settled k lt (record { clear = clear; another = off; besides = λ h. absurd (none_moved h) }) p need hp hn

-- as many ends as are counted
posts_long : (v : VirtEnds) → length (virt_posts v) ≡ 2 + length (from_queues v) + length (to_queues v)
posts_long v =
    let a = from_long v in
    let b = to_long v in
    let all = length-append (intake_posts v.from_clients) (outlet_posts v.to_clients) in
    omega (arith, a, b, all)

pub first_on : (v : I2cVirt) (next count : ℕ) (x : Option Stand) → count ≡ 2 + length (from_queues v.ends) + length (to_queues v.ends) → count ≤ 63 → AreLoose v.loose (i2c_virt_round v) → ((k : ℕ) → 0 ≤ k → k < next → bit_at v.loose.bits k ≡ 0) → x ≡ None
    → AreLoose v.loose (i2c_virt_round v) × Rest (i2c_virt_round v).posts (i2c_virt_round v).needs x next
first_on v next count x many few loose between none =
    let long = posts_long v.ends in
    (loose, rest_first (i2c_virt_round v).posts (i2c_virt_round v).needs v.loose.bits next x (omega (arith, long, many, few)) loose between none)

pub last_on : (v : I2cVirt) (place count : ℕ) (x : Option Stand) → count ≡ 2 + length (from_queues v.ends) + length (to_queues v.ends) → count ≤ place → Rest (i2c_virt_round v).posts (i2c_virt_round v).needs x place → x ≡ lowest_of v
last_on v place count x many le rest =
    let long = posts_long v.ends in
    rest_last (i2c_virt_round v).posts (i2c_virt_round v).needs x place (omega (arith, long, many, le)) rest

-- one end more was looked at
pub looked_on : (v : I2cVirt) (at : VirtEnd) (l l' : Loose) (place next count : ℕ) (x y : Option Stand) (settled : Bool) (queue : ℕ) → count ≡ 2 + length (from_queues v.ends) + length (to_queues v.ends) → count ≤ 63 → place < count → place_of v.ends at ≡ place → IsThere v.ends at → place + 1 ≤ next
    → IsSettledAt v at settled → IsQueueAt v at queue → y ≡ lower_if (not settled) x (record { queue = queue; place = place }) → ((k : ℕ) → k < 64 → bit_at l'.bits k ≡ 0 → (k ≡ place → settled ≡ false) → bit_at l.bits k ≡ 0) → ((k : ℕ) → place + 1 ≤ k → k < next → bit_at l'.bits k ≡ 0)
    → AreLoose l (i2c_virt_round v) × Rest (i2c_virt_round v).posts (i2c_virt_round v).needs x place → AreLoose l' (i2c_virt_round v) × Rest (i2c_virt_round v).posts (i2c_virt_round v).needs y next
looked_on v at l l' place next count x y settled queue many few lt is there le here on counted less between so =
    let ps : List Post = (i2c_virt_round v).posts in
    let ns : List Bool = (i2c_virt_round v).needs in
    let long = posts_long v.ends in
    let p : Post = slice_index_or ps place (intake_post v.ends.input) in
    let post : slice_get ps place ≡ Some p = slice_get-get_or ps place (intake_post v.ends.input) (omega (arith, long, many, lt)) in
    let need : slice_get ns place ≡ Some (need_in v at) = ap (slice_get ns) (sym is) ∙ need_there v.ends (is_none v.work.stray) (is_owing v.work) (wants_at v.work) (gives_at v.work) at there in
    let same : settled ≡ is_settled p.state (need_in v at) = here p (ap (slice_get ps) is ∙ post) in
    let queued : queue ≡ p.queue = on p (ap (slice_get ps) is ∙ post) in
    let loose : AreLoose l' (i2c_virt_round v) = loose_on l.bits l'.bits place settled ps ns so.0 (λ q m a b. here q (ap (slice_get ps) is ∙ a) ∙ ap (is_settled q.state) (some_eq (sym need ∙ b))) less in
    let now : y ≡ lower_if (not (is_settled p.state (need_in v at))) x (record { queue = p.queue; place = place }) =
    counted ∙ (ap (λ b. lower_if (not b) x (record { queue = queue; place = place })) same ∙ ap (λ q. lower_if (not (is_settled p.state (need_in v at))) x (record { queue = q; place = place })) queued) in
    (loose, rest_on ps ns l'.bits place next x y p (need_in v at) le so.1 post need now loose (omega (arith, long, many, few)) between)

-- no entry was moved
pub no_item : {X : Type 0} (o : Option X) (b : Bool) → b ≡ is_some o → b ≡ false → o ≡ None
no_item None b h n = refl
no_item (Some x) b h n = let no : true ≡ false = sym h ∙ n in cc
