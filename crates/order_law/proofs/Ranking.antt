-- Which call may come first: a put at a time before the take of what was put then, and both after
-- all that came before.
use Rattle.std.proofs.Common.{◌≡◌, ◌⊎◌, inl, inr, ⊎_elim, ◌∙◌, ℕ, ◌+◌, ◌*◌, ◌<◌, ◌≤◌, List, [], ◌∷◌, ◌++◌, length, length-append, refl, sym, ap, subst, arith, append-nil, append_assoc, Some, slice_get}
use mathlib.Core.Logic.{dite}
use native.Mathlib.Decide.{ℕ_discrete, dec_le}
use Rattle.wire_core.specs.declared.names.Op.{Op}
use Rattle.wire_core.specs.declared.names.Op.TheVariants as Do
use Rattle.cargo_core.specs.declared.act.Word.TheVariants as Words
use Rattle.wire_core.specs.declared.names.Side.TheVariants.{Forward, Backward}
use Rattle.wire_core.specs.Deeds.{Cargo}
use Rattle.wire_core.specs.Ends.{Role, Consumer, Producer, role_of}
use Rattle.seat_wires.specs.Places.Are.{SeatsAre}
use Rattle.seat_wires.specs.Times.{times_at, ComesAfter, AddsTime}
use Rattle.seat_wires.proofs.Timing.{times_go}
use Rattle.actor_set.specs.declared.actor.Actor.{Actor}
use Rattle.order_law.specs.Tales.{Call, Made, Goes}
use Rattle.order_law.specs.Orders.{entries_at}
use Rattle.order_law.proofs.Lists.{get_front, get_last, get_within, same_some}
use Rattle.order_law.proofs.Moving.{moved_by, entries_go, times_begin}

-- the last time of these
abbrev pub last_or : ℕ → List ℕ → ℕ
last_or d [] = d
last_or d (t ∷ ts) = last_or t ts

last_is : (d t : ℕ) (ts : List ℕ) → last_or d (ts ++ t ∷ []) ≡ t
last_is d t [] = refl
last_is d t (u ∷ ts) = last_is u t ts

-- the rank of a call, by the times at the ends after it
abbrev pub rank_of : Op → ℕ → SeatsAre → ℕ
rank_of Do.Put n t = 2 * last_or 0 (times_at t Producer n)
rank_of Do.Take n t = 2 * last_or 0 (times_at t Consumer n) + 1
rank_of Do.See n t = 0
rank_of Do.Room n t = 0
rank_of (Do.Ask x) n t = 0
rank_of (Do.Waive x) n t = 0
rank_of (Do.Wake x) n t = 0
rank_of (Do.Wanted x) n t = 0
rank_of (Do.Settle x) n t = 0
rank_of (Do.Ring x) n t = 0
rank_of (Do.Store w v) n t = 0

abbrev pub rank : Call → ℕ
rank c = rank_of c.deed.event.op c.deed.event.queue.0 c.seats

-- a call that leaves ends at which all passed before a time comes before the take of that time
low : (o : Op) (s t : SeatsAre) (n time : ℕ) → AddsTime o s n t → ComesAfter t time → rank_of o n t < 2 * time + 1
low Do.Put s t n time adds after = let is : last_or 0 (times_at t Producer n) ≡ adds.0 = ap (last_or 0) adds.1 ∙ last_is 0 adds.0 (times_at s Producer n) in
    let less : adds.0 < time = after Producer n (length (times_at s Producer n)) adds.0 (ap (λ (z : List ℕ). slice_get z (length (times_at s Producer n))) adds.1 ∙ get_last (times_at s Producer n) adds.0 []) in omega (arith, is, less)
low Do.Take s t n time adds after = let is : last_or 0 (times_at t Consumer n) ≡ adds.0 = ap (last_or 0) adds.1 ∙ last_is 0 adds.0 (times_at s Consumer n) in
    let less : adds.0 < time = after Consumer n (length (times_at s Consumer n)) adds.0 (ap (λ (z : List ℕ). slice_get z (length (times_at s Consumer n))) adds.1 ∙ get_last (times_at s Consumer n) adds.0 []) in omega (arith, is, less)
low Do.See s t n time adds after = omega arith
low Do.Room s t n time adds after = omega arith
low (Do.Ask x) s t n time adds after = omega arith
low (Do.Waive x) s t n time adds after = omega arith
low (Do.Wake x) s t n time adds after = omega arith
low (Do.Wanted x) s t n time adds after = omega arith
low (Do.Settle x) s t n time adds after = omega arith
low (Do.Ring x) s t n time adds after = omega arith
low (Do.Store w v) s t n time adds after = omega arith

-- a call leaves the times of a producing end as they are, or it puts there
stays_or_puts : (o : Op) (s t : SeatsAre) (q n : ℕ) → AddsTime o s q t → ((r : Role) (m : ℕ) → (r ≡ role_of o → m ≡ q → ⊥) → times_at t r m ≡ times_at s r m)
    → (times_at t Producer n ≡ times_at s Producer n) ⊎ ((o ≡ Do.Put) × (n ≡ q))
stays_or_puts Do.See s t q n adds others = inl (others Producer n (λ e _. (let z : Producer ≡ Consumer = e in cc)))
stays_or_puts Do.Take s t q n adds others = inl (others Producer n (λ e _. (let z : Producer ≡ Consumer = e in cc)))
stays_or_puts Do.Put s t q n adds others = dite (ℕ_discrete n q) (λ at. inr (refl, at)) (λ ne. inl (others Producer n (λ _ e. ne e)))
stays_or_puts Do.Room s t q n adds others = dite (ℕ_discrete n q) (λ at. inl (subst (λ (z : ℕ). times_at t Producer z ≡ times_at s Producer z) (sym at) adds)) (λ ne. inl (others Producer n (λ _ e. ne e)))
stays_or_puts (Do.Ask Forward) s t q n adds others = inl (others Producer n (λ e _. (let z : Producer ≡ Consumer = e in cc)))
stays_or_puts (Do.Ask Backward) s t q n adds others = dite (ℕ_discrete n q) (λ at. inl (subst (λ (z : ℕ). times_at t Producer z ≡ times_at s Producer z) (sym at) adds)) (λ ne. inl (others Producer n (λ _ e. ne e)))
stays_or_puts (Do.Waive Forward) s t q n adds others = inl (others Producer n (λ e _. (let z : Producer ≡ Consumer = e in cc)))
stays_or_puts (Do.Waive Backward) s t q n adds others = dite (ℕ_discrete n q) (λ at. inl (subst (λ (z : ℕ). times_at t Producer z ≡ times_at s Producer z) (sym at) adds)) (λ ne. inl (others Producer n (λ _ e. ne e)))
stays_or_puts (Do.Wake Forward) s t q n adds others = inl (others Producer n (λ e _. (let z : Producer ≡ Consumer = e in cc)))
stays_or_puts (Do.Wake Backward) s t q n adds others = dite (ℕ_discrete n q) (λ at. inl (subst (λ (z : ℕ). times_at t Producer z ≡ times_at s Producer z) (sym at) adds)) (λ ne. inl (others Producer n (λ _ e. ne e)))
stays_or_puts (Do.Wanted Forward) s t q n adds others = dite (ℕ_discrete n q) (λ at. inl (subst (λ (z : ℕ). times_at t Producer z ≡ times_at s Producer z) (sym at) adds)) (λ ne. inl (others Producer n (λ _ e. ne e)))
stays_or_puts (Do.Wanted Backward) s t q n adds others = inl (others Producer n (λ e _. (let z : Producer ≡ Consumer = e in cc)))
stays_or_puts (Do.Settle Forward) s t q n adds others = dite (ℕ_discrete n q) (λ at. inl (subst (λ (z : ℕ). times_at t Producer z ≡ times_at s Producer z) (sym at) adds)) (λ ne. inl (others Producer n (λ _ e. ne e)))
stays_or_puts (Do.Settle Backward) s t q n adds others = inl (others Producer n (λ e _. (let z : Producer ≡ Consumer = e in cc)))
stays_or_puts (Do.Ring Forward) s t q n adds others = dite (ℕ_discrete n q) (λ at. inl (subst (λ (z : ℕ). times_at t Producer z ≡ times_at s Producer z) (sym at) adds)) (λ ne. inl (others Producer n (λ _ e. ne e)))
stays_or_puts (Do.Ring Backward) s t q n adds others = inl (others Producer n (λ e _. (let z : Producer ≡ Consumer = e in cc)))
stays_or_puts (Do.Store Words.Head v) s t q n adds others = inl (others Producer n (λ e _. (let z : Producer ≡ Consumer = e in cc)))
stays_or_puts (Do.Store Words.Tail v) s t q n adds others = dite (ℕ_discrete n q) (λ at. inl (subst (λ (z : ℕ). times_at t Producer z ≡ times_at s Producer z) (sym at) adds)) (λ ne. inl (others Producer n (λ _ e. ne e)))
stays_or_puts (Do.Store Words.Flag v) s t q n adds others = inl (others Producer n (λ e _. (let z : Producer ≡ Consumer = e in cc)))
stays_or_puts (Do.Store Words.FlagBack v) s t q n adds others = dite (ℕ_discrete n q) (λ at. inl (subst (λ (z : ℕ). times_at t Producer z ≡ times_at s Producer z) (sym at) adds)) (λ ne. inl (others Producer n (λ _ e. ne e)))
stays_or_puts (Do.Store Words.Pending v) s t q n adds others = inl (others Producer n (λ e _. (let z : Producer ≡ Consumer = e in cc)))
stays_or_puts (Do.Store Words.PendingBack v) s t q n adds others = dite (ℕ_discrete n q) (λ at. inl (subst (λ (z : ℕ). times_at t Producer z ≡ times_at s Producer z) (sym at) adds)) (λ ne. inl (others Producer n (λ _ e. ne e)))

-- over more calls what stands at an end stays there
pub times_grow : (x : Actor) (s : SeatsAre) (cs : List Call) (y : Actor) (t : SeatsAre) → Goes x s cs y t → (r : Role) (n : ℕ) → (more : List ℕ) × (times_at t r n ≡ times_at s r n ++ more)
times_grow x s [] y t g r n = ([], ap (λ (z : SeatsAre). times_at z r n) g.1 ∙ sym (append-nil (times_at s r n)))
times_grow x s (c ∷ cs) y t g r n = let one = times_begin s c.deed c.seats g.0.did r n in let rest = times_grow c.actor c.seats cs y t g.1 r n in
    (one.0 ++ rest.0, rest.1 ∙ (ap (λ (z : List ℕ). z ++ rest.0) one.1 ∙ append_assoc (times_at s r n) one.0 rest.0))

pub entries_grow : (x : Actor) (s : SeatsAre) (cs : List Call) (y : Actor) (t : SeatsAre) → Goes x s cs y t → (r : Role) (n : ℕ) → (more : List Cargo) × (entries_at t r n ≡ entries_at s r n ++ more)
entries_grow x s [] y t g r n = ([], ap (λ (z : SeatsAre). entries_at z r n) g.1 ∙ sym (append-nil (entries_at s r n)))
entries_grow x s (c ∷ cs) y t g r n = let rest = entries_grow c.actor c.seats cs y t g.1 r n in
    (moved_by c.deed r n ++ rest.0, rest.1 ∙ (ap (λ (z : List Cargo). z ++ rest.0) (entries_go s c.deed c.seats g.0.did r n) ∙ append_assoc (entries_at s r n) (moved_by c.deed r n) rest.0))

-- where the entry at a place isn't put yet, its put is one of the calls that follow: it comes after
-- all that passed at the ends before
not_there : (ts us : List ℕ) (i time : ℕ) → us ≡ ts → length ts ≤ i → slice_get us i ≡ Some time → ⊥
not_there ts us i time same le is = let less = get_within us i time is in omega (arith, less, ap length same)

-- the time of the put that adds the entry of a place
put_time : (ts us : List ℕ) (added i time : ℕ) (more : List ℕ) → us ≡ (ts ++ added ∷ []) ++ more → length ts ≤ i → i < length (ts ++ added ∷ []) → slice_get us i ≡ Some time → added ≡ time
put_time ts us added i time more is le lt at = let here : length ts ≡ i = omega (arith, length-append ts (added ∷ [])) in
    same_some added time (sym (ap (λ (z : List ℕ). slice_get z i) is ∙ get_front (ts ++ added ∷ []) more i added (ap (λ (z : ℕ). slice_get (ts ++ added ∷ []) z) (sym here) ∙ get_last ts added [])) ∙ at)

adds_put : (o : Op) (s t : SeatsAre) (n : ℕ) → AddsTime o s n t → o ≡ Do.Put → AddsTime Do.Put s n t
adds_put o s t n adds is = subst (λ (z : Op). AddsTime z s n t) is adds

module _ (n i time : ℕ) where
  -- of the first call: it leaves the times of the producing end, or it is the put of this time
  first : (x : Actor) (s : SeatsAre) (c : Call) (cs : List Call) (y : Actor) (t : SeatsAre) → Made x s c → Goes c.actor c.seats cs y t → length (times_at s Producer n) ≤ i → slice_get (times_at t Producer n) i ≡ Some time
      → (length (times_at c.seats Producer n) ≤ i) ⊎ ((c.deed.event.op ≡ Do.Put) × (n ≡ c.deed.event.queue.0) × (times_at c.seats Producer n ≡ times_at s Producer n ++ time ∷ []) × ComesAfter s time)
  first x s c cs y t made rest le at = let go = times_go s c.deed c.seats made.did in ⊎_elim
      (λ same. inl (omega (arith, ap length same)))
      (λ put. let adds = subst (λ (z : ℕ). AddsTime Do.Put s z c.seats) (sym put.1) (adds_put c.deed.event.op s c.seats c.deed.event.queue.0 go.here put.0) in dite (dec_le (length (times_at c.seats Producer n)) i)
      (λ le'. inl le')
      (λ gt. let more = times_grow c.actor c.seats cs y t rest Producer n in
      let is : adds.0 ≡ time = put_time (times_at s Producer n) (times_at t Producer n) adds.0 i time more.0 (more.1 ∙ ap (λ (z : List ℕ). z ++ more.0) adds.1) le (omega (arith, gt, ap length adds.1)) at in
      inr (put.0, put.1, adds.1 ∙ ap (λ (z : ℕ). times_at s Producer n ++ z ∷ []) is, subst (λ (z : ℕ). ComesAfter s z) is adds.2)))
      (stays_or_puts c.deed.event.op s c.seats c.deed.event.queue.0 n go.here go.others)

  pub comes_after : (x : Actor) (s : SeatsAre) (cs : List Call) (y : Actor) (t : SeatsAre) → Goes x s cs y t → length (times_at s Producer n) ≤ i → slice_get (times_at t Producer n) i ≡ Some time → ComesAfter s time
  comes_after x s [] y t g le at = absurd (not_there (times_at s Producer n) (times_at t Producer n) i time (ap (λ (z : SeatsAre). times_at z Producer n) g.1) le at)
  comes_after x s (c ∷ cs) y t g le at = ⊎_elim
      (λ le'. λ r m j early is. (let more = times_begin s c.deed c.seats g.0.did r m in
      comes_after c.actor c.seats cs y t g.1 le' at r m j early (ap (λ (z : List ℕ). slice_get z j) more.1 ∙ get_front (times_at s r m) more.0 j early is)))
      (λ put. put.3)
      (first x s c cs y t g.0 g.1 le at)

  -- so there is a first call, and it comes before the take of that entry
  pub comes_before : (x : Actor) (s : SeatsAre) (cs : List Call) (y : Actor) (t : SeatsAre) → Goes x s cs y t → length (times_at s Producer n) ≤ i → slice_get (times_at t Producer n) i ≡ Some time
      → (c : Call) × (rest : List Call) × (cs ≡ c ∷ rest) × (rank c < 2 * time + 1)
  comes_before x s [] y t g le at = absurd (not_there (times_at s Producer n) (times_at t Producer n) i time (ap (λ (z : SeatsAre). times_at z Producer n) g.1) le at)
  comes_before x s (c ∷ cs) y t g le at = (
    c,
    cs,
    refl,
    ⊎_elim
        (λ le'. low c.deed.event.op s c.seats c.deed.event.queue.0 time (times_go s c.deed c.seats g.0.did).here (comes_after c.actor c.seats cs y t g.1 le' at))
        (λ put. let is : rank c ≡ 2 * time = ap (λ (z : Op). rank_of z c.deed.event.queue.0 c.seats) put.0 ∙ ap (λ (z : ℕ). 2 * z) (ap (λ (z : ℕ). last_or 0 (times_at c.seats Producer z)) (sym put.1) ∙ (ap (last_or 0) put.2 ∙ last_is 0 time (times_at s Producer n))) in omega (arith, is))
        (first x s c cs y t g.0 g.1 le at),
  )

-- the rank of a take
pub rank_take : (c : Call) (s : SeatsAre) (n time : ℕ) → c.deed.event.op ≡ Do.Take → c.deed.event.queue.0 ≡ n → times_at c.seats Consumer n ≡ times_at s Consumer n ++ time ∷ [] → rank c ≡ 2 * time + 1
rank_take c s n time op_is at is = ap (λ (z : Op). rank_of z c.deed.event.queue.0 c.seats) op_is ∙ ap (λ (z : ℕ). 2 * z + 1) (ap (λ (z : ℕ). last_or 0 (times_at c.seats Consumer z)) at ∙ (ap (last_or 0) is ∙ last_is 0 time (times_at s Consumer n)))
