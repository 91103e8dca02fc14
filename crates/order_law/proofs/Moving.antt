-- What one call adds to the lists and to the times at the ends of an actor.
use Rattle.std.proofs.Common.{◌≡◌, ◌≢◌, ◌⊎◌, inl, inr, ⊎_elim, ◌∙◌, ℕ, ◌+◌, ◌<◌, ◌≤◌, Bool, true, false, List, [], ◌∷◌, ◌++◌, length, length-append, refl, sym, ap, subst, arith, append-nil, Option, Some, None, eqb, eq-eqb, ne_eqb}
use mathlib.Core.Logic.{dite}
use native.Mathlib.Decide.{ℕ_discrete}
use Rattle.cargo_core.specs.declared.act.Word.{Word}
use Rattle.wire_core.specs.declared.names.Op.{Op}
use Rattle.wire_core.specs.declared.names.Op.TheVariants as Do
use Rattle.wire_core.specs.declared.names.Side.TheVariants.{Forward, Backward}
use Rattle.wire_core.specs.declared.names.Answer.{Answer}
use Rattle.wire_core.specs.Deeds.{Deed, Cargo, cargo_of}
use Rattle.wire_core.specs.Ends.{Role, Consumer, Producer, role_of}
use Rattle.wire_core.specs.Lists.{Lists, if_there, if_taken, if_put, taken_by, put_by}
use Rattle.spsc_queue.specs.declared.view.Half.{Half}
use Rattle.spsc_queue.specs.Known.Ends.{EndIs}
use Rattle.spsc_queue.specs.Steps.{EndDid}
use Rattle.seat_wires.specs.Places.Are.{SeatsAre}
use Rattle.seat_wires.specs.Places.{ends_of, stands_at, IsMaker, SeatDid}
use Rattle.seat_wires.specs.Times.{times_at, AddsTime, TimesGo}
use Rattle.seat_wires.specs.Went.{ring_known}
use Rattle.seat_wires.proofs.Timing.{times_go}
use Rattle.seat_wires.proofs.Listing.{taken_grow, sent_grow}
use Rattle.seat_wires.proofs.Going.{went_one}
use Rattle.order_law.specs.Orders.{entries_at}

-- what a call moved at the end of a role
abbrev pub moved_by : Deed → Role → ℕ → List Cargo
moved_by d Consumer n = taken_by d n
moved_by d Producer n = put_by d n

-- the same, of its op and its entry
abbrev pub moved : Role → Op → List Cargo → List Cargo
moved Consumer o c = if_taken o c
moved Producer o c = if_put o c

moved_is : (d : Deed) (r : Role) (n : ℕ) → moved_by d r n ≡ if_there (eqb d.event.queue.0 n) (moved r d.event.op (cargo_of d))
moved_is d Consumer n = refl
moved_is d Producer n = refl

-- at the other role's end nothing is moved
idle : (o : Op) (c : List Cargo) (r : Role) → r ≢ role_of o → moved r o c ≡ []
idle Do.See c Consumer h = refl
idle Do.See c Producer h = refl
idle Do.Room c Consumer h = refl
idle Do.Room c Producer h = refl
idle Do.Take c Consumer h = absurd (h refl)
idle Do.Take c Producer h = refl
idle Do.Put c Consumer h = refl
idle Do.Put c Producer h = absurd (h refl)
idle (Do.Ask s) c Consumer h = refl
idle (Do.Ask s) c Producer h = refl
idle (Do.Waive s) c Consumer h = refl
idle (Do.Waive s) c Producer h = refl
idle (Do.Wake s) c Consumer h = refl
idle (Do.Wake s) c Producer h = refl
idle (Do.Wanted s) c Consumer h = refl
idle (Do.Wanted s) c Producer h = refl
idle (Do.Settle s) c Consumer h = refl
idle (Do.Settle s) c Producer h = refl
idle (Do.Ring s) c Consumer h = refl
idle (Do.Store w v) c Consumer h = refl
idle (Do.Ring s) c Producer h = refl
idle (Do.Store w v) c Producer h = refl

pub same_role : (r r' : Role) → (r' ≢ r) ⊎ (r' ≡ r)
same_role Consumer Consumer = inr refl
same_role Consumer Producer = inl (λ e. cc)
same_role Producer Consumer = inl (λ e. cc)
same_role Producer Producer = inr refl

if_nothing : (b : Bool) → if_there b [] ≡ []
if_nothing true = refl
if_nothing false = refl

-- a call moves nothing at another end than its own
pub moved_else : (d : Deed) (r : Role) (n : ℕ) → (r ≡ role_of d.event.op → n ≡ d.event.queue.0 → ⊥) → moved_by d r n ≡ []
moved_else d r n away = moved_is d r n ∙ ⊎_elim
    (λ ne. ap (if_there (eqb d.event.queue.0 n)) (idle d.event.op (cargo_of d) r ne) ∙ if_nothing (eqb d.event.queue.0 n))
    (λ same. ap (λ (b : Bool). if_there b (moved r d.event.op (cargo_of d))) (ne_eqb d.event.queue.0 n (λ e. away same (sym e))))
    (same_role (role_of d.event.op) r)

moved_here : (d : Deed) (r : Role) → moved_by d r d.event.queue.0 ≡ moved r d.event.op (cargo_of d)
moved_here d r = moved_is d r d.event.queue.0 ∙ ap (λ (b : Bool). if_there b (moved r d.event.op (cargo_of d))) (eq-eqb d.event.queue.0 d.event.queue.0 refl)

-- a store moves nothing
moved_none : (r : Role) (w : Word) (v : ℕ) (c : List Cargo) → moved r (Do.Store w v) c ≡ []
moved_none Consumer w v c = refl
moved_none Producer w v c = refl

-- a call is at the end of its role, or it is a store
is_made : (o : Op) (maker : Role) → IsMaker o maker → (maker ≡ role_of o) ⊎ ((r : Role) (c : List Cargo) → moved r o c ≡ [])
is_made Do.See maker h = inl h
is_made Do.Room maker h = inl h
is_made Do.Take maker h = inl h
is_made Do.Put maker h = inl h
is_made (Do.Ask s) maker h = inl h
is_made (Do.Waive s) maker h = inl h
is_made (Do.Wake s) maker h = inl h
is_made (Do.Wanted s) maker h = inl h
is_made (Do.Settle s) maker h = inl h
is_made (Do.Ring s) maker h = inl h
is_made (Do.Store w v) maker h = inr (λ r c. moved_none r w v c)

-- a call moves nothing at another end than its maker's
pub moved_apart : (d : Deed) (maker : Role) → IsMaker d.event.op maker → (r : Role) (n : ℕ) → (r ≡ maker → n ≡ d.event.queue.0 → ⊥) → moved_by d r n ≡ []
moved_apart d maker makes r n away = ⊎_elim
    (λ is. moved_else d r n (λ same at. away (same ∙ sym is) at))
    (λ none. moved_is d r n ∙ (ap (if_there (eqb d.event.queue.0 n)) (none r (cargo_of d)) ∙ if_nothing (eqb d.event.queue.0 n)))
    (is_made d.event.op maker makes)

-- a call adds to the list of its end as many entries as times
one_each : (n : ℕ) (h : Half) (o : Op) (a : Answer) (c : List Cargo) (h' : Half) (s t : SeatsAre) (q : ℕ) → EndDid n h o a c h' → AddsTime o s q t
    → length (times_at t (role_of o) q) ≡ length (times_at s (role_of o) q) + length (moved (role_of o) o c)
one_each n h Do.See a c h' s t q d adds = omega (arith, ap length adds)
one_each n h Do.Room a c h' s t q d adds = omega (arith, ap length adds)
one_each n h Do.Take a c h' s t q d adds = omega (arith, ap length adds.1, length-append (times_at s Consumer q) (adds.0 ∷ []), ap length d.2)
one_each n h Do.Put a c h' s t q d adds = omega (arith, ap length adds.1, length-append (times_at s Producer q) (adds.0 ∷ []), ap length d.2)
one_each n h (Do.Ask Forward) a c h' s t q d adds = omega (arith, ap length adds)
one_each n h (Do.Ask Backward) a c h' s t q d adds = omega (arith, ap length adds)
one_each n h (Do.Waive Forward) a c h' s t q d adds = omega (arith, ap length adds)
one_each n h (Do.Waive Backward) a c h' s t q d adds = omega (arith, ap length adds)
one_each n h (Do.Wake Forward) a c h' s t q d adds = omega (arith, ap length adds)
one_each n h (Do.Wake Backward) a c h' s t q d adds = omega (arith, ap length adds)
one_each n h (Do.Wanted Forward) a c h' s t q d adds = omega (arith, ap length adds)
one_each n h (Do.Wanted Backward) a c h' s t q d adds = omega (arith, ap length adds)
one_each n h (Do.Settle Forward) a c h' s t q d adds = omega (arith, ap length adds)
one_each n h (Do.Settle Backward) a c h' s t q d adds = omega (arith, ap length adds)
one_each n h (Do.Ring Forward) a c h' s t q d adds = omega (arith, ap length adds)
one_each n h (Do.Ring Backward) a c h' s t q d adds = omega (arith, ap length adds)
one_each n h (Do.Store w v) a c h' s t q d adds = omega (arith, ap length adds, ap length (moved_none (role_of (Do.Store w v)) w v c))

one_entry : (n : ℕ) (h : Half) (o : Op) (a : Answer) (c : List Cargo) (h' : Half) → EndDid n h o a c h' → length (moved (role_of o) o c) ≤ 1
one_entry n h Do.See a c h' d = omega arith
one_entry n h Do.Room a c h' d = omega arith
one_entry n h Do.Take a c h' d = omega (arith, ap length d.2)
one_entry n h Do.Put a c h' d = omega (arith, ap length d.2)
one_entry n h (Do.Ask Forward) a c h' d = omega arith
one_entry n h (Do.Ask Backward) a c h' d = omega arith
one_entry n h (Do.Waive Forward) a c h' d = omega arith
one_entry n h (Do.Waive Backward) a c h' d = omega arith
one_entry n h (Do.Wake Forward) a c h' d = omega arith
one_entry n h (Do.Wake Backward) a c h' d = omega arith
one_entry n h (Do.Wanted Forward) a c h' d = omega arith
one_entry n h (Do.Wanted Backward) a c h' d = omega arith
one_entry n h (Do.Settle Forward) a c h' d = omega arith
one_entry n h (Do.Settle Backward) a c h' d = omega arith
one_entry n h (Do.Ring Forward) a c h' d = omega arith
one_entry n h (Do.Ring Backward) a c h' d = omega arith
one_entry n h (Do.Store w v) a c h' d = omega (arith, ap length (moved_none (role_of (Do.Store w v)) w v c))

-- what is added stands behind what was there
here_begins : (o : Op) (s t : SeatsAre) (q : ℕ) → AddsTime o s q t → (more : List ℕ) × (times_at t (role_of o) q ≡ times_at s (role_of o) q ++ more)
here_begins Do.See s t q adds = ([], adds ∙ sym (append-nil _))
here_begins Do.Room s t q adds = ([], adds ∙ sym (append-nil _))
here_begins Do.Take s t q adds = (adds.0 ∷ [], adds.1)
here_begins Do.Put s t q adds = (adds.0 ∷ [], adds.1)
here_begins (Do.Ask x) s t q adds = ([], adds ∙ sym (append-nil _))
here_begins (Do.Waive x) s t q adds = ([], adds ∙ sym (append-nil _))
here_begins (Do.Wake x) s t q adds = ([], adds ∙ sym (append-nil _))
here_begins (Do.Wanted x) s t q adds = ([], adds ∙ sym (append-nil _))
here_begins (Do.Settle x) s t q adds = ([], adds ∙ sym (append-nil _))
here_begins (Do.Ring x) s t q adds = ([], adds ∙ sym (append-nil _))
here_begins (Do.Store w v) s t q adds = ([], adds ∙ sym (append-nil _))

ring_there : (x : Option EndIs) (y : Option EndIs) (e : EndIs) → ring_known x ≡ ring_known y → x ≡ Some e → (f : EndIs) × (y ≡ Some f)
ring_there x None e same is = absurd (let z : ring_known x ≡ Some e.ring = ap ring_known is in cc)
ring_there x (Some f) e same is = (f, refl)

module _ (s : SeatsAre) (d : Deed) (t : SeatsAre) (h : SeatDid s d t) where
  abbrev r : Role
  r = role_of d.event.op

  abbrev q : ℕ
  q = d.event.queue.0

  abbrev go : TimesGo s d t
  go = times_go s d t h

  pub entries_go : (x : Role) (n : ℕ) → entries_at t x n ≡ entries_at s x n ++ moved_by d x n
  entries_go Consumer n = ap (λ (z : Lists). z n) (taken_grow s d t h)
  entries_go Producer n = ap (λ (z : Lists). z n) (sent_grow s d t h)

  -- an end that is there was there
  pub end_there : (x : Role) (n : ℕ) (e : EndIs) → stands_at (ends_of t x) n ≡ Some e → (f : EndIs) × (stands_at (ends_of s x) n ≡ Some f)
  end_there x n e is = ring_there (stands_at (ends_of t x) n) (stands_at (ends_of s x) n) e ((went_one s d t h).ends x n) is

  pub times_begin : (x : Role) (n : ℕ) → (more : List ℕ) × (times_at t x n ≡ times_at s x n ++ more)
  times_begin x n = ⊎_elim
      (λ ne. ([], go.others x n (λ e _. ne e) ∙ sym (append-nil (times_at s x n))))
      (λ same. dite (ℕ_discrete n q)
      (λ at. subst (λ (z : Role × ℕ). (more : List ℕ) × (times_at t z.0 z.1 ≡ times_at s z.0 z.1 ++ more)) (λ i. (sym same i, sym at i)) (here_begins d.event.op s t q go.here))
      (λ ne. ([], go.others x n (λ _ e. ne e) ∙ sym (append-nil (times_at s x n)))))
      (same_role r x)

  -- as many times as entries
  pub sized_go : ((x : Role) (n : ℕ) → length (entries_at s x n) ≡ length (times_at s x n)) → (x : Role) (n : ℕ) → length (entries_at t x n) ≡ length (times_at t x n)
  sized_go sized x n = let others : (x ≡ r → n ≡ q → ⊥) → length (entries_at t x n) ≡ length (times_at t x n) = (λ away. ap length (entries_go x n ∙ (ap (λ (z : List Cargo). entries_at s x n ++ z) (moved_else d x n away) ∙ append-nil (entries_at s x n))) ∙ (sized x n ∙ ap length (sym (go.others x n away)))) in ⊎_elim
      (λ ne. others (λ e _. ne e))
      (λ same. dite (ℕ_discrete n q)
      (λ at. subst (λ (z : Role × ℕ). length (entries_at t z.0 z.1) ≡ length (times_at t z.0 z.1)) (λ i. (sym same i, sym at i))
      (let u = one_each h.before.ring.slots h.before.knows d.event.op d.event.answer (cargo_of d) h.knows s t q h.step go.here in let v = sized r q in let w = ap length (entries_go r q) in
      omega (arith, u, v, w, length-append (entries_at s r q) (moved_by d r q), ap length (moved_here d r))))
      (λ ne. others (λ _ e. ne e)))
      (same_role r x)

  -- what is moved at an end is moved there by its own op
  pub moved_there : (x : Role) (n : ℕ) → 0 < length (moved_by d x n) → (x ≡ r) × (n ≡ q)
  moved_there x n some = ⊎_elim
      (λ ne. absurd (omega (arith, ap length (moved_else d x n (λ e _. ne e)))))
      (λ same. dite (ℕ_discrete n q)
      (λ at. (same, at))
      (λ ne. absurd (omega (arith, ap length (moved_else d x n (λ _ e. ne e))))))
      (same_role r x)

  -- at most one entry
  pub moved_few : (x : Role) (n : ℕ) → length (moved_by d x n) ≤ 1
  moved_few x n = ⊎_elim
      (λ ne. omega (arith, ap length (moved_else d x n (λ e _. ne e))))
      (λ same. dite (ℕ_discrete n q)
      (λ at. subst (λ (z : Role × ℕ). length (moved_by d z.0 z.1) ≤ 1) (λ i. (sym same i, sym at i)) (omega (arith, ap length (moved_here d r), one_entry h.before.ring.slots h.before.knows d.event.op d.event.answer (cargo_of d) h.knows h.step)))
      (λ ne. omega (arith, ap length (moved_else d x n (λ _ e. ne e)))))
      (same_role r x)

takes : (o : Op) (c : List Cargo) → 0 < length (moved Consumer o c) → o ≡ Do.Take
takes Do.Take c some = refl
takes Do.See c some = absurd (omega arith)
takes Do.Room c some = absurd (omega arith)
takes Do.Put c some = absurd (omega arith)
takes (Do.Ask x) c some = absurd (omega arith)
takes (Do.Waive x) c some = absurd (omega arith)
takes (Do.Wake x) c some = absurd (omega arith)
takes (Do.Wanted x) c some = absurd (omega arith)
takes (Do.Settle x) c some = absurd (omega arith)
takes (Do.Ring x) c some = absurd (omega arith)
takes (Do.Store w v) c some = absurd (omega arith)

some_there : (b : Bool) (c : List Cargo) → 0 < length (if_there b c) → 0 < length c
some_there true c some = some
some_there false c some = absurd (omega arith)

-- what takes is a take
pub moved_take : (d : Deed) (n : ℕ) → 0 < length (moved_by d Consumer n) → d.event.op ≡ Do.Take
moved_take d n some = takes d.event.op (cargo_of d) (some_there (eqb d.event.queue.0 n) (if_taken d.event.op (cargo_of d)) some)
