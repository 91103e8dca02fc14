use Rattle.std.proofs.Common.{◌≡◌, ◌<◌, ◌+◌, ◌-◌, ℕ, Result, Ok, Err, OnOk, OnErr, List, [], ◌∷◌, ◌++◌, length, take, slice_set, slice_index_or, refl, ap, ◌∙◌, subst, arith}
use Rattle.cargo_core.specs.declared.memory.Memory.{Memory}
use Rattle.wire_core.specs.declared.names.Entry.{Entry}
use Rattle.wire_core.specs.declared.names.Event.{Event}
use Rattle.system_core.proofs.SystemStep.{entry_of}

-- a journal whose last entry is written anew, and one without it

last_set : {X : Type 0} (xs : List X) (a b : X) → slice_set (xs ++ a ∷ []) (length xs) b ≡ xs ++ b ∷ []
last_set [] a b = refl
last_set (x ∷ xs) a b = ap (λ ys. x ∷ ys) (last_set xs a b)

last_at : {X : Type 0} (xs : List X) (a d : X) → slice_index_or (xs ++ a ∷ []) (length xs) d ≡ a
last_at [] a d = refl
last_at (x ∷ xs) a d = last_at xs a d

last_off : {X : Type 0} (xs : List X) (a : X) → take (length xs) (xs ++ a ∷ []) ≡ xs
last_off [] a = refl
last_off (x ∷ xs) a = ap (λ ys. x ∷ ys) (last_off xs a)

pub last_long : {X : Type 0} (xs : List X) (a : X) → length (xs ++ a ∷ []) ≡ length xs + 1
last_long [] a = refl
last_long (x ∷ xs) a = let h = last_long xs a in omega (arith, h)

-- the entry of actor k, of which the event is yet to be written
module _ (journal pushed : List Entry) (last k : ℕ) (place : Event) (now : Entry) (e : Event) (p : pushed ≡ journal ++ entry_of k place ∷ []) (l : last ≡ length journal) (now_is : now ≡ slice_index_or pushed last now) where
  seam : slice_set pushed last (record now { event = e }) ≡ slice_set (journal ++ entry_of k place ∷ []) (length journal) (record now { event = e })
  seam = ap (λ xs. slice_set xs last (record now { event = e })) p ∙ ap (λ i. slice_set (journal ++ entry_of k place ∷ []) i (record now { event = e })) l

  now_by : now ≡ entry_of k place
  now_by = now_is ∙ (ap (λ xs. slice_index_or xs last now) p ∙ (ap (λ i. slice_index_or (journal ++ entry_of k place ∷ []) i now) l ∙ last_at journal (entry_of k place) now))

  pub written_last : slice_set pushed last (record now { event = e }) ≡ journal ++ entry_of k e ∷ []
  written_last = seam ∙ (last_set journal (entry_of k place) (record now { event = e }) ∙ ap (λ (x : Entry). journal ++ record x { event = e } ∷ []) now_by)

  pub longer : 0 < length (slice_set pushed last (record now { event = e }))
  longer =
      let a = ap length written_last in
      let b = last_long journal (entry_of k e) in
      omega (arith, a, b)

  pub taken_back : take (length (slice_set pushed last (record now { event = e })) - 1) (slice_set pushed last (record now { event = e })) ≡ journal
  taken_back =
      let b = last_long journal (entry_of k e) in
      let many : length (journal ++ entry_of k e ∷ []) - 1 ≡ length journal = omega (arith, b) in
      ap (λ (xs : List Entry). take (length xs - 1) xs) written_last ∙ (ap (λ n. take n (journal ++ entry_of k e ∷ [])) many ∙ last_off journal (entry_of k e))

-- what is so after a success, and after an error

pub after_ok : (P : Type 0) (r : Result (Unit {0}) Memory) (t : Unit {0}) → r ≡ Ok t → OnOk r P → P
after_ok P r t is h = subst (λ q. OnOk q P) is h

pub after_err : (P : Type 0) (r : Result (Unit {0}) Memory) (e : Memory) → r ≡ Err e → OnErr r P → P
after_err P r e is h = subst (λ q. OnErr q P) is h
