-- What a deed adds to what passed: where it puts something, nothing is taken.
use Rattle.std.proofs.Common.{◌≡◌, ◌⊎◌, ◌==◌, ℕ, Bool, true, false, inl, inr, List, [], ◌++◌, refl, ap, ◌∙◌}
use Rattle.std.proofs.lemmas.List.{append-nil}
use Rattle.wire_core.specs.declared.names.Op.{Op}
use Rattle.wire_core.specs.declared.names.Op.TheVariants as Do
use Rattle.wire_core.specs.Deeds.{Deed, Cargo, cargo_of}
use Rattle.wire_core.specs.Lists.{Passed, with_deed, if_there, if_taken, if_put}

puts_or_not : (o : Op) → (o ≡ Do.Put) ⊎ ((cs : List Cargo) → if_put o cs ≡ [])
puts_or_not Do.Put = inl refl
puts_or_not Do.Take = inr (λ cs. refl)
puts_or_not Do.See = inr (λ cs. refl)
puts_or_not Do.Room = inr (λ cs. refl)
puts_or_not (Do.Ask s) = inr (λ cs. refl)
puts_or_not (Do.Waive s) = inr (λ cs. refl)
puts_or_not (Do.Wake s) = inr (λ cs. refl)
puts_or_not (Do.Wanted s) = inr (λ cs. refl)
puts_or_not (Do.Settle s) = inr (λ cs. refl)
puts_or_not (Do.Ring s) = inr (λ cs. refl)
puts_or_not (Do.Store w v) = inr (λ cs. refl)

nothing_more : (b : Bool) (xs : List Cargo) → xs ++ if_there b [] ≡ xs
nothing_more true xs = append-nil xs
nothing_more false xs = append-nil xs

-- nothing is put anywhere, or nothing is taken
pub puts_or_takes : (p : Passed) (d : Deed) → ((n : ℕ) → (with_deed p d).sent n ≡ p.sent n) ⊎ ((n : ℕ) → (with_deed p d).taken n ≡ p.taken n)
puts_or_takes p d = by (puts_or_not d.event.op)
  where
    by : (d.event.op ≡ Do.Put) ⊎ ((cs : List Cargo) → if_put d.event.op cs ≡ []) → ((n : ℕ) → (with_deed p d).sent n ≡ p.sent n) ⊎ ((n : ℕ) → (with_deed p d).taken n ≡ p.taken n)
    by (inl put) = inr (λ n. ap (λ o. p.taken n ++ if_there (d.event.queue.0 == n) (if_taken o (cargo_of d))) put ∙ nothing_more (d.event.queue.0 == n) (p.taken n))
    by (inr none) = inl (λ n. ap (λ cs. p.sent n ++ if_there (d.event.queue.0 == n) cs) (none (cargo_of d)) ∙ nothing_more (d.event.queue.0 == n) (p.sent n))
