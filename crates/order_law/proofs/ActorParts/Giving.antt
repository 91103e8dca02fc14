-- One end more for one of the actors.
use Rattle.std.proofs.Common.{◌≡◌, ◌≢◌, ◌⊎◌, ◌<◌, ◌++◌, ℕ, Bool, true, false, if◌then◌else◌, Some, List, [], ◌∷◌, Vec, Global, length, slice_get, slice_set, get_or, length-set, refl, sym, ap, ◌∙◌, inl, inr, append-nil, eq-eqb}
use Rattle.std.proofs.Math.Dec.{eqb}
use Rattle.std.proofs.lemmas.Bool.Decides.{eqb_tells}
use Rattle.std.proofs.lemmas.Option.{slice_get_read}
use Rattle.wire_core.proofs.Places.{slice_get_beside, slice_get_written}
use Rattle.wire_core.specs.declared.names.QueueId.{QueueId}
use Rattle.spsc_queue.specs.Known.Ends.{EndIs}
use Rattle.order_law.specs.ActorParts.Given.{Kept, given, GivesProducer, GivesConsumer}

abbrev End : Type 0
End = QueueId × EndIs

same_some : (p q : Kept) → Some p ≡ Some q → p ≡ q
same_some p q e = cc

to_itself : (k j : ℕ) (x : End) → k ≡ j → given k j x ≡ x ∷ []
to_itself k j x e = ap (λ (b : Bool). if b then x ∷ [] else []) (eq-eqb k j e)

to_others : (k j : ℕ) (x : End) (xs : List End) → eqb k j ≡ false → xs ≡ xs ++ given k j x
to_others k j x xs e = sym (ap (λ (b : Bool). xs ++ (if b then x ∷ [] else [])) e ∙ append-nil xs)

module _ (k : ℕ) (x : End) (old : List Kept) (p : Kept) (lt : k < length old) (at : p ≡ get_or old k p) where
  here : slice_get old k ≡ Some p
  here = slice_get_read old (length old) k p refl lt at

  pub gives_producer : (v : Vec End Global) → v.items ≡ p.1.items ++ x ∷ [] → GivesProducer k x old (slice_set old k (p.0, v, p.2))
  gives_producer v is = record { many = length-set old k (p.0, v, p.2); each = λ j q there. decide j q there (eqb_tells k j) }
    where
      now : Kept
      now = (p.0, v, p.2)

      decide : (j : ℕ) (q : Kept) → slice_get (slice_set old k now) j ≡ Some q → ((eqb k j ≡ true) × (k ≡ j)) ⊎ ((eqb k j ≡ false) × (k ≢ j)) → (p : Kept) × (slice_get old j ≡ Some p) × (q.0 ≡ p.0) × (q.1.items ≡ p.1.items ++ given k j x) × (q.2.items ≡ p.2.items)
      decide j q there (inl same) =
          let is_now : q ≡ now = same_some q now (sym there ∙ (ap (slice_get (slice_set old k now)) (sym same.1) ∙ slice_get_written old k p now here)) in
          (p, ap (slice_get old) (sym same.1) ∙ here, ap (λ (z : Kept). z.0) is_now, ap (λ (z : Kept). z.1.items) is_now ∙ (is ∙ ap (λ (l : List End). p.1.items ++ l) (sym (to_itself k j x same.1))), ap (λ (z : Kept). z.2.items) is_now)
      decide j q there (inr apart) =
          (q, sym (slice_get_beside old k j now (λ e. apart.1 (sym e))) ∙ there, refl, to_others k j x q.1.items apart.0, refl)

  pub gives_consumer : (v : Vec End Global) → v.items ≡ p.2.items ++ x ∷ [] → GivesConsumer k x old (slice_set old k (p.0, p.1, v))
  gives_consumer v is = record { many = length-set old k (p.0, p.1, v); each = λ j q there. decide j q there (eqb_tells k j) }
    where
      now : Kept
      now = (p.0, p.1, v)

      decide : (j : ℕ) (q : Kept) → slice_get (slice_set old k now) j ≡ Some q → ((eqb k j ≡ true) × (k ≡ j)) ⊎ ((eqb k j ≡ false) × (k ≢ j)) → (p : Kept) × (slice_get old j ≡ Some p) × (q.0 ≡ p.0) × (q.1.items ≡ p.1.items) × (q.2.items ≡ p.2.items ++ given k j x)
      decide j q there (inl same) =
          let is_now : q ≡ now = same_some q now (sym there ∙ (ap (slice_get (slice_set old k now)) (sym same.1) ∙ slice_get_written old k p now here)) in
          (p, ap (slice_get old) (sym same.1) ∙ here, ap (λ (z : Kept). z.0) is_now, ap (λ (z : Kept). z.1.items) is_now, ap (λ (z : Kept). z.2.items) is_now ∙ (is ∙ ap (λ (l : List End). p.2.items ++ l) (sym (to_itself k j x same.1))))
      decide j q there (inr apart) =
          (q, sym (slice_get_beside old k j now (λ e. apart.1 (sym e))) ∙ there, refl, refl, to_others k j x q.2.items apart.0)
