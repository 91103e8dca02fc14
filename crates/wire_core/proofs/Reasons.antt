use Rattle.std.proofs.Common.{◌≡◌, ◌⊎◌, ℕ, zero, suc, Bool, true, false, cond, Some, List, [], ◌∷◌, ◌++◌, length, slice_get, inl, inr, refl, sym, ap, ◌∙◌, subst, append_assoc}
use Rattle.std.proofs.lemmas.List.{append-nil}
use Rattle.std.proofs.lemmas.List.Elements.{filter-append}
use Rattle.std.specs.List.{filter}
use Rattle.wire_core.specs.declared.names.Event.{Event}
use Rattle.wire_core.specs.Fates.{Word, Came, Served, Refused, Other, Reading, Fate, no_fate, fate_after, fate_from, fate_of, IsDroppedAt, AreOther}

some_eq : {X : Type 0} {a b : X} → Some a ≡ Some b → a ≡ b
some_eq h = cc

-- where a list with one mark more is marked: where it was, or at its end
last_mark : (xs : List Bool) (b : Bool) (k : ℕ) → slice_get (xs ++ b ∷ []) k ≡ Some true → (slice_get xs k ≡ Some true) ⊎ ((length xs ≡ k) × (b ≡ true))
last_mark [] b zero at = inr (refl, some_eq at)
last_mark [] b (suc k) at = cc
last_mark (x ∷ xs) b zero at = inl at
last_mark (x ∷ xs) b (suc k) at = elim (last_mark xs b k at) [
  | inl h ↦ inl h
  | inr h ↦ inr (ap suc h.0, h.1)
]

-- a call marks only what it refuses
one_mark : (f : Fate) (w : Word) (k : ℕ) → slice_get (fate_after f w).dropped k ≡ Some true → (slice_get f.dropped k ≡ Some true) ⊎ ((w ≡ Refused) × ((f.waits ≡ true) × (length f.dropped ≡ k)))
one_mark f w k at = by f.dropped f.waits w at
  where
    settled : (ds : List Bool) (b : Bool) → slice_get (ds ++ cond b (false ∷ []) []) k ≡ Some true → slice_get ds k ≡ Some true
    settled ds false h = subst (λ xs. slice_get xs k ≡ Some true) (append-nil ds) h
    settled ds true h = elim (last_mark ds false k h) [
      | inl g ↦ g
      | inr g ↦ let no : false ≡ true = g.1 in absurd cc
    ]

    by : (ds : List Bool) (b : Bool) (w : Word) → slice_get (fate_after (record { dropped = ds; waits = b }) w).dropped k ≡ Some true → (slice_get ds k ≡ Some true) ⊎ ((w ≡ Refused) × ((b ≡ true) × (length ds ≡ k)))
    by ds b Came h = inl (settled ds b h)
    by ds b Served h = inl (settled ds b h)
    by ds false Refused h = inl (subst (λ xs. slice_get xs k ≡ Some true) (append-nil ds) h)
    by ds true Refused h = elim (last_mark ds true k h) [
      | inl g ↦ inl g
      | inr g ↦ inr (refl, (refl, g.0))
    ]
    by ds b Other h = inl h

-- a call from which on the thing of a place is marked
record Marks (word : Reading) (bs : List Event) (f : Fate) (es : List Event) (k : ℕ) : Type 0 where
  before : List Event
  look : Event
  after : List Event
  whole : es ≡ before ++ look ∷ after
  refused : word (bs ++ before) look ≡ Refused
  waited : (fate_from word bs f before).waits ≡ true
  place_is : length (fate_from word bs f before).dropped ≡ k

marks_from : (word : Reading) (bs : List Event) (f : Fate) (es : List Event) (k : ℕ) → slice_get (fate_from word bs f es).dropped k ≡ Some true → (slice_get f.dropped k ≡ Some true) ⊎ Marks word bs f es k
marks_from word bs f [] k at = inl at
marks_from word bs f (e ∷ es) k at = elim (marks_from word (bs ++ e ∷ []) (fate_after f (word bs e)) es k at) [
  | inr m ↦ inr (record {
    before = e ∷ m.before;
    look = m.look;
    after = m.after;
    whole = ap (λ xs. e ∷ xs) m.whole;
    refused = ap (λ cs. word cs m.look) (sym (append_assoc bs (e ∷ []) m.before)) ∙ m.refused;
    waited = m.waited;
    place_is = m.place_is;
  })
  | inl h ↦ elim (one_mark f (word bs e) k h) [
    | inl g ↦ inl g
    | inr g ↦ inr (record { before = []; look = e; after = es; whole = refl; refused = ap (λ cs. word cs e) (append-nil bs) ∙ g.0; waited = g.1.0; place_is = g.1.1 })
  ]
]

pub why_dropped : (word : Reading) (calls : List Event) (place : ℕ) → slice_get (fate_of word calls).dropped place ≡ Some true → IsDroppedAt word calls place
why_dropped word calls place at = elim (marks_from word [] no_fate calls place at) [
  | inl h ↦ absurd cc
  | inr m ↦ record { before = m.before; look = m.look; after = m.after; whole = m.whole; refused = m.refused; waited = m.waited; place_is = m.place_is }
]

-- calls that are nothing to the things that come
others_from : (word : Reading) (bs : List Event) (f : Fate) (cs ms : List Event) → AreOther word (bs ++ cs) ms → fate_from word bs f (cs ++ ms) ≡ fate_from word bs f cs
others_from word bs f [] ms other = none bs f ms (subst (λ xs. AreOther word xs ms) (append-nil bs) other)
  where
    none : (bs : List Event) (f : Fate) (ms : List Event) → AreOther word bs ms → fate_from word bs f ms ≡ f
    none bs f [] other = refl
    none bs f (m ∷ ms) other = ap (λ w. fate_from word (bs ++ m ∷ []) (fate_after f w) ms) other.0 ∙ none (bs ++ m ∷ []) f ms other.1
others_from word bs f (c ∷ cs) ms other = others_from word (bs ++ c ∷ []) (fate_after f (word bs c)) cs ms (subst (λ xs. AreOther word xs ms) (sym (append_assoc bs (c ∷ []) cs)) other)

pub fate_others : (word : Reading) (calls more : List Event) → AreOther word calls more → fate_of word (calls ++ more) ≡ fate_of word calls
fate_others word calls more other = others_from word [] no_fate calls more other

-- only the calls of one's own matter
module _ (word : Reading) (own : Event → Bool) (silent : (before : List Event) (e : Event) → own e ≡ false → word before e ≡ Other) (same : (before : List Event) (e : Event) → word before e ≡ word (filter own before) e) where
  one_own : (e : Event) → own e ≡ true → filter own (e ∷ []) ≡ e ∷ []
  one_own e o = ap (λ b. cond b (e ∷ []) []) o

  one_other : (e : Event) → own e ≡ false → filter own (e ∷ []) ≡ []
  one_other e o = ap (λ b. cond b (e ∷ []) []) o

  own_from : (bs : List Event) (f : Fate) (es : List Event) → fate_from word bs f es ≡ fate_from word (filter own bs) f (filter own es)
  own_from bs f [] = refl
  own_from bs f (e ∷ es) = by (own e) refl (own_from (bs ++ e ∷ []) (fate_after f (word bs e)) es)
    where
      by : (b : Bool) → own e ≡ b → fate_from word (bs ++ e ∷ []) (fate_after f (word bs e)) es ≡ fate_from word (filter own (bs ++ e ∷ [])) (fate_after f (word bs e)) (filter own es) → fate_from word bs f (e ∷ es) ≡ fate_from word (filter own bs) f (filter own (e ∷ es))
      by true o h =
          let now : filter own (bs ++ e ∷ []) ≡ filter own bs ++ e ∷ [] = filter-append own bs (e ∷ []) ∙ ap (λ xs. filter own bs ++ xs) (one_own e o) in
          h ∙ (ap (λ xs. fate_from word xs (fate_after f (word bs e)) (filter own es)) now ∙ (ap (λ w. fate_from word (filter own bs ++ e ∷ []) (fate_after f w) (filter own es)) (same bs e) ∙ ap (λ b. fate_from word (filter own bs) f (cond b (e ∷ filter own es) (filter own es))) (sym o)))
      by false o h =
          let now : filter own (bs ++ e ∷ []) ≡ filter own bs = filter-append own bs (e ∷ []) ∙ (ap (λ xs. filter own bs ++ xs) (one_other e o) ∙ append-nil (filter own bs)) in
          h ∙ (ap (λ xs. fate_from word xs (fate_after f (word bs e)) (filter own es)) now ∙ (ap (λ w. fate_from word (filter own bs) (fate_after f w) (filter own es)) (silent bs e o) ∙ ap (λ b. fate_from word (filter own bs) f (cond b (e ∷ filter own es) (filter own es))) (sym o)))

  pub fate_own : (calls : List Event) → fate_of word calls ≡ fate_of word (filter own calls)
  fate_own calls = own_from [] no_fate calls
