-- Whose partner an entry is, its partner is.
use Rattle.std.proofs.Common.{◌≡◌, refl, sym, ◌∙◌, ap, ℕ, zero, suc, ◌+◌, ◌-◌, ◌==◌, Bool, true, false, Option, Some, None, List, [], ◌∷◌, take, slice_get, arith, inl, inr, subst, cond}
use Rattle.std.specs.Prelude.{count_by}
use Rattle.std.specs.Option.{option_map}
use Rattle.std.proofs.lemmas.Bool.{cases_Bool, eqb-true}
use Rattle.std.proofs.lemmas.List.Sums.{sum_by-cons}
use Rattle.std.proofs.Math.Dec.{eqb-suc-zero}
use Rattle.wire_core.specs.declared.names.Entry.{Entry}
use Rattle.wire_core.specs.declared.names.Op.{Op}
use Rattle.wire_core.specs.declared.names.Op.TheVariants as Do
use Rattle.pictures.specs.declared.play_picture.pairs.Way.{Way}
use Rattle.pictures.specs.declared.play_picture.pairs.Way.TheVariants as By
use Rattle.pictures.specs.PlayPicture.Pairs.{is_way, moves, other, place_of_nth, partner_of}
use Rattle.pictures.proofs.PlayPicture.PairLemmas.{hit, counted, skipped}

count-yes : {T : Type 0} (p : T → Bool) (y : T) (t : List T) → p y ≡ true → count_by p (y ∷ t) ≡ suc (count_by p t)
count-yes {T = T} p y t h =
    let c : count_by p (y ∷ t) ≡ cond {A = ℕ} (p y) 1 0 + count_by p t = sum_by-cons (λ (x : T). cond {A = ℕ} (p x) 1 0) y t in
    let o : ◌≡◌ {A = ℕ} (cond (p y) 1 0) 1 = rw h refl in
    omega (arith, c, o)

count-no : {T : Type 0} (p : T → Bool) (y : T) (t : List T) → p y ≡ false → count_by p (y ∷ t) ≡ count_by p t
count-no {T = T} p y t h =
    let c : count_by p (y ∷ t) ≡ cond {A = ℕ} (p y) 1 0 + count_by p t = sum_by-cons (λ (x : T). cond {A = ℕ} (p x) 1 0) y t in
    let o : ◌≡◌ {A = ℕ} (cond (p y) 1 0) 0 = rw h refl in
    omega (arith, c, o)

-- what is one behind a place
one-behind : (o : Option ℕ) (j : ℕ) → option_map (λ k. k + 1) o ≡ Some j → (i : ℕ) × (o ≡ Some i) × (j ≡ suc i)
one-behind None j e = absurd (cc e)
one-behind (Some i) j e =
    let s : i + 1 ≡ j = cc e in
    let t : i + 1 ≡ suc i = omega arith in
    (i, refl, sym s ∙ t)

-- what is known of the place that was found
abbrev IsFound : {T : Type 0} → (T → Bool) → ℕ → List T → ℕ → Type 0
IsFound {T = T} p n xs j = (count_by p (take j xs) ≡ n) × ((x : T) → slice_get xs j ≡ Some x → p x ≡ true)

found-more : {T : Type 0} (p : T → Bool) (n m : ℕ) (x : T) (xs : List T) (i : ℕ) → IsFound p m xs i → count_by p (x ∷ take i xs) ≡ n → IsFound p n (x ∷ xs) (suc i)
found-more p n m x xs i f e = (e, λ y at. f.1 y at)

one-less : (n : ℕ) → (n == 0) ≡ false → suc (n - 1) ≡ n
one-less zero e = absurd (cc e)
one-less (suc n) e = (let l : suc n - 1 ≡ n = omega arith in ap suc l)

found-first : {T : Type 0} (p : T → Bool) (n : ℕ) (x : T) (xs : List T) (j : ℕ) → p x ≡ true → (n == 0) ≡ true → 0 ≡ j → IsFound p n (x ∷ xs) j
found-first {T = T} p n x xs j here none first =
    subst (λ (k : ℕ). IsFound p n (x ∷ xs) k) first (sym (eqb-true n 0 none), λ y at. (let same : x ≡ y = cc at in ap p (sym same) ∙ here))

pub found : {T : Type 0} (p : T → Bool) (n : ℕ) (xs : List T) (j : ℕ) → place_of_nth p n xs ≡ Some j → IsFound p n xs j
found p n [] j e = absurd (cc e)
found {T = T} p n (x ∷ xs) j e = elim (cases_Bool (p x)) [
  | inl here ↦
      elim (cases_Bool (n == 0)) [
        | inl none ↦ (let h = hit p n x xs here none in found-first p n x xs j here none (cc (e, h)))
        | inr some ↦
            let b = one-behind (place_of_nth p (n - 1) xs) j (sym (counted p n x xs here some) ∙ e) in
            let f = found p (n - 1) xs b.0 b.1 in
            let c : count_by p (x ∷ take b.0 xs) ≡ n = count-yes p x (take b.0 xs) here ∙ ap suc f.0 ∙ one-less n some in
            subst (λ (k : ℕ). IsFound p n (x ∷ xs) k) (sym b.2) (found-more p n (n - 1) x xs b.0 f c)
      ]
  | inr not-here ↦
      let b = one-behind (place_of_nth p n xs) j (sym (skipped p n x xs not-here) ∙ e) in
      let f = found p n xs b.0 b.1 in
      let c : count_by p (x ∷ take b.0 xs) ≡ n = count-no p x (take b.0 xs) not-here ∙ f.0 in
      subst (λ (k : ℕ). IsFound p n (x ∷ xs) k) (sym b.2) (found-more p n n x xs b.0 f c)
]

-- an element that passes is found by how many pass before it
pub found-back : {T : Type 0} (p : T → Bool) (xs : List T) (k : ℕ) (x : T) → slice_get xs k ≡ Some x → p x ≡ true → place_of_nth p (count_by p (take k xs)) xs ≡ Some k
found-back p [] k x at passes = absurd (cc at)
found-back p (y ∷ xs) zero x at passes = (let same : y ≡ x = cc at in hit p 0 y xs (ap p same ∙ passes) refl)
found-back p (y ∷ xs) (suc k) x at passes = elim (cases_Bool (p y)) [
  | inl here ↦
      let n = count_by p (take k xs) in
      let l : suc n - 1 ≡ n = omega arith in
      let s : k + 1 ≡ suc k = omega arith in
      ap (λ m. place_of_nth p m (y ∷ xs)) (count-yes p y (take k xs) here) ∙ counted p (suc n) y xs here (eqb-suc-zero n)
      ∙ ap (λ m. option_map (λ i. i + 1) (place_of_nth p m xs)) l ∙ ap (option_map (λ i. i + 1)) (found-back p xs k x at passes) ∙ ap Some s
  | inr not-here ↦
      let s : k + 1 ≡ suc k = omega arith in
      ap (λ m. place_of_nth p m (y ∷ xs)) (count-no p y (take k xs) not-here) ∙ skipped p (count_by p (take k xs)) y xs not-here
      ∙ ap (option_map (λ i. i + 1)) (found-back p xs k x at passes) ∙ ap Some s
]

-- an entry that moves one of a queue has the number of that queue
way-queue : (way : Way) (op : Op) (same : Bool) → is_way way op same ≡ true → same ≡ true
way-queue By.Put Do.Put same h = h
way-queue By.Take Do.Take same h = h
way-queue By.Put Do.See same h = absurd (cc h)
way-queue By.Put Do.Take same h = absurd (cc h)
way-queue By.Put Do.Room same h = absurd (cc h)
way-queue By.Put (Do.Ask s) same h = absurd (cc h)
way-queue By.Put (Do.Waive s) same h = absurd (cc h)
way-queue By.Put (Do.Wanted s) same h = absurd (cc h)
way-queue By.Put (Do.Settle s) same h = absurd (cc h)
way-queue By.Put (Do.Ring s) same h = absurd (cc h)
way-queue By.Put (Do.Wake s) same h = absurd (cc h)
way-queue By.Put (Do.Store w v) same h = absurd (cc h)
way-queue By.Take Do.See same h = absurd (cc h)
way-queue By.Take Do.Put same h = absurd (cc h)
way-queue By.Take Do.Room same h = absurd (cc h)
way-queue By.Take (Do.Ask s) same h = absurd (cc h)
way-queue By.Take (Do.Waive s) same h = absurd (cc h)
way-queue By.Take (Do.Wanted s) same h = absurd (cc h)
way-queue By.Take (Do.Settle s) same h = absurd (cc h)
way-queue By.Take (Do.Ring s) same h = absurd (cc h)
way-queue By.Take (Do.Wake s) same h = absurd (cc h)
way-queue By.Take (Do.Store w v) same h = absurd (cc h)

other-twice : (way : Way) → other (other way) ≡ way
other-twice By.Put = refl
other-twice By.Take = refl

pub partners : (journal : List Entry) (way : Way) (k j : ℕ) (e f : Entry) → slice_get journal k ≡ Some e → moves way e.event.queue.0 e ≡ true
    → partner_of way journal k e ≡ Some j → slice_get journal j ≡ Some f
    → (moves (other way) e.event.queue.0 f ≡ true) × (partner_of (other way) journal j f ≡ Some k)
partners journal way k j e f at move is there =
    let q = e.event.queue.0 in
    let w = found (moves (other way) q) (count_by (moves way q) (take k journal)) journal j is in
    let turned = w.1 f there in
    let same : f.event.queue.0 ≡ q = eqb-true f.event.queue.0 q (way-queue (other way) f.event.op _ turned) in
    let back = found-back (moves way q) journal k e at move in (
      turned,
      ap (λ n. place_of_nth (moves (other (other way)) n) (count_by (moves (other way) n) (take j journal)) journal) same
          ∙ ap (λ v. place_of_nth (moves v q) (count_by (moves (other way) q) (take j journal)) journal) (other-twice way)
          ∙ ap (λ n. place_of_nth (moves way q) n journal) w.0 ∙ back,
    )
