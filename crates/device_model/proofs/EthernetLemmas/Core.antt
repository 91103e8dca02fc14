use Rattle.std.proofs.Common.{◌≡◌, ◌⊎◌, inl, inr, ◌+◌, ◌≤◌, ◌<◌, ℕ, zero, suc, Bool, true, false, Option, Some, None, List, [], ◌∷◌, ◌++◌, length, slice_get, refl, sym, ap, ◌∙◌, arith}
use Rattle.std.specs.Option.{option_to_list}
use Rattle.std.proofs.lemmas.List.{append-nil, length-append}
use Rattle.wire_core.specs.Deeds.{Cargo}
use Rattle.buffer_kit.specs.Entries.{filled, all_filled}
use Rattle.buffer_kit.proofs.Filling.{filled_more, filled_still}
use Rattle.wire_core.specs.Fates.{without, marked}
use Rattle.wire_core.proofs.Fating.{marked-append, without_left, without_past, without_mid, without_kept}

-- what a device stands for, of the lists at the ends where it receives
pub record Core (drops : Bool) (ds : List Bool) (frames : List (List ℕ)) (n : ℕ) (trf sra : List Cargo) (load : Option Cargo) : Type 0 where
  pub filled : sra ++ option_to_list load ≡ all_filled (without ds frames) trf
  pub takes : length trf + marked ds ≡ n
  pub none : drops ≡ false → marked ds ≡ 0
  pub used : drops ≡ true → length ds ≡ n
  pub next : n ≤ length frames

-- a list in front of a place, the element at it and the rest
pub record At {X : Type 0} (xs : List X) (n : ℕ) : Type 0 where
  pub front : List X
  pub x : X
  pub rest : List X
  pub is : xs ≡ front ++ x ∷ rest
  pub long : length front ≡ n

pub at_place : {X : Type 0} (xs : List X) (n : ℕ) → n < length xs → At xs n
at_place [] n lt = absurd (omega (arith, lt))
at_place (x ∷ xs) zero lt = record { front = []; x = x; rest = xs; is = refl; long = refl }
at_place (x ∷ xs) (suc n) lt =
    let r = at_place xs n (omega (arith, lt)) in
    let l = r.long in
    record { front = x ∷ r.front; x = r.x; rest = r.rest; is = ap (λ ys. x ∷ ys) r.is; long = omega (arith, l) }

pub mid_at : {X : Type 0} (xs : List X) (x : X) (ys : List X) → slice_get (xs ++ x ∷ ys) (length xs) ≡ Some x
mid_at [] x ys = refl
mid_at (z ∷ xs) x ys = mid_at xs x ys

some_eq : {X : Type 0} {a b : X} → Some a ≡ Some b → a ≡ b
some_eq h = cc

module _ (drops : Bool) (ds : List Bool) (frames : List (List ℕ)) (next : ℕ) (trf sra : List Cargo) (h : Core drops ds frames next trf sra None) (lt : next < length frames) where
  abbrev at : At frames next
  at = at_place frames next lt

  same : drops ≡ true → length ds ≡ length at.front
  same on = h.used on ∙ sym at.long

  fits : (length ds ≤ length at.front) ⊎ (marked ds ≡ 0)
  fits = by drops refl
    where
      by : (b : Bool) → drops ≡ b → (length ds ≤ length at.front) ⊎ (marked ds ≡ 0)
      by true on = inl (let s = same on in omega (arith, s))
      by false off = inr (h.none off)

  kept : without ds frames ≡ without ds at.front ++ at.x ∷ at.rest
  kept = ap (without ds) at.is ∙ without_past ds at.front (at.x ∷ at.rest) fits

  place : length trf ≡ length (without ds at.front)
  place =
      let long = without_left ds at.front fits in
      let l = at.long in
      let t = h.takes in
      omega (arith, long, l, t)

  -- a free buffer came, and was filled with the next frame
  pub came_core : (f : List ℕ) (e : Cargo) → slice_get frames next ≡ Some f → Core drops (ds ++ false ∷ []) frames (next + 1) (trf ++ e ∷ []) sra (Some (filled f e))
  came_core f e is =
      let f_is : at.x ≡ f = some_eq (sym (mid_at at.front at.x at.rest) ∙ (ap (λ n. slice_get (at.front ++ at.x ∷ at.rest) n) at.long ∙ (ap (λ xs. slice_get xs next) (sym at.is) ∙ is))) in
      let its : slice_get (without ds frames) (length trf) ≡ Some f = ap (λ xs. slice_get xs (length trf)) kept ∙ (ap (λ n. slice_get (without ds at.front ++ at.x ∷ at.rest) n) place ∙ (mid_at (without ds at.front) at.x at.rest ∙ ap Some f_is)) in
      let two = length-append trf (e ∷ []) in
      let more = length-append ds (false ∷ []) in
      let none = marked-append ds (false ∷ []) in
      let t = h.takes in
      record {
        filled = rw (without_kept ds frames) (ap (λ cs. cs ++ filled f e ∷ []) (sym (append-nil sra) ∙ h.filled) ∙ sym (filled_more (without ds frames) trf f e its));
        takes = omega (arith, two, none, t);
        none = λ off. let z = h.none off in omega (arith, none, z);
        used = λ on. let u = h.used on in omega (arith, more, u);
        next = omega (arith, lt);
      }

  -- none was there, and the next frame was dropped
  pub dropped_core : drops ≡ true → Core drops (ds ++ true ∷ []) frames (next + 1) trf sra None
  dropped_core on =
      let after : without (ds ++ true ∷ []) frames ≡ without ds at.front ++ at.rest = ap (without (ds ++ true ∷ [])) at.is ∙ without_mid ds at.front at.x at.rest (same on) in
      let p = place in
      let few : length trf ≤ length (without ds at.front) = omega (arith, p) in
      let more = length-append ds (true ∷ []) in
      let one = marked-append ds (true ∷ []) in
      let t = h.takes in
      let u = h.used on in
      record {
        filled = rw after (h.filled ∙ (ap (λ fs. all_filled fs trf) kept ∙ (filled_still (without ds at.front) (at.x ∷ at.rest) trf few ∙ sym (filled_still (without ds at.front) at.rest trf few))));
        takes = omega (arith, one, t);
        none = λ off. let no : true ≡ false = sym on ∙ off in absurd cc;
        used = λ o. omega (arith, more, u);
        next = omega (arith, lt);
      }

-- the filled buffer was put
pub put_core : (drops : Bool) (ds : List Bool) (frames : List (List ℕ)) (next : ℕ) (trf sra : List Cargo) (b : Cargo) → Core drops ds frames next trf sra (Some b) → Core drops ds frames next trf (sra ++ b ∷ []) None
put_core drops ds frames next trf sra b h = record { filled = append-nil (sra ++ b ∷ []) ∙ h.filled; takes = h.takes; none = h.none; used = h.used; next = h.next }
