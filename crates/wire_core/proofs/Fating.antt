use Rattle.std.proofs.Common.{◌≡◌, ◌⊎◌, inl, inr, ◌+◌, ◌≤◌, ℕ, Bool, true, false, cond, List, [], ◌∷◌, ◌++◌, length, map, refl, sym, ap, ◌∙◌, subst, append_assoc, arith}
use Rattle.std.proofs.lemmas.List.{append-nil, length-append}
use Rattle.wire_core.specs.declared.names.Event.{Event}
use Rattle.wire_core.specs.Bells.{bit}
use Rattle.wire_core.specs.Ends.{Role}
use Rattle.wire_core.specs.Fates.{Word, Came, Served, Refused, Other, Fate, Reading, no_fate, fate_after, fate_from, fate_of, without, marked, noes_at, is_vain_at, IsRefused}

-- one call more
from_more : (word : Reading) (bs : List Event) (f : Fate) (es : List Event) (e : Event) → fate_from word bs f (es ++ e ∷ []) ≡ fate_after (fate_from word bs f es) (word (bs ++ es) e)
from_more word bs f [] e = ap (λ cs. fate_after f (word cs e)) (sym (append-nil bs))
from_more word bs f (d ∷ es) e = from_more word (bs ++ d ∷ []) (fate_after f (word bs d)) es e ∙ ap (λ cs. fate_after (fate_from word (bs ++ d ∷ []) (fate_after f (word bs d)) es) (word cs e)) (append_assoc bs (d ∷ []) es)

pub fate_more : (word : Reading) (es : List Event) (e : Event) → fate_of word (es ++ e ∷ []) ≡ fate_after (fate_of word es) (word es e)
fate_more word es e = from_more word [] no_fate es e

pub marked-append : (xs bs : List Bool) → marked (xs ++ bs) ≡ marked xs + marked bs
marked-append [] bs = omega arith
marked-append (x ∷ xs) bs = let r = marked-append xs bs in omega (arith, r)

-- what waits adds at most one
settled_few : (b w : Bool) (bs : List Bool) → marked (bs ++ cond w (b ∷ []) []) ≤ marked bs + bit b
settled_few b true bs = let r = marked-append bs (b ∷ []) in omega (arith, r)
settled_few b false bs = let r = ap marked (append-nil bs) in omega (arith, r)

pub settled_none : (w : Bool) (bs : List Bool) → marked (bs ++ cond w (false ∷ []) []) ≡ marked bs
settled_none true bs = let r = marked-append bs (false ∷ []) in omega (arith, r)
settled_none false bs = ap marked (append-nil bs)

module _ (word : Reading) (r : Role) (n : ℕ) (vain : (bs : List Event) (e : Event) → IsRefused (word bs e) → is_vain_at r n e ≡ true) where
  one : (bs : List Event) (f : Fate) (e : Event) (w : Word) → word bs e ≡ w → marked (fate_after f w).dropped ≤ marked f.dropped + bit (is_vain_at r n e)
  one bs f e Came is = let s = settled_none f.waits f.dropped in omega (arith, s)
  one bs f e Served is = let s = settled_none f.waits f.dropped in omega (arith, s)
  one bs f e Refused is =
      let s = settled_few true f.waits f.dropped in
      let v = ap bit (vain bs e (subst IsRefused (sym is) tt)) in
      omega (arith, s, v)
  one bs f e Other is = omega arith

  few_from : (bs : List Event) (f : Fate) (es : List Event) → marked (fate_from word bs f es).dropped ≤ marked f.dropped + noes_at r n es
  few_from bs f [] = omega arith
  few_from bs f (e ∷ es) =
      let a = few_from (bs ++ e ∷ []) (fate_after f (word bs e)) es in
      let b = one bs f e (word bs e) refl in
      omega (arith, a, b)

  pub few_dropped : (es : List Event) → marked (fate_of word es).dropped ≤ noes_at r n es
  few_dropped es = let r = few_from [] no_fate es in omega (arith, r)

module _ (word : Reading) (never : (bs : List Event) (e : Event) → IsRefused (word bs e) → ⊥) where
  none_more : (bs : List Event) (f : Fate) (e : Event) (w : Word) → word bs e ≡ w → marked (fate_after f w).dropped ≡ marked f.dropped
  none_more bs f e Came is = settled_none f.waits f.dropped
  none_more bs f e Served is = settled_none f.waits f.dropped
  none_more bs f e Refused is = absurd (never bs e (subst IsRefused (sym is) tt))
  none_more bs f e Other is = refl

  none_from : (bs : List Event) (f : Fate) (es : List Event) → marked (fate_from word bs f es).dropped ≡ marked f.dropped
  none_from bs f [] = refl
  none_from bs f (e ∷ es) = none_from (bs ++ e ∷ []) (fate_after f (word bs e)) es ∙ none_more bs f e (word bs e) refl

  pub none_dropped : (es : List Event) → marked (fate_of word es).dropped ≡ 0
  none_dropped es = none_from [] no_fate es

-- where nothing is marked all stays
pub without_none : {X : Type 0} (bs : List Bool) (xs : List X) → marked bs ≡ 0 → without bs xs ≡ xs
without_none [] xs z = refl
without_none (true ∷ bs) xs z = absurd (omega (arith, z))
without_none (false ∷ bs) [] z = refl
without_none (false ∷ bs) (x ∷ xs) z = ap (λ ys. x ∷ ys) (without_none bs xs (omega (arith, z)))

pub without_length : {X : Type 0} (bs : List Bool) (xs : List X) → length bs ≤ length xs → length (without bs xs) + marked bs ≡ length xs
without_length [] xs few = omega arith
without_length (b ∷ bs) [] few = absurd (omega (arith, few))
without_length (true ∷ bs) (x ∷ xs) few = let r = without_length bs xs (omega (arith, few)) in omega (arith, r)
without_length (false ∷ bs) (x ∷ xs) few = let r = without_length bs xs (omega (arith, few)) in omega (arith, r)

-- what stands behind the marks stays
pub without_more : {X : Type 0} (bs : List Bool) (xs ys : List X) → length bs ≤ length xs → without bs (xs ++ ys) ≡ without bs xs ++ ys
without_more [] xs ys few = refl
without_more (b ∷ bs) [] ys few = absurd (omega (arith, few))
without_more (true ∷ bs) (x ∷ xs) ys few = without_more bs xs ys (omega (arith, few))
without_more (false ∷ bs) (x ∷ xs) ys few = ap (λ zs. x ∷ zs) (without_more bs xs ys (omega (arith, few)))

-- the one behind the marks is marked
pub without_last : {X : Type 0} (bs : List Bool) (xs : List X) (x : X) → length bs ≡ length xs → without (bs ++ true ∷ []) (xs ++ x ∷ []) ≡ without bs xs
without_last [] [] x same = refl
without_last [] (y ∷ ys) x same = absurd (omega (arith, same))
without_last (b ∷ bs) [] x same = absurd (omega (arith, same))
without_last (true ∷ bs) (y ∷ ys) x same = without_last bs ys x (omega (arith, same))
without_last (false ∷ bs) (y ∷ ys) x same = ap (λ zs. y ∷ zs) (without_last bs ys x (omega (arith, same)))

-- the one behind the marks is settled, and stays
pub without_kept : {X : Type 0} (bs : List Bool) (xs : List X) → without (bs ++ false ∷ []) xs ≡ without bs xs
without_kept [] [] = refl
without_kept [] (x ∷ xs) = refl
without_kept (b ∷ bs) [] = refl
without_kept (true ∷ bs) (x ∷ xs) = without_kept bs xs
without_kept (false ∷ bs) (x ∷ xs) = ap (λ zs. x ∷ zs) (without_kept bs xs)

pub without-map : {X Y : Type 0} (f : X → Y) (bs : List Bool) (xs : List X) → map f (without bs xs) ≡ without bs (map f xs)
without-map f [] xs = refl
without-map f (b ∷ bs) [] = refl
without-map f (true ∷ bs) (x ∷ xs) = without-map f bs xs
without-map f (false ∷ bs) (x ∷ xs) = ap (λ ys. f x ∷ ys) (without-map f bs xs)

-- looks in vain, with one call more
pub noes_more : (r : Role) (n : ℕ) (es : List Event) (e : Event) → noes_at r n (es ++ e ∷ []) ≡ noes_at r n es + bit (is_vain_at r n e)
noes_more r n [] e = omega arith
noes_more r n (d ∷ es) e = let h = noes_more r n es e in omega (arith, h)

-- the one behind the marks is marked, and what stands behind it stays
pub without_mid : {X : Type 0} (bs : List Bool) (xs : List X) (x : X) (zs : List X) → length bs ≡ length xs → without (bs ++ true ∷ []) (xs ++ x ∷ zs) ≡ without bs xs ++ zs
without_mid [] [] x zs same = refl
without_mid [] (y ∷ ys) x zs same = absurd (omega (arith, same))
without_mid (b ∷ bs) [] x zs same = absurd (omega (arith, same))
without_mid (true ∷ bs) (y ∷ ys) x zs same = without_mid bs ys x zs (omega (arith, same))
without_mid (false ∷ bs) (y ∷ ys) x zs same = ap (λ ws. y ∷ ws) (without_mid bs ys x zs (omega (arith, same)))

-- where no more is marked than came, or nothing is, what stands behind the marks stays
pub without_past : {X : Type 0} (bs : List Bool) (xs ys : List X) → (length bs ≤ length xs) ⊎ (marked bs ≡ 0) → without bs (xs ++ ys) ≡ without bs xs ++ ys
without_past bs xs ys fits = elim fits [
  | inl few ↦ without_more bs xs ys few
  | inr none ↦ without_none bs (xs ++ ys) none ∙ ap (λ zs. zs ++ ys) (sym (without_none bs xs none))
]

pub without_left : {X : Type 0} (bs : List Bool) (xs : List X) → (length bs ≤ length xs) ⊎ (marked bs ≡ 0) → length (without bs xs) + marked bs ≡ length xs
without_left bs xs fits = elim fits [
  | inl few ↦ without_length bs xs few
  | inr none ↦ let all = ap length (without_none bs xs none) in omega (arith, all, none)
]

-- what waits is settled as one that stays
pub without_settled : {X : Type 0} (w : Bool) (bs : List Bool) (xs : List X) → without (bs ++ cond w (false ∷ []) []) xs ≡ without bs xs
without_settled true bs xs = without_kept bs xs
without_settled false bs xs = ap (λ cs. without cs xs) (append-nil bs)

pub settled_length : (w b : Bool) (bs : List Bool) → length (bs ++ cond w (b ∷ []) []) ≡ length bs + bit w
settled_length true b bs = length-append bs (b ∷ [])
settled_length false b bs = let r = ap length (append-nil bs) in omega (arith, r)
