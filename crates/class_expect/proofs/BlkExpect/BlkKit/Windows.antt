use Rattle.std.proofs.Common.{◌≡◌, ◌+◌, ◌-◌, ◌*◌, ◌≤◌, ℕ, List, ◌++◌, length, take, drop, refl, sym, ap, ◌∙◌, append_assoc, arith}
use Rattle.std.proofs.lemmas.List.{drop-append-le, drop-drop, drop-take, drop_at, length-append, length-drop, length-take-le, take-take, take_at}
use Rattle.std.proofs.Math.Seq.{take-add}
use Rattle.cargo_core.specs.Lists.{replaced}

-- the first elements of two lists, past the first list
take_through : (xs ys : List ℕ) (n m : ℕ) → length xs ≡ n → take (n + m) (xs ++ ys) ≡ xs ++ take m ys
take_through xs ys n m e = take-add n m (xs ++ ys) ∙ (ap (λ (zs : List ℕ). zs ++ take m (drop n (xs ++ ys))) (take_at xs ys n e) ∙ ap (λ (zs : List ℕ). xs ++ take m zs) (drop_at xs ys n e))

drop_through : (xs ys : List ℕ) (n m : ℕ) → length xs ≡ n → drop (n + m) (xs ++ ys) ≡ drop m ys
drop_through xs ys n m e = sym (drop-drop m n (xs ++ ys)) ∙ ap (drop m) (drop_at xs ys n e)

-- a run within a run
pub run_inside : (xs : List ℕ) (o l a n : ℕ) → a + n ≤ l → take n (drop (o + a) xs) ≡ take n (drop a (take l (drop o xs)))
run_inside xs o l a n h =
    let m : ℕ = l - a in
    let parts : a + m ≡ l = omega arith in
    let most : n ≤ m = omega arith in
    sym (ap (take n) (ap (λ k. drop a (take k (drop o xs))) (sym parts) ∙ drop-take a m (drop o xs)) ∙ (take-take n m (drop a (drop o xs)) most ∙ ap (take n) (drop-drop a o xs)))

-- other bytes behind a place leave what stands before it
spliced : (xs from : List ℕ) (o a : ℕ) → replaced xs (o + a) from ≡ take o xs ++ replaced (drop o xs) a from
spliced xs from o a =
    let front : take (o + a) xs ++ from ≡ take o xs ++ (take a (drop o xs) ++ from) = ap (λ (ys : List ℕ). ys ++ from) (take-add o a xs) ∙ append_assoc (take o xs) (take a (drop o xs)) from in
    let same : o + a + length from ≡ o + (a + length from) = omega arith in
    let rest : drop (o + a + length from) xs ≡ drop (a + length from) (drop o xs) = ap (λ k. drop k xs) same ∙ sym (drop-drop (a + length from) o xs) in
    ap (λ (ys : List ℕ). ys ++ drop (o + a + length from) xs) front ∙ (ap (λ (ys : List ℕ). (take o xs ++ (take a (drop o xs) ++ from)) ++ ys) rest ∙ append_assoc (take o xs) (take a (drop o xs) ++ from) (drop (a + length from) (drop o xs)))

-- other bytes within a beginning are within what is cut
cut : (ys from : List ℕ) (a l : ℕ) → a + length from ≤ l → l ≤ length ys → take l (replaced ys a from) ≡ replaced (take l ys) a from
cut ys from a l h k =
    let m : ℕ = l - (a + length from) in
    let parts : a + length from + m ≡ l = omega arith in
    let few : a ≤ length ys = omega arith in
    let long : length (take a ys ++ from) ≡ a + length from = length-append (take a ys) from ∙ ap (λ n. n + length from) (length-take-le a ys few) in
    let left : take l (replaced ys a from) ≡ (take a ys ++ from) ++ take m (drop (a + length from) ys) = ap (λ n. take n (replaced ys a from)) (sym parts) ∙ take_through (take a ys ++ from) (drop (a + length from) ys) (a + length from) m long in
    let front : take a (take l ys) ≡ take a ys = take-take a l ys (omega arith) in
    let rest : drop (a + length from) (take l ys) ≡ take m (drop (a + length from) ys) = ap (λ n. drop (a + length from) (take n ys)) (sym parts) ∙ drop-take (a + length from) m ys in
    left ∙ sym (ap (λ (zs : List ℕ). (zs ++ from) ++ drop (a + length from) (take l ys)) front ∙ ap (λ (zs : List ℕ). (take a ys ++ from) ++ zs) rest)

-- other bytes within a run
pub replaced_inside : (xs from : List ℕ) (o l a : ℕ) → a + length from ≤ l → o + l ≤ length xs → take l (drop o (replaced xs (o + a) from)) ≡ replaced (take l (drop o xs)) a from
replaced_inside xs from o l a h k =
    let at : length (take o xs) ≡ o = length-take-le o xs (omega arith) in
    let long = length-drop o xs in
    ap (λ (ys : List ℕ). take l (drop o ys)) (spliced xs from o a) ∙ (ap (take l) (drop_at (take o xs) (replaced (drop o xs) a from) o at) ∙ cut (drop o xs) from a l h (omega (arith, long)))

-- other bytes behind a run
pub replaced_above : (xs from : List ℕ) (o l a : ℕ) → o + l ≤ length xs → take l (drop o (replaced xs (o + l + a) from)) ≡ take l (drop o xs)
replaced_above xs from o l a k =
    let whole : length (take (o + l) xs) ≡ o + l = length-take-le (o + l) xs k in
    let least : o ≤ length (take (o + l) xs) = omega arith in
    let long = length-drop o xs in
    let run : length (take l (drop o xs)) ≡ l = length-take-le l (drop o xs) (omega (arith, long)) in
    ap (λ (ys : List ℕ). take l (drop o ys)) (spliced xs from (o + l) a) ∙ (ap (take l) (drop-append-le o (take (o + l) xs) (replaced (drop (o + l) xs) a from) least ∙ ap (λ (ys : List ℕ). ys ++ replaced (drop (o + l) xs) a from) (drop-take o l xs)) ∙ take_at (take l (drop o xs)) (replaced (drop (o + l) xs) a from) l run)

-- other bytes before a run
pub replaced_below : (xs from : List ℕ) (o l a : ℕ) → a + length from ≤ o → o ≤ length xs → take l (drop o (replaced xs a from)) ≡ take l (drop o xs)
replaced_below xs from o l a h k =
    let m : ℕ = o - (a + length from) in
    let parts : a + length from + m ≡ o = omega arith in
    let few : a ≤ length xs = omega arith in
    let long : length (take a xs ++ from) ≡ a + length from = length-append (take a xs) from ∙ ap (λ n. n + length from) (length-take-le a xs few) in
    ap (take l) (ap (λ n. drop n (replaced xs a from)) (sym parts) ∙ (drop_through (take a xs ++ from) (drop (a + length from) xs) (a + length from) m long ∙ (drop-drop m (a + length from) xs ∙ ap (λ n. drop n xs) parts)))
