-- Words that ask for a drawing are thirteen at most: three, and two for each of five options.
use Rattle.std.proofs.Common.{◌≡◌, ◌+◌, ◌*◌, ◌≤◌, ℕ, Option, Some, None, List, [], ◌∷◌, length, length-append, length-take, take, refl, ap, arith, inl, inr}
use Rattle.std.proofs.lemmas.Bool.{cases_Bool}
use Rattle.command_words.specs.declared.play_words.options.Name.{Name}
use Rattle.command_words.specs.declared.play_words.options.Name.TheVariants as An
use Rattle.command_words.specs.declared.play_words.options.Setting.{Setting}
use Rattle.command_words.specs.PlayWords.Words.{takes_number, number_words_of, option_words, number_of, AreFit, IsBadWord}

-- one where there is a number
abbrev one : Option ℕ → ℕ
one None = 0
one (Some n) = 1

one-most : (o : Option ℕ) → one o ≤ 1
one-most None = omega arith
one-most (Some n) = omega arith

-- how many names are there
abbrev total : List Setting → ℕ
total ss = one (number_of An.Seed ss) + one (number_of An.Steps ss) + one (number_of An.From ss) + one (number_of An.To ss) + one (number_of An.Counts ss)

total-most : (ss : List Setting) → total ss ≤ 5
total-most ss =
    let a = one-most (number_of An.Seed ss) in
    let b = one-most (number_of An.Steps ss) in
    let c = one-most (number_of An.From ss) in
    let d = one-most (number_of An.To ss) in
    let e = one-most (number_of An.Counts ss) in
    omega (arith, a, b, c, d, e)

abbrev made : Name → ℕ → Setting
made name number = record { name = name; number = number }

grows : (name : Name) (n : ℕ) (more : List Setting) → number_of name more ≡ None → total (made name n ∷ more) ≡ total more + 1
grows An.Seed n more e = let z = ap one e in omega (arith, z)
grows An.Steps n more e = let z = ap one e in omega (arith, z)
grows An.From n more e = let z = ap one e in omega (arith, z)
grows An.To n more e = let z = ap one e in omega (arith, z)
grows An.Counts n more e = let z = ap one e in omega (arith, z)

counted : (ss : List Setting) → AreFit ss → length ss ≡ total ss
counted [] fit = refl
counted (s ∷ more) fit =
    let rest = counted more fit.2 in
    let g : total (s ∷ more) ≡ total more + 1 = grows s.name s.number more fit.1 in
    omega (arith, rest, g)

-- an option has two words at most
few-words : (s : Setting) → length (number_words_of s) ≤ 1
few-words s = elim (cases_Bool (takes_number s.name)) [ inl t ↦ rw t (omega arith) | inr f ↦ rw f (omega arith) ]

options-long : (ss : List Setting) → length (option_words ss) ≤ 2 * length ss
options-long [] = omega arith
options-long (s ∷ more) =
    let rest = options-long more in
    let l = length-append (number_words_of s) (option_words more) in
    let w = few-words s in
    omega (arith, rest, l, w)

pub bad-early : (words : List (List ℕ)) (k : ℕ) → IsBadWord words k → k ≤ 13
bad-early words k h =
    let s = h.before.2 in
    let all = ap length s.2.words_are in
    let l = length-append (take k words) h.before.0 in
    let m = length-take k words in
    let n = h.within in
    let fit = s.2.fit in
    let long = options-long h.before.1.settings in
    let count = counted h.before.1.settings fit in
    let most = total-most h.before.1.settings in
    omega (arith, all, l, m, n, long, count, most)
