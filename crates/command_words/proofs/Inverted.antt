use Rattle.std.proofs.Common.{◌≡◌, ℕ, ◌+◌, ◌<◌, ◌≤◌, ◌^◌, true, false, Bool, Option, Some, None, List, [], ◌∷◌, length, codes, decimal, refl, sym, ap, ◌∙◌, subst, arith}
use Rattle.std.proofs.lemmas.Fmt.{decimal_injective}
use Rattle.command_words.specs.Options.{AreOptions, no_more, seed_set, steps_set, journal_set, IsLimit, unlimited, limited}

-- what options are that begin with a word

pub record OfSeed (word : List ℕ) (more : List (List ℕ)) (seed steps : Option ℕ) (journal : Bool) : Type 0 where
  pub n : ℕ
  pub word_is : word ≡ decimal n
  pub small : n < 2 ^ 64
  pub seed_is : seed ≡ Some n
  pub behind : AreOptions more None steps journal

pub record OfSteps (word : List ℕ) (more : List (List ℕ)) (seed steps : Option ℕ) (journal : Bool) : Type 0 where
  pub n : ℕ
  pub word_is : word ≡ decimal n
  pub enough : 1 ≤ n
  pub few : n ≤ 268435456
  pub steps_is : steps ≡ Some n
  pub behind : AreOptions more seed None journal

pub record OfJournal (more : List (List ℕ)) (seed steps : Option ℕ) (journal : Bool) : Type 0 where
  pub journal_is : journal ≡ true
  pub behind : AreOptions more seed steps false

pub of-seed : (words : List (List ℕ)) (seed steps : Option ℕ) (journal : Bool) → AreOptions words seed steps journal
    → (word : List ℕ) (more : List (List ℕ)) → words ≡ codes "--seed" ∷ word ∷ more → OfSeed word more seed steps journal
of-seed _ _ _ _ no_more word more e = cc
of-seed _ _ _ _ (seed_set n ws steps journal small o) word more e =
    let w : decimal n ≡ word = cc in let m : ws ≡ more = cc in
    record { n = n; word_is = sym w; small = small; seed_is = refl; behind = subst (λ x. AreOptions x None steps journal) m o }
of-seed _ _ _ _ (steps_set n ws seed journal enough few o) word more e = cc
of-seed _ _ _ _ (journal_set ws seed steps o) word more e = cc

pub of-steps : (words : List (List ℕ)) (seed steps : Option ℕ) (journal : Bool) → AreOptions words seed steps journal
    → (word : List ℕ) (more : List (List ℕ)) → words ≡ codes "--steps" ∷ word ∷ more → OfSteps word more seed steps journal
of-steps _ _ _ _ no_more word more e = cc
of-steps _ _ _ _ (seed_set n ws steps journal small o) word more e = cc
of-steps _ _ _ _ (steps_set n ws seed journal enough few o) word more e =
    let w : decimal n ≡ word = cc in let m : ws ≡ more = cc in
    record { n = n; word_is = sym w; enough = enough; few = few; steps_is = refl; behind = subst (λ x. AreOptions x seed None journal) m o }
of-steps _ _ _ _ (journal_set ws seed steps o) word more e = cc

pub of-journal : (words : List (List ℕ)) (seed steps : Option ℕ) (journal : Bool) → AreOptions words seed steps journal
    → (more : List (List ℕ)) → words ≡ codes "--journal" ∷ more → OfJournal more seed steps journal
of-journal _ _ _ _ no_more more e = cc
of-journal _ _ _ _ (seed_set n ws steps journal small o) more e = cc
of-journal _ _ _ _ (steps_set n ws seed journal enough few o) more e = cc
of-journal _ _ _ _ (journal_set ws seed steps o) more e =
    let m : ws ≡ more = cc in record { journal_is = refl; behind = subst (λ x. AreOptions x seed steps false) m o }

pub of-none : (words : List (List ℕ)) (seed steps : Option ℕ) (journal : Bool) → AreOptions words seed steps journal
    → words ≡ [] → (seed ≡ None) × (steps ≡ None) × (journal ≡ false)
of-none _ _ _ _ no_more e = (refl, refl, refl)
of-none _ _ _ _ (seed_set n ws steps journal small o) e = cc
of-none _ _ _ _ (steps_set n ws seed journal enough few o) e = cc
of-none _ _ _ _ (journal_set ws seed steps o) e = cc

-- no options are a name without its number
pub no-lone : (words : List (List ℕ)) (seed steps : Option ℕ) (journal : Bool) → AreOptions words seed steps journal
    → (name : List ℕ) → words ≡ name ∷ [] → name ≡ codes "--journal"
no-lone _ _ _ _ no_more name e = cc
no-lone _ _ _ _ (seed_set n ws steps journal small o) name e = cc
no-lone _ _ _ _ (steps_set n ws seed journal enough few o) name e = cc
no-lone _ _ _ _ (journal_set ws seed steps o) name e = cc

-- options set one thing
pub options-once : (words : List (List ℕ)) (seed steps : Option ℕ) (journal : Bool) (seed' steps' : Option ℕ) (journal' : Bool)
    → AreOptions words seed steps journal → AreOptions words seed' steps' journal' → (seed ≡ seed') × (steps ≡ steps') × (journal ≡ journal')
options-once _ _ _ _ seed' steps' journal' no_more p =
    let q = of-none [] seed' steps' journal' p refl in (sym q.0, sym q.1, sym q.2)
options-once _ _ _ _ seed' steps' journal' (seed_set n ws steps journal small o) p =
    let q = of-seed (codes "--seed" ∷ decimal n ∷ ws) seed' steps' journal' p (decimal n) ws refl in
    let r = options-once ws None steps journal None steps' journal' o q.behind in
    let same = decimal_injective n q.n small q.small q.word_is in
    (ap (λ (m : ℕ). Some m) same ∙ sym q.seed_is, r.1, r.2)
options-once _ _ _ _ seed' steps' journal' (steps_set n ws seed journal enough few o) p =
    let q = of-steps (codes "--steps" ∷ decimal n ∷ ws) seed' steps' journal' p (decimal n) ws refl in
    let r = options-once ws seed None journal seed' None journal' o q.behind in
    let few' = q.few in
    let same = decimal_injective n q.n (omega arith) (omega arith) q.word_is in
    (r.0, ap (λ (m : ℕ). Some m) same ∙ sym q.steps_is, r.2)
options-once _ _ _ _ seed' steps' journal' (journal_set ws seed steps o) p =
    let q = of-journal (codes "--journal" ∷ ws) seed' steps' journal' p ws refl in
    let r = options-once ws seed steps false seed' steps' false o q.behind in
    (r.0, r.1, sym q.journal_is)

-- how many words set something
abbrev two : Option ℕ → ℕ
two None = 0
two (Some n) = 2

abbrev one : Bool → ℕ
one false = 0
one true = 1

words-counted : (words : List (List ℕ)) (seed steps : Option ℕ) (journal : Bool) → AreOptions words seed steps journal → length words ≡ two seed + two steps + one journal
words-counted _ _ _ _ no_more = refl
words-counted _ _ _ _ (seed_set n ws steps journal small o) = let r = words-counted ws None steps journal o in omega arith
words-counted _ _ _ _ (steps_set n ws seed journal enough few o) = let r = words-counted ws seed None journal o in omega arith
words-counted _ _ _ _ (journal_set ws seed steps o) = let r = words-counted ws seed steps false o in omega arith

at-most-two : (o : Option ℕ) → two o ≤ 2
at-most-two None = omega arith
at-most-two (Some n) = omega arith

at-most-one : (b : Bool) → one b ≤ 1
at-most-one false = omega arith
at-most-one true = omega arith

-- options are five words at most
pub options-short : (words : List (List ℕ)) (seed steps : Option ℕ) (journal : Bool) → AreOptions words seed steps journal → length words ≤ 5
options-short words seed steps journal o =
    let r = words-counted words seed steps journal o in let a = at-most-two seed in let b = at-most-two steps in let d = at-most-one journal in omega arith

-- what a limit is that begins with a word
pub of-limit : (words : List (List ℕ)) (steps : Option ℕ) → IsLimit words steps → (word : List ℕ) (more : List (List ℕ)) → words ≡ word ∷ more
    → (n : ℕ) × (word ≡ codes "--steps") × (more ≡ decimal n ∷ []) × (1 ≤ n) × (n ≤ 268435456) × (steps ≡ Some n)
of-limit _ _ unlimited word more e = cc
of-limit _ _ (limited n enough few) word more e = (n, cc, cc, enough, few, refl)

pub of-no-limit : (steps : Option ℕ) → IsLimit [] steps → steps ≡ None
of-no-limit steps l = none [] steps l refl where
  none : (words : List (List ℕ)) (steps : Option ℕ) → IsLimit words steps → words ≡ [] → steps ≡ None
  none _ _ unlimited e = refl
  none _ _ (limited n enough few) e = cc

-- words are one limit
pub limit-once : (words : List (List ℕ)) (n m : Option ℕ) → IsLimit words n → IsLimit words m → n ≡ m
limit-once _ _ m unlimited l = sym (of-no-limit m l)
limit-once _ _ m (limited n enough few) l =
    let o = of-limit (codes "--steps" ∷ decimal n ∷ []) m l (codes "--steps") (decimal n ∷ []) refl in
    let few' = o.4 in
    let e = o.2 in
    let text : decimal n ≡ decimal o.0 = cc in
    let same : n ≡ o.0 = decimal_injective n o.0 (omega arith) (omega arith) text in
    ap (λ (k : ℕ). Some k) same ∙ sym o.5

-- and two at most
pub limit-short : (words : List (List ℕ)) (steps : Option ℕ) → IsLimit words steps → length words ≤ 2
limit-short _ _ unlimited = omega arith
limit-short _ _ (limited n enough few) = omega arith
