use Rattle.std.proofs.Common.{◌≡◌, ℕ, ◌+◌, ◌-◌, ◌*◌, true, false, ◌==◌, ◌&&◌, nat_lt, List, [], ◌∷◌, ◌++◌, length, Some, None, refl, sym, ap, ◌∙◌, append_assoc, length-append}
use Rattle.std.specs.List.{flat_map}
use Rattle.std.specs.Char.{is_ascii_digit}
use Rattle.std.proofs.lemmas.List.{append-nil}
use Rattle.std.proofs.lemmas.List.Elements.{filter-append}
use Rattle.std.proofs.lemmas.Grind.{flat_map-append}
use Rattle.std.proofs.lemmas.List.Sums.{fold-append}
use Rattle.class_expect.specs.SerialSwitch.Switching.{Piece, Plain, Split, split_next, split_from, split_of, ended, number_of, number_in, last_or, selected, selected_next, given_by, given_after, given_of, escape}
use Rattle.class_expect.specs.SerialSwitch.Standing.{kept_of}

-- one byte more
pub split_from-append : (ps : List Piece) (rest xs : List ℕ) (x : ℕ) → split_from ps rest (xs ++ x ∷ []) ≡ split_next (split_from ps rest xs).pieces (split_from ps rest xs).rest x
split_from-append ps rest [] x = refl
split_from-append ps rest (y ∷ ys) x = split_from-append (split_next ps rest y).pieces (split_next ps rest y).rest ys x

last_or-append : (d : ℕ) (xs ys : List ℕ) → last_or d (xs ++ ys) ≡ last_or (last_or d xs) ys
last_or-append d [] ys = refl
last_or-append d (x ∷ xs) ys = last_or-append x xs ys

-- one piece more
pub selected-append : (clients : ℕ) (ps : List Piece) (p : Piece) → selected clients (ps ++ p ∷ []) ≡ selected_next clients (selected clients ps) p
selected-append clients ps p = rw (flat_map-append number_in ps (p ∷ []), filter-append (λ n. nat_lt n clients) (flat_map number_in ps) (flat_map number_in (p ∷ [])), last_or-append, append-nil (number_in p)) refl

given_after-append : (clients client : ℕ) (before ps : List Piece) (p : Piece) → given_after clients client before (ps ++ p ∷ []) ≡ given_after clients client before ps ++ given_by (selected clients (before ++ ps)) client p
given_after-append clients client before [] p = rw (append-nil (given_by (selected clients before) client p), append-nil before) refl
given_after-append clients client before (q ∷ ps) p = ap (λ g. given_by (selected clients before) client q ++ g) (given_after-append clients client (before ++ q ∷ []) ps p ∙ ap (λ b. given_after clients client (before ++ q ∷ []) ps ++ given_by (selected clients b) client p) (append_assoc before (q ∷ []) ps)) ∙ sym (append_assoc (given_by (selected clients before) client q) _ _)

pub given_of-append : (clients client : ℕ) (ps : List Piece) (p : Piece) → given_of clients client (ps ++ p ∷ []) ≡ given_of clients client ps ++ given_by (selected clients ps) client p
given_of-append clients client ps p = given_after-append clients client [] ps p

pub number_of-append : (ds : List ℕ) (d : ℕ) → number_of (ds ++ d ∷ []) ≡ 10 * number_of ds + (d - 48)
number_of-append ds d = fold-append (λ n d. 10 * n + (d - 48)) 0 ds (d ∷ [])

some_eq : {X : Type 0} {a b : X} → Some a ≡ Some b → a ≡ b
some_eq h = cc

-- the four things that a byte can do
opens_next : (ps : List Piece) (rest : List ℕ) (x : ℕ) → None ≡ kept_of rest → x ≡ 28 → split_next ps rest x ≡ record { pieces = ps; rest = escape ∷ [] }
opens_next ps [] x o e = rw e refl
opens_next ps (b ∷ ds) x o e = cc

plain_next : (ps : List Piece) (rest : List ℕ) (x : ℕ) → None ≡ kept_of rest → (x == 28) ≡ false → split_next ps rest x ≡ record { pieces = ps ++ Plain x ∷ []; rest = [] }
plain_next ps [] x o e = rw e refl
plain_next ps (b ∷ ds) x o e = cc

pub record Continues (ps : List Piece) (m n x : ℕ) (s : Split) : Type 0 where
  pub pieces : s.pieces ≡ ps
  pub kept : kept_of s.rest ≡ Some (m + 1, 10 * n + (x - 48))

continues_next : (ps : List Piece) (rest : List ℕ) (m n x : ℕ) → Some (m, n) ≡ kept_of rest → (is_ascii_digit x && nat_lt m 4) ≡ true → Continues ps m n x (split_next ps rest x)
continues_next ps [] m n x o f = cc
continues_next ps (b ∷ ds) m n x o f =
    let em : m ≡ length ds = ap (λ (p : ℕ × ℕ). p.0) (some_eq o) in
    let en : n ≡ number_of ds = ap (λ (p : ℕ × ℕ). p.1) (some_eq o) in
    let f' : (is_ascii_digit x && nat_lt (length ds) 4) ≡ true = sym (ap (λ k. is_ascii_digit x && nat_lt k 4) em) ∙ f in
    rw f' (record { pieces = refl; kept = rw (number_of-append ds x, length-append ds (x ∷ []), em, en) refl })

pub record Ends (ps : List Piece) (m n x : ℕ) (s : Split) : Type 0 where
  pub digits : List ℕ
  pub count : length digits ≡ m
  pub number : number_of digits ≡ n
  pub split : s ≡ record { pieces = ps ++ ended digits x ∷ []; rest = [] }

ends_next : (ps : List Piece) (rest : List ℕ) (m n x : ℕ) → Some (m, n) ≡ kept_of rest → (is_ascii_digit x && nat_lt m 4) ≡ false → Ends ps m n x (split_next ps rest x)
ends_next ps [] m n x o f = cc
ends_next ps (b ∷ ds) m n x o f =
    let em : m ≡ length ds = ap (λ (p : ℕ × ℕ). p.0) (some_eq o) in
    let en : n ≡ number_of ds = ap (λ (p : ℕ × ℕ). p.1) (some_eq o) in
    let f' : (is_ascii_digit x && nat_lt (length ds) 4) ≡ false = sym (ap (λ k. is_ascii_digit x && nat_lt k 4) em) ∙ f in
    record { digits = ds; count = sym em; number = sym en; split = rw f' refl }

-- the same after an input
module _ (input : List ℕ) (x : ℕ) where
  abbrev was : Split
  was = split_of input

  abbrev is : Split
  is = split_of (input ++ x ∷ [])

  one_more : is ≡ split_next was.pieces was.rest x
  one_more = split_from-append [] [] input x

  pub opens : None ≡ kept_of was.rest → x ≡ 28 → is ≡ record { pieces = was.pieces; rest = escape ∷ [] }
  opens o e = one_more ∙ opens_next was.pieces was.rest x o e

  pub plain : None ≡ kept_of was.rest → (x == 28) ≡ false → is ≡ record { pieces = was.pieces ++ Plain x ∷ []; rest = [] }
  plain o e = one_more ∙ plain_next was.pieces was.rest x o e

  pub continues : (m n : ℕ) → Some (m, n) ≡ kept_of was.rest → (is_ascii_digit x && nat_lt m 4) ≡ true → Continues was.pieces m n x is
  continues m n o f = rw one_more (continues_next was.pieces was.rest m n x o f)

  pub ends : (m n : ℕ) → Some (m, n) ≡ kept_of was.rest → (is_ascii_digit x && nat_lt m 4) ≡ false → Ends was.pieces m n x is
  ends m n o f = rw one_more (ends_next was.pieces was.rest m n x o f)
