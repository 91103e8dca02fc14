use Rattle.std.proofs.Common.{◌≡◌, ◌==◌, ◌&&◌, nat_lt, Bool, true, false, ℕ, List, [], ◌∷◌, ◌++◌, length, refl, sym, ap, ◌∙◌, append_assoc}
use Rattle.std.specs.Char.{is_ascii_digit}
use Rattle.std.proofs.lemmas.List.{append-nil}
use Rattle.cargo_core.specs.Lists.{IsPrefix}
use Rattle.class_expect.specs.SerialSwitch.Switching.{Piece, Plain, Split, split_next, split_from, split_of, ended, escape, selected, given_by, given_after, given_of, input_of}

split_from-append : (ps : List Piece) (rest xs ys : List ℕ) → split_from ps rest (xs ++ ys) ≡ split_from (split_from ps rest xs).pieces (split_from ps rest xs).rest ys
split_from-append ps rest [] ys = refl
split_from-append ps rest (x ∷ xs) ys = split_from-append (split_next ps rest x).pieces (split_next ps rest x).rest xs ys

-- pieces only come to the end
next_open : (ps : List Piece) (x : ℕ) (b : Bool) → (x == escape) ≡ b → IsPrefix ps (split_next ps [] x).pieces
next_open ps x true e = rw e ([], append-nil ps)
next_open ps x false e = rw e (Plain x ∷ [], refl)

next_inside : (ps : List Piece) (o : ℕ) (ds : List ℕ) (x : ℕ) (b : Bool) → (is_ascii_digit x && nat_lt (length ds) 4) ≡ b → IsPrefix ps (split_next ps (o ∷ ds) x).pieces
next_inside ps o ds x true e = rw e ([], append-nil ps)
next_inside ps o ds x false e = rw e (ended ds x ∷ [], refl)

next_begins : (ps : List Piece) (rest : List ℕ) (x : ℕ) → IsPrefix ps (split_next ps rest x).pieces
next_begins ps [] x = next_open ps x _ refl
next_begins ps (o ∷ ds) x = next_inside ps o ds x _ refl

begins_on : (xs ys zs : List Piece) → IsPrefix xs ys → IsPrefix ys zs → IsPrefix xs zs
begins_on xs ys zs h g = (h.0 ++ g.0, sym (append_assoc xs h.0 g.0) ∙ (ap (λ l. l ++ g.0) h.1 ∙ g.1))

split_begins : (ps : List Piece) (rest xs : List ℕ) → IsPrefix ps (split_from ps rest xs).pieces
split_begins ps rest [] = ([], append-nil ps)
split_begins ps rest (x ∷ xs) = begins_on ps (split_next ps rest x).pieces _ (next_begins ps rest x) (split_begins (split_next ps rest x).pieces (split_next ps rest x).rest xs)

given_after-append : (clients client : ℕ) (before ps qs : List Piece) → given_after clients client before (ps ++ qs) ≡ given_after clients client before ps ++ given_after clients client (before ++ ps) qs
given_after-append clients client before [] qs = ap (λ b. given_after clients client b qs) (sym (append-nil before))
given_after-append clients client before (p ∷ ps) qs = ap (λ g. given_by (selected clients before) client p ++ g) (given_after-append clients client (before ++ p ∷ []) ps qs ∙ ap (λ b. given_after clients client (before ++ p ∷ []) ps ++ given_after clients client b qs) (append_assoc before (p ∷ []) ps)) ∙ sym (append_assoc (given_by (selected clients before) client p) _ _)

given_begins : (clients client : ℕ) (ps qs : List Piece) → IsPrefix ps qs → IsPrefix (given_of clients client ps) (given_of clients client qs)
given_begins clients client ps qs h = (given_after clients client ps h.0, sym (given_after-append clients client [] ps h.0) ∙ ap (given_of clients client) h.1)

-- a client's part of the beginning of an input is the beginning of its part
pub input_begins : (clients client : ℕ) (xs ys : List ℕ) → IsPrefix xs ys → IsPrefix (input_of clients client xs) (input_of clients client ys)
input_begins clients client xs ys h =
    let s = split_of xs in
    let whole : split_from s.pieces s.rest h.0 ≡ split_of ys = sym (split_from-append [] [] xs h.0) ∙ ap split_of h.1 in
    let begins : IsPrefix s.pieces (split_from s.pieces s.rest h.0).pieces = split_begins s.pieces s.rest h.0 in
    given_begins clients client s.pieces (split_of ys).pieces (begins.0, begins.1 ∙ ap (λ (t : Split). t.pieces) whole)
