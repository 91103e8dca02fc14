use Rattle.std.proofs.Common.{◌≡◌, ◌≢◌, ◌⊎◌, ℕ, ◌+◌, ◌<◌, ◌≤◌, Bool, true, false, ◌&&◌, nat_lt, List, [], ◌∷◌, ◌++◌, length, refl, sym, ap, ◌∙◌, subst, append_assoc, arith, length-append, drop, inl, inr, ne_eqb, lt-ltb, ltb-true}
use Rattle.std.specs.List.{flat_map}
use Rattle.std.specs.Char.{is_ascii_digit}
use Rattle.std.proofs.Math.Dec.{eqb}
use Rattle.std.proofs.lemmas.List.{append-nil}
use Rattle.std.proofs.lemmas.Bool.Decides.{eqb_tells}
use Rattle.std.proofs.lemmas.Grind.{flat_map-append}
use Rattle.class_expect.specs.SerialSwitch.Switching.{Piece, Plain, Doubled, Selection, Dropped, Drops, IsPiece, ArePieces, AreDigits, IsRest, Split, IsSplit, bytes_of, split_next, split_from, split_of, ended, escape, confirm}

pub are_pieces_more : (ps : List Piece) (p : Piece) → ArePieces ps → IsPiece p → ArePieces (ps ++ p ∷ [])
are_pieces_more [] p h g = (g, tt)
are_pieces_more (q ∷ ps) p h g = (h.0, are_pieces_more ps p h.1 g)

are_digits_more : (ds : List ℕ) (d : ℕ) → AreDigits ds → is_ascii_digit d ≡ true → AreDigits (ds ++ d ∷ [])
are_digits_more [] d h g = (g, tt)
are_digits_more (e ∷ ds) d h g = (h.0, are_digits_more ds d h.1 g)

and_true : (a b : Bool) → (a && b) ≡ true → (a ≡ true) × (b ≡ true)
and_true true true h = (refl, refl)
and_true true false h = (refl, h)
and_true false b h = cc

and_false : (a b : Bool) → (a && b) ≡ false → b ≡ true → a ≡ false
and_false true b h e = cc
and_false false b h e = refl

-- a byte that ends an open selection makes a piece
pub ended_is_piece : (ds : List ℕ) (x : ℕ) → AreDigits ds → length ds ≤ 4 → (is_ascii_digit x && nat_lt (length ds) 4) ≡ false → ((eqb x escape ≡ true) × (x ≡ escape)) ⊎ ((eqb x escape ≡ false) × (x ≢ escape)) → ((eqb x confirm ≡ true) × (x ≡ confirm)) ⊎ ((eqb x confirm ≡ false) × (x ≢ confirm)) → IsPiece (ended ds x)
ended_is_piece [] x h l e (inl same) w = rw same.0 tt
ended_is_piece [] x h l e (inr other) w = rw other.0 (tt, l, record { not_doubled = λ z. other.1; not_confirmed = λ z. absurd (omega arith); not_continued = λ z. and_false _ _ e refl })
ended_is_piece (d ∷ ds) x h l e v (inl same) = rw same.0 (h, omega arith, l)
ended_is_piece (d ∷ ds) x h l e v (inr other) = rw other.0 (h, l, record { not_doubled = λ z. absurd (omega arith); not_confirmed = λ z. other.1; not_continued = λ z. and_false _ _ e (lt-ltb (length (d ∷ ds)) 4 z) })

pub ended_bytes : (ds : List ℕ) (x : ℕ) → ((eqb x escape ≡ true) × (x ≡ escape)) ⊎ ((eqb x escape ≡ false) × (x ≢ escape)) → ((eqb x confirm ≡ true) × (x ≡ confirm)) ⊎ ((eqb x confirm ≡ false) × (x ≢ confirm)) → bytes_of (ended ds x) ≡ escape ∷ (ds ++ x ∷ [])
ended_bytes [] x (inl same) w = rw same.1 refl
ended_bytes [] x (inr other) w = rw other.0 refl
ended_bytes (d ∷ ds) x v (inl same) = rw same.1 refl
ended_bytes (d ∷ ds) x v (inr other) = rw other.0 refl

pub pieces_text : (ps : List Piece) (p : Piece) → flat_map bytes_of (ps ++ p ∷ []) ≡ flat_map bytes_of ps ++ bytes_of p
pieces_text ps p = flat_map-append bytes_of ps (p ∷ []) ∙ ap (λ bs. flat_map bytes_of ps ++ bs) (append-nil (bytes_of p))

-- each byte keeps it a split
next_splits : (pre : List ℕ) (ps : List Piece) (rest : List ℕ) (x : ℕ) → IsSplit pre (record { pieces = ps; rest = rest }) → ((eqb x escape ≡ true) × (x ≡ escape)) ⊎ ((eqb x escape ≡ false) × (x ≢ escape)) → (b : Bool) → (is_ascii_digit x && nat_lt (length (drop 1 rest)) 4) ≡ b → IsSplit (pre ++ x ∷ []) (split_next ps rest x)
next_splits pre ps [] x h (inl same) b e = rw same.0 (record { pieces = h.pieces; rest = (refl, tt, omega arith); text = ap (λ y. flat_map bytes_of ps ++ y ∷ []) (sym same.1) ∙ ap (λ bs. bs ++ x ∷ []) (sym (append-nil (flat_map bytes_of ps)) ∙ h.text) })
next_splits pre ps [] x h (inr other) b e = rw other.0 (record { pieces = are_pieces_more ps (Plain x) h.pieces other.1; rest = tt; text = append-nil _ ∙ (pieces_text ps (Plain x) ∙ ap (λ bs. bs ++ x ∷ []) (sym (append-nil (flat_map bytes_of ps)) ∙ h.text)) })
next_splits pre ps (o ∷ ds) x h w true e =
    let t = and_true (is_ascii_digit x) (nat_lt (length ds) 4) e in
    let few : length ds < 4 = ltb-true (length ds) 4 t.1 in
    rw e (record { pieces = h.pieces; rest = (h.rest.0, are_digits_more ds x h.rest.1 t.0, omega (arith, length-append ds (x ∷ []))); text = sym (append_assoc (flat_map bytes_of ps) (o ∷ ds) (x ∷ [])) ∙ ap (λ bs. bs ++ x ∷ []) h.text })
next_splits pre ps (o ∷ ds) x h w false e =
    rw e (record { pieces = are_pieces_more ps (ended ds x) h.pieces (ended_is_piece ds x h.rest.1 h.rest.2 e w (eqb_tells x confirm)); rest = tt; text = append-nil _ ∙ (pieces_text ps (ended ds x) ∙ (ap (λ bs. flat_map bytes_of ps ++ bs) (ended_bytes ds x w (eqb_tells x confirm) ∙ ap (λ y. y ∷ (ds ++ x ∷ [])) (sym h.rest.0)) ∙ (sym (append_assoc (flat_map bytes_of ps) (o ∷ ds) (x ∷ [])) ∙ ap (λ bs. bs ++ x ∷ []) h.text))) })

from_splits : (pre : List ℕ) (ps : List Piece) (rest xs : List ℕ) → IsSplit pre (record { pieces = ps; rest = rest }) → IsSplit (pre ++ xs) (split_from ps rest xs)
from_splits pre ps rest [] h = rw append-nil h
from_splits pre ps rest (x ∷ xs) h =
    subst (λ bs. IsSplit bs (split_from (split_next ps rest x).pieces (split_next ps rest x).rest xs)) (append_assoc pre (x ∷ []) xs)
    (from_splits (pre ++ x ∷ []) (split_next ps rest x).pieces (split_next ps rest x).rest xs (next_splits pre ps rest x h (eqb_tells x escape) _ refl))

-- each input splits
pub splits : (input : List ℕ) → IsSplit input (split_of input)
splits input = from_splits [] [] [] input (record { pieces = tt; rest = tt; text = refl })

and_both : (a b : Bool) → a ≡ true → b ≡ true → (a && b) ≡ true
and_both true b e f = f
and_both false b e f = cc

digit_step : (ps : List Piece) (o : ℕ) (had : List ℕ) (d : ℕ) → (is_ascii_digit d && nat_lt (length had) 4) ≡ true → split_next ps (o ∷ had) d ≡ record { pieces = ps; rest = o ∷ (had ++ d ∷ []) }
digit_step ps o had d e = rw e refl

-- digits keep a selection open
digits_run : (ps : List Piece) (o : ℕ) (had ds more : List ℕ) → AreDigits ds → length had + length ds ≤ 4 → split_from ps (o ∷ had) (ds ++ more) ≡ split_from ps (o ∷ (had ++ ds)) more
digits_run ps o had [] more h l = ap (λ bs. split_from ps (o ∷ bs) more) (sym (append-nil had))
digits_run ps o had (d ∷ ds) more h l =
    let few : nat_lt (length had) 4 ≡ true = lt-ltb (length had) 4 (omega arith) in
    ap (λ (s : Split). split_from s.pieces s.rest (ds ++ more)) (digit_step ps o had d (and_both (is_ascii_digit d) (nat_lt (length had) 4) h.0 few)) ∙ (digits_run ps o (had ++ d ∷ []) ds more h.1 (omega (arith, length-append had (d ∷ []))) ∙ ap (λ bs. split_from ps (o ∷ bs) more) (append_assoc had (d ∷ []) ds))

-- a byte that ends it makes the piece
ends_run : (ps : List Piece) (ds : List ℕ) (x : ℕ) (more : List ℕ) → (is_ascii_digit x && nat_lt (length ds) 4) ≡ false → split_from ps (escape ∷ ds) (x ∷ more) ≡ split_from (ps ++ ended ds x ∷ []) [] more
ends_run ps ds x more e = rw e refl

selection_ends : (ds : List ℕ) → 0 < length ds → ended ds confirm ≡ Selection ds
selection_ends [] l = absurd (omega arith)
selection_ends (d ∷ ds) l = refl

dropped_ends : (ds : List ℕ) (x : ℕ) → Drops (length ds) x → ended ds x ≡ Dropped ds x
dropped_ends [] x h = rw (ne_eqb x escape (h.not_doubled refl)) refl
dropped_ends (d ∷ ds) x h = rw (ne_eqb x confirm (h.not_confirmed (omega arith))) refl

no_more : (ds : List ℕ) (x : ℕ) → ((k : ℕ) → k ≡ length ds → k < 4 → is_ascii_digit x ≡ false) → (b : Bool) → nat_lt (length ds) 4 ≡ b → (is_ascii_digit x && nat_lt (length ds) 4) ≡ false
no_more ds x h true e = ap (λ b. b && nat_lt (length ds) 4) (h (length ds) refl (ltb-true (length ds) 4 e))
no_more ds x h false e = and_no (is_ascii_digit x) (nat_lt (length ds) 4) e
  where
    and_no : (a b : Bool) → b ≡ false → (a && b) ≡ false
    and_no true b f = f
    and_no false b f = refl

piece_run : (ps : List Piece) (p : Piece) (more : List ℕ) → IsPiece p → split_from ps [] (bytes_of p ++ more) ≡ split_from (ps ++ p ∷ []) [] more
piece_run ps (Plain b) more h = rw (ne_eqb b escape h) refl
piece_run ps Doubled more h = refl
piece_run ps (Selection ds) more h =
    ap (λ bs. split_from ps (escape ∷ []) bs) (append_assoc ds (confirm ∷ []) more) ∙ (digits_run ps escape [] ds (confirm ∷ more) h.0 (omega (arith, h.2)) ∙ (ends_run ps ds confirm more refl ∙ ap (λ p. split_from (ps ++ p ∷ []) [] more) (selection_ends ds h.1)))
piece_run ps (Dropped ds x) more h =
    ap (λ bs. split_from ps (escape ∷ []) bs) (append_assoc ds (x ∷ []) more) ∙ (digits_run ps escape [] ds (x ∷ more) h.0 (omega (arith, h.1)) ∙ (ends_run ps ds x more (no_more ds x (λ k e l. h.2.not_continued (omega arith)) _ refl) ∙ ap (λ p. split_from (ps ++ p ∷ []) [] more) (dropped_ends ds x h.2)))

pieces_run : (ps qs : List Piece) (more : List ℕ) → ArePieces qs → split_from ps [] (flat_map bytes_of qs ++ more) ≡ split_from (ps ++ qs) [] more
pieces_run ps [] more h = ap (λ ps. split_from ps [] more) (sym (append-nil ps))
pieces_run ps (q ∷ qs) more h =
    ap (split_from ps []) (append_assoc (bytes_of q) (flat_map bytes_of qs) more) ∙ (piece_run ps q (flat_map bytes_of qs ++ more) h.0 ∙ (pieces_run (ps ++ q ∷ []) qs more h.1 ∙ ap (λ ps. split_from ps [] more) (append_assoc ps (q ∷ []) qs)))

rest_run : (ps : List Piece) (rest : List ℕ) → IsRest rest → split_from ps [] rest ≡ record { pieces = ps; rest = rest }
rest_run ps [] h = refl
rest_run ps (o ∷ ds) h = rw h.0 (ap (split_from ps (escape ∷ [])) (sym (append-nil ds)) ∙ digits_run ps escape [] ds [] h.1 (omega (arith, h.2)))

-- and in one way only
pub only_split : (input : List ℕ) (s : Split) → IsSplit input s → s ≡ split_of input
only_split input s h = sym (ap split_of (sym h.text) ∙ (pieces_run [] s.pieces s.rest h.pieces ∙ rest_run s.pieces s.rest h.rest))
