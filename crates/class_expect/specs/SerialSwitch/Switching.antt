-- The grammar of switched input, and which client gets which byte of it. A list of bytes is pieces,
-- and a rest that is cut off.
use Rattle.std.specs.Prelude.{◌≡◌, ◌≢◌, ℕ, ◌+◌, ◌-◌, ◌*◌, ◌<◌, ◌≤◌, true, false, ◌==◌, ◌&&◌, nat_lt}
use Rattle.std.specs.Prelude.{if◌then◌else◌, List, [], ◌∷◌, ◌++◌, length, filter, fold, flat_map}
use Rattle.std.specs.Prelude.{Option, Some, None}
use Rattle.std.specs.Char.{is_ascii_digit}

-- a piece: a plain byte, the escape byte twice, a selection by its digits, or a dropped selection
-- by its digits and the byte that ended it
pub data Piece : Type 0 where
  Plain : ℕ → Piece
  Doubled : Piece
  Selection : List ℕ → Piece
  Dropped : List ℕ → ℕ → Piece

-- the byte that opens a selection
abbrev pub escape : ℕ
escape = 28

-- the byte that ends a selection, a carriage return
abbrev pub confirm : ℕ
confirm = 13

-- each of these is a decimal digit
abbrev pub AreDigits : List ℕ → Type 0
AreDigits [] = Unit {0}
AreDigits (d ∷ ds) = (is_ascii_digit d ≡ true) × AreDigits ds

-- the bytes of a piece
abbrev pub bytes_of : Piece → List ℕ
bytes_of (Plain b) = b ∷ []
bytes_of Doubled = escape ∷ escape ∷ []
bytes_of (Selection ds) = escape ∷ (ds ++ confirm ∷ [])
bytes_of (Dropped ds x) = escape ∷ (ds ++ x ∷ [])

-- byte x drops a selection that has m digits
pub record Drops (m x : ℕ) : Type 0 where
  pub not_doubled : m ≡ 0 → x ≢ escape
  pub not_confirmed : 0 < m → x ≢ confirm
  pub not_continued : m < 4 → is_ascii_digit x ≡ false

-- a piece of the grammar: its bytes are of its form
abbrev pub IsPiece : Piece → Type 0
IsPiece (Plain b) = b ≢ escape
IsPiece Doubled = Unit {0}
IsPiece (Selection ds) = AreDigits ds × (0 < length ds) × (length ds ≤ 4)
IsPiece (Dropped ds x) = AreDigits ds × (length ds ≤ 4) × Drops (length ds) x

-- each of these is one
abbrev pub ArePieces : List Piece → Type 0
ArePieces [] = Unit {0}
ArePieces (p ∷ ps) = IsPiece p × ArePieces ps

-- what a cut-off input leaves: nothing, or an open selection with at most four digits
abbrev pub IsRest : List ℕ → Type 0
IsRest [] = Unit {0}
IsRest (b ∷ ds) = (b ≡ escape) × AreDigits ds × (length ds ≤ 4)

-- pieces, and what is cut off behind them
pub record Split : Type 0 where
  pub pieces : List Piece
  pub rest : List ℕ

-- the pieces and the rest of an input
pub record IsSplit (input : List ℕ) (s : Split) : Type 0 where
  pub pieces : ArePieces s.pieces
  pub rest : IsRest s.rest
  pub text : flat_map bytes_of s.pieces ++ s.rest ≡ input

-- The one way to split an input; that it is one, and the only one, is what the_grammar's contract
-- says.

-- the piece that byte x makes of an open selection with these digits, where it goes no further
abbrev pub ended : List ℕ → ℕ → Piece
ended [] x = if x == escape then Doubled else Dropped [] x
ended (d ∷ ds) x = if x == confirm then Selection (d ∷ ds) else Dropped (d ∷ ds) x

-- pieces and an open rest after one more byte
abbrev pub split_next : List Piece → List ℕ → ℕ → Split
split_next ps [] x =
    if x == escape then record { pieces = ps; rest = escape ∷ [] }
    else record { pieces = ps ++ Plain x ∷ []; rest = [] }
split_next ps (b ∷ ds) x =
    if is_ascii_digit x && nat_lt (length ds) 4
    then record { pieces = ps; rest = b ∷ (ds ++ x ∷ []) }
    else record { pieces = ps ++ ended ds x ∷ []; rest = [] }

-- and after some more bytes
abbrev pub split_from : List Piece → List ℕ → List ℕ → Split
split_from ps rest [] = record { pieces = ps; rest = rest }
split_from ps rest (x ∷ xs) = (let s = split_next ps rest x in split_from s.pieces s.rest xs)

-- the pieces and the rest of an input, read byte by byte
abbrev pub split_of : List ℕ → Split
split_of input = split_from [] [] input

-- Who gets what.

-- the number that digits write
abbrev pub number_of : List ℕ → ℕ
number_of ds = fold (λ n d. 10 * n + (d - 48)) 0 ds

-- the number that a piece selects
abbrev pub number_in : Piece → List ℕ
number_in (Selection ds) = number_of ds ∷ []
number_in (Plain b) = []
number_in Doubled = []
number_in (Dropped ds x) = []

-- the last of these numbers, else the one before them
abbrev pub last_or : ℕ → List ℕ → ℕ
last_or d [] = d
last_or d (x ∷ xs) = last_or x xs

-- the last of these numbers that is a client, else one that was selected before
abbrev pub last_client : (clients before : ℕ) → List ℕ → ℕ
last_client clients before numbers = last_or before (filter (λ n. nat_lt n clients) numbers)

-- the selected client after these pieces: the number of the last selection whose number is a
-- client, else 0
abbrev pub selected : ℕ → List Piece → ℕ
selected clients pieces = last_client clients 0 (flat_map number_in pieces)

-- the selected client after one more piece
abbrev pub selected_next : (clients before : ℕ) → Piece → ℕ
selected_next clients before p = last_client clients before (number_in p)

-- the byte that a piece gives to the client that is selected at it
abbrev pub byte_in : Piece → List ℕ
byte_in (Plain b) = b ∷ []
byte_in Doubled = escape ∷ []
byte_in (Selection ds) = []
byte_in (Dropped ds x) = []

-- what a client gets of a piece at which one is selected
abbrev pub given_by : (selected client : ℕ) → Piece → List ℕ
given_by selected client p = if selected == client then byte_in p else []

-- the bytes that a client gets of pieces that stand behind others
abbrev pub given_after : (clients client : ℕ) → (before after : List Piece) → List ℕ
given_after clients client before [] = []
given_after clients client before (p ∷ ps) =
    given_by (selected clients before) client p
    ++ given_after clients client (before ++ p ∷ []) ps

-- the bytes that a client gets of pieces: those of the pieces at which it is selected
abbrev pub given_of : (clients client : ℕ) → List Piece → List ℕ
given_of clients client pieces = given_after clients client [] pieces

-- the part of an input that is for a client
abbrev pub input_of : (clients client : ℕ) → List ℕ → List ℕ
input_of clients client input = given_of clients client (split_of input).pieces

-- what one step gave a client
abbrev pub given_to : ℕ → Option (ℕ × ℕ) → List ℕ
given_to client None = []
given_to client (Some g) = if g.0 == client then g.1 ∷ [] else []
