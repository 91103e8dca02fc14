-- What the private functions of the plain program say; no public clause cites it.
use Rattle.std.specs.Prelude.{◌≡◌, ◌<◌, ◌≤◌, ℕ, false, Some, List, ◌++◌, length, option_to_list}
use Rattle.std.specs.Prelude.{slice_get, drop, flat_map}
use Rattle.std.specs.Char.{is_ascii_digit}
use Rattle.class_expect.specs.declared.serial_switch.plain.Found.{Found}
use Rattle.class_expect.specs.SerialSwitch.Switching.{Piece, IsPiece, ArePieces, bytes_of, byte_in, number_in}
use Rattle.class_expect.specs.SerialSwitch.Switching.{selected, given_of}

-- after fewer than four digits stands no digit
abbrev pub StopsAt : ℕ → List ℕ → Type 0
StopsAt n input = (x : ℕ) → n < 4 → slice_get input n ≡ Some x → is_ascii_digit x ≡ false

-- what was found is the piece that the input begins with
pub record Finds (f : Found) (input : List ℕ) : Type 0 where
  pub piece : Piece
  pub is_piece : IsPiece piece
  pub begins : bytes_of piece ++ drop f.length input ≡ input
  pub long : f.length ≡ length (bytes_of piece)
  pub gives : option_to_list f.gives ≡ byte_in piece
  pub selects : option_to_list f.selects ≡ number_in piece

-- what was read of an input up to a place: whole pieces, whose client is selected and whose bytes
-- were given
pub record IsRead
    (clients client : ℕ) (input : List ℕ) (at selected_now : ℕ) (given : List ℕ) : Type 0 where
  pub pieces : List Piece
  pub are_pieces : ArePieces pieces
  pub text : flat_map bytes_of pieces ++ drop at input ≡ input
  pub within : at ≤ length input
  pub chosen : selected_now ≡ selected clients pieces
  pub has : given ≡ given_of clients client pieces
