-- Which lines are bad, and the ports that the others give.
use Rattle.std.specs.Prelude.{◌≡◌, ℕ, ◌+◌, ◌<◌, ◌==◌, ◌&&◌, ◌||◌, nat_eq, nat_le, nat_lt, Bool}
use Rattle.std.specs.Prelude.{true, false, if◌then◌else◌, List, [], ◌∷◌, length, take, count_by}
use Rattle.std.specs.Prelude.{slice_get, Option, Some, None}
use Rattle.std.specs.Cmp.Lexicographic.{pointwise}
use Rattle.std.specs.List.{flat_map, filter_map, list_any}
use Rattle.frame_core.specs.declared.mac.Mac.{Mac}
use Rattle.line_text.specs.Texts.{lines_of}
use Rattle.line_text.specs.Lists.{per_client}
use Rattle.line_text.specs.declared.ports_text.line.Line.{Line}
use Rattle.line_text.specs.declared.ports_text.line.Line.TheVariants as Says
use Rattle.line_text.specs.declared.ports_text.ports.Ports.{Ports}
use Rattle.line_text.specs.PortsText.Lines.{meaning}

-- how many ports there may be
abbrev pub ports_most : ℕ
ports_most = 8

-- how many ports there are at least
abbrev pub ports_fewest : ℕ
ports_fewest = 2

-- how many frames there may be
abbrev pub sends_most : ℕ
sends_most = 1024

-- the address that a line gives a port
abbrev pub macs_said : Line → List Mac
macs_said (Says.Port mac) = mac ∷ []
macs_said _ = []

-- what a line gives to the frames of a port
abbrev pub sends_said : ℕ → Line → List (List ℕ)
sends_said port (Says.Send c frame) = if c == port then frame ∷ [] else []
sends_said port _ = []

-- the line gives a frame
abbrev pub is_send : Line → Bool
is_send (Says.Send c frame) = true
is_send _ = false

-- the addresses of the ports
abbrev pub macs_in : List Line → List Mac
macs_in lines = flat_map macs_said lines

-- an address is one of these
abbrev pub is_among : Mac → List Mac → Bool
is_among mac macs = list_any (λ (m : Mac). pointwise nat_eq m.0 mac.0) macs

-- the ports that lines give
unfoldable pub ports_from : List Line → Ports
ports_from lines = record {
  macs = macs_in lines;
  sends = per_client (length (macs_in lines)) (λ c. flat_map (sends_said c) lines);
}

-- whether a line is bad after the lines before it: it gives a port after a frame, a port too many
-- or an address again, or a frame of no port or one too many
abbrev pub is_out_of_place : List Line → Line → Bool
is_out_of_place before Says.Skipped = false
is_out_of_place before (Says.Port mac) =
    (nat_lt 0 (count_by is_send before) || nat_le ports_most (length (macs_in before)))
    || is_among mac (macs_in before)
is_out_of_place before (Says.Send c frame) =
    nat_le (length (macs_in before)) c || nat_le sends_most (count_by is_send before)

-- whether a line of this meaning is bad after these lines
abbrev pub is_bad_after : List Line → Option Line → Bool
is_bad_after before None = true
is_bad_after before (Some line) = is_out_of_place before line

-- what the first lines of a text say
unfoldable pub lines_before : List ℕ → ℕ → List Line
lines_before text k = filter_map meaning (take k (lines_of text))

-- whether the line at a place, counted from 0, is bad; after the last line stands one that is bad
-- where there are too few ports
abbrev pub place_is_bad : List ℕ → ℕ → Option (List ℕ) → Bool
place_is_bad text k (Some line) = is_bad_after (lines_before text k) (meaning line)
place_is_bad text k None = k == length (lines_of text)
    && nat_lt (length (macs_in (lines_before text k))) ports_fewest

-- the line at a place, counted from 0, is bad
unfoldable pub is_bad : List ℕ → ℕ → Bool
is_bad text k = place_is_bad text k (slice_get (lines_of text) k)

-- no line is bad
abbrev pub HasNoBadLine : List ℕ → Type 0
HasNoBadLine text = (k : ℕ) → is_bad text k ≡ false

-- this line, counted from 1, is bad, and no earlier one
pub record IsLeastBadLine (text : List ℕ) (number : ℕ) : Type 0 where
  pub at : ℕ
  pub counted : number ≡ at + 1
  pub bad : is_bad text at ≡ true
  pub before : (k : ℕ) → k < at → is_bad text k ≡ false

-- the ports that a text gives
unfoldable pub ports_of : List ℕ → Ports
ports_of text = ports_from (lines_before text (length (lines_of text)))

-- the ports are what a text without a bad line gives
pub record ArePorts (ports : Ports) : Type 0 where
  pub text : List ℕ
  pub good : HasNoBadLine text
  pub given : ports ≡ ports_of text
