-- What each line of the text of ports says.
use Rattle.std.specs.Prelude.{ℕ, if◌then◌else◌, List, [], ◌∷◌, codes, Option, Some, None}
use Rattle.std.specs.Option.{option_and_then, option_map}
use Rattle.frame_core.specs.Frames.{is_frame_of}
use Rattle.frame_core.specs.Macs.{mac_of}
use Rattle.line_text.specs.Texts.{words_of, same_text, is_skipped, number_from}
use Rattle.line_text.specs.Data.{data_of}
use Rattle.line_text.specs.declared.ports_text.line.Line.{Line}
use Rattle.line_text.specs.declared.ports_text.line.Line.TheVariants as Says

-- the number of a port that a word spells: there are at most 8
abbrev pub port_of : List ℕ → Option ℕ
port_of word = number_from 0 7 word

-- these bytes, where they can be a frame: there are from 14 to 1,514
abbrev pub if_frame : List ℕ → Option (List ℕ)
if_frame bytes = if is_frame_of bytes 1514 then Some bytes else None

-- the frame that a word of DATA stands for
abbrev pub frame_of : List ℕ → Option (List ℕ)
frame_of word = option_and_then if_frame (data_of word)

-- `send C DATA`: the next frame of a port
unfoldable pub send_said : (port frame : List ℕ) → Option Line
send_said port frame =
    option_and_then (λ c. option_map (λ bytes. Says.Send c bytes) (frame_of frame)) (port_of port)

-- what the words of a line say: none where the line is bad by itself
unfoldable pub words_say : List (List ℕ) → Option Line
words_say (name ∷ mac ∷ []) =
    if same_text name (codes "port") then option_map (λ m. Says.Port m) (mac_of mac) else None
words_say (name ∷ port ∷ frame ∷ []) =
    if same_text name (codes "send") then send_said port frame else None
words_say _ = None

-- what a line says: none where it is bad by itself
unfoldable pub meaning : List ℕ → Option Line
meaning line = if is_skipped line then Some Says.Skipped else words_say (words_of line)
