-- No frame that lines give is too long.
use Rattle.std.proofs.Common.{◌≡◌, ℕ, zero, suc, ◌≤◌, Bool, true, false, cond, leb, eqb, ◌&&◌, List, [], ◌∷◌, ◌++◌, All, length, take, Option, Some, None, slice_get, codes, refl, ap, sym, ◌∙◌, subst, arith}
use Rattle.std.specs.List.{flat_map, filter_map, cons_option}
use Rattle.std.specs.Option.{option_map, option_and_then}
use Rattle.std.proofs.lemmas.Bool.{leb-true}
use Rattle.frame_core.specs.declared.mac.Mac.{Mac}
use Rattle.frame_core.specs.Frames.{is_frame_of}
use Rattle.frame_core.specs.Macs.{mac_of}
use Rattle.line_text.specs.Texts.{lines_of, words_of, same_text, is_skipped}
use Rattle.line_text.specs.Data.{data_of}
use Rattle.line_text.specs.Lists.{per_client}
use Rattle.line_text.specs.declared.ports_text.line.Line.{Line}
use Rattle.line_text.specs.declared.ports_text.line.Line.TheVariants as Says
use Rattle.line_text.specs.declared.ports_text.ports.Ports.{Ports}
use Rattle.line_text.specs.PortsText.Lines.{port_of, if_frame, frame_of, send_said, words_say, meaning}
use Rattle.line_text.specs.PortsText.Given.{macs_in, sends_said, lines_before, ports_from, ports_of, ArePorts}

abbrev IsShort : List ℕ → Type 0
IsShort frame = length frame ≤ 1514

abbrev ShortIf : Option (List ℕ) → Type 0
ShortIf None = Unit {0}
ShortIf (Some frame) = IsShort frame

-- a line gives no frame that is too long
abbrev GivesShort : Line → Type 0
GivesShort Says.Skipped = Unit {0}
GivesShort (Says.Port mac) = Unit {0}
GivesShort (Says.Send c frame) = IsShort frame

abbrev GivesIf : Option Line → Type 0
GivesIf None = Unit {0}
GivesIf (Some line) = GivesShort line

abbrev AllGive : List Line → Type 0
AllGive [] = Unit {0}
AllGive (line ∷ lines) = GivesShort line × AllGive lines

and_right : (a b : Bool) → (a && b) ≡ true → b ≡ true
and_right true b h = h
and_right false b h = cc

frame_if : (bytes : List ℕ) → ShortIf (if_frame bytes)
frame_if bytes = by (is_frame_of bytes 1514) refl
  where
    by : (b : Bool) → is_frame_of bytes 1514 ≡ b → ShortIf (if_frame bytes)
    by true is = rw is (leb-true (length bytes) 1514 (and_right (leb 14 (length bytes)) (leb (length bytes) 1514) is))
    by false is = rw is tt

frame_in : (o : Option (List ℕ)) → ShortIf (option_and_then if_frame o)
frame_in None = tt
frame_in (Some bytes) = frame_if bytes

send_if : (c : Option ℕ) (f : Option (List ℕ)) → ShortIf f → GivesIf (option_and_then (λ c. option_map (λ bytes. Says.Send c bytes) f) c)
send_if None f h = tt
send_if (Some c) None h = tt
send_if (Some c) (Some frame) h = h

port_if : (m : Option Mac) → GivesIf (option_map (λ mac. Says.Port mac) m)
port_if None = tt
port_if (Some mac) = tt

words_give : (words : List (List ℕ)) → GivesIf (words_say words)
unfolding words_say send_said
words_give [] = tt
words_give (a ∷ []) = tt
words_give (name ∷ mac ∷ []) = by (same_text name (codes "port"))
  where
    by : (b : Bool) → GivesIf (cond b (option_map (λ m. Says.Port m) (mac_of mac)) None)
    by true = port_if (mac_of mac)
    by false = tt
words_give (name ∷ port ∷ frame ∷ []) = by (same_text name (codes "send"))
  where
    by : (b : Bool) → GivesIf (cond b (option_and_then (λ c. option_map (λ bytes. Says.Send c bytes) (frame_of frame)) (port_of port)) None)
    by true = send_if (port_of port) (frame_of frame) (frame_in (data_of frame))
    by false = tt
words_give (a ∷ b ∷ c ∷ d ∷ more) = tt

line_gives : (line : List ℕ) → GivesIf (meaning line)
unfolding meaning
line_gives line = by (is_skipped line)
  where
    by : (b : Bool) → GivesIf (cond b (Some Says.Skipped) (words_say (words_of line)))
    by true = tt
    by false = words_give (words_of line)

cons_gives : (m : Option Line) (lines : List Line) → GivesIf m → AllGive lines → AllGive (cons_option m lines)
cons_gives None lines h all = all
cons_gives (Some line) lines h all = (h, all)

lines_give : (texts : List (List ℕ)) → AllGive (filter_map meaning texts)
lines_give [] = tt
lines_give (text ∷ texts) = cons_gives (meaning text) (filter_map meaning texts) (line_gives text) (lines_give texts)

-- so are all frames of a port
abbrev AllShort : List (List ℕ) → Type 0
AllShort [] = Unit {0}
AllShort (frame ∷ frames) = IsShort frame × AllShort frames

said_short : (port : ℕ) (line : Line) (more : List (List ℕ)) → GivesShort line → AllShort more → AllShort (sends_said port line ++ more)
said_short port Says.Skipped more h all = all
said_short port (Says.Port mac) more h all = all
said_short port (Says.Send c frame) more h all = by (eqb c port)
  where
    by : (b : Bool) → AllShort (cond b (frame ∷ []) [] ++ more)
    by true = (h, all)
    by false = all

port_short : (port : ℕ) (lines : List Line) → AllGive lines → AllShort (flat_map (sends_said port) lines)
port_short port [] h = tt
port_short port (line ∷ lines) h = said_short port line (flat_map (sends_said port) lines) h.0 (port_short port lines h.1)

each_short : (n : ℕ) (sends : ℕ → List (List ℕ)) → ((c : ℕ) → AllShort (sends c)) → (port : ℕ) (frames : List (List ℕ)) → slice_get (per_client n sends) port ≡ Some frames → AllShort frames
each_short zero sends h port frames at = absurd cc
each_short (suc n) sends h zero frames at = let same : sends 0 ≡ frames = cc in subst AllShort same (h 0)
each_short (suc n) sends h (suc port) frames at = each_short n (λ c. sends (suc c)) (λ c. h (suc c)) port frames at

all_short : (frames : List (List ℕ)) → AllShort frames → All IsShort frames
all_short [] h k d lt = absurd (omega (arith, lt))
all_short (frame ∷ frames) h zero d lt = h.0
all_short (frame ∷ frames) h (suc k) d lt = all_short frames h.1 k d (omega (arith, lt))

from_lines : (lines : List Line) → AllGive lines → (port : ℕ) (frames : List (List ℕ)) → slice_get (ports_from lines).sends port ≡ Some frames → All IsShort frames
unfolding ports_from
from_lines lines h port frames at = all_short frames (each_short (length (macs_in lines)) (λ c. flat_map (sends_said c) lines) (λ c. port_short c lines h) port frames at)

before_give : (text : List ℕ) (k : ℕ) → AllGive (lines_before text k)
unfolding lines_before
before_give text k = lines_give (take k (lines_of text))

given_short : (text : List ℕ) (port : ℕ) (frames : List (List ℕ)) → slice_get (ports_of text).sends port ≡ Some frames → All IsShort frames
unfolding ports_of
given_short text port frames at = from_lines (lines_before text (length (lines_of text))) (before_give text (length (lines_of text))) port frames at

-- frames of ports that were read are short
pub frames_short : (ports : Ports) → ArePorts ports → (port : ℕ) (frames : List (List ℕ)) → slice_get ports.sends port ≡ Some frames → All (λ frame. length frame ≤ 1514) frames
frames_short ports h port frames at = given_short h.text port frames (ap (λ (p : Ports). slice_get p.sends port) (sym h.given) ∙ at)
