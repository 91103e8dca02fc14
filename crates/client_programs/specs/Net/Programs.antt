-- What a network client does with its frames: which it sends, by its program and by those that
-- came.
use Rattle.std.specs.Prelude.{ℕ, Bool, true, false, nat_le, if◌then◌else◌, List, [], length, map}
use Rattle.frame_core.specs.declared.mac.Mac.{Mac}
use Rattle.frame_core.specs.Frames.{turned_round}
use Rattle.class_expect.specs.NetExpect.Expecting.{Program, Sink, Source, Echo}
use Rattle.client_programs.specs.declared.net.program.NetProgram.{NetProgram}
use Rattle.client_programs.specs.declared.net.program.NetProgram.TheVariants as Kind
use Rattle.client_programs.specs.declared.net.program.ClientProgram.{ClientProgram}

-- the program of a kind, with the script that a source sends
abbrev pub program_with : NetProgram → List (List ℕ) → Program
program_with Kind.Sink script = Sink
program_with Kind.Source script = Source script
program_with Kind.Echo script = Echo

-- a client's program
abbrev pub program_of : ClientProgram → Program
program_of p = program_with p.kind p.script

-- an echo's answer to a frame: it goes back to the station from which that came; a frame without a
-- whole header is answered as it is
abbrev pub answer_to : Mac → List ℕ → List ℕ
answer_to mac frame = if nat_le 14 (length frame) then turned_round frame mac else frame

-- the frames that a client sends where these came to it
abbrev pub sent_for : Program → Mac → List (List ℕ) → List (List ℕ)
sent_for Sink mac came = []
sent_for (Source script) mac came = script
sent_for Echo mac came = map (answer_to mac) came

-- the same of a client's program
abbrev pub frames_out : ClientProgram → List (List ℕ) → List (List ℕ)
frames_out p came = sent_for (program_of p) p.mac came

-- it answers each frame before it takes the next
abbrev pub is_echo : NetProgram → Bool
is_echo Kind.Sink = false
is_echo Kind.Source = false
is_echo Kind.Echo = true
