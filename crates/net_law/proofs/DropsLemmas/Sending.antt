use Rattle.std.proofs.Common.{◌≡◌, ◌++◌, ℕ, Bool, List, [], map, refl, sym, ap, ◌∙◌, subst}
use Rattle.std.proofs.lemmas.List.{append-nil}
use Rattle.cargo_core.specs.Lists.{IsPrefix}
use Rattle.frame_core.specs.declared.mac.Mac.{Mac}
use Rattle.wire_core.specs.Lists.{Passed}
use Rattle.class_expect.specs.NetExpect.Expecting.{Program, Sink, Source, Echo, frames_for, sends_of}
use Rattle.buffer_kit.specs.Entries.{frame_of}
use Rattle.client_programs.specs.declared.net.program.NetProgram.{NetProgram}
use Rattle.client_programs.specs.declared.net.program.NetProgram.TheVariants as Kind
use Rattle.client_programs.specs.declared.net.NetClient.{NetClient}
use Rattle.client_programs.specs.Net.Programs.{program_with, program_of, sent_for, frames_out, answer_to}
use Rattle.client_programs.specs.Net.Clients.{ClientRow, tx_active}
use Rattle.net_law.specs.Delivering.{HasRoomToSend, IsSubsequence, came_to}
use Rattle.net_law.specs.Dropped.{left_for, sends_upon}
use Rattle.net_law.proofs.Beginnings.{begins_on, begins_map}
use Rattle.net_law.proofs.DeliveringLemmas.Passing.{client_puts}
use Rattle.net_law.proofs.DeliveringLemmas.Reaching.{answers_some}

-- what a program sends for the first of what it gets
upon_begins : (kind : NetProgram) (script : List (List ℕ)) (mac : Mac) (frames : List (List ℕ)) (marks : List Bool) (came : List (List ℕ)) → IsPrefix came (left_for marks mac frames) → IsPrefix (sent_for (program_with kind script) mac came) (sends_upon (program_with kind script) mac (left_for marks mac frames))
upon_begins Kind.Sink script mac frames marks came begins = ([], refl)
upon_begins Kind.Source script mac frames marks came begins = ([], append-nil script)
upon_begins Kind.Echo script mac frames marks came begins =
    let some : IsSubsequence (left_for marks mac frames) (frames_for mac frames) = (marks, refl) in
    subst (IsPrefix (map (answer_to mac) came)) (answers_some mac frames (left_for marks mac frames) some) (begins_map (answer_to mac) came (left_for marks mac frames) begins)

pub sends_left : (c : NetClient) (mac : Mac) (frames : List (List ℕ)) (marks : List Bool) (passed : Passed) → c.program.mac ≡ mac → (row : ClientRow c passed) → IsPrefix c.frames.tape.shown (left_for marks mac frames) → HasRoomToSend c passed row → IsPrefix (map frame_of (passed.sent (tx_active c))) (sends_upon (program_of c.program) mac (left_for marks mac frames))
sends_left c mac frames marks passed same row begins room =
    let put = map frame_of (passed.sent (tx_active c)) in
    let came : IsPrefix (came_to c passed) (left_for marks c.program.mac frames) = subst (λ m. IsPrefix (came_to c passed) (left_for marks m frames)) (sym same) (subst (λ l. IsPrefix l (left_for marks mac frames)) row.got begins) in
    subst (λ m. IsPrefix put (sends_upon (program_of c.program) m (left_for marks m frames))) same
    (begins_on put (frames_out c.program (came_to c passed)) (sends_upon (program_of c.program) c.program.mac (left_for marks c.program.mac frames)) (client_puts c passed row room)
    (upon_begins c.program.kind c.program.script c.program.mac frames marks (came_to c passed) came))

pub sends_all : (program : Program) (mac : Mac) (frames : List (List ℕ)) → sends_upon program mac (left_for [] mac frames) ≡ sends_of program mac frames
sends_all Sink mac frames = refl
sends_all (Source script) mac frames = refl
sends_all Echo mac frames = refl
