use Rattle.std.proofs.Common.{◌≡◌, ◌&&◌, ◌++◌, ℕ, Bool, true, false, cond, nat_le, if◌then◌else◌, List, [], ◌∷◌, length, map, refl, sym, ap, ◌∙◌, subst}
use Rattle.std.proofs.lemmas.List.{append-nil}
use Rattle.cargo_core.specs.Lists.{IsPrefix}
use Rattle.frame_core.specs.declared.mac.Mac.{Mac}
use Rattle.frame_core.specs.Frames.{turned_round, is_frame_for}
use Rattle.wire_core.specs.Lists.{Passed}
use Rattle.class_expect.specs.NetExpect.Expecting.{frames_for, answers_for, is_for_client, sends_of}
use Rattle.buffer_kit.specs.Entries.{frame_of, all_filled}
use Rattle.buffer_kit.specs.Pools.{given_entry}
use Rattle.client_programs.specs.declared.net.program.NetProgram.{NetProgram}
use Rattle.client_programs.specs.declared.net.program.NetProgram.TheVariants as Kind
use Rattle.client_programs.specs.declared.net.NetClient.{NetClient}
use Rattle.client_programs.specs.Net.Programs.{program_with, program_of, sent_for, frames_out, answer_to}
use Rattle.client_programs.specs.Net.Clients.{rx_active, tx_active, tx_free}
use Rattle.net_law.specs.Sending.{IsSending}
use Rattle.net_law.proofs.Beginnings.{begins_on, begins_map}
use Rattle.net_law.proofs.Filled.{frames_are}

-- a frame for a client has a whole header, so an echo sends it back to where it came from
answer_is : (mac : Mac) (f : List ℕ) → is_for_client mac f ≡ true → answer_to mac f ≡ turned_round f mac
answer_is mac f h = by (nat_le 14 (length f)) (is_frame_for f mac) h
  where
    by : (a b : Bool) → (a && b) ≡ true → (if a then turned_round f mac else f) ≡ turned_round f mac
    by true b x = refl
    by false b x = cc

-- an echo's answers to the frames that are for it
pub answers_are : (mac : Mac) (frames : List (List ℕ)) → map (answer_to mac) (frames_for mac frames) ≡ answers_for mac frames
answers_are mac [] = refl
answers_are mac (f ∷ frames) = either (is_for_client mac f) (answer_is mac f) ∙ ap (λ l. cond (is_for_client mac f) (turned_round f mac ∷ l) l) (answers_are mac frames) ∙ back (is_for_client mac f)
  where
    rest : List (List ℕ)
    rest = frames_for mac frames

    either : (b : Bool) → (b ≡ true → answer_to mac f ≡ turned_round f mac) → map (answer_to mac) (cond b (f ∷ rest) rest) ≡ cond b (turned_round f mac ∷ map (answer_to mac) rest) (map (answer_to mac) rest)
    either true is = ap (λ x. x ∷ map (answer_to mac) rest) (is refl)
    either false is = refl

    back : (b : Bool) → cond b (turned_round f mac ∷ map (λ (g : List ℕ). turned_round g mac) rest) (map (λ (g : List ℕ). turned_round g mac) rest) ≡ map (λ (g : List ℕ). turned_round g mac) (cond b (f ∷ rest) rest)
    back true = refl
    back false = refl

sends_by : (k : NetProgram) (script : List (List ℕ)) (mac : Mac) (came frames : List (List ℕ)) → IsPrefix came (frames_for mac frames) → IsPrefix (sent_for (program_with k script) mac came) (sends_of (program_with k script) mac frames)
sends_by Kind.Sink script mac came frames h = ([], refl)
sends_by Kind.Source script mac came frames h = ([], append-nil script)
sends_by Kind.Echo script mac came frames h = subst (IsPrefix (map (answer_to mac) came)) (answers_are mac frames) (begins_map (answer_to mac) came (frames_for mac frames) h)

-- what a client puts to be sent begins what it sends by its program
pub sends_begin : (c : NetClient) (mac : Mac) (frames : List (List ℕ)) (passed : Passed) → IsSending c mac frames passed → IsPrefix (map frame_of (passed.sent (tx_active c))) (sends_of (program_of c.program) mac frames)
sends_begin c mac frames passed h =
    let put = passed.sent (tx_active c) in
    let fs = frames_out c.program (map frame_of (passed.taken (rx_active c))) in
    let had = map (given_entry c.outbox.stock.base c.outbox.stock.size) h.row.spare ++ passed.taken (tx_free c) in
    let came : IsPrefix (map frame_of (passed.taken (rx_active c))) (frames_for c.program.mac frames) =
    subst (λ m. IsPrefix (map frame_of (passed.taken (rx_active c))) (frames_for m frames)) (sym h.address) (subst (λ l. IsPrefix l (frames_for mac frames)) h.row.got h.came) in
    subst (λ m. IsPrefix (map frame_of put) (sends_of (program_of c.program) m frames)) h.address
    (begins_on (map frame_of put) fs (sends_of (program_of c.program) c.program.mac frames)
    (begins_on (map frame_of put) (map frame_of (all_filled fs had)) fs (begins_map frame_of put (all_filled fs had) h.row.sends.filled) (frames_are fs had h.room))
    (sends_by c.program.kind c.program.script c.program.mac (map frame_of (passed.taken (rx_active c))) frames came))
