use Rattle.std.proofs.Common.{◌≡◌, ℕ, Bool, true, false, cond, List, [], map, take, length, refl, sym, ap, ◌∙◌, subst}
use Rattle.std.proofs.lemmas.List.{append-nil}
use Rattle.cargo_core.specs.Lists.{IsPrefix}
use Rattle.frame_core.specs.declared.mac.Mac.{Mac}
use Rattle.frame_core.specs.Frames.{turned_round}
use Rattle.wire_core.specs.declared.names.Event.{Event}
use Rattle.wire_core.specs.Fates.{without}
use Rattle.wire_core.specs.Lists.{Passed}
use Rattle.wire_core.proofs.Fating.{without-map}
use Rattle.turn_kit.specs.declared.pipe.Pipe.{Pipe}
use Rattle.pipe_driver.specs.declared.pipes.Pipes.{Pipes}
use Rattle.buffer_kit.specs.Entries.{frame_of}
use Rattle.class_expect.specs.NetExpect.Expecting.{Program, Sink, Source, Echo, frames_for, is_for_client, sends_of}
use Rattle.device_model.specs.Ethernet.Devices.{accepted, frames_dropped}
use Rattle.device_model.specs.declared.ethernet.EthDevice.{EthDevice}
use Rattle.net_copier.specs.Copying.{leased_bytes, leases_dropped}
use Rattle.net_copier.specs.declared.NetCopier.{NetCopier}
use Rattle.net_virt_rx.specs.declared.NetVirtRx.{NetVirtRx}
use Rattle.client_programs.specs.declared.net.program.NetProgram.{NetProgram}
use Rattle.client_programs.specs.declared.net.program.NetProgram.TheVariants as Kind
use Rattle.client_programs.specs.Net.Programs.{program_with, program_of, sent_for, frames_out, answer_to}
use Rattle.client_programs.specs.Net.Clients.{rx_active, tx_active}
use Rattle.client_programs.specs.declared.net.NetClient.{NetClient}
use Rattle.net_law.specs.Delivering.{IsSubsequence, IsDelivering, HasRoomToSend, frames_due, sends_for, sends_out, came_to, copied_bytes}
use Rattle.net_law.proofs.Beginnings.{begins_on, begins_map}
use Rattle.net_law.proofs.Arriving.{OnItsWay, leases_begin}
use Rattle.net_law.proofs.Answering.{answers_are}
use Rattle.net_law.proofs.DeliveringLemmas.Leaving.{part_same, part_on, part_begins, part_take, part_map, part_filter, begins_without}
use Rattle.net_law.proofs.DeliveringLemmas.Waiting.{waits_all}
use Rattle.net_law.proofs.DeliveringLemmas.Passing.{settled_all, copier_gives, client_puts}

-- what is accepted are frames of the device, and so is what a client must get
pub accepted_part : (d : EthDevice) (calls : List Event) → IsSubsequence (accepted d calls) d.frames
accepted_part d calls = by d.drops
  where
    ds : List Bool
    ds = frames_dropped d calls

    by : (b : Bool) → IsSubsequence (cond b (without ds (take (length ds) d.frames)) d.frames) d.frames
    by true = part_on (without ds (take (length ds) d.frames)) (take (length ds) d.frames) d.frames (ds, refl) (part_take (length ds) d.frames)
    by false = part_same d.frames

pub due_part : (d : EthDevice) (mac : Mac) (calls : List Event) → IsSubsequence (frames_due d mac calls) (frames_for mac d.frames)
due_part d mac calls = part_filter (is_for_client mac) (accepted d calls) d.frames (accepted_part d calls)

-- an echo's answers to some of the frames that are for it
pub answers_some : (mac : Mac) (frames came : List (List ℕ)) → IsSubsequence came (frames_for mac frames) → map (answer_to mac) came ≡ map (λ (f : List ℕ). turned_round f mac) came
answers_some mac frames came a =
    let all = frames_for mac frames in
    ap (map (answer_to mac)) (sym a.1) ∙ (without-map (answer_to mac) a.0 all ∙ (ap (without a.0) (answers_are mac frames) ∙ (sym (without-map (λ (f : List ℕ). turned_round f mac) a.0 all) ∙ ap (map (λ (f : List ℕ). turned_round f mac)) a.1)))

-- what a program sends for frames that came, where these are the first that are due or, with drops,
-- some of them
puts_begin : (kind : NetProgram) (script : List (List ℕ)) (mac : Mac) (drops : Bool) (frames came : List (List ℕ)) → IsSubsequence came (frames_for mac frames) → (drops ≡ false → IsPrefix came (frames_for mac frames)) → IsPrefix (sent_for (program_with kind script) mac came) (sends_for (program_with kind script) mac drops (frames_for mac frames) came)
puts_begin Kind.Sink script mac drops frames came some begins = ([], refl)
puts_begin Kind.Source script mac drops frames came some begins = ([], append-nil script)
puts_begin Kind.Echo script mac true frames came some begins = ([], append-nil (map (answer_to mac) came) ∙ answers_some mac frames came some)
puts_begin Kind.Echo script mac false frames came some begins = subst (IsPrefix (map (answer_to mac) came)) (answers_are mac frames) (begins_map (answer_to mac) came (frames_for mac frames) (begins refl))

sends_part : (p : Program) (mac : Mac) (drops : Bool) (due came frames : List (List ℕ)) → IsSubsequence due (frames_for mac frames) → IsSubsequence came (frames_for mac frames) → IsSubsequence (sends_for p mac drops due came) (sends_of p mac frames)
sends_part Sink mac drops due came frames a b = part_same []
sends_part (Source script) mac drops due came frames a b = part_same script
sends_part Echo mac true due came frames a b = part_map (λ (f : List ℕ). turned_round f mac) came (frames_for mac frames) b
sends_part Echo mac false due came frames a b = part_map (λ (f : List ℕ). turned_round f mac) due (frames_for mac frames) a

module _ (d : EthDevice) (p : Pipes (Pipes (Pipes Pipe))) (v : NetVirtRx) (k : NetCopier) (c : NetClient) (mac : Mac) (passed : Passed) (h : IsDelivering d p v k c mac passed) where
  abbrev ds : List Bool
  ds = leases_dropped k passed.calls

  abbrev due : List (List ℕ)
  due = frames_due d mac passed.calls

  way : OnItsWay d p v k mac (accepted d passed.calls) passed
  way = record {
    hands_over = h.hands_over;
    filled = h.device.filled;
    driver = h.driver;
    virtualiser = h.virtualiser;
    from_device = h.from_device;
    from_driver = h.from_driver;
    place = h.place;
    address = h.address;
    to_copier = h.to_copier;
    from_copier = h.from_copier;
    room = h.room_at_device;
  }

  -- what the copier copied are those that are due, without what it dropped
  copied : IsPrefix (copied_bytes k passed) (without ds due)
  copied =
      let tla = passed.taken k.lease_input.queue.0 in
      subst (λ l. IsPrefix l (without ds due)) (sym (without-map leased_bytes ds tla))
      (begins_without ds (map leased_bytes tla) due (settled_all k passed h.copier) (leases_begin d p v k mac (accepted d passed.calls) passed way))

  -- and so is what came to the client
  pub came_begins : IsPrefix (came_to c passed) (without ds due)
  came_begins =
      let got = passed.taken (rx_active c) in
      let sent = passed.sent k.buffer_output.queue.0 in
      let came : IsPrefix got sent = subst (λ n. IsPrefix got (passed.sent n)) (sym h.to_client) (h.hands_over (rx_active c)) in
      begins_on (map frame_of got) (map frame_of sent) (without ds due) (begins_map frame_of got sent came)
      (begins_on (map frame_of sent) (copied_bytes k passed) (without ds due) (copier_gives k passed h.copier h.room_at_copier) copied)

  came_due : IsSubsequence (came_to c passed) due
  came_due = part_on (came_to c passed) (without ds due) due (part_begins (came_to c passed) (without ds due) came_begins) (ds, refl)

  pub came_part : IsSubsequence (came_to c passed) (frames_for mac d.frames)
  came_part = part_on (came_to c passed) due (frames_for mac d.frames) came_due (due_part d mac passed.calls)

  pub record_delivered : IsPrefix c.frames.tape.shown (without ds due)
  record_delivered = subst (λ l. IsPrefix l (without ds due)) (sym h.client.got) came_begins

  pub record_part : IsSubsequence c.frames.tape.shown (frames_for mac d.frames)
  record_part = subst (λ l. IsSubsequence l (frames_for mac d.frames)) (sym h.client.got) came_part

  pub came_front : k.drops ≡ false → IsPrefix (came_to c passed) due
  came_front hold = subst (IsPrefix (came_to c passed)) (waits_all k passed.calls hold due) came_begins

module _ (d : EthDevice) (p : Pipes (Pipes (Pipes Pipe))) (v : NetVirtRx) (k : NetCopier) (c : NetClient) (passed : Passed) (h : IsDelivering d p v k c c.program.mac passed) where
  pub sends_delivered : HasRoomToSend c passed h.client → IsPrefix (map frame_of (passed.sent (tx_active c))) (sends_out d k c passed)
  sends_delivered room =
      let mac = c.program.mac in
      begins_on (map frame_of (passed.sent (tx_active c))) (frames_out c.program (came_to c passed)) (sends_out d k c passed) (client_puts c passed h.client room)
      (puts_begin c.program.kind c.program.script mac k.drops (accepted d passed.calls) (came_to c passed) (came_due d p v k c mac passed h) (came_front d p v k c mac passed h))

  pub sends_some : IsSubsequence (sends_out d k c passed) (sends_of (program_of c.program) c.program.mac d.frames)
  sends_some =
      let mac = c.program.mac in
      sends_part (program_of c.program) mac k.drops (frames_due d mac passed.calls) (came_to c passed) d.frames (due_part d mac passed.calls) (came_part d p v k c mac passed h)
