use Rattle.std.proofs.Common.{◌≡◌, ◌==◌, ℕ, Bool, true, false, cond, Some, List, [], ◌∷◌, map, slice_get, refl, sym, ap, ◌∙◌, subst}
use Rattle.std.specs.List.{filter}
use Rattle.std.proofs.lemmas.List.{map-append}
use Rattle.cargo_core.specs.Lists.{IsPrefix}
use Rattle.frame_core.specs.declared.mac.Mac.{Mac}
use Rattle.wire_core.specs.Deeds.{Cargo}
use Rattle.wire_core.specs.Lists.{Passed, if_there}
use Rattle.turn_kit.specs.declared.pipe.Pipe.{Pipe}
use Rattle.pipe_driver.specs.Drivers.{PipesRow}
use Rattle.pipe_driver.specs.declared.pipes.Pipes.{Pipes}
use Rattle.eth_driver.specs.Four.{four_pipes}
use Rattle.buffer_kit.specs.Entries.{frame_of, all_filled}
use Rattle.buffer_kit.specs.Virtualising.{from_queues, to_queues}
use Rattle.class_expect.specs.NetExpect.Expecting.{frames_for, is_for_client}
use Rattle.device_model.specs.declared.ethernet.EthDevice.{EthDevice}
use Rattle.net_copier.specs.Copying.{leased_bytes}
use Rattle.net_copier.specs.declared.NetCopier.{NetCopier}
use Rattle.net_virt_rx.specs.Receiving.{RxRow}
use Rattle.net_virt_rx.specs.declared.NetVirtRx.{NetVirtRx}
use Rattle.net_virt_rx.specs.Sharing.{leases_for, lease_of}
use Rattle.client_programs.specs.declared.net.NetClient.{NetClient}
use Rattle.net_law.specs.Receiving.{IsReceiving, HandsOver, AreRoomy}
use Rattle.net_law.proofs.Beginnings.{begins_on, begins_map, begins_filter}
use Rattle.net_law.proofs.Filled.{frames_are, roomy_front}

-- the bytes of the leases that are due to a client are the frames for it
leases_frames : (size : ℕ) (mac : Mac) (frames : List Cargo) → map leased_bytes (leases_for size mac frames) ≡ frames_for mac (map frame_of frames)
leases_frames size mac [] = refl
leases_frames size mac (c ∷ frames) = either (is_for_client mac (frame_of c)) ∙ ap (λ l. cond (is_for_client mac (frame_of c)) (frame_of c ∷ l) l) (leases_frames size mac frames)
  where
    either : (b : Bool) → map leased_bytes (map (lease_of size) (cond b (c ∷ filter (λ x. is_for_client mac (frame_of x)) frames) (filter (λ x. is_for_client mac (frame_of x)) frames))) ≡ cond b (frame_of c ∷ map leased_bytes (leases_for size mac frames)) (map leased_bytes (leases_for size mac frames))
    either true = refl
    either false = refl

-- the frames on their way to a copier, of a device that fills buffers with some frames
pub record OnItsWay (d : EthDevice) (p : Pipes (Pipes (Pipes Pipe))) (v : NetVirtRx) (k : NetCopier) (mac : Mac) (frames : List (List ℕ)) (passed : Passed) : Type 0 where
  pub hands_over : HandsOver passed
  pub filled : IsPrefix (passed.sent d.active.queue.0) (all_filled frames (passed.taken d.free.queue.0))
  pub driver : PipesRow (four_pipes p) passed
  pub virtualiser : RxRow v passed
  pub from_device : p.rest.first.input.queue.0 ≡ d.active.queue.0
  pub from_driver : v.ends.input.queue.0 ≡ p.rest.first.output.queue.0
  pub place : ℕ
  pub address : slice_get v.work.macs.items place ≡ Some mac
  pub to_copier : slice_get (to_queues v.ends) place ≡ Some k.lease_input.queue
  pub from_copier : slice_get (from_queues v.ends) place ≡ Some k.lease_output.queue
  pub room : AreRoomy frames (passed.taken d.free.queue.0)

module _ (d : EthDevice) (p : Pipes (Pipes (Pipes Pipe))) (v : NetVirtRx) (k : NetCopier) (mac : Mac) (frames : List (List ℕ)) (passed : Passed) (h : OnItsWay d p v k mac frames passed) where
  abbrev active : List Cargo
  active = passed.taken p.rest.first.output.queue.0

  -- what the virtualiser took are buffers that the device filled
  from_driver : IsPrefix active (passed.sent d.active.queue.0)
  from_driver = begins_on active (passed.sent p.rest.first.output.queue.0) (passed.sent d.active.queue.0) (h.hands_over p.rest.first.output.queue.0)
      (begins_on (passed.sent p.rest.first.output.queue.0) (passed.taken p.rest.first.input.queue.0) (passed.sent d.active.queue.0) h.driver.1.0
      (subst (λ n. IsPrefix (passed.taken p.rest.first.input.queue.0) (passed.sent n)) h.from_device (h.hands_over p.rest.first.input.queue.0)))

  -- so their frames are the device's, in order
  device_frames : IsPrefix (map frame_of active) frames
  device_frames =
      let filled = all_filled frames (passed.taken d.free.queue.0) in
      begins_on (map frame_of active) (map frame_of filled) frames (begins_map frame_of active filled (begins_on active (passed.sent d.active.queue.0) filled from_driver h.filled)) (frames_are frames (passed.taken d.free.queue.0) h.room)

  -- the leases that were put to the copier are of those that are for the client
  shares : IsPrefix (map leased_bytes (passed.sent k.lease_input.queue.0)) (frames_for mac (map frame_of active))
  shares =
      let row = h.virtualiser in
      let turn = row.turn v.ends.input.queue.0 in
      let taken = passed.taken v.ends.input.queue.0 in
      let sent = passed.sent k.lease_input.queue.0 in
      let served = row.serves h.place mac k.lease_input.queue k.lease_output.queue h.address h.to_copier h.from_copier in
      let leases = leases_for v.work.stock.size mac turn in
      let in_turn : IsPrefix turn taken = (if_there (row.place == v.ends.input.queue.0) row.stray, sym (row.taken v.ends.input.queue.0)) in
      let begun : IsPrefix (map leased_bytes sent) (frames_for mac (map frame_of turn)) = subst (λ l. IsPrefix (map leased_bytes sent) l) (leases_frames v.work.stock.size mac turn) (begins_map leased_bytes sent leases served.lends) in
      subst (λ n. IsPrefix (map leased_bytes sent) (frames_for mac (map frame_of (passed.taken n)))) h.from_driver
      (begins_on (map leased_bytes sent) (frames_for mac (map frame_of turn)) (frames_for mac (map frame_of taken)) begun (begins_filter (is_for_client mac) (map frame_of turn) (map frame_of taken) (begins_map frame_of turn taken in_turn)))

  -- what the copier took of leases are those frames that are for the client
  pub leases_begin : IsPrefix (map leased_bytes (passed.taken k.lease_input.queue.0)) (frames_for mac frames)
  leases_begin =
      let taken = passed.taken k.lease_input.queue.0 in
      let sent = passed.sent k.lease_input.queue.0 in
      begins_on (map leased_bytes taken) (map leased_bytes sent) (frames_for mac frames) (begins_map leased_bytes taken sent (h.hands_over k.lease_input.queue.0))
      (begins_on (map leased_bytes sent) (frames_for mac (map frame_of active)) (frames_for mac frames) shares (begins_filter (is_for_client mac) (map frame_of active) frames device_frames))

module _ (d : EthDevice) (p : Pipes (Pipes (Pipes Pipe))) (v : NetVirtRx) (k : NetCopier) (c : NetClient) (mac : Mac) (passed : Passed) (h : IsReceiving d p v k c mac passed) where
  way : OnItsWay d p v k mac d.frames passed
  way = record {
    hands_over = h.hands_over;
    filled = h.device.filled;
    driver = h.driver;
    virtualiser = h.virtualiser;
    from_device = h.from_device;
    from_driver = h.from_driver;
    place = h.place;
    address = h.address;
    to_copier = h.to_copier;
    from_copier = h.from_copier;
    room = h.room_at_device;
  }

  -- what the copier put are buffers with the leases that it took
  copied : IsPrefix (map frame_of (passed.sent k.buffer_output.queue.0)) (map leased_bytes (passed.taken k.lease_input.queue.0))
  copied =
      let fs = map leased_bytes h.copier.leases in
      let cs = passed.taken k.buffer_input.queue.0 in
      let parts = ap (map leased_bytes) h.copier.taken ∙ map-append leased_bytes h.copier.leases h.copier.stray in
      let room = roomy_front fs (map leased_bytes h.copier.stray) cs (subst (λ gs. AreRoomy gs cs) parts h.room_at_copier) in
      begins_on (map frame_of (passed.sent k.buffer_output.queue.0)) fs (map leased_bytes (passed.taken k.lease_input.queue.0))
      (begins_on (map frame_of (passed.sent k.buffer_output.queue.0)) (map frame_of (all_filled fs cs)) fs (begins_map frame_of (passed.sent k.buffer_output.queue.0) (all_filled fs cs) h.copier.copies) (frames_are fs cs room))
      (map leased_bytes h.copier.stray, sym parts)

  pub record_begins : IsPrefix c.frames.tape.shown (frames_for mac d.frames)
  record_begins =
      let got = passed.taken c.frames.pipe.input.queue.0 in
      let sent = passed.sent k.buffer_output.queue.0 in
      let came : IsPrefix got sent = subst (λ n. IsPrefix got (passed.sent n)) (sym h.to_client) (h.hands_over c.frames.pipe.input.queue.0) in
      subst (λ xs. IsPrefix xs (frames_for mac d.frames)) (sym h.client.got)
      (begins_on (map frame_of got) (map frame_of sent) (frames_for mac d.frames) (begins_map frame_of got sent came)
      (begins_on (map frame_of sent) (map leased_bytes (passed.taken k.lease_input.queue.0)) (frames_for mac d.frames) copied (leases_begin d p v k mac d.frames passed way)))
