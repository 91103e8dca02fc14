use Rattle.std.proofs.Common.{◌≡◌, ℕ, Bool, false, cond, List, map, refl, sym, ap, ◌∙◌, subst}
use Rattle.frame_core.specs.declared.mac.Mac.{Mac}
use Rattle.frame_core.specs.Frames.{turned_round}
use Rattle.wire_core.specs.declared.names.Event.{Event}
use Rattle.wire_core.specs.Deeds.{Cargo}
use Rattle.wire_core.specs.Fates.{without}
use Rattle.wire_core.specs.Lists.{Passed}
use Rattle.wire_core.proofs.Fating.{without_none}
use Rattle.turn_kit.specs.declared.pipe.Pipe.{Pipe}
use Rattle.pipe_driver.specs.declared.pipes.Pipes.{Pipes}
use Rattle.class_expect.specs.NetExpect.Expecting.{Program, Sink, Source, Echo, frames_for, sends_of}
use Rattle.device_model.specs.Ethernet.Devices.{accepted}
use Rattle.device_model.specs.declared.ethernet.EthDevice.{EthDevice}
use Rattle.device_model.proofs.EthernetLemmas.Dropping.{all_accepted, held as device_held, holds as device_holds}
use Rattle.net_copier.specs.Copying.{leased_bytes, leases_dropped}
use Rattle.net_copier.specs.declared.NetCopier.{NetCopier}
use Rattle.net_copier.proofs.Dropping.{none_dropped_held, held as copier_held, holds as copier_holds}
use Rattle.net_virt_rx.specs.declared.NetVirtRx.{NetVirtRx}
use Rattle.client_programs.specs.Net.Programs.{program_of}
use Rattle.client_programs.specs.declared.net.NetClient.{NetClient}
use Rattle.net_law.specs.Receiving.{IsReceiving, AreRoomy}
use Rattle.net_law.specs.Delivering.{IsDelivering, frames_due, sends_for, sends_out, came_to}

pub waits_accepted : (d : EthDevice) (calls : List Event) → d.drops ≡ false → accepted d calls ≡ d.frames
waits_accepted d calls hold = all_accepted d calls hold

pub waits_due : (d : EthDevice) (mac : Mac) (calls : List Event) → d.drops ≡ false → frames_due d mac calls ≡ frames_for mac d.frames
waits_due d mac calls hold = ap (frames_for mac) (all_accepted d calls hold)

sends_same : (p : Program) (mac : Mac) (drops : Bool) (due came frames : List (List ℕ)) → drops ≡ false → due ≡ frames_for mac frames → sends_for p mac drops due came ≡ sends_of p mac frames
sends_same Sink mac drops due came frames hold is = refl
sends_same (Source script) mac drops due came frames hold is = refl
sends_same Echo mac drops due came frames hold is = ap (λ b. map (λ (f : List ℕ). turned_round f mac) (cond b came due)) hold ∙ ap (map (λ (f : List ℕ). turned_round f mac)) is

pub waits_sends : (d : EthDevice) (k : NetCopier) (c : NetClient) (passed : Passed) → d.drops ≡ false → k.drops ≡ false → sends_out d k c passed ≡ sends_of (program_of c.program) c.program.mac d.frames
waits_sends d k c passed hold holds = sends_same (program_of c.program) c.program.mac k.drops (frames_due d c.program.mac passed.calls) (came_to c passed) d.frames holds (waits_due d c.program.mac passed.calls hold)

pub waits_all : (k : NetCopier) (calls : List Event) → k.drops ≡ false → (frames : List (List ℕ)) → without (leases_dropped k calls) frames ≡ frames
waits_all k calls hold frames = without_none (leases_dropped k calls) frames (none_dropped_held k hold calls)

module _ (d : EthDevice) (p : Pipes (Pipes (Pipes Pipe))) (v : NetVirtRx) (k : NetCopier) (c : NetClient) (mac : Mac) (passed : Passed) (hold : d.drops ≡ false) (holds : k.drops ≡ false) where
  all : accepted d passed.calls ≡ d.frames
  all = all_accepted d passed.calls hold

  whole : without (leases_dropped k passed.calls) (passed.taken k.lease_input.queue.0) ≡ passed.taken k.lease_input.queue.0
  whole = without_none (leases_dropped k passed.calls) (passed.taken k.lease_input.queue.0) (none_dropped_held k holds passed.calls)

  pub waits_rows : IsReceiving d p v k c mac passed → IsDelivering d p v k c mac passed
  waits_rows h = record {
    hands_over = h.hands_over;
    device = device_held d passed hold h.device;
    driver = h.driver;
    virtualiser = h.virtualiser;
    copier = copier_held k passed holds h.copier;
    client = h.client;
    from_device = h.from_device;
    from_driver = h.from_driver;
    place = h.place;
    address = h.address;
    to_copier = h.to_copier;
    from_copier = h.from_copier;
    to_client = h.to_client;
    room_at_device = subst (λ fs. AreRoomy fs (passed.taken d.free.queue.0)) (sym all) h.room_at_device;
    room_at_copier = subst (λ (cs : List Cargo). AreRoomy (map leased_bytes cs) (passed.taken k.buffer_input.queue.0)) (sym whole) h.room_at_copier;
  }

  pub waits_back : IsDelivering d p v k c mac passed → IsReceiving d p v k c mac passed
  waits_back h = record {
    hands_over = h.hands_over;
    device = device_holds d passed hold h.device;
    driver = h.driver;
    virtualiser = h.virtualiser;
    copier = copier_holds k passed holds h.copier;
    client = h.client;
    from_device = h.from_device;
    from_driver = h.from_driver;
    place = h.place;
    address = h.address;
    to_copier = h.to_copier;
    from_copier = h.from_copier;
    to_client = h.to_client;
    room_at_device = subst (λ fs. AreRoomy fs (passed.taken d.free.queue.0)) all h.room_at_device;
    room_at_copier = subst (λ (cs : List Cargo). AreRoomy (map leased_bytes cs) (passed.taken k.buffer_input.queue.0)) whole h.room_at_copier;
  }
