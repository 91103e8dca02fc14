use Rattle.std.proofs.Common.{◌≡◌, ◌⊎◌, inl, inr, ◌≤◌, ℕ, Bool, true, false, List, ◌++◌, length, map, refl, sym, ap, ◌∙◌, subst, arith}
use Rattle.std.proofs.lemmas.List.{map-append, length-append, length-map}
use Rattle.cargo_core.specs.Lists.{IsPrefix}
use Rattle.wire_core.specs.Deeds.{Cargo}
use Rattle.wire_core.specs.Fates.{without, marked}
use Rattle.wire_core.specs.Lists.{Passed}
use Rattle.wire_core.proofs.Fating.{without_past}
use Rattle.buffer_kit.specs.Entries.{frame_of, all_filled}
use Rattle.buffer_kit.specs.Pools.{given_entry}
use Rattle.device_model.specs.Ethernet.Devices.{DeviceRow, accepted, rx_active as filled_out}
use Rattle.device_model.specs.declared.ethernet.EthDevice.{EthDevice}
use Rattle.net_copier.specs.Copying.{CopierRow, leased_bytes, leases_dropped}
use Rattle.net_copier.specs.declared.NetCopier.{NetCopier}
use Rattle.net_copier.proofs.Dropping.{none_dropped_held}
use Rattle.client_programs.specs.declared.net.NetClient.{NetClient}
use Rattle.client_programs.specs.declared.net.program.NetProgram.{NetProgram}
use Rattle.client_programs.specs.declared.net.program.NetProgram.TheVariants as Kind
use Rattle.client_programs.specs.Net.Programs.{program_with, sent_for, frames_out, answer_to, is_echo}
use Rattle.client_programs.specs.Net.Clients.{ClientRow, tx_active, tx_free}
use Rattle.frame_core.specs.declared.mac.Mac.{Mac}
use Rattle.net_law.specs.Receiving.{AreRoomy}
use Rattle.net_law.specs.Delivering.{HasRoomToSend, came_to, copied_bytes}
use Rattle.net_law.proofs.Beginnings.{begins_on, begins_map}
use Rattle.net_law.proofs.Filled.{frames_are, roomy_front}

pub device_gives : (d : EthDevice) (passed : Passed) → DeviceRow d passed → AreRoomy (accepted d passed.calls) (passed.taken d.free.queue.0) → IsPrefix (map frame_of (passed.sent (filled_out d))) (accepted d passed.calls)
device_gives d passed row room =
    let filled = all_filled (accepted d passed.calls) (passed.taken d.free.queue.0) in
    begins_on (map frame_of (passed.sent (filled_out d))) (map frame_of filled) (accepted d passed.calls) (begins_map frame_of (passed.sent (filled_out d)) filled row.filled) (frames_are (accepted d passed.calls) (passed.taken d.free.queue.0) room)

module _ (k : NetCopier) (passed : Passed) (row : CopierRow k passed) where
  abbrev ds : List Bool
  ds = leases_dropped k passed.calls

  abbrev tla : List Cargo
  tla = passed.taken k.lease_input.queue.0

  -- no more leases are settled than came in turn, or none is dropped
  pub settled_few : (length ds ≤ length row.leases) ⊎ (marked ds ≡ 0)
  settled_few = by k.drops refl
    where
      by : (b : Bool) → k.drops ≡ b → (length ds ≤ length row.leases) ⊎ (marked ds ≡ 0)
      by true on = inl (row.settled on)
      by false off = inr (none_dropped_held k off passed.calls)

  -- the same of all that came, by their bytes
  pub settled_all : (length ds ≤ length (map leased_bytes tla)) ⊎ (marked ds ≡ 0)
  settled_all = elim settled_few [
    | inl few ↦ inl (let n = ap length (ap (map leased_bytes) row.taken ∙ map-append leased_bytes row.leases row.stray) ∙ length-append (map leased_bytes row.leases) (map leased_bytes row.stray) in let m = length-map row.leases leased_bytes in omega (arith, few, n, m))
    | inr none ↦ inr none
  ]

  parts : copied_bytes k passed ≡ map leased_bytes (without ds row.leases) ++ map leased_bytes row.stray
  parts = ap (λ cs. map leased_bytes (without ds cs)) row.taken ∙ (ap (map leased_bytes) (without_past ds row.leases row.stray settled_few) ∙ map-append leased_bytes (without ds row.leases) row.stray)

  pub copier_gives : AreRoomy (copied_bytes k passed) (passed.taken k.buffer_input.queue.0) → IsPrefix (map frame_of (passed.sent k.buffer_output.queue.0)) (copied_bytes k passed)
  copier_gives room =
      let put = passed.sent k.buffer_output.queue.0 in
      let cs = passed.taken k.buffer_input.queue.0 in
      let fs = map leased_bytes (without ds row.leases) in
      let roomy = roomy_front fs (map leased_bytes row.stray) cs (subst (λ gs. AreRoomy gs cs) parts room) in
      begins_on (map frame_of put) fs (copied_bytes k passed)
      (begins_on (map frame_of put) (map frame_of (all_filled fs cs)) fs (begins_map frame_of put (all_filled fs cs) row.copies) (frames_are fs cs roomy))
      (map leased_bytes row.stray, sym parts)

-- what a client puts to be sent are the first frames of its program for those that came
pub client_puts : (c : NetClient) (passed : Passed) (row : ClientRow c passed) → HasRoomToSend c passed row → IsPrefix (map frame_of (passed.sent (tx_active c))) (frames_out c.program (came_to c passed))
client_puts c passed row room =
    let put = passed.sent (tx_active c) in
    let fs = frames_out c.program (came_to c passed) in
    let had = map (given_entry c.outbox.stock.base c.outbox.stock.size) row.spare ++ passed.taken (tx_free c) in
    begins_on (map frame_of put) (map frame_of (all_filled fs had)) fs (begins_map frame_of put (all_filled fs had) row.sends.filled) (frames_are fs had room)

echo_sends : (kind : NetProgram) (script : List (List ℕ)) (mac : Mac) (came : List (List ℕ)) → is_echo kind ≡ true → sent_for (program_with kind script) mac came ≡ map (answer_to mac) came
echo_sends Kind.Echo script mac came is = refl
echo_sends Kind.Sink script mac came is = cc
echo_sends Kind.Source script mac came is = cc

pub echo_puts : (c : NetClient) (passed : Passed) → is_echo c.program.kind ≡ true → (row : ClientRow c passed) → HasRoomToSend c passed row → IsPrefix (map frame_of (passed.sent (tx_active c))) (map (answer_to c.program.mac) (came_to c passed))
echo_puts c passed echo row room = subst (IsPrefix (map frame_of (passed.sent (tx_active c)))) (echo_sends c.program.kind c.program.script c.program.mac (came_to c passed) echo) (client_puts c passed row room)
