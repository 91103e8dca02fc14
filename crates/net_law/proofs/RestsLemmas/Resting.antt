use Rattle.std.proofs.Common.{◌≡◌, ℕ, List}
use Rattle.wire_core.specs.declared.names.Entry.{Entry}
use Rattle.wire_core.specs.Lists.{Passed}
use Rattle.wire_core.specs.Queues.{Queue, end_at}
use Rattle.wire_core.specs.Journal.{History}
use Rattle.turn_kit.specs.Turns.{is_at_rest}
use Rattle.turn_kit.specs.declared.pipe.Pipe.{Pipe}
use Rattle.play_core.specs.Moved.{moved}
use Rattle.play_core.specs.Wants.{all_settled}
use Rattle.play_core.specs.Sheets.{Scene}
use Rattle.pipe_driver.specs.Drivers.{FitsPipes, PipesStandFor, pipe_posts, pipe_needs, pipes_round}
use Rattle.device_model.specs.Ethernet.Devices.{FitsDevice, DeviceStandsFor, device_round}
use Rattle.device_model.specs.declared.ethernet.EthDevice.{EthDevice}
use Rattle.net_copier.specs.Copying.{FitsCopier, CopierStandsFor, copier_round}
use Rattle.net_copier.specs.declared.NetCopier.{NetCopier}
use Rattle.client_programs.specs.Net.Clients.{FitsClient, ClientStandsFor, client_round}
use Rattle.client_programs.specs.declared.net.NetClient.{NetClient}
use Rattle.net_virt_rx.specs.Receiving.{FitsRx, RxStandsFor, rx_round}
use Rattle.net_virt_rx.specs.declared.NetVirtRx.{NetVirtRx}
use Rattle.net_law.specs.Parts.Table.{net_sheet}
use Rattle.net_law.specs.Parts.Playing.{device_part, driver_part, receiver_part, copier_part, client_part, AreLeases, ReceivesInTurn, AnswersWhole}
use Rattle.play_core.specs.Rests.Showing.{HaveItems, HaveBells}
use Rattle.play_core.proofs.RestsLemmas.Settling.{all_here}
use Rattle.net_law.proofs.RestsLemmas.Plain.{device_meets, pipes_meet, copier_meets}
use Rattle.net_law.proofs.RestsLemmas.Clients.{client_meets}
use Rattle.net_law.proofs.RestsLemmas.Receiving.{receiver_rests}

module _ (scene : Scene) (history : History) (journal : List Entry) (world : List Queue) (passed : Passed) (items : HaveItems passed (moved history journal)) (bells : HaveBells world history journal) where
  pub device_rest : (d : EthDevice) → FitsDevice (end_at world) d → DeviceStandsFor d passed → is_at_rest (device_round d) ≡ all_settled history journal ((net_sheet scene (device_part d)).wants (moved history journal))
  device_rest d f st = all_here history journal world bells (device_round d).posts (device_round d).needs ((net_sheet scene (device_part d)).wants (moved history journal)) (device_meets scene world passed (moved history journal) items d f st)

  pub driver_rest : (ps : List Pipe) (last : ℕ) → FitsPipes (end_at world) ps → PipesStandFor ps passed → is_at_rest (pipes_round ps last) ≡ all_settled history journal ((net_sheet scene (driver_part ps)).wants (moved history journal))
  driver_rest ps last f st = all_here history journal world bells (pipe_posts ps) (pipe_needs ps) ((net_sheet scene (driver_part ps)).wants (moved history journal)) (pipes_meet scene world passed (moved history journal) items ps f.each st)

  pub receiver_rest : (v : NetVirtRx) → ReceivesInTurn scene.frames v passed → FitsRx (end_at world) v → RxStandsFor v passed → is_at_rest (rx_round v) ≡ all_settled history journal ((net_sheet scene (receiver_part v)).wants (moved history journal))
  receiver_rest v turn f st = receiver_rests history journal world bells scene v passed (moved history journal) items turn f st

  pub copier_rest : (c : NetCopier) → AreLeases (passed.taken c.lease_input.queue.0) → FitsCopier (end_at world) c → CopierStandsFor c passed → is_at_rest (copier_round c) ≡ all_settled history journal ((net_sheet scene (copier_part c)).wants (moved history journal))
  copier_rest c leases f st = all_here history journal world bells (copier_round c).posts (copier_round c).needs ((net_sheet scene (copier_part c)).wants (moved history journal)) (copier_meets scene world passed (moved history journal) items c leases f st)

  pub client_rest : (c : NetClient) → AnswersWhole c passed → FitsClient (end_at world) c → ClientStandsFor c passed → is_at_rest (client_round c) ≡ all_settled history journal ((net_sheet scene (client_part c)).wants (moved history journal))
  client_rest c whole f st = all_here history journal world bells (client_round c).posts (client_round c).needs ((net_sheet scene (client_part c)).wants (moved history journal)) (client_meets scene world passed (moved history journal) items c whole f st)
