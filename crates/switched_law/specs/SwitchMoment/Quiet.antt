-- A moment of a switch's system at which nobody is runnable.
use Rattle.std.specs.Prelude.{◌≡◌, ◌+◌, ◌*◌, ◌<◌, ℕ, Bool, true, length}
use Rattle.line_text.specs.declared.ports_text.ports.Ports.{Ports}
use Rattle.wire_core.specs.Ends.{Role, End}
use Rattle.wire_core.specs.Lists.{Passed}
use Rattle.client_programs.specs.declared.net.NetClient.{NetClient}
use Rattle.client_programs.specs.Net.Clients.{client_frames, needs_frame, is_giving}
use Rattle.client_programs.specs.Net.Sending.{needs_buffer, is_sending}
use Rattle.net_switch.specs.SwitchDesk.Desks.{is_taking, is_returning, is_wanting, is_loaded}
use Rattle.net_switch.specs.declared.switch.NetSwitch.{NetSwitch}
use Rattle.switched_law.specs.SwitchMoment.Scene.{buffers, IsSwitched}

-- nothing stands in a queue whose consumer needs an entry, and one is owed only to a full one
pub record RestsAt (passed : Passed) (queue : ℕ) (needed owed : Bool) : Type 0 where
  pub drained : needed ≡ true → length (passed.sent queue) ≡ length (passed.taken queue)
  pub filled : owed ≡ true
      → length (passed.sent queue) ≡ length (passed.taken queue) + buffers

-- the four queues between the switch and a client rest, by what both need and owe there
pub record PortRests (v : NetSwitch) (port : ℕ) (c : NetClient) (passed : Passed) : Type 0 where
  pub come : RestsAt passed (4 * port) (is_taking v.desk port)
      (is_sending c.outbox (length (client_frames c)))
  pub back : RestsAt passed (4 * port + 1) (needs_buffer c.outbox (length (client_frames c)))
      (is_returning v.desk port)
  pub copy : RestsAt passed (4 * port + 2) (needs_frame c) (is_loaded v.desk port)
  pub room : RestsAt passed (4 * port + 3) (is_wanting v.desk port) (is_giving c)

-- the queues of each port rest
abbrev pub AllRest : (ports : Ports) (ends : Role → ℕ → End) (v : NetSwitch) (passed : Passed)
    → IsSwitched ports ends v passed → Type 0
AllRest ports ends v passed h = (port : ℕ) → (there : port < length ports.macs)
    → PortRests v port (h.clients port there).client passed
