-- The limits of a bus and of the ports of a switch.
use Rattle.std.specs.Prelude.{◌≡◌, ◌≤◌, length, sum_by}
use Rattle.i2c_text.specs.declared.bus.Bus.{Bus}
use Rattle.i2c_text.specs.Buses.{asks_most}
use Rattle.line_text.specs.declared.ports_text.ports.Ports.{Ports}
use Rattle.line_text.specs.PortsText.Given.{ports_fewest, ports_most, sends_most}

-- there are 1 to 8 clients, a list of requests for each, and not too many requests
pub record KeepsBusLimits (bus : Bus) : Type 0 where
  pub enough : 1 ≤ bus.clients
  pub few : bus.clients ≤ 8
  pub lists : length bus.asks ≡ bus.clients
  pub asks : sum_by length bus.asks ≤ asks_most

-- there are 2 to 8 ports, a list of frames for each, and not too many frames
pub record KeepsPortLimits (ports : Ports) : Type 0 where
  pub enough : ports_fewest ≤ length ports.macs
  pub few : length ports.macs ≤ ports_most
  pub lists : length ports.sends ≡ length ports.macs
  pub sends : sum_by length ports.sends ≤ sends_most
