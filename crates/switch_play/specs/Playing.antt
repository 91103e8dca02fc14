-- What the play of a switch promises of its report.
pub use Rattle.switch_play.specs.SwitchSystem.Playing.{PortsPlayed}
