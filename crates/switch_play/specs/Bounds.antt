-- How many steps are enough for a play of a switch.
pub use Rattle.switch_play.specs.SwitchSystem.Bounds.{count_of, sends_of, hops_of, ports_bound}
