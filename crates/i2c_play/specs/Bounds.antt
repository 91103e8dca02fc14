-- How many steps are enough for a play of a bus: the bound of the laws on its play.
pub use Rattle.bus_law.specs.Bounds.{requests_of, bus_bound}
