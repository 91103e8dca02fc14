use Rattle.std.proofs.Common.{refl}
use Rattle.actor_rows.specs.Standings.{queue}
use Rattle.actor_rows.proofs.sizes.driver.Goals as goal

pub returns : goal.returns
returns c = record {
  first = c.new.ensures.rx_free (queue 0) (queue 1) refl refl;
  second = c.new.ensures.rx_active (queue 2) (queue 3) refl refl;
  third = c.new.ensures.tx_active (queue 4) (queue 5) refl refl;
  fourth = c.new.ensures.tx_free (queue 6) (queue 7) refl refl;
}
