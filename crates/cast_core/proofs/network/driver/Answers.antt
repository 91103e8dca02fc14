use Rattle.std.proofs.Common.{refl}
use Rattle.cast_core.proofs.Making.{pipe_own, way_is, ways_are}
use Rattle.cast_core.proofs.network.driver.Goals as goal

pub returns-clause-new : goal.returns-clause-new
returns-clause-new c = (
  pipe_own _ _ _ (c.new.ensures.rx_free (record { 0 = 5 }) (record { 0 = 0 }) refl refl),
  (
    pipe_own _ _ _ (c.new.ensures.rx_active (record { 0 = 1 }) (record { 0 = 4 }) refl refl),
    (pipe_own _ _ _ (c.new.ensures.tx_active (record { 0 = 6 }) (record { 0 = 2 }) refl refl), (pipe_own _ _ _ (c.new.ensures.tx_free (record { 0 = 3 }) (record { 0 = 7 }) refl refl), tt)),
  ),
)

pub returns-clause-part : goal.returns-clause-part
returns-clause-part c = ways_are _ _ _ _ _ _ _ _
    (way_is _ _ _ (c.new.ensures.rx_free (record { 0 = 5 }) (record { 0 = 0 }) refl refl))
    (way_is _ _ _ (c.new.ensures.rx_active (record { 0 = 1 }) (record { 0 = 4 }) refl refl))
    (way_is _ _ _ (c.new.ensures.tx_active (record { 0 = 6 }) (record { 0 = 2 }) refl refl))
    (way_is _ _ _ (c.new.ensures.tx_free (record { 0 = 3 }) (record { 0 = 7 }) refl refl))
