use Rattle.std.proofs.Common.{◌≡◌, ◌∙◌, refl}
use Rattle.base_rows.proofs.SeatsLemmas.Fitting.{starts_on}
use Rattle.base_rows.proofs.seats.tests.a_driver_moves_a_hundred_bytes_over_rings.Goals as goal

-- src/tests.rt:14:41
pub seated_driver-requires-clause-device_rx : goal.seated_driver-requires-clause-device_rx
seated_driver-requires-clause-device_rx g c = starts_on _ _ 0 c.in_ok-ring0.ring0 _ _ (c.deref.ensures.value ∙ c.in_ok-rings.ensures.items) refl c.in_ok-ring0.ensures.consumer

-- src/tests.rt:14:41
pub seated_driver-requires-clause-rx : goal.seated_driver-requires-clause-rx
seated_driver-requires-clause-rx g c = starts_on _ _ 1 c.in_ok-ring1.ring1 _ _ (c.deref.ensures.value ∙ c.in_ok-rings.ensures.items) refl c.in_ok-ring1.ensures.producer

-- src/tests.rt:14:41
pub seated_driver-requires-clause-tx : goal.seated_driver-requires-clause-tx
seated_driver-requires-clause-tx g c = starts_on _ _ 2 c.in_ok-ring2.ring2 _ _ (c.deref.ensures.value ∙ c.in_ok-rings.ensures.items) refl c.in_ok-ring2.ensures.consumer
