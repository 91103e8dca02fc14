use Rattle.std.proofs.Common.{◌≡◌, arith}
use Rattle.actor_rows.proofs.Emptiness.{no_pages}
use Rattle.actor_rows.proofs.receiving.a_new_virtualiser_lends_nothing.Goals as goal

pub new-requires-clause-pool : goal.new-requires-clause-pool
new-requires-clause-pool c = (record { 0 = 0 }, 1, rw c.new-pages.ensures.items (no_pages 1 (omega arith)))
