use Rattle.std.proofs.Common.{◌≡◌, arith}
use Rattle.actor_rows.proofs.Emptiness.{no_pages}
use Rattle.actor_rows.proofs.starts.a_new_client_asks_first_and_recorded_nothing.Goals as goal

pub new-client-requires-clause-pool : goal.new-client-requires-clause-pool
new-client-requires-clause-pool c = (record { 0 = 0 }, rw c.new-pages.ensures.items (no_pages 32768 (omega arith)))
