use Rattle.actor_rows.proofs.Beside.{copier_left, out_there}
use Rattle.actor_rows.proofs.drops.fetch.Goals as goal

pub get_entry-got-requires : goal.get_entry-got-requires
get_entry-got-requires c = out_there _ _ c.requires.output c.requires.stands.long

pub settle-requires : goal.settle-requires
settle-requires c = copier_left _ _ c.args.copier.now _ c.requires.output c.requires.stands c.get_entry-got.ensures
