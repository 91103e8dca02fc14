use Rattle.spsc_queue.proofs.Opening.{starts, capacity_fits}
use Rattle.spsc_queue.proofs.ring.open.Goals as goal

pub vacant-requires : goal.vacant-requires
vacant-requires c = let fits = capacity_fits c.args.capacity c.requires in starts c.args.kind c.args.capacity fits.0 fits.1 fits.2
