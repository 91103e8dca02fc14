use Rattle.net_quiet.proofs.PoolsLemmas.Listing.{layout_names}
use Rattle.net_quiet.proofs.pools.listing_law.Goals as goal

pub returns : goal.returns
returns c = layout_names
