use Rattle.cast_core.specs.Making.{new_page}
use Rattle.cast_core.proofs.Listing.{one_more}
use Rattle.cast_core.proofs.pools.pages.Goals as goal

pub loop-no-preserved : goal.loop-no-preserved
loop-no-preserved c = one_more c.loop-no.no (new_page c.args.size c.args.pool) c.loop-no.pages.items c.push.new.self.items _ c.loop-no.invariant c.in_ok-push.ensures.items c.in_ok-new.ensures
