use Rattle.view_plays.specs.ViewCore.Viewed.{whole, begun}
use Rattle.view_plays.proofs.view_core.viewing.write_to.Goals as goal

pub returns-in-Ok : goal.returns-in-Ok
returns-in-Ok g c = whole c.in-Ok.ensures.ok c.in-Ok.ensures.calm

pub returns-in-Err : goal.returns-in-Err
returns-in-Err g c = begun c.in-Err.ensures.begun.0 c.in-Err.ensures.begun.1 c.in-Err.ensures.begun.2 c.in-Err.ensures.failed
