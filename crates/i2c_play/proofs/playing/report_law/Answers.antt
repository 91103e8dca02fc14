use Rattle.std.proofs.Common.{ℕ, List}
use Rattle.i2c_play.proofs.Reporting.{of_bus, picked_by, tells_replies, tells_owners, its_turns, is_played}
use Rattle.i2c_play.proofs.playing.report_law.Goals as goal

pub returns : goal.returns
returns c = λ bus seed limit old new report keeps set played still spent told.
    let t = of_bus bus seed limit old new report keeps set played still spent told in
    let rows = old.rows in
    let start = old.start in
    let turns = played.turns in
    is_played bus seed limit old new report keeps set played still spent told
    (c.hops_law.ensures.steps bus rows start turns t (keeps.enough))
    (c.wants_law.ensures.runs bus rows start turns t)
    (c.wants_law.ensures.quiet bus rows start turns t)
    (its_turns bus seed limit old new report keeps set played still spent told
    (c.wants_law.ensures.picks bus rows start turns seed t (picked_by bus seed limit old new report keeps set played still spent told))
    (c.tale_law.ensures.lawful rows start turns t.begins t.tale))
    (tells_replies bus seed limit old new report keeps set played still spent told
    (c.replies_law.ensures.there bus rows start turns t)
    (c.replies_law.ensures.replies bus rows start turns t)
    (c.whole_law.ensures bus rows start turns t)
    (c.tale_law.ensures.count _ turns t.tale))
    (tells_owners bus seed limit old new report keeps set played still spent told
    (c.owners_law.ensures.owners bus rows start turns t) c.owners_law.ensures.pools)
