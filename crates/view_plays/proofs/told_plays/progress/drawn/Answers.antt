use Rattle.std.proofs.Common.{◌+◌, ◌∙◌, drop, ap, sym}
use Rattle.wire_core.specs.Picks.{drawn}
use Rattle.view_plays.proofs.ToldPlays.SliceLemmas.{drawn-step}
use Rattle.view_plays.proofs.told_plays.progress.drawn.Goals as goal

pub loop-entry-preserved : goal.loop-entry-preserved
loop-entry-preserved c =
    ap (λ z. drawn z (drop (c.loop-entry._entry-index + 1) c.args.entries.now)) c.next_seed-x.ensures
    ∙ (sym (drawn-step c.loop-entry.x c.args.entries.now c.loop-entry._entry-index c.loop-entry-test.true) ∙ c.loop-entry.invariant)
