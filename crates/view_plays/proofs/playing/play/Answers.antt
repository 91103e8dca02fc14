use Rattle.std.proofs.Common.{◌∙◌, ◌^◌, ◌≤◌, ap, sym, subst, List, length}
use Rattle.expect_core.specs.declared.report.Report.{Report}
use Rattle.command_words.specs.declared.play_words.options.Setting.{Setting}
use Rattle.view_plays.specs.Deciding.{ending_of, seed_of, limit_of}
use Rattle.view_plays.proofs.PoolLemmas.{few-lines}
use Rattle.view_plays.proofs.PlayLemmas.{drawn-play, drawn-of}
use Rattle.view_plays.proofs.playing.play.Goals as goal

pub draw_play-requires-clause-pools : goal.draw_play-requires-clause-pools
draw_play-requires-clause-pools g c =
    subst (λ (r : Report). length r.pools ≤ 2 ^ 40) (sym c.in_ok-report.ensures)
    (few-lines _ _ _ c.requires.numbered c.in_ok-system.ensures.played.played.system)

pub returns-clause-drawn : goal.returns-clause-drawn
returns-clause-drawn g c =
    drawn-play _ _ c.args.drawing.now c.in_ok-system.system _ _ _ _ (c.seed_of.ensures ∙ ap (λ (xs : List Setting). seed_of xs) c.as_slice-settings.ensures) (c.limit_of-limit.ensures ∙ ap (λ (xs : List Setting). limit_of c.args.plan.now c.args.trace.now xs) c.as_slice-settings.ensures) c.in_ok-system.ensures.played c.in_ok-system.ensures.spent
    (c.ending_of.ensures ∙ ap (λ (r : Report). ending_of r.quiet r.steps) c.in_ok-report.ensures)
    (drawn-of _ c.args.drawing.now c.in_ok-system.system _ _ _ _ c.in_ok-layout.ensures.layout c.journal.ensures c.in_ok-report.ensures c.in_ok-text.ensures)
