use Rattle.std.proofs.Common.{◌≡◌, []}
use Rattle.system_rows.proofs.playing.play_in_a_row.Goals as goal

pub loop-seed-preserved : goal.loop-seed-preserved
loop-seed-preserved c = (
  λ plan trace valid read of. c.play.ensures.system plan trace valid read (c.loop-seed.invariant.0 plan trace valid read of),
  c.in_ok-ending.ensures.quiet,
)

pub returns-in_err-ending-clause-system : goal.returns-in_err-ending-clause-system
returns-in_err-ending-clause-system c plan trace valid read of = c.in_err-ending.ensures.system plan trace valid read (c.loop-seed.invariant.0 plan trace valid read of)
