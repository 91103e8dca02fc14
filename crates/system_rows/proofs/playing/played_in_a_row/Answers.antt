use Rattle.std.proofs.Common.{◌≡◌}
use Rattle.system_rows.proofs.playing.played_in_a_row.Goals as goal

pub returns : goal.returns
returns c =
    let of = c.play_in_a_row-ending.ensures.system c.args.plan.now c.args.trace.now c.requires.valid c.requires.trace c.in_ok-system.ensures.system in
    (_, c.in_ok-report.ensures, of, of.stands.lawful.legal, of.bounded, c.in_ok-ending.ensures.quiet)
