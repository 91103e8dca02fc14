use Rattle.report_text.proofs.RunLemmas.{ends_before, ends_last}
use Rattle.report_text.proofs.report.first_run.Goals as goal

pub returns-else-bytes-times-clause-runs : goal.returns-else-bytes-times-clause-runs
returns-else-bytes-times-clause-runs c = ends_before c.args.bytes.now c.loop-times.times _ c.loop-times.invariant.0 c.loop-times-test.true c.if-bytes-times.false c.loop-times.invariant.2

pub returns-after-loop-times-clause-runs : goal.returns-after-loop-times-clause-runs
returns-after-loop-times-clause-runs c = ends_last c.args.bytes.now c.loop-times.times _ c.loop-times.invariant.0 c.loop-times-test.false c.loop-times.invariant.2
