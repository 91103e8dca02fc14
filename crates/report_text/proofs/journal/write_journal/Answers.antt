use Rattle.std.proofs.lemmas.Option.{slice_get-get_or}
use Rattle.report_text.specs.Journals.{entry_line}
use Rattle.report_text.proofs.LineLemmas.{line_written}
use Rattle.report_text.proofs.journal.write_journal.Goals as goal

pub loop-k-preserved : goal.loop-k-preserved
loop-k-preserved c =
    line_written (entry_line c.args.layout.now) c.args.journal.now c.loop-k.k _ _ _ _ (slice_get-get_or c.args.journal.now c.loop-k.k _ c.loop-k-test.true) c.in_ok-add_entry.ensures c.loop-k.invariant
