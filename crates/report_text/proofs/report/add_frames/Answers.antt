use Rattle.hex.specs.Hex.{encode_lower}
use Rattle.report_text.proofs.LineLemmas.{line_written}
use Rattle.report_text.proofs.report.add_frames.Goals as goal

pub loop-k-preserved : goal.loop-k-preserved
loop-k-preserved c = line_written encode_lower c.args.frames.now c.loop-k.k c.get.result.now _ _ _ c.get.ensures c.in_ok-add_hex.ensures c.loop-k.invariant
