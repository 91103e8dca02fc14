use Rattle.report_text.proofs.LineLemmas.{client_written}
use Rattle.switch_play.specs.Texts.{frames_lines}
use Rattle.switch_play.proofs.writing.add_ports.Goals as goal

pub loop-c-preserved : goal.loop-c-preserved
loop-c-preserved c = client_written frames_lines c.args.ports.now c.loop-c.c c.get.result.now _ _ _ c.get.ensures c.in_ok-add_port.ensures c.loop-c.invariant
