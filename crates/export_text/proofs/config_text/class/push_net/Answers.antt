use Rattle.std.specs.Prelude.{codes, length}
use Rattle.export_text.specs.ConfigText.Config.{class_number}
use Rattle.export_text.proofs.ConfigText.LineLemmas.{written-before}
use Rattle.export_text.proofs.config_text.class.push_net.Goals as goal

pub returns-in_ok-push_class-2 : goal.returns-in_ok-push_class-2
returns-in_ok-push_class-2 c =
    rw c.in-Some.is (written-before _ _ _
    (class_number (codes "SDDF_NET_CLIENTS") (length c.in-Some.net.client))
    (class_number (codes "SDDF_NET_MAX_FRAME") c.in-Some.net.max_frame)
    (rw c.len.ensures at c.in_ok-push_class.ensures)
    c.in_ok-push_class-2.ensures)
