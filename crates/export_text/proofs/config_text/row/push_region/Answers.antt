use Rattle.export_text.proofs.ConfigText.LineLemmas.{three-written}
use Rattle.export_text.proofs.config_text.row.push_region.Goals as goal

pub returns : goal.returns
returns c =
    three-written _ _ _ _ _ _ _ (rw c.as_str.ensures at c.in_ok-push_decimal.ensures) (rw c.as_str.ensures at c.in_ok-push_hex.ensures)
    (rw c.as_str.ensures at c.in_ok-push_hex_if.ensures)
