use Rattle.std.proofs.Common.{◌≡◌, Some, None, refl, sym, ◌∙◌}
use Rattle.line_text.proofs.PortsText.Words.{too_many}
use Rattle.line_text.proofs.ports_text.line.read_named.Goals as goal

pub returns-in-Some-split_once : goal.returns-in-Some-split_once
returns-in-Some-split_once c = rw (c.in-Some.ensures.parts, c.in-Some-split_once.ensures.parts) (sym (too_many c.args.name.now c.in-Some.second.now c.in-Some-split_once.field-0.0.now c.in-Some-split_once.field-0.1.now))
