use Rattle.std.proofs.Common.{◌≡◌, ◌++◌, take, map}
use Rattle.export_text.specs.System.{end_tag}
use Rattle.export_text.proofs.domain.push_ends.Given as goal

abbrev pub invariant-loop-end : goal.invariant-loop-end
invariant-loop-end l = l.tags ≡ l.fn.tags ++ map end_tag (take l.end-index l.ends)
