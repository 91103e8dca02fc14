use Rattle.std.proofs.Common.{◌≡◌, ◌++◌, take}
use Rattle.export_text.specs.ConfigText.Code.{code}
use Rattle.export_text.proofs.config_text.code.push_code.Given as goal

abbrev pub invariant-loop-byte : goal.invariant-loop-byte
invariant-loop-byte l = l.to ≡ l.fn.to ++ code (take l.byte-index l.name)
