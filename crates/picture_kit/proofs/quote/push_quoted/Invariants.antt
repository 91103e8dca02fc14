use Rattle.std.proofs.Common.{◌≡◌, ◌++◌, take}
use Rattle.std.specs.List.{flat_map}
use Rattle.picture_kit.specs.Quotes.{quoted_byte}
use Rattle.picture_kit.proofs.quote.push_quoted.Given as goal

abbrev pub invariant-loop-byte : goal.invariant-loop-byte
invariant-loop-byte l = l.to ≡ l.initial.to ++ flat_map quoted_byte (take l.byte-index l.text)
