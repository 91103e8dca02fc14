use Rattle.std.proofs.Common.{◌≡◌, drop, fold}
use Rattle.line_text.specs.Texts.{decimal_value}
use Rattle.line_text.proofs.Numbers.{with_digit}
use Rattle.line_text.proofs.number.read_number.Given as goal

abbrev pub invariant-loop-c : goal.invariant-loop-c
invariant-loop-c l = fold with_digit l.value (drop l.c-index l.word) ≡ decimal_value l.word
