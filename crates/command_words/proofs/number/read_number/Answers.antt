use Rattle.std.proofs.Common.{refl}
use Rattle.command_words.proofs.Numbers.{not-plain, read-some, read-none}
use Rattle.command_words.proofs.number.read_number.Goals as goal

pub returns-then-not-is_plain-clause-none : goal.returns-then-not-is_plain-clause-none
returns-then-not-is_plain-clause-none c =
    not-plain _ (λ plain. let t = (rw c.as_bytes.ensures.value at c.is_plain.ensures.1) plain in let f = c.if-not-is_plain.true in cc)

pub returns-clause-some : goal.returns-clause-some
returns-clause-some c =
    let plain = (rw c.as_bytes.ensures.value at c.is_plain.ensures.0) (rw c.if-not-is_plain.false refl) in
    read-some _ plain.0 plain.1 _ _ c.parse.ensures.value.0 c.ok.ensures.value

pub returns-clause-none : goal.returns-clause-none
returns-clause-none c =
    let plain = (rw c.as_bytes.ensures.value at c.is_plain.ensures.0) (rw c.if-not-is_plain.false refl) in
    read-none _ plain.0 plain.1 _ _ c.parse.ensures.value.0 c.ok.ensures.value
