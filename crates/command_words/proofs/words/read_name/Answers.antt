use Rattle.std.proofs.Common.{refl}
use Rattle.std.proofs.lemmas.List.{length-map}
use Rattle.command_words.proofs.Names.{bad-desc, bad-more, one-name}
use Rattle.command_words.proofs.words.read_name.Goals as goal

pub returns-then-not-is_name_at-clause-err : goal.returns-then-not-is_name_at-clause-err
returns-then-not-is_name_at-clause-err c = bad-desc _ (λ named. let e = c.is_name_at.ensures.1 named in let f = c.if-not-is_name_at.true in cc)

pub returns-then-words-gt2-clause-err : goal.returns-then-words-gt2-clause-err
returns-then-words-gt2-clause-err c = bad-more _ (c.if-not-is_name_at.ensures.0 refl) (simp length-map c.if-words-gt2.true)

pub returns-clause-ok : goal.returns-clause-ok
returns-clause-ok c = one-name _ (c.if-not-is_name_at.ensures.0 refl) (simp length-map c.if-words-gt2.false)
