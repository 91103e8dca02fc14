use Rattle.std.proofs.Common.{refl, inl, inr}
use Rattle.command_words.proofs.words.read_names.Goals as goal

pub returns-then-not-is_name_at-clause-err : goal.returns-then-not-is_name_at-clause-err
returns-then-not-is_name_at-clause-err c = inl (refl, (λ named. let e = c.is_name_at.ensures.1 named in let f = c.if-not-is_name_at.true in cc))

pub returns-then-not-is_name_at-2-clause-err : goal.returns-then-not-is_name_at-2-clause-err
returns-then-not-is_name_at-2-clause-err c =
    inr (refl, c.if-not-is_name_at.ensures.0 refl, (λ named. let e = c.is_name_at-2.ensures.1 named in let f = c.if-not-is_name_at-2.true in cc))

pub returns-clause-ok : goal.returns-clause-ok
returns-clause-ok c = (c.if-not-is_name_at.ensures.0 refl, c.if-not-is_name_at-2.ensures.0 refl)
