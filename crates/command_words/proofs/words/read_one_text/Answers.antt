use Rattle.std.proofs.Common.{refl}
use Rattle.command_words.proofs.Names.{bad-text, ok-alone, err-alone, two-words}
use Rattle.command_words.proofs.words.read_one_text.Goals as goal

pub returns-then-not-is_name_at-clause-err : goal.returns-then-not-is_name_at-clause-err
returns-then-not-is_name_at-clause-err c = bad-text _ (λ named. let e = c.is_name_at.ensures.1 named in let f = c.if-not-is_name_at.true in cc)

pub read_schedule-requires : goal.read_schedule-requires
read_schedule-requires c = two-words c.args.words.now (c.if-not-is_name_at.ensures.0 refl)

pub returns-clause-ok : goal.returns-clause-ok
returns-clause-ok c = ok-alone _ (c.if-not-is_name_at.ensures.0 refl) _ c.read_schedule.ensures.ok

pub returns-clause-err : goal.returns-clause-err
returns-clause-err c = err-alone _ (c.if-not-is_name_at.ensures.0 refl) _ c.read_schedule.ensures.err
