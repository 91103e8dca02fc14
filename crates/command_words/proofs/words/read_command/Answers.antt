use Rattle.std.proofs.lemmas.Result.{err_from_is_err_and}
use Rattle.std.proofs.Common.{refl, arith}
use Rattle.std.proofs.lemmas.List.{length-map}
use Rattle.command_words.proofs.Commands.{bad-check, bad-layout, bad-play, bad-run, bad-gen, bad-i2c, bad-switch, bad-kind, bad-empty, spells-i2c, spells-switch}
use Rattle.command_words.proofs.words.read_command.Goals as goal

pub returns-then-is_empty-clause-bad : goal.returns-then-is_empty-clause-bad
returns-then-is_empty-clause-bad c = bad-empty _ (simp length-map (grind (arith, c.if-is_empty.ensures)))

pub returns-in_err-read_name-clause-bad : goal.returns-in_err-read_name-clause-bad
returns-in_err-read_name-clause-bad c =
    let p = err_from_is_err_and c.from_residual.result c.from_residual.ensures.1 in
    rw (p.1, p.2) (bad-check _ _ c.word_at-name.ensures (c.if-is_word.ensures.0 refl) _ c.in_err-read_name.ensures.err)

pub returns-in_err-read_name-2-clause-bad : goal.returns-in_err-read_name-2-clause-bad
returns-in_err-read_name-2-clause-bad c =
    let p = err_from_is_err_and c.from_residual-in_err-read_name-2.result c.from_residual-in_err-read_name-2.ensures.1 in
    rw (p.1, p.2) (bad-layout _ _ c.word_at-name.ensures (c.if-is_word-2.ensures.0 refl) _ c.in_err-read_name-2.ensures.err)

pub returns-in_err-read_play-clause-bad : goal.returns-in_err-read_play-clause-bad
returns-in_err-read_play-clause-bad c =
    let p = err_from_is_err_and c.from_residual-in_err-read_play.result c.from_residual-in_err-read_play.ensures.1 in
    rw (p.1, p.2) (bad-play _ _ c.word_at-name.ensures (c.if-is_word-3.ensures.0 refl) _ c.in_err-read_play.ensures.err)

pub returns-in_err-read_run-clause-bad : goal.returns-in_err-read_run-clause-bad
returns-in_err-read_run-clause-bad c =
    let p = err_from_is_err_and c.from_residual-in_err-read_run.result c.from_residual-in_err-read_run.ensures.1 in
    rw (p.1, p.2) (bad-run _ _ c.word_at-name.ensures (c.if-is_word-4.ensures.0 refl) _ c.in_err-read_run.ensures.err)

pub returns-in_err-read_one_number-clause-bad : goal.returns-in_err-read_one_number-clause-bad
returns-in_err-read_one_number-clause-bad c =
    let p = err_from_is_err_and c.from_residual-in_err-read_one_number.result c.from_residual-in_err-read_one_number.ensures.1 in
    rw (p.1, p.2) (bad-gen _ _ c.word_at-name.ensures (c.if-is_word-5.ensures.0 refl) _ c.in_err-read_one_number.ensures.err)

pub returns-in_err-read_one_text-clause-bad : goal.returns-in_err-read_one_text-clause-bad
returns-in_err-read_one_text-clause-bad c =
    let p = err_from_is_err_and c.from_residual-in_err-read_one_text.result c.from_residual-in_err-read_one_text.ensures.1 in
    rw (p.1, p.2) (bad-i2c _ _ c.word_at-name.ensures (c.if-is_word-6.ensures.0 refl) _ c.in_err-read_one_text.ensures.err)

pub returns-in_err-read_one_text-2-clause-bad : goal.returns-in_err-read_one_text-2-clause-bad
returns-in_err-read_one_text-2-clause-bad c =
    let p = err_from_is_err_and c.from_residual-in_err-read_one_text-2.result c.from_residual-in_err-read_one_text-2.ensures.1 in
    rw (p.1, p.2) (bad-switch _ _ c.word_at-name.ensures (c.if-is_word-7.ensures.0 refl) _ c.in_err-read_one_text-2.ensures.err)

pub returns-then-is_word-6-clause-command : goal.returns-then-is_word-6-clause-command
returns-then-is_word-6-clause-command c = spells-i2c _ _ c.word_at-name.ensures (c.if-is_word-6.ensures.0 refl) _ c.in_ok-read_one_text.ensures.ok

pub returns-then-is_word-7-clause-command : goal.returns-then-is_word-7-clause-command
returns-then-is_word-7-clause-command c = spells-switch _ _ c.word_at-name.ensures (c.if-is_word-7.ensures.0 refl) _ c.in_ok-read_one_text-2.ensures.ok

pub returns-clause-bad : goal.returns-clause-bad
returns-clause-bad c = bad-kind _ _ c.word_at-name.ensures (λ e. let t = c.is_word.ensures.1 e in let f = c.if-is_word.false in cc)
    (λ e. let t = c.is_word-2.ensures.1 e in let f = c.if-is_word-2.false in cc) (λ e. let t = c.is_word-3.ensures.1 e in let f = c.if-is_word-3.false in cc)
    (λ e. let t = c.is_word-4.ensures.1 e in let f = c.if-is_word-4.false in cc)
    (λ e. let t = c.is_word-5.ensures.1 e in let f = c.if-is_word-5.false in cc)
    (λ e. let t = c.is_word-6.ensures.1 e in let f = c.if-is_word-6.false in cc)
    (λ e. let t = c.is_word-7.ensures.1 e in let f = c.if-is_word-7.false in cc)
