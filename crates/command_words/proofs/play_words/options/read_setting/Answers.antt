use Rattle.std.proofs.lemmas.List.{length-map}
use Rattle.command_words.proofs.PlayWords.OptionLemmas.{bad-unset, bad-number, number-read, flag-read}
use Rattle.command_words.proofs.play_words.options.read_setting.Goals as goal

pub returns-in_default-clause-err : goal.returns-in_default-clause-err
returns-in_default-clause-err c = bad-unset _ _ _ c.requires.fit (simp length-map c.requires.inside) c.in_default.ensures.none

pub returns-then-not-takes_number-clause-ok : goal.returns-then-not-takes_number-clause-ok
returns-then-not-takes_number-clause-ok c =
    let t = c.takes_number.ensures in
    let f = c.if-not-takes_number.true in
    flag-read _ _ _ c.in-Some.name c.requires.fit c.in-Some.ensures.some.0 c.in-Some.ensures.some.1 (cc (t, f))

pub returns-in_default-number_at-clause-err : goal.returns-in_default-number_at-clause-err
returns-in_default-number_at-clause-err c =
    let t = c.takes_number.ensures in
    let f = c.if-not-takes_number.false in
    bad-number _ _ _ c.in-Some.name c.requires.fit c.in-Some.ensures.some.0 c.in-Some.ensures.some.1 (cc (t, f))
    (rw (← c.least_of.ensures, ← c.most_of.ensures) c.in_default-number_at.ensures.none)

pub returns-clause-ok : goal.returns-clause-ok
returns-clause-ok c =
    let t = c.takes_number.ensures in
    let f = c.if-not-takes_number.false in
    number-read _ _ _ c.in-Some.name c.requires.fit c.in-Some.ensures.some.0 c.in-Some.ensures.some.1 (cc (t, f)) c.in-Some-number_at.number
    (rw (← c.least_of.ensures, ← c.most_of.ensures) c.in-Some-number_at.ensures.some)
