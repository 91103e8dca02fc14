use Rattle.std.proofs.Common.{◌≡◌, ◌<◌, length, refl, arith}
use Rattle.command_words.specs.Words.{texts_of}
use Rattle.view_plays.proofs.ViewCore.WordLemmas.{bad-second, bad-third, bad-fourth, asks-config}
use Rattle.view_plays.proofs.view_core.ask.read_behind.Goals as goal

pub returns-then-not-is_name_at-clause-bad : goal.returns-then-not-is_name_at-clause-bad
returns-then-not-is_name_at-clause-bad c =
    bad-second (texts_of c.args.words.now) c.args.view c.requires (λ s. (let f = c.if-not-is_name_at.ensures.1 s in cc f))

pub returns-then-not-goes_on-clause-bad : goal.returns-then-not-goes_on-clause-bad
returns-then-not-goes_on-clause-bad c =
    bad-third (texts_of c.args.words.now) c.args.view c.requires (c.if-not-is_name_at.ensures.0 refl)
    (λ e. (let a = c.count.ensures in let n = c.if-count-eq2.false in omega (arith, a, n, e))) (λ s. (let f = c.if-not-goes_on.ensures.1 s in cc f))

pub returns-then-count-gt3-clause-bad : goal.returns-then-count-gt3-clause-bad
returns-then-count-gt3-clause-bad c =
    bad-fourth (texts_of c.args.words.now) c.args.view c.requires (c.if-not-is_name_at.ensures.0 refl) (c.if-not-goes_on.ensures.0 refl)
    (let a = c.count-2.ensures in let m = c.if-count-gt3.true in omega (arith, a, m))

pub returns-clause-view : goal.returns-clause-view
returns-clause-view c =
    asks-config (texts_of c.args.words.now) c.args.view c.requires (c.if-not-is_name_at.ensures.0 refl) (c.if-not-goes_on.ensures.0 refl)
    (let a = c.count-2.ensures in let m = c.if-count-gt3.false in omega (arith, a, m))
