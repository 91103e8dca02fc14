use Rattle.std.proofs.Common.{refl, sym, ◌∙◌, subst}
use Rattle.std.proofs.lemmas.Result.{err_from_is_err_and}
use Rattle.command_words.specs.Words.{texts_of, Spells}
use Rattle.command_words.specs.declared.command.Command.TheVariants as Do
use Rattle.decision_core.specs.Decided.{decision_of}
use Rattle.decision_core.specs.Decisions.{TextDecides, GeneratedDecides}
use Rattle.decision_core.proofs.GenLemmas.{gen-plays}
use Rattle.decision_core.proofs.SettleLemmas.{settle-gen, settle-gen-starved}
use Rattle.decision_core.proofs.WordLemmas.{has-description}
use Rattle.decision_core.proofs.deciding.decide_command.Goals as goal

pub decide_alone-requires : goal.decide_alone-requires
decide_alone-requires g c = rw c.in-I2c.is at c.requires

pub decide_alone-requires-in-Switch : goal.decide_alone-requires-in-Switch
decide_alone-requires-in-Switch g c = rw c.in-Switch.is at c.requires

pub decide_described-requires-clause-named : goal.decide_described-requires-clause-named
decide_described-requires-clause-named g c = has-description c.args.command c.in_default.not-Gen c.in_default.not-I2c c.in_default.not-Switch

pub returns-in_ok-decide_gen-in-Gen-clause-settles : goal.returns-in_ok-decide_gen-in-Gen-clause-settles
returns-in_ok-decide_gen-in-Gen-clause-settles g c =
    let s : Spells (texts_of c.args.words.now) (Do.Gen c.in-Gen.number) = rw c.in-Gen.is at c.requires in
    let d = decision_of c.in_ok-decide_gen-in-Gen.field-0 in
    settle-gen g.F.Shelf.text g.F.Shelf.left g.F.Shelf.opens g.F.Shelf.faults g.F.Shelf.failed (texts_of c.args.words.now) _ c.in-Gen.number c.in_ok-decide_gen-in-Gen.field-0 s
    (subst (λ x. TextDecides (GeneratedDecides c.in-Gen.number) x d) c.as_bytes.ensures.value c.in_ok-decide_gen-in-Gen.ensures.decides) c.in_ok-decide_gen-in-Gen.ensures.playable

pub returns-in_ok-decide_gen-in-Gen-clause-generates : goal.returns-in_ok-decide_gen-in-Gen-clause-generates
returns-in_ok-decide_gen-in-Gen-clause-generates g c n is =
    let d = decision_of c.in_ok-decide_gen-in-Gen.field-0 in
    (refl, gen-plays c.in-Gen.number d (subst (λ x. TextDecides (GeneratedDecides c.in-Gen.number) x d) c.as_bytes.ensures.value c.in_ok-decide_gen-in-Gen.ensures.decides))

pub returns-in_err-decide_gen-in-Gen-clause-settles : goal.returns-in_err-decide_gen-in-Gen-clause-settles
returns-in_err-decide_gen-in-Gen-clause-settles g c =
    let s : Spells (texts_of c.args.words.now) (Do.Gen c.in-Gen.number) = rw c.in-Gen.is at c.requires in
    let p = err_from_is_err_and c.from_residual.result c.from_residual.ensures.1 in
    rw p.1 (settle-gen-starved g.F.Shelf.text g.F.Shelf.left g.F.Shelf.opens g.F.Shelf.faults g.F.Shelf.failed (texts_of c.args.words.now) _ c.in-Gen.number _ _ s p.2)

pub returns-in_err-decide_gen-in-Gen-clause-generates : goal.returns-in_err-decide_gen-in-Gen-clause-generates
returns-in_err-decide_gen-in-Gen-clause-generates g c n is =
    let p = err_from_is_err_and c.from_residual.result c.from_residual.ensures.1 in
    rw p.1 (refl, tt)

pub returns-in-I2c-clause-settles : goal.returns-in-I2c-clause-settles
returns-in-I2c-clause-settles g c = c.decide_alone.ensures

pub returns-in-I2c-clause-generates : goal.returns-in-I2c-clause-generates
returns-in-I2c-clause-generates g c n is = absurd (cc (sym c.in-I2c.is ∙ is))

pub returns-in-Switch-clause-settles : goal.returns-in-Switch-clause-settles
returns-in-Switch-clause-settles g c = c.decide_alone-in-Switch.ensures

pub returns-in-Switch-clause-generates : goal.returns-in-Switch-clause-generates
returns-in-Switch-clause-generates g c n is = absurd (cc (sym c.in-Switch.is ∙ is))

pub returns-in_default-clause-settles : goal.returns-in_default-clause-settles
returns-in_default-clause-settles g c = c.decide_described.ensures

pub returns-in_default-clause-generates : goal.returns-in_default-clause-generates
returns-in_default-clause-generates g c n is = absurd (c.in_default.not-Gen n is)
