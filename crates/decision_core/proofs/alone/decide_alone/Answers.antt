use Rattle.std.proofs.Common.{subst}
use Rattle.std.proofs.lemmas.Result.{err_from_is_err_and}
use Rattle.command_words.specs.Words.{texts_of}
use Rattle.decision_core.specs.Decided.{decision_of}
use Rattle.decision_core.specs.Decisions.{AsksAlone, AloneDecides}
use Rattle.decision_core.specs.Readings.{opens_alone}
use Rattle.decision_core.proofs.SettleLemmas.{settle-stopped, settle-starved, settle-alone}
use Rattle.decision_core.proofs.WordLemmas.{alone-named, alone-two}
use Rattle.decision_core.proofs.alone.decide_alone.Goals as goal

pub bounds-words-1 : goal.bounds-words-1
bounds-words-1 g c = alone-two c.args.words.now c.requires.0 c.args.asked c.requires.1

pub returns-in_err-bytes : goal.returns-in_err-bytes
returns-in_err-bytes g c =
    let asks : AsksAlone (texts_of c.args.words.now) c.as_str.result.now c.args.asked
    = alone-named c.args.words.now c.requires.0 c.args.asked c.index-words-1.result c.as_str.result.now c.requires.1 c.index-words-1.is c.as_str.ensures.value in
    let p = err_from_is_err_and c.from_residual.result c.from_residual.ensures.1 in
    rw (p.1, p.2) (settle-stopped g.F.Shelf.text g.F.Shelf.left g.F.Shelf.opens g.F.Shelf.faults g.F.Shelf.failed (texts_of c.args.words.now) _ _ c.as_str.result.now _
    (λ o. opens_alone c.as_str.result.now c.args.asked asks o) c.in_err-bytes.ensures.reads)

pub returns-in_err-decide_bytes : goal.returns-in_err-decide_bytes
returns-in_err-decide_bytes g c =
    let asks : AsksAlone (texts_of c.args.words.now) c.as_str.result.now c.args.asked
    = alone-named c.args.words.now c.requires.0 c.args.asked c.index-words-1.result c.as_str.result.now c.requires.1 c.index-words-1.is c.as_str.ensures.value in
    let p = err_from_is_err_and c.from_residual-in_err-decide_bytes.result c.from_residual-in_err-decide_bytes.ensures.1 in
    rw p.1 (settle-starved g.F.Shelf.text g.F.Shelf.left g.F.Shelf.opens g.F.Shelf.faults g.F.Shelf.failed (texts_of c.args.words.now) _ _ c.as_str.result.now c.in_ok-bytes.bytes _ _
    (λ o. opens_alone c.as_str.result.now c.args.asked asks o) c.in_ok-bytes.ensures.reads p.2)

pub returns : goal.returns
returns g c =
    let asks : AsksAlone (texts_of c.args.words.now) c.as_str.result.now c.args.asked
    = alone-named c.args.words.now c.requires.0 c.args.asked c.index-words-1.result c.as_str.result.now c.requires.1 c.index-words-1.is c.as_str.ensures.value in
    settle-alone g.F.Shelf.text g.F.Shelf.left g.F.Shelf.opens g.F.Shelf.faults g.F.Shelf.failed (texts_of c.args.words.now) _ _ c.as_str.result.now c.in_ok-bytes.bytes c.in_ok-decide_bytes.field-0 c.args.asked
    asks c.in_ok-bytes.ensures.reads c.in_ok-bytes.ensures.bytes (subst (λ x. AloneDecides c.args.asked x (decision_of c.in_ok-decide_bytes.field-0)) c.as_slice.ensures c.in_ok-decide_bytes.ensures)
