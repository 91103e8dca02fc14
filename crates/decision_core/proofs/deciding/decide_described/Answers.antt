use Rattle.std.proofs.Common.{subst}
use Rattle.std.proofs.lemmas.Result.{err_from_is_err_and}
use Rattle.command_words.specs.Words.{texts_of}
use Rattle.decision_core.specs.Decided.{decision_of}
use Rattle.decision_core.specs.Decisions.{NamesDescription, AsksFor, TextDecides}
use Rattle.decision_core.specs.Leading.{PlanSays, LeavesTrace}
use Rattle.decision_core.specs.Readings.{opens_description}
use Rattle.decision_core.proofs.DecisionLemmas.{trace-asked}
use Rattle.decision_core.proofs.SettleLemmas.{settle-stopped, settle-starved, settle-said, settle-traced}
use Rattle.decision_core.proofs.WordLemmas.{named-second, command-two, trace-three}
use Rattle.decision_core.proofs.deciding.decide_described.Goals as goal

pub bounds-words-1 : goal.bounds-words-1
bounds-words-1 g c = command-two c.args.words.now c.args.command c.requires.spells

pub bounds-words-2 : goal.bounds-words-2
bounds-words-2 g c =
    let leads : LeavesTrace c.args.command c.as_slice.result.now c.in-Trace.plan c.in-Trace.asked = rw c.in-Trace.is at c.in_ok-next.ensures in
    trace-three c.args.words.now c.args.command c.in-Trace.asked c.requires.spells leads.asks

pub decide_named-requires-clause-accepted : goal.decide_named-requires-clause-accepted
decide_named-requires-clause-accepted g c =
    let leads : LeavesTrace c.args.command c.as_slice.result.now c.in-Trace.plan c.in-Trace.asked = rw c.in-Trace.is at c.in_ok-next.ensures in
    (c.as_slice.result.now, leads.accepted)

pub decide_named-requires-clause-numbered : goal.decide_named-requires-clause-numbered
decide_named-requires-clause-numbered g c =
    let leads : LeavesTrace c.args.command c.as_slice.result.now c.in-Trace.plan c.in-Trace.asked = rw c.in-Trace.is at c.in_ok-next.ensures in
    leads.numbered

pub returns-in_err-text : goal.returns-in_err-text
returns-in_err-text g c =
    let named : NamesDescription (texts_of c.args.words.now) c.as_str.result.now
    = named-second c.args.words.now c.args.command c.index-words-1.result c.as_str.result.now c.requires.spells c.requires.named c.index-words-1.is c.as_str.ensures.value in
    let p = err_from_is_err_and c.from_residual.result c.from_residual.ensures.1 in
    rw (p.1, p.2) (settle-stopped g.F.Shelf.text g.F.Shelf.left g.F.Shelf.opens g.F.Shelf.faults g.F.Shelf.failed (texts_of c.args.words.now) _ _ c.as_str.result.now _
    (λ o. opens_description c.as_str.result.now named o) c.in_err-text.ensures.reads)

pub returns-in_err-next : goal.returns-in_err-next
returns-in_err-next g c =
    let named : NamesDescription (texts_of c.args.words.now) c.as_str.result.now
    = named-second c.args.words.now c.args.command c.index-words-1.result c.as_str.result.now c.requires.spells c.requires.named c.index-words-1.is c.as_str.ensures.value in
    let p = err_from_is_err_and c.from_residual-in_err-next.result c.from_residual-in_err-next.ensures.1 in
    rw p.1 (settle-starved g.F.Shelf.text g.F.Shelf.left g.F.Shelf.opens g.F.Shelf.faults g.F.Shelf.failed (texts_of c.args.words.now) _ _ c.as_str.result.now c.in_ok-text.text _ _
    (λ o. opens_description c.as_str.result.now named o) c.in_ok-text.ensures.reads p.2)

pub returns-in-Done : goal.returns-in-Done
returns-in-Done g c =
    let named : NamesDescription (texts_of c.args.words.now) c.as_str.result.now
    = named-second c.args.words.now c.args.command c.index-words-1.result c.as_str.result.now c.requires.spells c.requires.named c.index-words-1.is c.as_str.ensures.value in
    let says : TextDecides (PlanSays c.args.command) c.as_slice.result.now (decision_of c.in-Done.decided) = rw c.in-Done.is at c.in_ok-next.ensures in
    settle-said g.F.Shelf.text g.F.Shelf.left g.F.Shelf.opens g.F.Shelf.faults g.F.Shelf.failed (texts_of c.args.words.now) _ _ c.as_str.result.now c.in_ok-text.text c.in-Done.decided c.args.command
    c.requires.spells named c.in_ok-text.ensures.reads c.in_ok-text.ensures.bytes (subst (λ x. TextDecides (PlanSays c.args.command) x (decision_of c.in-Done.decided)) c.as_slice.ensures says)

pub returns : goal.returns
returns g c =
    let named : NamesDescription (texts_of c.args.words.now) c.as_str.result.now
    = named-second c.args.words.now c.args.command c.index-words-1.result c.as_str.result.now c.requires.spells c.requires.named c.index-words-1.is c.as_str.ensures.value in
    let leads : LeavesTrace c.args.command c.as_slice.result.now c.in-Trace.plan c.in-Trace.asked = rw c.in-Trace.is at c.in_ok-next.ensures in
    let lead : LeavesTrace c.args.command c.in_ok-text.text c.in-Trace.plan c.in-Trace.asked = subst (λ x. LeavesTrace c.args.command x c.in-Trace.plan c.in-Trace.asked) c.as_slice.ensures leads in
    let asks : AsksFor (texts_of c.args.words.now) c.as_str.result.now c.as_str-in-Trace.result.now c.in-Trace.asked
    = trace-asked c.args.words.now c.args.command c.in-Trace.asked c.index-words-2.result c.as_str.result.now c.as_str-in-Trace.result.now c.requires.spells lead.asks named c.index-words-2.is c.as_str-in-Trace.ensures.value in
    settle-traced g.F.Shelf.text g.F.Shelf.left g.F.Shelf.opens g.F.Shelf.faults g.F.Shelf.failed (texts_of c.args.words.now) _ _ c.as_str.result.now _ c.in_ok-text.text c.as_str-in-Trace.result.now c.in-Trace.plan c.in-Trace.asked _
    named asks c.in_ok-text.ensures.reads c.in_ok-text.ensures.bytes lead.short lead.accepted c.decide_named.ensures
