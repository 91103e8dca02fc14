use Rattle.std.proofs.Common.{List, length, drop, ap, sym, ◌∙◌, arith}
use Rattle.std.proofs.lemmas.List.{take_rest}
use Rattle.wire_core.specs.declared.names.Entry.{Entry}
use Rattle.wire_core.specs.Picks.{drawn}
use Rattle.view_plays.proofs.ToldPlays.SliceLemmas.{made-first, made-more, drawn-more, longer, is-played, quiet-spent, last-spent, told-first, told-more}
use Rattle.view_plays.proofs.told_plays.progress.played_told.Goals as goal

pub loop-left-init : goal.loop-left-init
loop-left-init g c =
    let e = ap length c.in_ok-system.ensures.built.journal in (
      made-first c.args.plan.now c.args.trace.now c.args.seed _ c.in_ok-system.ensures.built c.in_ok-system.ensures.system,
      sym (ap (λ (j : List Entry). drawn c.args.seed j) c.in_ok-system.ensures.built.journal),
      omega (arith, e),
      omega arith,
      told-first g.E.Sink.written c.args.err.now,
    )

pub returns-in-Quiet-clause-played : goal.returns-in-Quiet-clause-played
returns-in-Quiet-clause-played g c =
    let i = c.loop-left.invariant in
    let l = longer _ _ _ _ c.in_ok-ending.ensures.played in
    let at = i.2 in
    let more = c.loop-left-test.true in
    is-played c.args.plan.now c.args.trace.now c.args.seed c.args.limit _
    (made-more _ _ _ _ _ _ _ c.requires.valid c.requires.trace i.0 i.1 c.in_ok-ending.ensures.played c.in_ok-ending.ensures.system) (omega (arith, l, at, more))

pub returns-in-Quiet-clause-spent : goal.returns-in-Quiet-clause-spent
returns-in-Quiet-clause-spent g c = quiet-spent c.args.limit c.play.new.self (c.in_ok-ending.ensures.quiet c.in-Quiet.is)

pub loop-left-preserved : goal.loop-left-preserved
loop-left-preserved g c =
    let i = c.loop-left.invariant in
    let at = i.2 in
    let few = i.3 in
    let more = c.loop-left-test.true in
    let made = (c.in_ok-ending.ensures.spent c.in-Spent.is).0 in (
      made-more _ _ _ _ _ _ _ c.requires.valid c.requires.trace i.0 i.1 c.in_ok-ending.ensures.played c.in_ok-ending.ensures.system,
      drawn-more c.args.seed c.loop-left.x _ 262144 (length c.journal-before.result.now) c.loop-left.system c.play.new.self i.1 c.in_ok-ending.ensures.played (ap length c.journal-before.ensures)
          (c.drawn-x.ensures ∙ (ap (λ (j : List Entry). drawn c.loop-left.x j) (take_rest c.journal.result.now (length c.journal-before.result.now))
          ∙ ap (λ (j : List Entry). drawn c.loop-left.x (drop (length c.journal-before.result.now) j)) c.journal.ensures)),
      omega (arith, made, at, more),
      omega (arith, few, more),
      told-more g.E.Sink.written _ _ _ _ _ _ i.4 c.in_ok-going.ensures.ok,
    )

pub returns-clause-played : goal.returns-clause-played
returns-clause-played g c =
    let i = c.loop-left.invariant in
    let l = longer _ _ _ _ c.in_ok-_ending.ensures.played in
    let at = i.2 in
    is-played c.args.plan.now c.args.trace.now c.args.seed c.args.limit _
    (made-more _ _ _ _ _ _ _ c.requires.valid c.requires.trace i.0 i.1 c.in_ok-_ending.ensures.played c.in_ok-_ending.ensures.system) (omega (arith, l, at))

pub returns-clause-spent : goal.returns-clause-spent
returns-clause-spent g c = last-spent c.args.limit c.loop-left.left c.loop-left.system c.play-2.new.self c.in_ok-_ending._ending (c.loop-left.invariant.2) c.in_ok-_ending.ensures.quiet c.in_ok-_ending.ensures.spent
