use Rattle.std.proofs.Common.{◌<◌, length, arith, below_more}
use Rattle.std.proofs.lemmas.Option.{slice_get-get_or, slice_get_within}
use Rattle.sdf_check.proofs.SweepLemmas.{match-true, match-false}
use Rattle.sdf_check.proofs.sweep.first_meeting.Goals as goal

pub returns-then-not-branch : goal.returns-then-not-branch
returns-then-not-branch c = (
  match-false _ _ c.in_ok-keep.field-0 c.if-not-branch.true
      (c.in_ok-keep.ensures c.args.ranges.now c.loop-at.at c.loop-at.invariant.0 (slice_get-get_or _ _ _ c.loop-at-test.true)),
  c.loop-at.invariant.1,
)

pub loop-at-preserved : goal.loop-at-preserved
loop-at-preserved c =
    let kept = match-true _ _ c.in_ok-keep.field-0 c.if-not-branch.false
    (c.in_ok-keep.ensures c.args.ranges.now c.loop-at.at c.loop-at.invariant.0 (slice_get-get_or _ _ _ c.loop-at-test.true)) in
    (kept.0, below_more _ _ c.loop-at.invariant.1 kept.1)

pub returns : goal.returns
returns c = λ k m.
    let within : k < length c.args.ranges.now = slice_get_within _ _ _ m.5 in
    c.loop-at.invariant.1 k (omega (arith, within, c.loop-at-test.false)) m
