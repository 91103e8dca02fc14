use Rattle.std.proofs.Common.{◌≡◌, ℕ, List}
use denote.Ref.{Bor}
use Rattle.sdf_check.proofs.LoopLemmas.{more-map, none_left-map, not-so}
use Rattle.sdf_check.proofs.class.is_among.Goals as goal

pub loop-other-preserved : goal.loop-other-preserved
loop-other-preserved c =
    more-map (λ other. other ≡ c.args.name.now) (λ (n : Bor (List ℕ)). n.now) c.args.names.now c.loop-other.other-index _ c.loop-other-test.true
    (not-so c.is_same.result c.is_same.ensures.1 c.if-is_same.false) c.loop-other.invariant

pub returns : goal.returns
returns c = none_left-map (λ other. other ≡ c.args.name.now) (λ (n : Bor (List ℕ)). n.now) c.args.names.now c.loop-other.other-index c.loop-other-test.false c.loop-other.invariant
