use Rattle.std.proofs.Common.{◌≡◌, ◌<◌, length, false, true, arith, below_more}
use Rattle.sdf_plan.specs.declared.plan.BlkClient.{BlkClient}
use Rattle.sdf_check.proofs.ValueLemmas.{value-not-at, value-within}
use Rattle.sdf_check.proofs.class_ids.partition_stands_before.Goals as goal

pub loop-at-preserved : goal.loop-at-preserved
loop-at-preserved c =
    below_more _ _ c.loop-at.invariant (value-not-at (λ (other : BlkClient). other.partition) c.args.clients.now c.loop-at.at c.args.partition c.get.result.now c.get.ensures (c.if-get-partition.false))

pub returns : goal.returns
returns c = (
  λ h. let no : false ≡ true = h in cc,
  λ s.
      let within : s.0 < length c.args.clients.now = value-within (λ (other : BlkClient). other.partition) c.args.clients.now s.0 c.args.partition s.2 in
      absurd (c.loop-at.invariant s.0 (omega (arith, within, s.1, c.loop-at-test.false, c.min-at-end.ensures, c.len.ensures)) s.2),
)
