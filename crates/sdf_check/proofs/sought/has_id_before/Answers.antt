use Rattle.std.proofs.Common.{◌≡◌, ◌<◌, length, false, true, arith, below_more}
use Rattle.sdf_check.proofs.SoughtLemmas.{id-not-at, id-within}
use Rattle.sdf_check.proofs.sought.has_id_before.Goals as goal

pub loop-at-preserved : goal.loop-at-preserved
loop-at-preserved c = below_more _ _ c.loop-at.invariant (id-not-at c.args.irqs.now c.loop-at.at c.args.id c.get.result.now c.get.ensures c.if-get-id.false)

pub returns : goal.returns
returns c = (
  λ h. let no : false ≡ true = h in cc,
  λ s.
      let within : s.0 < length c.args.irqs.now = id-within c.args.irqs.now s.0 c.args.id s.2 in
      absurd (c.loop-at.invariant s.0 (omega (arith, within, s.1, c.loop-at-test.false, c.min-at-end.ensures, c.len.ensures)) s.2),
)
