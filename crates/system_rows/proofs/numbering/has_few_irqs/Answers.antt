use Rattle.std.proofs.Common.{◌<◌, ◌^◌, length, subst, arith, All}
use Rattle.std.proofs.lemmas.List.{take_all}
use Rattle.std.proofs.lemmas.List.Elements.{All-more}
use Rattle.sdf_plan.specs.declared.plan.Domain.{Domain}
use Rattle.system_rows.proofs.numbering.has_few_irqs.Goals as goal

abbrev IsFew : Domain → Type 0
IsFew x = length x.irq < 2 ^ 32

pub loop-domain-preserved : goal.loop-domain-preserved
loop-domain-preserved c =
    let is = c.len.ensures in
    let few = c.if-len-gt-MOST.false in
    All-more IsFew c.args.domains.now c.loop-domain.domain-index c.domain-item.result c.loop-domain-test.true c.loop-domain.invariant (subst IsFew c.domain-item.is (omega (arith, is, few)))

pub returns : goal.returns
returns c same = subst (All IsFew) (take_all c.loop-domain.domain-index c.args.domains.now c.loop-domain-test.false) c.loop-domain.invariant
