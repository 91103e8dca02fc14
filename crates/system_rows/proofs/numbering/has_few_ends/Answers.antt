use Rattle.std.proofs.Common.{◌<◌, ◌^◌, length, subst, arith, All}
use Rattle.std.proofs.lemmas.List.{take_all}
use Rattle.std.proofs.lemmas.List.Elements.{All-more}
use Rattle.sdf_plan.specs.declared.plan.Channel.{Channel}
use Rattle.system_rows.proofs.numbering.has_few_ends.Goals as goal

abbrev IsFew : Channel → Type 0
IsFew x = length x.end < 2 ^ 32

pub loop-channel-preserved : goal.loop-channel-preserved
loop-channel-preserved c =
    let is = c.len.ensures in
    let few = c.if-len-gt-MOST.false in
    All-more IsFew c.args.channels.now c.loop-channel.channel-index c.channel-item.result c.loop-channel-test.true c.loop-channel.invariant (subst IsFew c.channel-item.is (omega (arith, is, few)))

pub returns : goal.returns
returns c same = subst (All IsFew) (take_all c.loop-channel.channel-index c.args.channels.now c.loop-channel-test.false) c.loop-channel.invariant
