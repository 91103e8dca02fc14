use Rattle.std.proofs.Common.{◌≡◌, ◌<◌, length, false, true, arith, below_more, Some}
use Rattle.frame_core.specs.Macs.{mac_of}
use Rattle.sdf_plan.specs.declared.plan.NetClient.{NetClient}
use Rattle.sdf_check.proofs.ValueLemmas.{value-not-at, value-within}
use Rattle.sdf_check.proofs.LoopLemmas.{not-so}
use Rattle.sdf_check.proofs.class_ids.mac_stands_before.Goals as goal

pub loop-at-preserved : goal.loop-at-preserved
loop-at-preserved c =
    below_more _ _ c.loop-at.invariant (value-not-at (λ (other : NetClient). mac_of other.mac) c.args.clients.now c.loop-at.at (Some c.args.mac) c.get.result.now c.get.ensures (λ e. not-so c.has_mac.result c.has_mac.ensures.1 c.if-has_mac.false e))

pub returns : goal.returns
returns c = (
  λ h. let no : false ≡ true = h in cc,
  λ s.
      let within : s.0 < length c.args.clients.now = value-within (λ (other : NetClient). mac_of other.mac) c.args.clients.now s.0 (Some c.args.mac) s.2 in
      absurd (c.loop-at.invariant s.0 (omega (arith, within, s.1, c.loop-at-test.false, c.min-at-end.ensures, c.len.ensures)) s.2),
)
