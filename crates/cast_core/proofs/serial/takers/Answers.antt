use Rattle.std.proofs.Common.{refl, sym, ap, ◌∙◌, arith}
use Rattle.sdf_plan.specs.declared.plan.SerialClient.{SerialClient}
use Rattle.cast_core.specs.Sources.{is_dropping}
use Rattle.cast_core.proofs.SerialStarts.{takers_more}
use Rattle.cast_core.proofs.serial.takers.Goals as goal

pub loop-k-preserved : goal.loop-k-preserved
loop-k-preserved c =
    let was = c.loop-k.invariant in
    takers_more c.args.first c.loop-k.k c.args.clients.now c.loop-k.takers.items c.push.new.self.items _ c.index-clients-k.result (omega (arith, c.loop-k-test.true, c.requires.clients)) c.index-clients-k.is c.in_ok-push.ensures.items refl
    (c.is_dropping-drops.ensures ∙ ap (λ (x : SerialClient). is_dropping x.policy) (sym c.index-clients-k.is)) was.0 was.1
