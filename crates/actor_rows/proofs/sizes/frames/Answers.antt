use Rattle.std.proofs.Common.{◌<◌, ◌^◌, length, arith}
use Rattle.std.proofs.lemmas.List.Elements.{All-push, All-same}
use Rattle.actor_rows.proofs.sizes.frames.Goals as goal

pub loop-frame-preserved : goal.loop-frame-preserved
loop-frame-preserved c = All-same (λ frame. length frame < 2 ^ 16) _ _ c.in_ok-push.ensures.ok (All-push (λ frame. length frame < 2 ^ 16) _ _ c.loop-frame.invariant (let long = c.longest.ensures in omega (arith, long)))
