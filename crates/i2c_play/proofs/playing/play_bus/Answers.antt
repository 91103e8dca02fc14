use Rattle.std.proofs.Common.{◌∙◌, Result, Ok, Err, IfOk, sym}
use Rattle.i2c_play.proofs.playing.play_bus.Goals as goal

-- what follows of a result from two facts of it
from_both : {V E : Type 0} (P Q R : V → Type 0) → ((v : V) → P v → Q v → R v) → (r : Result V E) → IfOk r P → IfOk r Q → IfOk r R
from_both P Q R f (Ok v) p q = f v p q
from_both P Q R f (Err e) p q = tt

pub set_up-requires : goal.set_up-requires
set_up-requires c = c.fit_law.ensures c.args.bus.now c.requires

pub returns : goal.returns
returns c = from_both _ _ _ (λ report quiet told.
    c.report_law.ensures c.args.bus.now c.args.seed c.args.limit c.in_ok-small.small c.play.new.self report
    (c.bus_limits_law.ensures c.args.bus.now c.requires) c.in_ok-small.ensures c.in_ok-quiet.ensures.played
    (λ h. c.in_ok-quiet.ensures.quiet (sym quiet ∙ h)) (λ h. c.in_ok-quiet.ensures.spent (sym quiet ∙ h)) told)
    c.report.result c.report.ensures.quiet c.report.ensures.told
