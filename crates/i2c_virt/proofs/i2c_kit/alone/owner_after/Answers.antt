use Rattle.std.proofs.Common.{length, refl, sym, ◌∙◌, arith}
use Rattle.std.proofs.lemmas.Option.{slice_get_read}
use Rattle.i2c_virt.proofs.I2cKit.Replying.{owner_here, owner_next, owner_none}
use Rattle.i2c_virt.proofs.i2c_kit.alone.owner_after.Goals as goal

pub returns-then-claims : goal.returns-then-claims
returns-then-claims c =
    let at = slice_get_read c.args.taken.now (length c.args.taken.now) c.loop-request.request-index c.request-item.result refl c.loop-request-test.true c.request-item.is in
    sym (owner_here c.args.taken.now c.loop-request.request-index c.request-item.result c.args.address at (sym c.claims.ensures ∙ c.if-claims.true)) ∙ c.loop-request.invariant

pub loop-request-preserved : goal.loop-request-preserved
loop-request-preserved c =
    let at = slice_get_read c.args.taken.now (length c.args.taken.now) c.loop-request.request-index c.request-item.result refl c.loop-request-test.true c.request-item.is in
    sym (owner_next c.args.taken.now c.loop-request.request-index c.request-item.result c.args.address at (sym c.claims.ensures ∙ c.if-claims.false)) ∙ c.loop-request.invariant

pub returns : goal.returns
returns c = sym (owner_none c.args.taken.now c.loop-request.request-index c.args.address c.loop-request-test.false) ∙ c.loop-request.invariant
