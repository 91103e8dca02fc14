use Rattle.std.proofs.Common.{length, refl, ◌∙◌, ap, arith}
use Rattle.std.proofs.lemmas.Option.{slice_get_read}
use Rattle.i2c_virt.specs.I2cKit.Grants.{is_owner}
use Rattle.i2c_virt.proofs.I2cKit.Replying.{granted_more, granted_all}
use Rattle.i2c_virt.proofs.i2c_kit.alone.granted_to.Goals as goal

pub loop-request-preserved : goal.loop-request-preserved
loop-request-preserved c =
    let at = slice_get_read c.args.taken.now (length c.args.taken.now) c.loop-request.request-index c.request-item.result refl c.loop-request-test.true c.request-item.is in
    granted_more c.args.taken.now c.args.client c.loop-request.request-index c.address_of-address.result c.request-item.result c.is_owner-owned.result c.loop-request.granted _ at c.address_of-address.ensures (c.is_owner-owned.ensures ∙ ap (λ o. is_owner o c.args.client) c.owner_after.ensures) c.loop-request.invariant c.in_ok-push_if.ensures

pub returns : goal.returns
returns c = granted_all c.args.taken.now c.args.client c.loop-request.request-index c.loop-request.granted c.loop-request-test.false c.loop-request.invariant
