use Rattle.std.proofs.Common.{◌∙◌, ap, is_none}
use Rattle.turn_kit.specs.Table.{is_settled}
use Rattle.i2c_virt.specs.Works.{is_owing, wants_at, gives_at}
use Rattle.i2c_virt.proofs.Lowest.{all_looked, none_by}
use Rattle.i2c_virt.proofs.virtualiser.I2cVirt.unsettled.Goals as goal

pub returns : goal.returns
returns c =
    let v = c.args.self.now in
    all_looked v.ends (is_none v.work.stray) (is_owing v.work) c.settled-input.result c.is_driver_served-output.result (wants_at v.work) (gives_at v.work) c.len.result _ _ _ _ _ c.len.ensures.len (c.settled-input.ensures ∙ ap (is_settled v.ends.input.state) (none_by v.work.stray c.is_none.result c.is_none.ensures)) c.is_driver_served-output.ensures c.none.ensures c.unless_settled.ensures c.unless_settled-lowest.ensures c.unsettled-lowest.ensures c.unsettled.ensures
