use Rattle.std.proofs.Common.{is_none, sym, ap, ◌∙◌}
use Rattle.i2c_virt.specs.Virtualising.{i2c_virt_round}
use Rattle.i2c_virt.proofs.Lowest.{none_by, rest_is}
use Rattle.i2c_virt.proofs.virtualiser.I2cVirt.at_rest.Goals as goal

pub returns : goal.returns
returns c =
    let r = i2c_virt_round c.args.self.now in
    none_by c.stand.result c.is_none.result c.is_none.ensures ∙ (ap is_none (c.stand.ensures ∙ c.requires.is) ∙ sym (rest_is 0 r.posts r.needs))
