use Rattle.std.proofs.Common.{[], ◌∙◌, refl, sym, ap, subst}
use Rattle.i2c_virt.specs.I2cClient.Asking.{AreAnswered}
use Rattle.i2c_virt.proofs.i2c_client.asking.Asking.new.Goals as goal

pub returns-clause-stands : goal.returns-clause-stands
returns-clause-stands c = c.prepare.ensures.stands [] [] (record { asks = tt; sent_many = refl; replied = subst (AreAnswered c.args.pool 0 c.args.script []) (sym c.new-2.ensures) tt })
