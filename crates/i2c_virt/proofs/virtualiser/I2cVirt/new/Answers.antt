use Rattle.std.proofs.Common.{length, refl}
use Rattle.i2c_virt.proofs.Starting.{new_work, new_stands}
use Rattle.i2c_virt.proofs.Lowest.{few_new_from, few_new_to}
use Rattle.i2c_virt.proofs.virtualiser.I2cVirt.new.Goals as goal

pub returns-clause-work : goal.returns-clause-work
returns-clause-work c = new_work _ (length c.args.reqs.now) c.in_ok-new_desks.ensures c.in_ok-new.ensures c.requires.few

pub returns-clause-stands : goal.returns-clause-stands
returns-clause-stands c = new_stands _ (length c.args.reqs.now) c.in_ok-new_desks.ensures c.in_ok-new.ensures c.requires.few _ _ _ _ refl

pub unsettled-virt-requires-clause-from_clients : goal.unsettled-virt-requires-clause-from_clients
unsettled-virt-requires-clause-from_clients c = few_new_from _ _ _ _ _ c.in_ok-ends.ensures c.requires.few

pub unsettled-virt-requires-clause-to_clients : goal.unsettled-virt-requires-clause-to_clients
unsettled-virt-requires-clause-to_clients c = few_new_to _ _ _ _ _ c.in_ok-ends.ensures c.requires.answered
