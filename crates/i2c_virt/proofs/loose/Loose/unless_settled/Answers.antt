use Rattle.i2c_virt.proofs.Loosening.{without_bit, bit_off, bits_beside}
use Rattle.i2c_virt.proofs.loose.Loose.unless_settled.Goals as goal

pub returns-clause-less : goal.returns-clause-less
returns-clause-less c = λ k lt clear off. without_bit c.args.self.bits c.args.place k c.args.settled c.requires lt c.if-not-settled.false clear off

pub returns-clause-none : goal.returns-clause-none
returns-clause-none c = λ settled. bit_off c.args.self.bits c.args.place c.requires

pub returns-clause-others : goal.returns-clause-others
returns-clause-others c = λ k lt off. bits_beside c.args.self.bits c.args.place k c.args.settled c.requires lt c.if-not-settled.false off
