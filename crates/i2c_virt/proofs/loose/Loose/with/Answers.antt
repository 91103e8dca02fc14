use Rattle.std.proofs.Common.{◌%◌, w64, arith}
use Rattle.std.proofs.lemmas.Nat.Bits.{bit_at_set_same, bit_at_set_other}
use Rattle.i2c_virt.proofs.Loosening.{with_bit}
use Rattle.i2c_virt.proofs.loose.Loose.with.Goals as goal

pub returns-clause-one : goal.returns-clause-one
returns-clause-one c = bit_at_set_same w64 c.args.self.bits (c.args.place % 64) (omega arith)

pub returns-clause-others : goal.returns-clause-others
returns-clause-others c = λ k off. bit_at_set_other w64 c.args.self.bits (c.args.place % 64) (omega arith) k off

pub returns-clause-clear : goal.returns-clause-clear
returns-clause-clear c = λ k lt clear. (with_bit c.args.self.bits (c.args.place % 64) k (omega arith) clear).0

pub returns-clause-set : goal.returns-clause-set
returns-clause-set c = λ k lt clear is. (with_bit c.args.self.bits (c.args.place % 64) k (omega arith) clear).1 (omega (arith, lt, is))
