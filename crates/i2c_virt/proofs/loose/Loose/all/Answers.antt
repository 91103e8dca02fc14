use Rattle.std.proofs.lemmas.Nat.Bits.{bit_at_ones}
use Rattle.i2c_virt.proofs.loose.Loose.all.Goals as goal

pub returns : goal.returns
returns c = bit_at_ones 64
