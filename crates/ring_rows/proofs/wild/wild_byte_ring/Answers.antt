use Rattle.std.proofs.Common.{arith}
use Rattle.std.proofs.lemmas.Nat.{one_shl}
use Rattle.ring_rows.proofs.wild.wild_byte_ring.Goals as goal

pub open_wild-requires : goal.open_wild-requires
open_wild-requires c = (c.args.power, c.requires, one_shl c.args.power 32 (omega arith))
