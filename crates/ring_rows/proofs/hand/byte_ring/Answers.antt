use Rattle.std.proofs.Common.{arith}
use Rattle.std.proofs.lemmas.Nat.{one_shl}
use Rattle.ring_rows.proofs.hand.byte_ring.Goals as goal

pub open-requires : goal.open-requires
open-requires c = (c.args.power, c.requires, one_shl c.args.power 32 (omega arith))
