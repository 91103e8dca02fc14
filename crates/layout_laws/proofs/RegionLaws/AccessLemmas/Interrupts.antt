use Rattle.std.proofs.Common.{inr}
use Rattle.sdf_plan.specs.declared.plan.Plan.{Plan}
use Rattle.sdf_check.specs.Valid.{Valid}
use Rattle.layout_laws.specs.RegionLaws.Access.Access.{AreInterrupted}
use Rattle.layout_laws.proofs.RegionLaws.AccessLemmas.Words.{interrupted}
use Rattle.layout_laws.proofs.RegionLaws.AccessLemmas.Kept.{interrupt-kept, net-channels, serial-channels, blk-channels}

-- the driver of each class of a valid plan
pub drivers_interrupted : (plan : Plan) → Valid plan → AreInterrupted plan
drivers_interrupted plan valid = record {
  net = λ net is. interrupted plan net.driver (interrupt-kept plan net.driver (λ no. net-channels plan valid net is (inr no)));
  serial = λ serial is. interrupted plan serial.driver (interrupt-kept plan serial.driver (λ no. serial-channels plan valid serial is (inr no)));
  blk = λ blk is. interrupted plan blk.driver (interrupt-kept plan blk.driver (λ no. blk-channels plan valid blk is (inr no)));
}
