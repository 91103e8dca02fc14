-- Which numbers have which jobs.
use Rattle.std.proofs.Common.{◌≡◌, ◌+◌, Some, refl, subst, arith}
use Rattle.sdf_plan.specs.declared.plan.Plan.{Plan}
use Rattle.sdf_plan.specs.declared.plan.Net.{Net}
use Rattle.sdf_plan.specs.declared.plan.Serial.{Serial}
use Rattle.sdf_plan.specs.declared.plan.Blk.{Blk}
use Rattle.layout_laws.specs.Jobs.Jobs.{NetCopier, NetClient, SerialClient, BlkClient, HasJob, post}
use Rattle.layout_laws.proofs.JobsLemmas.Owning.{net_client, eth, driver, receiver, sender, uart, uart_driver, serial_receiver, serial_sender, serial_client, disk, disk_driver, virtualiser, blk_client}
use Rattle.region_layout.specs.Rows.{actor_named}
use Rattle.layout_laws.specs.Seats.Named.{AreNetNamed, AreSerialNamed, AreBlkNamed}

pub net_named : (plan : Plan) (net : Net) → plan.net ≡ Some net → AreNetNamed plan net
net_named plan net is = record {
  device = eth plan net is;
  driver = driver plan net is;
  receiver = receiver plan net is;
  sender = sender plan net is;
  copier = λ c client at. let z : 0 + c ≡ c = omega arith in subst (λ k. HasJob plan (NetCopier k) (actor_named plan client.copier).0) z (net_client plan net is c client (post (NetCopier (0 + c)) client.copier) at (1, refl));
  client = λ c client at. let z : 0 + c ≡ c = omega arith in subst (λ k. HasJob plan (NetClient k) (actor_named plan client.pd).0) z (net_client plan net is c client (post (NetClient (0 + c)) client.pd) at (0, refl));
}

pub serial_named : (plan : Plan) (serial : Serial) → plan.serial ≡ Some serial → AreSerialNamed plan serial
serial_named plan serial is = record {
  device = uart plan serial is;
  driver = uart_driver plan serial is;
  receiver = serial_receiver plan serial is;
  sender = serial_sender plan serial is;
  client = λ c client at. let z : 0 + c ≡ c = omega arith in subst (λ k. HasJob plan (SerialClient k) (actor_named plan client.pd).0) z (serial_client plan serial is c client at);
}

pub blk_named : (plan : Plan) (blk : Blk) → plan.blk ≡ Some blk → AreBlkNamed plan blk
blk_named plan blk is = record {
  device = disk plan blk is;
  driver = disk_driver plan blk is;
  virtualiser = virtualiser plan blk is;
  client = λ c client at. let z : 0 + c ≡ c = omega arith in subst (λ k. HasJob plan (BlkClient k) (actor_named plan client.pd).0) z (blk_client plan blk is c client at);
}
