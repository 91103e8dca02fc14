use Rattle.std.proofs.Common.{[], nat_eq}
use Rattle.sdf_model.proofs.Rows.{no-more}
use Rattle.sdf_model.proofs.rules.breaks.Goals as goal

pub returns-in-System : goal.returns-in-System
returns-in-System c = rw (c.in-System.is, no-more (nat_eq c.args.version 2) []) c.breaks_with.ensures

pub returns-in-Region : goal.returns-in-Region
returns-in-Region c = rw (c.in-Region.is, no-more (nat_eq c.args.version 2) []) c.breaks_with-in-Region.ensures

pub returns-in-Domain : goal.returns-in-Domain
returns-in-Domain c = rw (c.in-Domain.is, no-more (nat_eq c.args.version 2) []) c.breaks_with-in-Domain.ensures

pub returns-in-Map : goal.returns-in-Map
returns-in-Map c = rw (c.in-Map.is, no-more (nat_eq c.args.version 2) []) c.breaks_with-in-Map.ensures

pub returns-in-Irq : goal.returns-in-Irq
returns-in-Irq c = rw (c.in-Irq.is, no-more (nat_eq c.args.version 2) []) c.breaks_with-in-Irq.ensures

pub returns-in-Channel : goal.returns-in-Channel
returns-in-Channel c = rw (c.in-Channel.is, no-more (nat_eq c.args.version 2) []) c.breaks_with-in-Channel.ensures

pub returns-in-End : goal.returns-in-End
returns-in-End c = rw (c.in-End.is, no-more (nat_eq c.args.version 2) []) c.breaks_with-in-End.ensures

pub returns-in-Net : goal.returns-in-Net
returns-in-Net c = rw (c.in-Net.is, ← c.more.ensures) c.breaks_with-in-Net.ensures

pub returns-in-NetClient : goal.returns-in-NetClient
returns-in-NetClient c = rw (c.in-NetClient.is, ← c.more-added.ensures) c.breaks_with-in-NetClient.ensures

pub returns-in-Serial : goal.returns-in-Serial
returns-in-Serial c = rw (c.in-Serial.is, no-more (nat_eq c.args.version 2) []) c.breaks_with-in-Serial.ensures

pub returns-in-SerialClient : goal.returns-in-SerialClient
returns-in-SerialClient c = rw (c.in-SerialClient.is, no-more (nat_eq c.args.version 2) []) c.breaks_with-in-SerialClient.ensures

pub returns-in-Blk : goal.returns-in-Blk
returns-in-Blk c = rw (c.in-Blk.is, no-more (nat_eq c.args.version 2) []) c.breaks_with-in-Blk.ensures

pub returns-in-BlkClient : goal.returns-in-BlkClient
returns-in-BlkClient c = rw (c.in-BlkClient.is, no-more (nat_eq c.args.version 2) []) c.breaks_with-in-BlkClient.ensures
