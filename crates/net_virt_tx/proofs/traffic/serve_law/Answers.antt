use Rattle.net_virt_tx.proofs.Serving.{moved_traffic, moved_stands, moved_held}
use Rattle.net_virt_tx.proofs.traffic.serve_law.Goals as goal

pub returns-clause-kept : goal.returns-clause-kept
returns-clause-kept c old new k came sent returned back h m = moved_traffic old new h k came sent returned back m

pub returns-clause-stands : goal.returns-clause-stands
returns-clause-stands c old new k came sent returned back h m = moved_stands old new h k came sent returned back m

pub returns-clause-held : goal.returns-clause-held
returns-clause-held c old new k came sent returned back h m = moved_held old new h k came sent returned back m
