use Rattle.class_expect.specs.SerialSwitch.Switching.{input_of}
use Rattle.class_expect.specs.NetExpect.Expecting.{frames_for}
use Rattle.class_expect.specs.BlkExpect.Replies.{replies_of}
use Rattle.expect_core.proofs.Isolating.{two_of, replies_agree}
use Rattle.expect_core.proofs.isolation.isolation_law.Goals as goal

pub returns-clause-net : goal.returns-clause-net
returns-clause-net c mac frames others quiet still got seen same p q = two_of (frames_for mac frames) (frames_for mac others) quiet got still seen same p q

pub returns-clause-serial : goal.returns-clause-serial
returns-clause-serial c clients client input other quiet still got seen same p q = two_of (input_of clients client input) (input_of clients client other) quiet got still seen same p q

pub returns-clause-blk : goal.returns-clause-blk
returns-clause-blk c image other entry place asks quiet still got seen a p q = two_of (replies_of image entry asks) (replies_of other place asks) quiet got still seen (replies_agree image other entry place asks a) p q
