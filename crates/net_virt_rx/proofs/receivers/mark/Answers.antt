use Rattle.std.proofs.lemmas.Option.{slice_get-get_or}
use Rattle.frame_core.specs.declared.mac.Mac.{Mac}
use Rattle.class_expect.specs.NetExpect.Expecting.{is_for_client}
use Rattle.net_virt_rx.proofs.Marking.{marked_more}
use Rattle.net_virt_rx.proofs.receivers.mark.Goals as goal

pub loop-k-preserved : goal.loop-k-preserved
loop-k-preserved c = marked_more (λ (mac : Mac). is_for_client mac c.args.frame.now) c.args.macs.now c.args.marks.now c.loop-k.marks c.loop-k.k _ c.is_for_client.result c.requires c.loop-k.invariant (slice_get-get_or c.args.macs.now c.loop-k.k _ c.loop-k-test.true) c.is_for_client.ensures
