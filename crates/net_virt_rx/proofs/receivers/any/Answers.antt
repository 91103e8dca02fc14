use Rattle.std.proofs.Common.{◌≡◌, false, nat_lt, slice_index_or, lt-ltb, sym, ap, ◌∙◌, arith}
use Rattle.wire_core.specs.Bells.{bit}
use Rattle.net_virt_rx.proofs.Marking.{counted_more}
use Rattle.net_virt_rx.proofs.receivers.any.Goals as goal
use Rattle.net_virt_rx.proofs.receivers.any.Goals.{then-mark, else-mark}

pub loop-mark-preserved : goal.loop-mark-preserved
loop-mark-preserved c =
    let e = counted_more c.args.marks.now c.loop-mark.mark-index false c.loop-mark-test.true in
    elim c.if-mark.branch [
      | then-mark w ↦ (let t : bit (slice_index_or c.args.marks.now c.loop-mark.mark-index false) ≡ 1 = ap bit w.if-mark.true in w.some-is ∙ sym (lt-ltb 0 _ (omega (arith, e, t))))
      | else-mark w ↦ (let t : bit (slice_index_or c.args.marks.now c.loop-mark.mark-index false) ≡ 0 = ap bit w.if-mark.false in w.some-is ∙ (c.loop-mark.invariant ∙ ap (nat_lt 0) (omega (arith, e, t))))
    ]
