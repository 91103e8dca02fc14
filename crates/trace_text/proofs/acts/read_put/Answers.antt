use Rattle.std.proofs.Common.{sym}
use Rattle.line_text.specs.Texts.{words_of}
use Rattle.trace_text.proofs.Acting.{put_other, put_queue, put_address, put_long, put_all}
use Rattle.trace_text.proofs.acts.read_put.Goals as goal

pub returns-in_err-queue : goal.returns-in_err-queue
returns-in_err-queue c = rw c.from_residual.ensures (sym (put_other c.args.class (words_of c.args.words.now) c.in_err-queue.ensures))

pub returns-in_err-queue-2 : goal.returns-in_err-queue-2
returns-in_err-queue-2 c =
    rw (c.from_residual-in_err-queue-2.ensures, c.in_ok-queue.ensures) (sym (put_queue c.args.class c.in_ok-queue.queue.now c.in_ok-queue.address.now c.in_ok-queue.long.now (sym c.in_err-queue-2.ensures)))

pub returns-in_err-address : goal.returns-in_err-address
returns-in_err-address c =
    rw (c.from_residual-in_err-address.ensures, c.in_ok-queue.ensures) (sym (put_address c.args.class c.in_ok-queue.queue.now c.in_ok-queue.address.now c.in_ok-queue.long.now c.in_ok-queue-2.queue (sym c.in_ok-queue-2.ensures) (sym c.in_err-address.ensures)))

pub returns-in_err-long : goal.returns-in_err-long
returns-in_err-long c =
    rw (c.from_residual-in_err-long.ensures, c.in_ok-queue.ensures) (sym (put_long c.args.class c.in_ok-queue.queue.now c.in_ok-queue.address.now c.in_ok-queue.long.now c.in_ok-queue-2.queue c.in_ok-address.address (sym c.in_ok-queue-2.ensures) (sym c.in_ok-address.ensures) (sym c.in_err-long.ensures)))

pub returns : goal.returns
returns c =
    rw c.in_ok-queue.ensures (sym (put_all c.args.class c.in_ok-queue.queue.now c.in_ok-queue.address.now c.in_ok-queue.long.now c.in_ok-queue-2.queue c.in_ok-address.address c.in_ok-long.long (sym c.in_ok-queue-2.ensures) (sym c.in_ok-address.ensures) (sym c.in_ok-long.ensures)))
