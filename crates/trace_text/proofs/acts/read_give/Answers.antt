use Rattle.std.proofs.Common.{sym}
use Rattle.line_text.specs.Texts.{words_of}
use Rattle.trace_text.proofs.Acting.{give_one, give_other, give_queue, give_place, give_address, give_long, give_all}
use Rattle.trace_text.proofs.acts.read_give.Goals as goal

pub returns-in_err-queue : goal.returns-in_err-queue
returns-in_err-queue c = rw (c.from_residual.ensures, c.in_err-queue.ensures.parts) (sym (give_one c.args.class c.args.words.now))

pub returns-in_err-place : goal.returns-in_err-place
returns-in_err-place c =
    rw (c.from_residual-in_err-place.ensures, c.in_ok-queue.ensures.parts) (sym (give_other c.args.class c.in_ok-queue.queue.now (words_of c.in_ok-queue.rest.now) c.in_err-place.ensures))

pub returns-in_err-queue-2 : goal.returns-in_err-queue-2
returns-in_err-queue-2 c =
    rw (c.from_residual-in_err-queue-2.ensures, c.in_ok-queue.ensures.parts, c.in_ok-place.ensures) (sym (give_queue c.args.class c.in_ok-queue.queue.now c.in_ok-place.place.now c.in_ok-place.address.now c.in_ok-place.long.now (sym c.in_err-queue-2.ensures)))

pub returns-in_err-place-2 : goal.returns-in_err-place-2
returns-in_err-place-2 c =
    rw (c.from_residual-in_err-place-2.ensures, c.in_ok-queue.ensures.parts, c.in_ok-place.ensures) (sym (give_place c.args.class c.in_ok-queue.queue.now c.in_ok-place.place.now c.in_ok-place.address.now c.in_ok-place.long.now c.in_ok-queue-2.queue (sym c.in_ok-queue-2.ensures) (sym c.in_err-place-2.ensures)))

pub returns-in_err-address : goal.returns-in_err-address
returns-in_err-address c =
    rw (c.from_residual-in_err-address.ensures, c.in_ok-queue.ensures.parts, c.in_ok-place.ensures) (sym (give_address c.args.class c.in_ok-queue.queue.now c.in_ok-place.place.now c.in_ok-place.address.now c.in_ok-place.long.now c.in_ok-queue-2.queue c.in_ok-place-2.place (sym c.in_ok-queue-2.ensures) (sym c.in_ok-place-2.ensures) (sym c.in_err-address.ensures)))

pub returns-in_err-long : goal.returns-in_err-long
returns-in_err-long c =
    rw (c.from_residual-in_err-long.ensures, c.in_ok-queue.ensures.parts, c.in_ok-place.ensures) (sym (give_long c.args.class c.in_ok-queue.queue.now c.in_ok-place.place.now c.in_ok-place.address.now c.in_ok-place.long.now c.in_ok-queue-2.queue c.in_ok-place-2.place c.in_ok-address.address (sym c.in_ok-queue-2.ensures) (sym c.in_ok-place-2.ensures) (sym c.in_ok-address.ensures) (sym c.in_err-long.ensures)))

pub returns : goal.returns
returns c =
    rw (c.in_ok-queue.ensures.parts, c.in_ok-place.ensures) (sym (give_all c.args.class c.in_ok-queue.queue.now c.in_ok-place.place.now c.in_ok-place.address.now c.in_ok-place.long.now c.in_ok-queue-2.queue c.in_ok-place-2.place c.in_ok-address.address c.in_ok-long.long (sym c.in_ok-queue-2.ensures) (sym c.in_ok-place-2.ensures) (sym c.in_ok-address.ensures) (sym c.in_ok-long.ensures)))
