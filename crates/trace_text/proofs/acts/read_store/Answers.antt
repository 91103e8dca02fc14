use Rattle.std.proofs.Common.{sym}
use Rattle.line_text.specs.Texts.{words_of}
use Rattle.trace_text.proofs.Acting.{store_other, store_queue, store_word, store_value, store_all}
use Rattle.trace_text.proofs.acts.read_store.Goals as goal

pub returns-in_err-queue : goal.returns-in_err-queue
returns-in_err-queue c = rw c.from_residual.ensures (sym (store_other c.args.class (words_of c.args.words.now) c.in_err-queue.ensures))

pub returns-in_err-queue-2 : goal.returns-in_err-queue-2
returns-in_err-queue-2 c = rw (c.from_residual-in_err-queue-2.ensures, c.in_ok-queue.ensures) (sym (store_queue c.args.class c.in_ok-queue.queue.now c.in_ok-queue.word.now c.in_ok-queue.value.now (sym c.in_err-queue-2.ensures)))

pub returns-in_err-word : goal.returns-in_err-word
returns-in_err-word c =
    rw (c.from_residual-in_err-word.ensures, c.in_ok-queue.ensures) (sym (store_word c.args.class c.in_ok-queue.queue.now c.in_ok-queue.word.now c.in_ok-queue.value.now c.in_ok-queue-2.queue (sym c.in_ok-queue-2.ensures) (sym c.in_err-word.ensures)))

pub returns-in_err-value : goal.returns-in_err-value
returns-in_err-value c =
    rw (c.from_residual-in_err-value.ensures, c.in_ok-queue.ensures) (sym (store_value c.args.class c.in_ok-queue.queue.now c.in_ok-queue.word.now c.in_ok-queue.value.now c.in_ok-queue-2.queue c.in_ok-word.word (sym c.in_ok-queue-2.ensures) (sym c.in_ok-word.ensures) (sym c.in_err-value.ensures)))

pub returns : goal.returns
returns c =
    rw c.in_ok-queue.ensures (sym (store_all c.args.class c.in_ok-queue.queue.now c.in_ok-queue.word.now c.in_ok-queue.value.now c.in_ok-queue-2.queue c.in_ok-word.word c.in_ok-value.value (sym c.in_ok-queue-2.ensures) (sym c.in_ok-word.ensures) (sym c.in_ok-value.ensures)))
