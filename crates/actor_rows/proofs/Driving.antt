use Rattle.std.proofs.Common.{◌≡◌, ◌<◌, ℕ, List, [], ◌∷◌, length, length-set, refl, sym, ap, ◌∙◌, subst, arith}
use Rattle.std.specs.Option.{ForSome}
use Rattle.cargo_core.specs.Items.{kind_of}
use Rattle.wire_core.specs.declared.names.QueueId.{QueueId}
use Rattle.wire_core.specs.declared.names.Event.{Event}
use Rattle.wire_core.specs.Ends.{Role, Consumer, Producer}
use Rattle.wire_core.specs.Lists.{Stepped}
use Rattle.wire_core.specs.Queues.{Queue, Happens, end_at}
use Rattle.wire_core.proofs.Moving.{moves}
use Rattle.turn_kit.specs.Table.{Agrees}
use Rattle.turn_kit.specs.Pipes.{FitsPipe, IsNewPipe}
use Rattle.turn_kit.specs.declared.pipe.Pipe.{Pipe}
use Rattle.pipe_driver.specs.Drivers.{FitsPipes, PipesStandFor, inputs_of, outputs_of}
use Rattle.pipe_driver.specs.Lengths.{two_pipes}
use Rattle.uart_driver.specs.declared.UartDriver.{UartDriver}
use Rattle.base_rows.specs.Hands.{OnlyAt, AreByteQueues}
use Rattle.actor_rows.specs.Standings.{DriverStands, queue}

both : {a b m n : ℕ} → a ≡ m → b ≡ n → (a ∷ b ∷ []) ≡ (m ∷ n ∷ [])
both e f = cc

first_is : {a b m n : ℕ} → (a ∷ b ∷ []) ≡ (m ∷ n ∷ []) → a ≡ m
first_is e = cc

second_is : {a b m n : ℕ} → (a ∷ b ∷ []) ≡ (m ∷ n ∷ []) → b ≡ n
second_is e = cc

-- a pipe in its start state fits queues in their start state
new_pipe : (w : List Queue) (count : ℕ) (p : Pipe) (from to : ℕ) → AreByteQueues count w → from < count → to < count → IsNewPipe (queue from) (queue to) p → FitsPipe (end_at w) p
new_pipe w count p from to b f t new = record {
  input = rw (new.input, new.input_state, b.start Consumer from f) (record { owned = refl; waiter = refl; ringer = refl; looked = λ h. cc });
  output = rw (new.output, new.output_state, b.start Producer to t) (record { owned = refl; waiter = refl; ringer = refl; looked = λ h. cc });
  kinds = rw (new.input, new.output) (ap (λ e. e.kind) (b.start Consumer from f) ∙ sym (ap (λ e. e.kind) (b.start Producer to t)));
  load = rw new.load (λ x h. cc);
}

pub new_driver : (w : List Queue) (d : UartDriver) → AreByteQueues 4 w → IsNewPipe (queue 0) (queue 2) d.driver.pipes.first → IsNewPipe (queue 3) (queue 1) d.driver.pipes.rest → DriverStands w d
new_driver w d b rx tx =
    let rx_input : d.driver.pipes.first.input.queue.0 ≡ 0 = ap (λ (q : QueueId). q.0) rx.input in
    let tx_input : d.driver.pipes.rest.input.queue.0 ≡ 3 = ap (λ (q : QueueId). q.0) tx.input in
    let rx_output : d.driver.pipes.first.output.queue.0 ≡ 2 = ap (λ (q : QueueId). q.0) rx.output in
    let tx_output : d.driver.pipes.rest.output.queue.0 ≡ 1 = ap (λ (q : QueueId). q.0) tx.output in
    record {
      fits = record {
        each = (new_pipe w 4 d.driver.pipes.first 0 2 b (omega arith) (omega arith) rx, (new_pipe w 4 d.driver.pipes.rest 3 1 b (omega arith) (omega arith) tx, tt));
        inputs = ((λ h. omega (arith, h, rx_input, tx_input), tt), (tt, tt));
        outputs = ((λ h. omega (arith, h, rx_output, tx_output), tt), (tt, tt));
      };
      long = b.long;
      kind = ap (λ e. e.kind) (b.start Producer 0 (omega arith));
      inputs = both rx_input tx_input;
      outputs = both rx_output tx_output;
    }

-- what the hand does at an end that isn't the pipe's leaves it
pipe_beside : (w u : List Queue) (p : Pipe) (role : Role) (place : ℕ) → OnlyAt role place w u → (Consumer ≡ role → p.input.queue.0 ≡ place → ⊥) → (Producer ≡ role → p.output.queue.0 ≡ place → ⊥) → FitsPipe (end_at w) p → FitsPipe (end_at u) p
pipe_beside w u p role place only i o f =
    let input = only.rest Consumer p.input.queue.0 i in
    let output = only.rest Producer p.output.queue.0 o in
    record {
      input = subst (λ e. Agrees e p.input.state) (sym input) f.input;
      output = subst (λ e. Agrees e p.output.state) (sym output) f.output;
      kinds = only.kinds Consumer p.input.queue.0 ∙ (f.kinds ∙ sym (only.kinds Producer p.output.queue.0));
      load = subst (λ e. ForSome p.load (λ c. kind_of c.0 ≡ e.kind)) (sym output) f.load;
    }

still : (w u : List Queue) (d : UartDriver) (role : Role) (place : ℕ) → OnlyAt role place w u → DriverStands w d → FitsPipes (end_at u) (two_pipes d.driver.pipes) → DriverStands u d
still w u d role place only s fits = record {
  fits = fits;
  long = only.long ∙ s.long;
  kind = only.kinds Producer 0 ∙ s.kind;
  inputs = s.inputs;
  outputs = s.outputs;
}

-- queue 0 is filled by hand, and queue 2 is emptied
pub after_feed : (w u : List Queue) (d : UartDriver) → DriverStands w d → OnlyAt Producer 0 w u → DriverStands u d
after_feed w u d s only = still w u d Producer 0 only s (record {
  each = (
    pipe_beside w u d.driver.pipes.first Producer 0 only (λ r. cc) (λ r h. let x = first_is s.outputs in omega (arith, h, x)) s.fits.each.0,
    (pipe_beside w u d.driver.pipes.rest Producer 0 only (λ r. cc) (λ r h. let x = second_is s.outputs in omega (arith, h, x)) s.fits.each.1.0, tt),
  );
  inputs = s.fits.inputs;
  outputs = s.fits.outputs;
})

pub after_drain : (w u : List Queue) (d : UartDriver) → DriverStands w d → OnlyAt Consumer 2 w u → DriverStands u d
after_drain w u d s only = still w u d Consumer 2 only s (record {
  each = (
    pipe_beside w u d.driver.pipes.first Consumer 2 only (λ r h. let x = first_is s.inputs in omega (arith, h, x)) (λ r. cc) s.fits.each.0,
    (pipe_beside w u d.driver.pipes.rest Consumer 2 only (λ r h. let x = second_is s.inputs in omega (arith, h, x)) (λ r. cc) s.fits.each.1.0, tt),
  );
  inputs = s.fits.inputs;
  outputs = s.fits.outputs;
})

-- a step of the driver
pub after_turn : (w u : List Queue) (d d' : UartDriver) (e : Event) → DriverStands w d → FitsPipes (end_at u) (two_pipes d'.driver.pipes) → Stepped PipesStandFor (λ old x new. Happens old x new) w u (two_pipes d.driver.pipes) (two_pipes d'.driver.pipes) e → inputs_of (two_pipes d'.driver.pipes) ≡ inputs_of (two_pipes d.driver.pipes) → outputs_of (two_pipes d'.driver.pipes) ≡ outputs_of (two_pipes d.driver.pipes) → DriverStands u d'
after_turn w u d d' e s fits st ins outs = record {
  fits = fits;
  long = ap length st.happened.after_is ∙ (length-set w e.queue.0 _ ∙ s.long);
  kind = (moves w _ u st.happened).kinds Producer 0 ∙ s.kind;
  inputs = ins ∙ s.inputs;
  outputs = outs ∙ s.outputs;
}
