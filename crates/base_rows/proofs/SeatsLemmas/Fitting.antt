-- A new driver fits the ends of new rings.
use Rattle.std.proofs.Common.{◌≡◌, ◌∙◌, ℕ, List, slice_get, refl, sym, ap, subst, Some}
use Rattle.cargo_core.specs.declared.item.QueueKind.TheVariants as Kind
use Rattle.wire_core.specs.declared.names.QueueId.{QueueId}
use Rattle.wire_core.specs.declared.names.Side.TheVariants.{Forward, Backward}
use Rattle.wire_core.specs.Ends.{End, Consumer, Producer}
use Rattle.turn_kit.specs.Table.{Agrees, start_state}
use Rattle.turn_kit.specs.declared.end_state.EndState.{EndState}
use Rattle.turn_kit.specs.Pipes.{FitsPipe, IsNewPipe}
use Rattle.turn_kit.specs.declared.pipe.Pipe.{Pipe}
use Rattle.uart_driver.specs.declared.UartDriver.{UartDriver}
use Rattle.pipe_driver.specs.Drivers.{FitsPipes}
use Rattle.pipe_driver.specs.Lengths.{two_pipes}
use Rattle.spsc_queue.specs.Rule.{first_producer, first_consumer}
use Rattle.spsc_queue.specs.Known.Ends.{EndIs, RingIs}
use Rattle.spsc_queue.specs.declared.view.Half.{Half}
use Rattle.base_rows.specs.Seats.Starting.{StartsOn}
use Rattle.spsc_queue.specs.Steps.{known_end}
use Rattle.seat_wires.specs.Places.{stands_at, end_known, seat_end}
use Rattle.seat_wires.specs.Places.Are.{SeatsAre}

input_agrees : (e : End) (k : EndState) → e ≡ known_end (first_consumer Kind.Byte) → k ≡ start_state Forward → Agrees e k
input_agrees e k a b = subst (λ (z : End × EndState). Agrees z.0 z.1) (λ i. (sym a i, sym b i)) record { owned = refl; waiter = refl; ringer = refl; looked = λ x. cc }

output_agrees : (e : End) (k : EndState) → e ≡ known_end (first_producer Kind.Byte) → k ≡ start_state Backward → Agrees e k
output_agrees e k a b = subst (λ (z : End × EndState). Agrees z.0 z.1) (λ i. (sym a i, sym b i)) record { owned = refl; waiter = refl; ringer = refl; looked = λ x. cc }

module _ (s : SeatsAre) (from to : QueueId) (p : Pipe) (c q : EndIs) (new : IsNewPipe from to p) (in_there : stands_at s.consumers from.0 ≡ Some c) (out_there : stands_at s.producers to.0 ≡ Some q)
    (in_knows : c.knows ≡ first_consumer Kind.Byte) (out_knows : q.knows ≡ first_producer Kind.Byte) where
  in_end : seat_end s Consumer p.input.queue.0 ≡ known_end (first_consumer Kind.Byte)
  in_end = ap (λ (z : QueueId). seat_end s Consumer z.0) new.input ∙ (ap end_known in_there ∙ ap known_end in_knows)

  out_end : seat_end s Producer p.output.queue.0 ≡ known_end (first_producer Kind.Byte)
  out_end = ap (λ (z : QueueId). seat_end s Producer z.0) new.output ∙ (ap end_known out_there ∙ ap known_end out_knows)

  pub fits_pipe : FitsPipe (seat_end s) p
  fits_pipe = record {
    input = input_agrees _ _ in_end new.input_state;
    output = output_agrees _ _ out_end new.output_state;
    kinds = ap (λ (z : End). z.kind) in_end ∙ sym (ap (λ (z : End). z.kind) out_end);
    load = rw new.load (λ x h. cc);
  }

-- both pipes fit, and no two of the ends are of one queue
pub fits_driver : (s : SeatsAre) (d : UartDriver) (q0 q1 q2 q3 : QueueId)
    → IsNewPipe q0 q1 d.driver.pipes.first → IsNewPipe q2 q3 d.driver.pipes.rest
    → (q0.0 ≡ q2.0 → ⊥) → (q1.0 ≡ q3.0 → ⊥)
    → FitsPipe (seat_end s) d.driver.pipes.first → FitsPipe (seat_end s) d.driver.pipes.rest
    → FitsPipes (seat_end s) (two_pipes d.driver.pipes)
fits_driver s d q0 q1 q2 q3 rx tx inputs outputs fits_rx fits_tx = record {
  each = (fits_rx, (fits_tx, tt));
  inputs = ((λ e. inputs (ap (λ (q : QueueId). q.0) (sym rx.input) ∙ (e ∙ ap (λ (q : QueueId). q.0) tx.input)), tt), (tt, tt));
  outputs = ((λ e. outputs (ap (λ (q : QueueId). q.0) (sym rx.output) ∙ (e ∙ ap (λ (q : QueueId). q.0) tx.output)), tt), (tt, tt));
}

-- a new driver fits the four ends as new rings give them
pub fits_new_driver : (s : SeatsAre) (d : UartDriver) (dr t : EndIs) (r dt : EndIs) (q0 q1 q2 q3 : QueueId)
    → q0 ≡ record { 0 = 0 } → q1 ≡ record { 0 = 1 } → q2 ≡ record { 0 = 2 } → q3 ≡ record { 0 = 3 }
    → IsNewPipe q0 q1 d.driver.pipes.first → IsNewPipe q2 q3 d.driver.pipes.rest
    → stands_at s.consumers 0 ≡ Some dr → stands_at s.producers 1 ≡ Some r
    → stands_at s.consumers 2 ≡ Some t → stands_at s.producers 3 ≡ Some dt
    → dr.knows ≡ first_consumer Kind.Byte → r.knows ≡ first_producer Kind.Byte
    → t.knows ≡ first_consumer Kind.Byte → dt.knows ≡ first_producer Kind.Byte
    → FitsPipes (seat_end s) (two_pipes d.driver.pipes)
fits_new_driver s d dr t r dt q0 q1 q2 q3 e0 e1 e2 e3 rx tx at0 at1 at2 at3 k0 k1 k2 k3 =
    fits_driver s d (record { 0 = 0 }) (record { 0 = 1 }) (record { 0 = 2 }) (record { 0 = 3 }) first rest (λ e. cc) (λ e. cc)
    (fits_pipe s (record { 0 = 0 }) (record { 0 = 1 }) d.driver.pipes.first dr r first at0 at1 k0 k1)
    (fits_pipe s (record { 0 = 2 }) (record { 0 = 3 }) d.driver.pipes.rest t dt rest at2 at3 k2 k3)
  where
    first : IsNewPipe (record { 0 = 0 }) (record { 0 = 1 }) d.driver.pipes.first
    first = subst (λ (z : QueueId × QueueId). IsNewPipe z.0 z.1 d.driver.pipes.first) (λ i. (e0 i, e1 i)) rx

    rest : IsNewPipe (record { 0 = 2 }) (record { 0 = 3 }) d.driver.pipes.rest
    rest = subst (λ (z : QueueId × QueueId). IsNewPipe z.0 z.1 d.driver.pipes.rest) (λ i. (e2 i, e3 i)) tx

-- the end of a new ring at its place starts on it
pub starts_on : (rings items : List RingIs) (k : ℕ) (ring : RingIs) (half : Half) (e : EndIs)
    → rings ≡ items → slice_get items k ≡ Some ring
    → e ≡ record { ring = ring.id; knows = half } → StartsOn rings k half e
starts_on rings items k ring half e same there is = record {
  ring = ring;
  there = ap (λ rs. slice_get rs k) same ∙ there;
  on = ap (λ (z : EndIs). z.ring) is;
  knows = ap (λ (z : EndIs). z.knows) is;
}
