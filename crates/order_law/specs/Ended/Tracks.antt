-- What is kept of an ended ring, as a history tells it.
use Rattle.std.specs.Prelude.{◌≡◌, false}
use Rattle.wire_core.specs.Journal.{Track}
use Rattle.wire_core.specs.Queues.{items_of}
use Rattle.spsc_queue.specs.declared.view.Half.{Half}
use Rattle.spsc_queue.specs.Known.Ends.{EndedIs}
use Rattle.spsc_queue.specs.Rule.{flag_of, pending_of, forward_bell, backward_bell}
use Rattle.spsc_queue.specs.Steps.{steps_made}

-- what an ended ring shows of its queue: nobody looked since
abbrev pub track_of : EndedIs → Track
track_of e = record {
  sent = items_of e.producer.entries;
  taken = items_of e.consumer.entries;
  bells = record { forward = e.forward; backward = e.backward; seen = false; roomed = false };
  consumer = record { noes = e.consumer.noes; steps = steps_made e.consumer };
  producer = record { noes = e.producer.noes; steps = steps_made e.producer };
}

-- a queue's track tells what both its ends knew: the items that were put and taken, both bells by
-- what each end keeps of them and, where the ring wasn't wild, by what each did there, and their
-- noes and steps
pub record TellsEnds (p c : Half) (t : Track) : Type 0 where
  pub sent : t.sent ≡ items_of p.entries
  pub taken : t.taken ≡ items_of c.entries
  pub forward : t.bells.forward
      ≡ forward_bell t.bells.forward.flag t.bells.forward.pending p c
  pub backward : t.bells.backward
      ≡ backward_bell t.bells.backward.flag t.bells.backward.pending p c
  pub words : p.wild ≡ false
      → (t.bells.forward ≡ forward_bell (flag_of c p) (pending_of c p) p c)
      × (t.bells.backward ≡ backward_bell (flag_of p c) (pending_of p c) p c)
  pub producer : t.producer ≡ record { noes = p.noes; steps = steps_made p }
  pub consumer : t.consumer ≡ record { noes = c.noes; steps = steps_made c }
