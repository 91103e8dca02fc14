-- A source: what it must fit, what it stands for, and the turn that it is at.
use Rattle.std.specs.Prelude.{◌≡◌, ◌≤◌, ℕ, nat_lt, List, [], ◌∷◌, length, map, take}
use Rattle.cargo_core.specs.declared.item.QueueKind.TheVariants as Kind
use Rattle.wire_core.specs.declared.names.QueueId.{QueueId}
use Rattle.wire_core.specs.declared.names.Side.TheVariants.{Backward}
use Rattle.wire_core.specs.Lists.{Passed}
use Rattle.wire_core.specs.Ends.{Role, Producer, End}
use Rattle.turn_kit.specs.Table.{Agrees, start_state}
use Rattle.turn_kit.specs.Turns.{Round}
use Rattle.turn_kit.specs.Posts.{outlet_post}
use Rattle.class_expect.specs.SerialSwitch.Carried.{byte_cargo}
use Rattle.library_examples.specs.declared.class_example.source.Source.{Source}

-- its end is its own, and as it keeps it, at a queue of bytes
pub record FitsSource (ends : Role → ℕ → End) (s : Source) : Type 0 where
  pub output : Agrees (ends Producer s.output.queue.0) s.output.state
  pub says : (ends Producer s.output.queue.0).kind ≡ Kind.Byte
  pub next : s.next ≤ length s.script

-- it put its script as far as it has come
pub record SourceStandsFor (s : Source) (passed : Passed) : Type 0 where
  pub sent_is : passed.sent s.output.queue.0 ≡ map byte_cargo (take s.next s.script)

-- its one end, at which it owes a byte while one of the script is left
abbrev pub source_round : Source → Round
source_round s = record {
  posts = outlet_post s.output ∷ [];
  needs = nat_lt s.next (length s.script) ∷ [];
  last = s.turn.last;
}

-- its queue and its script stay
pub record SameSource (old new : Source) : Type 0 where
  pub output : new.output.queue ≡ old.output.queue
  pub script : new.script ≡ old.script

-- a source at its start
pub record IsNewSource (to : QueueId) (script : List ℕ) (s : Source) : Type 0 where
  pub output : s.output.queue ≡ to
  pub state : s.output.state ≡ start_state Backward
  pub script_is : s.script ≡ script
  pub next : s.next ≡ 0
