-- A terminal: what it must fit, what it stands for, and its row.
use Rattle.std.specs.Prelude.{◌≡◌, ◌≤◌, ℕ, true, None, nat_lt, List, [], ◌∷◌, length, map, take}
use Rattle.cargo_core.specs.declared.item.QueueKind.TheVariants as Kind
use Rattle.cargo_core.specs.declared.item.Body.{Body}
use Rattle.cargo_core.specs.Lists.{IsPrefix}
use Rattle.wire_core.specs.declared.names.QueueId.{QueueId}
use Rattle.wire_core.specs.declared.names.Side.TheVariants.{Forward, Backward}
use Rattle.wire_core.specs.Lists.{Passed}
use Rattle.wire_core.specs.Ends.{Role, Consumer, Producer, End}
use Rattle.turn_kit.specs.Table.{Agrees, start_state}
use Rattle.turn_kit.specs.Turns.{Round}
use Rattle.turn_kit.specs.Posts.{intake_post, outlet_post}
use Rattle.turn_kit.specs.Hands.{Balances, bodies_at}
use Rattle.class_expect.specs.SerialSwitch.Carried.{byte_cargo, bytes_carried}
use Rattle.device_model.specs.declared.serial_terminal.Terminal.{Terminal}

-- both ends are the terminal's own, and as it keeps them; both are queues of bytes
pub record FitsTerminal (ends : Role → ℕ → End) (t : Terminal) : Type 0 where
  pub input : Agrees (ends Consumer t.input.queue.0) t.input.state
  pub output : Agrees (ends Producer t.output.queue.0) t.output.state
  pub hears : (ends Consumer t.input.queue.0).kind ≡ Kind.Byte
  pub says : (ends Producer t.output.queue.0).kind ≡ Kind.Byte
  pub next : t.next ≤ length t.script

-- it put its script as far as it has come, and recorded the bytes that it took
pub record TerminalStandsFor (t : Terminal) (passed : Passed) : Type 0 where
  pub sent_is : passed.sent t.output.queue.0 ≡ map byte_cargo (take t.next t.script)
  pub record_is : t.recorded.shown ≡ bytes_carried (passed.taken t.input.queue.0)

-- what it put is a prefix of its script, and its record is what it took
pub record TerminalRow (t : Terminal) (passed : Passed) : Type 0 where
  pub says : IsPrefix (passed.sent t.output.queue.0) (map byte_cargo t.script)
  pub recorded : t.recorded.shown ≡ bytes_carried (passed.taken t.input.queue.0)

-- one of its ends
abbrev pub TerminalEnd : Terminal → Role → ℕ → Type 0
TerminalEnd t Consumer n = n ≡ t.input.queue.0
TerminalEnd t Producer n = n ≡ t.output.queue.0

-- the queues and the script stay
pub record SameTerminal (old new : Terminal) : Type 0 where
  pub input : new.input.queue ≡ old.input.queue
  pub output : new.output.queue ≡ old.output.queue
  pub script : new.script ≡ old.script

-- a terminal at its start, between two queues and with a text to put
pub record IsNewTerminal (from to : QueueId) (text : List ℕ) (t : Terminal) : Type 0 where
  pub input : t.input.queue ≡ from
  pub output : t.output.queue ≡ to
  pub input_state : t.input.state ≡ start_state Forward
  pub output_state : t.output.state ≡ start_state Backward
  pub script : t.script ≡ text
  pub next : t.next ≡ 0
  pub recorded : t.recorded.shown ≡ []
  pub last : t.turn.last ≡ 65535

-- its ends: its input is always needed, its output owed while a byte of the script is left
abbrev pub terminal_round : Terminal → Round
terminal_round t = record {
  posts = intake_post t.input ∷ outlet_post t.output ∷ [];
  needs = true ∷ nat_lt t.next (length t.script) ∷ [];
  last = t.turn.last;
}

-- the bodies in its hand: none, since it records what it takes, and makes what it puts in the same
-- step
abbrev pub terminal_hand : Terminal → List Body
terminal_hand t = []

-- it keeps what it took for good
abbrev pub TerminalBalances : Terminal → Passed → Type 0
TerminalBalances t passed =
    Balances [] (bodies_at passed.taken (t.input.queue.0 ∷ []))
    (bodies_at passed.sent (t.output.queue.0 ∷ [])) (terminal_hand t)
    (bodies_at passed.taken (t.input.queue.0 ∷ []))

-- the same without the last looks
abbrev pub terminal_forgotten : Terminal → Terminal
terminal_forgotten t = record t {
  input = record t.input { state = record t.input.state { look = None } };
  output = record t.output { state = record t.output.state { look = None } };
}
