-- A pipe: what it must fit, and what it stands for.
use Rattle.std.specs.Prelude.{◌≡◌, ℕ, Option, Some, None, ◌++◌, option_to_list}
use Rattle.std.specs.Option.{ForSome}
use Rattle.cargo_core.specs.Items.{kind_of}
use Rattle.wire_core.specs.Deeds.{Cargo}
use Rattle.wire_core.specs.Lists.{Passed}
use Rattle.wire_core.specs.Ends.{Role, Consumer, Producer, End}
use Rattle.wire_core.specs.declared.names.QueueId.{QueueId}
use Rattle.wire_core.specs.declared.names.Side.TheVariants.{Forward, Backward}
use Rattle.turn_kit.specs.Table.{Agrees, start_state}
use Rattle.turn_kit.specs.declared.pipe.Pipe.{Pipe}

-- the pipe's ends are its own, and as it keeps them; both queues have one kind, and so has the load
pub record FitsPipe (ends : Role → ℕ → End) (p : Pipe) : Type 0 where
  pub input : Agrees (ends Consumer p.input.queue.0) p.input.state
  pub output : Agrees (ends Producer p.output.queue.0) p.output.state
  pub kinds : (ends Consumer p.input.queue.0).kind ≡ (ends Producer p.output.queue.0).kind
  pub load : ForSome p.load (λ c. kind_of c.0 ≡ (ends Producer p.output.queue.0).kind)

-- what it took is what it put and what is loaded
abbrev pub PipeStandsFor : Pipe → Passed → Type 0
PipeStandsFor p passed =
    passed.taken p.input.queue.0 ≡ passed.sent p.output.queue.0 ++ option_to_list p.load

-- what came in where nothing was loaded
abbrev pub arrival : Option Cargo → Option Cargo → Option Cargo
arrival None new = new
arrival (Some old) new = None

-- a pipe between these queues, in its start state
pub record IsNewPipe (from to : QueueId) (p : Pipe) : Type 0 where
  pub input : p.input.queue ≡ from
  pub output : p.output.queue ≡ to
  pub input_state : p.input.state ≡ start_state Forward
  pub output_state : p.output.state ≡ start_state Backward
  pub load : p.load ≡ None
