-- The sending virtualiser: what it must fit, what it stands for, and its row.
use Rattle.std.specs.Prelude.{◌≡◌, ◌≤◌, ℕ, Some, None, is_some, is_none, List, [], ◌∷◌, ◌++◌, map}
use Rattle.std.specs.Prelude.{length, option_to_list, slice_get}
use Rattle.std.specs.Option.{ForSome}
use Rattle.cargo_core.specs.declared.item.Body.{Body}
use Rattle.cargo_core.specs.Items.{kind_of}
use Rattle.cargo_core.specs.Lists.{Merge}
use Rattle.cargo_core.specs.declared.item.QueueKind.TheVariants as Kind
use Rattle.wire_core.specs.declared.names.QueueId.{QueueId}
use Rattle.wire_core.specs.declared.names.Side.TheVariants.{Forward, Backward}
use Rattle.wire_core.specs.Deeds.{Cargo}
use Rattle.wire_core.specs.Lists.{Lists, Passed}
use Rattle.wire_core.specs.Ends.{Role, Consumer, Producer, End}
use Rattle.turn_kit.specs.Table.{Agrees, start_state}
use Rattle.turn_kit.specs.Turns.{Round}
use Rattle.turn_kit.specs.Posts.{outlet_post}
use Rattle.turn_kit.specs.Hands.{Balances, bodies_of, bodies_at}
use Rattle.turn_kit.specs.ManyEnds.{FitsIntakes, intake_queues, intake_posts, needs_from}
use Rattle.turn_kit.specs.declared.ends.Intake.{Intake}
use Rattle.serial_virt.specs.Forgetting.{intake_forgotten, outlet_forgotten}
use Rattle.serial_virt.specs.declared.tx.SerialVirtTx.{SerialVirtTx}

-- the virtualiser's ends are its own, and as it keeps them; all are queues of bytes
pub record FitsTx (ends : Role → ℕ → End) (v : SerialVirtTx) : Type 0 where
  pub inputs : FitsIntakes ends v.inputs
  pub output : Agrees (ends Producer v.output.queue.0) v.output.state
  pub hears : (k : ℕ) (q : QueueId) → slice_get (intake_queues v.inputs) k ≡ Some q
      → (ends Consumer q.0).kind ≡ Kind.Byte
  pub says : (ends Producer v.output.queue.0).kind ≡ Kind.Byte
  pub load : ForSome v.load (λ c. kind_of c.0 ≡ Kind.Byte)

-- what was taken from each client
abbrev pub taken_from : List QueueId → Lists → List (List Cargo)
taken_from qs taken = map (λ q. taken q.0) qs

-- what it put, and what is loaded, is a merge of all that it took
abbrev pub TxStandsFor : SerialVirtTx → Passed → Type 0
TxStandsFor v passed =
    Merge (taken_from (intake_queues v.inputs) passed.taken)
    (passed.sent v.output.queue.0 ++ option_to_list v.load)

-- what it put, with at most one entry after it, is a merge of all that it took
pub record TxRow (v : SerialVirtTx) (passed : Passed) : Type 0 where
  pub owed : List Cargo
  pub few : length owed ≤ 1
  pub merged : Merge (taken_from (intake_queues v.inputs) passed.taken)
      (passed.sent v.output.queue.0 ++ owed)

-- one of its ends
abbrev pub TxEnd : SerialVirtTx → Role → ℕ → Type 0
TxEnd v Consumer n =
    (k : ℕ) × (q : QueueId) × (slice_get (intake_queues v.inputs) k ≡ Some q) × (n ≡ q.0)
TxEnd v Producer n = n ≡ v.output.queue.0

-- its queues, the output's first
abbrev pub tx_queues : SerialVirtTx → List QueueId
tx_queues v = v.output.queue ∷ intake_queues v.inputs

-- an end in its start state
abbrev pub new_intake : QueueId → Intake
new_intake q = record { queue = q; state = start_state Forward }

-- the sending virtualiser at its start, with its output and its clients' queues
pub record IsNewTx (to : QueueId) (clients : List QueueId) (v : SerialVirtTx) : Type 0 where
  pub output : v.output.queue ≡ to
  pub output_state : v.output.state ≡ start_state Backward
  pub inputs : v.inputs.ends.items ≡ map new_intake clients
  pub load : v.load ≡ None
  pub last : v.turn.last ≡ 65535

-- its ends: the inputs are needed while nothing is loaded
abbrev pub tx_round : SerialVirtTx → Round
tx_round v = record {
  posts = outlet_post v.output ∷ intake_posts v.inputs;
  needs = is_some v.load ∷ needs_from (λ place. is_none v.load) 0 (intake_queues v.inputs);
  last = v.turn.last;
}

-- the bodies in its hand: that of what it took and has yet to put
abbrev pub tx_hand : SerialVirtTx → List Body
tx_hand v = bodies_of (option_to_list v.load)

-- it keeps nothing
abbrev pub TxBalances : SerialVirtTx → Passed → Type 0
TxBalances v passed =
    Balances [] (bodies_at passed.taken (map (λ q. q.0) (intake_queues v.inputs)))
    (bodies_at passed.sent (v.output.queue.0 ∷ [])) (tx_hand v) []

-- the same without the last looks
pub record TxForgot (old new : SerialVirtTx) : Type 0 where
  pub output : new.output ≡ outlet_forgotten old.output
  pub inputs : new.inputs.ends.items ≡ map intake_forgotten old.inputs.ends.items
  pub rest : new ≡ record old { output = new.output; inputs = new.inputs }
