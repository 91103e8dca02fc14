-- For whom a notification is pending, and how many are counted.
use Rattle.std.specs.Prelude.{◌≡◌, ◌==◌, ◌+◌, ◌<◌, ◌&&◌, ℕ, List, length, slice_index_or, sum_by}
use Rattle.std.specs.Prelude.{All, Option, Some, None}
use Rattle.cargo_core.specs.declared.act.Word.{Word}
use Rattle.cargo_core.specs.declared.act.Word.TheVariants as Words
use Rattle.wire_core.specs.declared.names.Side.{Side}
use Rattle.wire_core.specs.declared.names.Side.TheVariants.{Forward, Backward}
use Rattle.wire_core.specs.Bells.{bit}
use Rattle.wire_core.specs.Queues.{Queue}

-- the actor that waits on a bell: forward the consumer, backward the producer
abbrev pub waiting_actor : Queue → Side → ℕ
waiting_actor q Forward = q.consumer
waiting_actor q Backward = q.producer

-- how many pending words of this actor's waiters are 1 at a queue
abbrev pub pending_of : ℕ → Queue → ℕ
pending_of actor q =
    bit (q.consumer == actor && q.bells.forward.pending)
    + bit (q.producer == actor && q.bells.backward.pending)

-- the actors at a queue's ends are among the first so many
abbrev pub IsAmong : ℕ → Queue → Type 0
IsAmong count q = (q.producer < count) × (q.consumer < count)

-- for each actor, how many pending words of its waiters are 1; each queue's actors are there
pub record IsCounted (counts : List ℕ) (queues : List Queue) : Type 0 where
  pub right : (actor : ℕ) → slice_index_or counts actor 0 ≡ sum_by (pending_of actor) queues
  pub known : All (IsAmong (length counts)) queues

-- the bell of whose pending word a word is
abbrev pub pending_side : Word → Option Side
pending_side Words.Pending = Some Forward
pending_side Words.PendingBack = Some Backward
pending_side Words.Head = None
pending_side Words.Tail = None
pending_side Words.Flag = None
pending_side Words.FlagBack = None
