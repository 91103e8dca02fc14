-- What a call by hand leaves of the ends of queues.
use Rattle.std.specs.Prelude.{◌≡◌, ◌<◌, ℕ, true, List, length}
use Rattle.cargo_core.specs.declared.item.QueueKind.{QueueKind}
use Rattle.cargo_core.specs.declared.item.QueueKind.TheVariants as Kind
use Rattle.wire_core.specs.Ends.{Role}
use Rattle.wire_core.specs.Queues.{Queue, start_bells, end_of, end_at}

-- of all ends, at most this one changed, and its kind stayed
pub record OnlyAt (role : Role) (place : ℕ) (old new : List Queue) : Type 0 where
  pub long : length new ≡ length old
  pub rest : (r : Role) (n : ℕ) → (r ≡ role → n ≡ place → ⊥) → end_at new r n ≡ end_at old r n
  pub kinds : (r : Role) (n : ℕ) → (end_at new r n).kind ≡ (end_at old r n).kind

-- so many queues of a kind, in their start state
pub record AreQueues (kind : QueueKind) (count : ℕ) (w : List Queue) : Type 0 where
  pub long : length w ≡ count
  pub start : (r : Role) (n : ℕ) → n < count → end_at w r n ≡ end_of true kind start_bells r

-- of bytes
abbrev pub AreByteQueues : ℕ → List Queue → Type 0
AreByteQueues count w = AreQueues Kind.Byte count w
