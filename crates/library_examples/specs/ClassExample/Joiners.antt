-- A joiner: what it must fit, what it stands for by the order of the calls, and the turn that it is
-- at.
use Rattle.std.specs.Prelude.{◌≡◌, ◌==◌, ℕ, Bool, true, false, if◌then◌else◌, Option, Some, None}
use Rattle.std.specs.Prelude.{List, [], ◌∷◌, ◌++◌}
use Rattle.wire_core.specs.declared.names.QueueId.{QueueId}
use Rattle.wire_core.specs.declared.names.Event.{Event}
use Rattle.wire_core.specs.declared.names.Op.{Op}
use Rattle.wire_core.specs.declared.names.Op.TheVariants as Do
use Rattle.wire_core.specs.declared.names.Side.TheVariants.{Forward}
use Rattle.wire_core.specs.Deeds.{Cargo}
use Rattle.wire_core.specs.Lists.{Passed}
use Rattle.wire_core.specs.Ends.{Role, Consumer, End}
use Rattle.turn_kit.specs.Table.{Agrees, start_state}
use Rattle.turn_kit.specs.Turns.{Round}
use Rattle.turn_kit.specs.Posts.{intake_post}
use Rattle.class_expect.specs.SerialSwitch.Carried.{bytes_carried}
use Rattle.library_examples.specs.declared.class_example.joiner.Claim.{Claim}
use Rattle.library_examples.specs.declared.class_example.joiner.Claim.TheVariants.{Open, First, Second}
use Rattle.library_examples.specs.declared.class_example.joiner.Joiner.{Joiner}

-- whether it takes from its first input
abbrev pub wants_first : Claim → Bool
wants_first Open = true
wants_first First = true
wants_first Second = false

-- whether it takes from its second one
abbrev pub wants_second : Claim → Bool
wants_second Open = true
wants_second First = false
wants_second Second = true

-- the input that a take on this queue is from
abbrev pub input_at : (first second queue : ℕ) → Claim
input_at first second queue =
    if queue == first then First else (if queue == second then Second else Open)

-- the input that a call takes from
abbrev pub claim_of : (first second : ℕ) → Op → ℕ → Claim
claim_of first second Do.Take queue = input_at first second queue
claim_of first second Do.Put queue = Open
claim_of first second Do.See queue = Open
claim_of first second Do.Room queue = Open
claim_of first second (Do.Ask s) queue = Open
claim_of first second (Do.Waive s) queue = Open
claim_of first second (Do.Wake s) queue = Open
claim_of first second (Do.Wanted s) queue = Open
claim_of first second (Do.Settle s) queue = Open
claim_of first second (Do.Ring s) queue = Open
claim_of first second (Do.Store w v) queue = Open

-- the first claim stays
abbrev pub claim_with : Claim → Claim → Claim
claim_with Open later = later
claim_with First later = First
claim_with Second later = Second

-- the claim after these calls
abbrev pub claim_from : (first second : ℕ) → Claim → List Event → Claim
claim_from first second c [] = c
claim_from first second c (e ∷ es) =
    claim_from first second (claim_with c (claim_of first second e.op e.queue.0)) es

-- the input from which the first take of these calls was
abbrev pub claim_by : (first second : ℕ) → List Event → Claim
claim_by first second calls = claim_from first second Open calls

-- the claim where an entry came from this input, or none came
abbrev pub claim_after : Option Cargo → (from old : Claim) → Claim
claim_after None from old = old
claim_after (Some c) from old = from

-- its ends are its own, and as it keeps them, at two queues of bytes
pub record FitsJoiner (ends : Role → ℕ → End) (j : Joiner) : Type 0 where
  pub first : Agrees (ends Consumer j.first.queue.0) j.first.state
  pub second : Agrees (ends Consumer j.second.queue.0) j.second.state
  pub apart : j.first.queue.0 ≡ j.second.queue.0 → ⊥

-- it keeps to the input from which it took first, and recorded the bytes that came
pub record JoinerStandsFor (j : Joiner) (passed : Passed) : Type 0 where
  pub claim_is : j.claim ≡ claim_by j.first.queue.0 j.second.queue.0 passed.calls
  pub record_is : j.recorded.shown
      ≡ bytes_carried (passed.taken j.first.queue.0)
      ++ bytes_carried (passed.taken j.second.queue.0)
  -- while it takes from one, nothing came from the other
  pub first_alone : wants_first j.claim ≡ true → passed.taken j.second.queue.0 ≡ []
  pub second_alone : wants_second j.claim ≡ true → passed.taken j.first.queue.0 ≡ []

-- its two ends: each is needed while it takes from there
abbrev pub joiner_round : Joiner → Round
joiner_round j = record {
  posts = intake_post j.first ∷ intake_post j.second ∷ [];
  needs = wants_first j.claim ∷ wants_second j.claim ∷ [];
  last = j.turn.last;
}

-- its queues stay
pub record SameJoiner (old new : Joiner) : Type 0 where
  pub first : new.first.queue ≡ old.first.queue
  pub second : new.second.queue ≡ old.second.queue

-- a joiner at its start
pub record IsNewJoiner (first second : QueueId) (j : Joiner) : Type 0 where
  pub first_is : j.first.queue ≡ first
  pub second_is : j.second.queue ≡ second
  pub first_state : j.first.state ≡ start_state Forward
  pub second_state : j.second.state ≡ start_state Forward
  pub claim_is : j.claim ≡ Open
  pub recorded : j.recorded.shown ≡ []
