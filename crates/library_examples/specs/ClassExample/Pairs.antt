-- Two sources and a joiner: what each of them wants, and what their play comes to.
use Rattle.std.specs.Prelude.{◌≡◌, ℕ, zero, suc, nat_lt, Some, List, [], ◌∷◌, length, map}
use Rattle.std.specs.Prelude.{slice_get}
use Rattle.cargo_core.specs.Lists.{IsPrefix}
use Rattle.cargo_core.specs.declared.item.QueueKind.TheVariants as Kind
use Rattle.wire_core.specs.declared.names.QueueRow.{QueueRow}
use Rattle.wire_core.specs.Queues.{starts}
use Rattle.play_core.specs.Wants.{intake_want, outlet_want}
use Rattle.small_system.specs.Standing.{Begins}
use Rattle.small_system.specs.Shows.{Shown, shown, Played, IsQuiet}
use Rattle.small_system.specs.Wants.{Wanting, calls_in}
use Rattle.library_examples.specs.declared.class_example.joiner.Claim.{Claim}
use Rattle.library_examples.specs.declared.class_example.joiner.Claim.TheVariants.{Open, First, Second}
use Rattle.library_examples.specs.declared.class_example.joiner.Joiner.{Joiner}
use Rattle.library_examples.specs.declared.class_example.member.Member.{Member}
use Rattle.library_examples.specs.declared.class_example.member.Member.TheVariants as Members
use Rattle.library_examples.specs.ClassExample.Joiners.{wants_first, wants_second, claim_by}
use Rattle.library_examples.specs.ClassExample.Members.{Made, Says, Joins, made_of, member_means}

-- a queue of bytes from a source to the joiner
pub record IsRow (source : ℕ) (row : QueueRow) : Type 0 where
  pub kind : row.kind ≡ Kind.Byte
  pub capacity : row.capacity ≡ 2
  pub producer : row.producer.0 ≡ source
  pub consumer : row.consumer.0 ≡ 2

-- the actors: the sources of these two scripts, at the queues 0 and 1, and the joiner at both
abbrev pub pair_of : (one other : List ℕ) → List Made
pair_of one other = Says 0 one ∷ Says 1 other ∷ Joins 0 1 ∷ []

-- what each of them wants, by what went through the queues and by the order of the calls
abbrev pub pair_wants : (one other : List ℕ) → Wanting
pair_wants one other zero m calls = outlet_want 0 (nat_lt (length (m.sent 0)) (length one)) ∷ []
pair_wants one other (suc zero) m calls =
    outlet_want 1 (nat_lt (length (m.sent 1)) (length other)) ∷ []
pair_wants one other (suc (suc zero)) m calls =
    intake_want 0 (wants_first (claim_by 0 1 calls))
    ∷ intake_want 1 (wants_second (claim_by 0 1 calls)) ∷ []
pair_wants one other (suc (suc (suc k))) m calls = []

-- what the source of an input says
abbrev pub said_by : (one other : List ℕ) → Claim → List ℕ
said_by one other Open = []
said_by one other First = one
said_by one other Second = other

-- the joiner keeps to the input from which it took first: what it recorded is a beginning of what
-- the source there says, and all of it where nobody is runnable; where it took from none then,
-- neither source says anything
pub record Keeps (s : Shown Member) (one other : List ℕ) : Type 0 where
  pub joiner : Joiner
  pub there : slice_get s.moment.actors 2 ≡ Some (Members.Joiner joiner)
  pub claim : joiner.claim ≡ claim_by 0 1 (calls_in s.journal)
  pub begins : IsPrefix joiner.recorded.shown (said_by one other joiner.claim)
  pub whole : IsQuiet member_means s → joiner.recorded.shown ≡ said_by one other joiner.claim
  pub silent : IsQuiet member_means s → joiner.claim ≡ Open → (one ≡ []) × (other ≡ [])

-- actors at queues in their start state, before the first step
abbrev pub at_start : List QueueRow → List Member → Shown Member
at_start rows actors = shown rows actors (starts rows) actors []

-- what came of the pair by a play: from the start state on, in which these actors stand at the two
-- queues, it was played by turns that the seed picks, at most so many
pub record IsPairPlay (one other : List ℕ) (seed limit : ℕ) (s : Shown Member) : Type 0 where
  pub first : QueueRow
  pub second : QueueRow
  pub actors : List Member
  pub from_one : IsRow 0 first
  pub from_other : IsRow 1 second
  pub made : map made_of actors ≡ pair_of one other
  pub begins : Begins member_means (first ∷ second ∷ []) actors
  pub played : Played member_means (at_start (first ∷ second ∷ []) actors) s seed limit
