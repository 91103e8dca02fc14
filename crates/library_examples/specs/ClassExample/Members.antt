-- The actors of the class, of both kinds, and what they mean to the player.
use Rattle.std.specs.Prelude.{ℕ, List}
use Rattle.wire_core.specs.Ends.{Role, End}
use Rattle.wire_core.specs.Lists.{Passed}
use Rattle.turn_kit.specs.Turns.{Round}
use Rattle.small_system.specs.Meanings.{Means}
use Rattle.library_examples.specs.declared.class_example.member.Member.{Member}
use Rattle.library_examples.specs.declared.class_example.member.Member.TheVariants as Members
use Rattle.library_examples.specs.ClassExample.Sources.{FitsSource, SourceStandsFor, source_round}
use Rattle.library_examples.specs.ClassExample.Joiners.{FitsJoiner, JoinerStandsFor, joiner_round}

-- what an actor is made of: its queues, and a source's script
pub data Made : Type 0 where
  Says : (to : ℕ) → (script : List ℕ) → Made
  Joins : (first second : ℕ) → Made

-- what it is made of
abbrev pub made_of : Member → Made
made_of (Members.Source s) = Says s.output.queue.0 s.script
made_of (Members.Joiner j) = Joins j.first.queue.0 j.second.queue.0

-- the turn that it is at
abbrev pub member_round : Member → Round
member_round (Members.Source s) = source_round s
member_round (Members.Joiner j) = joiner_round j

-- what it stands for
abbrev pub MemberStandsFor : Member → Passed → Type 0
MemberStandsFor (Members.Source s) passed = SourceStandsFor s passed
MemberStandsFor (Members.Joiner j) passed = JoinerStandsFor j passed

-- how its ends stand
abbrev pub FitsMember : (Role → ℕ → End) → Member → Type 0
FitsMember ends (Members.Source s) = FitsSource ends s
FitsMember ends (Members.Joiner j) = FitsJoiner ends j

-- its meanings
abbrev pub member_means : Means Member
member_means = record {
  Part = Made;
  part = made_of;
  round = member_round;
  StandsFor = MemberStandsFor;
  Fits = FitsMember;
}
