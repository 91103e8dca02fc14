-- What the words of a play that is drawn decide, one constructor a cause.
use Rattle.std.specs.Prelude.{◌≡◌, ◌⊎◌, ℕ, Bool, true, false, Option, unwrap_or, List, length}
use Rattle.std.specs.Prelude.{string_bytes}
use Rattle.sdf_plan.specs.declared.plan.Plan.{Plan}
use Rattle.sdf_plan.specs.Elements.{IsNumbered}
use Rattle.trace_text.specs.declared.trace.Trace.{Trace}
use Rattle.trace_text.specs.Traces.{IsReadFor}
use Rattle.decision_core.specs.declared.deciding.Decided.{Decided}
use Rattle.decision_core.specs.declared.deciding.Decided.TheVariants as Kept
use Rattle.decision_core.specs.declared.showing.Asked.{Asked}
use Rattle.decision_core.specs.declared.status.Status.{Status}
use Rattle.decision_core.specs.declared.status.Status.TheVariants as Ended
use Rattle.decision_core.specs.Decisions.{Say, asked_on, Decides}
use Rattle.decision_core.specs.Judged.{IsAcceptedPlan}
use Rattle.decision_core.specs.Readings.{OpensInTurn}
use Rattle.expect_core.specs.Budgets.{budget_of}
use Rattle.region_layout.specs.Layouts.{layout_of}
use Rattle.report_text.specs.Answers.{usage_text}
use Rattle.system_core.specs.Reports.{report_of}
use Rattle.system_core.specs.PlanPlays.{IsPlayed}
use Rattle.system_core.specs.Shows.{Shown}
use Rattle.command_words.specs.declared.play_words.ask.Drawing.{Drawing}
use Rattle.command_words.specs.declared.play_words.options.Name.TheVariants as An
use Rattle.command_words.specs.declared.play_words.options.Setting.{Setting}
use Rattle.view_plays.specs.declared.playing.Reply.{Reply}
use Rattle.view_plays.specs.declared.playing.Reply.TheVariants as Is
use Rattle.view_plays.specs.PlayView.Drawn.{drawn_text}
use Rattle.command_words.specs.PlayWords.Words.{Spells, IsBadWord, main_words, number_of}

-- what is answered: a text for standard output, or a line for standard error, with a status
pub data Answered : Type 0 where
  Drawn : Status → List ℕ → Answered
  Refused : Status → List ℕ → Answered

-- the answer that a reply keeps
abbrev pub decided_of : Reply → Answered
decided_of (Is.Show status text) = Drawn status text
decided_of (Is.Refuse status line) = Refused status (string_bytes line)

-- the seed of the picks
abbrev pub seed_of : List Setting → ℕ
seed_of settings = unwrap_or (number_of An.Seed settings) 0

-- how many steps a play may make: those that the options say, or those that are enough
abbrev pub limit_of : Plan → Trace → List Setting → ℕ
limit_of plan trace settings = unwrap_or (number_of An.Steps settings) (budget_of plan trace)

-- how a play ended
abbrev pub ending_of : Bool → ℕ → Status
ending_of true steps = Ended.Ok
ending_of false steps = Ended.Spent steps

-- a play of a trace on a plan was made, as the options say, and drawn; where it isn't quiet all
-- steps were made
pub data IsDrawnOf (plan : Plan) (trace : Trace) (drawing : Drawing) : Answered → Type 0 where
  drawn_of : (s : Shown)
      → IsPlayed plan trace (seed_of drawing.settings) (limit_of plan trace drawing.settings) s
      → ((report_of s).quiet ≡ false → length s.journal ≡ limit_of plan trace drawing.settings)
      → IsDrawnOf plan trace drawing (Drawn (ending_of (report_of s).quiet (report_of s).steps)
      (drawn_text plan (layout_of plan) s.journal (report_of s) drawing))

-- what was decided is of a plan, and can be played: it is no bus and no switch
abbrev pub IsOnPlan : Decided → Type 0
IsOnPlan (Kept.Say status line) = Unit {0}
IsOnPlan (Kept.Go plan trace asked) =
    IsAcceptedPlan plan × IsNumbered plan × IsReadFor plan trace
IsOnPlan (Kept.Bus bus schedule) = ⊥
IsOnPlan (Kept.Ports ports schedule) = ⊥

-- the answer to what the main program decided: its line, or the play of what is to be played
abbrev pub RepliesTo : Decided → Drawing → Answered → Type 0
RepliesTo (Kept.Say status line) drawing answered = answered ≡ Refused status (string_bytes line)
RepliesTo (Kept.Go plan trace asked) drawing answered = IsDrawnOf plan trace drawing answered
RepliesTo (Kept.Bus bus schedule) drawing answered = ⊥
RepliesTo (Kept.Ports ports schedule) drawing answered = ⊥

-- what the words decide, where reads tells the bytes that were read of a text
pub data DrawsPlay (reads : List ℕ → List ℕ → Type 0) (words : List (List ℕ))
    : Answered → Type 0 where
  -- they ask for no drawing
  no_drawing : (k : ℕ) → IsBadWord words k
      → DrawsPlay reads words (Refused (Ended.Usage k) (usage_text k))
  -- the main program doesn't play what they name
  refused : (drawing : Drawing) (status : Status) (line : List ℕ) → Spells words drawing
      → Decides reads (main_words words drawing.settings) (Say status line)
      → DrawsPlay reads words (Refused status line)
  -- what it plays is drawn
  drawn : (drawing : Drawing) (plan : Plan) (trace : Trace) (asked : Asked) (answered : Answered)
      → Spells words drawing
      → Decides reads (main_words words drawing.settings) (asked_on plan trace asked)
      → IsDrawnOf plan trace drawing answered → DrawsPlay reads words answered

-- which texts are opened: none, or those that the main program opens, in its order
abbrev pub OpensFor : (List ℕ → List ℕ → Type 0) → List (List ℕ) → Option (List (List ℕ))
    → Option (List (List ℕ)) → Type 0
OpensFor reads words before after =
    (after ≡ before)
    ⊎ ((drawing : Drawing) × Spells words drawing
    × OpensInTurn reads (main_words words drawing.settings) before after)

-- nothing is said of what is left of the open text
abbrev pub LeavesAny : Reply → Option (List ℕ) → Option (List ℕ) → Option (List (List ℕ))
    → Option (List (List ℕ)) → Type 0
LeavesAny reply old new before after = Unit {0}
