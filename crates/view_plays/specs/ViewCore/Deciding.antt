-- What the words and the description decide, one constructor a cause.
use Rattle.std.specs.Prelude.{◌≡◌, ◌<◌, ◌≤◌, ℕ, Option, Some, None, List, length, string_bytes}
use Rattle.sdf_plan.specs.declared.place.Place.{Place}
use Rattle.sdf_plan.specs.declared.place.Refusal.{Refusal}
use Rattle.sdf_plan.specs.declared.plan.Plan.{Plan}
use Rattle.sdf_model.specs.Counts.{text_most}
use Rattle.region_layout.specs.Layouts.{layout_of}
use Rattle.export_text.specs.System.{system_text}
use Rattle.export_text.specs.Symbols.{bad_symbol}
use Rattle.region_layout.specs.declared.layout.Layout.{Layout}
use Rattle.export_text.specs.ConfigText.Config.{config_text, HeaderRows}
use Rattle.pictures.specs.LayoutView.Drawn.{layout_svg, layout_graph}
use Rattle.view_plays.specs.declared.view_core.answer.Answer.{Answer}
use Rattle.view_plays.specs.declared.view_core.answer.Answer.TheVariants as Is
use Rattle.view_plays.specs.declared.view_core.ended.Ended.{Ended}
use Rattle.view_plays.specs.declared.view_core.ended.Ended.TheVariants as End
use Rattle.view_plays.specs.declared.view_core.ask.View.{View}
use Rattle.view_plays.specs.declared.view_core.ask.View.TheVariants as Of
use Rattle.decision_core.specs.Judged.{IsAccepted, IsRefusedText}
use Rattle.view_plays.specs.ViewCore.Lines.{usage_line, refused_line, long_line, identifier_line}
use Rattle.view_plays.specs.ViewCore.Words.{AsksFor, IsBadWord}

-- what is decided: a text for standard output, or a status and a line for standard error
pub data Decision : Type 0 where
  Show : List ℕ → Decision
  Refuse : Ended → List ℕ → Decision

-- the decision that an answer keeps
abbrev pub decision_of : Answer → Decision
decision_of (Is.Show text) = Show text
decision_of (Is.Refuse ended line) = Refuse ended (string_bytes line)

-- the rows of a layout
abbrev pub rows_of : Layout → HeaderRows
rows_of layout = record {
  actors = layout.actors;
  pools = layout.pools;
  queues = layout.queues;
}

-- what a view shows of a plan: the system file, the header for its layout, or its layout as a
-- picture or as a graph
abbrev pub view_text : Plan → View → List ℕ
view_text plan Of.System = system_text plan
view_text plan Of.Config = config_text plan (rows_of (layout_of plan))
view_text plan Of.Layout = layout_svg plan (layout_of plan)
view_text plan Of.Graph = layout_graph plan (layout_of plan)

-- the first map whose variable a view would have to name, and that no program in C can
abbrev pub unnameable : Plan → View → Option Place
unnameable plan Of.System = bad_symbol plan
unnameable plan Of.Config = bad_symbol plan
unnameable plan _ = None

-- what is decided for the plan of a description that is accepted
pub data PlanShows (plan : Plan) (view : View) : Decision → Type 0 where
  shown : unnameable plan view ≡ None → PlanShows plan view (Show (view_text plan view))
  no_identifier : (place : Place) → unnameable plan view ≡ Some place
      → PlanShows plan view (Refuse End.NoIdentifier (identifier_line place))

-- what is decided for the bytes of a description: they are too many, or refused, or accepted, and
-- then their plan decides
pub data TextShows (view : View) (bytes : List ℕ) : Decision → Type 0 where
  too_long : text_most < length bytes → TextShows view bytes (Refuse End.TooLong long_line)
  refused : (refusal : Refusal) → length bytes ≤ text_most → IsRefusedText bytes refusal
      → TextShows view bytes (Refuse (End.Refused refusal.rule) (refused_line refusal))
  accepted : (plan : Plan) (decision : Decision) → length bytes ≤ text_most
      → IsAccepted bytes plan → PlanShows plan view decision → TextShows view bytes decision

-- what the words decide, where reads tells the bytes that were read of a text
pub data Decides (reads : List ℕ → List ℕ → Type 0) (words : List (List ℕ))
    : Decision → Type 0 where
  no_view : (k : ℕ) → IsBadWord words k → Decides reads words (Refuse (End.Usage k) (usage_line k))
  viewed : (view : View) (desc bytes : List ℕ) (decision : Decision) → AsksFor words desc view
      → reads desc bytes → TextShows view bytes decision → Decides reads words decision
