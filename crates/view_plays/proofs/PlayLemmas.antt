-- What was decided and played is what the words ask for.
use Rattle.std.proofs.Common.{◌≡◌, ℕ, false, length, List, sym, subst, ap, ◌∙◌}
use Rattle.std.specs.Prelude.{string_bytes}
use Rattle.sdf_plan.specs.declared.plan.Plan.{Plan}
use Rattle.trace_text.specs.declared.trace.Trace.{Trace}
use Rattle.wire_core.specs.declared.names.Entry.{Entry}
use Rattle.expect_core.specs.declared.report.Report.{Report}
use Rattle.region_layout.specs.declared.layout.Layout.{Layout}
use Rattle.region_layout.specs.Layouts.{layout_of}
use Rattle.decision_core.specs.declared.deciding.Decided.{Decided}
use Rattle.decision_core.specs.declared.deciding.Decided.TheVariants as Kept
use Rattle.decision_core.specs.declared.status.Status.{Status}
use Rattle.decision_core.specs.Decided.{decision_of}
use Rattle.decision_core.specs.Decisions.{Decides}
use Rattle.system_core.specs.PlanPlays.{IsPlayed}
use Rattle.system_core.specs.Reports.{report_of}
use Rattle.system_core.specs.Shows.{Shown}
use Rattle.command_words.specs.declared.play_words.ask.Drawing.{Drawing}
use Rattle.command_words.specs.PlayWords.Words.{Spells, main_words}
use Rattle.view_plays.specs.PlayView.Drawn.{drawn_text}
use Rattle.view_plays.specs.Deciding.{Answered, Drawn, DrawsPlay, refused, drawn, IsDrawnOf, drawn_of, RepliesTo, ending_of, seed_of, limit_of}

pub draws : (reads : List ℕ → List ℕ → Type 0) (words : List (List ℕ)) (drawing : Drawing) (d : Decided) (a : Answered) → Spells words drawing
    → Decides reads (main_words words drawing.settings) (decision_of d) → RepliesTo d drawing a → DrawsPlay reads words a
draws reads words drawing (Kept.Say status line) a s h r = subst (λ x. DrawsPlay reads words x) (sym r) (refused drawing status (string_bytes line) s h)
draws reads words drawing (Kept.Go plan trace asked) a s h r = drawn drawing plan trace asked a s h r
draws reads words drawing (Kept.Bus bus schedule) a s h r = absurd r
draws reads words drawing (Kept.Ports ports schedule) a s h r = absurd r

pub drawn-play : (plan : Plan) (trace : Trace) (drawing : Drawing) (s : Shown) (seed limit : ℕ) (status : Status) (text : List ℕ)
    → seed ≡ seed_of drawing.settings → limit ≡ limit_of plan trace drawing.settings → IsPlayed plan trace seed limit s → ((report_of s).quiet ≡ false → length s.journal ≡ limit)
    → status ≡ ending_of (report_of s).quiet (report_of s).steps → text ≡ drawn_text plan (layout_of plan) s.journal (report_of s) drawing
    → IsDrawnOf plan trace drawing (Drawn status text)
drawn-play plan trace drawing s seed limit status text e f played spent g h =
    let p = subst (λ n. IsPlayed plan trace (seed_of drawing.settings) n s) f (subst (λ n. IsPlayed plan trace n limit s) e played) in
    subst (λ x. IsDrawnOf plan trace drawing (Drawn x text)) (sym g) (subst (λ x. IsDrawnOf plan trace drawing (Drawn (ending_of (report_of s).quiet (report_of s).steps) x)) (sym h) (drawn_of s p (λ q. spent q ∙ f)))

pub drawn-of : (plan : Plan) (drawing : Drawing) (s : Shown) (layout : Layout) (journal : List Entry) (report : Report) (text : List ℕ)
    → layout ≡ layout_of plan → journal ≡ s.journal → report ≡ report_of s → text ≡ drawn_text plan layout journal report drawing
    → text ≡ drawn_text plan (layout_of plan) s.journal (report_of s) drawing
drawn-of plan drawing s layout journal report text e f g h =
    h ∙ (ap (λ (l : Layout). drawn_text plan l journal report drawing) e
    ∙ (ap (λ (j : List Entry). drawn_text plan (layout_of plan) j report drawing) f
    ∙ ap (λ (r : Report). drawn_text plan (layout_of plan) s.journal r drawing) g))
