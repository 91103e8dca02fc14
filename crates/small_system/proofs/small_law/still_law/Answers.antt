use Rattle.std.proofs.Common.{◌≡◌, ◌+◌, Some, length, map, slice_get, sym, ap, ◌∙◌, subst, arith}
use Rattle.wire_core.specs.Journal.{nobody, start_history}
use Rattle.wire_core.specs.Queues.{end_at}
use Rattle.play_core.specs.Moved.{moved}
use Rattle.play_core.specs.Wants.{Needful, all_settled}
use Rattle.play_core.specs.Still.{IsStill}
use Rattle.small_system.specs.Tales.{journal_of, start_of, after_tale, passed_by}
use Rattle.small_system.specs.Wants.{calm, wanted_by, calls_in}
use Rattle.small_system.proofs.SmallLaw.Resting.{wanting, wants_or_none, wanted_here}
use Rattle.small_system.proofs.small_law.still_law.Goals as goal

pub returns : goal.returns
returns g c = λ rows start turns wants begins tale are none.
    let m = g.A.SmallActor.means in
    let mo = after_tale (start_of rows start) turns in
    let journal = journal_of turns in
    let holds = c.tale_law.ensures.last rows start turns begins tale in
    let bells = c.tale_law.ensures.bells rows mo (passed_by turns) journal holds in
    let quiet = c.tale_law.ensures.quiet (wanting wants mo.actors) rows start turns begins tale
    (λ k x at. c.rest_law.ensures (start_history rows) journal mo.world (m.round x).posts (m.round x).needs (wants x) bells (are (end_at mo.world) x (holds.fits k x at)) ∙ ap (λ o. all_settled (start_history rows) journal (wants_or_none wants o)) (sym at)) none in
    let same : wanted_by (wanting wants mo.actors) rows (length start) journal ≡ map wants mo.actors =
    ap (λ n. wanted_by (wanting wants mo.actors) rows n journal) (sym (c.tale_law.ensures.count (start_of rows start) turns tale)) ∙ wanted_here wants mo.actors (moved (start_history rows) journal) (calls_in journal) 0 mo.actors (λ i x at. let z : i ≡ 0 + i = omega arith in subst (λ n. slice_get mo.actors n ≡ Some x) z at) in
    subst (λ (n : Needful). IsStill nobody (start_history rows) rows n journal) same (c.quiet_law.ensures.still calm (start_history rows) rows (wanted_by (wanting wants mo.actors) rows (length start) journal) journal quiet)
