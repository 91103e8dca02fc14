use Rattle.std.proofs.Common.{[], ap, ◌∙◌, subst}
use Rattle.wire_core.specs.Journal.{start_history}
use Rattle.wire_core.specs.Picks.{PickedFrom}
use Rattle.play_core.specs.Still.{IsQuiet}
use Rattle.small_system.specs.Tales.{start_of, after_tale, journal_of}
use Rattle.small_system.specs.Wants.{runs_by, wanted_by, calm}
use Rattle.bus_law.specs.Wants.{bus_wants}
use Rattle.bus_law.proofs.Resting.{rests_now, rests_along}
use Rattle.bus_law.proofs.wants_law.Goals as goal

pub returns-clause-rests : goal.returns-clause-rests
returns-clause-rests c = rests_now (record {
  last = c.tale_law.ensures.last;
  count = c.tale_law.ensures.count;
  parts = c.tale_law.ensures.parts;
}) c.tale_law.ensures.items c.tale_law.ensures.bells c.rest_law.ensures

pub returns-clause-along : goal.returns-clause-along
returns-clause-along c = rests_along (record {
  last = c.tale_law.ensures.last;
  count = c.tale_law.ensures.count;
  parts = c.tale_law.ensures.parts;
}) c.tale_law.ensures.items c.tale_law.ensures.bells c.rest_law.ensures c.tale_law.ensures.joins

pub returns-clause-picks : goal.returns-clause-picks
returns-clause-picks c = λ bus rows start turns seed play picked.
    let along = rests_along (record {
      last = c.tale_law.ensures.last;
      count = c.tale_law.ensures.count;
      parts = c.tale_law.ensures.parts;
    }) c.tale_law.ensures.items c.tale_law.ensures.bells c.rest_law.ensures c.tale_law.ensures.joins bus rows start turns play in
    let first = c.tale_law.ensures.last rows start [] play.begins tt in
    subst (λ n. PickedFrom (runs_by (bus_wants bus) rows n) seed [] (journal_of turns)) play.made.many
    (c.tale_law.ensures.picks (bus_wants bus) rows (start_of rows start) [] turns seed first play.tale along picked)

pub returns-clause-runs : goal.returns-clause-runs
returns-clause-runs c = λ bus rows start turns play.
    let rests = rests_now (record {
      last = c.tale_law.ensures.last;
      count = c.tale_law.ensures.count;
      parts = c.tale_law.ensures.parts;
    }) c.tale_law.ensures.items c.tale_law.ensures.bells c.rest_law.ensures bus rows start turns play in
    let many = c.tale_law.ensures.count (start_of rows start) turns play.tale ∙ play.made.many in
    c.tale_law.ensures.runs (bus_wants bus) rows (after_tale (start_of rows start) turns) _ (journal_of turns) (c.tale_law.ensures.last rows start turns play.begins play.tale) rests
    ∙ ap (λ n. runs_by (bus_wants bus) rows n (journal_of turns)) many

pub returns-clause-quiet : goal.returns-clause-quiet
returns-clause-quiet c = λ bus rows start turns play none.
    let rests = rests_now (record {
      last = c.tale_law.ensures.last;
      count = c.tale_law.ensures.count;
      parts = c.tale_law.ensures.parts;
    }) c.tale_law.ensures.items c.tale_law.ensures.bells c.rest_law.ensures bus rows start turns play in
    subst (λ n. IsQuiet calm (start_history rows) rows (wanted_by (bus_wants bus) rows n (journal_of turns)) (journal_of turns)) play.made.many
    (c.tale_law.ensures.quiet (bus_wants bus) rows start turns play.begins play.tale rests none)
