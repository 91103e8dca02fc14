use Rattle.std.proofs.Common.{◌∙◌, ap, subst, []}
use Rattle.wire_core.specs.Journal.{start_history}
use Rattle.wire_core.specs.Picks.{PickedFrom}
use Rattle.play_core.specs.Still.{IsQuiet}
use Rattle.small_system.specs.Tales.{start_of, after_tale, journal_of, passed_by}
use Rattle.small_system.specs.Wants.{runs_by, wanted_by, calm}
use Rattle.switched_law.specs.SwitchMoment.Wants.{port_wants}
use Rattle.switched_law.specs.Playing.{IsPlayed}
use Rattle.switched_law.proofs.Standing.{Laws, holds, many}
use Rattle.switched_law.proofs.Wanting.{WantLaws, rests_by, rests_along}
use Rattle.switched_law.proofs.wants_law.Goals as goal

pub returns-clause-rests : goal.returns-clause-rests
returns-clause-rests c = λ ports rows start turns p.
    let laws : Laws = record {
      last = c.tale_law.ensures.last;
      count = c.tale_law.ensures.count;
      parts = c.tale_law.ensures.parts;
    } in
    let more : WantLaws = record {
      items = c.tale_law.ensures.items;
      bells = c.tale_law.ensures.bells;
      rest = c.rest_law.ensures;
      client = c.wants_law.ensures.client;
      switch = c.wants_law.ensures.switch;
    } in
    rests_by laws more ports rows start turns p

pub returns-clause-runs : goal.returns-clause-runs
returns-clause-runs c = λ ports rows start turns p.
    let laws : Laws = record {
      last = c.tale_law.ensures.last;
      count = c.tale_law.ensures.count;
      parts = c.tale_law.ensures.parts;
    } in
    let more : WantLaws = record {
      items = c.tale_law.ensures.items;
      bells = c.tale_law.ensures.bells;
      rest = c.rest_law.ensures;
      client = c.wants_law.ensures.client;
      switch = c.wants_law.ensures.switch;
    } in
    c.tale_law.ensures.runs (port_wants ports) rows (after_tale (start_of rows start) turns) (passed_by turns) (journal_of turns) (holds laws ports rows start turns p) (rests_by laws more ports rows start turns p)
    ∙ ap (λ n. runs_by (port_wants ports) rows n (journal_of turns)) (many laws ports rows start turns p)

pub returns-clause-picks : goal.returns-clause-picks
returns-clause-picks c = λ ports rows start turns seed p picked.
    let laws : Laws = record {
      last = c.tale_law.ensures.last;
      count = c.tale_law.ensures.count;
      parts = c.tale_law.ensures.parts;
    } in
    let more : WantLaws = record {
      items = c.tale_law.ensures.items;
      bells = c.tale_law.ensures.bells;
      rest = c.rest_law.ensures;
      client = c.wants_law.ensures.client;
      switch = c.wants_law.ensures.switch;
    } in
    let begun : IsPlayed ports rows start [] = record { playable = p.playable; queues = p.queues; made = p.made; begins = p.begins; tale = tt } in
    subst (λ n. PickedFrom (runs_by (port_wants ports) rows n) seed [] (journal_of turns)) p.made.many
    (c.tale_law.ensures.picks (port_wants ports) rows (start_of rows start) [] turns seed (c.tale_law.ensures.last rows start [] p.begins tt) p.tale
    (rests_along laws more ports rows start c.tale_law.ensures.joins [] turns begun p.tale) picked)

pub returns-clause-quiet : goal.returns-clause-quiet
returns-clause-quiet c = λ ports rows start turns p none.
    let laws : Laws = record {
      last = c.tale_law.ensures.last;
      count = c.tale_law.ensures.count;
      parts = c.tale_law.ensures.parts;
    } in
    let more : WantLaws = record {
      items = c.tale_law.ensures.items;
      bells = c.tale_law.ensures.bells;
      rest = c.rest_law.ensures;
      client = c.wants_law.ensures.client;
      switch = c.wants_law.ensures.switch;
    } in
    subst (λ n. IsQuiet calm (start_history rows) rows (wanted_by (port_wants ports) rows n (journal_of turns)) (journal_of turns)) p.made.many
    (c.tale_law.ensures.quiet (port_wants ports) rows start turns p.begins p.tale (rests_by laws more ports rows start turns p) none)
