use Rattle.std.proofs.Common.{◌≡◌, ◌∙◌, Some, slice_get, sym, ap, subst}
use Rattle.buffer_kit.specs.Virtualising.{IsThere, virt_posts, place_of}
use Rattle.wire_core.specs.Lists.{with_deed}
use Rattle.turn_kit.specs.Table.{is_settled}
use Rattle.turn_kit.specs.Turns.{Turned, Post}
use Rattle.turn_kit.specs.Lowests.{found}
use Rattle.turn_kit.specs.declared.turns.Lowest.{Lowest}
use Rattle.i2c_virt.specs.declared.virtualiser.I2cVirt.{I2cVirt}
use Rattle.i2c_virt.specs.Virtualising.{I2cVirtStandsFor, AreLoose, i2c_virt_round, lowest_of}
use Rattle.i2c_virt.proofs.Lowest.{lowest_kept}
use Rattle.i2c_virt.proofs.Loosening.{left_settled, loose_kept, no_item, need_in}
use Rattle.i2c_virt.proofs.Resting.{rested_at}
use Rattle.i2c_virt.proofs.Turning.{virt_turned, looked_fits, looked_same, turned_fits}
use Rattle.i2c_virt.proofs.virtualiser.I2cVirt.step.Goals as goal

pub step_at-client-requires-clause-fits : goal.step_at-client-requires-clause-fits
step_at-client-requires-clause-fits g c = turned_fits _ c.args.self.now c.choose-at.new.self _ c.choose-at.ensures.after c.requires

pub look-requires-clause-same : goal.look-requires-clause-same
look-requires-clause-same g c = λ same.
    let v = c.args.self.now in
    let mid = c.choose-at.new.self in
    let w = c.step_at-client.new.self in
    let s = c.step_at-client.ensures in
    let at = c.choose-at.result in
    let there = subst (λ (x : I2cVirt). IsThere x.ends at) (sym c.choose-at.ensures.after) c.choose-at.ensures.there in
    let none = c.is_same_at-same.ensures.still same in
    let was = subst (λ (x : I2cVirt). (p : Post) → slice_get (virt_posts x.ends) (place_of x.ends at) ≡ Some p → c.at_rest-settled.result ≡ is_settled p.state (need_in x at)) (sym c.choose-at.ensures.after) (rested_at v at c.at_rest-settled.result c.at_rest-settled.ensures c.choose-at.ensures.place c.choose-at.ensures.there) in
    record {
      is = ap (λ (l : Lowest). found l) (s.lowest ∙ ap (λ (x : I2cVirt). x.lowest) c.choose-at.ensures.after)
          ∙ (c.requires.knows.is ∙ (sym (ap lowest_of c.choose-at.ensures.after)
          ∙ sym (lowest_kept mid w s.same.ends (s.kept (no_item _ c.is_some-moved.result c.is_some-moved.ensures none)) at there c.step_at-client.new.event c.at_rest-settled.result s.posted was (c.is_same_at-same.ensures.settled same))));
      loose = loose_kept mid w s.same.ends at there c.step_at-client.new.event c.step_at-client.result c.is_some-moved.result (λ n. s.kept (no_item _ c.is_some-moved.result c.is_some-moved.ensures n)) s.rises s.posted s.loose
          (subst (λ (x : I2cVirt). AreLoose x.loose (i2c_virt_round x)) (sym c.choose-at.ensures.after) c.requires.knows.loose) none c.at_rest-settled.result was (c.is_same_at-same.ensures.settled same);
    }

pub look-requires-clause-left : goal.look-requires-clause-left
look-requires-clause-left g c =
    let mid = c.choose-at.new.self in
    let w = c.step_at-client.new.self in
    let s = c.step_at-client.ensures in
    let at = c.choose-at.result in
    left_settled mid w s.same.ends at (subst (λ (x : I2cVirt). IsThere x.ends at) (sym c.choose-at.ensures.after) c.choose-at.ensures.there) c.step_at-client.new.event c.step_at-client.result c.is_some-moved.result (λ n. s.kept (no_item _ c.is_some-moved.result c.is_some-moved.ensures n)) s.rises s.posted s.loose
    (subst (λ (x : I2cVirt). AreLoose x.loose (i2c_virt_round x)) (sym c.choose-at.ensures.after) c.requires.knows.loose)

pub returns-clause-fits : goal.returns-clause-fits
returns-clause-fits g c = looked_fits _ c.step_at-client.new.self c.look.new.self c.look.ensures.others c.step_at-client.ensures.fits c.look.ensures.knows

pub returns-clause-same : goal.returns-clause-same
returns-clause-same g c = looked_same c.args.self.now c.choose-at.new.self c.step_at-client.new.self c.look.new.self _ c.choose-at.ensures.after c.look.ensures.others c.step_at-client.ensures.same

pub returns-clause-stepped : goal.returns-clause-stepped
returns-clause-stepped g c =
    let s = c.step_at-client.ensures.stepped in
    record {
      body = s.body;
      happened = s.happened;
      kept = λ passed h. subst (λ (v : I2cVirt). I2cVirtStandsFor v (with_deed passed (record { event = c.step_at-client.new.event; body = s.body }))) (sym c.look.ensures.others) (s.kept passed (subst (λ (v : I2cVirt). I2cVirtStandsFor v passed) (sym c.choose-at.ensures.after) (record { work = h.work; log = h.log; back = h.back; stands = h.stands; order = h.order; requests = h.requests; responses = h.responses; out_of_turn = h.out_of_turn; waiting = h.waiting })));
    }

pub returns-clause-turned : goal.returns-clause-turned
returns-clause-turned g c =
    subst (λ (x : I2cVirt). Turned (i2c_virt_round c.args.self.now) c.step_at-client.new.event (i2c_virt_round x)) (sym c.look.ensures.others)
    (virt_turned c.args.self.now c.choose-at.new.self c.step_at-client.new.self c.step_at-client.new.event c.choose-at.result c.choose-at.ensures.place c.choose-at.ensures.there c.choose-at.ensures.after c.step_at-client.ensures.posted c.step_at-client.ensures.same c.step_at-client.ensures.turn c.step_at-client.ensures.still)
