use Rattle.std.proofs.Common.{List, Option, map, ◌∙◌, ap, subst}
use Rattle.std.specs.Result.{IfOk}
use Rattle.std.proofs.lemmas.List.{take_all}
use Rattle.sdf_check.specs.Rules.{Range, map_range}
use Rattle.sdf_check.specs.Meetings.{IsFirstMeeting}
use Rattle.sdf_check.proofs.tables.first_map.Goals as goal

pub returns : goal.returns
returns c =
    subst (λ (ranges : List (Option Range)). IfOk c.first_meeting.result (λ first. IsFirstMeeting ranges first))
    (c.deref.ensures.value ∙ c.loop-map.invariant ∙ ap (map (map_range c.args.judge.now.plan.now)) (take_all _ _ c.loop-map-test.false)) c.first_meeting.ensures
