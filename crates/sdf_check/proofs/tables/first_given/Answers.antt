use Rattle.std.proofs.Common.{List, Option, map, ◌∙◌, ap, subst}
use Rattle.std.specs.Result.{IfOk}
use Rattle.std.proofs.lemmas.List.{take_all}
use Rattle.sdf_check.specs.Rules.{Range, given_range}
use Rattle.sdf_check.specs.Meetings.{IsFirstMeeting}
use Rattle.sdf_check.proofs.tables.first_given.Goals as goal

pub returns : goal.returns
returns c =
    subst (λ (ranges : List (Option Range)). IfOk c.first_meeting.result (λ first. IsFirstMeeting ranges first))
    (c.deref.ensures.value ∙ c.loop-region.invariant ∙ ap (map given_range) (take_all _ _ c.loop-region-test.false)) c.first_meeting.ensures
