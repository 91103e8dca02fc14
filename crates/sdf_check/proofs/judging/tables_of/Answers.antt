use Rattle.std.proofs.Common.{ℕ, List, Option, map, subst, sym}
use Rattle.sdf_plan.specs.declared.plan.Region.{Region}
use Rattle.sdf_check.specs.Rules.{given_range}
use Rattle.sdf_check.specs.Meetings.{IsFirstMeeting, AreFirstMaps}
use Rattle.sdf_check.proofs.judging.tables_of.Goals as goal

pub returns : goal.returns
returns c = record {
  classes = c.in_ok-classes.ensures;
  given = subst (λ (regions : List Region). IsFirstMeeting (map given_range regions) c.in_ok-given.given) c.as_slice.ensures c.in_ok-given.ensures;
  maps = subst (λ (firsts : List (Option ℕ)). AreFirstMaps c.args.judge.now.plan.now firsts) (sym c.from_vec-maps.ensures) c.in_ok-first_maps.ensures;
  uses = c.in_ok-uses.ensures;
  domains = c.in_ok-named_domains.ensures c.args.judge.now.plan.now c.in_ok-classes.ensures;
  regions = c.in_ok-named_regions.ensures c.args.judge.now.plan.now c.in_ok-classes.ensures;
}
