use Rattle.std.proofs.Common.{nat_cmp}
use Rattle.std.specs.Option.{IsSome}
use Rattle.std.specs.BTreeMap.{get}
use Rattle.sdf_check.proofs.SweepLemmas.{less-from-cmp, cmp-from-less, at-most-from-cmp, some-is}
use Rattle.sdf_check.proofs.sweep.last_before.Goals as goal

pub returns-in-Some : goal.returns-in-Some
returns-in-Some c =
    let r = c.range.ensures.in_range tt in
    let e = r.3 _ _ c.in-Some.ensures.steps in (
      e.1,
      less-from-cmp _ _ e.0.1,
      λ base last is less.
          let some : IsSome (get nat_cmp c.args.kept.now base) = some-is _ _ is in
          at-most-from-cmp _ _ (r.4 _ _ c.in-Some.ensures.steps base (tt, cmp-from-less base c.args.end less) some),
    )
