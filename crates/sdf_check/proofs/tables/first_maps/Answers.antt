use Rattle.std.proofs.Common.{◌≡◌, ◌+◌, ◌∙◌, ap, arith, length, List, length-append, ◌<◌, Option, ℕ}
use Rattle.sdf_plan.specs.declared.plan.Domain.{Domain}
use Rattle.std.proofs.lemmas.Option.{slice_get_within}
use Rattle.sdf_check.proofs.MeetingLemmas.{firsts-step}
use Rattle.sdf_check.proofs.tables.first_maps.Goals as goal

pub loop-domain-preserved : goal.loop-domain-preserved
loop-domain-preserved c =
    let one : length c.push.new.self.items ≡ c.loop-domain.domain-index + 1 =
    let e : length c.push.new.self.items ≡ length c.loop-domain.firsts.items + 1 = ap (λ (xs : List (Option ℕ)). length xs) c.in_ok-push.ensures.items ∙ length-append _ _ in
    omega (arith, e, c.loop-domain.invariant.0) in (
      one,
      firsts-step c.args.judge.now.plan.now c.as_slice-domain-items.result.now c.loop-domain.firsts.items c.push.new.self.items c.loop-domain.domain-index c.domain-item.result
          c.as_slice.result.now c.in_ok-first_map.field-0 c.as_slice-domain-items.ensures c.loop-domain-test.true c.domain-item.is c.as_slice.ensures c.in_ok-first_map.ensures
          c.in_ok-push.ensures.items c.loop-domain.invariant.0 c.loop-domain.invariant.1,
    )

pub returns : goal.returns
returns c = λ d domain there.
    let same : length c.as_slice-domain-items.result.now ≡ length c.args.judge.now.plan.now.protection_domain = ap (λ (xs : List Domain). length xs) c.as_slice-domain-items.ensures in
    let within : d < length c.args.judge.now.plan.now.protection_domain = slice_get_within _ _ _ there in
    c.loop-domain.invariant.1 d domain (omega (arith, same, within, c.loop-domain-test.false)) there
