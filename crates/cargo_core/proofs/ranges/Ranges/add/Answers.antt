use Rattle.std.proofs.Common.{◌≡◌, ◌<◌, ◌^◌, List, All, length, subst}
use Rattle.cargo_core.specs.declared.ranges.Range.{Range}
use Rattle.cargo_core.specs.Ranges.{IsApart}
use Rattle.cargo_core.proofs.Ranging.{added}
use Rattle.cargo_core.proofs.ranges.Ranges.add.Goals as goal

pub invariant_of-self-2 : goal.invariant_of-self-2
invariant_of-self-2 c =
    let seen : c.args.self.now ≡ c.self.inside.ranges.items = cc in
    let range : Range = record { base = c.args.base; size = c.args.size } in
    rw c.in_ok-push.ensures.items (added c.self.inside.ranges.items range c.self.invariant (subst (λ (xs : List Range). All (IsApart range) xs) seen c.requires.apart) c.requires.end (subst (λ (xs : List Range). length xs < 2 ^ 32) seen c.requires.few))
