use Rattle.std.proofs.Common.{◌≡◌, ◌+◌, ◌*◌, ◌∙◌, length, ap, arith}
use Rattle.turn_kit.specs.Turns.{Choosing}
use Rattle.net_switch.specs.Ends.{come_queues}
use Rattle.net_switch.proofs.Rounds.{choice_count}
use Rattle.net_switch.proofs.ends.SwitchEnds.choose.Goals as goal

pub pass-place-requires : goal.pass-place-requires
pass-place-requires g c =
    let e : c.offer-choice.result.count ≡ 4 * length (come_queues c.args.self.now) = ap (λ (x : Choosing). x.count) c.offer-choice.ensures ∙ choice_count c.args.self.now (g.T.Needs.need c.args.taking.now) (g.R.Needs.need c.args.returning.now) (g.N.Needs.need c.args.wanting.now) (g.L.Needs.need c.args.loaded.now) (record { back = c.requires.back; room = c.requires.room; copy = c.requires.copy }) in
    omega (arith, e, c.requires.some)

pub end_at-requires-clause-within : goal.end_at-requires-clause-within
end_at-requires-clause-within g c =
    let e : c.offer-choice.result.count ≡ 4 * length (come_queues c.args.self.now) = ap (λ (x : Choosing). x.count) c.offer-choice.ensures ∙ choice_count c.args.self.now (g.T.Needs.need c.args.taking.now) (g.R.Needs.need c.args.returning.now) (g.N.Needs.need c.args.wanting.now) (g.L.Needs.need c.args.loaded.now) (record { back = c.requires.back; room = c.requires.room; copy = c.requires.copy }) in
    omega (arith, e, c.pass-place.ensures.within)
