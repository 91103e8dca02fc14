use Rattle.std.proofs.Common.{◌≡◌, ◌+◌, ◌∙◌, length, ap, arith}
use Rattle.turn_kit.specs.Turns.{Choosing}
use Rattle.buffer_kit.specs.Virtualising.{from_queues, to_queues}
use Rattle.buffer_kit.proofs.VirtTurns.{choice_count}
use Rattle.buffer_kit.proofs.virt_ends.VirtEnds.choose.Goals as goal

pub pass-place-requires : goal.pass-place-requires
pass-place-requires g c =
    let e : c.offer-choice.result.count ≡ 2 + length (from_queues c.args.self.now) + length (to_queues c.args.self.now) = ap (λ (x : Choosing). x.count) c.offer-choice.ensures ∙ choice_count c.args.self.now c.args.need c.args.owed (g.N.Needs.need c.args.needs.now) (g.L.Needs.need c.args.loads.now) in
    omega (arith, e)

pub end_at-requires-clause-within : goal.end_at-requires-clause-within
end_at-requires-clause-within g c =
    let e : c.offer-choice.result.count ≡ 2 + length (from_queues c.args.self.now) + length (to_queues c.args.self.now) = ap (λ (x : Choosing). x.count) c.offer-choice.ensures ∙ choice_count c.args.self.now c.args.need c.args.owed (g.N.Needs.need c.args.needs.now) (g.L.Needs.need c.args.loads.now) in
    omega (arith, e, c.pass-place.ensures.within)
