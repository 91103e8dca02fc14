use Rattle.std.proofs.Common.{◌≡◌, ◌+◌, ◌∙◌, ap, arith}
use Rattle.turn_kit.specs.Turns.{Choosing, offered_from}
use Rattle.turn_kit.specs.ManyEnds.{intake_posts, outlet_posts, needs_from}
use Rattle.buffer_kit.specs.Virtualising.{from_queues, to_queues}
use Rattle.buffer_kit.proofs.TwoLists.{offered_count}
use Rattle.buffer_kit.proofs.VirtTurns.{all_offered}
use Rattle.buffer_kit.proofs.virt_ends.VirtEnds.offer.Goals as goal

pub offer-requires-2 : goal.offer-requires-2
offer-requires-2 g c =
    let e : c.offer-choice-2.result.count ≡ 2 + c.len-clients.result + c.len.result =
    ap (λ (x : Choosing). x.count) c.offer-choice-2.ensures ∙ (offered_count c.offer-choice.result 2 (intake_posts c.args.self.now.from_clients) (needs_from (g.N.Needs.need c.args.needs.now) 0 (from_queues c.args.self.now))
    ∙ (ap (λ (x : Choosing). x.count) c.offer-choice.ensures ∙ (ap (λ (x : Choosing). x.count) c.offer.ensures ∙ ap (λ (x : Choosing). x.count) c.begin.ensures))) in
    omega (arith, e, c.len.ensures.len)

pub returns : goal.returns
returns g c = all_offered c.args.self.now c.args.need c.args.owed c.settled.result c.settled-2.result (g.N.Needs.need c.args.needs.now) (g.L.Needs.need c.args.loads.now) (2 + c.len-clients.result + c.len.result) c.begin.result c.offer.result c.offer-choice.result c.offer-choice-2.result _
    (omega (arith, c.len-clients.ensures.len, c.len.ensures.len)) c.settled.ensures c.settled-2.ensures c.begin.ensures c.offer.ensures c.offer-choice.ensures c.offer-choice-2.ensures (c.offer-2.ensures ∙ ap (λ n. offered_from c.offer-choice-2.result (2 + n) (outlet_posts c.args.self.now.to_clients) (needs_from (g.L.Needs.need c.args.loads.now) 0 (to_queues c.args.self.now))) c.len-clients.ensures.len)
