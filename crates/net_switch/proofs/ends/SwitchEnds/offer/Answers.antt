use Rattle.std.proofs.Common.{◌≡◌, ◌+◌, ◌*◌, ◌∙◌, length, ap, arith, refl}
use Rattle.turn_kit.specs.Turns.{Choosing, offered_from}
use Rattle.turn_kit.specs.ManyEnds.{intake_posts, outlet_posts, needs_from}
use Rattle.net_switch.specs.Ends.{come_queues, back_queues, room_queues, copy_queues}
use Rattle.buffer_kit.proofs.TwoLists.{offered_count}
use Rattle.net_switch.proofs.Rounds.{all_offered}
use Rattle.net_switch.proofs.ends.SwitchEnds.offer.Goals as goal

pub offer-choice-requires-2 : goal.offer-choice-requires-2
offer-choice-requires-2 g c =
    let a : c.offer-choice.result.count ≡ 4 * c.len-ports.result = ap (λ (x : Choosing). x.count) c.offer-choice.ensures ∙ (offered_count c.begin-choice.result 0 (intake_posts c.args.self.now.come) (needs_from (g.T.Needs.need c.args.taking.now) 0 (come_queues c.args.self.now)) ∙ ap (λ (x : Choosing). x.count) c.begin-choice.ensures) in
    omega (arith, a, c.len-ports.ensures.len, c.requires.back)

pub offer-choice-requires-3 : goal.offer-choice-requires-3
offer-choice-requires-3 g c =
    let a : c.offer-choice.result.count ≡ 4 * c.len-ports.result = ap (λ (x : Choosing). x.count) c.offer-choice.ensures ∙ (offered_count c.begin-choice.result 0 (intake_posts c.args.self.now.come) (needs_from (g.T.Needs.need c.args.taking.now) 0 (come_queues c.args.self.now)) ∙ ap (λ (x : Choosing). x.count) c.begin-choice.ensures) in
    let b : c.offer-choice-2.result.count ≡ c.offer-choice.result.count = ap (λ (x : Choosing). x.count) c.offer-choice-2.ensures ∙ offered_count c.offer-choice.result c.len-ports.result (outlet_posts c.args.self.now.back) (needs_from (g.R.Needs.need c.args.returning.now) 0 (back_queues c.args.self.now)) in
    omega (arith, a, b, c.len-ports.ensures.len, c.requires.room)

pub offer-requires : goal.offer-requires
offer-requires g c =
    let a : c.offer-choice.result.count ≡ 4 * c.len-ports.result = ap (λ (x : Choosing). x.count) c.offer-choice.ensures ∙ (offered_count c.begin-choice.result 0 (intake_posts c.args.self.now.come) (needs_from (g.T.Needs.need c.args.taking.now) 0 (come_queues c.args.self.now)) ∙ ap (λ (x : Choosing). x.count) c.begin-choice.ensures) in
    let b : c.offer-choice-2.result.count ≡ c.offer-choice.result.count = ap (λ (x : Choosing). x.count) c.offer-choice-2.ensures ∙ offered_count c.offer-choice.result c.len-ports.result (outlet_posts c.args.self.now.back) (needs_from (g.R.Needs.need c.args.returning.now) 0 (back_queues c.args.self.now)) in
    let e : c.offer-choice-3.result.count ≡ c.offer-choice-2.result.count = ap (λ (x : Choosing). x.count) c.offer-choice-3.ensures ∙ offered_count c.offer-choice-2.result (2 * c.len-ports.result) (intake_posts c.args.self.now.room) (needs_from (g.N.Needs.need c.args.wanting.now) 0 (room_queues c.args.self.now)) in
    omega (arith, a, b, e, c.len-ports.ensures.len, c.requires.copy)

pub returns : goal.returns
returns g c =
    all_offered c.args.self.now (g.T.Needs.need c.args.taking.now) (g.R.Needs.need c.args.returning.now) (g.N.Needs.need c.args.wanting.now) (g.L.Needs.need c.args.loaded.now) (record { back = c.requires.back; room = c.requires.room; copy = c.requires.copy })
    (4 * c.len-ports.result) c.len-ports.result c.begin-choice.result c.offer-choice.result c.offer-choice-2.result c.offer-choice-3.result _ c.len-ports.ensures.len refl c.begin-choice.ensures c.offer-choice.ensures c.offer-choice-2.ensures c.offer-choice-3.ensures c.offer.ensures
