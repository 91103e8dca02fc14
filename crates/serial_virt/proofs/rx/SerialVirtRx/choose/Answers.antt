use Rattle.std.proofs.Common.{◌≡◌, ◌+◌, ℕ, ◌∙◌, ap, arith}
use Rattle.std.proofs.lemmas.List.{length-map}
use Rattle.turn_kit.specs.Posts.{outlet_post}
use Rattle.turn_kit.specs.declared.ends.Outlet.{Outlet}
use Rattle.turn_kit.proofs.Unsettled.{first_chosen, last_stays, first_within}
use Rattle.turn_kit.specs.Turns.{Choosing}
use Rattle.turn_kit.specs.ManyEnds.{outlet_posts, outlet_queues, needs_from, is_here}
use Rattle.turn_kit.specs.Table.{is_settled}
use Rattle.turn_kit.specs.Turns.{chosen_place, last_after, choice_of}
use Rattle.turn_kit.proofs.Dropped.{drops_length}
use Rattle.serial_virt.specs.Receiving.{rx_round}
use Rattle.serial_virt.proofs.Counting.{offered_count, rx_choice, rx_first, free_is}
use Rattle.serial_virt.proofs.rx.SerialVirtRx.choose.Goals as goal

count : (c : goal.After-pass-arg-1) → c.offer-choice-2.result.count ≡ 1 + c.len-count.result
count c = ap (λ (x : Choosing). x.count) c.offer-choice-2.ensures ∙ (offered_count c.offer-choice.result 1 (outlet_posts c.args.self.now.outputs) (needs_from (is_here c.client_owed-owed.result) 0 (outlet_queues c.args.self.now.outputs)) ∙ (ap (λ (x : Choosing). x.count) c.offer-choice.ensures ∙ ap (λ (x : Choosing). x.count) c.begin.ensures))

pub pass-requires : goal.pass-requires
pass-requires c = let e = count c in omega (arith, e)

pub returns-clause-within : goal.returns-clause-within
returns-clause-within c = let e = count c.before in omega (arith, e, c.pass.ensures.within, c.len-count.ensures.len)

choice : (c : goal.After-pass-arg-1) → c.offer-choice-2.result ≡ choice_of (rx_round c.args.self.now)
choice c = rx_choice c.args.self.now c.settled-settled.result c.client_owed-owed.result (1 + c.len-count.result) c.begin.result c.offer-choice.result c.offer-choice-2.result (c.settled-settled.ensures ∙ ap (λ b. is_settled c.args.self.now.input.state b) (free_is c.args.self.now.load c.is_none.result c.is_none.ensures)) c.client_owed-owed.ensures (ap (λ n. 1 + n) c.len-count.ensures.len) c.begin.ensures c.offer-choice.ensures c.offer-choice-2.ensures

pub returns-clause-place : goal.returns-clause-place
returns-clause-place c = c.pass.ensures.place ∙ ap chosen_place (choice c.before)

pub returns-clause-after : goal.returns-clause-after
returns-clause-after c = ap (λ (l : ℕ). record c.args.self.now { turn = record { last = l } }) (c.pass.ensures.last ∙ ap last_after (choice c.before))

pub returns-in-Some-clause-place : goal.returns-in-Some-clause-place
returns-in-Some-clause-place c = first_chosen (rx_round c.args.self.now) c.in-Some.end (rx_first c.args.self.now c.settled-settled.result c.client_owed-owed.result _ _ _ c.in-Some.end (c.settled-settled.ensures ∙ ap (λ b. is_settled c.args.self.now.input.state b) (free_is c.args.self.now.load c.is_none.result c.is_none.ensures)) c.client_owed-owed.ensures c.none.ensures c.unless_settled-lowest.ensures c.unsettled-lowest.ensures c.in-Some.ensures)

pub returns-in-Some-clause-within : goal.returns-in-Some-clause-within
returns-in-Some-clause-within c =
    let w = first_within (rx_round c.args.self.now) c.in-Some.end (rx_first c.args.self.now c.settled-settled.result c.client_owed-owed.result _ _ _ c.in-Some.end (c.settled-settled.ensures ∙ ap (λ b. is_settled c.args.self.now.input.state b) (free_is c.args.self.now.load c.is_none.result c.is_none.ensures)) c.client_owed-owed.ensures c.none.ensures c.unless_settled-lowest.ensures c.unsettled-lowest.ensures c.in-Some.ensures) in
    let queues = length-map c.args.self.now.outputs.ends.items (λ (o : Outlet). o.queue) in
    let posts = length-map c.args.self.now.outputs.ends.items outlet_post in
    let d = drops_length c.args.self.now.drops.items (outlet_posts c.args.self.now.outputs) in
    omega (arith, w, queues, posts, d)

pub returns-in-Some-clause-after : goal.returns-in-Some-clause-after
returns-in-Some-clause-after c = ap (λ (l : ℕ). record c.args.self.now { turn = record { last = l } }) (last_stays (rx_round c.args.self.now) c.in-Some.end (rx_first c.args.self.now c.settled-settled.result c.client_owed-owed.result _ _ _ c.in-Some.end (c.settled-settled.ensures ∙ ap (λ b. is_settled c.args.self.now.input.state b) (free_is c.args.self.now.load c.is_none.result c.is_none.ensures)) c.client_owed-owed.ensures c.none.ensures c.unless_settled-lowest.ensures c.unsettled-lowest.ensures c.in-Some.ensures))
