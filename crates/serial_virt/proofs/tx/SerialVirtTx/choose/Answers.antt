use Rattle.std.proofs.Common.{◌≡◌, ◌+◌, ℕ, ◌∙◌, ap, arith}
use Rattle.std.proofs.lemmas.List.{length-map}
use Rattle.turn_kit.specs.Posts.{intake_post}
use Rattle.turn_kit.specs.declared.ends.Intake.{Intake}
use Rattle.turn_kit.proofs.Unsettled.{first_chosen, last_stays, first_within}
use Rattle.turn_kit.specs.Turns.{Choosing}
use Rattle.turn_kit.specs.ManyEnds.{intake_posts, intake_queues, needs_from}
use Rattle.turn_kit.specs.Table.{is_settled}
use Rattle.turn_kit.specs.Turns.{chosen_place, last_after, choice_of}
use Rattle.serial_virt.specs.Sending.{tx_round}
use Rattle.serial_virt.proofs.Counting.{offered_count, tx_choice, tx_first, free_is}
use Rattle.serial_virt.proofs.tx.SerialVirtTx.choose.Goals as goal

count : (c : goal.After-pass-arg-1) → c.offer-choice-2.result.count ≡ 1 + c.len-count.result
count c = ap (λ (x : Choosing). x.count) c.offer-choice-2.ensures ∙ (offered_count c.offer-choice.result 1 (intake_posts c.args.self.now.inputs) (needs_from (λ place. c.is_none-free.result) 0 (intake_queues c.args.self.now.inputs)) ∙ (ap (λ (x : Choosing). x.count) c.offer-choice.ensures ∙ ap (λ (x : Choosing). x.count) c.begin.ensures))

pub pass-requires : goal.pass-requires
pass-requires c = let e = count c in omega (arith, e)

pub returns-clause-within : goal.returns-clause-within
returns-clause-within c = let e = count c.before in omega (arith, e, c.pass.ensures.within, c.len-count.ensures.len)

choice : (c : goal.After-pass-arg-1) → c.offer-choice-2.result ≡ choice_of (tx_round c.args.self.now)
choice c = tx_choice c.args.self.now c.is_none-free.result c.settled-settled.result (1 + c.len-count.result) c.begin.result c.offer-choice.result c.offer-choice-2.result (free_is c.args.self.now.load c.is_none-free.result c.is_none-free.ensures) (c.settled-settled.ensures ∙ ap (λ b. is_settled c.args.self.now.output.state b) c.is_some.ensures) (ap (λ n. 1 + n) c.len-count.ensures.len) c.begin.ensures c.offer-choice.ensures c.offer-choice-2.ensures

pub returns-clause-place : goal.returns-clause-place
returns-clause-place c = c.pass.ensures.place ∙ ap chosen_place (choice c.before)

pub returns-clause-after : goal.returns-clause-after
returns-clause-after c = ap (λ (l : ℕ). record c.args.self.now { turn = record { last = l } }) (c.pass.ensures.last ∙ ap last_after (choice c.before))

pub returns-in-Some-clause-place : goal.returns-in-Some-clause-place
returns-in-Some-clause-place c = first_chosen (tx_round c.args.self.now) c.in-Some.end (tx_first c.args.self.now c.is_none-free.result c.settled-settled.result _ _ _ c.in-Some.end (free_is c.args.self.now.load c.is_none-free.result c.is_none-free.ensures) (c.settled-settled.ensures ∙ ap (λ b. is_settled c.args.self.now.output.state b) c.is_some.ensures) c.none.ensures c.unless_settled-lowest.ensures c.unsettled-lowest.ensures c.in-Some.ensures)

pub returns-in-Some-clause-within : goal.returns-in-Some-clause-within
returns-in-Some-clause-within c =
    let w = first_within (tx_round c.args.self.now) c.in-Some.end (tx_first c.args.self.now c.is_none-free.result c.settled-settled.result _ _ _ c.in-Some.end (free_is c.args.self.now.load c.is_none-free.result c.is_none-free.ensures) (c.settled-settled.ensures ∙ ap (λ b. is_settled c.args.self.now.output.state b) c.is_some.ensures) c.none.ensures c.unless_settled-lowest.ensures c.unsettled-lowest.ensures c.in-Some.ensures) in
    let queues = length-map c.args.self.now.inputs.ends.items (λ (i : Intake). i.queue) in
    let posts = length-map c.args.self.now.inputs.ends.items intake_post in
    omega (arith, w, queues, posts)

pub returns-in-Some-clause-after : goal.returns-in-Some-clause-after
returns-in-Some-clause-after c = ap (λ (l : ℕ). record c.args.self.now { turn = record { last = l } }) (last_stays (tx_round c.args.self.now) c.in-Some.end (tx_first c.args.self.now c.is_none-free.result c.settled-settled.result _ _ _ c.in-Some.end (free_is c.args.self.now.load c.is_none-free.result c.is_none-free.ensures) (c.settled-settled.ensures ∙ ap (λ b. is_settled c.args.self.now.output.state b) c.is_some.ensures) c.none.ensures c.unless_settled-lowest.ensures c.unsettled-lowest.ensures c.in-Some.ensures))
