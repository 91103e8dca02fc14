use Rattle.std.proofs.Common.{◌≡◌, ◌+◌, ℕ, Bool, true, false, not, Option, Some, None, is_some, is_none, List, [], ◌∷◌, length, refl, sym, ap, ◌∙◌, arith}
use Rattle.std.proofs.lemmas.List.{length-map}
use Rattle.turn_kit.specs.Turns.{Post, Choosing, choice_with, offered_from, choosing, choice_of, lower_if, unsettled_from}
use Rattle.turn_kit.specs.declared.turns.Stand.{Stand}
use Rattle.turn_kit.specs.Table.{is_settled}
use Rattle.turn_kit.specs.Posts.{intake_post}
use Rattle.turn_kit.specs.Posts.{outlet_post}
use Rattle.turn_kit.specs.ManyEnds.{intake_queues, intake_posts, outlet_queues, outlet_posts, needs_from, is_here}
use Rattle.turn_kit.specs.declared.ends.Intake.{Intake}
use Rattle.turn_kit.specs.declared.ends.Outlet.{Outlet}
use Rattle.wire_core.specs.Deeds.{Cargo}
use Rattle.serial_virt.specs.declared.tx.SerialVirtTx.{SerialVirtTx}
use Rattle.serial_virt.specs.declared.rx.SerialVirtRx.{SerialVirtRx}
use Rattle.turn_kit.proofs.Dropped.{drops_length, offered_same, unsettled_same}
use Rattle.serial_virt.specs.Receiving.{rx_round, client_posts, place_loaded}
use Rattle.serial_virt.specs.Sending.{tx_round}

-- offering ends changes no count
pub offered_count : (c : Choosing) (place : ℕ) (ps : List Post) (ns : List Bool) → (offered_from c place ps ns).count ≡ c.count
offered_count c place [] ns = refl
offered_count c place (p ∷ ps) [] = refl
offered_count c place (p ∷ ps) (n ∷ ns) = offered_count (choice_with c (record { queue = p.queue; place = place }) (is_settled p.state n)) (place + 1) ps ns

-- nothing is loaded
pub free_is : (load : Option Cargo) (free : Bool) → is_some load ≡ not free → free ≡ is_none load
free_is None true h = refl
free_is None false h = cc
free_is (Some c) true h = cc
free_is (Some c) false h = refl

-- the output of the sending virtualiser was offered, and then its inputs
pub tx_choice : (v : SerialVirtTx) (b s : Bool) (n : ℕ) (c0 c1 c2 : Choosing) → b ≡ is_none v.load → s ≡ is_settled v.output.state (is_some v.load) → n ≡ 1 + length (intake_queues v.inputs) → c0 ≡ choosing n v.turn.last
    → c1 ≡ choice_with c0 (record { queue = v.output.queue.0; place = 0 }) s → c2 ≡ offered_from c1 1 (intake_posts v.inputs) (needs_from (λ place. b) 0 (intake_queues v.inputs)) → c2 ≡ choice_of (tx_round v)
tx_choice v b s n c0 c1 c2 free settled count h0 h1 h2 =
    let long = length-map v.inputs.ends.items (λ (i : Intake). i.queue) in
    let posts = length-map v.inputs.ends.items intake_post in
    let all : n ≡ length (tx_round v).posts = omega (arith, count, long, posts) in
    h2 ∙ (ap (λ x. offered_from c1 1 (intake_posts v.inputs) (needs_from (λ place. x) 0 (intake_queues v.inputs))) free
    ∙ ap (λ c. offered_from c 1 (intake_posts v.inputs) (needs_from (λ place. is_none v.load) 0 (intake_queues v.inputs)))
    (h1 ∙ (ap (λ x. choice_with c0 (record { queue = v.output.queue.0; place = 0 }) x) settled
    ∙ ap (λ c. choice_with c (record { queue = v.output.queue.0; place = 0 }) (is_settled v.output.state (is_some v.load))) (h0 ∙ ap (λ m. choosing m v.turn.last) all))))

-- the input of the receiving virtualiser was offered, and then its outputs
pub rx_choice : (v : SerialVirtRx) (s : Bool) (owed : Option ℕ) (n : ℕ) (c0 c1 c2 : Choosing) → s ≡ is_settled v.input.state (is_none v.load) → owed ≡ place_loaded v → n ≡ 1 + length (outlet_queues v.outputs) → c0 ≡ choosing n v.turn.last
    → c1 ≡ choice_with c0 (record { queue = v.input.queue.0; place = 0 }) s → c2 ≡ offered_from c1 1 (outlet_posts v.outputs) (needs_from (is_here owed) 0 (outlet_queues v.outputs)) → c2 ≡ choice_of (rx_round v)
rx_choice v s owed n c0 c1 c2 settled here count h0 h1 h2 =
    let long = length-map v.outputs.ends.items (λ (o : Outlet). o.queue) in
    let posts = length-map v.outputs.ends.items outlet_post in
    let d = drops_length v.drops.items (outlet_posts v.outputs) in
    let all : n ≡ length (rx_round v).posts = omega (arith, count, long, posts, d) in
    h2 ∙ (ap (λ (x : Option ℕ). offered_from c1 1 (outlet_posts v.outputs) (needs_from (is_here x) 0 (outlet_queues v.outputs))) here
    ∙ (sym (offered_same c1 1 v.drops.items (outlet_posts v.outputs) (needs_from (is_here (place_loaded v)) 0 (outlet_queues v.outputs)))
    ∙ ap (λ c. offered_from c 1 (client_posts v) (needs_from (is_here (place_loaded v)) 0 (outlet_queues v.outputs)))
    (h1 ∙ (ap (λ x. choice_with c0 (record { queue = v.input.queue.0; place = 0 }) x) settled
    ∙ ap (λ c. choice_with c (record { queue = v.input.queue.0; place = 0 }) (is_settled v.input.state (is_none v.load))) (h0 ∙ ap (λ m. choosing m v.turn.last) all)))))

-- the lowest unsettled end of the sending virtualiser was found
pub tx_first : (v : SerialVirtTx) (b s : Bool) (x0 x1 x2 : Option Stand) (one : Stand) → b ≡ is_none v.load → s ≡ is_settled v.output.state (is_some v.load) → x0 ≡ None
    → x1 ≡ lower_if (not s) x0 (record { queue = v.output.queue.0; place = 0 }) → x2 ≡ unsettled_from x1 1 (intake_posts v.inputs) (needs_from (λ place. b) 0 (intake_queues v.inputs)) → Some one ≡ x2 → unsettled_from None 0 (tx_round v).posts (tx_round v).needs ≡ Some one
tx_first v b s x0 x1 x2 one free settled none e1 e2 is =
    let first : x1 ≡ lower_if (not (is_settled v.output.state (is_some v.load))) None (record { queue = v.output.queue.0; place = 0 }) = e1 ∙ (ap (λ y. lower_if (not y) x0 (record { queue = v.output.queue.0; place = 0 })) settled ∙ ap (λ (x : Option Stand). lower_if (not (is_settled v.output.state (is_some v.load))) x (record { queue = v.output.queue.0; place = 0 })) none) in
    sym (e2 ∙ (ap (λ x. unsettled_from x1 1 (intake_posts v.inputs) (needs_from (λ place. x) 0 (intake_queues v.inputs))) free
    ∙ ap (λ (x : Option Stand). unsettled_from x 1 (intake_posts v.inputs) (needs_from (λ place. is_none v.load) 0 (intake_queues v.inputs))) first)) ∙ sym is

-- and that of the receiving one
pub rx_first : (v : SerialVirtRx) (s : Bool) (owed : Option ℕ) (x0 x1 x2 : Option Stand) (one : Stand) → s ≡ is_settled v.input.state (is_none v.load) → owed ≡ place_loaded v → x0 ≡ None
    → x1 ≡ lower_if (not s) x0 (record { queue = v.input.queue.0; place = 0 }) → x2 ≡ unsettled_from x1 1 (outlet_posts v.outputs) (needs_from (is_here owed) 0 (outlet_queues v.outputs)) → Some one ≡ x2 → unsettled_from None 0 (rx_round v).posts (rx_round v).needs ≡ Some one
rx_first v s owed x0 x1 x2 one settled here none e1 e2 is =
    let first : x1 ≡ lower_if (not (is_settled v.input.state (is_none v.load))) None (record { queue = v.input.queue.0; place = 0 }) = e1 ∙ (ap (λ b. lower_if (not b) x0 (record { queue = v.input.queue.0; place = 0 })) settled ∙ ap (λ (x : Option Stand). lower_if (not (is_settled v.input.state (is_none v.load))) x (record { queue = v.input.queue.0; place = 0 })) none) in
    sym (e2 ∙ (ap (λ (o : Option ℕ). unsettled_from x1 1 (outlet_posts v.outputs) (needs_from (is_here o) 0 (outlet_queues v.outputs))) here
    ∙ (sym (unsettled_same x1 1 v.drops.items (outlet_posts v.outputs) (needs_from (is_here (place_loaded v)) 0 (outlet_queues v.outputs)))
    ∙ ap (λ (x : Option Stand). unsettled_from x 1 (client_posts v) (needs_from (is_here (place_loaded v)) 0 (outlet_queues v.outputs))) first))) ∙ sym is
