-- A layout has fewer queues than 2^40: eight at most for each class and each client.
use Rattle.std.proofs.Common.{◌≡◌, ◌+◌, ◌*◌, ◌^◌, ◌<◌, ◌≤◌, ℕ, Option, Some, None, IfSome, List, [], ◌∷◌, ◌++◌, length, ap, ◌∙◌, arith}
use Rattle.std.specs.List.{flat_map}
use Rattle.std.specs.Option.{option_map_or}
use Rattle.std.proofs.lemmas.List.{length-append, length-map}
use Rattle.std.proofs.lemmas.Grind.{flat_map-append}
use Rattle.sdf_plan.specs.declared.plan.Plan.{Plan}
use Rattle.sdf_plan.specs.declared.plan.Net.{Net}
use Rattle.sdf_plan.specs.declared.plan.Serial.{Serial}
use Rattle.sdf_plan.specs.declared.plan.Blk.{Blk}
use Rattle.sdf_plan.specs.Elements.{IsNumbered}
use Rattle.sdf_plan.specs.ClassTable.Table.{Element, numbered, net_element, net_client_element, net_elements, serial_element, serial_client_element, serial_elements, blk_element, blk_client_element, blk_elements, table_of}
use Rattle.region_layout.specs.declared.layout.Layout.{Layout}
use Rattle.region_layout.specs.Layouts.{layout_of}
use Rattle.region_layout.specs.Rows.{queue_row, queue_rows, queues_of}

-- the queues of an element and of those behind it
few-more : (plan : Plan) (e : Element) (es : List Element) (n : ℕ) → length e.queues ≤ 8 → length (flat_map (queue_rows plan) es) ≤ n
    → length (flat_map (queue_rows plan) (e ∷ es)) ≤ 8 + n
few-more plan e es n h k =
    let a = length-append (queue_rows plan e) (flat_map (queue_rows plan) es) in
    let m = length-map e.queues (queue_row plan e.place) in
    omega (arith, a, m, h, k)

-- the queues of the clients of a class
few-clients : {C : Type 0} (plan : Plan) (give : ℕ → C → Element) → ((c : ℕ) (x : C) → length (give c x).queues ≤ 8) → (c : ℕ) (xs : List C)
    → length (flat_map (queue_rows plan) (numbered give c xs)) ≤ 8 * length xs
few-clients plan give h c [] = omega arith
few-clients plan give h c (x ∷ xs) =
    let r = few-more plan (give c x) (numbered give (c + 1) xs) (8 * length xs) (h c x) (few-clients plan give h (c + 1) xs) in
    omega (arith, r)

few-net : (plan : Plan) (o : Option Net) → IfSome o (λ (n : Net). length n.client < 2 ^ 32) → length (flat_map (queue_rows plan) (option_map_or net_elements o [])) ≤ 34359738376
few-net plan None h = omega arith
few-net plan (Some net) h =
    let r = few-more plan (net_element net) (numbered (net_client_element net) 0 net.client) (8 * length net.client) (omega arith) (few-clients plan (net_client_element net) (λ c x. omega arith) 0 net.client) in
    omega (arith, r, h)

few-serial : (plan : Plan) (o : Option Serial) → IfSome o (λ (n : Serial). length n.client < 2 ^ 32) → length (flat_map (queue_rows plan) (option_map_or serial_elements o [])) ≤ 34359738376
few-serial plan None h = omega arith
few-serial plan (Some s) h =
    let r = few-more plan (serial_element s) (numbered (serial_client_element s) 0 s.client) (8 * length s.client) (omega arith) (few-clients plan (serial_client_element s) (λ c x. omega arith) 0 s.client) in
    omega (arith, r, h)

few-blk : (plan : Plan) (o : Option Blk) → IfSome o (λ (n : Blk). length n.client < 2 ^ 32) → length (flat_map (queue_rows plan) (option_map_or blk_elements o [])) ≤ 34359738376
few-blk plan None h = omega arith
few-blk plan (Some b) h =
    let r = few-more plan (blk_element b) (numbered (blk_client_element b) 0 b.client) (8 * length b.client) (omega arith) (few-clients plan (blk_client_element b) (λ c x. omega arith) 0 b.client) in
    omega (arith, r, h)

few-two : (plan : Plan) (a b : List Element) → length (flat_map (queue_rows plan) (a ++ b)) ≡ length (flat_map (queue_rows plan) a) + length (flat_map (queue_rows plan) b)
few-two plan a b = ap length (flat_map-append (queue_rows plan) a b) ∙ length-append (flat_map (queue_rows plan) a) (flat_map (queue_rows plan) b)

few-queues : (plan : Plan) → IsNumbered plan → length (queues_of plan) ≤ 2 ^ 40
unfolding queues_of table_of
few-queues plan h =
    let net = option_map_or net_elements plan.net [] in
    let serial = option_map_or serial_elements plan.serial [] in
    let blk = option_map_or blk_elements plan.blk [] in
    let e = few-two plan (net ++ serial) blk in
    let f = few-two plan net serial in
    let a = few-net plan plan.net h.net in
    let b = few-serial plan plan.serial h.serial in
    let c = few-blk plan plan.blk h.blk in
    omega (arith, e, f, a, b, c)

-- the queues of a layout
pub few-rows : (plan : Plan) (layout : Layout) → IsNumbered plan → layout ≡ layout_of plan → length layout.queues ≤ 2 ^ 40
unfolding layout_of
few-rows plan layout h is =
    let e = ap (λ (l : Layout). length l.queues) is in
    let q = few-queues plan h in
    omega (arith, e, q)

pub ruleset row_lemmas = (few-rows)
