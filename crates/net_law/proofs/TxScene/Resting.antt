-- All its ends are settled where those are that the table wants, whoever its clients are.
use Rattle.std.proofs.Common.{◌≡◌, true, List, [], length, nat_lt, sym, ap, ◌∙◌}
use Rattle.std.proofs.lemmas.List.{length-map}
use Rattle.wire_core.specs.declared.names.Entry.{Entry}
use Rattle.wire_core.specs.Lists.{Passed}
use Rattle.wire_core.specs.Journal.{History}
use Rattle.wire_core.specs.Queues.{Queue, end_at}
use Rattle.turn_kit.specs.Turns.{is_at_rest}
use Rattle.turn_kit.specs.Posts.{intake_post, outlet_post}
use Rattle.turn_kit.specs.ManyEnds.{intake_posts, outlet_posts, needs_from}
use Rattle.turn_kit.specs.declared.ends.Intake.{Intake}
use Rattle.turn_kit.specs.declared.ends.Outlet.{Outlet}
use Rattle.play_core.specs.Moved.{Moved, moved}
use Rattle.play_core.specs.Names.{Names, Wild}
use Rattle.play_core.specs.Rests.Showing.{HaveItems, HaveBells}
use Rattle.play_core.specs.Wants.{intake_want, outlet_want, all_settled}
use Rattle.play_core.proofs.RestsLemmas.Settling.{both, settled_here}
use Rattle.buffer_kit.specs.Virtualising.{from_queues, to_queues}
use Rattle.buffer_kit.proofs.TwoLists.{settled_append}
use Rattle.net_virt_tx.specs.declared.NetVirtTx.{NetVirtTx}
use Rattle.net_virt_tx.specs.declared.client.Client.{Client}
use Rattle.net_virt_tx.specs.Traffics.{senders, is_free, owes, needs_at, loaded_at}
use Rattle.net_virt_tx.specs.Sending.{FitsTx, TxStandsFor, TxRow, tx_round}
use Rattle.net_law.specs.TxParts.Parts.{SendPart, Shipper}
use Rattle.net_law.specs.TxParts.Playing.{send_part}
use Rattle.net_law.specs.TxScene.Rows.{back_due, goods_due}
use Rattle.net_law.specs.TxScene.Table.{both_sheet, is_served}
use Rattle.net_law.specs.TxScene.Playing.{CalmGood, ReturnsGood, TellsBack, TellsOf}
use Rattle.net_law.proofs.RestsLemmas.Receiving.{needs_long}
use Rattle.net_law.proofs.TxRests.Resting.{clients_settle, plus}
use Rattle.net_law.proofs.TxScene.Serving.{free_is, owes_is, ship_loads, ship_needs}

pub both_rest : (wild : Wild) (names : Names) (history : History) (journal : List Entry) (world : List Queue) (passed : Passed) → HaveItems passed (moved history journal) → HaveBells world history journal → (v : NetVirtTx) → TellsOf wild names (send_part v).clients passed → TellsBack wild names (send_part v).clients passed → CalmGood wild v passed → ReturnsGood wild v passed → ((row : TxRow v passed) → row.stray ≡ []) → FitsTx (end_at world) v → TxStandsFor v passed → is_at_rest (tx_round v) ≡ all_settled history journal ((both_sheet wild names (send_part v)).wants (moved history journal))
both_rest wild names history journal world passed h bells v tells backs calm good in_turn f st =
    let m : Moved = moved history journal in
    let p : SendPart = send_part v in
    let is : List Intake = v.ends.from_clients.ends.items in
    let os : List Outlet = v.ends.to_clients.ends.items in
    let many = length-map v.work.clients.items (λ (c : Client). c.sender) in
    let froms : length is ≡ length (senders v.work) = sym (length-map is (λ (i : Intake). i.queue)) ∙ (f.from_each ∙ sym many) in
    let tos : length os ≡ length (senders v.work) = sym (length-map os (λ (x : Outlet). x.queue)) ∙ (f.to_each ∙ sym many) in
    let clients = clients_settle history journal world bells (is_served wild names p m) (λ (x : Shipper). nat_lt (length (m.sent x.free)) (back_due wild names p m x)) (needs_at v.work) (loaded_at v.work) 0 (senders v.work) is os froms tos f.ends_fit.from_clients.agrees f.ends_fit.to_clients.agrees (λ k x at. (ap (needs_at v.work) (sym (plus k)) ∙ ship_needs wild names passed m h v tells backs calm good in_turn f.from_each f.to_each st k x at, ap (loaded_at v.work) (sym (plus k)) ∙ ship_loads wild names passed m h v tells backs calm good in_turn f.from_each f.to_each st k x at)) in
    let long = needs_long (needs_at v.work) 0 (λ (i : Intake). i.queue) is ∙ sym (length-map is intake_post) in
    both (settled_here history journal world bells (intake_post v.ends.input) (is_free v.work) (intake_want p.free true) (record { needs = free_is wild names passed m h v tells backs calm good in_turn f.from_each f.to_each st; agrees = f.ends_fit.input }))
    (both (settled_here history journal world bells (outlet_post v.ends.output) (owes v.work) (outlet_want p.active (nat_lt (length (m.sent p.active)) (goods_due wild names p.clients m))) (record { needs = owes_is wild names passed m h v tells backs calm good in_turn f.from_each f.to_each st; agrees = f.ends_fit.output }))
    (settled_append (intake_posts v.ends.from_clients) (outlet_posts v.ends.to_clients) (needs_from (needs_at v.work) 0 (from_queues v.ends)) (needs_from (loaded_at v.work) 0 (to_queues v.ends)) long ∙ clients))
