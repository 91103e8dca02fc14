-- All ends of the virtualiser are settled where those are that the table wants, whoever its clients
-- are.
use Rattle.std.proofs.Common.{◌≡◌, ◌&&◌, ℕ, true, not, nat_lt, List, length, sym, ap, ◌∙◌}
use Rattle.std.proofs.lemmas.List.{length-map}
use Rattle.wire_core.specs.declared.names.Entry.{Entry}
use Rattle.wire_core.specs.Lists.{Passed}
use Rattle.wire_core.specs.Journal.{History}
use Rattle.wire_core.specs.Queues.{Queue, end_at}
use Rattle.turn_kit.specs.Turns.{is_at_rest}
use Rattle.turn_kit.specs.Posts.{intake_post, outlet_post}
use Rattle.turn_kit.specs.ManyEnds.{intake_posts, outlet_posts, needs_from}
use Rattle.turn_kit.specs.declared.ends.Intake.{Intake}
use Rattle.turn_kit.specs.declared.ends.Outlet.{Outlet}
use Rattle.play_core.specs.Moved.{Moved, moved}
use Rattle.play_core.specs.Names.{Names, Wild}
use Rattle.play_core.specs.Rests.Showing.{HaveItems, HaveBells}
use Rattle.play_core.specs.Sheets.{Scene}
use Rattle.play_core.specs.Wants.{intake_want, outlet_want, all_settled}
use Rattle.play_core.proofs.RestsLemmas.Settling.{both, settled_here}
use Rattle.buffer_kit.specs.Virtualising.{from_queues, to_queues}
use Rattle.buffer_kit.proofs.TwoLists.{settled_append}
use Rattle.net_law.specs.Parts.Table.{is_short}
use Rattle.net_law.proofs.RestsLemmas.Receiving.{needs_long}
use Rattle.blk_virt.specs.declared.requests.Holder.{Holder}
use Rattle.blk_virt.specs.declared.virtualiser.BlkVirt.{BlkVirt}
use Rattle.blk_virt.specs.Desks.{holders}
use Rattle.blk_virt.specs.Works.{is_owing, wants_at, gives_at}
use Rattle.blk_virt.specs.Virtualising.{FitsBlkVirt, BlkVirtStandsFor, blk_virt_round}
use Rattle.blk_law.specs.Sheets.Parts.{Sharer}
use Rattle.blk_law.specs.Sheets.Playing.{sharers, virt_part}
use Rattle.blk_law.specs.VirtScene.Playing.{BothInTurn, TellsOf}
use Rattle.blk_law.specs.VirtScene.Rows.{answers_told, told_due}
use Rattle.blk_law.specs.VirtScene.Table.{both_sheet}
use Rattle.blk_law.proofs.RestsLemmas.Resting.{clients_settle, plus}
use Rattle.blk_law.proofs.VirtScene.Serving.{free_is, owing_is, rent_needs, rent_loads}

pub both_rest : (scene : Scene) (wild : Wild) (names : Names) (history : History) (journal : List Entry) (world : List Queue) (passed : Passed) → HaveItems passed (moved history journal) → HaveBells world history journal → (v : BlkVirt) → BothInTurn wild scene.image v passed → TellsOf wild names v passed → FitsBlkVirt (end_at world) v → BlkVirtStandsFor v passed
    → is_at_rest (blk_virt_round v) ≡ all_settled history journal ((both_sheet scene wild names (virt_part v)).wants (moved history journal))
both_rest scene wild names history journal world passed h bells v turn tells f st =
    let m : Moved = moved history journal in
    let i : ℕ = v.ends.input.queue.0 in
    let o : ℕ = v.ends.output.queue.0 in
    let hs : List Holder = holders v.work.desk in
    let is : List Intake = v.ends.from_clients.ends.items in
    let os : List Outlet = v.ends.to_clients.ends.items in
    let froms : length is ≡ length hs = sym (length-map is (λ (x : Intake). x.queue)) ∙ f.from_each in
    let tos : length os ≡ length hs = sym (length-map os (λ (x : Outlet). x.queue)) ∙ f.to_each in
    let clients = clients_settle history journal world bells (λ (x : Sharer). nat_lt 0 (length (m.taken i)) && not (is_short (m.sent x.resp) (m.taken x.req))) (λ (x : Sharer). is_short (m.sent x.resp) (answers_told scene.image wild names o i m x)) (wants_at v.work) (gives_at v.work) 0 hs is os froms tos f.ends_fit.from_clients.agrees f.ends_fit.to_clients.agrees (λ k x at. (ap (wants_at v.work) (sym (plus k)) ∙ rent_needs scene wild names passed m h v turn tells f.from_each f.to_each st k x at, ap (gives_at v.work) (sym (plus k)) ∙ rent_loads scene wild names passed m h v turn tells f.from_each f.to_each st k x at)) in
    let long = needs_long (wants_at v.work) 0 (λ (x : Intake). x.queue) is ∙ sym (length-map is intake_post) in
    both (settled_here history journal world bells (intake_post v.ends.input) _ (intake_want i true) (record { needs = free_is scene wild names passed m h v turn tells f.from_each f.to_each st; agrees = f.ends_fit.input }))
    (both (settled_here history journal world bells (outlet_post v.ends.output) (is_owing v.work) (outlet_want o (nat_lt (length (m.sent o)) (told_due scene.image wild names (sharers hs (from_queues v.ends) (to_queues v.ends)) m))) (record { needs = owing_is scene wild names passed m h v turn tells f.from_each f.to_each st; agrees = f.ends_fit.output }))
    (settled_append (intake_posts v.ends.from_clients) (outlet_posts v.ends.to_clients) (needs_from (wants_at v.work) 0 (from_queues v.ends)) (needs_from (gives_at v.work) 0 (to_queues v.ends)) long ∙ clients))
