-- All ends of an actor are settled where those are that it needs and owes by its items.
use Rattle.std.proofs.Common.{◌≡◌, ◌+◌, ◌&&◌, ℕ, suc, Bool, true, false, not, nat_lt, Some, List, [], ◌∷◌, length, map, flat_map, slice_get, refl, sym, ap, ◌∙◌, arith}
use Rattle.std.proofs.lemmas.List.{length-map}
use Rattle.wire_core.specs.declared.names.Entry.{Entry}
use Rattle.wire_core.specs.Ends.{Consumer, Producer}
use Rattle.wire_core.specs.Lists.{Passed}
use Rattle.wire_core.specs.Journal.{History}
use Rattle.wire_core.specs.Queues.{Queue, end_at}
use Rattle.turn_kit.specs.Table.{Agrees, is_settled}
use Rattle.turn_kit.specs.Turns.{settled_all, is_at_rest}
use Rattle.turn_kit.specs.Posts.{intake_post, outlet_post}
use Rattle.turn_kit.specs.ManyEnds.{intake_posts, outlet_posts, needs_from}
use Rattle.turn_kit.specs.declared.ends.Intake.{Intake}
use Rattle.turn_kit.specs.declared.ends.Outlet.{Outlet}
use Rattle.turn_kit.specs.declared.pipe.Pipe.{Pipe}
use Rattle.play_core.specs.Moved.{Moved, moved}
use Rattle.play_core.specs.Wants.{intake_want, outlet_want, all_settled}
use Rattle.play_core.specs.Sheets.{Scene}
use Rattle.pipe_driver.specs.Drivers.{FitsPipes, PipesStandFor, pipes_round}
use Rattle.buffer_kit.specs.Virtualising.{from_queues, to_queues}
use Rattle.buffer_kit.proofs.TwoLists.{settled_append}
use Rattle.net_law.specs.Parts.Table.{is_short}
use Rattle.net_law.proofs.RestsLemmas.Receiving.{needs_long, index_moves}
use Rattle.net_law.proofs.RestsLemmas.Resting as network
use Rattle.device_model.specs.Disk.Disks.{FitsDisk, DiskStandsFor, disk_round}
use Rattle.device_model.specs.declared.disk.DiskDevice.{DiskDevice}
use Rattle.client_programs.specs.Blk.Clients.{FitsBlkClient, BlkClientStandsFor, blk_client_round}
use Rattle.client_programs.specs.declared.blk.BlkClient.{BlkClient}
use Rattle.blk_virt.specs.declared.requests.Holder.{Holder}
use Rattle.blk_virt.specs.declared.virtualiser.BlkVirt.{BlkVirt}
use Rattle.blk_virt.specs.Desks.{holders}
use Rattle.blk_virt.specs.Works.{is_owing, wants_at, gives_at}
use Rattle.blk_virt.specs.Virtualising.{FitsBlkVirt, BlkVirtStandsFor, blk_virt_round}
use Rattle.blk_law.specs.Sheets.Parts.{Sharer}
use Rattle.blk_law.specs.Sheets.Rows.{answers_due, requests_due}
use Rattle.blk_law.specs.Sheets.Table.{blk_sheet}
use Rattle.blk_law.specs.Sheets.Playing.{disk_part, blk_driver_part, virt_part, blk_client_part, DiskInTurn, ClientInTurn, VirtInTurn, holder_pool, sharers}
use Rattle.blk_law.proofs.RestsLemmas.Plain.{disk_meets, client_meets}
use Rattle.blk_law.proofs.RestsLemmas.Opening.{free_is, owing_is, rent_needs, rent_loads}
use Rattle.play_core.specs.Rests.Showing.{HaveItems, HaveBells}
use Rattle.play_core.proofs.RestsLemmas.Settling.{all_here, both, settled_here}

pub disk_rest : (scene : Scene) (history : History) (journal : List Entry) (world : List Queue) (passed : Passed) → HaveItems passed (moved history journal) → HaveBells world history journal → (image : List ℕ) (d : DiskDevice) → DiskInTurn image d passed → FitsDisk (end_at world) d → DiskStandsFor image d passed
    → is_at_rest (disk_round d) ≡ all_settled history journal ((blk_sheet scene (disk_part image d)).wants (moved history journal))
disk_rest scene history journal world passed items bells image d turn f st = all_here history journal world bells (disk_round d).posts (disk_round d).needs ((blk_sheet scene (disk_part image d)).wants (moved history journal)) (disk_meets scene world passed (moved history journal) items image d turn st f)

pub driver_rest : (scene : Scene) (history : History) (journal : List Entry) (world : List Queue) (passed : Passed) → HaveItems passed (moved history journal) → HaveBells world history journal → (ps : List Pipe) (last : ℕ) → FitsPipes (end_at world) ps → PipesStandFor ps passed
    → is_at_rest (pipes_round ps last) ≡ all_settled history journal ((blk_sheet scene (blk_driver_part ps)).wants (moved history journal))
driver_rest scene history journal world passed items bells ps last f st = network.driver_rest scene history journal world passed items bells ps last f st

pub client_rest : (scene : Scene) (history : History) (journal : List Entry) (world : List Queue) (passed : Passed) → HaveItems passed (moved history journal) → HaveBells world history journal → (c : BlkClient) → ClientInTurn c passed → FitsBlkClient (end_at world) c → BlkClientStandsFor c passed
    → is_at_rest (blk_client_round c) ≡ all_settled history journal ((blk_sheet scene (blk_client_part c)).wants (moved history journal))
client_rest scene history journal world passed items bells c turn f st = all_here history journal world bells (blk_client_round c).posts (blk_client_round c).needs ((blk_sheet scene (blk_client_part c)).wants (moved history journal)) (client_meets scene world passed (moved history journal) items c turn f st)

shuffle : (a x b y : Bool) → ((a && x) && (b && y)) ≡ (a && (b && (x && y)))
shuffle true true b y = refl
shuffle true false true y = refl
shuffle true false false y = refl
shuffle false x b y = refl

pub plus : (j : ℕ) → j ≡ 0 + j
plus j = omega arith

module _ (history : History) (journal : List Entry) (world : List Queue) (bells : HaveBells world history journal) where
  pub clients_settle : (comes goes : Sharer → Bool) (needs loads : ℕ → Bool) (c : ℕ) (hs : List Holder) (is : List Intake) (os : List Outlet) → length is ≡ length hs → length os ≡ length hs → ((k : ℕ) (i : Intake) → slice_get is k ≡ Some i → Agrees (end_at world Consumer i.queue.0) i.state) → ((k : ℕ) (x : Outlet) → slice_get os k ≡ Some x → Agrees (end_at world Producer x.queue.0) x.state)
      → ((k : ℕ) (x : Sharer) → slice_get (sharers hs (map (λ (i : Intake). i.queue) is) (map (λ (y : Outlet). y.queue) os)) k ≡ Some x → (needs (c + k) ≡ comes x) × (loads (c + k) ≡ goes x))
      → (settled_all (map intake_post is) (needs_from needs c (map (λ (i : Intake). i.queue) is)) && settled_all (map outlet_post os) (needs_from loads c (map (λ (y : Outlet). y.queue) os))) ≡ all_settled history journal (flat_map (λ (x : Sharer). intake_want x.req (comes x) ∷ outlet_want x.resp (goes x) ∷ []) (sharers hs (map (λ (i : Intake). i.queue) is) (map (λ (y : Outlet). y.queue) os)))
  clients_settle comes goes needs loads c [] [] [] a b ins outs each = refl
  clients_settle comes goes needs loads c [] (i ∷ is) os a b ins outs each = absurd (omega (arith, a))
  clients_settle comes goes needs loads c [] [] (x ∷ os) a b ins outs each = absurd (omega (arith, b))
  clients_settle comes goes needs loads c (h ∷ hs) [] os a b ins outs each = absurd (omega (arith, a))
  clients_settle comes goes needs loads c (h ∷ hs) (i ∷ is) [] a b ins outs each = absurd (omega (arith, b))
  clients_settle comes goes needs loads c (h ∷ hs) (i ∷ is) (x ∷ os) a b ins outs each =
      let rent : Sharer = record { req = i.queue.0; resp = x.queue.0; entry = h.partition; pool = holder_pool h } in
      let z : c + 0 ≡ c = omega arith in
      let first = each 0 rent refl in
      let one = settled_here history journal world bells (intake_post i) (needs c) (intake_want i.queue.0 (comes rent)) (record { needs = ap needs (sym z) ∙ first.0; agrees = ins 0 i refl }) in
      let two = settled_here history journal world bells (outlet_post x) (loads c) (outlet_want x.queue.0 (goes rent)) (record { needs = ap loads (sym z) ∙ first.1; agrees = outs 0 x refl }) in
      let rest = clients_settle comes goes needs loads (c + 1) hs is os (omega (arith, a)) (omega (arith, b)) (λ k y at. ins (suc k) y at) (λ k y at. outs (suc k) y at) (λ k y at. let e = each (suc k) y at in (ap needs (sym (index_moves c k)) ∙ e.0, ap loads (sym (index_moves c k)) ∙ e.1)) in
      shuffle (is_settled i.state (needs c)) (settled_all (map intake_post is) (needs_from needs (c + 1) (map (λ (j : Intake). j.queue) is))) (is_settled x.state (loads c)) (settled_all (map outlet_post os) (needs_from loads (c + 1) (map (λ (y : Outlet). y.queue) os))) ∙ both one (both two rest)

pub virt_rest : (scene : Scene) (history : History) (journal : List Entry) (world : List Queue) (passed : Passed) → HaveItems passed (moved history journal) → HaveBells world history journal → (v : BlkVirt) → VirtInTurn scene.image v passed → FitsBlkVirt (end_at world) v → BlkVirtStandsFor v passed
    → is_at_rest (blk_virt_round v) ≡ all_settled history journal ((blk_sheet scene (virt_part v)).wants (moved history journal))
virt_rest scene history journal world passed h bells v turn f st =
    let m : Moved = moved history journal in
    let i : ℕ = v.ends.input.queue.0 in
    let o : ℕ = v.ends.output.queue.0 in
    let hs : List Holder = holders v.work.desk in
    let is : List Intake = v.ends.from_clients.ends.items in
    let os : List Outlet = v.ends.to_clients.ends.items in
    let froms : length is ≡ length hs = sym (length-map is (λ (x : Intake). x.queue)) ∙ f.from_each in
    let tos : length os ≡ length hs = sym (length-map os (λ (x : Outlet). x.queue)) ∙ f.to_each in
    let clients = clients_settle history journal world bells (λ (x : Sharer). nat_lt 0 (length (m.taken i)) && not (is_short (m.sent x.resp) (m.taken x.req))) (λ (x : Sharer). is_short (m.sent x.resp) (answers_due scene.image o i m x)) (wants_at v.work) (gives_at v.work) 0 hs is os froms tos f.ends_fit.from_clients.agrees f.ends_fit.to_clients.agrees (λ k x at. (ap (wants_at v.work) (sym (plus k)) ∙ rent_needs scene passed m h v turn f.from_each f.to_each st k x at, ap (gives_at v.work) (sym (plus k)) ∙ rent_loads scene passed m h v turn f.from_each f.to_each st k x at)) in
    let long = needs_long (wants_at v.work) 0 (λ (x : Intake). x.queue) is ∙ sym (length-map is intake_post) in
    both (settled_here history journal world bells (intake_post v.ends.input) _ (intake_want i true) (record { needs = free_is scene passed m h v turn f.from_each f.to_each st; agrees = f.ends_fit.input }))
    (both (settled_here history journal world bells (outlet_post v.ends.output) (is_owing v.work) (outlet_want o (nat_lt (length (m.sent o)) (requests_due scene.image (sharers hs (from_queues v.ends) (to_queues v.ends)) m))) (record { needs = owing_is scene passed m h v turn f.from_each f.to_each st; agrees = f.ends_fit.output }))
    (settled_append (intake_posts v.ends.from_clients) (outlet_posts v.ends.to_clients) (needs_from (wants_at v.work) 0 (from_queues v.ends)) (needs_from (gives_at v.work) 0 (to_queues v.ends)) long ∙ clients))
