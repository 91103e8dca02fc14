-- All its ends are settled where those are that its sheet wants.
use Rattle.std.proofs.Common.{◌≡◌, ◌+◌, ◌&&◌, ℕ, suc, Bool, true, false, not, nat_lt, Some, List, [], ◌∷◌, length, map, flat_map, slice_get, refl, sym, ap, ◌∙◌, arith}
use Rattle.std.proofs.lemmas.List.{length-map}
use Rattle.wire_core.specs.declared.names.Entry.{Entry}
use Rattle.wire_core.specs.Ends.{Consumer, Producer}
use Rattle.wire_core.specs.Lists.{Passed}
use Rattle.wire_core.specs.Journal.{History}
use Rattle.wire_core.specs.Queues.{Queue, end_at}
use Rattle.turn_kit.specs.Table.{Agrees, is_settled}
use Rattle.turn_kit.specs.Turns.{settled_all, is_at_rest}
use Rattle.turn_kit.specs.Posts.{intake_post, outlet_post}
use Rattle.turn_kit.specs.ManyEnds.{intake_posts, outlet_posts, needs_from}
use Rattle.turn_kit.specs.declared.ends.Intake.{Intake}
use Rattle.turn_kit.specs.declared.ends.Outlet.{Outlet}
use Rattle.play_core.specs.Moved.{Moved, moved}
use Rattle.play_core.specs.Wants.{intake_want, outlet_want, all_settled}
use Rattle.buffer_kit.specs.Virtualising.{from_queues, to_queues}
use Rattle.buffer_kit.proofs.TwoLists.{settled_append}
use Rattle.net_virt_tx.specs.declared.NetVirtTx.{NetVirtTx}
use Rattle.net_virt_tx.specs.declared.client.Client.{Client}
use Rattle.net_virt_tx.specs.declared.descriptors.Sender.{Sender}
use Rattle.net_virt_tx.specs.Traffics.{senders, is_free, owes, needs_at, loaded_at}
use Rattle.net_virt_tx.specs.Sending.{FitsTx, TxStandsFor, TxRow, tx_round}
use Rattle.net_law.specs.Parts.Table.{is_short}
use Rattle.net_law.specs.TxParts.Parts.{SendPart, Shipper}
use Rattle.net_law.specs.TxParts.Rows.{at_home, sends_due}
use Rattle.net_law.specs.TxParts.Table.{send_sheet}
use Rattle.net_law.specs.TxParts.Playing.{TakesGood, send_part, sender_pool, shippers}
use Rattle.play_core.specs.Rests.Showing.{HaveItems, HaveBells}
use Rattle.play_core.proofs.RestsLemmas.Settling.{both, settled_here}
use Rattle.net_law.proofs.RestsLemmas.Receiving.{needs_long, index_moves}
use Rattle.net_law.proofs.TxRests.Sending.{free_is, owes_is, ship_needs, ship_loads}

shuffle : (a x b y : Bool) → ((a && x) && (b && y)) ≡ (a && (b && (x && y)))
shuffle true true b y = refl
shuffle true false true y = refl
shuffle true false false y = refl
shuffle false x b y = refl

pub plus : (j : ℕ) → j ≡ 0 + j
plus j = omega arith

module _ (history : History) (journal : List Entry) (world : List Queue) (bells : HaveBells world history journal) where
  pub clients_settle : (comes goes : Shipper → Bool) (needs loads : ℕ → Bool) (c : ℕ) (ss : List Sender) (is : List Intake) (os : List Outlet) → length is ≡ length ss → length os ≡ length ss → ((k : ℕ) (i : Intake) → slice_get is k ≡ Some i → Agrees (end_at world Consumer i.queue.0) i.state) → ((k : ℕ) (x : Outlet) → slice_get os k ≡ Some x → Agrees (end_at world Producer x.queue.0) x.state) → ((k : ℕ) (x : Shipper) → slice_get (shippers ss (map (λ (i : Intake). i.queue) is) (map (λ (y : Outlet). y.queue) os)) k ≡ Some x → (needs (c + k) ≡ comes x) × (loads (c + k) ≡ goes x))
      → (settled_all (map intake_post is) (needs_from needs c (map (λ (i : Intake). i.queue) is)) && settled_all (map outlet_post os) (needs_from loads c (map (λ (y : Outlet). y.queue) os))) ≡ all_settled history journal (flat_map (λ (x : Shipper). intake_want x.active (comes x) ∷ outlet_want x.free (goes x) ∷ []) (shippers ss (map (λ (i : Intake). i.queue) is) (map (λ (y : Outlet). y.queue) os)))
  clients_settle comes goes needs loads c [] [] [] a b ins outs each = refl
  clients_settle comes goes needs loads c [] (i ∷ is) os a b ins outs each = absurd (omega (arith, a))
  clients_settle comes goes needs loads c [] [] (x ∷ os) a b ins outs each = absurd (omega (arith, b))
  clients_settle comes goes needs loads c (s ∷ ss) [] os a b ins outs each = absurd (omega (arith, a))
  clients_settle comes goes needs loads c (s ∷ ss) (i ∷ is) [] a b ins outs each = absurd (omega (arith, b))
  clients_settle comes goes needs loads c (s ∷ ss) (i ∷ is) (x ∷ os) a b ins outs each =
      let ship : Shipper = record { active = i.queue.0; free = x.queue.0; pool = sender_pool s; most = s.most } in
      let z : c + 0 ≡ c = omega arith in
      let first = each 0 ship refl in
      let one = settled_here history journal world bells (intake_post i) (needs c) (intake_want i.queue.0 (comes ship)) (record { needs = ap needs (sym z) ∙ first.0; agrees = ins 0 i refl }) in
      let two = settled_here history journal world bells (outlet_post x) (loads c) (outlet_want x.queue.0 (goes ship)) (record { needs = ap loads (sym z) ∙ first.1; agrees = outs 0 x refl }) in
      let rest = clients_settle comes goes needs loads (c + 1) ss is os (omega (arith, a)) (omega (arith, b)) (λ k y at. ins (suc k) y at) (λ k y at. outs (suc k) y at) (λ k y at. let e = each (suc k) y at in (ap needs (sym (index_moves c k)) ∙ e.0, ap loads (sym (index_moves c k)) ∙ e.1)) in
      shuffle (is_settled i.state (needs c)) (settled_all (map intake_post is) (needs_from needs (c + 1) (map (λ (j : Intake). j.queue) is))) (is_settled x.state (loads c)) (settled_all (map outlet_post os) (needs_from loads (c + 1) (map (λ (y : Outlet). y.queue) os))) ∙ both one (both two rest)

pub sender_rest : (history : History) (journal : List Entry) (world : List Queue) (passed : Passed) → HaveItems passed (moved history journal) → HaveBells world history journal → (v : NetVirtTx) → TakesGood v passed → ((row : TxRow v passed) → row.stray ≡ []) → FitsTx (end_at world) v → TxStandsFor v passed → is_at_rest (tx_round v) ≡ all_settled history journal ((send_sheet (send_part v)).wants (moved history journal))
sender_rest history journal world passed h bells v good in_turn f st =
    let m : Moved = moved history journal in
    let p : SendPart = send_part v in
    let is : List Intake = v.ends.from_clients.ends.items in
    let os : List Outlet = v.ends.to_clients.ends.items in
    let many = length-map v.work.clients.items (λ (c : Client). c.sender) in
    let froms : length is ≡ length (senders v.work) = sym (length-map is (λ (i : Intake). i.queue)) ∙ (f.from_each ∙ sym many) in
    let tos : length os ≡ length (senders v.work) = sym (length-map os (λ (x : Outlet). x.queue)) ∙ (f.to_each ∙ sym many) in
    let clients = clients_settle history journal world bells (λ (x : Shipper). not (is_short (at_home x.pool (m.sent p.active)) (m.taken x.active))) (λ (x : Shipper). is_short (m.sent x.free) (at_home x.pool (m.taken p.free))) (needs_at v.work) (loaded_at v.work) 0 (senders v.work) is os froms tos f.ends_fit.from_clients.agrees f.ends_fit.to_clients.agrees (λ k x at. (ap (needs_at v.work) (sym (plus k)) ∙ ship_needs passed m h v good in_turn f.from_each f.to_each st k x at, ap (loaded_at v.work) (sym (plus k)) ∙ ship_loads passed m h v good in_turn f.from_each f.to_each st k x at)) in
    let long = needs_long (needs_at v.work) 0 (λ (i : Intake). i.queue) is ∙ sym (length-map is intake_post) in
    both (settled_here history journal world bells (intake_post v.ends.input) (is_free v.work) (intake_want p.free true) (record { needs = free_is passed m h v good in_turn f.from_each f.to_each st; agrees = f.ends_fit.input }))
    (both (settled_here history journal world bells (outlet_post v.ends.output) (owes v.work) (outlet_want p.active (nat_lt (length (m.sent p.active)) (sends_due p.clients m))) (record { needs = owes_is passed m h v good in_turn f.from_each f.to_each st; agrees = f.ends_fit.output }))
    (settled_append (intake_posts v.ends.from_clients) (outlet_posts v.ends.to_clients) (needs_from (needs_at v.work) 0 (from_queues v.ends)) (needs_from (loaded_at v.work) 0 (to_queues v.ends)) long ∙ clients))
