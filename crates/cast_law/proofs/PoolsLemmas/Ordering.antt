-- Where rows hold and queues hand over, no more is answered in the block class than was asked, and
-- what is answered are requests.
use Rattle.std.proofs.Common.{◌≡◌, ◌⊎◌, ◌+◌, ◌-◌, ◌*◌, ◌%◌, ◌<◌, ◌≤◌, ℕ, zero, suc, Bool, true, false, cond, drop, nat_lt, Option, Some, None, List, [], ◌∷◌, length, map, slice_get, refl, sym, ap, ◌∙◌, arith, lt-ltb, inl, inr}
use Rattle.std.proofs.lemmas.Bool.{cases_lt, le-ltb}
use Rattle.std.proofs.lemmas.List.{length-map}
use Rattle.cargo_core.specs.Items.{kind_of}
use Rattle.cargo_core.specs.Lists.{IsPrefix}
use Rattle.cargo_core.specs.declared.item.Ask.{Ask}
use Rattle.cargo_core.specs.declared.item.Item.{Item}
use Rattle.cargo_core.specs.declared.item.QueueKind.TheVariants as Kind
use Rattle.wire_core.specs.declared.names.QueueRow.{QueueRow}
use Rattle.play_core.specs.Moved.{Moved}
use Rattle.play_core.specs.Sheets.{Scene, RowsHold}
use Rattle.play_core.proofs.Lists.{some_is, there_is}
use Rattle.play_core.proofs.Walks.{begins_few}
use Rattle.owner_law.specs.Things.{Window, Answers, Naming}
use Rattle.client_programs.specs.Blk.Asking.{needs_buffer, request_for}
use Rattle.class_expect.specs.BlkExpect.Replies.{partition_in}
use Rattle.owner_law.specs.Pools.Places.{PoolAt, own_pool}
use Rattle.net_law.specs.Parts.Parts.{Way}
use Rattle.net_law.proofs.PartsLemmas.Leasing.{prefix_get}
use Rattle.net_law.specs.TxParts.Numbers.{NetPlace}
use Rattle.net_quiet.proofs.PoolsLemmas.Listing.{never_answers}
use Rattle.blk_law.specs.Sheets.Numbers.{BlkPlace, disk_at, blk_driver_at, sharers_from, virt_at, blk_client_at}
use Rattle.blk_law.specs.Sheets.Rows.{answer_item, answers_due, asked_items, AsksInOrder, ServesRequests, items_back}
use Rattle.blk_law.specs.Owners.Answering.{IsInOrder}
use Rattle.blk_law.proofs.OwnersLemmas.Serving.{fewer_answers}
use Rattle.blk_quiet.specs.Pools.Naming.{blk_naming}
use Rattle.blk_quiet.proofs.PoolsLemmas.Sizing.{IsAnswer, blk_answers}
use Rattle.actor_set.specs.Parts.{Part, BlockPart}
use Rattle.actor_set.specs.Laws.Kinds.{AllCalm, sheet, scene_of, hostiles}
use Rattle.actor_set.proofs.LawsLemmas.Calm.{calm_actor}
use Rattle.wired_law.specs.Wiring.{HasBlk}
use Rattle.cast_law.specs.Pools.Places.{HasBlkAt, first_naming, behind}
use Rattle.cast_law.proofs.PoolsLemmas.Blocks.{at_client, served}

-- which queues answer others, by the whole naming
pub no_answer : (scene : Scene) (n : Option NetPlace) (q r : ℕ) (ws : List Window) → first_naming scene n q ≡ Answers r ws → ⊥
no_answer scene None q r ws is = cc
no_answer scene (Some net) q r ws is = never_answers scene net.pool net.macs net.pools q r ws is

pub answers_behind : (naming : Naming) (blk : BlkPlace) (q r : ℕ) (ws : List Window) → ((n p : ℕ) (vs : List Window) → naming n ≡ Answers p vs → ⊥) → behind naming (Some blk) q ≡ Answers r ws → (i : ℕ) × (q ≡ blk.first + i) × IsAnswer blk i r
answers_behind naming blk q r ws never is = by (cases_lt q blk.first)
  where
    by : (q < blk.first) ⊎ (blk.first ≤ q) → (i : ℕ) × (q ≡ blk.first + i) × IsAnswer blk i r
    by (inl lt) = absurd (never q r ws (sym (ap (λ t. cond t (naming q) (blk_naming blk q)) (lt-ltb q blk.first lt)) ∙ is))
    by (inr ge) = (q - blk.first, omega (arith, ge), blk_answers blk (q - blk.first) r ws (sym (ap (λ t. cond t (naming q) (blk_naming blk q)) (le-ltb q blk.first ge)) ∙ is))

-- what a client may put are requests
pub asked_kind : (id used hand buffers size : ℕ) (asks : List Ask) (j : ℕ) (i : Item) → slice_get (asked_items id used hand buffers size asks) j ≡ Some i → kind_of i ≡ Kind.Req
asked_kind id used hand buffers size [] j i at = cc
asked_kind id used hand buffers size (a ∷ asks) j i at = by (needs_buffer a.code) (nat_lt used hand) j at (λ h e. asked_kind (id + 1) (used + 1) hand buffers size asks h i e) (λ h e. asked_kind (id + 1) used hand buffers size asks h i e)
  where
    by : (t u : Bool) (h : ℕ) → slice_get (cond t (cond u (request_for a id ((used % buffers) * size) ∷ asked_items (id + 1) (used + 1) hand buffers size asks) []) (request_for a id 0 ∷ asked_items (id + 1) used hand buffers size asks)) h ≡ Some i → ((n : ℕ) → slice_get (asked_items (id + 1) (used + 1) hand buffers size asks) n ≡ Some i → kind_of i ≡ Kind.Req) → ((n : ℕ) → slice_get (asked_items (id + 1) used hand buffers size asks) n ≡ Some i → kind_of i ≡ Kind.Req) → kind_of i ≡ Kind.Req
    by true true zero e one two = ap kind_of (sym (some_is e))
    by true true (suc h) e one two = one h e
    by true false h e one two = cc
    by false u zero e one two = ap kind_of (sym (some_is e))
    by false u (suc h) e one two = two h e

module _ (rows : List QueueRow) (blk : BlkPlace) (cast : List Part) (calm : AllCalm cast) (has : HasBlk rows blk cast) (m : Moved) (holds : RowsHold (sheet (scene_of cast)) (hostiles cast) cast m) (over : (n : ℕ) → IsPrefix (m.taken n) (m.sent n)) where
  abbrev scene : Scene
  scene = scene_of cast

  disk_row : IsPrefix (m.sent (blk.first + 1)) (map answer_item (m.taken blk.first))
  disk_row = holds has.disk.0 (BlockPart (disk_at blk)) (calm_actor cast calm has.disk.0) has.disk.1

  driver_copies : (k : ℕ) (w : Way) → slice_get (record { input = blk.first + 2; output = blk.first } ∷ record { input = blk.first + 1; output = blk.first + 3 } ∷ []) k ≡ Some w → IsPrefix (m.sent w.output) (m.taken w.input)
  driver_copies = holds has.driver.0 (BlockPart (blk_driver_at blk.first)) (calm_actor cast calm has.driver.0) has.driver.1

  virt_row : ServesRequests scene.image (blk.first + 2) (blk.first + 3) blk.pool (sharers_from blk.first 0 blk.entries blk.pools) m
  virt_row = holds has.virt.0 (BlockPart (virt_at blk)) (calm_actor cast calm has.virt.0) has.virt.1

  client_row : (k : ℕ) (p : PoolAt) (at : slice_get blk.pools k ≡ Some p) → AsksInOrder (at_client rows blk cast calm has k p at).0 (own_pool p) (m.taken (blk.first + 5 + 2 * k)) (m.sent (blk.first + 4 + 2 * k))
  client_row k p at =
      let c = at_client rows blk cast calm has k p at in
      holds c.2 (BlockPart (blk_client_at blk.first k c.0 p)) (calm_actor cast calm c.2) c.3

  -- the requests at the disk are those that the driver took
  req_few : (n : ℕ) → length (m.taken n) ≤ length (m.sent n)
  req_few n = begins_few (m.taken n) (m.sent n) (over n)

  disk_few : length (m.sent (blk.first + 1)) ≤ length (m.sent blk.first)
  disk_few =
      let a = begins_few (m.sent (blk.first + 1)) (map answer_item (m.taken blk.first)) disk_row in
      let b = length-map (m.taken blk.first) answer_item in
      let c = req_few blk.first in
      omega (arith, a, b, c)

  answered_at : (i q : ℕ) → IsAnswer blk i q → length (m.sent (blk.first + i)) ≤ length (m.sent q)
  answered_at i q (inl h) =
      let d = ap (λ j. length (m.sent (blk.first + j))) h.0 in
      let e = ap (λ r. length (m.sent r)) h.1 in
      omega (arith, disk_few, d, e)
  answered_at i q (inr (inl h)) =
      let a = begins_few (m.sent (blk.first + 3)) (m.taken (blk.first + 1)) (driver_copies 1 (record { input = blk.first + 1; output = blk.first + 3 }) refl) in
      let b = req_few (blk.first + 1) in
      let c = disk_few in
      let d = begins_few (m.sent blk.first) (m.taken (blk.first + 2)) (driver_copies 0 (record { input = blk.first + 2; output = blk.first }) refl) in
      let e = req_few (blk.first + 2) in
      let f = ap (λ j. length (m.sent (blk.first + j))) h.0 in
      let g = ap (λ r. length (m.sent r)) h.1 in
      omega (arith, a, b, c, d, e, f, g)
  answered_at i q (inr (inr x)) =
      let k = x.0 in
      let s = served rows blk cast calm has k x.1 in
      let given = begins_few (m.sent s.0.resp) (answers_due scene.image (blk.first + 2) (blk.first + 3) m s.0) (virt_row.gives k s.0 s.1) in
      let most = fewer_answers (partition_in scene.image s.0.entry) (m.taken s.0.req) (items_back s.0.pool (drop 1 (m.sent (blk.first + 2))) (drop 1 (m.taken (blk.first + 3)))) in
      let came = req_few s.0.req in
      let resp : s.0.resp ≡ blk.first + i = (let at = x.2 in let is = s.3 in omega (arith, at, is)) in
      let req : s.0.req ≡ q = (let at = x.3 in let is = s.2 in omega (arith, at, is)) in
      let d = ap (λ j. length (m.sent j)) resp in
      let e = ap (λ j. length (m.sent j)) req in
      omega (arith, given, most, came, d, e)

  requests_at : ((j : ℕ) (i : Item) → slice_get (m.sent (blk.first + 2)) j ≡ Some i → kind_of i ≡ Kind.Req) → (i q : ℕ) → IsAnswer blk i q → (j : ℕ) (x : Item) → slice_get (m.sent q) j ≡ Some x → kind_of x ≡ Kind.Req
  requests_at kinds i q (inl h) j x at =
      let there : slice_get (m.sent blk.first) j ≡ Some x = ap (λ r. slice_get (m.sent r) j) (sym h.1) ∙ at in
      let came = prefix_get (m.sent blk.first) (m.taken (blk.first + 2)) (driver_copies 0 (record { input = blk.first + 2; output = blk.first }) refl) j x there in
      kinds j x (prefix_get (m.taken (blk.first + 2)) (m.sent (blk.first + 2)) (over (blk.first + 2)) j x came)
  requests_at kinds i q (inr (inl h)) j x at = kinds j x (ap (λ r. slice_get (m.sent r) j) (sym h.1) ∙ at)
  requests_at kinds i q (inr (inr y)) j x at =
      let p = there_is blk.pools y.0 y.1 in
      let row = client_row y.0 p.0 p.1 in
      let there : slice_get (m.sent (blk.first + 4 + 2 * y.0)) j ≡ Some x = ap (λ r. slice_get (m.sent r) j) (sym y.3) ∙ at in
      asked_kind 0 0 _ (own_pool p.0).buffers (own_pool p.0).size (at_client rows blk cast calm has y.0 p.0 p.1).0 j x (prefix_get (m.sent (blk.first + 4 + 2 * y.0)) _ row.begins j x there)

module _ (rows : List QueueRow) (n : Option NetPlace) (cast : List Part) (calm : AllCalm cast) (m : Moved) (holds : RowsHold (sheet (scene_of cast)) (hostiles cast) cast m) (over : (q : ℕ) → IsPrefix (m.taken q) (m.sent q)) where
  abbrev scene_ : Scene
  scene_ = scene_of cast

  -- no more is answered than asked
  pub answers_few : (b : Option BlkPlace) → HasBlkAt rows b cast → (q r : ℕ) (ws : List Window) → behind (first_naming scene_ n) b q ≡ Answers r ws → length (m.sent q) ≤ length (m.sent r)
  answers_few None none q r ws is = absurd (no_answer scene_ n q r ws is)
  answers_few (Some blk) has q r ws is =
      let x = answers_behind (first_naming scene_ n) blk q r ws (no_answer scene_ n) is in
      let few = answered_at rows blk cast calm has.0 m holds over x.0 r x.2 in
      let same = ap (λ j. length (m.sent j)) x.1 in
      omega (arith, few, same)

  -- and what is asked are requests
  pub in_order : (b : Option BlkPlace) → HasBlkAt rows b cast → ((q : ℕ) (row : QueueRow) → slice_get rows q ≡ Some row → (j : ℕ) (i : Item) → slice_get (m.sent q) j ≡ Some i → kind_of i ≡ row.kind) → IsInOrder (behind (first_naming scene_ n) b) m
  in_order b has kinds = record { requests = by b has; hands_over = over; answered = answers_few b has }
    where
      by : (o : Option BlkPlace) → HasBlkAt rows o cast → (q r : ℕ) (ws : List Window) → behind (first_naming scene_ n) o q ≡ Answers r ws → (j : ℕ) (i : Item) → slice_get (m.sent r) j ≡ Some i → kind_of i ≡ Kind.Req
      by None none q r ws is = absurd (no_answer scene_ n q r ws is)
      by (Some blk) is_there q r ws is =
          let x = answers_behind (first_naming scene_ n) blk q r ws (no_answer scene_ n) is in
          let row = is_there.0.requests in
          requests_at rows blk cast calm is_there.0 m holds over (λ j i at. kinds (blk.first + 2) row.0 row.1 j i at ∙ row.2) x.0 r x.2
