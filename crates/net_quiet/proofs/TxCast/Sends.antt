-- What one client puts to be sent, by its row: frames of its program, in buffers that were in its
-- hand.
use Rattle.std.proofs.Common.{◌≡◌, ◌⊎◌, ◌+◌, ◌-◌, ◌*◌, ◌++◌, ◌<◌, ◌≤◌, ℕ, zero, suc, Bool, cond, inl, inr, Some, List, [], ◌∷◌, length, map, take, drop, slice_get, refl, sym, ap, ap₂, ◌∙◌, subst, arith, le-leb}
use Rattle.std.proofs.lemmas.Bool.{cases_lt}
use Rattle.std.proofs.lemmas.List.{length-append, length-drop, length-take-le}
use Rattle.cargo_core.specs.Lists.{IsPrefix}
use Rattle.cargo_core.specs.Pages.{Paged}
use Rattle.cargo_core.specs.declared.item.Body.TheVariants as Carried
use Rattle.frame_core.specs.declared.mac.Mac.{Mac}
use Rattle.frame_core.specs.Frames.{turned_round}
use Rattle.wire_core.specs.Deeds.{Cargo}
use Rattle.wire_core.specs.Lists.{Passed}
use Rattle.play_core.proofs.Lists.{some_is, map_from, there_is, there_below}
use Rattle.class_expect.specs.NetExpect.Expecting.{Program, Sink, Source, Echo, frames_for, is_for_client}
use Rattle.buffer_kit.specs.Entries.{frame_of, filled, all_filled}
use Rattle.buffer_kit.specs.Pools.{given_entry}
use Rattle.buffer_kit.proofs.TwoLists.{get_front, get_behind}
use Rattle.client_programs.specs.Net.Clients as client
use Rattle.client_programs.specs.Net.Programs.{program_of, sent_for, frames_out, answer_to}
use Rattle.client_programs.specs.declared.net.NetClient.{NetClient}
use Rattle.net_virt_tx.specs.Clients.{at_address}
use Rattle.net_virt_tx.proofs.Counting.{at_append}
use Rattle.wire_core.specs.Fates.{without}
use Rattle.net_law.specs.Dropped.{left_for, sends_upon}
use Rattle.net_law.proofs.DropsLemmas.Leaving.{left_there}
use Rattle.net_law.proofs.DropsLemmas.Sending.{sends_left}
use Rattle.net_law.specs.Owners.Names.{ClientPools}
use Rattle.net_law.proofs.PartsLemmas.Leasing.{prefix_get}
use Rattle.owner_law.proofs.PoolsLemmas.Merging.{kept_is}
use Rattle.net_law.specs.TxParts.Numbers.{NetPlace}
use Rattle.net_quiet.proofs.CastLemmas.Rooms.{IsLong, roomy}
use Rattle.net_quiet.proofs.TxTurns.Turning.{at_few}
use Rattle.net_quiet.specs.TxCast.Casting.{IsFrame, AreFrames, AreSends, IsSend, IsSendingClient}
use Rattle.net_quiet.proofs.TxCast.Numbers.{client_plays, client_ships}
use Rattle.net_quiet.proofs.TxCast.Entries.{IsAtBuffer, filled_sends, send_buffer, given_at, filled_few, numbered_once}

-- an answer is as long as the frame
turned_long : (frame : List ℕ) (mac : Mac) → length mac.0 ≡ 6 → 14 ≤ length frame → length (turned_round frame mac) ≡ length frame
turned_long frame mac six long =
    let behind = length-drop 6 frame in
    let source = length-take-le 6 (drop 6 frame) (omega (arith, behind, long)) in
    let rest = length-drop 12 frame in
    let parts = length-append (take 6 (drop 6 frame) ++ mac.0) (drop 12 frame) in
    let own = length-append (take 6 (drop 6 frame)) mac.0 in
    let whole : length (turned_round frame mac) ≡ length ((take 6 (drop 6 frame) ++ mac.0) ++ drop 12 frame) = refl in
    omega (arith, source, rest, parts, own, whole, six, long)

answer_frame : (most : ℕ) (frame : List ℕ) (mac : Mac) → length mac.0 ≡ 6 → IsFrame most frame → IsFrame most (answer_to mac frame)
answer_frame most frame mac six is =
    let same = turned_long frame mac six is.0 in
    let turned : IsFrame most (turned_round frame mac) = (let low = is.0 in omega (arith, same, low), let high = is.1 in omega (arith, same, high)) in
    subst (λ (b : Bool). IsFrame most (cond b (turned_round frame mac) frame)) (sym (le-leb 14 (length frame) is.0)) turned

-- what is for a client are some of the frames
for_frames : (most : ℕ) (mac : Mac) (frames : List (List ℕ)) → AreFrames most frames → AreFrames most (frames_for mac frames)
for_frames most mac frames are k frame at = let kept = kept_is (is_for_client mac) frames k frame at in are kept.1.0 frame kept.1.1

-- what isn't marked are some of them
left_frames : (most : ℕ) (marks : List Bool) (frames : List (List ℕ)) → AreFrames most frames → AreFrames most (without marks frames)
left_frames most marks frames are k frame at = let there = left_there marks frames k frame at in are there.0 frame there.1

begun_frames : (most : ℕ) (xs ys : List (List ℕ)) → IsPrefix xs ys → AreFrames most ys → AreFrames most xs
begun_frames most xs ys begins are k frame at = are k frame (prefix_get xs ys begins k frame at)

-- what a client sends where these came
pub out_frames : (most : ℕ) (program : Program) (mac : Mac) (came : List (List ℕ)) → length mac.0 ≡ 6 → AreFrames most came → ((script : List (List ℕ)) → program ≡ Source script → AreFrames most script) → AreFrames most (sent_for program mac came)
out_frames most Sink mac came six are scripts k frame at = absurd cc
out_frames most (Source script) mac came six are scripts k frame at = scripts script refl k frame at
out_frames most Echo mac came six are scripts k frame at =
    let f = map_from (answer_to mac) came k frame at in
    subst (IsFrame most) f.2 (answer_frame most f.0 mac six (are k f.0 f.1))

-- the frame with which an entry is filled is one of those
pub filled_from : (fs : List (List ℕ)) (cs : List Cargo) (k : ℕ) (c : Cargo) → slice_get (all_filled fs cs) k ≡ Some c → (f : List ℕ) × (y : Cargo) × (slice_get fs k ≡ Some f) × (slice_get cs k ≡ Some y) × (filled f y ≡ c)
filled_from [] cs k c at = cc
filled_from (f ∷ fs) [] k c at = cc
filled_from (f ∷ fs) (y ∷ cs) zero c at = (f, y, refl, refl, some_is at)
filled_from (f ∷ fs) (y ∷ cs) (suc k) c at = filled_from fs cs k c at

-- a client of a number, with what it recorded
module _ (net : NetPlace) (k : ℕ) (program : Program) (mac : Mac) (q : ClientPools) (frames : List (List ℕ)) (c : NetClient) (passed : Passed) (h : IsSendingClient net k program mac q c passed)
    (marks : List Bool) (six : length mac.0 ≡ 6) (received : AreFrames net.most frames) (scripts : (script : List (List ℕ)) → program ≡ Source script → AreFrames net.most script) (records : IsPrefix c.frames.tape.shown (left_for marks mac frames)) (fits : net.most ≤ q.tx.size) where
  abbrev put : List Cargo
  put = passed.sent (client.tx_active c)

  abbrev back : List Cargo
  back = passed.taken (client.tx_free c)

  abbrev spare : List Paged
  spare = h.row.spare

  abbrev had : List Cargo
  had = map (given_entry c.outbox.stock.base c.outbox.stock.size) spare

  abbrev came : List (List ℕ)
  came = map frame_of (passed.taken (client.rx_active c))

  abbrev out : List (List ℕ)
  out = frames_out c.program came

  plays : (program_of c.program ≡ program) × (c.program.mac ≡ mac)
  plays = client_plays net.first k program mac q c h.part

  ships : (c.outbox.stock.pool.0 ≡ q.tx.number) × (c.outbox.stock.base ≡ 0) × (c.outbox.stock.buffers ≡ q.tx.buffers) × (c.outbox.stock.size ≡ q.tx.size)
  ships = client_ships net.first k program mac q c h.part

  some : 1 ≤ q.tx.size
  some = let e = ships.3 in let s = h.row.is_spare.are_pool.some in omega (arith, e, s)

  -- the frames that it sends
  out_are : AreFrames net.most out
  out_are = subst (λ p. AreFrames net.most (sent_for p c.program.mac came)) (sym plays.0) (subst (λ m. AreFrames net.most (sent_for program m came)) (sym plays.1)
      (out_frames net.most program mac came six (begun_frames net.most came (left_for marks mac frames) (subst (λ l. IsPrefix l (left_for marks mac frames)) h.row.got records) (left_frames net.most marks (frames_for mac frames) (for_frames net.most mac frames received))) scripts))

  had_is : had ≡ map (given_entry 0 q.tx.size) spare
  had_is = ap₂ (λ b n. map (given_entry b n) spare) ships.1 ships.3

  -- its own buffers
  had_at : (j : ℕ) (x : Cargo) → slice_get had j ≡ Some x → IsAtBuffer q.tx x
  had_at j x at =
      let f = map_from (given_entry 0 q.tx.size) spare j x (ap (λ l. slice_get l j) (sym had_is) ∙ at) in
      let page : Paged = f.0 in
      let start = h.row.is_spare in
      let below = there_below spare j page f.1 in
      let few : page.no < q.tx.buffers = (let n = start.are_pool.numbered j page f.1 in let m = start.many in let e = ships.2 in omega (arith, below, n, m, e)) in
      subst (IsAtBuffer q.tx) f.2 (given_at q.tx c.outbox.stock.pool page ships.0 (start.are_pool.same_pool j page f.1) few (start.are_pool.sized j page f.1 ∙ ships.3))

  -- a buffer is in its hand when it is put
  pub in_hand : (b : ℕ) → at_address (b * q.tx.size) put ≤ at_address (b * q.tx.size) back + 1
  in_hand b =
      let first = at_few (b * q.tx.size) put (all_filled out (had ++ back)) h.row.sends.filled in
      let second = filled_few (b * q.tx.size) out (had ++ back) in
      let parts = at_append (b * q.tx.size) had back in
      let once = numbered_once q.tx.size some 0 b spare (λ j p at. let n = h.row.is_spare.are_pool.numbered j p at in omega (arith, n)) in
      let own = ap (at_address (b * q.tx.size)) had_is in
      omega (arith, first, second, parts, once, own)

  module _ (good : AreSends net.most q.tx back) where
    -- the buffers in which it sends
    all_at : (j : ℕ) (x : Cargo) → slice_get (had ++ back) j ≡ Some x → IsAtBuffer q.tx x
    all_at j x at = by (cases_lt j (length had))
      where
        by : (j < length had) ⊎ (length had ≤ j) → IsAtBuffer q.tx x
        by (inl within) =
            let y = there_is had j within in
            let same : y.0 ≡ x = some_is (sym (get_front had back j y.0 y.1) ∙ at) in
            subst (IsAtBuffer q.tx) same (had_at j y.0 y.1)
        by (inr past) =
            let i = j - length had in
            let parts : j ≡ length had + i = omega (arith, past) in
            let behind : slice_get back i ≡ Some x = sym (get_behind had back i) ∙ (ap (slice_get (had ++ back)) (sym parts) ∙ at) in
            send_buffer net.most q.tx x (good i x behind)

    pub puts : AreSends net.most q.tx put
    puts j x at =
        let f = filled_from out (had ++ back) j x (prefix_get put (all_filled out (had ++ back)) h.row.sends.filled j x at) in
        subst (IsSend net.most q.tx) f.4 (filled_sends net.most q.tx fits f.0 f.1 (out_are j f.0 f.2) (all_at j f.1 f.3))

    pub begins : IsPrefix (map frame_of put) (sends_upon program mac (left_for marks mac frames))
    begins =
        subst (λ p. IsPrefix (map frame_of put) (sends_upon p mac (left_for marks mac frames))) plays.0
        (sends_left c mac frames marks passed plays.1 h.row records
        (roomy q.tx.size out (had ++ back) (λ j f at. let high = (out_are j f at).1 in omega (arith, high, fits)) (λ j x at. long_at x (all_at j x at))))
      where
        long_at : (x : Cargo) → IsAtBuffer q.tx x → IsLong q.tx.size x
        long_at (item, Carried.Page page) is = (is.0, is.4)
        long_at (item, Carried.Empty) is = absurd is
        long_at (item, Carried.Lease lease) is = absurd is
