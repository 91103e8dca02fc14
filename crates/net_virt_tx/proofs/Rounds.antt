-- The turns of the virtualiser, its start, and its row.
use Rattle.std.proofs.Common.{◌≤◌, ◌≡◌, ◌+◌, ◌==◌, ℕ, zero, suc, false, Option, Some, None, List, [], ◌∷◌, ◌++◌, length, map, flat_map, slice_get, slice_index_or, refl, sym, ap, ◌∙◌, subst, arith}
use Rattle.std.specs.List.{filter, sum_by}
use Rattle.std.specs.Option.{option_to_list}
use Rattle.std.proofs.lemmas.List.{length-map}
use Rattle.std.proofs.lemmas.List.Sums.{sum_by-cons}
use Rattle.std.proofs.lemmas.List.Elements.{All-nil}
use Rattle.cargo_core.specs.declared.item.PoolId.{PoolId}
use Rattle.cargo_core.specs.Bodies.{buffers_of}
use Rattle.cargo_core.specs.Ranges.{AreRanges}
use Rattle.cargo_core.specs.Lists.{IsPrefix}
use Rattle.wire_core.specs.declared.names.QueueId.{QueueId}
use Rattle.wire_core.specs.declared.names.Event.{Event}
use Rattle.wire_core.specs.Bells.{bit}
use Rattle.wire_core.specs.Deeds.{Cargo}
use Rattle.wire_core.specs.Lists.{Lists, Passed, nothing_passed}
use Rattle.wire_core.specs.Marks.{is_mark}
use Rattle.turn_kit.specs.declared.turns.Turn.{Turn}
use Rattle.turn_kit.specs.Hands.{bodies_at}
use Rattle.turn_kit.specs.Turns.{PostedAt, Turned, choice_of, chosen_place, last_after}
use Rattle.turn_kit.proofs.Holding.{cargo-append}
use Rattle.turn_kit.proofs.Offers.{get_map}
use Rattle.buffer_kit.specs.declared.virt_ends.VirtEnd.{VirtEnd}
use Rattle.buffer_kit.specs.declared.virt_ends.VirtEnds.{VirtEnds}
use Rattle.buffer_kit.specs.Virtualising.{IsThere, new_intake, new_outlet, from_queues, to_queues, virt_posts, place_of, need_of}
use Rattle.buffer_kit.proofs.VirtTurns.{turned}
use Rattle.turn_kit.specs.declared.ends.Intake.{Intake}
use Rattle.turn_kit.specs.declared.ends.Outlet.{Outlet}
use Rattle.buffer_kit.proofs.ManyClients.{some_eq, queue_is, all_option, few_option}
use Rattle.net_virt_tx.specs.declared.NetVirtTx.{NetVirtTx}
use Rattle.net_virt_tx.specs.declared.TxEnds.{TxEnds}
use Rattle.net_virt_tx.specs.declared.client.Client.{Client}
use Rattle.net_virt_tx.specs.declared.descriptors.Sender.{Sender}
use Rattle.net_virt_tx.specs.declared.traffic.Traffic.{Traffic}
use Rattle.net_virt_tx.specs.Descriptors.{to_client}
use Rattle.net_virt_tx.specs.Queued.{returns_list}
use Rattle.net_virt_tx.specs.Serving.{IsServed, is_good_of, own_of, bad_ones}
use Rattle.net_virt_tx.specs.Clients.{IsClient, IsFresh, ClientStands, capped, client_cargo, carried, is_marked}
use Rattle.net_virt_tx.specs.Traffics.{IsTraffic, IsStill, IsSomeones, is_free, loaded_at, needs_at, owes, senders}
use Rattle.net_virt_tx.specs.Sending.{TxStands, TxStandsFor, TxRow, AreAway, IsAnyones, IsNewTraffic, IsOutOfTurn, SameTx, bad_total, queue_at, sender_of, tx_round}
use Rattle.net_virt_tx.proofs.Merging.{merge_nothing}
use Rattle.net_virt_tx.proofs.Counting.{bit_most}
use Rattle.net_virt_tx.proofs.Splitting.{AreSized, merges}
use Rattle.net_virt_tx.proofs.Steps.{stray_none, own_at}

-- what is needed and loaded stays where the clients do
still_free : (w w' : Traffic) → IsStill w w' → is_free w' ≡ is_free w
still_free w w' (cs, s) = rw s refl

still_owes : (w w' : Traffic) → IsStill w w' → owes w' ≡ owes w
still_owes w w' (cs, s) = rw (s, cs) refl

still_needs : (w w' : Traffic) → IsStill w w' → (k : ℕ) → needs_at w' k ≡ needs_at w k
still_needs w w' (cs, s) k = rw (s, cs) refl

still_loaded : (w w' : Traffic) → IsStill w w' → (k : ℕ) → loaded_at w' k ≡ loaded_at w k
still_loaded w w' (cs, s) k = rw (s, cs) refl

pub tx_turned : (v mid new : NetVirtTx) (e : Event) (at : VirtEnd) → place_of v.ends at ≡ chosen_place (choice_of (tx_round v)) → IsThere v.ends at
    → mid ≡ record v { ends = record v.ends { turn = record { last = last_after (choice_of (tx_round v)) } } } → PostedAt (virt_posts mid.ends) (place_of mid.ends at) (need_of (is_free mid.work) (owes mid.work) (needs_at mid.work) (loaded_at mid.work) at) e (virt_posts new.ends)
    → SameTx mid new → new.ends.turn ≡ mid.ends.turn → (is_mark e.op e.answer ≡ false → IsStill mid.work new.work) → Turned (tx_round v) e (tx_round new)
tx_turned v mid new e at is there after posted same turn still =
    let mid_work : mid.work ≡ v.work = ap (λ (m : NetVirtTx). m.work) after in
    let t : Turn = record { last = last_after (choice_of (tx_round v)) } in
    let posted' : PostedAt (virt_posts mid.ends) (place_of mid.ends at) (need_of (is_free v.work) (owes v.work) (needs_at v.work) (loaded_at v.work) at) e (virt_posts new.ends) =
    subst (λ (w : Traffic). PostedAt (virt_posts mid.ends) (place_of mid.ends at) (need_of (is_free w) (owes w) (needs_at w) (loaded_at w) at) e (virt_posts new.ends)) mid_work posted in
    turned v.ends mid.ends new.ends t e at (is_free v.work) (owes v.work) (is_free new.work) (owes new.work) (needs_at v.work) (loaded_at v.work) (needs_at new.work) (loaded_at new.work)
    (ap (λ (m : NetVirtTx). m.ends) after) is there posted' same.ends turn refl
    (λ m. let w : IsStill v.work new.work = subst (λ (x : Traffic). IsStill x new.work) mid_work (still m) in record {
      need_stays = still_free v.work new.work w;
      owed_stays = still_owes v.work new.work w;
      needs_stay = still_needs v.work new.work w;
      loads_stay = still_loaded v.work new.work w;
    })

nothing_at : (pool : PoolId) (ns : List ℕ) → buffers_of pool (bodies_at (λ n. []) ns) ≡ 0
nothing_at pool [] = refl
nothing_at pool (n ∷ ns) = nothing_at pool ns

-- at the start
fresh_stands : (c : Client) → IsFresh c → ClientStands c [] [] [] []
fresh_stands c n = record {
  sends = ap (λ (o : Option Cargo). map (to_client c.sender.base) (option_to_list o)) n.none_leaving;
  bads = [];
  bads_are = ap (λ (o : Option Cargo). option_to_list o) n.none_bad;
  rets = [];
  rets_are = n.none_back;
  merged = merge_nothing;
  counts = λ b within. ap (λ t. 0 + bit t) (sym (n.none_away b));
  bad_many = n.none_many ∙ omega arith;
}

fresh_cargo : (c : Client) → IsFresh c → client_cargo c ≡ []
fresh_cargo c n = rw (n.none_leaving, n.none_bad, n.none_back) refl

none_held : (pool : PoolId) (cs : List Client) → ((k : ℕ) (c : Client) → slice_get cs k ≡ Some c → IsFresh c) → carried pool (flat_map client_cargo cs) ≡ 0
none_held pool [] h = refl
none_held pool (c ∷ cs) h =
    let all = cargo-append pool (client_cargo c) (flat_map client_cargo cs) in
    let here = ap (carried pool) (fresh_cargo c (h zero c refl)) in
    let rest = none_held pool cs (λ k d at. h (suc k) d at) in
    omega (arith, all, here, rest)

pub new_stands : (ss : List Sender) (w : Traffic) → IsTraffic w → IsNewTraffic ss w → (i o : ℕ) (f t : List QueueId) → length f ≡ length ss → length t ≡ length ss → TxStands i o f t w nothing_passed
new_stands ss w h n i o f t long long' = record {
  work = h;
  from_each = long ∙ (ap length (sym n.senders_are) ∙ length-map w.clients.items (λ (c : Client). c.sender));
  to_each = long' ∙ (ap length (sym n.senders_are) ∙ length-map w.clients.items (λ (c : Client). c.sender));
  turn = λ m. [];
  place = 0;
  taken = λ m. sym (stray_none (0 == m) w.stray n.none_stray);
  stands = record {
    clients = λ k c at. fresh_stands c (n.fresh k c at);
    within = All-nil (IsSomeones w.clients.items);
  };
  stray = λ c e. let no_such : None ≡ Some c = sym n.none_stray ∙ e in absurd cc;
  alone = λ k d c e at here. let no_such : None ≡ Some c = sym n.none_stray ∙ e in absurd cc;
  balances = λ pool.
      let came = nothing_at pool (i ∷ map (λ q. q.0) f) in
      let went = nothing_at pool (o ∷ map (λ q. q.0) t) in
      let hand = cargo-append pool (flat_map client_cargo w.clients.items) (option_to_list w.stray) in
      let none = none_held pool w.clients.items n.fresh in
      let stray = ap (λ (s : Option Cargo). carried pool (option_to_list s)) n.none_stray in
      omega (arith, came, went, hand, none, stray);
}

-- a client of which the sender is known
from_map : (cs : List Client) (k : ℕ) (s : Sender) → slice_get (map (λ (c : Client). c.sender) cs) k ≡ Some s → (c : Client) × (slice_get cs k ≡ Some c) × (c.sender ≡ s)
from_map [] k s at = absurd cc
from_map (c ∷ cs) zero s at = (c, refl, some_eq at)
from_map (c ∷ cs) (suc k) s at = from_map cs k s at

-- how many bad descriptors came in all
capped_both : (x b y : ℕ) → capped b ≡ capped y → capped (capped x + b) ≡ capped (x + y)
capped_both x b y e = omega (arith, e)

bads_summed : (cs : List Client) (qs : List QueueId) (lists : Lists) → length qs ≡ length cs → ((k : ℕ) (c : Client) → slice_get cs k ≡ Some c → c.bad_many ≡ capped (length (bad_ones c.sender (lists (queue_at qs k)))))
    → capped (sum_by (λ (c : Client). c.bad_many) cs) ≡ capped (bad_total (map (λ (c : Client). c.sender) cs) qs lists)
bads_summed [] qs lists long h = refl
bads_summed (c ∷ cs) [] lists long h = absurd (omega (arith, long))
bads_summed (c ∷ cs) (q ∷ qs) lists long h =
    let rest = bads_summed cs qs lists (omega (arith, long)) (λ k d at. h (suc k) d at) in
    let sum = sum_by-cons (λ (x : Client). x.bad_many) c cs in
    let one = h zero c refl in
    ap capped (sum ∙ ap (λ n. n + sum_by (λ (x : Client). x.bad_many) cs) one) ∙ capped_both (length (bad_ones c.sender (lists q.0))) (sum_by (λ (x : Client). x.bad_many) cs) (bad_total (map (λ (x : Client). x.sender) cs) qs lists) rest

serves_at : (c : Client) (came went returned back : List Cargo) → ClientStands c came (own_of c.sender went) (own_of c.sender returned) back → IsServed c.sender came went returned back
serves_at c came went returned back s = record {
  sends = (map (to_client c.sender.base) (option_to_list c.leaving), s.sends);
  gives_back = record {
    parts = s.bads ∷ s.rets ∷ [];
    as_many = refl;
    begins = λ k part whole at at'. begins k part whole at at';
    merged = s.merged;
  };
}
  where
    begins : (k : ℕ) (part whole : List Cargo) → slice_get (s.bads ∷ s.rets ∷ []) k ≡ Some part → slice_get (bad_ones c.sender came ∷ own_of c.sender returned ∷ []) k ≡ Some whole → IsPrefix part whole
    begins zero part whole at at' = (option_to_list c.bad, ap (λ l. l ++ option_to_list c.bad) (sym (some_eq at)) ∙ (s.bads_are ∙ some_eq at'))
    begins (suc zero) part whole at at' = (returns_list c.returns, ap (λ l. l ++ returns_list c.returns) (sym (some_eq at)) ∙ (s.rets_are ∙ some_eq at'))
    begins (suc (suc k)) part whole at at' = absurd cc

away_at : (c : Client) → IsClient c → (came went returned back : List Cargo) → ClientStands c came (own_of c.sender went) (own_of c.sender returned) back → AreAway c.sender went returned
away_at c h came went returned back s b low =
    let n = s.counts b low in
    let one = own_at c.sender h.sized b low went in
    let two = own_at c.sender h.sized b low returned in
    let m = bit_most (is_marked c.away b) in
    (omega (arith, n, one, two), omega (arith, n, one, two, m))

pub row_of : (v : NetVirtTx) (passed : Passed) → TxStandsFor v passed → TxRow v passed
row_of v passed h =
    let i = v.ends.input.queue.0 in
    let o = v.ends.output.queue.0 in
    let f = from_queues v.ends in
    let t = to_queues v.ends in
    record {
      apart = subst AreRanges h.work.ranges_are h.work.apart;
      sized = sized;
      from_each = h.from_each ∙ sym (length-map v.work.clients.items (λ (c : Client). c.sender));
      to_each = h.to_each ∙ sym (length-map v.work.clients.items (λ (c : Client). c.sender));
      turn = h.turn;
      place = h.place;
      stray = option_to_list v.work.stray;
      taken = h.taken;
      few_stray = few_option v.work.stray;
      out_of_turn = all_option (IsOutOfTurn i o f t (senders v.work) h.turn passed.sent h.place) v.work.stray h.stray;
      merges = merges (senders v.work) f h.turn (passed.sent o) sized (subst AreRanges h.work.ranges_are h.work.apart) (h.from_each ∙ sym (length-map v.work.clients.items (λ (c : Client). c.sender))) (λ n d l. anyones (slice_index_or (passed.sent o) n d) (h.stands.within n d l))
          (λ k s q at atq. let c = from_map v.work.clients.items k s at in
          subst (λ n. IsPrefix (own_of s (passed.sent o)) (filter (is_good_of s) (h.turn n))) (queue_is f k q atq)
          (subst (λ x. IsPrefix (own_of x (passed.sent o)) (filter (is_good_of x) (h.turn (queue_at f k)))) c.2 (serves_at c.0 (h.turn (queue_at f k)) (passed.sent o) (h.turn i) (passed.sent (queue_at t k)) (h.stands.clients k c.0 c.1)).sends));
      within = λ n d l. anyones (slice_index_or (passed.sent o) n d) (h.stands.within n d l);
      away = λ k s at. let c = from_map v.work.clients.items k s at in
          subst (λ x. AreAway x (passed.sent o) (h.turn i)) c.2 (away_at c.0 (h.work.each k c.0 c.1) (h.turn (queue_at f k)) (passed.sent o) (h.turn i) (passed.sent (queue_at t k)) (h.stands.clients k c.0 c.1));
      serves = λ k s q r at atq atr. let c = from_map v.work.clients.items k s at in
          subst (λ n. IsServed s (h.turn n) (passed.sent o) (h.turn i) (passed.sent r.0)) (queue_is f k q atq)
          (subst (λ n. IsServed s (h.turn (queue_at f k)) (passed.sent o) (h.turn i) (passed.sent n)) (queue_is t k r atr)
          (subst (λ x. IsServed x (h.turn (queue_at f k)) (passed.sent o) (h.turn i) (passed.sent (queue_at t k))) c.2 (serves_at c.0 (h.turn (queue_at f k)) (passed.sent o) (h.turn i) (passed.sent (queue_at t k)) (h.stands.clients k c.0 c.1))));
      bad = bads_summed v.work.clients.items f h.turn h.from_each (λ k c at. (h.stands.clients k c at).bad_many);
      strayed = refl;
    }
  where
    sized : AreSized (senders v.work)
    sized k s at = let c = from_map v.work.clients.items k s at in subst (λ (x : Sender). 1 ≤ x.size) c.2 (h.work.each k c.0 c.1).sized

    anyones : (x : Cargo) → IsSomeones v.work.clients.items x → IsAnyones (senders v.work) x
    anyones x (k, c, at, of) = (k, c.sender, get_map (λ (y : Client). y.sender) v.work.clients.items k c at, of)

pub as_many : (most : ℕ) (queues qs ps : List QueueId) (cs clients ds : List TxEnds) (end_of : TxEnds → QueueId) → length queues ≡ length qs → qs ≡ ps → ps ≡ map end_of cs → cs ≡ clients → ds ≡ clients → length queues ≡ length (map (sender_of most) ds)
as_many most queues qs ps cs clients ds end_of long same active are these =
    let d = length-map cs end_of in
    let f = length-map ds (sender_of most) in
    let g = ap length same in
    let h = ap length active in
    let k = ap length are in
    let l = ap length these in
    omega (arith, long, d, f, g, h, k, l)

pub from_long : (e : VirtEnds) (qs : List QueueId) → e.from_clients.ends.items ≡ map new_intake qs → length (from_queues e) ≡ length qs
from_long e qs is =
    let a = length-map e.from_clients.ends.items (λ (i : Intake). i.queue) in
    let b = ap length is in
    let c = length-map qs new_intake in
    omega (arith, a, b, c)

pub to_long : (e : VirtEnds) (qs : List QueueId) → e.to_clients.ends.items ≡ map new_outlet qs → length (to_queues e) ≡ length qs
to_long e qs is =
    let a = length-map e.to_clients.ends.items (λ (o : Outlet). o.queue) in
    let b = ap length is in
    let c = length-map qs new_outlet in
    omega (arith, a, b, c)
