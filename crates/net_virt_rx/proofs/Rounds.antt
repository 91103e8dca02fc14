-- The turns of the virtualiser, its start, and its row.
use Rattle.std.proofs.Common.{◌≡◌, ◌+◌, ◌==◌, ◌<◌, ◌≤◌, ℕ, Bool, true, false, nat_lt, Option, Some, None, is_some, List, [], ◌∷◌, ◌++◌, All, length, map, slice_get, slice_index_or, refl, sym, ap, ◌∙◌, subst, arith}
use Rattle.std.specs.Option.{option_to_list}
use Rattle.std.proofs.lemmas.Bool.{lt-ltb}
use Rattle.std.proofs.lemmas.Option.{slice_get-get_or}
use Rattle.std.proofs.lemmas.List.{append-nil, get_or_append_left}
use Rattle.std.proofs.lemmas.List.Elements.{All-nil, All-cons, All-map}
use Rattle.cargo_core.specs.declared.item.PoolId.{PoolId}
use Rattle.cargo_core.specs.Bodies.{buffers_of}
use Rattle.cargo_core.specs.Loans.{receivers_at}
use Rattle.cargo_core.specs.Pages.{Paged}
use Rattle.frame_core.specs.declared.mac.Mac.{Mac}
use Rattle.wire_core.specs.declared.names.QueueId.{QueueId}
use Rattle.wire_core.specs.declared.names.Event.{Event}
use Rattle.wire_core.specs.Bells.{bit}
use Rattle.wire_core.specs.Deeds.{Cargo}
use Rattle.wire_core.specs.Lists.{Passed, if_there, nothing_passed}
use Rattle.wire_core.specs.Marks.{is_mark}
use Rattle.turn_kit.specs.declared.turns.Turn.{Turn}
use Rattle.turn_kit.specs.Hands.{bodies_of, bodies_at}
use Rattle.turn_kit.specs.Turns.{PostedAt, Turned, Round, choice_of, chosen_place, last_after}
use Rattle.turn_kit.proofs.Holding.{buffers-append}
use Rattle.buffer_kit.specs.Pools.{given_entry}
use Rattle.buffer_kit.specs.Stocks.{stock_list, stock_hand}
use Rattle.buffer_kit.specs.declared.virt_ends.VirtEnd.{VirtEnd}
use Rattle.buffer_kit.specs.declared.virt_ends.VirtEnds.{VirtEnds}
use Rattle.buffer_kit.specs.Virtualising.{IsThere, from_queues, to_queues, virt_posts, virt_round, place_of, need_of}
use Rattle.buffer_kit.proofs.Counts.{stock_count, given_count}
use Rattle.buffer_kit.proofs.VirtTurns.{turned}
use Rattle.net_virt_rx.specs.declared.NetVirtRx.{NetVirtRx}
use Rattle.net_virt_rx.specs.declared.sharer.Sharer.{Sharer}
use Rattle.net_virt_rx.specs.Sharing.{IsSharer, IsNewSharer, SharerStands, IsBuffer, is_idle, is_out, named, owed_to, owed_lease}
use Rattle.net_virt_rx.specs.Receiving.{RxStands, RxStandsFor, RxRow, IsServed, IsOutOfTurn, SameRx, queue_at, rx_round}
use Rattle.net_virt_rx.proofs.Marking.{all_clear}
use Rattle.net_virt_rx.proofs.Naming.{named_append, named_once}
use Rattle.net_virt_rx.proofs.Moving.{lent_some}
use Rattle.net_virt_rx.proofs.Steps.{queue_is, none_if}

-- the ends with what is needed and loaded
round_of : VirtEnds → Sharer → Round
round_of ends w = virt_round ends (is_idle w) (is_some w.stock.next) (λ k. is_idle w) (λ k. slice_index_or w.owed k false)

pub rx_turned : (v v1 mid new : NetVirtRx) (e : Event) (at : VirtEnd) (r : Option Cargo) → v1.ends ≡ v.ends → v1.work ≡ record v.work { ready = r } → place_of v1.ends at ≡ chosen_place (choice_of (rx_round v1)) → IsThere v1.ends at
    → mid ≡ record v1 { ends = record v1.ends { turn = record { last = last_after (choice_of (rx_round v1)) } } } → PostedAt (virt_posts mid.ends) (place_of mid.ends at) (need_of (is_idle mid.work) (is_some mid.work.stock.next) (λ k. is_idle mid.work) (λ k. slice_index_or mid.work.owed k false) at) e (virt_posts new.ends)
    → SameRx mid new → new.ends.turn ≡ mid.ends.turn → (is_mark e.op e.answer ≡ false → new.work ≡ mid.work) → Turned (rx_round v) e (rx_round new)
unfolding round_of
rx_turned v v1 mid new e at r ends work is there after posted same turn still =
    let mid_work : mid.work ≡ v1.work = ap (λ (m : NetVirtRx). m.work) after in
    let t : Turn = record { last = last_after (choice_of (rx_round v1)) } in
    let rounds : rx_round v1 ≡ rx_round v = ap (λ (en : VirtEnds). round_of en v1.work) ends ∙ ap (round_of v.ends) work in
    let posted' : PostedAt (virt_posts mid.ends) (place_of mid.ends at) (need_of (is_idle v1.work) (is_some v1.work.stock.next) (λ k. is_idle v1.work) (λ k. slice_index_or v1.work.owed k false) at) e (virt_posts new.ends) =
    subst (λ (w : Sharer). PostedAt (virt_posts mid.ends) (place_of mid.ends at) (need_of (is_idle w) (is_some w.stock.next) (λ k. is_idle w) (λ k. slice_index_or w.owed k false) at) e (virt_posts new.ends)) mid_work posted in
    subst (λ (x : Round). Turned x e (rx_round new)) rounds
    (turned v1.ends mid.ends new.ends t e at (is_idle v1.work) (is_some v1.work.stock.next) (is_idle new.work) (is_some new.work.stock.next) (λ k. is_idle v1.work) (λ k. slice_index_or v1.work.owed k false) (λ k. is_idle new.work) (λ k. slice_index_or new.work.owed k false)
    (ap (λ (m : NetVirtRx). m.ends) after) is there posted' same.ends turn refl
    (λ m. let w : new.work ≡ v1.work = still m ∙ mid_work in record {
      need_stays = ap is_idle w;
      owed_stays = ap (λ (x : Sharer). is_some x.stock.next) w;
      needs_stay = λ k. ap is_idle w;
      loads_stay = λ k. ap (λ (x : Sharer). slice_index_or x.owed k false) w;
    }))

nothing_at : (pool : PoolId) (ns : List ℕ) → buffers_of pool (bodies_at (λ n. []) ns) ≡ 0
nothing_at pool [] = refl
nothing_at pool (n ∷ ns) = nothing_at pool ns

-- at the start
module _ (base : ℕ) (macs : List Mac) (pages : List Paged) (w : Sharer) (h : IsSharer w) (n : IsNewSharer base macs pages w) where
  list_is : stock_list w.stock ≡ map (given_entry w.stock.base w.stock.size) pages
  list_is = n.stock ∙ ap (λ b. map (given_entry b w.stock.size) pages) (sym n.base_is)

  all_within : All (IsBuffer w.stock) (map (given_entry w.stock.base w.stock.size) pages)
  all_within = All-map (IsBuffer w.stock) (given_entry w.stock.base w.stock.size) pages (λ k d there.
      let at = slice_get-get_or pages k d there in
      let many = n.is_start.many in
      let number = n.is_start.are_pool.numbered k (slice_index_or pages k d) at in
      (n.is_start.are_pool.same_pool k (slice_index_or pages k d) at, omega (arith, many, number, there), refl, n.is_start.are_pool.sized k (slice_index_or pages k d) at))

  sharer_new : SharerStands w pages [] [] (λ k. []) (λ k. [])
  sharer_new = record {
    earlier = [];
    latest = [];
    split = refl;
    few = omega arith;
    within = All-nil (IsBuffer w.stock);
    clients = λ k mac at. record {
      lends = ap (λ b. if_there b (owed_lease w ∷ [])) (all_clear w.owed k n.none_owed);
      prompt = ([], refl);
      backs = λ b within. ap (λ t. 0 + bit t) (all_clear (slice_index_or w.out.items b []) k (h.counts b within ∙ n.none_lent b));
    };
    later = [];
    gives = list_is ∙ sym (append-nil (map (given_entry w.stock.base w.stock.size) pages));
    given_within = subst (λ xs. All (IsBuffer w.stock) xs) (sym list_is) all_within;
    counts = λ b within.
        let many = n.is_start.many in
        let one = ap (named w.stock.base w.stock.size b) list_is ∙ named_once w.stock.base w.stock.size b pages h.some n.is_start.are_pool.numbered (omega (arith, many, within)) in
        let none = ap (λ m. bit (nat_lt 0 m)) (n.none_lent b) in
        omega (arith, one, none);
  }

  pub new_stands : (i o : ℕ) (f t : List QueueId) → RxStands i o f t w nothing_passed
  new_stands i o f t = record {
    work = h;
    start = pages;
    is_start = n.is_start;
    turn = λ m. [];
    place = 0;
    taken = λ m. sym (ap (λ (s : Option Cargo). if_there (0 == m) (option_to_list s)) n.none_stray ∙ none_if (0 == m));
    stands = sharer_new;
    stray = λ c e. let no_such : None ≡ Some c = sym n.none_stray ∙ e in absurd cc;
    balances = λ pool.
        let came = nothing_at pool (i ∷ map (λ q. q.0) f) in
        let went = nothing_at pool (o ∷ map (λ q. q.0) t) in
        let stock = stock_count pool w.stock in
        let list = ap (λ xs. buffers_of pool (bodies_of xs)) list_is in
        let start = given_count pool w.stock.base w.stock.size pages in
        let hand = buffers-append pool (stock_hand w.stock) (bodies_of (option_to_list w.stray)) in
        let none = ap (λ (s : Option Cargo). buffers_of pool (bodies_of (option_to_list s))) n.none_stray in
        let lent = ap (buffers_of pool) n.nothing_lent in
        omega (arith, came, went, stock, list, start, hand, none, lent);
  }

front_holds : (P : Cargo → Type 0) (xs ys : List Cargo) → All P (xs ++ ys) → All P xs
front_holds P xs ys h = λ k d there. let long = longer xs ys in subst P (get_or_append_left xs ys d k there) (h k d (omega (arith, long, there)))
  where
    longer : (xs ys : List Cargo) → length xs ≤ length (xs ++ ys)
    longer [] ys = omega arith
    longer (x ∷ xs) ys = let e = longer xs ys in omega (arith, e)

all_option : (P : Cargo → Type 0) (s : Option Cargo) → ((c : Cargo) → s ≡ Some c → P c) → All P (option_to_list s)
all_option P None h = All-nil P
all_option P (Some c) h = All-cons P c [] (h c refl) (All-nil P)

few_option : (s : Option Cargo) → length (option_to_list s) ≤ 1
few_option None = omega arith
few_option (Some c) = omega arith

bit_most : (t : Bool) → bit t ≤ 1
bit_most true = omega arith
bit_most false = omega arith

one_bit : (t : Bool) → (bit t ≡ 0 → ⊥) → t ≡ true
one_bit true ne = refl
one_bit false ne = absurd (ne refl)

module _ (w : Sharer) (work : IsSharer w) (start : List Paged) (frames given : List Cargo) (shared back : ℕ → List Cargo) (s : SharerStands w start frames given shared back) where
  serves_at : (k : ℕ) (mac : Mac) → slice_get w.macs.items k ≡ Some mac → IsServed w.stock mac frames s.earlier given (shared k) (back k)
  serves_at k mac at =
      let c = s.clients k mac at in
      record {
        lends = (owed_to w k, c.lends);
        prompt = c.prompt;
        backs = λ b within. let e = c.backs b within in omega (arith, e);
        single = λ b within. let e = c.backs b within in let m = bit_most (is_out w b k) in omega (arith, e, m);
        not_lent = λ b within less.
            let e = c.backs b within in
            let out = one_bit (is_out w b k) (λ z. omega (arith, e, z, less)) in
            let lent = lent_some w work b k within out in
            let one = ap bit (lt-ltb 0 (receivers_at w.lent b) (omega (arith, lent))) in
            let all = s.counts b within in
            let parts = named_append w.stock.base w.stock.size b given (stock_list w.stock) in
            omega (arith, one, all, parts);
      }

  in_hand_at : (b : ℕ) → b < w.stock.buffers → named w.stock.base w.stock.size b given ≤ named w.stock.base w.stock.size b frames + 1
  in_hand_at b within = let all = s.counts b within in let parts = named_append w.stock.base w.stock.size b given (stock_list w.stock) in omega (arith, all, parts)

pub row_of : (v : NetVirtRx) (passed : Passed) → RxStandsFor v passed → RxRow v passed
row_of v passed h =
    let o = v.ends.output.queue.0 in
    let i = v.ends.input.queue.0 in
    let f = from_queues v.ends in
    let t = to_queues v.ends in
    record {
      start = h.start;
      is_start = h.is_start;
      turn = h.turn;
      place = h.place;
      stray = option_to_list v.work.stray;
      taken = h.taken;
      few_stray = few_option v.work.stray;
      out_of_turn = all_option (IsOutOfTurn i o f v.work h.turn passed.sent h.place) v.work.stray h.stray;
      earlier = h.stands.earlier;
      latest = h.stands.latest;
      split = h.stands.split;
      few = h.stands.few;
      within = h.stands.within;
      later = h.stands.later;
      gives = (stock_list v.work.stock, h.stands.gives);
      given_within = front_holds (IsBuffer v.work.stock) (passed.sent o) (stock_list v.work.stock) h.stands.given_within;
      in_hand = in_hand_at v.work h.work h.start (h.turn i) (passed.sent o) (λ k. passed.sent (queue_at t k)) (λ k. h.turn (queue_at f k)) h.stands;
      serves = λ k mac q r at atq atr.
          subst (λ n. IsServed v.work.stock mac (h.turn i) h.stands.earlier (passed.sent o) (passed.sent q.0) (h.turn n)) (queue_is f k r atr)
          (subst (λ n. IsServed v.work.stock mac (h.turn i) h.stands.earlier (passed.sent o) (passed.sent n) (h.turn (queue_at f k))) (queue_is t k q atq)
          (serves_at v.work h.work h.start (h.turn i) (passed.sent o) (λ j. passed.sent (queue_at t j)) (λ j. h.turn (queue_at f j)) h.stands k mac at));
      strayed = refl;
    }
