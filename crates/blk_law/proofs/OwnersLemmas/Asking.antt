-- A client puts the buffers of its pool in their order, round after round, and none before it came
-- back.
use Rattle.std.proofs.Common.{◌≡◌, ◌==◌, ◌&&◌, ◌+◌, ◌-◌, ◌*◌, ◌%◌, ◌<◌, ◌≤◌, ℕ, zero, suc, Bool, true, false, cond, nat_lt, if◌then◌else◌, None, List, [], ◌∷◌, length, take, sum_by, count_by, option_and_then, refl, sym, ap, ◌∙◌, arith, mod-lt, mod-eq_of_lt}
use Rattle.std.proofs.Math.Nat.{add-mod_right}
use Rattle.std.proofs.Math.Seq.{take-append_seam}
use Rattle.std.proofs.lemmas.Bool.{ltb-true}
use Rattle.std.proofs.lemmas.List.Sums.{sum_by-cons}
use Rattle.cargo_core.specs.declared.item.Ask.{Ask}
use Rattle.cargo_core.specs.declared.item.Code.{Code}
use Rattle.cargo_core.specs.declared.item.Code.TheVariants as Asked
use Rattle.cargo_core.specs.declared.item.Item.{Item}
use Rattle.wire_core.specs.Bells.{bit}
use Rattle.play_core.specs.Moved.{Moved, Seat}
use Rattle.play_core.specs.Wants.{intake, outlet}
use Rattle.play_core.specs.Sheets.{Scene}
use Rattle.owner_law.specs.Things.{Buffer, Window, Naming, Thing, buffer_at, buffer_of, request_address, names_in, is_named, times, as_buffer, as_lease, lends}
use Rattle.owner_law.specs.Keeping.{Keeps, at_start, all_taken, all_put, things_in, things_out}
use Rattle.owner_law.proofs.Sums.{sum_flat}
use Rattle.owner_law.proofs.Named.{carried, buffers_are, buffers_none, keeps_plain}
use Rattle.client_programs.specs.Blk.Asking.{needs_buffer, request_for}
use Rattle.owner_law.specs.Pools.Places.{PoolAt, by_offset, numbers_from, pool_hand}
use Rattle.net_law.proofs.OwnersLemmas.Clients.{at_address, here_or_not}
use Rattle.blk_law.specs.Sheets.Parts.{BlkClient}
use Rattle.blk_law.specs.Sheets.Rows.{asked_items, buffers_for, AsksInOrder}
use Rattle.blk_law.specs.Sheets.Table.{blk_sheet}
use Rattle.blk_law.specs.Owners.Answering.{TakesBlocks, NamesBlk, IsInOrder, PutsItsOwnInOrder}
use Rattle.blk_law.proofs.OwnersLemmas.Answers.{take_of, answers_are, answers_none}
use Rattle.blk_law.proofs.OwnersLemmas.Copying.{no_longer}

-- how often a buffer is used, from a number of uses on: they go round through the pool
abbrev pub use_of : (pool buffers : ℕ) → Buffer → ℕ → ℕ
use_of pool buffers b s = bit ((pool == b.pool) && (s % buffers == b.no))

abbrev pub uses_at : (pool buffers : ℕ) → Buffer → (s n : ℕ) → ℕ
uses_at pool buffers b s zero = 0
uses_at pool buffers b s (suc n) = use_of pool buffers b s + uses_at pool buffers b (s + 1) n

module _ (pool buffers : ℕ) (b : Buffer) where
  abbrev used : ℕ → ℕ → ℕ
  used s n = uses_at pool buffers b s n

  uses_add : (s i j : ℕ) → used s (i + j) ≡ used s i + used (s + i) j
  uses_add s zero j = let n : 0 + j ≡ j = omega arith in let p : s + 0 ≡ s = omega arith in let a : used s (0 + j) ≡ used s j = ap (used s) n in let c : used (s + 0) j ≡ used s j = ap (λ k. used k j) p in omega (arith, a, c)
  uses_add s (suc i) j =
      let n : suc i + j ≡ suc (i + j) = omega arith in
      let p : s + 1 + i ≡ s + suc i = omega arith in
      let a : used s (suc i + j) ≡ use_of pool buffers b s + used (s + 1) (i + j) = ap (used s) n in
      let rest = uses_add (s + 1) i j in
      let c : used (s + 1 + i) j ≡ used (s + suc i) j = ap (λ k. used k j) p in
      omega (arith, a, rest, c)

  uses_more : (s i j : ℕ) → i ≤ j → used s i ≤ used s j
  uses_more s i j le =
      let sum = uses_add s i (j - i) in
      let n : i + (j - i) ≡ j = omega (arith, le) in
      let all : used s (i + (j - i)) ≡ used s j = ap (used s) n in
      omega (arith, sum, all)

  module _ (some : 1 ≤ buffers) where
    around : (s : ℕ) → used (s + 1) buffers ≡ used s buffers
    around s =
        let last = uses_add s buffers 1 in
        let one : buffers + 1 ≡ suc buffers = omega arith in
        let all : used s (buffers + 1) ≡ use_of pool buffers b s + used (s + 1) buffers = ap (used s) one in
        let same : use_of pool buffers b (s + buffers) ≡ use_of pool buffers b s = ap (λ r. bit ((pool == b.pool) && (r == b.no))) (round s) in
        omega (arith, last, all, same)
      where
        round : (s : ℕ) → (s + buffers) % buffers ≡ s % buffers
        round s = add-mod_right s buffers

    window : (s : ℕ) → used s buffers ≡ used 0 buffers
    window zero = refl
    window (suc s) = let n : suc s ≡ s + 1 = omega arith in ap (λ k. used k buffers) n ∙ (around s ∙ window s)

    first_uses : (k n : ℕ) → k + n ≤ buffers → used k n ≤ count_by (λ x. x == b.no) (if pool == b.pool then numbers_from k n else [])
    first_uses k zero le = omega arith
    first_uses k (suc n) le =
        let small : k % buffers ≡ k = mod-eq_of_lt (omega (arith, le)) in
        let head : use_of pool buffers b k ≡ bit ((pool == b.pool) && (k == b.no)) = ap (λ r. bit ((pool == b.pool) && (r == b.no))) small in
        let rest = here_or_not (pool == b.pool) b.no k (numbers_from (k + 1) n) (used (k + 1) n) (first_uses (k + 1) n (omega (arith, le))) in
        omega (arith, head, rest)

    -- any so many uses in a row have a buffer no more often than the pool
    pub few_uses : (s n : ℕ) → n ≤ buffers → used s n ≤ count_by (λ x. x == b.no) (if pool == b.pool then numbers_from 0 buffers else [])
    few_uses s n le = let more = uses_more s n buffers le in let same = window s in let first = first_uses 0 buffers (omega arith) in omega (arith, more, same, first)

-- what a request names: a buffer where it needs one
request_name : (ws : List Window) (a : Ask) (id address : ℕ) → buffer_of ws (request_for a id address) ≡ cond (needs_buffer a.code) (buffer_at ws address) None
request_name ws a id address = go a.code
  where
    go : (c : Code) → option_and_then (buffer_at ws) (request_address c address) ≡ cond (needs_buffer c) (buffer_at ws address) None
    go Asked.Read = refl
    go Asked.Write = refl
    go Asked.Flush = refl
    go Asked.Barrier = refl

-- how many of the first so many requests have a buffer
abbrev uses : (used hand many : ℕ) → List Ask → ℕ
uses used hand zero asks = 0
uses used hand (suc many) [] = 0
uses used hand (suc many) (a ∷ asks) = cond (needs_buffer a.code) (cond (nat_lt used hand) (1 + uses (used + 1) hand many asks) 0) (uses used hand many asks)

few_step : (s hand x y : ℕ) (t u : Bool) → nat_lt s hand ≡ u → s ≤ hand → (s + 1 ≤ hand → s + 1 + x ≤ hand) → s + y ≤ hand → s + cond t (cond u (1 + x) 0) y ≤ hand
few_step s hand x y true true lt le more same = let below : s < hand = ltb-true s hand lt in let rest = more (omega (arith, below)) in omega (arith, rest)
few_step s hand x y true false lt le more same = omega (arith, le)
few_step s hand x y false u lt le more same = same

uses_few : (s hand many : ℕ) (asks : List Ask) → s ≤ hand → s + uses s hand many asks ≤ hand
uses_few s hand zero asks le = omega (arith, le)
uses_few s hand (suc many) [] le = omega (arith, le)
uses_few s hand (suc many) (a ∷ asks) le =
    few_step s hand (uses (s + 1) hand many asks) (uses s hand many asks) (needs_buffer a.code) (nat_lt s hand) refl le (uses_few (s + 1) hand many asks) (uses_few s hand many asks le)

rise_step : (w x y z : ℕ) (t u : Bool) → w ≤ x → y ≤ z → cond t (cond u (1 + w) 0) y ≤ cond t (cond u (1 + x) 0) z
rise_step w x y z true true a b = omega (arith, a)
rise_step w x y z true false a b = omega arith
rise_step w x y z false u a b = b

uses_rise : (s hand i j : ℕ) (asks : List Ask) → i ≤ j → uses s hand i asks ≤ uses s hand j asks
uses_rise s hand zero j asks le = omega arith
uses_rise s hand (suc i) zero asks le = absurd (omega (arith, le))
uses_rise s hand (suc i) (suc j) [] le = omega arith
uses_rise s hand (suc i) (suc j) (a ∷ asks) le =
    rise_step (uses (s + 1) hand i asks) (uses (s + 1) hand j asks) (uses s hand i asks) (uses s hand j asks) (needs_buffer a.code) (nat_lt s hand)
    (uses_rise (s + 1) hand i j asks (omega (arith, le))) (uses_rise s hand i j asks (omega (arith, le)))

all_step : (n x y z : ℕ) (p q : Item) (ps qs : List Item) (t u : Bool) → (n ≤ length ps → x ≡ z) → (n ≤ length qs → y ≡ z) → suc n ≤ length (cond t (cond u (p ∷ ps) []) (q ∷ qs)) → cond t (cond u (1 + x) 0) y ≡ cond t (1 + z) z
all_step n x y z p q ps qs true true a b le = ap (λ k. 1 + k) (a (omega (arith, le)))
all_step n x y z p q ps qs true false a b le = absurd (omega (arith, le))
all_step n x y z p q ps qs false u a b le = b (omega (arith, le))

-- where so many requests are there, they have as many buffers as the asks need
uses_all : (id s hand buffers size many : ℕ) (asks : List Ask) → many ≤ length (asked_items id s hand buffers size asks) → uses s hand many asks ≡ buffers_for (take many asks)
uses_all id s hand buffers size zero asks le = refl
uses_all id s hand buffers size (suc many) [] le = absurd (omega (arith, le))
uses_all id s hand buffers size (suc many) (a ∷ asks) le =
    all_step many (uses (s + 1) hand many asks) (uses s hand many asks) (buffers_for (take many asks)) (request_for a id ((s % buffers) * size)) (request_for a id 0)
    (asked_items (id + 1) (s + 1) hand buffers size asks) (asked_items (id + 1) s hand buffers size asks) (needs_buffer a.code) (nat_lt s hand)
    (uses_all (id + 1) (s + 1) hand buffers size many asks) (uses_all (id + 1) s hand buffers size many asks) le

module _ (pool : PoolAt) (some : TakesBlocks pool) (b : Buffer) where
  abbrev ws : List Window
  ws = by_offset pool ∷ []

  name_is : (k : ℕ) → k < pool.buffers → is_named b (buffer_at ws (k * pool.size)) ≡ bit ((pool.number == b.pool) && (k == b.no))
  name_is k lt =
      let plus : 0 + k * pool.size ≡ k * pool.size = omega arith in
      ap (λ n. is_named b (buffer_at ws n)) (sym plus) ∙ ap (is_named b) (at_address (by_offset pool) k (let room = some.1 in omega (arith, room)) lt)

  names_step : (p q : Item) (ps qs : List Item) (many x y s : ℕ) (t u : Bool) → (t ≡ true → is_named b (buffer_of ws p) ≡ use_of pool.number pool.buffers b s) → (t ≡ false → is_named b (buffer_of ws q) ≡ 0)
      → times b (names_in ws (take many ps)) ≡ uses_at pool.number pool.buffers b (s + 1) x → times b (names_in ws (take many qs)) ≡ uses_at pool.number pool.buffers b s y
      → times b (names_in ws (take (suc many) (cond t (cond u (p ∷ ps) []) (q ∷ qs)))) ≡ uses_at pool.number pool.buffers b s (cond t (cond u (1 + x) 0) y)
  names_step p q ps qs many x y s true true used_up bare one other =
      let sum = sum_by-cons (is_named b) (buffer_of ws p) (names_in ws (take many ps)) in
      let name = used_up refl in
      let next : 1 + x ≡ suc x = omega arith in
      let all : uses_at pool.number pool.buffers b s (1 + x) ≡ use_of pool.number pool.buffers b s + uses_at pool.number pool.buffers b (s + 1) x = ap (uses_at pool.number pool.buffers b s) next in
      omega (arith, sum, name, one, all)
  names_step p q ps qs many x y s true false used_up bare one other = refl
  names_step p q ps qs many x y s false u used_up bare one other =
      let sum = sum_by-cons (is_named b) (buffer_of ws q) (names_in ws (take many qs)) in
      let name = bare refl in
      omega (arith, sum, name, other)

  -- the buffers that the first so many requests name
  names_are : (id s hand many : ℕ) (asks : List Ask) → times b (names_in ws (take many (asked_items id s hand pool.buffers pool.size asks))) ≡ uses_at pool.number pool.buffers b s (uses s hand many asks)
  names_are id s hand zero asks = refl
  names_are id s hand (suc many) [] = refl
  names_are id s hand (suc many) (a ∷ asks) =
      let address = (s % pool.buffers) * pool.size in
      names_step (request_for a id address) (request_for a id 0) (asked_items (id + 1) (s + 1) hand pool.buffers pool.size asks) (asked_items (id + 1) s hand pool.buffers pool.size asks) many (uses (s + 1) hand many asks) (uses s hand many asks) s (needs_buffer a.code) (nat_lt s hand)
      (λ is. ap (is_named b) (request_name ws a id address ∙ ap (λ t. cond t (buffer_at ws address) None) is) ∙ name_is (s % pool.buffers) (mod-lt s some.0))
      (λ is. ap (is_named b) (request_name ws a id 0 ∙ ap (λ t. cond t (buffer_at ws 0) None) is))
      (names_are (id + 1) (s + 1) hand many asks) (names_are (id + 1) s hand many asks)

module _ (naming : Naming) (req resp : ℕ) (asks : List Ask) (pool : PoolAt) (names : NamesBlk naming (BlkClient req resp asks pool)) (m : Moved) (order : IsInOrder naming m) (row : AsksInOrder asks pool (m.taken resp) (m.sent req)) where
  abbrev client_seats : List Seat
  client_seats = intake resp ∷ outlet req ∷ []

  client_came : (f : Thing → ℕ) → sum_by f (all_taken naming m client_seats) ≡ carried naming m resp (m.taken resp) f
  client_came f = let parts : sum_by f (all_taken naming m client_seats) ≡ 0 + carried naming m resp (m.taken resp) f + 0 = sum_flat f (things_in naming m) client_seats in omega (arith, parts)

  client_went : (f : Thing → ℕ) → sum_by f (all_put naming m client_seats) ≡ carried naming m req (m.sent req) f
  client_went f = let parts : sum_by f (all_put naming m client_seats) ≡ 0 + 0 + carried naming m req (m.sent req) f = sum_flat f (things_out naming m) client_seats in omega (arith, parts)

  client_buffers : (b : Buffer) → sum_by (as_buffer b) (all_put naming m client_seats) ≤ at_start (pool_hand pool) b + sum_by (as_buffer b) (all_taken naming m client_seats)
  client_buffers b =
      let ws = by_offset pool ∷ [] in
      let sent = m.sent req in
      let came = length (m.taken resp) in
      let hand = pool.buffers + buffers_for (take came asks) in
      let items = asked_items 0 0 hand pool.buffers pool.size asks in
      let into = client_came (as_buffer b) in
      let out = client_went (as_buffer b) in
      let put = buffers_are naming m req sent ws (as_buffer b) b names.1.0 refl (λ c. refl) in
      let back = answers_are naming m resp req ws names.1.1 (m.taken resp) (as_buffer b) b refl (λ c. refl) in
      let begins = row.begins in
      let whole : sent ≡ take (length sent) items = sym (take-append_seam sent begins.0) ∙ ap (take (length sent)) begins.1 in
      let few_sent : length sent ≤ length items = no_longer sent items begins in
      let front : take came items ≡ take came sent = take_of came sent items begins row.answered in
      let u = uses 0 hand (length sent) asks in
      let v = uses 0 hand came asks in
      let put_uses : times b (names_in ws sent) ≡ uses_at pool.number pool.buffers b 0 u = ap (λ l. times b (names_in ws l)) whole ∙ names_are pool names.0 b 0 0 hand (length sent) asks in
      let back_uses : times b (names_in ws (take came sent)) ≡ uses_at pool.number pool.buffers b 0 v = ap (λ l. times b (names_in ws l)) (sym front) ∙ names_are pool names.0 b 0 0 hand came asks in
      let all_back : v ≡ buffers_for (take came asks) = uses_all 0 0 hand pool.buffers pool.size came asks (let le = row.answered in omega (arith, le, few_sent)) in
      let most : 0 + u ≤ hand = uses_few 0 hand (length sent) asks (omega arith) in
      let rise : v ≤ u = uses_rise 0 hand came (length sent) asks row.answered in
      let split = uses_add pool.number pool.buffers b 0 v (u - v) in
      let n : v + (u - v) ≡ u = omega (arith, rise) in
      let z : 0 + v ≡ v = omega arith in
      let whole_uses : uses_at pool.number pool.buffers b 0 (v + (u - v)) ≡ uses_at pool.number pool.buffers b 0 u = ap (uses_at pool.number pool.buffers b 0) n in
      let later : uses_at pool.number pool.buffers b (0 + v) (u - v) ≡ uses_at pool.number pool.buffers b v (u - v) = ap (λ k. uses_at pool.number pool.buffers b k (u - v)) z in
      let few = few_uses pool.number pool.buffers b names.0.0 v (u - v) (omega (arith, most, all_back, rise)) in
      omega (arith, into, out, put, back, put_uses, back_uses, split, whole_uses, later, few)

  client_all : Keeps (pool_hand pool) (all_taken naming m client_seats) (all_put naming m client_seats)
  client_all =
      keeps_plain (pool_hand pool) (all_taken naming m client_seats) (all_put naming m client_seats)
      (λ b. (let came = client_came (lends b) in let none = answers_none naming m resp req (by_offset pool ∷ []) names.1.1 (m.taken resp) (lends b) refl (λ c. refl) in omega (arith, came, none)))
      client_buffers
      (λ b. (let went = client_went (as_lease b) in let none = buffers_none naming m req (m.sent req) (by_offset pool ∷ []) (as_lease b) names.1.0 refl (λ c. refl) in omega (arith, went, none)))

pub client_keeps : (naming : Naming) (scene : Scene) (req resp : ℕ) (asks : List Ask) (pool : PoolAt) → NamesBlk naming (BlkClient req resp asks pool) → PutsItsOwnInOrder naming (blk_sheet scene (BlkClient req resp asks pool))
client_keeps naming scene req resp asks pool names m order apart row = client_all naming req resp asks pool names m order row
