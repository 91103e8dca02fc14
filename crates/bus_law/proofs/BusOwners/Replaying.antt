-- A replay of a journal on the buffers of a bus is one on the table of owners.
use Rattle.std.proofs.Common.{◌≡◌, ◌+◌, ◌*◌, ◌/◌, ◌-◌, ◌<◌, ◌≤◌, ◌==◌, ◌&&◌, ◌++◌, ◌⊎◌, inl, inr, ℕ, zero, suc, nat_lt, Bool, true, false, not, cond, Option, Some, None, List, [], ◌∷◌, length, replicate, take, drop, slice_get, slice_set, refl, sym, ap, ◌∙◌, subst, arith, eq-eqb}
use Rattle.std.specs.Option.{option_and_then, option_map}
use Rattle.std.specs.Prelude.{codes}
use Rattle.std.specs.Fmt.{decimal}
use Rattle.std.proofs.lemmas.Bool.{eqb-true, ltb-true, lt-ltb, cases_lt}
use Rattle.std.proofs.lemmas.Nat.{div_below}
use Rattle.std.proofs.lemmas.List.{length-set, length-replicate}
use Rattle.cargo_core.specs.declared.census.Census.{Census as Line}
use Rattle.cargo_core.specs.declared.item.Item.{Item}
use Rattle.wire_core.specs.declared.names.QueueRow.{QueueRow}
use Rattle.wire_core.specs.declared.names.Entry.{Entry}
use Rattle.wire_core.specs.declared.names.Op.{Op}
use Rattle.wire_core.specs.declared.names.Op.TheVariants as Do
use Rattle.wire_core.specs.Bells.{bit}
use Rattle.wire_core.specs.Journal.{start_history}
use Rattle.wire_core.proofs.Places.{slice_get_written, slice_get_beside}
use Rattle.play_core.specs.Moved.{Moved, moved}
use Rattle.play_core.proofs.Lists.{there_is, some_is}
use Rattle.owner_law.specs.Things.{Buffer, is_same, Window, NoBuffers, Buffers, Whole, thing_of, thing_at, requests_of, address_of, buffer_at, buffer_of, begins_at, number_at}
use Rattle.owner_law.specs.Owners.{InQueue, InHand, Place, Nowhere, At, Lent, Table, with_place, after_put, after_take, call_move, move_of, after_move}
use Rattle.owner_law.specs.Keeping.{Keeper, at_start, first_place, start_table}
use Rattle.owner_law.specs.Census.{census, is_held, is_lent, IsPool}
use Rattle.owner_law.specs.Census as lines
use Rattle.owner_law.proofs.Replays.{replay_append}
use Rattle.bus_law.specs.BusOwners.Naming.{own_window, shared_window, shared_windows, bus_naming}
use Rattle.bus_law.specs.BusOwners.Keepers.{bus_keepers, pool_size}
use Rattle.bus_law.specs.BusOwners.Pools.{table_after, pool_line, line_by, windows_of, number_in, place_of, named_place, into_queue, moved_to, noted, in_queue, AreQueued}
use Rattle.bus_law.proofs.BusOwners.Plainly.{named_plainly}

-- names, by places

pub placed : (client : ℕ) (t : Bool) (n : ℕ) → option_map (λ k. 2 * client + k) (cond t (Some n) None) ≡ option_map place_of (cond t (Some (record { pool = client; no = n })) None)
placed client true n = refl
placed client false n = refl

pub within_two : (t : Bool) (n m : ℕ) → (t ≡ true → n < 2) → cond t (Some n) None ≡ Some m → m < 2
within_two true n m h e = subst (λ k. k < 2) (some_is e) (h refl)
within_two false n m h e = let wrong : None ≡ Some m = e in cc

-- one window more that has no such buffer, and one that has it
pub passes : (first n a : ℕ) → number_in (2 * 64 * first) a ≡ None → buffer_at (shared_windows first (suc n)) a ≡ buffer_at (shared_windows (first + 1) n) a
passes first n a none = by (begins_at (shared_window first) a) none
  where
    by : (t : Bool) → cond t (Some (number_at (shared_window first) a)) None ≡ None → cond t (Some (record { pool = first; no = number_at (shared_window first) a })) (buffer_at (shared_windows (first + 1) n) a) ≡ buffer_at (shared_windows (first + 1) n) a
    by true e = let wrong : Some (number_at (shared_window first) a) ≡ None = e in cc
    by false e = refl

pub found : (first n a number : ℕ) → number_in (2 * 64 * first) a ≡ Some number → buffer_at (shared_windows first (suc n)) a ≡ Some (record { pool = first; no = number })
found first n a number is = by (begins_at (shared_window first) a) is
  where
    by : (t : Bool) → cond t (Some (number_at (shared_window first) a)) None ≡ Some number → cond t (Some (record { pool = first; no = number_at (shared_window first) a })) (buffer_at (shared_windows (first + 1) n) a) ≡ Some (record { pool = first; no = number })
    by true e = ap (λ k. Some (record { pool = first; no = k })) (some_is e)
    by false e = let wrong : None ≡ Some number = e in cc

-- the number of the buffer at an address, where one begins there

num_some : (base a j : ℕ) → a ≡ base + j * 64 → j < 2 → number_in base a ≡ Some j
num_some base a j e lt =
    let d : (a - base) / 64 ≡ j = omega (arith, e) in
    ap (λ q. cond (nat_lt q 2 && (base + q * 64 == a)) (Some q) None) d
    ∙ (ap (λ t. cond (t && (base + j * 64 == a)) (Some j) None) (lt-ltb j 2 lt)
    ∙ ap (λ t. cond t (Some j) None) (eq-eqb (base + j * 64) a (sym e)))

num_none : (base a : ℕ) → ((j : ℕ) → j < 2 → a ≡ base + j * 64 → ⊥) → number_in base a ≡ None
num_none base a h = by ((a - base) / 64) refl (nat_lt ((a - base) / 64) 2) (base + (a - base) / 64 * 64 == a) refl refl
  where
    by : (q : ℕ) → q ≡ (a - base) / 64 → (s t : Bool) → nat_lt ((a - base) / 64) 2 ≡ s → (base + (a - base) / 64 * 64 == a) ≡ t → number_in base a ≡ None
    by q is false t x y = ap (λ b. cond (b && (base + (a - base) / 64 * 64 == a)) (Some ((a - base) / 64)) None) x
    by q is true false x y = ap (λ b. cond (b && (base + (a - base) / 64 * 64 == a)) (Some ((a - base) / 64)) None) x ∙ ap (λ b. cond b (Some ((a - base) / 64)) None) y
    by q is true true x y = absurd (h ((a - base) / 64) (ltb-true ((a - base) / 64) 2 x) (sym (eqb-true (base + (a - base) / 64 * 64) a y)))

-- the buffers of all clients lie one behind another
pub shared_at : (first count a m : ℕ) → a ≡ m * 64 → 2 * first ≤ m → m < 2 * (first + count) → option_map place_of (buffer_at (shared_windows first count) a) ≡ Some m
shared_at first zero a m e lo hi = absurd (omega (arith, lo, hi))
shared_at first (suc n) a m e lo hi = by (λ past. shared_at (first + 1) n a m e (omega (arith, past)) (omega (arith, hi))) (cases_lt m (2 * first + 2))
  where
    by : (2 * first + 2 ≤ m → option_map place_of (buffer_at (shared_windows (first + 1) n) a) ≡ Some m) → (m < 2 * first + 2) ⊎ (2 * first + 2 ≤ m) → option_map place_of (buffer_at (shared_windows first (suc n)) a) ≡ Some m
    by rest (inl lt) =
        let number = num_some (2 * 64 * first) a (m - 2 * first) (omega (arith, e, lo)) (omega (arith, lt, lo)) in
        ap (option_map place_of) (found first n a (m - 2 * first) number) ∙ ap Some (let back : 2 * first + (m - 2 * first) ≡ m = omega (arith, lo) in back)
    by rest (inr past) =
        let none = num_none (2 * 64 * first) a (λ j few is. omega (arith, e, few, is, past)) in
        ap (option_map place_of) (passes first n a none) ∙ rest past

pub shared_off : (first count a : ℕ) → ((m : ℕ) → a ≡ m * 64 → m < 2 * (first + count) → ⊥) → option_map place_of (buffer_at (shared_windows first count) a) ≡ None
shared_off first zero a h = refl
shared_off first (suc n) a h =
    let none = num_none (2 * 64 * first) a (λ j few is. h (2 * first + j) (omega (arith, is)) (omega (arith, few))) in
    ap (option_map place_of) (passes first n a none) ∙ shared_off (first + 1) n a (λ m e hi. h m e (omega (arith, hi)))

-- a buffer that is named is one of the clients'
pub record IsOurs (clients : ℕ) (b : Buffer) : Type 0 where
  pub client : b.pool < clients
  pub number : b.no < 2

and_left : (a b : Bool) → (a && b) ≡ true → a ≡ true
and_left true b h = refl
and_left false b h = cc

own_ours : (clients c a : ℕ) → c < clients → (b : Buffer) → buffer_at (own_window c ∷ []) a ≡ Some b → IsOurs clients b
own_ours clients c a lt b e = by (begins_at (own_window c) a) refl e
  where
    by : (t : Bool) → begins_at (own_window c) a ≡ t → cond t (Some (record { pool = c; no = number_at (own_window c) a })) None ≡ Some b → IsOurs clients b
    by true is h = subst (IsOurs clients) (some_is h) (record { client = lt; number = ltb-true (number_at (own_window c) a) 2 (and_left _ _ is) })
    by false is h = let wrong : None ≡ Some b = h in cc

shared_one : (clients first n a : ℕ) → first < clients → (b : Buffer) → (buffer_at (shared_windows (first + 1) n) a ≡ Some b → IsOurs clients b) → (t : Bool) → begins_at (shared_window first) a ≡ t → cond t (Some (record { pool = first; no = number_at (shared_window first) a })) (buffer_at (shared_windows (first + 1) n) a) ≡ Some b → IsOurs clients b
shared_one clients first n a lt b rest true is h = subst (IsOurs clients) (some_is h) (record { client = lt; number = ltb-true (number_at (shared_window first) a) 2 (and_left _ _ is) })
shared_one clients first n a lt b rest false is h = rest h

shared_ours : (clients first count a : ℕ) → first + count ≡ clients → (b : Buffer) → buffer_at (shared_windows first count) a ≡ Some b → IsOurs clients b
shared_ours clients first zero a e b h = let wrong : None ≡ Some b = h in cc
shared_ours clients first (suc n) a e b h = shared_one clients first n a (omega (arith, e)) b (shared_ours clients (first + 1) n a (omega (arith, e)) b) (begins_at (shared_window first) a) refl h

-- what no window names
none_named : (item : Item) → buffer_of [] item ≡ None
none_named item = by (address_of item)
  where
    by : (o : Option ℕ) → option_and_then (buffer_at []) o ≡ None
    by None = refl
    by (Some a) = refl

-- the windows of a queue
data Seen (clients q : ℕ) : Type 0 where
  Own : (c : ℕ) → c < clients → bus_naming clients q ≡ Buffers (own_window c ∷ []) → Seen clients q
  Shared : bus_naming clients q ≡ Buffers (shared_windows 0 clients) → Seen clients q
  Nowise : bus_naming clients q ≡ NoBuffers → Seen clients q

half_below : (q n : ℕ) → q < 2 * n → q / 2 < n
half_below q n lt = div_below q 2 n (omega arith) (omega (arith, lt))

seen : (clients q : ℕ) → Seen clients q
seen clients q = by (nat_lt q (2 * clients)) (nat_lt q (2 * clients + 4)) refl refl
  where
    by : (s t : Bool) → nat_lt q (2 * clients) ≡ s → nat_lt q (2 * clients + 4) ≡ t → Seen clients q
    by true t h i = Own (q / 2) (half_below q clients (ltb-true q (2 * clients) h)) (ap (λ b. cond b (Buffers (own_window (q / 2) ∷ [])) (cond (nat_lt q (2 * clients + 4)) (Buffers (shared_windows 0 clients)) NoBuffers)) h)
    by false true h i = Shared (ap (λ b. cond b (Buffers (own_window (q / 2) ∷ [])) (cond (nat_lt q (2 * clients + 4)) (Buffers (shared_windows 0 clients)) NoBuffers)) h ∙ ap (λ b. cond b (Buffers (shared_windows 0 clients)) NoBuffers) i)
    by false false h i = Nowise (ap (λ b. cond b (Buffers (own_window (q / 2) ∷ [])) (cond (nat_lt q (2 * clients + 4)) (Buffers (shared_windows 0 clients)) NoBuffers)) h ∙ ap (λ b. cond b (Buffers (shared_windows 0 clients)) NoBuffers) i)

addressed : (ws : List Window) (P : Buffer → Type 0) → ((a : ℕ) (b : Buffer) → buffer_at ws a ≡ Some b → P b) → (o : Option ℕ) (b : Buffer) → option_and_then (buffer_at ws) o ≡ Some b → P b
addressed ws P h None b e = let wrong : None ≡ Some b = e in cc
addressed ws P h (Some a) b e = h a b e

pub named_ours : (clients q : ℕ) (item : Item) (b : Buffer) → buffer_of (windows_of (bus_naming clients q)) item ≡ Some b → IsOurs clients b
named_ours clients q item b e = by (seen clients q)
  where
    by : Seen clients q → IsOurs clients b
    by (Own c lt is) = addressed (own_window c ∷ []) (IsOurs clients) (λ a x h. own_ours clients c a lt x h) (address_of item) b (ap (λ ns. buffer_of (windows_of ns) item) (sym is) ∙ e)
    by (Shared is) = addressed (shared_windows 0 clients) (IsOurs clients) (λ a x h. shared_ours clients 0 clients a (omega arith) x h) (address_of item) b (ap (λ ns. buffer_of (windows_of ns) item) (sym is) ∙ e)
    by (Nowise is) = let wrong : None ≡ Some b = sym (none_named item) ∙ (ap (λ ns. buffer_of (windows_of ns) item) (sym is) ∙ e) in cc

-- a buffer moved

module _ (clients : ℕ) (t : Table) (queued : List Bool) (h : AreQueued clients t queued) where
  moved_buffer : (b : Buffer) → IsOurs clients b → (to : Place) (v : Bool) → in_queue to ≡ Some v → AreQueued clients (with_place t b to) (slice_set queued (place_of b) v)
  moved_buffer b ours to v is = record { many = length-set queued (place_of b) v ∙ h.many; each = each }
    where
      inside : place_of b < length queued
      inside = let c = ours.client in let n = ours.number in let m : length queued ≡ 2 * clients = h.many in omega (arith, c, n, m)

      each : (client number : ℕ) → client < clients → number < 2 → slice_get (slice_set queued (place_of b) v) (2 * client + number) ≡ in_queue (cond (is_same b (record { pool = client; no = number })) to (t.place (record { pool = client; no = number })))
      each client number lt few = by (b.pool == client) (b.no == number) refl refl
        where
          beside : (place_of b ≡ 2 * client + number → ⊥) → is_same b (record { pool = client; no = number }) ≡ false → slice_get (slice_set queued (place_of b) v) (2 * client + number) ≡ in_queue (cond (is_same b (record { pool = client; no = number })) to (t.place (record { pool = client; no = number })))
          beside off is_not = slice_get_beside queued (place_of b) (2 * client + number) v (λ e. off (sym e)) ∙ (h.each client number lt few ∙ ap (λ s. in_queue (cond s to (t.place (record { pool = client; no = number })))) (sym is_not))

          by : (x y : Bool) → (b.pool == client) ≡ x → (b.no == number) ≡ y → slice_get (slice_set queued (place_of b) v) (2 * client + number) ≡ in_queue (cond (is_same b (record { pool = client; no = number })) to (t.place (record { pool = client; no = number })))
          by true true e f =
              let p : b.pool ≡ client = eqb-true b.pool client e in
              let n : b.no ≡ number = eqb-true b.no number f in
              let at : place_of b ≡ 2 * client + number = omega (arith, p, n) in
              let same : is_same b (record { pool = client; no = number }) ≡ true = ap (λ s. s && (b.no == number)) e ∙ f in
              subst (λ k. slice_get (slice_set queued (place_of b) v) k ≡ Some v) at (slice_get_written queued (place_of b) (there_is queued (place_of b) inside).0 v (there_is queued (place_of b) inside).1) ∙ (sym is ∙ ap (λ s. in_queue (cond s to (t.place (record { pool = client; no = number })))) (sym same))
          by true false e f =
              let p : b.pool ≡ client = eqb-true b.pool client e in
              beside (λ at. (let n : b.no ≡ number = omega (arith, at, p) in let wrong : false ≡ true = sym f ∙ eq-eqb b.no number n in cc)) (ap (λ s. s && (b.no == number)) e ∙ f)
          by false y e f =
              beside (λ at. (let n = ours.number in let p : b.pool ≡ client = omega (arith, at, n, few) in let wrong : false ≡ true = sym e ∙ eq-eqb b.pool client p in cc)) (ap (λ s. s && (b.no == number)) e)

  -- a thing that is a whole buffer, or nothing, was put or taken
  put_thing : (actor queue : ℕ) (o : Option Buffer) → ((b : Buffer) → o ≡ Some b → IsOurs clients b) → AreQueued clients (after_put t actor queue (thing_of Whole o)) (moved_to queued (Some true) (option_map place_of o))
  put_thing actor queue None ours = h
  put_thing actor queue (Some b) ours = moved_buffer b (ours b refl) (At (InQueue queue)) true refl

  take_thing : (actor queue : ℕ) (o : Option Buffer) → ((b : Buffer) → o ≡ Some b → IsOurs clients b) → AreQueued clients (after_take t actor queue (thing_of Whole o)) (moved_to queued (Some false) (option_map place_of o))
  take_thing actor queue None ours = h
  take_thing actor queue (Some b) ours = moved_buffer b (ours b refl) (At (InHand actor)) false refl

  -- what a queue's items are
  plain_thing : (q : ℕ) (reqs : List Item) (place : ℕ) (item : Item) → thing_at (bus_naming clients q) reqs place item ≡ thing_of Whole (buffer_of (windows_of (bus_naming clients q)) item)
  plain_thing q reqs place item = by (named_plainly clients q)
    where
      by : (bus_naming clients q ≡ NoBuffers) ⊎ ((ws : List Window) × (bus_naming clients q ≡ Buffers ws)) → thing_at (bus_naming clients q) reqs place item ≡ thing_of Whole (buffer_of (windows_of (bus_naming clients q)) item)
      by (inl e) = subst (λ ns. thing_at ns reqs place item ≡ thing_of Whole (buffer_of (windows_of ns) item)) (sym e) (ap (thing_of Whole) (sym (none_named item)))
      by (inr e) = subst (λ ns. thing_at ns reqs place item ≡ thing_of Whole (buffer_of (windows_of ns) item)) (sym e.1) refl

  moves : (m : Moved) (actor queue : ℕ) (o : Op) (item : Option Item) (reqs : List Item) (p r : ℕ) → AreQueued clients (after_move t actor queue (call_move o item (thing_at (bus_naming clients queue) reqs p) (thing_at (bus_naming clients queue) reqs r))) (moved_to queued (into_queue o) (option_and_then (named_place clients queue) item))
  moves m actor queue Do.Put None reqs p r = h
  moves m actor queue Do.Put (Some item) reqs p r = subst (λ x. AreQueued clients (after_put t actor queue x) (moved_to queued (Some true) (named_place clients queue item))) (sym (plain_thing queue reqs p item)) (put_thing actor queue (buffer_of (windows_of (bus_naming clients queue)) item) (named_ours clients queue item))
  moves m actor queue Do.Take None reqs p r = h
  moves m actor queue Do.Take (Some item) reqs p r = subst (λ x. AreQueued clients (after_take t actor queue x) (moved_to queued (Some false) (named_place clients queue item))) (sym (plain_thing queue reqs r item)) (take_thing actor queue (buffer_of (windows_of (bus_naming clients queue)) item) (named_ours clients queue item))
  moves m actor queue Do.See item reqs p r = h
  moves m actor queue Do.Room item reqs p r = h
  moves m actor queue (Do.Ask s) item reqs p r = h
  moves m actor queue (Do.Waive s) item reqs p r = h
  moves m actor queue (Do.Wanted s) item reqs p r = h
  moves m actor queue (Do.Settle s) item reqs p r = h
  moves m actor queue (Do.Ring s) item reqs p r = h
  moves m actor queue (Do.Wake s) item reqs p r = h
  moves m actor queue (Do.Store w v) item reqs p r = h

  pub noted_right : (m : Moved) (e : Entry) → AreQueued clients (after_move t e.actor.0 e.event.queue.0 (move_of (bus_naming clients) m e)) (noted clients queued e.event)
  noted_right m e = moves m e.actor.0 e.event.queue.0 e.event.op e.event.item (requests_of (bus_naming clients e.event.queue.0) m) (length (m.sent e.event.queue.0)) (length (m.taken e.event.queue.0))

-- one entry more
pub table_more : (clients : ℕ) (rows : List QueueRow) (before : List Entry) (e : Entry) → table_after clients rows (before ++ e ∷ []) ≡ after_move (table_after clients rows before) e.actor.0 e.event.queue.0 (move_of (bus_naming clients) (moved (start_history rows) before) e)
table_more clients rows before e = replay_append (bus_naming clients) (start_history rows) [] (start_table (bus_keepers clients)) before (e ∷ [])

take_next : {X : Type 0} (xs : List X) (k : ℕ) (x : X) → slice_get xs k ≡ Some x → take (suc k) xs ≡ take k xs ++ x ∷ []
take_next [] k x at = cc
take_next (a ∷ xs) zero x at = ap (λ y. y ∷ []) (some_is at)
take_next (a ∷ xs) (suc k) x at = ap (λ l. a ∷ l) (take_next xs k x at)

pub take_more : {X : Type 0} (xs : List X) (k : ℕ) (x : X) → slice_get xs k ≡ Some x → take (k + 1) xs ≡ take k xs ++ x ∷ []
take_more xs k x at = ap (λ n. take n xs) (let e : k + 1 ≡ suc k = omega arith in e) ∙ take_next xs k x at

-- before the journal

first_hand : (k : ℕ) (ps : List Keeper) (b : Buffer) → (first_place k ps b ≡ Nowhere) ⊎ (in_queue (first_place k ps b) ≡ Some false)
first_hand k [] b = inl refl
first_hand k (p ∷ ps) b = one (nat_lt 0 (at_start p.hand b)) (first_hand (k + 1) ps b)
  where
    one : (t : Bool) → (first_place (k + 1) ps b ≡ Nowhere) ⊎ (in_queue (first_place (k + 1) ps b) ≡ Some false) → (cond t (At (InHand k)) (first_place (k + 1) ps b) ≡ Nowhere) ⊎ (in_queue (cond t (At (InHand k)) (first_place (k + 1) ps b)) ≡ Some false)
    one true rest = inr refl
    one false rest = rest

replicated : (n k : ℕ) (x : Bool) → k < n → slice_get (replicate n x) k ≡ Some x
replicated zero k x lt = absurd (omega (arith, lt))
replicated (suc n) zero x lt = refl
replicated (suc n) (suc k) x lt = replicated n k x (omega (arith, lt))

pub none_at_first : (clients : ℕ) (queued : List Bool) → ((client : ℕ) → client < clients → IsPool (start_table (bus_keepers clients)) client (pool_size clients client)) → queued ≡ replicate (2 * clients) false → AreQueued clients (start_table (bus_keepers clients)) queued
none_at_first clients queued pools e = record {
  many = ap length e ∙ length-replicate (2 * clients) false;
  each = λ client number lt few. ap (λ l. slice_get l (2 * client + number)) e ∙ (replicated (2 * clients) (2 * client + number) false (omega (arith, lt, few)) ∙ sym (held client number lt few (first_hand 0 (bus_keepers clients) (record { pool = client; no = number }))));
}
  where
    size : (client : ℕ) → client < clients → pool_size clients client ≡ 2
    size client lt = ap (λ t. cond {A = ℕ} t 2 0) (lt-ltb client clients lt)

    held : (client number : ℕ) → client < clients → number < 2 → (first_place 0 (bus_keepers clients) (record { pool = client; no = number }) ≡ Nowhere) ⊎ (in_queue (first_place 0 (bus_keepers clients) (record { pool = client; no = number })) ≡ Some false) → in_queue (first_place 0 (bus_keepers clients) (record { pool = client; no = number })) ≡ Some false
    held client number lt few (inl none) = absurd (pools client lt number (subst (λ s. number < s) (sym (size client lt)) few) none)
    held client number lt few (inr is) = is

-- the lines

spot : (p : Place) (f : Bool) → in_queue p ≡ Some f → (lines.is_queued p ≡ f) × (is_held p ≡ not f) × (is_lent p ≡ false)
spot Nowhere f e = let wrong : None ≡ Some f = e in cc
spot (At (InQueue n)) f e = (some_is e, ap not (some_is e), refl)
spot (At (InHand k)) f e = (some_is e, ap not (some_is e), refl)
spot (Lent r) f e = let wrong : None ≡ Some f = e in cc

abbrev line_with : (client queues hands lent : ℕ) → Line
line_with client queues hands lent = record { name = codes "i2c." ++ decimal client; buffers = 2; queues = queues; hands = hands; lent = lent }

pub line_is : (clients : ℕ) (t : Table) (queued : List Bool) (client : ℕ) (first second : Bool) → AreQueued clients t queued → client < clients → slice_get queued (2 * client) ≡ Some first → slice_get queued (2 * client + 1) ≡ Some second → line_by client first second ≡ pool_line t client
line_is clients t queued client first second h lt one two =
    let z : 2 * client + 0 ≡ 2 * client = omega arith in
    let a = spot (t.place (record { pool = client; no = 0 })) first (sym (h.each client 0 lt (omega arith)) ∙ (ap (slice_get queued) z ∙ one)) in
    let b = spot (t.place (record { pool = client; no = 1 })) second (sym (h.each client 1 lt (omega arith)) ∙ two) in
    let p = t.place (record { pool = client; no = 0 }) in
    let r = t.place (record { pool = client; no = 1 }) in
    let qa : bit (lines.is_queued p) ≡ bit first = ap bit a.0 in
    let qb : bit (lines.is_queued r) ≡ bit second = ap bit b.0 in
    let ha : bit (is_held p) ≡ bit (not first) = ap bit a.1 in
    let hb : bit (is_held r) ≡ bit (not second) = ap bit b.1 in
    let la : bit (is_lent p) ≡ 0 = ap bit a.2 in
    let lb : bit (is_lent r) ≡ 0 = ap bit b.2 in
    let q : bit first + bit second ≡ 0 + bit (lines.is_queued p) + bit (lines.is_queued r) = omega (arith, qa, qb) in
    let i : bit (not first) + bit (not second) ≡ 0 + bit (is_held p) + bit (is_held r) = omega (arith, ha, hb) in
    let l : 0 ≡ 0 + bit (is_lent p) + bit (is_lent r) = omega (arith, la, lb) in
    ap (λ n. line_with client n (bit (not first) + bit (not second)) 0) q ∙ (ap (λ n. line_with client (0 + bit (lines.is_queued p) + bit (lines.is_queued r)) n 0) i ∙ ap (λ n. line_with client (0 + bit (lines.is_queued p) + bit (lines.is_queued r)) (0 + bit (is_held p) + bit (is_held r)) n) l)

-- all of a list that took the place of another
pub whole : (n : ℕ) (xs ys : List Bool) → n ≡ length xs → length ys ≡ length xs → take n (xs ++ drop (length xs) ys) ≡ xs
whole n [] [] e f = ap (λ k. take k []) e
whole n [] (y ∷ ys) e f = absurd (omega (arith, f))
whole n (x ∷ xs) [] e f = absurd (omega (arith, f))
whole n (x ∷ xs) (y ∷ ys) e f = ap (λ k. take k (x ∷ (xs ++ drop (length xs) ys))) e ∙ ap (λ l. x ∷ l) (whole (length xs) xs ys refl (omega (arith, f)))

take_length : {X : Type 0} (xs : List X) → take (length xs) xs ≡ xs
take_length [] = refl
take_length (x ∷ xs) = ap (λ l. x ∷ l) (take_length xs)

-- all of a list
pub take_whole : {X : Type 0} (xs : List X) (n : ℕ) → n ≡ length xs → take n xs ≡ xs
take_whole xs n e = ap (λ k. take k xs) e ∙ take_length xs
