-- Which queue of a bus stands where, and whose ends it has.
use Rattle.std.proofs.Common.{◌≡◌, ◌+◌, ◌*◌, ◌<◌, ◌≤◌, ◌++◌, ◌⊎◌, inl, inr, ℕ, zero, suc, Some, List, [], ◌∷◌, length, slice_get, refl, sym, ◌∙◌, subst, arith}
use Rattle.std.proofs.lemmas.Bool.{cases_lt}
use Rattle.cargo_core.specs.Capacities.{IsCapacity}
use Rattle.wire_core.specs.declared.names.QueueRow.{QueueRow}
use Rattle.wire_core.specs.Ends.{Role, Consumer, Producer}
use Rattle.wire_core.specs.Journal.{owner_of}
use Rattle.play_core.specs.Sheets.{IsSeat}
use Rattle.play_core.proofs.Lists.{some_is}
use Rattle.bus_law.specs.I2cActors.Queues.{IsQueue, GoesAt, AreQueues}

-- an entry of one list behind another
pub get_split : {X : Type 0} (xs ys : List X) (k : ℕ) (x : X) → slice_get (xs ++ ys) k ≡ Some x → (slice_get xs k ≡ Some x) ⊎ ((j : ℕ) × (slice_get ys j ≡ Some x) × (k ≡ length xs + j))
get_split [] ys k x at = inr (k, at, plus k)
  where
    plus : (n : ℕ) → n ≡ 0 + n
    plus n = omega arith
get_split (y ∷ xs) ys zero x at = inl at
get_split (y ∷ xs) ys (suc k) x at = by (get_split xs ys k x at)
  where
    by : (slice_get xs k ≡ Some x) ⊎ ((j : ℕ) × (slice_get ys j ≡ Some x) × (k ≡ length xs + j)) → (slice_get (y ∷ xs) (suc k) ≡ Some x) ⊎ ((j : ℕ) × (slice_get ys j ≡ Some x) × (suc k ≡ length (y ∷ xs) + j))
    by (inl h) = inl h
    by (inr h) = inr (h.0, h.1, let e : k ≡ length xs + h.0 = h.2 in omega (arith, e))

-- the queue of a number: of a client to the virtualiser or back, or one of those behind
pub data Which (clients q : ℕ) : Type 0 where
  Request : (c : ℕ) → c < clients → q ≡ 2 * c → Which clients q
  Reply : (c : ℕ) → c < clients → q ≡ 2 * c + 1 → Which clients q
  ToDriver : q ≡ 2 * clients → Which clients q
  FromDriver : q ≡ 2 * clients + 1 → Which clients q
  ToBus : q ≡ 2 * clients + 2 → Which clients q
  FromBus : q ≡ 2 * clients + 3 → Which clients q

halved : (q : ℕ) → (c : ℕ) × ((q ≡ 2 * c) ⊎ (q ≡ 2 * c + 1))
halved zero = (0, inl (omega arith))
halved (suc q) = by (halved q)
  where
    by : (c : ℕ) × ((q ≡ 2 * c) ⊎ (q ≡ 2 * c + 1)) → (c : ℕ) × ((suc q ≡ 2 * c) ⊎ (suc q ≡ 2 * c + 1))
    by (c, inl e) = (c, inr (omega (arith, e)))
    by (c, inr e) = (c + 1, inl (omega (arith, e)))

pub which : (clients q : ℕ) → q < 2 * clients + 4 → Which clients q
which clients q lt = by (halved q)
  where
    even : (c : ℕ) → q ≡ 2 * c → (c < clients) ⊎ (clients ≤ c) → (c < clients + 1) ⊎ (clients + 1 ≤ c) → Which clients q
    even c e (inl l) m = Request c l e
    even c e (inr l) (inl m) = ToDriver (omega (arith, e, l, m))
    even c e (inr l) (inr m) = ToBus (omega (arith, e, l, m, lt))

    odd : (c : ℕ) → q ≡ 2 * c + 1 → (c < clients) ⊎ (clients ≤ c) → (c < clients + 1) ⊎ (clients + 1 ≤ c) → Which clients q
    odd c e (inl l) m = Reply c l e
    odd c e (inr l) (inl m) = FromDriver (omega (arith, e, l, m))
    odd c e (inr l) (inr m) = FromBus (omega (arith, e, l, m, lt))

    by : (c : ℕ) × ((q ≡ 2 * c) ⊎ (q ≡ 2 * c + 1)) → Which clients q
    by (c, inl e) = even c e (cases_lt c clients) (cases_lt c (clients + 1))
    by (c, inr e) = odd c e (cases_lt c clients) (cases_lt c (clients + 1))

-- who puts to it, and who takes from it
abbrev pub putter : (clients q : ℕ) → Which clients q → ℕ
putter clients q (Request c l e) = c
putter clients q (Reply c l e) = clients
putter clients q (ToDriver e) = clients
putter clients q (FromDriver e) = clients + 1
putter clients q (ToBus e) = clients + 1
putter clients q (FromBus e) = clients + 2

abbrev pub taker : (clients q : ℕ) → Which clients q → ℕ
taker clients q (Request c l e) = clients
taker clients q (Reply c l e) = c
taker clients q (ToDriver e) = clients + 1
taker clients q (FromDriver e) = clients
taker clients q (ToBus e) = clients + 2
taker clients q (FromBus e) = clients + 1

abbrev pub holder : (clients q : ℕ) → Which clients q → Role → ℕ
holder clients q w Consumer = taker clients q w
holder clients q w Producer = putter clients q w

-- how many entries it holds
abbrev pub places : (clients q : ℕ) → Which clients q → ℕ
places clients q (Request c l e) = 2
places clients q (Reply c l e) = 2
places clients q (ToDriver e) = 16
places clients q (FromDriver e) = 16
places clients q (ToBus e) = 16
places clients q (FromBus e) = 16

pub power : (clients q : ℕ) (w : Which clients q) → IsCapacity (places clients q w)
power clients q (Request c l e) = (1, omega arith, refl)
power clients q (Reply c l e) = (1, omega arith, refl)
power clients q (ToDriver e) = (4, omega arith, refl)
power clients q (FromDriver e) = (4, omega arith, refl)
power clients q (ToBus e) = (4, omega arith, refl)
power clients q (FromBus e) = (4, omega arith, refl)

pub held_below : (clients q : ℕ) (w : Which clients q) (r : Role) → holder clients q w r < clients + 3
held_below clients q (Request c l e) Consumer = omega arith
held_below clients q (Request c l e) Producer = omega (arith, l)
held_below clients q (Reply c l e) Consumer = omega (arith, l)
held_below clients q (Reply c l e) Producer = omega arith
held_below clients q (ToDriver e) Consumer = omega arith
held_below clients q (ToDriver e) Producer = omega arith
held_below clients q (FromDriver e) Consumer = omega arith
held_below clients q (FromDriver e) Producer = omega arith
held_below clients q (ToBus e) Consumer = omega arith
held_below clients q (ToBus e) Producer = omega arith
held_below clients q (FromBus e) Consumer = omega arith
held_below clients q (FromBus e) Producer = omega arith

module _ (clients : ℕ) (rows : List QueueRow) (are : AreQueues clients rows) where
  pub goes : (q : ℕ) (w : Which clients q) → GoesAt rows q (putter clients q w) (taker clients q w) (places clients q w)
  goes q (Request c l e) = subst (λ z. GoesAt rows z c clients 2) (sym e) (are.of_clients.requests c l)
  goes q (Reply c l e) = subst (λ z. GoesAt rows z clients c 2) (sym e) (are.of_clients.replies c l)
  goes q (ToDriver e) = subst (λ z. GoesAt rows z clients (clients + 1) 16) (sym e) are.to_driver
  goes q (FromDriver e) = subst (λ z. GoesAt rows z (clients + 1) clients 16) (sym e) are.from_driver
  goes q (ToBus e) = subst (λ z. GoesAt rows z (clients + 1) (clients + 2) 16) (sym e) are.to_bus
  goes q (FromBus e) = subst (λ z. GoesAt rows z (clients + 2) (clients + 1) 16) (sym e) are.from_bus

  -- the row there is the one that is known
  row_is : (q : ℕ) (row : QueueRow) → slice_get rows q ≡ Some row → (w : Which clients q) → IsQueue (putter clients q w) (taker clients q w) (places clients q w) row
  row_is q row at w = let g = goes q w in subst (IsQueue (putter clients q w) (taker clients q w) (places clients q w)) (some_is (sym g.at ∙ at)) g.is

  pub row_held : (q : ℕ) (row : QueueRow) → slice_get rows q ≡ Some row → (w : Which clients q) (r : Role) → owner_of row r ≡ holder clients q w r
  row_held q row at w Consumer = (row_is q row at w).consumer_is
  row_held q row at w Producer = (row_is q row at w).producer_is

  pub seat : (q : ℕ) (w : Which clients q) (r : Role) (k : ℕ) → holder clients q w r ≡ k → IsSeat rows k (record { queue = q; role = r })
  seat q w r k e = let g = goes q w in (g.row, g.at, row_held q g.row g.at w r ∙ e)

  pub row_capacity : (q : ℕ) (row : QueueRow) → slice_get rows q ≡ Some row → (w : Which clients q) → IsCapacity row.capacity
  row_capacity q row at w = subst IsCapacity (sym (row_is q row at w).capacity_is) (power clients q w)
