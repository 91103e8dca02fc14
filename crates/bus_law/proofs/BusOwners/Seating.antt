-- The ends of the actors of a bus are those that its rows give them, each once.
use Rattle.std.proofs.Common.{◌≡◌, ◌+◌, ◌*◌, ◌<◌, ◌≤◌, ◌⊎◌, inl, inr, ℕ, zero, suc, Some, List, length, length-append, slice_get, refl, sym, ap, ◌∙◌, subst, arith}
use Rattle.std.proofs.lemmas.Bool.{cases_lt}
use Rattle.wire_core.specs.declared.names.QueueRow.{QueueRow}
use Rattle.wire_core.specs.Ends.{Role, Consumer, Producer}
use Rattle.play_core.specs.Moved.{Seat}
use Rattle.play_core.specs.Sheets.{AreApart, IsSeat}
use Rattle.play_core.specs.Wants.{intake, outlet}
use Rattle.play_core.proofs.Lists.{some_is, there_below}
use Rattle.owner_law.specs.Keeping.{Keeper}
use Rattle.bus_law.specs.I2cActors.Queues.{AreQueues}
use Rattle.bus_law.proofs.I2cActors.Places.{get_split, Which, Request, Reply, ToDriver, FromDriver, ToBus, FromBus, which, holder, seat, row_held}
use Rattle.bus_law.specs.BusOwners.Keepers.{keeper, client_ends, served_ends, virt_ends, driver_ends, device_ends, client_keepers, last_keepers, bus_keepers}

-- an actor that keeps buffers, by its number
pub data WhoKeeps (n k : ℕ) (p : Keeper) : Type 0 where
  Client : k < n → keeper n k (client_ends k) ≡ p → WhoKeeps n k p
  Virt : k ≡ n → keeper n n (virt_ends n) ≡ p → WhoKeeps n k p
  Driver : k ≡ n + 1 → keeper n (n + 1) (driver_ends n) ≡ p → WhoKeeps n k p
  Device : k ≡ n + 2 → keeper n (n + 2) (device_ends n) ≡ p → WhoKeeps n k p

clients_many : (n first count : ℕ) → length (client_keepers n first count) ≡ count
clients_many n first zero = refl
clients_many n first (suc count) = ap suc (clients_many n (first + 1) count)

client_at : (n first count k : ℕ) (p : Keeper) → slice_get (client_keepers n first count) k ≡ Some p → (k < count) × (keeper n (first + k) (client_ends (first + k)) ≡ p)
client_at n first zero k p at = cc
client_at n first (suc count) zero p at = (omega arith, let z : first + 0 ≡ first = omega arith in ap (λ j. keeper n j (client_ends j)) z ∙ some_is at)
client_at n first (suc count) (suc k) p at =
    let r = client_at n (first + 1) count k p at in
    let lt : k < count = r.0 in
    let e : first + suc k ≡ (first + 1) + k = omega arith in
    (omega (arith, lt), ap (λ j. keeper n j (client_ends j)) e ∙ r.1)

pub who_keeps : (n k : ℕ) (p : Keeper) → slice_get (bus_keepers n) k ≡ Some p → WhoKeeps n k p
who_keeps n k p at = by (get_split (client_keepers n 0 n) (last_keepers n) k p at)
  where
    many : length (client_keepers n 0 n) ≡ n
    many = clients_many n 0 n

    behind : (j : ℕ) → slice_get (last_keepers n) j ≡ Some p → k ≡ length (client_keepers n 0 n) + j → WhoKeeps n k p
    behind zero h e = Virt (let m : length (client_keepers n 0 n) ≡ n = many in omega (arith, e, m)) (some_is h)
    behind (suc zero) h e = Driver (let m : length (client_keepers n 0 n) ≡ n = many in omega (arith, e, m)) (some_is h)
    behind (suc (suc zero)) h e = Device (let m : length (client_keepers n 0 n) ≡ n = many in omega (arith, e, m)) (some_is h)
    behind (suc (suc (suc j))) h e = cc

    by : (slice_get (client_keepers n 0 n) k ≡ Some p) ⊎ ((j : ℕ) × (slice_get (last_keepers n) j ≡ Some p) × (k ≡ length (client_keepers n 0 n) + j)) → WhoKeeps n k p
    by (inl h) = let r = client_at n 0 n k p h in let z : 0 + k ≡ k = omega arith in Client r.0 (ap (λ j. keeper n j (client_ends j)) (sym z) ∙ r.1)
    by (inr h) = behind h.0 h.1 h.2

pub keepers_many : (n : ℕ) → length (bus_keepers n) ≡ n + 3
keepers_many n = let a = length-append (client_keepers n 0 n) (last_keepers n) in let m : length (client_keepers n 0 n) ≡ n = clients_many n 0 n in omega (arith, a, m)

-- an end of the virtualiser at a client
pub record ServedAt (first count i : ℕ) (s : Seat) : Type 0 where
  pub client : ℕ
  pub from : first ≤ client
  pub to : client < first + count
  pub place : s.queue ≡ i + 2 * first
  pub is : (intake (2 * client) ≡ s) ⊎ (outlet (2 * client + 1) ≡ s)

served_at : (first count i : ℕ) (s : Seat) → slice_get (served_ends first count) i ≡ Some s → ServedAt first count i s
served_at first zero i s at = cc
served_at first (suc n) zero s at = record { client = first; from = omega arith; to = omega arith; place = ap (λ (x : Seat). x.queue) (sym (some_is at)) ∙ omega arith; is = inl (some_is at) }
served_at first (suc n) (suc zero) s at = record { client = first; from = omega arith; to = omega arith; place = ap (λ (x : Seat). x.queue) (sym (some_is at)) ∙ omega arith; is = inr (some_is at) }
served_at first (suc n) (suc (suc i)) s at =
    let r = served_at (first + 1) n i s at in
    let f = r.from in
    let t = r.to in
    let p = r.place in
    record { client = r.client; from = omega (arith, f); to = omega (arith, t); place = omega (arith, p); is = r.is }

-- and the other way
intake_step : (first n c : ℕ) → first ≤ c → (first < c → (i : ℕ) × (slice_get (served_ends (first + 1) n) i ≡ Some (intake (2 * c)))) → (first < c) ⊎ (c ≤ first) → (i : ℕ) × (slice_get (served_ends first (suc n)) i ≡ Some (intake (2 * c)))
intake_step first n c le rest (inl before) = let r = rest before in (suc (suc r.0), r.1)
intake_step first n c le rest (inr past) = let e : first ≡ c = omega (arith, past, le) in (0, ap (λ f. Some (intake (2 * f))) e)

served_intake : (first count c : ℕ) → first ≤ c → c < first + count → (i : ℕ) × (slice_get (served_ends first count) i ≡ Some (intake (2 * c)))
served_intake first zero c le lt = absurd (omega (arith, le, lt))
served_intake first (suc n) c le lt = intake_step first n c le (λ before. served_intake (first + 1) n c (omega (arith, before)) (omega (arith, lt))) (cases_lt first c)

outlet_step : (first n c : ℕ) → first ≤ c → (first < c → (i : ℕ) × (slice_get (served_ends (first + 1) n) i ≡ Some (outlet (2 * c + 1)))) → (first < c) ⊎ (c ≤ first) → (i : ℕ) × (slice_get (served_ends first (suc n)) i ≡ Some (outlet (2 * c + 1)))
outlet_step first n c le rest (inl before) = let r = rest before in (suc (suc r.0), r.1)
outlet_step first n c le rest (inr past) = let e : first ≡ c = omega (arith, past, le) in (1, ap (λ f. Some (outlet (2 * f + 1))) e)

served_outlet : (first count c : ℕ) → first ≤ c → c < first + count → (i : ℕ) × (slice_get (served_ends first count) i ≡ Some (outlet (2 * c + 1)))
served_outlet first zero c le lt = absurd (omega (arith, le, lt))
served_outlet first (suc n) c le lt = outlet_step first n c le (λ before. served_outlet (first + 1) n c (omega (arith, before)) (omega (arith, lt))) (cases_lt first c)

-- two ends of one queue and one role are one
role_apart : (n m : ℕ) → intake n ≡ outlet m → ⊥
role_apart n m e = let no : Consumer ≡ Producer = ap (λ (x : Seat). x.role) e in cc

client_apart : (c : ℕ) → AreApart (client_ends c)
client_apart c zero zero s a b = refl
client_apart c zero (suc zero) s a b = absurd (role_apart (2 * c + 1) (2 * c) (some_is a ∙ sym (some_is b)))
client_apart c (suc zero) zero s a b = absurd (role_apart (2 * c + 1) (2 * c) (some_is b ∙ sym (some_is a)))
client_apart c (suc zero) (suc zero) s a b = refl
client_apart c (suc (suc i)) j s a b = cc
client_apart c zero (suc (suc j)) s a b = cc
client_apart c (suc zero) (suc (suc j)) s a b = cc

device_apart : (n : ℕ) → AreApart (device_ends n)
device_apart n zero zero s a b = refl
device_apart n zero (suc zero) s a b = absurd (role_apart (2 * n + 2) (2 * n + 3) (some_is a ∙ sym (some_is b)))
device_apart n (suc zero) zero s a b = absurd (role_apart (2 * n + 2) (2 * n + 3) (some_is b ∙ sym (some_is a)))
device_apart n (suc zero) (suc zero) s a b = refl
device_apart n (suc (suc i)) j s a b = cc
device_apart n zero (suc (suc j)) s a b = cc
device_apart n (suc zero) (suc (suc j)) s a b = cc

-- the driver's ends by their queues
data DriverEnd (n i : ℕ) (q : ℕ) : Type 0 where
  One : i ≡ 0 → q ≡ 2 * n → DriverEnd n i q
  Two : i ≡ 1 → q ≡ 2 * n + 2 → DriverEnd n i q
  Three : i ≡ 2 → q ≡ 2 * n + 3 → DriverEnd n i q
  Four : i ≡ 3 → q ≡ 2 * n + 1 → DriverEnd n i q

driver_end : (n i : ℕ) (s : Seat) → slice_get (driver_ends n) i ≡ Some s → DriverEnd n i s.queue
driver_end n zero s a = One refl (ap (λ (x : Seat). x.queue) (sym (some_is a)))
driver_end n (suc zero) s a = Two refl (ap (λ (x : Seat). x.queue) (sym (some_is a)))
driver_end n (suc (suc zero)) s a = Three refl (ap (λ (x : Seat). x.queue) (sym (some_is a)))
driver_end n (suc (suc (suc zero))) s a = Four refl (ap (λ (x : Seat). x.queue) (sym (some_is a)))
driver_end n (suc (suc (suc (suc i)))) s a = cc

driver_same : (n i j q : ℕ) → DriverEnd n i q → DriverEnd n j q → i ≡ j
driver_same n i j q (One a e) (One b f) = omega (arith, a, b)
driver_same n i j q (One a e) (Two b f) = absurd (omega (arith, e, f))
driver_same n i j q (One a e) (Three b f) = absurd (omega (arith, e, f))
driver_same n i j q (One a e) (Four b f) = absurd (omega (arith, e, f))
driver_same n i j q (Two a e) (One b f) = absurd (omega (arith, e, f))
driver_same n i j q (Two a e) (Two b f) = omega (arith, a, b)
driver_same n i j q (Two a e) (Three b f) = absurd (omega (arith, e, f))
driver_same n i j q (Two a e) (Four b f) = absurd (omega (arith, e, f))
driver_same n i j q (Three a e) (One b f) = absurd (omega (arith, e, f))
driver_same n i j q (Three a e) (Two b f) = absurd (omega (arith, e, f))
driver_same n i j q (Three a e) (Three b f) = omega (arith, a, b)
driver_same n i j q (Three a e) (Four b f) = absurd (omega (arith, e, f))
driver_same n i j q (Four a e) (One b f) = absurd (omega (arith, e, f))
driver_same n i j q (Four a e) (Two b f) = absurd (omega (arith, e, f))
driver_same n i j q (Four a e) (Three b f) = absurd (omega (arith, e, f))
driver_same n i j q (Four a e) (Four b f) = omega (arith, a, b)

driver_apart : (n : ℕ) → AreApart (driver_ends n)
driver_apart n i j s a b = driver_same n i j s.queue (driver_end n i s a) (driver_end n j s b)

-- the virtualiser's
below : (n c : ℕ) (s : Seat) → c < n → (intake (2 * c) ≡ s) ⊎ (outlet (2 * c + 1) ≡ s) → s.queue < 2 * n
below n c s lt (inl e) = subst (λ q. q < 2 * n) (ap (λ (x : Seat). x.queue) e) (omega (arith, lt))
below n c s lt (inr e) = subst (λ q. q < 2 * n) (ap (λ (x : Seat). x.queue) e) (omega (arith, lt))

served_below : (n i : ℕ) (s : Seat) → slice_get (served_ends 0 n) i ≡ Some s → s.queue < 2 * n
served_below n i s at = let r = served_at 0 n i s at in let t = r.to in below n r.client s (omega (arith, t)) r.is

virt_apart : (n : ℕ) → AreApart (virt_ends n)
virt_apart n zero zero s a b = refl
virt_apart n zero (suc zero) s a b = absurd (role_apart (2 * n + 1) (2 * n) (some_is a ∙ sym (some_is b)))
virt_apart n zero (suc (suc j)) s a b = let e : 2 * n + 1 ≡ s.queue = ap (λ (x : Seat). x.queue) (some_is a) in let l = served_below n j s b in absurd (omega (arith, e, l))
virt_apart n (suc zero) zero s a b = absurd (role_apart (2 * n + 1) (2 * n) (some_is b ∙ sym (some_is a)))
virt_apart n (suc zero) (suc zero) s a b = refl
virt_apart n (suc zero) (suc (suc j)) s a b = let e : 2 * n ≡ s.queue = ap (λ (x : Seat). x.queue) (some_is a) in let l = served_below n j s b in absurd (omega (arith, e, l))
virt_apart n (suc (suc i)) zero s a b = let e : 2 * n + 1 ≡ s.queue = ap (λ (x : Seat). x.queue) (some_is b) in let l = served_below n i s a in absurd (omega (arith, e, l))
virt_apart n (suc (suc i)) (suc zero) s a b = let e : 2 * n ≡ s.queue = ap (λ (x : Seat). x.queue) (some_is b) in let l = served_below n i s a in absurd (omega (arith, e, l))
virt_apart n (suc (suc i)) (suc (suc j)) s a b = let p = (served_at 0 n i s a).place in let q = (served_at 0 n j s b).place in omega (arith, p, q)

pub keeper_apart : (n k : ℕ) (p : Keeper) → WhoKeeps n k p → AreApart p.ends
keeper_apart n k p (Client lt e) = subst (λ (x : Keeper). AreApart x.ends) e (client_apart k)
keeper_apart n k p (Virt k_is e) = subst (λ (x : Keeper). AreApart x.ends) e (virt_apart n)
keeper_apart n k p (Driver k_is e) = subst (λ (x : Keeper). AreApart x.ends) e (driver_apart n)
keeper_apart n k p (Device k_is e) = subst (λ (x : Keeper). AreApart x.ends) e (device_apart n)

module _ (n : ℕ) (rows : List QueueRow) (are : AreQueues n rows) where
  here : (k q : ℕ) (w : Which n q) (r : Role) (s : Seat) → record { queue = q; role = r } ≡ s → holder n q w r ≡ k → IsSeat rows k s
  here k q w r s e h = subst (IsSeat rows k) e (seat n rows are q w r k h)

  served_seat : (c : ℕ) (s : Seat) → c < n → (intake (2 * c) ≡ s) ⊎ (outlet (2 * c + 1) ≡ s) → IsSeat rows n s
  served_seat c s lt (inl e) = here n (2 * c) (Request c lt refl) Consumer s e refl
  served_seat c s lt (inr e) = here n (2 * c + 1) (Reply c lt refl) Producer s e refl

  client_seat : (k : ℕ) → k < n → (i : ℕ) (s : Seat) → slice_get (client_ends k) i ≡ Some s → IsSeat rows k s
  client_seat k lt zero s a = here k (2 * k + 1) (Reply k lt refl) Consumer s (some_is a) refl
  client_seat k lt (suc zero) s a = here k (2 * k) (Request k lt refl) Producer s (some_is a) refl
  client_seat k lt (suc (suc i)) s a = cc

  virt_seat : (i : ℕ) (s : Seat) → slice_get (virt_ends n) i ≡ Some s → IsSeat rows n s
  virt_seat zero s a = here n (2 * n + 1) (FromDriver refl) Consumer s (some_is a) refl
  virt_seat (suc zero) s a = here n (2 * n) (ToDriver refl) Producer s (some_is a) refl
  virt_seat (suc (suc i)) s a = let r = served_at 0 n i s a in let t = r.to in served_seat r.client s (omega (arith, t)) r.is

  driver_seat : (i : ℕ) (s : Seat) → slice_get (driver_ends n) i ≡ Some s → IsSeat rows (n + 1) s
  driver_seat zero s a = here (n + 1) (2 * n) (ToDriver refl) Consumer s (some_is a) refl
  driver_seat (suc zero) s a = here (n + 1) (2 * n + 2) (ToBus refl) Producer s (some_is a) refl
  driver_seat (suc (suc zero)) s a = here (n + 1) (2 * n + 3) (FromBus refl) Consumer s (some_is a) refl
  driver_seat (suc (suc (suc zero))) s a = here (n + 1) (2 * n + 1) (FromDriver refl) Producer s (some_is a) refl
  driver_seat (suc (suc (suc (suc i)))) s a = cc

  device_seat : (i : ℕ) (s : Seat) → slice_get (device_ends n) i ≡ Some s → IsSeat rows (n + 2) s
  device_seat zero s a = here (n + 2) (2 * n + 2) (ToBus refl) Consumer s (some_is a) refl
  device_seat (suc zero) s a = here (n + 2) (2 * n + 3) (FromBus refl) Producer s (some_is a) refl
  device_seat (suc (suc i)) s a = cc

  -- each end of a keeper is one that the rows give its number
  pub end_seat : (k : ℕ) (p : Keeper) → WhoKeeps n k p → (i : ℕ) (s : Seat) → slice_get p.ends i ≡ Some s → IsSeat rows k s
  end_seat k p (Client lt e) i s a = client_seat k lt i s (ap (λ (x : Keeper). slice_get x.ends i) e ∙ a)
  end_seat k p (Virt k_is e) i s a = subst (λ j. IsSeat rows j s) (sym k_is) (virt_seat i s (ap (λ (x : Keeper). slice_get x.ends i) e ∙ a))
  end_seat k p (Driver k_is e) i s a = subst (λ j. IsSeat rows j s) (sym k_is) (driver_seat i s (ap (λ (x : Keeper). slice_get x.ends i) e ∙ a))
  end_seat k p (Device k_is e) i s a = subst (λ j. IsSeat rows j s) (sym k_is) (device_seat i s (ap (λ (x : Keeper). slice_get x.ends i) e ∙ a))

  -- the ends of the actor of a number
  abbrev HasEnd : ℕ → Seat → Type 0
  HasEnd k s = (p : Keeper) → WhoKeeps n k p → (i : ℕ) × (slice_get p.ends i ≡ Some s)

  is_client : (c : ℕ) → c < n → (i : ℕ) (s : Seat) → slice_get (client_ends c) i ≡ Some s → HasEnd c s
  is_client c lt i s a p (Client l e) = (i, ap (λ (x : Keeper). slice_get x.ends i) (sym e) ∙ a)
  is_client c lt i s a p (Virt k_is e) = absurd (omega (arith, lt, k_is))
  is_client c lt i s a p (Driver k_is e) = absurd (omega (arith, lt, k_is))
  is_client c lt i s a p (Device k_is e) = absurd (omega (arith, lt, k_is))

  is_virt : (i : ℕ) (s : Seat) → slice_get (virt_ends n) i ≡ Some s → HasEnd n s
  is_virt i s a p (Client l e) = absurd (omega (arith, l))
  is_virt i s a p (Virt k_is e) = (i, ap (λ (x : Keeper). slice_get x.ends i) (sym e) ∙ a)
  is_virt i s a p (Driver k_is e) = absurd (omega (arith, k_is))
  is_virt i s a p (Device k_is e) = absurd (omega (arith, k_is))

  is_driver : (i : ℕ) (s : Seat) → slice_get (driver_ends n) i ≡ Some s → HasEnd (n + 1) s
  is_driver i s a p (Client l e) = absurd (omega (arith, l))
  is_driver i s a p (Virt k_is e) = absurd (omega (arith, k_is))
  is_driver i s a p (Driver k_is e) = (i, ap (λ (x : Keeper). slice_get x.ends i) (sym e) ∙ a)
  is_driver i s a p (Device k_is e) = absurd (omega (arith, k_is))

  is_device : (i : ℕ) (s : Seat) → slice_get (device_ends n) i ≡ Some s → HasEnd (n + 2) s
  is_device i s a p (Client l e) = absurd (omega (arith, l))
  is_device i s a p (Virt k_is e) = absurd (omega (arith, k_is))
  is_device i s a p (Driver k_is e) = absurd (omega (arith, k_is))
  is_device i s a p (Device k_is e) = (i, ap (λ (x : Keeper). slice_get x.ends i) (sym e) ∙ a)

  -- the end of a queue and a role
  abbrev end_of : ℕ → Role → Seat
  end_of q r = record { queue = q; role = r }

  at_queue : (q k : ℕ) (r : Role) → q ≡ k → Some (end_of k r) ≡ Some (end_of q r)
  at_queue q k r e = ap (λ (x : ℕ). Some (end_of x r)) (sym e)

  held_end : (q : ℕ) (w : Which n q) (r : Role) → HasEnd (holder n q w r) (record { queue = q; role = r })
  held_end q (Request c lt e) Consumer = let i = served_intake 0 n c (omega arith) (omega (arith, lt)) in is_virt (suc (suc i.0)) _ (i.1 ∙ at_queue q (2 * c) Consumer e)
  held_end q (Request c lt e) Producer = is_client c lt 1 _ (at_queue q (2 * c) Producer e)
  held_end q (Reply c lt e) Consumer = is_client c lt 0 _ (at_queue q (2 * c + 1) Consumer e)
  held_end q (Reply c lt e) Producer = let i = served_outlet 0 n c (omega arith) (omega (arith, lt)) in is_virt (suc (suc i.0)) _ (i.1 ∙ at_queue q (2 * c + 1) Producer e)
  held_end q (ToDriver e) Consumer = is_driver 0 _ (at_queue q (2 * n) Consumer e)
  held_end q (ToDriver e) Producer = is_virt 1 _ (at_queue q (2 * n) Producer e)
  held_end q (FromDriver e) Consumer = is_virt 0 _ (at_queue q (2 * n + 1) Consumer e)
  held_end q (FromDriver e) Producer = is_driver 3 _ (at_queue q (2 * n + 1) Producer e)
  held_end q (ToBus e) Consumer = is_device 0 _ (at_queue q (2 * n + 2) Consumer e)
  held_end q (ToBus e) Producer = is_driver 1 _ (at_queue q (2 * n + 2) Producer e)
  held_end q (FromBus e) Consumer = is_driver 2 _ (at_queue q (2 * n + 3) Consumer e)
  held_end q (FromBus e) Producer = is_device 1 _ (at_queue q (2 * n + 3) Producer e)

  -- and each that the rows give it is one of its
  pub seat_end : (k : ℕ) (p : Keeper) → WhoKeeps n k p → (s : Seat) → IsSeat rows k s → (i : ℕ) × (slice_get p.ends i ≡ Some s)
  seat_end k p who s at =
      let lt : s.queue < length rows = there_below rows s.queue at.0 at.1 in
      let m : length rows ≡ 2 * n + 4 = are.many in
      let w = which n s.queue (omega (arith, lt, m)) in
      let e : holder n s.queue w s.role ≡ k = sym (row_held n rows are s.queue at.0 at.1 w s.role) ∙ at.2 in
      subst (λ j. HasEnd j s) e (held_end s.queue w s.role) p who
