use Rattle.std.proofs.Common.{◌≡◌, ◌+◌, ◌*◌, ◌<◌, ◌≤◌, ◌++◌, ◌⊎◌, inl, inr, ℕ, zero, suc, Some, List, [], ◌∷◌, length, length-append, slice_get, refl, sym, ap, ◌∙◌, subst, arith}
use Rattle.std.proofs.lemmas.Bool.{cases_lt}
use Rattle.wire_core.specs.declared.names.QueueRow.{QueueRow}
use Rattle.bus_law.specs.I2cActors.Queues.{Added, GoesAt, HaveQueues, AreQueues}

-- The queues of a bus, pair by pair.

get_first : (xs ys : List QueueRow) (k : ℕ) (x : QueueRow) → slice_get xs k ≡ Some x → slice_get (xs ++ ys) k ≡ Some x
get_first [] ys k x at = cc
get_first (y ∷ xs) ys zero x at = at
get_first (y ∷ xs) ys (suc k) x at = get_first xs ys k x at

get_here : (xs : List QueueRow) (x y : QueueRow) → slice_get (xs ++ x ∷ y ∷ []) (length xs) ≡ Some x
get_here [] x y = refl
get_here (z ∷ xs) x y = get_here xs x y

get_next : (xs : List QueueRow) (x y : QueueRow) (n : ℕ) → n ≡ length xs + 1 → slice_get (xs ++ x ∷ y ∷ []) n ≡ Some y
get_next [] x y n e = subst (λ k. slice_get (x ∷ y ∷ []) k ≡ Some y) (sym e) refl
get_next (z ∷ xs) x y zero e = absurd (omega (arith, e))
get_next (z ∷ xs) x y (suc n) e = get_next xs x y n (omega (arith, e))

module _ (first second capacity : ℕ) (old new : List QueueRow) (a : Added first second capacity old new) where
  -- what was there before is there
  pub still : (place p c k : ℕ) → GoesAt old place p c k → GoesAt new place p c k
  still place p c k g = record { row = g.row; at = subst (λ l. slice_get l place ≡ Some g.row) (sym a.new_is) (get_first old (a.there ∷ a.back ∷ []) place g.row g.at); is = g.is }

  pub there_at : (place : ℕ) → place ≡ length old → GoesAt new place first second capacity
  there_at place e = record { row = a.there; at = subst (λ l. slice_get l place ≡ Some a.there) (sym a.new_is) (subst (λ n. slice_get (old ++ a.there ∷ a.back ∷ []) n ≡ Some a.there) (sym e) (get_here old a.there a.back)); is = a.goes }

  pub back_at : (place : ℕ) → place ≡ length old + 1 → GoesAt new place second first capacity
  back_at place e = record { row = a.back; at = subst (λ l. slice_get l place ≡ Some a.back) (sym a.new_is) (get_next old a.there a.back place e); is = a.comes }

  pub two_more : length new ≡ length old + 2
  two_more = ap length a.new_is ∙ length-append old (a.there ∷ a.back ∷ [])

-- the queues of the clients below a number, and no others
pub record SoFar (clients virt : ℕ) (rows : List QueueRow) : Type 0 where
  pub many : length rows ≡ 2 * clients
  pub have : HaveQueues clients virt rows

pub none_yet : (virt : ℕ) → SoFar 0 virt []
none_yet virt = record { many = refl; have = record { requests = λ c lt. absurd (omega (arith, lt)); replies = λ c lt. absurd (omega (arith, lt)) } }

pub one_more : (clients virt : ℕ) (old new : List QueueRow) → SoFar clients virt old → Added clients virt 2 old new → SoFar (clients + 1) virt new
one_more clients virt old new s a = record {
  many = let n : length old ≡ 2 * clients = s.many in let m : length new ≡ length old + 2 = two_more clients virt 2 old new a in omega (arith, n, m);
  have = record { requests = λ c lt. request c lt (cases_lt c clients); replies = λ c lt. reply c lt (cases_lt c clients) };
}
  where
    request : (c : ℕ) → c < clients + 1 → (c < clients) ⊎ (clients ≤ c) → GoesAt new (2 * c) c virt 2
    request c lt (inl before) = still clients virt 2 old new a (2 * c) c virt 2 (s.have.requests c before)
    request c lt (inr past) =
        let same : c ≡ clients = omega (arith, lt, past) in
        let n : length old ≡ 2 * clients = s.many in
        subst (λ z. GoesAt new (2 * z) z virt 2) (sym same) (there_at clients virt 2 old new a (2 * clients) (sym n))

    reply : (c : ℕ) → c < clients + 1 → (c < clients) ⊎ (clients ≤ c) → GoesAt new (2 * c + 1) virt c 2
    reply c lt (inl before) = still clients virt 2 old new a (2 * c + 1) virt c 2 (s.have.replies c before)
    reply c lt (inr past) =
        let same : c ≡ clients = omega (arith, lt, past) in
        let n : length old ≡ 2 * clients = s.many in
        subst (λ z. GoesAt new (2 * z + 1) virt z 2) (sym same) (back_at clients virt 2 old new a (2 * clients + 1) (omega (arith, n)))

pub all_queues : (clients : ℕ) (rows mid new : List QueueRow) → SoFar clients clients rows → Added clients (clients + 1) 16 rows mid → Added (clients + 1) (clients + 2) 16 mid new → AreQueues clients new
all_queues clients rows mid new s a b =
    let n : length rows ≡ 2 * clients = s.many in
    let m : length mid ≡ length rows + 2 = two_more clients (clients + 1) 16 rows mid a in
    let l : length new ≡ length mid + 2 = two_more (clients + 1) (clients + 2) 16 mid new b in
    record {
      many = omega (arith, n, m, l);
      of_clients = record {
        requests = λ c lt. still (clients + 1) (clients + 2) 16 mid new b (2 * c) c clients 2 (still clients (clients + 1) 16 rows mid a (2 * c) c clients 2 (s.have.requests c lt));
        replies = λ c lt. still (clients + 1) (clients + 2) 16 mid new b (2 * c + 1) clients c 2 (still clients (clients + 1) 16 rows mid a (2 * c + 1) clients c 2 (s.have.replies c lt));
      };
      to_driver = still (clients + 1) (clients + 2) 16 mid new b (2 * clients) clients (clients + 1) 16 (there_at clients (clients + 1) 16 rows mid a (2 * clients) (sym n));
      from_driver = still (clients + 1) (clients + 2) 16 mid new b (2 * clients + 1) (clients + 1) clients 16 (back_at clients (clients + 1) 16 rows mid a (2 * clients + 1) (omega (arith, n)));
      to_bus = there_at (clients + 1) (clients + 2) 16 mid new b (2 * clients + 2) (omega (arith, n, m));
      from_bus = back_at (clients + 1) (clients + 2) 16 mid new b (2 * clients + 3) (omega (arith, n, m));
    }
