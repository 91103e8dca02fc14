-- What the items of a bus name.
use Rattle.std.proofs.Common.{◌≡◌, ◌+◌, ◌*◌, ◌-◌, ◌/◌, ◌<◌, ◌≤◌, ◌==◌, ◌&&◌, ◌⊎◌, inl, inr, ℕ, zero, suc, nat_lt, true, false, cond, Some, [], ◌∷◌, refl, sym, ap, ◌∙◌, subst, arith, eq-eqb}
use Rattle.std.proofs.lemmas.Bool.{cases_lt, lt-ltb, le-ltb}
use Rattle.std.proofs.lemmas.Nat.{div-mul-add, le-div}
use Rattle.owner_law.specs.Things.{NoBuffers, Buffers, number_at, begins_at, buffer_at, buffer_of}
use Rattle.i2c_virt.specs.I2cKit.Entries.{own_place, shared_place, item_at}
use Rattle.bus_law.specs.BusOwners.Naming.{own_window, shared_window, shared_windows, bus_naming}

-- a client's own queues

half_even : (c : ℕ) → (2 * c) / 2 ≡ c
half_even c = let e : 2 * c ≡ c * 2 + 0 = omega arith in ap (λ n. n / 2) e ∙ div-mul-add c 2 0 (omega arith)

half_odd : (c : ℕ) → (2 * c + 1) / 2 ≡ c
half_odd c = let e : 2 * c + 1 ≡ c * 2 + 1 = omega arith in ap (λ n. n / 2) e ∙ div-mul-add c 2 1 (omega arith)

own_case : (clients n c : ℕ) → n < 2 * clients → n / 2 ≡ c → bus_naming clients n ≡ Buffers (own_window c ∷ [])
own_case clients n c lt half = ap (λ b. cond b (Buffers (own_window (n / 2) ∷ [])) (cond (nat_lt n (2 * clients + 4)) (Buffers (shared_windows 0 clients)) NoBuffers)) (lt-ltb n (2 * clients) lt) ∙ ap (λ k. Buffers (own_window k ∷ [])) half

pub request_names : (clients c : ℕ) → c < clients → bus_naming clients (2 * c) ≡ Buffers (own_window c ∷ [])
request_names clients c lt = own_case clients (2 * c) c (omega (arith, lt)) (half_even c)

pub reply_names : (clients c : ℕ) → c < clients → bus_naming clients (2 * c + 1) ≡ Buffers (own_window c ∷ [])
reply_names clients c lt = own_case clients (2 * c + 1) c (omega (arith, lt)) (half_odd c)

-- the queues behind them

pub shared_names : (clients n : ℕ) → 2 * clients ≤ n → n < 2 * clients + 4 → bus_naming clients n ≡ Buffers (shared_windows 0 clients)
shared_names clients n le lt =
    ap (λ b. cond b (Buffers (own_window (n / 2) ∷ [])) (cond (nat_lt n (2 * clients + 4)) (Buffers (shared_windows 0 clients)) NoBuffers)) (le-ltb n (2 * clients) le)
    ∙ ap (λ b. cond b (Buffers (shared_windows 0 clients)) NoBuffers) (lt-ltb n (2 * clients + 4) lt)

pub no_names : (clients n : ℕ) → 2 * clients + 4 ≤ n → bus_naming clients n ≡ NoBuffers
no_names clients n le =
    ap (λ b. cond b (Buffers (own_window (n / 2) ∷ [])) (cond (nat_lt n (2 * clients + 4)) (Buffers (shared_windows 0 clients)) NoBuffers)) (le-ltb n (2 * clients) (omega (arith, le)))
    ∙ ap (λ b. cond b (Buffers (shared_windows 0 clients)) NoBuffers) (le-ltb n (2 * clients + 4) le)

-- the items of a buffer name it

pub own_named : (c num : ℕ) → num < 2 → buffer_of (own_window c ∷ []) (item_at (own_place num)) ≡ Some (record { pool = c; no = num })
own_named c zero lt = refl
own_named c (suc zero) lt = refl
own_named c (suc (suc num)) lt = absurd (omega (arith, lt))

-- the number of a buffer in its own window, and in one before it
here_number : (c num : ℕ) → num < 2 → number_at (shared_window c) (128 * c + 64 * num) ≡ num
here_number c num lt =
    let e : 128 * c + 64 * num - 128 * c ≡ num * 64 + 0 = omega arith in
    ap (λ n. n / 64) e ∙ div-mul-add num 64 0 (omega arith)

here_begins : (c num : ℕ) → num < 2 → begins_at (shared_window c) (128 * c + 64 * num) ≡ true
here_begins c num lt = rw (here_number c num lt, lt-ltb num 2 lt) (eq-eqb (128 * c + num * 64) (128 * c + 64 * num) (omega arith))

before_number : (f c num : ℕ) → f < c → 2 ≤ number_at (shared_window f) (128 * c + 64 * num)
before_number f c num lt = le-div 2 (128 * c + 64 * num - 128 * f) 64 (omega arith) (omega (arith, lt))

before_begins : (f c num : ℕ) → f < c → begins_at (shared_window f) (128 * c + 64 * num) ≡ false
before_begins f c num lt = ap (λ b. b && (128 * f + number_at (shared_window f) (128 * c + 64 * num) * 64 == 128 * c + 64 * num)) (le-ltb (number_at (shared_window f) (128 * c + 64 * num)) 2 (before_number f c num lt))

window_step : (first n c num : ℕ) → first ≤ c → num < 2 → (first < c → buffer_at (shared_windows (first + 1) n) (128 * c + 64 * num) ≡ Some (record { pool = c; no = num })) → (first < c) ⊎ (c ≤ first) → buffer_at (shared_windows first (suc n)) (128 * c + 64 * num) ≡ Some (record { pool = c; no = num })
window_step first n c num le few rest (inl before) = ap (λ b. cond b (Some (record { pool = first; no = number_at (shared_window first) (128 * c + 64 * num) })) (buffer_at (shared_windows (first + 1) n) (128 * c + 64 * num))) (before_begins first c num before) ∙ rest before
window_step first n c num le few rest (inr past) =
    let e : first ≡ c = omega (arith, past, le) in
    subst (λ f. buffer_at (shared_windows f (suc n)) (128 * c + 64 * num) ≡ Some (record { pool = c; no = num })) (sym e) (rw (here_begins c num few, here_number c num few) refl)

window_named : (first count c num : ℕ) → first ≤ c → c < first + count → num < 2 → buffer_at (shared_windows first count) (128 * c + 64 * num) ≡ Some (record { pool = c; no = num })
window_named first zero c num le lt few = absurd (omega (arith, le, lt))
window_named first (suc n) c num le lt few = window_step first n c num le few (λ before. window_named (first + 1) n c num (omega (arith, before)) (omega (arith, lt)) few) (cases_lt first c)

pub shared_named : (clients c num : ℕ) → c < clients → num < 2 → buffer_of (shared_windows 0 clients) (item_at (shared_place (record { 0 = c }) num)) ≡ Some (record { pool = c; no = num })
shared_named clients c num lt few = window_named 0 clients c num (omega arith) (omega (arith, lt)) few
