-- A client puts its requests in its own two buffers by turns, and puts one again only once its
-- reply came.
use Rattle.std.proofs.Common.{◌≡◌, ◌+◌, ◌-◌, ◌*◌, ◌/◌, ◌%◌, ◌<◌, ◌≤◌, ◌==◌, ◌&&◌, ◌⊎◌, inl, inr, ℕ, zero, suc, Bool, true, false, cond, is_some, Option, Some, List, [], ◌∷◌, length, count_by, refl, sym, ap, ◌∙◌, subst, arith, eq-eqb}
use Rattle.std.proofs.lemmas.Bool.{lt-ltb, eqb-true}
use Rattle.std.proofs.lemmas.Nat.{div-add-mod', mod-mul-add, mod_below}
use Rattle.std.proofs.lemmas.List.Sums.{sum_by-cons}
use Rattle.cargo_core.specs.declared.item.Body.TheVariants as Bodies
use Rattle.cargo_core.specs.declared.item.PoolId.{PoolId}
use Rattle.wire_core.specs.Bells.{bit}
use Rattle.wire_core.specs.Deeds.{Cargo}
use Rattle.wire_core.specs.Queues.{items_of}
use Rattle.owner_law.specs.Things.{Buffer, is_same, buffer_of, names_in, is_named, times}
use Rattle.owner_law.specs.Keeping.{at_start}
use Rattle.owner_law.specs.Pools.Places.{numbers_from}
use Rattle.owner_law.specs.Pools.Spread.{share_of}
use Rattle.i2c_text.specs.declared.bus.BusAsk.{BusAsk}
use Rattle.i2c_text.specs.declared.report.BusReply.{BusReply}
use Rattle.i2c_virt.specs.I2cKit.Entries.{own_place, item_at, names, is_reply_in}
use Rattle.i2c_virt.specs.I2cKit.Pages.{status_in}
use Rattle.i2c_virt.specs.I2cClient.Asking.{IsAsked, AreAsked, IsAnswered, AreAnswered}
use Rattle.i2c_virt.proofs.Desking.{both}
use Rattle.i2c_virt.proofs.Working.{named_is}
use Rattle.bus_law.specs.BusOwners.Naming.{own_window}
use Rattle.bus_law.specs.BusOwners.Keepers.{pool_size, pool_owner}
use Rattle.bus_law.proofs.BusOwners.Names.{own_named}

-- one more name
pub times_more : (b : Buffer) (o : Option Buffer) (os : List (Option Buffer)) → times b (o ∷ os) ≡ is_named b o + times b os
times_more b o os = sum_by-cons (is_named b) o os

-- the item of a reply in turn
pub reply_item : (pool : PoolId) (n place : ℕ) (y : Cargo) → is_reply_in pool n place y ≡ true → y.0 ≡ item_at place
unfolding is_reply_in
reply_item pool n place (i, Bodies.Page p) h =
    let a = both ((p.pool.0 == pool.0 && p.no == n) && names i place) (is_some (status_in p.bytes)) h in
    let b = both (p.pool.0 == pool.0 && p.no == n) (names i place) a.0 in
    named_is i place b.1
reply_item pool n place (i, Bodies.Empty) h = cc
reply_item pool n place (i, Bodies.Lease l) h = cc

-- how often a buffer is among those of so many requests of a client, from one on
abbrev pub among : Buffer → (client k count : ℕ) → ℕ
among b c k zero = 0
among b c k (suc n) = bit (is_same (record { pool = c; no = k % 2 }) b) + among b c (k + 1) n

pub asked_times : (c : ℕ) (b : Buffer) (k : ℕ) (asks : List BusAsk) (xs : List Cargo) → AreAsked (record { 0 = c }) k asks xs → times b (names_in (own_window c ∷ []) (items_of xs)) ≡ among b c k (length xs)
asked_times c b k asks [] h = refl
asked_times c b k [] (x ∷ xs) h = absurd h
asked_times c b k (ask ∷ asks) (x ∷ xs) h =
    let ws = own_window c ∷ [] in
    let a : IsAsked (record { 0 = c }) k ask x = h.0 in
    let nr : a.page.no ≡ k % 2 = a.number in
    let name : buffer_of ws x.0 ≡ Some (record { pool = c; no = k % 2 }) = ap (λ (y : Cargo). buffer_of ws y.0) a.carried ∙ (ap (λ n. buffer_of ws (item_at (own_place n))) nr ∙ own_named c (k % 2) (mod_below k 2 (omega arith))) in
    let one : is_named b (buffer_of ws x.0) ≡ bit (is_same (record { pool = c; no = k % 2 }) b) = ap (is_named b) name in
    let rest = asked_times c b (k + 1) asks xs h.1 in
    let sum = times_more b (buffer_of ws x.0) (names_in ws (items_of xs)) in
    omega (arith, one, rest, sum)

pub answered_times : (c : ℕ) (b : Buffer) (k : ℕ) (asks : List BusAsk) (ys : List Cargo) (rs : List BusReply) → AreAnswered (record { 0 = c }) k asks ys rs → times b (names_in (own_window c ∷ []) (items_of ys)) ≡ among b c k (length ys)
answered_times c b k asks [] rs h = refl
answered_times c b k asks (y ∷ ys) [] h = absurd h
answered_times c b k [] (y ∷ ys) (r ∷ rs) h = absurd h
answered_times c b k (ask ∷ asks) (y ∷ ys) (r ∷ rs) h =
    let ws = own_window c ∷ [] in
    let a : IsAnswered (record { 0 = c }) k ask y r = h.0 in
    let item : y.0 ≡ item_at (own_place (k % 2)) = reply_item (record { 0 = c }) (k % 2) (own_place (k % 2)) y a.in_turn in
    let name : buffer_of ws y.0 ≡ Some (record { pool = c; no = k % 2 }) = ap (buffer_of ws) item ∙ own_named c (k % 2) (mod_below k 2 (omega arith)) in
    let one : is_named b (buffer_of ws y.0) ≡ bit (is_same (record { pool = c; no = k % 2 }) b) = ap (is_named b) name in
    let rest = answered_times c b (k + 1) asks ys rs h.1 in
    let sum = times_more b (buffer_of ws y.0) (names_in ws (items_of ys)) in
    omega (arith, one, rest, sum)

among_plus : (b : Buffer) (c k m n : ℕ) → among b c k (m + n) ≡ among b c k m + among b c (k + m) n
among_plus b c k zero n =
    let z : 0 + n ≡ n = omega arith in
    let y : k + 0 ≡ k = omega arith in
    ap (among b c k) z ∙ (ap (λ j. among b c j n) (sym y) ∙ plus (among b c (k + 0) n))
  where
    plus : (a : ℕ) → a ≡ 0 + a
    plus a = omega arith
among_plus b c k (suc m) n =
    let s : suc m + n ≡ suc (m + n) = omega arith in
    let t : (k + 1) + m ≡ k + suc m = omega arith in
    let rest = among_plus b c (k + 1) m n in
    let shift : among b c ((k + 1) + m) n ≡ among b c (k + suc m) n = ap (λ j. among b c j n) t in
    ap (among b c k) s ∙ sum (bit (is_same (record { pool = c; no = k % 2 }) b)) (among b c (k + 1) (m + n)) (among b c (k + 1) m) (among b c ((k + 1) + m) n) (among b c (k + suc m) n) rest shift
  where
    sum : (x a d e f : ℕ) → a ≡ d + e → e ≡ f → x + a ≡ (x + d) + f
    sum x a d e f h i = omega (arith, h, i)

-- two requests one after the other are in different buffers
again : (n : ℕ) → (n + 2) % 2 ≡ n % 2
again n = let e = div-add-mod' n 2 in let same : n + 2 ≡ (n / 2 + 1) * 2 + n % 2 = omega (arith, e) in ap (λ k. k % 2) same ∙ mod-mul-add (n / 2 + 1) 2 (n % 2) (mod_below n 2 (omega arith))

parity_next : (q : ℕ) → ((q % 2 ≡ 0) × ((q + 1) % 2 ≡ 1)) ⊎ ((q % 2 ≡ 1) × ((q + 1) % 2 ≡ 0)) → ((suc q % 2 ≡ 0) × ((suc q + 1) % 2 ≡ 1)) ⊎ ((suc q % 2 ≡ 1) × ((suc q + 1) % 2 ≡ 0))
parity_next q (inl h) = let one : suc q ≡ q + 1 = omega arith in let two : suc q + 1 ≡ q + 2 = omega arith in inr (ap (λ n. n % 2) one ∙ h.1, ap (λ n. n % 2) two ∙ (again q ∙ h.0))
parity_next q (inr h) = let one : suc q ≡ q + 1 = omega arith in let two : suc q + 1 ≡ q + 2 = omega arith in inl (ap (λ n. n % 2) one ∙ h.1, ap (λ n. n % 2) two ∙ (again q ∙ h.0))

parity : (q : ℕ) → ((q % 2 ≡ 0) × ((q + 1) % 2 ≡ 1)) ⊎ ((q % 2 ≡ 1) × ((q + 1) % 2 ≡ 0))
parity zero = inl (refl, refl)
parity (suc q) = parity_next q (parity q)

-- of both buffers of a client each is once among two requests, and no other is
module _ (clients c : ℕ) (lt : c < clients) (b : Buffer) where
  abbrev hand : ℕ → List ℕ
  hand = share_of (pool_size clients) pool_owner c

  abbrev one_of : ℕ → ℕ
  one_of num = bit (is_same (record { pool = c; no = num }) b)

  pair_few : one_of 0 + one_of 1 ≤ at_start hand b
  pair_few = by (c == b.pool) refl
    where
      counts : (x y : Bool) → bit x + bit y ≤ 0 + cond {A = ℕ} x 1 0 + cond {A = ℕ} y 1 0
      counts true true = omega arith
      counts true false = omega arith
      counts false true = omega arith
      counts false false = omega arith

      by : (t : Bool) → (c == b.pool) ≡ t → one_of 0 + one_of 1 ≤ at_start hand b
      by false is =
          let x : one_of 0 ≡ 0 = ap (λ u. bit (u && (0 == b.no))) is in
          let y : one_of 1 ≡ 0 = ap (λ u. bit (u && (1 == b.no))) is in
          omega (arith, x, y)
      by true is =
          let e : c ≡ b.pool = eqb-true c b.pool is in
          let f : at_start hand b ≡ 0 + cond {A = ℕ} (0 == b.no) 1 0 + cond {A = ℕ} (1 == b.no) 1 0 = ap (λ u. count_by (λ (i : ℕ). i == b.no) (cond u (numbers_from 0 (pool_size clients b.pool)) [])) (eq-eqb b.pool c (sym e)) ∙ ap (λ u. count_by (λ (i : ℕ). i == b.no) (numbers_from 0 (cond {A = ℕ} u 2 0))) (lt-ltb b.pool clients (subst (λ n. n < clients) e lt)) in
          let x : one_of 0 ≡ bit (0 == b.no) = ap (λ u. bit (u && (0 == b.no))) is in
          let y : one_of 1 ≡ bit (1 == b.no) = ap (λ u. bit (u && (1 == b.no))) is in
          let n = counts (0 == b.no) (1 == b.no) in
          omega (arith, f, x, y, n)

  turns_few : (q : ℕ) → among b c q 2 ≤ at_start hand b
  turns_few q = by (parity q)
    where
      sum : (x y a d e : ℕ) → x ≡ a → y ≡ d → a + d ≤ e → x + (y + 0) ≤ e
      sum x y a d e h i le = omega (arith, h, i, le)

      turned : (x y a d e : ℕ) → x ≡ d → y ≡ a → a + d ≤ e → x + (y + 0) ≤ e
      turned x y a d e h i le = omega (arith, h, i, le)

      by : ((q % 2 ≡ 0) × ((q + 1) % 2 ≡ 1)) ⊎ ((q % 2 ≡ 1) × ((q + 1) % 2 ≡ 0)) → among b c q 2 ≤ at_start hand b
      by (inl h) = sum (one_of (q % 2)) (one_of ((q + 1) % 2)) (one_of 0) (one_of 1) (at_start hand b) (ap one_of h.0) (ap one_of h.1) pair_few
      by (inr h) = turned (one_of (q % 2)) (one_of ((q + 1) % 2)) (one_of 0) (one_of 1) (at_start hand b) (ap one_of h.0) (ap one_of h.1) pair_few

  pub asks_few : (put came : ℕ) → put ≤ came + 2 → among b c 0 put ≤ at_start hand b + among b c 0 came
  asks_few put came le =
      let all = among_plus b c 0 came 2 in
      let z : 0 + came ≡ came = omega arith in
      let two : among b c (0 + came) 2 ≤ at_start hand b = turns_few (0 + came) in
      more (among b c 0 put) (among b c 0 (came + 2)) (among b c 0 came) (at_start hand b) (among b c (0 + came) 2) (in_all put (came + 2) le) all two
    where
      more : (p x y h d : ℕ) → p ≤ x → x ≡ y + d → d ≤ h → p ≤ h + y
      more p x y h d a e f = omega (arith, a, e, f)

      in_all : (m n : ℕ) → m ≤ n → among b c 0 m ≤ among b c 0 n
      in_all m n l = let e : m + (n - m) ≡ n = omega (arith, l) in let p = among_plus b c 0 m (n - m) in rest (among b c 0 n) (among b c 0 (m + (n - m))) (among b c 0 m) (among b c (0 + m) (n - m)) (ap (among b c 0) (sym e)) p
        where
          rest : (x y a d : ℕ) → x ≡ y → y ≡ a + d → a ≤ x
          rest x y a d h i = omega (arith, h, i)
