use Rattle.std.proofs.Common.{◌≡◌, ◌⊎◌, inl, inr, ◌+◌, ◌*◌, ◌<◌, ◌≤◌, ℕ, zero, suc, Bool, true, false, cond, Some, None, List, [], ◌∷◌, All, length, length-append, slice_index_or, refl, sym, ap, ◌∙◌, subst, arith}
use Rattle.std.specs.Option.{option_to_list}
use Rattle.std.specs.List.{sum_by}
use Rattle.std.proofs.lemmas.List.Sums.{sum_by-cons}
use Rattle.std.proofs.lemmas.List.{length-map}
use Rattle.std.proofs.lemmas.Bool.{cases_lt}
use Rattle.cargo_core.specs.declared.item.Item.{Item}
use Rattle.cargo_core.specs.declared.item.PoolId.{PoolId}
use Rattle.wire_core.specs.declared.names.Entry.{Entry}
use Rattle.wire_core.specs.declared.names.QueueRow.{QueueRow}
use Rattle.wire_core.specs.Deeds.{Cargo}
use Rattle.wire_core.specs.Lists.{Passed}
use Rattle.wire_core.specs.Journal.{track, start_history}
use Rattle.wire_core.specs.Marks.{sum_below, all_sent}
use Rattle.small_system.specs.Tales.{Moment}
use Rattle.small_system.specs.Standing.{Holds}
use Rattle.i2c_text.specs.declared.bus.Bus.{Bus}
use Rattle.i2c_text.specs.declared.bus.BusAsk.{BusAsk}
use Rattle.i2c_virt.specs.declared.i2c_kit.device.Device.{Device}
use Rattle.i2c_virt.specs.I2cKit.Devices.{new_devices}
use Rattle.i2c_virt.specs.I2cKit.Serving.{answers_to, done}
use Rattle.i2c_virt.specs.I2cClient.Asking.{AreAsked}
use Rattle.i2c_virt.specs.Desks.{Judged, AreGiven, forwarded, own_entry}
use Rattle.i2c_virt.specs.Works.{IsSomeones, is_of, judged_of, entries_of, of_client}
use Rattle.bus_law.specs.declared.i2c_actors.member.Member.{Member}
use Rattle.bus_law.specs.I2cActors.Members.{member_means}
use Rattle.bus_law.specs.Takes.{script_of}
use Rattle.bus_law.specs.Bounds.{requests_of, hops_of}
use Rattle.bus_law.proofs.Lists.{prefix_few, all_head, all_tail}
use Rattle.bus_law.proofs.Staging.{Stage}
use Rattle.bus_law.proofs.Serving.{flow, served, client_served, asked_by, requests_first, log_now, back_now}

-- How many entries are put.

pub asked_few : (pool : PoolId) (k : ℕ) (asks : List BusAsk) (xs : List Cargo) → AreAsked pool k asks xs → length xs ≤ length asks
asked_few pool k asks [] are = omega arith
asked_few pool k [] (x ∷ xs) are = absurd are
asked_few pool k (a ∷ asks) (x ∷ xs) are = let e = asked_few pool (k + 1) asks xs are.1 in omega (arith, e)

pub given_few : (js : List Judged) (back zs : List Cargo) → AreGiven js back zs → length zs ≤ length js
given_few js back [] are = omega arith
given_few [] back (z ∷ zs) are = absurd are
given_few ((p, Some s) ∷ js) back (z ∷ zs) are = let e = given_few js back zs are.1 in omega (arith, e)
given_few ((p, None) ∷ js) [] (z ∷ zs) are = absurd are
given_few ((p, None) ∷ js) (y ∷ back) (z ∷ zs) are = let e = given_few js back zs are.1 in omega (arith, e)

pub forwarded_few : (js : List Judged) → length (forwarded js) ≤ length js
forwarded_few [] = omega arith
forwarded_few ((p, Some s) ∷ js) = let e = forwarded_few js in omega (arith, e)
forwarded_few ((p, None) ∷ js) = let e = forwarded_few js in omega (arith, e)

pub answers_many : (ds : List Device) (xs : List Cargo) → length (answers_to ds xs) ≡ length xs
answers_many ds [] = refl
answers_many ds (x ∷ xs) = ap suc (answers_many (done ds x) xs)

-- sums
pub sum_le : (f g : ℕ → ℕ) (k : ℕ) → ((c : ℕ) → c < k → f c ≤ g c) → sum_below f k ≤ sum_below g k
sum_le f g zero each = omega arith
sum_le f g (suc k) each =
    let e = sum_le f g k (λ c lt. each c (omega (arith, lt))) in
    let h = each k (omega arith) in
    omega (arith, e, h)

sum_more : (f g : ℕ → ℕ) (k : ℕ) → ((c : ℕ) → f c ≤ g c) → (j : ℕ) → j < k → f j + 1 ≤ g j → sum_below f k + 1 ≤ sum_below g k
sum_more f g zero each j lt more = absurd (omega (arith, lt))
sum_more f g (suc k) each j lt more = by (λ less. sum_more f g k each j less more) (cases_lt j k)
  where
    by : (j < k → sum_below f k + 1 ≤ sum_below g k) → (j < k) ⊎ (k ≤ j) → sum_below f (suc k) + 1 ≤ sum_below g (suc k)
    by rest (inl less) = let e = rest less in let h = each k in omega (arith, e, h)
    by rest (inr same) =
        let is : j ≡ k = omega (arith, lt, same) in
        let h = subst (λ m. f m + 1 ≤ g m) is more in
        let e = sum_le f g k (λ c below. each c) in
        omega (arith, e, h)

pub sum_alike : (f g : ℕ → ℕ) (k : ℕ) → ((c : ℕ) → f c ≡ g c) → sum_below f k ≡ sum_below g k
sum_alike f g zero same = refl
sum_alike f g (suc k) same = let e = sum_alike f g k same in let h = same k in omega (arith, e, h)

pub sum_front : (f : ℕ → ℕ) (k : ℕ) → sum_below f (suc k) ≡ f 0 + sum_below (λ c. f (suc c)) k
sum_front f zero = omega arith
sum_front f (suc k) = let e = sum_front f k in omega (arith, e)

-- two by two
pub sum_pairs : (f g : ℕ → ℕ) (k : ℕ) → ((c : ℕ) → c < k → f (2 * c) ≤ g c) → ((c : ℕ) → c < k → f (2 * c + 1) ≤ g c) → sum_below f (2 * k) ≤ 2 * sum_below g k
sum_pairs f g zero even odd = let e : 0 ≡ 2 * 0 = omega arith in subst (λ m. sum_below f m ≤ 2 * sum_below g 0) e (omega arith)
sum_pairs f g (suc k) even odd =
    let rest = sum_pairs f g k (λ c lt. even c (omega (arith, lt))) (λ c lt. odd c (omega (arith, lt))) in
    let a = even k (omega arith) in
    let s : 2 * k + 1 ≡ suc (2 * k) = omega arith in
    let b : f (suc (2 * k)) ≤ g k = subst (λ m. f m ≤ g k) s (odd k (omega arith)) in
    let e : suc (suc (2 * k)) ≡ 2 * suc k = omega arith in
    subst (λ m. sum_below f m ≤ 2 * sum_below g (suc k)) e (omega (arith, rest, a, b))

-- and the last four
pub sum_four : (f : ℕ → ℕ) (m : ℕ) → sum_below f (m + 4) ≡ sum_below f m + f m + f (m + 1) + f (m + 2) + f (m + 3)
sum_four f m =
    let a : suc m ≡ m + 1 = omega arith in
    let b : suc (suc m) ≡ m + 2 = omega arith in
    let c : suc (suc (suc m)) ≡ m + 3 = omega arith in
    let d : suc (suc (suc (suc m))) ≡ m + 4 = omega arith in
    let fa = ap f a in
    let fb = ap f b in
    let fc = ap f c in
    ap (sum_below f) (sym d) ∙ omega (arith, fa, fb, fc)

requests_are_many : (xs : List (List BusAsk)) → sum_by length xs ≡ sum_below (λ c. length (slice_index_or xs c [])) (length xs)
requests_are_many [] = refl
requests_are_many (l ∷ ls) =
    let e = requests_are_many ls in
    let f = sum_by-cons length l ls in
    let h = sum_front (λ c. length (slice_index_or (l ∷ ls) c [])) (length ls) in
    omega (arith, e, f, h)

-- entries of so many clients are no more than those of each together
grows : (x : Cargo) (xs : List Cargo) (c : ℕ) → length (of_client c xs) ≤ length (of_client c (x ∷ xs))
grows x xs c = by (is_of c x)
  where
    by : (b : Bool) → length (of_client c xs) ≤ length (cond b (x ∷ of_client c xs) (of_client c xs))
    by true = omega arith
    by false = omega arith

someones_few : (n : ℕ) (xs : List Cargo) → All (IsSomeones n) xs → length xs ≤ sum_below (λ c. length (of_client c xs)) n
someones_few n [] all = omega arith
someones_few n (x ∷ xs) all =
    let h = all_head (IsSomeones n) x xs all in
    let rest = someones_few n xs (all_tail (IsSomeones n) x xs all) in
    let one : length (of_client h.client xs) + 1 ≤ length (of_client h.client (x ∷ xs)) = subst (λ (b : Bool). length (of_client h.client xs) + 1 ≤ length (cond b (x ∷ of_client h.client xs) (of_client h.client xs))) (sym h.is) (omega arith) in
    let more = sum_more (λ c. length (of_client c xs)) (λ c. length (of_client c (x ∷ xs))) n (grows x xs) h.client h.there one in
    omega (arith, rest, more)

module _ (bus : Bus) (mo : Moment Member) (passed : Passed) (st : Stage bus mo passed) where
  abbrev n : ℕ
  n = bus.clients

  abbrev asked : ℕ → ℕ
  asked c = length (script_of bus c)

  abbrev put : ℕ → ℕ
  put q = length (passed.sent q)

  pub put_few : (c : ℕ) → c < n → put (2 * c) ≤ asked c
  put_few c lt = asked_few (record { 0 = c }) 0 (script_of bus c) (passed.sent (2 * c)) (asked_by bus mo passed st c lt)

  pub judged_few : (c : ℕ) → c < n → length (judged_of c (log_now bus mo passed st)) ≤ asked c
  judged_few c lt =
      let s = client_served bus mo passed st c lt in
      let m = length-map (judged_of c (log_now bus mo passed st)) (λ (j : Judged). own_entry j.0) in
      let e = prefix_few (entries_of c (log_now bus mo passed st)) (passed.sent (2 * c)) s.taken in
      let p = put_few c lt in
      omega (arith, m, e, p)

  gave_few : (c : ℕ) → c < n → put (2 * c + 1) ≤ asked c
  gave_few c lt =
      let s = client_served bus mo passed st c lt in
      let g = given_few (judged_of c (log_now bus mo passed st)) (of_client c (back_now bus mo passed st)) (passed.sent (2 * c + 1)) s.answers in
      let j = judged_few c lt in
      omega (arith, g, j)

  went_few : put (2 * n) ≤ sum_below asked n
  went_few =
      let all = served bus mo passed st in
      let s = someones_few n (passed.sent (2 * n)) all.someones in
      let each = sum_le (λ c. length (of_client c (passed.sent (2 * n)))) asked n (λ c lt.
      let e = prefix_few (of_client c (passed.sent (2 * n))) (forwarded (judged_of c (log_now bus mo passed st))) (all.sends c lt) in
      let f = forwarded_few (judged_of c (log_now bus mo passed st)) in
      let j = judged_few c lt in
      omega (arith, e, f, j)) in
      omega (arith, s, each)

  to_bus_few : put (2 * n + 2) ≤ put (2 * n)
  to_bus_few =
      let e = ap length st.driver.there_is in
      let f = length-append (passed.sent (2 * n + 2)) (option_to_list st.driver.driver.driver.pipes.first.load) in
      let g = prefix_few (passed.taken (2 * n)) (passed.sent (2 * n)) (flow bus mo passed st (2 * n)) in
      omega (arith, e, f, g)

  from_bus_few : put (2 * n + 3) ≤ put (2 * n)
  from_bus_few =
      let e = ap length st.bus_itself.answered in
      let f = length-append (passed.sent (2 * n + 3)) (option_to_list st.bus_itself.bus.load) in
      let g = answers_many (new_devices bus.devices) st.bus_itself.requests in
      let h = prefix_few st.bus_itself.requests (passed.sent (2 * n)) (requests_first bus mo passed st) in
      omega (arith, e, f, g, h)

  back_few : put (2 * n + 1) ≤ put (2 * n + 3)
  back_few =
      let e = ap length st.driver.back_is in
      let f = length-append (passed.sent (2 * n + 1)) (option_to_list st.driver.driver.driver.pipes.rest.load) in
      let g = prefix_few (passed.taken (2 * n + 3)) (passed.sent (2 * n + 3)) (flow bus mo passed st (2 * n + 3)) in
      omega (arith, e, f, g)

  many_is : requests_of bus ≡ sum_below asked n
  many_is = requests_are_many bus.asks ∙ ap (sum_below asked) st.each

  all_put : sum_below put (2 * n + 4) ≤ hops_of bus
  all_put =
      let four = sum_four put (2 * n) in
      let pairs = sum_pairs put asked n put_few gave_few in
      let w = went_few in
      let a = to_bus_few in
      let b = from_bus_few in
      let c = back_few in
      let m = many_is in
      omega (arith, four, pairs, w, a, b, c, m)

  pub hops_few : (rows : List QueueRow) (journal : List Entry) → Holds member_means rows mo passed journal → length rows ≡ 2 * n + 4 → all_sent (start_history rows) rows journal ≤ hops_of bus
  hops_few rows journal holds many =
      let same = sum_alike (λ q. length (track (start_history rows) q journal).sent) put (length rows) (λ q. ap (λ (l : List Item). length l) (sym (holds.shows_sent q)) ∙ length-map (passed.sent q) (λ (c : Cargo). c.0)) in
      let e = ap (sum_below put) many in
      let a = all_put in
      omega (arith, same, e, a)
