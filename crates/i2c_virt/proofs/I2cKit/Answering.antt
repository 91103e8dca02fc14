use Rattle.std.proofs.Common.{◌≡◌, ℕ, zero, suc, ◌+◌, ◌<◌, ◌≤◌, Bool, true, false, cond, not, eqb, ltb, List, [], ◌∷◌, ◌++◌, length, map, take, drop, set, get_or, replicate, Option, Some, None, slice_get, refl, ap, sym, ◌∙◌, subst, arith, add-one, inl, inr}
use Rattle.std.specs.List.{position_or_len, position}
use Rattle.std.proofs.lemmas.Bool.{cases_Bool, ltb-true, ltb-false}
use Rattle.std.proofs.lemmas.List.{length-replicate, take_all}
use Rattle.std.proofs.Math.Seq.{take-suc}
use Rattle.std.proofs.lemmas.Option.{slice_get-get_or}
use Rattle.i2c_text.specs.declared.bus.BusAsk.{BusAsk}
use Rattle.i2c_text.specs.declared.report.BusStatus.TheVariants as Ended
use Rattle.i2c_virt.specs.declared.i2c_kit.device.Device.{Device}
use Rattle.i2c_virt.specs.declared.i2c_kit.page.Operation.{Operation}
use Rattle.i2c_virt.specs.declared.i2c_kit.page.Operation.TheVariants as Does
use Rattle.i2c_virt.specs.I2cKit.Devices.{address_of, answer_of, device_after, devices_answer, devices_after, new_device, new_devices, AreWhole}
use Rattle.std.specs.Option.{option_map}
use Rattle.cargo_core.specs.Pages.{Paged}
use Rattle.i2c_virt.specs.declared.i2c_kit.page.Head.{Head}
use Rattle.i2c_virt.specs.I2cKit.Pages.{asked, head_in, request_in}
use Rattle.i2c_virt.specs.I2cKit.Serving.{reply, replied, answered, done_if}

-- The first device of an address does what is asked; where there is none, nobody does.

abbrev pub at : ℕ → Device → Bool
at address d = eqb d.address address

answer_step : (x : Device) (xs : List Device) (ask : BusAsk) (b : Bool) (n k : ℕ) (d : Device) → at (address_of ask) x ≡ b → cond (not b) (1 + n) 0 ≡ k → slice_get (x ∷ xs) k ≡ Some d
    → ((j : ℕ) → n ≡ j → slice_get xs j ≡ Some d → (devices_answer xs ask ≡ reply Ended.Ok (answer_of d ask)) × (devices_after xs ask ≡ set xs j (device_after d ask)))
    → (devices_answer (x ∷ xs) ask ≡ reply Ended.Ok (answer_of d ask)) × (devices_after (x ∷ xs) ask ≡ set (x ∷ xs) k (device_after d ask))
answer_step x xs ask true n zero d is place there more = let same : x ≡ d = cc in (rw (is, same) refl, rw (is, same) refl)
answer_step x xs ask true n (suc j) d is place there more = absurd (omega arith)
answer_step x xs ask false n zero d is place there more = absurd (omega arith)
answer_step x xs ask false n (suc j) d is place there more =
    let rest = more j (omega arith) there in
    (rw is rest.0, rw is (ap (λ ds. x ∷ ds) rest.1))

answer_at : (ds : List Device) (ask : BusAsk) (k : ℕ) (d : Device) → position_or_len (at (address_of ask)) ds ≡ k → slice_get ds k ≡ Some d
    → (devices_answer ds ask ≡ reply Ended.Ok (answer_of d ask)) × (devices_after ds ask ≡ set ds k (device_after d ask))
answer_at [] ask k d place there = cc
answer_at (x ∷ xs) ask k d place there = answer_step x xs ask (at (address_of ask) x) (position_or_len (at (address_of ask)) xs) k d refl place there (λ j is h. answer_at xs ask j d is h)

nobody_step : (x : Device) (xs : List Device) (ask : BusAsk) (b : Bool) (n : ℕ) → at (address_of ask) x ≡ b → suc (length xs) ≤ cond (not b) (1 + n) 0
    → (length xs ≤ n → (devices_answer xs ask ≡ reply Ended.NoAck []) × (devices_after xs ask ≡ xs))
    → (devices_answer (x ∷ xs) ask ≡ reply Ended.NoAck []) × (devices_after (x ∷ xs) ask ≡ x ∷ xs)
nobody_step x xs ask true n is past more = absurd (omega arith)
nobody_step x xs ask false n is past more = let rest = more (omega arith) in (rw is rest.0, rw is (ap (λ ds. x ∷ ds) rest.1))

nobody_at : (ds : List Device) (ask : BusAsk) → length ds ≤ position_or_len (at (address_of ask)) ds → (devices_answer ds ask ≡ reply Ended.NoAck []) × (devices_after ds ask ≡ ds)
nobody_at [] ask past = (refl, refl)
nobody_at (x ∷ xs) ask past = nobody_step x xs ask (at (address_of ask) x) (position_or_len (at (address_of ask)) xs) refl past (λ h. nobody_at xs ask h)

position_none : (m n : ℕ) → cond (ltb m n) (Some m) None ≡ None → n ≤ m
position_none m n h = elim (cases_Bool (ltb m n)) [
  | inl is ↦ absurd (let e = rw is at h in cc)
  | inr isnt ↦ omega (arith, ltb-false m n isnt)
]

position_some : (m n k : ℕ) → cond (ltb m n) (Some m) None ≡ Some k → (m < n) × (m ≡ k)
position_some m n k h = elim (cases_Bool (ltb m n)) [
  | inl is ↦ (ltb-true m n is, (let e = rw is at h in cc))
  | inr isnt ↦ absurd (let e = rw isnt at h in cc)
]

-- where the device of an address stands
pub place_within : (ds : List Device) (a k : ℕ) → Some k ≡ position (at a) ds → k < length ds
place_within ds a k h =
    let found = position_some (position_or_len (at a) ds) (length ds) k (sym h) in
    omega (arith, found.0, found.1)

-- and what it is
pub device_there : (ds : List Device) (a k : ℕ) (r : Device) → Some k ≡ position (at a) ds → slice_get ds k ≡ Some (get_or ds k r)
device_there ds a k r h = slice_get-get_or ds k r (place_within ds a k h)

pub served : (ds : List Device) (ask : BusAsk) (a k : ℕ) (r d' : Device) (bytes : List ℕ) → a ≡ address_of ask → Some k ≡ position (at a) ds
    → bytes ≡ answer_of (get_or ds k r) ask → d' ≡ device_after (get_or ds k r) ask → (reply Ended.Ok bytes ≡ devices_answer ds ask) × (set ds k d' ≡ devices_after ds ask)
served ds ask a k r d' bytes address h read after =
    let there = device_there ds a k r h in
    let found = position_some (position_or_len (at a) ds) (length ds) k (sym h) in
    let both = answer_at ds ask k (get_or ds k r) (ap (λ x. position_or_len (at x) ds) (sym address) ∙ found.1) there in
    (ap (reply Ended.Ok) read ∙ sym both.0, ap (set ds k) after ∙ sym both.1)

pub unserved : (ds : List Device) (ask : BusAsk) (a : ℕ) (bytes : List ℕ) → a ≡ address_of ask → None ≡ position (at a) ds → bytes ≡ []
    → (reply Ended.NoAck bytes ≡ devices_answer ds ask) × (ds ≡ devices_after ds ask)
unserved ds ask a bytes address h none =
    let both = nobody_at ds ask (position_none (position_or_len (at (address_of ask)) ds) (length ds) (ap (λ x. position (at x) ds) (sym address) ∙ sym h)) in
    (ap (reply Ended.NoAck) none ∙ sym both.0, sym both.1)

-- the request of a head is for its address
pub asked_at : (o : Operation) (a n : ℕ) (bytes : List ℕ) → a ≡ address_of (asked o a n bytes)
asked_at Does.Claim a n bytes = refl
asked_at Does.Read a n bytes = refl
asked_at Does.Write a n bytes = refl

-- devices of 256 bytes stay such
pub whole_set : (ds : List Device) (k : ℕ) (d : Device) → AreWhole ds → length d.bytes ≡ 256 → AreWhole (set ds k d)
whole_set [] k d h long j x there = cc
whole_set (y ∷ ds) zero d h long zero x there = let same : d ≡ x = cc in rw (← same) long
whole_set (y ∷ ds) zero d h long (suc j) x there = h (suc j) x there
whole_set (y ∷ ds) (suc k) d h long zero x there = h zero x there
whole_set (y ∷ ds) (suc k) d h long (suc j) x there = whole_set ds k d (λ i z e. h (suc i) z e) long j x there

pub whole_new : (addresses : List ℕ) → AreWhole (new_devices addresses)
whole_new [] k d there = cc
whole_new (a ∷ more) zero d there =
    let same : new_device a ≡ d = cc in
    subst (λ (x : Device). length x.bytes ≡ 256) same (length-replicate {A = ℕ} 256 0)
whole_new (a ∷ more) (suc k) d there = whole_new more k d there

-- one device more
map_push : (xs : List ℕ) (a : ℕ) → map new_device (xs ++ a ∷ []) ≡ map new_device xs ++ new_device a ∷ []
map_push [] a = refl
map_push (x ∷ xs) a = ap (λ ds. new_device x ∷ ds) (map_push xs a)

pub new_more : (addresses : List ℕ) (i : ℕ) (items : List Device) (d : Device) → i < length addresses → items ≡ map new_device (take i addresses) → d ≡ new_device (get_or addresses i 0)
    → items ++ d ∷ [] ≡ map new_device (take (i + 1) addresses)
new_more addresses i items d inside is now =
    ap (λ ds. ds ++ d ∷ []) is ∙ (ap (λ x. map new_device (take i addresses) ++ x ∷ []) now
    ∙ (sym (map_push (take i addresses) (get_or addresses i 0)) ∙ ap (map new_device) (sym (take-suc addresses i 0 inside) ∙ ap (λ n. take n addresses) (sym (add-one i)))))

pub new_all : (addresses : List ℕ) (i : ℕ) (items : List Device) → length addresses ≤ i → items ≡ map new_device (take i addresses) → items ≡ new_devices addresses
new_all addresses i items end is = is ∙ ap (map new_device) (take_all i addresses end)

-- a page with the answer to the request of its head
pub answered_by : (ds : List Device) (p : Paged) (h : Head) → Some h ≡ head_in p.bytes → replied p (devices_answer ds (asked h.operation h.address h.count (drop 4 p.bytes))) ≡ answered ds (request_in p.bytes) p
unfolding request_in
answered_by ds p h is = ap (λ x. answered ds (option_map (λ (x : Head). asked x.operation x.address x.count (drop 4 p.bytes)) x) p) is

pub done_by : (ds : List Device) (p : Paged) (h : Head) → Some h ≡ head_in p.bytes → devices_after ds (asked h.operation h.address h.count (drop 4 p.bytes)) ≡ done_if ds (request_in p.bytes)
unfolding request_in
done_by ds p h is = ap (λ x. done_if ds (option_map (λ (x : Head). asked x.operation x.address x.count (drop 4 p.bytes)) x)) is
