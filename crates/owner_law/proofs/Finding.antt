use Rattle.std.proofs.Common.{◌≡◌, ◌⊎◌, ◌==◌, ◌+◌, ◌≤◌, ◌≢◌, ℕ, Bool, true, false, refl, ap, arith, inl, inr}
use Rattle.std.proofs.Math.Dec.{eqb}
use Rattle.std.proofs.lemmas.Bool.Decides.{eqb_tells}
use Rattle.wire_core.specs.Bells.{bit}
use Rattle.owner_law.specs.Things.{Buffer, is_same, Thing, Nothing, Whole, Frame, Lease, Return, as_buffer, as_lease}
use Rattle.owner_law.specs.Owners.{InQueue, InHand, Place, Nowhere, At, Lent, Table, leases_at, Stands}
use Rattle.owner_law.specs.Keeping.{stands_in, is_with}
use Rattle.owner_law.proofs.Sums.{same_self}

hand_by : (j k : ℕ) (out : ℕ) → 1 + out ≤ bit (j == k) → ((eqb j k ≡ true) × (j ≡ k)) ⊎ ((eqb j k ≡ false) × (j ≢ k)) → j ≡ k
hand_by j k out le (inl h) = h.1
hand_by j k out le (inr h) = let none : bit (j == k) ≡ 0 = ap bit h.0 in absurd (omega (arith, le, none))

bit_few : (b : Bool) → bit b ≤ 1
bit_few true = omega arith
bit_few false = omega arith

-- a buffer that an actor has, and didn't lend, is in its hand
pub in_hand : (lender k : ℕ) (P : Place) (out : Bool) → 1 + bit out ≤ is_with lender k P → ((r : ℕ) → P ≡ Lent r → lender ≡ k → out ≡ true) → P ≡ At (InHand k)
in_hand lender k Nowhere out le lent = absurd (omega (arith, le))
in_hand lender k (At (InQueue q)) out le lent = absurd (omega (arith, le))
in_hand lender k (At (InHand j)) out le lent = ap (λ i. At (InHand i)) (hand_by j k (bit out) le (eqb_tells j k))
in_hand lender k (Lent r) out le lent =
    let out_is : bit out ≡ 1 = ap bit (lent r refl (hand_by lender k (bit out) le (eqb_tells lender k))) in
    absurd (omega (arith, le, out_is, bit_few (lender == k)))

-- a buffer that is in a queue is there
pub in_queue : (n : ℕ) (P : Place) → 1 ≤ stands_in n P → P ≡ At (InQueue n)
in_queue n Nowhere le = absurd (omega (arith, le))
in_queue n (At (InHand k)) le = absurd (omega (arith, le))
in_queue n (At (InQueue q)) le = ap (λ i. At (InQueue i)) (hand_by q n 0 (omega (arith, le)) (eqb_tells q n))
in_queue n (Lent r) le = absurd (omega (arith, le))

self_one : (c : Buffer) → bit (is_same c c) ≡ 1
self_one c = ap bit (same_self c)

-- a thing that an actor may put is in its hand
pub put_finds : (lender k : ℕ) (t : Table) (out : Buffer → Bool) (x : Thing) → ((b : Buffer) → as_buffer b x + bit (out b) ≤ is_with lender k (t.place b)) → ((b : Buffer) → as_lease b x ≤ leases_at t b (InHand k)) → ((b : Buffer) (r : ℕ) → t.place b ≡ Lent r → lender ≡ k → out b ≡ true) → Stands t (InHand k) x
put_finds lender k t out Nothing buffers leases lent = tt
put_finds lender k t out (Whole c) buffers leases lent = in_hand lender k (t.place c) (out c) (omega (arith, buffers c, self_one c)) (lent c)
put_finds lender k t out (Frame c r) buffers leases lent = in_hand lender k (t.place c) (out c) (omega (arith, buffers c, self_one c)) (lent c)
put_finds lender k t out (Lease c) buffers leases lent = omega (arith, leases c, self_one c)
put_finds lender k t out (Return c) buffers leases lent = omega (arith, leases c, self_one c)

-- a thing that a queue hands over is in it
pub take_finds : (n : ℕ) (t : Table) (x : Thing) → ((b : Buffer) → as_buffer b x ≤ stands_in n (t.place b)) → ((b : Buffer) → as_lease b x ≤ leases_at t b (InQueue n)) → Stands t (InQueue n) x
take_finds n t Nothing buffers leases = tt
take_finds n t (Whole c) buffers leases = in_queue n (t.place c) (omega (arith, buffers c, self_one c))
take_finds n t (Frame c r) buffers leases = in_queue n (t.place c) (omega (arith, buffers c, self_one c))
take_finds n t (Lease c) buffers leases = omega (arith, leases c, self_one c)
take_finds n t (Return c) buffers leases = omega (arith, leases c, self_one c)
