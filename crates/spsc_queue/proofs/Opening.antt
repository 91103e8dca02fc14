-- A new ring keeps the rule.
use Rattle.std.proofs.Common.{◌≡◌, ℕ, zero, suc, ◌+◌, ◌-◌, ◌*◌, ◌%◌, ◌^◌, ◌<◌, ◌≤◌, ⊎_elim, Bool, true, false, List, [], ◌∷◌, length, map, replicate, set, refl, sym, ap, ◌∙◌, subst, arith, mod-lt, None}
use Rattle.std.proofs.Math.Nat.{pow-le-pow_right, mul-mod_left}
use Rattle.std.proofs.lemmas.Nat.{pow-add, pow_pos}
use Rattle.std.proofs.lemmas.List.{length-replicate}
use mathlib.Core.Option.{none, some, some-injective, some-ne-none}
use mathlib.Core.Option as maybe
use lib.ListN.{get_elem?}
use lib.ListN as lists
use Rattle.std.proofs.lemmas.Bool.{le-ltb}
use Rattle.atomic_table.proofs.Lists.{set_else}
use Rattle.wire_core.specs.Bells.{bit}
use Rattle.atomic_table.specs.Table.{opening}
use Rattle.cargo_core.specs.declared.item.QueueKind.{QueueKind}
use Rattle.spsc_queue.specs.declared.view.View.{View}
use Rattle.cargo_core.specs.Capacities.{IsCapacity}
use Rattle.spsc_queue.specs.Rule.{Slot, laid, SharedHold, EndsHold, RingHolds, first_view, first_producer, first_consumer}

-- a capacity divides the numbers of an index
pub capacity_fits : (n : ℕ) → IsCapacity n → (0 < n) × (n ≤ 32768) × (65536 % n ≡ 0)
capacity_fits n h = let k : ℕ = h.0 in let small : k ≤ 15 = h.1 in let j : ℕ = 16 - k in let sum : j + k ≡ 16 = omega arith in
    let most : 2 ^ k ≤ 2 ^ 15 = pow-le-pow_right (let z : zero < 2 = omega arith in z) small in
    let whole : 65536 ≡ 2 ^ j * 2 ^ k = ap (λ (z : ℕ). 2 ^ z) (sym sum) ∙ pow-add 2 j k in
    subst (λ (m : ℕ). (0 < m) × (m ≤ 32768) × (65536 % m ≡ 0)) (sym h.2) (pow_pos k, most, ap (λ (z : ℕ). z % 2 ^ k) whole ∙ mul-mod_left (2 ^ j) (2 ^ k))

all_vacant : {A : Type 0} (n i : ℕ) (a : A) → i < n → get_elem? (map some (replicate n a)) i ≡ some (some a)
all_vacant zero i a h = absurd (omega arith)
all_vacant (suc n) zero a h = refl
all_vacant (suc n) (suc i) a h = all_vacant n i a (omega arith)

sole : (v : View) (j : ℕ) (u : View) → get_elem? (v ∷ []) j ≡ some u → j ≡ 0
sole v zero u e = refl
sole v (suc j) u e = absurd (some-ne-none u (sym e))

-- any words that fit the two ends
begins : (wild : Bool) (kind : QueueKind) (n : ℕ) (ws : List ℕ) → 0 < n → n ≤ 32768 → 65536 % n ≡ 0 → SharedHold wild n ws [] (record (first_producer kind) { wild = wild }) (record (first_consumer kind) { wild = wild })
    → RingHolds wild kind (opening ws (replicate n None) (first_view (record { kind = kind; wild = wild })))
begins wild kind n ws some_place few divides shared = let hs : List (maybe.Option Slot) = map some (replicate n None) in let size : length hs ≡ n = lists.length-map (replicate n None) (λ (x : Slot). some x) ∙ length-replicate n None in
    let first : View = first_view (record { kind = kind; wild = wild }) in record {
      p = 0;
      c = 0;
      producing = first;
      consuming = first;
      at_p = refl;
      at_c = refl;
      produces = refl;
      consumes = refl;
      one_producer = λ j v e is. sole first j v e;
      one_consumer = λ j v e is. sole first j v e;
      ends = subst (λ (m : ℕ). EndsHold wild kind m ws hs (record (first_producer kind) { wild = wild }) (record (first_consumer kind) { wild = wild })) (sym size) record {
        lists = record {
          left = [];
          some_place = some_place;
          few = few;
          divides = divides;
          sent = refl;
          later = [];
          times = refl;
          timed = refl;
          kinds = λ k d lt. absurd (omega arith);
          producer_kind = refl;
          consumer_kind = refl;
          slots = record {
            size = size;
            within = omega arith;
            filled = λ k x e free. absurd (some-ne-none x (sym e));
            empty = λ k le lt free. all_vacant n ((0 + k) % n) None (mod-lt (0 + k) some_place);
            to_producer = λ y e. cc;
            to_consumer = λ y e. cc;
          };
        };
        producer_sort = refl;
        consumer_sort = refl;
        shared = shared;
      };
    }

pub starts : (kind : QueueKind) (n : ℕ) → 0 < n → n ≤ 32768 → 65536 % n ≡ 0 → RingHolds false kind (opening (laid 0 0 0 0 1 0) (replicate n None) (first_view (record { kind = kind; wild = false })))
starts kind n some_place few divides = begins false kind n (laid 0 0 0 0 1 0) some_place few divides record {
  flag = false;
  pending = false;
  flag_back = true;
  pending_back = false;
  words_are = refl;
  forward_told = record { flag_is = refl; settled_within = omega arith; pending_is = refl; woken_within = omega arith };
  backward_told = record { flag_is = refl; settled_within = omega arith; pending_is = refl; woken_within = omega arith };
  room_ahead = omega arith;
  entries_ahead = omega arith;
  forward = record { signalled = λ is. cc; asked = λ is. ⊎_elim (λ z. cc) (λ z. cc) is; counted = omega arith };
  backward = record { signalled = λ is. cc; asked = λ is. ⊎_elim (λ z. cc) (λ z. cc) is; counted = omega arith };
}

all_alike : {A : Type 0} (n i : ℕ) (a : A) → i < n → get_elem? (replicate n a) i ≡ some a
all_alike zero i a h = absurd (omega arith)
all_alike (suc n) zero a h = refl
all_alike (suc n) (suc i) a h = all_alike n i a (omega arith)

-- each guard of a new ring is 0
pub starts_wild : (kind : QueueKind) (n z : ℕ) → 0 < n → n ≤ 32768 → 65536 % n ≡ 0 → RingHolds true kind (opening (set (replicate (36 + n) 0) 2 z) (replicate n None) (first_view (record { kind = kind; wild = true })))
starts_wild kind n z some_place few divides = begins true kind n (set (replicate (36 + n) 0) 2 z) some_place few divides
    (λ k lt. let r : ℕ = (0 + k) % n in let small : r < n = mod-lt (0 + k) some_place in set_else (replicate (36 + n) 0) 2 (36 + r) z (λ e. omega (arith, e)) ∙ (all_alike (36 + n) (36 + r) 0 (omega (arith, small)) ∙ ap (λ (b : Bool). some (bit b)) (sym (le-ltb k 0 (omega arith)))))
