use Rattle.std.proofs.Common.{◌≡◌, ℕ, zero, suc, ◌+◌, ◌<◌, ◌≤◌, List, [], ◌∷◌, ◌++◌, length, take, drop, get_or, set, drop-cons, refl, ap, sym, ◌∙◌, arith, add-one}
use Rattle.std.specs.Prelude.{slice_index, slice_set}
use Rattle.std.proofs.lemmas.List.{drop_all, take_all, take_more_set}
use Rattle.cargo_core.specs.Lists.{replaced}
use Rattle.i2c_virt.specs.declared.i2c_kit.device.Device.{Device}
use Rattle.i2c_virt.specs.I2cKit.Devices.{next_place, place_after, bytes_from, after_read, after_store, after_write}

-- Reads and writes of a device, byte by byte.

-- one byte replaced is that byte set
pub replaced_one : (xs : List ℕ) (at b : ℕ) → at < length xs → replaced xs at (b ∷ []) ≡ slice_set xs at b
replaced_one [] at b h = absurd (omega arith)
replaced_one (x ∷ xs) zero b h = refl
replaced_one (x ∷ xs) (suc at) b h =
    let more : suc at + 1 ≡ suc (at + 1) = omega arith in
    rw more (ap (λ rest. x ∷ rest) (replaced_one xs at b (omega arith)))

pub length_set : (xs : List ℕ) (at b : ℕ) → length (slice_set xs at b) ≡ length xs
length_set [] at b = refl
length_set (x ∷ xs) zero b = refl
length_set (x ∷ xs) (suc at) b = ap suc (length_set xs at b)

-- one byte more
place_more : (place k : ℕ) → place_after place (suc k) ≡ next_place (place_after place k)
place_more place zero = refl
place_more place (suc k) = place_more (next_place place) k

bytes_more : (bytes : List ℕ) (place k : ℕ) → bytes_from bytes place (suc k) ≡ bytes_from bytes place k ++ slice_index bytes (place_after place k) ∷ []
bytes_more bytes place zero = refl
bytes_more bytes place (suc k) = ap (λ rest. slice_index bytes place ∷ rest) (bytes_more bytes (next_place place) k)

-- k bytes were read
pub record IsReading (old now : Device) (into : List ℕ) (k : ℕ) : Type 0 where
  pub address : now.address ≡ old.address
  pub kept : now.bytes ≡ old.bytes
  pub pointer : now.pointer ≡ place_after old.pointer k
  pub read : take k into ≡ bytes_from old.bytes old.pointer k

pub reading_more : (old now now' : Device) (into into' : List ℕ) (k byte : ℕ) → IsReading old now into k → k < length into → byte ≡ slice_index now.bytes now.pointer
    → now' ≡ record now { pointer = next_place now.pointer } → into' ≡ set into k byte → IsReading old now' into' (k + 1)
reading_more old now now' into into' k byte h inside here after put =
    record {
      address = ap (λ (d : Device). d.address) after ∙ h.address;
      kept = ap (λ (d : Device). d.bytes) after ∙ h.kept;
      pointer = ap (λ (d : Device). d.pointer) after ∙ (ap next_place h.pointer ∙ (sym (place_more old.pointer k) ∙ ap (place_after old.pointer) (sym (add-one k))));
      read = ap (take (k + 1)) put ∙ (take_more_set into k byte inside
          ∙ (ap (λ x. take k into ++ x ∷ []) (here ∙ (ap (λ b. slice_index b now.pointer) h.kept ∙ ap (slice_index old.bytes) h.pointer))
          ∙ (ap (λ xs. xs ++ slice_index old.bytes (place_after old.pointer k) ∷ []) h.read
          ∙ (sym (bytes_more old.bytes old.pointer k) ∙ ap (bytes_from old.bytes old.pointer) (sym (add-one k))))));
    }

same_device : (d : Device) (a' : ℕ) (b' : List ℕ) (c' : ℕ) → d.address ≡ a' → d.bytes ≡ b' → d.pointer ≡ c'
    → d ≡ record { address = a'; bytes = b'; pointer = c' }
same_device d a' b' c' e f g = rw (← e, ← f, ← g) refl

pub reading_bytes : (old now : Device) (into : List ℕ) (k n : ℕ) → IsReading old now into k → length into ≡ n → k ≡ n → into ≡ bytes_from old.bytes old.pointer n
reading_bytes old now into k n h long end = sym (take_all k into (omega arith)) ∙ (h.read ∙ ap (bytes_from old.bytes old.pointer) end)

pub reading_after : (old now : Device) (into : List ℕ) (k n : ℕ) → IsReading old now into k → k ≡ n → now ≡ after_read old n
reading_after old now into k n h end = same_device now old.address old.bytes (place_after old.pointer n) h.address h.kept (h.pointer ∙ ap (place_after old.pointer) end)

-- the first byte of a write sets the pointer; each other one is stored
pub writing_more : (d d' : Device) (more : List ℕ) (i b : ℕ) → i < length more → b ≡ get_or more i 0 → d' ≡ record d { bytes = slice_set d.bytes d.pointer b; pointer = next_place d.pointer }
    → after_store d' (drop (i + 1) more) ≡ after_store d (drop i more)
writing_more d d' more i b inside here after =
    rw (after, here, add-one i, drop-cons more i 0 inside) refl

pub writing_done : (d : Device) (more : List ℕ) (i : ℕ) → length more ≤ i → after_store d (drop i more) ≡ d
writing_done d more i end = rw (drop_all i more end) refl
