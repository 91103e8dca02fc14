-- Which buffers items name by the class's naming, and which queues answer others.
use Rattle.std.proofs.Common.{◌≡◌, ◌⊎◌, ◌+◌, ◌*◌, ◌<◌, ◌≤◌, ℕ, zero, suc, false, Some, List, [], ◌∷◌, All, length, slice_get, refl, sym, ap, ◌∙◌, subst, arith, inl, inr}
use Rattle.std.specs.Prelude.{slice_index_or}
use Rattle.play_core.proofs.Lists.{some_is, map_from}
use Rattle.owner_law.specs.Things.{Window, NoBuffers, Answers, naming_of}
use Rattle.owner_law.specs.Keeping.{is_lending}
use Rattle.owner_law.specs.Pools.Lines.{IsWithin, NamesWithin}
use Rattle.owner_law.specs.Pools.Places.{PoolAt, by_address, by_offset}
use Rattle.blk_law.specs.Sheets.Numbers.{BlkPlace}
use Rattle.blk_quiet.specs.Pools.Naming.{disk_side, client_names, blk_names}
use Rattle.owner_law.proofs.PoolsLemmas.Sizing.{all_from}

-- all buffers that items name are of the class's pools
module _ (sizes : ℕ → ℕ) (place : BlkPlace) (own : place.pool.buffers ≤ sizes place.pool.number) (each : (k : ℕ) (p : PoolAt) → slice_get place.pools k ≡ Some p → p.buffers ≤ sizes p.number) where
  one_window : (w : Window) → IsWithin sizes w → All (IsWithin sizes) (w ∷ [])
  one_window w is = all_from (IsWithin sizes) (w ∷ []) by
    where
      by : (k : ℕ) (x : Window) → slice_get (w ∷ []) k ≡ Some x → IsWithin sizes x
      by zero x at = subst (IsWithin sizes) (some_is at) is
      by (suc k) x at = cc

  disk_within : All (IsWithin sizes) (disk_side place.pool place.pools)
  disk_within = all_from (IsWithin sizes) (disk_side place.pool place.pools) by
    where
      by : (k : ℕ) (w : Window) → slice_get (disk_side place.pool place.pools) k ≡ Some w → IsWithin sizes w
      by zero w at = subst (IsWithin sizes) (some_is at) own
      by (suc k) w at = let x = map_from by_address place.pools k w at in subst (IsWithin sizes) x.2 (each k x.0 x.1)

  clients_within : (j : ℕ) (pools : List PoolAt) → ((k : ℕ) (p : PoolAt) → slice_get pools k ≡ Some p → p.buffers ≤ sizes p.number) → (n : ℕ) → NamesWithin sizes (slice_index_or (client_names place.first j pools) n NoBuffers)
  clients_within j [] some n = tt
  clients_within j (p ∷ pools) some zero = one_window (by_offset p) (some 0 p refl)
  clients_within j (p ∷ pools) some (suc zero) = one_window (by_offset p) (some 0 p refl)
  clients_within j (p ∷ pools) some (suc (suc n)) = clients_within (j + 1) pools (λ k q at. some (suc k) q at) n

  pub blk_within : (i : ℕ) → NamesWithin sizes (naming_of (blk_names place) i)
  blk_within zero = disk_within
  blk_within (suc zero) = disk_within
  blk_within (suc (suc zero)) = disk_within
  blk_within (suc (suc (suc zero))) = disk_within
  blk_within (suc (suc (suc (suc n)))) = clients_within 0 place.pools each n

-- nothing is named past the class's queues
clients_past : (first j : ℕ) (pools : List PoolAt) (n : ℕ) → 2 * length pools ≤ n → slice_index_or (client_names first j pools) n NoBuffers ≡ NoBuffers
clients_past first j [] n le = refl
clients_past first j (p ∷ pools) zero le = absurd (omega (arith, le))
clients_past first j (p ∷ pools) (suc zero) le = absurd (omega (arith, le))
clients_past first j (p ∷ pools) (suc (suc n)) le = clients_past first (j + 1) pools n (omega (arith, le))

pub blk_past : (place : BlkPlace) (i : ℕ) → 4 + 2 * length place.pools ≤ i → naming_of (blk_names place) i ≡ NoBuffers
blk_past place zero le = absurd (omega (arith, le))
blk_past place (suc zero) le = absurd (omega (arith, le))
blk_past place (suc (suc zero)) le = absurd (omega (arith, le))
blk_past place (suc (suc (suc zero))) le = absurd (omega (arith, le))
blk_past place (suc (suc (suc (suc n)))) le = clients_past place.first 0 place.pools n (omega (arith, le))

-- nothing is lent
clients_keep : (first j : ℕ) (pools : List PoolAt) (n : ℕ) → is_lending (slice_index_or (client_names first j pools) n NoBuffers) ≡ false
clients_keep first j [] n = refl
clients_keep first j (p ∷ pools) zero = refl
clients_keep first j (p ∷ pools) (suc zero) = refl
clients_keep first j (p ∷ pools) (suc (suc n)) = clients_keep first (j + 1) pools n

pub blk_keeps : (place : BlkPlace) (i : ℕ) → is_lending (naming_of (blk_names place) i) ≡ false
blk_keeps place zero = refl
blk_keeps place (suc zero) = refl
blk_keeps place (suc (suc zero)) = refl
blk_keeps place (suc (suc (suc zero))) = refl
blk_keeps place (suc (suc (suc (suc n)))) = clients_keep place.first 0 place.pools n

-- which queues answer others: that from the disk, that from the driver, and each client's
abbrev pub IsAnswer : BlkPlace → (i q : ℕ) → Type 0
IsAnswer place i q = ((i ≡ 1) × (q ≡ place.first)) ⊎ ((i ≡ 3) × (q ≡ place.first + 2)) ⊎ ((k : ℕ) × (k < length place.pools) × (i ≡ 5 + 2 * k) × (q ≡ place.first + 4 + 2 * k))

answer_queue : {q r : ℕ} {ws vs : List Window} → Answers q ws ≡ Answers r vs → q ≡ r
answer_queue e = cc

clients_answer : (first j : ℕ) (pools : List PoolAt) (n q : ℕ) (ws : List Window) → slice_index_or (client_names first j pools) n NoBuffers ≡ Answers q ws → (k : ℕ) × (k < length pools) × (n ≡ 1 + 2 * k) × (q ≡ first + 4 + 2 * (j + k))
clients_answer first j [] n q ws is = absurd cc
clients_answer first j (p ∷ pools) zero q ws is = absurd cc
clients_answer first j (p ∷ pools) (suc zero) q ws is = let plus : j ≡ j + 0 = omega arith in (0, omega arith, omega arith, sym (answer_queue is) ∙ ap (λ n. first + 4 + 2 * n) plus)
clients_answer first j (p ∷ pools) (suc (suc n)) q ws is =
    let x = clients_answer first (j + 1) pools n q ws is in
    let at = x.2 in
    let lt = x.1 in
    let shift : j + 1 + x.0 ≡ j + suc x.0 = omega arith in
    (suc x.0, omega (arith, lt), omega (arith, at), x.3 ∙ ap (λ n. first + 4 + 2 * n) shift)

pub blk_answers : (place : BlkPlace) (i q : ℕ) (ws : List Window) → naming_of (blk_names place) i ≡ Answers q ws → IsAnswer place i q
blk_answers place zero q ws is = absurd cc
blk_answers place (suc zero) q ws is = inl (refl, sym (answer_queue is))
blk_answers place (suc (suc zero)) q ws is = absurd cc
blk_answers place (suc (suc (suc zero))) q ws is = inr (inl (refl, sym (answer_queue is)))
blk_answers place (suc (suc (suc (suc n)))) q ws is =
    let x = clients_answer place.first 0 place.pools n q ws is in
    let at = x.2 in
    let plus : 0 + x.0 ≡ x.0 = omega arith in
    inr (inr (x.0, x.1, omega (arith, at), x.3 ∙ ap (λ n. place.first + 4 + 2 * n) plus))
