-- What the replies to a block client ask of a valid plan and a trace that was read for it.
use Rattle.std.proofs.Common.{◌≡◌, ℕ, zero, suc, ◌/◌, ◌<◌, ◌≤◌, ◌^◌, ◌⊎◌, inl, inr, List, [], ◌∷◌, length, sum_by, Option, Some, None, MatchOption, slice_get, map, unwrap_or, refl, ap, arith}
use Rattle.std.specs.Option.{option_map_or, IsSomeAnd}
use Rattle.std.proofs.lemmas.Bool.{cases_lt}
use Rattle.std.proofs.lemmas.List.Sums.{sum_by-cons}
use Rattle.cargo_core.specs.declared.item.Ask.{Ask}
use Rattle.sdf_plan.specs.declared.plan.Plan.{Plan}
use Rattle.sdf_plan.specs.declared.plan.Blk.{Blk}
use Rattle.sdf_plan.specs.declared.plan.BlkClient.{BlkClient}
use Rattle.sdf_check.specs.Names.{StandsBefore}
use Rattle.sdf_check.specs.Valid.{Valid}
use Rattle.sdf_check.proofs.SoughtLemmas.{here-some}
use Rattle.trace_text.specs.declared.trace.Trace.{Trace}
use Rattle.trace_text.specs.Events.{blk_clients}
use Rattle.trace_text.specs.Shapes.{HasShapes, IsDisk}
use Rattle.expect_core.specs.Expected.{client_entry}
use Rattle.expect_core.proofs.Limits.{blk_client_kept}

there_is : {T : Type 0} (xs : List T) (k : ℕ) → k < length xs → (x : T) × (slice_get xs k ≡ Some x)
there_is [] k less = absurd (omega arith)
there_is (x ∷ xs) zero less = (x, refl)
there_is (x ∷ xs) (suc k) less = there_is xs k (omega arith)

-- a client of a class has one of four entries
pub entry_few : (plan : Plan) (c : ℕ) → Valid plan → c < length (blk_clients plan) → client_entry plan c < 4
entry_few plan c valid less = by plan.blk refl less
  where
    by : (o : Option Blk) → plan.blk ≡ o → c < length (option_map_or (λ (b : Blk). b.client) o []) → option_map_or (λ (x : BlkClient). x.partition) (slice_get (option_map_or (λ (b : Blk). b.client) o []) c) 0 < 4
    by None is less = absurd (omega arith)
    by (Some blk) is less =
        let client = there_is blk.client c less in
        let fine : (3 < client.0.partition → ⊥) = λ above. blk_client_kept plan blk c client.0 29 valid is client.1 (omega arith) (omega arith)
        (here-some plan.blk blk (λ (b : Blk). IsSomeAnd (slice_get b.client c) (λ (x : BlkClient). (3 < x.partition) ⊎ StandsBefore x.partition (map (λ (other : BlkClient). other.partition) b.client) c)) is
        (here-some (slice_get blk.client c) client.0 (λ (x : BlkClient). (3 < x.partition) ⊎ StandsBefore x.partition (map (λ (other : BlkClient). other.partition) blk.client) c) client.1 (inl above))) in
        let entry : option_map_or (λ (x : BlkClient). x.partition) (slice_get blk.client c) 0 ≡ client.0.partition = ap (λ (o : Option BlkClient). option_map_or (λ (x : BlkClient). x.partition) o 0) client.1 in
        elim (cases_lt 3 client.0.partition) [
          | inl above ↦ absurd (fine above)
          | inr most ↦ omega (arith, entry, most)
        ]

-- the disk of a plan with a block client
pub has_disk : (plan : Plan) (trace : Trace) (c : ℕ) → HasShapes plan trace → c < length (blk_clients plan) → IsDisk trace.image
has_disk plan trace c shapes less = by plan.blk less shapes.image
  where
    by : (o : Option Blk) → c < length (option_map_or (λ (b : Blk). b.client) o []) → MatchOption o (trace.image ≡ []) (λ _. IsDisk trace.image) → IsDisk trace.image
    by None less h = absurd (omega arith)
    by (Some blk) less h = h

pub has_sector : (image : List ℕ) → IsDisk image → 512 ≤ length image
has_sector image disk = let one = disk.1 in let long = disk.2 in omega (arith, one, long)

pub few_sectors : (image : List ℕ) → IsDisk image → length image / 512 < 2 ^ 32
few_sectors image disk = let long = disk.2 in let most = disk.3 in omega (arith, long, most)

pub few_asks : (lists : List (List Ask)) (c : ℕ) (asks : List Ask) → slice_get lists c ≡ Some asks → length asks ≤ sum_by length lists
few_asks [] c asks at = absurd cc
few_asks (x ∷ rest) zero asks at = let split = sum_by-cons (λ (l : List Ask). length l) x rest in let same : length x ≡ length asks = ap (λ (o : Option (List Ask)). length (unwrap_or o [])) at in omega (arith, split, same)
few_asks (x ∷ rest) (suc c) asks at = let split = sum_by-cons (λ (l : List Ask). length l) x rest in let one = few_asks rest c asks at in omega (arith, split, one)
