-- A buffer that has a place has one at each moment.
use Rattle.std.proofs.Common.{ℕ, suc, List, ap, arith}
use Rattle.wire_core.specs.declared.names.Entry.{Entry}
use Rattle.wire_core.specs.Bells.{bit}
use Rattle.wire_core.specs.Journal.{History, EachMoment}
use Rattle.play_core.proofs.Moments.{each_moment}
use Rattle.owner_law.specs.Things.{Naming}
use Rattle.owner_law.specs.Owners.{Place, Table, replay}
use Rattle.owner_law.specs.Census.{IsPool, is_queued, is_held, is_lent}
use Rattle.owner_law.proofs.Counting.{census_whole}

-- what follows from a fact at any moment follows from it at each
pub each_follows : (P Q : List Entry → Type 0) → ((j : List Entry) → P j → Q j) → (j : List Entry) → EachMoment P j → EachMoment Q j
each_follows P Q f j p = each_moment P P Q (λ i now too. f i now) j p p

-- so many buffers of a pool count once each, and so do those and one more
pub pool_stays : (naming : Naming) (history : History) (first : Table) (pool buffers : ℕ) → IsPool first pool buffers → (journal : List Entry) → IsPool (replay naming history first journal) pool buffers
pool_stays naming history first pool buffers some journal n lt none =
    let before = census_whole naming history first pool n (λ k k_lt. some k (omega (arith, k_lt, lt))) journal in
    let after = census_whole naming history first pool (suc n) (λ k k_lt. some k (omega (arith, k_lt, lt))) journal in
    let queued = ap (λ (p : Place). bit (is_queued p)) none in
    let held = ap (λ (p : Place). bit (is_held p)) none in
    let lent = ap (λ (p : Place). bit (is_lent p)) none in
    absurd (omega (arith, before, after, queued, held, lent))
