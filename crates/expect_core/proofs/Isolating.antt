-- Two records of equal lists are of one; and replies depend on a partition by its number of blocks
-- and its bytes alone.
use Rattle.std.proofs.Common.{◌≡◌, ◌+◌, ℕ, Bool, true, Option, Some, None, option_map, List, [], ◌∷◌, refl, sym, ap, ◌∙◌, subst}
use Rattle.cargo_core.specs.declared.item.Ask.{Ask}
use Rattle.blk_mbr.specs.declared.part.Part.{Part}
use Rattle.class_expect.specs.BlkExpect.Judging.{status_within}
use Rattle.class_expect.specs.BlkExpect.Replies.{partition_in, partition_bytes, status_to, left_by, replies_from, replies_of, reply_of}
use Rattle.expect_core.specs.Isolation.{IsRecordOf, AreOfOne, AgreeOnPartition}

-- two records of lists that are the same are of the first
pub two_of : {T : Type 0} (whole other : List T) (quiet : Bool) (got : List T) (still : Bool) (seen : List T) → whole ≡ other → IsRecordOf whole quiet got → IsRecordOf other still seen → AreOfOne whole quiet got still seen
two_of whole other quiet got still seen same p q = record { one = p; other = subst (λ w. IsRecordOf w still seen) (sym same) q }

-- a request is judged by the number of blocks alone
status_same : (p q : Option Part) → option_map (λ (x : Part). x.blocks) p ≡ option_map (λ (x : Part). x.blocks) q → (ask : Ask) → status_to p ask ≡ status_to q ask
status_same None None h ask = refl
status_same None (Some q) h ask = cc
status_same (Some p) None h ask = cc
status_same (Some p) (Some q) h ask = let n : p.blocks ≡ q.blocks = cc in ap (λ b. status_within true b ask.code ask.block ask.count) n

replies_same : (p q : Option Part) → option_map (λ (x : Part). x.blocks) p ≡ option_map (λ (x : Part). x.blocks) q → (bytes : List ℕ) (id : ℕ) (asks : List Ask) → replies_from p bytes id asks ≡ replies_from q bytes id asks
replies_same p q h bytes id [] = refl
replies_same p q h bytes id (ask ∷ asks) =
    let s = status_same p q h ask in
    ap (λ st. reply_of st bytes id ask ∷ replies_from p (left_by st bytes ask) (id + 1) asks) s ∙ ap (λ rs. reply_of (status_to q ask) bytes id ask ∷ rs) (replies_same p q h (left_by (status_to q ask) bytes ask) (id + 1) asks)

pub replies_agree : (image other : List ℕ) (entry place : ℕ) (asks : List Ask) → AgreeOnPartition image entry other place → replies_of image entry asks ≡ replies_of other place asks
replies_agree image other entry place asks a =
    replies_same (partition_in image entry) (partition_in other place) a.blocks (partition_bytes (partition_in image entry) image) 0 asks ∙ ap (λ bytes. replies_from (partition_in other place) bytes 0 asks) a.bytes
