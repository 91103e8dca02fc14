-- The full example is a valid plan.
use Rattle.std.proofs.Common.{refl, ℕ, ◌+◌, ◌≤◌, inl, inr, subst, arith}
use Rattle.std.proofs.lemmas.Bool.{cases_lt}
use Rattle.frame_core.specs.Macs.{is_mac_text, mac_bytes, mac_of}
use Rattle.sdf_plan.specs.Places.{walk, IsKept}
use Rattle.sdf_plan.specs.Elements.{outline_of}
use Rattle.sdf_model.specs.Spelled.{plan_of}
use Rattle.sdf_plan.specs.ClassTable.Table.{table_of}
use Rattle.sdf_check.specs.Valid.{broken, Valid}
use Rattle.workload.proofs.WorkloadLaw.Example.{root, whole_example}
use Rattle.workload.proofs.WorkloadLaw.Refuting.{taken}
use Rattle.workload.proofs.WorkloadLaw.Ruled.{no_rule, all_keep}

-- the rule is kept
abbrev Kept : ℕ → Type 0
Kept rule = IsKept (broken (plan_of root) rule) (walk (outline_of (plan_of root)))

kept_5 : Kept 5
unfolding whole_example table_of is_mac_text mac_bytes mac_of
kept_5 = taken (all_keep (broken (plan_of root) 5) (no_rule (plan_of root) 5) (walk (outline_of (plan_of root)))) refl

kept_6 : Kept 6
unfolding whole_example table_of is_mac_text mac_bytes mac_of
kept_6 = taken (all_keep (broken (plan_of root) 6) (no_rule (plan_of root) 6) (walk (outline_of (plan_of root)))) refl

kept_7 : Kept 7
unfolding whole_example table_of is_mac_text mac_bytes mac_of
kept_7 = taken (all_keep (broken (plan_of root) 7) (no_rule (plan_of root) 7) (walk (outline_of (plan_of root)))) refl

kept_8 : Kept 8
unfolding whole_example table_of is_mac_text mac_bytes mac_of
kept_8 = taken (all_keep (broken (plan_of root) 8) (no_rule (plan_of root) 8) (walk (outline_of (plan_of root)))) refl

kept_9 : Kept 9
unfolding whole_example table_of is_mac_text mac_bytes mac_of
kept_9 = taken (all_keep (broken (plan_of root) 9) (no_rule (plan_of root) 9) (walk (outline_of (plan_of root)))) refl

kept_10 : Kept 10
unfolding whole_example table_of is_mac_text mac_bytes mac_of
kept_10 = taken (all_keep (broken (plan_of root) 10) (no_rule (plan_of root) 10) (walk (outline_of (plan_of root)))) refl

kept_11 : Kept 11
unfolding whole_example table_of is_mac_text mac_bytes mac_of
kept_11 = taken (all_keep (broken (plan_of root) 11) (no_rule (plan_of root) 11) (walk (outline_of (plan_of root)))) refl

kept_12 : Kept 12
unfolding whole_example table_of is_mac_text mac_bytes mac_of
kept_12 = taken (all_keep (broken (plan_of root) 12) (no_rule (plan_of root) 12) (walk (outline_of (plan_of root)))) refl

kept_13 : Kept 13
unfolding whole_example table_of is_mac_text mac_bytes mac_of
kept_13 = taken (all_keep (broken (plan_of root) 13) (no_rule (plan_of root) 13) (walk (outline_of (plan_of root)))) refl

kept_14 : Kept 14
unfolding whole_example table_of is_mac_text mac_bytes mac_of
kept_14 = taken (all_keep (broken (plan_of root) 14) (no_rule (plan_of root) 14) (walk (outline_of (plan_of root)))) refl

kept_15 : Kept 15
unfolding whole_example table_of is_mac_text mac_bytes mac_of
kept_15 = taken (all_keep (broken (plan_of root) 15) (no_rule (plan_of root) 15) (walk (outline_of (plan_of root)))) refl

kept_16 : Kept 16
unfolding whole_example table_of is_mac_text mac_bytes mac_of
kept_16 = taken (all_keep (broken (plan_of root) 16) (no_rule (plan_of root) 16) (walk (outline_of (plan_of root)))) refl

kept_17 : Kept 17
unfolding whole_example table_of is_mac_text mac_bytes mac_of
kept_17 = taken (all_keep (broken (plan_of root) 17) (no_rule (plan_of root) 17) (walk (outline_of (plan_of root)))) refl

kept_18 : Kept 18
unfolding whole_example table_of is_mac_text mac_bytes mac_of
kept_18 = taken (all_keep (broken (plan_of root) 18) (no_rule (plan_of root) 18) (walk (outline_of (plan_of root)))) refl

kept_19 : Kept 19
unfolding whole_example table_of is_mac_text mac_bytes mac_of
kept_19 = taken (all_keep (broken (plan_of root) 19) (no_rule (plan_of root) 19) (walk (outline_of (plan_of root)))) refl

kept_20 : Kept 20
unfolding whole_example table_of is_mac_text mac_bytes mac_of
kept_20 = taken (all_keep (broken (plan_of root) 20) (no_rule (plan_of root) 20) (walk (outline_of (plan_of root)))) refl

kept_21 : Kept 21
unfolding whole_example table_of is_mac_text mac_bytes mac_of
kept_21 = taken (all_keep (broken (plan_of root) 21) (no_rule (plan_of root) 21) (walk (outline_of (plan_of root)))) refl

kept_22 : Kept 22
unfolding whole_example table_of is_mac_text mac_bytes mac_of
kept_22 = taken (all_keep (broken (plan_of root) 22) (no_rule (plan_of root) 22) (walk (outline_of (plan_of root)))) refl

kept_23 : Kept 23
unfolding whole_example table_of is_mac_text mac_bytes mac_of
kept_23 = taken (all_keep (broken (plan_of root) 23) (no_rule (plan_of root) 23) (walk (outline_of (plan_of root)))) refl

kept_24 : Kept 24
unfolding whole_example table_of is_mac_text mac_bytes mac_of
kept_24 = taken (all_keep (broken (plan_of root) 24) (no_rule (plan_of root) 24) (walk (outline_of (plan_of root)))) refl

kept_25 : Kept 25
unfolding whole_example table_of is_mac_text mac_bytes mac_of
kept_25 = taken (all_keep (broken (plan_of root) 25) (no_rule (plan_of root) 25) (walk (outline_of (plan_of root)))) refl

kept_26 : Kept 26
unfolding whole_example table_of is_mac_text mac_bytes mac_of
kept_26 = taken (all_keep (broken (plan_of root) 26) (no_rule (plan_of root) 26) (walk (outline_of (plan_of root)))) refl

kept_27 : Kept 27
unfolding whole_example table_of is_mac_text mac_bytes mac_of
kept_27 = taken (all_keep (broken (plan_of root) 27) (no_rule (plan_of root) 27) (walk (outline_of (plan_of root)))) refl

kept_28 : Kept 28
unfolding whole_example table_of is_mac_text mac_bytes mac_of
kept_28 = taken (all_keep (broken (plan_of root) 28) (no_rule (plan_of root) 28) (walk (outline_of (plan_of root)))) refl

kept_29 : Kept 29
unfolding whole_example table_of is_mac_text mac_bytes mac_of
kept_29 = taken (all_keep (broken (plan_of root) 29) (no_rule (plan_of root) 29) (walk (outline_of (plan_of root)))) refl

kept_30 : Kept 30
unfolding whole_example table_of is_mac_text mac_bytes mac_of
kept_30 = taken (all_keep (broken (plan_of root) 30) (no_rule (plan_of root) 30) (walk (outline_of (plan_of root)))) refl

kept_31 : Kept 31
unfolding whole_example table_of is_mac_text mac_bytes mac_of
kept_31 = taken (all_keep (broken (plan_of root) 31) (no_rule (plan_of root) 31) (walk (outline_of (plan_of root)))) refl

kept_32 : Kept 32
unfolding whole_example table_of is_mac_text mac_bytes mac_of
kept_32 = taken (all_keep (broken (plan_of root) 32) (no_rule (plan_of root) 32) (walk (outline_of (plan_of root)))) refl

-- this number or a later one
from : (P : ℕ → Type 0) (m n : ℕ) → m ≤ n → P m → (m + 1 ≤ n → P n) → P n
from P m n least here later = elim (cases_lt m n) [
  | inl less ↦ later (omega (arith, less))
  | inr same ↦ subst P (omega (arith, same, least)) here
]

pub full_valid : Valid (plan_of root)
full_valid n h5 most =
    from Kept 5 n h5 kept_5 (λ h6.
    from Kept 6 n h6 kept_6 (λ h7.
    from Kept 7 n h7 kept_7 (λ h8.
    from Kept 8 n h8 kept_8 (λ h9.
    from Kept 9 n h9 kept_9 (λ h10.
    from Kept 10 n h10 kept_10 (λ h11.
    from Kept 11 n h11 kept_11 (λ h12.
    from Kept 12 n h12 kept_12 (λ h13.
    from Kept 13 n h13 kept_13 (λ h14.
    from Kept 14 n h14 kept_14 (λ h15.
    from Kept 15 n h15 kept_15 (λ h16.
    from Kept 16 n h16 kept_16 (λ h17.
    from Kept 17 n h17 kept_17 (λ h18.
    from Kept 18 n h18 kept_18 (λ h19.
    from Kept 19 n h19 kept_19 (λ h20.
    from Kept 20 n h20 kept_20 (λ h21.
    from Kept 21 n h21 kept_21 (λ h22.
    from Kept 22 n h22 kept_22 (λ h23.
    from Kept 23 n h23 kept_23 (λ h24.
    from Kept 24 n h24 kept_24 (λ h25.
    from Kept 25 n h25 kept_25 (λ h26.
    from Kept 26 n h26 kept_26 (λ h27.
    from Kept 27 n h27 kept_27 (λ h28.
    from Kept 28 n h28 kept_28 (λ h29.
    from Kept 29 n h29 kept_29 (λ h30.
    from Kept 30 n h30 kept_30 (λ h31.
    from Kept 31 n h31 kept_31 (λ h32.
    from Kept 32 n h32 kept_32 (λ h33.
    absurd (omega (arith, h33, most))))))))))))))))))))))))))))))
