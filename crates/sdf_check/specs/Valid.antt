-- What a valid plan is, and the refusal of one that isn't: the rules by their numbers.
use Rattle.std.specs.Prelude.{ℕ, ◌==◌, ◌⊎◌, nat_lt, MatchBool, ⊤, Result, Ok, Err}
use Rattle.sdf_plan.specs.Places.{walk, KeepsRules, IsRefusal}
use Rattle.sdf_plan.specs.declared.place.Place.{Place}
use Rattle.sdf_plan.specs.declared.place.Refusal.{Refusal}
use Rattle.sdf_plan.specs.declared.place.SdfFault.{SdfFault}
use Rattle.sdf_plan.specs.declared.place.SdfFault.TheVariants as Fault
use Rattle.sdf_plan.specs.declared.plan.Plan.{Plan}
use Rattle.sdf_plan.specs.Elements.{outline_of}
use Rattle.sdf_plan.specs.ClassTable.Table.{Element, OfElement}
use Rattle.sdf_check.specs.ClassRules.{UsesNoRegion, UsesNoDomain, LacksRole, GivesWrongRole}
use Rattle.sdf_check.specs.ClassRules.{NamesDomainAgain, LacksChannel, LacksRight}
use Rattle.sdf_check.specs.ClassRules.{IsSharedWithStranger, NamesRegionAgain, HasBadCapacity}
use Rattle.sdf_check.specs.ClassRules.{HasLowCapacity, LacksRoom, HasBadMac, HasBadPartition}
use Rattle.sdf_check.specs.ClassRules.{IsPastLimit, HasBadMaxFrame, HasBadBufferSize}
use Rattle.sdf_check.specs.Rules.{TakesName, IsPastLastDomain, HasPriorityTooHigh}
use Rattle.sdf_check.specs.Rules.{HasPeriodTooShort, HasBadSize, HasBadPageSize, HasBadPhysAddr}
use Rattle.sdf_check.specs.Rules.{MeetsGivenRange, NamesNoRegion, HasBadVaddr, MeetsMap}
use Rattle.sdf_check.specs.Rules.{HasBadPerms, NamesNoDomain, HasIdTooHigh, TakesId, JoinsOneDomain}

-- the number of the first rule that a plan is judged by
abbrev pub first_rule : ℕ
first_rule = 5

-- the number of the last rule
abbrev pub last_rule : ℕ
last_rule = 32

-- the element at the place breaks the rule of this number: one of those on any system, or one of
-- those on its domains, ids and counts
abbrev pub BreaksPlanRule : Plan → ℕ → Place → Type 0
BreaksPlanRule plan rule place =
    MatchBool (rule == 5) (TakesName plan place) (
    MatchBool (rule == 6) (IsPastLastDomain plan place) (
    MatchBool (rule == 7) (HasPriorityTooHigh plan place) (
    MatchBool (rule == 8) (HasPeriodTooShort plan place) (
    MatchBool (rule == 9) (HasBadSize plan place) (
    MatchBool (rule == 10) (HasBadPageSize plan place) (
    MatchBool (rule == 11) (HasBadPhysAddr plan place) (
    MatchBool (rule == 12) (MeetsGivenRange plan place) (
    MatchBool (rule == 13) (NamesNoRegion plan place) (
    MatchBool (rule == 14) (HasBadVaddr plan place) (
    MatchBool (rule == 15) (MeetsMap plan place) (
    MatchBool (rule == 16) (HasBadPerms plan place) (
    MatchBool (rule == 17) (NamesNoDomain plan place) (
    MatchBool (rule == 18) (HasIdTooHigh plan place) (
    MatchBool (rule == 19) (TakesId plan place) (
    MatchBool (rule == 20) (JoinsOneDomain plan place) ⊥)))))))))))))))

-- the element at a place breaks the rule of this number, of those on roles, addresses, partitions,
-- limits, frames and buffers of a class
abbrev pub BreaksClassRule : Plan → ℕ → Place → Type 0
BreaksClassRule plan rule place =
    MatchBool (rule == 21) (LacksRole plan place) (
    MatchBool (rule == 28) (HasBadMac plan place) (
    MatchBool (rule == 29) (HasBadPartition plan place) (
    MatchBool (rule == 30) (IsPastLimit plan place) (
    MatchBool (rule == 31) (HasBadMaxFrame plan place) (
    MatchBool (rule == 32) (HasBadBufferSize plan place) ⊥)))))

-- this rule is told of the place alone, and the element breaks it
abbrev pub BreaksAtPlace : Plan → ℕ → Place → Type 0
BreaksAtPlace plan rule place = MatchBool (nat_lt rule 21) (BreaksPlanRule plan rule place)
    (BreaksClassRule plan rule place)

-- this rule is told of the rows of an element of a class, and these break it
abbrev pub BreaksByRows : Plan → ℕ → Element → Type 0
BreaksByRows plan rule e =
    MatchBool (rule == 13) (UsesNoRegion plan e) (
    MatchBool (rule == 17) (UsesNoDomain plan e) (
    MatchBool (rule == 21) (GivesWrongRole plan e ⊎ NamesDomainAgain plan e) (
    MatchBool (rule == 22) (LacksChannel plan e) (
    MatchBool (rule == 23) (LacksRight plan e) (
    MatchBool (rule == 24) (IsSharedWithStranger plan e ⊎ NamesRegionAgain plan e) (
    MatchBool (rule == 25) (HasBadCapacity e) (
    MatchBool (rule == 26) (HasLowCapacity e) (
    MatchBool (rule == 27) (LacksRoom plan e) ⊥))))))))

-- the element at a place breaks the rule of this number
abbrev pub broken : Plan → ℕ → Place → Type 0
broken plan rule place = BreaksAtPlace plan rule place
    ⊎ OfElement plan place (BreaksByRows plan rule)

-- a plan is valid where no element breaks a rule
abbrev pub Valid : Plan → Type 0
Valid plan = KeepsRules (broken plan) (walk (outline_of plan)) first_rule last_rule

-- the least rule that a plan breaks, at the first element that breaks it
abbrev pub IsRefused : Plan → Refusal → Type 0
IsRefused plan refusal = IsRefusal (broken plan)
    (walk (outline_of plan)) first_rule last_rule refusal

-- this holds of the refusal, where the answer is one
abbrev pub IfRefused : {T : Type 0} → Result T SdfFault → (Refusal → Type 0) → Type 0
IfRefused (Ok answer) P = ⊤
IfRefused (Err (Fault.Memory memory)) P = ⊤
IfRefused (Err (Fault.Refused refusal)) P = P refusal
