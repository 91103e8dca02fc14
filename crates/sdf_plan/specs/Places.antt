-- The walk over the elements of a description, and what a refusal at one of them says of the rules.
use Rattle.std.specs.Prelude.{◌≡◌, ℕ, zero, suc, ◌+◌, ◌<◌, ◌≤◌, Option, Some, None, List, [], ◌∷◌}
use Rattle.std.specs.Prelude.{◌++◌, slice_get}
use Rattle.sdf_plan.specs.declared.place.Place.{Place}
use Rattle.sdf_plan.specs.declared.place.Place.TheVariants as At
use Rattle.sdf_plan.specs.declared.place.Refusal.{Refusal}

-- how many elements of each sort a description has: its regions, the maps and interrupts of each
-- domain, the ends of each channel, and the clients of each class that it has
pub record Outline : Type 0 where
  pub regions : ℕ
  pub domains : List (ℕ × ℕ)
  pub channels : List ℕ
  pub net : Option ℕ
  pub serial : Option ℕ
  pub blk : Option ℕ

-- the places of so many elements of one sort, counted from the first number on
abbrev pub places_from : (ℕ → Place) → ℕ → ℕ → List Place
places_from place first zero = []
places_from place first (suc count) = place first ∷ places_from place (first + 1) count

-- each domain with its maps and then its interrupts
abbrev pub domain_places : ℕ → List (ℕ × ℕ) → List Place
domain_places d [] = []
domain_places d (parts ∷ rest) =
    (At.Domain d ∷ places_from (λ m. At.Map d m) 0 parts.0
    ++ places_from (λ i. At.Irq d i) 0 parts.1)
    ++ domain_places (d + 1) rest

-- each channel with its ends
abbrev pub channel_places : ℕ → List ℕ → List Place
channel_places c [] = []
channel_places c (ends ∷ rest) =
    (At.Channel c ∷ places_from (λ e. At.End c e) 0 ends) ++ channel_places (c + 1) rest

-- a class with its clients, where it is there
abbrev pub class_places : Place → (ℕ → Place) → Option ℕ → List Place
class_places class client None = []
class_places class client (Some clients) = class ∷ places_from client 0 clients

-- all elements, in the order in which a rule is read
abbrev pub walk : Outline → List Place
walk o =
    At.System ∷ places_from (λ r. At.Region r) 0 o.regions ++ domain_places 0 o.domains
    ++ channel_places 0 o.channels
    ++ class_places At.Net (λ c. At.NetClient c) o.net
    ++ class_places At.Serial (λ c. At.SerialClient c) o.serial
    ++ class_places At.Blk (λ c. At.BlkClient c) o.blk

-- no element breaks the rule
abbrev pub IsKept : (Place → Type 0) → List Place → Type 0
IsKept broken elements = (k : ℕ) (p : Place) → slice_get elements k ≡ Some p → broken p → ⊥

-- this is the first element that breaks the rule
pub record IsFirstBroken (broken : Place → Type 0) (elements : List Place) (place : Place)
    : Type 0 where
  pub at : ℕ
  pub there : slice_get elements at ≡ Some place
  pub here : broken place
  pub before : (k : ℕ) (p : Place) → k < at → slice_get elements k ≡ Some p → broken p → ⊥

-- all rules from the first number to the last are kept
abbrev pub KeepsRules : (ℕ → Place → Type 0) → List Place → ℕ → ℕ → Type 0
KeepsRules broken elements first last =
    (n : ℕ) → first ≤ n → n ≤ last → IsKept (broken n) elements

-- of these rules, this is the least that is broken, at the first element that breaks it
pub record IsRefusal (broken : ℕ → Place → Type 0) (elements : List Place) (first last : ℕ)
    (refusal : Refusal) : Type 0 where
  pub from : first ≤ refusal.rule
  pub to : refusal.rule ≤ last
  pub broken_at : IsFirstBroken (broken refusal.rule) elements refusal.place
  pub kept : (n : ℕ) → first ≤ n → n < refusal.rule → IsKept (broken n) elements
