-- A text that isn't of version 2 is read as it was before there was a second version.
use Rattle.std.proofs.Common.{◌≡◌, ℕ, suc, ◌+◌, ◌≤◌, ℤ, pos, negsuc, inl, inr, Bool, true, false, cond, not, ◌||◌, eqb, Equal, is_eq, nat_cmp, List, [], ◌∷◌, ◌++◌, map, codes, Option, Some, None, option_map, option_and_then, unwrap_or, refl, sym, ap, ◌∙◌, arith}
use Rattle.std.specs.Prelude.{drop}
use Rattle.std.specs.List.{list_any}
use Rattle.std.specs.Cmp.Lexicographic.{slice_cmp}
use Rattle.std.specs.Str.{bytes_eq}
use Rattle.std.proofs.lemmas.Bool.{cases_Bool}
use Rattle.std.proofs.lemmas.Map.Text.{is_eq-slice_cmp}
use Rattle.std.proofs.lemmas.Option.{same_Some}
use Rattle.std.proofs.lemmas.Slice.Eq.{bytes_eq-Decides}
use Rattle.toml.specs.Data.{Data, Members, no_members, member, get_member, as_integer}
use Rattle.sdf_plan.specs.declared.place.Place.{Place}
use Rattle.sdf_plan.specs.declared.place.Place.TheVariants as At
use Rattle.sdf_plan.specs.declared.place.Refusal.{Refusal}
use Rattle.sdf_plan.specs.declared.plan.NetClient.{NetClient}
use Rattle.sdf_plan.specs.Places.{KeepsRules, IsRefusal}
use Rattle.sdf_model.specs.Keys.{Row, holds, is_known, has_unknown_key, lacks_key, is_misfit, is_version, system_keys, net_keys, net_client_keys, breaks_with}
use Rattle.sdf_model.specs.Tree.{tables_at, table_at, element_at, places_of, is_two, version_of, breaks, BreaksText}
use Rattle.sdf_model.specs.Spelled.{number_or, net_of, net_client_of, plan_of}
use Rattle.sdf_model.specs.Elements.{Seen, elements_of, domain_parts, channel_parts, class_parts, parts, first_broken}
use Rattle.sdf_model.specs.First.{is_one, is_first_misfit, breaks_first, BreaksFirst, IsOfFirst, first_net_client_of, first_net_of, first_plan_of}
use Rattle.sdf_model.proofs.EditedCounts.{cases_ordering}
use Rattle.sdf_model.proofs.Found.{Every}
use Rattle.sdf_model.proofs.Judging.{none-found, unmapped}

-- ---- the rules

or-false : (b : Bool) → (b || false) ≡ b
or-false true = refl
or-false false = refl

-- the version that a test for 2 gives
abbrev told : Bool → ℕ
told b = cond b 2 1

number-kind : (n : ℕ) (b : Bool) → eqb n 2 ≡ b → told b ≡ 1 → not (eqb n 1 || eqb n 2) ≡ not (eqb n 1)
number-kind n true is one = absurd (omega (arith, one))
number-kind n false is one = rw is (ap not (or-false (eqb n 1)))

integer-kind : (z : Option ℤ) → told (holds is_two z) ≡ 1 → not (holds is_version z) ≡ not (holds is_one z)
integer-kind None one = refl
integer-kind (Some (pos n)) one = number-kind n (eqb n 2) refl one
integer-kind (Some (negsuc n)) one = refl

version-kind : (o : Option Data) → told (holds is_two (option_and_then as_integer o)) ≡ 1
    → holds (λ d. not (holds is_version (as_integer d))) o ≡ holds (λ d. not (holds is_one (as_integer d))) o
version-kind None one = refl
version-kind (Some d) one = integer-kind (as_integer d) one

system-same : (root : Members) (rule : ℕ) → version_of root ≡ 1 → breaks 1 rule At.System root ≡ breaks_first rule At.System root
unfolding version_of breaks_with breaks_first
system-same root rule one =
    ap (λ m. cond (eqb rule 2) (has_unknown_key system_keys root) (cond (eqb rule 3) (lacks_key system_keys root) (cond (eqb rule 4) (m || list_any (is_misfit root) (drop 1 system_keys)) false)))
    (version-kind (get_member (codes "version") root) one)

element-same : (root t : Members) (rule : ℕ) (place : Place) → version_of root ≡ 1 → element_at root place ≡ Some t → breaks 1 rule place t ≡ breaks_first rule place t
unfolding breaks_with breaks_first
element-same root t rule At.System one at = rw (← same_Some root t at) (system-same root rule one)
element-same root t rule (At.Region r) one at = refl
element-same root t rule (At.Domain d) one at = refl
element-same root t rule (At.Map d m) one at = refl
element-same root t rule (At.Irq d i) one at = refl
element-same root t rule (At.Channel c) one at = refl
element-same root t rule (At.End c e) one at = refl
element-same root t rule At.Net one at = refl
element-same root t rule (At.NetClient c) one at = refl
element-same root t rule At.Serial one at = refl
element-same root t rule (At.SerialClient c) one at = refl
element-same root t rule At.Blk one at = refl
element-same root t rule (At.BlkClient c) one at = refl

breaks-same : (root t : Members) (rule : ℕ) (place : Place) → version_of root ≡ 1 → element_at root place ≡ Some t → breaks (version_of root) rule place t ≡ breaks_first rule place t
breaks-same root t rule place one at = ap (λ v. breaks v rule place t) one ∙ element-same root t rule place one at

to-first : (text : List ℕ) → IsOfFirst text → (rule : ℕ) (place : Place) → BreaksText text rule place → BreaksFirst text rule place
to-first text first rule place (inl b) = inl b
to-first text first rule place (inr (root, t, parsed, at, broken)) = inr (root, t, parsed, at, sym (breaks-same root t rule place (first root parsed) at) ∙ broken)

from-first : (text : List ℕ) → IsOfFirst text → (rule : ℕ) (place : Place) → BreaksFirst text rule place → BreaksText text rule place
from-first text first rule place (inl b) = inl b
from-first text first rule place (inr (root, t, parsed, at, broken)) = inr (root, t, parsed, at, breaks-same root t rule place (first root parsed) at ∙ broken)

-- the rules that are kept, and the refusal, are those of version 1
pub keeps-first : (text : List ℕ) → IsOfFirst text → KeepsRules (BreaksText text) (places_of text) 1 4 → KeepsRules (BreaksFirst text) (places_of text) 1 4
keeps-first text first kept = λ n from to k p at broken. kept n from to k p at (from-first text first n p broken)

pub refused-first : (text : List ℕ) → IsOfFirst text → (r : Refusal) → IsRefusal (BreaksText text) (places_of text) 1 4 r → IsRefusal (BreaksFirst text) (places_of text) 1 4 r
refused-first text first r is = record {
  from = is.from;
  to = is.to;
  broken_at = record {
    at = is.broken_at.at;
    there = is.broken_at.there;
    here = to-first text first r.rule r.place is.broken_at.here;
    before = λ k p below at broken. is.broken_at.before k p below at (from-first text first r.rule p broken);
  };
  kept = λ n from below k p at broken. is.kept n from below k p at (from-first text first n p broken);
}

-- ---- the plan

-- a key of a table, where no key of the table is beside the rows, and no row has its name
absent : (keys : List Row) (key : List ℕ) (t : Members) → is_known keys key ≡ false → has_unknown_key keys t ≡ false → get_member key t ≡ None
absent keys key no_members never none = refl
absent keys key (member l d ms) never none = elim (cases_Bool (is_known keys l)) [
  | inl known ↦
      let rest : has_unknown_key keys ms ≡ false = rw known at none in
      elim (cases_ordering (slice_cmp nat_cmp key l)) [
        | inl less ↦ rw less (absent keys key ms never rest)
        | inr other ↦ elim other [
          | inl tie ↦
              let same : bytes_eq key l ≡ true = sym (is_eq-slice_cmp key l) ∙ ap is_eq tie in
              let is : key ≡ l = (bytes_eq-Decides key l).0 same in
              let no : true ≡ false = sym known ∙ ap (is_known keys) (sym is) ∙ never in
              cc no
          | inr greater ↦ rw greater (absent keys key ms never rest)
        ]
      ]
  | inr unknown ↦ let no : true ≡ false = rw unknown at none in cc no
]

number-absent : (keys : List Row) (n : ℕ) (key : List ℕ) (t : Members) → is_known keys key ≡ false → has_unknown_key keys t ≡ false → number_or n key t ≡ n
number-absent keys n key t never none = rw (absent keys key t never none) refl

client-same : (t : Members) → has_unknown_key net_client_keys t ≡ false → net_client_of t ≡ first_net_client_of t
client-same t none =
    rw (number-absent net_client_keys 2048 (codes "rx_buffer_size") t refl none, number-absent net_client_keys 2048 (codes "tx_buffer_size") t refl none) refl

-- the elements keep the rule on unknown keys
abbrev Known : List Seen → Type 0
Known es = Every (λ e. breaks 1 2 e.0 e.1 ≡ false) es

clients-same : (n : ℕ) (ts : List Members) → Known (parts (At.NetClient 0) n ts) → map net_client_of ts ≡ map first_net_client_of ts
unfolding breaks_with
clients-same n [] known = refl
clients-same n (t ∷ ts) known = rw (client-same t known.0, clients-same (n + 1) ts known.1) refl

net-same : (t : Members) → Known ((At.Net, t) ∷ parts (At.NetClient 0) 0 (tables_at (codes "client") t)) → net_of t ≡ first_net_of t
unfolding breaks_with
net-same t known =
    rw (
      number-absent net_keys 1514 (codes "max_frame") t refl known.0,
      number-absent net_keys 2048 (codes "rx_buffer_size") t refl known.0,
      clients-same 0 (tables_at (codes "client") t) known.1,
    ) refl

class-same : (o : Option Members) → Known (class_parts At.Net (At.NetClient 0) o) → option_map net_of o ≡ option_map first_net_of o
class-same None known = refl
class-same (Some t) known = ap Some (net-same t known)

every-left : (P : Seen → Type 0) (xs ys : List Seen) → Every P (xs ++ ys) → Every P xs
every-left P [] ys h = tt
every-left P (x ∷ xs) ys h = (h.0, every-left P xs ys h.1)

every-right : (P : Seen → Type 0) (xs ys : List Seen) → Every P (xs ++ ys) → Every P ys
every-right P [] ys h = h
every-right P (x ∷ xs) ys h = every-right P xs ys h.1

net-known : (a b c d e f : List Seen) → Known (a ++ b ++ c ++ d ++ e ++ f) → Known d
net-known a b c d e f h =
    let P : Seen → Type 0 = λ x. breaks 1 2 x.0 x.1 ≡ false in
    every-right P (a ++ b ++ c) d (every-left P (a ++ b ++ c ++ d) e (every-left P (a ++ b ++ c ++ d ++ e) f h))

all-known : (root : Members) → first_broken 1 2 (elements_of root) ≡ None → Known (elements_of root)
all-known root none = none-found (λ e. breaks 1 2 e.0 e.1) (elements_of root) (unmapped _ none)

pub plan-first : (root : Members) → version_of root ≡ 1 → ((n : ℕ) → 2 ≤ n → n ≤ 4 → first_broken (version_of root) n (elements_of root) ≡ None) → plan_of root ≡ first_plan_of root
unfolding elements_of
plan-first root one none =
    let known = all-known root (ap (λ v. first_broken v 2 (elements_of root)) (sym one) ∙ none 2 (omega arith) (omega arith)) in
    rw (class-same (table_at (codes "net") root)
    (net-known ((At.System, root) ∷ parts (At.Region 0) 0 (tables_at (codes "memory_region") root)) (domain_parts 0 (tables_at (codes "protection_domain") root))
    (channel_parts 0 (tables_at (codes "channel") root)) (class_parts At.Net (At.NetClient 0) (table_at (codes "net") root))
    (class_parts At.Serial (At.SerialClient 0) (table_at (codes "serial") root)) (class_parts At.Blk (At.BlkClient 0) (table_at (codes "blk") root)) known)) refl
