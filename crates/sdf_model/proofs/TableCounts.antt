use Rattle.std.proofs.Common.{◌≡◌, ℕ, zero, suc, ◌+◌, ◌≤◌, ◌<◌, nat_cmp, List, [], ◌∷◌, length, get_or, Bor, BTreeMap, String, Global, Option, Some, None, IfSome, option_map, option_and_then, sym, ap, inl, inr, arith}
use Rattle.std.proofs.lemmas.Bool.{cases_Bool}
use Rattle.std.proofs.lemmas.List.{length-map}
use Rattle.std.specs.Cmp.Lexicographic.{slice_cmp}
use Rattle.toml.specs.Data.{Data, string, integer, float, boolean, datetime, array, table, Items, no_items, item, Members, no_members, member, get_member, as_array, as_table}
use Rattle.toml.specs.Parse.{parse_document}
use Rattle.toml.specs.Text.{are_tables}
use Rattle.toml.specs.declared.value.Value.{Value}
use Rattle.toml.specs.View.{table_view}
use Rattle.sdf_model.specs.Keys.{tables_of}
use Rattle.sdf_model.specs.Tree.{tables_at, tables_in, table_at}
use Rattle.sdf_model.specs.Counts.{elements_in, elements_of_items, elements_of_members, elements_of_tables}
use Rattle.sdf_model.proofs.EditedCounts.{cases_ordering}
use Rattle.sdf_model.proofs.TextCounts.{document-elements}
use Rattle.sdf_model.proofs.Walks.{Tables, views}

-- a list of tables is no longer than it has elements
pub length-tables : (ts : List Members) → length ts ≤ elements_of_tables ts
length-tables [] = omega arith
length-tables (t ∷ ts) = let more = length-tables ts in omega (arith, more)

-- the tables of an array
items-tables : (ds : Items) → elements_of_tables (tables_of ds) ≤ elements_of_items ds
items-tables no_items = omega arith
items-tables (item (table ms) ds) = let more = items-tables ds in omega (arith, more)
items-tables (item (string s) ds) = let more = items-tables ds in omega (arith, more)
items-tables (item (integer z) ds) = let more = items-tables ds in omega (arith, more)
items-tables (item (float x) ds) = let more = items-tables ds in omega (arith, more)
items-tables (item (boolean b) ds) = let more = items-tables ds in omega (arith, more)
items-tables (item (datetime d) ds) = let more = items-tables ds in omega (arith, more)
items-tables (item (array es) ds) = let more = items-tables ds in omega (arith, more)

more : (o : Option Data) (m n : ℕ) → IfSome o (λ d. elements_in d ≤ m) → IfSome o (λ d. elements_in d ≤ n + m)
more None m n h = tt
more (Some d) m n h = omega (arith, h)

-- what a key holds
member-elements : (key : List ℕ) (ms : Members) → IfSome (get_member key ms) (λ d. elements_in d ≤ elements_of_members ms)
member-elements key no_members = tt
member-elements key (member l d ms) =
    elim (cases_ordering (slice_cmp nat_cmp key l)) [
      | inl less ↦ rw less (more (get_member key ms) (elements_of_members ms) (elements_in d) (member-elements key ms))
      | inr other ↦ elim other [
        | inl tie ↦ rw tie (omega arith)
        | inr greater ↦ rw greater (more (get_member key ms) (elements_of_members ms) (elements_in d) (member-elements key ms))
      ]
    ]

-- the tables at a key
found-tables : (o : Option Data) (n : ℕ) → IfSome o (λ d. elements_in d ≤ n) → elements_of_tables (tables_in (option_and_then as_array o)) ≤ n
found-tables None n h = omega arith
found-tables (Some (array ds)) n h = elim (cases_Bool (are_tables ds)) [ inl t ↦ rw t (omega (arith, h, items-tables ds)) | inr f ↦ rw f (omega arith) ]
found-tables (Some (table ms)) n h = omega arith
found-tables (Some (string s)) n h = omega arith
found-tables (Some (integer z)) n h = omega arith
found-tables (Some (float x)) n h = omega arith
found-tables (Some (boolean b)) n h = omega arith
found-tables (Some (datetime d)) n h = omega arith

pub tables-elements : (key : List ℕ) (ms : Members) → elements_of_tables (tables_at key ms) ≤ elements_of_members ms
tables-elements key ms = found-tables (get_member key ms) (elements_of_members ms) (member-elements key ms)

-- the table at a key
found-table : (o : Option Data) (n : ℕ) → IfSome o (λ d. elements_in d ≤ n) → IfSome (option_and_then as_table o) (λ t. elements_of_members t ≤ n)
found-table None n h = tt
found-table (Some (table ms)) n h = h
found-table (Some (array ds)) n h = tt
found-table (Some (string s)) n h = tt
found-table (Some (integer z)) n h = tt
found-table (Some (float x)) n h = tt
found-table (Some (boolean b)) n h = tt
found-table (Some (datetime d)) n h = tt

pub table-elements : (key : List ℕ) (ms : Members) → IfSome (table_at key ms) (λ t. elements_of_members t ≤ elements_of_members ms)
table-elements key ms = found-table (get_member key ms) (elements_of_members ms) (member-elements key ms)

-- one of some tables
pub one-table : (ts : Tables) (at : ℕ) (t : Bor (BTreeMap (String Global) Value)) → at < length ts → t ≡ get_or ts at t → elements_of_members (table_view t.now) < elements_of_tables (views ts)
one-table [] at t h is = absurd (omega (arith, h))
one-table (x ∷ ts) zero t h is = rw is (omega arith)
one-table (x ∷ ts) (suc at) t h is = let more = one-table ts at t (omega (arith, h)) is in omega (arith, more)

-- each of the tables at a key has a number below n
pub list-fits : (ts : Tables) (key : List ℕ) (t : Members) (n : ℕ) → views ts ≡ tables_at key t → elements_of_members t < n → length ts ≤ n
list-fits ts key t n e h =
    omega (arith, h, tables-elements key t, length-tables (tables_at key t), ap (λ (xs : List Members). length xs) e, length-map ts (λ x. table_view x.now))

-- the same of the tables in these tables
pub lists-fit : (ts : Tables) (key : List ℕ) (t : Members) (n : ℕ) → views ts ≡ tables_at key t → elements_of_members t < n → elements_of_tables (views ts) < n
lists-fit ts key t n e h = rw e (omega (arith, h, tables-elements key t))

-- one of some tables, and its number
pub one-fits : (ts : Tables) (at n : ℕ) (t : Bor (BTreeMap (String Global) Value)) → at < length ts → t ≡ get_or ts at t → elements_of_tables (views ts) < n → elements_of_members (table_view t.now) < n
one-fits ts at n t h is few = omega (arith, few, one-table ts at t h is)

pub number-fits : (ts : Tables) (at n : ℕ) → at < length ts → elements_of_tables (views ts) < n → at < n
number-fits ts at n h few = omega (arith, h, few, length-tables (views ts), length-map ts (λ x. table_view x.now))

-- a description has no more elements than its text has bytes
pub text-fits : (text : List ℕ) (root : Members) (n : ℕ) → parse_document text ≡ Some root → length text < n → elements_of_members root < n
text-fits text root n e h = let few : elements_of_members root ≤ length text = rw e at (document-elements text) in omega (arith, h, few)

-- the table of a class
pub class-fits : (o : Option (Bor (BTreeMap (String Global) Value))) (key : List ℕ) (t : Members) (n : ℕ) → option_map (λ x. table_view x.now) o ≡ table_at key t → elements_of_members t < n
    → IfSome o (λ x. elements_of_members (table_view x.now) < n)
class-fits None key t n e h = tt
class-fits (Some x) key t n e h = let few : elements_of_members (table_view x.now) ≤ elements_of_members t = rw (sym e) at (table-elements key t) in omega (arith, h, few)
