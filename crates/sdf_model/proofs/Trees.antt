use Rattle.std.proofs.Common.{◌≡◌, ℕ, suc, ◌+◌, ◌<◌, Bool, true, false, ◌&&◌, ◌==◌, is_some, List, [], ◌∷◌, ◌++◌, length, get_or, drop, Some, None, refl, sym, ap, ◌∙◌, append_assoc}
use Rattle.std.proofs.lemmas.Option.{same_Some}
use Rattle.toml.specs.declared.value.Value.{Value}
use Rattle.toml.specs.Data.{Data, string, integer, float, boolean, datetime, array, table, Items, item, Members, as_table}
use Rattle.toml.specs.Text.{are_tables}
use Rattle.toml.specs.View.{view, items_view}
use Rattle.toml.proofs.Views.{items_view-drop}
use Rattle.sdf_model.specs.Keys.{tables_of, is_pair}

pub as_table-Some : (d : Data) (ms : Members) → as_table d ≡ Some ms → d ≡ table ms
as_table-Some (string s) ms h = cc
as_table-Some (integer z) ms h = cc
as_table-Some (float x) ms h = cc
as_table-Some (boolean b) ms h = cc
as_table-Some (datetime t) ms h = cc
as_table-Some (array ds) ms h = cc
as_table-Some (table t) ms h = ap table (same_Some _ _ h)

pub as_table-None : (d : Data) (ds : Items) → as_table d ≡ None → are_tables (item d ds) ≡ false
as_table-None (string s) ds h = refl
as_table-None (integer z) ds h = refl
as_table-None (float x) ds h = refl
as_table-None (boolean b) ds h = refl
as_table-None (datetime t) ds h = refl
as_table-None (array es) ds h = refl
as_table-None (table t) ds h = cc

are_tables-first : (d : Data) (ds : Items) → are_tables (item d ds) ≡ (is_some (as_table d) && are_tables ds)
are_tables-first (string s) ds = refl
are_tables-first (integer z) ds = refl
are_tables-first (float x) ds = refl
are_tables-first (boolean b) ds = refl
are_tables-first (datetime t) ds = refl
are_tables-first (array es) ds = refl
are_tables-first (table t) ds = refl

more : (d : Data) (vs : List Value) → are_tables (item d (items_view vs)) ≡ true
    → (are_tables (items_view vs) ≡ true → length (tables_of (items_view vs)) ≡ length vs) → length (tables_of (item d (items_view vs))) ≡ suc (length vs)
more (string s) vs h t = cc
more (integer z) vs h t = cc
more (float x) vs h t = cc
more (boolean b) vs h t = cc
more (datetime d) vs h t = cc
more (array es) vs h t = cc
more (table m) vs h t = ap suc (t h)

-- what the first values of a list leave of it
abbrev pub Gathers : List Value → ℕ → List Members → Type 0
Gathers vs i done =
    (done ++ tables_of (items_view (drop i vs)) ≡ tables_of (items_view vs))
    × (are_tables (items_view (drop i vs)) ≡ are_tables (items_view vs))

-- the first value left is the one at the index
front : (vs : List Value) (i : ℕ) (v : Value) → i < length vs → v ≡ get_or vs i v → items_view (drop i vs) ≡ item (view v) (items_view (drop (i + 1) vs))
front vs i v h is = items_view-drop vs i v h ∙ ap (λ x. item (view x) (items_view (drop (i + 1) vs))) (sym is)

pub gathers-table : (vs : List Value) (i : ℕ) (v : Value) (ms : Members) (done : List Members) → i < length vs → v ≡ get_or vs i v → as_table (view v) ≡ Some ms
    → Gathers vs i done → Gathers vs (i + 1) (done ++ ms ∷ [])
gathers-table vs i v ms done h is t g =
    let e : items_view (drop i vs) ≡ item (table ms) (items_view (drop (i + 1) vs)) =
    front vs i v h is ∙ ap (λ d. item d (items_view (drop (i + 1) vs))) (as_table-Some (view v) ms t) in
    (append_assoc done (ms ∷ []) _ ∙ (rw e at g.0), rw e at g.1)

pub gathers-other : (vs : List Value) (i : ℕ) (v : Value) (done : List Members) → i < length vs → v ≡ get_or vs i v → as_table (view v) ≡ None
    → Gathers vs i done → are_tables (items_view vs) ≡ false
gathers-other vs i v done h is t g =
    sym g.1 ∙ ap are_tables (front vs i v h is) ∙ as_table-None (view v) _ t

pub are_tables-front : (vs : List Value) (i : ℕ) (v : Value) (b : Bool) → i < length vs → v ≡ get_or vs i v → is_some (as_table (view v)) ≡ b
    → are_tables (items_view (drop i vs)) ≡ (b && are_tables (items_view (drop (i + 1) vs)))
are_tables-front vs i v b h is t =
    ap are_tables (front vs i v h is) ∙ are_tables-first (view v) (items_view (drop (i + 1) vs)) ∙ ap (λ x. x && are_tables (items_view (drop (i + 1) vs))) t

-- tables alone are as many as the values
pub tables_of-length : (vs : List Value) → are_tables (items_view vs) ≡ true → length (tables_of (items_view vs)) ≡ length vs
tables_of-length [] h = refl
tables_of-length (v ∷ vs) h = more (view v) vs h (tables_of-length vs)

pub pair-tables : (vs : List Value) → are_tables (items_view vs) ≡ true → (length vs == 2) ≡ is_pair (items_view vs)
pair-tables vs h = rw (h, tables_of-length vs h)
