use Rattle.std.proofs.Common.{◌≡◌, ◌∙◌, Bool, true, false, cond, not, ◌||◌, ◌++◌, List, [], ◌∷◌, map, String, Global, string_bytes, refl, ap}
use Rattle.std.specs.List.{list_any}
use Rattle.std.specs.Map.{keys_of}
use Rattle.std.specs.Str.{bytes_eq}
use Rattle.toml.specs.declared.value.Value.{Value}
use Rattle.toml.specs.View.{members_view}
use Rattle.sdf_model.specs.declared.key.Key.{Key}
use Rattle.sdf_model.specs.Keys.{Row, row_of, is_known, has_unknown_key}

-- what is tested on each key of an array is tested on each row of the element
pub any-rows : (test : Row → Bool) (keys : List Key) → list_any (λ key. test (row_of key)) keys ≡ list_any test (map row_of keys)
any-rows test [] = refl
any-rows test (key ∷ keys) = ap (λ b. test (row_of key) || b) (any-rows test keys)

or-assoc : (a b c : Bool) → ((a || b) || c) ≡ (a || (b || c))
or-assoc true b c = refl
or-assoc false b c = refl

-- the same of two arrays, of which the rows stand behind one another
pub also-rows : (test : Row → Bool) (keys more : List Key)
    → (list_any (λ key. test (row_of key)) keys || list_any (λ key. test (row_of key)) more) ≡ list_any test (map row_of keys ++ map row_of more)
also-rows test [] more = any-rows test more
also-rows test (key ∷ keys) more = or-assoc (test (row_of key)) _ _ ∙ ap (λ b. test (row_of key) || b) (also-rows test keys more)

-- a choice between rows and the same rows
pub no-more : (b : Bool) (rows : List Row) → cond b rows rows ≡ rows
no-more true rows = refl
no-more false rows = refl

-- a name of a map that none of the keys has is a key of the table beside the rows
pub unknown-rows : (keys more : List Key) (es : List (String Global × Value))
    → list_any (λ name. not (list_any (λ key. bytes_eq key.name.now (string_bytes name)) keys || list_any (λ key. bytes_eq key.name.now (string_bytes name)) more)) (keys_of es)
    ≡ has_unknown_key (map row_of keys ++ map row_of more) (members_view es)
unknown-rows keys more [] = refl
unknown-rows keys more (e ∷ es) =
    ap (λ b. not b || list_any (λ name. not (list_any (λ key. bytes_eq key.name.now (string_bytes name)) keys || list_any (λ key. bytes_eq key.name.now (string_bytes name)) more)) (keys_of es))
    (also-rows (λ row. bytes_eq row.name (string_bytes e.0)) keys more)
    ∙ ap (λ b. not (is_known (map row_of keys ++ map row_of more) (string_bytes e.0)) || b) (unknown-rows keys more es)
