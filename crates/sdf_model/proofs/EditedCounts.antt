use Rattle.std.proofs.Common.{◌≡◌, ℕ, suc, ◌+◌, ◌≤◌, Ordering, Less, Equal, Greater, nat_cmp, Bool, true, false, cond, List, [], ◌∷◌, ◌++◌, Option, Some, None, option_map, option_and_then, IfSome, refl, ap, inl, inr, ◌⊎◌, arith}
use Rattle.std.proofs.lemmas.Bool.{cases_Bool}
use Rattle.std.proofs.lemmas.Option.{none-some, same_Some}
use Rattle.std.specs.Cmp.Lexicographic.{slice_cmp}
use Rattle.toml_parser.specs.Strings.{Key}
use Rattle.toml.specs.Data.{Data, table, Items, no_items, item, no_members, same_key, push_item}
use Rattle.toml.specs.Tables.{implicit, dotted, header, Node, Nodes, no_nodes, node, value, open_table, open_array, get_node, insert, replace, Edit, header_node, dot_node, by_header, by_dot, along_header, along_dots, Definition, Expression, key_value, std_table, array_table, new_node, redefine, at_found, at_key, put, Document, define, close, close_node}
use Rattle.sdf_model.specs.Counts.{elements_in, elements_of_items, elements_of_members}

-- what a step reads holds, where the steps before it read what it asks for
pub then-some : {A B : Type 0} (o : Option A) (f : A → Option B) (P : A → Type 0) (Q : B → Type 0) → IfSome o P → ((a : A) → P a → IfSome (f a) Q) → IfSome (option_and_then f o) Q
then-some (Some a) f P Q h g = g a h
then-some None f P Q h g = tt

pub map-some : {A B : Type 0} (o : Option A) (f : A → B) (P : A → Type 0) (Q : B → Type 0) → IfSome o P → ((a : A) → P a → Q (f a)) → IfSome (option_map f o) Q
map-some (Some a) f P Q h g = g a h
map-some None f P Q h g = tt

pub cond-some : {A : Type 0} (b : Bool) (x y : Option A) (Q : A → Type 0) → (b ≡ true → IfSome x Q) → (b ≡ false → IfSome y Q) → IfSome (cond b x y) Q
cond-some true x y Q g h = g refl
cond-some false x y Q g h = h refl

-- an array with one more element
pub push-elements : (ds : Items) (d : Data) → elements_of_items (push_item ds d) ≡ elements_of_items ds + suc (elements_in d)
push-elements no_items d = omega arith
push-elements (item e ds) d = let more = push-elements ds d in omega (arith, more)

-- how many elements nodes have once they are closed
abbrev pub elements_of_nodes : Nodes → ℕ
elements_of_nodes ns = elements_of_members (close ns)

abbrev pub elements_of_node : Node → ℕ
elements_of_node x = elements_in (close_node x)

pub cases_ordering : (o : Ordering) → (o ≡ Less) ⊎ ((o ≡ Equal) ⊎ (o ≡ Greater))
cases_ordering Less = inl refl
cases_ordering Equal = inr (inl refl)
cases_ordering Greater = inr (inr refl)

insert-elements : (k : List ℕ) (x : Node) (ns : Nodes) → elements_of_nodes (insert k x ns) ≤ elements_of_node x + elements_of_nodes ns
insert-elements k x no_nodes = omega arith
insert-elements k x (node l y ns) =
    elim (cases_ordering (slice_cmp nat_cmp k l)) [
      | inl less ↦ rw less (omega arith)
      | inr other ↦ elim other [
        | inl tie ↦ rw tie (omega arith)
        | inr more ↦ rw more (let i = insert-elements k x ns in omega (arith, i))
      ]
    ]

replace-elements : (k : List ℕ) (x y : Node) (ns : Nodes) → get_node k ns ≡ Some y → elements_of_nodes (replace k x ns) + elements_of_node y ≡ elements_of_node x + elements_of_nodes ns
replace-elements k x y no_nodes h = absurd (none-some y h)
replace-elements k x y (node l z ns) h =
    elim (cases_Bool (same_key k l)) [
      | inl same ↦ rw same (let e : elements_of_node z ≡ elements_of_node y = ap (λ w. elements_of_node w) (same_Some z y (rw same at h)) in omega (arith, e))
      | inr other ↦ rw other (let r = replace-elements k x y ns (rw other at h) in omega (arith, r))
    ]

-- an edit adds at most so many elements
abbrev pub Adds : Edit → ℕ → Type 0
Adds edit n = (ns : Nodes) → IfSome (edit ns) (λ new. elements_of_nodes new ≤ elements_of_nodes ns + n)

module _ (edit : Edit) (n : ℕ) (adds : Adds edit n) where
  header-elements : (x : Node) → IfSome (header_node edit x) (λ y. elements_of_node y ≤ elements_of_node x + n)
  header-elements (value d) = tt
  header-elements (open_table origin inner) = map-some (edit inner) (open_table origin) _ _ (adds inner) (λ new h. h)
  header-elements (open_array done last) =
      map-some (edit last) (open_array done) _ _ (adds last)
      (λ new h. omega (arith, h, push-elements done (table (close new)), push-elements done (table (close last))))

  dot-elements : (x : Node) → IfSome (dot_node edit x) (λ y. elements_of_node y ≤ elements_of_node x + n)
  dot-elements (value d) = tt
  dot-elements (open_table header inner) = tt
  dot-elements (open_table implicit inner) = map-some (edit inner) (open_table dotted) _ _ (adds inner) (λ new h. h)
  dot-elements (open_table dotted inner) = map-some (edit inner) (open_table dotted) _ _ (adds inner) (λ new h. h)
  dot-elements (open_array done last) = tt

  by_header-elements : (k : List ℕ) (ns : Nodes) (o : Option Node) → get_node k ns ≡ o → IfSome (by_header k edit ns o) (λ new. elements_of_nodes new ≤ elements_of_nodes ns + n)
  by_header-elements k ns None e =
      map-some (edit no_nodes) _ _ _ (adds no_nodes) (λ new h. let i = insert-elements k (open_table implicit new) ns in omega (arith, h, i))
  by_header-elements k ns (Some x) e =
      map-some (header_node edit x) _ _ _ (header-elements x) (λ y h. let r = replace-elements k y x ns e in omega (arith, h, r))

  by_dot-elements : (k : List ℕ) (ns : Nodes) (o : Option Node) → get_node k ns ≡ o → IfSome (by_dot k edit ns o) (λ new. elements_of_nodes new ≤ elements_of_nodes ns + n)
  by_dot-elements k ns None e =
      map-some (edit no_nodes) _ _ _ (adds no_nodes) (λ new h. let i = insert-elements k (open_table dotted new) ns in omega (arith, h, i))
  by_dot-elements k ns (Some x) e =
      map-some (dot_node edit x) _ _ _ (dot-elements x) (λ y h. let r = replace-elements k y x ns e in omega (arith, h, r))

along-header : (edit : Edit) (n : ℕ) → Adds edit n → (path : List (List ℕ)) → Adds (along_header path edit) n
unfolding along_header
along-header edit n adds [] ns = adds ns
along-header edit n adds (k ∷ path) ns = by_header-elements (along_header path edit) n (along-header edit n adds path) k ns (get_node k ns) refl

along-dots : (edit : Edit) (n : ℕ) → Adds edit n → (path : List (List ℕ)) → Adds (along_dots path edit) n
unfolding along_dots
along-dots edit n adds [] ns = adds ns
along-dots edit n adds (k ∷ path) ns = by_dot-elements (along_dots path edit) n (along-dots edit n adds path) k ns (get_node k ns) refl

-- how many elements a definition adds
abbrev pub elements_defined : Definition → ℕ
elements_defined what = elements_of_node (new_node what)

redefine-elements : (what : Definition) (x : Node) → IfSome (redefine what x) (λ y. elements_of_node y ≤ elements_of_node x + elements_defined what)
redefine-elements (key_value d) (value e) = tt
redefine-elements (key_value d) (open_table o inner) = tt
redefine-elements (key_value d) (open_array done last) = tt
redefine-elements std_table (value e) = tt
redefine-elements std_table (open_table implicit inner) = omega arith
redefine-elements std_table (open_table dotted inner) = tt
redefine-elements std_table (open_table header inner) = tt
redefine-elements std_table (open_array done last) = tt
redefine-elements array_table (value e) = tt
redefine-elements array_table (open_table o inner) = tt
redefine-elements array_table (open_array done last) =
    let p = push-elements (push_item done (table (close last))) (table no_members) in omega (arith, p)

at_found-elements : (k : List ℕ) (what : Definition) (ns : Nodes) (o : Option Node) → get_node k ns ≡ o
    → IfSome (at_found k what ns o) (λ new. elements_of_nodes new ≤ elements_of_nodes ns + elements_defined what)
at_found-elements k what ns None e = let i = insert-elements k (new_node what) ns in omega (arith, i)
at_found-elements k what ns (Some x) e =
    map-some (redefine what x) _ _ _ (redefine-elements what x) (λ y h. let r = replace-elements k y x ns e in omega (arith, h, r))

at_key-elements : (k : List ℕ) (what : Definition) → Adds (at_key k what) (elements_defined what)
unfolding at_key
at_key-elements k what ns = at_found-elements k what ns (get_node k ns) refl

pub put-elements : (key : Key) (d : Data) → Adds (put key d) (elements_in d)
put-elements key d = along-dots (at_key key.1 (key_value d)) (elements_in d) (at_key-elements key.1 (key_value d)) key.0

-- a document after one more expression
root-elements : (doc : Document) (path : List (List ℕ)) (edit : Edit) (n : ℕ) → Adds edit n → (section : List (List ℕ))
    → IfSome {T = Document} (option_map (λ root. (root, section)) (along_header path edit doc.0)) (λ next. elements_of_nodes next.0 ≤ elements_of_nodes doc.0 + n)
root-elements doc path edit n adds section =
    map-some {B = Document} (along_header path edit doc.0) (λ root. (root, section)) (λ root. elements_of_nodes root ≤ elements_of_nodes doc.0 + n) (λ next. elements_of_nodes next.0 ≤ elements_of_nodes doc.0 + n)
    (along-header edit n adds path doc.0) (λ root h. h)

pub define-elements : (doc : Document) (e : Expression)
    → IfSome (define doc e) (λ next. elements_of_nodes next.0 ≤ elements_of_nodes doc.0 + elements_defined e.1)
unfolding define
define-elements doc (key, key_value d) = root-elements doc doc.1 (put key d) (elements_in d) (put-elements key d) doc.1
define-elements doc (key, std_table) = root-elements doc key.0 (at_key key.1 std_table) 0 (at_key-elements key.1 std_table) (key.0 ++ key.1 ∷ [])
define-elements doc (key, array_table) = root-elements doc key.0 (at_key key.1 array_table) 1 (at_key-elements key.1 array_table) (key.0 ++ key.1 ∷ [])
