use Rattle.std.proofs.Common.{◌≡◌, ◌&&◌, ◌||◌, ◌↔◌, ◌<◌, ◌++◌, ℕ, zero, suc, Bool, true, false, Option, Some, None, is_some, IsSome, List, [], ◌∷◌, length, slice_get, slice_index_or, refl, sym, ap, ◌∙◌, arith}
use Rattle.std.specs.Option.{option_map, option_to_list}
use Rattle.cargo_core.specs.declared.item.Item.{Item}
use Rattle.wire_core.specs.declared.names.Event.{Event}
use Rattle.wire_core.specs.declared.names.Op.{Op}
use Rattle.wire_core.specs.declared.names.Op.TheVariants as Do
use Rattle.wire_core.specs.declared.names.Answer.{Answer}
use Rattle.wire_core.specs.Deeds.{Cargo, given, put_of}
use Rattle.wire_core.specs.Marks.{is_vain_look, is_mark}
use Rattle.turn_kit.specs.Turns.{Post, is_mark_at}
use Rattle.turn_kit.specs.Dropping.{with_drops}
use Rattle.serial_virt.specs.Shares.{is_put}

-- what was put of a load, by the item that the event tells
pub put_all : (e : Event) (load load' : Option Cargo) → e.item ≡ option_map (λ c. c.0) (put_of e load) → option_to_list load ≡ option_to_list (put_of e load) ++ option_to_list load' → is_some e.item ≡ true → (y : Cargo) × (load ≡ Some y) × (put_of e load ≡ Some y) × (load' ≡ None)
put_all e load load' item parts some = by e.item refl load refl
  where
    by : (i : Option Item) → e.item ≡ i → (l : Option Cargo) → load ≡ l → (y : Cargo) × (load ≡ Some y) × (put_of e load ≡ Some y) × (load' ≡ None)
    by None ei l el = let no : is_some {T = Item} None ≡ true = ap is_some (sym ei) ∙ some in absurd cc
    by (Some i) ei None el = let no : Some i ≡ None = sym ei ∙ (item ∙ ap (λ o. option_map (λ c. c.0) o) (ap (λ j. given j load) ei ∙ el)) in absurd cc
    by (Some i) ei (Some y) el =
        let is : put_of e load ≡ Some y = ap (λ j. given j load) ei ∙ el in
        (y, el, is, rest load' (sym (ap option_to_list el) ∙ (parts ∙ ap (λ o. option_to_list o ++ option_to_list load') is)))
      where
        rest : (m : Option Cargo) → y ∷ [] ≡ y ∷ option_to_list m → m ≡ None
        rest None f = refl
        rest (Some z) f = let no : [] ≡ z ∷ [] = ap tail f in absurd cc
          where
            tail : List Cargo → List Cargo
            tail [] = []
            tail (x ∷ xs) = xs

pub put_none : (e : Event) (load load' : Option Cargo) → option_to_list load ≡ option_to_list (put_of e load) ++ option_to_list load' → is_some e.item ≡ false → (put_of e load ≡ None) × (load' ≡ load)
put_none e load load' parts none = by e.item refl
  where
    same : (l m : Option Cargo) → option_to_list l ≡ option_to_list m → m ≡ l
    same None None f = refl
    same None (Some y) f = let no : [] ≡ y ∷ [] = f in absurd cc
    same (Some x) None f = let no : x ∷ [] ≡ [] = f in absurd cc
    same (Some x) (Some y) f = ap Some (sym (first f))
      where
        first : x ∷ [] ≡ y ∷ [] → x ≡ y
        first g = cc

    by : (i : Option Item) → e.item ≡ i → (put_of e load ≡ None) × (load' ≡ load)
    by (Some i) ei = let no : is_some (Some i) ≡ false = ap is_some (sym ei) ∙ none in absurd cc
    by None ei =
        let is : put_of e load ≡ None = ap (λ j. given j load) ei in
        (is, same load load' (parts ∙ ap (λ o. option_to_list o ++ option_to_list load') is))

-- a load that is there
pub loaded : (l : Option Cargo) → is_some l ≡ true → (c : Cargo) × (l ≡ Some c)
loaded None h = cc
loaded (Some c) h = (c, refl)

-- a look that answers no puts nothing
pub vain_puts : (o : Op) (a : Answer) → is_vain_look o a ≡ true → is_put o ≡ false
vain_puts Do.See a v = refl
vain_puts Do.Room a v = refl
vain_puts Do.Take a v = refl
vain_puts Do.Put a v = cc
vain_puts (Do.Ask s) a v = refl
vain_puts (Do.Waive s) a v = refl
vain_puts (Do.Wake s) a v = refl
vain_puts (Do.Wanted s) a v = refl
vain_puts (Do.Settle s) a v = refl
vain_puts (Do.Ring s) a v = refl
vain_puts (Do.Store w b) a v = refl

pub item_none : (o : Op) (i : Option Item) → (IsSome i ↔ (o ≡ Do.Put)) → is_put o ≡ false → is_some i ≡ false
item_none o None iff n = refl
item_none o (Some i) iff n = let op : o ≡ Do.Put = iff.0 refl in let no : true ≡ false = sym (ap is_put op) ∙ n in absurd cc

some_eq : {X : Type 0} {a b : X} → Some a ≡ Some b → a ≡ b
some_eq h = cc

pub index_at : (xs : List Bool) (k : ℕ) (d : Bool) → slice_get xs k ≡ Some d → slice_index_or xs k false ≡ d
index_at [] k d at = cc
index_at (x ∷ xs) zero d at = some_eq at
index_at (x ∷ xs) (suc k) d at = index_at xs k d at

pub drops_of : (ds : List Bool) (ps : List Post) (k : ℕ) (d : Bool) (p : Post) → slice_get ds k ≡ Some d → slice_get (with_drops ds ps) k ≡ Some p → p.drops ≡ d
drops_of [] ps k d p at there = cc
drops_of (e ∷ ds) [] k d p at there = cc
drops_of (e ∷ ds) (q ∷ ps) zero d p at there = ap (λ (x : Post). x.drops) (sym (some_eq there)) ∙ some_eq at
drops_of (e ∷ ds) (q ∷ ps) (suc k) d p at there = drops_of ds ps k d p at there

-- a drop is a mark
pub drop_marks : (p : Post) (e : Event) (d : Bool) → p.drops ≡ d → (d && is_vain_look e.op e.answer) ≡ true → is_mark_at p e ≡ false → ⊥
drop_marks p e d is v calm = let yes : is_mark_at p e ≡ true = ap (λ x. (x && is_vain_look e.op e.answer) || is_mark e.op e.answer) is ∙ ap (λ x. x || is_mark e.op e.answer) v in let bad : true ≡ false = sym yes ∙ calm in cc

pub read_at : (xs : List Bool) (k : ℕ) (d : Bool) → k < length xs → d ≡ slice_index_or xs k d → slice_get xs k ≡ Some d
read_at [] k d lt is = absurd (omega (arith, lt))
read_at (x ∷ xs) zero d lt is = ap Some (sym is)
read_at (x ∷ xs) (suc k) d lt is = read_at xs k d (omega (arith, lt)) is

-- nothing is put where nothing is loaded
pub nothing_put : (e : Event) → put_of e None ≡ None
nothing_put e = by e.item
  where
    by : (i : Option Item) → given i None ≡ None
    by None = refl
    by (Some i) = refl

pub nothing_told : (e : Event) → is_some (option_map (λ (c : Cargo). c.0) (put_of e None)) ≡ false
nothing_told e = ap (λ (o : Option Cargo). is_some (option_map (λ (c : Cargo). c.0) o)) (nothing_put e)
