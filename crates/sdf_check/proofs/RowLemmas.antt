-- What is asked of the rows that the program has, and of those that they show.
use Rattle.std.proofs.Common.{◌≡◌, ◌↔◌, ℕ, List, map, Bool, true, false, IsTrue, Option, Some, None, sym, subst, inl, inr, ◌⊎◌, ⊎_elim}
use Rattle.std.specs.Bool.{⊤}
use Rattle.std.specs.List.{slice_get}
use Rattle.std.specs.Option.{IsSomeAnd, option_map}
use Rattle.std.proofs.lemmas.Option.{slice_get-map}
use Rattle.sdf_plan.specs.declared.place.Place.{Place}
use Rattle.sdf_plan.specs.declared.place.Place.TheVariants as At
use Rattle.sdf_plan.specs.declared.plan.Plan.{Plan}
use Rattle.sdf_plan.specs.declared.class_table.uses.Grant.{Grant}
use Rattle.sdf_plan.specs.declared.class_table.uses.PoolUse.{PoolUse}
use Rattle.sdf_plan.specs.ClassTable.Rows.{Name}
use Rattle.sdf_plan.specs.ClassTable.Shown.{Shelved, grant_shown, name_shown, pool_shown}
use Rattle.sdf_plan.specs.ClassTable.Table.{Element, OfElement, net_element, net_client_element, serial_element, serial_client_element, blk_element, blk_client_element}
use Rattle.sdf_check.specs.ClassRules.{SomeOf, allowed}
use Rattle.sdf_check.specs.Lookups.{names_shown}
use Rattle.sdf_check.proofs.LoopLemmas.{not-so, some-append}
use Rattle.sdf_check.proofs.UseLemmas.{some-map}

to-shown : {X Y : Type 0} (P : Y → Type 0) (f : X → Y) (o : Option X) → IsSomeAnd o (λ x. P (f x)) → IsSomeAnd (option_map f o) P
to-shown P f None h = h
to-shown P f (Some x) h = h

from-shown : {X Y : Type 0} (P : Y → Type 0) (f : X → Y) (o : Option X) → IsSomeAnd (option_map f o) P → IsSomeAnd o (λ x. P (f x))
from-shown P f None h = h
from-shown P f (Some x) h = h

-- some row is so exactly where some row that is shown is
pub some-shown : {X Y : Type 0} (P : Y → Type 0) (f : X → Y) (xs : List X) → SomeOf (λ x. P (f x)) xs ↔ SomeOf P (map f xs)
some-shown P f xs = (
  λ s. (s.0, subst (λ o. IsSomeAnd o P) (sym (slice_get-map f xs s.0)) (to-shown P f (slice_get xs s.0) s.1)),
  λ s. (s.0, from-shown P f (slice_get xs s.0) (subst (λ o. IsSomeAnd o P) (slice_get-map f xs s.0) s.1)),
)

-- a loop over rows of one sort
pub rows-one : {X Y : Type 0} (P : Y → Type 0) (f : X → Y) (items xs : List X) (b : Bool) → items ≡ xs → (IsTrue b ↔ SomeOf (λ x. P (f x)) items)
    → IsTrue b ↔ SomeOf P (map f xs)
rows-one {X} P f items xs b same is =
    let at : IsTrue b ↔ SomeOf (λ x. P (f x)) xs = subst (λ (ys : List X). IsTrue b ↔ SomeOf (λ x. P (f x)) ys) same is in
    (λ t. (some-shown P f xs).0 (at.0 t), λ s. at.1 ((some-shown P f xs).1 s))

-- two questions, of which the first is answered no
pub second-asked : {P Q : Type 0} (a b : Bool) → (IsTrue a ↔ P) → a ≡ false → (IsTrue b ↔ Q) → IsTrue b ↔ (P ⊎ Q)
second-asked {P} {Q} a b one never other = (λ t. inr (other.0 t), λ e. ⊎_elim (λ (p : P). absurd (not-so a one.1 never p)) (λ (q : Q). other.1 q) e)

-- those that must and those that may map the region of a pool
module _ (name : List ℕ) (pool : PoolUse Shelved) where
  abbrev must : List (List ℕ)
  must = map (λ (g : Grant Name). g.domain) (map grant_shown pool.must)

  abbrev may : List (List ℕ)
  may = map name_shown pool.may

  granted : SomeOf (λ (g : Grant Shelved). g.domain.now ≡ name) pool.must ↔ SomeOf (λ (g : Grant Name). g.domain ≡ name) (map grant_shown pool.must)
  granted = some-shown (λ (g : Grant Name). g.domain ≡ name) grant_shown pool.must

  named : SomeOf (λ (g : Grant Name). g.domain ≡ name) (map grant_shown pool.must) ↔ SomeOf (λ other. other ≡ name) must
  named = some-shown (λ other. other ≡ name) (λ (g : Grant Name). g.domain) (map grant_shown pool.must)

  pub allowed-iff : (SomeOf (λ (g : Grant Shelved). g.domain.now ≡ name) pool.must ⊎ SomeOf (λ other. other ≡ name) (names_shown pool.may)) ↔ SomeOf (λ other. other ≡ name) (allowed (pool_shown pool))
  allowed-iff = (
    λ e. (some-append (λ other. other ≡ name) must may).0 (⊎_elim (λ (s : SomeOf (λ (g : Grant Shelved). g.domain.now ≡ name) pool.must). inl (named.0 (granted.0 s)))
        (λ (s : SomeOf (λ other. other ≡ name) may). inr s) e),
    λ s. ⊎_elim (λ (h : SomeOf (λ other. other ≡ name) must). inl (granted.1 (named.1 h))) (λ (h : SomeOf (λ other. other ≡ name) may). inr h)
        ((some-append (λ other. other ≡ name) must may).1 s),
  )

-- the element at a place is this one
module _ (plan : Plan) (e : Element) where
  pub at-element : (place : Place) (P : Element → Type 0) → OfElement plan place (λ other. other ≡ e) → P e → OfElement plan place P
  at-element At.Net P is p = some-map plan.net (λ net. net_element net ≡ e) (λ net. P (net_element net)) (λ net same. subst P (sym same) p) is
  at-element (At.NetClient c) P is p =
      some-map plan.net (λ net. IsSomeAnd (slice_get net.client c) (λ x. net_client_element net c x ≡ e)) (λ net. IsSomeAnd (slice_get net.client c) (λ x. P (net_client_element net c x)))
      (λ net h. some-map (slice_get net.client c) (λ x. net_client_element net c x ≡ e) (λ x. P (net_client_element net c x)) (λ x same. subst P (sym same) p) h) is
  at-element At.Serial P is p = some-map plan.serial (λ serial. serial_element serial ≡ e) (λ serial. P (serial_element serial)) (λ serial same. subst P (sym same) p) is
  at-element (At.SerialClient c) P is p =
      some-map plan.serial (λ serial. IsSomeAnd (slice_get serial.client c) (λ x. serial_client_element serial c x ≡ e))
      (λ serial. IsSomeAnd (slice_get serial.client c) (λ x. P (serial_client_element serial c x)))
      (λ serial h. some-map (slice_get serial.client c) (λ x. serial_client_element serial c x ≡ e) (λ x. P (serial_client_element serial c x)) (λ x same. subst P (sym same) p) h) is
  at-element At.Blk P is p = some-map plan.blk (λ blk. blk_element blk ≡ e) (λ blk. P (blk_element blk)) (λ blk same. subst P (sym same) p) is
  at-element (At.BlkClient c) P is p =
      some-map plan.blk (λ blk. IsSomeAnd (slice_get blk.client c) (λ x. blk_client_element blk c x ≡ e)) (λ blk. IsSomeAnd (slice_get blk.client c) (λ x. P (blk_client_element blk c x)))
      (λ blk h. some-map (slice_get blk.client c) (λ x. blk_client_element blk c x ≡ e) (λ x. P (blk_client_element blk c x)) (λ x same. subst P (sym same) p) h) is
  at-element At.System P is p = is
  at-element (At.Region r) P is p = is
  at-element (At.Domain d) P is p = is
  at-element (At.Map d m) P is p = is
  at-element (At.Irq d i) P is p = is
  at-element (At.Channel c) P is p = is
  at-element (At.End c n) P is p = is

  known : {X : Type 0} (o : Option X) (give : X → Element) (P : Element → Type 0) → IsSomeAnd o (λ x. give x ≡ e) → IsSomeAnd o (λ x. P (give x)) → P e
  known None give P is h = absurd h
  known (Some x) give P is h = subst P is h

  known-part : {X Y : Type 0} (o : Option X) (parts : X → Option Y) (give : X → Y → Element) (P : Element → Type 0) → IsSomeAnd o (λ x. IsSomeAnd (parts x) (λ y. give x y ≡ e))
      → IsSomeAnd o (λ x. IsSomeAnd (parts x) (λ y. P (give x y))) → P e
  known-part None parts give P is h = absurd h
  known-part (Some x) parts give P is h = known (parts x) (give x) P is h

  pub of-element : (place : Place) (P : Element → Type 0) → OfElement plan place (λ other. other ≡ e) → OfElement plan place P → P e
  of-element At.Net P is h = known plan.net net_element P is h
  of-element (At.NetClient c) P is h = known-part plan.net (λ net. slice_get net.client c) (λ net x. net_client_element net c x) P is h
  of-element At.Serial P is h = known plan.serial serial_element P is h
  of-element (At.SerialClient c) P is h = known-part plan.serial (λ serial. slice_get serial.client c) (λ serial x. serial_client_element serial c x) P is h
  of-element At.Blk P is h = known plan.blk blk_element P is h
  of-element (At.BlkClient c) P is h = known-part plan.blk (λ blk. slice_get blk.client c) (λ blk x. blk_client_element blk c x) P is h
  of-element At.System P is h = absurd h
  of-element (At.Region r) P is h = absurd h
  of-element (At.Domain d) P is h = absurd h
  of-element (At.Map d m) P is h = absurd h
  of-element (At.Irq d i) P is h = absurd h
  of-element (At.Channel c) P is h = absurd h
  of-element (At.End c n) P is h = absurd h

  pub element-asked : (place : Place) (P : Element → Type 0) (b : Bool) → OfElement plan place (λ other. other ≡ e) → (IsTrue b ↔ P e) → IsTrue b ↔ OfElement plan place P
  element-asked place P b is h = (λ t. at-element place P is (h.0 t), λ o. h.1 (of-element place P is o))

-- no element is at a place
module _ (plan : Plan) where
  pub any-element : (place : Place) (P : Element → Type 0) → OfElement plan place P → OfElement plan place (λ e. ⊤)
  any-element At.Net P h = some-map plan.net (λ net. P (net_element net)) (λ net. ⊤) (λ net p. tt) h
  any-element (At.NetClient c) P h =
      some-map plan.net (λ net. IsSomeAnd (slice_get net.client c) (λ x. P (net_client_element net c x))) (λ net. IsSomeAnd (slice_get net.client c) (λ x. ⊤))
      (λ net q. some-map (slice_get net.client c) (λ x. P (net_client_element net c x)) (λ x. ⊤) (λ x p. tt) q) h
  any-element At.Serial P h = some-map plan.serial (λ serial. P (serial_element serial)) (λ serial. ⊤) (λ serial p. tt) h
  any-element (At.SerialClient c) P h =
      some-map plan.serial (λ serial. IsSomeAnd (slice_get serial.client c) (λ x. P (serial_client_element serial c x))) (λ serial. IsSomeAnd (slice_get serial.client c) (λ x. ⊤))
      (λ serial q. some-map (slice_get serial.client c) (λ x. P (serial_client_element serial c x)) (λ x. ⊤) (λ x p. tt) q) h
  any-element At.Blk P h = some-map plan.blk (λ blk. P (blk_element blk)) (λ blk. ⊤) (λ blk p. tt) h
  any-element (At.BlkClient c) P h =
      some-map plan.blk (λ blk. IsSomeAnd (slice_get blk.client c) (λ x. P (blk_client_element blk c x))) (λ blk. IsSomeAnd (slice_get blk.client c) (λ x. ⊤))
      (λ blk q. some-map (slice_get blk.client c) (λ x. P (blk_client_element blk c x)) (λ x. ⊤) (λ x p. tt) q) h
  any-element At.System P h = absurd h
  any-element (At.Region r) P h = absurd h
  any-element (At.Domain d) P h = absurd h
  any-element (At.Map d m) P h = absurd h
  any-element (At.Irq d i) P h = absurd h
  any-element (At.Channel c) P h = absurd h
  any-element (At.End c n) P h = absurd h

  pub none-asked : (place : Place) (P : Element → Type 0) → (OfElement plan place (λ e. ⊤) → ⊥) → IsTrue false ↔ OfElement plan place P
  none-asked place P gone = (λ t. let no : false ≡ true = t in cc, λ h. absurd (gone (any-element place P h)))
