-- The elements of the table by their numbers: which stands at a place, and at which place one stands.
use Rattle.std.proofs.Common.{◌≡◌, ℕ, zero, suc, ◌+◌, ◌⊎◌, inl, inr, ⊎_elim, List, [], ◌∷◌, ◌++◌, length, Option, Some, None, refl, sym, ◌∙◌, ap, subst, arith, length-append}
use Rattle.std.specs.List.{slice_get}
use Rattle.std.specs.Option.{IsSomeAnd, option_map, option_map_or}
use Rattle.sdf_plan.specs.declared.place.Place.{Place}
use Rattle.sdf_plan.specs.declared.place.Place.TheVariants as At
use Rattle.sdf_plan.specs.declared.plan.Plan.{Plan}
use Rattle.sdf_plan.specs.declared.plan.Net.{Net}
use Rattle.sdf_plan.specs.declared.plan.NetClient.{NetClient}
use Rattle.sdf_plan.specs.declared.plan.Serial.{Serial}
use Rattle.sdf_plan.specs.declared.plan.SerialClient.{SerialClient}
use Rattle.sdf_plan.specs.declared.plan.Blk.{Blk}
use Rattle.sdf_plan.specs.declared.plan.BlkClient.{BlkClient}
use Rattle.sdf_plan.specs.ClassTable.Order.{number_of, net_count, serial_count}
use Rattle.sdf_plan.specs.ClassTable.Table.{Element, numbered, table_of, OfElement, net_element, net_client_element, net_elements, serial_element, serial_client_element, serial_elements, blk_element, blk_client_element, blk_elements}
use Rattle.sdf_plan.proofs.ClassTable.At.{numbered-get, some-same}
use Rattle.sdf_plan.proofs.ClassTable.Everywhere.{client-at}

-- a place of the first of two lists, one of the second, and which of them a place is
left : {X : Type 0} (xs ys : List X) (k : ℕ) (x : X) → slice_get xs k ≡ Some x → slice_get (xs ++ ys) k ≡ Some x
left [] ys k x at = cc
left (y ∷ xs) ys zero x at = at
left (y ∷ xs) ys (suc k) x at = left xs ys k x at

right : {X : Type 0} (xs ys : List X) (j k : ℕ) (x : X) → length xs + j ≡ k → slice_get ys j ≡ Some x → slice_get (xs ++ ys) k ≡ Some x
right [] ys j k x is at = let same : k ≡ j = omega (arith, is) in rw same at
right (y ∷ xs) ys j zero x is at = absurd (omega (arith, is))
right (y ∷ xs) ys j (suc k) x is at = right xs ys j k x (omega (arith, is)) at

either : {X : Type 0} (xs ys : List X) (k : ℕ) (x : X) → slice_get (xs ++ ys) k ≡ Some x
    → (slice_get xs k ≡ Some x) ⊎ ((j : ℕ) × (length xs + j ≡ k) × (slice_get ys j ≡ Some x))
either [] ys k x at = inr (k, omega arith, at)
either (y ∷ xs) ys zero x at = inl at
either (y ∷ xs) ys (suc k) x at =
    elim (either xs ys k x at) [
      | inl h ↦ inl h
      | inr h ↦ inr (h.0, omega (arith, h.1), h.2)
    ]

-- what is known of what is there
held : {X : Type 0} (o : Option X) (P : X → Type 0) → IsSomeAnd o P → (x : X) × (o ≡ Some x) × P x
held None P h = absurd h
held (Some x) P h = (x, refl, h)

there : {X : Type 0} (o : Option X) (x : X) (P : X → Type 0) → o ≡ Some x → P x → IsSomeAnd o P
there o x P is h = subst (λ p. IsSomeAnd p P) (sym is) h

-- the elements of one class
module _ {C K : Type 0} (first : C → Element) (give : C → ℕ → K → Element) (clients : C → List K) where
  abbrev all : C → List Element
  all x = first x ∷ numbered (give x) 0 (clients x)

  class-stands : (o : Option C) (x : C) → o ≡ Some x → slice_get (option_map_or all o []) 0 ≡ Some (first x)
  class-stands o x is = ap (λ q. slice_get (option_map_or all q []) 0) is

  client-stands : (o : Option C) (x : C) (c : ℕ) (k : K) → o ≡ Some x → slice_get (clients x) c ≡ Some k → slice_get (option_map_or all o []) (1 + c) ≡ Some (give x c k)
  client-stands o x c k is at =
      let next : suc c ≡ 1 + c = omega arith in
      ap (λ q. slice_get (option_map_or all q []) (1 + c)) is ∙ subst (λ n. slice_get (all x) n ≡ Some (give x c k)) next (client-at (first x) (give x) (clients x) c k at)

  client-given : (o : Option K) (x : C) (c : ℕ) (e : Element) → option_map (give x c) o ≡ Some e → (k : K) × (o ≡ Some k) × (give x c k ≡ e)
  client-given None x c e is = cc
  client-given (Some k) x c e is = (k, refl, some-same is)

  abbrev Stands : Option C → ℕ → Element → Type 0
  Stands o n e =
      ((x : C) × (o ≡ Some x) × (0 ≡ n) × (first x ≡ e))
      ⊎ ((x : C) × (c : ℕ) × (k : K) × (o ≡ Some x) × (slice_get (clients x) c ≡ Some k) × (1 + c ≡ n) × (give x c k ≡ e))

  stands : (o : Option C) (n : ℕ) (e : Element) → slice_get (option_map_or all o []) n ≡ Some e → Stands o n e
  stands None n e at = cc
  stands (Some x) zero e at = inl (x, refl, refl, some-same at)
  stands (Some x) (suc c) e at =
      let same : 0 + c ≡ c = omega arith in
      let here : option_map (give x c) (slice_get (clients x) c) ≡ Some e = ap (λ n. option_map (give x n) (slice_get (clients x) c)) (sym same) ∙ (sym (numbered-get (give x) 0 (clients x) c) ∙ at) in
      let k = client-given (slice_get (clients x) c) x c e here in
      let next : 1 + c ≡ suc c = omega arith in
      inr (x, c, k.0, refl, k.1, next, k.2)

module _ (plan : Plan) where
  abbrev net_part : List Element
  net_part = option_map_or net_elements plan.net []

  abbrev serial_part : List Element
  serial_part = option_map_or serial_elements plan.serial []

  abbrev blk_part : List Element
  blk_part = option_map_or blk_elements plan.blk []

  abbrev At' : ℕ → Element → Type 0
  At' n e = slice_get (table_of plan) n ≡ Some e

  in-net : (n : ℕ) (e : Element) → slice_get net_part n ≡ Some e → At' n e
  unfolding table_of
  in-net n e at = left (net_part ++ serial_part) blk_part n e (left net_part serial_part n e at)

  in-serial : (j n : ℕ) (e : Element) → net_count plan + j ≡ n → slice_get serial_part j ≡ Some e → At' n e
  unfolding table_of
  in-serial j n e is at = left (net_part ++ serial_part) blk_part n e (right net_part serial_part j n e is at)

  in-blk : (j n : ℕ) (e : Element) → net_count plan + serial_count plan + j ≡ n → slice_get blk_part j ≡ Some e → At' n e
  unfolding table_of
  in-blk j n e is at = right (net_part ++ serial_part) blk_part j n e (ap (λ m. m + j) (length-append net_part serial_part) ∙ is) at

  -- the element at a place has its number
  pub of-element : (P : Element → Type 0) (place : Place) → OfElement plan place P → (e : Element) × (slice_get (table_of plan) (number_of plan place) ≡ Some e) × (e.place ≡ place) × P e
  of-element P At.Net h =
      let x = held plan.net (λ (net : Net). P (net_element net)) h in
      (net_element x.0, in-net 0 (net_element x.0) (class-stands net_element net_client_element (λ (net : Net). net.client) plan.net x.0 x.1), refl, x.2)
  of-element P (At.NetClient c) h =
      let x = held plan.net (λ (net : Net). IsSomeAnd (slice_get net.client c) (λ client. P (net_client_element net c client))) h in
      let k = held (slice_get x.0.client c) (λ client. P (net_client_element x.0 c client)) x.2 in (
        net_client_element x.0 c k.0,
        in-net (1 + c) (net_client_element x.0 c k.0) (client-stands net_element net_client_element (λ (net : Net). net.client) plan.net x.0 c k.0 x.1 k.1),
        refl,
        k.2,
      )
  of-element P At.Serial h =
      let x = held plan.serial (λ (serial : Serial). P (serial_element serial)) h in
      (serial_element x.0, in-serial 0 _ (serial_element x.0) (omega arith) (class-stands serial_element serial_client_element (λ (serial : Serial). serial.client) plan.serial x.0 x.1), refl, x.2)
  of-element P (At.SerialClient c) h =
      let x = held plan.serial (λ (serial : Serial). IsSomeAnd (slice_get serial.client c) (λ client. P (serial_client_element serial c client))) h in
      let k = held (slice_get x.0.client c) (λ client. P (serial_client_element x.0 c client)) x.2 in (
        serial_client_element x.0 c k.0,
        in-serial (1 + c) _ (serial_client_element x.0 c k.0) (omega arith) (client-stands serial_element serial_client_element (λ (serial : Serial). serial.client) plan.serial x.0 c k.0 x.1 k.1),
        refl,
        k.2,
      )
  of-element P At.Blk h =
      let x = held plan.blk (λ (blk : Blk). P (blk_element blk)) h in
      (blk_element x.0, in-blk 0 _ (blk_element x.0) (omega arith) (class-stands blk_element blk_client_element (λ (blk : Blk). blk.client) plan.blk x.0 x.1), refl, x.2)
  of-element P (At.BlkClient c) h =
      let x = held plan.blk (λ (blk : Blk). IsSomeAnd (slice_get blk.client c) (λ client. P (blk_client_element blk c client))) h in
      let k = held (slice_get x.0.client c) (λ client. P (blk_client_element x.0 c client)) x.2 in (
        blk_client_element x.0 c k.0,
        in-blk (1 + c) _ (blk_client_element x.0 c k.0) (omega arith) (client-stands blk_element blk_client_element (λ (blk : Blk). blk.client) plan.blk x.0 c k.0 x.1 k.1),
        refl,
        k.2,
      )
  of-element P At.System h = absurd h
  of-element P (At.Region r) h = absurd h
  of-element P (At.Domain d) h = absurd h
  of-element P (At.Map d m) h = absurd h
  of-element P (At.Irq d i) h = absurd h
  of-element P (At.Channel c) h = absurd h
  of-element P (At.End c e) h = absurd h

  -- an element of the table has the number of its place, and stands there
  abbrev Placed : (Element → Type 0) → ℕ → Element → Type 0
  Placed P n e = (number_of plan e.place ≡ n) × (P e → OfElement plan e.place P)

  net-placed : (P : Element → Type 0) (n : ℕ) (e : Element) → Stands net_element net_client_element (λ (net : Net). net.client) plan.net n e → Placed P n e
  net-placed P n e (inl (x, is, at, same)) = subst (Placed P n) same (at, λ p. there plan.net x (λ (net : Net). P (net_element net)) is p)
  net-placed P n e (inr (x, c, k, is, stands, at, same)) =
      subst (Placed P n) same (
        at,
        λ p. there plan.net x (λ (net : Net). IsSomeAnd (slice_get net.client c) (λ client. P (net_client_element net c client))) is
            (there (slice_get x.client c) k (λ client. P (net_client_element x c client)) stands p),
      )

  serial-placed : (P : Element → Type 0) (j n : ℕ) (e : Element) → net_count plan + j ≡ n → Stands serial_element serial_client_element (λ (serial : Serial). serial.client) plan.serial j e → Placed P n e
  serial-placed P j n e sum (inl (x, is, at, same)) =
      subst (Placed P n) same (omega (arith, sum, at), λ p. there plan.serial x (λ (serial : Serial). P (serial_element serial)) is p)
  serial-placed P j n e sum (inr (x, c, k, is, stands, at, same)) =
      subst (Placed P n) same (
        omega (arith, sum, at),
        λ p. there plan.serial x (λ (serial : Serial). IsSomeAnd (slice_get serial.client c) (λ client. P (serial_client_element serial c client))) is
            (there (slice_get x.client c) k (λ client. P (serial_client_element x c client)) stands p),
      )

  blk-placed : (P : Element → Type 0) (j n : ℕ) (e : Element) → net_count plan + serial_count plan + j ≡ n → Stands blk_element blk_client_element (λ (blk : Blk). blk.client) plan.blk j e → Placed P n e
  blk-placed P j n e sum (inl (x, is, at, same)) =
      subst (Placed P n) same (omega (arith, sum, at), λ p. there plan.blk x (λ (blk : Blk). P (blk_element blk)) is p)
  blk-placed P j n e sum (inr (x, c, k, is, stands, at, same)) =
      subst (Placed P n) same (
        omega (arith, sum, at),
        λ p. there plan.blk x (λ (blk : Blk). IsSomeAnd (slice_get blk.client c) (λ client. P (blk_client_element blk c client))) is
            (there (slice_get x.client c) k (λ client. P (blk_client_element x c client)) stands p),
      )

  pub placed : (P : Element → Type 0) (n : ℕ) (e : Element) → slice_get (table_of plan) n ≡ Some e → Placed P n e
  unfolding table_of
  placed P n e at = elim (either (net_part ++ serial_part) blk_part n e at) [
    | inl two ↦ elim (either net_part serial_part n e two) [
      | inl one ↦ net-placed P n e (stands net_element net_client_element (λ (net : Net). net.client) plan.net n e one)
      | inr h ↦ serial-placed P h.0 n e h.1 (stands serial_element serial_client_element (λ (serial : Serial). serial.client) plan.serial h.0 e h.2)
    ]
    | inr h ↦
        blk-placed P h.0 n e (ap (λ m. m + h.0) (sym (length-append net_part serial_part)) ∙ h.1) (stands blk_element blk_client_element (λ (blk : Blk). blk.client) plan.blk h.0 e h.2)
  ]
