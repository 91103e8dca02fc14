-- What holds of the element of each class and of each client holds of all elements of a table.
use Rattle.std.proofs.Common.{◌≡◌, ℕ, zero, suc, ◌+◌, List, [], ◌∷◌, ◌++◌, flat_map, Option, Some, None, slice_get, refl, ap, sym, ◌∙◌, subst, arith, add-zero}
use Rattle.std.specs.Bool.{⊤}
use Rattle.std.specs.List.{All, Contains}
use Rattle.std.specs.Option.{option_map, option_map_or}
use Rattle.std.proofs.lemmas.List.Elements.{All-nil, All-cons, All-append, All-head, All-tail, All-contains, Contains-append_left, Contains-append_right}
use Rattle.std.proofs.lemmas.Option.{slice_get_within, slice_get-get_or, get_or_from_slice_get}
use Rattle.sdf_plan.specs.declared.plan.Plan.{Plan}
use Rattle.sdf_plan.specs.declared.plan.Net.{Net}
use Rattle.sdf_plan.specs.declared.plan.NetClient.{NetClient}
use Rattle.sdf_plan.specs.declared.plan.Serial.{Serial}
use Rattle.sdf_plan.specs.declared.plan.SerialClient.{SerialClient}
use Rattle.sdf_plan.specs.declared.plan.Blk.{Blk}
use Rattle.sdf_plan.specs.declared.plan.BlkClient.{BlkClient}
use Rattle.sdf_plan.proofs.ClassTable.At.{numbered-get}
use Rattle.sdf_plan.specs.ClassTable.Table.{Element, numbered, table_of, net_element, net_client_element, net_elements, serial_element, serial_client_element, serial_elements, blk_element, blk_client_element, blk_elements}

-- one by one
abbrev pub Each : {X : Type 0} → (X → Type 0) → List X → Type 0
Each P [] = ⊤
Each P (x ∷ xs) = P x × Each P xs

pub each-all : {X : Type 0} (P : X → Type 0) (xs : List X) → Each P xs → All P xs
each-all P [] h = All-nil P
each-all P (x ∷ xs) h = All-cons P x xs h.0 (each-all P xs h.1)

pub contains-at : {X : Type 0} (xs : List X) (k : ℕ) (x : X) → slice_get xs k ≡ Some x → Contains xs x
contains-at xs k x at = (k, slice_get_within xs k x at, get_or_from_slice_get xs k x x at)

pub all-each : {X : Type 0} (P : X → Type 0) (xs : List X) → ((k : ℕ) (x : X) → slice_get xs k ≡ Some x → P x) → All P xs
all-each P [] h = All-nil P
all-each P (x ∷ xs) h = All-cons P x xs (h 0 x refl) (all-each P xs (λ k. h (suc k)))

pub all-at : {X : Type 0} (P : X → Type 0) (xs : List X) → All P xs → (k : ℕ) (x : X) → slice_get xs k ≡ Some x → P x
all-at P xs all k x at = All-contains P xs x all (contains-at xs k x at)

-- what each gives, one after another
pub all-flat : {X Y : Type 0} (P : Y → Type 0) (give : X → List Y) (xs : List X) → All (λ x. All P (give x)) xs → All P (flat_map give xs)
all-flat P give [] h = All-nil P
all-flat P give (x ∷ xs) h =
    All-append P (give x) (flat_map give xs) (All-head (λ y. All P (give y)) x xs h) (all-flat P give xs (All-tail (λ y. All P (give y)) x xs h))

flat-at : {X Y : Type 0} (give : X → List Y) (xs : List X) (k : ℕ) (x : X) (y : Y) → slice_get xs k ≡ Some x → Contains (give x) y → Contains (flat_map give xs) y
flat-at give [] k x y at there = cc
flat-at give (z ∷ xs) zero x y at there =
    let same : x ≡ z = cc in Contains-append_left (give z) (flat_map give xs) y (subst (λ w. Contains (give w) y) same there)
flat-at give (z ∷ xs) (suc k) x y at there = Contains-append_right (give z) (flat_map give xs) y (flat-at give xs k x y at there)

pub contains-flat : {X Y : Type 0} (give : X → List Y) (xs : List X) (x : X) (y : Y) → Contains xs x → Contains (give x) y → Contains (flat_map give xs) y
contains-flat give xs x y at there = flat-at give xs at.0 x y (slice_get-get_or xs at.0 x at.1 ∙ ap Some at.2) there

-- of the clients of a class
pub all-numbered : {C T : Type 0} (P : T → Type 0) (give : ℕ → C → T) (c : ℕ) (clients : List C)
    → ((k : ℕ) (client : C) → slice_get clients k ≡ Some client → P (give (c + k) client)) → All P (numbered give c clients)
all-numbered P give c [] h = All-nil P
all-numbered {C} P give c (client ∷ rest) h =
    All-cons P (give c client) (numbered give (c + 1) rest) (subst (λ n. P (give n client)) (add-zero c) (h 0 client refl))
    (all-numbered P give (c + 1) rest (λ k (other : C) there. let same : c + suc k ≡ c + 1 + k = omega arith in subst (λ n. P (give n other)) same (h (suc k) other there)))

all-class : {C : Type 0} (P : Element → Type 0) (elements : C → List Element) (class : Option C) → ((x : C) → class ≡ Some x → All P (elements x)) → All P (option_map_or elements class [])
all-class P elements None h = All-nil P
all-class P elements (Some x) h = h x refl

zero-first : (P : ℕ → Type 0) (k : ℕ) → P k → P (0 + k)
zero-first P k h = let same : k ≡ 0 + k = omega arith in subst P same h

-- of a table
pub all-table : (P : Element → Type 0) (plan : Plan) → ((net : Net) → plan.net ≡ Some net → P (net_element net))
    → ((net : Net) (c : ℕ) (client : NetClient) → plan.net ≡ Some net → slice_get net.client c ≡ Some client → P (net_client_element net c client))
    → ((serial : Serial) → plan.serial ≡ Some serial → P (serial_element serial))
    → ((serial : Serial) (c : ℕ) (client : SerialClient) → plan.serial ≡ Some serial → slice_get serial.client c ≡ Some client → P (serial_client_element serial c client))
    → ((blk : Blk) → plan.blk ≡ Some blk → P (blk_element blk))
    → ((blk : Blk) (c : ℕ) (client : BlkClient) → plan.blk ≡ Some blk → slice_get blk.client c ≡ Some client → P (blk_client_element blk c client)) → All P (table_of plan)
unfolding table_of
all-table P plan net net_client serial serial_client blk blk_client =
    All-append P (option_map_or net_elements plan.net [] ++ option_map_or serial_elements plan.serial []) (option_map_or blk_elements plan.blk [])
    (All-append P (option_map_or net_elements plan.net []) (option_map_or serial_elements plan.serial [])
    (all-class P net_elements plan.net (λ x is. All-cons P (net_element x) (numbered (net_client_element x) 0 x.client) (net x is)
    (all-numbered P (net_client_element x) 0 x.client (λ k client there. zero-first (λ n. P (net_client_element x n client)) k (net_client x k client is there)))))
    (all-class P serial_elements plan.serial (λ x is. All-cons P (serial_element x) (numbered (serial_client_element x) 0 x.client) (serial x is)
    (all-numbered P (serial_client_element x) 0 x.client (λ k client there. zero-first (λ n. P (serial_client_element x n client)) k (serial_client x k client is there))))))
    (all-class P blk_elements plan.blk (λ x is. All-cons P (blk_element x) (numbered (blk_client_element x) 0 x.client) (blk x is)
    (all-numbered P (blk_client_element x) 0 x.client (λ k client there. zero-first (λ n. P (blk_client_element x n client)) k (blk_client x k client is there)))))

-- the client of a number stands behind the class
pub client-at : {C : Type 0} (first : Element) (give : ℕ → C → Element) (clients : List C) (c : ℕ) (client : C) → slice_get clients c ≡ Some client
    → slice_get (first ∷ numbered give 0 clients) (suc c) ≡ Some (give c client)
client-at first give clients c client there =
    let same : 0 + c ≡ c = omega arith in
    numbered-get give 0 clients c ∙ (ap (λ n. option_map (give n) (slice_get clients c)) same ∙ ap (option_map (give c)) there)

-- the element of a class, and that of one of its clients, stand in the table
module _ (plan : Plan) where
  abbrev net_part : List Element
  net_part = option_map_or net_elements plan.net []

  abbrev serial_part : List Element
  serial_part = option_map_or serial_elements plan.serial []

  abbrev blk_part : List Element
  blk_part = option_map_or blk_elements plan.blk []

  class-part : {C : Type 0} (elements : C → List Element) (class : Option C) (x : C) (k : ℕ) (e : Element) → class ≡ Some x → slice_get (elements x) k ≡ Some e
      → Contains (option_map_or elements class []) e
  class-part {C} elements class x k e is at = subst (λ (o : Option C). Contains (option_map_or elements o []) e) (sym is) (contains-at (elements x) k e at)

  pub in-net : (net : Net) (k : ℕ) (e : Element) → plan.net ≡ Some net → slice_get (net_elements net) k ≡ Some e → Contains (table_of plan) e
  unfolding table_of
  in-net net k e is at =
      Contains-append_left (net_part ++ serial_part) blk_part e (Contains-append_left net_part serial_part e (class-part net_elements plan.net net k e is at))

  pub in-serial : (serial : Serial) (k : ℕ) (e : Element) → plan.serial ≡ Some serial → slice_get (serial_elements serial) k ≡ Some e → Contains (table_of plan) e
  unfolding table_of
  in-serial serial k e is at =
      Contains-append_left (net_part ++ serial_part) blk_part e (Contains-append_right net_part serial_part e (class-part serial_elements plan.serial serial k e is at))

  pub in-blk : (blk : Blk) (k : ℕ) (e : Element) → plan.blk ≡ Some blk → slice_get (blk_elements blk) k ≡ Some e → Contains (table_of plan) e
  unfolding table_of
  in-blk blk k e is at = Contains-append_right (net_part ++ serial_part) blk_part e (class-part blk_elements plan.blk blk k e is at)
