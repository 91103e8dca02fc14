-- How many entries are at an address, how many marks are set, and which descriptors of a list are
-- good.
use Rattle.std.proofs.Common.{◌≡◌, ◌⊎◌, ◌+◌, ◌-◌, ◌*◌, ◌/◌, ◌==◌, ◌<◌, ◌≤◌, ◌&&◌, ◌||◌, ℕ, zero, suc, Bool, true, false, not, cond, inl, inr, Option, Some, None, is_none, List, [], ◌∷◌, ◌++◌, All, length, slice_set, refl, sym, ap, ◌∙◌, add-zero, eq-eqb, ne_eqb, arith}
use Rattle.std.specs.List.{filter}
use Rattle.std.specs.Option.{option_to_list}
use Rattle.std.proofs.lemmas.Bool.{cases_eq, and_parts, eqb-true, ltb-true}
use Rattle.std.proofs.lemmas.List.{append-nil}
use Rattle.std.proofs.Math.Nat.{mul-div_cancel, mul-le-mul_right, le_of_mul-le-mul_right, le_of_eq}
use Rattle.std.proofs.lemmas.List.Elements.{filter-append}
use Rattle.std.proofs.lemmas.List.{get_or-set_same, get_or-set_other}
use Rattle.cargo_core.specs.declared.item.Item.{Item}
use Rattle.cargo_core.specs.declared.item.Item.TheVariants as ItemOf
use Rattle.cargo_core.specs.declared.item.Body.TheVariants as Carried
use Rattle.cargo_core.specs.declared.item.QueueKind.TheVariants as Kind
use Rattle.cargo_core.specs.declared.item.PoolId.{PoolId}
use Rattle.cargo_core.specs.Items.{kind_of}
use Rattle.wire_core.specs.Bells.{bit}
use Rattle.wire_core.specs.Deeds.{Cargo}
use Rattle.turn_kit.proofs.Holding.{cargo-append}
use Rattle.buffer_kit.specs.Entries.{addr_of}
use Rattle.net_virt_tx.specs.declared.client.Client.{Client}
use Rattle.net_virt_tx.specs.declared.descriptors.Sender.{Sender}
use Rattle.net_virt_tx.specs.Descriptors.{to_device, to_client, with_addr}
use Rattle.net_virt_tx.specs.Queued.{returns_list}
use Rattle.net_virt_tx.specs.Serving.{is_good_of, bad_ones}
use Rattle.net_virt_tx.specs.Clients.{at_address, how_many, is_marked, number_of, carried, client_cargo}

pub at_append : (a : ℕ) (xs ys : List Cargo) → at_address a (xs ++ ys) ≡ at_address a xs + at_address a ys
at_append a [] ys = omega arith
at_append a (x ∷ xs) ys = let e = at_append a xs ys in omega (arith, e)

pub at_split : (a : ℕ) (p : Cargo → Bool) (xs : List Cargo) → at_address a xs ≡ at_address a (filter p xs) + at_address a (filter (λ c. not (p c)) xs)
at_split a p [] = refl
at_split a p (x ∷ xs) = either (p x) (at_split a p xs)
  where
    either : (t : Bool) → at_address a xs ≡ at_address a (filter p xs) + at_address a (filter (λ c. not (p c)) xs) → at_address a (x ∷ xs) ≡ at_address a (cond t (x ∷ filter p xs) (filter p xs)) + at_address a (cond (not t) (x ∷ filter (λ c. not (p c)) xs) (filter (λ c. not (p c)) xs))
    either true e = omega (arith, e)
    either false e = omega (arith, e)

pub bit_same : (n b : ℕ) → n ≡ b → bit (n == b) ≡ 1
bit_same n b e = ap bit (eq-eqb n b e)

pub bit_other : (n b : ℕ) → (n ≡ b → ⊥) → bit (n == b) ≡ 0
bit_other n b ne = ap bit (ne_eqb n b ne)

pub bit_most : (t : Bool) → bit t ≤ 1
bit_most true = omega arith
bit_most false = omega arith

-- buffers of one size have an address each
pub same_number : (size n b : ℕ) → 1 ≤ size → n * size ≡ b * size → n ≡ b
same_number size n b some e =
    let low : n ≤ b = le_of_mul-le-mul_right (le_of_eq e) some in
    let high : b ≤ n = le_of_mul-le-mul_right (le_of_eq (sym e)) some in
    omega (arith, low, high)

-- a buffer ends before the end of all
pub ends_within : (size n many : ℕ) → n < many → n * size + size ≤ many * size
ends_within size n many low =
    let h : (n + 1) * size ≤ many * size = mul-le-mul_right size (omega (arith, low)) in
    omega (arith, h)

-- the number of a buffer, by its address
pub number_back : (size n : ℕ) → 1 ≤ size → n * size / size ≡ n
number_back size n some = mul-div_cancel n some

-- an entry at a buffer is at that address and at no other buffer's
pub one_at : (size : ℕ) (base n b : ℕ) (x : Cargo) → addr_of x.0 ≡ base + n * size → (n ≡ b) → at_address (base + b * size) (x ∷ []) ≡ 1
one_at size base n b x at e = add-zero (bit (addr_of x.0 == base + b * size)) ∙ bit_same (addr_of x.0) (base + b * size) (at ∙ ap (λ k. base + k * size) e)

pub none_at : (size : ℕ) → 1 ≤ size → (base n b : ℕ) (x : Cargo) → addr_of x.0 ≡ base + n * size → (n ≡ b → ⊥) → at_address (base + b * size) (x ∷ []) ≡ 0
none_at size some base n b x at ne = add-zero (bit (addr_of x.0 == base + b * size)) ∙ bit_other (addr_of x.0) (base + b * size) (λ e. ne (same_number size n b some (omega (arith, at, e))))

pub offset_at : (size : ℕ) (n b : ℕ) (x : Cargo) → addr_of x.0 ≡ n * size → (n ≡ b) → at_address (b * size) (x ∷ []) ≡ 1
offset_at size n b x at e = add-zero (bit (addr_of x.0 == b * size)) ∙ bit_same (addr_of x.0) (b * size) (at ∙ ap (λ k. k * size) e)

pub offset_off : (size : ℕ) → 1 ≤ size → (n b : ℕ) (x : Cargo) → addr_of x.0 ≡ n * size → (n ≡ b → ⊥) → at_address (b * size) (x ∷ []) ≡ 0
offset_off size some n b x at ne = add-zero (bit (addr_of x.0 == b * size)) ∙ bit_other (addr_of x.0) (b * size) (λ e. ne (same_number size n b some (omega (arith, at, e))))

pub where_at : (P : Cargo → Type 0) (a : ℕ) (xs : List Cargo) → All P xs → 0 < at_address a xs → (x : Cargo) × P x × (addr_of x.0 ≡ a)
where_at P a [] h some = absurd (omega (arith, some))
where_at P a (x ∷ xs) h some = by_test (cases_eq (addr_of x.0) a) (λ more. where_at P a xs (λ k d l. h (suc k) d (omega (arith, l))) more)
  where
    by_test : (addr_of x.0 ≡ a) ⊎ (addr_of x.0 ≡ a → ⊥) → (0 < at_address a xs → (y : Cargo) × P y × (addr_of y.0 ≡ a)) → (y : Cargo) × P y × (addr_of y.0 ≡ a)
    by_test (inl e) later = (x, h zero x (omega arith), e)
    by_test (inr ne) later = let none = bit_other (addr_of x.0) a ne in later (omega (arith, none, some))

-- marks
pub marked_within : (xs : List Bool) (k : ℕ) → is_marked xs k ≡ true → k < length xs
marked_within [] k h = absurd cc
marked_within (x ∷ xs) zero h = omega arith
marked_within (x ∷ xs) (suc k) h = let e = marked_within xs k h in omega (arith, e)

pub many_set : (xs : List Bool) (k : ℕ) (v : Bool) → k < length xs → how_many (slice_set xs k v) + bit (is_marked xs k) ≡ how_many xs + bit v
many_set [] k v h = absurd (omega (arith, h))
many_set (x ∷ xs) zero v h = omega arith
many_set (x ∷ xs) (suc k) v h = let e = many_set xs k v (omega (arith, h)) in omega (arith, e)

pub few_marked : (xs : List Bool) → how_many xs ≤ length xs
few_marked [] = omega arith
few_marked (true ∷ xs) = let h = few_marked xs in omega (arith, h)
few_marked (false ∷ xs) = let h = few_marked xs in omega (arith, h)

pub set_here : (xs : List Bool) (n b : ℕ) (v : Bool) → n < length xs → n ≡ b → bit (is_marked (slice_set xs n v) b) ≡ bit v
set_here xs n b v within e = ap (λ m. bit (is_marked (slice_set xs n v) m)) (sym e) ∙ ap bit (get_or-set_same xs n v false within)

pub set_beside : (xs : List Bool) (n b : ℕ) (v : Bool) → (n ≡ b → ⊥) → bit (is_marked (slice_set xs n v) b) ≡ bit (is_marked xs b)
set_beside xs n b v ne = ap bit (get_or-set_other xs n b v false (λ e. ne (sym e)))

pub mark_true : (t : Bool) → 1 ≤ bit t → t ≡ true
mark_true true h = refl
mark_true false h = absurd (omega (arith, h))

pub mark_false : (t : Bool) → bit t ≡ 0 → t ≡ false
mark_false true h = absurd (omega (arith, h))
mark_false false h = refl

-- addresses
pub kind_same : (a : ℕ) (item : Item) → kind_of (with_addr a item) ≡ kind_of item
kind_same a (ItemOf.Net d) = refl
kind_same a (ItemOf.Byte b) = refl
kind_same a (ItemOf.Req r) = refl
kind_same a (ItemOf.Resp r) = refl

pub addr_with : (a : ℕ) (item : Item) → kind_of item ≡ Kind.Net → addr_of (with_addr a item) ≡ a
addr_with a (ItemOf.Net d) k = refl
addr_with a (ItemOf.Byte b) k = absurd cc
addr_with a (ItemOf.Req r) k = absurd cc
addr_with a (ItemOf.Resp r) k = absurd cc

back_to : (base : ℕ) (item : Item) → with_addr (addr_of (with_addr (base + addr_of item) item) - base) (with_addr (base + addr_of item) item) ≡ item
back_to base (ItemOf.Net d) = let e : base + d.addr - base ≡ d.addr = omega arith in ap (λ n. ItemOf.Net (record { addr = n; len = d.len })) e
back_to base (ItemOf.Byte b) = refl
back_to base (ItemOf.Req r) = refl
back_to base (ItemOf.Resp r) = refl

pub back_again : (base : ℕ) (x : Cargo) → to_client base (to_device base x) ≡ x
back_again base (item, body) = ap (λ i. (i, body)) (back_to base item)

-- a good descriptor
pub good_is : (s : Sender) (x : Cargo) → is_good_of s x ≡ true → (number_of x.1 < s.buffers) × (addr_of x.0 ≡ number_of x.1 * s.size)
good_is s (item, Carried.Page page) h =
    let one = and_parts _ _ h in
    let two = and_parts _ _ one.1 in
    let three = and_parts _ _ two.1 in
    (ltb-true page.no s.buffers two.0, eqb-true (addr_of item) (page.no * s.size) three.0)
good_is s (item, Carried.Lease lease) h = absurd cc
good_is s (item, Carried.Empty) h = absurd cc

pub good_more : (s : Sender) (cs : List Cargo) (x : Cargo) → is_good_of s x ≡ true → (filter (is_good_of s) (cs ++ x ∷ []) ≡ filter (is_good_of s) cs ++ x ∷ []) × (bad_ones s (cs ++ x ∷ []) ≡ bad_ones s cs)
good_more s cs x good = (
  filter-append (is_good_of s) cs (x ∷ []) ∙ ap (λ b. filter (is_good_of s) cs ++ cond b (x ∷ []) []) good,
  filter-append (λ c. not (is_good_of s c)) cs (x ∷ []) ∙ (ap (λ b. bad_ones s cs ++ cond (not b) (x ∷ []) []) good ∙ append-nil (bad_ones s cs)),
)

pub bad_more : (s : Sender) (cs : List Cargo) (x : Cargo) → is_good_of s x ≡ false → (filter (is_good_of s) (cs ++ x ∷ []) ≡ filter (is_good_of s) cs) × (bad_ones s (cs ++ x ∷ []) ≡ bad_ones s cs ++ x ∷ [])
bad_more s cs x bad = (
  filter-append (is_good_of s) cs (x ∷ []) ∙ (ap (λ b. filter (is_good_of s) cs ++ cond b (x ∷ []) []) bad ∙ append-nil (filter (is_good_of s) cs)),
  filter-append (λ c. not (is_good_of s c)) cs (x ∷ []) ∙ ap (λ b. bad_ones s cs ++ cond (not b) (x ∷ []) []) bad,
)

-- what a client has, part by part
pub cargo_parts : (pool : PoolId) (c : Client) → carried pool (client_cargo c) ≡ carried pool (option_to_list c.leaving) + (carried pool (option_to_list c.bad) + carried pool (returns_list c.returns))
cargo_parts pool c =
    let a = cargo-append pool (option_to_list c.leaving) (option_to_list c.bad ++ returns_list c.returns) in
    let b = cargo-append pool (option_to_list c.bad) (returns_list c.returns) in
    omega (arith, a, b)

pub idle_parts : (leaving bad : Option Cargo) → (is_none leaving && is_none bad) ≡ true → (leaving ≡ None) × (bad ≡ None)
idle_parts None None h = (refl, refl)
idle_parts None (Some x) h = absurd cc
idle_parts (Some x) bad h = absurd cc

pub in_turn_parts : (g m : Bool) → (not g || not m) ≡ true → g ≡ true → m ≡ false
in_turn_parts true true h e = absurd cc
in_turn_parts true false h e = refl
in_turn_parts false m h e = absurd cc
