use Rattle.std.proofs.Common.{◌≡◌, ◌⊎◌, ◌==◌, ◌+◌, ◌*◌, ◌<◌, ◌≤◌, ◌≢◌, ℕ, suc, Bool, true, false, cond, nat_lt, Option, Some, None, List, [], ◌∷◌, ◌++◌, map, All, slice_get, refl, sym, ap, ap₂, ◌∙◌, subst, arith, eqb-true, eq-eqb, ltb-true, inl, inr}
use Rattle.std.specs.List.{filter}
use Rattle.std.proofs.Math.Dec.{eqb}
use Rattle.std.proofs.lemmas.Bool.Decides.{eqb_tells}
use Rattle.std.proofs.lemmas.List.Sums.{sum_by-cons}
use Rattle.cargo_core.specs.declared.item.Item.{Item}
use Rattle.cargo_core.specs.declared.item.Item.TheVariants as ItemOf
use Rattle.cargo_core.specs.declared.item.Body.{Body}
use Rattle.cargo_core.specs.declared.item.Body.TheVariants as Carried
use Rattle.cargo_core.specs.Items.{kind_of}
use Rattle.cargo_core.specs.Lists.{IsPrefix}
use Rattle.cargo_core.specs.declared.item.QueueKind.TheVariants as Kind
use Rattle.frame_core.specs.declared.mac.Mac.{Mac}
use Rattle.wire_core.specs.Bells.{bit}
use Rattle.wire_core.specs.Deeds.{Cargo}
use Rattle.wire_core.specs.Queues.{items_of}
use Rattle.owner_law.specs.Things.{Buffer, is_same, Window, begins_at, number_at, buffer_at, buffer_of, names_in, is_named, times}
use Rattle.owner_law.proofs.Sums.{same_is}
use Rattle.class_expect.specs.NetExpect.Expecting.{is_for_client}
use Rattle.buffer_kit.specs.Entries.{addr_of, frame_of}
use Rattle.buffer_kit.specs.declared.stock.Stock.{Stock}
use Rattle.net_virt_rx.specs.Sharing.{named, lease_of, leases_for, IsBuffer}
use Rattle.net_law.specs.Owners.Ends.{stock_window}
use Rattle.net_law.specs.Owners.Lending.{names_where}
use Rattle.net_law.specs.RxOwners.Virtualiser.{offset_window, AreNet}
use Rattle.net_law.proofs.OwnersLemmas.Clients.{at_address}

-- the names of entries
abbrev pub names_of : Window → List Cargo → List (Option Buffer)
names_of w cs = names_in (w ∷ []) (items_of cs)

-- one address names a buffer of a window exactly where it is the buffer's
module _ (w : Window) (b : Buffer) (some : 0 < w.size) where
  other_address : (a : ℕ) → (w.base + b.no * w.size ≡ a → ⊥) → (t : Bool) → begins_at w a ≡ t → is_named b (cond t (Some (record { pool = w.pool; no = number_at w a })) None) ≡ 0
  other_address a off false is = refl
  other_address a off true is = by (is_same (record { pool = w.pool; no = number_at w a }) b) refl
    where
      by : (t : Bool) → is_same (record { pool = w.pool; no = number_at w a }) b ≡ t → bit t ≡ 0
      by false e = refl
      by true e =
          let same : number_at w a ≡ b.no = ap (λ (x : Buffer). x.no) (same_is (record { pool = w.pool; no = number_at w a }) b e) in
          let two : begins_at w a ≡ true → (nat_lt (number_at w a) w.buffers ≡ true) × ((w.base + number_at w a * w.size == a) ≡ true) = λ h. Rattle.owner_law.proofs.Sums.both (nat_lt (number_at w a) w.buffers) (w.base + number_at w a * w.size == a) h in
          absurd (off (ap (λ n. w.base + n * w.size) (sym same) ∙ eqb-true (w.base + number_at w a * w.size) a (two is).1))

  -- of a buffer of the window
  inside : w.pool ≡ b.pool → b.no < w.buffers → (a : ℕ) → is_named b (buffer_at (w ∷ []) a) ≡ bit (a == w.base + b.no * w.size)
  inside pool lt a = by (eqb_tells a (w.base + b.no * w.size))
    where
      here : a ≡ w.base + b.no * w.size → is_named b (buffer_at (w ∷ []) a) ≡ 1
      here e = ap (λ x. is_named b (buffer_at (w ∷ []) x)) e ∙ (ap (is_named b) (at_address w b.no some lt) ∙ rw (pool, eq-eqb b.pool b.pool refl, eq-eqb b.no b.no refl) refl)

      by : ((eqb a (w.base + b.no * w.size) ≡ true) × (a ≡ w.base + b.no * w.size)) ⊎ ((eqb a (w.base + b.no * w.size) ≡ false) × (a ≢ w.base + b.no * w.size)) → is_named b (buffer_at (w ∷ []) a) ≡ bit (a == w.base + b.no * w.size)
      by (inl h) = here h.1 ∙ sym (ap bit h.0)
      by (inr h) = other_address a (λ e. h.1 (sym e)) (begins_at w a) refl ∙ sym (ap bit h.0)

-- of a buffer that isn't of the window
outside : (w : Window) (b : Buffer) → ((w.pool ≡ b.pool) × (b.no < w.buffers) → ⊥) → (a : ℕ) → is_named b (buffer_at (w ∷ []) a) ≡ 0
outside w b off a = by (begins_at w a) refl
  where
    by : (t : Bool) → begins_at w a ≡ t → is_named b (cond t (Some (record { pool = w.pool; no = number_at w a })) None) ≡ 0
    by false is = refl
    by true is = same (is_same (record { pool = w.pool; no = number_at w a }) b) refl
      where
        same : (t : Bool) → is_same (record { pool = w.pool; no = number_at w a }) b ≡ t → bit t ≡ 0
        same false e = refl
        same true e =
            let it = same_is (record { pool = w.pool; no = number_at w a }) b e in
            let two = Rattle.owner_law.proofs.Sums.both (nat_lt (number_at w a) w.buffers) (w.base + number_at w a * w.size == a) is in
            absurd (off (ap (λ (x : Buffer). x.pool) it, subst (λ n. n < w.buffers) (ap (λ (x : Buffer). x.no) it) (ltb-true (number_at w a) w.buffers two.0)))

named_item : (w : Window) (b : Buffer) → 0 < w.size → w.pool ≡ b.pool → b.no < w.buffers → (i : Item) → kind_of i ≡ Kind.Net → is_named b (buffer_of (w ∷ []) i) ≡ bit (addr_of i == w.base + b.no * w.size)
named_item w b some pool lt (ItemOf.Net d) net = inside w b some pool lt d.addr
named_item w b some pool lt (ItemOf.Byte x) net = cc
named_item w b some pool lt (ItemOf.Req r) net = cc
named_item w b some pool lt (ItemOf.Resp r) net = cc

outside_item : (w : Window) (b : Buffer) → ((w.pool ≡ b.pool) × (b.no < w.buffers) → ⊥) → (i : Item) → kind_of i ≡ Kind.Net → is_named b (buffer_of (w ∷ []) i) ≡ 0
outside_item w b off (ItemOf.Net d) net = outside w b off d.addr
outside_item w b off (ItemOf.Byte x) net = cc
outside_item w b off (ItemOf.Req r) net = cc
outside_item w b off (ItemOf.Resp r) net = cc

-- the two ways to count entries that name a buffer
pub times_named : (w : Window) (b : Buffer) → 0 < w.size → w.pool ≡ b.pool → b.no < w.buffers → (cs : List Cargo) → AreNet cs → times b (names_of w cs) ≡ named w.base w.size b.no cs
times_named w b some pool lt [] net = refl
times_named w b some pool lt (c ∷ cs) net = omega (arith, sum_by-cons (is_named b) (buffer_of (w ∷ []) c.0) (names_of w cs), named_item w b some pool lt c.0 (net 0 c refl), times_named w b some pool lt cs (λ k d at. net (suc k) d at))

pub times_outside : (w : Window) (b : Buffer) → ((w.pool ≡ b.pool) × (b.no < w.buffers) → ⊥) → (cs : List Cargo) → AreNet cs → times b (names_of w cs) ≡ 0
times_outside w b off [] net = refl
times_outside w b off (c ∷ cs) net = omega (arith, sum_by-cons (is_named b) (buffer_of (w ∷ []) c.0) (names_of w cs), outside_item w b off c.0 (net 0 c refl), times_outside w b off cs (λ k d at. net (suc k) d at))

-- the lease of a frame names the frame's buffer
lease_name : (s : Stock) → 0 < s.size → (item : Item) (body : Body) → IsBuffer s (item, body) → kind_of item ≡ Kind.Net → buffer_of (offset_window s ∷ []) (lease_of s.size (item, body)).0 ≡ buffer_of (stock_window s ∷ []) item
lease_name s some (ItemOf.Net d) (Carried.Page page) is net =
    let zero_ : page.no * s.size ≡ 0 + page.no * s.size = omega arith in
    ap (buffer_at (offset_window s ∷ [])) zero_ ∙ (at_address (offset_window s) page.no some is.1 ∙ (sym (at_address (stock_window s) page.no some is.1) ∙ ap (buffer_at (stock_window s ∷ [])) (sym is.2)))
lease_name s some (ItemOf.Byte x) (Carried.Page page) is net = cc
lease_name s some (ItemOf.Req r) (Carried.Page page) is net = cc
lease_name s some (ItemOf.Resp r) (Carried.Page page) is net = cc
lease_name s some item (Carried.Empty) is net = absurd is
lease_name s some item (Carried.Lease lease) is net = absurd is

-- the leases of a client's frames name the buffers at its places
pub leases_names : (s : Stock) → 0 < s.size → (mac : Mac) (frame : ℕ → List ℕ) (k : ℕ) (cs : List Cargo) → All (IsBuffer s) cs → AreNet cs → ((i : ℕ) (c : Cargo) → slice_get cs i ≡ Some c → frame_of c ≡ frame (k + i)) → names_of (offset_window s) (leases_for s.size mac cs) ≡ names_where (λ n. is_for_client mac (frame n)) k (names_of (stock_window s) cs)
leases_names s some mac frame k [] within net frames = refl
leases_names s some mac frame k (c ∷ cs) within net frames =
    let own : is_for_client mac (frame_of c) ≡ is_for_client mac (frame k) = ap (is_for_client mac) (frames 0 c refl ∙ ap frame plus) in
    let head : buffer_of (offset_window s ∷ []) (lease_of s.size c).0 ≡ buffer_of (stock_window s ∷ []) c.0 = lease_name s some c.0 c.1 (within 0 c (omega arith)) (net 0 c refl) in
    let tail = leases_names s some mac frame (k + 1) cs (λ i d lt. within (suc i) d (omega (arith, lt))) (λ i d at. net (suc i) d at) (λ i d at. frames (suc i) d at ∙ ap frame (shift i)) in
    ap (λ t. names_of (offset_window s) (map (lease_of s.size) (cond t (c ∷ filter (λ d. is_for_client mac (frame_of d)) cs) (filter (λ d. is_for_client mac (frame_of d)) cs)))) own ∙ by (is_for_client mac (frame k)) head tail
  where
    plus : k + 0 ≡ k
    plus = omega arith

    shift : (i : ℕ) → k + suc i ≡ k + 1 + i
    shift i = omega arith

    by : (t : Bool) → buffer_of (offset_window s ∷ []) (lease_of s.size c).0 ≡ buffer_of (stock_window s ∷ []) c.0 → names_of (offset_window s) (leases_for s.size mac cs) ≡ names_where (λ n. is_for_client mac (frame n)) (k + 1) (names_of (stock_window s) cs) → names_of (offset_window s) (map (lease_of s.size) (cond t (c ∷ filter (λ d. is_for_client mac (frame_of d)) cs) (filter (λ d. is_for_client mac (frame_of d)) cs))) ≡ cond t (buffer_of (stock_window s ∷ []) c.0 ∷ names_where (λ n. is_for_client mac (frame n)) (k + 1) (names_of (stock_window s) cs)) (names_where (λ n. is_for_client mac (frame n)) (k + 1) (names_of (stock_window s) cs))
    by true head tail = ap₂ (λ x xs. x ∷ xs) head tail
    by false head tail = tail

-- of more frames, the first
pub where_begins : (test : ℕ → Bool) (k : ℕ) (xs ys : List (Option Buffer)) → IsPrefix (names_where test k xs) (names_where test k (xs ++ ys))
where_begins test k [] ys = (names_where test k ys, refl)
where_begins test k (x ∷ xs) ys = by (test k) (where_begins test (k + 1) xs ys)
  where
    by : (t : Bool) → IsPrefix (names_where test (k + 1) xs) (names_where test (k + 1) (xs ++ ys)) → IsPrefix (cond t (x ∷ names_where test (k + 1) xs) (names_where test (k + 1) xs)) (cond t (x ∷ names_where test (k + 1) (xs ++ ys)) (names_where test (k + 1) (xs ++ ys)))
    by true rest = (rest.0, ap (λ zs. x ∷ zs) rest.1)
    by false rest = rest

-- how much more they are, where these don't name the buffer
pub where_few : (b : Buffer) (test : ℕ → Bool) (k : ℕ) (xs : List (Option Buffer)) → times b (names_where test k xs) ≤ times b xs
where_few b test k [] = omega arith
where_few b test k (x ∷ xs) = by (test k) (where_few b test (k + 1) xs)
  where
    by : (t : Bool) → times b (names_where test (k + 1) xs) ≤ times b xs → times b (cond t (x ∷ names_where test (k + 1) xs) (names_where test (k + 1) xs)) ≤ times b (x ∷ xs)
    by true rest = omega (arith, sum_by-cons (is_named b) x (names_where test (k + 1) xs), sum_by-cons (is_named b) x xs, rest)
    by false rest = omega (arith, sum_by-cons (is_named b) x xs, rest)
