use Rattle.std.proofs.Common.{◌≡◌, ◌⊎◌, ◌==◌, ◌&&◌, ◌+◌, ◌-◌, ◌*◌, ◌<◌, ◌≤◌, ℕ, zero, suc, Bool, true, false, cond, nat_le, nat_lt, Option, Some, None, List, [], ◌∷◌, ◌++◌, length, map, flat_map, slice_get, slice_set, sum_by, refl, sym, ap, ◌∙◌, subst, arith, lt-ltb, inl, inr}
use Rattle.std.specs.List.{filter}
use Rattle.std.proofs.lemmas.Bool.{le-leb, leb-true, cases_lt}
use Rattle.std.proofs.lemmas.List.Sums.{sum_by-cons, sum_by-append}
use Rattle.cargo_core.specs.Items.{kind_of}
use Rattle.cargo_core.specs.Lists.{IsPrefix, Merge, merge_none, merge_next, PrefixMerge}
use Rattle.cargo_core.specs.declared.item.Item.{Item}
use Rattle.cargo_core.specs.declared.item.Item.TheVariants as ItemOf
use Rattle.cargo_core.specs.declared.item.QueueKind.TheVariants as Kind
use Rattle.play_core.specs.Moved.{Moved}
use Rattle.play_core.proofs.Lists.{some_is}
use Rattle.owner_law.specs.Things.{Buffer, Window, Naming, Thing, Nothing, Whole, names_in, is_named, times, buffer_of, buffer_at, begins_at, number_at, request_address, things_sent, things_taken, as_buffer, as_lease, lends}
use Rattle.owner_law.specs.Keeping.{Keeps, all_taken, all_put, PutsItsOwn}
use Rattle.owner_law.proofs.Named.{carried, buffers_are, buffers_none, keeps_plain}
use Rattle.owner_law.proofs.Sums.{both, sum_none}
use Rattle.buffer_kit.specs.Entries.{addr_of}
use Rattle.net_virt_tx.specs.Descriptors.{with_addr}
use Rattle.owner_law.specs.Pools.Places.{PoolAt, by_offset}
use Rattle.net_law.specs.TxParts.Parts.{SendPart, Shipper}
use Rattle.net_law.specs.TxParts.Rows.{at_device, in_range, at_home, IsOffset, all_sends, MergesSends}
use Rattle.net_law.specs.TxParts.Table.{send_sheet, shipper_ends}
use Rattle.net_virt_tx.proofs.Counting.{ends_within}
use Rattle.net_quiet.specs.TxOwners.Shipping.{device_windows, NamesSend, is_at, ArePoolsApart}
use Rattle.net_quiet.proofs.TxOwners.Windows.{pick_home}

-- sums
sum_mapped : {X Y : Type 0} (f : Y → ℕ) (g : X → Y) (xs : List X) → sum_by f (map g xs) ≡ sum_by (λ x. f (g x)) xs
sum_mapped f g [] = refl
sum_mapped f g (x ∷ xs) = omega (arith, sum_by-cons f (g x) (map g xs), sum_by-cons (λ y. f (g y)) x xs, sum_mapped f g xs)

sum_first : {X : Type 0} (f : X → ℕ) (g : List X → ℕ) → ((x : X) (l : List X) → g (x ∷ l) ≡ f x + g l) → (lists : List (List X)) (k : ℕ) (x : X) (l : List X) → slice_get lists k ≡ Some (x ∷ l) → sum_by g lists ≡ f x + sum_by g (slice_set lists k l)
sum_first f g cons [] k x l at = cc
sum_first f g cons (y ∷ lists) zero x l at = omega (arith, sum_by-cons g y lists, sum_by-cons g l lists, ap g (some_is at), cons x l)
sum_first f g cons (y ∷ lists) (suc k) x l at = omega (arith, sum_by-cons g y lists, sum_by-cons g y (slice_set lists k l), sum_first f g cons lists k x l at)

-- a merge has what its lists have
merge_sum : {X : Type 0} (f : X → ℕ) (lists : List (List X)) (all : List X) → Merge lists all → sum_by f all ≡ sum_by (λ l. sum_by f l) lists
merge_sum f lists _ (merge_none lists_ empty) = sym (sum_none (λ l. sum_by f l) lists (λ k l at. ap (sum_by f) (empty k l at)))
merge_sum f lists _ (merge_next lists_ k x l all first rest) = omega (arith, sum_by-cons f x all, merge_sum f (slice_set lists_ k l) all rest, sum_first f (λ ys. sum_by f ys) (λ y ys. sum_by-cons f y ys) lists_ k x l first)

prefix_sum : {X : Type 0} (f : X → ℕ) (xs ys : List X) → IsPrefix xs ys → sum_by f xs ≤ sum_by f ys
prefix_sum f xs ys begins = omega (arith, sum_by-append f xs begins.0, ap (sum_by f) begins.1)

sums_begin : {X : Type 0} (f : X → ℕ) (parts wholes : List (List X)) → length parts ≡ length wholes → ((k : ℕ) (part whole : List X) → slice_get parts k ≡ Some part → slice_get wholes k ≡ Some whole → IsPrefix part whole) → sum_by (λ l. sum_by f l) parts ≤ sum_by (λ l. sum_by f l) wholes
sums_begin f [] [] same begins = omega arith
sums_begin f [] (w ∷ wholes) same begins = omega arith
sums_begin f (p ∷ parts) [] same begins = absurd (omega (arith, same))
sums_begin f (p ∷ parts) (w ∷ wholes) same begins = omega (arith, sum_by-cons (λ l. sum_by f l) p parts, sum_by-cons (λ l. sum_by f l) w wholes, prefix_sum f p w (begins 0 p w refl refl), sums_begin f parts wholes (omega (arith, same)) (λ k x y x_at y_at. begins (suc k) x y x_at y_at))

pub merged_few : {X : Type 0} (f : X → ℕ) (lists : List (List X)) (all : List X) → PrefixMerge lists all → sum_by f all ≤ sum_by (λ l. sum_by f l) lists
merged_few f lists all m = omega (arith, merge_sum f m.parts all m.merged, sums_begin f m.parts lists m.as_many m.begins)

sums_few : {X : Type 0} (f g : X → ℕ) (xs : List X) → ((k : ℕ) (x : X) → slice_get xs k ≡ Some x → f x ≤ g x) → sum_by f xs ≤ sum_by g xs
sums_few f g [] each = omega arith
sums_few f g (x ∷ xs) each = omega (arith, sum_by-cons f x xs, sum_by-cons g x xs, each 0 x refl, sums_few f g xs (λ k y at. each (suc k) y at))

-- where no two terms are both there, none is more than this
sum_single : {X : Type 0} (f : X → ℕ) (d : ℕ) (xs : List X) → ((k : ℕ) (x : X) → slice_get xs k ≡ Some x → f x ≤ d) → ((j k : ℕ) (x y : X) → slice_get xs j ≡ Some x → slice_get xs k ≡ Some y → (j ≡ k → ⊥) → 0 < f x → f y ≡ 0) → sum_by f xs ≤ d
sum_single f d [] few apart = omega arith
sum_single f d (x ∷ xs) few apart = by (cases_lt 0 (f x)) (sum_single f d xs (λ k y at. few (suc k) y at) (λ j k y z y_at z_at ne. apart (suc j) (suc k) y z y_at z_at (λ h. ne (suc_is h))))
  where
    suc_is : {i j : ℕ} → suc i ≡ suc j → i ≡ j
    suc_is {i} {j} h = omega (arith, h)

    by : (0 < f x) ⊎ (f x ≤ 0) → sum_by f xs ≤ d → sum_by f (x ∷ xs) ≤ d
    by (inl some) rest = omega (arith, sum_by-cons f x xs, few 0 x refl, sum_none f xs (λ k y at. apart 0 (suc k) x y refl at (λ h. omega (arith, h)) some))
    by (inr none) rest = omega (arith, sum_by-cons f x xs, none, rest)

-- how often a buffer is named
named_sum : (b : Buffer) (ws : List Window) (items : List Item) → times b (names_in ws items) ≡ sum_by (λ i. is_named b (buffer_of ws i)) items
named_sum b ws items = sum_mapped (is_named b) (buffer_of ws) items

module _ (p : SendPart) (apart : ArePoolsApart p.clients) where
  abbrev ws : List Window
  ws = device_windows p.clients

  -- what goes to the driver names what came
  name_out : (k : ℕ) (c : Shipper) → slice_get p.clients k ≡ Some c → (item : Item) → IsOffset c.pool item → buffer_of ws (with_addr (c.pool.base + addr_of item) item) ≡ buffer_of (by_offset c.pool ∷ []) item
  name_out k c at (ItemOf.Net d) is =
      let a : ℕ = c.pool.base + d.addr in
      let low : nat_le c.pool.base a ≡ true = le-leb c.pool.base a (omega arith) in
      let high : nat_lt a (c.pool.base + c.pool.buffers * c.pool.size) ≡ true = lt-ltb a (c.pool.base + c.pool.buffers * c.pool.size) (let within = ends_within c.pool.size is.number c.pool.buffers is.few in let some = apart.sized k c at in let begins = is.begins in omega (arith, begins, some, within)) in
      let there : is_at c.pool a ≡ true = rw (low, high) refl in
      pick_home p.clients apart k c a at there ∙ ap (buffer_at (by_offset c.pool ∷ [])) (back c.pool.base d.addr)
    where
      back : (m n : ℕ) → m + n - m ≡ n
      back m n = omega arith
  name_out k c at (ItemOf.Byte x) is = let e : kind_of (ItemOf.Byte x) ≡ Kind.Net = is.net in cc
  name_out k c at (ItemOf.Req r) is = let e : kind_of (ItemOf.Req r) ≡ Kind.Net = is.net in cc
  name_out k c at (ItemOf.Resp r) is = let e : kind_of (ItemOf.Resp r) ≡ Kind.Net = is.net in cc

  sent_names : (k : ℕ) (c : Shipper) → slice_get p.clients k ≡ Some c → (items : List Item) → ((j : ℕ) (item : Item) → slice_get items j ≡ Some item → IsOffset c.pool item) → (b : Buffer) → sum_by (λ i. is_named b (buffer_of ws i)) (at_device c.pool items) ≡ sum_by (λ i. is_named b (buffer_of (by_offset c.pool ∷ []) i)) items
  sent_names k c at [] each b = refl
  sent_names k c at (i ∷ items) each b =
      omega (
        arith,
        sum_by-cons (λ j. is_named b (buffer_of ws j)) (with_addr (c.pool.base + addr_of i) i) (at_device c.pool items),
        sum_by-cons (λ j. is_named b (buffer_of (by_offset c.pool ∷ []) j)) i items,
        ap (is_named b) (name_out k c at i (each 0 i refl)),
        sent_names k c at items (λ j x x_at. each (suc j) x x_at) b,
      )

  -- a buffer that is named at home is named on the driver's side, where its item is in the range
  offset_some : (q : PoolAt) (b : Buffer) (a : ℕ) → 0 < is_named b (buffer_at (by_offset q ∷ []) a) → (n : ℕ) × (n < q.buffers) × (a ≡ n * q.size)
  offset_some q b a some = by (begins_at (by_offset q) a) refl
    where
      by : (t : Bool) → begins_at (by_offset q) a ≡ t → (n : ℕ) × (n < q.buffers) × (a ≡ n * q.size)
      by true is =
          let n = number_at (by_offset q) a in
          let two = both (nat_lt n q.buffers) (0 + n * q.size == a) is in
          (n, Rattle.std.proofs.Common.ltb-true n q.buffers two.0, omega (arith, Rattle.std.proofs.Common.eqb-true (0 + n * q.size) a two.1))
      by false is =
          let none : buffer_at (by_offset q ∷ []) a ≡ None = ap (λ t. cond t (Some (record { pool = q.number; no = number_at (by_offset q) a })) None) is in
          absurd (omega (arith, some, ap (is_named b) none))

  request_few : (k : ℕ) (c : Shipper) → slice_get p.clients k ≡ Some c → c.pool.base ≡ 0 → (b : Buffer) (o : Option ℕ) → is_named b (Rattle.std.specs.Option.option_and_then (buffer_at (by_offset c.pool ∷ [])) o) ≤ is_named b (Rattle.std.specs.Option.option_and_then (buffer_at ws) o)
  request_few k c at base b None = omega arith
  request_few k c at base b (Some a) = by (cases_lt 0 (is_named b (buffer_at (by_offset c.pool ∷ []) a)))
    where
      by : (0 < is_named b (buffer_at (by_offset c.pool ∷ []) a)) ⊎ (is_named b (buffer_at (by_offset c.pool ∷ []) a) ≤ 0) → is_named b (buffer_at (by_offset c.pool ∷ []) a) ≤ is_named b (buffer_at ws a)
      by (inr none) = omega (arith, none)
      by (inl some) =
          let x = offset_some c.pool b a some in
          let low : nat_le c.pool.base a ≡ true = le-leb c.pool.base a (omega (arith, base)) in
          let high : nat_lt a (c.pool.base + c.pool.buffers * c.pool.size) ≡ true = lt-ltb a (c.pool.base + c.pool.buffers * c.pool.size) (let within = ends_within c.pool.size x.0 c.pool.buffers x.1 in let sized = apart.sized k c at in let is = x.2 in omega (arith, is, sized, within)) in
          let there : is_at c.pool a ≡ true = rw (low, high) refl in
          let less : a - c.pool.base ≡ a = omega (arith, base) in
          omega (arith, ap (is_named b) (pick_home p.clients apart k c a at there ∙ ap (buffer_at (by_offset c.pool ∷ [])) less))

  home_few : (k : ℕ) (c : Shipper) → slice_get p.clients k ≡ Some c → (i : Item) → in_range c.pool i ≡ true → (b : Buffer) → is_named b (buffer_of (by_offset c.pool ∷ []) (with_addr (addr_of i - c.pool.base) i)) ≤ is_named b (buffer_of ws i)
  home_few k c at (ItemOf.Net d) there b = omega (arith, ap (is_named b) (pick_home p.clients apart k c d.addr at there))
  home_few k c at (ItemOf.Byte x) there b = omega arith
  home_few k c at (ItemOf.Req r) there b =
      let low = both (nat_le c.pool.base 0) (nat_lt 0 (c.pool.base + c.pool.buffers * c.pool.size)) there in
      request_few k c at (omega (arith, leb-true c.pool.base 0 low.0)) b (request_address r.code r.addr)
  home_few k c at (ItemOf.Resp r) there b = omega arith

  -- what came back for a client names what came from the driver
  one_home : Buffer → Item → Shipper → ℕ
  one_home = λ b i c. cond (in_range c.pool i) (is_named b (buffer_of (by_offset c.pool ∷ []) (with_addr (addr_of i - c.pool.base) i))) 0

  home_first : (c : Shipper) (i : Item) (items : List Item) (b : Buffer) → sum_by (λ j. is_named b (buffer_of (by_offset c.pool ∷ []) j)) (at_home c.pool (i ∷ items)) ≡ cond (in_range c.pool i) (is_named b (buffer_of (by_offset c.pool ∷ []) (with_addr (addr_of i - c.pool.base) i))) 0 + sum_by (λ j. is_named b (buffer_of (by_offset c.pool ∷ []) j)) (at_home c.pool items)
  home_first c i items b = by (in_range c.pool i)
    where
      by : (t : Bool) → sum_by (λ j. is_named b (buffer_of (by_offset c.pool ∷ []) j)) (map (λ j. with_addr (addr_of j - c.pool.base) j) (cond t (i ∷ filter (in_range c.pool) items) (filter (in_range c.pool) items))) ≡ cond t (is_named b (buffer_of (by_offset c.pool ∷ []) (with_addr (addr_of i - c.pool.base) i))) 0 + sum_by (λ j. is_named b (buffer_of (by_offset c.pool ∷ []) j)) (at_home c.pool items)
      by true = sum_by-cons (λ j. is_named b (buffer_of (by_offset c.pool ∷ []) j)) (with_addr (addr_of i - c.pool.base) i) (at_home c.pool items)
      by false = omega arith

  homes_few : (items : List Item) (b : Buffer) → sum_by (λ (c : Shipper). sum_by (λ j. is_named b (buffer_of (by_offset c.pool ∷ []) j)) (at_home c.pool items)) p.clients ≤ sum_by (λ j. is_named b (buffer_of ws j)) items
  homes_few [] b = omega (arith, sum_none (λ (c : Shipper). 0) p.clients (λ k c at. refl))
  homes_few (i ∷ items) b =
      let here : Shipper → ℕ = λ (c : Shipper). cond (in_range c.pool i) (is_named b (buffer_of (by_offset c.pool ∷ []) (with_addr (addr_of i - c.pool.base) i))) 0 in
      let rest : Shipper → ℕ = λ (c : Shipper). sum_by (λ j. is_named b (buffer_of (by_offset c.pool ∷ []) j)) (at_home c.pool items) in
      let parts : sum_by (λ (c : Shipper). sum_by (λ j. is_named b (buffer_of (by_offset c.pool ∷ []) j)) (at_home c.pool (i ∷ items))) p.clients ≡ sum_by here p.clients + sum_by rest p.clients = Rattle.owner_law.proofs.Sums.sum_both here (λ (c : Shipper). sum_by (λ j. is_named b (buffer_of (by_offset c.pool ∷ []) j)) (at_home c.pool (i ∷ items))) rest (λ c. home_first c i items b) p.clients in
      let one : sum_by here p.clients ≤ is_named b (buffer_of ws i) = sum_single here (is_named b (buffer_of ws i)) p.clients (λ k c at. one_few k c at (in_range c.pool i) refl) (λ j k c d c_at d_at ne some. other j k c d c_at d_at ne (in_range c.pool i) refl some) in
      omega (arith, parts, one, homes_few items b, sum_by-cons (λ j. is_named b (buffer_of ws j)) i items)
    where
      one_few : (k : ℕ) (c : Shipper) → slice_get p.clients k ≡ Some c → (t : Bool) → in_range c.pool i ≡ t → cond t (is_named b (buffer_of (by_offset c.pool ∷ []) (with_addr (addr_of i - c.pool.base) i))) 0 ≤ is_named b (buffer_of ws i)
      one_few k c at true is = home_few k c at i is b
      one_few k c at false is = omega arith

      other : (j k : ℕ) (c d : Shipper) → slice_get p.clients j ≡ Some c → slice_get p.clients k ≡ Some d → (j ≡ k → ⊥) → (t : Bool) → in_range c.pool i ≡ t → 0 < cond t (is_named b (buffer_of (by_offset c.pool ∷ []) (with_addr (addr_of i - c.pool.base) i))) 0 → cond (in_range d.pool i) (is_named b (buffer_of (by_offset d.pool ∷ []) (with_addr (addr_of i - d.pool.base) i))) 0 ≡ 0
      other j k c d c_at d_at ne true is some = ap (λ t. cond t (is_named b (buffer_of (by_offset d.pool ∷ []) (with_addr (addr_of i - d.pool.base) i))) 0) (apart.apart j k c d c_at d_at ne (addr_of i) is)
      other j k c d c_at d_at ne false is some = absurd (omega (arith, some))

  module _ (naming : Naming) (m : Moved) (names : NamesSend naming p) (row : MergesSends p m) where
    clients_came : (f : Thing → ℕ) (g : Shipper → ℕ) (cs : List Shipper) → ((k : ℕ) (c : Shipper) → slice_get cs k ≡ Some c → carried naming m c.active (m.taken c.active) f ≡ g c) → sum_by f (all_taken naming m (flat_map shipper_ends cs)) ≡ sum_by g cs
    clients_came f g [] each = refl
    clients_came f g (c ∷ cs) each = omega (arith, sum_by-append f (things_taken naming m c.active) (all_taken naming m (flat_map shipper_ends cs)), sum_by-cons g c cs, each 0 c refl, clients_came f g cs (λ k d at. each (suc k) d at))

    clients_went : (f : Thing → ℕ) (g : Shipper → ℕ) (cs : List Shipper) → ((k : ℕ) (c : Shipper) → slice_get cs k ≡ Some c → carried naming m c.free (m.sent c.free) f ≡ g c) → sum_by f (all_put naming m (flat_map shipper_ends cs)) ≡ sum_by g cs
    clients_went f g [] each = refl
    clients_went f g (c ∷ cs) each = omega (arith, sum_by-append f (things_sent naming m c.free) (all_put naming m (flat_map shipper_ends cs)), sum_by-cons g c cs, each 0 c refl, clients_went f g cs (λ k d at. each (suc k) d at))

    all_came : (f : Thing → ℕ) → sum_by f (all_taken naming m (send_sheet p).ends) ≡ carried naming m p.free (m.taken p.free) f + sum_by f (all_taken naming m (flat_map shipper_ends p.clients))
    all_came f = sum_by-append f (things_taken naming m p.free) (all_taken naming m (flat_map shipper_ends p.clients))

    all_went : (f : Thing → ℕ) → sum_by f (all_put naming m (send_sheet p).ends) ≡ carried naming m p.active (m.sent p.active) f + sum_by f (all_put naming m (flat_map shipper_ends p.clients))
    all_went f = sum_by-append f (things_sent naming m p.active) (all_put naming m (flat_map shipper_ends p.clients))

    zeros : sum_by (λ (c : Shipper). 0) p.clients ≡ 0
    zeros = sum_none (λ (c : Shipper). 0) p.clients (λ k c at. refl)

    none_came : (f : Thing → ℕ) → f Nothing ≡ 0 → ((c : Buffer) → f (Whole c) ≡ 0) → sum_by f (all_taken naming m (send_sheet p).ends) ≡ 0
    none_came f none whole = omega (arith, all_came f, buffers_none naming m p.free (m.taken p.free) ws f names.free none whole, clients_came f (λ c. 0) p.clients (λ k c at. buffers_none naming m c.active (m.taken c.active) (by_offset c.pool ∷ []) f (names.sends k c at) none whole), zeros)

    none_went : (f : Thing → ℕ) → f Nothing ≡ 0 → ((c : Buffer) → f (Whole c) ≡ 0) → sum_by f (all_put naming m (send_sheet p).ends) ≡ 0
    none_went f none whole = omega (arith, all_went f, buffers_none naming m p.active (m.sent p.active) ws f names.active none whole, clients_went f (λ c. 0) p.clients (λ k c at. buffers_none naming m c.free (m.sent c.free) (by_offset c.pool ∷ []) f (names.returns k c at) none whole), zeros)

    module _ (b : Buffer) where
      abbrev by_ws : Item → ℕ
      by_ws i = is_named b (buffer_of ws i)

      abbrev by_own : Shipper → Item → ℕ
      by_own c i = is_named b (buffer_of (by_offset c.pool ∷ []) i)

      driver_went : carried naming m p.active (m.sent p.active) (as_buffer b) ≡ sum_by by_ws (m.sent p.active)
      driver_went = buffers_are naming m p.active (m.sent p.active) ws (as_buffer b) b names.active refl (λ c. refl) ∙ named_sum b ws (m.sent p.active)

      driver_came : carried naming m p.free (m.taken p.free) (as_buffer b) ≡ sum_by by_ws (m.taken p.free)
      driver_came = buffers_are naming m p.free (m.taken p.free) ws (as_buffer b) b names.free refl (λ c. refl) ∙ named_sum b ws (m.taken p.free)

      from_clients : sum_by (as_buffer b) (all_taken naming m (flat_map shipper_ends p.clients)) ≡ sum_by (λ (c : Shipper). sum_by (by_own c) (m.taken c.active)) p.clients
      from_clients = clients_came (as_buffer b) (λ c. sum_by (by_own c) (m.taken c.active)) p.clients (λ k c at. buffers_are naming m c.active (m.taken c.active) (by_offset c.pool ∷ []) (as_buffer b) b (names.sends k c at) refl (λ d. refl) ∙ named_sum b (by_offset c.pool ∷ []) (m.taken c.active))

      to_clients : sum_by (as_buffer b) (all_put naming m (flat_map shipper_ends p.clients)) ≡ sum_by (λ (c : Shipper). sum_by (by_own c) (m.sent c.free)) p.clients
      to_clients = clients_went (as_buffer b) (λ c. sum_by (by_own c) (m.sent c.free)) p.clients (λ k c at. buffers_are naming m c.free (m.sent c.free) (by_offset c.pool ∷ []) (as_buffer b) b (names.returns k c at) refl (λ d. refl) ∙ named_sum b (by_offset c.pool ∷ []) (m.sent c.free))

      sent_few : sum_by by_ws (m.sent p.active) ≤ sum_by (λ (c : Shipper). sum_by (by_own c) (m.taken c.active)) p.clients
      sent_few =
          let few = merged_few by_ws (all_sends p.clients m) (m.sent p.active) row.merges in
          let mapped = sum_mapped (λ l. sum_by by_ws l) (λ (c : Shipper). at_device c.pool (m.taken c.active)) p.clients in
          let each = sums_few (λ (c : Shipper). sum_by by_ws (at_device c.pool (m.taken c.active))) (λ (c : Shipper). sum_by (by_own c) (m.taken c.active)) p.clients (λ k c at. omega (arith, sent_names k c at (m.taken c.active) (row.came k c at) b)) in
          omega (arith, few, mapped, each)

      back_few : sum_by (λ (c : Shipper). sum_by (by_own c) (m.sent c.free)) p.clients ≤ sum_by by_ws (m.taken p.free)
      back_few =
          let each = sums_few (λ (c : Shipper). sum_by (by_own c) (m.sent c.free)) (λ (c : Shipper). sum_by (by_own c) (at_home c.pool (m.taken p.free))) p.clients (λ k c at. prefix_sum (by_own c) (m.sent c.free) (at_home c.pool (m.taken p.free)) (row.returns k c at)) in
          omega (arith, each, homes_few (m.taken p.free) b)

      puts_few : sum_by (as_buffer b) (all_put naming m (send_sheet p).ends) ≤ 0 + sum_by (as_buffer b) (all_taken naming m (send_sheet p).ends)
      puts_few = omega (arith, all_came (as_buffer b), all_went (as_buffer b), driver_went, driver_came, from_clients, to_clients, sent_few, back_few)

    send_keeps : Keeps (λ pool. []) (all_taken naming m (send_sheet p).ends) (all_put naming m (send_sheet p).ends)
    send_keeps = keeps_plain (λ pool. []) (all_taken naming m (send_sheet p).ends) (all_put naming m (send_sheet p).ends) (λ b. none_came (lends b) refl (λ c. refl)) puts_few (λ b. omega (arith, none_went (as_lease b) refl (λ c. refl)))

pub send_own : (naming : Naming) (p : SendPart) → NamesSend naming p → ArePoolsApart p.clients → PutsItsOwn naming (send_sheet p)
send_own naming p names apart m distinct row = send_keeps p apart naming m names row
