-- The virtualiser sends on what its clients own, and gives it back with the answers.
use Rattle.std.proofs.Common.{◌≡◌, ◌+◌, ◌≤◌, ◌++◌, ℕ, zero, suc, Bool, true, false, cond, Option, Some, None, List, [], ◌∷◌, length, map, filter, flat_map, take, drop, slice_get, sum_by, refl, sym, ap, ◌∙◌, subst, arith}
use Rattle.std.specs.Option.{option_map_or}
use Rattle.std.proofs.lemmas.List.{length-map}
use Rattle.std.proofs.lemmas.List.Sums.{sum_by-cons, sum_by-append}
use Rattle.cargo_core.specs.Items.{kind_of}
use Rattle.cargo_core.specs.Lists.{IsPrefix}
use Rattle.cargo_core.specs.declared.item.Item.{Item}
use Rattle.cargo_core.specs.declared.item.Item.TheVariants as ItemOf
use Rattle.cargo_core.specs.declared.item.QueueKind.TheVariants as Kind
use Rattle.wire_core.specs.Bells.{bit}
use Rattle.play_core.specs.Moved.{Moved, Seat}
use Rattle.play_core.specs.Wants.{intake, outlet}
use Rattle.play_core.specs.Sheets.{Scene}
use Rattle.play_core.proofs.Lists.{some_is, map_get, map_from, there_is, there_below}
use Rattle.owner_law.specs.Things.{Buffer, Window, Naming, Thing, buffer_of, names_in, is_named, times, things_taken, things_sent, as_buffer, as_lease, lends}
use Rattle.owner_law.specs.Keeping.{Keeps, at_start, all_taken, all_put}
use Rattle.owner_law.proofs.Sums.{sum_none}
use Rattle.owner_law.proofs.Named.{carried, buffers_are, buffers_none, keeps_plain}
use Rattle.blk_mbr.specs.declared.part.Part.{Part}
use Rattle.class_expect.specs.BlkExpect.Replies.{partition_in}
use Rattle.blk_virt.specs.Requests.{request_of}
use Rattle.owner_law.specs.Pools.Places.{PoolAt, pool_hand, by_offset}
use Rattle.blk_law.specs.Sheets.Parts.{BlkVirt, Sharer}
use Rattle.blk_law.specs.Sheets.Rows.{goes_on_item, item_for_disk, numbered_item, refusal_item, passed_item, is_item_at, items_back, answer_items, requests_on, answers_due, first_item, IsRequestIn, ServesRequests}
use Rattle.blk_law.specs.Sheets.Table.{blk_sheet, sharer_ends}
use Rattle.blk_law.specs.Owners.Answering.{disk_windows, NamesBlk, ArePoolsApart, IsInOrder, PutsItsOwnInOrder}
use Rattle.blk_law.proofs.OwnersLemmas.Answers.{take_begins, take_of, answers_are, answers_none}
use Rattle.blk_law.proofs.OwnersLemmas.Copying.{no_longer}
use Rattle.blk_law.proofs.OwnersLemmas.Merging.{hits, AreTold, ArePartedAt, parted}
use Rattle.blk_law.proofs.OwnersLemmas.Windows.{on_within, on_apart, on_name, own_few}

sum_mapped : {X Y : Type 0} (f : Y → ℕ) (g : X → Y) (xs : List X) → sum_by f (map g xs) ≡ sum_by (λ x. f (g x)) xs
sum_mapped f g [] = refl
sum_mapped f g (x ∷ xs) = omega (arith, sum_by-cons f (g x) (map g xs), sum_by-cons (λ y. f (g y)) x xs, sum_mapped f g xs)

named_sum : (b : Buffer) (ws : List Window) (items : List Item) → times b (names_in ws items) ≡ sum_by (λ i. is_named b (buffer_of ws i)) items
named_sum b ws items = sum_mapped (is_named b) (buffer_of ws) items

-- what stands in a beginning stands in the whole
prefix_get : {T : Type 0} (xs ys : List T) → IsPrefix xs ys → (k : ℕ) (x : T) → slice_get xs k ≡ Some x → slice_get ys k ≡ Some x
prefix_get [] ys h k x at = absurd cc
prefix_get (a ∷ xs) [] h k x at = absurd (let e = h.1 in cc)
prefix_get (a ∷ xs) (y ∷ ys) h zero x at = let e = h.1 in let head : a ≡ y = cc in ap Some (sym head) ∙ at
prefix_get (a ∷ xs) (y ∷ ys) h (suc k) x at = let e = h.1 in let tail : xs ++ h.0 ≡ ys = cc in prefix_get xs ys (h.0, tail) k x at

kept_if : {T : Type 0} (t : Bool) (a x : T) (xs : List T) (fs : List T) (k : ℕ) → ((j : ℕ) → slice_get fs j ≡ Some x → (i : ℕ) × (slice_get xs i ≡ Some x)) → slice_get (cond t (a ∷ fs) fs) k ≡ Some x → (i : ℕ) × (slice_get (a ∷ xs) i ≡ Some x)
kept_if true a x xs fs zero rest at = (0, at)
kept_if true a x xs fs (suc k) rest at = let r = rest k at in (suc r.0, r.1)
kept_if false a x xs fs k rest at = let r = rest k at in (suc r.0, r.1)

-- what a filter keeps was there
kept_from : {T : Type 0} (p : T → Bool) (xs : List T) (k : ℕ) (x : T) → slice_get (filter p xs) k ≡ Some x → (i : ℕ) × (slice_get xs i ≡ Some x)
kept_from p [] k x at = absurd cc
kept_from p (a ∷ xs) k x at = kept_if (p a) a x xs (filter p xs) k (λ j there. kept_from p xs j x there) at

-- two sums over as many
pairs_sum : {X Y : Type 0} (h : X → ℕ) (u v : Y → ℕ) (xs : List X) (ys : List Y) → length xs ≡ length ys → ((k : ℕ) (x : X) (y : Y) → slice_get xs k ≡ Some x → slice_get ys k ≡ Some y → h x + u y ≤ v y) → sum_by h xs + sum_by u ys ≤ sum_by v ys
pairs_sum h u v [] [] same each = omega arith
pairs_sum h u v [] (y ∷ ys) same each = absurd (omega (arith, same))
pairs_sum h u v (x ∷ xs) [] same each = absurd (omega (arith, same))
pairs_sum h u v (x ∷ xs) (y ∷ ys) same each = omega (arith, sum_by-cons h x xs, sum_by-cons u y ys, sum_by-cons v y ys, each 0 x y refl refl, pairs_sum h u v xs ys (omega (arith, same)) (λ k a b p q. each (suc k) a b p q))

-- a client has as many answers at most as requests
pub fewer_answers : (part : Option Part) (xs back : List Item) → length (answer_items part xs back) ≤ length xs
fewer_answers part [] back = omega arith
fewer_answers part (x ∷ xs) [] = go (goes_on_item part x) (fewer_answers part xs [])
  where
    go : (t : Bool) → length (answer_items part xs []) ≤ length xs → length (cond t [] (refusal_item part x ∷ answer_items part xs [])) ≤ suc (length xs)
    go true le = omega arith
    go false le = omega (arith, le)
fewer_answers part (x ∷ xs) (y ∷ back) = go (goes_on_item part x) (fewer_answers part xs back) (fewer_answers part xs (y ∷ back))
  where
    go : (t : Bool) → length (answer_items part xs back) ≤ length xs → length (answer_items part xs (y ∷ back)) ≤ length xs
        → length (cond t (passed_item (request_of x).id y ∷ answer_items part xs back) (refusal_item part x ∷ answer_items part xs (y ∷ back))) ≤ suc (length xs)
    go true one other = omega (arith, one)
    go false one other = omega (arith, other)

-- as many responses are at a pool as requests there were answered
back_many : (p : PoolAt) (xs back : List Item) → length (items_back p xs back) ≡ hits (is_item_at p) (length back) xs
back_many p [] [] = refl
back_many p [] (y ∷ back) = refl
back_many p (x ∷ xs) [] = refl
back_many p (x ∷ xs) (y ∷ back) = go (is_item_at p x) (back_many p xs back)
  where
    go : (t : Bool) → length (items_back p xs back) ≡ hits (is_item_at p) (length back) xs → length (cond t (y ∷ items_back p xs back) (items_back p xs back)) ≡ bit t + hits (is_item_at p) (length back) xs
    go true same = omega (arith, same)
    go false same = omega (arith, same)

hits_numbered : (p : PoolAt) (n : ℕ) (xs : List Item) → hits (is_item_at p) n (map (numbered_item 0) xs) ≡ hits (is_item_at p) n xs
hits_numbered p zero xs = refl
hits_numbered p (suc n) [] = refl
hits_numbered p (suc n) (x ∷ xs) = ap (λ k. bit (is_item_at p x) + k) (hits_numbered p n xs)

take_map : {X Y : Type 0} (g : X → Y) (n : ℕ) (xs : List X) → take n (map g xs) ≡ map g (take n xs)
take_map g zero xs = refl
take_map g (suc n) [] = refl
take_map g (suc n) (x ∷ xs) = ap (λ l. g x ∷ l) (take_map g n xs)

-- a number aside, a request names what it named
pub numbered_name : (ws : List Window) (i : Item) → kind_of i ≡ Kind.Req → buffer_of ws (numbered_item 0 i) ≡ buffer_of ws i
numbered_name ws (ItemOf.Req r) kind = refl
numbered_name ws (ItemOf.Net d) kind = absurd cc
numbered_name ws (ItemOf.Byte b) kind = absurd cc
numbered_name ws (ItemOf.Resp r) kind = absurd cc

numbered_sum : (b : Buffer) (ws : List Window) (xs : List Item) → ((j : ℕ) (i : Item) → slice_get xs j ≡ Some i → kind_of i ≡ Kind.Req) → sum_by (λ i. is_named b (buffer_of ws i)) (map (numbered_item 0) xs) ≡ sum_by (λ i. is_named b (buffer_of ws i)) xs
numbered_sum b ws [] kinds = refl
numbered_sum b ws (x ∷ xs) kinds =
    omega (
      arith,
      sum_by-cons (λ i. is_named b (buffer_of ws i)) (numbered_item 0 x) (map (numbered_item 0) xs),
      sum_by-cons (λ i. is_named b (buffer_of ws i)) x xs,
      ap (is_named b) (numbered_name ws x (kinds 0 x refl)),
      numbered_sum b ws xs (λ j i at. kinds (suc j) i at),
    )

-- one client: what is at the driver for it and what it has back are not more than what came from it
abbrev IsFew : (f g : Item → ℕ) (xs goes : List Item) (answers : List Item → List Item) → Type 0
IsFew f g xs goes answers = (front rest back : List Item) (s : ℕ) → IsPrefix (front ++ rest) goes → length front ≡ length back → s ≤ length (answers back) → sum_by f rest + sum_by g (take s xs) ≤ sum_by g xs

few_step : (f g : Item → ℕ) (x item refusal : Item) (passed : Item → Item) (xs goes : List Item) (answers : List Item → List Item) (t : Bool) → (t ≡ true → f item ≡ g x) → IsFew f g xs goes answers
    → (front rest back : List Item) (s : ℕ) → IsPrefix (front ++ rest) (cond t (item ∷ goes) goes) → length front ≡ length back
    → (all : List Item) → ((y : Item) (more : List Item) → back ≡ y ∷ more → all ≡ cond t (passed y ∷ answers more) (refusal ∷ answers (y ∷ more))) → (back ≡ [] → all ≡ cond t [] (refusal ∷ answers [])) → s ≤ length all
    → sum_by f rest + sum_by g (take s (x ∷ xs)) ≤ sum_by g (x ∷ xs)
few_step f g x item refusal passed xs goes answers false name few front rest [] zero begins same all some none le = let h = few front rest [] 0 begins same (omega arith) in omega (arith, h, sum_by-cons g x xs)
few_step f g x item refusal passed xs goes answers false name few front rest [] (suc s) begins same all some none le =
    let is : length all ≡ suc (length (answers [])) = ap length (none refl) in
    let h = few front rest [] s begins same (omega (arith, le, is)) in
    omega (arith, h, sum_by-cons g x xs, sum_by-cons g x (take s xs))
few_step f g x item refusal passed xs goes answers false name few front rest (y ∷ back) zero begins same all some none le = let h = few front rest (y ∷ back) 0 begins same (omega arith) in omega (arith, h, sum_by-cons g x xs)
few_step f g x item refusal passed xs goes answers false name few front rest (y ∷ back) (suc s) begins same all some none le =
    let is : length all ≡ suc (length (answers (y ∷ back))) = ap length (some y back refl) in
    let h = few front rest (y ∷ back) s begins same (omega (arith, le, is)) in
    omega (arith, h, sum_by-cons g x xs, sum_by-cons g x (take s xs))
few_step f g x item refusal passed xs goes answers true name few (i ∷ front) rest [] s begins same all some none le = absurd (omega (arith, same))
few_step f g x item refusal passed xs goes answers true name few [] rest [] (suc s) begins same all some none le = absurd (let is : length all ≡ 0 = ap length (none refl) in omega (arith, le, is))
few_step f g x item refusal passed xs goes answers true name few [] [] [] zero begins same all some none le = omega arith
few_step f g x item refusal passed xs goes answers true name few [] (i ∷ rest) [] zero begins same all some none le =
    let e = begins.1 in
    let head : i ≡ item = cc in
    let tail : rest ++ begins.0 ≡ goes = cc in
    let h = few [] rest [] 0 (begins.0, tail) refl (omega arith) in
    let first : f i ≡ g x = ap f head ∙ name refl in
    omega (arith, h, first, sum_by-cons f i rest, sum_by-cons g x xs)
few_step f g x item refusal passed xs goes answers true name few [] rest (y ∷ back) s begins same all some none le = absurd (omega (arith, same))
few_step f g x item refusal passed xs goes answers true name few (i ∷ front) rest (y ∷ back) zero begins same all some none le =
    let e = begins.1 in
    let tail : front ++ rest ++ begins.0 ≡ goes = cc in
    let h = few front rest back 0 (begins.0, tail) (omega (arith, same)) (omega arith) in
    omega (arith, h, sum_by-cons g x xs)
few_step f g x item refusal passed xs goes answers true name few (i ∷ front) rest (y ∷ back) (suc s) begins same all some none le =
    let e = begins.1 in
    let tail : front ++ rest ++ begins.0 ≡ goes = cc in
    let is : length all ≡ suc (length (answers back)) = ap length (some y back refl) in
    let h = few front rest back s (begins.0, tail) (omega (arith, same)) (omega (arith, le, is)) in
    omega (arith, h, sum_by-cons g x xs, sum_by-cons g x (take s xs))

map_if : (g : Item → Item) (t : Bool) (x : Item) (xs : List Item) → map g (cond t (x ∷ xs) xs) ≡ cond t (g x ∷ map g xs) (map g xs)
map_if g true x xs = refl
map_if g false x xs = refl

module _ (f g : Item → ℕ) (base : ℕ) (part : Option Part) where
  client_few : (xs : List Item) → ((j : ℕ) (x : Item) → slice_get xs j ≡ Some x → f (item_for_disk base part x) ≡ g x) → IsFew f g xs (map (item_for_disk base part) (filter (goes_on_item part) xs)) (λ back. answer_items part xs back)
  client_few [] names [] [] back s begins same le = (let none : length (answer_items part [] back) ≡ 0 = refl in omega (arith, take_nothing s))
    where
      take_nothing : (n : ℕ) → sum_by g (take n []) ≡ 0
      take_nothing zero = refl
      take_nothing (suc n) = refl
  client_few [] names [] (i ∷ rest) back s begins same le = absurd (let e = begins.1 in cc)
  client_few [] names (i ∷ front) rest back s begins same le = absurd (let e = begins.1 in cc)
  client_few (x ∷ xs) names front rest back s begins same le =
      few_step f g x (item_for_disk base part x) (refusal_item part x) (λ y. passed_item (request_of x).id y) xs (map (item_for_disk base part) (filter (goes_on_item part) xs)) (λ more. answer_items part xs more) (goes_on_item part x) (λ is. names 0 x refl)
      (client_few xs (λ j y at. names (suc j) y at)) front rest back s (subst (IsPrefix (front ++ rest)) (map_if (item_for_disk base part) (goes_on_item part x) x (filter (goes_on_item part) xs)) begins) same
      (answer_items part (x ∷ xs) back) (λ y more is. ap (answer_items part (x ∷ xs)) is) (λ is. ap (answer_items part (x ∷ xs)) is) le

module _ (naming : Naming) (scene : Scene) (req resp sectors : ℕ) (pool : PoolAt) (clients : List Sharer) (names : NamesBlk naming (BlkVirt req resp sectors pool clients)) (apart : ArePoolsApart pool clients) (m : Moved) (order : IsInOrder naming m) (row : ServesRequests scene.image req resp pool clients m) where
  abbrev ws : List Window
  ws = disk_windows pool clients

  abbrev sent : List Item
  sent = m.sent req

  abbrev after : List Item
  after = drop 1 sent

  abbrev back : List Item
  back = drop 1 (m.taken resp)

  abbrev part_of : Sharer → Option Part
  part_of c = partition_in scene.image c.entry

  -- the test for a client's range
  abbrev test : ℕ → Item → Bool
  test k i = option_map_or (λ (c : Sharer). is_item_at c.pool i) (slice_get clients k) false

  req_kinds : (j : ℕ) (i : Item) → slice_get sent j ≡ Some i → kind_of i ≡ Kind.Req
  req_kinds = order.requests resp req ws names.0.1

  client_kinds : (k : ℕ) (c : Sharer) → slice_get clients k ≡ Some c → (j : ℕ) (i : Item) → slice_get (m.taken c.req) j ≡ Some i → kind_of i ≡ Kind.Req
  client_kinds k c at j i there = order.requests c.resp c.req (by_offset c.pool ∷ []) (names.1 k c at).1 j i (prefix_get (m.taken c.req) (m.sent c.req) (order.hands_over c.req) j i there)

  after_kinds : (j : ℕ) (i : Item) → slice_get after j ≡ Some i → kind_of i ≡ Kind.Req
  after_kinds j i at = go sent req_kinds at
    where
      go : (xs : List Item) → ((j : ℕ) (i : Item) → slice_get xs j ≡ Some i → kind_of i ≡ Kind.Req) → slice_get (drop 1 xs) j ≡ Some i → kind_of i ≡ Kind.Req
      go [] kinds at = absurd cc
      go (x ∷ xs) kinds at = kinds (suc j) i at

  -- what went to the driver is told by the ranges of the clients
  told : AreTold test row.merges.parts
  told k j l x at there =
      let below = there_below row.merges.parts k l at in
      let many = row.merges.as_many in
      let long = length-map clients (requests_on scene.image m) in
      let c = there_is clients k (omega (arith, below, many, long)) in
      let whole = row.merges.begins k l (requests_on scene.image m c.0) at (map_get (requests_on scene.image m) clients k c.0 c.1) in
      let item = map_from (item_for_disk c.0.pool.base (part_of c.0)) (filter (goes_on_item (part_of c.0)) (m.taken c.0.req)) j x (prefix_get l (requests_on scene.image m c.0) whole j x there) in
      let came = kept_from (goes_on_item (part_of c.0)) (m.taken c.0.req) j item.0 item.1 in
      let in_pool = row.came k c.0 c.1 came.0 item.0 came.1 in (
        ap (λ o. option_map_or (λ (d : Sharer). is_item_at d.pool x) o false) c.1 ∙ (ap (is_item_at c.0.pool) (sym item.2) ∙ on_within pool clients apart k c.0 c.1 (part_of c.0) item.0 in_pool),
        λ i other. by i other c.0 c.1 x item.0 item.2 in_pool (slice_get clients i) refl,
      )
    where
      by : (i : ℕ) → (i ≡ k → ⊥) → (c : Sharer) → slice_get clients k ≡ Some c → (x y : Item) → item_for_disk c.pool.base (part_of c) y ≡ x → IsRequestIn c.pool y → (o : Option Sharer) → slice_get clients i ≡ o → option_map_or (λ (d : Sharer). is_item_at d.pool x) o false ≡ false
      by i other c at x y is in_pool None none = refl
      by i other c at x y is in_pool (Some d) there = ap (is_item_at d.pool) (sym is) ∙ on_apart pool clients apart k c at (part_of c) y in_pool i d there other

  -- what the ends of the clients bring and take
  clients_came : (f : Thing → ℕ) (cs : List Sharer) → sum_by f (all_taken naming m (flat_map sharer_ends cs)) ≡ sum_by (λ (c : Sharer). carried naming m c.req (m.taken c.req) f) cs
  clients_came f [] = refl
  clients_came f (c ∷ cs) = omega (arith, sum_by-append f (things_taken naming m c.req) (all_taken naming m (flat_map sharer_ends cs)), sum_by-cons (λ (d : Sharer). carried naming m d.req (m.taken d.req) f) c cs, clients_came f cs)

  clients_went : (f : Thing → ℕ) (cs : List Sharer) → sum_by f (all_put naming m (flat_map sharer_ends cs)) ≡ sum_by (λ (c : Sharer). carried naming m c.resp (m.sent c.resp) f) cs
  clients_went f [] = refl
  clients_went f (c ∷ cs) = omega (arith, sum_by-append f (things_sent naming m c.resp) (all_put naming m (flat_map sharer_ends cs)), sum_by-cons (λ (d : Sharer). carried naming m d.resp (m.sent d.resp) f) c cs, clients_went f cs)

  abbrev virt_ends : List Seat
  virt_ends = intake resp ∷ outlet req ∷ flat_map sharer_ends clients

  virt_came : (f : Thing → ℕ) → sum_by f (all_taken naming m virt_ends) ≡ carried naming m resp (m.taken resp) f + sum_by (λ (c : Sharer). carried naming m c.req (m.taken c.req) f) clients
  virt_came f = omega (arith, sum_by-append f (things_taken naming m resp) (all_taken naming m (flat_map sharer_ends clients)), clients_came f clients)

  virt_went : (f : Thing → ℕ) → sum_by f (all_put naming m virt_ends) ≡ carried naming m req (m.sent req) f + sum_by (λ (c : Sharer). carried naming m c.resp (m.sent c.resp) f) clients
  virt_went f = omega (arith, sum_by-append f (things_sent naming m req) (all_put naming m (flat_map sharer_ends clients)), clients_went f clients)

  module _ (b : Buffer) where
    abbrev at_disk : Item → ℕ
    at_disk i = is_named b (buffer_of ws i)

    -- what is left of a client's requests at the driver, with what it has back, came from it
    client_owns : (k : ℕ) (c : Sharer) → slice_get clients k ≡ Some c → (left : ArePartedAt test at_disk row.merges.parts (map (numbered_item 0) after) (length back)) → (l : List Item) → slice_get left.left k ≡ Some l
        → sum_by at_disk l + carried naming m c.resp (m.sent c.resp) (as_buffer b) ≤ carried naming m c.req (m.taken c.req) (as_buffer b)
    client_owns k c at left l there =
        let own = by_offset c.pool ∷ [] in
        let asked = names.1 k c at in
        let taken = m.taken c.req in
        let s = length (m.sent c.resp) in
        let put = answers_are naming m c.resp c.req own asked.1 (m.sent c.resp) (as_buffer b) b refl (λ d. refl) in
        let came = buffers_are naming m c.req taken own (as_buffer b) b asked.0 refl (λ d. refl) in
        let given = no_longer (m.sent c.resp) (answers_due scene.image req resp m c) (row.gives k c at) in
        let most = fewer_answers (part_of c) taken (items_back c.pool after back) in
        let here : take s (m.sent c.req) ≡ take s taken = take_of s taken (m.sent c.req) (order.hands_over c.req) (omega (arith, given, most)) in
        let put_is : times b (names_in own (take s (m.sent c.req))) ≡ sum_by (λ i. is_named b (buffer_of own i)) (take s taken) = ap (λ xs. times b (names_in own xs)) here ∙ named_sum b own (take s taken) in
        let came_is = named_sum b own taken in
        let part = there_is row.merges.parts k (let below = there_below left.left k l there in let many = left.as_many in omega (arith, below, many)) in
        let p = left.each k part.0 part.1 in
        let same : p.rest ≡ l = some_is (sym p.there ∙ there) in
        let whole = row.merges.begins k part.0 (requests_on scene.image m c) part.1 (map_get (requests_on scene.image m) clients k c at) in
        let begins : IsPrefix (p.front ++ p.rest) (requests_on scene.image m c) = subst (λ xs. IsPrefix xs (requests_on scene.image m c)) (sym p.whole) whole in
        let tested : hits (test k) (length back) (map (numbered_item 0) after) ≡ hits (is_item_at c.pool) (length back) (map (numbered_item 0) after) = ap (λ o. hits (λ i. option_map_or (λ (d : Sharer). is_item_at d.pool i) o false) (length back) (map (numbered_item 0) after)) at in
        let plain = hits_numbered c.pool (length back) after in
        let returned = back_many c.pool after back in
        let many = p.many in
        let few = client_few at_disk (λ i. is_named b (buffer_of own i)) c.pool.base (part_of c) taken
        (λ j x x_at. ap (is_named b) (on_name pool clients apart k c at (part_of c) x (client_kinds k c at j x x_at) (row.came k c at j x x_at)))
        p.front p.rest (items_back c.pool after back) s begins (omega (arith, many, tested, plain, returned)) given in
        let left_is : sum_by at_disk p.rest ≡ sum_by at_disk l = ap (sum_by at_disk) same in
        omega (arith, put, came, put_is, came_is, few, left_is)

    -- what is left of all, with what all have back, came from them
    all_own : (left : ArePartedAt test at_disk row.merges.parts (map (numbered_item 0) after) (length back))
        → sum_by (λ l. sum_by at_disk l) left.left + sum_by (λ (c : Sharer). carried naming m c.resp (m.sent c.resp) (as_buffer b)) clients ≤ sum_by (λ (c : Sharer). carried naming m c.req (m.taken c.req) (as_buffer b)) clients
    all_own left =
        let many = row.merges.as_many in
        let long = length-map clients (requests_on scene.image m) in
        let as_many = left.as_many in
        pairs_sum (λ l. sum_by at_disk l) (λ (c : Sharer). carried naming m c.resp (m.sent c.resp) (as_buffer b)) (λ (c : Sharer). carried naming m c.req (m.taken c.req) (as_buffer b)) left.left clients (omega (arith, many, long, as_many))
        (λ k l c l_at c_at. client_owns k c c_at left l l_at)

    -- what went to the driver and what came back from there
    at_driver : (left : ℕ) → sum_by at_disk after ≡ sum_by at_disk (take (length back) after) + left → times b (names_in ws sent) ≤ at_start (pool_hand pool) b + times b (names_in ws (take (length (m.taken resp)) sent)) + left
    at_driver left is = by sent (m.taken resp) row.first row.answered is
      where
        by : (xs came : List Item) → IsPrefix xs (first_item pool ∷ drop 1 xs) → length came ≤ length xs → sum_by at_disk (drop 1 xs) ≡ sum_by at_disk (take (length (drop 1 came)) (drop 1 xs)) + left
            → times b (names_in ws xs) ≤ at_start (pool_hand pool) b + times b (names_in ws (take (length came) xs)) + left
        by [] came begins le is = omega arith
        by (x ∷ xs) came begins le is =
            let e = begins.1 in
            let first : x ≡ first_item pool = cc in
            let own = own_few pool clients apart b in
            let head : at_disk x ≡ at_disk (first_item pool) = ap at_disk first in
            let all = named_sum b ws (x ∷ xs) in
            let cons = sum_by-cons at_disk x xs in
            rest came is own head all cons
          where
            rest : (came : List Item) → sum_by at_disk xs ≡ sum_by at_disk (take (length (drop 1 came)) xs) + left → at_disk (first_item pool) ≤ at_start (pool_hand pool) b → at_disk x ≡ at_disk (first_item pool)
                → times b (names_in ws (x ∷ xs)) ≡ sum_by at_disk (x ∷ xs) → sum_by at_disk (x ∷ xs) ≡ at_disk x + sum_by at_disk xs
                → times b (names_in ws (x ∷ xs)) ≤ at_start (pool_hand pool) b + times b (names_in ws (take (length came) (x ∷ xs))) + left
            rest [] is own head all cons = omega (arith, is, own, head, all, cons)
            rest (y ∷ came) is own head all cons =
                let taken = named_sum b ws (x ∷ take (length came) xs) in
                let more = sum_by-cons at_disk x (take (length came) xs) in
                omega (arith, is, head, all, cons, taken, more)

    virt_buffers : sum_by (as_buffer b) (all_put naming m virt_ends) ≤ at_start (pool_hand pool) b + sum_by (as_buffer b) (all_taken naming m virt_ends)
    virt_buffers =
        let came = virt_came (as_buffer b) in
        let went = virt_went (as_buffer b) in
        let into = answers_are naming m resp req ws names.0.1 (m.taken resp) (as_buffer b) b refl (λ c. refl) in
        let out = buffers_are naming m req sent ws (as_buffer b) b names.0.0 refl (λ c. refl) in
        let left = parted test at_disk row.merges.parts (map (numbered_item 0) after) row.merges.merged told (length back) in
        let own = all_own left in
        let split = left.sum in
        let whole = numbered_sum b ws after after_kinds in
        let front : sum_by at_disk (take (length back) (map (numbered_item 0) after)) ≡ sum_by at_disk (take (length back) after) =
        ap (sum_by at_disk) (take_map (numbered_item 0) (length back) after) ∙ numbered_sum b ws (take (length back) after) (λ j i at. after_kinds j i (prefix_get (take (length back) after) after (take_begins (length back) after) j i at)) in
        let driver = at_driver (sum_by (λ l. sum_by at_disk l) left.left) (omega (arith, split, whole, front)) in
        omega (arith, came, went, into, out, own, driver)

  none_lent : (b : Buffer) → sum_by (lends b) (all_taken naming m virt_ends) ≡ 0
  none_lent b =
      let came = virt_came (lends b) in
      let into = answers_none naming m resp req ws names.0.1 (m.taken resp) (lends b) refl (λ c. refl) in
      let each = sum_none (λ (c : Sharer). carried naming m c.req (m.taken c.req) (lends b)) clients (λ k c at. buffers_none naming m c.req (m.taken c.req) (by_offset c.pool ∷ []) (lends b) (names.1 k c at).0 refl (λ d. refl)) in
      omega (arith, came, into, each)

  none_leased : (b : Buffer) → sum_by (as_lease b) (all_put naming m virt_ends) ≡ 0
  none_leased b =
      let went = virt_went (as_lease b) in
      let out = buffers_none naming m req sent ws (as_lease b) names.0.0 refl (λ c. refl) in
      let each = sum_none (λ (c : Sharer). carried naming m c.resp (m.sent c.resp) (as_lease b)) clients (λ k c at. answers_none naming m c.resp c.req (by_offset c.pool ∷ []) (names.1 k c at).1 (m.sent c.resp) (as_lease b) refl (λ d. refl)) in
      omega (arith, went, out, each)

  virt_all : Keeps (pool_hand pool) (all_taken naming m virt_ends) (all_put naming m virt_ends)
  virt_all = keeps_plain (pool_hand pool) (all_taken naming m virt_ends) (all_put naming m virt_ends) none_lent virt_buffers (λ b. (let none = none_leased b in omega (arith, none)))

pub virt_keeps : (naming : Naming) (scene : Scene) (req resp sectors : ℕ) (pool : PoolAt) (clients : List Sharer) → NamesBlk naming (BlkVirt req resp sectors pool clients) → ArePoolsApart pool clients → PutsItsOwnInOrder naming (blk_sheet scene (BlkVirt req resp sectors pool clients))
virt_keeps naming scene req resp sectors pool clients names apart m order ends_apart row = virt_all naming scene req resp sectors pool clients names apart m order row
