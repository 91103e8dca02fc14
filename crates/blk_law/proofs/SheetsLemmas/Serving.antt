-- What is said of the virtualiser speaks of its own ends, and its needs follow.
use Rattle.std.proofs.Common.{◌≡◌, ◌≢◌, ◌⊎◌, ◌+◌, ◌++◌, ◌<◌, ◌≤◌, ◌^◌, ◌%◌, ◌&&◌, ℕ, zero, suc, true, false, not, nat_lt, cond, Some, inl, inr, List, [], ◌∷◌, length, map, drop, flat_map, slice_get, refl, sym, ap, ap₂, ◌∙◌, subst, arith, ltb-true}
use Rattle.std.specs.List.{filter}
use Rattle.std.proofs.Math.Dec.{eqb}
use Rattle.std.proofs.lemmas.Bool.{lt-ltb}
use Rattle.std.proofs.lemmas.Bool.Decides.{eqb_tells}
use Rattle.std.proofs.lemmas.List.{append-nil, length-map, map-append}
use Rattle.cargo_core.specs.Lists.{IsPrefix, PrefixMerge}
use Rattle.cargo_core.specs.declared.item.Code.{Code}
use Rattle.cargo_core.specs.declared.item.Code.TheVariants as Asked
use Rattle.cargo_core.specs.declared.item.BlkReq.{BlkReq}
use Rattle.cargo_core.specs.declared.item.Item.{Item}
use Rattle.cargo_core.specs.declared.item.Item.TheVariants as ItemOf
use Rattle.play_core.specs.Moved.{Moved, Seat, AreAlike, with_put}
use Rattle.play_core.specs.Totals.{total}
use Rattle.play_core.specs.Wants.{Want, intake, outlet, intake_want, outlet_want}
use Rattle.play_core.specs.Sheets.{Scene, Sheet, Due, CouldPut, IsOwn, NeedsFollow, AreApart, due_want}
use Rattle.play_core.proofs.Lists.{map_alike, map_from, some_is}
use Rattle.play_core.proofs.Puts.{put_here, put_beside, copy_shorter}
use Rattle.owner_law.specs.Pools.Places.{PoolAt}
use Rattle.net_law.specs.Parts.Table.{is_short}
use Rattle.net_law.proofs.PartsLemmas.Fits.{AllFit, intake_fits, outlet_fits, pairs_fit, sheet_follows}
use Rattle.net_law.proofs.PartsLemmas.Pairs.{twice, twice_same, pair_first, pair_second, pair_seats, flat_alike, each_owed, put_length}
use Rattle.owner_law.proofs.PoolsLemmas.Merging.{Each, each_begun}
use Rattle.net_law.proofs.TxParts.Growing.{merge_few, merge_grows}
use Rattle.blk_virt.specs.Requests.{request_of, asked_of_disk, first_block}
use Rattle.class_expect.specs.BlkExpect.Replies.{partition_in}
use Rattle.blk_law.specs.Sheets.Parts.{BlkVirt, Sharer}
use Rattle.blk_law.specs.Sheets.Rows.{all_requests, answer_items, answers_due, first_item, goes_on_item, is_item_at, item_for_disk, items_back, numbered_item, requests_due, requests_on}
use Rattle.blk_law.specs.Sheets.Table.{blk_sheet, sharer_wants}

-- of as many responses as requests, one request more changes nothing
pub back_same : (p : PoolAt) (sent back : List Item) (x : Item) → length back ≤ length sent → items_back p (sent ++ x ∷ []) back ≡ items_back p sent back
back_same p [] [] x le = refl
back_same p [] (y ∷ back) x le = absurd (omega (arith, le))
back_same p (z ∷ sent) [] x le = refl
back_same p (z ∷ sent) (y ∷ back) x le = ap (λ l. cond (is_item_at p z) (y ∷ l) l) (back_same p sent back x (omega (arith, le)))

-- the first of two lists is dropped from their join
pub drop_first : (xs : List Item) (x : Item) → 1 ≤ length xs → drop 1 (xs ++ x ∷ []) ≡ drop 1 xs ++ x ∷ []
drop_first [] x some = absurd (omega (arith, some))
drop_first (y ∷ xs) x some = refl

pub drop_long : (xs : List Item) (n : ℕ) → length (drop 1 xs) < n → length xs < 1 + n
drop_long [] n lt = omega (arith, lt)
drop_long (x ∷ xs) n lt = omega (arith, lt)

pub drop_most : (xs : List Item) → length xs ≤ 1 + length (drop 1 xs)
drop_most [] = omega arith
drop_most (x ∷ xs) = omega arith

pub drop_many : (xs : List Item) → 1 ≤ length xs → length xs ≡ 1 + length (drop 1 xs)
drop_many [] some = absurd (omega (arith, some))
drop_many (x ∷ xs) some = omega arith

pub drop_less : (xs ys : List Item) → length ys ≤ length xs → length (drop 1 ys) ≤ length (drop 1 xs)
drop_less [] [] le = omega arith
drop_less [] (y ∷ ys) le = absurd (omega (arith, le))
drop_less (x ∷ xs) [] le = omega arith
drop_less (x ∷ xs) (y ∷ ys) le = omega (arith, le)

-- what is said of the elements of a list and of one more
pub last_at : {X : Type 0} (P : ℕ → X → Type 0) (xs : List X) (x : X) → ((j : ℕ) (y : X) → slice_get xs j ≡ Some y → P j y) → P (length xs) x → (j : ℕ) (y : X) → slice_get (xs ++ x ∷ []) j ≡ Some y → P j y
last_at P [] x all last zero y at = subst (P 0) (some_is at) last
last_at P [] x all last (suc j) y at = cc
last_at P (z ∷ xs) x all last zero y at = all 0 y at
last_at P (z ∷ xs) x all last (suc j) y at = last_at (λ i w. P (suc i) w) xs x (λ i w w_at. all (suc i) w w_at) last j y at

pub get_last : (xs : List Item) (x : Item) → slice_get (xs ++ x ∷ []) (length xs) ≡ Some x
get_last [] x = refl
get_last (y ∷ xs) x = get_last xs x

-- what goes to the disk has no number yet
pub disk_bare : (code : Code) (base first : ℕ) (r : BlkReq) → numbered_item 0 (ItemOf.Req (asked_of_disk code base first r)) ≡ ItemOf.Req (asked_of_disk code base first r)
disk_bare Asked.Read base first r = refl
disk_bare Asked.Write base first r = refl
disk_bare Asked.Flush base first r = refl
disk_bare Asked.Barrier base first r = refl

-- one more put makes no list shorter
pub longer : (m : Moved) (n : ℕ) (x : Item) (k : ℕ) → length (m.sent k) ≤ length ((with_put m n x).sent k)
longer m n x k = by (eqb_tells n k)
  where
    by : ((eqb n k ≡ true) × (n ≡ k)) ⊎ ((eqb n k ≡ false) × (n ≢ k)) → length (m.sent k) ≤ length ((with_put m n x).sent k)
    by (inl e) =
        let long = put_length m n x in
        let a = ap (λ i. length (m.sent i)) e.1 in
        let b = ap (λ i. length ((with_put m n x).sent i)) e.1 in
        omega (arith, long, a, b)
    by (inr e) = let same = ap length (put_beside m n x k e.1) in omega (arith, same)

-- what begins with a request goes on so
pub first_on : (pool : PoolAt) (l : List Item) (x : Item) → 1 ≤ length l → IsPrefix l (first_item pool ∷ drop 1 l) → IsPrefix (l ++ x ∷ []) (first_item pool ∷ drop 1 (l ++ x ∷ []))
first_on pool [] x lt h = absurd (omega (arith, lt))
first_on pool (y ∷ ys) x lt h =
    let e : y ∷ (ys ++ h.0) ≡ first_item pool ∷ ys = h.1 in
    let same : y ≡ first_item pool = cc in
    ([], append-nil (y ∷ (ys ++ x ∷ [])) ∙ ap (λ z. z ∷ (ys ++ x ∷ [])) same)

module _ (scene : Scene) (req resp sectors : ℕ) (pool : PoolAt) (clients : List Sharer) where
  abbrev S : Sheet
  S = blk_sheet scene (BlkVirt req resp sectors pool clients)

  abbrev image : List ℕ
  image = scene.image

  abbrev from : Sharer → Seat
  from c = intake c.req

  abbrev back : Sharer → Seat
  back c = outlet c.resp

  module _ (a b : Moved) (alike : AreAlike S.ends a b) where
    came_back : a.taken resp ≡ b.taken resp
    came_back = alike 0 (intake resp) refl

    gave : a.sent req ≡ b.sent req
    gave = alike 1 (outlet req) refl

    came : (k : ℕ) (c : Sharer) → slice_get clients k ≡ Some c → a.taken c.req ≡ b.taken c.req
    came k c at = alike (suc (suc (twice k))) (from c) (pair_first from back clients k c at)

    went_back : (k : ℕ) (c : Sharer) → slice_get clients k ≡ Some c → a.sent c.resp ≡ b.sent c.resp
    went_back k c at = alike (suc (suc (suc (twice k)))) (back c) (pair_second from back clients k c at)

    on_same : (k : ℕ) (c : Sharer) → slice_get clients k ≡ Some c → requests_on image a c ≡ requests_on image b c
    on_same k c at = ap (λ l. map (item_for_disk c.pool.base (partition_in image c.entry)) (filter (goes_on_item (partition_in image c.entry)) l)) (came k c at)

    requests_same : all_requests image clients a ≡ all_requests image clients b
    requests_same = map_alike (requests_on image a) (requests_on image b) clients on_same

    due_same : requests_due image clients a ≡ requests_due image clients b
    due_same = ap (λ l. 1 + total l) requests_same

    answers_same : (k : ℕ) (c : Sharer) → slice_get clients k ≡ Some c → answers_due image req resp a c ≡ answers_due image req resp b c
    answers_same k c at =
        ap (λ l. answer_items (partition_in image c.entry) l (items_back c.pool (drop 1 (a.sent req)) (drop 1 (a.taken resp)))) (came k c at)
        ∙ ap₂ (λ (xs ys : List Item). answer_items (partition_in image c.entry) (b.taken c.req) (items_back c.pool (drop 1 xs) (drop 1 ys))) gave came_back

    sharer_same : (k : ℕ) (c : Sharer) → slice_get clients k ≡ Some c → sharer_wants image req resp a c ≡ sharer_wants image req resp b c
    sharer_same k c at =
        ap₂ (λ (xs ys : List Item). intake_want c.req (nat_lt 0 (length xs) && not (is_short (a.sent c.resp) ys)) ∷ outlet_want c.resp (is_short (a.sent c.resp) (answers_due image req resp a c)) ∷ []) came_back (came k c at)
        ∙ ap₂ (λ (xs ys : List Item). intake_want c.req (nat_lt 0 (length (b.taken resp)) && not (is_short xs (b.taken c.req))) ∷ outlet_want c.resp (is_short xs ys) ∷ []) (went_back k c at) (answers_same k c at)

    wants_same : S.wants a ≡ S.wants b
    wants_same =
        ap₂ (λ (xs : List Item) (n : ℕ). intake_want resp true ∷ outlet_want req (nat_lt (length xs) n) ∷ flat_map (sharer_wants image req resp a) clients) gave due_same
        ∙ ap (λ ws. intake_want resp true ∷ outlet_want req (nat_lt (length (b.sent req)) (requests_due image clients b)) ∷ ws) (flat_alike (sharer_wants image req resp a) (sharer_wants image req resp b) clients sharer_same)

    row_same : S.row a → S.row b
    row_same h = record {
      first = subst (λ xs. IsPrefix xs (first_item pool ∷ drop 1 xs)) gave h.first;
      numbers = λ j i at. h.numbers j i (ap (λ xs. slice_get xs j) gave ∙ at);
      merges = subst (λ xs. PrefixMerge (all_requests image clients b) (map (numbered_item 0) (drop 1 xs))) gave (subst (λ ls. PrefixMerge ls (map (numbered_item 0) (drop 1 (a.sent req)))) requests_same h.merges);
      answered = subst (λ xs. length (b.taken resp) ≤ length xs) gave (subst (λ ys. length ys ≤ length (a.sent req)) came_back h.answered);
      waits = λ none k c at. sym (came k c at) ∙ h.waits (came_back ∙ none) k c at;
      gives = λ k c at. subst (λ xs. IsPrefix xs (answers_due image req resp b c)) (went_back k c at) (subst (λ ys. IsPrefix (a.sent c.resp) ys) (answers_same k c at) (h.gives k c at));
      one = λ k c at. subst (λ (xs : List Item). length (b.taken c.req) ≤ length xs + 1) (went_back k c at) (subst (λ (ys : List Item). length ys ≤ length (a.sent c.resp) + 1) (came k c at) (h.one k c at));
      came = λ k c at j i i_at. h.came k c at j i (ap (λ xs. slice_get xs j) (came k c at) ∙ i_at);
    }

  abbrev want_in : Moved → Sharer → Want
  want_in m c = intake_want c.req (nat_lt 0 (length (m.taken resp)) && not (is_short (m.sent c.resp) (m.taken c.req)))

  abbrev want_back : Moved → Sharer → Want
  want_back m c = outlet_want c.resp (is_short (m.sent c.resp) (answers_due image req resp m c))

  pub virt_own : IsOwn S
  virt_own = record {
    row = λ a b alike look h. row_same a b alike h;
    wants = λ a b alike look. wants_same a b alike;
    ends = λ m. ap (λ ss. intake resp ∷ outlet req ∷ ss) (pair_seats (want_in m) (want_back m) clients);
  }

  module _ (m : Moved) (apart : AreApart S.ends) (row : S.row m) where
    resps_apart : (j k : ℕ) (x y : Sharer) → slice_get clients j ≡ Some x → slice_get clients k ≡ Some y → x.resp ≡ y.resp → j ≡ k
    resps_apart j k x y at is same =
        let one = pair_second from back clients j x at in
        let two = pair_second from back clients k y is in
        let e : suc (suc (suc (twice j))) ≡ suc (suc (suc (twice k))) = apart (suc (suc (suc (twice j)))) (suc (suc (suc (twice k)))) (back x) one (two ∙ ap (λ n. Some (outlet n)) (sym same)) in
        twice_same j k (omega (arith, e))

    beside : (k : ℕ) (c : Sharer) → slice_get clients k ≡ Some c → req ≢ c.resp
    beside k c at same =
        let one = pair_second from back clients k c at in
        let e : 1 ≡ suc (suc (suc (twice k))) = apart 1 (suc (suc (suc (twice k)))) (outlet req) refl (one ∙ ap (λ n. Some (outlet n)) (sym same)) in
        omega (arith, e)

    -- where one request more goes to the driver, all else stays
    put_on : (x : Item) → (list : List Item) → m.sent req ++ x ∷ [] ≡ list → IsPrefix list (first_item pool ∷ drop 1 list) → (request_of x).id ≡ length (m.sent req) % 2 ^ 32 → PrefixMerge (all_requests image clients m) (map (numbered_item 0) (drop 1 list)) → ((k : ℕ) (c : Sharer) → slice_get clients k ≡ Some c → items_back c.pool (drop 1 list) (drop 1 (m.taken resp)) ≡ items_back c.pool (drop 1 (m.sent req)) (drop 1 (m.taken resp))) → CouldPut S m req
    put_on x list is first number merges same = (
      x,
      record {
        first = subst (λ l. IsPrefix l (first_item pool ∷ drop 1 l)) (sym whole) first;
        numbers = λ j i at. last_at (λ n (y : Item). (request_of y).id ≡ n % 2 ^ 32) (m.sent req) x row.numbers number j i (ap (λ l. slice_get l j) (sym (put_here m req x)) ∙ at);
        merges = subst (λ l. PrefixMerge (all_requests image clients m) (map (numbered_item 0) (drop 1 l))) (sym whole) merges;
        answered = (let long = put_length m req x in let few = row.answered in omega (arith, long, few));
        waits = row.waits;
        gives = λ k c at.
            let due : answers_due image req resp (with_put m req x) c ≡ answers_due image req resp m c = ap (λ l. answer_items (partition_in image c.entry) (m.taken c.req) (items_back c.pool (drop 1 l) (drop 1 (m.taken resp)))) whole ∙ ap (answer_items (partition_in image c.entry) (m.taken c.req)) (same k c at) in
            subst (λ xs. IsPrefix xs (answers_due image req resp (with_put m req x) c)) (sym (put_beside m req x c.resp (beside k c at))) (subst (IsPrefix (m.sent c.resp)) (sym due) (row.gives k c at));
        one = λ k c at. subst (λ (xs : List Item). length (m.taken c.req) ≤ length xs + 1) (sym (put_beside m req x c.resp (beside k c at))) (row.one k c at);
        came = row.came;
      },
    )
      where
        whole : (with_put m req x).sent req ≡ list
        whole = put_here m req x ∙ is

    -- none of those that go to the disk has a number yet
    on_bare : Each (Each (λ (i : Item). numbered_item 0 i ≡ i)) (all_requests image clients m)
    on_bare k l l_at j i i_at =
        let f = map_from (requests_on image m) clients k l l_at in
        let part = partition_in image f.0.entry in
        let g = map_from (item_for_disk f.0.pool.base part) (filter (goes_on_item part) (m.taken f.0.req)) j i (ap (λ xs. slice_get xs j) f.2 ∙ i_at) in
        subst (λ (y : Item). numbered_item 0 y ≡ y) g.2 (disk_bare (request_of g.0).code f.0.pool.base (first_block part) (request_of g.0))

    more_bare : (x : Item) (xs : List Item) → PrefixMerge (all_requests image clients m) (xs ++ x ∷ []) → numbered_item 0 x ≡ x
    more_bare x xs h = each_begun (λ (i : Item). numbered_item 0 i ≡ i) (all_requests image clients m) (xs ++ x ∷ []) h on_bare (length xs) x (get_last xs x)

    -- the virtualiser's own request comes first
    begins : m.sent req ≡ [] → CouldPut S m req
    begins none =
        let x = first_item pool in
        put_on x (x ∷ []) (ap (λ l. l ++ x ∷ []) none) ([], refl) (sym (ap (λ (l : List Item). length l % 2 ^ 32) none))
        (subst (λ l. PrefixMerge (all_requests image clients m) (map (numbered_item 0) (drop 1 l))) none row.merges)
        (λ k c at. ap (λ l. items_back c.pool (drop 1 l) (drop 1 (m.taken resp))) (sym none))

    -- and then one more of those that go to the disk
    goes_on : 1 ≤ length (m.sent req) → length (m.sent req) < requests_due image clients m → CouldPut S m req
    goes_on some short =
        let rest = drop 1 (m.sent req) in
        let many = drop_many (m.sent req) some in
        let bare_long = length-map rest (numbered_item 0) in
        let more = merge_grows (all_requests image clients m) (map (numbered_item 0) rest) row.merges (omega (arith, many, bare_long, short)) in
        let n = length (m.sent req) % 2 ^ 32 in
        let x = numbered_item n more.0 in
        let list = m.sent req ++ x ∷ [] in
        let dropped : drop 1 list ≡ rest ++ x ∷ [] = drop_first (m.sent req) x some in
        let bare : numbered_item 0 x ≡ more.0 = more_bare more.0 (map (numbered_item 0) rest) more.1 in
        let all : map (numbered_item 0) (drop 1 list) ≡ map (numbered_item 0) rest ++ more.0 ∷ [] = ap (map (numbered_item 0)) dropped ∙ (map-append (numbered_item 0) rest (x ∷ []) ∙ ap (λ y. map (numbered_item 0) rest ++ y ∷ []) bare) in
        put_on x list refl (first_on pool (m.sent req) x some row.first) refl (subst (PrefixMerge (all_requests image clients m)) (sym all) more.1)
        (λ k c at. ap (λ l. items_back c.pool l (drop 1 (m.taken resp))) dropped ∙ back_same c.pool rest (drop 1 (m.taken resp)) x (drop_less (m.sent req) (m.taken resp) row.answered))

    sends : nat_lt (length (m.sent req)) (requests_due image clients m) ≡ true → CouldPut S m req
    sends lt = by (m.sent req) refl
      where
        by : (l : List Item) → m.sent req ≡ l → CouldPut S m req
        by [] is = begins is
        by (x ∷ xs) is = let long = ap length is in goes_on (omega (arith, long)) (ltb-true (length (m.sent req)) (requests_due image clients m) lt)

    sends_only : CouldPut S m req → nat_lt (length (m.sent req)) (requests_due image clients m) ≡ true
    sends_only put =
        let list = (with_put m req put.0).sent req in
        let few = merge_few (all_requests image clients m) (map (numbered_item 0) (drop 1 list)) put.1.merges in
        let bare_long = length-map (drop 1 list) (numbered_item 0) in
        let long = put_length m req put.0 in
        let most = drop_most list in
        lt-ltb (length (m.sent req)) (requests_due image clients m) (omega (arith, few, bare_long, long, most))

    gives : (k : ℕ) (c : Sharer) → slice_get clients k ≡ Some c → is_short (m.sent c.resp) (answers_due image req resp m c) ≡ true → CouldPut S m c.resp
    gives k c at lt =
        let more = each_owed clients (λ (d : Sharer). d.resp) (answers_due image req resp m) m row.gives resps_apart k c at lt in
        let same = put_beside m c.resp more.0 req (λ e. beside k c at (sym e)) in (
          more.0,
          record {
            first = subst (λ l. IsPrefix l (first_item pool ∷ drop 1 l)) (sym same) row.first;
            numbers = λ j i i_at. row.numbers j i (ap (λ l. slice_get l j) (sym same) ∙ i_at);
            merges = subst (λ l. PrefixMerge (all_requests image clients m) (map (numbered_item 0) (drop 1 l))) (sym same) row.merges;
            answered = subst (λ (l : List Item). length (m.taken resp) ≤ length l) (sym same) row.answered;
            waits = row.waits;
            gives = λ j d d_at. subst (λ l. IsPrefix ((with_put m c.resp more.0).sent d.resp) (answer_items (partition_in image d.entry) (m.taken d.req) (items_back d.pool (drop 1 l) (drop 1 (m.taken resp))))) (sym same) (more.1 j d d_at);
            one = λ j d d_at. let few = row.one j d d_at in let long = longer m c.resp more.0 d.resp in omega (arith, few, long);
            came = row.came;
          },
        )

    gives_only : (k : ℕ) (c : Sharer) → slice_get clients k ≡ Some c → CouldPut S m c.resp → is_short (m.sent c.resp) (answers_due image req resp m c) ≡ true
    gives_only k c at put =
        let same = put_beside m c.resp put.0 req (λ e. beside k c at (sym e)) in
        copy_shorter m c.resp (answers_due image req resp m c) put.0
        (subst (λ l. IsPrefix ((with_put m c.resp put.0).sent c.resp) (answer_items (partition_in image c.entry) (m.taken c.req) (items_back c.pool (drop 1 l) (drop 1 (m.taken resp))))) same (put.1.gives k c at))

    virt_fits : AllFit S m (S.wants m)
    virt_fits = (intake_fits S m resp _, (outlet_fits S m req _ sends sends_only, pairs_fit S m (want_in m) (want_back m) clients (λ k c at. (intake_fits S m c.req _, outlet_fits S m c.resp _ (gives k c at) (gives_only k c at)))))

  virt_due : (m : Moved) (i : ℕ) (d : Due) → slice_get (S.dues m) i ≡ Some d → (k : ℕ) × (slice_get (S.wants m) k ≡ Some (due_want m d))
  virt_due m zero d at = (1, ap (λ (x : Due). Some (due_want m x)) (some_is at))
  virt_due m (suc i) d at =
      let f = map_from (λ (c : Sharer). let x : Due = record { queue = c.resp; number = length (answers_due image req resp m c) } in x) clients i d at in
      (suc (suc (suc (twice i))), pair_second (want_in m) (want_back m) clients i f.0 f.1 ∙ ap (λ (x : Due). Some (due_want m x)) f.2)

  pub virt_follows : NeedsFollow S
  virt_follows = sheet_follows S (λ m apart row. virt_fits m apart row) virt_due
