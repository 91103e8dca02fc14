-- The leases of frames: how many they are, which buffers they name, and that none is out where all
-- came back.
use Rattle.std.proofs.Common.{◌≡◌, ◌+◌, ◌<◌, ◌≤◌, ℕ, zero, suc, Bool, true, false, not, cond, Some, List, [], ◌∷◌, length, map, take, slice_get, sum_by, refl, sym, ap, ap₂, ◌∙◌, subst, arith}
use Rattle.std.proofs.lemmas.Bool.{le-ltb}
use Rattle.std.proofs.lemmas.List.{length-take-le}
use Rattle.std.proofs.lemmas.List.Sums.{sum_by-cons}
use Rattle.wire_core.specs.Fates.{without, marked}
use Rattle.wire_core.proofs.Fating.{without_length}
use Rattle.cargo_core.specs.Lists.{IsPrefix}
use Rattle.cargo_core.specs.declared.item.Item.{Item}
use Rattle.frame_core.specs.declared.mac.Mac.{Mac}
use Rattle.wire_core.specs.Bells.{bit}
use Rattle.wire_core.specs.Marks.{sum_below}
use Rattle.play_core.specs.Moved.{Moved}
use Rattle.play_core.proofs.Lists.{some_is}
use Rattle.owner_law.specs.Things.{Buffer, Window, buffer_of, names_in, times}
use Rattle.owner_law.proofs.Counting.{below_none}
use Rattle.class_expect.specs.NetExpect.Expecting.{is_for_client, frames_for}
use Rattle.owner_law.specs.Pools.Places.{PoolAt, by_address, by_offset}
use Rattle.net_law.specs.Owners.Lending.{names_where, leases_due, leases_back}
use Rattle.net_law.specs.Parts.Parts.{Lessee}
use Rattle.net_law.specs.Parts.Rows.{IsIn, AreIn, accepted_by, frame_at, lease_item, leases_from, borrower_of, lender_of, is_lent}
use Rattle.net_law.specs.Parts.Table.{home_count, some_owed, leases_of, is_short}
use Rattle.net_law.proofs.PartsLemmas.Counting.{numbered, buffer_is, count_in, below_few, below_more, below_rest}
use Rattle.net_law.proofs.PartsLemmas.Leasing.{prefix_get}

-- a lease begins where its buffer does
abbrev lease_in : (pool : PoolAt) (frame : List ℕ) (x : Item) → IsIn (by_address pool) x → IsIn (by_offset pool) (lease_item pool.base frame x)
lease_in pool frame x at = let begins = at.begins in record { number = at.number; few = at.few; net = refl; begins = omega (arith, begins) }

pub leases_in : (pool : PoolAt) (frames : List (List ℕ)) (mac : Mac) (place : ℕ) (items : List Item) → AreIn (by_address pool) items → AreIn (by_offset pool) (leases_from frames pool.base mac place items)
leases_in pool frames mac place [] within k item at = cc
leases_in pool frames mac place (x ∷ items) within k item at = by (is_for_client mac (frame_at frames place)) (lease_in pool (frame_at frames place) x (within 0 x refl)) (leases_in pool frames mac (place + 1) items (λ j y y_at. within (suc j) y y_at)) k at
  where
    rest : List Item
    rest = leases_from frames pool.base mac (place + 1) items

    by : (t : Bool) → IsIn (by_offset pool) (lease_item pool.base (frame_at frames place) x) → AreIn (by_offset pool) rest → (j : ℕ) → slice_get (cond t (lease_item pool.base (frame_at frames place) x ∷ rest) rest) j ≡ Some item → IsIn (by_offset pool) item
    by true here more zero is = subst (IsIn (by_offset pool)) (some_is is) here
    by true here more (suc j) is = more j item is
    by false here more j is = more j item is

-- leases name the buffers in which their frames came
pub lease_names : (pool : PoolAt) → 0 < pool.size → (frames : List (List ℕ)) (mac : Mac) (place : ℕ) (items : List Item) → AreIn (by_address pool) items → names_in (by_offset pool ∷ []) (leases_from frames pool.base mac place items) ≡ names_where (λ n. is_for_client mac (frame_at frames n)) place (names_in (by_address pool ∷ []) items)
lease_names pool some frames mac place [] within = refl
lease_names pool some frames mac place (x ∷ items) within = by (is_for_client mac (frame_at frames place)) same (lease_names pool some frames mac (place + 1) items (λ k y at. within (suc k) y at))
  where
    at : IsIn (by_address pool) x
    at = within 0 x refl

    one : Item
    one = lease_item pool.base (frame_at frames place) x

    same : buffer_of (by_offset pool ∷ []) (lease_item pool.base (frame_at frames place) x) ≡ buffer_of (by_address pool ∷ []) x
    same = buffer_is (by_offset pool) some (lease_item pool.base (frame_at frames place) x) at.number (lease_in pool (frame_at frames place) x at) refl ∙ sym (buffer_is (by_address pool) some x at.number at refl)

    by : (t : Bool) → buffer_of (by_offset pool ∷ []) (lease_item pool.base (frame_at frames place) x) ≡ buffer_of (by_address pool ∷ []) x → names_in (by_offset pool ∷ []) (leases_from frames pool.base mac (place + 1) items) ≡ names_where (λ n. is_for_client mac (frame_at frames n)) (place + 1) (names_in (by_address pool ∷ []) items) → names_in (by_offset pool ∷ []) (cond t (lease_item pool.base (frame_at frames place) x ∷ leases_from frames pool.base mac (place + 1) items) (leases_from frames pool.base mac (place + 1) items)) ≡ cond t (buffer_of (by_address pool ∷ []) x ∷ names_where (λ n. is_for_client mac (frame_at frames n)) (place + 1) (names_in (by_address pool ∷ []) items)) (names_where (λ n. is_for_client mac (frame_at frames n)) (place + 1) (names_in (by_address pool ∷ []) items))
    by true h rest = ap₂ (λ y ys. y ∷ ys) h rest
    by false h rest = rest

begin_in : (w : Window) (xs ys : List Item) → IsPrefix xs ys → AreIn w ys → AreIn w xs
begin_in w xs ys begins within k item at = within k item (prefix_get xs ys begins k item at)

-- at most as many leases are out to a client as there are buffers
module _ (pool : PoolAt) (some : 0 < pool.size) (frames : List (List ℕ)) (mac : Mac) (items back : List Item) (within : AreIn (by_address pool) items) where
  abbrev due : List Item
  due = leases_from frames pool.base mac 0 items

  module _ (begins : IsPrefix back due) (single : (b : Buffer) → times b (names_where (λ n. is_for_client mac (frame_at frames n)) 0 (names_in (by_address pool ∷ []) items)) ≤ times b (names_in (by_offset pool ∷ []) back) + 1) where
    few_more : (n : ℕ) → n < pool.buffers → times (numbered pool.number n) (names_in (by_offset pool ∷ []) due) ≤ 1 + times (numbered pool.number n) (names_in (by_offset pool ∷ []) back)
    few_more n lt =
        let same = ap (times (numbered pool.number n)) (lease_names pool some frames mac 0 items within) in
        let most = single (numbered pool.number n) in
        omega (arith, same, most)

    pub leases_few : length due ≤ length back + pool.buffers
    leases_few =
        let in_ = leases_in pool frames mac 0 items within in
        let all = count_in (by_offset pool) some due in_ in
        let came = count_in (by_offset pool) some back (begin_in (by_offset pool) back due begins in_) in
        let few = below_few (λ n. times (numbered pool.number n) (names_in (by_offset pool ∷ []) due)) (λ n. 1 + times (numbered pool.number n) (names_in (by_offset pool ∷ []) back)) pool.buffers few_more in
        let more = below_more (λ n. times (numbered pool.number n) (names_in (by_offset pool ∷ []) back)) pool.buffers in
        omega (arith, all, came, few, more)

-- leases of frames after the first are those of the other frames
later_leases : (f : List ℕ) (frames : List (List ℕ)) (base : ℕ) (mac : Mac) (place next : ℕ) (items : List Item) → next ≡ suc place → leases_from (f ∷ frames) base mac next items ≡ leases_from frames base mac place items
later_leases f frames base mac place next [] e = refl
later_leases f frames base mac place next (x ∷ items) e = ap₂ (λ frame rest. cond (is_for_client mac frame) (lease_item base frame x ∷ rest) rest) (ap (frame_at (f ∷ frames)) e) (later_leases f frames base mac (place + 1) (next + 1) items (omega (arith, e)))

-- where frames came, no more leases are due than frames are for the client; and where all came, as
-- many
pub leases_long : (frames : List (List ℕ)) (base : ℕ) (mac : Mac) (items : List Item) → length items ≤ length frames → length (leases_from frames base mac 0 items) ≤ length (frames_for mac frames)
leases_long frames base mac [] le = omega arith
leases_long [] base mac (x ∷ items) le = absurd (omega (arith, le))
leases_long (f ∷ frames) base mac (x ∷ items) le = by (is_for_client mac f) (leases_long frames base mac items (omega (arith, le))) (later_leases f frames base mac 0 1 items refl)
  where
    by : (t : Bool) → length (leases_from frames base mac 0 items) ≤ length (frames_for mac frames) → leases_from (f ∷ frames) base mac 1 items ≡ leases_from frames base mac 0 items → length (cond t (lease_item base f x ∷ leases_from (f ∷ frames) base mac 1 items) (leases_from (f ∷ frames) base mac 1 items)) ≤ length (cond t (f ∷ frames_for mac frames) (frames_for mac frames))
    by true rest later = let same = ap length later in omega (arith, rest, same)
    by false rest later = let same = ap length later in omega (arith, rest, same)

pub leases_all : (frames : List (List ℕ)) (base : ℕ) (mac : Mac) (items : List Item) → length items ≡ length frames → length (leases_from frames base mac 0 items) ≡ length (frames_for mac frames)
leases_all [] base mac [] e = refl
leases_all (f ∷ frames) base mac [] e = absurd (omega (arith, e))
leases_all [] base mac (x ∷ items) e = absurd (omega (arith, e))
leases_all (f ∷ frames) base mac (x ∷ items) e = by (is_for_client mac f) (leases_all frames base mac items (omega (arith, e))) (later_leases f frames base mac 0 1 items refl)
  where
    by : (t : Bool) → length (leases_from frames base mac 0 items) ≡ length (frames_for mac frames) → leases_from (f ∷ frames) base mac 1 items ≡ leases_from frames base mac 0 items → length (cond t (lease_item base f x ∷ leases_from (f ∷ frames) base mac 1 items) (leases_from (f ∷ frames) base mac 1 items)) ≡ length (cond t (f ∷ frames_for mac frames) (frames_for mac frames))
    by true rest later = let same = ap length later in omega (arith, rest, same)
    by false rest later = let same = ap length later in omega (arith, rest, same)

-- no more frames are accepted than there are, but for those that were dropped
pub kept_few : (drops : Bool) (noes : ℕ) (marks : List Bool) (frames : List (List ℕ)) → length marks ≤ length frames → marked marks ≡ cond drops noes 0 → length (accepted_by drops marks frames) + cond drops noes 0 ≤ length frames
kept_few true noes marks frames settled many =
    let first = length-take-le (length marks) frames settled in
    let left = without_length marks (take (length marks) frames) (omega (arith, first)) in
    omega (arith, left, first, settled, many)
kept_few false noes marks frames settled many = omega arith

-- no client is owed a lease
pub none_owed : (frames : List (List ℕ)) (pool : PoolAt) (active : ℕ) (m : Moved) (cs : List Lessee) → ((k : ℕ) (c : Lessee) → slice_get cs k ≡ Some c → is_short (m.sent c.active) (leases_of frames pool active m c) ≡ false) → some_owed frames pool active m cs ≡ false
none_owed frames pool active m [] none = refl
none_owed frames pool active m (c ∷ cs) none =
    let here = none 0 c refl in
    let rest = none_owed frames pool active m cs (λ k x at. none (suc k) x at) in
    rw (here, rest) refl

-- no more buffers are home than there are
pub home_few : (t : ℕ → Bool) (n : ℕ) → sum_below (λ k. bit (not (t k))) n ≤ n
home_few t n = let both = below_rest t n in omega (arith, both)

-- where all leases came back, all buffers are home
back_same : (frames : List (List ℕ)) (pool : PoolAt) → 0 < pool.size → (active : ℕ) (m : Moved) (b : Buffer) (cs : List Lessee) → AreIn (by_address pool) (m.taken active) → ((k : ℕ) (c : Lessee) → slice_get cs k ≡ Some c → m.taken c.free ≡ leases_of frames pool active m c)
    → sum_by (λ c. times b (names_in (by_offset pool ∷ []) (m.taken c.free))) (map (borrower_of frames) cs) ≡ sum_by (λ c. times b (names_where c.is_for 0 (names_in (by_address pool ∷ []) (m.taken active)))) (map (borrower_of frames) cs)
back_same frames pool some active m b [] within back = refl
back_same frames pool some active m b (c ∷ cs) within back =
    let here : times b (names_in (by_offset pool ∷ []) (m.taken c.free)) ≡ times b (names_where (λ n. is_for_client c.mac (frame_at frames n)) 0 (names_in (by_address pool ∷ []) (m.taken active))) = ap (λ l. times b (names_in (by_offset pool ∷ []) l)) (back 0 c refl) ∙ ap (times b) (lease_names pool some frames c.mac 0 (m.taken active) within) in
    let rest = back_same frames pool some active m b cs within (λ k x at. back (suc k) x at) in
    let one = sum_by-cons (λ x. times b (names_in (by_offset pool ∷ []) (m.taken x.free))) (borrower_of frames c) (map (borrower_of frames) cs) in
    let two = sum_by-cons (λ x. times b (names_where x.is_for 0 (names_in (by_address pool ∷ []) (m.taken active)))) (borrower_of frames c) (map (borrower_of frames) cs) in
    omega (arith, here, rest, one, two)

pub all_home : (frames : List (List ℕ)) (active free : ℕ) (pool : PoolAt) → 0 < pool.size → (cs : List Lessee) (m : Moved) → AreIn (by_address pool) (m.taken active) → ((k : ℕ) (c : Lessee) → slice_get cs k ≡ Some c → m.taken c.free ≡ leases_of frames pool active m c) → home_count pool (lender_of frames active free pool cs) m ≡ pool.buffers
all_home frames active free pool some cs m within back =
    let none = below_none (λ k. bit (is_lent pool (lender_of frames active free pool cs) m (numbered pool.number k))) pool.buffers (λ n lt. ap bit (unlent n)) in
    let both = below_rest (λ k. is_lent pool (lender_of frames active free pool cs) m (numbered pool.number k)) pool.buffers in
    omega (arith, none, both)
  where
    unlent : (n : ℕ) → is_lent pool (lender_of frames active free pool cs) m (numbered pool.number n) ≡ false
    unlent n =
        let same = back_same frames pool some active m (numbered pool.number n) cs within back in
        le-ltb (leases_back (by_offset pool ∷ []) (lender_of frames active free pool cs) m (numbered pool.number n)) (leases_due (by_address pool ∷ []) (lender_of frames active free pool cs) m (numbered pool.number n)) (omega (arith, same))
