use Rattle.std.proofs.Common.{◌≡◌, ◌≢◌, ◌⊎◌, ◌||◌, ◌+◌, ◌*◌, ◌++◌, ◌≤◌, ◌<◌, ℕ, zero, suc, Bool, true, false, not, nat_lt, Some, List, [], ◌∷◌, length, flat_map, slice_get, sum_by, refl, sym, ap, ap₂, ◌∙◌, subst, arith, ltb-true, inl, inr}
use Rattle.std.proofs.lemmas.Bool.{cases_lt, le-ltb, lt-ltb}
use Rattle.cargo_core.specs.Lists.{IsPrefix}
use Rattle.cargo_core.specs.declared.item.Item.{Item}
use Rattle.wire_core.specs.Bells.{bit}
use Rattle.wire_core.specs.Marks.{sum_below}
use Rattle.play_core.specs.Moved.{Moved, Seat, AreAlike, with_put}
use Rattle.play_core.specs.Wants.{Want, intake, outlet, intake_want, outlet_want}
use Rattle.play_core.specs.Sheets.{Scene, Sheet, Due, CouldPut, IsOwn, NeedsFollow, AreApart, due_want}
use Rattle.play_core.proofs.Lists.{some_is, map_from, prefix_trans}
use Rattle.play_core.proofs.Puts.{put_here, put_beside, copy_shorter}
use Rattle.owner_law.specs.Things.{Buffer, Window, is_same, names_in, buffer_of, is_named, times}
use Rattle.owner_law.specs.Keeping.{at_start}
use Rattle.owner_law.proofs.Sums.{same_is}
use Rattle.owner_law.proofs.Counting.{below_plus, below_same}
use Rattle.owner_law.specs.Pools.Places.{PoolAt, by_address, by_offset, pool_hand}
use Rattle.net_law.specs.Owners.Lending.{Borrower, Lender, names_where, leases_due, leases_back}
use Rattle.net_law.proofs.RxOwners.Serving.{same_sums}
use Rattle.net_law.specs.Parts.Parts.{NetReceiver, Lessee}
use Rattle.net_law.specs.Parts.Rows.{IsIn, AreIn, given_item, but_last, leases_from, borrower_of, lender_of, is_lent, SharesFrames}
use Rattle.net_law.specs.Parts.Table.{net_sheet, is_short, home_count, frees_due, leases_of, some_owed, is_busy, lessee_wants}
use Rattle.net_law.proofs.PartsLemmas.Fits.{AllFit, intake_fits, outlet_fits, pairs_fit, sheet_follows}
use Rattle.net_law.proofs.PartsLemmas.Pairs.{twice, twice_same, pair_first, pair_second, pair_seats, flat_alike, each_owed, put_grows, put_length}
use Rattle.net_law.proofs.PartsLemmas.Counting.{get_snoc, below_less, below_few, below_more, below_rest, bit_few, numbered, named_other, buffer_is, count_in, times_none, times_snoc, start_some, start_few, due_none}

-- the receiving virtualiser
module _ (scene : Scene) (active free : ℕ) (pool : PoolAt) (clients : List Lessee) where
  abbrev Receiver : Sheet
  Receiver = net_sheet scene (NetReceiver active free pool clients)

  abbrev l : Lender
  l = lender_of scene.frames active free pool clients

  abbrev w : Window
  w = by_address pool

  abbrev lent_to : Lessee → Seat
  lent_to c = outlet c.active

  abbrev back_from : Lessee → Seat
  back_from c = intake c.free

  -- what two lists of each queue have alike, it has alike of them
  module _ (a b : Moved) (alike : AreAlike Receiver.ends a b) where
    took : a.taken active ≡ b.taken active
    took = alike 0 (intake active) refl

    gave : a.sent free ≡ b.sent free
    gave = alike 1 (outlet free) refl

    shared : (k : ℕ) (c : Lessee) → slice_get clients k ≡ Some c → a.sent c.active ≡ b.sent c.active
    shared k c at = alike (suc (suc (twice k))) (lent_to c) (pair_first lent_to back_from clients k c at)

    back : (k : ℕ) (c : Lessee) → slice_get clients k ≡ Some c → a.taken c.free ≡ b.taken c.free
    back k c at = alike (suc (suc (suc (twice k)))) (back_from c) (pair_second lent_to back_from clients k c at)

    back_same : (x : Buffer) → leases_back (by_offset pool ∷ []) l a x ≡ leases_back (by_offset pool ∷ []) l b x
    back_same x = same_sums (λ c. times x (names_in (by_offset pool ∷ []) (a.taken c.free))) (λ c. times x (names_in (by_offset pool ∷ []) (b.taken c.free))) l.clients each
      where
        each : (k : ℕ) (c : Borrower) → slice_get l.clients k ≡ Some c → times x (names_in (by_offset pool ∷ []) (a.taken c.free)) ≡ times x (names_in (by_offset pool ∷ []) (b.taken c.free))
        each k c at =
            let f = map_from (borrower_of scene.frames) clients k c at in
            subst (λ (d : Borrower). times x (names_in (by_offset pool ∷ []) (a.taken d.free)) ≡ times x (names_in (by_offset pool ∷ []) (b.taken d.free))) f.2 (ap (λ xs. times x (names_in (by_offset pool ∷ []) xs)) (back k f.0 f.1))

    lent_same : (x : Buffer) → is_lent pool l a x ≡ is_lent pool l b x
    lent_same x = ap₂ (λ p q. nat_lt p q) (back_same x) (ap (λ xs. sum_by (λ (c : Borrower). times x (names_where c.is_for 0 (names_in (w ∷ []) xs))) l.clients) took)

    frees_same : frees_due pool l a ≡ frees_due pool l b
    frees_same =
        let home = below_same (λ k. bit (not (is_lent pool l a (numbered pool.number k)))) (λ k. bit (not (is_lent pool l b (numbered pool.number k)))) pool.buffers (λ k lt. ap (λ t. bit (not t)) (lent_same (numbered pool.number k))) in
        ap₂ (λ p q. p + q) (ap (λ xs. length xs) took) home

    owed_same : (cs : List Lessee) → ((k : ℕ) (c : Lessee) → slice_get cs k ≡ Some c → a.sent c.active ≡ b.sent c.active) → some_owed scene.frames pool active a cs ≡ some_owed scene.frames pool active b cs
    owed_same [] same = refl
    owed_same (c ∷ cs) same =
        let head : is_short (a.sent c.active) (leases_of scene.frames pool active a c) ≡ is_short (b.sent c.active) (leases_of scene.frames pool active b c) = ap₂ (λ xs ys. is_short xs (leases_from scene.frames pool.base c.mac 0 ys)) (same 0 c refl) took in
        ap₂ (λ p q. p || q) head (owed_same cs (λ k d at. same (suc k) d at))

    free_same : nat_lt (length (a.sent free)) (frees_due pool l a) ≡ nat_lt (length (b.sent free)) (frees_due pool l b)
    free_same = ap₂ (λ xs n. nat_lt (length xs) n) gave frees_same

    busy_same : is_busy scene.frames active free pool clients a ≡ is_busy scene.frames active free pool clients b
    busy_same = ap₂ (λ p q. p || q) (owed_same clients shared) free_same

    wants_same : Receiver.wants a ≡ Receiver.wants b
    wants_same =
        let busy = is_busy scene.frames active free pool clients in
        ap (λ t. intake_want active (not t) ∷ outlet_want free (nat_lt (length (a.sent free)) (frees_due pool l a)) ∷ flat_map (lessee_wants scene.frames pool active t a) clients) busy_same
        ∙ (ap (λ t. intake_want active (not (busy b)) ∷ outlet_want free t ∷ flat_map (lessee_wants scene.frames pool active (busy b) a) clients) free_same
        ∙ ap (λ ws. intake_want active (not (busy b)) ∷ outlet_want free (nat_lt (length (b.sent free)) (frees_due pool l b)) ∷ ws) (flat_alike (lessee_wants scene.frames pool active (busy b) a) (lessee_wants scene.frames pool active (busy b) b) clients
        (λ k c at. ap₂ (λ xs ys. outlet_want c.active (is_short xs (leases_from scene.frames pool.base c.mac 0 ys)) ∷ intake_want c.free (not (busy b)) ∷ []) (shared k c at) took)))

    row_same : Receiver.row a → Receiver.row b
    row_same h = record {
      sized = h.sized;
      within = subst (AreIn w) took h.within;
      lends = λ k c at. subst (λ xs. IsPrefix xs (leases_from scene.frames pool.base c.mac 0 (b.taken active))) (shared k c at) (subst (λ ys. IsPrefix (a.sent c.active) (leases_from scene.frames pool.base c.mac 0 ys)) took (h.lends k c at));
      prompt = λ k c at. subst (IsPrefix (leases_from scene.frames pool.base c.mac 0 (but_last (b.taken active)))) (shared k c at) (subst (λ ys. IsPrefix (leases_from scene.frames pool.base c.mac 0 (but_last ys)) (a.sent c.active)) took (h.prompt k c at));
      gives = subst (AreIn w) gave h.gives;
      rising = λ k item lt at. h.rising k item lt (ap (λ xs. slice_get xs k) gave ∙ at);
      in_hand = λ x. omega (arith, h.in_hand x, ap bit (lent_same x), ap (λ xs. times x (names_in (w ∷ []) xs)) gave, ap (λ xs. times x (names_in (w ∷ []) xs)) took);
      single = λ k c at x. omega (arith, h.single k c at x, ap (λ xs. times x (names_where (λ n. Rattle.class_expect.specs.NetExpect.Expecting.is_for_client c.mac (Rattle.net_law.specs.Parts.Rows.frame_at scene.frames n)) 0 (names_in (w ∷ []) xs))) took, ap (λ xs. times x (names_in (by_offset pool ∷ []) xs)) (back k c at));
    }

  abbrev lessee_lent : Moved → Lessee → Want
  lessee_lent m c = outlet_want c.active (is_short (m.sent c.active) (leases_of scene.frames pool active m c))

  abbrev lessee_back : Moved → Lessee → Want
  lessee_back m c = intake_want c.free (not (is_busy scene.frames active free pool clients m))

  pub receiver_own : IsOwn Receiver
  receiver_own = record {
    row = λ a b alike look h. row_same a b alike h;
    wants = λ a b alike look. wants_same a b alike;
    ends = λ m. ap (λ ss. intake active ∷ outlet free ∷ ss) (pair_seats (lessee_lent m) (lessee_back m) clients);
  }

  module _ (m : Moved) (apart : AreApart Receiver.ends) (row : Receiver.row m) where
    lessees_apart : (j k : ℕ) (x y : Lessee) → slice_get clients j ≡ Some x → slice_get clients k ≡ Some y → x.active ≡ y.active → j ≡ k
    lessees_apart j k x y at is same =
        let one = pair_first lent_to back_from clients j x at in
        let two = pair_first lent_to back_from clients k y is in
        let e : suc (suc (twice j)) ≡ suc (suc (twice k)) = apart (suc (suc (twice j))) (suc (suc (twice k))) (lent_to x) one (two ∙ ap (λ n. Some (outlet n)) (sym same)) in
        twice_same j k (omega (arith, e))

    beside_free : (k : ℕ) (c : Lessee) → slice_get clients k ≡ Some c → free ≢ c.active
    beside_free k c at same =
        let one = pair_first lent_to back_from clients k c at in
        let e : 1 ≡ suc (suc (twice k)) = apart 1 (suc (suc (twice k))) (outlet free) refl (one ∙ ap (λ n. Some (outlet n)) (sym same)) in
        omega (arith, e)

    -- leases that were given are given after one more put
    still_prompt : (n : ℕ) (x : Item) (k : ℕ) (c : Lessee) → slice_get clients k ≡ Some c → IsPrefix (leases_from scene.frames pool.base c.mac 0 (but_last (m.taken active))) ((with_put m n x).sent c.active)
    still_prompt n x k c at = prefix_trans (leases_from scene.frames pool.base c.mac 0 (but_last (m.taken active))) (m.sent c.active) ((with_put m n x).sent c.active) (row.prompt k c at) (put_grows m n x c.active)

    abbrev S : ℕ → ℕ
    S n = times (numbered pool.number n) (names_in (w ∷ []) (m.sent free))

    abbrev T : ℕ → ℕ
    T n = times (numbered pool.number n) (names_in (w ∷ []) (m.taken active))

    abbrev L : ℕ → ℕ
    L n = bit (is_lent pool l m (numbered pool.number n))

    -- a buffer in the hand may be put
    module _ (n : ℕ) (few : n < pool.buffers) (here : S n + L n < 1 + T n) (next : length (m.sent free) < pool.buffers → n ≡ length (m.sent free)) where
      abbrev item : Item
      item = given_item w n

      item_in : IsIn w item
      item_in = record { number = n; few = few; net = refl; begins = refl }

      names_this : buffer_of (w ∷ []) item ≡ Some (numbered pool.number n)
      names_this = let at : IsIn w item = record { number = n; few = few; net = refl; begins = refl } in buffer_is w row.sized item n at refl

      snoc_in : AreIn w (m.sent free ++ item ∷ [])
      snoc_in k x at = by (get_snoc (m.sent free) item x k at)
        where
          by : (slice_get (m.sent free) k ≡ Some x) ⊎ ((k ≡ length (m.sent free)) × (item ≡ x)) → IsIn w x
          by (inl h) = row.gives k x h
          by (inr h) = subst (IsIn w) h.1 item_in

      snoc_rises : (k : ℕ) (x : Item) → k < pool.buffers → slice_get (m.sent free ++ item ∷ []) k ≡ Some x → Rattle.buffer_kit.specs.Entries.addr_of x ≡ pool.base + k * pool.size
      snoc_rises k x lt at = by (get_snoc (m.sent free) item x k at)
        where
          by : (slice_get (m.sent free) k ≡ Some x) ⊎ ((k ≡ length (m.sent free)) × (item ≡ x)) → Rattle.buffer_kit.specs.Entries.addr_of x ≡ pool.base + k * pool.size
          by (inl h) = row.rising k x lt h
          by (inr h) =
              let same : n ≡ k = next (omega (arith, lt, h.0)) ∙ sym h.0 in
              ap Rattle.buffer_kit.specs.Entries.addr_of (sym h.1) ∙ ap (λ j. pool.base + j * pool.size) same

      snoc_hand : (b : Buffer) → times b (names_in (w ∷ []) (m.sent free ++ item ∷ [])) + bit (is_lent pool l m b) ≤ at_start (pool_hand pool) b + times b (names_in (w ∷ []) (m.taken active))
      snoc_hand b = by (is_same (numbered pool.number n) b) refl
        where
          more : times b (names_in (w ∷ []) (m.sent free ++ item ∷ [])) ≡ times b (names_in (w ∷ []) (m.sent free)) + bit (is_same (numbered pool.number n) b)
          more = times_snoc (w ∷ []) b (m.sent free) item ∙ ap (λ o. times b (names_in (w ∷ []) (m.sent free)) + is_named b o) names_this

          by : (t : Bool) → is_same (numbered pool.number n) b ≡ t → times b (names_in (w ∷ []) (m.sent free ++ item ∷ [])) + bit (is_lent pool l m b) ≤ at_start (pool_hand pool) b + times b (names_in (w ∷ []) (m.taken active))
          by false e = omega (arith, more, ap bit e, row.in_hand b)
          by true e =
              let this : numbered pool.number n ≡ b = same_is (numbered pool.number n) b e in
              let fits : times b (names_in (w ∷ []) (m.sent free)) + bit (is_lent pool l m b) < 1 + times b (names_in (w ∷ []) (m.taken active)) = subst (λ (x : Buffer). times x (names_in (w ∷ []) (m.sent free)) + bit (is_lent pool l m x) < 1 + times x (names_in (w ∷ []) (m.taken active))) this here in
              let one : 1 ≤ at_start (pool_hand pool) b = subst (λ (x : Buffer). 1 ≤ at_start (pool_hand pool) x) this (start_some pool n few) in
              omega (arith, more, ap bit e, fits, one)

      put_this : CouldPut Receiver m free
      put_this =
          let put = put_here m free item in (
            item,
            record {
              sized = row.sized;
              within = row.within;
              lends = λ k c at. subst (λ xs. IsPrefix xs (leases_from scene.frames pool.base c.mac 0 (m.taken active))) (sym (put_beside m free item c.active (beside_free k c at))) (row.lends k c at);
              prompt = λ k c at. still_prompt free item k c at;
              gives = subst (AreIn w) (sym put) snoc_in;
              rising = λ k x lt at. snoc_rises k x lt (ap (λ xs. slice_get xs k) (sym put) ∙ at);
              in_hand = λ b. omega (arith, ap (λ xs. times b (names_in (w ∷ []) xs)) put, snoc_hand b);
              single = row.single;
            },
          )

    lent_few : (n : ℕ) → L n ≤ T n
    lent_few n = by (cases_lt 0 (T n))
      where
        by : (0 < T n) ⊎ (T n ≤ 0) → L n ≤ T n
        by (inl some) = omega (arith, some, bit_few (is_lent pool l m (numbered pool.number n)))
        by (inr none) =
            let due = due_none (w ∷ []) l m (numbered pool.number n) (omega (arith, none)) in
            let not_lent : is_lent pool l m (numbered pool.number n) ≡ false = le-ltb (leases_back (by_offset pool ∷ []) l m (numbered pool.number n)) (leases_due (w ∷ []) l m (numbered pool.number n)) (omega (arith, due)) in
            omega (arith, ap bit not_lent)

    sent_count : sum_below S pool.buffers ≡ length (m.sent free)
    sent_count = count_in w row.sized (m.sent free) row.gives

    taken_count : sum_below T pool.buffers ≡ length (m.taken active)
    taken_count = count_in w row.sized (m.taken active) row.within

    home_is : sum_below L pool.buffers + home_count pool l m ≡ pool.buffers
    home_is = below_rest (λ n. is_lent pool l m (numbered pool.number n)) pool.buffers

    -- the first buffers that weren't put yet are in the hand
    next_unput : length (m.sent free) < pool.buffers → S (length (m.sent free)) ≡ 0
    next_unput lt = times_none (w ∷ []) (numbered pool.number (length (m.sent free))) (m.sent free) each
      where
        each : (k : ℕ) (x : Item) → slice_get (m.sent free) k ≡ Some x → is_named (numbered pool.number (length (m.sent free))) (buffer_of (w ∷ []) x) ≡ 0
        each k x at =
            let below = Rattle.play_core.proofs.Lists.there_below (m.sent free) k x at in
            let is : IsIn w x = record { number = k; few = omega (arith, lt, below); net = (row.gives k x at).net; begins = row.rising k x (omega (arith, lt, below)) at } in
            ap (is_named (numbered pool.number (length (m.sent free)))) (buffer_is w row.sized x k is refl) ∙ named_other pool.number k (length (m.sent free)) (λ e. omega (arith, e, below))

    frees : nat_lt (length (m.sent free)) (frees_due pool l m) ≡ true → CouldPut Receiver m free
    frees lt = by (cases_lt (length (m.sent free)) pool.buffers)
      where
        by : (length (m.sent free) < pool.buffers) ⊎ (pool.buffers ≤ length (m.sent free)) → CouldPut Receiver m free
        by (inl less) = put_this (length (m.sent free)) less (omega (arith, next_unput less, lent_few (length (m.sent free)))) (λ e. refl)
        by (inr all) =
            let owed : length (m.sent free) < frees_due pool l m = ltb-true (length (m.sent free)) (frees_due pool l m) lt in
            let sums = below_plus S L pool.buffers in
            let start = below_more T pool.buffers in
            let x = below_less (λ n. S n + L n) (λ n. 1 + T n) pool.buffers (omega (arith, owed, sums, start, sent_count, taken_count, home_is)) in
            put_this x.0 x.1 x.2 (λ less. absurd (omega (arith, less, all)))

    frees_only : CouldPut Receiver m free → nat_lt (length (m.sent free)) (frees_due pool l m) ≡ true
    frees_only put =
        let after = (with_put m free put.0).sent free in
        let all = count_in w row.sized after put.1.gives in
        let few = below_few (λ n. times (numbered pool.number n) (names_in (w ∷ []) after) + L n) (λ n. 1 + T n) pool.buffers (λ n lt. omega (arith, put.1.in_hand (numbered pool.number n), start_few pool n)) in
        let sums = below_plus (λ n. times (numbered pool.number n) (names_in (w ∷ []) after)) L pool.buffers in
        let start = below_more T pool.buffers in
        lt-ltb (length (m.sent free)) (frees_due pool l m) (omega (arith, all, few, sums, start, taken_count, home_is, put_length m free put.0))

    lends : (k : ℕ) (c : Lessee) → slice_get clients k ≡ Some c → is_short (m.sent c.active) (leases_of scene.frames pool active m c) ≡ true → CouldPut Receiver m c.active
    lends k c at lt =
        let more = each_owed clients (λ (d : Lessee). d.active) (λ d. leases_of scene.frames pool active m d) m row.lends lessees_apart k c at lt in
        let beside = put_beside m c.active more.0 free (λ e. beside_free k c at (sym e)) in (
          more.0,
          record {
            sized = row.sized;
            within = row.within;
            lends = more.1;
            prompt = λ j d is. still_prompt c.active more.0 j d is;
            gives = subst (AreIn w) (sym beside) row.gives;
            rising = λ j x few is. row.rising j x few (ap (λ xs. slice_get xs j) (sym beside) ∙ is);
            in_hand = λ b. omega (arith, ap (λ xs. times b (names_in (w ∷ []) xs)) beside, row.in_hand b);
            single = row.single;
          },
        )

    lends_only : (k : ℕ) (c : Lessee) → slice_get clients k ≡ Some c → CouldPut Receiver m c.active → is_short (m.sent c.active) (leases_of scene.frames pool active m c) ≡ true
    lends_only k c at put = copy_shorter m c.active (leases_of scene.frames pool active m c) put.0 (put.1.lends k c at)

    receiver_fits : AllFit Receiver m (Receiver.wants m)
    receiver_fits = (intake_fits Receiver m active _, (outlet_fits Receiver m free _ frees frees_only, pairs_fit Receiver m (lessee_lent m) (lessee_back m) clients (λ k c at. (outlet_fits Receiver m c.active _ (lends k c at) (lends_only k c at), intake_fits Receiver m c.free _))))

  receiver_due : (m : Moved) (i : ℕ) (d : Due) → slice_get (Receiver.dues m) i ≡ Some d → (k : ℕ) × (slice_get (Receiver.wants m) k ≡ Some (due_want m d))
  receiver_due m zero d at = (1, ap (λ (x : Due). Some (due_want m x)) (some_is at))
  receiver_due m (suc i) d at =
      let f = map_from (λ (c : Lessee). let x : Due = record { queue = c.active; number = length (leases_of scene.frames pool active m c) } in x) clients i d at in
      (suc (suc (twice i)), pair_first (lessee_lent m) (lessee_back m) clients i f.0 f.1 ∙ ap (λ (x : Due). Some (due_want m x)) f.2)

  pub receiver_follows : NeedsFollow Receiver
  receiver_follows = sheet_follows Receiver (λ m apart row. receiver_fits m apart row) receiver_due
