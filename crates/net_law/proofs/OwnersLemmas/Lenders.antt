use Rattle.std.proofs.Common.{◌≡◌, ◌+◌, ◌≤◌, ℕ, suc, Bool, true, false, cond, nat_lt, if◌then◌else◌, Option, Some, None, List, [], ◌∷◌, slice_get, sum_by, flat_map, refl, sym, ap, ap₂, ◌∙◌, subst, arith}
use Rattle.std.proofs.lemmas.List.Sums.{sum_by-cons, sum_by-append}
use Rattle.cargo_core.specs.declared.item.Item.{Item}
use Rattle.cargo_core.specs.Lists.{IsPrefix}
use Rattle.wire_core.specs.Bells.{bit}
use Rattle.play_core.specs.Moved.{Moved}
use Rattle.owner_law.specs.Things.{Buffer, is_same, Window, Names, Frames, Naming, Thing, Nothing, Whole, Frame, Lease, Return, thing_at, thing_of, things_from, requests_of, things_sent, things_taken, buffer_of, names_in, is_named, times, as_buffer, as_lease, lends, gives_back, brings_leases}
use Rattle.owner_law.specs.Keeping.{Keeps, is_out, all_taken, all_put}
use Rattle.owner_law.proofs.Named.{times_few, carried, buffers_are, buffers_none, frames_are, leases_are, leases_none, returns_are, returns_none}
use Rattle.net_law.specs.Owners.Lending.{Borrower, receivers_of, names_where, Lender, borrower_ends, lender_ends, LenderNames, frames_taken, leases_due, leases_back, LenderRow}

-- a name counts as often as its frame has receivers
abbrev weighed : Buffer → (ℕ → ℕ) → ℕ → List (Option Buffer) → ℕ
weighed b receivers k [] = 0
weighed b receivers k (None ∷ xs) = weighed b receivers (k + 1) xs
weighed b receivers k (Some c ∷ xs) = (if is_same c b then receivers k else 0) + weighed b receivers (k + 1) xs

-- what frames carry that are lent is so
lent_is : (f : Thing → ℕ) (b : Buffer) → f Nothing ≡ 0 → ((c : Buffer) (r : ℕ) → f (Frame c r) ≡ (if is_same c b then r else 0)) → (ws : List Window) (receivers : ℕ → ℕ) (rs : List Item) (k : ℕ) (items : List Item) → sum_by f (things_from (Frames ws receivers) rs k items) ≡ weighed b receivers k (names_in ws items)
lent_is f b none frame ws receivers rs k [] = refl
lent_is f b none frame ws receivers rs k (i ∷ items) = sum_by-cons f (thing_at (Frames ws receivers) rs k i) (things_from (Frames ws receivers) rs (k + 1) items) ∙ by (buffer_of ws i) (lent_is f b none frame ws receivers rs (k + 1) items)
  where
    by : (o : Option Buffer) → sum_by f (things_from (Frames ws receivers) rs (k + 1) items) ≡ weighed b receivers (k + 1) (names_in ws items) → f (thing_of (λ c. Frame c (receivers k)) o) + sum_by f (things_from (Frames ws receivers) rs (k + 1) items) ≡ weighed b receivers k (o ∷ names_in ws items)
    by None rest = omega (arith, none, rest)
    by (Some c) rest = omega (arith, frame c (receivers k), rest)

-- of the names of a client's places, the first
chosen_step : (b : Buffer) (t : Bool) (x : Option Buffer) (rest : List (Option Buffer)) → times b (if t then x ∷ rest else rest) ≡ (if t then is_named b x else 0) + times b rest
chosen_step b true x rest = sum_by-cons (is_named b) x rest
chosen_step b false x rest = omega arith

one_each : (t : Bool) (d : ℕ) → (if t then d else 0) + 0 ≡ (if t then d else 0)
one_each t d = omega arith

-- so many clients, of a frame that is the buffer's
all_clients : (cs : List Borrower) (k d : ℕ) → d ≡ 0 → sum_by (λ c. if c.is_for k then d else 0) cs ≡ 0
all_clients [] k d none = refl
all_clients (c ∷ cs) k d none = omega (arith, sum_by-cons (λ x. if x.is_for k then d else 0) c cs, all_clients cs k d none, zero_either (c.is_for k))
  where
    zero_either : (t : Bool) → (if t then d else 0) ≡ 0
    zero_either true = none
    zero_either false = refl

each_client : (cs : List Borrower) (k : ℕ) → sum_by (λ c. if c.is_for k then 1 else 0) cs ≡ receivers_of cs k
each_client [] k = refl
each_client (c ∷ cs) k = omega (arith, sum_by-cons (λ x. if x.is_for k then 1 else 0) c cs, sum_by-cons (λ x. bit (x.is_for k)) c cs, each_client cs k, same (c.is_for k))
  where
    same : (t : Bool) → cond {A = ℕ} t 1 0 ≡ bit t
    same true = refl
    same false = refl

first_weighed : (cs : List Borrower) (b : Buffer) (k : ℕ) (x : Option Buffer) (xs : List (Option Buffer)) → sum_by (λ c. if c.is_for k then is_named b x else 0) cs + weighed b (receivers_of cs) (k + 1) xs ≡ weighed b (receivers_of cs) k (x ∷ xs)
first_weighed cs b k None xs = omega (arith, all_clients cs k 0 refl)
first_weighed cs b k (Some y) xs = by (is_same y b)
  where
    by : (s : Bool) → sum_by (λ c. if c.is_for k then bit s else 0) cs + weighed b (receivers_of cs) (k + 1) xs ≡ (if s then receivers_of cs k else 0) + weighed b (receivers_of cs) (k + 1) xs
    by true = omega (arith, each_client cs k)
    by false = omega (arith, all_clients cs k 0 refl)

sums_step : (cs : List Borrower) (b : Buffer) (k : ℕ) (x : Option Buffer) (xs : List (Option Buffer)) → sum_by (λ c. times b (names_where c.is_for k (x ∷ xs))) cs ≡ sum_by (λ c. if c.is_for k then is_named b x else 0) cs + sum_by (λ c. times b (names_where c.is_for (k + 1) xs)) cs
sums_step [] b k x xs = refl
sums_step (c ∷ cs) b k x xs =
    omega (
      arith,
      sum_by-cons (λ y. times b (names_where y.is_for k (x ∷ xs))) c cs,
      sum_by-cons (λ y. if y.is_for k then is_named b x else 0) c cs,
      sum_by-cons (λ y. times b (names_where y.is_for (k + 1) xs)) c cs,
      chosen_step b (c.is_for k) x (names_where c.is_for (k + 1) xs),
      sums_step cs b k x xs,
    )

-- all that is for the clients is all that is lent
chosen_weighed : (cs : List Borrower) (b : Buffer) (k : ℕ) (xs : List (Option Buffer)) → sum_by (λ c. times b (names_where c.is_for k xs)) cs ≡ weighed b (receivers_of cs) k xs
chosen_weighed cs b k [] = none cs
  where
    none : (ds : List Borrower) → sum_by (λ c. times b (names_where c.is_for k [])) ds ≡ 0
    none [] = refl
    none (d ∷ ds) = omega (arith, sum_by-cons (λ c. times b (names_where c.is_for k [])) d ds, none ds)
chosen_weighed cs b k (x ∷ xs) = omega (arith, sums_step cs b k x xs, chosen_weighed cs b (k + 1) xs, first_weighed cs b k x xs)

module _ (naming : Naming) (buffers leased : List Window) (l : Lender) (m : Moved) (names : LenderNames naming buffers leased l) where
  abbrev NamedSo : List Borrower → Type 0
  NamedSo cs = (k : ℕ) (c : Borrower) → slice_get cs k ≡ Some c → (naming c.active ≡ Rattle.owner_law.specs.Things.Leases leased) × (naming c.free ≡ Rattle.owner_law.specs.Things.Returns leased)

  named_so : NamedSo l.clients
  named_so k c at = (names.leases k c at, names.returns k c at)

  -- what came from and went to some clients
  clients_came : (f : Thing → ℕ) (g : Borrower → ℕ) (cs : List Borrower) → ((k : ℕ) (c : Borrower) → slice_get cs k ≡ Some c → carried naming m c.free (m.taken c.free) f ≡ g c) → sum_by f (all_taken naming m (flat_map borrower_ends cs)) ≡ sum_by g cs
  clients_came f g [] each = refl
  clients_came f g (c ∷ cs) each = omega (arith, sum_by-append f (things_taken naming m c.free) (all_taken naming m (flat_map borrower_ends cs)), sum_by-cons g c cs, each 0 c refl, clients_came f g cs (λ k d at. each (suc k) d at))

  clients_went : (f : Thing → ℕ) (g : Borrower → ℕ) (cs : List Borrower) → ((k : ℕ) (c : Borrower) → slice_get cs k ≡ Some c → carried naming m c.active (m.sent c.active) f ≡ g c) → sum_by f (all_put naming m (flat_map borrower_ends cs)) ≡ sum_by g cs
  clients_went f g [] each = refl
  clients_went f g (c ∷ cs) each = omega (arith, sum_by-append f (things_sent naming m c.active) (all_put naming m (flat_map borrower_ends cs)), sum_by-cons g c cs, each 0 c refl, clients_went f g cs (λ k d at. each (suc k) d at))

  zeros : (cs : List Borrower) → sum_by (λ c. 0) cs ≡ 0
  zeros [] = refl
  zeros (c ∷ cs) = omega (arith, sum_by-cons (λ d. 0) c cs, zeros cs)

  lender_came : (f : Thing → ℕ) → sum_by f (all_taken naming m (lender_ends l)) ≡ carried naming m l.frames (m.taken l.frames) f + sum_by f (all_taken naming m (flat_map borrower_ends l.clients))
  lender_came f = sum_by-append f (things_taken naming m l.frames) (all_taken naming m (flat_map borrower_ends l.clients))

  lender_went : (f : Thing → ℕ) → sum_by f (all_put naming m (lender_ends l)) ≡ carried naming m l.free (m.sent l.free) f + sum_by f (all_put naming m (flat_map borrower_ends l.clients))
  lender_went f = sum_by-append f (things_sent naming m l.free) (all_put naming m (flat_map borrower_ends l.clients))

  came_buffers : (b : Buffer) → sum_by (as_buffer b) (all_taken naming m (lender_ends l)) ≡ times b (frames_taken buffers l m)
  came_buffers b = omega (arith, lender_came (as_buffer b), frames_are naming m l.frames (m.taken l.frames) buffers (receivers_of l.clients) (as_buffer b) b names.frames refl (λ c r. refl), clients_came (as_buffer b) (λ c. 0) l.clients (λ k c at. returns_none naming m c.free (m.taken c.free) leased (as_buffer b) (names.returns k c at) refl (λ d. refl)), zeros l.clients)

  went_buffers : (b : Buffer) → sum_by (as_buffer b) (all_put naming m (lender_ends l)) ≡ times b (names_in buffers (m.sent l.free))
  went_buffers b = omega (arith, lender_went (as_buffer b), buffers_are naming m l.free (m.sent l.free) buffers (as_buffer b) b names.free refl (λ c. refl), clients_went (as_buffer b) (λ c. 0) l.clients (λ k c at. leases_none naming m c.active (m.sent c.active) leased (as_buffer b) (names.leases k c at) refl (λ d. refl)), zeros l.clients)

  -- frames that are lent are all those that are for clients
  came_lent : (f : Thing → ℕ) (b : Buffer) → f Nothing ≡ 0 → ((c : Buffer) (r : ℕ) → f (Frame c r) ≡ (if is_same c b then r else 0)) → ((c : Buffer) → f (Return c) ≡ 0) → sum_by f (all_taken naming m (lender_ends l)) ≡ leases_due buffers l m b
  came_lent f b none frame back =
      let frames : carried naming m l.frames (m.taken l.frames) f ≡ weighed b (receivers_of l.clients) 0 (frames_taken buffers l m) = subst (λ (x : Names). sum_by f (things_from x (requests_of x m) 0 (m.taken l.frames)) ≡ weighed b (receivers_of l.clients) 0 (frames_taken buffers l m)) (sym names.frames) (lent_is f b none frame buffers (receivers_of l.clients) [] 0 (m.taken l.frames)) in
      omega (arith, lender_came f, frames, clients_came f (λ c. 0) l.clients (λ k c at. returns_none naming m c.free (m.taken c.free) leased f (names.returns k c at) none back), zeros l.clients, chosen_weighed l.clients b 0 (frames_taken buffers l m))

  came_back : (b : Buffer) → sum_by (gives_back b) (all_taken naming m (lender_ends l)) ≡ leases_back leased l m b
  came_back b = omega (arith, lender_came (gives_back b), no_frames, clients_came (gives_back b) (λ c. times b (names_in leased (m.taken c.free))) l.clients (λ k c at. returns_are naming m c.free (m.taken c.free) leased (gives_back b) b (names.returns k c at) refl (λ d. refl)))
    where
      no_frames : carried naming m l.frames (m.taken l.frames) (gives_back b) ≡ 0
      no_frames = Rattle.owner_law.proofs.Named.frames_none naming m l.frames (m.taken l.frames) buffers (receivers_of l.clients) (gives_back b) names.frames refl (λ c r. refl)

  -- a buffer is lent where more leases of it are due than came back
  pub lender_out : (b : Buffer) → is_out b (all_taken naming m (lender_ends l)) ≡ nat_lt (leases_back leased l m b) (leases_due buffers l m b)
  lender_out b = ap₂ (λ x y. nat_lt x y) (came_back b) (came_lent (lends b) b refl (λ c r. refl) (λ c. refl))

  went_leases : LenderRow buffers leased l m → (b : Buffer) → sum_by (as_lease b) (all_put naming m (lender_ends l)) ≤ leases_due buffers l m b
  went_leases row b = omega (arith, lender_went (as_lease b), buffers_none naming m l.free (m.sent l.free) buffers (as_lease b) names.free refl (λ c. refl), clients_went (as_lease b) (λ c. times b (names_in leased (m.sent c.active))) l.clients (λ k c at. leases_are naming m c.active (m.sent c.active) leased (as_lease b) b (names.leases k c at) refl (λ d. refl)), few_each l.clients row.shares)
    where
      few_each : (cs : List Borrower) → ((k : ℕ) (c : Borrower) → slice_get cs k ≡ Some c → IsPrefix (names_in leased (m.sent c.active)) (names_where c.is_for 0 (frames_taken buffers l m))) → sum_by (λ c. times b (names_in leased (m.sent c.active))) cs ≤ sum_by (λ c. times b (names_where c.is_for 0 (frames_taken buffers l m))) cs
      few_each [] shares = omega arith
      few_each (c ∷ cs) shares = omega (arith, sum_by-cons (λ d. times b (names_in leased (m.sent d.active))) c cs, sum_by-cons (λ d. times b (names_where d.is_for 0 (frames_taken buffers l m))) c cs, times_few b (names_in leased (m.sent c.active)) (names_where c.is_for 0 (frames_taken buffers l m)) (shares 0 c refl), few_each cs (λ k d at. shares (suc k) d at))

  pub lender_keeps : LenderRow buffers leased l m → Keeps l.hand (all_taken naming m (lender_ends l)) (all_put naming m (lender_ends l))
  lender_keeps row = record {
    buffers = λ b. omega (arith, row.in_hand b, came_buffers b, went_buffers b, ap bit (lender_out b));
    leases = λ b. omega (arith, went_leases row b, came_lent (brings_leases b) b refl (λ c r. refl) (λ c. refl));
  }
