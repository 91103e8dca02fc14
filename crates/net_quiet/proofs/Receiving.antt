-- From the clients back to the device: where nobody is runnable, each copier took all leases that
-- are due, all of them came back, and no frame is left.
use Rattle.std.proofs.Common.{◌≡◌, ◌+◌, ◌*◌, ◌<◌, ◌≤◌, ◌&&◌, ℕ, zero, suc, Bool, true, false, not, nat_lt, Some, List, [], ◌∷◌, length, map, slice_get, refl, sym, ap, ◌∙◌, subst, arith}
use Rattle.std.proofs.lemmas.List.{length-map}
use Rattle.std.proofs.lemmas.Bool.{ltb-false, le-ltb}
use Rattle.cargo_core.specs.Lists.{IsPrefix}
use Rattle.cargo_core.specs.declared.item.Item.{Item}
use Rattle.frame_core.specs.declared.mac.Mac.{Mac}
use Rattle.wire_core.specs.declared.names.QueueRow.{QueueRow}
use Rattle.wire_core.specs.declared.names.Entry.{Entry}
use Rattle.wire_core.specs.Journal.{History, Hostiles}
use Rattle.play_core.specs.Moved.{Moved, moved, sent, taken}
use Rattle.play_core.specs.Sheets.{Scene}
use Rattle.play_core.specs.Wants.{Want, Needful, intake_want, outlet_want}
use Rattle.play_core.specs.Still.{IsStill, HasWant, Needs, Owes, Holds}
use Rattle.play_core.specs.Totals.{total}
use Rattle.play_core.proofs.OneQueue.{whole_prefix}
use Rattle.wire_core.specs.Ends.{Consumer}
use Rattle.wire_core.specs.Fates.{without}
use Rattle.play_core.proofs.Lists.{some_is, map_from, prefix_trans, there_is, there_below}
use Rattle.play_core.proofs.Merges.{merge_total}
use Rattle.play_core.proofs.Walks.{begins_few, needs_as, flow, drained, roomy}
use Rattle.class_expect.specs.NetExpect.Expecting.{Program, Sink, Source, Echo, frames_for}
use Rattle.net_law.specs.Owners.Names.{ClientPools}
use Rattle.net_law.specs.Parts.Parts.{Lessee}
use Rattle.net_law.specs.Parts.Numbers.{client_first, device_at, driver_at, receiver_at, copier_at, client_at, lessees_from, policy_at}
use Rattle.net_law.specs.Parts.Rows.{CopiesSome, SharesFrames, AllCopy, accepted_by, answer_len, leases_from, lender_of, sent_lens, is_answering}
use Rattle.buffer_kit.specs.Entries.{len_of}
use Rattle.net_law.specs.Parts.Table.{net_sheet, is_short, is_busy, some_owed, leases_of, frees_due, home_count}
use Rattle.net_law.proofs.PartsLemmas.Pairs.{twice, pair_first, pair_second}
use Rattle.net_law.specs.TxParts.Parts.{Shipper}
use Rattle.net_law.specs.TxParts.Numbers.{NetPlace, own_pools, shippers_from}
use Rattle.net_law.specs.TxParts.Rows.{all_sends, at_device}
use Rattle.net_quiet.specs.TxCast.Casting.{IsClientOf}
use Rattle.net_virt_tx.specs.Descriptors.{with_addr}
use Rattle.buffer_kit.specs.Entries.{addr_of}
use Rattle.net_quiet.specs.Still.{IsNetwork, ArrivesAll, SendsAll, copier_gone, device_gone, lens_from}
use Rattle.net_quiet.proofs.Listing.{sized_few, lessee_of, lessee_at, lessee_from, shipper_from, shippers_long, total_same}
use Rattle.net_quiet.proofs.Leases.{kept_few, leases_few, leases_long, leases_all, none_owed, home_few, all_home}
use Rattle.net_quiet.proofs.Sending.{ways_at, want_at, paid_one, drained_one, needs_now, queue_at, driver_row, all_sent, ta_drained, wire_merge}

-- a client that put all that it has to send has answered each frame that came
answered : (program : Program) (mac : Mac) (came : List Item) (put : ℕ) → put ≡ length (sent_lens program mac came) → (is_answering program && nat_lt put (length came)) ≡ false
answered Sink mac came put all = refl
answered (Source script) mac came put all = refl
answered Echo mac came put all = let long = length-map came (λ (item : Item). answer_len mac (len_of item)) in le-ltb put (length came) (omega (arith, all, long))

unneeded : (a b c : Bool) → b ≡ false → c ≡ false → (not (a && b) && not c) ≡ true
unneeded true b c first second = rw (first, second) refl
unneeded false b c first second = rw second refl

-- what the client of a number sends
module _ (first : ℕ) (m : Moved) where
  pub record Sends (n k : ℕ) (programs : List Program) (macs : List Mac) (l : List ℕ) : Type 0 where
    pub program : Program
    pub mac : Mac
    pub plays : slice_get programs k ≡ Some program
    pub address : slice_get macs k ≡ Some mac
    pub is : sent_lens program mac (m.taken (client_first first n + 2)) ≡ l

  pub sends_there : (j : ℕ) (programs : List Program) (macs : List Mac) (k : ℕ) (l : List ℕ) → slice_get (lens_from first m j programs macs) k ≡ Some l → Sends (j + k) k programs macs l
  sends_there j [] macs k l at = absurd cc
  sends_there j (p ∷ ps) [] k l at = absurd cc
  sends_there j (p ∷ ps) (mac ∷ ms) zero l at =
      let plus : j ≡ j + 0 = omega arith in
      record { program = p; mac = mac; plays = refl; address = refl; is = subst (λ n. sent_lens p mac (m.taken (client_first first n + 2)) ≡ l) plus (some_is at) }
  sends_there j (p ∷ ps) (mac ∷ ms) (suc k) l at =
      let rest = sends_there (j + 1) ps ms k l at in
      let shift : j + 1 + k ≡ j + suc k = omega arith in
      record { program = rest.program; mac = rest.mac; plays = rest.plays; address = rest.address; is = subst (λ n. sent_lens rest.program rest.mac (m.taken (client_first first n + 2)) ≡ l) shift rest.is }

  pub sends_many : (j : ℕ) (programs : List Program) (macs : List Mac) → length programs ≡ length macs → length (lens_from first m j programs macs) ≡ length macs
  sends_many j [] [] e = refl
  sends_many j [] (mac ∷ ms) e = absurd (omega (arith, e))
  sends_many j (p ∷ ps) [] e = absurd (omega (arith, e))
  sends_many j (p ∷ ps) (mac ∷ ms) e = let rest = sends_many (j + 1) ps ms (omega (arith, e)) in omega (arith, rest)

module _ (hostile : Hostiles) (h : History) (rows : List QueueRow) (actors : Needful) (j : List Entry) (scene : Scene) (frames : List (List ℕ)) (used : List Bool) (net : NetPlace) (still : IsStill hostile h rows actors j) (w : IsNetwork hostile scene frames used rows actors net (moved h j)) where
  abbrev m : Moved
  m = moved h j

  abbrev put : ℕ → List Item
  put n = sent h n j

  abbrev got : ℕ → List Item
  got n = taken h n j

  abbrev lessees : List Lessee
  lessees = lessees_from net.first 0 net.macs

  -- of the frames that came, the leases of those that are for the client of an address
  abbrev due : Mac → List Item
  due mac = leases_from scene.frames net.pool.base mac 0 (got (net.first + 4))

  abbrev busy : Bool
  busy = is_busy scene.frames (net.first + 4) (net.first + 5) net.pool lessees m

  abbrev due_free : ℕ
  due_free = frees_due net.pool (lender_of scene.frames (net.first + 4) (net.first + 5) net.pool lessees) m

  paid_at : (n due : ℕ) → Holds hostile rows n 1 → Needs hostile actors n true → Owes hostile actors n (nat_lt (length (put n)) due) → due ≤ length (put n)
  paid_at = paid_one hostile h rows actors j scene frames used net still w

  drained_at : (n : ℕ) (owed : Bool) → Holds hostile rows n 1 → Needs hostile actors n true → Owes hostile actors n owed → put n ≡ got n
  drained_at = drained_one hostile h rows actors j scene frames used net still w

  needs_at : (n out due : ℕ) → due ≤ length (put out) → Needs hostile actors n (not (nat_lt (length (put out)) due)) → Needs hostile actors n true
  needs_at = needs_now hostile h rows actors j scene frames used net still w

  queue : (n i : ℕ) → net.first + i ≡ n → i < 8 + 6 * length net.macs → Holds hostile rows n 1
  queue = queue_at hostile h rows actors j scene frames used net still w

  begins_at : (n : ℕ) → Holds hostile rows n 1 → IsPrefix (got n) (put n)
  begins_at n there = (still.flows n there.row there.there).begins

  flow_at : (n : ℕ) → Holds hostile rows n 1 → length (got n) ≤ length (put n)
  flow_at n there = flow hostile h rows actors j still n 1 there

  copies : AllCopy (ways_at net.first) m
  copies = driver_row hostile h rows actors j scene frames used net still w

  want_driver : (place : ℕ) (x : Want) → slice_get ((net_sheet scene (driver_at net.first)).wants m) place ≡ Some x → HasWant hostile actors x
  want_driver = want_at hostile h rows actors j scene frames used net still w (net_sheet scene (driver_at net.first)) w.driver

  want_device : (place : ℕ) (x : Want) → slice_get ((net_sheet scene (device_at net.first frames net.device_drops)).wants m) place ≡ Some x → HasWant hostile actors x
  want_device = want_at hostile h rows actors j scene frames used net still w (net_sheet scene (device_at net.first frames net.device_drops)) w.device

  want_receiver : (place : ℕ) (x : Want) → slice_get ((net_sheet scene (receiver_at net.first net.pool net.macs)).wants m) place ≡ Some x → HasWant hostile actors x
  want_receiver = want_at hostile h rows actors j scene frames used net still w (net_sheet scene (receiver_at net.first net.pool net.macs)) w.receiver

  -- how many frames the device dropped
  abbrev gone : ℕ
  gone = device_gone net m

  receiver_row : SharesFrames scene.frames (net.first + 4) (net.first + 5) net.pool lessees m
  receiver_row = w.receiver.row

  at_first : Holds hostile rows net.first 1
  at_first = queue net.first 0 (omega arith) (omega arith)

  at_filled : Holds hostile rows (net.first + 1) 1
  at_filled = queue (net.first + 1) 1 refl (omega arith)

  at_frames : Holds hostile rows (net.first + 4) 1
  at_frames = queue (net.first + 4) 4 refl (omega arith)

  at_free : Holds hostile rows (net.first + 5) net.pool.buffers
  at_free = w.rooms.free

  -- a frame that was taken came in a buffer that the device took
  filled_few : length (got (net.first + 4)) ≤ length (got net.first)
  filled_few =
      let a = flow_at (net.first + 4) at_frames in
      let b = begins_few (put (net.first + 4)) (got (net.first + 1)) (copies 1 _ refl) in
      let c = flow_at (net.first + 1) at_filled in
      let d = sized_few (map (λ (frame : List ℕ). length frame) (accepted_by net.device_drops used frames)) (got net.first) (put (net.first + 1)) w.fills.filled in
      omega (arith, a, b, c, d.1)

  frames_few : length (got (net.first + 4)) ≤ length scene.frames
  frames_few = let takes = w.fills.takes in let all = ap length w.accepted in omega (arith, filled_few, takes, all)

  loop : length (got (net.first + 4)) ≤ length (got (net.first + 5))
  loop =
      let e = flow_at net.first at_first in
      let f = begins_few (put net.first) (got (net.first + 5)) (copies 0 _ refl) in
      omega (arith, filled_few, e, f)

  abbrev lease_out : Lessee → Want
  lease_out c = outlet_want c.active (is_short (put c.active) (leases_of scene.frames net.pool (net.first + 4) m c))

  abbrev lease_in : Lessee → Want
  lease_in c = intake_want c.free (not busy)

  -- one client
  module _ (k : ℕ) (mac : Mac) (at : slice_get net.macs k ≡ Some mac) where
    abbrev la : ℕ
    la = client_first net.first k

    abbrev lf : ℕ
    lf = client_first net.first k + 1

    abbrev ra : ℕ
    ra = client_first net.first k + 2

    abbrev rf : ℕ
    rf = client_first net.first k + 3

    abbrev ta : ℕ
    ta = client_first net.first k + 4

    below : k < length net.macs
    below = there_below net.macs k mac at

    pools : (q : ClientPools) × (slice_get net.pools k ≡ Some q)
    pools = let many = w.pools.pools_many in there_is net.pools k (omega (arith, many, below))

    plays : (program : Program) × (slice_get net.programs k ≡ Some program)
    plays = let many = w.pools.programs_many in there_is net.programs k (omega (arith, many, below))

    abbrev q : ClientPools
    q = pools.0

    abbrev program : Program
    program = plays.0

    of : IsClientOf net k program mac q
    of = record { address = at; pools = pools.1; plays = plays.1 }

    want_client : (place : ℕ) (x : Want) → slice_get ((net_sheet scene (client_at net.first k program mac (own_pools q))).wants m) place ≡ Some x → HasWant hostile actors x
    want_client = want_at hostile h rows actors j scene frames used net still w (net_sheet scene (client_at net.first k program mac (own_pools q))) (w.client k program mac q of)

    want_copier : (place : ℕ) (x : Want) → slice_get ((net_sheet scene (copier_at net.first k (policy_at net.drops k))).wants m) place ≡ Some x → HasWant hostile actors x
    want_copier = want_at hostile h rows actors j scene frames used net still w (net_sheet scene (copier_at net.first k (policy_at net.drops k))) (w.copier k below)

    -- how many frames its copier dropped
    abbrev lost : ℕ
    lost = copier_gone net m k

    copier_row : CopiesSome lost (got la) (got rf) (put ra) (put lf)
    copier_row = (w.copier k below).row

    lessee : slice_get lessees k ≡ Some (lessee_of net.first k mac)
    lessee = lessee_at net.first 0 net.macs k k mac (omega arith) at

    at_la : Holds hostile rows la 1
    at_la = queue la (8 + 6 * k) (omega arith) (omega (arith, below))

    at_lf : Holds hostile rows lf net.pool.buffers
    at_lf = w.rooms.lease_free k below

    at_ra : Holds hostile rows ra 1
    at_ra = queue ra (10 + 6 * k) (omega arith) (omega (arith, below))

    at_rf : Holds hostile rows rf q.rx.buffers
    at_rf = w.rooms.rx_free k q pools.1

    copied : length (put ra) ≤ length (got rf)
    copied = (sized_few (map len_of (without copier_row.marks (got la))) (got rf) (put ra) copier_row.out.copies).1

    lent : IsPrefix (put la) (due mac)
    lent = receiver_row.lends k (lessee_of net.first k mac) lessee

    lent_few : length (put la) ≤ length (due mac)
    lent_few = begins_few (put la) (due mac) lent

    la_flow : length (got la) ≤ length (put la)
    la_flow = flow_at la at_la

    ra_flow : length (got ra) ≤ length (put ra)
    ra_flow = flow_at ra at_ra

    came_back : IsPrefix (got lf) (due mac)
    came_back =
        let back : IsPrefix (got lf) (put lf) = (still.flows lf at_lf.row at_lf.there).begins in
        let given = copier_row.out.gives_back in
        prefix_trans (got lf) (put lf) (due mac) back (prefix_trans (put lf) (got la) (due mac) given (prefix_trans (got la) (put la) (due mac) (begins_at la at_la) lent))

    few_leases : length (due mac) ≤ length (got lf) + net.pool.buffers
    few_leases = leases_few net.pool receiver_row.sized scene.frames mac (got (net.first + 4)) (got lf) receiver_row.within came_back (receiver_row.single k (lessee_of net.first k mac) lessee)

    all_answered : (is_answering program && nat_lt (length (put ta)) (length (got ra))) ≡ false
    all_answered = answered program mac (got ra) (length (put ta)) (all_sent hostile h rows actors j scene frames used net still w k program mac q of)

    rf_owes : Owes hostile actors rf (nat_lt (length (put rf)) (q.rx.buffers + length (got ra)))
    rf_owes = want_client 1 _ refl

    rf_needs : Needs hostile actors rf (nat_lt (length (got rf) + lost) (length (got la)))
    rf_needs = want_copier 1 _ refl

    rf_paid : q.rx.buffers + length (got ra) ≤ length (put rf)
    rf_paid = roomy hostile h rows actors j still rf q.rx.buffers (q.rx.buffers + length (got ra)) _ at_rf rf_needs rf_owes (omega (arith, ra_flow, copied))

    ra_needs : Needs hostile actors ra true
    ra_needs =
        let none = le-ltb (length (put rf)) (q.rx.buffers + length (got ra)) rf_paid in
        needs_as hostile h rows actors j still ra _ true (unneeded (nat_lt 0 (length (got ra))) _ _ none all_answered) (want_client 0 _ refl)

    ra_owes : Owes hostile actors ra (nat_lt (length (put ra)) (length (got rf)))
    ra_owes = want_copier 2 _ refl

    ra_paid : length (got rf) ≤ length (put ra)
    ra_paid = paid_at ra (length (got rf)) at_ra ra_needs ra_owes

    ra_same : length (put ra) ≡ length (got ra)
    ra_same = ap length (drained_at ra _ at_ra ra_needs ra_owes)

    lf_needs : Needs hostile actors lf (not busy)
    lf_needs = want_receiver (suc (suc (suc (twice k)))) _ (pair_second lease_out lease_in lessees k (lessee_of net.first k mac) lessee)

    pub lf_owes : Owes hostile actors lf (nat_lt (length (put lf)) (length (put ra) + lost))
    lf_owes = want_copier 3 _ refl

    lf_paid : length (put ra) + lost ≤ length (put lf)
    lf_paid =
        let takes = copier_row.out.takes_for in
        roomy hostile h rows actors j still lf net.pool.buffers (length (put ra) + lost) _ at_lf lf_needs lf_owes (omega (arith, copied, takes, la_flow, lent_few, few_leases))

    -- the copier waits for no buffer
    no_wait : (b : Bool) → nat_lt (length (got rf) + lost) (length (got la)) ≡ b → length (got la) ≤ length (got rf) + lost
    no_wait false e = ltb-false (length (got rf) + lost) (length (got la)) e
    no_wait true e =
        let same : length (put rf) ≡ length (got rf) = ap length (drained hostile h rows actors j still rf q.rx.buffers _ at_rf (needs_as hostile h rows actors j still rf _ true e rf_needs) rf_owes) in
        let some = (w.pools.each k q pools.1).0 in
        absurd (omega (arith, same, rf_paid, ra_same, ra_paid, some))

    no_lease : length (got la) ≤ length (put lf)
    no_lease = let n = no_wait _ refl in omega (arith, n, ra_paid, lf_paid)

    la_needs : Needs hostile actors la true
    la_needs = needs_at la lf (length (got la)) no_lease (want_copier 0 _ refl)

    la_owes : Owes hostile actors la (nat_lt (length (put la)) (length (due mac)))
    la_owes = want_receiver (suc (suc (twice k))) _ (pair_first lease_out lease_in lessees k (lessee_of net.first k mac) lessee)

    la_paid : length (due mac) ≤ length (put la)
    la_paid = paid_at la (length (due mac)) at_la la_needs la_owes

    given_all : put lf ≡ got la
    given_all = whole_prefix (put lf) (got la) copier_row.out.gives_back no_lease

    leased_all : got la ≡ due mac
    leased_all = sym (drained_at la _ at_la la_needs la_owes) ∙ whole_prefix (put la) (due mac) lent la_paid

    got_all : length (got ra) + lost ≡ length (due mac)
    got_all =
        let all = ap length leased_all in
        let n = no_wait _ refl in
        let takes = copier_row.out.takes_for in
        omega (arith, all, n, ra_same, ra_paid, copied, takes)

    lease_paid : is_short (put la) (due mac) ≡ false
    lease_paid = le-ltb (length (put la)) (length (due mac)) la_paid

    came_home : busy ≡ false → got lf ≡ due mac
    came_home idle =
        let needs : Needs hostile actors lf true = needs_as hostile h rows actors j still lf _ true (ap not idle) lf_needs in
        let same : put lf ≡ got lf = drained hostile h rows actors j still lf net.pool.buffers _ at_lf needs lf_owes in
        sym same ∙ (given_all ∙ leased_all)

  -- the virtualiser's hand is empty
  free_owes : Owes hostile actors (net.first + 5) (nat_lt (length (put (net.first + 5))) due_free)
  free_owes = want_receiver 1 _ refl

  free_needs : Needs hostile actors (net.first + 5) (not (nat_lt (length (put net.first)) (length (got (net.first + 5)))))
  free_needs = want_driver 0 _ refl

  home_is_few : home_count net.pool (lender_of scene.frames (net.first + 4) (net.first + 5) net.pool lessees) m ≤ net.pool.buffers
  home_is_few = home_few _ net.pool.buffers

  free_paid : due_free ≤ length (put (net.first + 5))
  free_paid = roomy hostile h rows actors j still (net.first + 5) net.pool.buffers due_free _ at_free free_needs free_owes (omega (arith, loop, home_is_few))

  idle : busy ≡ false
  idle =
      let none : some_owed scene.frames net.pool (net.first + 4) m lessees ≡ false = none_owed scene.frames net.pool (net.first + 4) m lessees each in
      let free : nat_lt (length (put (net.first + 5))) due_free ≡ false = le-ltb (length (put (net.first + 5))) due_free free_paid in
      rw (none, free) refl
    where
      each : (k : ℕ) (c : Lessee) → slice_get lessees k ≡ Some c → is_short (put c.active) (leases_of scene.frames net.pool (net.first + 4) m c) ≡ false
      each k c at =
          let of = lessee_from net.first 0 net.macs k c at in
          let plus : k ≡ 0 + k = omega arith in
          subst (λ (x : Lessee). is_short (put x.active) (leases_of scene.frames net.pool (net.first + 4) m x) ≡ false) (ap (λ i. lessee_of net.first i of.0) plus ∙ of.2) (lease_paid k of.0 of.1)

  all_back : home_count net.pool (lender_of scene.frames (net.first + 4) (net.first + 5) net.pool lessees) m ≡ net.pool.buffers
  all_back = all_home scene.frames (net.first + 4) (net.first + 5) net.pool receiver_row.sized lessees m receiver_row.within each
    where
      each : (k : ℕ) (c : Lessee) → slice_get lessees k ≡ Some c → got c.free ≡ leases_of scene.frames net.pool (net.first + 4) m c
      each k c at =
          let of = lessee_from net.first 0 net.macs k c at in
          let plus : k ≡ 0 + k = omega arith in
          subst (λ (x : Lessee). got x.free ≡ leases_of scene.frames net.pool (net.first + 4) m x) (ap (λ i. lessee_of net.first i of.0) plus ∙ of.2) (came_home k of.0 of.1 idle)

  -- up to the device
  frames_need : Needs hostile actors (net.first + 4) true
  frames_need = needs_as hostile h rows actors j still (net.first + 4) _ true (ap not idle) (want_receiver 0 _ refl)

  frames_owes : Owes hostile actors (net.first + 4) (nat_lt (length (put (net.first + 4))) (length (got (net.first + 1))))
  frames_owes = want_driver 3 _ refl

  frames_paid : length (got (net.first + 1)) ≤ length (put (net.first + 4))
  frames_paid = paid_at (net.first + 4) (length (got (net.first + 1))) at_frames frames_need frames_owes

  frames_same : length (put (net.first + 4)) ≡ length (got (net.first + 4))
  frames_same = ap length (drained_at (net.first + 4) _ at_frames frames_need frames_owes)

  filled_need : Needs hostile actors (net.first + 1) true
  filled_need = needs_at (net.first + 1) (net.first + 4) (length (got (net.first + 1))) frames_paid (want_driver 2 _ refl)

  filled_owes : Owes hostile actors (net.first + 1) (nat_lt (length (put (net.first + 1))) (length (got net.first)))
  filled_owes = want_device 1 _ refl

  filled_paid : length (got net.first) ≤ length (put (net.first + 1))
  filled_paid = paid_at (net.first + 1) (length (got net.first)) at_filled filled_need filled_owes

  filled_same : length (put (net.first + 1)) ≡ length (got (net.first + 1))
  filled_same = ap length (drained_at (net.first + 1) _ at_filled filled_need filled_owes)

  -- no frame is left: else all buffers would be nowhere
  none_left : (b : Bool) → nat_lt (length (got net.first) + gone) (length frames) ≡ b → length frames ≤ length (got net.first) + gone
  none_left false e = ltb-false (length (got net.first) + gone) (length frames) e
  none_left true e =
      let none : nat_lt (length (put (net.first + 1))) (length (got net.first)) ≡ false = le-ltb (length (put (net.first + 1))) (length (got net.first)) filled_paid in
      let both : (nat_lt (length (got net.first) + gone) (length frames) && not (nat_lt (length (put (net.first + 1))) (length (got net.first)))) ≡ true = rw (e, none) refl in
      let needs : Needs hostile actors net.first true = needs_as hostile h rows actors j still net.first _ true both (want_device 0 _ refl) in
      let owes : Owes hostile actors net.first (nat_lt (length (put net.first)) (length (got (net.first + 5)))) = want_driver 1 _ refl in
      let same : length (put net.first) ≡ length (got net.first) = ap length (drained_at net.first _ at_first needs owes) in
      let all : length (got (net.first + 5)) ≤ length (put net.first) = paid_at net.first (length (got (net.first + 5))) at_first needs owes in
      let free_need : Needs hostile actors (net.first + 5) true = needs_at (net.first + 5) net.first (length (got (net.first + 5))) all free_needs in
      let free_same : length (put (net.first + 5)) ≡ length (got (net.first + 5)) = ap length (drained hostile h rows actors j still (net.first + 5) net.pool.buffers _ at_free free_need free_owes) in
      let some = w.pools.some in
      absurd (omega (arith, same, all, free_same, free_paid, all_back, some, filled_paid, filled_same, frames_paid, frames_same))

  frames_used : length (got net.first) + gone ≡ length frames
  frames_used = let n = none_left _ refl in let few = w.fills.used in omega (arith, n, few)

  frames_all : length (got net.first) ≡ length scene.frames
  frames_all =
      let takes = w.fills.takes in
      let all = ap length w.accepted in
      let few = kept_few net.device_drops (m.noes Consumer net.first) used frames w.fills.settled w.fills.as_many in
      omega (arith, takes, all, few, frames_used)

  received_all : length (got (net.first + 4)) ≡ length scene.frames
  received_all = omega (arith, frames_all, filled_few, frames_same, frames_paid, filled_same, filled_paid)

  got_frames : (k : ℕ) (mac : Mac) → slice_get net.macs k ≡ Some mac → length (got (client_first net.first k + 2)) + copier_gone net m k ≡ length (frames_for mac scene.frames)
  got_frames k mac at =
      let all = got_all k mac at in
      let long = leases_all scene.frames net.pool.base mac (got (net.first + 4)) received_all in
      omega (arith, all, long)

  pub arrives_all : ArrivesAll scene frames net m
  arrives_all = record { used = frames_used; frames_in = frames_all; received = received_all; leased = leased_all; got = got_frames }

  puts_all : (k : ℕ) (program : Program) (mac : Mac) (q : ClientPools) → IsClientOf net k program mac q → length (put (client_first net.first k + 4)) ≡ length (sent_lens program mac (got (client_first net.first k + 2)))
  puts_all k program mac q of = all_sent hostile h rows actors j scene frames used net still w k program mac q of

  abbrev lens : List (List ℕ)
  lens = lens_from net.first m 0 net.programs net.macs

  wire_all : length (got (net.first + 2)) ≡ total lens
  wire_all = merge_total (all_sends (shippers_from net.first net.most 0 net.pools) m) (got (net.first + 2)) (wire_merge hostile h rows actors j scene frames used net still w) ∙ total_same (all_sends (shippers_from net.first net.most 0 net.pools) m) lens many each
    where
      many : length (all_sends (shippers_from net.first net.most 0 net.pools) m) ≡ length lens
      many =
          let a = length-map (shippers_from net.first net.most 0 net.pools) (λ (c : Shipper). at_device c.pool (got c.active)) in
          let b = shippers_long net.first net.most 0 net.pools in
          let c = sends_many net.first m 0 net.programs net.macs w.pools.programs_many in
          let d = w.pools.pools_many in
          omega (arith, a, b, c, d)

      each : (k : ℕ) (x : List Item) (y : List ℕ) → slice_get (all_sends (shippers_from net.first net.most 0 net.pools) m) k ≡ Some x → slice_get lens k ≡ Some y → length x ≡ length y
      each k x y x_at y_at =
          let c = map_from (λ (c : Shipper). at_device c.pool (got c.active)) (shippers_from net.first net.most 0 net.pools) k x x_at in
          let s = shipper_from net.first net.most 0 net.pools k c.0 c.1 in
          let f = sends_there net.first m 0 net.programs net.macs k y y_at in
          let of : IsClientOf net k f.program f.mac s.0 = record { address = f.address; pools = s.1; plays = f.plays } in
          let plus : k ≡ 0 + k = omega arith in
          let queue_is : client_first net.first k + 4 ≡ c.0.active = ap (λ i. client_first net.first i + 4) plus ∙ ap (λ (d : Shipper). d.active) s.2 in
          let came = length-map (got c.0.active) (λ i. with_addr (c.0.pool.base + addr_of i) i) in
          let same = ap length c.2 in
          let took = ap length (ta_drained hostile h rows actors j scene frames used net still w k f.program f.mac s.0 of) in
          let there = ap (λ n. length (got n)) queue_is in
          let puts = puts_all k f.program f.mac s.0 of in
          let sends = ap (λ n. length (sent_lens f.program f.mac (got (client_first net.first n + 2)))) plus ∙ ap length f.is in
          omega (arith, came, same, took, there, puts, sends)

  pub sends_all : SendsAll net m
  sends_all = record { puts = puts_all; wire = wire_all }
