-- The wire is what the items tell that the device took.
use Rattle.std.proofs.Common.{◌≡◌, ◌==◌, ◌-◌, ◌++◌, ℕ, zero, suc, Bool, true, false, cond, Some, List, [], ◌∷◌, length, map, slice_get, append_assoc, refl, sym, ap, ◌∙◌, subst, arith}
use Rattle.std.specs.List.{filter}
use Rattle.std.proofs.lemmas.List.{length-map, map-append}
use Rattle.std.proofs.lemmas.Option.{get_or_from_slice_get}
use Rattle.cargo_core.specs.declared.item.Item.{Item}
use Rattle.cargo_core.specs.Lists.{IsPrefix}
use Rattle.wire_core.specs.declared.names.QueueId.{QueueId}
use Rattle.wire_core.specs.Deeds.{Cargo}
use Rattle.wire_core.specs.Lists.{Passed, if_there}
use Rattle.wire_core.specs.Queues.{items_of}
use Rattle.turn_kit.specs.declared.pipe.Pipe.{Pipe}
use Rattle.pipe_driver.specs.declared.pipes.Pipes.{Pipes}
use Rattle.device_model.specs.Ethernet.Devices.{tx_active}
use Rattle.device_model.specs.declared.ethernet.EthDevice.{EthDevice}
use Rattle.buffer_kit.specs.Entries.{addr_of, first_bytes, frame_of}
use Rattle.buffer_kit.specs.Virtualising.{from_queues, to_queues}
use Rattle.net_virt_tx.specs.declared.NetVirtTx.{NetVirtTx}
use Rattle.net_virt_tx.specs.declared.descriptors.Sender.{Sender}
use Rattle.net_virt_tx.specs.Descriptors.{to_client, with_addr}
use Rattle.net_virt_tx.specs.Serving.{is_good_of, is_own, own_of}
use Rattle.net_virt_tx.specs.Sending.{IsAnyones}
use Rattle.net_virt_tx.specs.Traffics.{senders}
use Rattle.net_virt_tx.proofs.Serving.{is_within_own}
use Rattle.play_core.proofs.Lists.{map_get, prefix_trans, some_is, there_is, there_below}
use Rattle.net_law.proofs.Beginnings.{begins_filter}
use Rattle.net_law.proofs.PartsLemmas.Items.{all_at, items_long}
use Rattle.net_law.proofs.PartsLemmas.Leasing.{prefix_get}
use Rattle.net_law.proofs.TxParts.Items.{home_items}
use Rattle.net_law.proofs.WireLemmas.Wires.{len_same, reached}
use Rattle.owner_law.specs.Pools.Places.{PoolAt}
use Rattle.net_law.specs.Parts.Rows.{frame_at}
use Rattle.net_law.specs.TxParts.Rows.{in_range}
use Rattle.net_law.specs.TxParts.Playing.{sender_pool}
use Rattle.net_law.specs.Wire.Sending.{IsSending, AllBegin}
use Rattle.net_law.specs.Wire.Telling.{told_frame, told_after, told_frames}

-- where each entry's frame is told by those before it, all are
all_told : (pools : List PoolAt) (sends : List (List (List ℕ))) (before xs : List Cargo) → ((ys zs : List Cargo) (x : Cargo) → before ++ xs ≡ ys ++ x ∷ zs → told_frame pools sends (items_of ys) x.0 ≡ frame_of x) → told_after pools sends (items_of before) (items_of xs) ≡ map frame_of xs
all_told pools sends before [] each = refl
all_told pools sends before (x ∷ xs) each =
    let whole = append_assoc before (x ∷ []) xs in
    let head = each before xs x refl in
    let tail = all_told pools sends (before ++ x ∷ []) xs (λ ys zs y e. each ys zs y (sym whole ∙ e)) in
    ap (λ f. f ∷ told_after pools sends (items_of before ++ x.0 ∷ []) (items_of xs)) head ∙ ap (λ fs. frame_of x ∷ fs) (ap (λ b. told_after pools sends b (items_of xs)) (sym (map-append (λ (c : Cargo). c.0) before (x ∷ []))) ∙ tail)

-- an entry in a client's range stands behind those that were there before
own_there : (s : Sender) (ys zs : List Cargo) (x : Cargo) → is_own s x ≡ true → slice_get (own_of s (ys ++ x ∷ zs)) (length (own_of s ys)) ≡ Some (to_client s.base x)
own_there s [] zs x own = ap (λ b. slice_get (map (to_client s.base) (cond b (x ∷ filter (is_own s) zs) (filter (is_own s) zs))) 0) own
own_there s (y ∷ ys) zs x own = by (is_own s y) (own_there s ys zs x own)
  where
    by : (t : Bool) → slice_get (own_of s (ys ++ x ∷ zs)) (length (own_of s ys)) ≡ Some (to_client s.base x) → slice_get (map (to_client s.base) (cond t (y ∷ filter (is_own s) (ys ++ x ∷ zs)) (filter (is_own s) (ys ++ x ∷ zs)))) (length (map (to_client s.base) (cond t (y ∷ filter (is_own s) ys) (filter (is_own s) ys)))) ≡ Some (to_client s.base x)
    by true h = h
    by false h = h

own_many : (s : Sender) (ys : List Cargo) → length (own_of s ys) ≡ length (filter (in_range (sender_pool s)) (items_of ys))
own_many s ys =
    let a = items_long (own_of s ys) in
    let b = ap length (home_items s ys) in
    let c = length-map (filter (in_range (sender_pool s)) (items_of ys)) (λ i. with_addr (addr_of i - s.base) i) in
    sym a ∙ (b ∙ c)

-- so it has the frame of its place there
frame_there : (s : Sender) (ys zs : List Cargo) (x : Cargo) (put : List Cargo) (frames : List (List ℕ)) → is_own s x ≡ true → IsPrefix (own_of s (ys ++ x ∷ zs)) put → IsPrefix (map frame_of put) frames → frame_at frames (length (filter (in_range (sender_pool s)) (items_of ys))) ≡ frame_of x
frame_there s ys zs x put frames own sends begun =
    let k = length (own_of s ys) in
    let there = prefix_get (own_of s (ys ++ x ∷ zs)) put sends k (to_client s.base x) (own_there s ys zs x own) in
    let told = prefix_get (map frame_of put) frames begun k (frame_of (to_client s.base x)) (map_get frame_of put k (to_client s.base x) there) in
    let same : frame_of (to_client s.base x) ≡ frame_of x = ap (λ n. first_bytes n x.1) (len_same (addr_of x.0 - s.base) x.0) in
    ap (frame_at frames) (sym (own_many s ys)) ∙ (get_or_from_slice_get frames k (frame_of (to_client s.base x)) [] told ∙ same)

-- the first client in whose range an entry is tells its frame
first_told : (ss : List Sender) (qs : List QueueId) (fs : List (List (List ℕ))) → length qs ≡ length ss → length ss ≡ length fs → (ys : List Cargo) (x : Cargo)
    → ((k : ℕ) (s : Sender) (q : QueueId) (l : List (List ℕ)) → slice_get ss k ≡ Some s → slice_get qs k ≡ Some q → slice_get fs k ≡ Some l → is_own s x ≡ true → frame_at l (length (filter (in_range (sender_pool s)) (items_of ys))) ≡ frame_of x)
    → (k : ℕ) (s : Sender) → slice_get ss k ≡ Some s → is_own s x ≡ true → told_frame (map sender_pool ss) fs (items_of ys) x.0 ≡ frame_of x
first_told [] qs fs a b ys x each k s at own = absurd cc
first_told (s ∷ ss) [] fs a b ys x each k r at own = absurd (omega (arith, a))
first_told (s ∷ ss) (q ∷ qs) [] a b ys x each k r at own = absurd (omega (arith, b))
first_told (s ∷ ss) (q ∷ qs) (l ∷ fs) a b ys x each k r at own = by (is_own s x) refl k at (λ j is. first_told ss qs fs (omega (arith, a)) (omega (arith, b)) ys x (λ i t p m. each (suc i) t p m) j r is own)
  where
    by : (t : Bool) → is_own s x ≡ t → (j : ℕ) → slice_get (s ∷ ss) j ≡ Some r → ((i : ℕ) → slice_get ss i ≡ Some r → told_frame (map sender_pool ss) fs (items_of ys) x.0 ≡ frame_of x) → cond t (frame_at l (length (filter (in_range (sender_pool s)) (items_of ys)))) (told_frame (map sender_pool ss) fs (items_of ys) x.0) ≡ frame_of x
    by true is j there later = each 0 s q l refl refl refl is
    by false is zero there later = let no : true ≡ false = sym own ∙ (ap (λ (t : Sender). is_own t x) (sym (some_is there)) ∙ is) in absurd cc
    by false is (suc j) there later = later j there

-- what stands behind these
behind_there : (ys zs : List Cargo) (x : Cargo) → slice_get (ys ++ x ∷ zs) (length ys) ≡ Some x
behind_there [] zs x = refl
behind_there (y ∷ ys) zs x = behind_there ys zs x

module _ (d : EthDevice) (p : Pipes (Pipes (Pipes Pipe))) (v : NetVirtTx) (passed : Passed) (h : IsSending d p v passed) (sends : List (List (List ℕ))) (all : AllBegin v passed sends) where
  abbrev went : List Cargo
  went = passed.sent v.ends.output.queue.0

  abbrev got : List Cargo
  got = passed.taken (tx_active d)

  -- the good descriptors that came in turn from a client are a beginning of those that came
  came_from : (s : Sender) (q : QueueId) → IsPrefix (filter (is_good_of s) (h.virtualiser.turn q.0)) (filter (is_good_of s) (passed.taken q.0))
  came_from s q =
      let row = h.virtualiser in
      let begins : IsPrefix (row.turn q.0) (passed.taken q.0) = (if_there (row.place == q.0) row.stray, sym (row.taken q.0)) in
      begins_filter (is_good_of s) (row.turn q.0) (passed.taken q.0) begins

  module _ (ys zs : List Cargo) (x : Cargo) (split : got ≡ ys ++ x ∷ zs) where
    reach : IsPrefix got went
    reach = reached d p v passed h

    went_is : went ≡ ys ++ x ∷ (zs ++ reach.0)
    went_is = sym reach.1 ∙ (ap (λ l. l ++ reach.0) split ∙ append_assoc ys (x ∷ zs) reach.0)

    one_told : (k : ℕ) (s : Sender) (q : QueueId) (l : List (List ℕ)) → slice_get (senders v.work) k ≡ Some s → slice_get (from_queues v.ends) k ≡ Some q → slice_get sends k ≡ Some l → is_own s x ≡ true → frame_at l (length (filter (in_range (sender_pool s)) (items_of ys))) ≡ frame_of x
    one_told k s q l at fat lat own =
        let row = h.virtualiser in
        let to_each = row.to_each in
        let below = there_below (senders v.work) k s at in
        let r = there_is (to_queues v.ends) k (omega (arith, below, to_each)) in
        let served = row.serves k s q r.0 at fat r.1 in
        let shown = subst (λ w. IsPrefix (own_of s w) (filter (is_good_of s) (row.turn q.0))) went_is served.sends in
        let good = filter (is_good_of s) (passed.taken q.0) in
        let came = prefix_trans (own_of s (ys ++ x ∷ (zs ++ reach.0))) (filter (is_good_of s) (row.turn q.0)) good shown (came_from s q) in
        frame_there s ys (zs ++ reach.0) x good l own came (all.each k s q l at fat lat)

    entry_told : told_frame (map sender_pool (senders v.work)) sends (items_of ys) x.0 ≡ frame_of x
    entry_told =
        let there : slice_get went (length ys) ≡ Some x = ap (λ l. slice_get l (length ys)) went_is ∙ behind_there ys (zs ++ reach.0) x in
        let of = all_at (IsAnyones (senders v.work)) went h.virtualiser.within (length ys) x there in
        first_told (senders v.work) (from_queues v.ends) sends h.virtualiser.from_each all.as_many ys x one_told of.0 of.1 of.2 (is_within_own of.1 (h.virtualiser.sized of.0 of.1 of.2) x of.3)

  pub wire_told : d.wire.tape.shown ≡ told_frames (map sender_pool (senders v.work)) sends (items_of got)
  wire_told = h.device.wire ∙ sym (all_told (map sender_pool (senders v.work)) sends [] got (λ ys zs x e. entry_told ys zs x e))

-- as many frames are told as items came
pub told_long : (pools : List PoolAt) (sends : List (List (List ℕ))) (before items : List Item) → length (told_after pools sends before items) ≡ length items
told_long pools sends before [] = refl
told_long pools sends before (x ∷ items) = let rest = told_long pools sends (before ++ x ∷ []) items in omega (arith, rest)
