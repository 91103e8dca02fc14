-- Nothing is counted as bad where each descriptor that came is good.
use Rattle.std.proofs.Common.{◌≡◌, ◌==◌, ℕ, suc, true, false, not, Some, List, [], ◌∷◌, length, slice_get, refl, sym, ap, ◌∙◌, subst, arith}
use Rattle.std.specs.List.{All, filter, sum_by}
use Rattle.std.proofs.lemmas.List.Sums.{sum_by-cons}
use Rattle.std.proofs.lemmas.Option.{get_or_from_slice_get}
use Rattle.wire_core.specs.declared.names.QueueId.{QueueId}
use Rattle.wire_core.specs.Deeds.{Cargo}
use Rattle.wire_core.specs.Lists.{Lists, Passed, if_there}
use Rattle.play_core.specs.Sheets.{Scene}
use Rattle.play_core.proofs.Lists.{there_is, there_below, map_get}
use Rattle.owner_law.proofs.Carrying.{get_first}
use Rattle.buffer_kit.specs.Virtualising.{from_queues}
use Rattle.net_virt_tx.specs.declared.NetVirtTx.{NetVirtTx}
use Rattle.net_virt_tx.specs.declared.descriptors.Sender.{Sender}
use Rattle.net_virt_tx.specs.Clients.{capped}
use Rattle.net_virt_tx.specs.Serving.{is_good_of, bad_ones}
use Rattle.net_virt_tx.specs.Sending.{TxStandsFor, TxRow, bad_total}
use Rattle.net_virt_tx.specs.Traffics.{senders, bad_count}
use Rattle.net_virt_tx.proofs.Rounds.{row_of as sender_row}
use Rattle.blk_virt.specs.Desks.{holders, bad_count as blk_bad_count}
use Rattle.blk_virt.specs.Requests.{is_bad}
use Rattle.blk_virt.specs.Virtualising.{BlkVirtStandsFor, BlkVirtRow}
use Rattle.blk_virt.specs.declared.client.Client.{Client}
use Rattle.blk_virt.specs.declared.requests.Holder.{Holder}
use Rattle.blk_virt.specs.declared.virtualiser.BlkVirt.{BlkVirt}
use Rattle.blk_virt.proofs.Rows.{row_of as server_row}
use Rattle.blk_law.specs.Sheets.Playing.{VirtInTurn}
use Rattle.net_law.proofs.PartsLemmas.Items.{all_at}
use Rattle.owner_law.proofs.PoolsLemmas.Merging.{kept_is}
use Rattle.actor_set.specs.Actors.{ActorStandsFor, bad_of}
use Rattle.actor_set.specs.declared.actor.Actor.{Actor}
use Rattle.actor_set.specs.declared.actor.Actor.TheVariants as Kinds
use Rattle.actor_set.specs.Laws.Turning.{InTurn, SendsInTurn}

-- each of these descriptors is good
abbrev AllGood : Sender → List Cargo → Type 0
AllGood s cs = (k : ℕ) (c : Cargo) → slice_get cs k ≡ Some c → is_good_of s c ≡ true

none_kept : (s : Sender) (cs : List Cargo) → AllGood s cs → bad_ones s cs ≡ []
none_kept s cs good = by (bad_ones s cs) refl
  where
    by : (xs : List Cargo) → bad_ones s cs ≡ xs → xs ≡ []
    by [] e = refl
    by (x ∷ xs) e =
        let kept = kept_is (λ c. not (is_good_of s c)) cs 0 x (ap (λ l. slice_get l 0) e) in
        let is : is_good_of s x ≡ true = good kept.1.0 x kept.1.1 in
        let off : not true ≡ true = ap not (sym is) ∙ kept.0 in
        cc

total_none : (ss : List Sender) (qs : List QueueId) (lists : Lists) → ((k : ℕ) (s : Sender) (q : QueueId) → slice_get ss k ≡ Some s → slice_get qs k ≡ Some q → AllGood s (lists q.0)) → bad_total ss qs lists ≡ 0
total_none [] qs lists good = refl
total_none (s ∷ ss) [] lists good = refl
total_none (s ∷ ss) (q ∷ qs) lists good =
    omega (arith, ap length (none_kept s (lists q.0) (good 0 s q refl refl)), total_none ss qs lists (λ k t r at there. good (suc k) t r at there))

sender_good : (v : NetVirtTx) (passed : Passed) → SendsInTurn v passed → TxStandsFor v passed → bad_count v.work ≡ 0
sender_good v passed turn st = row.bad ∙ ap capped (total_none (senders v.work) (from_queues v.ends) row.turn good)
  where
    row : TxRow v passed
    row = sender_row v passed st

    good : (k : ℕ) (s : Sender) (q : QueueId) → slice_get (senders v.work) k ≡ Some s → slice_get (from_queues v.ends) k ≡ Some q → AllGood s (row.turn q.0)
    good k s q at there j c c_at =
        let took : slice_get (passed.taken q.0) j ≡ Some c = ap (λ xs. slice_get xs j) (row.taken q.0) ∙ get_first (row.turn q.0) (if_there (row.place == q.0) row.stray) j c c_at in
        subst (λ d. is_good_of s d ≡ true) (get_or_from_slice_get (passed.taken q.0) j c c took) (turn.good k s q at there j c (there_below (passed.taken q.0) j c took))

-- of a block virtualiser's clients
served_good : (image : List ℕ) (v : BlkVirt) (passed : Passed) → VirtInTurn image v passed → BlkVirtStandsFor v passed → blk_bad_count v.work.desk ≡ 0
served_good image v passed turn st = ap capped (none_of v.work.desk.clients.items (λ k c at. at_client k c at))
  where
    row : BlkVirtRow v passed
    row = server_row v passed st

    none_of : (cs : List Client) → ((k : ℕ) (c : Client) → slice_get cs k ≡ Some c → c.bad ≡ 0) → sum_by (λ (c : Client). c.bad) cs ≡ 0
    none_of [] each = refl
    none_of (c ∷ cs) each = omega (arith, sum_by-cons (λ (x : Client). x.bad) c cs, each 0 c refl, none_of cs (λ k d at. each (suc k) d at))

    -- of what came all is good
    none_came : (h : Holder) (xs : List Cargo) → All (λ (x : Cargo). is_bad h x ≡ false) xs → filter (is_bad h) xs ≡ []
    none_came h xs good = by (filter (is_bad h) xs) refl
      where
        by : (ys : List Cargo) → filter (is_bad h) xs ≡ ys → ys ≡ []
        by [] e = refl
        by (y ∷ ys) e =
            let kept = kept_is (is_bad h) xs 0 y (ap (λ l. slice_get l 0) e) in
            let is : is_bad h y ≡ false = all_at (λ (x : Cargo). is_bad h x ≡ false) xs good kept.1.0 y kept.1.1 in
            let off : true ≡ false = sym kept.0 ∙ is in
            cc

    at_client : (k : ℕ) (c : Client) → slice_get v.work.desk.clients.items k ≡ Some c → c.bad ≡ 0
    at_client k c at =
        let there : slice_get (holders v.work.desk) k ≡ Some c.holder = map_get (λ (x : Client). x.holder) v.work.desk.clients.items k c at in
        let below = there_below (holders v.work.desk) k c.holder there in
        let q = there_is (from_queues v.ends) k (omega (arith, below, turn.from_each)) in
        row.counts k c q.0 at q.1 ∙ ap (λ (xs : List Cargo). capped (length xs)) (none_came c.holder (passed.taken q.0.0) (turn.good k c.holder q.0 there q.1))

-- no actor counted anything as bad
pub none_bad : (scene : Scene) (x : Actor) (passed : Passed) → InTurn scene x passed → ActorStandsFor x passed → bad_of x ≡ 0
none_bad scene (Kinds.UartDevice x) passed turn st = refl
none_bad scene (Kinds.UartDriver x) passed turn st = refl
none_bad scene (Kinds.SerialVirtRx x) passed turn st = refl
none_bad scene (Kinds.SerialVirtTx x) passed turn st = refl
none_bad scene (Kinds.SerialClient x) passed turn st = refl
none_bad scene (Kinds.EthDevice x) passed turn st = refl
none_bad scene (Kinds.EthDriver x) passed turn st = refl
none_bad scene (Kinds.NetVirtRx x) passed turn st = refl
none_bad scene (Kinds.NetCopier x) passed turn st = refl
none_bad scene (Kinds.NetClient x) passed turn st = refl
none_bad scene (Kinds.NetVirtTx x) passed turn st = sender_good x passed turn st
none_bad scene (Kinds.DiskDevice x) passed turn st = refl
none_bad scene (Kinds.BlkDriver x) passed turn st = refl
none_bad scene (Kinds.BlkVirt x) passed turn st = served_good scene.image x passed turn st
none_bad scene (Kinds.BlkClient x) passed turn st = refl
none_bad scene (Kinds.Rogue x) passed turn st = refl
