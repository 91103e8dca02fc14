-- The count of bad entries is that of those which the virtualisers took of their clients.
use Rattle.std.proofs.Common.{◌≡◌, ◌==◌, ◌+◌, ◌++◌, ℕ, suc, Bool, true, false, Some, List, [], ◌∷◌, length, map, slice_get, sum_by, refl, sym, ap, ◌∙◌, arith}
use Rattle.std.specs.List.{filter}
use Rattle.std.proofs.lemmas.List.{length-map, append-nil}
use Rattle.std.proofs.lemmas.List.Sums.{sum_by-cons}
use Rattle.wire_core.specs.declared.names.QueueId.{QueueId}
use Rattle.wire_core.specs.Deeds.{Cargo}
use Rattle.wire_core.specs.Lists.{Lists, Passed, if_there}
use Rattle.play_core.specs.Names.{Names, Wild}
use Rattle.play_core.specs.Sheets.{Scene}
use Rattle.buffer_kit.specs.Clients.{capped}
use Rattle.buffer_kit.specs.Virtualising.{from_queues, to_queues}
use Rattle.net_virt_tx.specs.declared.NetVirtTx.{NetVirtTx}
use Rattle.net_virt_tx.specs.declared.descriptors.Sender.{Sender}
use Rattle.net_virt_tx.specs.Sending.{TxStandsFor, TxRow, bad_total}
use Rattle.net_virt_tx.specs.Serving.{bad_ones}
use Rattle.net_virt_tx.specs.Traffics.{senders, bad_count}
use Rattle.net_virt_tx.proofs.Rounds.{row_of as sender_row}
use Rattle.net_law.specs.TxParts.Playing.{send_part, shippers}
use Rattle.blk_virt.specs.Desks.{holders, bad_count as blk_bad_count}
use Rattle.blk_virt.specs.Requests.{is_bad}
use Rattle.blk_virt.specs.Virtualising.{BlkVirtStandsFor}
use Rattle.blk_virt.specs.declared.client.Client.{Client}
use Rattle.blk_virt.specs.declared.virtualiser.BlkVirt.{BlkVirt}
use Rattle.blk_virt.proofs.Rows.{row_of as server_row}
use Rattle.blk_law.specs.Sheets.Playing.{holder_pool, sharers}
use Rattle.blk_quiet.specs.Cast.Casting.{holder_of}
use Rattle.blk_quiet.proofs.CastLemmas.Judging.{bad_same}
use Rattle.actor_set.specs.Parts.{Part}
use Rattle.actor_set.specs.Actors.{ActorStandsFor, bad_of, part_of}
use Rattle.actor_set.specs.declared.actor.Actor.{Actor}
use Rattle.actor_set.specs.declared.actor.Actor.TheVariants as Kinds
use Rattle.actor_set.specs.Laws.Scenes.{ToldInTurn}
use Rattle.system_core.specs.BadOnes.{bad_among, bad_asks, bad_by, bad_sends}
use Rattle.system_core.specs.States.{bad_in}

-- a count that stands still at its end counts the same by what it is made of
capped_both : (a b x y : ℕ) → a ≡ capped x → capped b ≡ capped y → capped (a + b) ≡ capped (x + y)
capped_both a b x y c d = omega (arith, c, d)

pub capped_sum : {A : Type 0} (f g : A → ℕ) (xs : List A) → ((k : ℕ) (x : A) → slice_get xs k ≡ Some x → f x ≡ capped (g x)) → capped (sum_by f xs) ≡ capped (sum_by g xs)
capped_sum f g [] each = refl
capped_sum f g (x ∷ xs) each =
    ap capped (sum_by-cons f x xs) ∙ (capped_both (f x) (sum_by f xs) (g x) (sum_by g xs) (each 0 x refl) (capped_sum f g xs (λ k y at. each (suc k) y at)) ∙ ap capped (sym (sum_by-cons g x xs)))

-- the network's sending virtualiser
none_there : (b : Bool) → if_there b [] ≡ []
none_there true = refl
none_there false = refl

sends_total : (passed : Passed) (turn : Lists) → ((n : ℕ) → passed.taken n ≡ turn n) → (ss : List Sender) (from to : List QueueId) → length to ≡ length ss → bad_total ss from turn ≡ bad_sends passed (shippers ss from to)
sends_total passed turn same [] from to many = refl
sends_total passed turn same (s ∷ ss) [] to many = refl
sends_total passed turn same (s ∷ ss) (q ∷ from) [] many = absurd (omega (arith, many))
sends_total passed turn same (s ∷ ss) (q ∷ from) (r ∷ to) many =
    let one = ap (λ xs. length (bad_ones s xs)) (same q.0) in
    let rest = sends_total passed turn same ss from to (omega (arith, many)) in
    ap (λ n. n + bad_total ss from turn) (sym one) ∙ ap (λ n. length (bad_ones s (passed.taken q.0)) + n) rest

sender_bad : (v : NetVirtTx) (passed : Passed) → ((row : TxRow v passed) → row.stray ≡ []) → TxStandsFor v passed → bad_count v.work ≡ capped (bad_sends passed (send_part v).clients)
sender_bad v passed turn st = row.bad ∙ ap capped (sends_total passed row.turn all (senders v.work) (from_queues v.ends) (to_queues v.ends) row.to_each)
  where
    row : TxRow v passed
    row = sender_row v passed st

    all : (n : ℕ) → passed.taken n ≡ row.turn n
    all n = row.taken n ∙ (ap (λ xs. row.turn n ++ if_there (row.place == n) xs) (turn row) ∙ (ap (λ xs. row.turn n ++ xs) (none_there (row.place == n)) ∙ append-nil (row.turn n)))

-- the block virtualiser
asks_total : (passed : Passed) (cs : List Client) (from to : List QueueId) → length from ≡ length cs → length to ≡ length cs → ((k : ℕ) (c : Client) (q : QueueId) → slice_get cs k ≡ Some c → slice_get from k ≡ Some q → c.bad ≡ capped (length (filter (is_bad c.holder) (passed.taken q.0)))) → capped (sum_by (λ (c : Client). c.bad) cs) ≡ capped (bad_asks passed (sharers (map (λ (c : Client). c.holder) cs) from to))
asks_total passed [] from to many long each = refl
asks_total passed (c ∷ cs) [] to many long each = absurd (omega (arith, many))
asks_total passed (c ∷ cs) (q ∷ from) [] many long each = absurd (omega (arith, long))
asks_total passed (c ∷ cs) (q ∷ from) (r ∷ to) many long each =
    let rest = asks_total passed cs from to (omega (arith, many)) (omega (arith, long)) (λ k d p at there. each (suc k) d p at there) in
    let same : is_bad c.holder ≡ is_bad (holder_of (holder_pool c.holder)) = λ i x. bad_same c.holder (holder_of (holder_pool c.holder)) x refl refl i in
    let own = each 0 c q refl refl ∙ ap (λ (f : Cargo → Bool). capped (length (filter f (passed.taken q.0)))) same in
    ap capped (sum_by-cons (λ (d : Client). d.bad) c cs) ∙ capped_both c.bad (sum_by (λ (d : Client). d.bad) cs) (length (filter (is_bad (holder_of (holder_pool c.holder))) (passed.taken q.0))) (bad_asks passed (sharers (map (λ (d : Client). d.holder) cs) from to)) own rest

server_bad : (v : BlkVirt) (passed : Passed) → length (from_queues v.ends) ≡ length (holders v.work.desk) → length (to_queues v.ends) ≡ length (holders v.work.desk) → BlkVirtStandsFor v passed → blk_bad_count v.work.desk ≡ capped (bad_asks passed (sharers (holders v.work.desk) (from_queues v.ends) (to_queues v.ends)))
server_bad v passed from_each to_each st =
    let many = length-map v.work.desk.clients.items (λ (c : Client). c.holder) in
    asks_total passed v.work.desk.clients.items (from_queues v.ends) (to_queues v.ends) (omega (arith, many, from_each)) (omega (arith, many, to_each)) (server_row v passed st).counts

-- an actor's count is that of the bad entries which it took
pub bad_told : (scene : Scene) (wild : Wild) (names : Names) (x : Actor) (passed : Passed) → ToldInTurn scene wild names x passed → ActorStandsFor x passed → bad_of x ≡ capped (bad_by passed (part_of x))
bad_told scene wild names (Kinds.UartDevice x) passed turn st = refl
bad_told scene wild names (Kinds.UartDriver x) passed turn st = refl
bad_told scene wild names (Kinds.SerialVirtRx x) passed turn st = refl
bad_told scene wild names (Kinds.SerialVirtTx x) passed turn st = refl
bad_told scene wild names (Kinds.SerialClient x) passed turn st = refl
bad_told scene wild names (Kinds.EthDevice x) passed turn st = refl
bad_told scene wild names (Kinds.EthDriver x) passed turn st = refl
bad_told scene wild names (Kinds.NetVirtRx x) passed turn st = refl
bad_told scene wild names (Kinds.NetCopier x) passed turn st = refl
bad_told scene wild names (Kinds.NetClient x) passed turn st = refl
bad_told scene wild names (Kinds.NetVirtTx x) passed turn st = sender_bad x passed turn.in_turn st
bad_told scene wild names (Kinds.DiskDevice x) passed turn st = refl
bad_told scene wild names (Kinds.BlkDriver x) passed turn st = refl
bad_told scene wild names (Kinds.BlkVirt x) passed turn st = server_bad x passed turn.0.from_each turn.0.to_each st
bad_told scene wild names (Kinds.BlkClient x) passed turn st = refl
bad_told scene wild names (Kinds.Rogue x) passed turn st = refl

-- and so is that of all
parts_sum : (f : Part → ℕ) (xs : List Actor) → sum_by (λ x. f (part_of x)) xs ≡ sum_by f (map part_of xs)
parts_sum f [] = refl
parts_sum f (x ∷ xs) = omega (arith, sum_by-cons (λ y. f (part_of y)) x xs, sum_by-cons f (part_of x) (map part_of xs), parts_sum f xs)

pub bad_ones_told : (scene : Scene) (wild : Wild) (names : Names) (actors : List Actor) (passed : Passed) → ((k : ℕ) (x : Actor) → slice_get actors k ≡ Some x → ToldInTurn scene wild names x passed) → ((k : ℕ) (x : Actor) → slice_get actors k ≡ Some x → ActorStandsFor x passed) → bad_in actors ≡ bad_among passed (map part_of actors)
bad_ones_told scene wild names actors passed turns stand =
    capped_sum bad_of (λ x. bad_by passed (part_of x)) actors (λ k x at. bad_told scene wild names x passed (turns k x at) (stand k x at)) ∙ ap capped (parts_sum (bad_by passed) actors)
