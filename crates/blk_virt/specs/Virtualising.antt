-- The block virtualiser: what it must fit, what it stands for, and its row.
use Rattle.std.specs.Prelude.{◌≡◌, ◌+◌, ◌*◌, ◌≤◌, ◌<◌, ◌^◌, ◌%◌, ℕ, is_none, Option, None, Some}
use Rattle.std.specs.Prelude.{List, [], ◌∷◌, ◌++◌, All, length, map, drop, slice_get}
use Rattle.std.specs.List.{filter}
use Rattle.std.specs.Option.{option_to_list}
use Rattle.cargo_core.specs.Blocks.{block_bytes, blk_buffer_bytes}
use Rattle.cargo_core.specs.declared.item.Body.TheVariants as Carried
use Rattle.cargo_core.specs.Lists.{IsPrefix}
use Rattle.cargo_core.specs.Pages.{Paged}
use Rattle.cargo_core.specs.Ranges.{AreRanges}
use Rattle.wire_core.specs.declared.names.QueueId.{QueueId}
use Rattle.wire_core.specs.Deeds.{Cargo}
use Rattle.wire_core.specs.Lists.{Passed}
use Rattle.wire_core.specs.Ends.{Role, End}
use Rattle.turn_kit.specs.Turns.{Round}
use Rattle.turn_kit.specs.Hands.{Balances, bodies_of, bodies_at}
use Rattle.buffer_kit.specs.Conserving.{Conserves}
use Rattle.buffer_kit.specs.Virtualising.{SameVirt, IsNewVirt, VirtForgot, VirtOwns, virt_round}
use Rattle.buffer_kit.specs.Virtualising.{virt_came, virt_went, from_queues, to_queues}
use Rattle.blk_mbr.specs.declared.part.Part.{Part}
use Rattle.blk_virt.specs.declared.client.Client.{Client}
use Rattle.blk_virt.specs.declared.virtualiser.BlkEnds.{BlkEnds}
use Rattle.blk_virt.specs.declared.virtualiser.BlkVirt.{BlkVirt}
use Rattle.blk_virt.specs.declared.work.Work.{Work}
use Rattle.blk_virt.specs.Requests.{is_bad, number_of, range_of}
use Rattle.blk_virt.specs.Serving.{IsServed}
use Rattle.blk_virt.specs.Clients.{capped}
use Rattle.blk_virt.specs.Ends.{FitsEnds}
use Rattle.blk_virt.specs.Openings.{IsOutOfTurn, KnowsParts, first_read}
use Rattle.blk_virt.specs.Desks.{IsSomeones, holders}
use Rattle.blk_virt.specs.Works.{IsWork, SameWork, WorkStands, wants_at, gives_at, is_owing}
use Rattle.blk_virt.specs.Works.{work_cargo}
pub use Rattle.buffer_kit.specs.Clients.{queue_at}

-- its ends are its own, and as it keeps them; each client has one each way
pub record FitsBlkVirt (ends : Role → ℕ → End) (v : BlkVirt) : Type 0 where
  pub ends_fit : FitsEnds ends v.ends
  pub work : IsWork v.work
  pub from_each : length (from_queues v.ends) ≡ length (holders v.work.desk)
  pub to_each : length (to_queues v.ends) ≡ length (holders v.work.desk)

-- what it took of responses is what came in turn and at most one, which came last and out of turn;
-- it stands for what came in turn and what it put; its own buffer has the length of each client's;
-- and what it had at the start and what came is, buffer by buffer, what went and what is in its
-- hand
pub record VirtStands (input output : ℕ) (from_clients to_clients : List QueueId) (w : Work)
    (passed : Passed) : Type 0 where
  pub work : IsWork w
  pub start : Paged
  pub long : length start.bytes ≡ blk_buffer_bytes
  pub back : List Cargo
  pub taken : passed.taken input ≡ back ++ option_to_list w.stray
  pub stands : WorkStands w start back (λ k. passed.taken (queue_at from_clients k))
      (passed.sent output) (λ k. passed.sent (queue_at to_clients k))
  pub stray : (y : Cargo) → w.stray ≡ Some y → IsOutOfTurn (passed.sent output) back y
  pub conserves : Conserves (Carried.Page start ∷ [])
      (bodies_at passed.taken (input ∷ map (λ q. q.0) from_clients))
      (bodies_at passed.sent (output ∷ map (λ q. q.0) to_clients)) (bodies_of (work_cargo w)) []

-- the same of the virtualiser's own queues
abbrev pub BlkVirtStandsFor : BlkVirt → Passed → Type 0
BlkVirtStandsFor v passed = VirtStands v.ends.input.queue.0 v.ends.output.queue.0
    (from_queues v.ends) (to_queues v.ends) v.work passed

-- of the responses that it took in turn, which are all but one that came last: the first entry that
-- it put reads block 0 with its own buffer, which has room for it, and entry j has the number j,
-- modulo 2^32; each other is at some client's buffer; it serves each client by its partition,
-- which the sector of the first response tells; nothing is taken from a client before that came;
-- and of each client it counts the requests whose buffer isn't the client's own
pub record BlkVirtRow (v : BlkVirt) (passed : Passed) : Type 0 where
  pub start : Paged
  pub long : block_bytes ≤ length start.bytes
  pub own : v.work.opening.own ≡ record { pool = start.pool; no = start.no }
  pub back : List Cargo
  pub stray : List Cargo
  pub taken : passed.taken v.ends.input.queue.0 ≡ back ++ stray
  pub few : length stray ≤ 1
  pub out_of_turn : All (IsOutOfTurn (passed.sent v.ends.output.queue.0) back) stray
  pub reads : IsPrefix (passed.sent v.ends.output.queue.0)
      (first_read v.work.opening.base start ∷ drop 1 (passed.sent v.ends.output.queue.0))
  pub numbers : (j : ℕ) (x : Cargo) → slice_get (passed.sent v.ends.output.queue.0) j ≡ Some x
      → number_of x ≡ j % 2 ^ 32
  pub within : (j : ℕ) (x : Cargo)
      → slice_get (drop 1 (passed.sent v.ends.output.queue.0)) j ≡ Some x
      → IsSomeones (holders v.work.desk) x
  pub serves : (k : ℕ) (c : Client) (q r : QueueId) (parts : ℕ → Option Part)
      → slice_get v.work.desk.clients.items k ≡ Some c
      → slice_get (from_queues v.ends) k ≡ Some q → slice_get (to_queues v.ends) k ≡ Some r
      → KnowsParts v.work.opening.disk_sectors back parts
      → IsServed c.holder (parts c.holder.partition) (passed.taken q.0)
      (drop 1 (passed.sent v.ends.output.queue.0)) (drop 1 back) (passed.sent r.0)
  pub waits : back ≡ [] → (k : ℕ) (c : Client) (q : QueueId)
      → slice_get v.work.desk.clients.items k ≡ Some c → slice_get (from_queues v.ends) k ≡ Some q
      → passed.taken q.0 ≡ []
  pub counts : (k : ℕ) (c : Client) (q : QueueId) → slice_get v.work.desk.clients.items k ≡ Some c
      → slice_get (from_queues v.ends) k ≡ Some q
      → c.bad ≡ capped (length (filter (is_bad c.holder) (passed.taken q.0)))

-- what it had at the start and what came is what went and what is in its hand
pub record BlkVirtBalances (v : BlkVirt) (passed : Passed) : Type 0 where
  pub start : Paged
  pub own : v.work.opening.own ≡ record { pool = start.pool; no = start.no }
  pub balances : Balances (Carried.Page start ∷ []) (bodies_at passed.taken (virt_came v.ends))
      (bodies_at passed.sent (virt_went v.ends)) (bodies_of (work_cargo v.work)) []

-- one of its ends
abbrev pub BlkVirtEnd : BlkVirt → Role → ℕ → Type 0
BlkVirtEnd v role n = VirtOwns v.ends role n

-- the queues and what it has known from the start stay
pub record SameBlkVirt (old new : BlkVirt) : Type 0 where
  pub ends : SameVirt old.ends new.ends
  pub work : SameWork old.work new.work

-- its ends: it needs responses, and each client's requests once the first block came, where that
-- client has none at the driver and no answer held; it owes requests and answers; after a response
-- out of turn it needs and owes nothing
abbrev pub blk_virt_round : BlkVirt → Round
blk_virt_round v = virt_round v.ends (is_none v.work.stray) (is_owing v.work) (wants_at v.work)
    (gives_at v.work)

-- the same without the last looks
pub record BlkVirtForgot (old new : BlkVirt) : Type 0 where
  pub ends : VirtForgot old.ends new.ends
  pub work : new.work ≡ old.work

-- what is kept of a client at the start
abbrev pub new_client : BlkEnds → Client
new_client e = record {
  holder = record {
    pool = e.pool;
    buffers = e.buffers;
    base = e.base;
    partition = e.partition;
  };
  current = None;
  leaving = None;
  held = None;
  bad = 0;
}

-- each of these clients has some buffers, which end at most at 2^62, and an entry of the table; and
-- no two clients' buffers meet
pub record AreClients (clients : List BlkEnds) : Type 0 where
  pub some : (k : ℕ) (e : BlkEnds) → slice_get clients k ≡ Some e → 0 < e.buffers
  pub entry : (k : ℕ) (e : BlkEnds) → slice_get clients k ≡ Some e → e.partition < 4
  pub room : (k : ℕ) (e : BlkEnds) → slice_get clients k ≡ Some e
      → e.base + e.buffers * blk_buffer_bytes ≤ 2 ^ 62
  pub apart : AreRanges (map (λ (e : BlkEnds). range_of (new_client e).holder) clients)

-- a virtualiser in its start state
pub record IsNewBlkVirt (req resp : QueueId) (clients : List BlkEnds) (page : Paged)
    (base disk_sectors : ℕ) (v : BlkVirt) : Type 0 where
  pub ends : IsNewVirt resp req (map (λ (e : BlkEnds). e.req) clients)
      (map (λ (e : BlkEnds). e.resp) clients) v.ends
  pub clients_are : v.work.desk.clients.items ≡ map new_client clients
  pub own : v.work.opening.own ≡ record { pool = page.pool; no = page.no }
  pub base_is : v.work.opening.base ≡ base
  pub sectors : v.work.opening.disk_sectors ≡ disk_sectors
  pub stray : v.work.stray ≡ None
