-- The virtualiser of the bus: what it must fit, what it stands for, and its row.
use Rattle.std.specs.Prelude.{◌≡◌, ◌+◌, ◌≤◌, ◌<◌, ◌==◌, ℕ, Bool, true, false, is_some, is_none}
use Rattle.std.specs.Prelude.{if◌then◌else◌, Option, Some, None, List, [], ◌∷◌, ◌++◌, All, length}
use Rattle.std.specs.Prelude.{map, replicate, slice_get}
use Rattle.std.specs.Int.{bit_at}
use Rattle.std.specs.List.{flat_map}
use Rattle.std.specs.Option.{ForSome, option_to_list}
use Rattle.cargo_core.specs.Lists.{IsPrefix}
use Rattle.cargo_core.specs.Pages.{Paged}
use Rattle.wire_core.specs.declared.names.Event.{Event}
use Rattle.wire_core.specs.declared.names.Op.{Op}
use Rattle.wire_core.specs.declared.names.Op.TheVariants as Do
use Rattle.wire_core.specs.declared.names.QueueId.{QueueId}
use Rattle.wire_core.specs.Deeds.{Cargo}
use Rattle.wire_core.specs.Ends.{Role, End}
use Rattle.wire_core.specs.Lists.{Passed}
use Rattle.turn_kit.specs.Table.{is_settled}
use Rattle.turn_kit.specs.Turns.{Post, Round, unsettled_from}
use Rattle.turn_kit.specs.Lowests.{found}
use Rattle.turn_kit.specs.declared.turns.Stand.{Stand}
use Rattle.buffer_kit.specs.Clients.{queue_at}
use Rattle.buffer_kit.specs.Virtualising.{FitsVirt, SameVirt, IsNewVirt, virt_round, from_queues}
use Rattle.buffer_kit.specs.Virtualising.{to_queues, place_of}
use Rattle.buffer_kit.specs.declared.virt_ends.VirtEnd.{VirtEnd}
use Rattle.i2c_virt.specs.I2cKit.Entries.{is_own_request}
use Rattle.i2c_virt.specs.I2cKit.Pages.{status_in}
use Rattle.i2c_virt.specs.declared.desk.Desk.{Desk}
use Rattle.i2c_virt.specs.declared.loose.Loose.{Loose}
use Rattle.i2c_virt.specs.declared.virtualiser.I2cVirt.{I2cVirt}
use Rattle.i2c_virt.specs.declared.work.From.{From}
use Rattle.i2c_virt.specs.declared.work.From.TheVariants as Source
use Rattle.i2c_virt.specs.declared.work.Stray.{Stray}
use Rattle.i2c_virt.specs.declared.work.Work.{Work}
use Rattle.i2c_virt.specs.Desks.{AreGiven, forwarded, is_open, new_desk, shared_entry}
use Rattle.i2c_virt.specs.Owners.{KnowsOwners}
use Rattle.i2c_virt.specs.Works.{Took, IsTook, IsSomeones, IsWork, SameWork, WorkStands, clients_in}
use Rattle.i2c_virt.specs.Works.{entries_of, gives_at, is_owing, judged_of, of_client, wants_at}

-- the client whose requests come at a queue, where the first of these is client `first`'s
abbrev pub client_at : (first : ℕ) → List QueueId → (queue : ℕ) → Option ℕ
client_at first [] queue = None
client_at first (q ∷ qs) queue =
    if q.0 == queue then Some first else client_at (first + 1) qs queue

-- the client that a call takes from
abbrev pub if_take : Op → Option ℕ → List ℕ
if_take Do.Take client = option_to_list client
if_take Do.Put client = []
if_take Do.See client = []
if_take Do.Room client = []
if_take (Do.Ask s) client = []
if_take (Do.Waive s) client = []
if_take (Do.Wake s) client = []
if_take (Do.Wanted s) client = []
if_take (Do.Settle s) client = []
if_take (Do.Ring s) client = []
if_take (Do.Store w v) client = []

-- the client, if any, whose request this call takes from one of these queues
abbrev pub took_from : List QueueId → Event → List ℕ
took_from reqs e = if_take e.op (client_at 0 reqs e.queue.0)

-- the clients in the order in which these calls take their requests
abbrev pub order_of : List QueueId → List Event → List ℕ
order_of reqs calls = flat_map (took_from reqs) calls

-- an entry that came from client k
abbrev pub if_client : (k : ℕ) → From → Cargo → List Cargo
if_client k Source.Driver x = []
if_client k (Source.Client j) x = if j == k then x ∷ [] else []

-- the entry out of turn, where it came from client k
abbrev pub strays_of : (k : ℕ) → Option Stray → List Cargo
strays_of k None = []
strays_of k (Some s) = if_client k s.from s.entry

-- an entry that came from the driver
abbrev pub if_driver : From → Cargo → List Cargo
if_driver Source.Driver x = x ∷ []
if_driver (Source.Client j) x = []

-- the entry out of turn, where it came from the driver
abbrev pub strays_back : Option Stray → List Cargo
strays_back None = []
strays_back (Some s) = if_driver s.from s.entry

-- the client that something came from
abbrev pub if_client_number : From → List ℕ
if_client_number Source.Driver = []
if_client_number (Source.Client j) = j ∷ []

-- the client whose entry was out of turn
abbrev pub strays_by : Option Stray → List ℕ
strays_by None = []
strays_by (Some s) = if_client_number s.from

-- an entry is the response to a request at the driver: among what went there for its client, the
-- next one that no response came for is in the same buffer; and it spells a reply
pub record IsResponseTo (sent back : List Cargo) (y : Cargo) : Type 0 where
  pub page : Paged
  pub is : y ≡ shared_entry page
  pub spelled : is_some (status_in page.bytes) ≡ true
  pub request : Paged
  pub next : slice_get (of_client page.pool.0 sent) (length (of_client page.pool.0 back))
      ≡ Some (shared_entry request)
  pub number : request.no ≡ page.no

-- an entry is out of turn: what one of so many clients put is no request, or what the driver put
-- answers none
abbrev pub IsAstray : (clients : ℕ) → (sent back : List Cargo) → From → Cargo → Type 0
IsAstray clients sent back Source.Driver y = IsResponseTo sent back y → ⊥
IsAstray clients sent back (Source.Client k) x =
    (k < clients) × (is_own_request (record { 0 = k }) x ≡ false)

-- its ends are its own, and as it keeps them, at Net queues; each client has one each way
pub record FitsEnds (ends : Role → ℕ → End) (v : I2cVirt) : Type 0 where
  pub ends_fit : FitsVirt ends v.ends
  pub work : IsWork v.work
  pub from_each : length (from_queues v.ends) ≡ length v.work.desks.items
  pub to_each : length (to_queues v.ends) ≡ length v.work.desks.items

-- its ends: it needs responses, and the requests of each client of which none is at the driver or
-- on its way there and no answer is held; it owes requests and answers; after an entry out of turn
-- it needs and owes nothing
abbrev pub i2c_virt_round : I2cVirt → Round
i2c_virt_round v = virt_round v.ends (is_none v.work.stray) (is_owing v.work) (wants_at v.work)
    (gives_at v.work)

-- the lowest of its ends that aren't settled
abbrev pub lowest_of : I2cVirt → Option Stand
lowest_of v = unsettled_from None 0 (i2c_virt_round v).posts (i2c_virt_round v).needs

-- the end at a place, if there is one, is settled
abbrev pub IsSettledEnd : Round → ℕ → Type 0
IsSettledEnd r k = (p : Post) (need : Bool) → slice_get r.posts k ≡ Some p
    → slice_get r.needs k ≡ Some need → is_settled p.state need ≡ true

-- among these are all of the first 64 ends that aren't settled
abbrev pub AreLoose : Loose → Round → Type 0
AreLoose l r = (k : ℕ) → k < 64 → bit_at l.bits k ≡ 0 → IsSettledEnd r k

-- it keeps which is the lowest, and which ends may be unsettled
pub record KnowsLowest (v : I2cVirt) : Type 0 where
  pub is : found v.lowest ≡ lowest_of v
  pub loose : AreLoose v.loose (i2c_virt_round v)

-- a place is none of the driver's ends', and none of those of a client
pub record IsBesides (v : I2cVirt) (client k : ℕ) : Type 0 where
  pub input : k ≡ 0 → ⊥
  pub output : k ≡ 1 → ⊥
  pub from : k ≡ 2 + client → ⊥
  pub to : k ≡ 2 + length (from_queues v.ends) + client → ⊥

-- an end wasn't loose and stays so after a call at another end, where that moved no entry, or one
-- that matters to the driver's ends and those of one client alone
pub record IsLeft (v : I2cVirt) (at : VirtEnd) (moved : Bool) (client k : ℕ) : Type 0 where
  pub clear : bit_at v.loose.bits k ≡ 0
  pub another : k ≡ place_of v.ends at → ⊥
  pub besides : moved ≡ true → IsBesides v client k

-- it fits its ends, and keeps which is the lowest of those that aren't settled
pub record FitsI2cVirt (ends : Role → ℕ → End) (v : I2cVirt) : Type 0 where
  pub ends_fit : FitsVirt ends v.ends
  pub work : IsWork v.work
  pub from_each : length (from_queues v.ends) ≡ length v.work.desks.items
  pub to_each : length (to_queues v.ends) ≡ length v.work.desks.items
  pub knows : KnowsLowest v

-- it stands for the requests that it took in turn, in the order of its takes, and for the responses
-- that it took so; at most one entry, which came last, was out of turn
pub record VirtStands (resp req : ℕ) (reqs resps : List QueueId) (w : Work) (passed : Passed) :
    Type 0 where
  pub work : IsWork w
  pub log : List Took
  pub back : List Cargo
  pub stands : WorkStands w log (passed.sent req) back (λ k. passed.sent (queue_at resps k))
  pub order : order_of reqs passed.calls ≡ clients_in log ++ strays_by w.stray
  pub requests : (k : ℕ) → k < length w.desks.items
      → passed.taken (queue_at reqs k) ≡ entries_of k log ++ strays_of k w.stray
  pub responses : passed.taken resp ≡ back ++ strays_back w.stray
  pub out_of_turn : ForSome w.stray
      (λ (s : Stray). IsAstray (length w.desks.items) (passed.sent req) back s.from s.entry)
  pub waiting : (k : ℕ) (d : Desk) (s : Stray) → w.stray ≡ Some s → s.from ≡ Source.Client k
      → slice_get w.desks.items k ≡ Some d → is_open d ≡ true

-- the same of the virtualiser's own queues
abbrev pub I2cVirtStandsFor : I2cVirt → Passed → Type 0
I2cVirtStandsFor v passed = VirtStands v.ends.input.queue.0 v.ends.output.queue.0
    (from_queues v.ends) (to_queues v.ends) v.work passed

-- of the entries that it took in turn, which are all but for one that came last: each request is
-- judged by those that it took before, of whatever client; to the driver go, of each client, those
-- that it doesn't answer itself, in their order; what a client got answers its requests in their
-- order, each in its own buffer, by the virtualiser itself or as the response says that came for
-- it; and of each client it took at most one request more than it answered
pub record VirtRow (clients req resp : ℕ) (reqs resps : List QueueId) (passed : Passed) : Type 0
  where
    pub log : List Took
    pub back : List Cargo
    pub stray : Option Stray
    pub took : All (IsTook clients) log
    pub order : order_of reqs passed.calls ≡ clients_in log ++ strays_by stray
    pub requests : (k : ℕ) → k < clients
        → passed.taken (queue_at reqs k) ≡ entries_of k log ++ strays_of k stray
    pub responses : passed.taken resp ≡ back ++ strays_back stray
    pub out_of_turn : ForSome stray
        (λ (s : Stray). IsAstray clients (passed.sent req) back s.from s.entry)
    pub sends : (k : ℕ) → k < clients
        → IsPrefix (of_client k (passed.sent req)) (forwarded (judged_of k log))
    pub someones : All (IsSomeones clients) (passed.sent req)
    pub answers : (k : ℕ) → k < clients
        → AreGiven (judged_of k log) (of_client k back) (passed.sent (queue_at resps k))
    pub one : (k : ℕ) → k < clients
        → length (passed.taken (queue_at reqs k)) ≤ length (passed.sent (queue_at resps k)) + 1

-- the queues and the number of clients stay
pub record SameI2cVirt (old new : I2cVirt) : Type 0 where
  pub ends : SameVirt old.ends new.ends
  pub work : SameWork old.work new.work

-- a virtualiser in its start state
pub record IsNewI2cVirt (req resp : QueueId) (reqs resps : List QueueId) (v : I2cVirt) : Type 0
  where
    pub ends : IsNewVirt resp req reqs resps v.ends
    pub desks : v.work.desks.items ≡ replicate (length reqs) new_desk
    pub owners : KnowsOwners v.work.owners.clients.items []
    pub stray : v.work.stray ≡ None
    pub knows : KnowsLowest v
