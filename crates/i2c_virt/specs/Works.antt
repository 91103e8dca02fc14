-- What the virtualiser has in its hand, and how that stands for what passed.
use Rattle.std.specs.Prelude.{◌≡◌, ◌<◌, ◌^◌, ◌==◌, ◌&&◌, ℕ, Bool, true, false, is_some, is_none}
use Rattle.std.specs.Prelude.{if◌then◌else◌, Option, Some, None, List, [], ◌∷◌, ◌++◌, All, length}
use Rattle.std.specs.Prelude.{map, slice_get, slice_set}
use Rattle.std.specs.List.{filter, list_any}
use Rattle.cargo_core.specs.declared.item.Body.TheVariants as Bodies
use Rattle.cargo_core.specs.declared.item.PoolId.{PoolId}
use Rattle.cargo_core.specs.Pages.{Paged}
use Rattle.wire_core.specs.Deeds.{Cargo}
use Rattle.buffer_kit.specs.Clients.{is_so}
use Rattle.i2c_virt.specs.declared.i2c_kit.alone.Request.{Request}
use Rattle.i2c_virt.specs.I2cKit.Entries.{is_own_request, is_reply_in, shared_place}
use Rattle.i2c_virt.specs.I2cKit.Pages.{SpellsRequest}
use Rattle.i2c_virt.specs.declared.i2c_kit.page.TheConstants.{BUFFERS}
use Rattle.i2c_virt.specs.declared.desk.Desk.{Desk}
use Rattle.i2c_virt.specs.declared.owners.TheConstants.{ADDRESSES}
use Rattle.i2c_virt.specs.declared.work.From.{From}
use Rattle.i2c_virt.specs.declared.work.From.TheVariants as Source
use Rattle.i2c_virt.specs.declared.work.Stray.{Stray}
use Rattle.i2c_virt.specs.declared.work.Work.{Work}
use Rattle.i2c_virt.specs.Owners.{KnowsOwners, verdict}
use Rattle.i2c_virt.specs.Desks.{Judged, IsDesk, DeskStands, is_open, is_away_in, own_entry}

-- a request that was taken in turn, and its page
pub record Took : Type 0 where
  pub request : Request
  pub page : Paged

-- it is of one of so many clients, in a buffer of its own, and its page spells it
pub record IsTook (clients : ℕ) (t : Took) : Type 0 where
  pub there : t.request.client < clients
  pub own : t.page.pool.0 ≡ t.request.client
  pub within : t.page.no < BUFFERS
  pub spelled : SpellsRequest t.page.bytes t.request.ask

-- the requests alone
abbrev pub requests_in : List Took → List Request
requests_in log = map (λ (t : Took). t.request) log

-- the clients in the order in which their requests were taken
abbrev pub clients_in : List Took → List ℕ
clients_in log = map (λ (t : Took). t.request.client) log

-- the requests of client k among these, each as it is judged by those that were taken before it
abbrev pub judged_from : (k : ℕ) → (before : List Request) → List Took → List Judged
judged_from k before [] = []
judged_from k before (t ∷ more) =
    (if t.request.client == k then (t.page, verdict before t.request) ∷ [] else [])
    ++ judged_from k (before ++ t.request ∷ []) more

-- the same of all that were taken, in their order
abbrev pub judged_of : (k : ℕ) → List Took → List Judged
judged_of k log = judged_from k [] log

-- the entries that were taken from client k, among these
abbrev pub entries_of : (k : ℕ) → List Took → List Cargo
entries_of k log = map (λ (j : Judged). own_entry j.0) (judged_of k log)

-- whether an entry of the driver's queues has a buffer of client k
abbrev pub is_of : (k : ℕ) → Cargo → Bool
is_of k (item, Bodies.Page p) = p.pool.0 == k
is_of k (item, Bodies.Empty) = false
is_of k (item, Bodies.Lease l) = false

-- those of these entries that have
abbrev pub of_client : (k : ℕ) → List Cargo → List Cargo
of_client k xs = filter (is_of k) xs

-- an entry has a buffer of one of so many clients
pub record IsSomeones (clients : ℕ) (x : Cargo) : Type 0 where
  pub client : ℕ
  pub there : client < clients
  pub is : is_of client x ≡ true

-- the next request of client k is needed: nothing came out of turn, and none of it is under way or
-- has an answer that is held
abbrev pub wants_at : Work → ℕ → Bool
wants_at w k = is_none w.stray && is_so is_open (slice_get w.desks.items k)

-- an answer is to go to client k
abbrev pub gives_at : Work → ℕ → Bool
gives_at w k =
    is_none w.stray && is_so (λ (d : Desk). is_some d.held) (slice_get w.desks.items k)

-- a request is to go to the driver
abbrev pub is_owing : Work → Bool
is_owing w = is_none w.stray && list_any (λ (d : Desk). is_some d.leaving) w.desks.items

-- whether an entry is a response in turn: it has the buffer of a request at the driver, names it,
-- and spells a reply
abbrev pub is_due : Work → Cargo → Bool
is_due w (item, Bodies.Page p) =
    is_so (λ (d : Desk). is_away_in d p.no) (slice_get w.desks.items p.pool.0)
    && is_reply_in p.pool p.no (shared_place p.pool p.no) (item, Bodies.Page p)
is_due w (item, Bodies.Empty) = false
is_due w (item, Bodies.Lease l) = false

-- what it keeps fits together
pub record IsWork (w : Work) : Type 0 where
  pub owners : length w.owners.clients.items ≡ ADDRESSES
  pub few : length w.desks.items < 2 ^ 16
  pub desks : (k : ℕ) (d : Desk) → slice_get w.desks.items k ≡ Some d → IsDesk k d

-- how it stands for the requests that it took in turn, in their order, for what went to the driver,
-- what came back, and what each client got
pub record WorkStands (w : Work) (log : List Took) (sent back : List Cargo)
    (gave : ℕ → List Cargo) : Type 0 where
  pub knows : KnowsOwners w.owners.clients.items (requests_in log)
  pub took : All (IsTook (length w.desks.items)) log
  pub someones : All (IsSomeones (length w.desks.items)) sent
  pub desks : (k : ℕ) (d : Desk) → slice_get w.desks.items k ≡ Some d
      → DeskStands k d (judged_of k log) (of_client k sent) (of_client k back) (gave k)

-- an entry that came out of turn from client k
abbrev pub strayed_from : (k : ℕ) → Cargo → Stray
strayed_from k x = record { from = Source.Client k; entry = x }

-- and one that came so from the driver
abbrev pub strayed_back : Cargo → Stray
strayed_back y = record { from = Source.Driver; entry = y }

-- a request of client k came
pub record Asked (old : Work) (k : ℕ) (x : Cargo) (new : Work) : Type 0 where
  pub stray : new.stray ≡ old.stray
  pub took : Took
  pub is : x ≡ own_entry took.page
  pub client : took.request.client ≡ k
  pub stands : (log : List Took) (sent back : List Cargo) (gave : ℕ → List Cargo)
      → WorkStands old log sent back gave → WorkStands new (log ++ took ∷ []) sent back gave

-- what client k put was none
pub record Strayed (old : Work) (s : Stray) (new : Work) : Type 0 where
  pub is : new ≡ record old { stray = Some s }

-- the one or the other, as the entry is in turn
abbrev pub AskedIf : Bool → Work → ℕ → Cargo → Work → Type 0
AskedIf true old k x new = Asked old k x new
AskedIf false old k x new = Strayed old (strayed_from k x) new

-- an entry of client k was taken
abbrev pub TookFrom : Work → ℕ → Cargo → Work → Type 0
TookFrom old k x new = AskedIf (is_own_request (record { 0 = k }) x) old k x new

-- the response to a request came
pub record Answered (old : Work) (y : Cargo) (new : Work) : Type 0 where
  pub stray : new.stray ≡ old.stray
  pub stands : (log : List Took) (sent back : List Cargo) (gave : ℕ → List Cargo)
      → WorkStands old log sent back gave → WorkStands new log sent (back ++ y ∷ []) gave

-- the one or the other, as the response is in turn
abbrev pub AnsweredIf : Bool → Work → Cargo → Work → Type 0
AnsweredIf true old y new = Answered old y new
AnsweredIf false old y new = Strayed old (strayed_back y) new

-- an entry of the driver was taken
abbrev pub TookBack : Work → Cargo → Work → Type 0
TookBack old y new = AnsweredIf (is_due old y) old y new

-- the desk of client k was replaced, and nothing else
pub record Replaced (old : Work) (k : ℕ) (was now : Desk) (new : Work) : Type 0 where
  pub there : slice_get old.desks.items k ≡ Some was
  pub is : new.desks.items ≡ slice_set old.desks.items k now
  pub owners : new.owners ≡ old.owners
  pub stray : new.stray ≡ old.stray

-- the number of clients stays
abbrev pub SameWork : Work → Work → Type 0
SameWork old new = length new.desks.items ≡ length old.desks.items

-- what is needed and to go stays
pub record WorkIsStill (old new : Work) : Type 0 where
  pub wants : (k : ℕ) → wants_at new k ≡ wants_at old k
  pub gives : (k : ℕ) → gives_at new k ≡ gives_at old k
  pub owing : is_owing new ≡ is_owing old
  pub free : is_none new.stray ≡ is_none old.stray

-- what is needed of a client, or is to go to it, comes up of this client alone
pub record RisesOnlyAt (client : ℕ) (old new : Work) : Type 0 where
  pub wants : (k : ℕ) → (k ≡ client → ⊥) → wants_at new k ≡ true → wants_at old k ≡ true
  pub gives : (k : ℕ) → (k ≡ client → ⊥) → gives_at new k ≡ true → gives_at old k ≡ true
