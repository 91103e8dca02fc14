-- The disk: what it must fit, what it stands for, and its row.
use Rattle.std.specs.Prelude.{◌≡◌, ◌≤◌, ◌&&◌, ℕ, Bool, true, false, is_some, is_none, Some, None}
use Rattle.std.specs.Prelude.{List, [], ◌∷◌, ◌++◌, All, length, option_to_list}
use Rattle.std.specs.Option.{ForSome}
use Rattle.cargo_core.specs.declared.item.Body.{Body}
use Rattle.cargo_core.specs.declared.item.QueueKind.TheVariants as Kind
use Rattle.cargo_core.specs.Items.{kind_of}
use Rattle.cargo_core.specs.Lists.{IsPrefix}
use Rattle.wire_core.specs.declared.names.QueueId.{QueueId}
use Rattle.wire_core.specs.declared.names.Side.TheVariants.{Forward, Backward}
use Rattle.wire_core.specs.Deeds.{Cargo}
use Rattle.wire_core.specs.Lists.{Passed}
use Rattle.wire_core.specs.Ends.{Role, Consumer, Producer, End}
use Rattle.turn_kit.specs.Table.{Agrees, start_state}
use Rattle.turn_kit.specs.Turns.{Round}
use Rattle.turn_kit.specs.Posts.{intake_post, outlet_post}
use Rattle.turn_kit.specs.Hands.{Balances, bodies_of, bodies_at}
use Rattle.device_model.specs.declared.disk.DiskDevice.{DiskDevice}
use Rattle.device_model.specs.Disk.Serving.{is_stray, answer_to, answers_to, done}
use Rattle.device_model.specs.Disk.Serving.{image_after, AreInTurn}

-- the queue on which requests come
abbrev pub req : DiskDevice → ℕ
req d = d.input.queue.0

-- the queue to which responses go
abbrev pub resp : DiskDevice → ℕ
resp d = d.output.queue.0

-- its ends are its own, and as it keeps them; requests come and responses go
pub record FitsDisk (ends : Role → ℕ → End) (d : DiskDevice) : Type 0 where
  pub input : Agrees (ends Consumer (req d)) d.input.state
  pub output : Agrees (ends Producer (resp d)) d.output.state
  pub comes : (ends Consumer (req d)).kind ≡ Kind.Req
  pub goes : (ends Producer (resp d)).kind ≡ Kind.Resp
  pub load : ForSome d.load (λ c. kind_of c.0 ≡ Kind.Resp)

-- by the image that it had at the start, it did the requests that it took in turn, in their order,
-- and put its answers or has the last one in its hand; so it has one that came out of turn
pub record DiskStandsFor (start : List ℕ) (d : DiskDevice) (passed : Passed) : Type 0 where
  pub requests : List Cargo
  pub taken : passed.taken (req d) ≡ requests ++ option_to_list d.stray
  pub answered : passed.sent (resp d) ++ option_to_list d.load ≡ answers_to start requests
  pub image : d.image ≡ image_after start requests
  pub size : length d.image ≡ length start
  pub in_turn : AreInTurn start requests
  pub out_of_turn : ForSome d.stray (λ x. is_stray start x ≡ true)

-- of the requests that it took in turn, which are all but for one that came last: what it put are
-- the answers to them, in their order, each on the image that those before it left
pub record DiskRow (start : List ℕ) (d : DiskDevice) (passed : Passed) : Type 0 where
  pub requests : List Cargo
  pub stray : List Cargo
  pub taken : passed.taken (req d) ≡ requests ++ stray
  pub few : length stray ≤ 1
  pub in_turn : AreInTurn start requests
  pub out_of_turn : All (λ (x : Cargo). is_stray start x ≡ true) stray
  pub answers : IsPrefix (passed.sent (resp d)) (answers_to start requests)

-- one of its ends
abbrev pub DiskEnd : DiskDevice → Role → ℕ → Type 0
DiskEnd d Consumer n = n ≡ req d
DiskEnd d Producer n = n ≡ resp d

-- the queues stay
pub record SameDisk (old new : DiskDevice) : Type 0 where
  pub input : new.input.queue ≡ old.input.queue
  pub output : new.output.queue ≡ old.output.queue

-- a disk in its start state
pub record IsNewDisk (req resp : QueueId) (start : List ℕ) (d : DiskDevice) : Type 0 where
  pub input : d.input ≡ record { queue = req; state = start_state Forward }
  pub output : d.output ≡ record { queue = resp; state = start_state Backward }
  pub image : d.image ≡ start
  pub load : d.load ≡ None
  pub stray : d.stray ≡ None
  pub last : d.turn.last ≡ 65535

-- it needs a request: no answer is to be put, and none came out of turn
abbrev pub is_asking : DiskDevice → Bool
is_asking d = is_none d.load && is_none d.stray

-- its ends: it needs a request while no answer is to be put, and owes the answer; it needs and owes
-- nothing once a request came out of turn
abbrev pub disk_round : DiskDevice → Round
disk_round d = record {
  posts = intake_post d.input ∷ outlet_post d.output ∷ [];
  needs = is_asking d ∷ is_some d.load ∷ [];
  last = d.turn.last;
}

-- the bodies in its hand
abbrev pub disk_hand : DiskDevice → List Body
disk_hand d = bodies_of (option_to_list d.load ++ option_to_list d.stray)

-- it keeps nothing
abbrev pub DiskBalances : DiskDevice → Passed → Type 0
DiskBalances d passed = Balances [] (bodies_at passed.taken (req d ∷ []))
    (bodies_at passed.sent (resp d ∷ [])) (disk_hand d) []

-- the same without the last looks
abbrev pub disk_forgotten : DiskDevice → DiskDevice
disk_forgotten d = record d {
  input = record d.input { state = record d.input.state { look = None } };
  output = record d.output { state = record d.output.state { look = None } };
}

-- the disk once an entry was taken: it did a request in turn, and keeps one that isn't
abbrev pub taken_if : Bool → DiskDevice → Cargo → DiskDevice
taken_if true d x = record d { stray = Some x }
taken_if false d x = record d { image = done d.image x; load = Some (answer_to d.image x) }

-- the disk once this entry was taken, in turn or out of it
abbrev pub disk_with : DiskDevice → Cargo → DiskDevice
disk_with d x = taken_if (is_stray d.image x) d x
