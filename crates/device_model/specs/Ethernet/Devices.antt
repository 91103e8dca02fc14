-- The Ethernet device: what it must fit, what it stands for, and its row. It may drop the next
-- frame where a look for a free buffer answers no.
use Rattle.std.specs.Prelude.{◌≡◌, ◌⊎◌, ◌<◌, ◌≤◌, ◌&&◌, ◌^◌, ◌+◌, ℕ, Bool, true, false, cond, take}
use Rattle.std.specs.Prelude.{flat_map, nat_lt, is_some, is_none, None, List, [], ◌∷◌, ◌++◌, All}
use Rattle.std.specs.Prelude.{length, map, option_to_list}
use Rattle.std.specs.Option.{ForSome}
use Rattle.cargo_core.specs.declared.item.Body.{Body}
use Rattle.cargo_core.specs.declared.item.QueueKind.TheVariants as Kind
use Rattle.cargo_core.specs.Items.{kind_of}
use Rattle.cargo_core.specs.Lists.{IsPrefix}
use Rattle.wire_core.specs.declared.names.QueueId.{QueueId}
use Rattle.wire_core.specs.declared.names.Event.{Event}
use Rattle.wire_core.specs.declared.names.Side.TheVariants.{Forward, Backward}
use Rattle.wire_core.specs.Lists.{Passed}
use Rattle.wire_core.specs.Ends.{Role, Consumer, Producer, End}
use Rattle.wire_core.specs.Fates.{is_take_at, is_vain_at, noes_at, without, marked}
use Rattle.turn_kit.specs.Table.{Agrees, start_state}
use Rattle.turn_kit.specs.Turns.{Post, Round}
use Rattle.turn_kit.specs.Posts.{intake_post, outlet_post}
use Rattle.turn_kit.specs.Dropping.{dropping}
use Rattle.turn_kit.specs.Hands.{Balances, bodies_of, bodies_at}
use Rattle.turn_kit.specs.Pipes.{FitsPipe, IsNewPipe}
use Rattle.buffer_kit.specs.Entries.{all_filled, frame_of}
use Rattle.buffer_kit.specs.Recorders.{RecorderStandsFor}
use Rattle.device_model.specs.declared.ethernet.EthDevice.{EthDevice}

-- the queue on which free buffers come to be filled
abbrev pub rx_free : EthDevice → ℕ
rx_free d = d.free.queue.0

-- the queue to which filled buffers go
abbrev pub rx_active : EthDevice → ℕ
rx_active d = d.active.queue.0

-- the queue on which frames come that are to be sent
abbrev pub tx_active : EthDevice → ℕ
tx_active d = d.wire.pipe.input.queue.0

-- the queue to which their buffers go back
abbrev pub tx_free : EthDevice → ℕ
tx_free d = d.wire.pipe.output.queue.0

-- its ends are its own, and as it keeps them; all are queues of the network, and each frame has at
-- most 65,535 bytes
pub record FitsDevice (ends : Role → ℕ → End) (d : EthDevice) : Type 0 where
  pub free : Agrees (ends Consumer (rx_free d)) d.free.state
  pub active : Agrees (ends Producer (rx_active d)) d.active.state
  pub wire : FitsPipe ends d.wire.pipe
  pub comes : (ends Consumer (rx_free d)).kind ≡ Kind.Net
  pub goes : (ends Producer (rx_active d)).kind ≡ Kind.Net
  pub load : ForSome d.load (λ c. kind_of c.0 ≡ Kind.Net)
  pub inputs_apart : rx_free d ≡ tx_active d → ⊥
  pub outputs_apart : rx_active d ≡ tx_free d → ⊥
  pub next : d.next ≤ length d.frames
  pub frames : All (λ frame. length frame < 2 ^ 16) d.frames

-- what a call does with the next frame: a take of a free buffer uses it up, and under drop a look
-- in vain for one drops it
abbrev pub frame_mark : (drops : Bool) (free : ℕ) → Event → List Bool
frame_mark drops free e = cond (is_take_at free e) (false ∷ [])
    (cond (drops && is_vain_at Consumer free e) (true ∷ []) [])

-- of the frames that are used up by these calls, in their order, whether each was dropped
abbrev pub frames_dropped : EthDevice → List Event → List Bool
frames_dropped d calls = flat_map (frame_mark d.drops (rx_free d)) calls

-- the frames that are used up by takes; all of them where it waits
abbrev pub accepted : EthDevice → List Event → List (List ℕ)
accepted d calls = cond d.drops (without (frames_dropped d calls)
    (take (length (frames_dropped d calls)) d.frames)) d.frames

-- its calls tell what became of the frames: each before the next one was used up by one of them,
-- and each look in vain for a free buffer dropped one
pub record TellsFrames (d : EthDevice) (passed : Passed) : Type 0 where
  pub used : length (frames_dropped d passed.calls) ≡ d.next
  pub each : noes_at Consumer (rx_free d) passed.calls ≡ marked (frames_dropped d passed.calls)

-- it filled each buffer that it took with the frame of its place among those that it didn't drop,
-- and put it or has it in its hand; each frame before the next one was taken for or dropped; it
-- recorded the frames that it took; and where it drops, its calls tell what became of the frames
pub record DeviceStandsFor (d : EthDevice) (passed : Passed) : Type 0 where
  pub filled : passed.sent (rx_active d) ++ option_to_list d.load ≡ all_filled
      (without (frames_dropped d passed.calls) d.frames) (passed.taken (rx_free d))
  pub takes : length (passed.taken (rx_free d)) + marked (frames_dropped d passed.calls) ≡ d.next
  pub next : d.next ≤ length d.frames
  pub sends : RecorderStandsFor d.wire passed
  pub tells : d.drops ≡ true → TellsFrames d passed

-- what it put are the buffers that it took in their order, each with the accepted frame of its
-- place and its length, and it took no more buffers than frames are accepted; it used up no more
-- frames than there are; where it drops, each look in vain for a free buffer dropped one; the
-- buffers of what it sent go back as they came, and the wire is their frames
pub record DeviceRow (d : EthDevice) (passed : Passed) : Type 0 where
  pub filled : IsPrefix (passed.sent (rx_active d)) (all_filled (accepted d passed.calls)
      (passed.taken (rx_free d)))
  pub takes : length (passed.taken (rx_free d)) ≤ length (accepted d passed.calls)
  pub used : length (passed.taken (rx_free d)) + marked (frames_dropped d passed.calls)
      ≤ length d.frames
  pub each : d.drops ≡ true → noes_at Consumer (rx_free d) passed.calls
      ≡ marked (frames_dropped d passed.calls)
  pub returns : IsPrefix (passed.sent (tx_free d)) (passed.taken (tx_active d))
  pub wire : d.wire.tape.shown ≡ map frame_of (passed.taken (tx_active d))

-- what a device stands for that never drops: it filled each buffer that it took with the frame of
-- its place, and put it or has it in its hand; and it recorded the frames that it took
pub record HoldingDeviceStands (d : EthDevice) (passed : Passed) : Type 0 where
  pub filled : passed.sent (rx_active d) ++ option_to_list d.load ≡ all_filled d.frames
      (passed.taken (rx_free d))
  pub takes : length (passed.taken (rx_free d)) ≡ d.next
  pub next : d.next ≤ length d.frames
  pub sends : RecorderStandsFor d.wire passed

-- the row of a device that never drops: what it put are the buffers that it took in their order,
-- each with the frame of its place and its length, and it took no more buffers than there are
-- frames; the buffers of what it sent go back as they came, and the wire is their frames
pub record HoldingDeviceRow (d : EthDevice) (passed : Passed) : Type 0 where
  pub filled : IsPrefix (passed.sent (rx_active d)) (all_filled d.frames (passed.taken (rx_free d)))
  pub takes : length (passed.taken (rx_free d)) ≤ length d.frames
  pub returns : IsPrefix (passed.sent (tx_free d)) (passed.taken (tx_active d))
  pub wire : d.wire.tape.shown ≡ map frame_of (passed.taken (tx_active d))

-- one of its ends
abbrev pub DeviceEnd : EthDevice → Role → ℕ → Type 0
DeviceEnd d Consumer n = (n ≡ rx_free d) ⊎ (n ≡ tx_active d)
DeviceEnd d Producer n = (n ≡ rx_active d) ⊎ (n ≡ tx_free d)

-- the queues and the frames stay, and whether it may drop
pub record SameDevice (old new : EthDevice) : Type 0 where
  pub free : new.free.queue ≡ old.free.queue
  pub active : new.active.queue ≡ old.active.queue
  pub tx_active : new.wire.pipe.input.queue ≡ old.wire.pipe.input.queue
  pub tx_free : new.wire.pipe.output.queue ≡ old.wire.pipe.output.queue
  pub frames : new.frames ≡ old.frames
  pub drops : new.drops ≡ old.drops

-- a device in its start state
pub record IsNewDevice (rx_free rx_active tx_active tx_free : QueueId) (frames : List (List ℕ))
    (drops : Bool) (d : EthDevice) : Type 0 where
  pub free : d.free ≡ record { queue = rx_free; state = start_state Forward }
  pub active : d.active ≡ record { queue = rx_active; state = start_state Backward }
  pub wire : IsNewPipe tx_active tx_free d.wire.pipe
  pub sent : d.wire.tape.shown ≡ []
  pub load : d.load ≡ None
  pub frames_are : d.frames ≡ frames
  pub drop : d.drops ≡ drops
  pub next : d.next ≡ 0
  pub last : d.turn.last ≡ 65535

-- it needs a buffer: a frame is left, and no filled buffer is in its hand
abbrev pub is_filling : EthDevice → Bool
is_filling d = is_none d.load && nat_lt d.next (length d.frames)

-- the end where free buffers come
abbrev pub free_post : EthDevice → Post
free_post d = dropping d.drops (intake_post d.free)

-- its ends: it needs a buffer while a frame is left, and owes the one that it filled; it needs what
-- is to be sent while none of it is in its hand
abbrev pub device_round : EthDevice → Round
device_round d = record {
  posts = free_post d ∷ outlet_post d.active ∷ intake_post d.wire.pipe.input
      ∷ outlet_post d.wire.pipe.output ∷ [];
  needs = is_filling d ∷ is_some d.load ∷ is_none d.wire.pipe.load ∷ is_some d.wire.pipe.load ∷ [];
  last = d.turn.last;
}

-- its ends where it waits for each
abbrev pub holding_device_round : EthDevice → Round
holding_device_round d = record {
  posts = intake_post d.free ∷ outlet_post d.active ∷ intake_post d.wire.pipe.input
      ∷ outlet_post d.wire.pipe.output ∷ [];
  needs = is_filling d ∷ is_some d.load ∷ is_none d.wire.pipe.load ∷ is_some d.wire.pipe.load ∷ [];
  last = d.turn.last;
}

-- the bodies in its hand
abbrev pub device_hand : EthDevice → List Body
device_hand d = bodies_of (option_to_list d.load ++ option_to_list d.wire.pipe.load)

-- it keeps nothing
abbrev pub DeviceBalances : EthDevice → Passed → Type 0
DeviceBalances d passed = Balances [] (bodies_at passed.taken (rx_free d ∷ tx_active d ∷ []))
    (bodies_at passed.sent (rx_active d ∷ tx_free d ∷ [])) (device_hand d) []

-- the same without the last looks
abbrev pub device_forgotten : EthDevice → EthDevice
device_forgotten d = record d {
  free = record d.free { state = record d.free.state { look = None } };
  active = record d.active { state = record d.active.state { look = None } };
  wire = record d.wire {
    pipe = record d.wire.pipe {
      input = record d.wire.pipe.input { state = record d.wire.pipe.input.state { look = None } };
      output = record d.wire.pipe.output {
        state = record d.wire.pipe.output.state { look = None };
      };
    };
  };
}
