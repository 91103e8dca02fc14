-- What a client of each class must get, what the plans and the traces of two systems have to agree
-- in for it, all that its records follow from, and what is then said of its two records.
use Rattle.std.specs.Prelude.{◌≡◌, ◌<◌, ℕ, Bool, true, false, List, length}
use Rattle.cargo_core.specs.Lists.{IsPrefix}
use Rattle.cargo_core.specs.declared.item.Reply.{Reply}
use Rattle.wire_core.specs.Fates.{without}
use Rattle.sdf_plan.specs.declared.plan.Plan.{Plan}
use Rattle.trace_text.specs.declared.trace.Trace.{Trace}
use Rattle.trace_text.specs.Events.{net_clients, serial_clients, blk_clients, is_net_rogue}
use Rattle.class_expect.specs.NetExpect.Expecting.{Echo, answers_for, frames_for}
use Rattle.class_expect.specs.SerialSwitch.Switching.{input_of}
use Rattle.serial_virt.specs.Shares.{policy_at}
use Rattle.net_law.specs.Parts.Numbers.{policy_at as net_policy_at}
use Rattle.expect_core.specs.Expected.{client_asks, client_entry, replies_in}
use Rattle.expect_core.specs.Isolation.{AgreeOnFrames, AgreeOnInput, AgreeOnPartition}
use Rattle.net_quiet.specs.TxCast.Casting.{sends_beside}
use Rattle.cast_core.specs.Casts.{net_place}
use Rattle.cast_core.specs.Sources.{client_mac, client_program, net_drops, serial_drops}
use Rattle.system_core.specs.GivesBack.{BlkGivesBack, NetGivesBack, SerialGivesBack}
use Rattle.system_core.specs.PlanPlays.{IsSystemOf}
use Rattle.system_core.specs.Shows.{Shown, wild_by}
use Rattle.system_core.specs.Reports.{report_of}

-- what network client c must get: the frames for its address
abbrev pub net_expected : Plan → Trace → (c : ℕ) → List (List ℕ)
net_expected plan trace c = frames_for (client_mac plan c) trace.frames

-- what network client c sends where it is an echo and gets all that: an answer to each
abbrev pub echo_expected : Plan → Trace → (c : ℕ) → List (List ℕ)
echo_expected plan trace c = answers_for (client_mac plan c) trace.frames

-- what serial client c must get: its part of the input
abbrev pub serial_expected : Plan → Trace → (c : ℕ) → List ℕ
serial_expected plan trace c = input_of (length (serial_clients plan)) c trace.input

-- what block client c must get: the replies to its own requests on its own partition
abbrev pub blk_expected : Plan → Trace → (c : ℕ) → List Reply
blk_expected plan trace c = replies_in plan trace c

-- network client c of the one and d of the other have the same address, and the devices receive the
-- same frames for it
pub record AgreeOnNet (plan : Plan) (trace : Trace) (c : ℕ) (other : Plan) (told : Trace) (d : ℕ) :
    Type 0 where
  pub here : c < length (net_clients plan)
  pub there : d < length (net_clients other)
  pub mac : client_mac plan c ≡ client_mac other d
  pub frames : AgreeOnFrames (client_mac plan c) trace.frames told.frames

-- there are as many serial clients, c among them, and the same of the input is for it
pub record AgreeOnSerial (plan : Plan) (trace : Trace) (other : Plan) (told : Trace) (c : ℕ) :
    Type 0 where
  pub here : c < length (serial_clients plan)
  pub many : length (serial_clients plan) ≡ length (serial_clients other)
  pub input : AgreeOnInput (length (serial_clients plan)) c trace.input told.input

-- block client c of the one and d of the other ask the same, and their partitions have as many
-- blocks, with the same bytes
pub record AgreeOnBlk (plan : Plan) (trace : Trace) (c : ℕ) (other : Plan) (told : Trace) (d : ℕ) :
    Type 0 where
  pub here : c < length (blk_clients plan)
  pub there : d < length (blk_clients other)
  pub asks : client_asks trace c ≡ client_asks told d
  pub partition : AgreeOnPartition trace.image (client_entry plan c) told.image
      (client_entry other d)

-- network client c is an echo, and not hostile
pub record IsEchoAt (plan : Plan) (trace : Trace) (c : ℕ) : Type 0 where
  pub echo : client_program plan trace c ≡ Echo
  pub calm : is_net_rogue plan c ≡ false

-- what each network client sends in a system, of whose beginnings its wire is a merge
abbrev pub net_sends : (plan : Plan) (trace : Trace) (s : Shown) → IsSystemOf plan trace s
    → List (List (List ℕ))
net_sends plan trace s h =
    sends_beside (wild_by s.setting) (net_place plan trace) trace.frames h.stands.told.passed

-- a system is quiet, and the network's clients give back what they get
abbrev pub NetRests : Plan → Shown → Type 0
NetRests plan s = ((report_of s).quiet ≡ true) × NetGivesBack plan

-- it is quiet, and the serial clients take what they get
abbrev pub SerialRests : Plan → Shown → Type 0
SerialRests plan s = ((report_of s).quiet ≡ true) × SerialGivesBack plan

-- it is quiet, and the block clients give back what they get
abbrev pub BlkRests : Plan → Shown → Type 0
BlkRests plan s = ((report_of s).quiet ≡ true) × BlkGivesBack plan

-- a record is a beginning of a list, and all of it where this holds
pub record IsRecordIn {T : Type 0} (whole : List T) (Rests : Type 0) (got : List T) : Type 0 where
  pub begins : IsPrefix got whole
  pub all : Rests → got ≡ whole

-- two records are of one list, each all of it where this holds of its system
pub record AreOfOneList {T : Type 0} (whole : List T) (Rests : Type 0) (got : List T)
    (Ends : Type 0) (seen : List T) : Type 0 where
  pub one : IsRecordIn whole Rests got
  pub other : IsRecordIn whole Ends seen

-- whether frames for network client c may be dropped
abbrev pub net_may_drop : Plan → (c : ℕ) → Bool
net_may_drop plan c = net_policy_at (net_drops plan) c

-- whether bytes for serial client c may be dropped
abbrev pub may_drop : Plan → (c : ℕ) → Bool
may_drop plan c = policy_at (serial_drops plan) c

-- a list is what is left of another one, in its order, without some of its elements
abbrev pub IsLeftOf : {T : Type 0} → (some whole : List T) → Type 0
IsLeftOf some whole = (marks : List Bool) × (some ≡ without marks whole)

-- a record is of a list of which some may have been dropped: it is left of it; and where nothing
-- may be dropped it is a beginning of it, and all of it where this holds
pub record IsRecordBut {T : Type 0} (whole : List T) (drops : Bool) (Rests : Type 0)
    (got : List T) : Type 0 where
  pub left : IsLeftOf got whole
  pub kept : drops ≡ false → IsRecordIn whole Rests got

-- two records are so of one list, each by what may be dropped in its own system
pub record AreOfOneBut {T : Type 0} (whole : List T) (drops : Bool) (Rests : Type 0)
    (got : List T) (may : Bool) (Ends : Type 0) (seen : List T) : Type 0 where
  pub one : IsRecordBut whole drops Rests got
  pub other : IsRecordBut whole may Ends seen
