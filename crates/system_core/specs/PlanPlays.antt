-- What a system of a plan and a trace shows, however it was played, and what one play of it shows:
-- all that a caller learns of it.
use Rattle.std.specs.Prelude.{◌≡◌, ◌+◌, ◌<◌, ◌≤◌, ℕ, Bool, true, Some, List, [], length, slice_get}
use Rattle.cargo_core.specs.Lists.{IsPrefix, Merge, PrefixMerge}
use Rattle.wire_core.specs.declared.names.Entry.{Entry}
use Rattle.wire_core.specs.declared.names.Event.{Event}
use Rattle.wire_core.specs.Ends.{Role}
use Rattle.wire_core.specs.Fates.{marked, noes_at, without}
use Rattle.wire_core.specs.Picks.{PickedFrom}
use Rattle.wire_core.specs.Journal.{EachMoment, history_at}
use Rattle.wire_core.specs.Lists.{Passed}
use Rattle.class_expect.specs.SerialSwitch.Switching.{input_of}
use Rattle.frame_core.specs.declared.mac.Mac.{Mac}
use Rattle.class_expect.specs.NetExpect.Expecting.{frames_for}
use Rattle.net_law.specs.Dropped.{Marks as NetMarks, left_for}
use Rattle.net_law.specs.Parts.Numbers.{client_first}
use Rattle.net_law.specs.TxParts.Numbers.{NetPlace}
use Rattle.net_quiet.specs.TxCast.Casting.{net_marks, sends_at, sends_beside, wire_beside}
use Rattle.cast_core.specs.Casts.{net_place, blk_place}
use Rattle.cast_core.specs.Hostile.{HasNoRogue}
use Rattle.play_core.specs.Looks.{events_of}
use Rattle.play_core.specs.Moved.{Moved, noes_of}
use Rattle.play_core.specs.Names.{Wild}
use Rattle.serial_law.specs.Beside.{ArrivesBeside, said_beside}
use Rattle.serial_law.specs.Table.{Marks}
use Rattle.sdf_plan.specs.declared.plan.Plan.{Plan}
use Rattle.sdf_plan.specs.declared.plan.Net.{Net}
use Rattle.sdf_plan.specs.declared.plan.Blk.{Blk}
use Rattle.cargo_core.specs.declared.item.Ask.{Ask}
use Rattle.cargo_core.specs.declared.item.Reply.{Reply}
use Rattle.class_expect.specs.BlkExpect.Replies.{replies_of}
use Rattle.blk_law.specs.Sheets.Numbers.{BlkPlace}
use Rattle.sdf_plan.specs.declared.plan.Serial.{Serial}
use Rattle.trace_text.specs.declared.trace.Trace.{Trace}
use Rattle.trace_text.specs.Traces.{IsReadFor}
use Rattle.trace_text.specs.Events.{is_net_rogue, is_serial_rogue, is_blk_rogue}
use Rattle.sdf_check.specs.Valid.{Valid}
use Rattle.actor_set.specs.Laws.Kinds.{AllCalm}
use Rattle.cast_law.specs.Places.{pool_place}
use Rattle.expect_core.specs.Budgets.{budget_of}
use Rattle.system_core.specs.Shows.{State, Shown, runs, moved_in, wild_by}
use Rattle.system_core.specs.Plays.{runnable_now}
use Rattle.system_core.specs.Lawful.{StandsLawful}
use Rattle.system_core.specs.Builds.{IsCastOf, BeginsAnew, class_of}
use Rattle.system_core.specs.Dropped.{DropsAsMany, NetDropsAsMany, calls_by, dropped_by}
use Rattle.system_core.specs.GivesBack.{SerialGivesBack, BlkGivesBack, NetGivesBack}
use Rattle.system_core.specs.Pools.{TellsOwners}
use Rattle.system_core.specs.declared.system.Ending.{Ending}
use Rattle.system_core.specs.declared.system.Ending.TheVariants as Ends

-- what the serial clients of a plan say: each its script, but a hostile one all the bytes that the
-- sending virtualiser took of it
abbrev pub serial_says : Plan → Trace → Serial → Moved → List (List ℕ)
serial_says plan trace serial m = said_beside (is_serial_rogue plan)
    (class_of plan trace serial) m

-- each serial client of a plan recorded a beginning of its part of the input without what is marked
-- of it as dropped, and a hostile one nothing; and what was sent on the line is a merge of
-- beginnings of what the clients say
pub record ShowsInPart (plan : Plan) (trace : Trace) (serial : Serial) (marks : Marks)
    (m : Moved) (s : State) : Type 0 where
  pub count_is : length s.serial ≡ length serial.client
  pub records : (c : ℕ) (got : List ℕ) → slice_get s.serial c ≡ Some got
      → IsPrefix got (without (marks c) (input_of (length serial.client) c trace.input))
  pub hostile : (c : ℕ) (got : List ℕ) → is_serial_rogue plan c ≡ true
      → slice_get s.serial c ≡ Some got → got ≡ []
  pub line : (said : List ℕ) × (s.line ≡ Some said)
      × PrefixMerge (serial_says plan trace serial m) said

-- each serial client recorded its whole part of the input without what is marked of it as dropped,
-- and what was sent on the line is a merge of the whole scripts
pub record ShowsWhole (count : ℕ) (trace : Trace) (marks : Marks) (s : State) : Type 0 where
  pub records : (c : ℕ) (got : List ℕ) → slice_get s.serial c ≡ Some got
      → got ≡ without (marks c) (input_of count c trace.input)
  -- so it lacks as many bytes of its part as are marked
  pub lacks : (c : ℕ) (got : List ℕ) → slice_get s.serial c ≡ Some got
      → length got + marked (marks c) ≡ length (input_of count c trace.input)
  pub line : (said : List ℕ) × (s.line ≡ Some said) × Merge trace.says said

-- each network client recorded a beginning of the frames for its address without what is marked
-- of them as dropped, and a hostile one nothing; and what was sent on the wire is what the entries
-- tell that the device took, a merge of beginnings of what the clients send: each by its program,
-- an echo the answers to the frames that weren't dropped, but one at whose queue a hostile actor
-- has an end the frames of the good descriptors that were taken of it
pub record ShowsFrames (rogue : ℕ → Bool) (wild : Wild) (net : NetPlace) (frames : List (List ℕ))
    (marks : NetMarks) (passed : Passed) (s : State) : Type 0 where
  pub count_is : length s.net ≡ length net.macs
  pub records : (c : ℕ) (mac : Mac) (got : List (List ℕ)) → slice_get net.macs c ≡ Some mac
      → slice_get s.net c ≡ Some got → IsPrefix got (left_for (marks c) mac frames)
  pub hostile : (c : ℕ) (got : List (List ℕ)) → rogue c ≡ true → slice_get s.net c ≡ Some got
      → got ≡ []
  pub wire : s.wire ≡ Some (wire_beside wild net frames passed)
  pub merges : PrefixMerge (sends_beside wild net frames passed)
      (wire_beside wild net frames passed)

-- each network client recorded all frames for its address without what is marked of them as
-- dropped, and what was sent on the wire is a merge of all that the clients send, an echo the
-- answers to those
pub record ShowsAllFrames (net : NetPlace) (frames : List (List ℕ)) (marks : NetMarks)
    (s : State) : Type 0 where
  pub records : (c : ℕ) (mac : Mac) (got : List (List ℕ)) → slice_get net.macs c ≡ Some mac
      → slice_get s.net c ≡ Some got → got ≡ left_for (marks c) mac frames
  -- so it lacks as many of the frames for its address as are marked
  pub lacks : (c : ℕ) (mac : Mac) (got : List (List ℕ)) → slice_get net.macs c ≡ Some mac
      → slice_get s.net c ≡ Some got
      → length got + marked (marks c) ≡ length (frames_for mac frames)
  pub wire : (sent : List (List ℕ)) × (s.wire ≡ Some sent) × Merge
      (sends_at marks 0 net.programs net.macs frames) sent

-- of the frames for each network client of a plan, whether it was dropped, as these calls tell
abbrev pub net_dropped : Plan → Trace → List Event → NetMarks
net_dropped plan trace calls = net_marks (net_place plan trace) calls

-- each block client recorded a beginning of what it must get, and a hostile one nothing
pub record ShowsReplies (rogue : ℕ → Bool) (blk : BlkPlace) (s : State) : Type 0 where
  pub count_is : length s.blk ≡ length blk.entries
  pub records : (c entry : ℕ) (asks : List Ask) (got : List Reply)
      → slice_get blk.entries c ≡ Some entry → slice_get blk.asks c ≡ Some asks
      → slice_get s.blk c ≡ Some got → IsPrefix got (replies_of blk.image entry asks)
  pub hostile : (c : ℕ) (got : List Reply) → rogue c ≡ true → slice_get s.blk c ≡ Some got
      → got ≡ []

-- each block client recorded all that it must get
pub record ShowsAllReplies (blk : BlkPlace) (s : State) : Type 0 where
  pub records : (c entry : ℕ) (asks : List Ask) (got : List Reply)
      → slice_get blk.entries c ≡ Some entry → slice_get blk.asks c ≡ Some asks
      → slice_get s.blk c ≡ Some got → got ≡ replies_of blk.image entry asks

-- a system of a plan and a trace, whatever its queues had before its journal begins, in however
-- many plays it came to that journal, and whatever seeds picked its steps
pub record IsSystemOf (plan : Plan) (trace : Trace) (s : Shown) : Type 0 where
  pub cast : IsCastOf plan trace s.setting
  -- where no client is hostile, no actor is
  pub calm : HasNoRogue plan → AllCalm s.setting.cast
  -- and whoever counts, the whole journal is shorter than the budget
  pub bounded : HasNoRogue plan → length s.journal < budget_of plan trace
  pub stands : StandsLawful s
  -- each buffer but those of hostile clients has one owner at each moment, or its counted receivers
  pub owners : TellsOwners plan (pool_place plan trace) s
  -- at each moment by the bytes that were dropped as the calls so far tell
  pub arrives : (serial : Serial) → plan.serial ≡ Some serial → EachMoment (λ j.
      ArrivesBeside (dropped_by (class_of plan trace serial) (calls_by stands.calls.past j))
      (is_serial_rogue plan) (class_of plan trace serial) (moved_in s.setting j)) s.journal
  -- which are as many of each client's as looks for room in its queue were in vain, if bytes for it
  -- may be dropped, and none else
  pub drops : (serial : Serial) → plan.serial ≡ Some serial → EachMoment (λ j.
      DropsAsMany (class_of plan trace serial)
      (dropped_by (class_of plan trace serial) (calls_by stands.calls.past j))
      (moved_in s.setting j)) s.journal
  -- the calls before the journal begins looked in vain as often as its history tells
  pub past : (r : Role) (n : ℕ)
      → noes_at r n stands.calls.past ≡ noes_of r (history_at s.setting.history n)
  -- and where nothing happened before it begins, the journal's alone tell all that was dropped
  pub anew : BeginsAnew s.setting → (serial : Serial) → plan.serial ≡ Some serial
      → (j : List Entry) (c : ℕ) → dropped_by (class_of plan trace serial)
      (calls_by stands.calls.past j) c ≡ dropped_by (class_of plan trace serial) (events_of j) c
  pub shows : (serial : Serial) → plan.serial ≡ Some serial → ShowsInPart plan trace serial
      (dropped_by (class_of plan trace serial) (calls_by stands.calls.past s.journal))
      (moved_in s.setting s.journal) s.state
  -- where no serial client is hostile, all say their scripts
  pub scripts : SerialGivesBack plan → (serial : Serial) → plan.serial ≡ Some serial
      → serial_says plan trace serial (moved_in s.setting s.journal) ≡ trace.says
  -- of the frames for each network client as many were dropped at each moment as its copier's looks
  -- for a buffer were in vain, if it may drop, and none else
  pub drops_net : (net : Net) → plan.net ≡ Some net → EachMoment (λ j.
      NetDropsAsMany (net_place plan trace)
      (net_dropped plan trace (calls_by stands.calls.past j))
      (moved_in s.setting j)) s.journal
  pub anew_net : BeginsAnew s.setting → (net : Net) → plan.net ≡ Some net
      → (j : List Entry) (c : ℕ) → c < length net.client
      → net_dropped plan trace (calls_by stands.calls.past j) c
      ≡ net_dropped plan trace (events_of j) c
  pub shows_net : (net : Net) → plan.net ≡ Some net
      → ShowsFrames (is_net_rogue plan) (wild_by s.setting) (net_place plan trace) trace.frames
      (net_dropped plan trace (calls_by stands.calls.past s.journal))
      stands.told.passed s.state
  -- of its clients' queues for sending those have a hostile end whose client is hostile
  pub wild_net : (net : Net) → plan.net ≡ Some net → (c : ℕ) → c < length net.client
      → wild_by s.setting (client_first 0 c + 4) ≡ is_net_rogue plan c
  -- where no client of the network is hostile, all send by their programs, an echo the answers to
  -- the frames for it that weren't dropped
  pub plain : NetGivesBack plan → (net : Net) → plan.net ≡ Some net
      → sends_beside (wild_by s.setting) (net_place plan trace) trace.frames stands.told.passed
      ≡ sends_at (net_dropped plan trace (calls_by stands.calls.past s.journal)) 0
      (net_place plan trace).programs (net_place plan trace).macs trace.frames
  pub shows_blk : (blk : Blk) → plan.blk ≡ Some blk
      → ShowsReplies (is_blk_rogue plan) (blk_place plan trace) s.state
  -- where nobody is runnable, all bytes of the serial class arrived but those that were dropped, if
  -- none of its clients is hostile
  pub whole : runnable_now s ≡ [] → SerialGivesBack plan → (serial : Serial)
      → plan.serial ≡ Some serial → ShowsWhole (length serial.client) trace
      (dropped_by (class_of plan trace serial) (calls_by stands.calls.past s.journal)) s.state
  -- and all frames of the network but those that were dropped, where none of its clients is
  -- hostile, whoever else is
  pub whole_net : runnable_now s ≡ [] → NetGivesBack plan → (net : Net) → plan.net ≡ Some net
      → ShowsAllFrames (net_place plan trace) trace.frames
      (net_dropped plan trace (calls_by stands.calls.past s.journal)) s.state
  -- and all replies of the block class, where none of its clients is
  pub whole_blk : runnable_now s ≡ [] → BlkGivesBack plan → (blk : Blk) → plan.blk ≡ Some blk
      → ShowsAllReplies (blk_place plan trace) s.state

-- of whatever valid plan and trace a system has the cast, it is a system of these
abbrev pub IsOfItsPlan : Shown → Type 0
IsOfItsPlan s = (plan : Plan) (trace : Trace) → Valid plan → IsReadFor plan trace
    → IsCastOf plan trace s.setting → IsSystemOf plan trace s

-- what is done to a system leaves it one of each valid plan and trace of which it was one
abbrev pub StaysOfItsPlan : Shown → Shown → Type 0
StaysOfItsPlan old new = (plan : Plan) (trace : Trace) → Valid plan → IsReadFor plan trace
    → IsSystemOf plan trace old → IsSystemOf plan trace new

-- a system of a plan and a trace after one play: a seed picked all steps of its journal, at most so
-- many
pub record IsPlayedOn (plan : Plan) (trace : Trace) (seed limit : ℕ) (s : Shown) : Type 0 where
  pub system : IsSystemOf plan trace s
  pub picked : PickedFrom (runs s.setting) seed [] s.journal
  pub within : length s.journal ≤ limit

-- the same from the start state on, before which nothing happened
pub record IsPlayed (plan : Plan) (trace : Trace) (seed limit : ℕ) (s : Shown) : Type 0 where
  pub begins : BeginsAnew s.setting
  pub played : IsPlayedOn plan trace seed limit s

-- it is quiet, or so many steps were made and it isn't
abbrev pub HasEnded : ℕ → Shown → Ending → Type 0
HasEnded limit s Ends.Quiet = runnable_now s ≡ []
HasEnded limit s Ends.Spent = (length s.journal ≡ limit) × (runnable_now s ≡ [] → ⊥)
