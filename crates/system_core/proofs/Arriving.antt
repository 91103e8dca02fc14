-- The serial class of a system: what arrives at its clients and on the line.
use Rattle.std.proofs.Common.{◌≡◌, ◌≤◌, ◌+◌, ℕ, Some, List, [], length, slice_get, refl, sym, ap, ◌∙◌, subst, arith}
use Rattle.std.proofs.lemmas.List.{length-map}
use Rattle.wire_core.specs.declared.names.QueueRow.{QueueRow}
use Rattle.wire_core.specs.declared.names.Entry.{Entry}
use Rattle.wire_core.specs.Journal.{History, Hostiles, EachMoment, BellsHold, QueuesFlow, Track}
use Rattle.wire_core.proofs.BellTheorem.{start_is}
use Rattle.sdf_plan.specs.declared.plan.Plan.{Plan}
use Rattle.sdf_plan.specs.declared.plan.Serial.{Serial}
use Rattle.trace_text.specs.declared.trace.Trace.{Trace}
use Rattle.trace_text.specs.Traces.{IsReadFor}
use Rattle.trace_text.specs.Events.{is_serial_rogue}
use Rattle.class_expect.specs.SerialSwitch.Switching.{input_of}
use Rattle.cast_core.specs.Sources.{first_serial}
use Rattle.play_core.specs.Looks.{events_of}
use Rattle.play_core.specs.Moved.{Moved, moved, taken}
use Rattle.play_core.specs.Manners.{Calm}
use Rattle.play_core.specs.Names.{Names, Wild, told_by, wild_in}
use Rattle.play_core.specs.Wants.{Needful}
use Rattle.play_core.specs.Sheets.{Scene, Sheet, needful}
use Rattle.play_core.specs.Still.{IsStill, Plays}
use Rattle.play_core.proofs.Moments.{last_moment, each_moment}
use Rattle.play_core.proofs.Quieting.{quiet_still}
use Rattle.play_core.proofs.Tables.{plays_there}
use Rattle.serial_law.specs.Parts.{SerialPart, SerialDevice, SerialDriver, SerialReceiver, SerialSender, SerialClient}
use Rattle.serial_law.specs.Bytes.{bytes_in}
use Rattle.serial_law.specs.Table.{Marks, SharesOut, serial_sheet}
use Rattle.serial_law.specs.Serial.{SerialClass, IsSerial, ArrivesWhole}
use Rattle.serial_law.specs.Beside.{Rogues, IsSerialBeside, ArrivesBeside}
use Rattle.serial_law.proofs.Arrivals.{as_there, beside_there, marks_fit, said_calm, RowAt}
use Rattle.cast_core.proofs.Seconds.{second_length}
use Rattle.actor_set.specs.Laws.Kinds.{manner_of, serial_part}
use Rattle.actor_set.specs.Laws.Scenes.{told_sheet}
use Rattle.actor_set.proofs.LawsLemmas.Calm.{calm_at}
use Rattle.system_core.specs.Shows.{Shown, hostile_in, manner_in, moved_in, sheet_in, RowsStand}
use Rattle.system_core.specs.Plays.{runnable_now}
use Rattle.system_core.specs.Lawful.{StandsLawful}
use Rattle.system_core.specs.Builds.{BeginsAnew, IsCastOf, class_of}
use Rattle.system_core.specs.Dropped.{DropsAsMany, MarksStand, calls_by, dropped_by}
use Rattle.system_core.specs.GivesBack.{SerialGivesBack}
use Rattle.system_core.specs.PlanPlays.{ShowsInPart, ShowsWhole, serial_says}
use Rattle.system_core.proofs.Anew.{marks_anew}
use Rattle.system_core.proofs.Scripts.{scripts_length}
use Rattle.system_core.proofs.Casting.{HasSerial, has_serial}
use Rattle.system_core.proofs.Begun.{There, serial_beside, serial_there, shows_in_part, shows_whole}

-- what is said of a part of the serial class asks no names
told_is : (scene : Scene) (wild : Wild) (names : Names) (p : SerialPart) → told_sheet scene wild names (serial_part p) ≡ serial_sheet p
told_is scene wild names (SerialDevice rx tx input) = refl
told_is scene wild names (SerialDriver device_rx device_tx rx tx) = refl
told_is scene wild names (SerialReceiver rx clients drops) = refl
told_is scene wild names (SerialSender tx clients) = refl
told_is scene wild names (SerialClient rx tx script) = refl

-- and none is hostile
serial_calm : (p : SerialPart) → manner_of (serial_part p) ≡ Calm
serial_calm (SerialDevice rx tx input) = refl
serial_calm (SerialDriver device_rx device_tx rx tx) = refl
serial_calm (SerialReceiver rx clients drops) = refl
serial_calm (SerialSender tx clients) = refl
serial_calm (SerialClient rx tx script) = refl

-- the law of the serial class
abbrev pub LawBeside : Type 0
LawBeside =
    (history : History) (rows : List QueueRow) (journal : List Entry) (rogues : Rogues) (class : SerialClass) (marks : Marks) → QueuesFlow history rows journal
    → SharesOut marks class.drops class.rx class.client_rx (moved history journal)
    → IsSerialBeside (λ p. (serial_sheet p).row (moved history journal)) rogues rows class → ArrivesBeside marks rogues class (moved history journal)

abbrev pub LawWhole : Type 0
LawWhole =
    (hostile : Hostiles) (history : History) (rows : List QueueRow) (actors : Needful) (journal : List Entry) (class : SerialClass) (marks : Marks) → IsStill hostile history rows actors journal
    → SharesOut marks class.drops class.rx class.client_rx (moved history journal)
    → IsSerial (λ p. Plays hostile actors (moved history journal) (serial_sheet p)) hostile rows class → ArrivesWhole marks class (moved history journal)

-- a system with the serial class
module _ (s : Shown) (stands : StandsLawful s) (class : SerialClass) where
  -- the sheet of a part by the names that are kept
  sheet_as : (p : SerialPart) → sheet_in s.setting (serial_part p) ≡ serial_sheet p
  sheet_as p = told_is s.setting.scene (wild_in (hostile_in s.setting) s.setting.rows) (told_by s.setting.names) p

  row_at : (j : List Entry) → RowsStand s.setting j → (p : SerialPart) → There s.setting p → RowAt (moved_in s.setting j) p
  row_at j rows p at = subst (λ (t : Sheet). t.row (moved_in s.setting j)) (sheet_as p) (rows at.0 (serial_part p) (calm_at s.setting.cast at.0 (serial_part p) at.1 (serial_calm p)) at.1)

  -- the bytes that were dropped by a journal as all calls tell
  abbrev pub marks : List Entry → Marks
  marks j = dropped_by class (calls_by stands.calls.past j)

  -- without them the class's receiver shares out
  abbrev Shares : List Entry → Type 0
  Shares j = SharesOut (marks j) class.drops class.rx class.client_rx (moved_in s.setting j)

  shares_at : There s.setting (SerialReceiver class.rx class.client_rx class.drops) → (j : List Entry) → MarksStand s.setting.history s.setting.cast stands.calls.past j → Shares j
  shares_at receiver j stand = stand receiver.0 class.rx class.client_rx class.drops receiver.1

  -- whichever of its clients are hostile
  module _ (rogues : Rogues) (there : IsSerialBeside (There s.setting) rogues s.setting.rows class) (law : LawBeside) where
    all_shares : EachMoment Shares s.journal
    all_shares = each_moment (MarksStand s.setting.history s.setting.cast stands.calls.past) (MarksStand s.setting.history s.setting.cast stands.calls.past) Shares (λ j stand again. shares_at there.receiver j stand) s.journal stands.calls.marks stands.calls.marks

    -- as many were dropped as looks for room were in vain
    pub as_many : EachMoment (λ j. DropsAsMany class (marks j) (moved_in s.setting j)) s.journal
    as_many = each_moment Shares Shares (λ j. DropsAsMany class (marks j) (moved_in s.setting j)) (λ j shares again. shares.as_many) s.journal all_shares all_shares

    abbrev Flows : List Entry → Type 0
    Flows j = QueuesFlow s.setting.history s.setting.rows j × Shares j

    arrives_at : (j : List Entry) → RowsStand s.setting j → Flows j → ArrivesBeside (marks j) rogues class (moved_in s.setting j)
    arrives_at j rows flows =
        law s.setting.history s.setting.rows j rogues class (marks j) flows.0 flows.1
        (beside_there (There s.setting) (RowAt (moved_in s.setting j)) (row_at j rows) rogues s.setting.rows class there)

    pub arrives : EachMoment (λ j. ArrivesBeside (marks j) rogues class (moved_in s.setting j)) s.journal
    arrives = each_moment (RowsStand s.setting) Flows (λ j. ArrivesBeside (marks j) rogues class (moved_in s.setting j)) arrives_at s.journal stands.lawful.rows_hold
        (each_moment (QueuesFlow s.setting.history s.setting.rows) Shares Flows (λ j flows shares. (flows, shares)) s.journal stands.lawful.flows all_shares)

    pub arrives_now : ArrivesBeside (marks s.journal) rogues class (moved_in s.setting s.journal)
    arrives_now = last_moment (λ j. ArrivesBeside (marks j) rogues class (moved_in s.setting j)) s.journal arrives

    -- no more is marked than comes
    pub marks_few : (c q : ℕ) → slice_get class.client_rx c ≡ Some q → length (marks s.journal c) ≤ length (input_of (length class.client_rx) c class.input)
    marks_few = marks_fit s.setting.history s.setting.rows s.journal rogues class (marks s.journal)
        (last_moment (QueuesFlow s.setting.history s.setting.rows) s.journal stands.lawful.flows) (last_moment Shares s.journal all_shares)
        (beside_there (There s.setting) (RowAt (moved_in s.setting s.journal)) (row_at s.journal (last_moment (RowsStand s.setting) s.journal stands.lawful.rows_hold)) rogues s.setting.rows class there)

  -- where none is, and nobody is runnable
  module _ (there : IsSerial (There s.setting) (hostile_in s.setting) s.setting.rows class) (law : LawWhole) (quiet : runnable_now s ≡ []) where
    abbrev went : Moved
    went = moved_in s.setting s.journal

    abbrev actors : Needful
    actors = needful (sheet_in s.setting) s.setting.cast went

    still : IsStill (hostile_in s.setting) s.setting.history s.setting.rows actors s.journal
    still = quiet_still (manner_in s.setting) s.setting.history s.setting.rows actors s.journal (record {
      bells_hold = last_moment (BellsHold (hostile_in s.setting) s.setting.history s.setting.rows) s.journal stands.lawful.bells_hold;
      flows = last_moment (QueuesFlow s.setting.history s.setting.rows) s.journal stands.lawful.flows;
      peopled = λ n row at r. let lt = stands.fitted.peopled n row at r in let size = length-map s.setting.cast (λ p. (sheet_in s.setting p).wants went) in omega (arith, lt, size);
      quiet = quiet;
    })

    plays_at : (p : SerialPart) → There s.setting p → Plays (hostile_in s.setting) actors went (serial_sheet p)
    plays_at p at =
        subst (Plays (hostile_in s.setting) actors went) (sheet_as p)
        (plays_there (sheet_in s.setting) (hostile_in s.setting) s.setting.cast went (last_moment (RowsStand s.setting) s.journal stands.lawful.rows_hold) at.0 (serial_part p) (calm_at s.setting.cast at.0 (serial_part p) at.1 (serial_calm p)) at.1)

    pub arrives_whole : ArrivesWhole (marks s.journal) class went
    arrives_whole =
        law (hostile_in s.setting) s.setting.history s.setting.rows actors s.journal class (marks s.journal) still
        (shares_at there.receiver s.journal (last_moment (MarksStand s.setting.history s.setting.cast stands.calls.past) s.journal stands.calls.marks))
        (as_there (There s.setting) (λ p. Plays (hostile_in s.setting) actors went (serial_sheet p)) plays_at (hostile_in s.setting) s.setting.rows class there)

-- the serial class of a plan
module _ (plan : Plan) (trace : Trace) (read : IsReadFor plan trace) (s : Shown) (cast_is : IsCastOf plan trace s.setting) (stands : StandsLawful s) (serial : Serial) (has : plan.serial ≡ Some serial) where
  abbrev class : SerialClass
  class = class_of plan trace serial

  class_is : HasSerial (first_serial plan) plan serial trace s.setting
  class_is = has_serial plan trace s.setting cast_is serial has

  says : length trace.says ≡ length serial.client
  says = scripts_length plan serial trace has read

  -- where none of its clients is hostile
  pub class_there : SerialGivesBack plan → IsSerial (There s.setting) (hostile_in s.setting) s.setting.rows class
  class_there = serial_there plan serial (first_serial plan) trace s.setting stands.fitted class_is says

  class_beside : IsSerialBeside (There s.setting) (is_serial_rogue plan) s.setting.rows class
  class_beside = serial_beside plan serial (first_serial plan) trace s.setting stands.fitted class_is says

  abbrev dropped : List Entry → Marks
  dropped j = dropped_by class (calls_by stands.calls.past j)

  pub serial_arrives : LawBeside → EachMoment (λ j. ArrivesBeside (dropped j) (is_serial_rogue plan) class (moved_in s.setting j)) s.journal
  serial_arrives law = arrives s stands class (is_serial_rogue plan) class_beside law

  pub serial_drops_so : LawBeside → EachMoment (λ j. DropsAsMany class (dropped j) (moved_in s.setting j)) s.journal
  serial_drops_so law = as_many s stands class (is_serial_rogue plan) class_beside law

  -- where nothing happened before the journal begins, its own calls tell all that was dropped
  pub serial_anew : BeginsAnew s.setting → (j : List Entry) (c : ℕ) → dropped j c ≡ dropped_by class (events_of j) c
  serial_anew begins j c =
      let receiver = class_beside.receiver in
      let nothing : bytes_in (taken s.setting.history class.rx []) ≡ [] = ap (λ (h : History). bytes_in (taken h class.rx [])) begins ∙ ap (λ (t : Track). bytes_in t.taken) (start_is s.setting.rows class.rx) in
      marks_anew class.rx class.client_rx class.drops stands.calls.past (events_of j) c (λ on. stands.calls.hears receiver.0 class.rx class.client_rx class.drops receiver.1 c on ∙ nothing)

  pub serial_shows : LawBeside → ShowsInPart plan trace serial (dropped s.journal) (moved_in s.setting s.journal) s.state
  serial_shows law = shows_in_part plan serial trace s class_is says stands.told (dropped s.journal) (arrives_now s stands class (is_serial_rogue plan) class_beside law)

  pub serial_scripts : SerialGivesBack plan → serial_says plan trace serial (moved_in s.setting s.journal) ≡ trace.says
  serial_scripts calm = said_calm (is_serial_rogue plan) (moved_in s.setting s.journal) calm 0 class.client_tx trace.says (second_length (first_serial plan + 5) (length serial.client) ∙ sym says)

  pub serial_whole : LawBeside → LawWhole → runnable_now s ≡ [] → SerialGivesBack plan → ShowsWhole (length serial.client) trace (dropped s.journal) s.state
  serial_whole beside law quiet calm = shows_whole plan serial trace s class_is says stands.told (dropped s.journal) calm (marks_few s stands class (is_serial_rogue plan) class_beside beside) (arrives_whole s stands class (class_there calm) law quiet)
