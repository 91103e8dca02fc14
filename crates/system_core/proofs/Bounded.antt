-- A play of a plan and a trace is shorter than their budget.
use Rattle.std.proofs.Common.{◌≡◌, ◌<◌, ◌+◌, ◌*◌, ℕ, None, Some, Option, List, length, slice_get, [], refl, sym, ap, ◌∙◌, subst, Bool}
use Rattle.std.specs.Option.{option_map_or}
use Rattle.wire_core.specs.declared.names.Entry.{Entry}
use Rattle.wire_core.specs.Journal.{LegalJournal, BellsHold, QueuesFlow}
use Rattle.wire_core.specs.Marks.{Brisk}
use Rattle.sdf_plan.specs.declared.plan.Plan.{Plan}
use Rattle.sdf_plan.specs.declared.plan.Net.{Net}
use Rattle.sdf_plan.specs.declared.plan.Serial.{Serial}
use Rattle.sdf_plan.specs.declared.plan.SerialClient.{SerialClient}
use Rattle.sdf_check.specs.Valid.{Valid}
use Rattle.trace_text.specs.declared.trace.Trace.{Trace}
use Rattle.trace_text.specs.Events.{serial_clients}
use Rattle.region_layout.specs.Rows.{queues_of}
use Rattle.expect_core.specs.Budgets.{budget_of}
use Rattle.play_core.specs.Manners.{is_hostile}
use Rattle.play_core.specs.Moved.{Moved}
use Rattle.play_core.specs.Sheets.{Sheet}
use Rattle.play_core.specs.Still.{IsPeopled}
use Rattle.play_core.proofs.Moments.{last_moment}
use Rattle.serial_law.specs.Parts.{SerialPart}
use Rattle.serial_law.specs.Serial.{SerialClass, IsSerial}
use Rattle.serial_law.proofs.Arrivals.{as_there, RowAt}
use Rattle.actor_set.specs.Parts.{Part}
use Rattle.actor_set.specs.Laws.Kinds.{AllCalm, dropping_ends, serial_part, sheet}
use Rattle.actor_set.proofs.LawsLemmas.Calm.{calm_actor, sheet_is}
use Rattle.wired_law.specs.Wiring.{HasWholeIn, HasBlkIn}
use Rattle.cast_core.specs.Sources.{every_second, first_serial, serial_drops}
use Rattle.cast_core.specs.Casts.{net_place, blk_place}
use Rattle.cast_core.specs.Hostile.{HasNoRogue}
use Rattle.cast_core.proofs.HostileLemmas.{calm_jobs}
use Rattle.cast_core.proofs.Seconds.{second_get, second_length}
use Rattle.cast_bound.specs.PlayBound.Standing.{StandsFrom, Carries, serial_first}
use Rattle.cast_bound.proofs.Blocks.{blk_within}
use Rattle.cast_bound.proofs.Networks.{net_within}
use Rattle.cast_bound.proofs.Bounds.{serial_within, short}
use Rattle.cast_bound.proofs.Drops.{job_seats}
use Rattle.cast_bound.specs.Dropping.{drops_in, line_seats, plan_seats, serial_seats, DropOnlyAt}
use Rattle.system_core.specs.Shows.{Setting, Shown, hostile_in, moved_in, RowsStand}
use Rattle.system_core.proofs.Telling.{PlainRows, rows_plain}
use Rattle.system_core.specs.Lawful.{StandsLawful}
use Rattle.system_core.specs.Builds.{IsCastOf, class_of, serial_class}
use Rattle.system_core.proofs.Begun.{There}
use Rattle.system_core.proofs.PoolsLemmas.Placing.{cast_calm, job_at}

-- what is said of a part of the serial class, as one of all
pub row_as : (s : Setting) (m : Moved) (p : SerialPart) → (sheet s.scene (serial_part p)).row m → RowAt m p
row_as s m p = subst (λ (t : Sheet). t.row m) (sheet_is s.scene p)

first_is : (o : Option Net) → option_map_or (λ (net : Net). 8 + 6 * length net.client) o 0 ≡ serial_first o
first_is None = refl
first_is (Some net) = refl

class_stands : (first count : ℕ) (drops : List Bool) (trace : Trace) → StandsFrom first count (serial_class first count drops trace)
class_stands first count drops trace = record {
  device_rx = refl;
  device_tx = refl;
  rx = refl;
  tx = refl;
  rx_count = second_length (first + 4) count;
  tx_count = second_length (first + 5) count;
  client_rx = λ k q at. (second_get (first + 4) count k q at).1;
  client_tx = λ k q at. (second_get (first + 5) count k q at).1;
}

module _ (plan : Plan) (trace : Trace) (valid : Valid plan) (none : HasNoRogue plan) (s : Shown) (cast : IsCastOf plan trace s.setting) (stands : StandsLawful s)
    (there : (serial : Serial) → plan.serial ≡ Some serial → IsSerial (There s.setting) (hostile_in s.setting) s.setting.rows (class_of plan trace serial)) where
  calm : AllCalm s.setting.cast
  calm = cast_calm plan trace valid none s.setting cast

  abbrev went : Moved
  went = moved_in s.setting s.journal

  rows_now : PlainRows s.setting s.journal
  rows_now = rows_plain s.setting calm s.journal (last_moment (RowsStand s.setting) s.journal stands.lawful.rows_hold)

  flows_at : (j : List Entry) → QueuesFlow s.setting.history s.setting.rows j → QueuesFlow s.setting.history (queues_of plan) j
  flows_at j = subst (λ rs. QueuesFlow s.setting.history rs j) cast.rows

  flows_now : QueuesFlow s.setting.history (queues_of plan) s.journal
  flows_now = flows_at s.journal (last_moment (QueuesFlow s.setting.history s.setting.rows) s.journal stands.lawful.flows)

  -- parts drop at the ends of the plan's copiers and serial clients alone
  only : DropOnlyAt (plan_seats plan trace) s.setting.cast
  only k p at =
      let job = job_at plan trace s valid cast stands.fitted.scene_is k p (ap is_hostile (calm k p at)) at in
      job_seats plan trace job.0 p (sym (calm_jobs plan trace job.0 none) ∙ job.2)

  clients_are : {o : Option Serial} → plan.serial ≡ o → serial_clients plan ≡ option_map_or (λ (x : Serial). x.client) o []
  clients_are is = ap (λ (z : Option Serial). option_map_or (λ (x : Serial). x.client) z []) is

  module _ (serial : Serial) (has : plan.serial ≡ Some serial) where
    abbrev class : SerialClass
    class = class_of plan trace serial

    rows_of_class : IsSerial (RowAt went) (hostile_in s.setting) (queues_of plan) class
    rows_of_class = subst (λ rs. IsSerial (RowAt went) (hostile_in s.setting) rs class) cast.rows
        (as_there (There s.setting) (RowAt went) (λ p at. row_as s.setting went p (rows_now at.0 (serial_part p) (calm_actor s.setting.cast calm at.0) at.1)) (hostile_in s.setting) s.setting.rows class (there serial has))

    class_at : StandsFrom (serial_first plan.net) (length serial.client) class
    class_at = subst (λ f. StandsFrom f (length serial.client) class) (first_is plan.net) (class_stands (first_serial plan) (length serial.client) (serial_drops plan) trace)

    carries : Carries trace class
    carries = record { input = refl; scripts = refl }

    seats_are : serial_seats class ≡ line_seats plan
    seats_are = ap (λ (cs : List SerialClient). dropping_ends (every_second (first_serial plan + 4) (length cs)) (serial_drops plan)) (sym (clients_are has))

  pub bounded : length s.journal < budget_of plan trace
  bounded = short plan trace s.setting.cast s.setting.history s.journal valid calm cast.count
      (subst (λ rs. IsPeopled rs (length s.setting.cast)) cast.rows stands.fitted.peopled)
      (subst (λ rs. BellsHold (hostile_in s.setting) s.setting.history rs []) cast.rows stands.lawful.bells_hold.0)
      (flows_at [] stands.lawful.flows.0)
      (subst (λ rs. LegalJournal (hostile_in s.setting) s.setting.history rs s.journal) cast.rows stands.lawful.legal)
      (subst (λ rs. Brisk (hostile_in s.setting) rs (drops_in s.setting.cast) s.journal) cast.rows stands.lawful.brisk)
      only
      (net_within plan trace s.setting.scene s.setting.cast s.setting.history s.journal valid calm (λ net has. subst (λ rs. HasWholeIn s.setting.scene rs (net_place plan trace) s.setting.cast) cast.rows (cast.whole net has)) cast.scene flows_now rows_now)
      (serial_within plan trace s.setting.cast s.setting.history s.journal flows_now (λ serial has. (class serial has, class_at serial has, carries serial has, rows_of_class serial has, seats_are serial has)))
      (blk_within plan trace s.setting.scene s.setting.cast s.setting.history s.journal valid calm (λ blk has. subst (λ rs. HasBlkIn s.setting.scene rs (blk_place plan trace) s.setting.cast) cast.rows (cast.whole_block blk has)) flows_now rows_now)
