-- The serial class puts no more than it has to move, and a play is shorter than the budget.
use Rattle.std.proofs.Common.{◌≡◌, ◌<◌, ◌≤◌, ◌+◌, ◌*◌, None, Some, Option, List, [], length, refl, sym, ap, subst, arith}
use Rattle.std.specs.Option.{option_map_or}
use Rattle.wire_core.specs.declared.names.Entry.{Entry}
use Rattle.wire_core.specs.Journal.{History, LegalJournal, BellsHold, QueuesFlow}
use Rattle.wire_core.specs.Marks.{Brisk}
use Rattle.play_core.specs.Looks.{noes_together}
use Rattle.play_core.specs.Moved.{moved}
use Rattle.play_core.specs.Still.{IsPeopled}
use Rattle.sdf_plan.specs.declared.plan.Plan.{Plan}
use Rattle.sdf_plan.specs.declared.plan.Serial.{Serial}
use Rattle.sdf_check.specs.Valid.{Valid}
use Rattle.trace_text.specs.declared.trace.Trace.{Trace}
use Rattle.region_layout.specs.Rows.{queues_of, actors_of}
use Rattle.expect_core.specs.Budgets.{budget_of}
use Rattle.serial_law.specs.Serial.{SerialClass, IsSerial}
use Rattle.serial_law.specs.Table.{serial_sheet}
use Rattle.serial_law.proofs.HopsLemmas.Moves.{serial_moves}
use Rattle.actor_set.specs.Parts.{Part}
use Rattle.actor_set.specs.Laws.Kinds.{AllCalm, dropping_ends, hostiles}
use Rattle.actor_set.proofs.LawsLemmas.Calm.{calm_row}
use Rattle.serial_law.specs.Hops.Hops.{serial_put, serial_bytes}
use Rattle.cast_core.specs.Casts.{net_place}
use Rattle.cast_core.specs.Sources.{every_second, first_serial, serial_drops}
use Rattle.cast_bound.specs.Dropping.{drops_in, net_seats, serial_seats, line_seats, plan_seats, DropOnlyAt}
use Rattle.cast_bound.specs.PlayBound.Standing.{StandsFrom, Carries, serial_first, NetMoves, SerialMoves, without_serial, with_serial, BlkMoves}
use Rattle.cast_bound.proofs.PlayBound.Bounding.{within_budget}
use Rattle.cast_bound.proofs.PlayBound.Classes.{classes_within}
use Rattle.cast_bound.proofs.Drops.{cast_dropped, noes_joined, serial_gone_is}

pub serial_within : (plan : Plan) (trace : Trace) (cast : List Part) (history : History) (journal : List Entry) → QueuesFlow history (queues_of plan) journal
    → ((serial : Serial) → plan.serial ≡ Some serial → (class : SerialClass) × StandsFrom (serial_first plan.net) (length serial.client) class × Carries trace class × IsSerial (λ p. (serial_sheet p).row (moved history journal)) (hostiles cast) (queues_of plan) class × (serial_seats class ≡ line_seats plan))
    → SerialMoves plan trace (noes_together (line_seats plan) (moved history journal)) (moved history journal)
serial_within plan trace cast history journal flows has = by plan.serial refl
  where
    by : (o : Option Serial) → plan.serial ≡ o → SerialMoves plan trace (noes_together (line_seats plan) (moved history journal)) (moved history journal)
    by None is = without_serial is (ap (λ (o : Option Serial). noes_together (dropping_ends (every_second (first_serial plan + 4) (length (option_map_or (λ (x : Serial). x.client) o []))) (serial_drops plan)) (moved history journal)) is)
    by (Some serial) is =
        let h = has serial is in
        let few = serial_moves (hostiles cast) history (queues_of plan) journal h.0 flows h.3 in
        let gone = serial_gone_is h.0 (moved history journal) in
        let same : noes_together (line_seats plan) (moved history journal) ≡ noes_together (serial_seats h.0) (moved history journal) = ap (λ seats. noes_together seats (moved history journal)) (sym h.4) in
        let all : serial_put h.0 (moved history journal) + noes_together (line_seats plan) (moved history journal) ≤ 3 * serial_bytes h.0 = omega (arith, few, gone, same) in
        with_serial serial h.0 is h.1 h.2 all

pub short : (plan : Plan) (trace : Trace) (cast : List Part) (history : History) (journal : List Entry) → Valid plan → AllCalm cast → length cast ≡ length (actors_of plan) → IsPeopled (queues_of plan) (length cast)
    → BellsHold (hostiles cast) history (queues_of plan) [] → QueuesFlow history (queues_of plan) [] → LegalJournal (hostiles cast) history (queues_of plan) journal → Brisk (hostiles cast) (queues_of plan) (drops_in cast) journal
    → DropOnlyAt (plan_seats plan trace) cast → NetMoves plan trace (noes_together (net_seats (net_place plan trace)) (moved history journal)) (moved history journal) → SerialMoves plan trace (noes_together (line_seats plan) (moved history journal)) (moved history journal) → BlkMoves plan trace (moved history journal) → length journal < budget_of plan trace
short plan trace cast history journal valid calm count peopled bells flows legal brisk only net serial blk =
    let frames = noes_together (net_seats (net_place plan trace)) (moved history journal) in
    let bytes = noes_together (line_seats plan) (moved history journal) in
    let all = classes_within plan trace history journal frames bytes net serial blk in
    let gone = cast_dropped cast (plan_seats plan trace) history journal only in
    let both = noes_joined (net_seats (net_place plan trace)) (line_seats plan) (moved history journal) in
    within_budget plan trace (hostiles cast) history journal (drops_in cast) valid (λ n row at. calm_row cast calm row) bells flows legal brisk (subst (IsPeopled (queues_of plan)) count peopled) (omega (arith, all, gone, both))
