-- The block class of a plan's actors puts no more than its entries have to be moved.
use Rattle.std.proofs.Common.{◌≡◌, ◌≤◌, ◌+◌, ◌*◌, ℕ, zero, suc, Option, Some, None, List, [], ◌∷◌, length, slice_get, sum_by, unwrap_or, refl, ap, ◌∙◌, arith}
use Rattle.std.specs.Option.{option_map_or}
use Rattle.std.proofs.lemmas.List.Sums.{sum_by-cons}
use Rattle.cargo_core.specs.declared.item.Ask.{Ask}
use Rattle.wire_core.specs.declared.names.Entry.{Entry}
use Rattle.wire_core.specs.Journal.{History, QueuesFlow}
use Rattle.play_core.specs.Moved.{moved}
use Rattle.play_core.specs.Sheets.{RowsHold, Scene}
use Rattle.play_core.proofs.Lists.{there_is}
use Rattle.sdf_plan.specs.declared.plan.Plan.{Plan}
use Rattle.sdf_plan.specs.declared.plan.Net.{Net}
use Rattle.sdf_plan.specs.declared.plan.Serial.{Serial}
use Rattle.sdf_plan.specs.declared.plan.Blk.{Blk}
use Rattle.sdf_check.specs.Valid.{Valid}
use Rattle.trace_text.specs.declared.trace.Trace.{Trace}
use Rattle.trace_text.specs.Events.{blk_clients}
use Rattle.trace_text.specs.Traces.{per_client}
use Rattle.region_layout.specs.Rows.{queues_of}
use Rattle.blk_law.specs.Sheets.Numbers.{BlkPlace}
use Rattle.blk_law.specs.Hops.Hops.{blk_put, blk_moves, IsBlock}
use Rattle.blk_law.proofs.HopsLemmas.Moves.{blk_moved}
use Rattle.actor_set.specs.Parts.{Part}
use Rattle.actor_set.specs.Laws.Kinds.{AllCalm, sheet, hostiles}
use Rattle.actor_set.proofs.LawsLemmas.Calm.{calm_actor, calm_row}
use Rattle.actor_set.proofs.LawsLemmas.Told.{none_wild}
use Rattle.wired_law.specs.Wiring.{HasPart, HasBlkIn}
use Rattle.expect_core.specs.Expected.{client_entry}
use Rattle.cast_core.specs.Sources.{first_blk}
use Rattle.cast_core.specs.Casts.{blk_place}
use Rattle.cast_core.proofs.Listing.{value_count}
use Rattle.cast_core.proofs.Tables.{has_rows}
use Rattle.cast_bound.specs.PlayBound.Standing.{serial_first, serial_many, blk_first, BlkMoves, without_blk, with_blk}

-- what clients ask is no more than what is given
asks_few : (n : ℕ) (asks : List (List Ask)) → sum_by length (per_client n (λ c. unwrap_or (slice_get asks c) [])) ≤ sum_by length asks
asks_few zero asks = omega arith
asks_few (suc n) [] =
    let rest = asks_few n [] in
    let a = sum_by-cons (λ (l : List Ask). length l) [] (per_client n (λ c. unwrap_or (slice_get [] c) [])) in
    omega (arith, rest, a)
asks_few (suc n) (s ∷ asks) =
    let rest = asks_few n asks in
    let a = sum_by-cons (λ (l : List Ask). length l) s (per_client n (λ c. unwrap_or (slice_get asks c) [])) in
    let b = sum_by-cons (λ (l : List Ask). length l) s asks in
    omega (arith, rest, a, b)

-- the class's first queue is the one behind those of the other classes
serial_first_is : (o : Option Net) → option_map_or (λ (net : Net). 8 + 6 * length net.client) o 0 ≡ serial_first o
serial_first_is None = refl
serial_first_is (Some net) = refl

serial_many_is : (o : Option Serial) → option_map_or (λ (serial : Serial). 4 + 2 * length serial.client) o 0 ≡ serial_many o
serial_many_is None = refl
serial_many_is (Some serial) = refl

first_is : (plan : Plan) → first_blk plan ≡ blk_first plan
first_is plan = let a = serial_first_is plan.net in let b = serial_many_is plan.serial in omega (arith, a, b)

module _ (plan : Plan) (trace : Trace) (scene : Scene) (cast : List Part) (history : History) (journal : List Entry) (valid : Valid plan) (calm : AllCalm cast) (blk : Blk) (is : plan.blk ≡ Some blk) (has : HasBlkIn scene (queues_of plan) (blk_place plan trace) cast) (rows : RowsHold (sheet scene) (hostiles cast) cast (moved history journal)) where
  abbrev place : BlkPlace
  place = blk_place plan trace

  many : length place.entries ≡ length blk.client
  many = value_count (length (blk_clients plan)) (client_entry plan) ∙ ap (λ (o : Option Blk). length (option_map_or (λ (b : Blk). b.client) o [])) is

  row_of : (p : Part) → HasPart cast p → (sheet scene p).row (moved history journal)
  row_of p there = rows there.0 p (calm_actor cast calm there.0) there.1

  is_block : IsBlock scene (hostiles cast) (queues_of plan) (moved history journal) place
  is_block = record {
    asks_many = has.asks_many;
    pools_many = has.pools_many;
    disk = row_of _ has.disk;
    driver = row_of _ has.driver;
    virt = row_of _ has.virt;
    client = λ k entry asks pool of. row_of _ (has.client k entry asks pool of (none_wild cast calm (queues_of plan) (place.first + 4 + 2 * k)));
    holds = λ i below.
        let all = (has_rows plan valid).blk blk is in
        let r = there_is (queues_of plan) (place.first + i) (let n = many in omega (arith, below, all, n)) in
        record { row = r.0; there = r.1; calm = calm_row cast calm r.0; enough = omega arith };
  }

  pub few_put : QueuesFlow history (queues_of plan) journal → blk_put (blk_first plan) (length blk.client) (moved history journal) ≤ blk_moves trace.asks
  few_put flows =
      let few = blk_moved scene (hostiles cast) history (queues_of plan) journal place flows is_block in
      let asks = asks_few (length (blk_clients plan)) trace.asks in
      let here : blk_put place.first (length place.entries) (moved history journal) ≡ blk_put (blk_first plan) (length blk.client) (moved history journal) =
      ap (λ n. blk_put n (length place.entries) (moved history journal)) (first_is plan) ∙ ap (λ n. blk_put (blk_first plan) n (moved history journal)) many in
      omega (arith, few, asks, here)

pub blk_within : (plan : Plan) (trace : Trace) (scene : Scene) (cast : List Part) (history : History) (journal : List Entry) → Valid plan → AllCalm cast → ((blk : Blk) → plan.blk ≡ Some blk → HasBlkIn scene (queues_of plan) (blk_place plan trace) cast)
    → QueuesFlow history (queues_of plan) journal → RowsHold (sheet scene) (hostiles cast) cast (moved history journal) → BlkMoves plan trace (moved history journal)
blk_within plan trace scene cast history journal valid calm has flows rows = by plan.blk refl
  where
    by : (o : Option Blk) → plan.blk ≡ o → BlkMoves plan trace (moved history journal)
    by None is = without_blk is
    by (Some blk) is = with_blk blk is (few_put plan trace scene cast history journal valid calm blk is (has blk is) rows flows)
