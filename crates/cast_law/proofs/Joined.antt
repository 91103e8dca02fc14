-- The actors that a plan and a trace give are seated.
use Rattle.std.proofs.Common.{◌≡◌, ◌⊎◌, Option, Some, None, inl, inr, List, map, refl}
use Rattle.sdf_plan.specs.declared.plan.Plan.{Plan}
use Rattle.sdf_plan.specs.declared.plan.Net.{Net}
use Rattle.sdf_plan.specs.declared.plan.Blk.{Blk}
use Rattle.sdf_check.specs.Valid.{Valid}
use Rattle.trace_text.specs.declared.trace.Trace.{Trace}
use Rattle.trace_text.specs.Traces.{IsReadFor}
use Rattle.region_layout.specs.Rows.{queues_of}
use Rattle.blk_law.specs.Sheets.Numbers.{BlkPlace}
use Rattle.actor_set.specs.Actors.{part_of}
use Rattle.actor_set.specs.declared.actor.Actor.{Actor}
use Rattle.actor_set.specs.Laws.Kinds.{scene_of}
use Rattle.cast_core.specs.Casts.{net_place, blk_place, scene_for, AreCast}
use Rattle.layout_laws.proofs.SeatsLemmas.Counts.{few_queues, few_numbers}
use Rattle.wired_law.specs.Wiring.{HasWhole, HasBlk, HasNoBlock, IsWired}
use Rattle.cast_law.specs.Seats.{AreSeated}
use Rattle.cast_law.proofs.Seated.{seated}
use Rattle.cast_law.proofs.Wired.{scene_is, whole_is, network_is}
use Rattle.cast_law.proofs.Blocks.{whole_block as block_is, no_block}

pub whole_block : (plan : Plan) (trace : Trace) (actors : List Actor) → Valid plan → IsReadFor plan trace → AreCast plan trace actors → (blk : Blk) → plan.blk ≡ Some blk → HasBlk (queues_of plan) (blk_place plan trace) (map part_of actors)
whole_block plan trace actors valid read cast blk is = block_is plan trace actors valid cast read blk is

wired_is : (plan : Plan) (trace : Trace) (actors : List Actor) → Valid plan → IsReadFor plan trace → AreCast plan trace actors → IsWired (queues_of plan) (map part_of actors)
wired_is plan trace actors valid read cast = record { network = network_is plan trace actors valid cast read; block = by plan.blk refl }
  where
    by : (o : Option Blk) → plan.blk ≡ o → HasNoBlock (map part_of actors) ⊎ ((place : BlkPlace) × HasBlk (queues_of plan) place (map part_of actors))
    by None none = inl (no_block plan trace actors valid cast none)
    by (Some blk) is = inr (blk_place plan trace, whole_block plan trace actors valid read cast blk is)

pub all_seated : (plan : Plan) (trace : Trace) (actors : List Actor) → Valid plan → IsReadFor plan trace → AreCast plan trace actors → AreSeated (queues_of plan) actors
all_seated plan trace actors valid read cast = seated plan trace actors valid cast (wired_is plan trace actors valid read cast) (few_queues plan valid) (few_numbers plan valid)

pub whole_network : (plan : Plan) (trace : Trace) (actors : List Actor) → Valid plan → IsReadFor plan trace → AreCast plan trace actors → (net : Net) → plan.net ≡ Some net → HasWhole (queues_of plan) (net_place plan trace) (map part_of actors)
whole_network plan trace actors valid read cast net is = whole_is plan trace actors valid cast net is read

pub scene_of_plan : (plan : Plan) (trace : Trace) (actors : List Actor) → Valid plan → AreCast plan trace actors → scene_of (map part_of actors) ≡ scene_for plan trace
scene_of_plan plan trace actors valid cast = scene_is plan trace actors valid cast
