-- What a thread's closure holds may go there: the references, its parker and the part. Each field is shown by itself,
-- since a `search` through all of them runs out of steps; the numbers spell the closure's name, pd_runner::run::fn::begin::job+Self.
use mathlib.Core.List.{[], ◌∷◌}
use mir.Syntax.{named}
use denote.Exit.{no}
use denote.Struct.Tuple.{type_at}
use denote.Struct.Declared.{shape}
use denote.Struct.Field.{shr_ref_field, shr_slice_field, u16-field, u64-field, unit-field, bool-field}
use denote.Param.{param}
use denote.Param.Send.{sendable, param_send, param_sync, arg_send, struct_send, recorded_send, shr_send, shr_slice_send}
use Rattle.std.proofs.Crossing.{crosses, send, sync, frees}
use Rattle.std.specs.contracts.alloc.Global as Global
use Rattle.std.specs.contracts.impls.GlobalAllocator.TheImpl as Heap
use Rattle.crossbeam_utils.specs.contracts.sync.parker.RuledParker as ParkerOf
use Rattle.crossbeam_utils.specs.contracts.rule.Unruled as Unruled
use Rattle.crossbeam_utils.specs.contracts.rule.UnruledProtocolUnit.TheImpl as UnruledImpl
use Rattle.crossbeam_utils.proofs.sync.parker.RuledParker.TheSendSync as Parker
use Rattle.spsc_queue.specs.contracts.ring.Ring as RingOf
use Rattle.spsc_queue.proofs.ring.Ring.TheSendSync as Ring
use Rattle.pd_runner.specs.contracts.floor.Floor as FloorOf
use Rattle.pd_runner.specs.contracts.part.Part as Part
use Rattle.pd_runner.proofs.floor.Floor.TheSendSync as Floor
use Rattle.pd_runner.proofs.Sent.{part_send, ran_send}
use Rattle.pd_runner.proofs.run.begin.Lts as lts
use Rattle.pd_runner.proofs.run.begin.Goals as goal

pub spawn_with-requires-send-T : goal.spawn_with-requires-send-T
spawn_with-requires-send-T g c κs within = search (crosses, sendable, ran_send) depth 40

pub spawn_with-requires-send-F : goal.spawn_with-requires-send-F
spawn_with-requires-send-F g c κs within =
    let T = type_at (112 ∷ 100 ∷ 95 ∷ 114 ∷ 117 ∷ 110 ∷ 110 ∷ 101 ∷ 114 ∷ 58 ∷ 58 ∷ 114 ∷ 117 ∷ 110 ∷ 58 ∷ 58 ∷ 102 ∷ 110 ∷ 58 ∷ 58 ∷ 98 ∷ 101 ∷ 103 ∷ 105 ∷ 110 ∷ 58 ∷ 58 ∷ 106 ∷ 111 ∷ 98 ∷ 43 ∷ 83 ∷ 101 ∷ 108 ∷ 102 ∷ []) ((shr_ref_field record { mir = named 6; lft = κs.1.1.1.1.1.1.0 } (param 1 g.row.R) tt).row ∷ (shr_slice_field record { mir = named 7; lft = κs.1.1.1.1.1.1.1.0 } RingOf.the_row tt).row ∷ (shr_ref_field record { mir = named 8; lft = κs.1.1.1.1.1.1.1.1.0 } FloorOf.the_row tt).row ∷ (shr_ref_field record { mir = named 9; lft = κs.1.1.1.1.1.1.1.1.1.0 } (param 2 g.row.G) tt).row ∷ (u16-field).row ∷ (ParkerOf.the_row (unit-field).row Unruled.the_row Global.the_row (UnruledImpl.ghosts (bool-field).row) Heap.ghosts) ∷ Part.the_row ∷ (u64-field).row ∷ []) in
    param_send 2 (lts.arg-1-2 g.row.E g.row.R g.row.G g.E.laws g.R.laws g.G.laws g.R.Threads-dict g.R.Wait-dict g.G.Gate-dict κs) (arg_send _ no _ (recorded_send _ _ _ T.to_one (struct_send (shape T) (search (sendable, param_sync, c.type_bounds.sync-R), (shr_slice_send _ _ _ Ring.the_sync, (shr_send _ _ _ Floor.the_sync, (search (sendable, param_sync, c.type_bounds.sync-G), (search sendable, (Parker.the_send unit-field.row Unruled.the_row Global.the_row (UnruledImpl.ghosts bool-field.row) Heap.ghosts send sync frees, (part_send, (search sendable, tt)))))))))))
