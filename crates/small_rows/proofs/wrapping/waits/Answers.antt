use Rattle.std.proofs.Common.{◌≡◌, not, Bool, true, false, cond, [], ◌∷◌, refl, sym, ap, ◌∙◌, subst}
use Rattle.play_core.specs.Wants.{intake}
use Rattle.turn_kit.specs.ManyEnds.{outlet_queues}
use Rattle.std.specs.List.{list_any}
use Rattle.actor_set.specs.Actors.{numbers}
use Rattle.small_rows.specs.Wrappings.{IsWaiting}
use Rattle.small_rows.proofs.Acting.{none_drop}
use Rattle.small_rows.proofs.wrapping.waits.Goals as goal

not_yes : (b : Bool) → not b ≡ true → b ≡ false
not_yes true h = cc
not_yes false h = refl

pub returns-in-SerialVirtRx : goal.returns-in-SerialVirtRx
returns-in-SerialVirtRx c = λ yes.
    let v = c.in-SerialVirtRx.virt in
    subst IsWaiting (sym c.in-SerialVirtRx.is) (none_drop _ refl v.drops.items (numbers (outlet_queues v.outputs)) (ap (list_any _) (sym c.deref.ensures.value) ∙ (sym c.contains.ensures.value ∙ not_yes c.contains.result yes)))

-- a device and a copier drop at one end, or at none
pub returns-in-EthDevice : goal.returns-in-EthDevice
returns-in-EthDevice c = λ yes. subst IsWaiting (sym c.in-EthDevice.is) (ap (λ b. cond b (intake c.in-EthDevice.device.free.queue.0 ∷ []) []) (not_yes c.in-EthDevice.device.drops yes))

pub returns-in-NetCopier : goal.returns-in-NetCopier
returns-in-NetCopier c = λ yes. subst IsWaiting (sym c.in-NetCopier.is) (ap (λ b. cond b (intake c.in-NetCopier.copier.buffer_input.queue.0 ∷ []) []) (not_yes c.in-NetCopier.copier.drops yes))
