-- An actor that fits its ends has them apart, and so takes them in a round.
use Rattle.std.proofs.Common.{◌≡◌, ℕ}
use Rattle.wire_core.specs.Ends.{Role, End}
use Rattle.turn_kit.specs.Turns.{IsRound}
use Rattle.buffer_kit.specs.Virtualising.{FitsVirt}
use Rattle.buffer_kit.specs.declared.virt_ends.VirtEnds.{VirtEnds}
use Rattle.play_core.specs.Manners.{Calm}
use Rattle.actor_set.specs.Actors.{FitsActor, actor_round, part_of}
use Rattle.actor_set.specs.Laws.Kinds.{manner_of}
use Rattle.actor_set.specs.StartStates.{HasApartEnds, HasApartQueues, HasNoLoop}
use Rattle.actor_set.specs.declared.actor.Actor.{Actor}
use Rattle.actor_set.specs.declared.actor.Actor.TheVariants as Kinds
use Rattle.actor_set.proofs.LawsLemmas.Paces.{start_round}

virt_apart : (ends : Role → ℕ → End) (v : VirtEnds) → FitsVirt ends v → HasApartQueues v
virt_apart ends v f = record { from = f.from_clients.apart; to = f.to_clients.apart; input = f.inputs_apart; output = f.outputs_apart }

pub fits_apart : (ends : Role → ℕ → End) (x : Actor) → FitsActor ends x → HasApartEnds x
fits_apart ends (Kinds.UartDevice x) f = tt
fits_apart ends (Kinds.SerialClient x) f = tt
fits_apart ends (Kinds.UartDriver x) f = (f.inputs.0.0, f.outputs.0.0)
fits_apart ends (Kinds.SerialVirtRx x) f = f.outputs.apart
fits_apart ends (Kinds.SerialVirtTx x) f = f.inputs.apart
fits_apart ends (Kinds.EthDevice x) f = (f.0.inputs_apart, f.0.outputs_apart)
fits_apart ends (Kinds.EthDriver x) f = (f.inputs, f.outputs)
fits_apart ends (Kinds.NetVirtRx x) f = virt_apart ends x.ends f.ends_fit
fits_apart ends (Kinds.NetCopier x) f = (f.inputs_apart, f.outputs_apart)
fits_apart ends (Kinds.NetClient x) f = (f.0.inputs_apart, f.0.outputs_apart)
fits_apart ends (Kinds.NetVirtTx x) f = virt_apart ends x.ends f.ends_fit
fits_apart ends (Kinds.DiskDevice x) f = tt
fits_apart ends (Kinds.BlkDriver x) f = (f.inputs.0.0, f.outputs.0.0)
fits_apart ends (Kinds.BlkVirt x) f = record { from = f.0.ends_fit.from_clients.apart; to = f.0.ends_fit.to_clients.apart; input = f.0.ends_fit.inputs_apart; output = f.0.ends_fit.outputs_apart }
fits_apart ends (Kinds.BlkClient x) f = tt
fits_apart ends (Kinds.Rogue x) f = tt

pub fits_round : (ends : Role → ℕ → End) (x : Actor) → manner_of (part_of x) ≡ Calm → FitsActor ends x → HasNoLoop x → IsRound (actor_round x)
fits_round ends x calm f split = start_round x calm (fits_apart ends x f) split
