use Rattle.std.proofs.Common.{◌≡◌, ◌⊎◌, ℕ, inl, inr, refl}
use Rattle.wire_core.specs.declared.names.Event.{Event}
use Rattle.turn_kit.specs.Turns.{Turned, is_at_rest}
use Rattle.wire_core.specs.Ends.{role_of}
use Rattle.play_core.specs.Manners.{Calm}
use Rattle.client_programs.specs.declared.rogue.Rogue.{Rogue}
use Rattle.client_programs.specs.Rogue.Clients.{Acted, SameRogue}
use Rattle.actor_set.specs.Actors.{ActorEnd, ActorTurned, IsActorCall, MayStep, actor_rests, actor_round, part_anew, part_of}
use Rattle.actor_set.specs.Laws.Kinds.{manner_of}
use Rattle.actor_set.specs.declared.actor.Actor.{Actor}
use Rattle.actor_set.specs.declared.actor.Actor.TheVariants as Kinds

-- all kinds but a hostile client rest where their ends are settled
pub rests_is : (x : Actor) → manner_of (part_of x) ≡ Calm → actor_rests x ≡ is_at_rest (actor_round x)
rests_is (Kinds.UartDevice x) calm = refl
rests_is (Kinds.UartDriver x) calm = refl
rests_is (Kinds.SerialVirtRx x) calm = refl
rests_is (Kinds.SerialVirtTx x) calm = refl
rests_is (Kinds.SerialClient x) calm = refl
rests_is (Kinds.EthDevice x) calm = refl
rests_is (Kinds.EthDriver x) calm = refl
rests_is (Kinds.NetVirtRx x) calm = refl
rests_is (Kinds.NetCopier x) calm = refl
rests_is (Kinds.NetClient x) calm = refl
rests_is (Kinds.NetVirtTx x) calm = refl
rests_is (Kinds.DiskDevice x) calm = refl
rests_is (Kinds.BlkDriver x) calm = refl
rests_is (Kinds.BlkVirt x) calm = refl
rests_is (Kinds.BlkClient x) calm = refl
rests_is (Kinds.Rogue x) calm = cc

-- and take their ends in turn
pub turned_is : (x y : Actor) (e : Event) → manner_of (part_of x) ≡ Calm → ActorTurned x e y → Turned (actor_round x) e (actor_round y)
turned_is (Kinds.UartDevice x) y e calm t = t
turned_is (Kinds.UartDriver x) y e calm t = t
turned_is (Kinds.SerialVirtRx x) y e calm t = t
turned_is (Kinds.SerialVirtTx x) y e calm t = t
turned_is (Kinds.SerialClient x) y e calm t = t
turned_is (Kinds.EthDevice x) y e calm t = t
turned_is (Kinds.EthDriver x) y e calm t = t
turned_is (Kinds.NetVirtRx x) y e calm t = t
turned_is (Kinds.NetCopier x) y e calm t = t
turned_is (Kinds.NetClient x) y e calm t = t
turned_is (Kinds.NetVirtTx x) y e calm t = t
turned_is (Kinds.DiskDevice x) y e calm t = t
turned_is (Kinds.BlkDriver x) y e calm t = t
turned_is (Kinds.BlkVirt x) y e calm t = t
turned_is (Kinds.BlkClient x) y e calm t = t
turned_is (Kinds.Rogue x) y e calm t = cc

-- and make each call at one of their ends
pub own_is : (x : Actor) (e : Event) → manner_of (part_of x) ≡ Calm → IsActorCall x e → ActorEnd x (role_of e.op) e.queue.0
own_is (Kinds.UartDevice x) e calm h = h
own_is (Kinds.UartDriver x) e calm h = h
own_is (Kinds.SerialVirtRx x) e calm h = h
own_is (Kinds.SerialVirtTx x) e calm h = h
own_is (Kinds.SerialClient x) e calm h = h
own_is (Kinds.EthDevice x) e calm h = h
own_is (Kinds.EthDriver x) e calm h = h
own_is (Kinds.NetVirtRx x) e calm h = h
own_is (Kinds.NetCopier x) e calm h = h
own_is (Kinds.NetClient x) e calm h = h
own_is (Kinds.NetVirtTx x) e calm h = h
own_is (Kinds.DiskDevice x) e calm h = h
own_is (Kinds.BlkDriver x) e calm h = h
own_is (Kinds.BlkVirt x) e calm h = h
own_is (Kinds.BlkClient x) e calm h = h
own_is (Kinds.Rogue x) e calm h = cc

-- what they are made of stays
pub anew_is : (x : Actor) → manner_of (part_of x) ≡ Calm → part_anew x ≡ part_of x
anew_is (Kinds.UartDevice x) calm = refl
anew_is (Kinds.UartDriver x) calm = refl
anew_is (Kinds.SerialVirtRx x) calm = refl
anew_is (Kinds.SerialVirtTx x) calm = refl
anew_is (Kinds.SerialClient x) calm = refl
anew_is (Kinds.EthDevice x) calm = refl
anew_is (Kinds.EthDriver x) calm = refl
anew_is (Kinds.NetVirtRx x) calm = refl
anew_is (Kinds.NetCopier x) calm = refl
anew_is (Kinds.NetClient x) calm = refl
anew_is (Kinds.NetVirtTx x) calm = refl
anew_is (Kinds.DiskDevice x) calm = refl
anew_is (Kinds.BlkDriver x) calm = refl
anew_is (Kinds.BlkVirt x) calm = refl
anew_is (Kinds.BlkClient x) calm = refl
anew_is (Kinds.Rogue x) calm = cc

-- and they may step at any time
pub may_is : (wild : ℕ → Type 0) (x : Actor) → manner_of (part_of x) ≡ Calm → MayStep wild x
may_is wild (Kinds.UartDevice x) calm = tt
may_is wild (Kinds.UartDriver x) calm = tt
may_is wild (Kinds.SerialVirtRx x) calm = tt
may_is wild (Kinds.SerialVirtTx x) calm = tt
may_is wild (Kinds.SerialClient x) calm = tt
may_is wild (Kinds.EthDevice x) calm = tt
may_is wild (Kinds.EthDriver x) calm = tt
may_is wild (Kinds.NetVirtRx x) calm = tt
may_is wild (Kinds.NetCopier x) calm = tt
may_is wild (Kinds.NetClient x) calm = tt
may_is wild (Kinds.NetVirtTx x) calm = tt
may_is wild (Kinds.DiskDevice x) calm = tt
may_is wild (Kinds.BlkDriver x) calm = tt
may_is wild (Kinds.BlkVirt x) calm = tt
may_is wild (Kinds.BlkClient x) calm = tt
may_is wild (Kinds.Rogue x) calm = cc

-- a hostile client took its next act
pub acted_is : (x : Rogue) (e : Event) (y : Actor) → ActorTurned (Kinds.Rogue x) e y → (after : Rogue) × (y ≡ Kinds.Rogue after) × Acted x e after × SameRogue x after
acted_is x e (Kinds.Rogue y) t = (y, refl, t.0, t.1)
acted_is x e y t = absurd t

-- an actor is calm, or a hostile client
pub calm_or_rogue : (x : Actor) → (manner_of (part_of x) ≡ Calm) ⊎ ((r : Rogue) × (x ≡ Kinds.Rogue r))
calm_or_rogue (Kinds.UartDevice x) = inl refl
calm_or_rogue (Kinds.UartDriver x) = inl refl
calm_or_rogue (Kinds.SerialVirtRx x) = inl refl
calm_or_rogue (Kinds.SerialVirtTx x) = inl refl
calm_or_rogue (Kinds.SerialClient x) = inl refl
calm_or_rogue (Kinds.EthDevice x) = inl refl
calm_or_rogue (Kinds.EthDriver x) = inl refl
calm_or_rogue (Kinds.NetVirtRx x) = inl refl
calm_or_rogue (Kinds.NetCopier x) = inl refl
calm_or_rogue (Kinds.NetClient x) = inl refl
calm_or_rogue (Kinds.NetVirtTx x) = inl refl
calm_or_rogue (Kinds.DiskDevice x) = inl refl
calm_or_rogue (Kinds.BlkDriver x) = inl refl
calm_or_rogue (Kinds.BlkVirt x) = inl refl
calm_or_rogue (Kinds.BlkClient x) = inl refl
calm_or_rogue (Kinds.Rogue x) = inr (x, refl)
