use Rattle.std.proofs.Common.{◌≡◌, ◌⊎◌, ◌==◌, ◌<◌, ◌+◌, ◌&&◌, ◌||◌, ℕ, zero, suc, Bool, true, false, cond, Some, is_some, is_none, List, [], ◌∷◌, length, slice_get, slice_index_or, refl, sym, ap, ◌∙◌, subst, arith, inl, inr}
use Rattle.std.proofs.lemmas.Bool.{eqb-true}
use Rattle.wire_core.specs.declared.names.QueueRow.{QueueRow}
use Rattle.wire_core.specs.declared.names.Entry.{Entry}
use Rattle.wire_core.specs.declared.names.QueueId.{QueueId}
use Rattle.wire_core.specs.declared.names.Side.{Side}
use Rattle.wire_core.specs.declared.names.Side.TheVariants.{Forward, Backward}
use Rattle.wire_core.specs.Ends.{Role, waiting_role}
use Rattle.wire_core.specs.Queues.{calls}
use Rattle.wire_core.specs.Journal.{History, track, owner_of}
use Rattle.turn_kit.specs.declared.ends.Intake.{Intake}
use Rattle.turn_kit.specs.declared.ends.Outlet.{Outlet}
use Rattle.turn_kit.specs.Posts.{intake_post, outlet_post}
use Rattle.turn_kit.specs.Turns.{Post, IsRound}
use Rattle.play_core.specs.Manners.{Calm}
use Rattle.actor_set.specs.Actors.{ActorEnd, actor_round, numbers, part_of}
use Rattle.actor_set.specs.Parts.{Part, UartPart, DriverPart, RxPart, TxPart, ClientPart, NetworkPart, SendingPart, BlockPart, HostilePart}
use Rattle.actor_set.specs.Laws.Kinds.{manner_of, dropping_ends, drop_seats, has_seat}
use Rattle.actor_set.proofs.LawsLemmas.PartEnds.{number_there, queue_there}
use Rattle.actor_set.proofs.LawsLemmas.Dropping.{RxPost, rx_post, rx_has, no_consumer, client_there, seat_here, no_outlet, other_intake}
use Rattle.play_core.specs.Wants.{intake}
use Rattle.device_model.specs.Ethernet.Devices.{free_post, device_round}
use Rattle.device_model.specs.declared.ethernet.EthDevice.{EthDevice}
use Rattle.net_copier.specs.Copying.{buffer_post, copier_round}
use Rattle.net_copier.specs.declared.NetCopier.{NetCopier}
use Rattle.net_law.specs.Parts.Parts as net
use Rattle.actor_set.specs.declared.actor.Actor.{Actor}
use Rattle.actor_set.specs.declared.actor.Actor.TheVariants as Kinds
use Rattle.device_model.specs.declared.serial_terminal.Terminal.{Terminal}
use Rattle.device_model.specs.SerialTerminal.Terminals.{terminal_round}
use Rattle.serial_virt.proofs.Sizes.{rx_size, tx_size}
use Rattle.serial_virt.specs.Receiving.{RxEnd, rx_round}
use Rattle.serial_virt.specs.declared.rx.SerialVirtRx.{SerialVirtRx}
use Rattle.turn_kit.specs.ManyEnds.{AreApart, outlet_queues}
use Rattle.eth_driver.specs.Four.{four_pipes}
use Rattle.device_model.specs.Ethernet.Devices as device
use Rattle.client_programs.specs.Net.Clients as client
use Rattle.net_virt_rx.specs.Sharing.{is_idle}
use Rattle.net_virt_tx.specs.Traffics.{is_free, owes, needs_at, loaded_at}
use Rattle.pipe_driver.specs.Lengths.{two_pipes}
use Rattle.blk_virt.specs.Works.{is_owing, wants_at, gives_at}
use Rattle.actor_set.specs.StartStates.{HasApartEnds, HasNoLoop}
use Rattle.actor_set.proofs.LawsLemmas.NetPaces.{four_of, four_posts, pipes_post, pipes_has, pipes_size, pipes_apart, virt_post, virt_has, virt_size, virt_apart}
use Rattle.play_core.specs.Runs.{called_from}
use Rattle.turn_kit.specs.Pace.{pendings, IsCalled}
use Rattle.play_core.proofs.Lists.{some_is, map_get, map_from}

-- Each actor's round is its ends, and an actor that is called has a notification pending at one of them.

-- of the network, a part that is neither a device nor a copier drops nowhere
abbrev pub NetWaits : net.NetPart → Post → Type 0
NetWaits (net.NetDevice rx_free rx_active tx_active tx_free frames drops) p = Unit {0}
NetWaits (net.NetDriver ways) p = p.drops ≡ false
NetWaits (net.NetReceiver active free pool clients) p = p.drops ≡ false
NetWaits (net.NetCopier lease_active lease_free rx_active rx_free drops) p = Unit {0}
NetWaits (net.NetClient program mac rx_active rx_free tx_active tx_free rx tx) p = p.drops ≡ false

-- nor does one that isn't a receiving virtualiser of the serial class
abbrev pub Waits : Part → Post → Type 0
Waits (UartPart rx tx input) p = p.drops ≡ false
Waits (DriverPart device_rx device_tx rx tx) p = p.drops ≡ false
Waits (RxPart rx clients drops) p = Unit {0}
Waits (TxPart tx clients) p = p.drops ≡ false
Waits (ClientPart rx tx script) p = p.drops ≡ false
Waits (NetworkPart q) p = NetWaits q p
Waits (SendingPart q) p = p.drops ≡ false
Waits (BlockPart q) p = p.drops ≡ false
Waits (HostilePart q) p = p.drops ≡ false

-- an end of the actor
abbrev pub IsPostOf : Actor → Post → Type 0
IsPostOf x p = ActorEnd x (waiting_role p.side) p.queue × Waits (part_of x) p

-- the post of a client of a receiving virtualiser
outlet_end : (x : SerialVirtRx) (k : ℕ) (p : Post) → RxPost x.drops.items x.outputs.ends.items k p → RxEnd x (waiting_role p.side) p.queue
outlet_end x k p o = subst (λ s. RxEnd x (waiting_role s) p.queue) (sym o.side) (k, o.end.queue, map_get (λ (o : Outlet). o.queue) x.outputs.ends.items k o.end o.there, o.queue)

pub post_stands : (x : Actor) (k : ℕ) (p : Post) → slice_get (actor_round x).posts k ≡ Some p → IsPostOf x p
post_stands (Kinds.UartDevice x) zero p at = subst (IsPostOf (Kinds.UartDevice x)) (some_is at) (refl, refl)
post_stands (Kinds.UartDevice x) (suc zero) p at = subst (IsPostOf (Kinds.UartDevice x)) (some_is at) (refl, refl)
post_stands (Kinds.UartDevice x) (suc (suc k)) p at = cc
post_stands (Kinds.SerialClient x) zero p at = subst (IsPostOf (Kinds.SerialClient x)) (some_is at) (refl, refl)
post_stands (Kinds.SerialClient x) (suc zero) p at = subst (IsPostOf (Kinds.SerialClient x)) (some_is at) (refl, refl)
post_stands (Kinds.SerialClient x) (suc (suc k)) p at = cc
post_stands (Kinds.UartDriver x) zero p at = subst (IsPostOf (Kinds.UartDriver x)) (some_is at) (inl refl, refl)
post_stands (Kinds.UartDriver x) (suc zero) p at = subst (IsPostOf (Kinds.UartDriver x)) (some_is at) (inl refl, refl)
post_stands (Kinds.UartDriver x) (suc (suc zero)) p at = subst (IsPostOf (Kinds.UartDriver x)) (some_is at) (inr (inl refl), refl)
post_stands (Kinds.UartDriver x) (suc (suc (suc zero))) p at = subst (IsPostOf (Kinds.UartDriver x)) (some_is at) (inr (inl refl), refl)
post_stands (Kinds.UartDriver x) (suc (suc (suc (suc k)))) p at = cc
post_stands (Kinds.SerialVirtRx x) zero p at = subst (IsPostOf (Kinds.SerialVirtRx x)) (some_is at) (refl, tt)
post_stands (Kinds.SerialVirtRx x) (suc k) p at = (outlet_end x k p (rx_post x.drops.items x.outputs.ends.items k p at), tt)
post_stands (Kinds.SerialVirtTx x) zero p at = subst (IsPostOf (Kinds.SerialVirtTx x)) (some_is at) (refl, refl)
post_stands (Kinds.SerialVirtTx x) (suc k) p at = let m = map_from intake_post x.inputs.ends.items k p at in subst (IsPostOf (Kinds.SerialVirtTx x)) m.2 ((k, m.0.queue, map_get (λ (i : Intake). i.queue) x.inputs.ends.items k m.0 m.1, refl), refl)
post_stands (Kinds.EthDevice x) k p at = four_of (IsPostOf (Kinds.EthDevice x)) (free_post x) (outlet_post x.active) (intake_post x.wire.pipe.input) (outlet_post x.wire.pipe.output) (inl refl, tt) (inl refl, tt) (inr refl, tt) (inr refl, tt) k p at
post_stands (Kinds.EthDriver x) k p at = pipes_post (four_pipes x.driver.pipes) k p at
post_stands (Kinds.NetVirtRx x) k p at = virt_post x.ends k p at
post_stands (Kinds.NetCopier x) k p at = four_of (IsPostOf (Kinds.NetCopier x)) (intake_post x.lease_input) (buffer_post x) (outlet_post x.buffer_output) (outlet_post x.lease_output) (inl refl, tt) (inr refl, tt) (inl refl, tt) (inr refl, tt) k p at
post_stands (Kinds.NetClient x) k p at = four_posts (ActorEnd (Kinds.NetClient x)) (intake_post x.frames.pipe.input) (outlet_post x.frames.pipe.output) (intake_post x.sent) (outlet_post x.send) (inl refl, refl) (inl refl, refl) (inr refl, refl) (inr refl, refl) k p at
post_stands (Kinds.NetVirtTx x) k p at = virt_post x.ends k p at
post_stands (Kinds.DiskDevice x) zero p at = subst (IsPostOf (Kinds.DiskDevice x)) (some_is at) (refl, refl)
post_stands (Kinds.DiskDevice x) (suc zero) p at = subst (IsPostOf (Kinds.DiskDevice x)) (some_is at) (refl, refl)
post_stands (Kinds.DiskDevice x) (suc (suc k)) p at = cc
post_stands (Kinds.BlkDriver x) k p at = pipes_post (two_pipes x.driver.pipes) k p at
post_stands (Kinds.BlkVirt x) k p at = virt_post x.ends k p at
post_stands (Kinds.BlkClient x) zero p at = subst (IsPostOf (Kinds.BlkClient x)) (some_is at) (refl, refl)
post_stands (Kinds.BlkClient x) (suc zero) p at = subst (IsPostOf (Kinds.BlkClient x)) (some_is at) (refl, refl)
post_stands (Kinds.BlkClient x) (suc (suc k)) p at = cc
post_stands (Kinds.Rogue x) k p at = cc

pub post_end : (x : Actor) (k : ℕ) (p : Post) → slice_get (actor_round x).posts k ≡ Some p → ActorEnd x (waiting_role p.side) p.queue
post_end x k p at = (post_stands x k p at).0

-- a receiving virtualiser drops at the ends of those clients for whom it may
rx_drops : (x : SerialVirtRx) (k : ℕ) (p : Post) → AreApart (outlet_queues x.outputs) → slice_get (rx_round x).posts k ≡ Some p → p.drops ≡ has_seat (dropping_ends (numbers (outlet_queues x.outputs)) x.drops.items) (waiting_role p.side) p.queue
rx_drops x zero p apart at = subst (λ (z : Post). z.drops ≡ has_seat (dropping_ends (numbers (outlet_queues x.outputs)) x.drops.items) (waiting_role z.side) z.queue) (some_is at) (sym (no_consumer (numbers (outlet_queues x.outputs)) x.drops.items x.input.queue.0))
rx_drops x (suc k) p apart at =
    let o = rx_post x.drops.items x.outputs.ends.items k p at in
    let qs : List ℕ = numbers (outlet_queues x.outputs) in
    let here : slice_get (outlet_queues x.outputs) k ≡ Some o.end.queue = map_get (λ (o : Outlet). o.queue) x.outputs.ends.items k o.end o.there in
    let there : slice_get qs k ≡ Some p.queue = number_there (outlet_queues x.outputs) k o.end.queue p.queue here o.queue in
    o.drops ∙ (sym (client_there qs x.drops.items k p.queue there (λ j at. let q = queue_there (outlet_queues x.outputs) j p.queue at in apart j k q.0 o.end.queue q.1 here (sym q.2 ∙ o.queue)))
    ∙ ap (λ s. has_seat (dropping_ends qs x.drops.items) (waiting_role s) p.queue) (sym o.side))

-- a device and a copier drop where they look for a buffer
device_drops : (x : EthDevice) (k : ℕ) (p : Post) → (device.rx_free x ≡ device.tx_active x → ⊥) → slice_get (device_round x).posts k ≡ Some p → p.drops ≡ has_seat (cond x.drops (intake (device.rx_free x) ∷ []) []) (waiting_role p.side) p.queue
device_drops x k p apart at = four_of (λ (z : Post). z.drops ≡ has_seat (cond x.drops (intake (device.rx_free x) ∷ []) []) (waiting_role z.side) z.queue) (free_post x) (outlet_post x.active) (intake_post x.wire.pipe.input) (outlet_post x.wire.pipe.output)
    (seat_here x.drops (device.rx_free x)) (no_outlet x.drops (device.rx_free x) x.active.queue.0) (other_intake x.drops (device.rx_free x) (device.tx_active x) apart) (no_outlet x.drops (device.rx_free x) x.wire.pipe.output.queue.0) k p at

copier_drops : (x : NetCopier) (k : ℕ) (p : Post) → (x.lease_input.queue.0 ≡ x.buffer_input.queue.0 → ⊥) → slice_get (copier_round x).posts k ≡ Some p → p.drops ≡ has_seat (cond x.drops (intake x.buffer_input.queue.0 ∷ []) []) (waiting_role p.side) p.queue
copier_drops x k p apart at = four_of (λ (z : Post). z.drops ≡ has_seat (cond x.drops (intake x.buffer_input.queue.0 ∷ []) []) (waiting_role z.side) z.queue) (intake_post x.lease_input) (buffer_post x) (outlet_post x.buffer_output) (outlet_post x.lease_output)
    (other_intake x.drops x.buffer_input.queue.0 x.lease_input.queue.0 (λ e. apart (sym e))) (seat_here x.drops x.buffer_input.queue.0) (no_outlet x.drops x.buffer_input.queue.0 x.buffer_output.queue.0) (no_outlet x.drops x.buffer_input.queue.0 x.lease_output.queue.0) k p at

-- an actor drops at the ends at which its part does
pub post_drops : (x : Actor) (k : ℕ) (p : Post) → HasApartEnds x → slice_get (actor_round x).posts k ≡ Some p → p.drops ≡ has_seat (drop_seats (part_of x)) (waiting_role p.side) p.queue
post_drops (Kinds.SerialVirtRx x) k p apart at = rx_drops x k p apart at
post_drops (Kinds.UartDevice x) k p apart at = (post_stands (Kinds.UartDevice x) k p at).1
post_drops (Kinds.SerialClient x) k p apart at = (post_stands (Kinds.SerialClient x) k p at).1
post_drops (Kinds.UartDriver x) k p apart at = (post_stands (Kinds.UartDriver x) k p at).1
post_drops (Kinds.SerialVirtTx x) k p apart at = (post_stands (Kinds.SerialVirtTx x) k p at).1
post_drops (Kinds.EthDevice x) k p apart at = device_drops x k p apart.0 at
post_drops (Kinds.EthDriver x) k p apart at = (post_stands (Kinds.EthDriver x) k p at).1
post_drops (Kinds.NetVirtRx x) k p apart at = (post_stands (Kinds.NetVirtRx x) k p at).1
post_drops (Kinds.NetCopier x) k p apart at = copier_drops x k p apart.0 at
post_drops (Kinds.NetClient x) k p apart at = (post_stands (Kinds.NetClient x) k p at).1
post_drops (Kinds.NetVirtTx x) k p apart at = (post_stands (Kinds.NetVirtTx x) k p at).1
post_drops (Kinds.DiskDevice x) k p apart at = (post_stands (Kinds.DiskDevice x) k p at).1
post_drops (Kinds.BlkDriver x) k p apart at = (post_stands (Kinds.BlkDriver x) k p at).1
post_drops (Kinds.BlkVirt x) k p apart at = (post_stands (Kinds.BlkVirt x) k p at).1
post_drops (Kinds.BlkClient x) k p apart at = (post_stands (Kinds.BlkClient x) k p at).1
post_drops (Kinds.Rogue x) k p apart at = cc

-- an end on this side is one of its posts
abbrev pub EndPost : Actor → Side → ℕ → Type 0
EndPost x s n = (k : ℕ) × (p : Post) × (slice_get (actor_round x).posts k ≡ Some p) × (p.queue ≡ n) × (p.side ≡ s)

pub end_post : (x : Actor) (s : Side) (n : ℕ) → manner_of (part_of x) ≡ Calm → ActorEnd x (waiting_role s) n → EndPost x s n
end_post (Kinds.UartDevice x) Forward n calm h = (0, intake_post x.terminal.input, refl, sym h, refl)
end_post (Kinds.UartDevice x) Backward n calm h = (1, outlet_post x.terminal.output, refl, sym h, refl)
end_post (Kinds.SerialClient x) Forward n calm h = (0, intake_post x.terminal.input, refl, sym h, refl)
end_post (Kinds.SerialClient x) Backward n calm h = (1, outlet_post x.terminal.output, refl, sym h, refl)
end_post (Kinds.UartDriver x) Forward n calm (inl h) = (0, intake_post x.driver.pipes.first.input, refl, sym h, refl)
end_post (Kinds.UartDriver x) Forward n calm (inr (inl h)) = (2, intake_post x.driver.pipes.rest.input, refl, sym h, refl)
end_post (Kinds.UartDriver x) Forward n calm (inr (inr h)) = absurd h
end_post (Kinds.UartDriver x) Backward n calm (inl h) = (1, outlet_post x.driver.pipes.first.output, refl, sym h, refl)
end_post (Kinds.UartDriver x) Backward n calm (inr (inl h)) = (3, outlet_post x.driver.pipes.rest.output, refl, sym h, refl)
end_post (Kinds.UartDriver x) Backward n calm (inr (inr h)) = absurd h
end_post (Kinds.SerialVirtRx x) Forward n calm h = (0, intake_post x.input, refl, sym h, refl)
end_post (Kinds.SerialVirtRx x) Backward n calm h =
    let m = map_from (λ (o : Outlet). o.queue) x.outputs.ends.items h.0 h.1 h.2 in
    let r = rx_has x.drops.items x.outputs.ends.items h.0 m.0 m.1 in
    (suc h.0, r.0, r.1, r.2 ∙ (ap (λ (q : QueueId). q.0) m.2 ∙ sym h.3), r.3)
end_post (Kinds.SerialVirtTx x) Forward n calm h = let m = map_from (λ (i : Intake). i.queue) x.inputs.ends.items h.0 h.1 h.2 in (suc h.0, intake_post m.0, map_get intake_post x.inputs.ends.items h.0 m.0 m.1, ap (λ (q : QueueId). q.0) m.2 ∙ sym h.3, refl)
end_post (Kinds.SerialVirtTx x) Backward n calm h = (0, outlet_post x.output, refl, sym h, refl)
end_post (Kinds.EthDevice x) Forward n calm (inl h) = (0, free_post x, refl, sym h, refl)
end_post (Kinds.EthDevice x) Forward n calm (inr h) = (2, intake_post x.wire.pipe.input, refl, sym h, refl)
end_post (Kinds.EthDevice x) Backward n calm (inl h) = (1, outlet_post x.active, refl, sym h, refl)
end_post (Kinds.EthDevice x) Backward n calm (inr h) = (3, outlet_post x.wire.pipe.output, refl, sym h, refl)
end_post (Kinds.EthDriver x) s n calm h = pipes_has (four_pipes x.driver.pipes) s n h
end_post (Kinds.NetVirtRx x) s n calm h = virt_has x.ends s n h
end_post (Kinds.NetCopier x) Forward n calm (inl h) = (0, intake_post x.lease_input, refl, sym h, refl)
end_post (Kinds.NetCopier x) Forward n calm (inr h) = (1, buffer_post x, refl, sym h, refl)
end_post (Kinds.NetCopier x) Backward n calm (inl h) = (2, outlet_post x.buffer_output, refl, sym h, refl)
end_post (Kinds.NetCopier x) Backward n calm (inr h) = (3, outlet_post x.lease_output, refl, sym h, refl)
end_post (Kinds.NetClient x) Forward n calm (inl h) = (0, intake_post x.frames.pipe.input, refl, sym h, refl)
end_post (Kinds.NetClient x) Forward n calm (inr h) = (2, intake_post x.sent, refl, sym h, refl)
end_post (Kinds.NetClient x) Backward n calm (inl h) = (1, outlet_post x.frames.pipe.output, refl, sym h, refl)
end_post (Kinds.NetClient x) Backward n calm (inr h) = (3, outlet_post x.send, refl, sym h, refl)
end_post (Kinds.NetVirtTx x) s n calm h = virt_has x.ends s n h
end_post (Kinds.DiskDevice x) Forward n calm h = (0, intake_post x.device.input, refl, sym h, refl)
end_post (Kinds.DiskDevice x) Backward n calm h = (1, outlet_post x.device.output, refl, sym h, refl)
end_post (Kinds.BlkDriver x) s n calm h = pipes_has (two_pipes x.driver.pipes) s n h
end_post (Kinds.BlkVirt x) s n calm h = virt_has x.ends s n h
end_post (Kinds.BlkClient x) Forward n calm h = (0, intake_post x.responses, refl, sym h, refl)
end_post (Kinds.BlkClient x) Backward n calm h = (1, outlet_post x.requests, refl, sym h, refl)
end_post (Kinds.Rogue x) s n calm h = cc

-- each end has its need
sizes : (x : Actor) → length (actor_round x).needs ≡ length (actor_round x).posts
sizes (Kinds.UartDevice x) = refl
sizes (Kinds.SerialClient x) = refl
sizes (Kinds.UartDriver x) = refl
sizes (Kinds.SerialVirtRx x) = rx_size x
sizes (Kinds.SerialVirtTx x) = tx_size x
sizes (Kinds.EthDevice x) = refl
sizes (Kinds.EthDriver x) = pipes_size (four_pipes x.driver.pipes)
sizes (Kinds.NetVirtRx x) = virt_size x.ends (is_idle x.work) (is_some x.work.stock.next) (λ k. is_idle x.work) (λ k. slice_index_or x.work.owed k false)
sizes (Kinds.NetCopier x) = refl
sizes (Kinds.NetClient x) = refl
sizes (Kinds.NetVirtTx x) = virt_size x.ends (is_free x.work) (owes x.work) (needs_at x.work) (loaded_at x.work)
sizes (Kinds.DiskDevice x) = refl
sizes (Kinds.BlkDriver x) = refl
sizes (Kinds.BlkVirt x) = virt_size x.ends (is_none x.work.stray) (is_owing x.work) (wants_at x.work) (gives_at x.work)
sizes (Kinds.BlkClient x) = refl
sizes (Kinds.Rogue x) = refl

some_ends : (x : Actor) → manner_of (part_of x) ≡ Calm → 0 < length (actor_round x).posts
some_ends (Kinds.UartDevice x) calm = omega arith
some_ends (Kinds.SerialClient x) calm = omega arith
some_ends (Kinds.UartDriver x) calm = omega arith
some_ends (Kinds.SerialVirtRx x) calm = omega arith
some_ends (Kinds.SerialVirtTx x) calm = omega arith
some_ends (Kinds.EthDevice x) calm = omega arith
some_ends (Kinds.EthDriver x) calm = omega arith
some_ends (Kinds.NetVirtRx x) calm = omega arith
some_ends (Kinds.NetCopier x) calm = omega arith
some_ends (Kinds.NetClient x) calm = omega arith
some_ends (Kinds.NetVirtTx x) calm = omega arith
some_ends (Kinds.DiskDevice x) calm = omega arith
some_ends (Kinds.BlkDriver x) calm = omega arith
some_ends (Kinds.BlkVirt x) calm = omega arith
some_ends (Kinds.BlkClient x) calm = omega arith
some_ends (Kinds.Rogue x) calm = cc

abbrev Apart : Actor → Type 0
Apart x = (k j : ℕ) (p q : Post) → slice_get (actor_round x).posts k ≡ Some p → slice_get (actor_round x).posts j ≡ Some q → p.queue ≡ q.queue → k ≡ j

terminal_apart : (t : Terminal) → (t.input.queue.0 ≡ t.output.queue.0 → ⊥) → (k j : ℕ) (p q : Post) → slice_get (terminal_round t).posts k ≡ Some p → slice_get (terminal_round t).posts j ≡ Some q → p.queue ≡ q.queue → k ≡ j
terminal_apart t d zero zero p q a b e = refl
terminal_apart t d (suc zero) (suc zero) p q a b e = refl
terminal_apart t d zero (suc zero) p q a b e = absurd (d (ap (λ (x : Post). x.queue) (some_is a) ∙ (e ∙ sym (ap (λ (x : Post). x.queue) (some_is b)))))
terminal_apart t d (suc zero) zero p q a b e = absurd (d (ap (λ (x : Post). x.queue) (some_is b) ∙ (sym e ∙ sym (ap (λ (x : Post). x.queue) (some_is a)))))
terminal_apart t d (suc (suc k)) j p q a b e = cc
terminal_apart t d zero (suc (suc j)) p q a b e = cc
terminal_apart t d (suc zero) (suc (suc j)) p q a b e = cc

-- two queues that aren't one
two_apart : (x y : Post) → (x.queue ≡ y.queue → ⊥) → (k j : ℕ) (p q : Post) → slice_get (x ∷ y ∷ []) k ≡ Some p → slice_get (x ∷ y ∷ []) j ≡ Some q → p.queue ≡ q.queue → k ≡ j
two_apart x y d zero zero p q a b e = refl
two_apart x y d (suc zero) (suc zero) p q a b e = refl
two_apart x y d zero (suc zero) p q a b e = absurd (d (ap (λ (z : Post). z.queue) (some_is a) ∙ (e ∙ sym (ap (λ (z : Post). z.queue) (some_is b)))))
two_apart x y d (suc zero) zero p q a b e = absurd (d (ap (λ (z : Post). z.queue) (some_is b) ∙ (sym e ∙ sym (ap (λ (z : Post). z.queue) (some_is a)))))
two_apart x y d (suc (suc k)) j p q a b e = cc
two_apart x y d zero (suc (suc j)) p q a b e = cc
two_apart x y d (suc zero) (suc (suc j)) p q a b e = cc

-- four queues of which no two are one
four_apart : (a b c d : Post) → (a.queue ≡ b.queue → ⊥) → (a.queue ≡ c.queue → ⊥) → (a.queue ≡ d.queue → ⊥) → (b.queue ≡ c.queue → ⊥) → (b.queue ≡ d.queue → ⊥) → (c.queue ≡ d.queue → ⊥) → (k j : ℕ) (p q : Post) → slice_get (a ∷ b ∷ c ∷ d ∷ []) k ≡ Some p → slice_get (a ∷ b ∷ c ∷ d ∷ []) j ≡ Some q → p.queue ≡ q.queue → k ≡ j
four_apart a b c d ab ac ad bc bd cd k j p q pk qj e = go k j pk qj
  where
    no : (x y : Post) → (x.queue ≡ y.queue → ⊥) → Some x ≡ Some p → Some y ≡ Some q → ⊥
    no x y h f g = h (ap (λ (z : Post). z.queue) (some_is f) ∙ (e ∙ sym (ap (λ (z : Post). z.queue) (some_is g))))

    on : (x y : Post) → (y.queue ≡ x.queue → ⊥) → Some x ≡ Some p → Some y ≡ Some q → ⊥
    on x y h f g = h (ap (λ (z : Post). z.queue) (some_is g) ∙ (sym e ∙ sym (ap (λ (z : Post). z.queue) (some_is f))))

    go : (k j : ℕ) → slice_get (a ∷ b ∷ c ∷ d ∷ []) k ≡ Some p → slice_get (a ∷ b ∷ c ∷ d ∷ []) j ≡ Some q → k ≡ j
    go zero zero f g = refl
    go zero (suc zero) f g = absurd (no a b ab f g)
    go zero (suc (suc zero)) f g = absurd (no a c ac f g)
    go zero (suc (suc (suc zero))) f g = absurd (no a d ad f g)
    go (suc zero) zero f g = absurd (on b a ab f g)
    go (suc zero) (suc zero) f g = refl
    go (suc zero) (suc (suc zero)) f g = absurd (no b c bc f g)
    go (suc zero) (suc (suc (suc zero))) f g = absurd (no b d bd f g)
    go (suc (suc zero)) zero f g = absurd (on c a ac f g)
    go (suc (suc zero)) (suc zero) f g = absurd (on c b bc f g)
    go (suc (suc zero)) (suc (suc zero)) f g = refl
    go (suc (suc zero)) (suc (suc (suc zero))) f g = absurd (no c d cd f g)
    go (suc (suc (suc zero))) zero f g = absurd (on d a ad f g)
    go (suc (suc (suc zero))) (suc zero) f g = absurd (on d b bd f g)
    go (suc (suc (suc zero))) (suc (suc zero)) f g = absurd (on d c cd f g)
    go (suc (suc (suc zero))) (suc (suc (suc zero))) f g = refl
    go (suc (suc (suc (suc k)))) j f g = cc
    go zero (suc (suc (suc (suc j)))) f g = cc
    go (suc zero) (suc (suc (suc (suc j)))) f g = cc
    go (suc (suc zero)) (suc (suc (suc (suc j)))) f g = cc
    go (suc (suc (suc zero))) (suc (suc (suc (suc j)))) f g = cc

apart_posts : (x : Actor) → HasApartEnds x → HasNoLoop x → Apart x
apart_posts (Kinds.UartDevice x) h d k j p q a b e = terminal_apart x.terminal (λ e. d x.terminal.input.queue.0 refl e) k j p q a b e
apart_posts (Kinds.SerialClient x) h d k j p q a b e = terminal_apart x.terminal (λ e. d x.terminal.input.queue.0 refl e) k j p q a b e
apart_posts (Kinds.UartDriver x) h d k j p q a b e = four_apart (intake_post x.driver.pipes.first.input) (outlet_post x.driver.pipes.first.output) (intake_post x.driver.pipes.rest.input) (outlet_post x.driver.pipes.rest.output) (λ e. d x.driver.pipes.first.input.queue.0 (inl refl) (inl e)) h.0 (λ e. d x.driver.pipes.first.input.queue.0 (inl refl) (inr (inl e))) (λ e. d x.driver.pipes.rest.input.queue.0 (inr (inl refl)) (inl (sym e))) h.1 (λ e. d x.driver.pipes.rest.input.queue.0 (inr (inl refl)) (inr (inl e))) k j p q a b e
apart_posts (Kinds.SerialVirtRx x) h d zero zero p q a b e = refl
apart_posts (Kinds.SerialVirtRx x) h d zero (suc j) p q a b e =
    let o = rx_post x.drops.items x.outputs.ends.items j q b in
    absurd (d p.queue (subst (λ (z : Post). z.queue ≡ x.input.queue.0) (some_is a) refl) (j, o.end.queue, map_get (λ (y : Outlet). y.queue) x.outputs.ends.items j o.end o.there, e ∙ o.queue))
apart_posts (Kinds.SerialVirtRx x) h d (suc k) zero p q a b e =
    let o = rx_post x.drops.items x.outputs.ends.items k p a in
    absurd (d q.queue (subst (λ (z : Post). z.queue ≡ x.input.queue.0) (some_is b) refl) (k, o.end.queue, map_get (λ (y : Outlet). y.queue) x.outputs.ends.items k o.end o.there, sym e ∙ o.queue))
apart_posts (Kinds.SerialVirtRx x) h d (suc k) (suc j) p q a b e =
    let o = rx_post x.drops.items x.outputs.ends.items k p a in
    let r = rx_post x.drops.items x.outputs.ends.items j q b in
    ap suc (h k j o.end.queue r.end.queue (map_get (λ (y : Outlet). y.queue) x.outputs.ends.items k o.end o.there) (map_get (λ (y : Outlet). y.queue) x.outputs.ends.items j r.end r.there) (sym o.queue ∙ (e ∙ r.queue)))
apart_posts (Kinds.SerialVirtTx x) h d zero zero p q a b e = refl
apart_posts (Kinds.SerialVirtTx x) h d zero (suc j) p q a b e =
    let o = map_from intake_post x.inputs.ends.items j q b in
    absurd (d p.queue (j, o.0.queue, map_get (λ (y : Intake). y.queue) x.inputs.ends.items j o.0 o.1, e ∙ sym (ap (λ (z : Post). z.queue) o.2)) (subst (λ (z : Post). z.queue ≡ x.output.queue.0) (some_is a) refl))
apart_posts (Kinds.SerialVirtTx x) h d (suc k) zero p q a b e =
    let o = map_from intake_post x.inputs.ends.items k p a in
    absurd (d q.queue (k, o.0.queue, map_get (λ (y : Intake). y.queue) x.inputs.ends.items k o.0 o.1, sym e ∙ sym (ap (λ (z : Post). z.queue) o.2)) (subst (λ (z : Post). z.queue ≡ x.output.queue.0) (some_is b) refl))
apart_posts (Kinds.SerialVirtTx x) h d (suc k) (suc j) p q a b e =
    let o = map_from intake_post x.inputs.ends.items k p a in
    let r = map_from intake_post x.inputs.ends.items j q b in
    ap suc (h k j o.0.queue r.0.queue (map_get (λ (y : Intake). y.queue) x.inputs.ends.items k o.0 o.1) (map_get (λ (y : Intake). y.queue) x.inputs.ends.items j r.0 r.1) (ap (λ (z : Post). z.queue) o.2 ∙ (e ∙ sym (ap (λ (z : Post). z.queue) r.2))))
apart_posts (Kinds.EthDevice x) h d k j p q a b e = four_apart (free_post x) (outlet_post x.active) (intake_post x.wire.pipe.input) (outlet_post x.wire.pipe.output) (λ e. d (device.rx_free x) (inl refl) (inl e)) h.0 (λ e. d (device.rx_free x) (inl refl) (inr e)) (λ e. d (device.tx_active x) (inr refl) (inl (sym e))) h.1 (λ e. d (device.tx_active x) (inr refl) (inr e)) k j p q a b e
apart_posts (Kinds.EthDriver x) h d k j p q a b e = pipes_apart (four_pipes x.driver.pipes) h.0 h.1 d k j p q a b e
apart_posts (Kinds.NetVirtRx x) h d k j p q a b e = virt_apart x.ends h d k j p q a b e
apart_posts (Kinds.NetCopier x) h d k j p q a b e = four_apart (intake_post x.lease_input) (buffer_post x) (outlet_post x.buffer_output) (outlet_post x.lease_output) h.0 (λ e. d x.lease_input.queue.0 (inl refl) (inl e)) (λ e. d x.lease_input.queue.0 (inl refl) (inr e)) (λ e. d x.buffer_input.queue.0 (inr refl) (inl e)) (λ e. d x.buffer_input.queue.0 (inr refl) (inr e)) h.1 k j p q a b e
apart_posts (Kinds.NetClient x) h d k j p q a b e = four_apart (intake_post x.frames.pipe.input) (outlet_post x.frames.pipe.output) (intake_post x.sent) (outlet_post x.send) (λ e. d (client.rx_active x) (inl refl) (inl e)) h.0 (λ e. d (client.rx_active x) (inl refl) (inr e)) (λ e. d (client.tx_free x) (inr refl) (inl (sym e))) h.1 (λ e. d (client.tx_free x) (inr refl) (inr e)) k j p q a b e
apart_posts (Kinds.NetVirtTx x) h d k j p q a b e = virt_apart x.ends h d k j p q a b e
apart_posts (Kinds.DiskDevice x) h d k j p q a b e = two_apart (intake_post x.device.input) (outlet_post x.device.output) (λ e. d x.device.input.queue.0 refl e) k j p q a b e
apart_posts (Kinds.BlkDriver x) h d k j p q a b e = four_apart (intake_post x.driver.pipes.first.input) (outlet_post x.driver.pipes.first.output) (intake_post x.driver.pipes.rest.input) (outlet_post x.driver.pipes.rest.output) (λ e. d x.driver.pipes.first.input.queue.0 (inl refl) (inl e)) h.0 (λ e. d x.driver.pipes.first.input.queue.0 (inl refl) (inr (inl e))) (λ e. d x.driver.pipes.rest.input.queue.0 (inr (inl refl)) (inl (sym e))) h.1 (λ e. d x.driver.pipes.rest.input.queue.0 (inr (inl refl)) (inr (inl e))) k j p q a b e
apart_posts (Kinds.BlkVirt x) h d k j p q a b e = virt_apart x.ends h d k j p q a b e
apart_posts (Kinds.BlkClient x) h d k j p q a b e = two_apart (intake_post x.responses) (outlet_post x.requests) (λ e. d x.responses.queue.0 refl e) k j p q a b e
apart_posts (Kinds.Rogue x) h d k j p q a b e = cc

pub start_round : (x : Actor) → manner_of (part_of x) ≡ Calm → HasApartEnds x → HasNoLoop x → IsRound (actor_round x)
start_round x calm h d = record { some = some_ends x calm; needs = sizes x; apart = apart_posts x h d }

-- an actor that is called has a pending end

pub record Calling (k : ℕ) (history : History) (rows : List QueueRow) (journal : List Entry) : Type 0 where
  pub queue : ℕ
  pub row : QueueRow
  pub there : slice_get rows queue ≡ Some row
  pub side : Side
  pub owner : owner_of row (waiting_role side) ≡ k
  pub pends : pendings history journal queue side ≡ true

and_parts : (a b : Bool) → (a && b) ≡ true → (a ≡ true) × (b ≡ true)
and_parts true true h = (refl, refl)
and_parts true false h = cc
and_parts false b h = cc

or_parts : (a b : Bool) → (a || b) ≡ true → (a ≡ true) ⊎ (b ≡ true)
or_parts true b h = inl refl
or_parts false b h = inr h

called_case : (k n : ℕ) (history : History) (all rows : List QueueRow) (journal : List Entry) → ((m : ℕ) (row : QueueRow) → slice_get rows m ≡ Some row → slice_get all (n + m) ≡ Some row) → called_from k n history rows journal ≡ true → Calling k history all journal
called_case k n history all [] journal there h = cc
called_case k n history all (row ∷ rows) journal there h = elim (or_parts (calls k row.producer.0 row.consumer.0 (track history n journal).bells) (called_from k (n + 1) history rows journal) h) [
  | inl here ↦
      let z : n + 0 ≡ n = omega arith in
      let at = subst (λ m. slice_get all m ≡ Some row) z (there 0 row refl) in
      elim (or_parts ((row.consumer.0 == k) && (track history n journal).bells.forward.pending) ((row.producer.0 == k) && (track history n journal).bells.backward.pending) here) [
        | inl f ↦ let a = and_parts (row.consumer.0 == k) (track history n journal).bells.forward.pending f in record { queue = n; row = row; there = at; side = Forward; owner = eqb-true row.consumer.0 k a.0; pends = a.1 }
        | inr b ↦ let a = and_parts (row.producer.0 == k) (track history n journal).bells.backward.pending b in record { queue = n; row = row; there = at; side = Backward; owner = eqb-true row.producer.0 k a.0; pends = a.1 }
      ]
  | inr later ↦ called_case k (n + 1) history all rows journal (λ m r at. let z : n + suc m ≡ (n + 1) + m = omega arith in subst (λ i. slice_get all i ≡ Some r) z (there (suc m) r at)) later
]

pub called_end : (k : ℕ) (x : Actor) (history : History) (rows : List QueueRow) (journal : List Entry) → manner_of (part_of x) ≡ Calm → ((n : ℕ) (row : QueueRow) → slice_get rows n ≡ Some row → (r : Role) → owner_of row r ≡ k → ActorEnd x r n) → called_from k 0 history rows journal ≡ true → IsCalled (pendings history journal) (actor_round x).posts
called_end k x history rows journal calm ends h =
    let c = called_case k 0 history rows rows journal (λ m row at. let z : m ≡ 0 + m = omega arith in subst (λ i. slice_get rows i ≡ Some row) z at) h in
    let p = end_post x c.side c.queue calm (ends c.queue c.row c.there (waiting_role c.side) c.owner) in
    record { place = p.0; post = p.1; there = p.2; pends = subst (λ s. pendings history journal p.1.queue s ≡ true) (sym p.4) (subst (λ n. pendings history journal n c.side ≡ true) (sym p.3) c.pends) }
