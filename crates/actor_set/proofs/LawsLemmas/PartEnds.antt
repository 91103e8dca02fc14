use Rattle.std.proofs.Common.{◌≡◌, ◌⊎◌, ℕ, Some, List, [], ◌∷◌, slice_get, subst, refl, sym, ap, ◌∙◌, zero, suc, inl, inr}
use Rattle.wire_core.specs.declared.names.QueueId.{QueueId}
use Rattle.turn_kit.specs.ManyEnds.{intake_queues, outlet_queues}
use Rattle.wire_core.specs.Ends.{Role, Consumer, Producer}
use Rattle.actor_set.specs.Parts.{Part, UartPart, DriverPart, RxPart, TxPart, ClientPart, NetworkPart, SendingPart, BlockPart, HostilePart}
use Rattle.eth_driver.specs.Four.{four_pipes}
use Rattle.device_model.specs.Ethernet.Devices as device
use Rattle.client_programs.specs.Net.Clients as client
use Rattle.actor_set.specs.Actors.{ActorEnd, IsWhole, part_anew, part_of, numbers}
use Rattle.actor_set.specs.declared.actor.Actor.{Actor}
use Rattle.actor_set.specs.declared.actor.Actor.TheVariants as Kinds
use Rattle.play_core.specs.Moved.{Seat}
use Rattle.play_core.specs.Wants.{intake, outlet}
use Rattle.play_core.specs.Sheets.{Scene}
use Rattle.play_core.proofs.Lists.{some_is, map_get, map_from}
use Rattle.net_law.specs.TxParts.Table.{send_sheet}
use Rattle.actor_set.specs.Laws.Kinds.{sheet}
use Rattle.actor_set.proofs.LawsLemmas.NetEnds.{IsThere, ends_of, ends_same, turns_to, turns_from, twos_to, twos_from, pipes_to, pipes_from, receiver_to, receiver_from}
use Rattle.actor_set.proofs.LawsLemmas.TxEnds.{sender_to, sender_from}
use Rattle.actor_set.proofs.LawsLemmas.BlkEnds.{blk_ends, blk_ends_same, ones_to, ones_from, server_to, server_from}
use Rattle.actor_set.proofs.RogueLemmas.Ends.{RogueAt, rogue_to, rogue_from}
use Rattle.device_model.specs.Disk.Disks as disk
use Rattle.client_programs.specs.Blk.Clients as asker
use Rattle.pipe_driver.specs.Lengths.{two_pipes}

-- one of a part's ends
abbrev pub PartEnd : Part → Role → ℕ → Type 0
PartEnd (UartPart rx tx input) Consumer n = n ≡ tx
PartEnd (UartPart rx tx input) Producer n = n ≡ rx
PartEnd (DriverPart device_rx device_tx rx tx) Consumer n = (n ≡ device_rx) ⊎ (n ≡ tx)
PartEnd (DriverPart device_rx device_tx rx tx) Producer n = (n ≡ rx) ⊎ (n ≡ device_tx)
PartEnd (RxPart rx clients drops) Consumer n = n ≡ rx
PartEnd (RxPart rx clients drops) Producer n = (k : ℕ) × (slice_get clients k ≡ Some n)
PartEnd (TxPart tx clients) Consumer n = (k : ℕ) × (slice_get clients k ≡ Some n)
PartEnd (TxPart tx clients) Producer n = n ≡ tx
PartEnd (ClientPart rx tx script) Consumer n = n ≡ rx
PartEnd (ClientPart rx tx script) Producer n = n ≡ tx
PartEnd (NetworkPart p) r n = IsThere (ends_of p) r n
PartEnd (SendingPart p) r n = IsThere (send_sheet p).ends r n
PartEnd (BlockPart p) r n = IsThere (blk_ends p) r n
PartEnd (HostilePart p) r n = RogueAt p.inputs p.outputs r n

pub number_there : (qs : List QueueId) (k : ℕ) (q : QueueId) (n : ℕ) → slice_get qs k ≡ Some q → n ≡ q.0 → slice_get (numbers qs) k ≡ Some n
number_there [] k q n h e = cc
number_there (a ∷ qs) zero q n h e = let f : a ≡ q = some_is h in ap Some (ap (λ (x : QueueId). x.0) f ∙ sym e)
number_there (a ∷ qs) (suc k) q n h e = number_there qs k q n h e

pub queue_there : (qs : List QueueId) (k n : ℕ) → slice_get (numbers qs) k ≡ Some n → (q : QueueId) × (slice_get qs k ≡ Some q) × (n ≡ q.0)
queue_there [] k n h = cc
queue_there (a ∷ qs) zero n h = (a, refl, sym (some_is h))
queue_there (a ∷ qs) (suc k) n h = queue_there qs k n h

-- an actor's ends are those of its part
pub to_part : (x : Actor) (r : Role) (n : ℕ) → IsWhole x → ActorEnd x r n → PartEnd (part_of x) r n
to_part (Kinds.UartDevice x) Consumer n whole h = h
to_part (Kinds.UartDevice x) Producer n whole h = h
to_part (Kinds.SerialVirtRx x) Consumer n whole h = h
to_part (Kinds.SerialVirtRx x) Producer n whole h = (h.0, number_there (outlet_queues x.outputs) h.0 h.1 n h.2 h.3)
to_part (Kinds.SerialVirtTx x) Consumer n whole h = (h.0, number_there (intake_queues x.inputs) h.0 h.1 n h.2 h.3)
to_part (Kinds.SerialVirtTx x) Producer n whole h = h
to_part (Kinds.SerialClient x) Consumer n whole h = h
to_part (Kinds.SerialClient x) Producer n whole h = h
to_part (Kinds.UartDriver x) Consumer n whole (inl h) = inl h
to_part (Kinds.UartDriver x) Consumer n whole (inr (inl h)) = inr h
to_part (Kinds.UartDriver x) Consumer n whole (inr (inr h)) = absurd h
to_part (Kinds.UartDriver x) Producer n whole (inl h) = inl h
to_part (Kinds.UartDriver x) Producer n whole (inr (inl h)) = inr h
to_part (Kinds.UartDriver x) Producer n whole (inr (inr h)) = absurd h
to_part (Kinds.EthDevice x) Consumer n whole h = turns_to (device.rx_free x) (device.rx_active x) (device.tx_active x) (device.tx_free x) Consumer n h
to_part (Kinds.EthDevice x) Producer n whole h = turns_to (device.rx_free x) (device.rx_active x) (device.tx_active x) (device.tx_free x) Producer n h
to_part (Kinds.EthDriver x) r n whole h = pipes_to (four_pipes x.driver.pipes) r n h
to_part (Kinds.NetVirtRx x) r n whole h = receiver_to x whole.from_each whole.to_each r n h
to_part (Kinds.NetCopier x) Consumer n whole h = twos_to x.lease_input.queue.0 x.buffer_input.queue.0 x.buffer_output.queue.0 x.lease_output.queue.0 Consumer n h
to_part (Kinds.NetCopier x) Producer n whole h = twos_to x.lease_input.queue.0 x.buffer_input.queue.0 x.buffer_output.queue.0 x.lease_output.queue.0 Producer n h
to_part (Kinds.NetClient x) Consumer n whole h = turns_to (client.rx_active x) (client.rx_free x) (client.tx_free x) (client.tx_active x) Consumer n h
to_part (Kinds.NetClient x) Producer n whole h = turns_to (client.rx_active x) (client.rx_free x) (client.tx_free x) (client.tx_active x) Producer n h
to_part (Kinds.NetVirtTx x) r n whole h = sender_to x whole.from_each whole.to_each r n h
to_part (Kinds.DiskDevice x) Consumer n whole h = ones_to (disk.req x.device) (disk.resp x.device) Consumer n h
to_part (Kinds.DiskDevice x) Producer n whole h = ones_to (disk.req x.device) (disk.resp x.device) Producer n h
to_part (Kinds.BlkDriver x) r n whole h = pipes_to (two_pipes x.driver.pipes) r n h
to_part (Kinds.BlkVirt x) r n whole h = server_to x whole.from_each whole.to_each r n h
to_part (Kinds.BlkClient x) Consumer n whole h = ones_to (asker.resp_queue x) (asker.req_queue x) Consumer n h
to_part (Kinds.BlkClient x) Producer n whole h = ones_to (asker.resp_queue x) (asker.req_queue x) Producer n h
to_part (Kinds.Rogue x) Consumer n whole h = (h.0, number_there x.inputs.items h.0 h.1 n h.2 h.3)
to_part (Kinds.Rogue x) Producer n whole h = (h.0, number_there x.outputs.items h.0 h.1 n h.2 h.3)

pub from_part : (x : Actor) (r : Role) (n : ℕ) → PartEnd (part_of x) r n → ActorEnd x r n
from_part (Kinds.UartDevice x) Consumer n h = h
from_part (Kinds.UartDevice x) Producer n h = h
from_part (Kinds.SerialVirtRx x) Consumer n h = h
from_part (Kinds.SerialVirtRx x) Producer n h = let q = queue_there (outlet_queues x.outputs) h.0 n h.1 in (h.0, q.0, q.1, q.2)
from_part (Kinds.SerialVirtTx x) Consumer n h = let q = queue_there (intake_queues x.inputs) h.0 n h.1 in (h.0, q.0, q.1, q.2)
from_part (Kinds.SerialVirtTx x) Producer n h = h
from_part (Kinds.SerialClient x) Consumer n h = h
from_part (Kinds.SerialClient x) Producer n h = h
from_part (Kinds.UartDriver x) Consumer n (inl h) = inl h
from_part (Kinds.UartDriver x) Consumer n (inr h) = inr (inl h)
from_part (Kinds.UartDriver x) Producer n (inl h) = inl h
from_part (Kinds.UartDriver x) Producer n (inr h) = inr (inl h)
from_part (Kinds.EthDevice x) Consumer n h = turns_from (device.rx_free x) (device.rx_active x) (device.tx_active x) (device.tx_free x) Consumer n h.0 h.1
from_part (Kinds.EthDevice x) Producer n h = turns_from (device.rx_free x) (device.rx_active x) (device.tx_active x) (device.tx_free x) Producer n h.0 h.1
from_part (Kinds.EthDriver x) r n h = pipes_from (four_pipes x.driver.pipes) r n h.0 h.1
from_part (Kinds.NetVirtRx x) r n h = receiver_from x r n h.0 h.1
from_part (Kinds.NetCopier x) Consumer n h = twos_from x.lease_input.queue.0 x.buffer_input.queue.0 x.buffer_output.queue.0 x.lease_output.queue.0 Consumer n h.0 h.1
from_part (Kinds.NetCopier x) Producer n h = twos_from x.lease_input.queue.0 x.buffer_input.queue.0 x.buffer_output.queue.0 x.lease_output.queue.0 Producer n h.0 h.1
from_part (Kinds.NetClient x) Consumer n h = turns_from (client.rx_active x) (client.rx_free x) (client.tx_free x) (client.tx_active x) Consumer n h.0 h.1
from_part (Kinds.NetClient x) Producer n h = turns_from (client.rx_active x) (client.rx_free x) (client.tx_free x) (client.tx_active x) Producer n h.0 h.1
from_part (Kinds.NetVirtTx x) r n h = sender_from x r n h.0 h.1
from_part (Kinds.DiskDevice x) Consumer n h = ones_from (disk.req x.device) (disk.resp x.device) Consumer n h.0 h.1
from_part (Kinds.DiskDevice x) Producer n h = ones_from (disk.req x.device) (disk.resp x.device) Producer n h.0 h.1
from_part (Kinds.BlkDriver x) r n h = pipes_from (two_pipes x.driver.pipes) r n h.0 h.1
from_part (Kinds.BlkVirt x) r n h = server_from x r n h.0 h.1
from_part (Kinds.BlkClient x) Consumer n h = ones_from (asker.resp_queue x) (asker.req_queue x) Consumer n h.0 h.1
from_part (Kinds.BlkClient x) Producer n h = ones_from (asker.resp_queue x) (asker.req_queue x) Producer n h.0 h.1
from_part (Kinds.Rogue x) Consumer n h = let q = queue_there x.inputs.items h.0 n h.1 in (h.0, q.0, q.1, q.2)
from_part (Kinds.Rogue x) Producer n h = let q = queue_there x.outputs.items h.0 n h.1 in (h.0, q.0, q.1, q.2)

-- of what it is made once it forgot its looks, they are the same
pub from_anew : (x : Actor) (r : Role) (n : ℕ) → PartEnd (part_anew x) r n → ActorEnd x r n
from_anew (Kinds.UartDevice x) r n h = from_part (Kinds.UartDevice x) r n h
from_anew (Kinds.UartDriver x) r n h = from_part (Kinds.UartDriver x) r n h
from_anew (Kinds.SerialVirtRx x) r n h = from_part (Kinds.SerialVirtRx x) r n h
from_anew (Kinds.SerialVirtTx x) r n h = from_part (Kinds.SerialVirtTx x) r n h
from_anew (Kinds.SerialClient x) r n h = from_part (Kinds.SerialClient x) r n h
from_anew (Kinds.EthDevice x) r n h = from_part (Kinds.EthDevice x) r n h
from_anew (Kinds.EthDriver x) r n h = from_part (Kinds.EthDriver x) r n h
from_anew (Kinds.NetVirtRx x) r n h = from_part (Kinds.NetVirtRx x) r n h
from_anew (Kinds.NetCopier x) r n h = from_part (Kinds.NetCopier x) r n h
from_anew (Kinds.NetClient x) r n h = from_part (Kinds.NetClient x) r n h
from_anew (Kinds.NetVirtTx x) r n h = from_part (Kinds.NetVirtTx x) r n h
from_anew (Kinds.DiskDevice x) r n h = from_part (Kinds.DiskDevice x) r n h
from_anew (Kinds.BlkDriver x) r n h = from_part (Kinds.BlkDriver x) r n h
from_anew (Kinds.BlkVirt x) r n h = from_part (Kinds.BlkVirt x) r n h
from_anew (Kinds.BlkClient x) r n h = from_part (Kinds.BlkClient x) r n h
from_anew (Kinds.Rogue x) Consumer n h = from_part (Kinds.Rogue x) Consumer n h
from_anew (Kinds.Rogue x) Producer n h = from_part (Kinds.Rogue x) Producer n h

pub same_part : (x y : Actor) (r : Role) (n : ℕ) → part_of y ≡ part_of x → IsWhole y → ActorEnd y r n → ActorEnd x r n
same_part x y r n e whole h = from_part x r n (subst (λ p. PartEnd p r n) e (to_part y r n whole h))

-- a part's ends as its sheet has them
pub end_seat : (scene : Scene) (p : Part) (r : Role) (n : ℕ) → PartEnd p r n → (i : ℕ) × (slice_get (sheet scene p).ends i ≡ Some (record { queue = n; role = r }))
end_seat scene (UartPart rx tx input) Consumer n e = (0, ap (λ m. Some (intake m)) (sym e))
end_seat scene (UartPart rx tx input) Producer n e = (1, ap (λ m. Some (outlet m)) (sym e))
end_seat scene (DriverPart device_rx device_tx rx tx) Consumer n (inl e) = (0, ap (λ m. Some (intake m)) (sym e))
end_seat scene (DriverPart device_rx device_tx rx tx) Consumer n (inr e) = (2, ap (λ m. Some (intake m)) (sym e))
end_seat scene (DriverPart device_rx device_tx rx tx) Producer n (inl e) = (1, ap (λ m. Some (outlet m)) (sym e))
end_seat scene (DriverPart device_rx device_tx rx tx) Producer n (inr e) = (3, ap (λ m. Some (outlet m)) (sym e))
end_seat scene (RxPart rx clients drops) Consumer n e = (0, ap (λ m. Some (intake m)) (sym e))
end_seat scene (RxPart rx clients drops) Producer n e = (suc e.0, map_get outlet clients e.0 n e.1)
end_seat scene (TxPart tx clients) Consumer n e = (suc e.0, map_get intake clients e.0 n e.1)
end_seat scene (TxPart tx clients) Producer n e = (0, ap (λ m. Some (outlet m)) (sym e))
end_seat scene (ClientPart rx tx script) Consumer n e = (0, ap (λ m. Some (intake m)) (sym e))
end_seat scene (ClientPart rx tx script) Producer n e = (1, ap (λ m. Some (outlet m)) (sym e))
end_seat scene (NetworkPart p) r n e = (e.0, ap (λ l. slice_get l e.0) (ends_same scene p) ∙ e.1)
end_seat scene (SendingPart p) r n e = e
end_seat scene (BlockPart p) r n e = (e.0, ap (λ l. slice_get l e.0) (blk_ends_same scene p) ∙ e.1)
end_seat scene (HostilePart p) r n e = rogue_to p.inputs p.outputs r n e

as_end : (p : Part) (a b : Seat) → a ≡ b → PartEnd p a.role a.queue → PartEnd p b.role b.queue
as_end p a b e h = subst (λ (x : Seat). PartEnd p x.role x.queue) e h

pub seat_end : (scene : Scene) (p : Part) (i : ℕ) (x : Seat) → slice_get (sheet scene p).ends i ≡ Some x → PartEnd p x.role x.queue
seat_end scene (UartPart rx tx input) zero x at = as_end (UartPart rx tx input) (intake tx) x (some_is at) refl
seat_end scene (UartPart rx tx input) (suc zero) x at = as_end (UartPart rx tx input) (outlet rx) x (some_is at) refl
seat_end scene (UartPart rx tx input) (suc (suc i)) x at = cc
seat_end scene (DriverPart device_rx device_tx rx tx) zero x at = as_end (DriverPart device_rx device_tx rx tx) (intake device_rx) x (some_is at) (inl refl)
seat_end scene (DriverPart device_rx device_tx rx tx) (suc zero) x at = as_end (DriverPart device_rx device_tx rx tx) (outlet rx) x (some_is at) (inl refl)
seat_end scene (DriverPart device_rx device_tx rx tx) (suc (suc zero)) x at = as_end (DriverPart device_rx device_tx rx tx) (intake tx) x (some_is at) (inr refl)
seat_end scene (DriverPart device_rx device_tx rx tx) (suc (suc (suc zero))) x at = as_end (DriverPart device_rx device_tx rx tx) (outlet device_tx) x (some_is at) (inr refl)
seat_end scene (DriverPart device_rx device_tx rx tx) (suc (suc (suc (suc i)))) x at = cc
seat_end scene (RxPart rx clients drops) zero x at = as_end (RxPart rx clients drops) (intake rx) x (some_is at) refl
seat_end scene (RxPart rx clients drops) (suc i) x at = let m = map_from outlet clients i x at in as_end (RxPart rx clients drops) (outlet m.0) x m.2 (i, m.1)
seat_end scene (TxPart tx clients) zero x at = as_end (TxPart tx clients) (outlet tx) x (some_is at) refl
seat_end scene (TxPart tx clients) (suc i) x at = let m = map_from intake clients i x at in as_end (TxPart tx clients) (intake m.0) x m.2 (i, m.1)
seat_end scene (ClientPart rx tx script) zero x at = as_end (ClientPart rx tx script) (intake rx) x (some_is at) refl
seat_end scene (ClientPart rx tx script) (suc zero) x at = as_end (ClientPart rx tx script) (outlet tx) x (some_is at) refl
seat_end scene (ClientPart rx tx script) (suc (suc i)) x at = cc
seat_end scene (NetworkPart p) i x at = (i, ap (λ l. slice_get l i) (sym (ends_same scene p)) ∙ at)
seat_end scene (SendingPart p) i x at = (i, at)
seat_end scene (BlockPart p) i x at = (i, ap (λ l. slice_get l i) (sym (blk_ends_same scene p)) ∙ at)
seat_end scene (HostilePart p) i x at = rogue_from p.inputs p.outputs i x at
