-- A step of either kind of actor is one of the member.
use Rattle.std.proofs.Common.{◌≡◌, ap, ap₂, ◌∙◌, List}
use Rattle.cargo_core.specs.declared.item.PoolId.{PoolId}
use Rattle.frame_core.specs.declared.mac.Mac.{Mac}
use Rattle.wire_core.specs.declared.names.QueueId.{QueueId}
use Rattle.wire_core.specs.declared.names.Event.{Event}
use Rattle.wire_core.specs.Lists.{Stepped}
use Rattle.wire_core.specs.Queues.{Queue, Happens}
use Rattle.turn_kit.specs.Turns.{Turned}
use Rattle.owner_law.specs.Pools.Places.{PoolAt}
use Rattle.buffer_kit.specs.Stocks.{SameStock}
use Rattle.buffer_kit.specs.declared.stock.Stock.{Stock}
use Rattle.small_system.specs.Meanings.{Acts}
use Rattle.client_programs.specs.declared.net.NetClient.{NetClient}
use Rattle.client_programs.specs.Net.Clients.{ClientStandsFor, SameClient, client_round, rx_active}
use Rattle.client_programs.specs.Net.Clients.{rx_free, tx_active, tx_free}
use Rattle.client_programs.specs.declared.net.program.ClientProgram.{ClientProgram}
use Rattle.net_switch.specs.declared.switch.NetSwitch.{NetSwitch}
use Rattle.net_switch.specs.Ends.{come_queues, back_queues, room_queues, copy_queues}
use Rattle.net_switch.specs.Switching.{SwitchStandsFor, SameSwitch, switch_round}
use Rattle.switched_law.specs.declared.switch_class.member.Member.TheVariants as Members
use Rattle.switched_law.specs.SwitchClass.Members.{Runs, Switches, pool_of, made_of, member_means}

same_pool : (old new : Stock) → SameStock old new → pool_of new ≡ pool_of old
same_pool old new s =
    ap (λ (p : PoolId). record { number = p.0; base = new.base; buffers = new.buffers; size = new.size }) s.same_pool
    ∙ (ap (λ n. record { number = old.pool.0; base = n; buffers = new.buffers; size = new.size }) s.base
    ∙ ap₂ (λ n z. record { number = old.pool.0; base = old.base; buffers = n; size = z }) s.buffers s.size)

client_made : (old new : NetClient) → SameClient old new → made_of (Members.Client new) ≡ made_of (Members.Client old)
client_made old new s =
    ap (λ (q : QueueId). Runs q.0 (rx_free new) (tx_active new) (tx_free new) new.program (pool_of new.stock) (pool_of new.outbox.stock)) s.rx_active
    ∙ (ap (λ (q : QueueId). Runs (rx_active old) q.0 (tx_active new) (tx_free new) new.program (pool_of new.stock) (pool_of new.outbox.stock)) s.rx_free
    ∙ (ap (λ (q : QueueId). Runs (rx_active old) (rx_free old) q.0 (tx_free new) new.program (pool_of new.stock) (pool_of new.outbox.stock)) s.tx_active
    ∙ (ap (λ (q : QueueId). Runs (rx_active old) (rx_free old) (tx_active old) q.0 new.program (pool_of new.stock) (pool_of new.outbox.stock)) s.tx_free
    ∙ (ap (λ (p : ClientProgram). Runs (rx_active old) (rx_free old) (tx_active old) (tx_free old) p (pool_of new.stock) (pool_of new.outbox.stock)) s.program
    ∙ ap₂ (λ (p q : PoolAt). Runs (rx_active old) (rx_free old) (tx_active old) (tx_free old) old.program p q) (same_pool old.stock new.stock s.stock) (same_pool old.outbox.stock new.outbox.stock s.spare)))))

switch_made : (old new : NetSwitch) → SameSwitch old new → made_of (Members.Switch new) ≡ made_of (Members.Switch old)
switch_made old new s =
    ap (λ (qs : List QueueId). Switches qs (back_queues new.ends) (room_queues new.ends) (copy_queues new.ends) new.desk.macs.items) s.ends.come
    ∙ (ap (λ (qs : List QueueId). Switches (come_queues old.ends) qs (room_queues new.ends) (copy_queues new.ends) new.desk.macs.items) s.ends.back
    ∙ (ap (λ (qs : List QueueId). Switches (come_queues old.ends) (back_queues old.ends) qs (copy_queues new.ends) new.desk.macs.items) s.ends.room
    ∙ ap₂ (λ (qs : List QueueId) (ms : List Mac). Switches (come_queues old.ends) (back_queues old.ends) (room_queues old.ends) qs ms) s.ends.copy s.macs))

pub client_acts : (w v : List Queue) (old new : NetClient) (e : Event) → Stepped ClientStandsFor Happens w v old new e → Turned (client_round old) e (client_round new) → SameClient old new
    → Acts member_means w v (Members.Client old) (Members.Client new) e
client_acts w v old new e st turned same = record {
  body = st.body;
  happened = st.happened;
  steps = record { turned = turned; kept = st.kept; part = client_made old new same };
}

pub switch_acts : (w v : List Queue) (old new : NetSwitch) (e : Event) → Stepped SwitchStandsFor Happens w v old new e → Turned (switch_round old) e (switch_round new) → SameSwitch old new
    → Acts member_means w v (Members.Switch old) (Members.Switch new) e
switch_acts w v old new e st turned same = record {
  body = st.body;
  happened = st.happened;
  steps = record { turned = turned; kept = st.kept; part = switch_made old new same };
}
