-- What an actor is, by what it is made of.
use Rattle.std.proofs.Common.{◌≡◌, ◌+◌, ◌*◌, ◌<◌, ℕ, zero, suc, Option, Some, List, length, slice_get, refl, ap, ◌∙◌, arith}
use Rattle.frame_core.specs.declared.mac.Mac.{Mac}
use Rattle.line_text.specs.Lists.{per_client}
use Rattle.owner_law.specs.Pools.Places.{PoolAt}
use Rattle.wire_core.specs.declared.names.QueueId.{QueueId}
use Rattle.line_text.specs.declared.ports_text.ports.Ports.{Ports}
use Rattle.client_programs.specs.declared.net.NetClient.{NetClient}
use Rattle.client_programs.specs.declared.net.program.ClientProgram.{ClientProgram}
use Rattle.client_programs.specs.Net.Clients.{rx_active, rx_free, tx_active, tx_free}
use Rattle.net_switch.specs.declared.switch.NetSwitch.{NetSwitch}
use Rattle.net_switch.specs.Ends.{come_queues, back_queues, room_queues, copy_queues}
use Rattle.switched_law.specs.declared.switch_class.member.Member.{Member}
use Rattle.switched_law.specs.declared.switch_class.member.Member.TheVariants as Members
use Rattle.switched_law.specs.SwitchClass.Members.{Runs, Switches, made_of, pool_of}
use Rattle.switched_law.specs.SwitchClass.Casting.{client_made, switch_made, queues_at}
use Rattle.switched_law.specs.SwitchMoment.Scene.{AreAt, IsClientOf, IsSwitchOf}

-- what a client has
record HasMade (c : NetClient) (a b d e : ℕ) (p : ClientProgram) (rx tx : PoolAt) : Type 0 where
  rx_active_is : rx_active c ≡ a
  rx_free_is : rx_free c ≡ b
  tx_active_is : tx_active c ≡ d
  tx_free_is : tx_free c ≡ e
  program : c.program ≡ p
  rx_pool : pool_of c.stock ≡ rx
  tx_pool : pool_of c.outbox.stock ≡ tx

client_of : (y : Member) (a b d e : ℕ) (p : ClientProgram) (rx tx : PoolAt) → made_of y ≡ Runs a b d e p rx tx → (c : NetClient) × (y ≡ Members.Client c) × HasMade c a b d e p rx tx
client_of (Members.Client c) a b d e p rx tx h = (
  c,
  refl,
  record {
    rx_active_is = cc;
    rx_free_is = cc;
    tx_active_is = cc;
    tx_free_is = cc;
    program = cc;
    rx_pool = cc;
    tx_pool = cc;
  },
)
client_of (Members.Switch v) a b d e p rx tx h = cc

-- an actor that is made as the client of a port is one
pub client_there : (ports : Ports) (port : ℕ) (mac : Mac) (frames : List (List ℕ)) (y : Member) → slice_get ports.macs port ≡ Some mac → slice_get ports.sends port ≡ Some frames → made_of y ≡ client_made port mac frames
    → (c : NetClient) × (y ≡ Members.Client c) × IsClientOf ports port c
client_there ports port mac frames y at sends made =
    let c = client_of y _ _ _ _ _ _ _ made in (
      c.0,
      c.1,
      record {
        mac = mac;
        frames = frames;
        address = at;
        sends = sends;
        program = c.2.program;
        tx_active_is = c.2.tx_active_is;
        tx_free_is = c.2.tx_free_is;
        rx_active_is = c.2.rx_active_is;
        rx_free_is = c.2.rx_free_is;
        rx_pool = c.2.rx_pool;
        tx_pool = c.2.tx_pool;
      },
    )

-- what a switch has
record HasQueues (v : NetSwitch) (come back room copy : List QueueId) (macs : List Mac) : Type 0 where
  come_is : come_queues v.ends ≡ come
  back_is : back_queues v.ends ≡ back
  room_is : room_queues v.ends ≡ room
  copy_is : copy_queues v.ends ≡ copy
  macs_are : v.desk.macs.items ≡ macs

switch_of : (y : Member) (come back room copy : List QueueId) (macs : List Mac) → made_of y ≡ Switches come back room copy macs → (v : NetSwitch) × (y ≡ Members.Switch v) × HasQueues v come back room copy macs
switch_of (Members.Client c) come back room copy macs h = cc
switch_of (Members.Switch v) come back room copy macs h = (
  v,
  refl,
  record {
    come_is = cc;
    back_is = cc;
    room_is = cc;
    copy_is = cc;
    macs_are = cc;
  },
)

per_many : {T : Type 0} (n : ℕ) (value : ℕ → T) → length (per_client n value) ≡ n
per_many zero value = refl
per_many (suc n) value = ap suc (per_many n (λ c. value (suc c)))

per_at : {T : Type 0} (n : ℕ) (value : ℕ → T) (k : ℕ) → k < n → slice_get (per_client n value) k ≡ Some (value k)
per_at zero value k less = absurd (omega (arith, less))
per_at (suc n) value zero less = refl
per_at (suc n) value (suc k) less = per_at n (λ c. value (suc c)) k (omega (arith, less))

abbrev queue_some : ℕ → Option QueueId
queue_some q = Some (record { 0 = q })

are_at : (n place : ℕ) (at : ℕ → ℕ) (qs : List QueueId) → ((k : ℕ) → 4 * k + place ≡ at k) → qs ≡ queues_at n place → AreAt n at qs
are_at n place at qs same is = record {
  many = ap (λ l. length l) is ∙ per_many n (λ port. record { 0 = 4 * port + place });
  each = λ k less. ap (λ l. slice_get l k) is ∙ (per_at n (λ port. record { 0 = 4 * port + place }) k less ∙ ap queue_some (same k));
}

-- an actor that is made as the switch is it
pub switch_there : (macs : List Mac) (y : Member) → made_of y ≡ switch_made macs → (v : NetSwitch) × (y ≡ Members.Switch v) × IsSwitchOf macs v
switch_there macs y made =
    let v = switch_of y _ _ _ _ _ made in (
      v.0,
      v.1,
      record {
        macs_are = v.2.macs_are;
        come = are_at (length macs) 0 (λ port. 4 * port) (come_queues v.0.ends) (λ k. omega arith) v.2.come_is;
        back = are_at (length macs) 1 (λ port. 4 * port + 1) (back_queues v.0.ends) (λ k. refl) v.2.back_is;
        copy = are_at (length macs) 2 (λ port. 4 * port + 2) (copy_queues v.0.ends) (λ k. refl) v.2.copy_is;
        room = are_at (length macs) 3 (λ port. 4 * port + 3) (room_queues v.0.ends) (λ k. refl) v.2.room_is;
      },
    )
