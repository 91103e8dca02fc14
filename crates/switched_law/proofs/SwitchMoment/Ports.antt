-- What the switch and the client of one port say of its four queues.
use Rattle.std.proofs.Common.{◌≡◌, ◌+◌, ◌*◌, ◌<◌, ◌++◌, ℕ, zero, suc, List, length, map, sym, ap, ◌∙◌, subst, arith}
use Rattle.std.specs.Option.{option_to_list}
use Rattle.std.proofs.lemmas.List.{length-map}
use Rattle.cargo_core.specs.Lists.{IsPrefix}
use Rattle.frame_core.specs.declared.mac.Mac.{Mac}
use Rattle.line_text.specs.declared.ports_text.ports.Ports.{Ports}
use Rattle.wire_core.specs.declared.names.QueueId.{QueueId}
use Rattle.wire_core.specs.Deeds.{Cargo}
use Rattle.wire_core.specs.Ends.{Role, End}
use Rattle.wire_core.specs.Lists.{Passed}
use Rattle.play_core.proofs.Lists.{prefix_trans}
use Rattle.buffer_kit.specs.Clients.{queue_at}
use Rattle.buffer_kit.specs.Entries.{all_filled}
use Rattle.buffer_kit.specs.Pools.{given_entry}
use Rattle.buffer_kit.specs.Stocks.{stock_list}
use Rattle.buffer_kit.proofs.ManyClients.{queue_is}
use Rattle.client_programs.specs.declared.net.NetClient.{NetClient}
use Rattle.client_programs.specs.declared.net.program.ClientProgram.{ClientProgram}
use Rattle.client_programs.specs.Net.Programs.{frames_out}
use Rattle.client_programs.specs.Net.Clients.{ClientHolds, client_frames, client_owes, rx_free, tx_active, tx_free}
use Rattle.owner_law.specs.Pools.Places.{PoolAt}
use Rattle.net_switch.specs.SwitchDesk.Frames.{Sent, frames_to, entries_from}
use Rattle.net_switch.specs.SwitchDesk.Desks.{PortStands, held_at, copy_at}
use Rattle.net_switch.specs.declared.switch.NetSwitch.{NetSwitch}
use Rattle.net_switch.specs.Ends.{come_queues, back_queues, room_queues, copy_queues}
use Rattle.net_switch.specs.Switching.{all_sent, takes_on}
use Rattle.switched_law.specs.SwitchMoment.Scene.{buffers, buffer_size, AreAt, HasClient, IsSwitched}
use Rattle.switched_law.proofs.SwitchMoment.Sized.{AreLong, own_long, gave_long}

-- the queue of a port
queue_of : (n : ℕ) (at : ℕ → ℕ) (qs : List QueueId) → AreAt n at qs → (port : ℕ) → port < n → queue_at qs port ≡ at port
queue_of n at qs are port less = queue_is qs port (record { 0 = at port }) (are.each port less)

-- the number of one of a port's four queues
abbrev pub number : (place port : ℕ) → ℕ
number zero port = 4 * port
number (suc place) port = 4 * port + suc place

module _ (ports : Ports) (ends : Role → ℕ → End) (v : NetSwitch) (passed : Passed) (h : IsSwitched ports ends v passed) where
  -- what the switch took
  abbrev pub log : List Sent
  log = all_sent v passed

  abbrev pub macs : List Mac
  macs = ports.macs

  -- what was put to a queue of a port, and what was taken there
  abbrev pub put : (place port : ℕ) → List Cargo
  put place port = passed.sent (number place port)

  abbrev pub got : (place port : ℕ) → List Cargo
  got place port = passed.taken (number place port)

  pub flow : (place port : ℕ) → IsPrefix (got place port) (put place port)
  flow place port = h.hands_over (number place port)

  pub within : (port : ℕ) → port < length macs → port < length v.desk.macs.items
  within port less = let e = ap (λ (l : List Mac). length l) h.switch.macs_are in omega (arith, e, less)

  pub ports_many : length (come_queues v.ends) ≡ length macs
  ports_many = h.switch.come.many

  module _ (port : ℕ) (less : port < length macs) where
    pub come_at : queue_at (come_queues v.ends) port ≡ 4 * port
    come_at = queue_of (length macs) (λ p. 4 * p) (come_queues v.ends) h.switch.come port less

    pub back_at : queue_at (back_queues v.ends) port ≡ 4 * port + 1
    back_at = queue_of (length macs) (λ p. 4 * p + 1) (back_queues v.ends) h.switch.back port less

    pub copy_queue : queue_at (copy_queues v.ends) port ≡ 4 * port + 2
    copy_queue = queue_of (length macs) (λ p. 4 * p + 2) (copy_queues v.ends) h.switch.copy port less

    pub room_at : queue_at (room_queues v.ends) port ≡ 4 * port + 3
    room_at = queue_of (length macs) (λ p. 4 * p + 3) (room_queues v.ends) h.switch.room port less

    -- how the switch's desk stands for the port
    pub stands : PortStands v.desk port log (got 3 port) (put 2 port) (put 1 port)
    stands =
        subst (λ q. PortStands v.desk port log (got 3 port) (put 2 port) (passed.sent q)) back_at
        (subst (λ q. PortStands v.desk port log (got 3 port) (passed.sent q) (passed.sent (queue_at (back_queues v.ends) port))) copy_queue
        (subst (λ q. PortStands v.desk port log (passed.taken q) (passed.sent (queue_at (copy_queues v.ends) port)) (passed.sent (queue_at (back_queues v.ends) port))) room_at
        (h.stands.desk.ports port (within port less))))

    below : port < length (come_queues v.ends)
    below = let e = ports_many in omega (arith, e, less)

    -- what it took from the port
    pub came : entries_from port log ≡ got 0 port
    came = h.stands.came port below ∙ ap passed.taken come_at

    pub called : takes_on (4 * port) passed.calls ≡ length (got 0 port)
    called = subst (λ q. takes_on q passed.calls ≡ length (passed.taken q)) come_at (h.stands.called port below)

    -- the client
    abbrev pub at : HasClient ports port ends passed
    at = h.clients port less

    abbrev pub client : NetClient
    client = at.client

    pub holds : ClientHolds client (got 2 port) (put 3 port) (got 1 port) (put 0 port)
    holds =
        subst (λ q. ClientHolds client (got 2 port) (put 3 port) (got 1 port) (passed.sent q)) at.is.tx_active_is
        (subst (λ q. ClientHolds client (got 2 port) (put 3 port) (passed.taken q) (passed.sent (tx_active client))) at.is.tx_free_is
        (subst (λ q. ClientHolds client (got 2 port) (passed.sent q) (passed.taken (tx_free client)) (passed.sent (tx_active client))) at.is.rx_free_is
        (subst (λ q. ClientHolds client (passed.taken q) (passed.sent (rx_free client)) (passed.taken (tx_free client)) (passed.sent (tx_active client))) at.is.rx_active_is at.stands)))

    -- it sends the port's frames, whatever comes
    pub out : client_frames client ≡ at.is.frames
    out = ap (λ (p : ClientProgram). frames_out p client.frames.tape.shown) at.is.program

    pub rx_size : client.stock.size ≡ buffer_size
    rx_size = ap (λ (p : PoolAt). p.size) at.is.rx_pool

    pub rx_many : client.stock.buffers ≡ buffers
    rx_many = ap (λ (p : PoolAt). p.buffers) at.is.rx_pool

    pub tx_size : client.outbox.stock.size ≡ buffer_size
    tx_size = ap (λ (p : PoolAt). p.size) at.is.tx_pool

    pub tx_many : client.outbox.stock.buffers ≡ buffers
    tx_many = ap (λ (p : PoolAt). p.buffers) at.is.tx_pool

    -- its own buffers
    abbrev pub own : List Cargo
    own = map (given_entry client.stock.base client.stock.size) holds.start

    abbrev pub spare : List Cargo
    spare = map (given_entry client.outbox.stock.base client.outbox.stock.size) holds.sends.start

    pub own_many : length own ≡ 4
    own_many = length-map holds.start (given_entry client.stock.base client.stock.size) ∙ (holds.is_start.many ∙ rx_many)

    pub spare_many : length spare ≡ 4
    spare_many = length-map holds.sends.start (given_entry client.outbox.stock.base client.outbox.stock.size) ∙ (holds.sends.is_start.many ∙ tx_many)

    -- what went round on the sending side
    pub filled : IsPrefix (put 0 port) (all_filled at.is.frames holds.sends.used)
    filled = (option_to_list client.outbox.load, holds.sends.filled ∙ ap (λ fs. all_filled fs holds.sends.used) out)

    pub returned : IsPrefix (put 1 port) (got 0 port)
    returned = (option_to_list (held_at v.desk port), stands.backs ∙ came)

    pub came_back : IsPrefix (got 1 port) (all_filled at.is.frames holds.sends.used)
    came_back = prefix_trans (got 1 port) (put 1 port) (all_filled at.is.frames holds.sends.used) (flow 1 port)
        (prefix_trans (put 1 port) (got 0 port) (all_filled at.is.frames holds.sends.used) returned
        (prefix_trans (got 0 port) (put 0 port) (all_filled at.is.frames holds.sends.used) (flow 0 port) filled))

    pub used_long : AreLong buffer_size holds.sends.used
    used_long = subst (λ n. AreLong n holds.sends.used) tx_size
        (gave_long client.outbox.stock.size at.is.frames spare (got 1 port) holds.sends.used (own_long client.outbox.stock holds.sends.start holds.sends.is_start) (let n = spare_many in omega (arith, n)) (stock_list client.outbox.stock, sym holds.sends.had) came_back)

    -- and on the receiving side
    pub gives : IsPrefix (put 3 port) (own ++ got 2 port)
    gives = (client_owes client, holds.given)

    pub copies : IsPrefix (put 2 port) (all_filled (frames_to v.desk.macs.items port log) (got 3 port))
    copies = (option_to_list (copy_at v.desk port), stands.copies)

    pub room_long : AreLong buffer_size (got 3 port)
    room_long = subst (λ n. AreLong n (got 3 port)) rx_size
        (gave_long client.stock.size (frames_to v.desk.macs.items port log) own (got 2 port) (got 3 port) (own_long client.stock holds.start holds.is_start) (let n = own_many in omega (arith, n))
        (prefix_trans (got 3 port) (put 3 port) (own ++ got 2 port) (flow 3 port) gives)
        (prefix_trans (got 2 port) (put 2 port) (all_filled (frames_to v.desk.macs.items port log) (got 3 port)) (flow 2 port) copies))
