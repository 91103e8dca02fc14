-- The network client: what it must fit, what it stands for, and its row.
use Rattle.std.specs.Prelude.{◌≡◌, ◌⊎◌, ◌+◌, ◌-◌, ◌<◌, ◌≤◌, ◌^◌, ◌&&◌, ◌||◌, ℕ, Bool, true, not}
use Rattle.std.specs.Prelude.{is_some, is_none, None, List, [], ◌∷◌, ◌++◌, All, length, map}
use Rattle.std.specs.Prelude.{option_to_list}
use Rattle.cargo_core.specs.declared.item.Body.{Body}
use Rattle.cargo_core.specs.declared.item.QueueKind.TheVariants as Kind
use Rattle.cargo_core.specs.Lists.{IsPrefix}
use Rattle.cargo_core.specs.Pages.{Paged}
use Rattle.frame_core.specs.declared.mac.Mac.{Mac}
use Rattle.wire_core.specs.declared.names.QueueId.{QueueId}
use Rattle.wire_core.specs.declared.names.Side.TheVariants.{Forward, Backward}
use Rattle.wire_core.specs.Deeds.{Cargo}
use Rattle.wire_core.specs.Lists.{Passed}
use Rattle.wire_core.specs.Ends.{Role, Consumer, Producer, End}
use Rattle.turn_kit.specs.Table.{Agrees, start_state}
use Rattle.turn_kit.specs.Turns.{Round}
use Rattle.turn_kit.specs.Posts.{intake_post, outlet_post}
use Rattle.turn_kit.specs.Hands.{Balances, bodies_of, bodies_at}
use Rattle.turn_kit.specs.Pipes.{FitsPipe, IsNewPipe}
use Rattle.buffer_kit.specs.Entries.{frame_of}
use Rattle.buffer_kit.specs.Pools.{given_entry, page_bodies}
use Rattle.buffer_kit.specs.Stocks.{stock_list, IsStock, IsStart, SameStock}
use Rattle.client_programs.specs.declared.net.NetClient.{NetClient}
use Rattle.client_programs.specs.declared.net.program.NetProgram.{NetProgram}
use Rattle.client_programs.specs.Net.Programs.{frames_out, is_echo}
use Rattle.client_programs.specs.Net.Sending.{FitsOutbox, SendsFrames, OutboxStandsFor}
use Rattle.client_programs.specs.Net.Sending.{IsNewOutbox, outbox_hand, is_sending}
use Rattle.client_programs.specs.Net.Sending.{needs_buffer, is_through}

-- the queue on which frames come to it
abbrev pub rx_active : NetClient → ℕ
rx_active c = c.frames.pipe.input.queue.0

-- the queue to which it gives its buffers
abbrev pub rx_free : NetClient → ℕ
rx_free c = c.frames.pipe.output.queue.0

-- the queue to which it sends
abbrev pub tx_active : NetClient → ℕ
tx_active c = c.send.queue.0

-- the queue on which the buffers come back that it sent
abbrev pub tx_free : NetClient → ℕ
tx_free c = c.sent.queue.0

-- the frames that it sends, by those that it recorded
abbrev pub client_frames : NetClient → List (List ℕ)
client_frames c = frames_out c.program c.frames.tape.shown

-- its ends are its own, and as it keeps them; all are queues of the network; each frame has at most
-- 65,535 bytes; and its buffers can be counted
pub record FitsClient (ends : Role → ℕ → End) (c : NetClient) : Type 0 where
  pub frames : FitsPipe ends c.frames.pipe
  pub sent : Agrees (ends Consumer (tx_free c)) c.sent.state
  pub send : Agrees (ends Producer (tx_active c)) c.send.state
  pub gives : (ends Producer (rx_free c)).kind ≡ Kind.Net
  pub comes_back : (ends Consumer (tx_free c)).kind ≡ Kind.Net
  pub sends : (ends Producer (tx_active c)).kind ≡ Kind.Net
  pub inputs_apart : rx_active c ≡ tx_free c → ⊥
  pub outputs_apart : rx_free c ≡ tx_active c → ⊥
  pub stock : IsStock c.stock
  pub outbox : FitsOutbox c.outbox (client_frames c)
  pub script : All (λ frame. length frame < 2 ^ 16) c.program.script
  pub record_ : All (λ frame. length frame < 2 ^ 16) c.frames.tape.shown
  pub few : length c.stock.rest.items + length c.outbox.stock.rest.items < 2 ^ 32 - 4

-- what it has yet to put to the queue of free buffers: those that it didn't give yet, and then the
-- one that it took
abbrev pub client_owes : NetClient → List Cargo
client_owes c = stock_list c.stock ++ option_to_list c.frames.pipe.load

-- where frames came in these buffers, it gave and put those, and such came back that it had put: it
-- gave its buffers in rising number and then those that came, but for what it owes: one of those
-- that came at most, and till all of its own are given no other came; it recorded the frames that
-- came; its own frames go out in buffers for sending; and an echo put an answer to each frame but
-- the last
pub record ClientHolds (c : NetClient) (came gave back put : List Cargo) : Type 0 where
  pub start : List Paged
  pub is_start : IsStart c.stock start
  pub given : gave ++ client_owes c ≡ map (given_entry c.stock.base c.stock.size) start ++ came
  pub came_in : length (option_to_list c.frames.pipe.load) ≤ length came
  pub first : is_some c.stock.next ≡ true
      → length came ≤ length (option_to_list c.frames.pipe.load)
  pub got : c.frames.tape.shown ≡ map frame_of came
  pub sends : OutboxStandsFor c.outbox (client_frames c) back put
  pub answered : is_echo c.program.kind ≡ true → length came ≤ length put + 1

-- it stands for what passed at its ends
abbrev pub ClientStandsFor : NetClient → Passed → Type 0
ClientStandsFor c passed = ClientHolds c (passed.taken (rx_active c)) (passed.sent (rx_free c))
    (passed.taken (tx_free c)) (passed.sent (tx_active c))

-- the buffers that it put are its own in rising number and then those that it took, in their order
-- and as they came; its record is the frames that it took; it sends its program's frames for these,
-- in buffers of its own; and an echo takes a frame only where it put its answer to the one before
pub record ClientRow (c : NetClient) (passed : Passed) : Type 0 where
  pub start : List Paged
  pub is_start : IsStart c.stock start
  pub given : IsPrefix (passed.sent (rx_free c)) (map
      (given_entry c.stock.base c.stock.size) start ++ passed.taken (rx_active c))
  pub got : c.frames.tape.shown ≡ map frame_of (passed.taken (rx_active c))
  pub spare : List Paged
  pub is_spare : IsStart c.outbox.stock spare
  pub sends : SendsFrames (frames_out c.program (map frame_of (passed.taken (rx_active c))))
      (map (given_entry c.outbox.stock.base c.outbox.stock.size) spare)
      (passed.taken (tx_free c)) (passed.sent (tx_active c))
  pub answered : is_echo c.program.kind ≡ true
      → length (passed.taken (rx_active c)) ≤ length (passed.sent (tx_active c)) + 1

-- one of its ends
abbrev pub ClientEnd : NetClient → Role → ℕ → Type 0
ClientEnd c Consumer n = (n ≡ rx_active c) ⊎ (n ≡ tx_free c)
ClientEnd c Producer n = (n ≡ rx_free c) ⊎ (n ≡ tx_active c)

-- the queues, the program and the buffers of which it had all at the start stay
pub record SameClient (old new : NetClient) : Type 0 where
  pub rx_active : new.frames.pipe.input.queue ≡ old.frames.pipe.input.queue
  pub rx_free : new.frames.pipe.output.queue ≡ old.frames.pipe.output.queue
  pub tx_active : new.send.queue ≡ old.send.queue
  pub tx_free : new.sent.queue ≡ old.sent.queue
  pub stock : SameStock old.stock new.stock
  pub spare : SameStock old.outbox.stock new.outbox.stock
  pub program : new.program ≡ old.program

-- a client in its start state
pub record IsNewClient (program : NetProgram) (mac : Mac)
    (rx_active rx_free tx_active tx_free : QueueId) (pages spare : List Paged)
    (script : List (List ℕ)) (c : NetClient) : Type 0 where
  pub frames : IsNewPipe rx_active rx_free c.frames.pipe
  pub sent : c.sent ≡ record { queue = tx_free; state = start_state Forward }
  pub send : c.send ≡ record { queue = tx_active; state = start_state Backward }
  pub got : c.frames.tape.shown ≡ []
  pub is_start : IsStart c.stock pages
  pub base : c.stock.base ≡ 0
  pub stock : stock_list c.stock ≡ map (given_entry 0 c.stock.size) pages
  pub ready : IsStock c.stock
  pub outbox : IsNewOutbox spare c.outbox
  pub program_is : c.program ≡ record { kind = program; mac = mac; script = script }
  pub last : c.turn.last ≡ 65535

-- something is to be put to the queue of free buffers
abbrev pub is_giving : NetClient → Bool
is_giving c = is_some c.stock.next || is_some c.frames.pipe.load

-- it is an echo with a frame that isn't answered yet
abbrev pub is_answering : NetClient → Bool
is_answering c =
    is_echo c.program.kind && not (is_through c.outbox (length (client_frames c)))

-- it needs a frame: it holds none, and none that it has yet to answer
abbrev pub needs_frame : NetClient → Bool
needs_frame c = is_none c.frames.pipe.load && not (is_answering c)

-- its ends: it needs a frame while it holds none, and owes what it has yet to put; it needs a
-- buffer where it has none for a frame that is to be sent, and owes what it has for one
abbrev pub client_round : NetClient → Round
client_round c = record {
  posts = intake_post c.frames.pipe.input ∷ outlet_post c.frames.pipe.output
      ∷ intake_post c.sent ∷ outlet_post c.send ∷ [];
  needs = needs_frame c ∷ is_giving c ∷ needs_buffer c.outbox (length (client_frames c))
      ∷ is_sending c.outbox (length (client_frames c)) ∷ [];
  last = c.turn.last;
}

-- the bodies in its hand: what it has yet to put, and the buffers in which it sends
abbrev pub client_hand : NetClient → List Body
client_hand c = bodies_of (client_owes c) ++ outbox_hand c.outbox

-- of each pool: what it had at the start, and what came, is what went, and what is in its hand
pub record ClientBalances (c : NetClient) (passed : Passed) : Type 0 where
  pub start : List Paged
  pub is_start : IsStart c.stock start
  pub spare : List Paged
  pub is_spare : IsStart c.outbox.stock spare
  pub balances : Balances (page_bodies start ++ page_bodies spare)
      (bodies_at passed.taken (rx_active c ∷ tx_free c ∷ [])) (bodies_at passed.sent (rx_free c
      ∷ tx_active c ∷ [])) (client_hand c) []

-- the same without the last looks
abbrev pub client_forgotten : NetClient → NetClient
client_forgotten c = record c {
  frames = record c.frames {
    pipe = record c.frames.pipe {
      input = record c.frames.pipe.input {
        state = record c.frames.pipe.input.state { look = None };
      };
      output = record c.frames.pipe.output {
        state = record c.frames.pipe.output.state { look = None };
      };
    };
  };
  sent = record c.sent { state = record c.sent.state { look = None } };
  send = record c.send { state = record c.send.state { look = None } };
}
