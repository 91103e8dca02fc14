-- The block client: what it must fit, what it stands for, and its row.
use Rattle.std.specs.Prelude.{◌≡◌, ◌≤◌, ◌&&◌, ◌++◌, ℕ, Bool, is_some, is_none, None, List, [], ◌∷◌}
use Rattle.std.specs.Prelude.{length, option_to_list}
use Rattle.cargo_core.specs.declared.item.Ask.{Ask}
use Rattle.cargo_core.specs.declared.item.Body.{Body}
use Rattle.cargo_core.specs.declared.item.QueueKind.TheVariants as Kind
use Rattle.cargo_core.specs.Lists.{IsPrefix}
use Rattle.cargo_core.specs.Pages.{Paged}
use Rattle.wire_core.specs.declared.names.QueueId.{QueueId}
use Rattle.wire_core.specs.declared.names.Side.TheVariants.{Forward, Backward}
use Rattle.wire_core.specs.Deeds.{Cargo}
use Rattle.wire_core.specs.Lists.{Passed}
use Rattle.wire_core.specs.Ends.{Role, Consumer, Producer, End}
use Rattle.turn_kit.specs.Table.{Agrees, start_state}
use Rattle.turn_kit.specs.Turns.{Round}
use Rattle.turn_kit.specs.Posts.{intake_post, outlet_post}
use Rattle.turn_kit.specs.Hands.{Balances, bodies_of, bodies_at}
use Rattle.buffer_kit.specs.Conserving.{Conserves}
use Rattle.buffer_kit.specs.Pools.{page_bodies}
use Rattle.client_programs.specs.declared.blk.BlkClient.{BlkClient}
use Rattle.client_programs.specs.declared.blk.asking.Asking.{Asking}
use Rattle.client_programs.specs.Blk.Asking.{IsAsking, IsHoard, AskingStands, SameAsking}
use Rattle.client_programs.specs.Blk.Asking.{asked_from, replies_to, pages_in, asking_hand}

-- the queue on which responses come to it
abbrev pub resp_queue : BlkClient → ℕ
resp_queue c = c.responses.queue.0

-- the queue to which it puts its requests
abbrev pub req_queue : BlkClient → ℕ
req_queue c = c.requests.queue.0

-- its ends are its own, and as it keeps them; responses come, and requests go
pub record FitsBlkClient (ends : Role → ℕ → End) (c : BlkClient) : Type 0 where
  pub responses : Agrees (ends Consumer (resp_queue c)) c.responses.state
  pub requests : Agrees (ends Producer (req_queue c)) c.requests.state
  pub comes : (ends Consumer (resp_queue c)).kind ≡ Kind.Resp
  pub goes : (ends Producer (req_queue c)).kind ≡ Kind.Req
  pub asking : IsAsking c.asking

-- what it took is what came in turn and at most one response, which came last and for no request;
-- it asked and recorded by what came in turn; and what it had at the start and what came is, buffer
-- by buffer, what went and what is in its hand
pub record BlkStands (responses requests : ℕ) (w : Asking) (stray : List Cargo)
    (passed : Passed) : Type 0 where
  pub start : List Paged
  pub is_start : IsHoard w start
  pub came : List Cargo
  pub taken : passed.taken responses ≡ came ++ stray
  pub stands : AskingStands w start came (passed.sent requests)
  pub few : length stray ≤ 1
  pub no_request : (stray ≡ [] → ⊥) → length (passed.sent requests) ≤ length came
  pub conserves : Conserves (page_bodies start) (bodies_at passed.taken (responses ∷ []))
      (bodies_at passed.sent (requests ∷ [])) (asking_hand w ++ bodies_of stray) []

-- the same of the client's own queues
abbrev pub BlkClientStandsFor : BlkClient → Passed → Type 0
BlkClientStandsFor c passed =
    BlkStands (resp_queue c) (req_queue c) c.asking (option_to_list c.stray) passed

-- of the responses that it took in turn, which are all but for one that came last and for no
-- request: what it put are its requests in their order, with the numbers 0, 1, 2 and so on, each
-- read and write in a buffer that was in its hand, which are its own in rising number and then
-- those that came; and its replies are the responses in their order
pub record BlkClientRow (c : BlkClient) (passed : Passed) : Type 0 where
  pub start : List Paged
  pub is_start : IsHoard c.asking start
  pub came : List Cargo
  pub stray : List Cargo
  pub taken : passed.taken (resp_queue c) ≡ came ++ stray
  pub few : length stray ≤ 1
  pub out_of_turn : (stray ≡ [] → ⊥) → length (passed.sent (req_queue c)) ≤ length came
  pub asks : IsPrefix (passed.sent (req_queue c))
      (asked_from 0 c.asking.script.items (start ++ pages_in came))
  pub replies : c.asking.kept.shown ≡ replies_to c.asking.script.items came
  pub answered : length came ≤ length (passed.sent (req_queue c))

-- one of its ends
abbrev pub BlkClientEnd : BlkClient → Role → ℕ → Type 0
BlkClientEnd c Consumer n = n ≡ resp_queue c
BlkClientEnd c Producer n = n ≡ req_queue c

-- the queues, the script and the buffers of which it had all at the start stay
pub record SameBlkClient (old new : BlkClient) : Type 0 where
  pub responses : new.responses.queue ≡ old.responses.queue
  pub requests : new.requests.queue ≡ old.requests.queue
  pub asking : SameAsking old.asking new.asking

-- a client in its start state
pub record IsNewBlkClient (req resp : QueueId) (pages : List Paged) (script : List Ask)
    (c : BlkClient) : Type 0 where
  pub responses : c.responses ≡ record { queue = resp; state = start_state Forward }
  pub requests : c.requests ≡ record { queue = req; state = start_state Backward }
  pub script_is : c.asking.script.items ≡ script
  pub is_start : IsHoard c.asking pages
  pub stray : c.stray ≡ None
  pub last : c.turn.last ≡ 65535

-- a request is to be put
abbrev pub is_asking : BlkClient → Bool
is_asking c = is_some c.asking.next && is_none c.stray

-- its ends: it needs responses, and owes a request where it has one that can be put; after a
-- response for no request it needs and owes nothing
abbrev pub blk_client_round : BlkClient → Round
blk_client_round c = record {
  posts = intake_post c.responses ∷ outlet_post c.requests ∷ [];
  needs = is_none c.stray ∷ is_asking c ∷ [];
  last = c.turn.last;
}

-- the bodies in its hand
abbrev pub blk_client_hand : BlkClient → List Body
blk_client_hand c = asking_hand c.asking ++ bodies_of (option_to_list c.stray)

-- of each pool: what it had at the start, and what came, is what went, and what is in its hand
pub record BlkClientBalances (c : BlkClient) (passed : Passed) : Type 0 where
  pub start : List Paged
  pub is_start : IsHoard c.asking start
  pub balances : Balances (page_bodies start) (bodies_at passed.taken (resp_queue c ∷ []))
      (bodies_at passed.sent (req_queue c ∷ [])) (blk_client_hand c) []

-- the same without the last looks
abbrev pub blk_client_forgotten : BlkClient → BlkClient
blk_client_forgotten c = record c {
  responses = record c.responses { state = record c.responses.state { look = None } };
  requests = record c.requests { state = record c.requests.state { look = None } };
}
