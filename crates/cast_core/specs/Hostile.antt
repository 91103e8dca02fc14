-- What a plan's hostile clients are made of: at the queues of a client of their class, with the
-- buffers of its pools, and with the acts that a trace has for them.
use Rattle.std.specs.Prelude.{◌≡◌, ◌+◌, ◌*◌, ◌≤◌, ℕ, List, [], ◌∷◌, ◌++◌, All, length}
use Rattle.std.specs.Prelude.{false, slice_get, unwrap_or}
use Rattle.cargo_core.specs.declared.act.Act.{Act}
use Rattle.cargo_core.specs.declared.item.QueueKind.{QueueKind}
use Rattle.cargo_core.specs.declared.item.QueueKind.TheVariants as Kind
use Rattle.sdf_plan.specs.declared.plan.Plan.{Plan}
use Rattle.trace_text.specs.declared.class.Class.{Class}
use Rattle.trace_text.specs.Events.{is_net_rogue, is_serial_rogue, is_blk_rogue}
use Rattle.trace_text.specs.Shapes.{IsActOn}
use Rattle.trace_text.specs.Traces.{per_client}
use Rattle.net_law.specs.Parts.Numbers.{client_first}
use Rattle.net_law.specs.Owners.Names.{ClientPools}
use Rattle.owner_law.specs.Pools.Places.{PoolAt}
use Rattle.actor_set.specs.Parts.{PageAt, RoguePart}

-- the buffers of a pool, in their order
abbrev pub pool_pages : PoolAt → List PageAt
pool_pages p =
    per_client p.buffers (λ k. record { pool = p.number; number = k; long = p.size })

-- a hostile client that puts entries of a kind, with all its acts before it
abbrev pub rogue_with : QueueKind → (inputs outputs : List ℕ) → List PageAt → List Act → RoguePart
rogue_with kind inputs outputs pages acts = record {
  kind = kind;
  inputs = inputs;
  outputs = outputs;
  start = record { acts = acts; looked = false; kept = length pages };
  pages = pages;
}

-- the hostile network client of a number: it takes received frames and the buffers that come back,
-- and puts free buffers and frames to send; its pages are those for receiving first
abbrev pub net_rogue_at : (first c : ℕ) → ClientPools → List Act → RoguePart
net_rogue_at first c pools acts = rogue_with Kind.Net
    ((client_first first c + 2) ∷ (client_first first c + 5) ∷ [])
    ((client_first first c + 3) ∷ (client_first first c + 4) ∷ [])
    (pool_pages pools.rx ++ pool_pages pools.tx) acts

-- the hostile serial client of a number, where the class begins at this queue: it has no pages
abbrev pub serial_rogue_at : (first c : ℕ) → List Act → RoguePart
serial_rogue_at first c acts =
    rogue_with Kind.Byte ((first + 4 + 2 * c) ∷ []) ((first + 5 + 2 * c) ∷ []) [] acts

-- the hostile block client of a number, where the class begins at this queue: it takes responses
-- and puts requests
abbrev pub blk_rogue_at : (first c : ℕ) → PoolAt → List Act → RoguePart
blk_rogue_at first c pool acts =
    rogue_with Kind.Req ((first + 5 + 2 * c) ∷ []) ((first + 4 + 2 * c) ∷ []) (pool_pages pool)
    acts

-- the acts of the client of a number
abbrev pub acts_at : List (List Act) → ℕ → List Act
acts_at acts c = unwrap_or (slice_get acts c) []

-- of the clients of a class: each has few acts, and these are at queues such as a client of the
-- class has
pub record HasActs (class : Class) (acts : List (List Act)) (clients : ℕ) : Type 0 where
  pub count : length acts ≡ clients
  pub few : All (λ own. length own ≤ 1024) acts
  pub on : All (All (IsActOn class)) acts

-- a plan has no hostile client
pub record HasNoRogue (plan : Plan) : Type 0 where
  pub net : (c : ℕ) → is_net_rogue plan c ≡ false
  pub serial : (c : ℕ) → is_serial_rogue plan c ≡ false
  pub blk : (c : ℕ) → is_blk_rogue plan c ≡ false
