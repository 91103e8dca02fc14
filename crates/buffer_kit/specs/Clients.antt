-- What virtualisers keep of their clients, whatever their class.
use Rattle.std.specs.Prelude.{◌-◌, ◌^◌, ◌==◌, ◌++◌, ℕ, Bool, false, min, Option, Some, None, List}
use Rattle.std.specs.Prelude.{slice_index_or}
use Rattle.cargo_core.specs.declared.item.PoolId.{PoolId}
use Rattle.cargo_core.specs.Bodies.{buffers_of}
use Rattle.wire_core.specs.declared.names.QueueId.{QueueId}
use Rattle.wire_core.specs.Deeds.{Cargo}
use Rattle.wire_core.specs.Lists.{if_there}
use Rattle.turn_kit.specs.Hands.{bodies_of}

-- a count of 64 bits, which stands still at its end
abbrev pub capped : ℕ → ℕ
capped n = min n (2 ^ 64 - 1)

-- how many buffers of a pool entries carry
abbrev pub carried : PoolId → List Cargo → ℕ
carried pool cs = buffers_of pool (bodies_of cs)

-- the queue at a place
abbrev pub queue_at : List QueueId → ℕ → ℕ
queue_at qs k = (slice_index_or qs k (record { 0 = 0 })).0

-- the same lists, with these more at place k
abbrev pub with_more : (ℕ → List Cargo) → ℕ → List Cargo → ℕ → List Cargo
with_more lists k more j = lists j ++ if_there (k == j) more

-- a client is there, and so
abbrev pub is_so : {C : Type 0} → (C → Bool) → Option C → Bool
is_so p None = false
is_so p (Some c) = p c

-- the entry that a client has, if it is there
abbrev pub entry_in : {C : Type 0} → (C → Option Cargo) → Option C → Option Cargo
entry_in f None = None
entry_in f (Some c) = f c
