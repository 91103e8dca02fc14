-- What the block clients of a plan ask by a trace, and what they must get.
use Rattle.std.specs.Prelude.{ℕ, Option, List, [], slice_get, unwrap_or}
use Rattle.std.specs.Option.{option_map_or}
use Rattle.cargo_core.specs.declared.item.Ask.{Ask}
use Rattle.cargo_core.specs.declared.item.Reply.{Reply}
use Rattle.class_expect.specs.BlkExpect.Replies.{replies_of}
use Rattle.sdf_plan.specs.declared.plan.Plan.{Plan}
use Rattle.sdf_plan.specs.declared.plan.BlkClient.{BlkClient}
use Rattle.trace_text.specs.declared.trace.Trace.{Trace}
use Rattle.trace_text.specs.Events.{blk_clients}

-- the entry in the table of partitions that the block client of a number has
abbrev pub client_entry : Plan → ℕ → ℕ
client_entry plan c =
    option_map_or (λ (client : BlkClient). client.partition) (slice_get (blk_clients plan) c) 0

-- what the block client of a number asks
abbrev pub client_asks : Trace → ℕ → List Ask
client_asks trace c = unwrap_or (slice_get trace.asks c) []

-- what it must get: the replies to its own requests on its own partition
abbrev pub replies_in : Plan → Trace → ℕ → List Reply
replies_in plan trace c = replies_of trace.image (client_entry plan c) (client_asks trace c)
