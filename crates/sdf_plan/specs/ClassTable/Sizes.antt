-- How many bytes the queues and the pools of the table take of their regions.
use Rattle.std.specs.Prelude.{ℕ, ◌+◌, ◌*◌, ◌/◌, Option, Some, None}
use Rattle.cargo_core.specs.declared.item.QueueKind.{QueueKind}
use Rattle.cargo_core.specs.declared.item.QueueKind.TheVariants as Kind
use Rattle.sdf_plan.specs.declared.class_table.uses.QueueUse.{QueueUse}
use Rattle.sdf_plan.specs.declared.class_table.uses.PoolUse.{PoolUse}
use Rattle.sdf_plan.specs.ClassTable.Rows.{Name}

-- the bytes of an entry
abbrev pub entry_size : QueueKind → ℕ
entry_size Kind.Net = 16
entry_size Kind.Byte = 1
entry_size Kind.Req = 32
entry_size Kind.Resp = 16

-- the bytes of a queue: a header of 64, and its entries
abbrev pub queue_size : QueueKind → ℕ → ℕ
queue_size kind capacity = 64 + entry_size kind * capacity

-- where a second queue begins: at the first multiple of 64 behind these bytes
abbrev pub second_offset : ℕ → ℕ
second_offset bytes = (bytes + 63) / 64 * 64

-- where a queue begins in its region: behind one of a kind with as many entries, or at the front
abbrev pub offset_behind : Option QueueKind → ℕ → ℕ
offset_behind None capacity = 0
offset_behind (Some first) capacity = second_offset (queue_size first capacity)

-- where it ends
abbrev pub queue_end : QueueUse Name → ℕ
queue_end q = offset_behind q.behind q.capacity + queue_size q.kind q.capacity

-- the bytes of a pool
abbrev pub pool_bytes : PoolUse Name → ℕ
pool_bytes p = p.size * p.buffers
