-- The numbers for which the rows of the table of classes have room.
use Rattle.std.specs.Prelude.{ℕ, ◌^◌, ◌<◌, All}
use Rattle.sdf_plan.specs.declared.class_table.uses.QueueUse.{QueueUse}
use Rattle.sdf_plan.specs.declared.class_table.uses.PoolUse.{PoolUse}
use Rattle.sdf_plan.specs.declared.class_table.uses.ClassElement.{ClassElement}

-- a queue whose capacity has 32 bits
abbrev pub IsSmallQueue : {T : Type 0} → QueueUse T → Type 0
IsSmallQueue q = q.capacity < 2 ^ 32

-- a pool whose number of buffers, and whose size, have 32 bits
abbrev pub IsSmallPool : {T : Type 0} → PoolUse T → Type 0
IsSmallPool p = (p.buffers < 2 ^ 32) × (p.size < 2 ^ 32)

-- an element all of whose queues and pools have numbers of 32 bits
abbrev pub IsSmallElement : {T : Type 0} → ClassElement T → Type 0
IsSmallElement e = All IsSmallQueue e.queues × All IsSmallPool e.pools
