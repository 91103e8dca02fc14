-- What a block client keeps of the responses that came: the replies, and the buffers.
use Rattle.std.specs.Prelude.{ℕ, List}
use Rattle.cargo_core.specs.Pages.{Paged}
use Rattle.cargo_core.specs.declared.item.Reply.{Reply}

-- the replies that were recorded, the buffers in hand, the first of them first, for how many more
-- of both the memory is taken, and how many bytes the next reply may have
pub record Kept : Type 0 where
  pub shown : List Reply
  pub pages : List Paged
  pub places : ℕ
  pub bytes : ℕ
