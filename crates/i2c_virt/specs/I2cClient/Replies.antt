-- A client's record of replies.
use Rattle.std.specs.Prelude.{ℕ, List}
use Rattle.i2c_text.specs.declared.report.BusReply.{BusReply}

-- the replies, for how many more the memory is taken, and how many bytes the next one may have
pub record Replied : Type 0 where
  pub shown : List BusReply
  pub places : ℕ
  pub bytes : ℕ
