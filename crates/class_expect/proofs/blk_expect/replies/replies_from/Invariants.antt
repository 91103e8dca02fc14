use Rattle.std.proofs.Common.{◌≡◌, ◌++◌, drop}
use Rattle.class_expect.specs.BlkExpect.Replies.{HasBytes, replies_from}
use Rattle.class_expect.proofs.blk_expect.replies.replies_from.Given as goal

abbrev pub invariant-loop-k : goal.invariant-loop-k
invariant-loop-k l = record {
  replied : l.replies.items ++ replies_from l.part l.bytes l.k (drop l.k l.asks) ≡ replies_from l.fn.part l.fn.bytes 0 l.asks;
  size : HasBytes l.part l.bytes;
}
