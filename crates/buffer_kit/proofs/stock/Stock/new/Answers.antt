use Rattle.std.proofs.Common.{◌<◌, length, subst, ◌∙◌, sym}
use Rattle.buffer_kit.proofs.Addresses.{addressed}
use Rattle.buffer_kit.proofs.stock.Stock.new.Goals as goal

pub refill-requires-clause-addresses : goal.refill-requires-clause-addresses
refill-requires-clause-addresses c =
    let h = c.described-size.ensures.kind c.args.base c.requires.0 c.requires.1 c.requires.2 in
    λ k d within. rw c.reverse.ensures.items (addressed c.args.base c.described-size.result.1 c.described-size.result.0 c.args.pages.items h k d (subst (λ xs. k < length xs) c.reverse.ensures.items within))

pub returns-clause-start : goal.returns-clause-start
returns-clause-start c = let same = c.refill.ensures.same in record {
  are_pool = rw (same.base, same.same_pool, same.size) (c.described-size.ensures.kind c.args.base c.requires.0 c.requires.1 c.requires.2);
  many = sym (same.buffers ∙ c.described-size.ensures.many);
}
