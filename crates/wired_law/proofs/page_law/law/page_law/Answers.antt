use Rattle.std.proofs.Common.{◌≡◌, length, arith}
use Rattle.turn_kit.specs.Hands.{bodies_of}
use Rattle.buffer_kit.specs.Conserving.{of_other_length}
use Rattle.wired_law.specs.PageLaw.Holders.{has, queue_has, standing}
use Rattle.wired_law.proofs.PageLaw.LawLemmas.Lengths.{have_length}
use Rattle.wired_law.proofs.PageLaw.LawLemmas.Summing.{whole}
use Rattle.wired_law.proofs.PageLaw.LawLemmas.Placing.{below_at, below_two, holder_at, holders_at}
use Rattle.wired_law.proofs.page_law.law.page_law.Goals as goal

pub returns-clause-whole : goal.returns-clause-whole
returns-clause-whole c = λ f passed rows holders h. whole f passed rows holders h

pub returns-clause-queues : goal.returns-clause-queues
returns-clause-queues c = λ f passed rows holders h m n lt lt' ne.
    omega (arith, whole f passed rows holders h, below_two (queue_has f passed) (length rows) m n lt lt' ne)

pub returns-clause-queue : goal.returns-clause-queue
returns-clause-queue c = λ f passed rows holders h n k x lt at.
    omega (arith, whole f passed rows holders h, below_at (queue_has f passed) (length rows) n lt, holder_at (has f) holders k x at)

pub returns-clause-hands : goal.returns-clause-hands
returns-clause-hands c = λ f passed rows holders h j k a b at at' ne.
    omega (arith, whole f passed rows holders h, holders_at (has f) holders j k a b at at' ne)

pub returns-clause-lengths : goal.returns-clause-lengths
returns-clause-lengths c = λ pool size passed rows holders h none. (
  λ n lt. have_length pool size (bodies_of (standing passed n)) (omega (arith, none, whole (of_other_length pool size) passed rows holders h, below_at (queue_has (of_other_length pool size) passed) (length rows) n lt)),
  λ k x at.
      let none' : has (of_other_length pool size) x ≡ 0 = omega (arith, none, whole (of_other_length pool size) passed rows holders h, holder_at (has (of_other_length pool size)) holders k x at) in
      (have_length pool size x.hand (omega (arith, none')), have_length pool size x.kept (omega (arith, none'))),
)
