use Rattle.std.proofs.Common.{arith, subst}
use Rattle.net_virt_rx.specs.Receiving.{IsNewRx}
use Rattle.actor_rows.specs.Standings.{queue}
use Rattle.actor_rows.specs.Sizes.{pool}
use Rattle.actor_rows.proofs.Sizing.{moved_pool}
use Rattle.actor_rows.proofs.sizes.lender.Goals as goal

pub new-requires-clause-pool : goal.new-requires-clause-pool
new-requires-clause-pool c = (pool, 16384, moved_pool 268435456 _ (omega arith) c.in_ok-pages.ensures.few c.in_ok-pages.ensures.are_pool)

pub returns : goal.returns
returns c = record {
  mac = _;
  pages = c.in_ok-pages.pages.items;
  new = subst (λ clients. IsNewRx (queue 0) (queue 1) 268435456 clients c.in_ok-pages.pages.items c.in_ok-virt.virt) c.in_ok-clients.ensures.items c.in_ok-virt.ensures.new;
  stands = c.in_ok-virt.ensures.stands;
}
