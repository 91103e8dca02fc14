use Rattle.std.proofs.Common.{◌≡◌, ◌++◌, drop}
use Rattle.pictures.specs.LayoutView.LayoutPicture.Names.{name_at}
use Rattle.pictures.specs.LayoutView.LayoutPicture.Cards.{draw_each}
use Rattle.pictures.specs.LayoutView.LayoutPicture.Graph.{pool_edge}
use Rattle.pictures.proofs.layout_view.layout_picture.graph.push_pools.Given as goal

abbrev pub invariant-loop-k : goal.invariant-loop-k
invariant-loop-k l =
    l.to ++ draw_each (λ k pool. pool_edge l.regions (name_at l.owners k) pool) l.k (drop l.k l.pools)
    ≡ l.initial.to ++ draw_each (λ k pool. pool_edge l.regions (name_at l.owners k) pool) 0 l.pools
