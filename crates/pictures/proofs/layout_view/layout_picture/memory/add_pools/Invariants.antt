use Rattle.std.proofs.Common.{◌≡◌, ◌++◌, drop}
use Rattle.pictures.specs.LayoutView.LayoutPicture.Names.{name_at}
use Rattle.pictures.specs.LayoutView.LayoutPicture.Cards.{draw_each}
use Rattle.pictures.specs.LayoutView.LayoutPicture.Memory.{pool_shapes}
use Rattle.pictures.proofs.layout_view.layout_picture.memory.add_pools.Given as goal

-- what was drawn and what is left is the whole
abbrev pub invariant-loop-k : goal.invariant-loop-k
invariant-loop-k l =
    l.shapes ++ draw_each (λ k pool. pool_shapes l.grid l.scale l.cards (name_at l.owners k) pool) l.k (drop l.k l.pools)
    ≡ l.initial.shapes ++ draw_each (λ k pool. pool_shapes l.grid l.scale l.cards (name_at l.owners k) pool) 0 l.pools
