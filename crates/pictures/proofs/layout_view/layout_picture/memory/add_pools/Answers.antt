use Rattle.std.proofs.Common.{refl}
use Rattle.std.proofs.lemmas.Option.{slice_get_read}
use Rattle.wire_core.specs.declared.names.PoolRow.{PoolRow}
use Rattle.pictures.specs.LayoutView.LayoutPicture.Names.{name_at}
use Rattle.pictures.specs.LayoutView.LayoutPicture.Memory.{pool_shapes}
use Rattle.pictures.proofs.LayoutView.LayoutPicture.DrawLemmas.{drawn_more}
use Rattle.pictures.proofs.layout_view.layout_picture.memory.add_pools.Goals as goal

pub loop-k-preserved : goal.loop-k-preserved
loop-k-preserved c =
    let there = slice_get_read c.args.pools.now _ c.loop-k.k c.index-pools-k.result refl c.loop-k-test.true c.index-pools-k.is in
    drawn_more (λ k (pool : PoolRow). pool_shapes c.args.grid.now c.args.scale c.args.cards.now (name_at c.args.owners.now k) pool) c.args.pools.now c.loop-k.k c.index-pools-k.result _ _ _ there
    (rw c.name_at.ensures at c.in_ok-add_pool.ensures) c.loop-k.invariant
