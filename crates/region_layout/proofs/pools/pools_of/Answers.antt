use Rattle.std.proofs.Common.{◌≡◌, ◌<◌, ◌≤◌, length, sym, ◌∙◌, arith}
use Rattle.region_layout.specs.Rows.{pools_of, pool_rows}
use Rattle.region_layout.proofs.RowLemmas.{rows-of-table, small-pools}
use Rattle.region_layout.proofs.pools.pools_of.Goals as goal

pub add_element-requires : goal.add_element-requires
add_element-requires c =
    let items = c.in_ok-elements.elements.items in
    let less : c.loop-at.at < length items = omega (arith, c.loop-at-test.true, c.len-at-end.ensures, c.in_ok-elements.elements.ok.0) in
    small-pools items _ (c.in_ok-elements.ensures c.args.names.now.plan.now c.requires.table) c.requires.small c.loop-at.at c.index.result.now less c.index.ensures

pub returns : goal.returns
unfolding pools_of
returns c =
    let items = c.in_ok-elements.elements.items in
    let past : length items ≤ c.loop-at.at = omega (arith, c.loop-at-test.false, c.len-at-end.ensures, c.in_ok-elements.elements.ok.0) in
    rows-of-table (pool_rows c.args.names.now.plan.now) items c.loop-at.at _ _ past (c.in_ok-elements.ensures c.args.names.now.plan.now c.requires.table) c.loop-at.invariant
