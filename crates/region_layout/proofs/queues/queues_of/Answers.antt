use Rattle.std.proofs.Common.{◌≡◌, ◌<◌, ◌≤◌, length, sym, ◌∙◌, arith}
use Rattle.region_layout.specs.Rows.{queues_of, queue_rows}
use Rattle.region_layout.proofs.RowLemmas.{rows-of-table, small-queues}
use Rattle.region_layout.proofs.queues.queues_of.Goals as goal

pub add_element-requires : goal.add_element-requires
add_element-requires c =
    let items = c.in_ok-elements.elements.items in
    let less : c.loop-at.at < length items = omega (arith, c.loop-at-test.true, c.len-at-end.ensures, c.in_ok-elements.elements.ok.0) in
    small-queues items _ (c.in_ok-elements.ensures c.args.names.now.plan.now c.requires.table) c.requires.small c.loop-at.at c.index.result.now less c.index.ensures

pub returns : goal.returns
unfolding queues_of
returns c =
    let items = c.in_ok-elements.elements.items in
    let past : length items ≤ c.loop-at.at = omega (arith, c.loop-at-test.false, c.len-at-end.ensures, c.in_ok-elements.elements.ok.0) in
    rows-of-table (queue_rows c.args.names.now.plan.now) items c.loop-at.at _ _ past (c.in_ok-elements.ensures c.args.names.now.plan.now c.requires.table) c.loop-at.invariant
