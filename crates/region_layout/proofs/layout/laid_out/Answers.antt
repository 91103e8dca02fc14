use Rattle.std.proofs.Common.{refl}
use Rattle.region_layout.specs.Layouts.{layout_of}
use Rattle.region_layout.proofs.NameLemmas.{few_actors}
use Rattle.region_layout.proofs.DisjointLemmas.{are_disjoint}
use Rattle.region_layout.proofs.SmallLemmas.{small_elements}
use Rattle.region_layout.proofs.layout.laid_out.Goals as goal

pub returns-clause-layout : goal.returns-clause-layout
unfolding layout_of
returns-clause-layout c = rw (c.in_ok-bases.ensures, c.as_slice.ensures, c.in_ok-queues.ensures, c.in_ok-pools.ensures, c.in_ok-actors.ensures) refl

pub returns-clause-disjoint : goal.returns-clause-disjoint
returns-clause-disjoint c = rw (c.in_ok-bases.ensures, c.as_slice.ensures) (are_disjoint c.args.plan.now.memory_region c.requires.small.regions c.requires.apart)

pub invariant_of-names : goal.invariant_of-names
invariant_of-names c = record {
  all_actors = c.in_ok-actors.ensures;
  all_bases = rw c.as_slice.ensures at c.in_ok-bases.ensures;
  few_actors = rw c.in_ok-actors.ensures (few_actors c.args.plan.now c.requires.small.domains);
  few_regions = c.requires.small.regions.few;
}

pub queues_of-requires-clause-small : goal.queues_of-requires-clause-small
queues_of-requires-clause-small c = small_elements c.args.plan.now c.requires.small

pub pools_of-requires-clause-small : goal.pools_of-requires-clause-small
pools_of-requires-clause-small c = small_elements c.args.plan.now c.requires.small
