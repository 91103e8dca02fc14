use Rattle.std.specs.BTreeMap.{get}
use Rattle.sdf_check.specs.Uses.{use_cmp, UsesUpTo}
use Rattle.sdf_check.proofs.uses.uses_of.Given as goal

abbrev pub invariant-loop-number : goal.invariant-loop-number
invariant-loop-number l = UsesUpTo (get use_cmp l.uses) l.fn.plan l.number 0
