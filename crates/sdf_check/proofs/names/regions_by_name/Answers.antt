use Rattle.sdf_plan.specs.declared.plan.Region.{Region}
use Rattle.sdf_check.proofs.NameLemmas.{names-step}
use Rattle.sdf_check.proofs.names.regions_by_name.Goals as goal

pub loop-at-preserved : goal.loop-at-preserved
loop-at-preserved c =
    names-step (λ (x : Region). x.name) c.args.regions.now c.loop-at.at c.index-regions-at.result c.as_str.result.now c.loop-at.places c.note.new.places
    c.loop-at-test.true c.index-regions-at.is c.as_str.ensures c.loop-at.invariant c.in_ok-note.ensures
