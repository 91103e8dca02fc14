use Rattle.sdf_plan.specs.declared.plan.Domain.{Domain}
use Rattle.sdf_check.proofs.NameLemmas.{names-step}
use Rattle.sdf_check.proofs.names.domains_by_name.Goals as goal

pub loop-at-preserved : goal.loop-at-preserved
loop-at-preserved c =
    names-step (λ (x : Domain). x.name) c.args.domains.now c.loop-at.at c.index-domains-at.result c.as_str.result.now c.loop-at.places c.note.new.places
    c.loop-at-test.true c.index-domains-at.is c.as_str.ensures c.loop-at.invariant c.in_ok-note.ensures
