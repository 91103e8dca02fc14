use Rattle.std.proofs.Common.{ℕ, map, subst, sym, inl, inr, ⊎_elim, ◌<◌, refl}
use Rattle.sdf_plan.specs.declared.place.Place.TheVariants as At
use Rattle.sdf_check.specs.Rules.{MeetsGivenRange, MeetsEarlier, given_range}
use Rattle.sdf_check.specs.Priors.{OrPrior}
use Rattle.sdf_check.proofs.SoughtLemmas.{reach-complete, reach-sound}
use Rattle.sdf_check.proofs.sought.meets_given_range.Goals as goal

pub returns-in-Region-clause-complete : goal.returns-in-Region-clause-complete
returns-in-Region-clause-complete c = λ m.
    c.is_reached.ensures.1 (reach-complete (map given_range c.args.judge.now.plan.now.memory_region) c.args.tables.now.given c.in-Region.r c.requires.given
    (subst (MeetsGivenRange c.args.judge.now.plan.now) c.in-Region.is m))

pub returns-in-Region-clause-sound : goal.returns-in-Region-clause-sound
returns-in-Region-clause-sound c = λ t.
    subst (OrPrior (MeetsGivenRange c.args.judge.now.plan.now)) (sym c.in-Region.is)
    (⊎_elim (λ (h : MeetsEarlier (map given_range c.args.judge.now.plan.now.memory_region) c.in-Region.r). inl h)
    (λ (h : (f : ℕ) × (f < c.in-Region.r) × MeetsEarlier (map given_range c.args.judge.now.plan.now.memory_region) f). inr (At.Region h.0, (h.0, h.1, refl), h.2))
    (reach-sound (map given_range c.args.judge.now.plan.now.memory_region) c.args.tables.now.given c.in-Region.r c.requires.given (c.is_reached.ensures.0 t)))
