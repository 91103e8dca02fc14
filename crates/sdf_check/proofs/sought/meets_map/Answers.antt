use Rattle.std.proofs.Common.{ℕ, map, subst, sym, inl, inr, ⊎_elim, ◌<◌, refl}
use Rattle.sdf_plan.specs.declared.place.Place.TheVariants as At
use Rattle.sdf_plan.specs.declared.plan.Domain.{Domain}
use Rattle.sdf_check.specs.Rules.{MeetsMap, MeetsEarlier, map_range}
use Rattle.sdf_check.specs.Meetings.{IsFirstMeeting}
use Rattle.sdf_check.specs.Priors.{OrPrior}
use Rattle.sdf_check.proofs.SoughtLemmas.{reach-complete, reach-sound, some-here, here-some, none-here}
use Rattle.sdf_check.proofs.sought.meets_map.Goals as goal

pub returns-in-Some-at-clause-complete : goal.returns-in-Some-at-clause-complete
returns-in-Some-at-clause-complete c = λ m.
    let first : IsFirstMeeting (map (map_range c.args.judge.now.plan.now) c.in-Some.field-0.now.map) c.in-Some-at.first.now =
    some-here _ c.in-Some-at.first.now (IsFirstMeeting (map (map_range c.args.judge.now.plan.now) c.in-Some.field-0.now.map)) c.in-Some-at.ensures
    (c.requires.maps c.in-Map.d c.in-Some.field-0.now c.in-Some.ensures) in
    let meets : MeetsEarlier (map (map_range c.args.judge.now.plan.now) c.in-Some.field-0.now.map) c.in-Map.m =
    some-here _ c.in-Some.field-0.now (λ (x : Domain). MeetsEarlier (map (map_range c.args.judge.now.plan.now) x.map) c.in-Map.m) c.in-Some.ensures
    (subst (MeetsMap c.args.judge.now.plan.now) c.in-Map.is m) in
    c.is_reached.ensures.1 (reach-complete _ _ _ first meets)

pub returns-in-Some-at-clause-sound : goal.returns-in-Some-at-clause-sound
returns-in-Some-at-clause-sound c = λ t.
    let first : IsFirstMeeting (map (map_range c.args.judge.now.plan.now) c.in-Some.field-0.now.map) c.in-Some-at.first.now =
    some-here _ c.in-Some-at.first.now (IsFirstMeeting (map (map_range c.args.judge.now.plan.now) c.in-Some.field-0.now.map)) c.in-Some-at.ensures
    (c.requires.maps c.in-Map.d c.in-Some.field-0.now c.in-Some.ensures) in
    subst (OrPrior (MeetsMap c.args.judge.now.plan.now)) (sym c.in-Map.is)
    (⊎_elim
    (λ (h : MeetsEarlier (map (map_range c.args.judge.now.plan.now) c.in-Some.field-0.now.map) c.in-Map.m).
    inl (here-some _ c.in-Some.field-0.now (λ (x : Domain). MeetsEarlier (map (map_range c.args.judge.now.plan.now) x.map) c.in-Map.m) c.in-Some.ensures h))
    (λ (h : (f : ℕ) × (f < c.in-Map.m) × MeetsEarlier (map (map_range c.args.judge.now.plan.now) c.in-Some.field-0.now.map) f).
    inr (
      At.Map c.in-Map.d h.0,
      (h.0, h.1, refl),
      here-some _ c.in-Some.field-0.now (λ (x : Domain). MeetsEarlier (map (map_range c.args.judge.now.plan.now) x.map) h.0) c.in-Some.ensures h.2,
    ))
    (reach-sound _ _ _ first (c.is_reached.ensures.0 t)))

pub returns-in-None-at-clause-complete : goal.returns-in-None-at-clause-complete
returns-in-None-at-clause-complete c = λ m.
    absurd (none-here _ _ c.in-None-at.ensures (c.requires.maps c.in-Map.d c.in-Some.field-0.now c.in-Some.ensures))
