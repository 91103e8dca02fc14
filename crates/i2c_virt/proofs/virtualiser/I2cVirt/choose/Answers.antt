use Rattle.std.proofs.Common.{is_none, sym, ap, ◌∙◌}
use Rattle.turn_kit.proofs.Unsettled.{first_chosen, last_stays, first_within}
use Rattle.i2c_virt.specs.Virtualising.{i2c_virt_round}
use Rattle.i2c_virt.proofs.Lowest.{within_ends, rest_is}
use Rattle.i2c_virt.proofs.virtualiser.I2cVirt.choose.Goals as goal

pub end_at-requires-clause-within : goal.end_at-requires-clause-within
end_at-requires-clause-within c = within_ends c.args.self.now.ends c.in-Some.end.place (first_within (i2c_virt_round c.args.self.now) c.in-Some.end (sym (c.in-Some.ensures ∙ c.requires.knows.is)))

pub choose_next-requires-clause-rests : goal.choose_next-requires-clause-rests
choose_next-requires-clause-rests c =
    let r = i2c_virt_round c.args.self.now in
    rest_is 0 r.posts r.needs ∙ ap is_none (sym (c.in-None.ensures ∙ c.requires.knows.is))

pub returns-in-Some-clause-place : goal.returns-in-Some-clause-place
returns-in-Some-clause-place c = c.end_at.ensures.place ∙ first_chosen (i2c_virt_round c.args.self.now) c.in-Some.end (sym (c.in-Some.ensures ∙ c.requires.knows.is))

pub returns-in-Some-clause-after : goal.returns-in-Some-clause-after
returns-in-Some-clause-after c =
    let v = c.args.self.now in
    ap (λ n. record v { ends = record v.ends { turn = record { last = n } } }) (last_stays (i2c_virt_round v) c.in-Some.end (sym (c.in-Some.ensures ∙ c.requires.knows.is)))
