use Rattle.std.proofs.Common.{ap, ◌∙◌}
use Rattle.buffer_kit.specs.declared.virt_ends.VirtEnds.{VirtEnds}
use Rattle.turn_kit.specs.Turns.{Choosing, chosen_place, last_after}
use Rattle.i2c_virt.proofs.Lowest.{choice_rest}
use Rattle.i2c_virt.proofs.virtualiser.I2cVirt.choose_next.Goals as goal

pub returns-clause-place : goal.returns-clause-place
returns-clause-place c = c.choose.ensures.place ∙ ap chosen_place (choice_rest c.args.self.now c.requires.rests)

pub returns-clause-after : goal.returns-clause-after
returns-clause-after c =
    let v = c.args.self.now in
    ap (λ (x : VirtEnds). record v { ends = x }) c.choose.ensures.after ∙ ap (λ (x : Choosing). record v { ends = record v.ends { turn = record { last = last_after x } } }) (choice_rest v c.requires.rests)
