use Rattle.std.proofs.Common.{◌≡◌, true, refl, subst}
use Rattle.wire_core.specs.declared.names.Op.TheVariants as Do
use Rattle.wire_core.specs.Ends.{Consumer}
use Rattle.cargo_core.specs.declared.act.Act.TheVariants as Acts
use Rattle.client_programs.proofs.RogueLemmas.Stepping.{look_steps, see_looked}
use Rattle.client_programs.proofs.rogue.Rogue.see.Goals as goal

pub returns : goal.returns
returns g c =
    rw c.answer_of.ensures (look_steps g.W.Wires.ends g.W.Wires.did c.args.wires.now c.see-filled.new.self c.args.self.now c.args.place (Acts.Take c.args.end) c.requires.fits c.requires.at
    Do.See c.see-filled.result c.queue-queue.result _ c.requires.fresh c.queue-queue.ensures refl tt (λ x. refl) (λ x. refl) c.see-filled.ensures.did c.see-filled.ensures.ends
    (record { kind = refl; inputs = refl; outputs = refl; acts = refl; first = refl; had = refl; start = refl }) refl refl c.place_after-self.ensures (λ a. refl)
    (λ e. subst (λ n. (g.W.Wires.ends c.see-filled.new.self Consumer n).looked ≡ true) c.queue-queue.ensures (see_looked _ _ c.queue-queue.result c.see-filled.result c.see-filled.ensures.ends e)))
