use Rattle.std.proofs.Common.{refl}
use Rattle.client_programs.proofs.RogueLemmas.Stepping.{store_steps}
use Rattle.client_programs.proofs.rogue.Rogue.store.Goals as goal

pub returns : goal.returns
returns g c =
    store_steps g.W.Wires.ends g.W.Wires.did c.args.wires.now c.store.new.self c.args.self.now c.args.place c.args.end c.args.word c.args.value c.requires.fits c.requires.at
    c.queue-queue.result _ c.queue-queue.ensures c.store.ensures.did c.store.ensures.ends (record { kind = refl; inputs = refl; outputs = refl; acts = refl; first = refl; had = refl; start = refl }) refl refl refl
