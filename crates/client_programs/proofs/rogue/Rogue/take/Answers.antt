use Rattle.std.proofs.Common.{rules, refl}
use Rattle.cargo_core.specs.declared.act.Act.TheVariants as Acts
use Rattle.client_programs.proofs.RogueLemmas.Stepping.{take_steps, look_at, named_at, input_allows, room_at}
use Rattle.client_programs.proofs.rogue.Rogue.take.Goals as goal

pub take-item-requires : goal.take-item-requires
take-item-requires g c = input_allows (g.W.Wires.ends c.args.wires.now) c.args.self.now c.args.end c.queue-queue.result.0 c.requires.fits (named_at _ c.args.self.now c.args.place (Acts.Take c.args.end) c.requires.fits c.requires.at) c.queue-queue.ensures (look_at _ c.args.self.now c.args.place (Acts.Take c.args.end) c.requires.fits c.requires.at c.requires.used)

pub unwrap-requires : goal.unwrap-requires
unwrap-requires g c = c.push.ensures.succeeds (room_at _ c.args.self.now c.args.place c.args.end c.requires.fits c.requires.at)

pub returns : goal.returns
returns g c =
    take_steps g.W.Wires.ends g.W.Wires.did c.args.wires.now c.take-item.new.self c.args.self.now c.args.place c.args.end c.requires.fits c.requires.at
    c.take-item.result c.queue-queue.result _ c.requires.used c.queue-queue.ensures c.take-item.ensures.did c.take-item.ensures.ends
    (record { kind = refl; inputs = refl; outputs = refl; acts = refl; first = refl; had = refl; start = refl }) refl refl (search rules) (search rules) c.push.ensures.capacity
