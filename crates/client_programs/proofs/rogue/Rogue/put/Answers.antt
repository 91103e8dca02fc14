use Rattle.std.proofs.Common.{Some, refl, sym, ap, ◌∙◌, arith}
use Rattle.cargo_core.specs.declared.item.Body.TheVariants as Carried
use Rattle.cargo_core.specs.Items.{kind_of}
use Rattle.cargo_core.specs.declared.act.Act.TheVariants as Acts
use Rattle.client_programs.proofs.RogueLemmas.Stepping.{put_steps, look_at, named_at, output_allows, output_kind, kind_sent}
use Rattle.client_programs.proofs.rogue.Rogue.put.Goals as goal

pub put-requires-clause-may : goal.put-requires-clause-may
put-requires-clause-may g c =
    let n = named_at _ c.args.self.now c.args.place (Acts.Put c.args.end c.args.addr c.args.length) c.requires.fits c.requires.at in
    output_allows (g.W.Wires.ends c.args.wires.now) c.args.self.now c.args.end c.queue-queue.result.0 c.requires.fits n.0 n.1 c.queue-queue.ensures (look_at _ c.args.self.now c.args.place (Acts.Put c.args.end c.args.addr c.args.length) c.requires.fits c.requires.at c.requires.used)

pub put-requires-clause-kind : goal.put-requires-clause-kind
put-requires-clause-kind g c =
    let n = named_at _ c.args.self.now c.args.place (Acts.Put c.args.end c.args.addr c.args.length) c.requires.fits c.requires.at in
    ap kind_of c.item_for-item.ensures ∙ (kind_sent c.args.self.now.kind c.args.addr c.args.length c.requires.fits.is.kind ∙ sym (output_kind (g.W.Wires.ends c.args.wires.now) c.args.self.now c.args.end c.queue-queue.result.0 c.requires.fits n.0 n.1 c.queue-queue.ensures))

pub returns : goal.returns
returns g c =
    let x = Acts.Put c.args.end c.args.addr c.args.length in
    put_steps g.W.Wires.ends g.W.Wires.did c.args.wires.now c.put.new.self c.args.self.now c.args.place x c.requires.fits c.requires.at
    (c.item_for-item.result, Carried.Empty) c.queue-queue.result _ c.requires.used c.queue-queue.ensures refl (named_at _ c.args.self.now c.args.place x c.requires.fits c.requires.at) (ap Some c.item_for-item.ensures)
    c.put.ensures.did c.put.ensures.ends (record { kind = refl; inputs = refl; outputs = refl; acts = refl; first = refl; had = refl; start = refl }) refl refl (λ f. omega arith) (omega arith) (omega arith) refl (omega arith) (refl, refl)
