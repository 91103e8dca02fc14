use Rattle.std.proofs.Common.{rules, drop, vec_len, Some, length, ◌≡◌, ◌<◌, ◌+◌, refl, sym, ap, ◌∙◌, arith}
use Rattle.std.proofs.lemmas.Bool.{ltb-true}
use Rattle.std.proofs.lemmas.Option.{slice_get-get_or}
use Rattle.cargo_core.specs.Items.{kind_of}
use Rattle.cargo_core.specs.declared.act.Act.TheVariants as Acts
use Rattle.client_programs.proofs.RogueLemmas.Counting.{given_weight}
use Rattle.client_programs.proofs.RogueLemmas.Stepping.{put_steps, look_at, calls_at, named_at, output_allows, output_kind, kind_sent, given_plan}
use Rattle.client_programs.proofs.rogue.Rogue.give.Goals as goal

pub remove-body-requires : goal.remove-body-requires
remove-body-requires g c =
    let p : c.args.at < length c.args.self.now.kept.items = ltb-true c.args.at (length c.args.self.now.kept.items) (calls_at (g.W.Wires.ends c.args.wires.now) c.args.self.now c.args.place (Acts.Give c.args.end c.args.at c.args.addr c.args.length) c.requires.fits c.requires.at) in
    let l : length c.args.self.now.kept.items ≡ vec_len c.args.self.now.kept = search rules in
    omega (arith, p, l)

pub put-requires-clause-may : goal.put-requires-clause-may
put-requires-clause-may g c =
    let x = Acts.Give c.args.end c.args.at c.args.addr c.args.length in
    let n = named_at _ c.args.self.now c.args.place x c.requires.fits c.requires.at in
    output_allows (g.W.Wires.ends c.args.wires.now) c.args.self.now c.args.end c.queue-queue.result.0 c.requires.fits n.0 n.1 c.queue-queue.ensures (look_at _ c.args.self.now c.args.place x c.requires.fits c.requires.at c.requires.used)

pub put-requires-clause-kind : goal.put-requires-clause-kind
put-requires-clause-kind g c =
    let n = named_at _ c.args.self.now c.args.place (Acts.Give c.args.end c.args.at c.args.addr c.args.length) c.requires.fits c.requires.at in
    ap kind_of c.item_for-item.ensures ∙ (kind_sent c.args.self.now.kind c.args.addr c.args.length c.requires.fits.is.kind ∙ sym (output_kind (g.W.Wires.ends c.args.wires.now) c.args.self.now c.args.end c.queue-queue.result.0 c.requires.fits n.0 n.1 c.queue-queue.ensures))

pub returns : goal.returns
returns g c =
    let x = Acts.Give c.args.end c.args.at c.args.addr c.args.length in
    let p : c.args.at < length c.args.self.now.kept.items = ltb-true c.args.at (length c.args.self.now.kept.items) (calls_at (g.W.Wires.ends c.args.wires.now) c.args.self.now c.args.place x c.requires.fits c.requires.at) in
    put_steps g.W.Wires.ends g.W.Wires.did c.args.wires.now c.put.new.self c.args.self.now c.args.place x c.requires.fits c.requires.at
    (c.item_for-item.result, c.remove-body.result) c.queue-queue.result _ c.requires.used c.queue-queue.ensures refl (named_at _ c.args.self.now c.args.place x c.requires.fits c.requires.at) (ap Some c.item_for-item.ensures)
    c.put.ensures.did c.put.ensures.ends (record { kind = refl; inputs = refl; outputs = refl; acts = refl; first = refl; had = refl; start = refl }) refl refl
    (λ f. given_weight f _ _ c.args.at c.remove-body.result c.remove-body.ensures.value p c.remove-body.ensures.items) (omega (arith, c.remove-body.ensures.len)) (omega (arith, c.remove-body.ensures.capacity)) (given_plan c.args.end c.args.at c.args.addr c.args.length (drop (c.args.place + 1) c.args.self.now.acts.items) c.args.self.now.kept.items _ p c.remove-body.ensures.items) (omega arith)
    (slice_get-get_or c.args.self.now.kept.items c.args.at c.remove-body.result p ∙ ap Some (sym c.remove-body.ensures.value), c.remove-body.ensures.items)
