use Rattle.std.proofs.Common.{drop, ◌≡◌, ◌+◌, true, refl, sym, ap, ◌∙◌, subst}
use Rattle.wire_core.specs.declared.names.Op.TheVariants as Do
use Rattle.wire_core.specs.Ends.{Producer}
use Rattle.client_programs.specs.Rogue.Clients.{ends_of}
use Rattle.client_programs.specs.Rogue.Acts.{queue_of}
use Rattle.client_programs.proofs.RogueLemmas.Stepping.{look_steps, room_looked, putting_end, putting_op, putting_plan, putting_look}
use Rattle.client_programs.proofs.rogue.Rogue.room.Goals as goal

pub returns : goal.returns
returns g c =
    let x = c.requires.at.act in
    let p = c.requires.at.puts in
    rw c.answer_of.ensures (look_steps g.W.Wires.ends g.W.Wires.did c.args.wires.now c.room-open.new.self c.args.self.now c.args.place x c.requires.fits c.requires.at.at
    Do.Room c.room-open.result c.queue-queue.result _ c.requires.fresh (c.queue-queue.ensures ∙ ap (queue_of (ends_of c.args.self.now)) (sym (putting_end x c.args.end p))) (putting_op x c.args.end p) tt (λ y. refl) (λ y. refl) c.room-open.ensures.did c.room-open.ensures.ends
    (record { kind = refl; inputs = refl; outputs = refl; acts = refl; first = refl; had = refl; start = refl }) refl refl c.place_after-self.ensures (putting_plan x c.args.end p _ _)
    (λ e. putting_look (g.W.Wires.ends c.room-open.new.self) (ends_of c.args.self.now) x c.args.end (drop (c.args.place + 1) c.args.self.now.acts.items) p (subst (λ n. (g.W.Wires.ends c.room-open.new.self Producer n).looked ≡ true) c.queue-queue.ensures (room_looked _ _ c.queue-queue.result c.room-open.result c.room-open.ensures.ends e))))
