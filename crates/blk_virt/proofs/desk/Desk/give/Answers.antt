use Rattle.std.proofs.Common.{[], Option, slice_get, inl, refl, subst}
use Rattle.std.specs.Option.{option_to_list}
use Rattle.std.proofs.lemmas.Option.{slice_get_read, slice_get_within}
use Rattle.wire_core.specs.Deeds.{put_of, Cargo}
use Rattle.buffer_kit.proofs.ManyClients.{so_there}
use Rattle.blk_virt.specs.Clients.{Moved, is_held}
use Rattle.blk_virt.proofs.Desking.{held_load}
use Rattle.blk_virt.proofs.desk.Desk.give.Goals as goal

pub returns-clause-moved : goal.returns-clause-moved
returns-clause-moved g c = λ part.
    let l = so_there is_held (slice_get c.args.self.now.clients.items c.args.place) c.requires.some in
    let at = slice_get_read c.args.self.now.clients.items _ c.args.place c.index_mut-client.result.now refl (slice_get_within c.args.self.now.clients.items c.args.place l.0 l.1) c.index_mut-client.ensures.value in
    record {
      was = c.index_mut-client.result.now;
      now = c.give.new.self;
      there = at;
      clients = refl;
      moved = subst (λ (o : Option Cargo). Moved part c.index_mut-client.result.now c.give.new.self [] [] [] (option_to_list (put_of c.give.result o))) (held_load c.args.self.now c.args.place c.index_mut-client.result.now at) (c.give.ensures.moved part);
      line = inl (refl, c.give.ensures.away);
      room = refl;
    }
