use Rattle.std.proofs.Common.{[], None, refl, ap, slice_get, is_none}
use Rattle.std.specs.Option.{option_to_list}
use Rattle.std.proofs.lemmas.Bool.{and_parts}
use Rattle.wire_core.specs.Deeds.{put_of}
use Rattle.buffer_kit.proofs.ManyClients.{so_there}
use Rattle.blk_virt.specs.Clients.{is_held}
use Rattle.blk_virt.specs.Desks.{held_at, loaded_at}
use Rattle.blk_virt.proofs.Answering.{moved_desk, same_holders}
use Rattle.blk_virt.proofs.Sending.{answer_gave, still_work, held_not_away}
use Rattle.blk_virt.proofs.work.Work.give.Goals as goal

pub returns-clause-gave : goal.returns-clause-gave
returns-clause-gave g c =
    let p = and_parts (is_none c.args.self.now.stray) (loaded_at c.args.self.now.desk c.args.place) c.requires.some in
    let l = so_there is_held (slice_get c.args.self.now.desk.clients.items c.args.place) p.1 in
    answer_gave c.args.self.now c.requires.work c.give.new.self c.args.place (option_to_list (put_of c.give.result (held_at c.args.self.now.desk c.args.place))) l.0 l.1 (held_not_away c.args.self.now.desk c.requires.work.desk c.args.place l.0 l.1 l.2) c.give.ensures.moved (ap (λ v. v.shown) c.give.ensures.line)

pub returns-clause-still : goal.returns-clause-still
returns-clause-still g c = λ m. still_work c.args.self.now c.give.new.self c.args.self.now.number (c.give.ensures.still m)

pub returns-clause-work : goal.returns-clause-work
returns-clause-work g c = record {
  desk = moved_desk c.args.self.now.desk c.give.new.self c.requires.work.desk c.args.place None [] [] [] (option_to_list (put_of c.give.result (held_at c.args.self.now.desk c.args.place))) (c.give.ensures.moved None);
  told = c.requires.work.told;
  first = c.requires.work.first;
}

pub returns-clause-kept : goal.returns-clause-kept
returns-clause-kept g c = record {
  clients = same_holders c.args.self.now.desk c.give.new.self c.requires.work.desk c.args.place None [] [] [] (option_to_list (put_of c.give.result (held_at c.args.self.now.desk c.args.place))) (c.give.ensures.moved None);
  own = refl;
  base = refl;
  sectors = refl;
}
