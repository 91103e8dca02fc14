use Rattle.std.proofs.Common.{None, Option, [], slice_get, refl, sym, ap, ◌∙◌}
use Rattle.std.specs.Option.{option_map, option_to_list, is_some}
use Rattle.wire_core.specs.Deeds.{Cargo, put_of}
use Rattle.blk_virt.specs.Requests.{numbered}
use Rattle.blk_virt.specs.Desks.{leaving_in, leaving_at, leaving_with}
use Rattle.blk_virt.proofs.Moving.{there_is}
use Rattle.blk_virt.proofs.Desking.{leaving_there}
use Rattle.blk_virt.proofs.Answering.{moved_desk, same_holders}
use Rattle.blk_virt.proofs.Sending.{request_went, request_stays, still_work, given_some, given_none}
use Rattle.blk_virt.proofs.work.Work.send_request.Goals as goal

pub returns-then-is_some-clause-work : goal.returns-then-is_some-clause-work
returns-then-is_some-clause-work g c = record {
  desk = moved_desk c.args.self.now.desk c.send-event.new.self c.requires.work.desk c.args.place None [] (option_to_list (put_of c.send-event.result (leaving_with c.args.self.now.number c.args.self.now.desk c.args.place))) [] [] (c.send-event.ensures.moved None);
  told = c.requires.work.told;
  first = c.requires.work.first;
}

pub returns-then-is_some-clause-kept : goal.returns-then-is_some-clause-kept
returns-then-is_some-clause-kept g c = record {
  clients = same_holders c.args.self.now.desk c.send-event.new.self c.requires.work.desk c.args.place None [] (option_to_list (put_of c.send-event.result (leaving_with c.args.self.now.number c.args.self.now.desk c.args.place))) [] [] (c.send-event.ensures.moved None);
  own = refl;
  base = refl;
  sectors = refl;
}

pub returns-then-is_some-clause-still : goal.returns-then-is_some-clause-still
returns-then-is_some-clause-still g c = λ m. still_work c.args.self.now c.send-event.new.self _ (c.send-event.ensures.still m)

pub returns-then-is_some-clause-sent : goal.returns-then-is_some-clause-sent
returns-then-is_some-clause-sent g c =
    let l = leaving_there (slice_get c.args.self.now.desk.clients.items c.args.place) c.requires.some in
    let a = there_is (leaving_at c.args.self.now.desk c.args.place) c.requires.some in
    let one = ap option_to_list (given_some c.send-event.result (leaving_with c.args.self.now.number c.args.self.now.desk c.args.place) (sym c.is_some.ensures ∙ c.if-is_some.true)) ∙ ap (λ (o : Option Cargo). option_to_list (option_map (numbered c.args.self.now.number) o)) a.1 in
    request_went c.args.self.now c.requires.work c.requires.open c.send-event.new.self c.args.place l.0 l.1 (sym (ap (λ o. is_some (leaving_in o)) l.1) ∙ c.requires.some) (option_to_list (put_of c.send-event.result (leaving_with c.args.self.now.number c.args.self.now.desk c.args.place))) c.send-event.ensures.moved (numbered c.args.self.now.number a.0) one c.send-event.ensures.sent

pub returns-else-is_some-clause-work : goal.returns-else-is_some-clause-work
returns-else-is_some-clause-work g c = record {
  desk = moved_desk c.args.self.now.desk c.send-event.new.self c.requires.work.desk c.args.place None [] (option_to_list (put_of c.send-event.result (leaving_with c.args.self.now.number c.args.self.now.desk c.args.place))) [] [] (c.send-event.ensures.moved None);
  told = c.requires.work.told;
  first = c.requires.work.first;
}

pub returns-else-is_some-clause-kept : goal.returns-else-is_some-clause-kept
returns-else-is_some-clause-kept g c = record {
  clients = same_holders c.args.self.now.desk c.send-event.new.self c.requires.work.desk c.args.place None [] (option_to_list (put_of c.send-event.result (leaving_with c.args.self.now.number c.args.self.now.desk c.args.place))) [] [] (c.send-event.ensures.moved None);
  own = refl;
  base = refl;
  sectors = refl;
}

pub returns-else-is_some-clause-still : goal.returns-else-is_some-clause-still
returns-else-is_some-clause-still g c = λ m. still_work c.args.self.now c.send-event.new.self _ (c.send-event.ensures.still m)

pub returns-else-is_some-clause-sent : goal.returns-else-is_some-clause-sent
returns-else-is_some-clause-sent g c =
    let l = leaving_there (slice_get c.args.self.now.desk.clients.items c.args.place) c.requires.some in
    let none = ap option_to_list (given_none c.send-event.result (leaving_with c.args.self.now.number c.args.self.now.desk c.args.place) (sym c.is_some.ensures ∙ c.if-is_some.false)) in
    request_stays c.args.self.now c.requires.work c.requires.open c.send-event.new.self c.args.place l.0 l.1 (sym (ap (λ o. is_some (leaving_in o)) l.1) ∙ c.requires.some) (option_to_list (put_of c.send-event.result (leaving_with c.args.self.now.number c.args.self.now.desk c.args.place))) c.send-event.ensures.moved none c.send-event.ensures.sent
