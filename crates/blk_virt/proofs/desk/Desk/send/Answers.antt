use Rattle.std.proofs.Common.{◌≡◌, ◌==◌, ℕ, true, false, Some, Option, [], slice_get, slice_set, refl, sym, ap, ◌∙◌, subst}
use Rattle.std.specs.Option.{option_to_list, is_some}
use Rattle.std.proofs.lemmas.Option.{slice_get_read, slice_get_within}
use Rattle.wire_core.specs.Deeds.{put_of, deed_of, Cargo}
use Rattle.wire_core.specs.Lists.{put_by, if_there}
use Rattle.wire_core.proofs.Places.{slice_get_written}
use Rattle.blk_virt.specs.declared.desk.Desk.{Desk}
use Rattle.blk_virt.specs.Clients.{Moved, WentOff, is_away, is_held, is_idle, is_leaving, leaving_as}
use Rattle.blk_virt.specs.Desks.{leaving_in, leaving_with}
use Rattle.blk_virt.proofs.Desking.{leaving_there, leaving_load, leaving_not_away, has_room, sent_moved, sent_as, still_set, same_leaving}
use Rattle.blk_virt.proofs.desk.Desk.send.Given as given
use Rattle.blk_virt.proofs.desk.Desk.send.Goals as goal

module _ (g : given.Over) (c : goal.After-join g) where
  at_place : slice_get c.args.self.now.clients.items c.args.place ≡ Some c.index_mut-client.result.now
  at_place =
      let l = leaving_there (slice_get c.args.self.now.clients.items c.args.place) c.requires.some in
      slice_get_read c.args.self.now.clients.items _ c.args.place c.index_mut-client.result.now refl (slice_get_within c.args.self.now.clients.items c.args.place l.0 l.1) c.index_mut-client.ensures.value

  leaves : is_leaving c.index_mut-client.result.now ≡ true
  leaves = sym (ap (λ o. is_some (leaving_in o)) at_place) ∙ c.requires.some

  load : leaving_as c.args.number c.index_mut-client.result.now ≡ leaving_with c.args.number c.args.self.now c.args.place
  load = leaving_load c.args.self.now c.args.place c.args.number c.index_mut-client.result.now at_place

  set : c.join.new.self.clients.items ≡ slice_set c.args.self.now.clients.items c.args.place c.send-event.new.self
  set = ap (λ (w : Desk). w.clients.items) c.join.ensures.others

  written : slice_get (slice_set c.args.self.now.clients.items c.args.place c.send-event.new.self) c.args.place ≡ Some c.send-event.new.self
  written = slice_get_written c.args.self.now.clients.items c.args.place c.index_mut-client.result.now c.send-event.new.self at_place

pub join-requires-clause-room : goal.join-requires-clause-room
join-requires-clause-room g c = λ d at stays.
    let l = leaving_there (slice_get c.args.self.now.clients.items c.args.place) c.requires.some in
    has_room c.args.self.now c.requires.desk c.args.place l.0 l.1 (leaving_not_away l.0 (sym (ap (λ o. is_some (leaving_in o)) l.1) ∙ c.requires.some))

pub returns-clause-did : goal.returns-clause-did
returns-clause-did g c = subst (λ (o : Option Cargo). g.W.Wires.did c.args.wires.now (deed_of c.send-event.result (put_of c.send-event.result o)) c.send-event.new.wires) (load g c) c.send-event.ensures.did

pub returns-clause-puts : goal.returns-clause-puts
returns-clause-puts g c = subst (λ (o : Option Cargo). (n : ℕ) → put_by (deed_of c.send-event.result (put_of c.send-event.result o)) n ≡ if_there (c.args.ends.now.output.queue.0 == n) (option_to_list (put_of c.send-event.result o))) (load g c) c.send-event.ensures.puts

pub returns-clause-moved : goal.returns-clause-moved
returns-clause-moved g c =
    sent_moved c.args.self.now c.join.new.self c.args.place c.args.number c.index_mut-client.result.now c.send-event.new.self (at_place g c) (set g c) c.join.ensures.room (leaves g c) (option_to_list (put_of c.send-event.result (leaving_with c.args.number c.args.self.now c.args.place)))
    (λ part. subst (λ (o : Option Cargo). Moved part c.index_mut-client.result.now c.send-event.new.self [] (option_to_list (put_of c.send-event.result o)) [] []) (load g c) (c.send-event.ensures.moved part))
    (subst (λ (o : Option Cargo). is_leaving c.send-event.new.self ≡ false → WentOff c.index_mut-client.result.now c.send-event.new.self c.args.number (option_to_list (put_of c.send-event.result o))) (load g c) c.send-event.ensures.went)
    (subst (λ (o : Option Cargo). is_leaving c.send-event.new.self ≡ true → (is_away c.send-event.new.self ≡ false) × (option_to_list (put_of c.send-event.result o) ≡ [])) (load g c) c.send-event.ensures.stays)
    (λ e. c.join.ensures.went c.send-event.new.self (written g c) e)
    (λ e. c.join.ensures.stays c.send-event.new.self (written g c) e)

pub returns-clause-sent : goal.returns-clause-sent
returns-clause-sent g c =
    sent_as c.args.self.now c.join.new.self c.args.place c.args.number c.index_mut-client.result.now c.send-event.new.self (at_place g c) (set g c) c.join.ensures.room (leaves g c) (option_to_list (put_of c.send-event.result (leaving_with c.args.number c.args.self.now c.args.place)))
    (λ part. subst (λ (o : Option Cargo). Moved part c.index_mut-client.result.now c.send-event.new.self [] (option_to_list (put_of c.send-event.result o)) [] []) (load g c) (c.send-event.ensures.moved part))
    (subst (λ (o : Option Cargo). is_leaving c.send-event.new.self ≡ false → WentOff c.index_mut-client.result.now c.send-event.new.self c.args.number (option_to_list (put_of c.send-event.result o))) (load g c) c.send-event.ensures.went)
    (subst (λ (o : Option Cargo). is_leaving c.send-event.new.self ≡ true → (is_away c.send-event.new.self ≡ false) × (option_to_list (put_of c.send-event.result o) ≡ [])) (load g c) c.send-event.ensures.stays)
    (λ e. c.join.ensures.went c.send-event.new.self (written g c) e)
    (λ e. c.join.ensures.stays c.send-event.new.self (written g c) e)

pub returns-clause-still : goal.returns-clause-still
returns-clause-still g c = λ m.
    let same = c.send-event.ensures.still m in
    still_set c.args.self.now c.join.new.self c.args.place c.index_mut-client.result.now c.send-event.new.self (at_place g c) (set g c) (ap is_idle same) (ap is_held same) (ap is_leaving same ∙ same_leaving c.args.number c.index_mut-client.result.now)
