use Rattle.std.proofs.Common.{◌≡◌, ◌==◌, [], ℕ, Option, Some, slice_get, slice_set, All, refl, sym, ap, ◌∙◌, subst}
use Rattle.std.specs.Option.{option_to_list, is_some}
use Rattle.std.proofs.lemmas.Option.{slice_get_read, slice_get_within}
use Rattle.std.proofs.lemmas.List.{set-get_or}
use Rattle.std.proofs.lemmas.List.Elements.{All-nil}
use Rattle.wire_core.specs.Deeds.{put_of, deed_of, Cargo}
use Rattle.wire_core.specs.Lists.{put_by, if_there}
use Rattle.net_virt_tx.specs.Clients.{IsOf, Moved}
use Rattle.net_virt_tx.specs.Traffics.{leaving_at, leaving_in}
use Rattle.net_virt_tx.proofs.Owning.{leaving_there, put_of_load}
use Rattle.net_virt_tx.proofs.traffic.Traffic.send.Goals as goal

at_place : (g : _) (c : goal.After-self-1 g) → slice_get c.args.self.now.clients.items c.args.place ≡ Some c.index_mut-client.result.now
at_place g c =
    let l = leaving_there (slice_get c.args.self.now.clients.items c.args.place) c.requires.some in
    slice_get_read c.args.self.now.clients.items _ c.args.place c.index_mut-client.result.now refl (slice_get_within c.args.self.now.clients.items c.args.place l.0 l.1) c.index_mut-client.ensures.value

same_load : (g : _) (c : goal.After-self-1 g) → c.index_mut-client.result.now.leaving ≡ leaving_at c.args.self.now c.args.place
same_load g c = sym (ap leaving_in (at_place g c))

pub send-requires-clause-work : goal.send-requires-clause-work
send-requires-clause-work g c =
    let l = leaving_there (slice_get c.args.self.now.clients.items c.args.place) c.requires.some in
    c.requires.work.each c.args.place c.index_mut-client.result.now (slice_get_read c.args.self.now.clients.items _ c.args.place c.index_mut-client.result.now refl (slice_get_within c.args.self.now.clients.items c.args.place l.0 l.1) c.index_mut-client.ensures.value)

pub send-requires-clause-some : goal.send-requires-clause-some
send-requires-clause-some g c =
    let l = leaving_there (slice_get c.args.self.now.clients.items c.args.place) c.requires.some in
    let at = slice_get_read c.args.self.now.clients.items _ c.args.place c.index_mut-client.result.now refl (slice_get_within c.args.self.now.clients.items c.args.place l.0 l.1) c.index_mut-client.ensures.value in
    sym (ap (λ o. is_some (leaving_in o)) at) ∙ c.requires.some

pub returns-clause-did : goal.returns-clause-did
returns-clause-did g c = subst (λ (o : Option Cargo). g.W.Wires.did c.args.wires.now (deed_of c.send.result (put_of c.send.result o)) c.send.new.wires) (same_load g c) c.send.ensures.did

pub returns-clause-puts : goal.returns-clause-puts
returns-clause-puts g c = subst (λ (o : Option Cargo). (n : ℕ) → put_by (deed_of c.send.result (put_of c.send.result o)) n ≡ if_there (c.args.ends.now.output.queue.0 == n) (option_to_list (put_of c.send.result o))) (same_load g c) c.send.ensures.puts

pub returns-clause-still : goal.returns-clause-still
returns-clause-still g c m = (ap (λ x. slice_set c.args.self.now.clients.items c.args.place x) (c.send.ensures.still m ∙ c.index_mut-client.ensures.value) ∙ set-get_or c.args.self.now.clients.items c.args.place c.index_mut-client.result.now, refl)

pub returns-clause-moved : goal.returns-clause-moved
returns-clause-moved g c = record {
  was = c.index_mut-client.result.now;
  now = c.send.new.self;
  there = at_place g c;
  clients = refl;
  ranges = refl;
  stray = refl;
  moved = subst (λ (o : Option Cargo). Moved c.index_mut-client.result.now c.send.new.self [] (option_to_list (put_of c.send.result o)) [] []) (same_load g c) c.send.ensures.moved;
  sent_own = subst (λ (o : Option Cargo). All (IsOf c.index_mut-client.result.now.sender) (option_to_list (put_of c.send.result o))) (same_load g c) (put_of_load (IsOf c.index_mut-client.result.now.sender) c.send.result.item c.index_mut-client.result.now.leaving (λ x is.
      let l = (c.requires.work.each c.args.place c.index_mut-client.result.now (at_place g c)).leaves x is in
      (c.index_mut-client.result.now.number, l.1, l.2)));
  returned_own = All-nil (IsOf c.index_mut-client.result.now.sender);
}
