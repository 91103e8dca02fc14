use Rattle.std.proofs.Common.{◌≡◌, ◌==◌, [], ℕ, Option, Some, slice_get, slice_set, is_none, refl, sym, ap, ◌∙◌, subst}
use Rattle.std.specs.Option.{option_to_list}
use Rattle.std.proofs.lemmas.Bool.{and_parts}
use Rattle.std.proofs.lemmas.Option.{slice_get_read, slice_get_within}
use Rattle.std.proofs.lemmas.List.{set-get_or}
use Rattle.std.proofs.lemmas.List.Elements.{All-nil}
use Rattle.wire_core.specs.Deeds.{put_of, deed_of, Cargo}
use Rattle.wire_core.specs.Lists.{put_by, taken_by, if_there}
use Rattle.buffer_kit.proofs.ManyClients.{so_there}
use Rattle.net_virt_tx.specs.Clients.{IsOf, Moved, load_of, is_loaded}
use Rattle.net_virt_tx.specs.Traffics.{load_at, load_in, is_so}
use Rattle.net_virt_tx.proofs.traffic.Traffic.give.Goals as goal

at_place : (g : _) (c : goal.After-self-1 g) → slice_get c.args.self.now.clients.items c.args.place ≡ Some c.index_mut-client.result.now
at_place g c =
    let l = so_there is_loaded (slice_get c.args.self.now.clients.items c.args.place) (and_parts (is_none c.args.self.now.stray) (is_so is_loaded (slice_get c.args.self.now.clients.items c.args.place)) c.requires.some).1 in
    slice_get_read c.args.self.now.clients.items _ c.args.place c.index_mut-client.result.now refl (slice_get_within c.args.self.now.clients.items c.args.place l.0 l.1) c.index_mut-client.ensures.value

same_load : (g : _) (c : goal.After-self-1 g) → load_of c.index_mut-client.result.now ≡ load_at c.args.self.now c.args.place
same_load g c = sym (ap load_in (at_place g c))

pub give-requires-clause-work : goal.give-requires-clause-work
give-requires-clause-work g c =
    let l = so_there is_loaded (slice_get c.args.self.now.clients.items c.args.place) (and_parts (is_none c.args.self.now.stray) (is_so is_loaded (slice_get c.args.self.now.clients.items c.args.place)) c.requires.some).1 in
    c.requires.work.each c.args.place c.index_mut-client.result.now (slice_get_read c.args.self.now.clients.items _ c.args.place c.index_mut-client.result.now refl (slice_get_within c.args.self.now.clients.items c.args.place l.0 l.1) c.index_mut-client.ensures.value)

pub give-requires-clause-some : goal.give-requires-clause-some
give-requires-clause-some g c =
    let so = (and_parts (is_none c.args.self.now.stray) (is_so is_loaded (slice_get c.args.self.now.clients.items c.args.place)) c.requires.some).1 in
    let l = so_there is_loaded (slice_get c.args.self.now.clients.items c.args.place) so in
    let at = slice_get_read c.args.self.now.clients.items _ c.args.place c.index_mut-client.result.now refl (slice_get_within c.args.self.now.clients.items c.args.place l.0 l.1) c.index_mut-client.ensures.value in
    sym (ap (is_so is_loaded) at) ∙ so

pub returns-clause-did : goal.returns-clause-did
returns-clause-did g c = subst (λ (o : Option Cargo). g.W.Wires.did c.args.wires.now (deed_of c.give.result (put_of c.give.result o)) c.give.new.wires) (same_load g c) c.give.ensures.did

pub returns-clause-takes : goal.returns-clause-takes
returns-clause-takes g c = subst (λ (o : Option Cargo). (n : ℕ) → taken_by (deed_of c.give.result (put_of c.give.result o)) n ≡ []) (same_load g c) c.give.ensures.takes

pub returns-clause-puts : goal.returns-clause-puts
returns-clause-puts g c = subst (λ (o : Option Cargo). (n : ℕ) → put_by (deed_of c.give.result (put_of c.give.result o)) n ≡ if_there (c.give.result.queue.0 == n) (option_to_list (put_of c.give.result o))) (same_load g c) c.give.ensures.puts

pub returns-clause-still : goal.returns-clause-still
returns-clause-still g c m = (ap (λ x. slice_set c.args.self.now.clients.items c.args.place x) (c.give.ensures.still m ∙ c.index_mut-client.ensures.value) ∙ set-get_or c.args.self.now.clients.items c.args.place c.index_mut-client.result.now, refl)

pub returns-clause-moved : goal.returns-clause-moved
returns-clause-moved g c = record {
  was = c.index_mut-client.result.now;
  now = c.give.new.self;
  there = at_place g c;
  clients = refl;
  ranges = refl;
  stray = refl;
  moved = subst (λ (o : Option Cargo). Moved c.index_mut-client.result.now c.give.new.self [] [] [] (option_to_list (put_of c.give.result o))) (same_load g c) c.give.ensures.moved;
  sent_own = All-nil (IsOf c.index_mut-client.result.now.sender);
  returned_own = All-nil (IsOf c.index_mut-client.result.now.sender);
}
