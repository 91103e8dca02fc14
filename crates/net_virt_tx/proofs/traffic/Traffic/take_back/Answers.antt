use Rattle.std.proofs.Common.{◌≡◌, true, refl, sym, ◌∙◌, subst, inl}
use Rattle.std.proofs.lemmas.Option.{slice_get_read, slice_get_within}
use Rattle.std.proofs.lemmas.List.Elements.{All-nil}
use Rattle.buffer_kit.specs.Entries.{addr_of}
use Rattle.buffer_kit.proofs.ManyClients.{some_eq}
use Rattle.net_virt_tx.specs.declared.client.Client.{Client}
use Rattle.net_virt_tx.specs.Clients.{IsOf, is_away}
use Rattle.net_virt_tx.proofs.Owning.{away_of, one_of}
use Rattle.net_virt_tx.proofs.traffic.Traffic.take_back.Goals as goal

pub take_back-requires-clause-work : goal.take_back-requires-clause-work
take_back-requires-clause-work c = c.requires.work.each c.in-Some.place c.index_mut-client.result.now (slice_get_read c.args.self.now.clients.items _ c.in-Some.place c.index_mut-client.result.now refl (slice_get_within c.args.self.now.clients.items c.in-Some.place c.in-Some.ensures.0 c.in-Some.ensures.1) c.index_mut-client.ensures.value)

pub take_back-requires-clause-away : goal.take_back-requires-clause-away
take_back-requires-clause-away c =
    let at = slice_get_read c.args.self.now.clients.items _ c.in-Some.place c.index_mut-client.result.now refl (slice_get_within c.args.self.now.clients.items c.in-Some.place c.in-Some.ensures.0 c.in-Some.ensures.1) c.index_mut-client.ensures.value in
    subst (λ (x : Client). is_away x (addr_of c.args.entry.0) ≡ true) (some_eq (sym c.in-Some.ensures.1 ∙ at)) (subst (λ a. is_away c.in-Some.ensures.0 a ≡ true) c.address.ensures c.in-Some.ensures.2)

pub returns-in-Some : goal.returns-in-Some
returns-in-Some c =
    let at = slice_get_read c.args.self.now.clients.items _ c.in-Some.place c.index_mut-client.result.now refl (slice_get_within c.args.self.now.clients.items c.in-Some.place c.in-Some.ensures.0 c.in-Some.ensures.1) c.index_mut-client.ensures.value in
    let away = subst (λ a. is_away c.in-Some.ensures.0 a ≡ true) c.address.ensures c.in-Some.ensures.2 in
    let off = subst (λ (x : Client). IsOf x.sender c.args.entry) (some_eq (sym c.in-Some.ensures.1 ∙ at)) (away_of c.in-Some.ensures.0 (c.requires.work.each c.in-Some.place c.in-Some.ensures.0 c.in-Some.ensures.1) c.args.entry away) in
    inl (
      c.in-Some.place,
      record {
        was = c.index_mut-client.result.now;
        now = c.take_back.new.self;
        there = at;
        clients = refl;
        ranges = refl;
        stray = refl;
        moved = c.take_back.ensures;
        sent_own = All-nil (IsOf c.index_mut-client.result.now.sender);
        returned_own = one_of (IsOf c.index_mut-client.result.now.sender) c.args.entry off;
      },
    )
