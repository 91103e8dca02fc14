use Rattle.std.proofs.Common.{◌≡◌, ◌||◌, ◌&&◌, ℕ, Bool, true, false, not, Option, Some, None, slice_get, refl, sym, ap, ◌∙◌, subst, inl, inr}
use Rattle.std.proofs.lemmas.Bool.{and_parts}
use Rattle.std.proofs.lemmas.Option.{slice_get_read, slice_get_within}
use Rattle.std.proofs.lemmas.List.Elements.{All-nil}
use Rattle.std.specs.Option.{is_none}
use Rattle.buffer_kit.proofs.ManyClients.{some_eq}
use Rattle.buffer_kit.specs.Clients.{is_so}
use Rattle.net_virt_tx.specs.declared.client.Client.{Client}
use Rattle.net_virt_tx.specs.declared.traffic.Traffic.{Traffic}
use Rattle.net_virt_tx.specs.Clients.{IsOf, is_idle, is_marked, number_of, comes_in_turn}
use Rattle.net_virt_tx.specs.Serving.{is_good_of}
use Rattle.net_virt_tx.specs.Traffics.{needs_at}
use Rattle.net_virt_tx.proofs.traffic.Traffic.receive.Goals as goal

-- a client whose next descriptor is needed is there, and idle
idle_there : (o : Option Client) → is_so is_idle o ≡ true → (c : Client) × (o ≡ Some c) × (is_idle c ≡ true)
idle_there None h = absurd cc
idle_there (Some c) h = (c, refl, h)

-- what is no descriptor in turn is good, and its buffer is inside
repeated : (good inside : Bool) → (not good || not inside) ≡ false → (good ≡ true) × (inside ≡ true)
repeated true true h = (refl, refl)
repeated true false h = absurd cc
repeated false inside h = absurd cc

needed_there : (w : Traffic) (k : ℕ) → needs_at w k ≡ true → (d : Client) × (slice_get w.clients.items k ≡ Some d) × (is_idle d ≡ true)
needed_there w k h = idle_there (slice_get w.clients.items k) (and_parts (is_none w.stray) (is_so is_idle (slice_get w.clients.items k)) h).1

pub receive-requires-clause-work : goal.receive-requires-clause-work
receive-requires-clause-work c =
    let d = needed_there c.args.self.now c.args.place c.requires.needed in
    c.requires.work.each c.args.place c.index_mut-client.result.now (slice_get_read c.args.self.now.clients.items _ c.args.place c.index_mut-client.result.now refl (slice_get_within c.args.self.now.clients.items c.args.place d.0 d.1) c.index_mut-client.ensures.value)

pub receive-requires-clause-idle : goal.receive-requires-clause-idle
receive-requires-clause-idle c =
    let d = needed_there c.args.self.now c.args.place c.requires.needed in
    let at = slice_get_read c.args.self.now.clients.items _ c.args.place c.index_mut-client.result.now refl (slice_get_within c.args.self.now.clients.items c.args.place d.0 d.1) c.index_mut-client.ensures.value in
    subst (λ (y : Client). is_idle y ≡ true) (some_eq (sym d.1 ∙ at)) d.2

pub receive-requires-clause-turn : goal.receive-requires-clause-turn
receive-requires-clause-turn c =
    let d = needed_there c.args.self.now c.args.place c.requires.needed in
    let within = slice_get_within c.args.self.now.clients.items c.args.place d.0 d.1 in
    let at = slice_get_read c.args.self.now.clients.items _ c.args.place c.index_mut-client.result.now refl within c.index_mut-client.ensures.value in
    let was = slice_get_read c.args.self.now.clients.items _ c.args.place c.index.result.now refl within c.index.ensures in
    subst (λ (y : Client). comes_in_turn y c.args.entry ≡ true) (some_eq (sym was ∙ at)) (sym c.comes_in_turn.ensures ∙ c.if-comes_in_turn.true)

pub returns-then-comes_in_turn : goal.returns-then-comes_in_turn
returns-then-comes_in_turn c =
    let d = needed_there c.args.self.now c.args.place c.requires.needed in
    inl (record {
      was = c.index_mut-client.result.now;
      now = c.receive.new.self;
      there = slice_get_read c.args.self.now.clients.items _ c.args.place c.index_mut-client.result.now refl (slice_get_within c.args.self.now.clients.items c.args.place d.0 d.1) c.index_mut-client.ensures.value;
      clients = refl;
      ranges = refl;
      stray = refl;
      moved = c.receive.ensures;
      sent_own = All-nil (IsOf c.index_mut-client.result.now.sender);
      returned_own = All-nil (IsOf c.index_mut-client.result.now.sender);
    })

pub returns-else-comes_in_turn : goal.returns-else-comes_in_turn
returns-else-comes_in_turn c =
    let d = needed_there c.args.self.now c.args.place c.requires.needed in
    let was = slice_get_read c.args.self.now.clients.items _ c.args.place c.index.result.now refl (slice_get_within c.args.self.now.clients.items c.args.place d.0 d.1) c.index.ensures in
    let idle = subst (λ (y : Client). is_idle y ≡ true) (some_eq (sym d.1 ∙ was)) d.2 in
    let again = repeated (is_good_of c.index.result.now.sender c.args.entry) (is_marked c.index.result.now.inside (number_of c.args.entry.1)) (sym c.comes_in_turn.ensures ∙ c.if-comes_in_turn.false) in
    inr ((c.index.result.now, was, idle, again.0, again.1), refl)
