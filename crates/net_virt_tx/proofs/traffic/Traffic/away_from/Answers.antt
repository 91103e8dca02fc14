use Rattle.std.proofs.Common.{refl, sym, ◌∙◌}
use Rattle.std.proofs.lemmas.Option.{slice_get_read}
use Rattle.net_virt_tx.proofs.Owning.{nobody_away, owner_away, owner_there}
use Rattle.net_virt_tx.proofs.traffic.Traffic.away_from.Goals as goal

pub is_away-requires-clause-sized : goal.is_away-requires-clause-sized
is_away-requires-clause-sized c = (c.requires.each c.in-Some.client c.index.result.now (slice_get_read c.args.self.now.clients.items _ c.in-Some.client c.index.result.now refl (owner_there c.args.self.now c.requires c.args.address c.in-Some.client c.in-Some.ensures) c.index.ensures)).sized

pub is_away-requires-clause-room : goal.is_away-requires-clause-room
is_away-requires-clause-room c = (c.requires.each c.in-Some.client c.index.result.now (slice_get_read c.args.self.now.clients.items _ c.in-Some.client c.index.result.now refl (owner_there c.args.self.now c.requires c.args.address c.in-Some.client c.in-Some.ensures) c.index.ensures)).room

pub returns-then-is_away : goal.returns-then-is_away
returns-then-is_away c = (c.index.result.now, slice_get_read c.args.self.now.clients.items _ c.in-Some.client c.index.result.now refl (owner_there c.args.self.now c.requires c.args.address c.in-Some.client c.in-Some.ensures) c.index.ensures, sym c.is_away.ensures ∙ c.if-is_away.true)

pub returns-else-is_away : goal.returns-else-is_away
returns-else-is_away c = owner_away c.args.self.now c.requires c.args.address c.in-Some.client c.in-Some.ensures c.index.result.now (slice_get_read c.args.self.now.clients.items _ c.in-Some.client c.index.result.now refl (owner_there c.args.self.now c.requires c.args.address c.in-Some.client c.in-Some.ensures) c.index.ensures) (sym c.is_away.ensures ∙ c.if-is_away.false)

pub returns-in-None : goal.returns-in-None
returns-in-None c = nobody_away c.args.self.now c.requires c.args.address c.in-None.ensures
