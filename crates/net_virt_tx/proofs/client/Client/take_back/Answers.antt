use Rattle.std.proofs.Common.{◌-◌, ◌/◌, ◌++◌, ◌∷◌, [], slice_set, false, sym, ap, ◌∙◌, subst}
use Rattle.net_virt_tx.specs.Queued.{returns_list}
use Rattle.net_virt_tx.specs.Clients.{Moved}
use Rattle.net_virt_tx.proofs.Moving.{room_back, came_back}
use Rattle.net_virt_tx.proofs.client.Client.take_back.Goals as goal

pub push-requires-clause-room : goal.push-requires-clause-room
push-requires-clause-room c = room_back c.args.self.now c.requires.work c.args.entry c.requires.kind c.requires.away

pub returns : goal.returns
returns c =
    let marks = c.set.ensures ∙ ap (λ a. slice_set c.args.self.now.away ((a - c.args.self.now.sender.base) / c.args.self.now.sender.size) false) c.address.ensures in
    subst (λ a. Moved c.args.self.now (record c.args.self.now { away = a; returns = c.push.new.self }) [] [] (c.args.entry ∷ []) []) (sym marks)
    (came_back c.args.self.now c.requires.work c.args.entry c.requires.kind c.requires.away c.push.new.self c.push.ensures.ready (c.push.ensures.list ∙ ap (λ x. returns_list c.args.self.now.returns ++ x ∷ []) c.to_client.ensures) c.push.ensures.places)
