use Rattle.std.proofs.Common.{rules, ◌≡◌, length, vec_len, subst, arith}
use Rattle.client_programs.specs.Rogue.Clients.{IsRogue}
use Rattle.actor_set.specs.Actors.{IsWhole, IsWholeReceiver, IsWholeSender, IsWholeServer}
use Rattle.actor_set.proofs.Casting.{few_pages}
use Rattle.actor_set.proofs.actor.Actor.held.Goals as goal

pub held-requires-in-NetVirtRx : goal.held-requires-in-NetVirtRx
held-requires-in-NetVirtRx c = let whole : IsWholeReceiver c.in-NetVirtRx.virt = subst IsWhole c.in-NetVirtRx.is c.requires in whole.work

pub held-requires-in-NetVirtTx : goal.held-requires-in-NetVirtTx
held-requires-in-NetVirtTx c = let whole : IsWholeSender c.in-NetVirtTx.virt = subst IsWhole c.in-NetVirtTx.is c.requires in whole.work

pub held-requires-in-NetClient : goal.held-requires-in-NetClient
held-requires-in-NetClient c = record { few = subst IsWhole c.in-NetClient.is c.requires }

pub held-requires-in-BlkVirt : goal.held-requires-in-BlkVirt
held-requires-in-BlkVirt c = let whole : IsWholeServer c.in-BlkVirt.virt = subst IsWhole c.in-BlkVirt.is c.requires in whole.few

pub held-requires-in-BlkClient : goal.held-requires-in-BlkClient
held-requires-in-BlkClient c = record { few = few_pages c.in-BlkClient.client.asking (subst IsWhole c.in-BlkClient.is c.requires) }

pub held-requires-in-Rogue : goal.held-requires-in-Rogue
held-requires-in-Rogue c =
    let whole : IsRogue c.in-Rogue.client = subst IsWhole c.in-Rogue.is c.requires in
    let long : vec_len c.in-Rogue.client.kept ≡ length c.in-Rogue.client.kept.items = search rules in
    omega (arith, whole.few, long)
