use Rattle.std.proofs.Common.{◌≡◌, ◌+◌, suc, take, flat_map, slice_get, refl, sym, ap, ◌∙◌, arith}
use Rattle.std.proofs.lemmas.Option.{slice_get_read}
use Rattle.buffer_kit.proofs.ManyClients.{held_more}
use Rattle.blk_virt.specs.Clients.{carried, client_cargo}
use Rattle.blk_virt.proofs.desk.Desk.held.Goals as goal

pub loop-client-preserved : goal.loop-client-preserved
loop-client-preserved c =
    let at = ap (λ xs. slice_get xs c.loop-client.client-index) (sym c.deref-client-items.ensures.value) ∙ slice_get_read c.deref-client-items.result.now _ c.loop-client.client-index c.client-item.result refl c.loop-client-test.true c.client-item.is in
    let next : c.loop-client.client-index + 1 ≡ suc c.loop-client.client-index = omega arith in
    let held = held_more client_cargo c.args.pool c.args.self.now.clients.items c.loop-client.client-index c.client-item.result at in
    let held' = ap (λ n. carried c.args.pool (flat_map client_cargo (take n c.args.self.now.clients.items))) next in
    let was = c.loop-client.invariant.0 in
    let few = c.loop-client.invariant.1 in
    let one = c.held-count.ensures.held in
    let less = c.held-count.ensures.few in
    (omega (arith, held, held', was, one), omega (arith, few, less))
