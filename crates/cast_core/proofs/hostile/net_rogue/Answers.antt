use Rattle.std.proofs.Common.{◌≡◌, ◌+◌, ◌*◌, ◌++◌, List, [], ◌∷◌, length, length-append, sym, ap, ap₂, ◌∙◌, subst, arith}
use Rattle.std.specs.List.{All}
use Rattle.cargo_core.specs.declared.act.Act.{Act}
use Rattle.cargo_core.specs.declared.item.QueueKind.TheVariants as Kind
use Rattle.wire_core.specs.declared.names.QueueId.{QueueId}
use Rattle.trace_text.specs.declared.class.Class.TheVariants as Of
use Rattle.client_programs.specs.Rogue.Clients.{AreApart, IsActOf}
use Rattle.actor_set.specs.Actors.{numbers, pages_at}
use Rattle.actor_set.specs.Parts.{HostilePart}
use Rattle.cast_core.specs.Sources.{pool_at}
use Rattle.cast_core.specs.Making.{new_page}
use Rattle.cast_core.specs.Hostile.{pool_pages, rogue_with}
use Rattle.cast_core.proofs.Listing.{value_count}
use Rattle.cast_core.proofs.Making.{pool_fits}
use Rattle.cast_core.proofs.HostileLemmas.{acts_are, acts_few, acts_fit, pool_told, pools_told, rogue_is, rogue_new, two_apart}
use Rattle.cast_core.proofs.hostile.net_rogue.Goals as goal

pub acts-requires : goal.acts-requires
acts-requires c = let count = c.requires.acts.count in let there = c.requires.there in omega (arith, count, there)

pub new-requires-clause-inputs : goal.new-requires-clause-inputs
new-requires-clause-inputs c = subst (λ (l : List QueueId). AreApart (numbers l)) (sym c.in_ok-inputs.ensures.items) (two_apart _ _ (λ e. omega (arith, e)))

pub new-requires-clause-outputs : goal.new-requires-clause-outputs
new-requires-clause-outputs c = subst (λ (l : List QueueId). AreApart (numbers l)) (sym c.in_ok-outputs.ensures.items) (two_apart _ _ (λ e. omega (arith, e)))

pub new-requires-clause-acts : goal.new-requires-clause-acts
new-requires-clause-acts c =
    subst (λ (l : List QueueId). All (IsActOf (length l) (length l + length c.in_ok-outputs.outputs.items)) c.in_ok-acts.acts.items) (sym c.in_ok-inputs.ensures.items)
    (subst (λ (l : List QueueId). All (IsActOf 2 (2 + length l)) c.in_ok-acts.acts.items) (sym c.in_ok-outputs.ensures.items)
    (subst (λ (l : List Act). All (IsActOf 2 4) l) (sym c.in_ok-acts.ensures.items) (acts_fit Of.Net c.args.trace.now.net_acts c.args.clients c.args.client c.acts.result.now c.requires.acts c.acts.ensures)))

pub new-requires-clause-few : goal.new-requires-clause-few
new-requires-clause-few c =
    let k = c.args.client in
    let rx = c.pool_row-rx_row.result.now in
    let tx = c.pool_row-tx_row.result.now in
    let fits = pool_fits c.args.pools.now _ (1 + 2 * k) rx.base rx.buffers c.requires.rx c.pool_row-rx_row.ensures.base c.pool_row-rx_row.ensures.buffers in
    let spare = pool_fits c.args.pools.now _ (2 + 2 * k) tx.base tx.buffers c.requires.tx c.pool_row-tx_row.ensures.base c.pool_row-tx_row.ensures.buffers in
    let long : length c.in_ok-own.own.items ≡ rx.buffers = ap length c.in_ok-own.ensures ∙ value_count rx.buffers (new_page rx.size (1 + 2 * k)) in
    let spare_long : length c.in_ok-sends.sends.items ≡ tx.buffers = ap length c.in_ok-sends.ensures ∙ value_count tx.buffers (new_page tx.size (2 + 2 * k)) in
    let all : length c.append.new.self.items ≡ length c.in_ok-own.own.items + length c.in_ok-sends.sends.items = ap length c.in_ok-append.ensures.items ∙ length-append c.in_ok-own.own.items c.in_ok-sends.sends.items in
    let acts : length c.in_ok-acts.acts.items ≡ length c.acts.result.now = ap length c.in_ok-acts.ensures.items in
    let few = acts_few Of.Net c.args.trace.now.net_acts c.args.clients k c.acts.result.now c.requires.acts c.acts.ensures in
    let most = fits.1 in
    let spare_most = spare.1 in
    omega (arith, long, spare_long, all, acts, few, most, spare_most)

pub returns-clause-new : goal.returns-clause-new
returns-clause-new c = rogue_new _ _ _ _ _ c.in_ok-new.field-0 c.in_ok-new.ensures.new

pub returns-clause-part : goal.returns-clause-part
returns-clause-part c =
    let k = c.args.client in
    let rows = c.args.pools.now in
    let rx = c.pool_row-rx_row.result.now in
    let tx = c.pool_row-tx_row.result.now in
    let told = pool_pages (pool_at rows (1 + 2 * k)) ++ pool_pages (pool_at rows (2 + 2 * k)) in
    let pages : pages_at c.append.new.self.items ≡ told = ap pages_at c.in_ok-append.ensures.items ∙ (pools_told c.in_ok-own.own.items c.in_ok-sends.sends.items
    ∙ ap₂ (λ x y. x ++ y) (pool_told rows (1 + 2 * k) rx.size rx.buffers c.in_ok-own.own.items c.in_ok-own.ensures c.pool_row-rx_row.ensures.buffers c.pool_row-rx_row.ensures.size)
    (pool_told rows (2 + 2 * k) tx.size tx.buffers c.in_ok-sends.sends.items c.in_ok-sends.ensures c.pool_row-tx_row.ensures.buffers c.pool_row-tx_row.ensures.size)) in
    let acts = c.in_ok-acts.ensures.items ∙ sym (acts_are c.args.trace.now.net_acts k c.acts.result.now c.acts.ensures) in
    rogue_is Kind.Net c.in_ok-inputs.inputs.items c.in_ok-outputs.outputs.items c.append.new.self.items c.in_ok-acts.acts.items c.in_ok-new.field-0 c.in_ok-new.ensures.new told pages
    ∙ (ap₂ (λ (i o : List QueueId). HostilePart (rogue_with Kind.Net (numbers i) (numbers o) told c.in_ok-acts.acts.items)) c.in_ok-inputs.ensures.items c.in_ok-outputs.ensures.items
    ∙ ap (λ (l : List Act). HostilePart (rogue_with Kind.Net ((8 + 6 * k + 2) ∷ (8 + 6 * k + 5) ∷ []) ((8 + 6 * k + 3) ∷ (8 + 6 * k + 4) ∷ []) told l)) acts)
