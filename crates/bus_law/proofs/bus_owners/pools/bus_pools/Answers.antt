use Rattle.std.proofs.Common.{◌≡◌, ◌+◌, ◌*◌, ◌<◌, ◌++◌, ◌∷◌, [], ◌∙◌, List, Bool, ℕ, Some, length, take, drop, slice_get, sym, ap, subst, arith}
use Rattle.std.proofs.lemmas.Option.{slice_get-get_or}
use Rattle.cargo_core.specs.declared.census.Census.{Census}
use Rattle.wire_core.specs.declared.names.QueueRow.{QueueRow}
use Rattle.wire_core.specs.declared.names.Entry.{Entry}
use Rattle.wire_core.specs.Journal.{start_history}
use Rattle.play_core.specs.Moved.{moved}
use Rattle.play_core.proofs.Lists.{there_is}
use Rattle.owner_law.specs.Owners.{Table}
use Rattle.line_text.specs.Lists.{per_client}
use Rattle.line_text.proofs.Rows.{per_client_more}
use Rattle.bus_law.specs.BusOwners.Keepers.{pool_size, pool_owner, bus_keepers}
use Rattle.bus_law.specs.BusOwners.Pools.{table_after, noted, pool_line, line_by, AreQueued}
use Rattle.bus_law.proofs.BusOwners.Seating.{keepers_many}
use Rattle.bus_law.proofs.BusOwners.Keeping.{are_spread}
use Rattle.bus_law.proofs.BusOwners.Replaying.{none_at_first, noted_right, table_more, take_more, line_is, whole, take_whole}
use Rattle.bus_law.proofs.bus_owners.pools.bus_pools.Goals as goal

pub loop-entry-init : goal.loop-entry-init
loop-entry-init c = λ rows.
    let n = c.args.clients in
    none_at_first n c.in_ok-queued.queued.items
    (λ client lt. c.spread_law.ensures.pools (pool_size n) pool_owner (bus_keepers n) (are_spread n) client (let m = keepers_many n in omega (arith, m, lt)))
    c.in_ok-queued.ensures

-- one entry more
one_more : (n : ℕ) (rows : List QueueRow) (journal : List Entry) (k : ℕ) (e : Entry) (items now new : List Bool) (len : ℕ) → slice_get journal k ≡ Some e → AreQueued n (table_after n rows (take k journal)) items → now ≡ items → new ≡ noted n now e.event → len ≡ length items
    → AreQueued n (table_after n rows (take (k + 1) journal)) (take len (new ++ drop (length new) items))
one_more n rows journal k e items now new len at inv same is long =
    let right = noted_right n (table_after n rows (take k journal)) items inv (moved (start_history rows) (take k journal)) e in
    let new_is : new ≡ noted n items e.event = is ∙ ap (λ l. noted n l e.event) same in
    let many : length new ≡ 2 * n = ap length new_is ∙ right.many in
    let were : length items ≡ 2 * n = inv.many in
    let table = ap (table_after n rows) (take_more journal k e at) ∙ table_more n rows (take k journal) e in
    subst (λ t. AreQueued n t (take len (new ++ drop (length new) items))) (sym table)
    (subst (AreQueued n _) (sym (whole len new items (omega (arith, long, many, were)) (omega (arith, many, were)) ∙ new_is)) right)

pub loop-entry-preserved : goal.loop-entry-preserved
loop-entry-preserved c = λ rows.
    one_more c.args.clients rows c.args.journal.now c.loop-entry.entry-index _ c.loop-entry.queued.items c.deref_mut.result.now c.note.new.queued c.loop-entry.queued.len
    (slice_get-get_or c.args.journal.now c.loop-entry.entry-index _ c.loop-entry-test.true) (c.loop-entry.invariant rows) c.deref_mut.ensures.value c.note.ensures c.loop-entry.queued.ok.0

-- one line more
line_more : (n : ℕ) (t : Table) (queued now : List Bool) (k : ℕ) (lines new : List Census) (line : Census) → AreQueued n t queued → k < n → now ≡ queued
    → ((first second : Bool) → slice_get now (2 * k) ≡ Some first → slice_get now (2 * k + 1) ≡ Some second → line ≡ line_by k first second)
    → lines ≡ per_client k (pool_line t) → new ≡ lines ++ line ∷ [] → new ≡ per_client (k + 1) (pool_line t)
line_more n t queued now k lines new line h lt same is so_far e =
    let m : length queued ≡ 2 * n = h.many in
    let one = there_is queued (2 * k) (omega (arith, m, lt)) in
    let two = there_is queued (2 * k + 1) (omega (arith, m, lt)) in
    let l : line ≡ pool_line t k = is one.0 two.0 (ap (λ q. slice_get q (2 * k)) same ∙ one.1) (ap (λ q. slice_get q (2 * k + 1)) same ∙ two.1) ∙ line_is n t queued k one.0 two.0 h lt one.1 two.1 in
    e ∙ (ap (λ ls. ls ++ line ∷ []) so_far ∙ (ap (λ x. per_client k (pool_line t) ++ x ∷ []) l ∙ sym (per_client_more k (pool_line t))))

pub loop-client-preserved : goal.loop-client-preserved
loop-client-preserved c = λ rows.
    let n = c.args.clients in
    let above = c.loop-entry-test.false in
    let below = c.loop-entry.auto.entry-index-end in
    let all = take_whole c.args.journal.now c.loop-entry.entry-index (omega (arith, above, below)) in
    line_more n (table_after n rows c.args.journal.now) c.loop-entry.queued.items c.deref.result.now c.loop-client.client c.loop-client.lines.items c.push.new.self.items c.in_ok-line_in.field-0
    (subst (λ (j : List Entry). AreQueued n (table_after n rows j) c.loop-entry.queued.items) all (c.loop-entry.invariant rows)) c.loop-client-test.true c.deref.ensures.value c.in_ok-line_in.ensures (c.loop-client.invariant rows) c.in_ok-push.ensures.items

pub returns : goal.returns
returns c = λ rows.
    let e = c.loop-client.auto.client-end in
    let w = c.loop-client-test.false in
    let same : c.loop-client.client ≡ c.args.clients = omega (arith, e, w) in
    c.from_vec.ensures ∙ (c.loop-client.invariant rows ∙ ap (λ k. per_client k (pool_line (table_after c.args.clients rows c.args.journal.now))) same)
