use Rattle.std.proofs.Common.{◌≡◌, ◌<◌, ℕ, true, nat_lt, List, [], ◌∷◌, length, get_or, All, refl, subst, sym, ◌∙◌, arith}
use Rattle.std.proofs.lemmas.Bool.{lt-ltb}
use Rattle.std.proofs.lemmas.List.{get_or-map, length-map}
use Rattle.std.proofs.lemmas.List.Elements.{All-get_or}
use Rattle.cargo_core.specs.declared.item.QueueKind.{QueueKind}
use Rattle.wire_core.specs.declared.names.QueueRow.{QueueRow}
use Rattle.wire_core.specs.Queues.{start_queue, starts, no_queue, queue_at}
use Rattle.base_rows.specs.Hands.{AreQueues}

at_row : (kind : QueueKind) (rows : List QueueRow) → All (λ r. r.kind ≡ kind) rows → (n : ℕ) → n < length rows → (row : QueueRow) × (row.kind ≡ kind) × (queue_at (starts rows) n ≡ start_queue row)
at_row kind [] h n lt = absurd (omega (arith, lt))
at_row kind (a ∷ rows) h n lt = (get_or (a ∷ rows) n a, All-get_or (λ r. r.kind ≡ kind) (a ∷ rows) n a lt h, get_or-map start_queue (a ∷ rows) n a no_queue lt)

long : (rows : List QueueRow) → length (starts rows) ≡ length rows
long rows = simp length-map

pub new_queues : (kind : QueueKind) (rows : List QueueRow) (count : ℕ) → All (λ r. r.kind ≡ kind) rows → length rows ≡ count → AreQueues kind count (starts rows)
new_queues kind rows count h size = record {
  long = long rows ∙ size;
  start = λ r n lt.
      let here : n < length rows = subst (λ m. n < m) (sym size) lt in
      let own : nat_lt n (length (starts rows)) ≡ true = lt-ltb n (length (starts rows)) (subst (λ m. n < m) (sym (long rows)) here) in
      let row = at_row kind rows h n here in
      rw (own, row.2, row.1) refl;
}
