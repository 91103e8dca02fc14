-- Rings that are adopted one by one.
use Rattle.std.proofs.Common.{◌≡◌, ◌<◌, ℕ, List, [], ◌∷◌, ◌++◌, length, get_or, refl, sym, ap, ◌∙◌, subst, arith, All}
use Rattle.std.specs.List.{AllZip}
use Rattle.std.proofs.lemmas.List.Elements.{All-nil, All-cons, All-head, All-tail}
use Rattle.wire_core.specs.declared.names.QueueRow.{QueueRow}
use Rattle.wire_core.specs.Queues.{Queue}
use Rattle.spsc_queue.specs.Known.Ends.{EndedIs}
use Rattle.plain_wires.specs.Pendings.{IsAmong}
use Rattle.plain_wires.specs.Adopted.{IsEndedOf, adopted, all_adopted}

-- no queue is there yet
pub none_adopted : (rows : List QueueRow) → all_adopted rows [] ≡ []
none_adopted [] = refl
none_adopted (r ∷ rows) = refl

-- one ring more
pub adopted_more : (rows : List QueueRow) (rings : List EndedIs) (row : QueueRow) (ring : EndedIs) → length rings < length rows → row ≡ get_or rows (length rings) row → all_adopted rows (rings ++ ring ∷ []) ≡ all_adopted rows rings ++ adopted (row, ring) ∷ []
adopted_more [] rings row ring lt at = absurd (omega (arith, lt))
adopted_more (r ∷ rows) [] row ring lt at = ap (λ (l : List Queue). adopted (r, ring) ∷ l) (none_adopted rows) ∙ ap (λ z. adopted (z, ring) ∷ []) (sym at)
adopted_more (r ∷ rows) (g ∷ rings) row ring lt at = ap (λ (l : List Queue). adopted (r, g) ∷ l) (adopted_more rows rings row ring (omega (arith, lt)) at)

-- the ring at a place is its row's
pub ended_at : (rows : List QueueRow) (before : List EndedIs) (ring : EndedIs) (rest : List EndedIs) (row : QueueRow) → AllZip IsEndedOf rows (before ++ ring ∷ rest) → row ≡ get_or rows (length before) row → IsEndedOf row ring
ended_at [] [] ring rest row all at = absurd all
ended_at [] (g ∷ before) ring rest row all at = absurd all
ended_at (r ∷ rows) [] ring rest row all at = subst (λ z. IsEndedOf z ring) (sym at) all.0
ended_at (r ∷ rows) (g ∷ before) ring rest row all at = ended_at rows before ring rest row all.1 at

-- and there is such a row
pub row_there : (rows : List QueueRow) (before : List EndedIs) (ring : EndedIs) (rest : List EndedIs) → AllZip IsEndedOf rows (before ++ ring ∷ rest) → length before < length rows
row_there [] [] ring rest all = absurd all
row_there [] (g ∷ before) ring rest all = absurd all
row_there (r ∷ rows) [] ring rest all = omega arith
row_there (r ∷ rows) (g ∷ before) ring rest all = let h = row_there rows before ring rest all.1 in omega (arith, h)

-- the actors at the queues' ends are those of the rows
pub known_rows : (n : ℕ) (rows : List QueueRow) (rings : List EndedIs) → All (λ r. (r.producer.0 < n) × (r.consumer.0 < n)) rows → All (IsAmong n) (all_adopted rows rings)
known_rows n [] rings known = All-nil (IsAmong n)
known_rows n (r ∷ rows) [] known = All-nil (IsAmong n)
known_rows n (r ∷ rows) (g ∷ rings) known = All-cons (IsAmong n) (adopted (r, g)) (all_adopted rows rings) (All-head (λ r. (r.producer.0 < n) × (r.consumer.0 < n)) r rows known) (known_rows n rows rings (All-tail (λ r. (r.producer.0 < n) × (r.consumer.0 < n)) r rows known))
