use Rattle.std.proofs.Common.{◌≡◌, ◌&&◌, ℕ, Bool, true, false, not, refl, subst}
use Rattle.wire_core.specs.declared.names.QueueRow.{QueueRow}
use Rattle.wire_core.specs.Ends.{Role, Consumer, Producer}
use Rattle.wire_core.specs.Journal.{Hostiles, MayCall, is_calm, owner_of}

neither : (a b : Bool) → (not a && not b) ≡ true → (a ≡ false) × (b ≡ false)
neither false false h = (refl, refl)
neither false true h = cc
neither true b h = cc

-- who has an end of a calm queue isn't hostile
pub calm_owner : (hostile : Hostiles) (row : QueueRow) → is_calm hostile row ≡ true → (r : Role) → hostile (owner_of row r) ≡ false
calm_owner hostile row calm Consumer = (neither (hostile row.producer.0) (hostile row.consumer.0) calm).1
calm_owner hostile row calm Producer = (neither (hostile row.producer.0) (hostile row.consumer.0) calm).0

-- so who may call at one of its ends has that end
pub calm_caller : (hostile : Hostiles) (row : QueueRow) (r : Role) (k : ℕ) → is_calm hostile row ≡ true → MayCall hostile row r k → owner_of row r ≡ k
calm_caller hostile row r k calm may = may.own (subst (λ i. hostile i ≡ false) may.some.1 (calm_owner hostile row calm may.some.0))
