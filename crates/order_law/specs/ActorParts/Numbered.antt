-- Ends with the numbers of their queues, and by place.
use Rattle.std.specs.Prelude.{◌+◌, ℕ, Option, Some, None, List, [], ◌∷◌}
use Rattle.wire_core.specs.declared.names.QueueId.{QueueId}

-- the ends that stand at places, from a number on, each with its number
abbrev pub numbered : {X : Type 0} → ℕ → List (Option X) → List (QueueId × X)
numbered k [] = []
numbered k (None ∷ ps) = numbered (k + 1) ps
numbered k (Some x ∷ ps) = (record { 0 = k }, x) ∷ numbered (k + 1) ps
