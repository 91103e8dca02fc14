use Rattle.std.proofs.Common.{◌≡◌, ◌+◌, ◌≤◌, ℕ, List, [], ◌∷◌, refl, arith}
use Rattle.wire_core.specs.declared.names.Entry.{Entry}
use Rattle.wire_core.specs.Marks.{no_drops, dropped}

-- Nobody drops anything.

no_drop : (journal : List Entry) → dropped no_drops journal ≡ 0
no_drop [] = refl
no_drop (e ∷ es) = let n : dropped no_drops es ≡ 0 = no_drop es in omega (arith, n)

pub none_dropped : (journal : List Entry) (sent hops : ℕ) → sent ≤ hops → sent + dropped no_drops journal ≤ hops
none_dropped journal sent hops le = let n : dropped no_drops journal ≡ 0 = no_drop journal in omega (arith, le, n)
