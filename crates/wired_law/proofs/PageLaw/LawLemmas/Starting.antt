-- At the start each actor has what it had.
use Rattle.std.proofs.Common.{◌≡◌, ℕ, Some, List, [], ◌∷◌, ◌++◌, map, slice_get, refl, ap, arith}
use Rattle.wire_core.specs.declared.names.QueueRow.{QueueRow}
use Rattle.wire_core.specs.Ends.{Role, Consumer, Producer}
use Rattle.wire_core.specs.Lists.{nothing_passed}
use Rattle.play_core.specs.Moved.{Seat}
use Rattle.owner_law.specs.Keeping.{AreKeepers}
use Rattle.owner_law.specs.Pools.Lines.{bodies_in, bodies_out, came, went}
use Rattle.buffer_kit.specs.Conserving.{counted}
use Rattle.wired_law.specs.PageLaw.Holders.{PageHolder, AreHeld, keeper}

none_in : (ends : List Seat) → came nothing_passed ends ≡ []
none_in [] = refl
none_in (s ∷ ends) = by s.role (none_in ends)
  where
    by : (r : Role) → came nothing_passed ends ≡ [] → bodies_in nothing_passed r s.queue ++ came nothing_passed ends ≡ []
    by Consumer rest = rest
    by Producer rest = rest

none_out : (ends : List Seat) → went nothing_passed ends ≡ []
none_out [] = refl
none_out (s ∷ ends) = by s.role (none_out ends)
  where
    by : (r : Role) → went nothing_passed ends ≡ [] → bodies_out nothing_passed r s.queue ++ went nothing_passed ends ≡ []
    by Consumer rest = rest
    by Producer rest = rest

pub started : (rows : List QueueRow) (holders : List PageHolder) → AreKeepers rows (map keeper holders) → ((k : ℕ) (h : PageHolder) → slice_get holders k ≡ Some h → h.hand ≡ h.start) → ((k : ℕ) (h : PageHolder) → slice_get holders k ≡ Some h → h.kept ≡ []) → AreHeld rows holders nothing_passed
started rows holders are hands kept = record {
  ends = are;
  flows = λ n lt. ([], refl);
  conserve = λ k h at f.
      let a = ap (counted f) (none_in h.ends) in
      let b = ap (counted f) (none_out h.ends) in
      let c = ap (counted f) (hands k h at) in
      let d = ap (counted f) (kept k h at) in
      omega (arith, a, b, c, d);
}
