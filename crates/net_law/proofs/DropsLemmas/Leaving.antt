use Rattle.std.proofs.Common.{◌≡◌, ◌++◌, ℕ, zero, suc, Bool, true, false, Some, List, [], ◌∷◌, length, map, take, slice_get, refl, sym, ap, ◌∙◌, subst}
use Rattle.std.proofs.lemmas.List.{map-append}
use Rattle.cargo_core.specs.Lists.{IsPrefix}
use Rattle.play_core.proofs.Lists.{some_is}
use Rattle.wire_core.specs.Deeds.{Cargo}
use Rattle.wire_core.specs.Fates.{without}
use Rattle.wire_core.specs.Lists.{Passed}
use Rattle.wire_core.proofs.Fating.{without_past}
use Rattle.buffer_kit.specs.Entries.{all_filled, filled, frame_of, len_of}
use Rattle.net_copier.specs.Copying.{CopierRow, leased_bytes, leases_dropped}
use Rattle.net_copier.specs.declared.NetCopier.{NetCopier}
use Rattle.net_law.specs.Delivering.{IsSubsequence, copied_bytes}
use Rattle.net_law.specs.Parts.Playing.{IsWhole}
use Rattle.net_law.specs.Parts.Rows.{accepted_by}
use Rattle.net_law.specs.Receiving.{AreRoomy}
use Rattle.net_law.proofs.Beginnings.{begins_on}
use Rattle.net_law.proofs.Filled.{frame_is, filled_len}
use Rattle.net_law.proofs.DeliveringLemmas.Leaving.{part_on, part_take}
use Rattle.net_law.proofs.DeliveringLemmas.Passing.{settled_few}

-- what is left was there
pub left_there : {X : Type 0} (bs : List Bool) (xs : List X) (k : ℕ) (x : X) → slice_get (without bs xs) k ≡ Some x → (i : ℕ) × (slice_get xs i ≡ Some x)
left_there [] xs k x at = (k, at)
left_there (b ∷ bs) [] k x at = cc
left_there (true ∷ bs) (y ∷ xs) k x at = let f = left_there bs xs k x at in (suc f.0, f.1)
left_there (false ∷ bs) (y ∷ xs) zero x at = (0, at)
left_there (false ∷ bs) (y ∷ xs) (suc k) x at = let f = left_there bs xs k x at in (suc f.0, f.1)

pub part_there : {X : Type 0} (xs ys : List X) → IsSubsequence xs ys → (k : ℕ) (x : X) → slice_get xs k ≡ Some x → (i : ℕ) × (slice_get ys i ≡ Some x)
part_there xs ys part k x at = left_there part.0 ys k x (ap (λ l. slice_get l k) part.1 ∙ at)

-- what is accepted was there
pub accepted_there : (drops : Bool) (marks : List Bool) (frames : List (List ℕ)) (k : ℕ) (f : List ℕ) → slice_get (accepted_by drops marks frames) k ≡ Some f → (i : ℕ) × (slice_get frames i ≡ Some f)
accepted_there true marks frames k f at =
    let part : IsSubsequence (without marks (take (length marks) frames)) frames = part_on (without marks (take (length marks) frames)) (take (length marks) frames) frames (marks, refl) (part_take (length marks) frames) in
    part_there (without marks (take (length marks) frames)) frames part k f at
accepted_there false marks frames k f at = (k, at)

-- an entry that is filled has a whole frame, where it has room
pub whole_filled : (fs : List (List ℕ)) (cs : List Cargo) → AreRoomy fs cs → (k : ℕ) (c : Cargo) → slice_get (all_filled fs cs) k ≡ Some c → IsWhole c
whole_filled [] cs room k c at = cc
whole_filled (f ∷ fs) [] room k c at = cc
whole_filled (f ∷ fs) (y ∷ cs) room zero c at = subst IsWhole (some_is at) (ap length (frame_is f y room.0) ∙ sym (filled_len f y room.0))
whole_filled (f ∷ fs) (y ∷ cs) room (suc k) c at = whole_filled fs cs room.1 k c at

-- entries that are filled with a beginning of these
filled_begins : (fs gs : List (List ℕ)) (cs : List Cargo) → IsPrefix (all_filled fs cs) (all_filled (fs ++ gs) cs)
filled_begins [] gs cs = (all_filled gs cs, refl)
filled_begins (f ∷ fs) gs [] = ([], refl)
filled_begins (f ∷ fs) gs (c ∷ cs) = let rest = filled_begins fs gs cs in (rest.0, ap (λ l. filled f c ∷ l) rest.1)

-- a copier fills what it puts with the leases that it didn't drop
pub copier_fills : (k : NetCopier) (passed : Passed) → CopierRow k passed → IsPrefix (passed.sent k.buffer_output.queue.0) (all_filled (copied_bytes k passed) (passed.taken k.buffer_input.queue.0))
copier_fills k passed row =
    let ds = leases_dropped k passed.calls in
    let cs = passed.taken k.buffer_input.queue.0 in
    let fs = map leased_bytes (without ds row.leases) in
    let gs = map leased_bytes row.stray in
    let parts : copied_bytes k passed ≡ fs ++ gs = ap (λ xs. map leased_bytes (without ds xs)) row.taken ∙ (ap (map leased_bytes) (without_past ds row.leases row.stray (settled_few k passed row)) ∙ map-append leased_bytes (without ds row.leases) row.stray) in
    subst (λ l. IsPrefix (passed.sent k.buffer_output.queue.0) (all_filled l cs)) (sym parts) (begins_on (passed.sent k.buffer_output.queue.0) (all_filled fs cs) (all_filled (fs ++ gs) cs) row.copies (filled_begins fs gs cs))
