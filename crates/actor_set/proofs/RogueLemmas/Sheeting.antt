-- What is said of the part of a hostile client speaks of its own ends, and its needs follow.
use Rattle.std.proofs.Common.{◌≡◌, ◌++◌, ℕ, zero, suc, true, false, Some, List, [], ◌∷◌, map, slice_get, refl, sym, ap, ◌∙◌}
use Rattle.cargo_core.specs.declared.item.Item.TheVariants as Carried
use Rattle.wire_core.specs.Ends.{Consumer, Producer}
use Rattle.play_core.specs.Wants.{Want, seat_of, intake, outlet, intake_want, outlet_want}
use Rattle.play_core.specs.Sheets.{IsOwn, NeedsFollow}
use Rattle.actor_set.specs.Rogues.{rogue_sheet}

some_want : (a b : Want) → Some a ≡ Some b → a ≡ b
some_want a b h = cc

outs : (outputs : List ℕ) → map seat_of (map (λ n. outlet_want n true) outputs) ≡ map outlet outputs
outs [] = refl
outs (n ∷ ns) = ap (λ ss. outlet n ∷ ss) (outs ns)

ends_are : (inputs outputs : List ℕ) → map seat_of (map (λ n. intake_want n false) inputs ++ map (λ n. outlet_want n true) outputs) ≡ map intake inputs ++ map outlet outputs
ends_are [] outputs = outs outputs
ends_are (n ∷ ns) outputs = ap (λ ss. intake n ∷ ss) (ends_are ns outputs)

need_out : (outputs : List ℕ) (i : ℕ) (w : Want) → slice_get (map (λ n. outlet_want n true) outputs) i ≡ Some w → w.need ≡ true
need_out [] i w at = cc
need_out (n ∷ ns) zero w at = ap (λ (x : Want). x.need) (some_want w (outlet_want n true) (sym at))
need_out (n ∷ ns) (suc i) w at = need_out ns i w at

need_is : (inputs outputs : List ℕ) (i : ℕ) (w : Want) → slice_get (map (λ n. intake_want n false) inputs ++ map (λ n. outlet_want n true) outputs) i ≡ Some w → w.role ≡ Producer → w.need ≡ true
need_is [] outputs i w at r = need_out outputs i w at
need_is (n ∷ ns) outputs zero w at r = let e : Consumer ≡ Producer = ap (λ (x : Want). x.role) (some_want (intake_want n false) w at) ∙ r in cc
need_is (n ∷ ns) outputs (suc i) w at r = need_is ns outputs i w at r

pub own_sheet : (inputs outputs : List ℕ) (hand : ℕ → List ℕ) → IsOwn (rogue_sheet inputs outputs hand)
own_sheet inputs outputs hand = record { row = λ a b same look h. tt; wants = λ a b same look. refl; ends = λ m. ends_are inputs outputs }

pub needs_sheet : (inputs outputs : List ℕ) (hand : ℕ → List ℕ) → NeedsFollow (rogue_sheet inputs outputs hand)
needs_sheet inputs outputs hand = record {
  owed = λ m apart h i w at r n. (Carried.Byte 0, tt);
  only = λ m apart h i w at r c. need_is inputs outputs i w at r;
  due = λ m i d at. cc;
}
