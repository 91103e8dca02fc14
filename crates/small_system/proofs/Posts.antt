use Rattle.std.proofs.Common.{◌≡◌, ◌≢◌, ◌⊎◌, ℕ, zero, suc, Bool, true, false, Option, Some, None, List, [], ◌∷◌, slice_get, slice_set, refl, sym, ap, ◌∙◌, subst, inl, inr}
use Rattle.std.specs.List.{AllByRecursion}
use Rattle.std.proofs.Math.Dec.{eqb}
use Rattle.std.proofs.lemmas.Bool.Decides.{eqb_tells}
use Rattle.wire_core.specs.declared.names.Event.{Event}
use Rattle.wire_core.specs.declared.names.Side.{Side}
use Rattle.wire_core.specs.declared.names.Side.TheVariants.{Forward, Backward}
use Rattle.wire_core.specs.declared.names.Ringer.{Ringer}
use Rattle.wire_core.specs.declared.names.Ringer.TheVariants as Rung
use Rattle.wire_core.specs.declared.names.Waiter.{Waiter}
use Rattle.wire_core.specs.declared.names.Waiter.TheVariants as Wait
use Rattle.wire_core.specs.Ends.{Role, role_of, waiting_role}
use Rattle.wire_core.proofs.Places.{slice_get_written, slice_get_beside}
use Rattle.turn_kit.specs.declared.end_state.EndState.{EndState}
use Rattle.turn_kit.specs.Table.{next_of, next_op}
use Rattle.turn_kit.specs.Turns.{Post, Turned}
use Rattle.play_core.proofs.Lists.{some_is}
use Rattle.small_system.specs.Meanings.{Means, Own}

-- The ends of an actor stay where they are as it turns, and its call is at one of them.

-- each call of the table is at the end that waits on this side
next_role_of : (r : Ringer) (w : Waiter) (need : Bool) (look : Option Bool) (s : Side) → role_of (next_of r w need look s) ≡ waiting_role s
next_role_of Rung.Put w need look Forward = refl
next_role_of Rung.Put w need look Backward = refl
next_role_of Rung.Hot w need look Forward = refl
next_role_of Rung.Hot w need look Backward = refl
next_role_of Rung.Ringing w need look Forward = refl
next_role_of Rung.Ringing w need look Backward = refl
next_role_of Rung.Free Wait.Clear need look s = refl
next_role_of Rung.Free Wait.Off false look s = refl
next_role_of Rung.Free Wait.Busy false look s = refl
next_role_of Rung.Free Wait.Asked false look s = refl
next_role_of Rung.Free Wait.Asked true (Some true) s = refl
next_role_of Rung.Free Wait.Asked true (Some false) Forward = refl
next_role_of Rung.Free Wait.Asked true (Some false) Backward = refl
next_role_of Rung.Free Wait.Asked true None Forward = refl
next_role_of Rung.Free Wait.Asked true None Backward = refl
next_role_of Rung.Free Wait.Busy true (Some true) Forward = refl
next_role_of Rung.Free Wait.Busy true (Some true) Backward = refl
next_role_of Rung.Free Wait.Busy true (Some false) s = refl
next_role_of Rung.Free Wait.Busy true None Forward = refl
next_role_of Rung.Free Wait.Busy true None Backward = refl
next_role_of Rung.Free Wait.Off true (Some true) Forward = refl
next_role_of Rung.Free Wait.Off true (Some true) Backward = refl
next_role_of Rung.Free Wait.Off true (Some false) s = refl
next_role_of Rung.Free Wait.Off true None Forward = refl
next_role_of Rung.Free Wait.Off true None Backward = refl

next_role : (k : EndState) (s : Side) (need : Bool) → role_of (next_op k s need) ≡ waiting_role s
next_role k s need = next_role_of k.ringer k.waiter need k.look s

pub waiting_of : (s t : Side) → waiting_role s ≡ waiting_role t → s ≡ t
waiting_of Forward Forward h = refl
waiting_of Forward Backward h = cc
waiting_of Backward Forward h = cc
waiting_of Backward Backward h = refl

-- what holds of all holds of each
pub all_at : {T : Type 0} (P : T → Type 0) (xs : List T) → AllByRecursion P xs → (k : ℕ) (x : T) → slice_get xs k ≡ Some x → P x
all_at P [] h k x at = cc
all_at P (y ∷ xs) h zero x at = subst P (some_is at) h.0
all_at P (y ∷ xs) h (suc k) x at = all_at P xs h.1 k x at

-- an actor that was x is x' after a turn
module _ {A : Type 0} (m : Means A) (x x' : A) (e : Event) (t : Turned (m.round x) e (m.round x')) where
  pub own_call : Own m x (role_of e.op) e.queue.0
  own_call = record { place = t.place; post = t.posted.post; there = t.posted.there; queue = sym t.posted.posted.queue; role = sym (ap role_of t.posted.posted.op ∙ next_role t.posted.post.state t.posted.post.side t.need) }

  moved_queue : t.posted.moved.queue ≡ t.posted.post.queue
  moved_queue = ap (λ (p : Post). p.queue) t.posted.posted.after

  moved_side : t.posted.moved.side ≡ t.posted.post.side
  moved_side = ap (λ (p : Post). p.side) t.posted.posted.after

  back_case : (r : Role) (n j : ℕ) (p : Post) → slice_get (m.round x').posts j ≡ Some p → p.queue ≡ n → waiting_role p.side ≡ r → ((eqb j t.place ≡ true) × (j ≡ t.place)) ⊎ ((eqb j t.place ≡ false) × (j ≢ t.place)) → Own m x r n
  back_case r n j p at q s (inl same) =
      let is : t.posted.moved ≡ p = some_is (sym (slice_get_written (m.round x).posts t.place t.posted.post t.posted.moved t.posted.there) ∙ (sym (ap (λ ps. slice_get ps t.place) t.posted.after) ∙ (ap (slice_get (m.round x').posts) (sym same.1) ∙ at))) in
      record { place = t.place; post = t.posted.post; there = t.posted.there; queue = sym moved_queue ∙ (ap (λ (o : Post). o.queue) is ∙ q); role = ap waiting_role (sym moved_side ∙ ap (λ (o : Post). o.side) is) ∙ s }
  back_case r n j p at q s (inr away) = record { place = j; post = p; there = sym (slice_get_beside (m.round x).posts t.place j t.posted.moved away.1) ∙ (sym (ap (λ ps. slice_get ps j) t.posted.after) ∙ at); queue = q; role = s }

  pub own_back : (r : Role) (n : ℕ) → Own m x' r n → Own m x r n
  own_back r n o = back_case r n o.place o.post o.there o.queue o.role (eqb_tells o.place t.place)

  on_case : (r : Role) (n j : ℕ) (p : Post) → slice_get (m.round x).posts j ≡ Some p → p.queue ≡ n → waiting_role p.side ≡ r → ((eqb j t.place ≡ true) × (j ≡ t.place)) ⊎ ((eqb j t.place ≡ false) × (j ≢ t.place)) → Own m x' r n
  on_case r n j p at q s (inl same) =
      let is : t.posted.post ≡ p = some_is (sym t.posted.there ∙ (ap (slice_get (m.round x).posts) (sym same.1) ∙ at)) in
      record { place = t.place; post = t.posted.moved; there = ap (λ ps. slice_get ps t.place) t.posted.after ∙ slice_get_written (m.round x).posts t.place t.posted.post t.posted.moved t.posted.there; queue = moved_queue ∙ (ap (λ (o : Post). o.queue) is ∙ q); role = ap waiting_role (moved_side ∙ ap (λ (o : Post). o.side) is) ∙ s }
  on_case r n j p at q s (inr away) = record { place = j; post = p; there = ap (λ ps. slice_get ps j) t.posted.after ∙ (slice_get_beside (m.round x).posts t.place j t.posted.moved away.1 ∙ at); queue = q; role = s }

  pub own_on : (r : Role) (n : ℕ) → Own m x r n → Own m x' r n
  own_on r n o = on_case r n o.place o.post o.there o.queue o.role (eqb_tells o.place t.place)
