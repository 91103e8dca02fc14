-- The ends of actors, as they keep them, beside those that are wanted of them.
use Rattle.std.proofs.Common.{◌≡◌, ◌+◌, ◌<◌, ◌++◌, ℕ, zero, suc, Bool, Some, List, [], ◌∷◌, length, map, slice_get, refl, sym, ap, ◌∙◌, subst, arith}
use Rattle.std.proofs.lemmas.List.{length-map}
use Rattle.line_text.specs.Lists.{per_client}
use Rattle.wire_core.specs.declared.names.QueueId.{QueueId}
use Rattle.wire_core.specs.Ends.{Role, Consumer, Producer, End}
use Rattle.turn_kit.specs.Table.{Agrees}
use Rattle.turn_kit.specs.Turns.{Post}
use Rattle.turn_kit.specs.Posts.{intake_post, outlet_post}
use Rattle.turn_kit.specs.ManyEnds.{FitsIntakes, FitsOutlets, intake_posts, outlet_posts, intake_queues, outlet_queues, needs_from}
use Rattle.turn_kit.specs.declared.ends.Intake.{Intake}
use Rattle.turn_kit.specs.declared.ends.Outlet.{Outlet}
use Rattle.turn_kit.specs.declared.intakes.Intakes.{Intakes}
use Rattle.turn_kit.specs.declared.outlets.Outlets.{Outlets}
use Rattle.play_core.specs.Wants.{Want, intake_want, outlet_want}
use Rattle.play_core.specs.Rests.Meeting.{Met, Meet}
use Rattle.play_core.proofs.Lists.{some_is, map_get, there_below}
use Rattle.switched_law.specs.SwitchMoment.Scene.{AreAt}

module _ (ends : Role → ℕ → End) where
  -- one list of ends behind another
  pub meet_append : (ps qs : List Post) (ns ms : List Bool) (ws vs : List Want) → Meet ends ps ns ws → Meet ends qs ms vs → Meet ends (ps ++ qs) (ns ++ ms) (ws ++ vs)
  meet_append [] qs [] ms [] vs a b = b
  meet_append [] qs [] ms (w ∷ ws) vs a b = absurd a
  meet_append [] qs (n ∷ ns) ms ws vs a b = absurd a
  meet_append (p ∷ ps) qs [] ms ws vs a b = absurd a
  meet_append (p ∷ ps) qs (n ∷ ns) ms [] vs a b = absurd a
  meet_append (p ∷ ps) qs (n ∷ ns) ms (w ∷ ws) vs a b = (a.0, meet_append ps qs ns ms ws vs a.1 b)

  -- ends of one sort, one for each of so many ports
  each_meet : {X : Type 0} (post : X → Post) (queue : X → QueueId) (xs : List X) (s : ℕ) (need : ℕ → Bool) (n : ℕ) (value : ℕ → Want) → length xs ≡ n → ((k : ℕ) (x : X) → slice_get xs k ≡ Some x → Met ends (post x) (need (s + k)) (value k))
      → Meet ends (map post xs) (needs_from need s (map queue xs)) (per_client n value)
  each_meet post queue [] s need zero value many met = tt
  each_meet post queue [] s need (suc n) value many met = absurd (omega (arith, many))
  each_meet post queue (x ∷ xs) s need zero value many met = absurd (omega (arith, many))
  each_meet post queue (x ∷ xs) s need (suc n) value many met =
      let z : s + 0 ≡ s = omega arith in (
        subst (λ i. Met ends (post x) (need i) (value 0)) z (met 0 x refl),
        each_meet post queue xs (s + 1) need n (λ c. value (suc c)) (omega (arith, many)) (λ k y at. let next : s + suc k ≡ (s + 1) + k = omega arith in subst (λ i. Met ends (post y) (need i) (value (suc k))) next (met (suc k) y at)),
      )

  -- the number of a port's queue
  number_is : {X : Type 0} (queue : X → QueueId) (xs : List X) (n : ℕ) (at : ℕ → ℕ) → AreAt n at (map queue xs) → (k : ℕ) (x : X) → slice_get xs k ≡ Some x → (k < n) × ((queue x).0 ≡ at k)
  number_is queue xs n at are k x got =
      let low = there_below xs k x got in
      let many = are.many in
      let long = length-map xs queue in
      let less : k < n = omega (arith, low, many, long) in
      (less, ap (λ (q : QueueId). q.0) (some_is (sym (map_get queue xs k x got) ∙ are.each k less)))

  pub intakes_meet : (xs : Intakes) (n : ℕ) (at : ℕ → ℕ) (need want : ℕ → Bool) → FitsIntakes ends xs → AreAt n at (intake_queues xs) → ((k : ℕ) → k < n → need k ≡ want k)
      → Meet ends (intake_posts xs) (needs_from need 0 (intake_queues xs)) (per_client n (λ k. intake_want (at k) (want k)))
  intakes_meet xs n at need want fits are same =
      each_meet intake_post (λ (i : Intake). i.queue) xs.ends.items 0 need n (λ k. intake_want (at k) (want k)) (let a = are.many in let b = length-map xs.ends.items (λ (i : Intake). i.queue) in omega (arith, a, b))
      (λ k i got.
      let number = number_is (λ (j : Intake). j.queue) xs.ends.items n at are k i got in
      let z : 0 + k ≡ k = omega arith in
      record { needs = ap need z ∙ same k number.0; agrees = subst (λ q. Agrees (ends Consumer q) i.state) number.1 (fits.agrees k i got) })

  pub outlets_meet : (xs : Outlets) (n : ℕ) (at : ℕ → ℕ) (need want : ℕ → Bool) → FitsOutlets ends xs → AreAt n at (outlet_queues xs) → ((k : ℕ) → k < n → need k ≡ want k)
      → Meet ends (outlet_posts xs) (needs_from need 0 (outlet_queues xs)) (per_client n (λ k. outlet_want (at k) (want k)))
  outlets_meet xs n at need want fits are same =
      each_meet outlet_post (λ (i : Outlet). i.queue) xs.ends.items 0 need n (λ k. outlet_want (at k) (want k)) (let a = are.many in let b = length-map xs.ends.items (λ (i : Outlet). i.queue) in omega (arith, a, b))
      (λ k i got.
      let number = number_is (λ (j : Outlet). j.queue) xs.ends.items n at are k i got in
      let z : 0 + k ≡ k = omega arith in
      record { needs = ap need z ∙ same k number.0; agrees = subst (λ q. Agrees (ends Producer q) i.state) number.1 (fits.agrees k i got) })
