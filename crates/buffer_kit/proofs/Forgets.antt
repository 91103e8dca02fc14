use Rattle.std.proofs.Common.{◌≡◌, ℕ, List, [], ◌∷◌, map, Some, None, slice_get, refl, sym, ap, ◌∙◌}
use Rattle.wire_core.specs.Ends.{Role, Consumer, Producer, End}
use Rattle.turn_kit.specs.Table.{Agrees}
use Rattle.turn_kit.specs.declared.ends.Intake.{Intake}
use Rattle.turn_kit.specs.declared.ends.Outlet.{Outlet}
use Rattle.turn_kit.specs.declared.end_state.EndState.{EndState}
use Rattle.buffer_kit.specs.Virtualising.{intake_forgotten, outlet_forgotten}
use Rattle.buffer_kit.proofs.Places.{each_changed}

forgotten_queues : (xs : List Intake) → map (λ (i : Intake). i.queue) (map intake_forgotten xs) ≡ map (λ (i : Intake). i.queue) xs
forgotten_queues [] = refl
forgotten_queues (x ∷ xs) = ap (λ qs. x.queue ∷ qs) (forgotten_queues xs)

pub intakes_stay : (xs xs' : List Intake) → xs' ≡ map intake_forgotten xs → map (λ (i : Intake). i.queue) xs' ≡ map (λ (i : Intake). i.queue) xs
intakes_stay xs xs' e = ap (map (λ (i : Intake). i.queue)) e ∙ forgotten_queues xs

forgotten_out : (xs : List Outlet) → map (λ (i : Outlet). i.queue) (map outlet_forgotten xs) ≡ map (λ (i : Outlet). i.queue) xs
forgotten_out [] = refl
forgotten_out (x ∷ xs) = ap (λ qs. x.queue ∷ qs) (forgotten_out xs)

pub outlets_stay : (xs xs' : List Outlet) → xs' ≡ map outlet_forgotten xs → map (λ (i : Outlet). i.queue) xs' ≡ map (λ (i : Outlet). i.queue) xs
outlets_stay xs xs' e = ap (map (λ (i : Outlet). i.queue)) e ∙ forgotten_out xs

pub still_agrees : (e : End) (k : EndState) → Agrees e k → Agrees e (record k { look = None })
still_agrees e k h = record { owned = h.owned; waiter = h.waiter; ringer = h.ringer; looked = λ no_look. cc }

pub intakes_agree : (ends : Role → ℕ → End) (xs xs' : List Intake) → xs' ≡ map intake_forgotten xs → ((k : ℕ) (i : Intake) → slice_get xs k ≡ Some i → Agrees (ends Consumer i.queue.0) i.state) → (k : ℕ) (i : Intake) → slice_get xs' k ≡ Some i → Agrees (ends Consumer i.queue.0) i.state
intakes_agree ends xs xs' e h k i at = each_changed intake_forgotten (λ (i : Intake). Agrees (ends Consumer i.queue.0) i.state) (λ x a. still_agrees (ends Consumer x.queue.0) x.state a) xs h k i (ap (λ l. slice_get l k) (sym e) ∙ at)

pub outlets_agree : (ends : Role → ℕ → End) (xs xs' : List Outlet) → xs' ≡ map outlet_forgotten xs → ((k : ℕ) (i : Outlet) → slice_get xs k ≡ Some i → Agrees (ends Producer i.queue.0) i.state) → (k : ℕ) (i : Outlet) → slice_get xs' k ≡ Some i → Agrees (ends Producer i.queue.0) i.state
outlets_agree ends xs xs' e h k i at = each_changed outlet_forgotten (λ (i : Outlet). Agrees (ends Producer i.queue.0) i.state) (λ x a. still_agrees (ends Producer x.queue.0) x.state a) xs h k i (ap (λ l. slice_get l k) (sym e) ∙ at)
