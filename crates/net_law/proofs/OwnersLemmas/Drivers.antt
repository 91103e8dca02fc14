use Rattle.std.proofs.Common.{◌≡◌, ◌+◌, ◌≤◌, ℕ, suc, List, [], ◌∷◌, sum_by, refl, ap, ◌∙◌, arith}
use Rattle.std.proofs.lemmas.List.Sums.{sum_by-append}
use Rattle.wire_core.specs.Lists.{Passed}
use Rattle.play_core.specs.Moved.{Moved}
use Rattle.owner_law.specs.Things.{times, names_in, Buffer, Naming, Thing, Nothing, Whole, Frame, things_sent, things_taken, as_buffer, as_lease, lends}
use Rattle.owner_law.specs.Keeping.{Keeps, all_taken, all_put}
use Rattle.owner_law.proofs.Named.{carried, buffers_are, buffers_none, keeps_plain}
use Rattle.turn_kit.specs.declared.pipe.Pipe.{Pipe}
use Rattle.pipe_driver.specs.Drivers.{PipesRow}
use Rattle.net_law.specs.Owners.Ends.{AreItemsOf, pipe_ends, DriverNames}
use Rattle.net_law.proofs.OwnersLemmas.Few.{few, either_are, either_none}

module _ (naming : Naming) (passed : Passed) (m : Moved) where
  pipe_came : (f : Thing → ℕ) (p : Pipe) (ps : List Pipe) → sum_by f (all_taken naming m (pipe_ends (p ∷ ps))) ≡ carried naming m p.input.queue.0 (m.taken p.input.queue.0) f + sum_by f (all_taken naming m (pipe_ends ps))
  pipe_came f p ps = sum_by-append f (things_taken naming m p.input.queue.0) (all_taken naming m (pipe_ends ps))

  pipe_went : (f : Thing → ℕ) (p : Pipe) (ps : List Pipe) → sum_by f (all_put naming m (pipe_ends (p ∷ ps))) ≡ carried naming m p.output.queue.0 (m.sent p.output.queue.0) f + sum_by f (all_put naming m (pipe_ends ps))
  pipe_went f p ps = sum_by-append f (things_sent naming m p.output.queue.0) (all_put naming m (pipe_ends ps))

  pipes_buffers : (ps : List Pipe) → DriverNames naming ps → AreItemsOf (pipe_ends ps) passed m → PipesRow ps passed → (b : Buffer) → sum_by (as_buffer b) (all_put naming m (pipe_ends ps)) ≤ sum_by (as_buffer b) (all_taken naming m (pipe_ends ps))
  pipes_buffers [] names items row b = omega arith
  pipes_buffers (p ∷ ps) names items row b =
      let ws = names.0.0 in
      let into = buffers_are naming m p.input.queue.0 (m.taken p.input.queue.0) ws (as_buffer b) b names.0.1 refl (λ c. refl) ∙ ap (λ xs. times b (names_in ws xs)) (items 0 _ refl) in
      let out = either_are naming m p.output.queue.0 (m.sent p.output.queue.0) ws (as_buffer b) b names.0.2 refl (λ c. refl) (λ c r. refl) ∙ ap (λ xs. times b (names_in ws xs)) (items 1 _ refl) in
      omega (arith, pipe_came (as_buffer b) p ps, pipe_went (as_buffer b) p ps, into, out, few b ws (passed.sent p.output.queue.0) (passed.taken p.input.queue.0) row.0, pipes_buffers ps names.1 (λ i s at. items (suc (suc i)) s at) row.1 b)

  pipes_came_none : (ps : List Pipe) → DriverNames naming ps → (f : Thing → ℕ) → f Nothing ≡ 0 → ((c : Buffer) → f (Whole c) ≡ 0) → sum_by f (all_taken naming m (pipe_ends ps)) ≡ 0
  pipes_came_none [] names f none whole = refl
  pipes_came_none (p ∷ ps) names f none whole = omega (arith, pipe_came f p ps, buffers_none naming m p.input.queue.0 (m.taken p.input.queue.0) names.0.0 f names.0.1 none whole, pipes_came_none ps names.1 f none whole)

  pipes_went_none : (ps : List Pipe) → DriverNames naming ps → (f : Thing → ℕ) → f Nothing ≡ 0 → ((c : Buffer) → f (Whole c) ≡ 0) → ((c : Buffer) (r : ℕ) → f (Frame c r) ≡ 0) → sum_by f (all_put naming m (pipe_ends ps)) ≡ 0
  pipes_went_none [] names f none whole frame = refl
  pipes_went_none (p ∷ ps) names f none whole frame = omega (arith, pipe_went f p ps, either_none naming m p.output.queue.0 (m.sent p.output.queue.0) names.0.0 f names.0.2 none whole frame, pipes_went_none ps names.1 f none whole frame)

pub driver_keeps : (naming : Naming) (ps : List Pipe) (passed : Passed) (m : Moved) → DriverNames naming ps → AreItemsOf (pipe_ends ps) passed m → PipesRow ps passed → Keeps (λ pool. []) (all_taken naming m (pipe_ends ps)) (all_put naming m (pipe_ends ps))
driver_keeps naming ps passed m names items row = keeps_plain (λ pool. []) (all_taken naming m (pipe_ends ps)) (all_put naming m (pipe_ends ps))
    (λ b. pipes_came_none naming passed m ps names (lends b) refl (λ c. refl))
    (λ b. omega (arith, pipes_buffers naming passed m ps names items row b))
    (λ b. omega (arith, pipes_went_none naming passed m ps names (as_lease b) refl (λ c. refl) (λ c r. refl)))
