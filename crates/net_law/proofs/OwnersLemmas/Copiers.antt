use Rattle.std.proofs.Common.{◌≡◌, ◌+◌, ◌≤◌, ℕ, List, [], map, sum_by, refl, sym, ap, ◌∙◌, arith}
use Rattle.cargo_core.specs.Lists.{IsPrefix}
use Rattle.wire_core.specs.Lists.{Passed}
use Rattle.play_core.specs.Moved.{Moved}
use Rattle.owner_law.specs.Things.{times, names_in, Buffer, Window, Naming, Thing, as_buffer, as_lease, lends, brings_leases}
use Rattle.owner_law.specs.Keeping.{Keeps, all_taken, all_put, things_in, things_out}
use Rattle.owner_law.proofs.Sums.{sum_flat}
use Rattle.owner_law.proofs.Named.{carried, buffers_are, buffers_none, leases_are, leases_none, returns_are, returns_none, keeps_plain}
use Rattle.wire_core.specs.Fates.{without}
use Rattle.net_copier.specs.Copying.{CopierRow, leased_bytes, leases_dropped}
use Rattle.net_copier.specs.declared.NetCopier.{NetCopier}
use Rattle.net_law.specs.Owners.Ends.{AreItemsOf, copier_ends, CopierNames}
use Rattle.net_law.proofs.OwnersLemmas.Few.{few, filled_few}

module _ (naming : Naming) (leased buffers : List Window) (c : NetCopier) (passed : Passed) (m : Moved) (names : CopierNames naming leased buffers c) (items : AreItemsOf (copier_ends c) passed m) (row : CopierRow c passed) where
  abbrev came_leases : (Thing → ℕ) → ℕ
  came_leases f = carried naming m c.lease_input.queue.0 (m.taken c.lease_input.queue.0) f

  abbrev came_buffers : (Thing → ℕ) → ℕ
  came_buffers f = carried naming m c.buffer_input.queue.0 (m.taken c.buffer_input.queue.0) f

  abbrev went_buffers : (Thing → ℕ) → ℕ
  went_buffers f = carried naming m c.buffer_output.queue.0 (m.sent c.buffer_output.queue.0) f

  abbrev went_leases : (Thing → ℕ) → ℕ
  went_leases f = carried naming m c.lease_output.queue.0 (m.sent c.lease_output.queue.0) f

  copier_came : (f : Thing → ℕ) → sum_by f (all_taken naming m (copier_ends c)) ≡ came_leases f + came_buffers f
  copier_came f =
      let parts : sum_by f (all_taken naming m (copier_ends c)) ≡ 0 + came_leases f + came_buffers f + 0 + 0 = sum_flat f (things_in naming m) (copier_ends c) in
      omega (arith, parts)

  copier_went : (f : Thing → ℕ) → sum_by f (all_put naming m (copier_ends c)) ≡ went_buffers f + went_leases f
  copier_went f =
      let parts : sum_by f (all_put naming m (copier_ends c)) ≡ 0 + 0 + 0 + went_buffers f + went_leases f = sum_flat f (things_out naming m) (copier_ends c) in
      omega (arith, parts)

  copier_lends : (b : Buffer) → sum_by (lends b) (all_taken naming m (copier_ends c)) ≡ 0
  copier_lends b = omega (arith, copier_came (lends b), leases_none naming m c.lease_input.queue.0 (m.taken c.lease_input.queue.0) leased (lends b) names.leases refl (λ d. refl), buffers_none naming m c.buffer_input.queue.0 (m.taken c.buffer_input.queue.0) buffers (lends b) names.free refl (λ d. refl))

  copier_buffers : (b : Buffer) → sum_by (as_buffer b) (all_put naming m (copier_ends c)) ≤ sum_by (as_buffer b) (all_taken naming m (copier_ends c))
  copier_buffers b =
      let into = buffers_are naming m c.buffer_input.queue.0 (m.taken c.buffer_input.queue.0) buffers (as_buffer b) b names.free refl (λ d. refl) ∙ ap (λ xs. times b (names_in buffers xs)) (items 1 _ refl) in
      let out = buffers_are naming m c.buffer_output.queue.0 (m.sent c.buffer_output.queue.0) buffers (as_buffer b) b names.active refl (λ d. refl) ∙ ap (λ xs. times b (names_in buffers xs)) (items 2 _ refl) in
      omega (
        arith,
        copier_came (as_buffer b),
        copier_went (as_buffer b),
        into,
        out,
        returns_none naming m c.lease_output.queue.0 (m.sent c.lease_output.queue.0) leased (as_buffer b) names.returns refl (λ d. refl),
        filled_few b buffers (map leased_bytes (without (leases_dropped c passed.calls) row.leases)) (passed.sent c.buffer_output.queue.0) (passed.taken c.buffer_input.queue.0) row.copies,
      )

  copier_leases : (b : Buffer) → sum_by (as_lease b) (all_put naming m (copier_ends c)) ≤ sum_by (brings_leases b) (all_taken naming m (copier_ends c))
  copier_leases b =
      let into = leases_are naming m c.lease_input.queue.0 (m.taken c.lease_input.queue.0) leased (brings_leases b) b names.leases refl (λ d. refl) ∙ ap (λ xs. times b (names_in leased xs)) (items 0 _ refl) in
      let out = returns_are naming m c.lease_output.queue.0 (m.sent c.lease_output.queue.0) leased (as_lease b) b names.returns refl (λ d. refl) ∙ ap (λ xs. times b (names_in leased xs)) (items 3 _ refl) in
      let turn : IsPrefix row.leases (passed.taken c.lease_input.queue.0) = (row.stray, sym row.taken) in
      omega (
        arith,
        copier_came (brings_leases b),
        copier_went (as_lease b),
        into,
        out,
        buffers_none naming m c.buffer_output.queue.0 (m.sent c.buffer_output.queue.0) buffers (as_lease b) names.active refl (λ d. refl),
        few b leased (passed.sent c.lease_output.queue.0) row.leases row.gives_back,
        few b leased row.leases (passed.taken c.lease_input.queue.0) turn,
      )

  pub copier_keeps : Keeps (λ pool. []) (all_taken naming m (copier_ends c)) (all_put naming m (copier_ends c))
  copier_keeps = keeps_plain (λ pool. []) (all_taken naming m (copier_ends c)) (all_put naming m (copier_ends c)) copier_lends (λ b. omega (arith, copier_buffers b)) copier_leases
