use Rattle.std.proofs.Common.{◌≡◌, ◌≤◌, ◌+◌, ◌++◌, length, map, vec_len, vec_capacity}
use Rattle.std.specs.Vec.Iter.{into_iter_items}
use Rattle.cargo_core.specs.declared.item.Body.TheVariants as Carried
use Rattle.client_programs.proofs.rogue.calls.kept_pages.Given as goal

abbrev pub invariant-loop-page : goal.invariant-loop-page
invariant-loop-page l = (l.kept.items ++ map Carried.Page (into_iter_items l.page-iterator) ≡ map Carried.Page l.fn.pages.items) × (vec_len l.kept + length (into_iter_items l.page-iterator) + l.fn.more ≤ vec_capacity l.kept)
