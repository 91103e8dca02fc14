use Rattle.std.proofs.Common.{ℕ, List, nat_cmp, sym, ◌∙◌}
use Rattle.std.specs.Cmp.Lexicographic.{slice_cmp}
use Rattle.std.specs.BTreeMap.{get_by}
use Rattle.std.proofs.lemmas.Map.Text.{btree_map_updates_str}
use Rattle.sdf_check.proofs.NameLemmas.{note-new, note-had, none-found}
use Rattle.sdf_check.proofs.names.note.Goals as goal

pub returns-in_ok-insert : goal.returns-in_ok-insert
returns-in_ok-insert c = λ names len finds name.
    note-new c.args.name.now name names c.args.at (λ (q : List ℕ). get_by (λ key. slice_cmp nat_cmp q key.now) c.args.places.now)
    (λ (q : List ℕ). get_by (λ key. slice_cmp nat_cmp q key.now) c.insert.new.self) len finds
    (none-found _ (sym c.contains_key.ensures ∙ c.if-not-contains_key.true))
    (btree_map_updates_str c.args.name.now c.args.places.now c.insert.new.self _ c.in_ok-insert.ensures.updates name)

pub returns-else-not-contains_key : goal.returns-else-not-contains_key
returns-else-not-contains_key c = λ names len finds name.
    note-had c.args.name.now name names (λ (q : List ℕ). get_by (λ key. slice_cmp nat_cmp q key.now) c.args.places.now) finds (sym c.contains_key.ensures ∙ c.if-not-contains_key.false)
