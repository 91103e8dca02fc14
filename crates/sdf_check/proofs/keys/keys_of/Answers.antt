use Rattle.std.proofs.Common.{◌≡◌, ℕ, ◌+◌, ◌<◌, ◌≤◌, Bool, List, length, map, flat_map, take, Some, slice_get, sym, ap, ◌∙◌, subst, arith}
use Rattle.std.proofs.lemmas.List.{length-map, take_all}
use Rattle.sdf_plan.specs.ClassTable.Numbers.{seen}
use Rattle.sdf_plan.specs.ClassTable.Table.{Element, table_of}
use Rattle.sdf_check.specs.Keys.{AreFlags, names_of}
use Rattle.sdf_check.specs.Lookups.{FindsPlaces, names_shown}
use Rattle.sdf_check.proofs.KeyLemmas.{keys-step}
use Rattle.sdf_check.proofs.ValueLemmas.{at-map-item}
use Rattle.sdf_check.proofs.keys.keys_of.Goals as goal

pub loop-at-preserved : goal.loop-at-preserved
loop-at-preserved c =
    let items = c.in_ok-elements.elements.items in
    let es = map seen items in
    let less : c.loop-at.at < length items = omega (arith, c.loop-at-test.true, c.len-at-end.ensures, c.in_ok-elements.elements.ok.0) in
    let there : slice_get es c.loop-at.at ≡ Some (seen c.index.result.now) = at-map-item seen items c.loop-at.at c.index.result.now less c.index.ensures in
    let was = c.loop-at.invariant in
    let noted = c.in_ok-note_names.ensures was.0 in
    let names : names_shown c.deref.result.now ≡ names_of c.args.named (seen c.index.result.now) = ap names_shown c.deref.ensures.value ∙ c.in_ok-names.ensures in
    let step = keys-step (names_of c.args.named) es c.loop-at.at (seen c.index.result.now) (names_shown c.loop-at.all.items) (names_shown c.note_names.new.all.items) (names_shown c.deref.result.now)
    c.loop-at.again.items c.in_ok-note_names.field-0 there was.1 noted.1 names was.2 noted.2 in
    (noted.0, step.0, subst (AreFlags (names_of c.args.named) es (c.loop-at.at + 1)) (sym c.in_ok-push.ensures.items) step.1)

pub returns : goal.returns
returns c = λ plan are.
    let give = names_of c.args.named in
    let items = c.in_ok-elements.elements.items in
    let es = map seen items in
    let table : es ≡ table_of plan = c.in_ok-elements.ensures plan are in
    let many : length es ≡ length items = length-map items seen in
    let past : length es ≤ c.loop-at.at = omega (arith, many, c.loop-at-test.false, c.len-at-end.ensures, c.in_ok-elements.elements.ok.0) in
    let end : c.loop-at.at ≡ length es = omega (arith, past, many, c.loop-at.auto.at-end, c.len-at-end.ensures, c.in_ok-elements.elements.ok.0) in
    let was = c.loop-at.invariant in
    let all : names_shown c.loop-at.all.items ≡ flat_map give (table_of plan) = was.1 ∙ (ap (flat_map give) (take_all c.loop-at.at es past) ∙ ap (flat_map give) table) in
    let flags : AreFlags give es (length es) c.from_vec-again.result = subst (AreFlags give es (length es)) (sym c.from_vec-again.ensures) (subst (λ n. AreFlags give es n c.loop-at.again.items) end was.2) in
    record {
      places = subst (λ (names : List (List ℕ)). FindsPlaces c.loop-at.places names) all was.0;
      again = subst (λ (t : List Element). AreFlags give t (length t) c.from_vec-again.result) table flags;
    }
