use Rattle.std.proofs.Common.{◌≡◌, true, false, sym, ◌∙◌, ap}
use Rattle.std.specs.BTreeMap.{get}
use Rattle.sdf_check.specs.Names.{domain_named}
use Rattle.sdf_check.specs.Uses.{use_cmp}
use Rattle.std.specs.Option.{is_some}
use Rattle.sdf_check.proofs.NameLemmas.{none-found}
use Rattle.sdf_check.proofs.UseLemmas.{skip-none, skip-had, uses-add}
use Rattle.sdf_check.proofs.uses.note.Goals as goal

pub returns-in_default : goal.returns-in_default
returns-in_default c = λ plan finds is u.
    skip-none (get use_cmp c.args.uses.now) plan c.args.channel c.args.at c.args.end.now is (ap (domain_named plan) (sym c.as_str.ensures) ∙ sym (c.in_default.ensures _ finds)) u

pub returns-then-contains_key : goal.returns-then-contains_key
returns-then-contains_key c = λ plan finds is u.
    skip-had (get use_cmp c.args.uses.now) plan c.args.channel c.args.at c.in-Some.domain c.args.end.now is (ap (domain_named plan) (sym c.as_str.ensures) ∙ sym (c.in-Some.ensures _ finds))
    (λ none. let no : true ≡ false = c.if-contains_key.ensures ∙ ap is_some none in cc) u

pub returns : goal.returns
returns c = λ plan finds is u.
    uses-add (get use_cmp c.args.uses.now) (get use_cmp c.insert.new.self) plan c.args.channel c.args.at c.in-Some.domain c.args.end.now is (ap (domain_named plan) (sym c.as_str.ensures) ∙ sym (c.in-Some.ensures _ finds))
    (none-found _ (sym c.contains_key.ensures ∙ c.if-contains_key.false))
    (λ q. c.in_ok-insert.ensures.updates.0 q) u
