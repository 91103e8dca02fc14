use Rattle.std.proofs.Common.{◌≡◌, false, true, sym, ◌∙◌, ap}
use Rattle.sdf_check.specs.Names.{place_of}
use Rattle.std.proofs.Common.{refl}
use Rattle.sdf_check.proofs.NamedLemmas.{named-some, named-none}
use Rattle.sdf_check.proofs.class.is_named.Goals as goal

pub returns-in-Some : goal.returns-in-Some
returns-in-Some c = λ all finds.
    (λ t. named-some c.args.name.now all _ (sym (c.in-Some.ensures all finds)), λ s. refl)

pub returns-in-None : goal.returns-in-None
returns-in-None c = λ all finds. (
  λ h. let no : false ≡ true = h in cc,
  λ s.
      absurd (named-none c.args.name.now all (sym (c.in-None.ensures all finds)) s),
)
