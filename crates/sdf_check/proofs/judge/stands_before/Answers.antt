use Rattle.std.proofs.Common.{sym, ◌≡◌, true, false}
use Rattle.sdf_check.proofs.RuleLemmas.{first-before, none-before, less-iff}
use Rattle.sdf_check.proofs.judge.stands_before.Goals as goal

pub returns-in-Some : goal.returns-in-Some
returns-in-Some c = λ names finds. less-iff (first-before c.args.name.now names c.in-Some.first c.args.number (sym (c.in-Some.ensures names finds)))

pub returns-in-None : goal.returns-in-None
returns-in-None c = λ names finds. (λ h. let no : false ≡ true = h in cc, λ earlier. absurd (none-before c.args.name.now names c.args.number (sym (c.in-None.ensures names finds)) earlier))
