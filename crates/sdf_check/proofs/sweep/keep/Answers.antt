use Rattle.std.proofs.Common.{◌≡◌, Some, sym, ◌∙◌, ap, arith, nat_cmp}
use Rattle.std.specs.BTreeMap.{get}
use Rattle.sdf_check.specs.Rules.{Range}
use Rattle.sdf_check.proofs.SweepLemmas.{holds-skip, holds-add, meets-kept, free-kept, get-new, none-is-some, some-inj}
use Rattle.sdf_check.proofs.sweep.keep.Goals as goal

pub returns-in_default : goal.returns-in_default
returns-in_default c = λ ranges at holds is.
    holds-skip (get nat_cmp c.args.kept.now) ranges at c.args.range is (λ base end e. absurd (none-is-some (sym c.in_default.is ∙ e))) holds

pub returns-then-end-base : goal.returns-then-end-base
returns-then-end-base c = λ ranges at holds is.
    holds-skip (get nat_cmp c.args.kept.now) ranges at c.args.range is
    (λ base end e.
    let same : (c.in-Some.base, c.in-Some.end) ≡ (base, end) = some-inj (sym c.in-Some.is ∙ e) in
    let eb : c.in-Some.base ≡ base = ap (λ (r : Range). r.0) same in
    let ee : c.in-Some.end ≡ end = ap (λ (r : Range). r.1) same in
    omega (arith, eb, ee, c.if-end-base.true)) holds

pub returns-then-meets_last : goal.returns-then-meets_last
returns-then-meets_last c = λ ranges at holds is.
    let m = c.if-meets_last.ensures in
    meets-kept (get nat_cmp c.args.kept.now) ranges at c.in-Some.base c.in-Some.end m.0 m.1 (is ∙ ap Some c.in-Some.is) c.if-end-base.false m.2 m.3 m.4 holds

pub returns : goal.returns
returns c = λ ranges at holds is.
    holds-add (get nat_cmp c.args.kept.now) (get nat_cmp c.insert.new.self) ranges at c.in-Some.base c.in-Some.end (is ∙ ap Some c.in-Some.is) c.if-end-base.false
    (free-kept (get nat_cmp c.args.kept.now) ranges at c.in-Some.base c.in-Some.end c.if-end-base.false c.if-meets_last.ensures holds)
    (λ q. get-new c.args.kept.now c.insert.new.self c.in-Some.base c.in-Some.end q (c.in_ok-insert.ensures.updates.0 q)) holds
