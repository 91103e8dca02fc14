use Rattle.std.proofs.Common.{rules, ◌≡◌, ◌+◌, ◌++◌, [], ◌∷◌, List, length, map, vec_len, refl, sym, ap, ◌∙◌, arith, append_assoc}
use Rattle.cargo_core.specs.Pages.{Paged}
use Rattle.cargo_core.specs.declared.item.Body.TheVariants as Carried
use Rattle.client_programs.proofs.rogue.calls.kept_pages.Goals as goal

pub loop-page-init : goal.loop-page-init
loop-page-init c = (rw (c.in_ok-kept.ensures.items, c.into_iter-page-iterator.ensures.into_iter_gives.0) refl, (let a = ap length c.into_iter-page-iterator.ensures.into_iter_gives.0 in let b : length c.args.pages.items ≡ c.len.result = search rules in omega (arith, a, b, c.in_ok-kept.ensures.len, c.in_ok-kept.ensures.capacity)))

pub unwrap-requires : goal.unwrap-requires
unwrap-requires c = c.push.ensures.succeeds (let a = ap length c.in-Some.ensures.steps.0 in omega (arith, a, c.loop-page.invariant.1))

pub loop-page-preserved : goal.loop-page-preserved
loop-page-preserved c =
    let i : c.push.new.self.items ≡ c.loop-page.kept.items ++ Carried.Page c.in-Some.page ∷ [] = search rules in
    let n : vec_len c.push.new.self ≡ vec_len c.loop-page.kept + 1 = search rules in
    let a = ap length c.in-Some.ensures.steps.0 in
    let w = ap (λ (ps : List Paged). c.loop-page.kept.items ++ map Carried.Page ps) c.in-Some.ensures.steps.0 in
    (rw i (append_assoc c.loop-page.kept.items (Carried.Page c.in-Some.page ∷ []) _ ∙ (sym w ∙ c.loop-page.invariant.0)), omega (arith, a, n, c.loop-page.invariant.1, c.push.ensures.capacity))
