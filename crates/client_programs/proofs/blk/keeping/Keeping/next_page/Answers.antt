use Rattle.std.proofs.Common.{◌≡◌, ◌<◌, ◌↔◌, IsSome, subst, ◌++◌, List, [], reverse, ◌∙◌, sym, ap}
use Rattle.std.specs.Option.{option_to_list}
use Rattle.std.proofs.Common.{append_assoc}
use Rattle.cargo_core.specs.Pages.{Paged}
use Rattle.client_programs.specs.Blk.Kept.{Kept}
use Rattle.client_programs.proofs.BlkLemmas.Pages.{popped, none_popped}
use Rattle.client_programs.proofs.blk.keeping.Keeping.next_page.Goals as goal

list_is : (c : goal.After-pop) → c.args.self.now.pages ≡ reverse c.refill.new.front.items ++ c.refill.new.back.items
list_is c = ap (λ (k : Kept). k.pages) (sym c.self.view_is) ∙ sym c.refill.ensures.all

pub returns-clause-pages : goal.returns-clause-pages
returns-clause-pages c =
    list_is c ∙ (ap (λ (xs : List Paged). xs ++ c.refill.new.back.items) (popped c.refill.new.front.items c.pop.new.self.items c.pop.result c.pop.ensures.items)
    ∙ append_assoc (option_to_list c.pop.result) (reverse c.pop.new.self.items) c.refill.new.back.items)

pub returns-clause-none : goal.returns-clause-none
returns-clause-none c = λ none.
    let front : c.refill.new.front.items ≡ [] = none_popped c.refill.new.front.items c.pop.result (subst (λ n. IsSome c.pop.result ↔ (0 < n)) c.refill.new.front.ok.0 c.pop.ensures.variant) none in
    list_is c ∙ (ap (λ (xs : List Paged). reverse xs ++ c.refill.new.back.items) front ∙ c.refill.ensures.some front)
