use Rattle.cargo_core.specs.declared.item.Ask.{Ask}
use Rattle.client_programs.specs.Blk.Asking.{replies_to}
use Rattle.std.proofs.Common.{◌≡◌, ◌∷◌, [], List, sym, ap, ◌∙◌, refl, arith}
use Rattle.cargo_core.specs.Pages.{Paged}
use Rattle.buffer_kit.specs.Conserving.{counted}
use Rattle.buffer_kit.specs.Pools.{page_bodies}
use Rattle.client_programs.proofs.blk.asking.Asking.new.Goals as goal

pub returns-clause-hoard : goal.returns-clause-hoard
returns-clause-hoard c = let same = c.prepare.ensures.same in record {
  are_pool = rw (same.same_pool, ← c.deref.ensures.value) (c.pool_of-pool.ensures c.requires.pool.0 (rw c.deref.ensures.value c.requires.pool.1));
  many = sym (same.buffers ∙ (c.len-buffers.ensures ∙ c.args.pages.ok.0));
}

pub returns-clause-stands : goal.returns-clause-stands
returns-clause-stands c = c.prepare.ensures.stands c.args.pages.items [] [] (record {
  asks = λ more. rw c.new.ensures.pages refl;
  sent_many = refl;
  replied = c.new.ensures.shown ∙ none c.args.script.items;
  answered = omega arith;
})
  where
    none : (xs : List Ask) → [] ≡ replies_to xs []
    none [] = refl
    none (x ∷ xs) = refl

pub returns-clause-held : goal.returns-clause-held
returns-clause-held c = λ f. c.prepare.ensures.held f ∙ ap (λ (ps : List Paged). counted f (page_bodies ps)) c.new.ensures.pages
