-- An end that isn't settled is chosen before the rotation is asked.
use Rattle.std.proofs.Common.{◌≡◌, ◌⊎◌, ◌+◌, ◌<◌, ℕ, Bool, not, cond, Option, Some, None, is_none, List, [], ◌∷◌, length, refl, sym, ap, ◌∙◌, inl, inr, arith}
use Rattle.std.proofs.lemmas.Option.{slice_get_within}
use Rattle.turn_kit.specs.Table.{is_settled}
use Rattle.turn_kit.specs.Turns.{Post, Round, Choosing, choosing, choice_of, chosen_place, last_after, place_or, queue_or, lower_if, unsettled_from}
use Rattle.turn_kit.specs.declared.turns.Stand.{Stand}
use Rattle.turn_kit.proofs.Choosing.{best, is_loose, offered_best, Among, found}

loosest : (x : Option Stand) (place : ℕ) (ps : List Post) (ns : List Bool) → best is_loose x place ps ns ≡ unsettled_from x place ps ns
loosest x place [] ns = refl
loosest x place (p ∷ ps) [] = refl
loosest x place (p ∷ ps) (n ∷ ns) = loosest (lower_if (not (is_settled p.state n)) x (record { queue = p.queue; place = place })) (place + 1) ps ns

unsettled_is : (r : Round) → (choice_of r).unsettled ≡ unsettled_from None 0 r.posts r.needs
unsettled_is r = ap (λ (c : Choosing). c.unsettled) (offered_best (choosing (length r.posts) r.last) 0 r.posts r.needs) ∙ loosest None 0 r.posts r.needs

last_is : (r : Round) → (choice_of r).last ≡ r.last
last_is r = ap (λ (c : Choosing). c.last) (offered_best (choosing (length r.posts) r.last) 0 r.posts r.needs)

module _ (r : Round) (s : Stand) (h : unsettled_from None 0 r.posts r.needs ≡ Some s) where
  has : (choice_of r).unsettled ≡ Some s
  has = unsettled_is r ∙ h

  pub first_chosen : s.place ≡ chosen_place (choice_of r)
  first_chosen = sym (ap (λ (u : Option Stand). place_or u (place_or (choice_of r).after (place_or (choice_of r).first 0))) has)

  pub last_stays : r.last ≡ last_after (choice_of r)
  last_stays = sym (ap (λ (u : Option Stand). cond (is_none u) (queue_or (choice_of r).after (queue_or (choice_of r).first (choice_of r).last)) (choice_of r).last) has ∙ last_is r)

  within : (None ≡ Some s) ⊎ Among is_loose 0 r.posts r.needs s → s.place < length r.posts
  within (inl none) = cc
  within (inr a) =
      let there = slice_get_within r.posts a.k a.post a.there in
      let place = a.is_place in
      omega (arith, there, place)

  pub first_within : s.place < length r.posts
  first_within = within (found is_loose None 0 r.posts r.needs s (loosest None 0 r.posts r.needs ∙ h)).from
