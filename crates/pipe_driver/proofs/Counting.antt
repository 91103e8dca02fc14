use Rattle.std.proofs.Common.{◌≡◌, ◌+◌, ◌*◌, ℕ, Bool, Option, Some, None, List, [], ◌∷◌, length, refl, sym, ap, ◌∙◌, suc, arith}
use Rattle.turn_kit.specs.Table.{is_settled}
use Rattle.turn_kit.specs.Turns.{Post, Choosing, choice_with, offered_from, choosing, choice_of, unsettled_from}
use Rattle.turn_kit.specs.declared.turns.Stand.{Stand}
use Rattle.turn_kit.specs.declared.pipe.Pipe.{Pipe}
use Rattle.pipe_driver.specs.Drivers.{pipe_posts, pipe_needs, pipes_round}

-- each pipe has two ends
pub post_count : (ps : List Pipe) → length (pipe_posts ps) ≡ 2 * length ps
post_count [] = refl
post_count (p ∷ ps) = let h = post_count ps in omega (arith, h)

-- and each end its need
pub need_count : (ps : List Pipe) → length (pipe_needs ps) ≡ length (pipe_posts ps)
need_count [] = refl
need_count (p ∷ ps) = ap (λ (n : ℕ). suc (suc n)) (need_count ps)

-- offering ends changes no count
offered_count : (c : Choosing) (place : ℕ) (posts : List Post) (needs : List Bool) → (offered_from c place posts needs).count ≡ c.count
offered_count c place [] needs = refl
offered_count c place (p ∷ posts) [] = refl
offered_count c place (p ∷ posts) (n ∷ needs) = offered_count (choice_with c (record { queue = p.queue; place = place }) (is_settled p.state n)) (place + 1) posts needs

-- all ends were offered
module _ (ps : List Pipe) (last n : ℕ) (c0 c1 : Choosing) (two : n ≡ 2 * length ps) (begun : c0 ≡ choosing n last) (all : c1 ≡ offered_from c0 0 (pipe_posts ps) (pipe_needs ps)) where
  pub pipes_choice : c1 ≡ choice_of (pipes_round ps last)
  pipes_choice = all ∙ ap (λ (c : Choosing). offered_from c 0 (pipe_posts ps) (pipe_needs ps)) (begun ∙ ap (λ (m : ℕ). choosing m last) (two ∙ sym (post_count ps)))

  pub pipes_count : c1.count ≡ n
  pipes_count = ap (λ (c : Choosing). c.count) all ∙ (offered_count c0 0 (pipe_posts ps) (pipe_needs ps) ∙ ap (λ (c : Choosing). c.count) begun)

-- the lowest unsettled end was found
pub pipes_first : (ps : List Pipe) (x y : Option Stand) (s : Stand) → x ≡ None → y ≡ unsettled_from x 0 (pipe_posts ps) (pipe_needs ps) → Some s ≡ y → unsettled_from None 0 (pipe_posts ps) (pipe_needs ps) ≡ Some s
pipes_first ps x y s none all is = ap (λ (z : Option Stand). unsettled_from z 0 (pipe_posts ps) (pipe_needs ps)) (sym none) ∙ (sym all ∙ sym is)
