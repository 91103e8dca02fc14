-- The end that is stepped is settled exactly where all ends are.
use Rattle.std.proofs.Common.{◌≡◌, ◌⊎◌, ◌+◌, ◌&&◌, ℕ, zero, suc, Bool, true, false, not, cond, nat_lt, Option, Some, None, is_none, inl, inr, List, [], ◌∷◌, slice_get, refl, sym, ap, ◌∙◌, add-zero, arith}
use Rattle.turn_kit.specs.Table.{is_settled}
use Rattle.turn_kit.specs.Turns.{Post, Round, lower_if, unsettled_from, settled_all, is_at_rest, choice_of, chosen_place}
use Rattle.turn_kit.specs.declared.turns.Stand.{Stand}
use Rattle.turn_kit.proofs.Unsettled.{first_chosen}
use Rattle.buffer_kit.specs.declared.virt_ends.VirtEnd.{VirtEnd}
use Rattle.buffer_kit.specs.Virtualising.{IsThere, virt_posts, place_of}
use Rattle.buffer_kit.proofs.ManyClients.{some_eq}
use Rattle.i2c_virt.specs.declared.virtualiser.I2cVirt.{I2cVirt}
use Rattle.i2c_virt.specs.Works.{is_owing, wants_at, gives_at}
use Rattle.i2c_virt.specs.Virtualising.{i2c_virt_round}
use Rattle.i2c_virt.proofs.Lowest.{rest_is, need_there}
use Rattle.i2c_virt.proofs.Loosening.{need_in}

-- the lowest is one of those that aren't settled
record Loosest (place : ℕ) (ps : List Post) (ns : List Bool) (s : Stand) : Type 0 where
  at : ℕ
  post : Post
  need : Bool
  at_post : slice_get ps at ≡ Some post
  at_need : slice_get ns at ≡ Some need
  is_place : s.place ≡ place + at
  loose : is_settled post.state need ≡ false

lower_case : (b : Bool) (x : Option Stand) (y s : Stand) → lower_if (not b) x y ≡ Some s → (x ≡ Some s) ⊎ ((y ≡ s) × (b ≡ false))
lower_case true x y s h = inl h
lower_case false None y s h = inr (some_eq h, refl)
lower_case false (Some z) y s h = by (nat_lt y.queue z.queue) (some_eq h)
  where
    by : (t : Bool) → cond t y z ≡ s → (Some z ≡ Some s) ⊎ ((y ≡ s) × (false ≡ false))
    by true e = inr (e, refl)
    by false e = inl (ap Some e)

loosest : (x : Option Stand) (place : ℕ) (ps : List Post) (ns : List Bool) (s : Stand) → unsettled_from x place ps ns ≡ Some s → (x ≡ Some s) ⊎ Loosest place ps ns s
loosest x place [] ns s h = inl h
loosest x place (p ∷ ps) [] s h = inl h
loosest x place (p ∷ ps) (n ∷ ns) s h = by (loosest (lower_if (not (is_settled p.state n)) x (record { queue = p.queue; place = place })) (place + 1) ps ns s h)
  where
    here : (x ≡ Some s) ⊎ ((record { queue = p.queue; place = place } ≡ s) × (is_settled p.state n ≡ false)) → (x ≡ Some s) ⊎ Loosest place (p ∷ ps) (n ∷ ns) s
    here (inl e) = inl e
    here (inr (e, f)) = inr (record { at = 0; post = p; need = n; at_post = refl; at_need = refl; is_place = ap (λ (z : Stand). z.place) (sym e) ∙ sym (add-zero place); loose = f })

    by : (lower_if (not (is_settled p.state n)) x (record { queue = p.queue; place = place }) ≡ Some s) ⊎ Loosest (place + 1) ps ns s → (x ≡ Some s) ⊎ Loosest place (p ∷ ps) (n ∷ ns) s
    by (inl e) = here (lower_case (is_settled p.state n) x (record { queue = p.queue; place = place }) s e)
    by (inr l) = inr (record { at = suc l.at; post = l.post; need = l.need; at_post = l.at_post; at_need = l.at_need; is_place = let e = l.is_place in omega (arith, e); loose = l.loose })

each_of : (a b : Bool) → (a && b) ≡ true → (a ≡ true) × (b ≡ true)
each_of true b h = (refl, h)
each_of false b h = cc

-- where all are settled, each is
settled_each : (ps : List Post) (ns : List Bool) (k : ℕ) (p : Post) (n : Bool) → settled_all ps ns ≡ true → slice_get ps k ≡ Some p → slice_get ns k ≡ Some n → is_settled p.state n ≡ true
settled_each [] ns k p n h at need = cc
settled_each (q ∷ ps) [] k p n h at need = cc
settled_each (q ∷ ps) (m ∷ ns) zero p n h at need = ap (λ (z : Post). is_settled z.state n) (sym (some_eq at)) ∙ (ap (is_settled q.state) (sym (some_eq need)) ∙ (each_of (is_settled q.state m) (settled_all ps ns) h).0)
settled_each (q ∷ ps) (m ∷ ns) (suc k) p n h at need = settled_each ps ns k p n (each_of (is_settled q.state m) (settled_all ps ns) h).1 at need

module _ (r : Round) (k : ℕ) (rested : Bool) (is : rested ≡ is_at_rest r) (chosen : k ≡ chosen_place (choice_of r)) (p : Post) (n : Bool) (at : slice_get r.posts k ≡ Some p) (need : slice_get r.needs k ≡ Some n) where
  loose_one : (s : Stand) → s.place ≡ k → (None ≡ Some s) ⊎ Loosest 0 r.posts r.needs s → is_settled p.state n ≡ false
  loose_one s place (inl none) = cc
  loose_one s place (inr l) =
      let e = l.is_place in
      let same : l.at ≡ k = omega (arith, e, place) in
      let post_same : l.post ≡ p = some_eq (sym l.at_post ∙ (ap (slice_get r.posts) same ∙ at)) in
      let need_same : l.need ≡ n = some_eq (sym l.at_need ∙ (ap (slice_get r.needs) same ∙ need)) in
      ap (λ (z : Post). is_settled z.state n) (sym post_same) ∙ (ap (is_settled l.post.state) (sym need_same) ∙ l.loose)

  by_lowest : (u : Option Stand) → unsettled_from None 0 r.posts r.needs ≡ u → rested ≡ is_settled p.state n
  by_lowest None h =
      let all : is_at_rest r ≡ true = rest_is 0 r.posts r.needs ∙ ap is_none h in
      is ∙ (all ∙ sym (settled_each r.posts r.needs k p n all at need))
  by_lowest (Some s) h =
      let some : is_at_rest r ≡ false = rest_is 0 r.posts r.needs ∙ ap is_none h in
      let place : s.place ≡ k = first_chosen r s h ∙ sym chosen in
      is ∙ (some ∙ sym (loose_one s place (loosest None 0 r.posts r.needs s h)))

  rest_settled : rested ≡ is_settled p.state n
  rest_settled = by_lowest (unsettled_from None 0 r.posts r.needs) refl

pub rested_at : (v : I2cVirt) (at : VirtEnd) (rested : Bool) → rested ≡ is_at_rest (i2c_virt_round v) → place_of v.ends at ≡ chosen_place (choice_of (i2c_virt_round v)) → IsThere v.ends at → (p : Post) → slice_get (virt_posts v.ends) (place_of v.ends at) ≡ Some p → rested ≡ is_settled p.state (need_in v at)
rested_at v at rested is chosen there p h = rest_settled (i2c_virt_round v) (place_of v.ends at) rested is chosen p (need_in v at) h (need_there v.ends (is_none v.work.stray) (is_owing v.work) (wants_at v.work) (gives_at v.work) at there)
