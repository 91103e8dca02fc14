use Rattle.std.proofs.Common.{◌≡◌, ◌≢◌, ◌⊎◌, ◌≤◌, ℕ, true, false, Some, List, slice_get, slice_set, refl, sym, ap, ◌∙◌, inl, inr, arith}
use Rattle.std.proofs.Math.Dec.{eqb}
use Rattle.std.proofs.lemmas.Bool.Decides.{eqb_tells}
use Rattle.wire_core.specs.declared.names.Event.{Event}
use Rattle.wire_core.proofs.Places.{slice_get_written, slice_get_beside}
use Rattle.turn_kit.specs.Turns.{Post, Round, Turned, IsRound, is_at_rest, Unsettled, calls_on}
use Rattle.turn_kit.proofs.EveryState.{seven, six}
use Rattle.turn_kit.proofs.Choosing.{some_is}
use Rattle.turn_kit.proofs.Turning.{need_at, few_calls, settling_calls}

module _ (r : Round) (e : Event) (m : Round) (t : Turned r e m) where
  -- each end is there after the call, with its queue
  pub new_post : (k : ℕ) (p : Post) → slice_get r.posts k ≡ Some p → (q : Post) × (slice_get m.posts k ≡ Some q) × (q.queue ≡ p.queue)
  new_post k p at = decide (eqb_tells k t.place)
    where
      decide : ((eqb k t.place ≡ true) × (k ≡ t.place)) ⊎ ((eqb k t.place ≡ false) × (k ≢ t.place)) → (q : Post) × (slice_get m.posts k ≡ Some q) × (q.queue ≡ p.queue)
      decide (inl same) =
          let is : t.posted.post ≡ p = some_is (sym t.posted.there ∙ (sym (ap (slice_get r.posts) same.1) ∙ at)) in
          (t.posted.moved, ap (λ ps. slice_get ps k) t.posted.after ∙ (ap (slice_get (slice_set r.posts t.place t.posted.moved)) same.1 ∙ slice_get_written r.posts t.place t.posted.post t.posted.moved t.posted.there), ap (λ (x : Post). x.queue) t.posted.posted.after ∙ ap (λ (x : Post). x.queue) is)
      decide (inr apart) = (p, ap (λ ps. slice_get ps k) t.posted.after ∙ (slice_get_beside r.posts t.place k t.posted.moved apart.1 ∙ at), refl)

-- at most 7 calls on each end while some end isn't settled, and 6 where at last all are
pub seven_calls : (r new : Round) (es : List Event) → IsRound r → Unsettled r es new → (k : ℕ) (p : Post) → slice_get r.posts k ≡ Some p → calls_on p.queue es ≤ 7
seven_calls r new es ok u k p at = let n = need_at r.posts r.needs k p ok.needs at in let few = few_calls es r new ok u k p n.0 at n.1 in let most = seven p.state n.0 in omega (arith, few, most)

pub six_calls : (r new : Round) (es : List Event) → IsRound r → Unsettled r es new → is_at_rest new ≡ true → (k : ℕ) (p : Post) → slice_get r.posts k ≡ Some p → calls_on p.queue es ≤ 6
six_calls r new es ok u rest k p at = let n = need_at r.posts r.needs k p ok.needs at in let few = settling_calls es r new ok u rest k p n.0 at n.1 in let most = six p.state n.0 in omega (arith, few, most)
