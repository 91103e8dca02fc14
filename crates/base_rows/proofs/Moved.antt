use Rattle.std.proofs.Common.{◌≡◌, ℕ, List, length, length-set, refl, ap, ◌∙◌}
use Rattle.wire_core.specs.Deeds.{Deed}
use Rattle.wire_core.specs.Ends.{Role, role_of}
use Rattle.wire_core.specs.Queues.{Queue, Happens, after, queue_at}
use Rattle.wire_core.proofs.Moving.{moves}
use Rattle.base_rows.specs.Hands.{OnlyAt}

module _ (role : Role) (place : ℕ) where
  pub nothing : (w : List Queue) → OnlyAt role place w w
  nothing w = record { long = refl; rest = λ r n away. refl; kinds = λ r n. refl }

  -- one call of this end
  pub one : (w v : List Queue) (d : Deed) → role_of d.event.op ≡ role → d.event.queue.0 ≡ place → Happens w d v → OnlyAt role place w v
  one w v d r q h = let m = moves w d v h in record {
    long = ap length h.after_is ∙ length-set w d.event.queue.0 (after (queue_at w d.event.queue.0) d);
    rest = λ s n away. m.others s n (λ a b. away (a ∙ r) (b ∙ q));
    kinds = m.kinds;
  }

  pub then : (a b c : List Queue) → OnlyAt role place a b → OnlyAt role place b c → OnlyAt role place a c
  then a b c x y = record {
    long = y.long ∙ x.long;
    rest = λ r n away. y.rest r n away ∙ x.rest r n away;
    kinds = λ r n. y.kinds r n ∙ x.kinds r n;
  }
