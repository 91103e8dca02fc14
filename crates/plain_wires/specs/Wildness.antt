-- Which queues are wild stays so: no call makes or ends one.
use Rattle.std.proofs.Common.{◌<◌, ℕ, List, length, length-set, sym, ap, ◌∙◌, subst}
use Rattle.wire_core.specs.Deeds.{Deed}
use Rattle.wire_core.specs.Queues.{Queue, Happens}

-- no queue comes or goes
pub stays : (old new : List Queue) (d : Deed) (n : ℕ) → Happens old d new → n < length old
    → n < length new
stays old new d n h l =
    subst (λ m. n < m) (sym (ap length h.after_is ∙ length-set old d.event.queue.0 _)) l
