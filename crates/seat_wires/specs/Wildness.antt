-- Which queues of one's own are wild stays so: no call makes or ends a ring, or gives an end away.
use Rattle.std.proofs.Common.{◌≡◌, ℕ, zero, suc, true, List, [], ◌∷◌, Option, Some, slice_get}
use Rattle.std.proofs.Common.{slice_set, inl, inr, ⊎_elim, refl, sym, subst}
use Rattle.wire_core.specs.Deeds.{Deed}
use Rattle.wire_core.specs.Ends.{Role, Consumer, Producer}
use Rattle.spsc_queue.specs.Known.Ends.{EndIs}
use Rattle.seat_wires.specs.Places.Are.{SeatsAre}
use Rattle.seat_wires.specs.Places.{end_or, ends_of, with_ends, SeatDid, IsWildSeat}

-- an end that is written anew is still there
owned_stays : (es : List (Option EndIs)) (q n : ℕ) (e : EndIs)
    → (end_or (slice_get es n)).owned ≡ true
    → (end_or (slice_get (slice_set es q (Some e)) n)).owned ≡ true
owned_stays [] q n e h = h
owned_stays (a ∷ es) zero zero e h = refl
owned_stays (a ∷ es) zero (suc n) e h = h
owned_stays (a ∷ es) (suc q) zero e h = h
owned_stays (a ∷ es) (suc q) (suc n) e h = owned_stays es q n e h

written_stays : (s : SeatsAre) (r : Role) (q : ℕ) (e : EndIs) (n : ℕ) → IsWildSeat s n
    → IsWildSeat (with_ends s r (slice_set (ends_of s r) q (Some e))) n
written_stays s Consumer q e n w =
    (w.0, ⊎_elim (λ own. inl (owned_stays s.consumers q n e own)) (λ own. inr own) w.1)
written_stays s Producer q e n w =
    (w.0, ⊎_elim (λ own. inl own) (λ own. inr (owned_stays s.producers q n e own)) w.1)

-- a call leaves wild what is wild
pub stays : (old new : SeatsAre) (d : Deed) (n : ℕ) → SeatDid old d new → IsWildSeat old n
    → IsWildSeat new n
stays old new d n h w = subst (λ (z : SeatsAre). IsWildSeat z n) (sym h.after_is)
    (written_stays old h.maker d.event.queue.0 record { ring = h.before.ring; knows = h.knows } n w)
