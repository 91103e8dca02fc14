use Rattle.std.proofs.Common.{◌≡◌, ◌==◌, ◌&&◌, ◌||◌, ◌<◌, ◌+◌, ℕ, zero, suc, Bool, true, false, not, Some, List, [], ◌∷◌, length, slice_get, refl, subst, arith, eq-eqb}
use Rattle.wire_core.specs.declared.names.QueueRow.{QueueRow}
use Rattle.wire_core.specs.declared.names.Entry.{Entry}
use Rattle.wire_core.specs.Bells.{is_free}
use Rattle.wire_core.specs.Ends.{Consumer, Producer}
use Rattle.wire_core.specs.Queues.{Bells, calls}
use Rattle.wire_core.specs.Journal.{History, Hostiles, Track, track, is_calm}
use Rattle.play_core.specs.Wants.{Want, Needful, want_settled, all_settled}
use Rattle.play_core.specs.Runs.{called_from}
use Rattle.play_core.specs.Resting.{BellRests, QueueRests, QueuePays, is_due}
use Rattle.play_core.specs.Still.{IsStill, HasWant, Needs, Owes}
use Rattle.play_core.proofs.OneQueue.{queue_rests, queue_pays}

pub neither_left : (a b : Bool) → (a || b) ≡ false → a ≡ false
neither_left true b h = h
neither_left false b h = refl

pub neither_right : (a b : Bool) → (a || b) ≡ false → b ≡ false
neither_right true b h = cc
neither_right false b h = h

both_left : (a b : Bool) → (a && b) ≡ true → a ≡ true
both_left true b h = refl
both_left false b h = h

both_right : (a b : Bool) → (a && b) ≡ true → b ≡ true
both_right true b h = h
both_right false b h = cc

not_false : (b : Bool) → not b ≡ false → b ≡ true
not_false true h = refl
not_false false h = cc

need_clear : (need clear : Bool) → (not need || clear) ≡ true → need ≡ true → clear ≡ true
need_clear true clear h n = h
need_clear false clear h n = cc

each_settled : (history : History) (journal : List Entry) (ws : List Want) → all_settled history journal ws ≡ true → (i : ℕ) (w : Want) → slice_get ws i ≡ Some w → want_settled history journal w ≡ true
each_settled history journal [] h i w at = cc
each_settled history journal (x ∷ ws) h zero w at = let e : x ≡ w = cc in subst (λ y. want_settled history journal y ≡ true) e (both_left _ _ h)
each_settled history journal (x ∷ ws) h (suc i) w at = each_settled history journal ws (both_right _ _ h) i w at

none_calls : (actor n : ℕ) (history : History) (rows : List QueueRow) (journal : List Entry) → called_from actor n history rows journal ≡ false → (i m : ℕ) (row : QueueRow) → m ≡ n + i → slice_get rows i ≡ Some row → calls actor row.producer.0 row.consumer.0 (track history m journal).bells ≡ false
none_calls actor n history [] journal h i m row e at = cc
none_calls actor n history (r ∷ rows) journal h zero m row e at =
    let same : r ≡ row = cc in
    let here : n ≡ m = omega arith in
    subst (λ x. calls actor row.producer.0 row.consumer.0 (track history x journal).bells ≡ false) here (subst (λ (x : QueueRow). calls actor x.producer.0 x.consumer.0 (track history n journal).bells ≡ false) same (neither_left _ _ h))
none_calls actor n history (r ∷ rows) journal h (suc i) m row e at = none_calls actor (n + 1) history rows journal (neither_right _ _ h) i m row (omega arith) at

consumer_silent : (producer consumer : ℕ) (b : Bells) → calls consumer producer consumer b ≡ false → b.forward.pending ≡ false
consumer_silent producer consumer b h = let e : (consumer == consumer) ≡ true = eq-eqb consumer consumer refl in subst (λ x. (x && b.forward.pending) ≡ false) e (neither_left _ _ h)

producer_silent : (producer consumer : ℕ) (b : Bells) → calls producer producer consumer b ≡ false → b.backward.pending ≡ false
producer_silent producer consumer b h = let e : (producer == producer) ≡ true = eq-eqb producer producer refl in subst (λ x. (x && b.backward.pending) ≡ false) e (neither_right (consumer == producer && b.forward.pending) _ h)

calm_ends : (a b : Bool) → (not a && not b) ≡ true → (a ≡ false) × (b ≡ false)
calm_ends false false h = (refl, refl)
calm_ends false true h = cc
calm_ends true b h = cc

module _ (hostile : Hostiles) (history : History) (rows : List QueueRow) (actors : Needful) (journal : List Entry) (still : IsStill hostile history rows actors journal) where
  settled : (w : Want) → HasWant hostile actors w → want_settled history journal w ≡ true
  settled w h = each_settled history journal h.ends (still.settled h.acts.actor h.ends h.acts.calm h.acts.there) h.place w h.is

  uncalled : (k : ℕ) → hostile k ≡ false → k < length actors → (n : ℕ) (row : QueueRow) → slice_get rows n ≡ Some row → calls k row.producer.0 row.consumer.0 (track history n journal).bells ≡ false
  uncalled k calm lt n row at = none_calls k 0 history rows journal (still.uncalled k calm lt) n n row (omega arith) at

  module _ (n : ℕ) (row : QueueRow) (needed owed : Bool) (at : slice_get rows n ≡ Some row) (calm : is_calm hostile row ≡ true) (needs : Needs hostile actors n needed) (owes : Owes hostile actors n owed) where
    abbrev here : Track
    here = track history n journal

    forward : BellRests here.bells.forward needed
    forward = record {
      silent = consumer_silent row.producer.0 row.consumer.0 here.bells (uncalled row.consumer.0 (calm_ends _ _ calm).1 (still.peopled n row at Consumer) n row at);
      free = both_left _ _ (settled _ owes);
      clear = need_clear needed _ (both_right (is_free here.bells.backward.ringer) _ (settled _ needs));
    }

    backward : BellRests here.bells.backward owed
    backward = record {
      silent = producer_silent row.producer.0 row.consumer.0 here.bells (uncalled row.producer.0 (calm_ends _ _ calm).0 (still.peopled n row at Producer) n row at);
      free = both_left _ _ (settled _ needs);
      clear = need_clear owed _ (both_right (is_free here.bells.forward.ringer) _ (settled _ owes));
    }

    -- what rests between two actors, of whatever class
    pub rests_now : QueueRests row here needed owed
    rests_now = queue_rests row here needed owed (still.bells_hold n row at calm) (still.flows n row at) forward backward

  pub pays_now : (n : ℕ) (row : QueueRow) (needed : Bool) (due : ℕ) → slice_get rows n ≡ Some row → is_calm hostile row ≡ true → Needs hostile actors n needed → Owes hostile actors n (is_due (track history n journal) due) → QueuePays row (track history n journal) needed due
  pays_now n row needed due at calm needs owes = queue_pays row (track history n journal) needed due (rests_now n row needed (is_due (track history n journal) due) at calm needs owes)
