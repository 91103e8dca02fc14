use Rattle.std.proofs.Common.{◌≡◌, ℕ, ◌<◌, length, refl, List, slice_index_or, slice_set, nat_lt, get_or-set_same, get_or-set_other, length-set, sym, ◌∙◌, ap, Bool, true, false, ◌≢◌, ◌⊎◌, inl, inr}
use Rattle.std.specs.Option.{option_to_list}
use Rattle.cargo_core.specs.declared.item.QueueKind.{QueueKind}
use Rattle.wire_core.specs.declared.names.Side.TheVariants.{Forward, Backward}
use Rattle.wire_core.specs.declared.names.Op.{Op}
use Rattle.cargo_core.specs.declared.act.Word.TheVariants as Words
use Rattle.wire_core.specs.declared.names.Op.TheVariants as Do
use Rattle.wire_core.specs.declared.names.Answer.{Answer}
use Rattle.wire_core.specs.declared.names.Answer.TheVariants.{Done, Yes, No}
use Rattle.wire_core.specs.Deeds.{Deed, cargo_of}
use Rattle.wire_core.specs.Ends.{Role, Consumer, Producer, Moves, Allows, Condition, role_of, end_after}
use Rattle.wire_core.specs.Queues.{Bells, Queue, Happens, bells_after, after, end_of, end_at, queue_at, no_queue, Answers, sees, finds_room, Carries, items_of, is_filled, has_room}
use Rattle.std.proofs.lemmas.Bool.{ltb-true}
use Rattle.std.proofs.lemmas.List.{get_or_default}
use Rattle.std.proofs.Math.Dec.{eqb}
use Rattle.std.proofs.lemmas.Bool.Decides.{eqb_tells}

-- the end that makes the call is changed by the table
pub this_end : (mine : Bool) (k : QueueKind) (b : Bells) (o : Op) (a : Answer) → end_of mine k (bells_after b o a) (role_of o) ≡ end_after (end_of mine k b (role_of o)) o a
this_end mine k b Do.See a = refl
this_end mine k b Do.Room a = refl
this_end mine k b Do.Take a = refl
this_end mine k b Do.Put a = refl
this_end mine k b (Do.Ask Forward) a = refl
this_end mine k b (Do.Ask Backward) a = refl
this_end mine k b (Do.Waive Forward) a = refl
this_end mine k b (Do.Waive Backward) a = refl
this_end mine k b (Do.Wake Forward) Yes = refl
this_end mine k b (Do.Wake Forward) No = refl
this_end mine k b (Do.Wake Forward) Done = refl
this_end mine k b (Do.Wake Backward) Yes = refl
this_end mine k b (Do.Wake Backward) No = refl
this_end mine k b (Do.Wake Backward) Done = refl
this_end mine k b (Do.Wanted Forward) a = refl
this_end mine k b (Do.Wanted Backward) a = refl
this_end mine k b (Do.Settle Forward) a = refl
this_end mine k b (Do.Settle Backward) a = refl
this_end mine k b (Do.Ring Forward) a = refl
this_end mine k b (Do.Ring Backward) a = refl
this_end mine k b (Do.Store Words.Head v) a = refl
this_end mine k b (Do.Store Words.Tail v) a = refl
this_end mine k b (Do.Store Words.Flag v) a = refl
this_end mine k b (Do.Store Words.FlagBack v) a = refl
this_end mine k b (Do.Store Words.Pending v) a = refl
this_end mine k b (Do.Store Words.PendingBack v) a = refl

-- the queue's other end stays
pub other_end : (mine : Bool) (k : QueueKind) (b : Bells) (o : Op) (a : Answer) (r : Role) → (r ≡ role_of o → ⊥) → end_of mine k (bells_after b o a) r ≡ end_of mine k b r
other_end mine k b Do.See a Consumer h = absurd (h refl)
other_end mine k b Do.See a Producer h = refl
other_end mine k b Do.Room a Consumer h = refl
other_end mine k b Do.Room a Producer h = absurd (h refl)
other_end mine k b Do.Take a Consumer h = absurd (h refl)
other_end mine k b Do.Take a Producer h = refl
other_end mine k b Do.Put a Consumer h = refl
other_end mine k b Do.Put a Producer h = absurd (h refl)
other_end mine k b (Do.Ask Forward) a Consumer h = absurd (h refl)
other_end mine k b (Do.Ask Forward) a Producer h = refl
other_end mine k b (Do.Ask Backward) a Consumer h = refl
other_end mine k b (Do.Ask Backward) a Producer h = absurd (h refl)
other_end mine k b (Do.Waive Forward) a Consumer h = absurd (h refl)
other_end mine k b (Do.Waive Forward) a Producer h = refl
other_end mine k b (Do.Waive Backward) a Consumer h = refl
other_end mine k b (Do.Waive Backward) a Producer h = absurd (h refl)
other_end mine k b (Do.Wake Forward) a Consumer h = absurd (h refl)
other_end mine k b (Do.Wake Forward) Yes Producer h = refl
other_end mine k b (Do.Wake Forward) No Producer h = refl
other_end mine k b (Do.Wake Forward) Done Producer h = refl
other_end mine k b (Do.Wake Backward) Yes Consumer h = refl
other_end mine k b (Do.Wake Backward) No Consumer h = refl
other_end mine k b (Do.Wake Backward) Done Consumer h = refl
other_end mine k b (Do.Wake Backward) a Producer h = absurd (h refl)
other_end mine k b (Do.Wanted Forward) a Consumer h = refl
other_end mine k b (Do.Wanted Forward) a Producer h = absurd (h refl)
other_end mine k b (Do.Wanted Backward) a Consumer h = absurd (h refl)
other_end mine k b (Do.Wanted Backward) a Producer h = refl
other_end mine k b (Do.Settle Forward) a Consumer h = refl
other_end mine k b (Do.Settle Forward) a Producer h = absurd (h refl)
other_end mine k b (Do.Settle Backward) a Consumer h = absurd (h refl)
other_end mine k b (Do.Settle Backward) a Producer h = refl
other_end mine k b (Do.Ring Forward) a Consumer h = refl
other_end mine k b (Do.Ring Forward) a Producer h = absurd (h refl)
other_end mine k b (Do.Ring Backward) a Consumer h = absurd (h refl)
other_end mine k b (Do.Ring Backward) a Producer h = refl
other_end mine k b (Do.Store Words.Head v) a Consumer h = absurd (h refl)
other_end mine k b (Do.Store Words.Head v) a Producer h = refl
other_end mine k b (Do.Store Words.Tail v) a Producer h = absurd (h refl)
other_end mine k b (Do.Store Words.Tail v) a Consumer h = refl
other_end mine k b (Do.Store Words.Flag v) a Consumer h = absurd (h refl)
other_end mine k b (Do.Store Words.Flag v) a Producer h = refl
other_end mine k b (Do.Store Words.FlagBack v) a Producer h = absurd (h refl)
other_end mine k b (Do.Store Words.FlagBack v) a Consumer h = refl
other_end mine k b (Do.Store Words.Pending v) a Consumer h = absurd (h refl)
other_end mine k b (Do.Store Words.Pending v) a Producer h = refl
other_end mine k b (Do.Store Words.PendingBack v) a Producer h = absurd (h refl)
other_end mine k b (Do.Store Words.PendingBack v) a Consumer h = refl

-- the queue at a place that was written, and at any other
same_place : (w : List Queue) (n : ℕ) (q : Queue) (r : Role) → n < length w → end_at (slice_set w n q) r n ≡ end_of (nat_lt n (length w)) q.kind q.bells r
same_place w n q r h = rw (get_or-set_same w n q no_queue h, length-set w n q) refl

other_place : (w : List Queue) (n m : ℕ) (q : Queue) (r : Role) → (m ≡ n → ⊥) → end_at (slice_set w n q) r m ≡ end_at w r m
other_place w n m q r h = rw (get_or-set_other w n m q no_queue h, length-set w n q) refl

other : (w : List Queue) (d : Deed) → d.event.queue.0 < length w → (r : Role) (n : ℕ) → (r ≡ role_of d.event.op → n ≡ d.event.queue.0 → ⊥) → ((eqb n d.event.queue.0 ≡ true) × (n ≡ d.event.queue.0)) ⊎ ((eqb n d.event.queue.0 ≡ false) × (n ≢ d.event.queue.0)) → end_at (slice_set w d.event.queue.0 (after (queue_at w d.event.queue.0) d)) r n ≡ end_at w r n
other w d h r n away (inl same) = rw same.1 (same_place w d.event.queue.0 (after (queue_at w d.event.queue.0) d) r h ∙ other_end (nat_lt d.event.queue.0 (length w)) (queue_at w d.event.queue.0).kind (queue_at w d.event.queue.0).bells d.event.op d.event.answer r (λ e. away e same.1))
other w d h r n away (inr apart) = other_place w d.event.queue.0 n (after (queue_at w d.event.queue.0) d) r apart.1

kind_is : (mine : Bool) (k : QueueKind) (b : Bells) (r : Role) → (end_of mine k b r).kind ≡ k
kind_is mine k b Consumer = refl
kind_is mine k b Producer = refl

kind_stays : (w : List Queue) (d : Deed) → d.event.queue.0 < length w → (r : Role) (n : ℕ) → ((eqb n d.event.queue.0 ≡ true) × (n ≡ d.event.queue.0)) ⊎ ((eqb n d.event.queue.0 ≡ false) × (n ≢ d.event.queue.0)) → (end_at (slice_set w d.event.queue.0 (after (queue_at w d.event.queue.0) d)) r n).kind ≡ (end_at w r n).kind
kind_stays w d h r n (inl same) = rw same.1 (ap (λ e. e.kind) (same_place w d.event.queue.0 (after (queue_at w d.event.queue.0) d) r h) ∙ kind_is (nat_lt d.event.queue.0 (length w)) _ (after (queue_at w d.event.queue.0) d).bells r ∙ sym (kind_is (nat_lt d.event.queue.0 (length w)) _ (queue_at w d.event.queue.0).bells r))
kind_stays w d h r n (inr apart) = ap (λ e. e.kind) (other_place w d.event.queue.0 n (after (queue_at w d.event.queue.0) d) r apart.1)

-- a call on one of the queues changes the end that makes it, and no other
pub moves : (w : List Queue) (d : Deed) (v : List Queue) → Happens w d v → Moves (end_at w) d.event (end_at v)
moves w d v h = record {
  this = rw h.after_is (same_place w d.event.queue.0 (after (queue_at w d.event.queue.0) d) (role_of d.event.op) h.there ∙ this_end (nat_lt d.event.queue.0 (length w)) (queue_at w d.event.queue.0).kind (queue_at w d.event.queue.0).bells d.event.op d.event.answer);
  others = λ r n away. rw h.after_is (other w d h.there r n away (eqb_tells n d.event.queue.0));
  kinds = λ r n. rw h.after_is (kind_stays w d h.there r n (eqb_tells n d.event.queue.0));
}

condition_at : (mine : Bool) (k : QueueKind) (b : Bells) (o : Op) → Condition (end_of mine k b (role_of o)) o → Condition (end_of true k b (role_of o)) o
condition_at mine k b Do.See h = h
condition_at mine k b Do.Room h = h
condition_at mine k b Do.Take h = h
condition_at mine k b Do.Put h = h
condition_at mine k b (Do.Ask Forward) h = h
condition_at mine k b (Do.Ask Backward) h = h
condition_at mine k b (Do.Waive s) h = h
condition_at mine k b (Do.Wake s) h = h
condition_at mine k b (Do.Wanted Forward) h = h
condition_at mine k b (Do.Wanted Backward) h = h
condition_at mine k b (Do.Settle Forward) h = h
condition_at mine k b (Do.Settle Backward) h = h
condition_at mine k b (Do.Ring Forward) h = h
condition_at mine k b (Do.Ring Backward) h = h
condition_at mine k b (Do.Store Words.Head v) h = h
condition_at mine k b (Do.Store Words.Tail v) h = h
condition_at mine k b (Do.Store Words.Flag v) h = h
condition_at mine k b (Do.Store Words.FlagBack v) h = h
condition_at mine k b (Do.Store Words.Pending v) h = h
condition_at mine k b (Do.Store Words.PendingBack v) h = h

owned_at : (mine : Bool) (k : QueueKind) (b : Bells) (r : Role) → (end_of mine k b r).owned ≡ true → mine ≡ true
owned_at mine k b Consumer h = h
owned_at mine k b Producer h = h

-- one call, from what the line at its place did
happens_at : (w : List Queue) (d : Deed) (q v : Queue) → Allows (end_at w (role_of d.event.op) d.event.queue.0) d.event.op → q ≡ slice_index_or w d.event.queue.0 q → Answers (is_filled q) (has_room q) (sees q) (finds_room q) q.bells d.event.op d.event.answer → Carries q d.event.op (cargo_of d) → option_to_list d.event.item ≡ items_of (cargo_of d) → v ≡ after q d → Happens w d (slice_set w d.event.queue.0 v)
happens_at w d q v allows at tells carries item now =
    let there : d.event.queue.0 < length w = ltb-true d.event.queue.0 (length w) (owned_at (nat_lt d.event.queue.0 (length w)) (queue_at w d.event.queue.0).kind (queue_at w d.event.queue.0).bells (role_of d.event.op) allows.owned) in
    let here : queue_at w d.event.queue.0 ≡ q = get_or_default w d.event.queue.0 no_queue q there ∙ sym at in
    record {
      there = there;
      may = record {
        condition = condition_at (nat_lt d.event.queue.0 (length w)) (queue_at w d.event.queue.0).kind (queue_at w d.event.queue.0).bells d.event.op allows.condition;
        tells = rw here tells;
        carries = rw here carries;
        item = item;
      };
      after_is = rw (now, here) refl;
    }

-- the same, where the lines are the queues w
pub happens_here : (lines w : List Queue) (d : Deed) (q v : Queue) → lines ≡ w → Allows (end_at w (role_of d.event.op) d.event.queue.0) d.event.op → q ≡ slice_index_or lines d.event.queue.0 q → Answers (is_filled q) (has_room q) (sees q) (finds_room q) q.bells d.event.op d.event.answer → Carries q d.event.op (cargo_of d) → option_to_list d.event.item ≡ items_of (cargo_of d) → v ≡ after q d → Happens w d (slice_set lines d.event.queue.0 v)
happens_here lines w d q v same allows at tells carries item now = rw same (happens_at w d q v allows (at ∙ ap (λ xs. slice_index_or xs d.event.queue.0 q) same) tells carries item now)

-- the line at an end's place is the queue there
pub line_here : (lines w : List Queue) (r : Role) (n : ℕ) (q : Queue) → lines ≡ w → (end_at w r n).owned ≡ true → q ≡ slice_index_or lines n q → queue_at w n ≡ q
line_here lines w r n q same owned at = get_or_default w n no_queue q (ltb-true n (length w) (owned_at (nat_lt n (length w)) (queue_at w n).kind (queue_at w n).bells r owned)) ∙ sym (at ∙ ap (λ xs. slice_index_or xs n q) same)

-- an own end's queue is there
pub there_if_owned : (w : List Queue) (r : Role) (n : ℕ) → (end_at w r n).owned ≡ true → n < length w
there_if_owned w r n owned = ltb-true n (length w) (owned_at (nat_lt n (length w)) (queue_at w n).kind (queue_at w n).bells r owned)
