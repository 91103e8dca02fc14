use Rattle.std.proofs.Common.{◌≡◌, ◌≢◌, ◌⊎◌, ◌==◌, ◌+◌, ℕ, Bool, true, false, not, cond, if◌then◌else◌, ◌&&◌, ◌||◌, Some, None, List, [], ◌∷◌, ◌++◌, length, length-set, slice_get, slice_set, subst, refl, sym, ap, ◌∙◌, arith, inl, inr, zero, suc}
use Rattle.std.proofs.Math.Dec.{eqb}
use Rattle.std.proofs.lemmas.Bool.{eq-eqb, eqb-true}
use Rattle.std.proofs.lemmas.Bool.Decides.{eqb_tells}
use Rattle.wire_core.specs.declared.names.QueueRow.{QueueRow}
use Rattle.wire_core.specs.declared.names.Entry.{Entry}
use Rattle.wire_core.specs.declared.names.Event.{Event}
use Rattle.wire_core.specs.declared.names.Side.TheVariants.{Forward, Backward}
use Rattle.wire_core.specs.declared.names.Op.{Op}
use Rattle.cargo_core.specs.declared.act.Word.TheVariants as Words
use Rattle.wire_core.specs.declared.names.Op.TheVariants as Do
use Rattle.wire_core.specs.declared.names.Answer.{Answer}
use Rattle.wire_core.specs.declared.names.Answer.TheVariants.{Done, Yes, No}
use Rattle.wire_core.specs.Ends.{Role, Consumer, Producer, role_of, waiting_role}
use Rattle.wire_core.specs.Queues.{Bells, calls, bells_after}
use Rattle.wire_core.specs.Journal.{History, MayCall, track, track_after, history_at, if_on, owner_of}
use Rattle.wire_core.proofs.Tracks.{track_from-append}
use Rattle.wire_core.proofs.Places.{slice_get_written, slice_get_beside}
use Rattle.play_core.specs.Wants.{Want, Needful, bells_settled, want_settled, all_settled}
use Rattle.wire_core.proofs.Sinces.{eqb_apart}
use Rattle.play_core.specs.Manners.{Manner, Calm, Hostile, Manners, calls_of, is_hostile, hostile_by}
use Rattle.play_core.specs.Runs.{called_from, is_runnable, flags_from, rung_at, other_owner, reaches, reach_of}
use Rattle.play_core.proofs.Lists.{some_is}

-- lists of one length that agree at each place
same_list : (xs ys : List Bool) → length xs ≡ length ys → ((i : ℕ) → slice_get xs i ≡ slice_get ys i) → xs ≡ ys
same_list [] [] n h = refl
same_list [] (y ∷ ys) n h = absurd (omega (arith, n))
same_list (x ∷ xs) [] n h = absurd (omega (arith, n))
same_list (x ∷ xs) (y ∷ ys) n h = let e : x ≡ y = some_is (h 0) in let r : xs ≡ ys = same_list xs ys (omega (arith, n)) (λ i. h (suc i)) in cc

-- a list that differs from another at one place, or at two
pub differs_at : (xs ys : List Bool) (k : ℕ) (b c : Bool) → length ys ≡ length xs → slice_get xs k ≡ Some c → slice_get ys k ≡ Some b → ((i : ℕ) → i ≢ k → slice_get ys i ≡ slice_get xs i) → ys ≡ slice_set xs k b
differs_at xs ys k b c n was at others = same_list ys (slice_set xs k b) (n ∙ sym (length-set xs k b)) (λ i. here i (eqb_tells i k))
  where
    here : (i : ℕ) → ((eqb i k ≡ true) × (i ≡ k)) ⊎ ((eqb i k ≡ false) × (i ≢ k)) → slice_get ys i ≡ slice_get (slice_set xs k b) i
    here i (inl e) = ap (slice_get ys) e.1 ∙ (at ∙ sym (ap (slice_get (slice_set xs k b)) e.1 ∙ slice_get_written xs k c b was))
    here i (inr e) = others i e.1 ∙ sym (slice_get_beside xs k i b e.1)

pub differs_twice : (xs ys : List Bool) (k m : ℕ) (b c d e : Bool) → length ys ≡ length xs → slice_get xs k ≡ Some c → slice_get xs m ≡ Some d → slice_get ys k ≡ Some b → slice_get ys m ≡ Some e → ((i : ℕ) → i ≢ k → i ≢ m → slice_get ys i ≡ slice_get xs i) → ys ≡ slice_set (slice_set xs k b) m e
differs_twice xs ys k m b c d e n was was' at at' others =
    let t = there (eqb_tells m k) in
    differs_at (slice_set xs k b) ys m e t.0 (n ∙ sym (length-set xs k b)) t.1 at' (λ i away. rest i away (eqb_tells i k))
  where
    there : ((eqb m k ≡ true) × (m ≡ k)) ⊎ ((eqb m k ≡ false) × (m ≢ k)) → (x : Bool) × (slice_get (slice_set xs k b) m ≡ Some x)
    there (inl e) = (b, ap (slice_get (slice_set xs k b)) e.1 ∙ slice_get_written xs k c b was)
    there (inr e) = (d, slice_get_beside xs k m b e.1 ∙ was')

    rest : (i : ℕ) → i ≢ m → ((eqb i k ≡ true) × (i ≡ k)) ⊎ ((eqb i k ≡ false) × (i ≢ k)) → slice_get ys i ≡ slice_get (slice_set xs k b) i
    rest i away (inl e) = ap (slice_get ys) e.1 ∙ (at ∙ sym (ap (slice_get (slice_set xs k b)) e.1 ∙ slice_get_written xs k c b was))
    rest i away (inr e) = others i e.1 away ∙ sym (slice_get_beside xs k i b e.1)

-- what is said of the actor at a place
pub flag_at : (manner : Manners) (k : ℕ) (history : History) (rows : List QueueRow) (actors : Needful) (journal : List Entry) (i m : ℕ) (ws : List Want) → m ≡ k + i → slice_get actors i ≡ Some ws → slice_get (flags_from manner k history rows actors journal) i ≡ Some (is_runnable (manner m) m ws history rows journal)
flag_at manner k history rows [] journal i m ws e at = cc
flag_at manner k history rows (q ∷ actors) journal zero m ws e at = let f : k ≡ m = omega arith in let g : q ≡ ws = some_is at in rw (f, g) refl
flag_at manner k history rows (q ∷ actors) journal (suc i) m ws e at = flag_at manner (k + 1) history rows actors journal i m ws (omega arith) at

pub flags_length : (manner : Manners) (k : ℕ) (history : History) (rows : List QueueRow) (actors : Needful) (journal : List Entry) → length (flags_from manner k history rows actors journal) ≡ length actors
flags_length manner k history rows [] journal = refl
flags_length manner k history rows (ws ∷ actors) journal = ap suc (flags_length manner (k + 1) history rows actors journal)

-- another's entry is none of an actor's calls
calls_beside : (i : ℕ) (journal : List Entry) (e : Entry) → (e.actor.0 == i) ≡ false → calls_of i (journal ++ e ∷ []) ≡ calls_of i journal
calls_beside i [] e off = rw off refl
calls_beside i (x ∷ journal) e off = ap (λ es. cond (x.actor.0 == i) (x.event ∷ es) es) (calls_beside i journal e off)

not_here : (x i : ℕ) → i ≢ x → ((eqb x i ≡ true) × (x ≡ i)) ⊎ ((eqb x i ≡ false) × (x ≢ i)) → (x == i) ≡ false
not_here x i away (inl e) = absurd (away (sym e.1))
not_here x i away (inr e) = e.0

-- whose waiters a queue of this row calls, after a call of another actor that rings a third, or none
calls_same : (row : QueueRow) (b : Bells) (o : Op) (a : Answer) (i : ℕ) → i ≢ owner_of row (role_of o) → (rung_at o row ≡ Some i → ⊥) → calls i row.producer.0 row.consumer.0 (bells_after b o a) ≡ calls i row.producer.0 row.consumer.0 b
calls_same row b Do.See a i own rung = refl
calls_same row b Do.Room a i own rung = refl
calls_same row b Do.Take a i own rung = refl
calls_same row b Do.Put a i own rung = refl
calls_same row b (Do.Ask Forward) a i own rung = refl
calls_same row b (Do.Ask Backward) a i own rung = refl
calls_same row b (Do.Waive Forward) a i own rung = refl
calls_same row b (Do.Waive Backward) a i own rung = refl
calls_same row b (Do.Wanted Forward) a i own rung = refl
calls_same row b (Do.Wanted Backward) a i own rung = refl
calls_same row b (Do.Settle Forward) a i own rung = refl
calls_same row b (Do.Settle Backward) a i own rung = refl
calls_same row b (Do.Wake Forward) Yes i own rung = rw (not_here row.consumer.0 i own (eqb_tells row.consumer.0 i)) refl
calls_same row b (Do.Wake Forward) No i own rung = refl
calls_same row b (Do.Wake Forward) Done i own rung = refl
calls_same row b (Do.Wake Backward) Yes i own rung = rw (not_here row.producer.0 i own (eqb_tells row.producer.0 i)) refl
calls_same row b (Do.Wake Backward) No i own rung = refl
calls_same row b (Do.Wake Backward) Done i own rung = refl
calls_same row b (Do.Ring Forward) a i own rung = rw (not_here row.consumer.0 i (λ e. rung (ap Some (sym e))) (eqb_tells row.consumer.0 i)) refl
calls_same row b (Do.Ring Backward) a i own rung = rw (not_here row.producer.0 i (λ e. rung (ap Some (sym e))) (eqb_tells row.producer.0 i)) refl
calls_same row b (Do.Store Words.Head v) a i own rung = refl
calls_same row b (Do.Store Words.Tail v) a i own rung = refl
calls_same row b (Do.Store Words.Flag v) a i own rung = refl
calls_same row b (Do.Store Words.FlagBack v) a i own rung = refl
calls_same row b (Do.Store Words.Pending v) a i own rung = rw (not_here row.consumer.0 i own (eqb_tells row.consumer.0 i)) refl
calls_same row b (Do.Store Words.PendingBack v) a i own rung = rw (not_here row.producer.0 i own (eqb_tells row.producer.0 i)) refl

true_after : (b : Bool) → (b || true) ≡ true
true_after true = refl
true_after false = refl

-- the one that is rung is called
calls_rung : (row : QueueRow) (b : Bells) (o : Op) (a : Answer) (i : ℕ) → rung_at o row ≡ Some i → calls i row.producer.0 row.consumer.0 (bells_after b o a) ≡ true
calls_rung row b Do.See a i rung = cc
calls_rung row b Do.Room a i rung = cc
calls_rung row b Do.Take a i rung = cc
calls_rung row b Do.Put a i rung = cc
calls_rung row b (Do.Ask s) a i rung = cc
calls_rung row b (Do.Waive s) a i rung = cc
calls_rung row b (Do.Wanted s) a i rung = cc
calls_rung row b (Do.Settle s) a i rung = cc
calls_rung row b (Do.Wake s) a i rung = cc
calls_rung row b (Do.Ring Forward) a i rung = rw (eq-eqb row.consumer.0 i (some_is rung)) refl
calls_rung row b (Do.Ring Backward) a i rung = rw (eq-eqb row.producer.0 i (some_is rung)) (true_after (row.consumer.0 == i && b.forward.pending))
calls_rung row b (Do.Store w v) a i rung = cc

-- a call that rings reaches
rung_reaches : (o : Op) (row : QueueRow) (i : ℕ) → rung_at o row ≡ Some i → reaches o ≡ true
rung_reaches Do.See row i rung = cc
rung_reaches Do.Room row i rung = cc
rung_reaches Do.Take row i rung = cc
rung_reaches Do.Put row i rung = cc
rung_reaches (Do.Ask s) row i rung = cc
rung_reaches (Do.Waive s) row i rung = cc
rung_reaches (Do.Wanted s) row i rung = cc
rung_reaches (Do.Settle s) row i rung = cc
rung_reaches (Do.Wake s) row i rung = cc
rung_reaches (Do.Ring s) row i rung = refl
rung_reaches (Do.Store w v) row i rung = cc

-- one of the two owners is rung, or nobody
rung_owns : (o : Op) (row : QueueRow) (i : ℕ) → rung_at o row ≡ Some i → (r : Role) × (owner_of row r ≡ i)
rung_owns Do.See row i rung = cc
rung_owns Do.Room row i rung = cc
rung_owns Do.Take row i rung = cc
rung_owns Do.Put row i rung = cc
rung_owns (Do.Ask s) row i rung = cc
rung_owns (Do.Waive s) row i rung = cc
rung_owns (Do.Wanted s) row i rung = cc
rung_owns (Do.Settle s) row i rung = cc
rung_owns (Do.Wake s) row i rung = cc
rung_owns (Do.Ring s) row i rung = (waiting_role s, some_is rung)
rung_owns (Do.Store w v) row i rung = cc

-- the other owner of a queue is one of the two
other_owns : (row : QueueRow) (k : ℕ) → (r : Role) × (owner_of row r ≡ other_owner row k)
other_owns row k = go (row.producer.0 == k)
  where
    go : (b : Bool) → (r : Role) × (owner_of row r ≡ (if b then row.consumer.0 else row.producer.0))
    go true = (Consumer, refl)
    go false = (Producer, refl)

-- an owner beside actor k, which is one too, is the other
other_is : (row : QueueRow) (k i : ℕ) (x r : Role) → owner_of row x ≡ k → owner_of row r ≡ i → i ≢ k → other_owner row k ≡ i
other_is row k i Consumer Consumer own is away = absurd (away (sym is ∙ own))
other_is row k i Producer Producer own is away = absurd (away (sym is ∙ own))
other_is row k i Producer Consumer own is away = rw (eq-eqb row.producer.0 k own) is
other_is row k i Consumer Producer own is away = rw (eqb_apart row.producer.0 k (λ same. away (sym is ∙ same))) is

-- whom a call reaches is one of the two owners
pub reach_owns : (o : Op) (row : QueueRow) (k i : ℕ) → reach_of o row k ≡ Some i → (r : Role) × (owner_of row r ≡ i)
reach_owns o row k i reach = go (reaches o || not (owner_of row (role_of o) == k)) reach
  where
    go : (b : Bool) → (if b then Some (other_owner row k) else None) ≡ Some i → (r : Role) × (owner_of row r ≡ i)
    go true h = let o = other_owns row k in (o.0, o.1 ∙ some_is h)
    go false h = cc

-- a call leaves the other end as settled as it was
other_settled : (b : Bells) (o : Op) (a : Answer) (r : Role) (need : Bool) → (r ≡ role_of o → ⊥) → bells_settled (bells_after b o a) r need ≡ bells_settled b r need
other_settled b Do.See a Consumer need other = absurd (other refl)
other_settled b Do.See a Producer need other = refl
other_settled b Do.Room a Consumer need other = refl
other_settled b Do.Room a Producer need other = absurd (other refl)
other_settled b Do.Take a Consumer need other = absurd (other refl)
other_settled b Do.Take a Producer need other = refl
other_settled b Do.Put a Consumer need other = refl
other_settled b Do.Put a Producer need other = absurd (other refl)
other_settled b (Do.Ask Forward) a Consumer need other = absurd (other refl)
other_settled b (Do.Ask Forward) a Producer need other = refl
other_settled b (Do.Ask Backward) a Consumer need other = refl
other_settled b (Do.Ask Backward) a Producer need other = absurd (other refl)
other_settled b (Do.Waive Forward) a Consumer need other = absurd (other refl)
other_settled b (Do.Waive Forward) a Producer need other = refl
other_settled b (Do.Waive Backward) a Consumer need other = refl
other_settled b (Do.Waive Backward) a Producer need other = absurd (other refl)
other_settled b (Do.Wake Forward) a Consumer need other = absurd (other refl)
other_settled b (Do.Wake Forward) Yes Producer need other = refl
other_settled b (Do.Wake Forward) No Producer need other = refl
other_settled b (Do.Wake Forward) Done Producer need other = refl
other_settled b (Do.Wake Backward) Yes Consumer need other = refl
other_settled b (Do.Wake Backward) No Consumer need other = refl
other_settled b (Do.Wake Backward) Done Consumer need other = refl
other_settled b (Do.Wake Backward) a Producer need other = absurd (other refl)
other_settled b (Do.Wanted Forward) a Consumer need other = refl
other_settled b (Do.Wanted Forward) a Producer need other = absurd (other refl)
other_settled b (Do.Wanted Backward) a Consumer need other = absurd (other refl)
other_settled b (Do.Wanted Backward) a Producer need other = refl
other_settled b (Do.Settle Forward) a Consumer need other = refl
other_settled b (Do.Settle Forward) a Producer need other = absurd (other refl)
other_settled b (Do.Settle Backward) a Consumer need other = absurd (other refl)
other_settled b (Do.Settle Backward) a Producer need other = refl
other_settled b (Do.Ring Forward) a Consumer need other = refl
other_settled b (Do.Ring Forward) a Producer need other = absurd (other refl)
other_settled b (Do.Ring Backward) a Consumer need other = absurd (other refl)
other_settled b (Do.Ring Backward) a Producer need other = refl
other_settled b (Do.Store Words.Head v) a Consumer need other = absurd (other refl)
other_settled b (Do.Store Words.Head v) a Producer need other = refl
other_settled b (Do.Store Words.Tail v) a Producer need other = absurd (other refl)
other_settled b (Do.Store Words.Tail v) a Consumer need other = refl
other_settled b (Do.Store Words.Flag v) a Consumer need other = absurd (other refl)
other_settled b (Do.Store Words.Flag v) a Producer need other = refl
other_settled b (Do.Store Words.FlagBack v) a Producer need other = absurd (other refl)
other_settled b (Do.Store Words.FlagBack v) a Consumer need other = refl
other_settled b (Do.Store Words.Pending v) a Consumer need other = absurd (other refl)
other_settled b (Do.Store Words.Pending v) a Producer need other = refl
other_settled b (Do.Store Words.PendingBack v) a Producer need other = absurd (other refl)
other_settled b (Do.Store Words.PendingBack v) a Consumer need other = refl

-- whose waiters the queues call goes on, where it does at each queue
called_goes : (actor n : ℕ) (history : History) (j j' : List Entry) (rows : List QueueRow) → ((m : ℕ) (row : QueueRow) → slice_get rows m ≡ Some row → calls actor row.producer.0 row.consumer.0 (track history (n + m) j').bells ≡ calls actor row.producer.0 row.consumer.0 (track history (n + m) j).bells) → called_from actor n history rows j' ≡ called_from actor n history rows j
called_goes actor n history j j' [] same = refl
called_goes actor n history j j' (row ∷ rows) same =
    let z : n + 0 ≡ n = omega arith in
    let here : calls actor row.producer.0 row.consumer.0 (track history n j').bells ≡ calls actor row.producer.0 row.consumer.0 (track history n j).bells = subst (λ m. calls actor row.producer.0 row.consumer.0 (track history m j').bells ≡ calls actor row.producer.0 row.consumer.0 (track history m j).bells) z (same 0 row refl) in
    let rest : called_from actor (n + 1) history rows j' ≡ called_from actor (n + 1) history rows j = called_goes actor (n + 1) history j j' rows (λ m r at. subst (λ i. calls actor r.producer.0 r.consumer.0 (track history i j').bells ≡ calls actor r.producer.0 r.consumer.0 (track history i j).bells) (moved n m) (same (suc m) r at)) in
    either here rest
  where
    moved : (n m : ℕ) → n + suc m ≡ (n + 1) + m
    moved n m = omega arith

    either : {a b c d : Bool} → a ≡ b → c ≡ d → (a || c) ≡ (b || d)
    either e f = cc

-- an actor that one queue calls is called
called_one : (actor n m i : ℕ) (history : History) (j : List Entry) (rows : List QueueRow) (row : QueueRow) → i ≡ n + m → slice_get rows m ≡ Some row → calls actor row.producer.0 row.consumer.0 (track history i j).bells ≡ true → called_from actor n history rows j ≡ true
called_one actor n m i history j [] row e at h = cc
called_one actor n zero i history j (r ∷ rows) row e at h = let f : r ≡ row = some_is at in let z : i ≡ n = omega arith in let g : calls actor r.producer.0 r.consumer.0 (track history n j).bells ≡ true = rw (f, ← z) h in rw g refl
called_one actor n (suc m) i history j (r ∷ rows) row e at h = rw (called_one actor (n + 1) m i history j rows row (omega arith) at h) (true_after (calls actor r.producer.0 r.consumer.0 (track history n j).bells))

abbrev pub entry_of : ℕ → Event → Entry
entry_of k e = record { actor = record { 0 = k }; event = e }

-- a call of actor k, which may make it, on a queue of this row
module _ (manner : Manners) (history : History) (rows : List QueueRow) (journal : List Entry) (k : ℕ) (e : Event) (row : QueueRow) (there : slice_get rows e.queue.0 ≡ Some row) (may : MayCall (hostile_by manner) row (role_of e.op) k) where
  abbrev then_ : List Entry
  then_ = journal ++ entry_of k e ∷ []

  -- it is made at an end of this actor
  abbrev pub IsAt : ℕ → Type 0
  IsAt actor = owner_of row (role_of e.op) ≡ actor

  track_then : (n : ℕ) → track history n then_ ≡ if_on (e.queue.0 == n) (track_after (track history n journal) e) (track history n journal)
  track_then n = track_from-append (history_at history n) n journal (entry_of k e)

  goes_at : (actor n : ℕ) (r : QueueRow) → (IsAt actor → ⊥) → (rung_at e.op row ≡ Some actor → ⊥) → slice_get rows n ≡ Some r → ((eqb e.queue.0 n ≡ true) × (e.queue.0 ≡ n)) ⊎ ((eqb e.queue.0 n ≡ false) × (e.queue.0 ≢ n)) → calls actor r.producer.0 r.consumer.0 (track history n then_).bells ≡ calls actor r.producer.0 r.consumer.0 (track history n journal).bells
  goes_at actor n r away quiet at (inl on) =
      let same : row ≡ r = some_is (sym there ∙ (ap (slice_get rows) on.1 ∙ at)) in
      rw (track_then n, on.0) (calls_same r (track history n journal).bells e.op e.answer actor (λ h. away (rw same (sym h))) (λ h. quiet (rw same h)))
  goes_at actor n r away quiet at (inr off) = rw (track_then n, off.0) refl

  -- who isn't called at, and isn't rung, is called as before
  pub called_still : (actor : ℕ) → (IsAt actor → ⊥) → (rung_at e.op row ≡ Some actor → ⊥) → called_from actor 0 history rows then_ ≡ called_from actor 0 history rows journal
  called_still actor away quiet = called_goes actor 0 history journal then_ rows (λ m r at. let z : m ≡ 0 + m = omega arith in subst (λ i. calls actor r.producer.0 r.consumer.0 (track history i then_).bells ≡ calls actor r.producer.0 r.consumer.0 (track history i journal).bells) z (goes_at actor m r away quiet at (eqb_tells e.queue.0 m)))

  -- who is rung is called
  pub called_now : (actor : ℕ) → rung_at e.op row ≡ Some actor → called_from actor 0 history rows then_ ≡ true
  called_now actor rung = called_one actor 0 e.queue.0 e.queue.0 history then_ rows row (omega arith) there (rw (track_then e.queue.0, eq-eqb e.queue.0 e.queue.0 refl) (calls_rung row (track history e.queue.0 journal).bells e.op e.answer actor rung))

  settled_at : (w : Want) → (w.queue ≡ e.queue.0 → w.role ≡ role_of e.op → ⊥) → ((eqb e.queue.0 w.queue ≡ true) × (e.queue.0 ≡ w.queue)) ⊎ ((eqb e.queue.0 w.queue ≡ false) × (e.queue.0 ≢ w.queue)) → want_settled history then_ w ≡ want_settled history journal w
  settled_at w off (inl on) = rw (track_then w.queue, on.0) (other_settled (track history w.queue journal).bells e.op e.answer w.role w.need (λ same. off (sym on.1) same))
  settled_at w off (inr away) = rw (track_then w.queue, away.0) refl

  -- an end at which the call isn't made stays as settled as it was
  pub want_still : (w : Want) → (w.queue ≡ e.queue.0 → w.role ≡ role_of e.op → ⊥) → want_settled history then_ w ≡ want_settled history journal w
  want_still w off = settled_at w off (eqb_tells e.queue.0 w.queue)

  pub all_still : (ws : List Want) → ((i : ℕ) (w : Want) → slice_get ws i ≡ Some w → w.queue ≡ e.queue.0 → w.role ≡ role_of e.op → ⊥) → all_settled history then_ ws ≡ all_settled history journal ws
  all_still [] off = refl
  all_still (w ∷ ws) off =
      let here = want_still w (off 0 w refl) in
      let rest = all_still ws (λ i x at. off (suc i) x at) in
      rw (here, rest) refl

  -- an actor at whose ends the call isn't made, which isn't rung, and if it is hostile isn't the caller, stays runnable
  -- or not
  pub runnable_still : (i : ℕ) (ws : List Want) → (IsAt i → ⊥) → (rung_at e.op row ≡ Some i → ⊥) → (hostile_by manner i ≡ true → k ≡ i → ⊥) → ((p : ℕ) (w : Want) → slice_get ws p ≡ Some w → w.queue ≡ e.queue.0 → w.role ≡ role_of e.op → ⊥) → is_runnable (manner i) i ws history rows then_ ≡ is_runnable (manner i) i ws history rows journal
  runnable_still i ws away quiet apart off = go (manner i) apart
    where
      go : (m : Manner) → (is_hostile m ≡ true → k ≡ i → ⊥) → is_runnable m i ws history rows then_ ≡ is_runnable m i ws history rows journal
      go Calm other =
          let settled = all_still ws off in
          let called = called_still i away quiet in
          rw (settled, called) refl
      go (Hostile done) other = ap (λ es. not (done es)) (calls_beside i journal (entry_of k e) (eqb_apart k i (other refl)))

  -- one that is rung is runnable, unless it is hostile
  pub runnable_rung : (i : ℕ) (ws : List Want) → hostile_by manner i ≡ false → rung_at e.op row ≡ Some i → is_runnable (manner i) i ws history rows then_ ≡ true
  runnable_rung i ws calm rung = go (manner i) calm
    where
      go : (m : Manner) → is_hostile m ≡ false → is_runnable m i ws history rows then_ ≡ true
      go Calm c = let called = called_now i rung in rw called (true_after (not (all_settled history then_ ws)))
      go (Hostile done) c = cc

  -- the call isn't made at the end of an actor that isn't the caller and isn't reached, nor does it ring it
  pub unreached : (i : ℕ) → i ≢ k → (reach_of e.op row k ≡ Some i → ⊥) → (IsAt i → ⊥) × (rung_at e.op row ≡ Some i → ⊥)
  unreached i away quiet = go (reaches e.op) (owner_of row (role_of e.op) == k) refl refl
    where
      -- it is no owner, where the other one is reached
      stranger : reach_of e.op row k ≡ Some (other_owner row k) → (r : Role) → owner_of row r ≡ i → ⊥
      stranger reach r is = quiet (reach ∙ ap Some (other_is row k i may.some.0 r may.some.1 is away))

      apart : reach_of e.op row k ≡ Some (other_owner row k) → (IsAt i → ⊥) × (rung_at e.op row ≡ Some i → ⊥)
      apart reach = (stranger reach (role_of e.op), λ rung. let o = rung_owns e.op row i rung in stranger reach o.0 o.1)

      go : (b own : Bool) → reaches e.op ≡ b → (owner_of row (role_of e.op) == k) ≡ own → (IsAt i → ⊥) × (rung_at e.op row ≡ Some i → ⊥)
      go true own is at = apart (rw is refl)
      go false false is at = apart (rw (is, at) refl)
      go false true is at = (
        λ here. away (sym here ∙ eqb-true (owner_of row (role_of e.op)) k at),
        λ rung. let no : true ≡ false = sym (rung_reaches e.op row i rung) ∙ is in cc,
      )

  -- so it stays runnable or not
  pub runnable_apart : (i : ℕ) (ws : List Want) → i ≢ k → (reach_of e.op row k ≡ Some i → ⊥) → ((p : ℕ) (w : Want) → slice_get ws p ≡ Some w → w.queue ≡ e.queue.0 → w.role ≡ role_of e.op → ⊥) → is_runnable (manner i) i ws history rows then_ ≡ is_runnable (manner i) i ws history rows journal
  runnable_apart i ws away quiet off = let u = unreached i away quiet in runnable_still i ws u.0 u.1 (λ h same. away (sym same)) off
