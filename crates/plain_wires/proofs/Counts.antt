use Rattle.std.proofs.Common.{◌%◌, is_none, Some, ◌≡◌, ◌≢◌, ◌⊎◌, ◌==◌, ◌+◌, ◌<◌, ◌≤◌, ◌&&◌, ◌||◌, ℕ, Bool, true, false, not, nat_lt, List, [], ◌∷◌, ◌++◌, length, take, replicate, slice_index_or, slice_set, length-set, get_or-set_same, get_or-set_other, refl, sym, ap, ◌∙◌, subst, inl, inr, arith, All, sum_by, eq-eqb}
use Rattle.std.proofs.Math.Dec.{eqb}
use Rattle.std.proofs.lemmas.Bool.Decides.{eqb_tells}
use Rattle.std.proofs.lemmas.Bool.{ltb-true, ltb-false}
use Rattle.std.proofs.lemmas.List.{get_or-replicate, get_or_past, get_or_default, length-replicate, length-take}
use Rattle.std.proofs.lemmas.List.Sums.{sum_by-set, sum_by-cons, sum_by-append}
use Rattle.std.proofs.lemmas.List.Elements.{All-nil, All-cons, All-append, All-set, All-map, All-get_or}
use Rattle.wire_core.specs.declared.names.Side.{Side}
use Rattle.wire_core.specs.declared.names.Side.TheVariants.{Forward, Backward}
use Rattle.wire_core.specs.declared.names.Op.{Op}
use Rattle.cargo_core.specs.declared.act.Word.{Word}
use Rattle.cargo_core.specs.declared.act.Word.TheVariants as Words
use Rattle.wire_core.specs.declared.names.Op.TheVariants as Do
use Rattle.wire_core.specs.declared.names.Answer.{Answer}
use Rattle.wire_core.specs.declared.names.Answer.TheVariants.{Done, Yes, No}
use Rattle.wire_core.specs.declared.names.QueueRow.{QueueRow}
use Rattle.wire_core.specs.Bells.{bit}
use Rattle.wire_core.specs.Deeds.{Cargo}
use Rattle.wire_core.specs.Ends.{Role}
use Rattle.wire_core.proofs.Moving.{there_if_owned}
use Rattle.wire_core.specs.Queues.{Queue, end_at, bell_of, queue_after, start_queue, starts, is_pending}
use Rattle.plain_wires.specs.Pendings.{pending_of, IsAmong, IsCounted, pending_side, waiting_actor}

-- a count is above 0 exactly where one is pending
bits : (a b : Bool) (n : ℕ) (v : Bool) → nat_lt 0 n ≡ v → nat_lt 0 (bit a + bit b + n) ≡ ((a || b) || v)
bits true b n v h = grind arith
bits false true n v h = grind arith
bits false false n v h = grind arith

pub called : (actor : ℕ) (w : List Queue) → nat_lt 0 (sum_by (pending_of actor) w) ≡ is_pending actor w
called actor [] = refl
called actor (q ∷ w) = rw (sum_by-cons (pending_of actor) q w) (bits (q.consumer == actor && q.bells.forward.pending) (q.producer == actor && q.bells.backward.pending) (sum_by (pending_of actor) w) (is_pending actor w) (called actor w))

bit_small : (b : Bool) → bit b ≤ 1
bit_small true = omega arith
bit_small false = omega arith

-- a count is small
pub few : (actor : ℕ) (w : List Queue) → sum_by (pending_of actor) w ≤ length w + length w
few actor [] = omega arith
few actor (q ∷ w) =
    let h = few actor w in
    let a = bit_small (q.consumer == actor && q.bells.forward.pending) in
    let b = bit_small (q.producer == actor && q.bells.backward.pending) in
    let s = sum_by-cons (pending_of actor) q w in
    omega (arith, h, a, b, s)

-- so is that of the queues up to a place
pub count_small : (counts : List ℕ) (w : List Queue) (n actor : ℕ) → IsCounted counts (take n w) → length w ≤ 65536 → slice_index_or counts actor 0 ≤ 131072
count_small counts w n actor ok short =
    let was = ok.right actor in
    let h = few actor (take n w) in
    let l = length-take n w in
    omega (arith, was, h, l, short)

bit_here : (n : ℕ) (p : Bool) → bit (n == n && p) ≡ bit p
bit_here n p = ap (λ t. bit (t && p)) (eq-eqb n n refl)

bit_away : (n b : ℕ) (p r : Bool) → (b ≡ n → ⊥) → bit (n == b && p) ≡ bit (n == b && r)
bit_away n b p r away = decide (eqb_tells n b)
  where
    decide : ((eqb n b ≡ true) × (n ≡ b)) ⊎ ((eqb n b ≡ false) × (n ≢ b)) → bit (n == b && p) ≡ bit (n == b && r)
    decide (inl same) = absurd (away (sym same.1))
    decide (inr apart) = ap (λ t. bit (t && p)) apart.0 ∙ sym (ap (λ t. bit (t && r)) apart.0)

-- a first ring counts for the actor that waits, and for no other
rung_here : (q : Queue) (s : Side) → (bell_of q.bells s).pending ≡ false → pending_of (waiting_actor q s) (queue_after q (Do.Ring s) Done []) ≡ pending_of (waiting_actor q s) q + 1
rung_here q Forward h = let a = bit_here q.consumer q.bells.forward.pending in let b = bit_here q.consumer true in let c : bit q.bells.forward.pending ≡ 0 = ap bit h in omega (arith, a, b, c)
rung_here q Backward h = let a = bit_here q.producer q.bells.backward.pending in let b = bit_here q.producer true in let c : bit q.bells.backward.pending ≡ 0 = ap bit h in omega (arith, a, b, c)

rung_away : (q : Queue) (s : Side) (b : ℕ) → (b ≡ waiting_actor q s → ⊥) → pending_of b (queue_after q (Do.Ring s) Done []) ≡ pending_of b q
rung_away q Forward b away = ap (λ n. n + bit (q.producer == b && q.bells.backward.pending)) (bit_away q.consumer b true q.bells.forward.pending away)
rung_away q Backward b away = ap (λ n. bit (q.consumer == b && q.bells.forward.pending) + n) (bit_away q.producer b true q.bells.backward.pending away)

-- and so does a wake that answers yes
woken_here : (q : Queue) (s : Side) → (bell_of q.bells s).pending ≡ true → pending_of (waiting_actor q s) (queue_after q (Do.Wake s) Yes []) + 1 ≡ pending_of (waiting_actor q s) q
woken_here q Forward h = let a = bit_here q.consumer q.bells.forward.pending in let b = bit_here q.consumer false in let c : bit q.bells.forward.pending ≡ 1 = ap bit h in omega (arith, a, b, c)
woken_here q Backward h = let a = bit_here q.producer q.bells.backward.pending in let b = bit_here q.producer false in let c : bit q.bells.backward.pending ≡ 1 = ap bit h in omega (arith, a, b, c)

woken_away : (q : Queue) (s : Side) (b : ℕ) → (b ≡ waiting_actor q s → ⊥) → pending_of b (queue_after q (Do.Wake s) Yes []) ≡ pending_of b q
woken_away q Forward b away = ap (λ n. n + bit (q.producer == b && q.bells.backward.pending)) (bit_away q.consumer b false q.bells.forward.pending away)
woken_away q Backward b away = ap (λ n. bit (q.consumer == b && q.bells.forward.pending) + n) (bit_away q.producer b false q.bells.backward.pending away)

-- a store to a pending word counts for the actor that waits there
stored_here : (q : Queue) (w : Word) (s : Side) (x : ℕ) → pending_side w ≡ Some s → pending_of (waiting_actor q s) (queue_after q (Do.Store w x) Done []) + bit (bell_of q.bells s).pending ≡ pending_of (waiting_actor q s) q + bit (x % 2 == 1)
stored_here q Words.Pending Forward x h = let a = bit_here q.consumer q.bells.forward.pending in let b = bit_here q.consumer (x % 2 == 1) in omega (arith, a, b)
stored_here q Words.PendingBack Backward x h = let a = bit_here q.producer q.bells.backward.pending in let b = bit_here q.producer (x % 2 == 1) in omega (arith, a, b)
stored_here q Words.Pending Backward x h = cc
stored_here q Words.PendingBack Forward x h = cc
stored_here q Words.Head s x h = cc
stored_here q Words.Tail s x h = cc
stored_here q Words.Flag s x h = cc
stored_here q Words.FlagBack s x h = cc

stored_away : (q : Queue) (w : Word) (s : Side) (x b : ℕ) → pending_side w ≡ Some s → (b ≡ waiting_actor q s → ⊥) → pending_of b (queue_after q (Do.Store w x) Done []) ≡ pending_of b q
stored_away q Words.Pending Forward x b h away = ap (λ n. n + bit (q.producer == b && q.bells.backward.pending)) (bit_away q.consumer b (x % 2 == 1) q.bells.forward.pending away)
stored_away q Words.PendingBack Backward x b h away = ap (λ n. bit (q.consumer == b && q.bells.forward.pending) + n) (bit_away q.producer b (x % 2 == 1) q.bells.backward.pending away)
stored_away q Words.Pending Backward x b h away = cc
stored_away q Words.PendingBack Forward x b h away = cc
stored_away q Words.Head s x b h away = cc
stored_away q Words.Tail s x b h away = cc
stored_away q Words.Flag s x b h away = cc
stored_away q Words.FlagBack s x b h away = cc

-- the pending words are as they were
pub record SamePending (q v : Queue) : Type 0 where
  pub producer : v.producer ≡ q.producer
  pub consumer : v.consumer ≡ q.consumer
  pub forward : v.bells.forward.pending ≡ q.bells.forward.pending
  pub backward : v.bells.backward.pending ≡ q.bells.backward.pending

rung_again : (q : Queue) (s : Side) → (bell_of q.bells s).pending ≡ true → SamePending q (queue_after q (Do.Ring s) Done [])
rung_again q Forward h = record { producer = refl; consumer = refl; forward = sym h; backward = refl }
rung_again q Backward h = record { producer = refl; consumer = refl; forward = refl; backward = sym h }

not_woken : (q : Queue) (s : Side) → SamePending q (queue_after q (Do.Wake s) No [])
not_woken q Forward = record { producer = refl; consumer = refl; forward = refl; backward = refl }
not_woken q Backward = record { producer = refl; consumer = refl; forward = refl; backward = refl }

-- neither a ring nor a wake
abbrev pub is_quiet : Op → Bool
is_quiet (Do.Ring s) = false
is_quiet (Do.Wake s) = false
is_quiet Do.See = true
is_quiet Do.Room = true
is_quiet Do.Take = true
is_quiet Do.Put = true
is_quiet (Do.Ask s) = true
is_quiet (Do.Waive s) = true
is_quiet (Do.Wanted s) = true
is_quiet (Do.Settle s) = true
is_quiet (Do.Store w v) = is_none (pending_side w)

quiet_call : (q : Queue) (o : Op) (a : Answer) (c : List Cargo) → is_quiet o ≡ true → SamePending q (queue_after q o a c)
quiet_call q (Do.Ring s) a c h = cc
quiet_call q (Do.Wake s) a c h = cc
quiet_call q (Do.Store Words.Pending v) a c h = cc
quiet_call q (Do.Store Words.PendingBack v) a c h = cc
quiet_call q (Do.Store Words.Head v) a c h = record { producer = refl; consumer = refl; forward = refl; backward = refl }
quiet_call q (Do.Store Words.Tail v) a c h = record { producer = refl; consumer = refl; forward = refl; backward = refl }
quiet_call q (Do.Store Words.Flag v) a c h = record { producer = refl; consumer = refl; forward = refl; backward = refl }
quiet_call q (Do.Store Words.FlagBack v) a c h = record { producer = refl; consumer = refl; forward = refl; backward = refl }
quiet_call q Do.See a c h = record { producer = refl; consumer = refl; forward = refl; backward = refl }
quiet_call q Do.Room a c h = record { producer = refl; consumer = refl; forward = refl; backward = refl }
quiet_call q Do.Take a c h = record { producer = refl; consumer = refl; forward = refl; backward = refl }
quiet_call q Do.Put a c h = record { producer = refl; consumer = refl; forward = refl; backward = refl }
quiet_call q (Do.Ask Forward) a c h = record { producer = refl; consumer = refl; forward = refl; backward = refl }
quiet_call q (Do.Ask Backward) a c h = record { producer = refl; consumer = refl; forward = refl; backward = refl }
quiet_call q (Do.Waive Forward) a c h = record { producer = refl; consumer = refl; forward = refl; backward = refl }
quiet_call q (Do.Waive Backward) a c h = record { producer = refl; consumer = refl; forward = refl; backward = refl }
quiet_call q (Do.Wanted Forward) a c h = record { producer = refl; consumer = refl; forward = refl; backward = refl }
quiet_call q (Do.Wanted Backward) a c h = record { producer = refl; consumer = refl; forward = refl; backward = refl }
quiet_call q (Do.Settle Forward) a c h = record { producer = refl; consumer = refl; forward = refl; backward = refl }
quiet_call q (Do.Settle Backward) a c h = record { producer = refl; consumer = refl; forward = refl; backward = refl }

pub not_true : (b : Bool) → not b ≡ true → b ≡ false
not_true false h = refl
not_true true h = cc

pub there_in : (queues w : List Queue) (r : Role) (n : ℕ) → queues ≡ w → (end_at w r n).owned ≡ true → n < length queues
there_in queues w r n same owned = subst (λ x. n < length x) (sym same) (there_if_owned w r n owned)

-- one queue changes
module _ (counts : List ℕ) (w : List Queue) (k : ℕ) (q : Queue) (ok : IsCounted counts w) (there : k < length w) (at : q ≡ slice_index_or w k q) where
  among : IsAmong (length counts) q
  among = subst (IsAmong (length counts)) (sym at) (All-get_or (IsAmong (length counts)) w k q there ok.known)

  pub waits_there : (s : Side) → waiting_actor q s < length counts
  waits_there Forward = among.1
  waits_there Backward = among.0

  sum_here : (b : ℕ) (v : Queue) → sum_by (pending_of b) (slice_set w k v) + pending_of b q ≡ sum_by (pending_of b) w + pending_of b v
  sum_here b v = subst (λ x. sum_by (pending_of b) (slice_set w k v) + pending_of b x ≡ sum_by (pending_of b) w + pending_of b v) (sym at) (sum_by-set (pending_of b) w k v q there)

  still : (v : Queue) → SamePending q v → IsCounted counts (slice_set w k v)
  still v h = record {
    right = λ b.
        let s = sum_here b v in
        let same : pending_of b v ≡ pending_of b q = rw (h.producer, h.consumer, h.forward, h.backward) refl in
        let was = ok.right b in
        omega (arith, s, same, was);
    known = All-set (IsAmong (length counts)) w k v (subst (λ n. n < length counts) (sym h.producer) among.0, subst (λ n. n < length counts) (sym h.consumer) among.1) ok.known;
  }

  changed : (v : Queue) (a n less more : ℕ) → v.producer ≡ q.producer → v.consumer ≡ q.consumer → a < length counts → n + less ≡ slice_index_or counts a 0 + more → pending_of a v + less ≡ pending_of a q + more → ((b : ℕ) → (b ≡ a → ⊥) → pending_of b v ≡ pending_of b q) → IsCounted (slice_set counts a n) (slice_set w k v)
  changed v a n less more p c inside now here away = record {
    right = λ b. decide b (eqb_tells b a);
    known = subst (λ l. All (IsAmong l) (slice_set w k v)) (sym (length-set counts a n)) (All-set (IsAmong (length counts)) w k v (subst (λ m. m < length counts) (sym p) among.0, subst (λ m. m < length counts) (sym c) among.1) ok.known);
  }
    where
      decide : (b : ℕ) → ((eqb b a ≡ true) × (b ≡ a)) ⊎ ((eqb b a ≡ false) × (b ≢ a)) → slice_index_or (slice_set counts a n) b 0 ≡ sum_by (pending_of b) (slice_set w k v)
      decide b (inl same) = rw same.1 (get_or-set_same counts a n 0 inside ∙ (let s = sum_here a v in let was = ok.right a in omega (arith, s, was, now, here)))
      decide b (inr apart) = get_or-set_other counts a b n 0 apart.1 ∙ (let s = sum_here b v in let was = ok.right b in let e = away b apart.1 in omega (arith, s, was, e))

  pub quiet : (v : Queue) (o : Op) (a : Answer) (c : List Cargo) → is_quiet o ≡ true → v ≡ queue_after q o a c → IsCounted counts (slice_set w k v)
  quiet v o a c h is = still v (subst (SamePending q) (sym is) (quiet_call q o a c h))

  pub again : (v : Queue) (s : Side) → (bell_of q.bells s).pending ≡ true → v ≡ queue_after q (Do.Ring s) Done [] → IsCounted counts (slice_set w k v)
  again v s h is = still v (subst (SamePending q) (sym is) (rung_again q s h))

  pub unwoken : (v : Queue) (s : Side) → v ≡ queue_after q (Do.Wake s) No [] → IsCounted counts (slice_set w k v)
  unwoken v s is = still v (subst (SamePending q) (sym is) (not_woken q s))

  pub rung : (v : Queue) (s : Side) (a n : ℕ) → a ≡ waiting_actor q s → n ≡ slice_index_or counts a 0 + 1 → (bell_of q.bells s).pending ≡ false → v ≡ queue_after q (Do.Ring s) Done [] → IsCounted (slice_set counts a n) (slice_set w k v)
  rung v s a n who now h is = rw (who, is) (changed (queue_after q (Do.Ring s) Done []) (waiting_actor q s) n 0 1 refl refl (waits_there s) (let e : n ≡ slice_index_or counts (waiting_actor q s) 0 + 1 = subst (λ x. n ≡ slice_index_or counts x 0 + 1) who now in omega (arith, e)) (let e = rung_here q s h in omega (arith, e)) (rung_away q s))

  pub woken : (v : Queue) (s : Side) (a n : ℕ) → a ≡ waiting_actor q s → n + 1 ≡ slice_index_or counts a 0 → (bell_of q.bells s).pending ≡ true → v ≡ queue_after q (Do.Wake s) Yes [] → IsCounted (slice_set counts a n) (slice_set w k v)
  woken v s a n who now h is = rw (who, is) (changed (queue_after q (Do.Wake s) Yes []) (waiting_actor q s) n 1 0 refl refl (waits_there s) (let e : n + 1 ≡ slice_index_or counts (waiting_actor q s) 0 = subst (λ x. n + 1 ≡ slice_index_or counts x 0) who now in omega (arith, e)) (let e = woken_here q s h in omega (arith, e)) (woken_away q s))

  pub stored : (v : Queue) (word : Word) (s : Side) (x a n : ℕ) → pending_side word ≡ Some s → a ≡ waiting_actor q s → n + bit (bell_of q.bells s).pending ≡ slice_index_or counts a 0 + bit (x % 2 == 1) → v ≡ queue_after q (Do.Store word x) Done [] → IsCounted (slice_set counts a n) (slice_set w k v)
  stored v word s x a n side who now is = rw (who, is) (changed (queue_after q (Do.Store word x) Done []) (waiting_actor q s) n (bit (bell_of q.bells s).pending) (bit (x % 2 == 1)) refl refl (waits_there s) (subst (λ y. n + bit (bell_of q.bells s).pending ≡ slice_index_or counts y 0 + bit (x % 2 == 1)) who now) (stored_here q word s x side) (λ b away. stored_away q word s x b side away))

  -- what was read at the place of the actor that waits is its count
  pub count_is : (s : Side) (a n : ℕ) → a ≡ waiting_actor q s → n ≡ slice_index_or counts a n → n ≡ slice_index_or counts a 0
  count_is s a n who read = read ∙ sym (get_or_default counts a 0 n (subst (λ x. x < length counts) (sym who) (waits_there s)))

  -- a pending word counts
  pub counts_some : (s : Side) → (bell_of q.bells s).pending ≡ true → 0 < slice_index_or counts (waiting_actor q s) 0
  counts_some s h = let e = sum_here (waiting_actor q s) (queue_after q (Do.Wake s) Yes []) in let was = ok.right (waiting_actor q s) in let one = woken_here q s h in omega (arith, e, was, one)

-- at the start none is pending
none_of : (actor : ℕ) (rows : List QueueRow) → sum_by (pending_of actor) (starts rows) ≡ 0
none_of actor [] = refl
none_of actor (r ∷ rows) =
    let s = sum_by-cons (pending_of actor) (start_queue r) (starts rows) in
    let h = none_of actor rows in
    let a = no_bit (r.consumer.0 == actor) in
    let b = no_bit (r.producer.0 == actor) in
    omega (arith, s, h, a, b)
  where
    no_bit : (b : Bool) → bit (b && false) ≡ 0
    no_bit true = refl
    no_bit false = refl

abbrev zeros : ℕ → List ℕ
zeros n = replicate n 0

zero_at : (n actor : ℕ) → slice_index_or (zeros n) actor 0 ≡ 0
zero_at n actor = decide (nat_lt actor n) refl
  where
    decide : (v : Bool) → nat_lt actor n ≡ v → slice_index_or (zeros n) actor 0 ≡ 0
    decide true h = get_or-replicate n actor 0 0 (ltb-true actor n h)
    decide false h = get_or_past (zeros n) actor 0 (let l = ltb-false actor n h in let s = length-replicate {A = ℕ} n 0 in omega (arith, l, s))

pub at_start : (n : ℕ) (rows : List QueueRow) → All (λ r. (r.producer.0 < n) × (r.consumer.0 < n)) rows → IsCounted (replicate n 0) (starts rows)
at_start n rows h = record {
  right = λ actor. zero_at n actor ∙ sym (none_of actor rows);
  known = subst (λ l. All (IsAmong l) (starts rows)) (sym (length-replicate {A = ℕ} n 0)) (All-map (IsAmong n) start_queue rows h);
}

-- a count is raised where a word is 1
abbrev raised : List ℕ → ℕ → Bool → List ℕ
raised counts a p = slice_set counts a (slice_index_or counts a 0 + bit p)

raised_at : (counts : List ℕ) (a b : ℕ) (p : Bool) → a < length counts → slice_index_or (raised counts a p) b 0 ≡ slice_index_or counts b 0 + bit (a == b && p)
raised_at counts a b p inside = decide (eqb_tells a b)
  where
    decide : ((eqb a b ≡ true) × (a ≡ b)) ⊎ ((eqb a b ≡ false) × (a ≢ b)) → slice_index_or (raised counts a p) b 0 ≡ slice_index_or counts b 0 + bit (a == b && p)
    decide (inl same) = subst (λ n. slice_index_or (raised counts a p) n 0 ≡ slice_index_or counts n 0 + bit (a == n && p)) same.1 (get_or-set_same counts a (slice_index_or counts a 0 + bit p) 0 inside ∙ ap (λ n. slice_index_or counts a 0 + n) (sym (bit_here a p)))
    decide (inr apart) = let other = get_or-set_other counts a b (slice_index_or counts a 0 + bit p) 0 (λ e. apart.1 (sym e)) in let none : bit (a == b && p) ≡ 0 = ap (λ t. bit (t && p)) apart.0 in omega (arith, other, none)

-- by no more than one
pub raised_small : (counts : List ℕ) (a b : ℕ) (p : Bool) → a < length counts → slice_index_or (raised counts a p) b 0 ≤ slice_index_or counts b 0 + 1
raised_small counts a b p inside = let e = raised_at counts a b p inside in let one = bit_small (a == b && p) in omega (arith, e, one)

-- a queue more is counted
pub counted_more : (counts mid new : List ℕ) (w : List Queue) (q : Queue) → IsCounted counts w → IsAmong (length counts) q
    → mid ≡ slice_set counts q.consumer (slice_index_or counts q.consumer 0 + bit q.bells.forward.pending)
    → new ≡ slice_set mid q.producer (slice_index_or mid q.producer 0 + bit q.bells.backward.pending)
    → IsCounted new (w ++ q ∷ [])
counted_more counts mid new w q ok among first second = record {
  right = λ b.
      let sum = sum_by-append (pending_of b) w (q ∷ []) in
      let one = sum_by-cons (pending_of b) q [] in
      let was = ok.right b in
      let front : slice_index_or mid b 0 ≡ slice_index_or counts b 0 + bit (q.consumer == b && q.bells.forward.pending) = ap (λ c. slice_index_or c b 0) first ∙ raised_at counts q.consumer b q.bells.forward.pending among.1 in
      let back : slice_index_or new b 0 ≡ slice_index_or mid b 0 + bit (q.producer == b && q.bells.backward.pending) = ap (λ c. slice_index_or c b 0) second ∙ raised_at mid q.producer b q.bells.backward.pending (subst (λ n. q.producer < n) (sym long_mid) among.0) in
      omega (arith, sum, one, was, front, back);
  known = subst (λ n. All (IsAmong n) (w ++ q ∷ [])) (sym long_new) (All-append (IsAmong (length counts)) w (q ∷ []) ok.known (All-cons (IsAmong (length counts)) q [] among (All-nil (IsAmong (length counts)))));
}
  where
    long_mid : length mid ≡ length counts
    long_mid = ap length first ∙ length-set counts q.consumer _

    long_new : length new ≡ length counts
    long_new = ap length second ∙ (length-set mid q.producer _ ∙ long_mid)
