use Rattle.std.proofs.Common.{◌≡◌, ◌||◌, ◌==◌, ◌≤◌, ◌++◌, ℕ, Bool, true, false, Some, List, [], ◌∷◌, slice_get, refl, sym, ap, ◌∙◌, subst, arith}
use Rattle.std.proofs.lemmas.Bool.{eqb-true}
use Rattle.wire_core.specs.declared.names.Event.{Event}
use Rattle.wire_core.specs.declared.names.Entry.{Entry}
use Rattle.wire_core.specs.declared.names.QueueRow.{QueueRow}
use Rattle.wire_core.specs.declared.names.Side.{Side}
use Rattle.wire_core.specs.declared.names.Side.TheVariants.{Forward, Backward}
use Rattle.wire_core.specs.declared.names.Op.{Op}
use Rattle.wire_core.specs.declared.names.Op.TheVariants as Do
use Rattle.wire_core.specs.declared.names.Answer.{Answer}
use Rattle.wire_core.specs.declared.names.Answer.TheVariants.{Done, Yes, No}
use Rattle.wire_core.specs.Deeds.{answer_of}
use Rattle.wire_core.specs.Ends.{Role, role_of, waiting_role}
use Rattle.wire_core.specs.Queues.{Bells, is_store, bell_of, bells_after, Tells}
use Rattle.wire_core.proofs.Callers.{calm_caller}
use Rattle.wire_core.specs.Journal.{History, Track, track, history_at, track_after, if_on, LegalEntry, is_calm, is_sent, is_open, Hostiles, owner_of}
use Rattle.wire_core.proofs.Tracks.{track_from-append}
use Rattle.turn_kit.specs.Turns.{Post, is_drop, is_mark_at, Round, Turned, is_at_rest}
use Rattle.wire_core.specs.Marks.{Drops, HasCalmQueues, is_mark, is_marked, since, calls_after, calls_at}
use Rattle.wire_core.proofs.Sinces.{eqb_refl, eqb_apart, since-append}
use Rattle.turn_kit.specs.Pace.{Pendings, pendings, IsCalled, Paced, AreOwnPosts}
use Rattle.turn_kit.proofs.Turning.{round_next, no_mark_at}
use Rattle.turn_kit.proofs.Pacing.{paced_next, paced_anew, paced_beside, round_now, eight, at_le_on}

-- a pending notification stays pending until a wake that answers yes, where nobody stores
pend_after : (b : Bells) (o : Op) (a : Answer) (s : Side) → (bell_of b s).pending ≡ true → (o ≡ Do.Wake s → a ≡ Yes → ⊥) → is_store o ≡ false → (bell_of (bells_after b o a) s).pending ≡ true
pend_after b Do.See a Forward h w c = h
pend_after b Do.See a Backward h w c = h
pend_after b Do.Room a Forward h w c = h
pend_after b Do.Room a Backward h w c = h
pend_after b Do.Take a Forward h w c = h
pend_after b Do.Take a Backward h w c = h
pend_after b Do.Put a Forward h w c = h
pend_after b Do.Put a Backward h w c = h
pend_after b (Do.Ask Forward) a Forward h w c = h
pend_after b (Do.Ask Forward) a Backward h w c = h
pend_after b (Do.Ask Backward) a Forward h w c = h
pend_after b (Do.Ask Backward) a Backward h w c = h
pend_after b (Do.Waive Forward) a Forward h w c = h
pend_after b (Do.Waive Forward) a Backward h w c = h
pend_after b (Do.Waive Backward) a Forward h w c = h
pend_after b (Do.Waive Backward) a Backward h w c = h
pend_after b (Do.Wanted Forward) a Forward h w c = h
pend_after b (Do.Wanted Forward) a Backward h w c = h
pend_after b (Do.Wanted Backward) a Forward h w c = h
pend_after b (Do.Wanted Backward) a Backward h w c = h
pend_after b (Do.Settle Forward) a Forward h w c = h
pend_after b (Do.Settle Forward) a Backward h w c = h
pend_after b (Do.Settle Backward) a Forward h w c = h
pend_after b (Do.Settle Backward) a Backward h w c = h
pend_after b (Do.Ring Forward) a Forward h w c = refl
pend_after b (Do.Ring Forward) a Backward h w c = h
pend_after b (Do.Ring Backward) a Forward h w c = h
pend_after b (Do.Ring Backward) a Backward h w c = refl
pend_after b (Do.Wake Forward) Yes Forward h w c = absurd (w refl refl)
pend_after b (Do.Wake Forward) No Forward h w c = h
pend_after b (Do.Wake Forward) Done Forward h w c = h
pend_after b (Do.Wake Forward) a Backward h w c = h
pend_after b (Do.Wake Backward) a Forward h w c = h
pend_after b (Do.Wake Backward) Yes Backward h w c = absurd (w refl refl)
pend_after b (Do.Wake Backward) No Backward h w c = h
pend_after b (Do.Wake Backward) Done Backward h w c = h
pend_after b (Do.Store x v) a s h w c = cc

pendings_after : (history : History) (before : List Entry) (e : Entry) (n : ℕ) (s : Side) → pendings history before n s ≡ true → (e.event.queue.0 ≡ n → e.event.op ≡ Do.Wake s → e.event.answer ≡ Yes → ⊥) → (e.event.queue.0 ≡ n → is_store e.event.op ≡ false) → pendings history (before ++ e ∷ []) n s ≡ true
pendings_after history before e n s h w c = subst (λ (t : Track). (bell_of t.bells s).pending ≡ true) (sym (track_from-append (history_at history n) n before e)) (go (e.event.queue.0 == n) refl)
  where
    go : (b : Bool) → (e.event.queue.0 == n) ≡ b → (bell_of (if_on b (track_after (track history n before) e.event) (track history n before)).bells s).pending ≡ true
    go false q = h
    go true q = let same = eqb-true e.event.queue.0 n q in pend_after (track history n before).bells e.event.op e.event.answer s h (w same) (c same)

-- on a calm queue nobody stores
no_store : (filled room : Bool) (b : Bells) (o : Op) (a : Answer) → Tells filled room b o a → is_store o ≡ false
no_store filled room b Do.See a t = refl
no_store filled room b Do.Room a t = refl
no_store filled room b Do.Take a t = refl
no_store filled room b Do.Put a t = refl
no_store filled room b (Do.Ask s) a t = refl
no_store filled room b (Do.Waive s) a t = refl
no_store filled room b (Do.Wake s) a t = refl
no_store filled room b (Do.Wanted s) a t = refl
no_store filled room b (Do.Settle s) a t = refl
no_store filled room b (Do.Ring s) a t = refl
no_store filled room b (Do.Store x v) a t = absurd t

told_at : (filled room : Bool) (b : Bells) (o : Op) (a : Answer) (s : Side) → Tells filled room b o a → o ≡ Do.Wake s → a ≡ answer_of (bell_of b s).pending
told_at filled room b o a s t h = subst (λ x. Tells filled room b x a) h t

yes_marks : (o : Op) (a : Answer) (s : Side) → is_mark o a ≡ false → o ≡ Do.Wake s → a ≡ Yes → ⊥
yes_marks o a s n h y = let no : is_mark (Do.Wake s) Yes ≡ false = subst (λ x. is_mark (Do.Wake s) x ≡ false) y (subst (λ x. is_mark x a ≡ false) h n) in cc

some_row : (a b : QueueRow) → Some a ≡ Some b → a ≡ b
some_row a b h = cc

module _ (hostile : Hostiles) (drops : Drops) (history : History) (rows : List QueueRow) (before : List Entry) (e : Entry) (legal : LegalEntry hostile history rows before e) where
  abbrev After : ℕ → Round → Type 0
  After a now = Paced (pendings history (before ++ e ∷ [])) (since drops a (before ++ e ∷ [])) now

  calm_store : is_calm hostile legal.row ≡ true → is_store e.event.op ≡ false
  calm_store calm = no_store (is_sent (track history e.event.queue.0 before)) (is_open legal.row (track history e.event.queue.0 before)) (track history e.event.queue.0 before).bells e.event.op e.event.answer (legal.legal.tells calm)

  -- the actor's own entry, which is its turn; where it was at rest, it was called
  pub pace_own : HasCalmQueues hostile rows e.actor.0 → (old new : Round) → Paced (pendings history before) (since drops e.actor.0 before) old → (t : Turned old e.event new) → drops e ≡ is_drop t.posted.post e.event → (is_at_rest old ≡ true → IsCalled (pendings history before) old.posts) → After e.actor.0 new
  pace_own has old new p t d runs = subst (λ es. Paced (pendings history (before ++ e ∷ [])) es new) (sym (since-append drops e.actor.0 before e)) (rw (eqb_refl e.actor.0) (mine (is_marked drops e) refl))
    where
      calm : is_calm hostile legal.row ≡ true
      calm = has.queues e.event.queue.0 legal.row legal.there (role_of e.event.op) (legal.legal.caller.own has.calm)

      same : is_marked drops e ≡ is_mark_at t.posted.post e.event
      same = ap (λ b. b || is_mark e.event.op e.event.answer) d

      mine : (m : Bool) → is_marked drops e ≡ m → Paced (pendings history (before ++ e ∷ [])) (calls_after m (since drops e.actor.0 before) e.event) new
      mine true h = paced_anew (pendings history (before ++ e ∷ [])) new (round_next old e.event new t (round_now (pendings history before) (since drops e.actor.0 before) old p))
      mine false h =
          let n : is_mark_at t.posted.post e.event ≡ false = sym same ∙ h in
          let plain = no_mark_at t.posted.post e.event n in
          paced_next (pendings history before) (pendings history (before ++ e ∷ [])) (since drops e.actor.0 before) old new e.event p t n runs (λ s o. told_at (is_sent (track history e.event.queue.0 before)) (is_open legal.row (track history e.event.queue.0 before)) (track history e.event.queue.0 before).bells e.event.op e.event.answer s (legal.legal.tells calm) o) (λ m s p. pendings_after history before e m s p (λ q o y. yes_marks e.event.op e.event.answer s plain o y) (λ q. calm_store calm)) (is_at_rest old) refl

  -- another actor's entry, on whatever queue
  pub pace_beside : (a : ℕ) → HasCalmQueues hostile rows a → (now : Round) → (e.actor.0 ≡ a → ⊥) → AreOwnPosts rows a now.posts → Paced (pendings history before) (since drops a before) now → After a now
  pace_beside a has now apart own p = subst (λ es. Paced (pendings history (before ++ e ∷ [])) es now) (sym (since-append drops a before e)) (rw (eqb_apart e.actor.0 a apart) (paced_beside (pendings history before) (pendings history (before ++ e ∷ [])) (since drops a before) now p (λ k q at h. pendings_after history before e q.queue q.side h (λ s o y. apart (owner_is k q at s o)) (λ s. calm_store (calm_at k q at s)))))
    where
      owned : (k : ℕ) (q : Post) → slice_get now.posts k ≡ Some q → e.event.queue.0 ≡ q.queue → owner_of legal.row (waiting_role q.side) ≡ a
      owned k q at s = own k q at legal.row (sym (ap (slice_get rows) s) ∙ legal.there)

      calm_at : (k : ℕ) (q : Post) → slice_get now.posts k ≡ Some q → e.event.queue.0 ≡ q.queue → is_calm hostile legal.row ≡ true
      calm_at k q at s = has.queues e.event.queue.0 legal.row legal.there (waiting_role q.side) (owned k q at s)

      owner_is : (k : ℕ) (q : Post) → slice_get now.posts k ≡ Some q → e.event.queue.0 ≡ q.queue → e.event.op ≡ Do.Wake q.side → e.actor.0 ≡ a
      owner_is k q at s o = sym (calm_caller hostile legal.row (role_of e.event.op) e.actor.0 (calm_at k q at s) legal.legal.caller) ∙ (ap (λ x. owner_of legal.row (role_of x)) o ∙ owned k q at s)

-- at most 8 calls on each end
pub pace_few : (pending : Pendings) (calls : List Event) (now : Round) → Paced pending calls now → (r : Role) (n : ℕ) → calls_at r n calls ≤ 8
pace_few pending calls now p r n = let h = eight pending calls now p n in let l = at_le_on r n calls in omega (arith, h, l)
