use Rattle.std.proofs.Common.{◌≡◌, ◌≢◌, ◌⊎◌, ℕ, true, false, Some, List, [], ◌∷◌, ◌++◌, slice_get, subst, refl, sym, ap, ◌∙◌, inl, inr}
use Rattle.std.proofs.Math.Dec.{eqb}
use Rattle.std.proofs.lemmas.Bool.Decides.{eqb_tells}
use Rattle.cargo_core.specs.declared.item.Item.{Item}
use Rattle.wire_core.specs.declared.names.QueueRow.{QueueRow}
use Rattle.wire_core.specs.declared.names.Entry.{Entry}
use Rattle.wire_core.specs.declared.names.Event.{Event}
use Rattle.wire_core.specs.declared.names.Op.{Op}
use Rattle.wire_core.specs.declared.names.Op.TheVariants as Do
use Rattle.wire_core.specs.Ends.{Role, Consumer, Producer, role_of}
use Rattle.wire_core.specs.declared.names.Answer.{Answer}
use Rattle.wire_core.specs.Journal.{History, Hostiles, MayCall, Tally, Track, track, track_after, tally_after, history_at, owner_of}
use Rattle.wire_core.proofs.Tracks.{track_from-append}
use Rattle.play_core.specs.Moved.{Moved, Seat, moved, went, noes_of, AreAlike, LookAlike}
use Rattle.play_core.specs.Wants.{Want, seat_of}
use Rattle.play_core.specs.Manners.{Manners, hostile_by}
use Rattle.play_core.specs.Runs.{is_runnable, reach_of}
use Rattle.play_core.specs.Sheets.{Sheet, IsOwn, AreSeated, needful, RowsHold}
use Rattle.play_core.specs.Still.{Plays}
use Rattle.play_core.proofs.Lists.{some_is, map_get}
use Rattle.play_core.proofs.Flags.{entry_of, unreached, runnable_apart}

-- what went through an end of a queue with this track
abbrev tracked : Track → Role → List Item
tracked t Consumer = t.taken
tracked t Producer = t.sent

tracked_is : (h : History) (j : List Entry) (r : Role) (n : ℕ) → went (moved h j) r n ≡ tracked (track h n j) r
tracked_is h j Consumer n = refl
tracked_is h j Producer n = refl

-- a call moves nothing through the other end
tracked_after : (t : Track) (e : Event) (o : Op) → e.op ≡ o → (r : Role) → (r ≡ role_of o → ⊥) → tracked (track_after t e) r ≡ tracked t r
tracked_after t e Do.See is Consumer other = absurd (other refl)
tracked_after t e Do.See is Producer other = rw is refl
tracked_after t e Do.Room is Consumer other = rw is refl
tracked_after t e Do.Room is Producer other = absurd (other refl)
tracked_after t e Do.Take is Consumer other = absurd (other refl)
tracked_after t e Do.Take is Producer other = rw is refl
tracked_after t e Do.Put is Consumer other = rw is refl
tracked_after t e Do.Put is Producer other = absurd (other refl)
tracked_after t e (Do.Ask s) is Consumer other = rw is refl
tracked_after t e (Do.Ask s) is Producer other = rw is refl
tracked_after t e (Do.Waive s) is Consumer other = rw is refl
tracked_after t e (Do.Waive s) is Producer other = rw is refl
tracked_after t e (Do.Wake s) is Consumer other = rw is refl
tracked_after t e (Do.Wake s) is Producer other = rw is refl
tracked_after t e (Do.Wanted s) is Consumer other = rw is refl
tracked_after t e (Do.Wanted s) is Producer other = rw is refl
tracked_after t e (Do.Settle s) is Consumer other = rw is refl
tracked_after t e (Do.Settle s) is Producer other = rw is refl
tracked_after t e (Do.Ring s) is Consumer other = rw is refl
tracked_after t e (Do.Ring s) is Producer other = rw is refl
tracked_after t e (Do.Store w v) is Consumer other = rw is refl
tracked_after t e (Do.Store w v) is Producer other = rw is refl

-- an end counts its own looks alone
tally_kept : (y : Tally) (mine caller : Role) (o : Op) (a : Answer) → (mine ≡ caller → ⊥) → tally_after y mine caller o a ≡ y
tally_kept y Consumer Consumer o a off = absurd (off refl)
tally_kept y Producer Producer o a off = absurd (off refl)
tally_kept y Consumer Producer o a off = refl
tally_kept y Producer Consumer o a off = refl

noes_kept : (t : Track) (e : Event) (r : Role) → (r ≡ role_of e.op → ⊥) → noes_of r (track_after t e) ≡ noes_of r t
noes_kept t e Consumer off = ap (λ (y : Tally). y.noes) (tally_kept t.consumer Consumer (role_of e.op) e.op e.answer off)
noes_kept t e Producer off = ap (λ (y : Tally). y.noes) (tally_kept t.producer Producer (role_of e.op) e.op e.answer off)

-- after a call of actor k
module _ (history : History) (journal : List Entry) (k : ℕ) (e : Event) where
  abbrev then_ : List Entry
  then_ = journal ++ entry_of k e ∷ []

  went_at : (r : Role) (n : ℕ) → (n ≡ e.queue.0 → r ≡ role_of e.op → ⊥) → ((eqb e.queue.0 n ≡ true) × (e.queue.0 ≡ n)) ⊎ ((eqb e.queue.0 n ≡ false) × (e.queue.0 ≢ n)) → tracked (track history n then_) r ≡ tracked (track history n journal) r
  went_at r n off (inl on) = rw (track_from-append (history_at history n) n journal (entry_of k e), on.0) (tracked_after (track history n journal) e e.op refl r (λ same. off (sym on.1) same))
  went_at r n off (inr away) = rw (track_from-append (history_at history n) n journal (entry_of k e), away.0) refl

  -- at any other end nothing more went through
  pub went_still : (r : Role) (n : ℕ) → (n ≡ e.queue.0 → r ≡ role_of e.op → ⊥) → went (moved history then_) r n ≡ went (moved history journal) r n
  went_still r n off = tracked_is history then_ r n ∙ (went_at r n off (eqb_tells e.queue.0 n) ∙ sym (tracked_is history journal r n))

  noes_at : (r : Role) (n : ℕ) → (n ≡ e.queue.0 → r ≡ role_of e.op → ⊥) → ((eqb e.queue.0 n ≡ true) × (e.queue.0 ≡ n)) ⊎ ((eqb e.queue.0 n ≡ false) × (e.queue.0 ≢ n)) → noes_of r (track history n then_) ≡ noes_of r (track history n journal)
  noes_at r n off (inl on) = rw (track_from-append (history_at history n) n journal (entry_of k e), on.0) (noes_kept (track history n journal) e r (λ same. off (sym on.1) same))
  noes_at r n off (inr away) = rw (track_from-append (history_at history n) n journal (entry_of k e), away.0) refl

  -- and it looked in vain as often
  pub noes_still : (r : Role) (n : ℕ) → (n ≡ e.queue.0 → r ≡ role_of e.op → ⊥) → noes_of r (track history n then_) ≡ noes_of r (track history n journal)
  noes_still r n off = noes_at r n off (eqb_tells e.queue.0 n)

  -- one of a sheet's ends is the caller's
  abbrev pub Touches : Sheet → Type 0
  Touches s = (i : ℕ) × (x : Seat) × (slice_get s.ends i ≡ Some x) × (x.queue ≡ e.queue.0) × (x.role ≡ role_of e.op)

  alike_then : (s : Sheet) → (Touches s → ⊥) → AreAlike s.ends (moved history journal) (moved history then_)
  alike_then s off i x at = sym (went_still x.role x.queue (λ q r. off (i, x, at, q, r)))

  look_then : (s : Sheet) → (Touches s → ⊥) → LookAlike s.ends (moved history journal) (moved history then_)
  look_then s off i x at = sym (noes_still x.role x.queue (λ q r. off (i, x, at, q, r)))

  -- an actor of which no end is the caller's needs what it needed, and its row goes on to hold
  pub wants_still : (s : Sheet) → IsOwn s → (Touches s → ⊥) → s.wants (moved history then_) ≡ s.wants (moved history journal)
  wants_still s own off = sym (own.wants (moved history journal) (moved history then_) (alike_then s off) (look_then s off))

  pub row_still : (s : Sheet) → IsOwn s → (Touches s → ⊥) → s.row (moved history journal) → s.row (moved history then_)
  row_still s own off holds = own.row (moved history journal) (moved history then_) (alike_then s off) (look_then s off) holds

-- a want of a sheet is of one of its ends
pub want_seat : (s : Sheet) → IsOwn s → (m : Moved) (i : ℕ) (w : Want) → slice_get (s.wants m) i ≡ Some w → slice_get s.ends i ≡ Some (seat_of w)
want_seat s own m i w at = subst (λ seats. slice_get seats i ≡ Some (seat_of w)) (own.ends m) (map_get seat_of (s.wants m) i w at)

-- after a call of actor k, which may make it
module _ {P : Type 0} (sheet : P → Sheet) (own : (p : P) → IsOwn (sheet p)) (manner : Manners) (history : History) (rows : List QueueRow) (cast : List P) (seated : AreSeated sheet rows cast) (journal : List Entry) (k : ℕ) (e : Event) (row : QueueRow) (there : slice_get rows e.queue.0 ≡ Some row) (may : MayCall (hostile_by manner) row (role_of e.op) k) where
  abbrev after_ : List Entry
  after_ = journal ++ entry_of k e ∷ []

  -- it is made at an end of this actor
  abbrev pub IsHere : ℕ → Type 0
  IsHere i = owner_of row (role_of e.op) ≡ i

  owner_at : (i : ℕ) (p : P) → slice_get cast i ≡ Some p → (a : ℕ) (x : Seat) → slice_get (sheet p).ends a ≡ Some x → x.queue ≡ e.queue.0 → owner_of row x.role ≡ i
  owner_at i p at a x end q =
      let seat = seated i p at a x end in
      let same : seat.0 ≡ row = some_is (sym seat.1 ∙ (ap (slice_get rows) q ∙ there)) in
      subst (λ (r : QueueRow). owner_of r x.role ≡ i) same seat.2

  untouched : (i : ℕ) (p : P) → slice_get cast i ≡ Some p → (IsHere i → ⊥) → Touches history journal k e (sheet p) → ⊥
  untouched i p at away t = away (sym (ap (owner_of row) t.4) ∙ owner_at i p at t.0 t.1 t.2 t.3)

  abbrev wants_at : P → List Entry → List Want
  wants_at p j = (sheet p).wants (moved history j)

  -- what an actor wants, at whose ends the call isn't made, stays
  others_want : (i : ℕ) (p : P) → slice_get cast i ≡ Some p → (IsHere i → ⊥) → wants_at p after_ ≡ wants_at p journal
  others_want i p at away = wants_still history journal k e (sheet p) (own p) (untouched i p at away)

  -- an actor that isn't the caller and isn't reached stays runnable or not
  pub others_run : (i : ℕ) (p : P) → slice_get cast i ≡ Some p → i ≢ k → (reach_of e.op row k ≡ Some i → ⊥) → is_runnable (manner i) i (wants_at p after_) history rows after_ ≡ is_runnable (manner i) i (wants_at p journal) history rows journal
  others_run i p at away quiet =
      let here = (unreached manner history rows journal k e row there may i away quiet).0 in
      ap (λ ws. is_runnable (manner i) i ws history rows after_) (others_want i p at here)
      ∙ runnable_apart manner history rows journal k e row there may i (wants_at p journal) away quiet
      (λ a w is q r. untouched i p at here (a, seat_of w, want_seat (sheet p) (own p) (moved history journal) a w is, q, r))

-- one of the cast, which isn't hostile, plays its sheet
pub plays_there : {P : Type 0} (sheet : P → Sheet) (hostile : Hostiles) (cast : List P) (m : Moved) → RowsHold sheet hostile cast m → (k : ℕ) (p : P) → hostile k ≡ false → slice_get cast k ≡ Some p → Plays hostile (needful sheet cast m) m (sheet p)
plays_there sheet hostile cast m holds k p calm at = record {
  acts = record { actor = k; calm = calm; there = map_get (λ p. (sheet p).wants m) cast k p at };
  row = holds k p calm at;
}
