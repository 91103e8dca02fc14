use Rattle.std.proofs.Common.{◌≡◌, ◌≢◌, ◌⊎◌, ◌==◌, ◌<◌, ℕ, Bool, true, false, Some, None, List, [], ◌∷◌, ◌++◌, length, slice_get, drop, append_assoc, refl, sym, ◌∙◌, subst, ap, inl, inr, zero, suc, ◌≤◌, ◌+◌, arith, ◌&&◌, ◌||◌, add-zero}
use Rattle.std.specs.Option.{option_to_list}
use Rattle.std.proofs.lemmas.List.{append-nil, map-append}
use Rattle.cargo_core.specs.Items.{kind_of}
use Rattle.cargo_core.specs.declared.item.Item.{Item}
use Rattle.wire_core.specs.declared.names.QueueRow.{QueueRow}
use Rattle.wire_core.specs.declared.names.Event.{Event}
use Rattle.wire_core.specs.declared.names.Entry.{Entry}
use Rattle.wire_core.specs.declared.names.Op.{Op}
use Rattle.wire_core.specs.Deeds.{Cargo}
use Rattle.wire_core.specs.Lists.{if_there, if_taken, if_put}
use Rattle.wire_core.specs.Queues.{Queue, Carries, queue_at, items_of, entries_after, after, starts, is_called}
use Rattle.wire_core.specs.Journal.{Track, track, track_after, sent_after, taken_after, History, if_on, IsShown, start_track}
use Rattle.wire_core.proofs.Tracks.{shown_calls}
use Rattle.play_core.specs.Moved.{moved}
use Rattle.play_core.proofs.Lists.{some_is}
use Rattle.play_core.specs.Runs.{called_from}
use Rattle.std.specs.List.{list_any}
use Rattle.cargo_core.specs.declared.item.QueueKind.TheVariants as Kind
use Rattle.wire_core.specs.declared.names.Op.TheVariants as Do

pub no_row : QueueRow
no_row = record { name = []; kind = Kind.Byte; capacity = 0; producer = record { 0 = 0 }; consumer = record { 0 = 0 }; region = None; offset = 0 }

pub starts_shown : (rows : List QueueRow) (n : ℕ) (row : QueueRow) → slice_get rows n ≡ Some row → IsShown row (queue_at (starts rows) n) start_track
starts_shown [] n row h = cc
starts_shown (a ∷ rows) zero row h = let e : a ≡ row = some_is h in record { kind = ap (λ (r : QueueRow). r.kind) e; capacity = ap (λ (r : QueueRow). r.capacity) e; producer = ap (λ (r : QueueRow). r.producer.0) e; consumer = ap (λ (r : QueueRow). r.consumer.0) e; lists = refl; bells = refl }
starts_shown (a ∷ rows) (suc n) row h = starts_shown rows n row h

pub nothing_there : (rows : List QueueRow) (n : ℕ) → (queue_at (starts rows) n).entries ≡ []
nothing_there [] n = refl
nothing_there (a ∷ rows) zero = refl
nothing_there (a ∷ rows) (suc n) = nothing_there rows n

pub none_stored : (rows : List QueueRow) (n : ℕ) → (queue_at (starts rows) n).indices.stored ≡ false
none_stored [] n = refl
none_stored (a ∷ rows) zero = refl
none_stored (a ∷ rows) (suc n) = none_stored rows n

either : {a b c d : Bool} → a ≡ b → c ≡ d → (a || c) ≡ (b || d)
either e f = cc

-- whose waiters the queues call, as their tracks tell it
pub called_queues : (actor n : ℕ) (history : History) (journal : List Entry) (rows : List QueueRow) (world : List Queue) → length world ≡ length rows → ((m : ℕ) (row : QueueRow) → slice_get rows m ≡ Some row → IsShown row (queue_at world m) (track history (n + m) journal)) → list_any (is_called actor) world ≡ called_from actor n history rows journal
called_queues actor n history journal [] [] size shown = refl
called_queues actor n history journal [] (q ∷ qs) size shown = absurd (omega (arith, size))
called_queues actor n history journal (row ∷ rows) [] size shown = absurd (omega (arith, size))
called_queues actor n history journal (row ∷ rows) (q ∷ qs) size shown =
    either (shown_calls row q (track history n journal) actor (subst (λ m. IsShown row q (track history m journal)) (add-zero n) (shown 0 row refl)))
    (called_queues actor (n + 1) history journal rows qs (omega (arith, size)) (λ m r at. subst (λ i. IsShown r (queue_at qs m) (track history i journal)) (moved n m) (shown (suc m) r at)))
  where
    moved : (n m : ℕ) → n + suc m ≡ (n + 1) + m
    moved n m = omega arith

-- what the lists with the entry added show
taken_more : (o : Op) (ts : List Item) (item : List Item) (c xs : List Cargo) → item ≡ items_of c → items_of xs ≡ ts → items_of (xs ++ if_taken o c) ≡ taken_after ts o item
taken_more Do.Take ts item c xs e h = map-append (λ x. x.0) xs c ∙ rw (h, e) refl
taken_more Do.Put ts item c xs e h = rw append-nil h
taken_more Do.See ts item c xs e h = rw append-nil h
taken_more Do.Room ts item c xs e h = rw append-nil h
taken_more (Do.Ask s) ts item c xs e h = rw append-nil h
taken_more (Do.Waive s) ts item c xs e h = rw append-nil h
taken_more (Do.Wake s) ts item c xs e h = rw append-nil h
taken_more (Do.Wanted s) ts item c xs e h = rw append-nil h
taken_more (Do.Settle s) ts item c xs e h = rw append-nil h
taken_more (Do.Ring s) ts item c xs e h = rw append-nil h
taken_more (Do.Store w v) ts item c xs e h = rw append-nil h

sent_more : (o : Op) (ts : List Item) (item : List Item) (c xs : List Cargo) → item ≡ items_of c → items_of xs ≡ ts → items_of (xs ++ if_put o c) ≡ sent_after ts o item
sent_more Do.Put ts item c xs e h = map-append (λ x. x.0) xs c ∙ rw (h, e) refl
sent_more Do.Take ts item c xs e h = rw append-nil h
sent_more Do.See ts item c xs e h = rw append-nil h
sent_more Do.Room ts item c xs e h = rw append-nil h
sent_more (Do.Ask s) ts item c xs e h = rw append-nil h
sent_more (Do.Waive s) ts item c xs e h = rw append-nil h
sent_more (Do.Wake s) ts item c xs e h = rw append-nil h
sent_more (Do.Wanted s) ts item c xs e h = rw append-nil h
sent_more (Do.Settle s) ts item c xs e h = rw append-nil h
sent_more (Do.Ring s) ts item c xs e h = rw append-nil h
sent_more (Do.Store w v) ts item c xs e h = rw append-nil h

pub taken_shown : (b : Bool) (t : Track) (e : Event) (c xs : List Cargo) → option_to_list e.item ≡ items_of c → items_of xs ≡ t.taken → items_of (xs ++ if_there b (if_taken e.op c)) ≡ (if_on b (track_after t e) t).taken
taken_shown false t e c xs item h = rw append-nil h
taken_shown true t e c xs item h = taken_more e.op t.taken (option_to_list e.item) c xs item h

pub sent_shown : (b : Bool) (t : Track) (e : Event) (c xs : List Cargo) → option_to_list e.item ≡ items_of c → items_of xs ≡ t.sent → items_of (xs ++ if_there b (if_put e.op c)) ≡ (if_on b (track_after t e) t).sent
sent_shown false t e c xs item h = rw append-nil h
sent_shown true t e c xs item h = sent_more e.op t.sent (option_to_list e.item) c xs item h

pub still_there : (es ss ts : List Cargo) → ss ≡ ts ++ es → ss ++ [] ≡ (ts ++ []) ++ es
still_there es ss ts h = append-nil ss ∙ (h ∙ ap (λ x. x ++ es) (sym (append-nil ts)))

-- what stands in a queue after a call on it
pub moved_there : (q : Queue) (o : Op) (c ss ts : List Cargo) → Carries q o c → ss ≡ ts ++ q.entries → ss ++ if_put o c ≡ (ts ++ if_taken o c) ++ entries_after q.entries o c
moved_there q Do.Take c ss ts m h =
    append-nil ss ∙ (h ∙ (ap (λ es. ts ++ es) m.2 ∙ (ap (λ x. ts ++ (x ++ drop 1 q.entries)) (sym m.1) ∙ sym (append_assoc ts c (drop 1 q.entries)))))
moved_there q Do.Put c ss ts m h = ap (λ x. x ++ c) h ∙ (append_assoc ts q.entries c ∙ ap (λ x. x ++ (q.entries ++ c)) (sym (append-nil ts)))
moved_there q Do.See c ss ts m h = still_there q.entries ss ts h
moved_there q Do.Room c ss ts m h = still_there q.entries ss ts h
moved_there q (Do.Ask s) c ss ts m h = still_there q.entries ss ts h
moved_there q (Do.Waive s) c ss ts m h = still_there q.entries ss ts h
moved_there q (Do.Wake s) c ss ts m h = still_there q.entries ss ts h
moved_there q (Do.Wanted s) c ss ts m h = still_there q.entries ss ts h
moved_there q (Do.Settle s) c ss ts m h = still_there q.entries ss ts h
moved_there q (Do.Ring s) c ss ts m h = still_there q.entries ss ts h
moved_there q (Do.Store w v) c ss ts m h = still_there q.entries ss ts h

last_or : {X : Type 0} (xs : List X) (l x : X) (k : ℕ) → slice_get (xs ++ l ∷ []) k ≡ Some x → (slice_get xs k ≡ Some x) ⊎ (l ≡ x)
last_or [] l x zero at = inr (some_is at)
last_or [] l x (suc k) at = cc
last_or (y ∷ xs) l x zero at = inl at
last_or (y ∷ xs) l x (suc k) at = last_or xs l x k at

pub none_put : (ss : List Cargo) (k : ℕ) (x : Cargo) → slice_get (ss ++ []) k ≡ Some x → slice_get ss k ≡ Some x
none_put ss k x at = ap (λ l. slice_get l k) (sym (append-nil ss)) ∙ at

-- what is put to a queue is of its kind
pub put_kind : (q : Queue) (o : Op) (c ss : List Cargo) → Carries q o c → (k : ℕ) (x : Cargo) → slice_get (ss ++ if_put o c) k ≡ Some x → (slice_get ss k ≡ Some x) ⊎ (kind_of x.0 ≡ q.kind)
put_kind q Do.Put c ss m k x at = by (last_or ss m.0 x k (ap (λ d. slice_get (ss ++ d) k) (sym m.1) ∙ at))
  where
    by : (slice_get ss k ≡ Some x) ⊎ (m.0 ≡ x) → (slice_get ss k ≡ Some x) ⊎ (kind_of x.0 ≡ q.kind)
    by (inl h) = inl h
    by (inr e) = inr (ap (λ (y : Cargo). kind_of y.0) (sym e) ∙ m.2)
put_kind q Do.Take c ss m k x at = inl (none_put ss k x at)
put_kind q Do.See c ss m k x at = inl (none_put ss k x at)
put_kind q Do.Room c ss m k x at = inl (none_put ss k x at)
put_kind q (Do.Ask s) c ss m k x at = inl (none_put ss k x at)
put_kind q (Do.Waive s) c ss m k x at = inl (none_put ss k x at)
put_kind q (Do.Wake s) c ss m k x at = inl (none_put ss k x at)
put_kind q (Do.Wanted s) c ss m k x at = inl (none_put ss k x at)
put_kind q (Do.Settle s) c ss m k x at = inl (none_put ss k x at)
put_kind q (Do.Ring s) c ss m k x at = inl (none_put ss k x at)
put_kind q (Do.Store w v) c ss m k x at = inl (none_put ss k x at)
