use Rattle.std.proofs.Common.{◌≡◌, ◌⊎◌, ◌==◌, ◌+◌, ◌<◌, ◌≤◌, ◌≢◌, ℕ, zero, suc, Bool, true, false, cond, List, [], ◌∷◌, ◌++◌, length, slice_get, sum_by, refl, sym, ap, ap₂, ◌∙◌, arith, inl, inr}
use Rattle.std.specs.Option.{option_to_list}
use Rattle.std.proofs.Math.Dec.{eqb}
use Rattle.std.proofs.lemmas.Bool.Decides.{eqb_tells}
use Rattle.std.proofs.lemmas.List.{append-nil}
use Rattle.std.proofs.lemmas.List.Sums.{sum_by-append}
use Rattle.cargo_core.specs.declared.item.Item.{Item}
use Rattle.wire_core.specs.declared.names.Entry.{Entry}
use Rattle.wire_core.specs.declared.names.Event.{Event}
use Rattle.wire_core.specs.declared.names.Op.{Op}
use Rattle.wire_core.specs.declared.names.Op.TheVariants as Do
use Rattle.wire_core.specs.Journal.{History, Track, track, track_after, sent_after, taken_after, history_at, if_on}
use Rattle.wire_core.proofs.Tracks.{track_from-append}
use Rattle.play_core.specs.Moved.{Moved, moved}
use Rattle.owner_law.specs.Things.{Window, Names, NoBuffers, Buffers, Frames, Leases, Returns, Answers, Naming, Thing, thing_at, things_from, requests_of, things_sent, things_taken}
use Rattle.owner_law.proofs.Sums.{when}

-- what an entry puts to queue n and takes there is added to the lists of that queue
pub record Moves (m m' : Moved) (n : ℕ) (puts takes : List Item) : Type 0 where
  pub sent : (q : ℕ) → m'.sent q ≡ m.sent q ++ cond (n == q) puts []
  pub taken : (q : ℕ) → m'.taken q ≡ m.taken q ++ cond (n == q) takes []

abbrev pub puts_of : Event → List Item
puts_of e = sent_after [] e.op (option_to_list e.item)

abbrev pub takes_of : Event → List Item
takes_of e = taken_after [] e.op (option_to_list e.item)

sent_more : (xs : List Item) (o : Op) (c : List Item) → sent_after xs o c ≡ xs ++ sent_after [] o c
sent_more xs Do.Put c = refl
sent_more xs Do.Take c = sym (append-nil xs)
sent_more xs Do.See c = sym (append-nil xs)
sent_more xs Do.Room c = sym (append-nil xs)
sent_more xs (Do.Ask s) c = sym (append-nil xs)
sent_more xs (Do.Waive s) c = sym (append-nil xs)
sent_more xs (Do.Wake s) c = sym (append-nil xs)
sent_more xs (Do.Wanted s) c = sym (append-nil xs)
sent_more xs (Do.Settle s) c = sym (append-nil xs)
sent_more xs (Do.Ring s) c = sym (append-nil xs)
sent_more xs (Do.Store w v) c = sym (append-nil xs)

taken_more : (xs : List Item) (o : Op) (c : List Item) → taken_after xs o c ≡ xs ++ taken_after [] o c
taken_more xs Do.Take c = refl
taken_more xs Do.Put c = sym (append-nil xs)
taken_more xs Do.See c = sym (append-nil xs)
taken_more xs Do.Room c = sym (append-nil xs)
taken_more xs (Do.Ask s) c = sym (append-nil xs)
taken_more xs (Do.Waive s) c = sym (append-nil xs)
taken_more xs (Do.Wake s) c = sym (append-nil xs)
taken_more xs (Do.Wanted s) c = sym (append-nil xs)
taken_more xs (Do.Settle s) c = sym (append-nil xs)
taken_more xs (Do.Ring s) c = sym (append-nil xs)
taken_more xs (Do.Store w v) c = sym (append-nil xs)

on_sent : (b : Bool) (t : Track) (e : Event) → (if_on b (track_after t e) t).sent ≡ t.sent ++ cond b (puts_of e) []
on_sent true t e = sent_more t.sent e.op (option_to_list e.item)
on_sent false t e = sym (append-nil t.sent)

on_taken : (b : Bool) (t : Track) (e : Event) → (if_on b (track_after t e) t).taken ≡ t.taken ++ cond b (takes_of e) []
on_taken true t e = taken_more t.taken e.op (option_to_list e.item)
on_taken false t e = sym (append-nil t.taken)

pub entry_moves : (history : History) (before : List Entry) (e : Entry) → Moves (moved history before) (moved history (before ++ e ∷ [])) e.event.queue.0 (puts_of e.event) (takes_of e.event)
entry_moves history before e = record {
  sent = λ q. ap (λ (t : Track). t.sent) (track_from-append (history_at history q) q before e) ∙ on_sent (e.event.queue.0 == q) (track history q before) e.event;
  taken = λ q. ap (λ (t : Track). t.taken) (track_from-append (history_at history q) q before e) ∙ on_taken (e.event.queue.0 == q) (track history q before) e.event;
}

-- at least so many requests are there, where items are responses
abbrev pub Enough : Names → List Item → ℕ → Type 0
Enough NoBuffers rs k = Unit {0}
Enough (Buffers ws) rs k = Unit {0}
Enough (Frames ws receivers) rs k = Unit {0}
Enough (Leases ws) rs k = Unit {0}
Enough (Returns ws) rs k = Unit {0}
Enough (Answers q ws) rs k = k ≤ length rs

pub enough_less : (names : Names) (rs : List Item) (k j : ℕ) → j ≤ k → Enough names rs k → Enough names rs j
enough_less NoBuffers rs k j le e = tt
enough_less (Buffers ws) rs k j le e = tt
enough_less (Frames ws receivers) rs k j le e = tt
enough_less (Leases ws) rs k j le e = tt
enough_less (Returns ws) rs k j le e = tt
enough_less (Answers q ws) rs k j le e = omega (arith, le, e)

get_front : {T : Type 0} (xs ys : List T) (k : ℕ) → k < length xs → slice_get (xs ++ ys) k ≡ slice_get xs k
get_front [] ys k lt = absurd (omega (arith, lt))
get_front (x ∷ xs) ys zero lt = refl
get_front (x ∷ xs) ys (suc k) lt = get_front xs ys k (omega (arith, lt))

thing_still : (names : Names) (rs more : List Item) (k : ℕ) (item : Item) → Enough names rs (k + 1) → thing_at names (rs ++ more) k item ≡ thing_at names rs k item
thing_still NoBuffers rs more k item e = refl
thing_still (Buffers ws) rs more k item e = refl
thing_still (Frames ws receivers) rs more k item e = refl
thing_still (Leases ws) rs more k item e = refl
thing_still (Returns ws) rs more k item e = refl
thing_still (Answers q ws) rs more k item e = rw (get_front rs more k (omega (arith, e))) refl

-- more requests change nothing of the responses that are there
pub things_still : (names : Names) (rs more : List Item) (k : ℕ) (items : List Item) → Enough names rs (k + length items) → things_from names (rs ++ more) k items ≡ things_from names rs k items
things_still names rs more k [] e = refl
things_still names rs more k (i ∷ items) e =
    ap₂ (λ (x : Thing) xs. x ∷ xs) (thing_still names rs more k i (enough_less names rs (k + length (i ∷ items)) (k + 1) (omega arith) e))
    (things_still names rs more (k + 1) items (enough_less names rs (k + length (i ∷ items)) (k + 1 + length items) (omega arith) e))

-- what follows the first items
pub things_after : (names : Names) (rs : List Item) (k : ℕ) (xs ys : List Item) → things_from names rs k (xs ++ ys) ≡ things_from names rs k xs ++ things_from names rs (k + length xs) ys
things_after names rs k [] ys = let e : k ≡ k + 0 = omega arith in ap (λ n. things_from names rs n ys) e
things_after names rs k (x ∷ xs) ys =
    let e : k + 1 + length xs ≡ k + length (x ∷ xs) = omega arith in
    ap (λ zs. thing_at names rs k x ∷ zs) (things_after names rs (k + 1) xs ys ∙ ap (λ n. things_from names rs (k + 1) xs ++ things_from names rs n ys) e)

-- a sum over what items carry, of which some are new
pub sum_things : (f : Thing → ℕ) (names : Names) (rs : List Item) (xs ys : List Item) → sum_by f (things_from names rs 0 (xs ++ ys)) ≡ sum_by f (things_from names rs 0 xs) + sum_by f (things_from names rs (length xs) ys)
sum_things f names rs xs ys =
    let e : 0 + length xs ≡ length xs = omega arith in
    ap (sum_by f) (things_after names rs 0 xs ys) ∙ (sum_by-append f (things_from names rs 0 xs) (things_from names rs (0 + length xs) ys) ∙ ap (λ n. sum_by f (things_from names rs 0 xs) + sum_by f (things_from names rs n ys)) e)

-- the requests of a queue grow only by puts to another queue
requests_grow : (names : Names) (m m' : Moved) (n q : ℕ) (puts takes : List Item) → Moves m m' n puts takes → ((r : ℕ) (ws : List Window) → names ≡ Answers r ws → q ≡ r → ⊥) → (more : List Item) × (requests_of names m' ≡ requests_of names m ++ more) × (n ≡ q → more ≡ [])
requests_grow NoBuffers m m' n q puts takes moves apart = ([], refl, λ e. refl)
requests_grow (Buffers ws) m m' n q puts takes moves apart = ([], refl, λ e. refl)
requests_grow (Frames ws receivers) m m' n q puts takes moves apart = ([], refl, λ e. refl)
requests_grow (Leases ws) m m' n q puts takes moves apart = ([], refl, λ e. refl)
requests_grow (Returns ws) m m' n q puts takes moves apart = ([], refl, λ e. refl)
requests_grow (Answers r ws) m m' n q puts takes moves apart = (cond (n == r) puts [], moves.sent r, λ e. off e (eqb_tells n r))
  where
    off : n ≡ q → ((eqb n r ≡ true) × (n ≡ r)) ⊎ ((eqb n r ≡ false) × (n ≢ r)) → cond (n == r) puts [] ≡ []
    off e (inl h) = absurd (apart r ws refl (sym e ∙ h.1))
    off e (inr h) = rw h.0 refl

grown : (f : Thing → ℕ) (names : Names) (rs rs' more xs : List Item) (n q : ℕ) (new : List Item) → rs' ≡ rs ++ more → (n ≡ q → more ≡ []) → Enough names rs (length xs) → sum_by f (things_from names rs' 0 (xs ++ cond (n == q) new [])) ≡ sum_by f (things_from names rs 0 xs) + when (n == q) (sum_by f (things_from names rs (length xs) new))
grown f names rs rs' more xs n q new is none enough = by (eqb_tells n q)
  where
    by : ((eqb n q ≡ true) × (n ≡ q)) ⊎ ((eqb n q ≡ false) × (n ≢ q)) → sum_by f (things_from names rs' 0 (xs ++ cond (n == q) new [])) ≡ sum_by f (things_from names rs 0 xs) + when (n == q) (sum_by f (things_from names rs (length xs) new))
    by (inl h) =
        let same : rs' ≡ rs = is ∙ (ap (λ ys. rs ++ ys) (none h.1) ∙ append-nil rs) in
        rw (h.0, same) (sum_things f names rs xs new)
    by (inr h) =
        let few : Enough names rs (0 + length xs) = enough_less names rs (length xs) (0 + length xs) (omega arith) enough in
        rw (h.0, append-nil xs, is, things_still names rs more 0 xs few) (omega arith)

-- what goes through the queues with one entry more
module _ (naming : Naming) (answers : (n q : ℕ) (ws : List Window) → naming n ≡ Answers q ws → n ≡ q → ⊥) (m m' : Moved) (n : ℕ) (puts takes : List Item) (moves : Moves m m' n puts takes) (f : Thing → ℕ) where
  abbrev pub put_sum : ℕ
  put_sum = sum_by f (things_from (naming n) (requests_of (naming n) m) (length (m.sent n)) puts)

  abbrev pub take_sum : ℕ
  take_sum = sum_by f (things_from (naming n) (requests_of (naming n) m) (length (m.taken n)) takes)

  at_here : (q : ℕ) (lists : ℕ → List Item) (new : List Item) → when (n == q) (sum_by f (things_from (naming q) (requests_of (naming q) m) (length (lists q)) new)) ≡ when (n == q) (sum_by f (things_from (naming n) (requests_of (naming n) m) (length (lists n)) new))
  at_here q lists new = by (eqb_tells n q)
    where
      by : ((eqb n q ≡ true) × (n ≡ q)) ⊎ ((eqb n q ≡ false) × (n ≢ q)) → when (n == q) (sum_by f (things_from (naming q) (requests_of (naming q) m) (length (lists q)) new)) ≡ when (n == q) (sum_by f (things_from (naming n) (requests_of (naming n) m) (length (lists n)) new))
      by (inl h) = ap (λ i. when (n == q) (sum_by f (things_from (naming i) (requests_of (naming i) m) (length (lists i)) new))) (sym h.1)
      by (inr h) = rw h.0 refl

  pub sent_sum : (q : ℕ) → Enough (naming q) (requests_of (naming q) m) (length (m.sent q)) → sum_by f (things_sent naming m' q) ≡ sum_by f (things_sent naming m q) + when (n == q) put_sum
  sent_sum q enough =
      let grow = requests_grow (naming q) m m' n q puts takes moves (λ r ws. answers q r ws) in
      ap (λ xs. sum_by f (things_from (naming q) (requests_of (naming q) m') 0 xs)) (moves.sent q)
      ∙ (grown f (naming q) (requests_of (naming q) m) (requests_of (naming q) m') grow.0 (m.sent q) n q puts grow.1 grow.2 enough
      ∙ ap (λ d. sum_by f (things_sent naming m q) + d) (at_here q m.sent puts))

  pub taken_sum : (q : ℕ) → Enough (naming q) (requests_of (naming q) m) (length (m.taken q)) → sum_by f (things_taken naming m' q) ≡ sum_by f (things_taken naming m q) + when (n == q) take_sum
  taken_sum q enough =
      let grow = requests_grow (naming q) m m' n q puts takes moves (λ r ws. answers q r ws) in
      ap (λ xs. sum_by f (things_from (naming q) (requests_of (naming q) m') 0 xs)) (moves.taken q)
      ∙ (grown f (naming q) (requests_of (naming q) m) (requests_of (naming q) m') grow.0 (m.taken q) n q takes grow.1 grow.2 enough
      ∙ ap (λ d. sum_by f (things_taken naming m q) + d) (at_here q m.taken takes))
