use Rattle.std.proofs.Common.{◌≡◌, ◌⊎◌, ◌==◌, ◌+◌, ◌<◌, ◌≤◌, ℕ, true, false, Option, Some, None, List, [], ◌∷◌, ◌++◌, length, slice_get, sum_by, refl, sym, ap, ◌∙◌, subst, arith, add-zero, eq-eqb, inl, inr}
use Rattle.std.specs.Option.{option_to_list}
use Rattle.std.proofs.lemmas.Bool.{lt-ltb}
use Rattle.std.proofs.lemmas.List.Sums.{sum_by-cons}
use Rattle.cargo_core.specs.declared.item.Item.{Item}
use Rattle.cargo_core.specs.Lists.{IsPrefix}
use Rattle.wire_core.specs.declared.names.QueueRow.{QueueRow}
use Rattle.wire_core.specs.declared.names.Entry.{Entry}
use Rattle.wire_core.specs.declared.names.Op.{Op}
use Rattle.wire_core.specs.declared.names.Op.TheVariants as Do
use Rattle.wire_core.specs.Bells.{bit}
use Rattle.wire_core.specs.Ends.{Role, Consumer, Producer, role_of}
use Rattle.wire_core.specs.Journal.{History, Hostiles, LegalEntry, sent_after, taken_after, owner_of, is_calm}
use Rattle.wire_core.proofs.Callers.{calm_owner, calm_caller}
use Rattle.play_core.specs.Moved.{Moved, moved, sent, taken}
use Rattle.play_core.specs.Still.{Holds}
use Rattle.play_core.proofs.Lists.{there_is, some_is}
use Rattle.play_core.proofs.Walks.{begins_few}
use Rattle.owner_law.specs.Things.{Buffer, Window, Names, NoBuffers, Buffers, Frames, Leases, Returns, Answers, Naming, Thing, Nothing, Whole, Frame, Lease, Return, thing_at, thing_of, things_from, requests_of, things_sent, things_taken, buffer_of, requested, as_buffer, as_lease, lends, gives_back, brings_leases}
use Rattle.owner_law.specs.Owners.{InQueue, InHand, Lent, Table, leases_at, Stands, Move, Stays, Puts, Takes, call_move, move_of, after_move, after_put, after_take, Finds, receivers, AreCounted}
use Rattle.owner_law.specs.Keeping.{Keeper, all_taken, all_put, is_out, Keeps, is_with, IsShownBy, is_lending, IsNaming, AreKeepers, IsKept}
use Rattle.owner_law.proofs.Sums.{when, when_none}
use Rattle.owner_law.proofs.Tables.{PutEffect, put_effect, TakeEffect, take_effect, IsLenders}
use Rattle.owner_law.proofs.Lists.{Moves, entry_moves, Enough, enough_less, sum_things, put_sum, take_sum, sent_sum, taken_sum}
use Rattle.owner_law.proofs.Ends.{went_sum, came_sum}
use Rattle.owner_law.proofs.Finding.{put_finds, take_finds}

enough_by : (names : Names) (m : Moved) (k : ℕ) → ((q : ℕ) (ws : List Window) → names ≡ Answers q ws → k ≤ length (m.sent q)) → Enough names (requests_of names m) k
enough_by NoBuffers m k h = tt
enough_by (Buffers ws) m k h = tt
enough_by (Frames ws receivers) m k h = tt
enough_by (Leases ws) m k h = tt
enough_by (Returns ws) m k h = tt
enough_by (Answers q ws) m k h = h q ws refl

-- where nothing is named, an item carries nothing
nothing_at : (names : Names) (rs : List Item) (k : ℕ) (i : Item) → names ≡ NoBuffers → thing_at names rs k i ≡ Nothing
nothing_at names rs k i none = ap (λ (x : Names). thing_at x rs k i) none

-- who lends is told by what the items of a queue name
lending_of : (lender k : ℕ) (names : Names) (rs : List Item) (place : ℕ) (i : Item) → (is_lending names ≡ true → k ≡ lender) → IsLenders lender k (thing_at names rs place i)
lending_of lender k NoBuffers rs place i h = tt
lending_of lender k (Buffers ws) rs place i h = by (buffer_of ws i)
  where
    by : (o : Option Buffer) → IsLenders lender k (thing_of Whole o)
    by None = tt
    by (Some b) = tt
lending_of lender k (Frames ws receivers) rs place i h = by (buffer_of ws i)
  where
    by : (o : Option Buffer) → IsLenders lender k (thing_of (λ b. Frame b (receivers place)) o)
    by None = tt
    by (Some b) = h refl
lending_of lender k (Leases ws) rs place i h = by (buffer_of ws i)
  where
    by : (o : Option Buffer) → IsLenders lender k (thing_of Lease o)
    by None = tt
    by (Some b) = tt
lending_of lender k (Returns ws) rs place i h = by (buffer_of ws i)
  where
    by : (o : Option Buffer) → IsLenders lender k (thing_of Return o)
    by None = tt
    by (Some b) = h refl
lending_of lender k (Answers q ws) rs place i h = by (requested ws rs place)
  where
    by : (o : Option Buffer) → IsLenders lender k (thing_of Whole o)
    by None = tt
    by (Some b) = tt

-- an owner and the caller have the same share of what isn't nothing
shares_same : (f : Thing → ℕ) → f Nothing ≡ 0 → (x : Thing) (owner k j : ℕ) → (x ≡ Nothing) ⊎ (owner ≡ k) → when (owner == j) (f x) ≡ when (k == j) (f x)
shares_same f none x owner k j (inl h) =
    let zero_ : f x ≡ 0 = ap f h ∙ none in
    rw zero_ (when_none (owner == j) ∙ sym (when_none (k == j)))
shares_same f none x owner k j (inr h) = ap (λ o. when (o == j) (f x)) h

-- only who lends lends, and gets back what it lent
back_his : (lender k : ℕ) (x : Thing) → IsLenders lender k x → (b : Buffer) → when (k == lender) (gives_back b x) ≡ gives_back b x
back_his lender k Nothing his b = when_none (k == lender)
back_his lender k (Whole c) his b = when_none (k == lender)
back_his lender k (Frame c r) his b = when_none (k == lender)
back_his lender k (Lease c) his b = when_none (k == lender)
back_his lender k (Return c) his b = rw (eq-eqb k lender his) refl

lent_his : (lender k : ℕ) (x : Thing) → IsLenders lender k x → (b : Buffer) → when (k == lender) (lends b x) ≡ lends b x
lent_his lender k Nothing his b = when_none (k == lender)
lent_his lender k (Whole c) his b = when_none (k == lender)
lent_his lender k (Frame c r) his b = rw (eq-eqb k lender his) refl
lent_his lender k (Lease c) his b = when_none (k == lender)
lent_his lender k (Return c) his b = when_none (k == lender)

module _ (naming : Naming) (lender : ℕ) (hostile : Hostiles) (history : History) (rows : List QueueRow) (keepers : List Keeper) (is : IsNaming naming lender hostile rows) (are : AreKeepers rows keepers) where
  sent_enough : (j : List Entry) → IsKept naming hostile history rows keepers j → (q : ℕ) → Enough (naming q) (requests_of (naming q) (moved history j)) (length (sent history q j))
  sent_enough j kept q = enough_by (naming q) (moved history j) (length (sent history q j)) (λ r ws e. kept.answers q r ws e)

  taken_enough : (j : List Entry) → IsKept naming hostile history rows keepers j → (q : ℕ) → Enough (naming q) (requests_of (naming q) (moved history j)) (length (taken history q j))
  taken_enough j kept q = by (is.calm q)
    where
      by : (naming q ≡ NoBuffers) ⊎ Holds hostile rows q 0 → Enough (naming q) (requests_of (naming q) (moved history j)) (length (taken history q j))
      by (inl none) = subst (λ (x : Names). Enough x (requests_of x (moved history j)) (length (taken history q j))) (sym none) tt
      by (inr holds) =
          let few : length (taken history q j) ≤ length (sent history q j) = begins_few (taken history q j) (sent history q j) (kept.flows q holds.row holds.there).begins in
          enough_less (naming q) (requests_of (naming q) (moved history j)) (length (sent history q j)) (length (taken history q j)) few (sent_enough j kept q)

  module _ (before : List Entry) (e : Entry) (legal : LegalEntry hostile history rows before e) (kept : IsKept naming hostile history rows keepers before) (next : IsKept naming hostile history rows keepers (before ++ e ∷ [])) (t : Table) (counted : AreCounted t) (shown : IsShownBy naming lender keepers (moved history before) t) where
    abbrev pub n : ℕ
    n = e.event.queue.0

    abbrev pub k : ℕ
    k = e.actor.0

    abbrev m : Moved
    m = moved history before

    abbrev m' : Moved
    m' = moved history (before ++ e ∷ [])

    abbrev owner : Role → ℕ
    owner r = owner_of legal.row r

    abbrev Result : Move → Type 0
    Result move = Finds t k n move × AreCounted (after_move t k n move) × IsShownBy naming lender keepers m' (after_move t k n move)

    -- the call is at a queue where nothing is named, or the caller owns its end
    owned : (r : Role) → r ≡ role_of e.event.op → (x : Thing) → (naming n ≡ NoBuffers → x ≡ Nothing) → (x ≡ Nothing) ⊎ ((is_calm hostile legal.row ≡ true) × (owner r ≡ k))
    owned r role x none = by (is.calm n)
      where
        by : (naming n ≡ NoBuffers) ⊎ Holds hostile rows n 0 → (x ≡ Nothing) ⊎ ((is_calm hostile legal.row ≡ true) × (owner r ≡ k))
        by (inl h) = inl (none h)
        by (inr h) =
            let same : h.row ≡ legal.row = some_is (sym h.there ∙ legal.there) in
            let calm : is_calm hostile legal.row ≡ true = subst (λ (row : QueueRow). is_calm hostile row ≡ true) same h.calm in
            inr (calm, ap owner role ∙ calm_caller hostile legal.row (role_of e.event.op) k calm legal.legal.caller)

    -- the caller is one of the actors
    actor_there : k < length keepers
    actor_there = subst (λ o. o < length keepers) legal.legal.caller.some.1 (are.peopled n legal.row legal.there legal.legal.caller.some.0)

    -- nothing moves
    module _ (moves : Moves m m' n [] []) where
      still_sent : (f : Thing → ℕ) (q : ℕ) → sum_by f (things_sent naming m' q) ≡ sum_by f (things_sent naming m q)
      still_sent f q = omega (arith, sent_sum naming is.answers m m' n [] [] moves f q (sent_enough before kept q), when_none (n == q))

      still_taken : (f : Thing → ℕ) (q : ℕ) → sum_by f (things_taken naming m' q) ≡ sum_by f (things_taken naming m q)
      still_taken f q = omega (arith, taken_sum naming is.answers m m' n [] [] moves f q (taken_enough before kept q), when_none (n == q))

      still_went : (f : Thing → ℕ) (j : ℕ) (p : Keeper) → slice_get keepers j ≡ Some p → sum_by f (all_put naming m' p.ends) ≡ sum_by f (all_put naming m p.ends)
      still_went f j p at = omega (arith, went_sum naming is.answers m m' n [] [] moves (sent_enough before kept) (taken_enough before kept) f rows keepers are legal.row legal.there j p at, when_none (owner Producer == j))

      still_came : (f : Thing → ℕ) (j : ℕ) (p : Keeper) → slice_get keepers j ≡ Some p → sum_by f (all_taken naming m' p.ends) ≡ sum_by f (all_taken naming m p.ends)
      still_came f j p at = omega (arith, came_sum naming is.answers m m' n [] [] moves (sent_enough before kept) (taken_enough before kept) f rows keepers are legal.row legal.there j p at, when_none (owner Consumer == j))

      pub stay_step : Result Stays
      stay_step = (
        tt,
        counted,
        record {
          queued = λ q b. omega (arith, shown.queued q b, still_sent (as_buffer b) q, still_taken (as_buffer b) q);
          leases_queued = λ q b. omega (arith, shown.leases_queued q b, still_sent (as_lease b) q, still_taken (as_lease b) q);
          held = λ j p b at. omega (arith, shown.held j p b at, still_went (as_buffer b) j p at, still_came (as_buffer b) j p at);
          leases_held = λ j p b at. omega (arith, shown.leases_held j p b at, still_went (as_lease b) j p at, still_came (brings_leases b) j p at);
          lent = λ p b at. omega (arith, shown.lent p b at, still_came (gives_back b) lender p at, still_came (lends b) lender p at);
          among = shown.among;
        },
      )

    -- an item is put
    module _ (i : Item) (moves : Moves m m' n (i ∷ []) []) (role : Producer ≡ role_of e.event.op) where
      abbrev x : Thing
      x = thing_at (naming n) (requests_of (naming n) m) (length (m.sent n)) i

      put_owned : (x ≡ Nothing) ⊎ ((is_calm hostile legal.row ≡ true) × (owner Producer ≡ k))
      put_owned = owned Producer role x (nothing_at (naming n) (requests_of (naming n) m) (length (m.sent n)) i)

      put_one : (f : Thing → ℕ) → put_sum naming is.answers m m' n (i ∷ []) [] moves f ≡ f x
      put_one f = sum_by-cons f x [] ∙ add-zero (f x)

      put_sent : (f : Thing → ℕ) (q : ℕ) → sum_by f (things_sent naming m' q) ≡ sum_by f (things_sent naming m q) + when (n == q) (f x)
      put_sent f q = omega (arith, sent_sum naming is.answers m m' n (i ∷ []) [] moves f q (sent_enough before kept q), ap (when (n == q)) (put_one f))

      put_taken : (f : Thing → ℕ) (q : ℕ) → sum_by f (things_taken naming m' q) ≡ sum_by f (things_taken naming m q)
      put_taken f q = omega (arith, taken_sum naming is.answers m m' n (i ∷ []) [] moves f q (taken_enough before kept q), when_none (n == q))

      put_went : (f : Thing → ℕ) → f Nothing ≡ 0 → (j : ℕ) (p : Keeper) → slice_get keepers j ≡ Some p → sum_by f (all_put naming m' p.ends) ≡ sum_by f (all_put naming m p.ends) + when (k == j) (f x)
      put_went f none j p at = omega (arith, went_sum naming is.answers m m' n (i ∷ []) [] moves (sent_enough before kept) (taken_enough before kept) f rows keepers are legal.row legal.there j p at, ap (when (owner Producer == j)) (put_one f), shares_same f none x (owner Producer) k j (by put_owned))
        where
          by : (x ≡ Nothing) ⊎ ((is_calm hostile legal.row ≡ true) × (owner Producer ≡ k)) → (x ≡ Nothing) ⊎ (owner Producer ≡ k)
          by (inl h) = inl h
          by (inr h) = inr h.1

      put_came : (f : Thing → ℕ) (j : ℕ) (p : Keeper) → slice_get keepers j ≡ Some p → sum_by f (all_taken naming m' p.ends) ≡ sum_by f (all_taken naming m p.ends)
      put_came f j p at = omega (arith, came_sum naming is.answers m m' n (i ∷ []) [] moves (sent_enough before kept) (taken_enough before kept) f rows keepers are legal.row legal.there j p at, when_none (owner Consumer == j))

      put_found : Stands t (InHand k) x
      put_found = by put_owned
        where
          by : (x ≡ Nothing) ⊎ ((is_calm hostile legal.row ≡ true) × (owner Producer ≡ k)) → Stands t (InHand k) x
          by (inl h) = subst (λ y. Stands t (InHand k) y) (sym h) tt
          by (inr h) =
              let some = there_is keepers k (subst (λ o. o < length keepers) h.1 (are.peopled n legal.row legal.there Producer)) in
              let calm : hostile k ≡ false = subst (λ o. hostile o ≡ false) h.1 (calm_owner hostile legal.row h.0 Producer) in
              from some.0 some.1 (next.keeps k some.0 calm some.1)
            where
              from : (p : Keeper) → slice_get keepers k ≡ Some p → Keeps p.hand (all_taken naming m' p.ends) (all_put naming m' p.ends) → Stands t (InHand k) x
              from p at keeps = put_finds lender k t (λ b. is_out b (all_taken naming m' p.ends)) x buffers leases lent
                where
                  here : (d : ℕ) → when (k == k) d ≡ d
                  here d = rw (eq-eqb k k refl) refl

                  buffers : (b : Buffer) → as_buffer b x + bit (is_out b (all_taken naming m' p.ends)) ≤ is_with lender k (t.place b)
                  buffers b = omega (arith, keeps.buffers b, put_went (as_buffer b) refl k p at, put_came (as_buffer b) k p at, shown.held k p b at, here (as_buffer b x))

                  leases : (b : Buffer) → as_lease b x ≤ leases_at t b (InHand k)
                  leases b = omega (arith, keeps.leases b, put_went (as_lease b) refl k p at, put_came (brings_leases b) k p at, shown.leases_held k p b at, here (as_lease b x))

                  lent : (b : Buffer) (r : ℕ) → t.place b ≡ Lent r → lender ≡ k → is_out b (all_taken naming m' p.ends) ≡ true
                  lent b r place_is his =
                      let owes : receivers (t.place b) ≡ r = ap receivers place_is in
                      lt-ltb (sum_by (gives_back b) (all_taken naming m' p.ends)) (sum_by (lends b) (all_taken naming m' p.ends))
                      (omega (arith, counted.some b r place_is, owes, shown.lent p b (subst (λ j. slice_get keepers j ≡ Some p) (sym his) at), put_came (gives_back b) k p at, put_came (lends b) k p at))

      put_effects : (b : Buffer) → PutEffect lender t k n x (after_put t k n x) b
      put_effects b = put_effect lender t k n x put_found b

      pub put_step : Result (Puts x)
      put_step = (
        put_found,
        record {
          leases = λ b. omega (arith, counted.leases b, (put_effects b).owed, (put_effects b).length_is);
          some = λ b r h. counted.some b r ((put_effects b).lent r h);
        },
        record {
          queued = λ q b. omega (arith, shown.queued q b, put_sent (as_buffer b) q, put_taken (as_buffer b) q, (put_effects b).stands q);
          leases_queued = λ q b. omega (arith, shown.leases_queued q b, put_sent (as_lease b) q, put_taken (as_lease b) q, (put_effects b).queued q);
          held = λ j p b at. omega (arith, shown.held j p b at, put_went (as_buffer b) refl j p at, put_came (as_buffer b) j p at, (put_effects b).with j);
          leases_held = λ j p b at. omega (arith, shown.leases_held j p b at, put_went (as_lease b) refl j p at, put_came (brings_leases b) j p at, (put_effects b).held j);
          lent = λ p b at. omega (arith, shown.lent p b at, put_came (gives_back b) lender p at, put_came (lends b) lender p at, (put_effects b).owed);
          among = λ b. (put_effects b).among (length keepers) (shown.among b);
        },
      )

    -- an item is taken
    module _ (i : Item) (moves : Moves m m' n [] (i ∷ [])) (role : Consumer ≡ role_of e.event.op) where
      abbrev y : Thing
      y = thing_at (naming n) (requests_of (naming n) m) (length (m.taken n)) i

      take_owned : (y ≡ Nothing) ⊎ ((is_calm hostile legal.row ≡ true) × (owner Consumer ≡ k))
      take_owned = owned Consumer role y (nothing_at (naming n) (requests_of (naming n) m) (length (m.taken n)) i)

      take_one : (f : Thing → ℕ) → take_sum naming is.answers m m' n [] (i ∷ []) moves f ≡ f y
      take_one f = sum_by-cons f y [] ∙ add-zero (f y)

      take_sent : (f : Thing → ℕ) (q : ℕ) → sum_by f (things_sent naming m' q) ≡ sum_by f (things_sent naming m q)
      take_sent f q = omega (arith, sent_sum naming is.answers m m' n [] (i ∷ []) moves f q (sent_enough before kept q), when_none (n == q))

      take_taken : (f : Thing → ℕ) (q : ℕ) → sum_by f (things_taken naming m' q) ≡ sum_by f (things_taken naming m q) + when (n == q) (f y)
      take_taken f q = omega (arith, taken_sum naming is.answers m m' n [] (i ∷ []) moves f q (taken_enough before kept q), ap (when (n == q)) (take_one f))

      take_went : (f : Thing → ℕ) (j : ℕ) (p : Keeper) → slice_get keepers j ≡ Some p → sum_by f (all_put naming m' p.ends) ≡ sum_by f (all_put naming m p.ends)
      take_went f j p at = omega (arith, went_sum naming is.answers m m' n [] (i ∷ []) moves (sent_enough before kept) (taken_enough before kept) f rows keepers are legal.row legal.there j p at, when_none (owner Producer == j))

      take_came : (f : Thing → ℕ) → f Nothing ≡ 0 → (j : ℕ) (p : Keeper) → slice_get keepers j ≡ Some p → sum_by f (all_taken naming m' p.ends) ≡ sum_by f (all_taken naming m p.ends) + when (k == j) (f y)
      take_came f none j p at = omega (arith, came_sum naming is.answers m m' n [] (i ∷ []) moves (sent_enough before kept) (taken_enough before kept) f rows keepers are legal.row legal.there j p at, ap (when (owner Consumer == j)) (take_one f), shares_same f none y (owner Consumer) k j (by take_owned))
        where
          by : (y ≡ Nothing) ⊎ ((is_calm hostile legal.row ≡ true) × (owner Consumer ≡ k)) → (y ≡ Nothing) ⊎ (owner Consumer ≡ k)
          by (inl h) = inl h
          by (inr h) = inr h.1

      -- what was taken is among what was put
      among : (f : Thing → ℕ) → is_calm hostile legal.row ≡ true → sum_by f (things_taken naming m' n) ≤ sum_by f (things_sent naming m' n)
      among f calm =
          let begins : IsPrefix (taken history n (before ++ e ∷ [])) (sent history n (before ++ e ∷ [])) = (next.flows n legal.row legal.there).begins in
          let names = naming n in
          let rs = requests_of names m' in
          let whole : sum_by f (things_from names rs 0 (taken history n (before ++ e ∷ []) ++ begins.0)) ≡ sum_by f (things_sent naming m' n) = ap (λ xs. sum_by f (things_from names rs 0 xs)) begins.1 in
          omega (arith, sum_things f names rs (taken history n (before ++ e ∷ [])) begins.0, whole)

      take_found : Stands t (InQueue n) y
      take_found = by take_owned
        where
          here : (d : ℕ) → when (n == n) d ≡ d
          here d = rw (eq-eqb n n refl) refl

          by : (y ≡ Nothing) ⊎ ((is_calm hostile legal.row ≡ true) × (owner Consumer ≡ k)) → Stands t (InQueue n) y
          by (inl h) = subst (λ z. Stands t (InQueue n) z) (sym h) tt
          by (inr h) = take_finds n t y
              (λ b. omega (arith, among (as_buffer b) h.0, take_taken (as_buffer b) n, take_sent (as_buffer b) n, shown.queued n b, here (as_buffer b y)))
              (λ b. omega (arith, among (as_lease b) h.0, take_taken (as_lease b) n, take_sent (as_lease b) n, shown.leases_queued n b, here (as_lease b y)))

      take_his : IsLenders lender k y
      take_his = by take_owned
        where
          by : (y ≡ Nothing) ⊎ ((is_calm hostile legal.row ≡ true) × (owner Consumer ≡ k)) → IsLenders lender k y
          by (inl h) = subst (λ z. IsLenders lender k z) (sym h) tt
          by (inr h) = lending_of lender k (naming n) (requests_of (naming n) m) (length (m.taken n)) i (λ lending. sym h.1 ∙ is.lends n legal.row legal.there lending)

      take_effects : (b : Buffer) → TakeEffect lender t k n y (after_take t k n y) b
      take_effects b = take_effect lender t counted k n y take_his take_found b

      pub take_step : Result (Takes y)
      take_step = (
        take_found,
        record {
          leases = λ b. omega (arith, counted.leases b, (take_effects b).owed, (take_effects b).length_is);
          some = λ b r h. (take_effects b).some r h;
        },
        record {
          queued = λ q b. omega (arith, shown.queued q b, take_sent (as_buffer b) q, take_taken (as_buffer b) q, (take_effects b).stands q);
          leases_queued = λ q b. omega (arith, shown.leases_queued q b, take_sent (as_lease b) q, take_taken (as_lease b) q, (take_effects b).queued q);
          held = λ j p b at. omega (arith, shown.held j p b at, take_went (as_buffer b) j p at, take_came (as_buffer b) refl j p at, (take_effects b).with j);
          leases_held = λ j p b at. omega (arith, shown.leases_held j p b at, take_went (as_lease b) j p at, take_came (brings_leases b) refl j p at, (take_effects b).held j);
          lent = λ p b at. omega (arith, shown.lent p b at, take_came (gives_back b) refl lender p at, take_came (lends b) refl lender p at, back_his lender k y take_his b, lent_his lender k y take_his b, (take_effects b).owed);
          among = λ b. (take_effects b).among (length keepers) actor_there (shown.among b);
        },
      )

    -- what an entry moves, by its call
    by_call : (o : Op) (item : Option Item) → role_of o ≡ role_of e.event.op → Moves m m' n (sent_after [] o (option_to_list item)) (taken_after [] o (option_to_list item)) → Result (call_move o item (thing_at (naming n) (requests_of (naming n) m) (length (m.sent n))) (thing_at (naming n) (requests_of (naming n) m) (length (m.taken n))))
    by_call Do.Put (Some i) role moves = put_step i moves role
    by_call Do.Put None role moves = stay_step moves
    by_call Do.Take (Some i) role moves = take_step i moves role
    by_call Do.Take None role moves = stay_step moves
    by_call Do.See item role moves = stay_step moves
    by_call Do.Room item role moves = stay_step moves
    by_call (Do.Ask s) item role moves = stay_step moves
    by_call (Do.Waive s) item role moves = stay_step moves
    by_call (Do.Wanted s) item role moves = stay_step moves
    by_call (Do.Settle s) item role moves = stay_step moves
    by_call (Do.Ring s) item role moves = stay_step moves
    by_call (Do.Store w v) item role moves = stay_step moves
    by_call (Do.Wake s) item role moves = stay_step moves

    pub entry_step : Result (move_of naming m e)
    entry_step = by_call e.event.op e.event.item refl (entry_moves history before e)
