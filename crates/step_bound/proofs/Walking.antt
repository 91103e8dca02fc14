use Rattle.std.proofs.Common.{◌≡◌, ◌≢◌, ◌==◌, ◌+◌, ◌*◌, ◌<◌, ◌≤◌, ◌++◌, ℕ, Bool, true, false, cond, List, [], ◌∷◌, length, length-append, refl, sym, ap, ◌∙◌, subst, arith, append_assoc}
use Rattle.std.proofs.lemmas.List.{append-nil}
use Rattle.wire_core.specs.declared.names.Entry.{Entry}
use Rattle.wire_core.specs.declared.names.QueueRow.{QueueRow}
use Rattle.wire_core.specs.Ends.{role_of}
use Rattle.std.proofs.lemmas.Bool.{eqb-true}
use Rattle.wire_core.specs.Journal.{History, LegalEntry, EachFrom, Hostiles}
use Rattle.wire_core.specs.declared.names.Event.{Event}
use Rattle.wire_core.proofs.Callers.{calm_owner, calm_caller}
use Rattle.step_bound.specs.Calm.{AreCalm}
use Rattle.wire_core.specs.Marks.{Drops, is_marked, calls_after, since, AreFew, ends_of, AreOwned, sum_below}
use Rattle.wire_core.proofs.Sinces.{eqb_refl, eqb_apart, since-append}
use Rattle.step_bound.proofs.Sums.{sum_written}
use Rattle.step_bound.proofs.Counting.{EachOwn, own_append, few_since}

-- the weight of the marks
abbrev pub weigh : Drops → ℕ → List Entry → ℕ
weigh drops w [] = 0
weigh drops w (e ∷ es) = cond (is_marked drops e) w 0 + weigh drops w es

module _ (drops : Drops) (hostile : Hostiles) (history : History) (rows : List QueueRow) (actors most : ℕ) (owned : AreOwned rows actors) (ends : (a : ℕ) → ends_of a rows ≤ most) (calm : AreCalm hostile rows) where
  abbrev pub held : List Entry → ℕ
  held j = sum_below (λ a. length (since drops a j)) actors

  abbrev AllOwn : List Entry → Type 0
  AllOwn j = (a : ℕ) → EachOwn a rows (since drops a j)

  -- who is hostile has no end, so it makes no call
  none_own : (a : ℕ) → hostile a ≡ true → (es : List Event) → EachOwn a rows es → length es ≤ 0
  none_own a h [] own = omega arith
  none_own a h (e ∷ es) own =
      let is : hostile a ≡ false = subst (λ i. hostile i ≡ false) own.0.owner (calm_owner hostile own.0.row (calm e.queue.0 own.0.row own.0.there) (role_of e.op)) in
      let no : true ≡ false = sym h ∙ is in
      cc

  pub few_now : (j : List Entry) → AllOwn j → AreFew hostile rows drops j → (a : ℕ) → length (since drops a j) ≤ 8 * most
  few_now j own few a = go (hostile a) refl
    where
      go : (b : Bool) → hostile a ≡ b → length (since drops a j) ≤ 8 * most
      go false h = let f = few_since a rows (since drops a j) (own a) (few a (record { calm = h; queues = λ n row at r o. calm n row at })) in let m = ends a in omega (arith, f, m)
      go true h = let n = none_own a h (since drops a j) (own a) in omega (arith, n)

  own_next : (j : List Entry) (e : Entry) → LegalEntry hostile history rows j e → AllOwn j → AllOwn (j ++ e ∷ [])
  own_next j e l own a = subst (EachOwn a rows) (sym (since-append drops a j e)) (go (e.actor.0 == a) refl (is_marked drops e))
    where
      go : (b : Bool) → (e.actor.0 == a) ≡ b → (m : Bool) → EachOwn a rows (cond b (calls_after m (since drops a j) e.event) (since drops a j))
      go false h m = own a
      go true h true = tt
      go true h false = own_append a rows (since drops a j) e.event (own a) (record { row = l.row; there = l.there; owner = calm_caller hostile l.row (role_of e.event.op) e.actor.0 (calm e.event.queue.0 l.row l.there) l.legal.caller ∙ eqb-true e.actor.0 a h })

  one_step : (j : List Entry) (e : Entry) → LegalEntry hostile history rows j e → AllOwn j → AreFew hostile rows drops j → held j + 1 ≤ held (j ++ e ∷ []) + cond (is_marked drops e) (8 * most + 1) 0
  one_step j e l own few =
      let x : e.actor.0 < actors = subst (λ n. n < actors) l.legal.caller.some.1 (owned e.event.queue.0 l.row l.there l.legal.caller.some.0) in
      let w = sum_written (λ a. length (since drops a j)) (λ a. length (since drops a (j ++ e ∷ []))) actors e.actor.0 x other in
      let f = few_now j own few e.actor.0 in
      let g = own_length (is_marked drops e) refl in
      go (is_marked drops e) w f g
    where
      other : (a : ℕ) → a ≢ e.actor.0 → length (since drops a j) ≡ length (since drops a (j ++ e ∷ []))
      other a n = sym (ap length (since-append drops a j e ∙ ap (λ b. cond b (calls_after (is_marked drops e) (since drops a j) e.event) (since drops a j)) (eqb_apart e.actor.0 a (λ h. n (sym h)))))

      own_length : (m : Bool) → is_marked drops e ≡ m → length (since drops e.actor.0 (j ++ e ∷ [])) ≡ cond m 0 (length (since drops e.actor.0 j) + 1)
      own_length m h = ap length (since-append drops e.actor.0 j e ∙ (ap (λ b. cond b (calls_after (is_marked drops e) (since drops e.actor.0 j) e.event) (since drops e.actor.0 j)) (eqb_refl e.actor.0) ∙ ap (λ b. calls_after b (since drops e.actor.0 j) e.event) h)) ∙ len m
        where
          len : (m : Bool) → length (calls_after m (since drops e.actor.0 j) e.event) ≡ cond m 0 (length (since drops e.actor.0 j) + 1)
          len true = refl
          len false = length-append (since drops e.actor.0 j) (e.event ∷ [])

      go : (m : Bool) → held j + length (since drops e.actor.0 (j ++ e ∷ [])) ≡ held (j ++ e ∷ []) + length (since drops e.actor.0 j) → length (since drops e.actor.0 j) ≤ 8 * most → length (since drops e.actor.0 (j ++ e ∷ [])) ≡ cond m 0 (length (since drops e.actor.0 j) + 1) → held j + 1 ≤ held (j ++ e ∷ []) + cond m (8 * most + 1) 0
      go true w f g = omega (arith, w, f, g)
      go false w f g = omega (arith, w, f, g)

  pub walk : (j es : List Entry) → EachFrom (LegalEntry hostile history rows) j es → AllOwn j → AreFew hostile rows drops j → EachFrom (λ b e. AreFew hostile rows drops (b ++ e ∷ [])) j es → (length es + held j ≤ weigh drops (8 * most + 1) es + held (j ++ es)) × AllOwn (j ++ es)
  walk j [] l own few all = (rw (append-nil j) omega arith, subst AllOwn (sym (append-nil j)) own)
  walk j (e ∷ es) l own few all =
      let one = one_step j e l.0 own few in
      let rest = walk (j ++ e ∷ []) es l.1 (own_next j e l.0 own) all.0 all.1 in
      let same = append_assoc j (e ∷ []) es in
      let bound = subst (λ k. length es + held (j ++ e ∷ []) ≤ weigh drops (8 * most + 1) es + held k) same rest.0 in
      (omega (arith, one, bound), subst AllOwn same rest.1)
