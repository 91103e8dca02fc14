use Rattle.std.proofs.Common.{◌≡◌, ◌≤◌, ◌+◌, ◌++◌, ℕ, Some, List, [], ◌∷◌, length, length-append, slice_get, append_assoc, subst, refl, sym, ap, ◌∙◌, arith}
use Rattle.std.proofs.lemmas.List.{append-nil, length-map}
use Rattle.wire_core.specs.declared.names.Entry.{Entry}
use Rattle.wire_core.specs.Picks.{next_seed, place_of}
use Rattle.small_system.specs.Meanings.{Means}
use Rattle.small_system.specs.Tales.{Moment, Turn, running_in, IsTale, moment_after, after_tale, entry_of, journal_of, PickedBy}
use Rattle.small_system.specs.Shows.{Shown, Played, StepsAt, IsQuiet, IsSpent}
use Rattle.small_system.proofs.Telling.{after_join, tale_join, journal_join}

-- the number drawn last
abbrev pub drawn_by : {A : Type 0} → ℕ → List (Turn A) → ℕ
drawn_by x [] = x
drawn_by x (t ∷ ts) = drawn_by (next_seed x) ts

drawn_more : {A : Type 0} (x : ℕ) (ts : List (Turn A)) (t : Turn A) → drawn_by x (ts ++ t ∷ []) ≡ next_seed (drawn_by x ts)
drawn_more x [] t = refl
drawn_more x (u ∷ ts) t = drawn_more (next_seed x) ts t

picked_more : {A : Type 0} (m : Means A) (mo : Moment A) (x : ℕ) (ts : List (Turn A)) (t : Turn A) → PickedBy m mo x ts → slice_get (running_in m (after_tale mo ts)) (place_of (next_seed (drawn_by x ts)) (length (running_in m (after_tale mo ts)))) ≡ Some t.number → PickedBy m mo x (ts ++ t ∷ [])
picked_more m mo x [] t picked at = (at, tt)
picked_more m mo x (u ∷ ts) t picked at = (picked.0, picked_more m (moment_after mo u) (next_seed x) ts t picked.1 at)

-- a play under way: n steps were made, and the number drawn last is x
pub record Playing {A : Type 0} (m : Means A) (old new : Shown A) (seed x n : ℕ) : Type 0 where
  pub rows : new.rows ≡ old.rows
  pub start : new.start ≡ old.start
  pub turns : List (Turn A)
  pub tale : IsTale m old.moment turns
  pub picked : PickedBy m old.moment seed turns
  pub moment : new.moment ≡ after_tale old.moment turns
  pub journal : new.journal ≡ old.journal ++ journal_of turns
  pub drawn_is : x ≡ drawn_by seed turns
  pub count : length turns ≡ n

pub start_playing : {A : Type 0} (m : Means A) (old : Shown A) (seed : ℕ) → Playing m old old seed seed 0
start_playing m old seed = record { rows = refl; start = refl; turns = []; tale = tt; picked = tt; moment = refl; journal = sym (append-nil old.journal); drawn_is = refl; count = refl }

-- one turn more, of the actor that is picked
pub play_step : {A : Type 0} (m : Means A) (old mid new : Shown A) (seed x n x' place count : ℕ) → Playing m old mid seed x n → x' ≡ next_seed x → count ≡ length (running_in m mid.moment) → place ≡ place_of x' count → StepsAt m place mid new → Playing m old new seed x' (n + 1)
play_step m old mid new seed x n x' place count p next many at s =
    let is : x' ≡ next_seed (drawn_by seed p.turns) = next ∙ ap next_seed p.drawn_is in
    let there : slice_get (running_in m mid.moment) (place_of (next_seed (drawn_by seed p.turns)) (length (running_in m mid.moment))) ≡ Some s.turn.number = rw (← is, ← many, ← at) s.there in
    record {
      rows = s.rows ∙ p.rows;
      start = s.start ∙ p.start;
      turns = p.turns ++ s.turn ∷ [];
      tale = tale_join m old.moment p.turns (s.turn ∷ []) p.tale (subst (λ mo. IsTale m mo (s.turn ∷ [])) p.moment (s.happens, tt));
      picked = picked_more m old.moment seed p.turns s.turn p.picked (subst (λ mo. slice_get (running_in m mo) (place_of (next_seed (drawn_by seed p.turns)) (length (running_in m mo))) ≡ Some s.turn.number) p.moment there);
      moment = s.moment ∙ (ap (λ mo. moment_after mo s.turn) p.moment ∙ sym (after_join old.moment p.turns (s.turn ∷ [])));
      journal = s.journal ∙ (ap (λ j. j ++ entry_of s.turn ∷ []) p.journal ∙ (append_assoc old.journal (journal_of p.turns) (entry_of s.turn ∷ []) ∙ ap (λ j. old.journal ++ j) (sym (journal_join p.turns (s.turn ∷ [])))));
      drawn_is = is ∙ sym (drawn_more seed p.turns s.turn);
      count = length-append p.turns (s.turn ∷ []) ∙ ap (λ k. k + 1) p.count;
    }

pub played : {A : Type 0} (m : Means A) (old new : Shown A) (seed x n limit : ℕ) → Playing m old new seed x n → n ≤ limit → Played m old new seed limit
played m old new seed x n limit p le = record { rows = p.rows; start = p.start; turns = p.turns; tale = p.tale; picked = p.picked; moment = p.moment; journal = p.journal; within = subst (λ k. k ≤ limit) (sym p.count) le }

pub spent : {A : Type 0} (m : Means A) (old new : Shown A) (seed x limit : ℕ) → Playing m old new seed x limit → (IsQuiet m new → ⊥) → IsSpent m old new limit
spent m old new seed x limit p goes = record {
  count = ap length p.journal ∙ (length-append old.journal (journal_of p.turns) ∙ ap (λ k. length old.journal + k) (length-map p.turns entry_of ∙ p.count));
  goes_on = goes;
}
