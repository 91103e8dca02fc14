-- The calls of a hostile client in a journal are those of its acts.
use Rattle.std.proofs.Common.{◌≡◌, ◌==◌, ◌≤◌, ◌++◌, ℕ, Bool, true, false, not, cond, List, [], ◌∷◌, length, refl, sym, ap, ◌∙◌, subst, arith}
use Rattle.wire_core.specs.declared.names.Entry.{Entry}
use Rattle.wire_core.specs.declared.names.Event.{Event}
use Rattle.wire_core.specs.declared.names.QueueRow.{QueueRow}
use Rattle.wire_core.specs.Journal.{History}
use Rattle.wire_core.proofs.Sinces.{eqb_refl, eqb_apart}
use Rattle.play_core.specs.Wants.{Want}
use Rattle.play_core.specs.Manners.{calls_of}
use Rattle.play_core.specs.Runs.{is_runnable}
use Rattle.client_programs.specs.declared.rogue.Rogue.{Rogue}
use Rattle.client_programs.specs.Rogue.Acts.{IsNext, left_after, left_from, Follows, is_done, calls_left}
use Rattle.client_programs.specs.Rogue.Clients.{Acted, SameRogue, left_of, left_at_start, ends_of}
use Rattle.client_programs.proofs.RogueLemmas.Following.{from_more, follows_more, bounded}
use Rattle.actor_set.specs.Rogues.{KeepsActs, rogue_manner}

calls_own : (k : ℕ) (journal : List Entry) (e : Entry) → (e.actor.0 == k) ≡ true → calls_of k (journal ++ e ∷ []) ≡ calls_of k journal ++ e.event ∷ []
calls_own k [] e on = rw on refl
calls_own k (x ∷ journal) e on = either (x.actor.0 == k) (calls_own k journal e on)
  where
    either : (b : Bool) → calls_of k (journal ++ e ∷ []) ≡ calls_of k journal ++ e.event ∷ [] → cond b (x.event ∷ calls_of k (journal ++ e ∷ [])) (calls_of k (journal ++ e ∷ [])) ≡ cond b (x.event ∷ calls_of k journal) (calls_of k journal) ++ e.event ∷ []
    either true h = ap (λ es. x.event ∷ es) h
    either false h = h

calls_off : (k : ℕ) (journal : List Entry) (e : Entry) → (e.actor.0 == k) ≡ false → calls_of k (journal ++ e ∷ []) ≡ calls_of k journal
calls_off k [] e off = rw off refl
calls_off k (x ∷ journal) e off = ap (λ es. cond (x.actor.0 == k) (x.event ∷ es) es) (calls_off k journal e off)

pub begins : (k : ℕ) (r : Rogue) → left_at_start r ≡ left_of r → KeepsActs k r []
begins k r h = record { follows = tt; left = sym h }

pub beside : (k : ℕ) (r : Rogue) (journal : List Entry) (e : Entry) → (e.actor.0 ≡ k → ⊥) → KeepsActs k r journal → KeepsActs k r (journal ++ e ∷ [])
beside k r journal e apart h =
    let same = sym (calls_off k journal e (eqb_apart e.actor.0 k apart)) in
    record { follows = subst (Follows r.kind (ends_of r) (left_at_start r)) same h.follows; left = h.left ∙ ap (left_from (left_at_start r)) same }

pub own : (k : ℕ) (old new : Rogue) (journal : List Entry) (e : Event) → SameRogue old new → Acted old e new → KeepsActs k old journal → KeepsActs k new (journal ++ record { actor = record { 0 = k }; event = e } ∷ [])
own k old new journal e same acted h =
    let entry : Entry = record { actor = record { 0 = k }; event = e } in
    let more : calls_of k journal ++ e ∷ [] ≡ calls_of k (journal ++ entry ∷ []) = sym (calls_own k journal entry (eqb_refl k)) in
    let ends : ends_of old ≡ ends_of new = rw (same.inputs, same.outputs) refl in
    let start : left_at_start old ≡ left_at_start new = rw (same.acts, same.first, same.had) refl in
    let next_is : IsNext old.kind (ends_of old) (left_from (left_at_start old) (calls_of k journal)) e = subst (λ p. IsNext old.kind (ends_of old) p e) h.left acted.next in
    let all : Follows old.kind (ends_of old) (left_at_start old) (calls_of k journal ++ e ∷ []) = follows_more old.kind (ends_of old) (left_at_start old) (calls_of k journal) e h.follows next_is in
    let left : left_of new ≡ left_from (left_at_start old) (calls_of k journal ++ e ∷ []) = acted.after ∙ (ap (λ p. left_after p e.answer) h.left ∙ sym (from_more (left_at_start old) (calls_of k journal) e)) in
    record {
      follows = subst (λ es. Follows new.kind (ends_of new) (left_at_start new) es) more (subst (λ s. Follows new.kind (ends_of new) s (calls_of k journal ++ e ∷ [])) start (subst (λ q. Follows new.kind q (left_at_start old) (calls_of k journal ++ e ∷ [])) ends (subst (λ kind. Follows kind (ends_of old) (left_at_start old) (calls_of k journal ++ e ∷ [])) (sym same.kind) all)));
      left = left ∙ (ap (λ s. left_from s (calls_of k journal ++ e ∷ [])) start ∙ ap (left_from (left_at_start new)) more);
    }

pub runs : (k : ℕ) (r : Rogue) (journal : List Entry) (wants : List Want) (history : History) (rows : List QueueRow) → KeepsActs k r journal → is_runnable (rogue_manner (left_at_start r)) k wants history rows journal ≡ not (is_done (left_of r))
runs k r journal wants history rows h = ap (λ p. not (is_done p)) (sym h.left)

pub few : (k : ℕ) (r : Rogue) (journal : List Entry) → KeepsActs k r journal → length (calls_of k journal) ≤ calls_left (left_at_start r)
few k r journal h = omega (arith, bounded r.kind (ends_of r) (left_at_start r) (calls_of k journal) h.follows)
