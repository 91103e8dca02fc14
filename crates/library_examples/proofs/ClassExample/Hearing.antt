use Rattle.std.proofs.Common.{◌≡◌, ◌↔◌, ◌==◌, ◌++◌, ℕ, Bool, true, false, Option, Some, None, IsSome, List, [], ◌∷◌, refl, sym, ap, ◌∙◌}
use Rattle.std.specs.Option.{option_to_list}
use Rattle.std.proofs.lemmas.List.{append-nil}
use Rattle.std.proofs.lemmas.Bool.{eq-eqb}
use Rattle.wire_core.specs.declared.names.Event.{Event}
use Rattle.wire_core.specs.declared.names.Op.{Op}
use Rattle.wire_core.specs.declared.names.Op.TheVariants as Do
use Rattle.wire_core.specs.Deeds.{Cargo, deed_of}
use Rattle.wire_core.specs.Lists.{Passed, with_deed, taken_by, if_there}
use Rattle.wire_core.proofs.Sinces.{eqb_apart}
use Rattle.class_expect.specs.SerialSwitch.Carried.{bytes_carried}
use Rattle.library_examples.specs.declared.class_example.joiner.Joiner.{Joiner}
use Rattle.library_examples.specs.declared.class_example.joiner.Claim.{Claim}
use Rattle.library_examples.specs.declared.class_example.joiner.Claim.TheVariants.{Open, First, Second}
use Rattle.library_examples.specs.ClassExample.Joiners.{wants_first, wants_second, claim_of, claim_with, claim_by, claim_after, JoinerStandsFor}
use Rattle.library_examples.specs.ClassExample.MemberLaws.{claim_more, claim_open}
use Rattle.library_examples.proofs.ClassExample.Speech.{bytes_join}

-- What a joiner stands for goes on with one call of it.

-- a call that isn't a take is from no input
claim_none : (f s : ℕ) (o : Op) (q : ℕ) → (o ≡ Do.Take → ⊥) → claim_of f s o q ≡ Open
claim_none f s Do.Take q off = absurd (off refl)
claim_none f s Do.Put q off = refl
claim_none f s Do.See q off = refl
claim_none f s Do.Room q off = refl
claim_none f s (Do.Ask x) q off = refl
claim_none f s (Do.Waive x) q off = refl
claim_none f s (Do.Wake x) q off = refl
claim_none f s (Do.Wanted x) q off = refl
claim_none f s (Do.Settle x) q off = refl
claim_none f s (Do.Ring x) q off = refl
claim_none f s (Do.Store w v) q off = refl

claim_first : (f s : ℕ) (o : Op) (q : ℕ) → o ≡ Do.Take → q ≡ f → claim_of f s o q ≡ First
claim_first f s o q take is = rw (take, eq-eqb q f is) refl

claim_second : (f s : ℕ) (o : Op) (q : ℕ) → o ≡ Do.Take → q ≡ s → (f ≡ s → ⊥) → claim_of f s o q ≡ Second
claim_second f s o q take is apart = rw (take, eqb_apart q f (λ h. apart (sym h ∙ is)), eq-eqb q s is) refl

keeps_first : (c : Claim) → wants_first c ≡ true → claim_with c First ≡ First
keeps_first Open h = refl
keeps_first First h = refl
keeps_first Second h = cc

keeps_second : (c : Claim) → wants_second c ≡ true → claim_with c Second ≡ Second
keeps_second Open h = refl
keeps_second First h = cc
keeps_second Second h = refl

nothing_more : (xs more : List Cargo) → more ≡ [] → xs ++ more ≡ xs
nothing_more xs more none = ap (λ c. xs ++ c) none ∙ append-nil xs

module _ (old new : Joiner) (e : Event) (taken : Option Cargo) (p : Passed) (st : JoinerStandsFor old p) (apart : old.first.queue.0 ≡ old.second.queue.0 → ⊥) where
  abbrev f : ℕ
  f = old.first.queue.0

  abbrev s : ℕ
  s = old.second.queue.0

  abbrev more : Passed
  more = with_deed p (deed_of e taken)

  claim_then : claim_by f s more.calls ≡ claim_with old.claim (claim_of f s e.op e.queue.0)
  claim_then = claim_more f s Open p.calls e ∙ ap (λ c. claim_with c (claim_of f s e.op e.queue.0)) (sym st.claim_is)

  -- nothing came
  module _ (none : taken ≡ None) (no_take : e.op ≡ Do.Take → ⊥) (takes : (n : ℕ) → taken_by (deed_of e taken) n ≡ []) (claim : new.claim ≡ old.claim) (recorded : new.recorded.shown ≡ old.recorded.shown) (first : new.first.queue ≡ old.first.queue) (second : new.second.queue ≡ old.second.queue) where
    pub idle_kept : JoinerStandsFor new more
    idle_kept = record {
      claim_is = rw (first, second) (claim ∙ sym (claim_then ∙ (ap (claim_with old.claim) (claim_none f s e.op e.queue.0 no_take) ∙ claim_open old.claim)));
      record_is = rw (first, second) (recorded ∙ (st.record_is ∙ (ap (λ r. bytes_carried r ++ bytes_carried (p.taken s)) (sym (nothing_more (p.taken f) _ (takes f))) ∙ ap (λ r. bytes_carried (more.taken f) ++ bytes_carried r) (sym (nothing_more (p.taken s) _ (takes s))))));
      first_alone = λ h. rw second (nothing_more (p.taken s) _ (takes s) ∙ st.first_alone (ap wants_first (sym claim) ∙ h));
      second_alone = λ h. rw first (nothing_more (p.taken f) _ (takes f) ∙ st.second_alone (ap wants_second (sym claim) ∙ h));
    }

  -- an entry came from the first input
  module _ (c : Cargo) (take : e.op ≡ Do.Take) (on : e.queue.0 ≡ f) (takes : (n : ℕ) → taken_by (deed_of e taken) n ≡ if_there (f == n) (c ∷ [])) (need : wants_first old.claim ≡ true) (claim : new.claim ≡ First) (recorded : new.recorded.shown ≡ old.recorded.shown ++ bytes_carried (c ∷ [])) (first : new.first.queue ≡ old.first.queue) (second : new.second.queue ≡ old.second.queue) where
    first_here : taken_by (deed_of e taken) f ≡ c ∷ []
    first_here = takes f ∙ ap (λ b. if_there b (c ∷ [])) (eq-eqb f f refl)

    first_off : p.taken s ++ taken_by (deed_of e taken) s ≡ []
    first_off = nothing_more (p.taken s) _ (takes s ∙ ap (λ b. if_there b (c ∷ [])) (eqb_apart f s apart)) ∙ st.first_alone need

    first_record : new.recorded.shown ≡ bytes_carried (more.taken f) ++ bytes_carried (more.taken s)
    first_record =
        recorded
        ∙ (ap (λ r. r ++ bytes_carried (c ∷ [])) (st.record_is ∙ (ap (λ r. bytes_carried (p.taken f) ++ bytes_carried r) (st.first_alone need) ∙ append-nil (bytes_carried (p.taken f))))
        ∙ (sym (bytes_join (p.taken f) (c ∷ []))
        ∙ (ap (λ r. bytes_carried (p.taken f ++ r)) (sym first_here)
        ∙ (sym (append-nil (bytes_carried (more.taken f))) ∙ ap (λ r. bytes_carried (more.taken f) ++ bytes_carried r) (sym first_off)))))

    pub first_kept : JoinerStandsFor new more
    first_kept = record {
      claim_is = rw (first, second) (claim ∙ sym (claim_then ∙ (ap (claim_with old.claim) (claim_first f s e.op e.queue.0 take on) ∙ keeps_first old.claim need)));
      record_is = rw (first, second) first_record;
      first_alone = λ h. rw second first_off;
      second_alone = λ h. let no : wants_second First ≡ true = ap wants_second (sym claim) ∙ h in cc;
    }

  -- an entry came from the second input
  module _ (c : Cargo) (take : e.op ≡ Do.Take) (on : e.queue.0 ≡ s) (takes : (n : ℕ) → taken_by (deed_of e taken) n ≡ if_there (s == n) (c ∷ [])) (need : wants_second old.claim ≡ true) (claim : new.claim ≡ Second) (recorded : new.recorded.shown ≡ old.recorded.shown ++ bytes_carried (c ∷ [])) (first : new.first.queue ≡ old.first.queue) (second : new.second.queue ≡ old.second.queue) where
    second_here : taken_by (deed_of e taken) s ≡ c ∷ []
    second_here = takes s ∙ ap (λ b. if_there b (c ∷ [])) (eq-eqb s s refl)

    second_off : p.taken f ++ taken_by (deed_of e taken) f ≡ []
    second_off = nothing_more (p.taken f) _ (takes f ∙ ap (λ b. if_there b (c ∷ [])) (eqb_apart s f (λ h. apart (sym h)))) ∙ st.second_alone need

    second_record : new.recorded.shown ≡ bytes_carried (more.taken f) ++ bytes_carried (more.taken s)
    second_record =
        recorded
        ∙ (ap (λ r. r ++ bytes_carried (c ∷ [])) (st.record_is ∙ ap (λ r. bytes_carried r ++ bytes_carried (p.taken s)) (st.second_alone need))
        ∙ (sym (bytes_join (p.taken s) (c ∷ []))
        ∙ (ap (λ r. bytes_carried (p.taken s ++ r)) (sym second_here)
        ∙ ap (λ r. bytes_carried r ++ bytes_carried (more.taken s)) (sym second_off))))

    pub second_kept : JoinerStandsFor new more
    second_kept = record {
      claim_is = rw (first, second) (claim ∙ sym (claim_then ∙ (ap (claim_with old.claim) (claim_second f s e.op e.queue.0 take on apart) ∙ keeps_second old.claim need)));
      record_is = rw (first, second) second_record;
      first_alone = λ h. let no : wants_first Second ≡ true = ap wants_first (sym claim) ∙ h in cc;
      second_alone = λ h. rw first second_off;
    }

if_none : (b : Bool) → if_there b [] ≡ []
if_none true = refl
if_none false = refl

-- whichever came, from the first input or from the second
pub heard_first : (old new : Joiner) (e : Event) (taken : Option Cargo) → (old.first.queue.0 ≡ old.second.queue.0 → ⊥) → (IsSome taken ↔ (e.op ≡ Do.Take)) → e.queue.0 ≡ old.first.queue.0 → ((n : ℕ) → taken_by (deed_of e taken) n ≡ if_there (old.first.queue.0 == n) (option_to_list taken)) → (IsSome taken → wants_first old.claim ≡ true) → new.claim ≡ claim_after taken First old.claim → new.recorded.shown ≡ old.recorded.shown ++ bytes_carried (option_to_list taken) → new.first.queue ≡ old.first.queue → new.second.queue ≡ old.second.queue → (p : Passed) → JoinerStandsFor old p → JoinerStandsFor new (with_deed p (deed_of e taken))
heard_first old new e None apart iff on takes need claim recorded first second p st = idle_kept old new e None p st apart refl (λ t. let some : false ≡ true = iff.1 t in absurd cc) (λ n. takes n ∙ if_none (old.first.queue.0 == n)) claim (recorded ∙ append-nil old.recorded.shown) first second
heard_first old new e (Some c) apart iff on takes need claim recorded first second p st = first_kept old new e (Some c) p st apart c (iff.0 refl) on takes (need refl) claim recorded first second

pub heard_second : (old new : Joiner) (e : Event) (taken : Option Cargo) → (old.first.queue.0 ≡ old.second.queue.0 → ⊥) → (IsSome taken ↔ (e.op ≡ Do.Take)) → e.queue.0 ≡ old.second.queue.0 → ((n : ℕ) → taken_by (deed_of e taken) n ≡ if_there (old.second.queue.0 == n) (option_to_list taken)) → (IsSome taken → wants_second old.claim ≡ true) → new.claim ≡ claim_after taken Second old.claim → new.recorded.shown ≡ old.recorded.shown ++ bytes_carried (option_to_list taken) → new.first.queue ≡ old.first.queue → new.second.queue ≡ old.second.queue → (p : Passed) → JoinerStandsFor old p → JoinerStandsFor new (with_deed p (deed_of e taken))
heard_second old new e None apart iff on takes need claim recorded first second p st = idle_kept old new e None p st apart refl (λ t. let some : false ≡ true = iff.1 t in absurd cc) (λ n. takes n ∙ if_none (old.second.queue.0 == n)) claim (recorded ∙ append-nil old.recorded.shown) first second
heard_second old new e (Some c) apart iff on takes need claim recorded first second p st = second_kept old new e (Some c) p st apart c (iff.0 refl) on takes (need refl) claim recorded first second
