-- What the calls of others are to an actor that tells its own: nothing.
use Rattle.std.proofs.Common.{◌≡◌, ◌==◌, ◌&&◌, ◌+◌, ℕ, Bool, true, false, cond, List, [], ◌∷◌, refl, sym, ap, ◌∙◌, subst, arith}
use Rattle.std.specs.List.{filter}
use Rattle.std.proofs.lemmas.Bool.{and_parts, eqb-true}
use Rattle.wire_core.specs.declared.names.Answer.{Answer}
use Rattle.wire_core.specs.declared.names.Event.{Event}
use Rattle.wire_core.specs.declared.names.Op.{Op}
use Rattle.wire_core.specs.declared.names.Op.TheVariants as Do
use Rattle.wire_core.specs.Bells.{bit}
use Rattle.wire_core.specs.Ends.{Role, Consumer, role_of}
use Rattle.wire_core.specs.Fates.{is_take, is_take_at, is_vain_at, noes_at}
use Rattle.wire_core.specs.Marks.{is_role, is_vain_look}
use Rattle.wire_core.specs.Queues.{is_store}
use Rattle.actor_set.proofs.LawsLemmas.Alike.{role_same}

take_role : (o : Op) → is_take o ≡ true → (role_of o ≡ Consumer) × (is_store o ≡ false)
take_role Do.Take h = (refl, refl)
take_role Do.Put h = cc
take_role Do.See h = cc
take_role Do.Room h = cc
take_role (Do.Ask s) h = cc
take_role (Do.Waive s) h = cc
take_role (Do.Wake s) h = cc
take_role (Do.Wanted s) h = cc
take_role (Do.Settle s) h = cc
take_role (Do.Ring s) h = cc
take_role (Do.Store w v) h = cc

vain_plain : (o : Op) (a : Answer) → is_vain_look o a ≡ true → is_store o ≡ false
vain_plain Do.See a h = refl
vain_plain Do.Room a h = refl
vain_plain Do.Take a h = refl
vain_plain Do.Put a h = refl
vain_plain (Do.Ask s) a h = refl
vain_plain (Do.Waive s) a h = refl
vain_plain (Do.Wake s) a h = refl
vain_plain (Do.Wanted s) a h = refl
vain_plain (Do.Settle s) a h = refl
vain_plain (Do.Ring s) a h = refl
vain_plain (Do.Store w v) a h = cc

pub false_unless : (b : Bool) → (b ≡ true → ⊥) → b ≡ false
false_unless true absent = absurd (absent refl)
false_unless false absent = refl

pub and_no : (b : Bool) → (b && false) ≡ false
and_no true = refl
and_no false = refl

-- of an actor with these ends, whose calls are its own
module _ (E : Role → ℕ → Type 0) (own : Event → Bool) (others : (e : Event) → own e ≡ false → E (role_of e.op) e.queue.0 → is_store e.op ≡ true) where
  -- no call at one of its ends is another's, but for a store
  pub not_other : (r : Role) (n : ℕ) → E r n → (e : Event) → own e ≡ false → role_of e.op ≡ r → e.queue.0 ≡ n → is_store e.op ≡ false → ⊥
  not_other r n end e not_own role queue plain =
      let store : is_store e.op ≡ true = others e not_own (subst (λ z. E z e.queue.0) (sym role) (subst (E r) (sym queue) end)) in
      let bad : true ≡ false = sym store ∙ plain in
      cc

  pub other_take : (n : ℕ) → E Consumer n → (e : Event) → own e ≡ false → is_take_at n e ≡ false
  other_take n end e not_own = false_unless (is_take_at n e) (λ h.
      let p = and_parts (is_take e.op) (e.queue.0 == n) h in
      let r = take_role e.op p.0 in
      not_other Consumer n end e not_own r.0 (eqb-true e.queue.0 n p.1) r.1)

  pub other_look : (r : Role) (n : ℕ) → E r n → (e : Event) → own e ≡ false → is_vain_at r n e ≡ false
  other_look r n end e not_own = false_unless (is_vain_at r n e) (λ h.
      let p = and_parts (is_vain_look e.op e.answer) (is_role (role_of e.op) r && (e.queue.0 == n)) h in
      let s = and_parts (is_role (role_of e.op) r) (e.queue.0 == n) p.1 in
      not_other r n end e not_own (role_same (role_of e.op) r s.0) (eqb-true e.queue.0 n s.1) (vain_plain e.op e.answer p.0))

  nothing : (n : ℕ) → bit false + n ≡ n
  nothing n = omega arith

  -- it looked in vain as often by its own calls
  pub looks_own : (r : Role) (n : ℕ) → E r n → (es : List Event) → noes_at r n es ≡ noes_at r n (filter own es)
  looks_own r n end [] = refl
  looks_own r n end (e ∷ es) = by (own e) refl (looks_own r n end es)
    where
      by : (b : Bool) → own e ≡ b → noes_at r n es ≡ noes_at r n (filter own es) → noes_at r n (e ∷ es) ≡ noes_at r n (filter own (e ∷ es))
      by true o h = ap (λ m. bit (is_vain_at r n e) + m) h ∙ ap (λ b. noes_at r n (cond b (e ∷ filter own es) (filter own es))) (sym o)
      by false o h = ap (λ b. bit b + noes_at r n es) (other_look r n end e o) ∙ (nothing (noes_at r n es) ∙ (h ∙ ap (λ b. noes_at r n (cond b (e ∷ filter own es) (filter own es))) (sym o)))
