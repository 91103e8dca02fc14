use Rattle.std.proofs.Common.{◌≡◌, ◌==◌, ◌&&◌, ◌↔◌, ℕ, Bool, true, false, List, [], ◌++◌, Option, Some, None, IsSome, refl, sym, ap, ◌∙◌}
use Rattle.std.proofs.lemmas.Bool.{ne_eqb}
use Rattle.std.proofs.lemmas.List.{append-nil}
use Rattle.wire_core.proofs.Sinces.{eqb_refl}
use Rattle.wire_core.proofs.Places.{if_there_here}
use Rattle.wire_core.specs.declared.names.Event.{Event}
use Rattle.wire_core.specs.declared.names.Op.{Op}
use Rattle.wire_core.specs.declared.names.Op.TheVariants as Do
use Rattle.wire_core.specs.declared.names.Answer.{Answer}
use Rattle.wire_core.specs.Deeds.{Cargo}
use Rattle.wire_core.specs.Lists.{Lists, with, if_there}
use Rattle.wire_core.specs.Ends.{Role, Consumer, Producer, role_of}
use Rattle.wire_core.specs.Marks.{is_vain_look, is_role}
use Rattle.wire_core.specs.Fates.{is_take, is_take_at, is_vain_at}

pub at_here : (n m : ℕ) → n ≡ m → (n == m) ≡ true
at_here n m e = rw e (eqb_refl m)

pub and_true : (a b : Bool) → a ≡ true → b ≡ true → (a && b) ≡ true
and_true a b e f = rw (e, f) refl

pub and_no_right : (a b : Bool) → b ≡ false → (a && b) ≡ false
and_no_right true b e = e
and_no_right false b e = refl

pub and_no_left : (a b : Bool) → a ≡ false → (a && b) ≡ false
and_no_left a b e = rw e refl

pub role_here : (r : Role) → r ≡ Consumer → is_role r Consumer ≡ true
role_here r e = rw e refl

pub role_there : (r : Role) → r ≡ Producer → is_role r Consumer ≡ false
role_there r e = rw e refl

pub vain_takes : (o : Op) (a : Answer) → is_vain_look o a ≡ true → is_take o ≡ false
vain_takes Do.See a v = refl
vain_takes Do.Room a v = refl
vain_takes Do.Take a v = cc
vain_takes Do.Put a v = refl
vain_takes (Do.Ask s) a v = refl
vain_takes (Do.Waive s) a v = refl
vain_takes (Do.Wake s) a v = refl
vain_takes (Do.Wanted s) a v = refl
vain_takes (Do.Settle s) a v = refl
vain_takes (Do.Ring s) a v = refl
vain_takes (Do.Store w b) a v = refl

pub gives : (o : Op) → role_of o ≡ Producer → is_take o ≡ false
gives Do.See r = refl
gives Do.Room r = refl
gives Do.Take r = cc
gives Do.Put r = refl
gives (Do.Ask s) r = refl
gives (Do.Waive s) r = refl
gives (Do.Wake s) r = refl
gives (Do.Wanted s) r = refl
gives (Do.Settle s) r = refl
gives (Do.Ring s) r = refl
gives (Do.Store w v) r = refl

pub both_true : (a b : Bool) → (a && b) ≡ true → (a ≡ true) × (b ≡ true)
both_true true b e = (refl, e)
both_true false b e = cc

pub no_take : (o : Op) (x : Option Cargo) → (IsSome x ↔ (o ≡ Do.Take)) → x ≡ None → is_take o ≡ false
no_take Do.Take x iff e = let some : IsSome x = iff.1 refl in absurd (none x e some)
  where
    none : (y : Option Cargo) → y ≡ None → IsSome y → ⊥
    none None e s = cc
    none (Some y) e s = cc
no_take Do.See x iff e = refl
no_take Do.Room x iff e = refl
no_take Do.Put x iff e = refl
no_take (Do.Ask s) x iff e = refl
no_take (Do.Waive s) x iff e = refl
no_take (Do.Wake s) x iff e = refl
no_take (Do.Wanted s) x iff e = refl
no_take (Do.Settle s) x iff e = refl
no_take (Do.Ring s) x iff e = refl
no_take (Do.Store w v) x iff e = refl

pub vain_take : (r : Role) (n : ℕ) (e : Event) → e.op ≡ Do.Take → is_vain_at r n e ≡ false
vain_take r n e o = and_no_left (is_vain_look e.op e.answer) (is_role (role_of e.op) r && (e.queue.0 == n)) (ap (λ p. is_vain_look p e.answer) o)

pub vain_out : (n : ℕ) (e : Event) → role_of e.op ≡ Producer → is_vain_at Consumer n e ≡ false
vain_out n e r = and_no_right (is_vain_look e.op e.answer) (is_role (role_of e.op) Consumer && (e.queue.0 == n)) (and_no_left (is_role (role_of e.op) Consumer) (e.queue.0 == n) (role_there (role_of e.op) r))

pub vain_other : (n : ℕ) (e : Event) → (e.queue.0 ≡ n → ⊥) → is_vain_at Consumer n e ≡ false
vain_other n e q = and_no_right (is_vain_look e.op e.answer) (is_role (role_of e.op) Consumer && (e.queue.0 == n)) (and_no_right (is_role (role_of e.op) Consumer) (e.queue.0 == n) (ne_eqb e.queue.0 n q))

pub vain_still : (drops : Bool) (n : ℕ) (e : Event) → (drops && is_vain_look e.op e.answer) ≡ false → drops ≡ true → is_vain_at Consumer n e ≡ false
vain_still drops n e v on = and_no_left (is_vain_look e.op e.answer) (is_role (role_of e.op) Consumer && (e.queue.0 == n)) (sym (ap (λ d. d && is_vain_look e.op e.answer) on) ∙ v)

pub vain_here : (drops : Bool) (n : ℕ) (e : Event) → e.queue.0 ≡ n → role_of e.op ≡ Consumer → (drops && is_vain_look e.op e.answer) ≡ true → is_vain_at Consumer n e ≡ true
vain_here drops n e q r v = and_true (is_vain_look e.op e.answer) (is_role (role_of e.op) Consumer && (e.queue.0 == n)) (both_true drops (is_vain_look e.op e.answer) v).1 (and_true (is_role (role_of e.op) Consumer) (e.queue.0 == n) (role_here (role_of e.op) r) (at_here e.queue.0 n q))

-- calls that are no takes
pub take_at_here : (n : ℕ) (e : Event) → e.queue.0 ≡ n → e.op ≡ Do.Take → is_take_at n e ≡ true
take_at_here n e q o = and_true (is_take e.op) (e.queue.0 == n) (ap is_take o) (at_here e.queue.0 n q)

pub no_take_at : (n : ℕ) (e : Event) → is_take e.op ≡ false → is_take_at n e ≡ false
no_take_at n e t = and_no_left (is_take e.op) (e.queue.0 == n) t

pub take_at_other : (n : ℕ) (e : Event) → (e.queue.0 ≡ n → ⊥) → is_take_at n e ≡ false
take_at_other n e q = and_no_right (is_take e.op) (e.queue.0 == n) (ne_eqb e.queue.0 n q)

none_there : (b : Bool) → if_there b [] ≡ []
none_there true = refl
none_there false = refl

-- a list at a queue, with what this call moves there
pub here : (lists more : Lists) (n : ℕ) (x : List Cargo) → more n ≡ x → with lists more n ≡ lists n ++ x
here lists more n x e = ap (λ y. lists n ++ y) e

pub stays : (lists more : Lists) (n : ℕ) → more n ≡ [] → with lists more n ≡ lists n
stays lists more n e = here lists more n [] e ∙ append-nil (lists n)

pub moved_here : (more : Lists) (n : ℕ) (x : List Cargo) → ((m : ℕ) → more m ≡ if_there (n == m) x) → more n ≡ x
moved_here more n x f = f n ∙ if_there_here n x

pub moved_not : (more : Lists) (n m : ℕ) (x : List Cargo) → (n ≡ m → ⊥) → ((k : ℕ) → more k ≡ if_there (n == k) x) → more m ≡ []
moved_not more n m x ne f = f m ∙ ap (λ b. if_there b x) (ne_eqb n m ne)

pub nothing_moved : (more : Lists) (n : ℕ) (x : List Cargo) → x ≡ [] → ((m : ℕ) → more m ≡ if_there (n == m) x) → (m : ℕ) → more m ≡ []
nothing_moved more n x e f m = f m ∙ (ap (if_there (n == m)) e ∙ none_there (n == m))

pub none_of : (o : Option Cargo) → ((x : Cargo) → o ≡ Some x → ⊥) → o ≡ None
none_of None f = refl
none_of (Some x) f = absurd (f x refl)
