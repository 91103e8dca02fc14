-- The actors of a plan, one more at a time, and one by one by their jobs.
use Rattle.std.proofs.Common.{◌≡◌, ◌⊎◌, ◌+◌, ◌*◌, ◌<◌, ◌++◌, ℕ, zero, suc, Option, Some, None, MatchOption, List, [], ◌∷◌, length, length-append, slice_get, refl, sym, ap, ◌∙◌, subst, arith, inl, inr}
use Rattle.std.proofs.lemmas.Bool.{cases_lt}
use Rattle.wire_core.specs.declared.names.QueueRow.{QueueRow}
use Rattle.wire_core.specs.Ends.{Consumer, Producer}
use Rattle.sdf_plan.specs.declared.plan.Plan.{Plan}
use Rattle.trace_text.specs.declared.trace.Trace.{Trace}
use Rattle.actor_set.specs.declared.actor.Actor.{Actor}
use Rattle.play_core.proofs.Lists.{some_is}
use Rattle.cast_core.specs.Casts.{IsCast}
use Rattle.cast_core.specs.declared.jobs.NetJob.{NetJob}
use Rattle.cast_core.specs.declared.jobs.NetJob.TheVariants as OfNet
use Rattle.cast_core.specs.declared.jobs.SerialJob.{SerialJob}
use Rattle.cast_core.specs.declared.jobs.SerialJob.TheVariants as OfSerial
use Rattle.cast_core.specs.Known.{IsOwner, IsNoNetClient, HasNetJob, HasNoNetJob, IsNoSerialClient, HasSerialJob, HasNoSerialJob}

-- so many of a plan's actors
pub record AreFirst (plan : Plan) (trace : Trace) (count : ℕ) (actors : List Actor) : Type 0 where
  pub count_is : length actors ≡ count
  pub each : (k : ℕ) (x : Actor) → slice_get actors k ≡ Some x → IsCast plan trace k x

added_cases : {T : Type 0} (xs : List T) (x y : T) (k : ℕ) → slice_get (xs ++ x ∷ []) k ≡ Some y → (slice_get xs k ≡ Some y) ⊎ ((x ≡ y) × (k ≡ length xs))
added_cases [] x y zero h = inr (some_is h, refl)
added_cases [] x y (suc k) h = absurd cc
added_cases (a ∷ xs) x y zero h = inl h
added_cases (a ∷ xs) x y (suc k) h = elim (added_cases xs x y k h) [
  | inl l ↦ inl l
  | inr r ↦ inr (r.0, ap suc r.1)
]

pub none_first : (plan : Plan) (trace : Trace) (actors : List Actor) → actors ≡ [] → AreFirst plan trace 0 actors
none_first plan trace actors is = record {
  count_is = ap length is;
  each = λ k x at. let no : slice_get [] k ≡ Some x = ap (λ xs. slice_get xs k) (sym is) ∙ at in absurd cc;
}

-- one actor more
pub one_cast : (plan : Plan) (trace : Trace) (k : ℕ) (actors new : List Actor) (x : Actor) → AreFirst plan trace k actors → new ≡ actors ++ x ∷ [] → IsCast plan trace k x → AreFirst plan trace (k + 1) new
one_cast plan trace k actors new x old is one = record {
  count_is = let n : length actors ≡ k = old.count_is in let m : length new ≡ length actors + 1 = ap length is ∙ length-append actors (x ∷ []) in omega (arith, n, m);
  each = λ j y at. elim (added_cases actors x y j (ap (λ xs. slice_get xs j) (sym is) ∙ at)) [
    | inl h ↦ old.each j y h
    | inr h ↦
        let n : length actors ≡ k = old.count_is in
        let e : k ≡ j = sym n ∙ sym h.1 in
        subst (λ m. IsCast plan trace m y) e (subst (IsCast plan trace k) h.0 one)
  ];
}

differs_at : (rows : List QueueRow) (n m actor : ℕ) (row : QueueRow) → m ≡ n → slice_get rows n ≡ Some row → (row.consumer.0 ≡ actor → ⊥) → IsOwner rows m Consumer actor → ⊥
differs_at rows n m actor row e there differs o =
    let same : o.0 ≡ row = some_is (sym o.1 ∙ (ap (slice_get rows) e ∙ there)) in
    differs (ap (λ (r : QueueRow). r.consumer.0) (sym same) ∙ o.2)

produces_not : (rows : List QueueRow) (n actor : ℕ) (row : QueueRow) → slice_get rows n ≡ Some row → (row.producer.0 ≡ actor → ⊥) → IsOwner rows n Producer actor → ⊥
produces_not rows n actor row there differs o = let same : o.0 ≡ row = some_is (sym o.1 ∙ there) in differs (ap (λ (r : QueueRow). r.producer.0) (sym same) ∙ o.2)

-- one serial client more at whose queue the actor doesn't take
pub none_yet : (rows : List QueueRow) (first k actor n : ℕ) (row : QueueRow) → IsNoSerialClient rows first k actor → n ≡ first + 4 + 2 * k → slice_get rows n ≡ Some row → (row.consumer.0 ≡ actor → ⊥)
    → IsNoSerialClient rows first (k + 1) actor
none_yet rows first k actor n row before is there differs j lt o = elim (cases_lt j k) [
  | inl less ↦ before j less o
  | inr more ↦ differs_at rows n (first + 4 + 2 * j) actor row (omega (arith, lt, more, is)) there differs o
]

-- one network client more
pub no_client_yet : (rows : List QueueRow) (k actor n m : ℕ) (row other : QueueRow) → IsNoNetClient rows k actor → n ≡ 8 + 6 * k → slice_get rows n ≡ Some row → (row.consumer.0 ≡ actor → ⊥)
    → m ≡ 10 + 6 * k → slice_get rows m ≡ Some other → (other.consumer.0 ≡ actor → ⊥) → IsNoNetClient rows (k + 1) actor
no_client_yet rows k actor n m row other before is there differs is_other there_other differs_other j lt = elim (cases_lt j k) [
  | inl less ↦ before j less
  | inr more ↦ (
    λ o. differs_at rows n (8 + 6 * j) actor row (omega (arith, lt, more, is)) there differs o,
    λ o. differs_at rows m (10 + 6 * j) actor other (omega (arith, lt, more, is_other)) there_other differs_other o,
  )
]

-- one block client more whose requests the actor doesn't put
pub no_asker_yet : (rows : List QueueRow) (first k actor n : ℕ) (row : QueueRow) → ((j : ℕ) → j < k → IsOwner rows (first + 4 + 2 * j) Producer actor → ⊥) → n ≡ first + 4 + 2 * k → slice_get rows n ≡ Some row → (row.producer.0 ≡ actor → ⊥)
    → (j : ℕ) → j < k + 1 → IsOwner rows (first + 4 + 2 * j) Producer actor → ⊥
no_asker_yet rows first k actor n row before is there differs j lt o = elim (cases_lt j k) [
  | inl less ↦ before j less o
  | inr more ↦ let e : first + 4 + 2 * j ≡ n = omega (arith, lt, more, is) in produces_not rows n actor row there differs (subst (λ m. IsOwner rows m Producer actor) e o)
]

-- an actor that is none of the serial class's first and no client has no job there
pub no_serial_job : (rows : List QueueRow) (first clients actor : ℕ) (a b c d : QueueRow) → slice_get rows first ≡ Some a → slice_get rows first ≡ Some b → slice_get rows (first + 2) ≡ Some c → slice_get rows (first + 3) ≡ Some d
    → (a.producer.0 ≡ actor → ⊥) → (b.consumer.0 ≡ actor → ⊥) → (c.consumer.0 ≡ actor → ⊥) → (d.producer.0 ≡ actor → ⊥) → IsNoSerialClient rows first clients actor → HasNoSerialJob rows first clients actor
no_serial_job rows first clients actor a b c d at_a at_b at_c at_d no_a no_b no_c no_d none OfSerial.Device h = produces_not rows first actor a at_a no_a h.1
no_serial_job rows first clients actor a b c d at_a at_b at_c at_d no_a no_b no_c no_d none OfSerial.Driver h = differs_at rows first first actor b refl at_b no_b h.1
no_serial_job rows first clients actor a b c d at_a at_b at_c at_d no_a no_b no_c no_d none OfSerial.Receiver h = differs_at rows (first + 2) (first + 2) actor c refl at_c no_c h.1
no_serial_job rows first clients actor a b c d at_a at_b at_c at_d no_a no_b no_c no_d none OfSerial.Sender h = produces_not rows (first + 3) actor d at_d no_d h.1
no_serial_job rows first clients actor a b c d at_a at_b at_c at_d no_a no_b no_c no_d none (OfSerial.Client k) h = none k h.0 h.1

pub where_no_serial : (rows : List QueueRow) (first clients actor : ℕ) (o : Option SerialJob) → (IsNoSerialClient rows first clients actor → HasNoSerialJob rows first clients actor) → MatchOption o (IsNoSerialClient rows first clients actor) (HasSerialJob rows first clients actor)
    → MatchOption o (HasNoSerialJob rows first clients actor) (HasSerialJob rows first clients actor)
where_no_serial rows first clients actor None f h = f h
where_no_serial rows first clients actor (Some x) f h = h

-- an actor that is none of the class's first and no client has no job there
pub no_job : (rows : List QueueRow) (clients actor : ℕ) (a b c d : QueueRow) → slice_get rows (0) ≡ Some a → slice_get rows (0) ≡ Some b → slice_get rows (4) ≡ Some c → slice_get rows (6) ≡ Some d
    → (a.consumer.0 ≡ actor → ⊥) → (b.producer.0 ≡ actor → ⊥) → (c.consumer.0 ≡ actor → ⊥) → (d.producer.0 ≡ actor → ⊥) → IsNoNetClient rows clients actor → HasNoNetJob rows clients actor
no_job rows clients actor a b c d at_a at_b at_c at_d no_a no_b no_c no_d none OfNet.Device h = differs_at rows (0) 0 actor a refl at_a no_a h.1
no_job rows clients actor a b c d at_a at_b at_c at_d no_a no_b no_c no_d none OfNet.Driver h = produces_not rows (0) actor b at_b no_b h.1
no_job rows clients actor a b c d at_a at_b at_c at_d no_a no_b no_c no_d none OfNet.Receiver h = differs_at rows (4) 4 actor c refl at_c no_c h.1
no_job rows clients actor a b c d at_a at_b at_c at_d no_a no_b no_c no_d none OfNet.Sender h = produces_not rows (6) actor d at_d no_d h.1
no_job rows clients actor a b c d at_a at_b at_c at_d no_a no_b no_c no_d none (OfNet.Copier k) h = (none k h.0).0 h.1
no_job rows clients actor a b c d at_a at_b at_c at_d no_a no_b no_c no_d none (OfNet.Client k) h = (none k h.0).1 h.1

pub where_none : (rows : List QueueRow) (clients actor : ℕ) (o : Option NetJob) → (IsNoNetClient rows clients actor → HasNoNetJob rows clients actor) → MatchOption o (IsNoNetClient rows clients actor) (HasNetJob rows clients actor)
    → MatchOption o (HasNoNetJob rows clients actor) (HasNetJob rows clients actor)
where_none rows clients actor None f h = f h
where_none rows clients actor (Some x) f h = h
