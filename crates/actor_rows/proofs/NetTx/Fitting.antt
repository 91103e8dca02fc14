-- The virtualiser fits its queues from the start on, whatever the hand does at the other ends.
use Rattle.std.proofs.Common.{◌≡◌, ◌⊎◌, ◌<◌, ℕ, zero, suc, Some, List, [], ◌∷◌, length, length-set, map, slice_get, refl, sym, ap, ◌∙◌, subst, inl, inr, arith}
use Rattle.cargo_core.specs.declared.item.QueueKind.TheVariants as Kind
use Rattle.wire_core.specs.declared.names.Event.{Event}
use Rattle.wire_core.specs.declared.names.QueueId.{QueueId}
use Rattle.wire_core.specs.Ends.{Role, Consumer, Producer}
use Rattle.wire_core.specs.Lists.{Stepped}
use Rattle.wire_core.specs.Queues.{Queue, Happens, end_at}
use Rattle.wire_core.proofs.Moving.{moves}
use Rattle.turn_kit.specs.Table.{Agrees}
use Rattle.turn_kit.specs.ManyEnds.{AreApart}
use Rattle.turn_kit.specs.declared.ends.Intake.{Intake}
use Rattle.turn_kit.specs.declared.ends.Outlet.{Outlet}
use Rattle.buffer_kit.specs.Virtualising.{VirtOwns, from_queues, new_intake, new_outlet, to_queues}
use Rattle.net_virt_tx.specs.declared.NetVirtTx.{NetVirtTx}
use Rattle.net_virt_tx.specs.Sending.{FitsTx, SameTx, TxStandsFor}
use Rattle.base_rows.specs.Hands.{OnlyAt, AreQueues}
use Rattle.actor_rows.proofs.Fitting.{map_get, some_is}
use Rattle.actor_rows.specs.Standings.{queue}
use Rattle.actor_rows.specs.NetTx.Standings.{IsNewAlone, Stands}

-- the one queue of a list of one
pub one_at : (q r : QueueId) (k : ℕ) → slice_get (q ∷ []) k ≡ Some r → (k ≡ 0) × (r ≡ q)
one_at q r zero at = (refl, sym (some_is at))
one_at q r (suc k) at = absurd cc

pub one_apart : (q : QueueId) → AreApart (q ∷ [])
one_apart q k j r s at there same = let a = (one_at q r k at).0 in let b = (one_at q s j there).0 in omega (arith, a, b)

pub intake_one : (q : QueueId) (i : Intake) (k : ℕ) → slice_get (map new_intake (q ∷ [])) k ≡ Some i → i ≡ new_intake q
intake_one q i zero at = sym (some_is at)
intake_one q i (suc k) at = absurd cc

pub outlet_one : (q : QueueId) (o : Outlet) (k : ℕ) → slice_get (map new_outlet (q ∷ [])) k ≡ Some o → o ≡ new_outlet q
outlet_one q o zero at = sym (some_is at)
outlet_one q o (suc k) at = absurd cc

-- a virtualiser in its start state fits queues in their start state
module _ (size most : ℕ) (w : List Queue) (v : NetVirtTx) (b : AreQueues Kind.Net 4 w) (n : IsNewAlone size most v) where
  froms : from_queues v.ends ≡ queue 2 ∷ []
  froms = ap (map (λ (i : Intake). i.queue)) n.new.ends.from_is

  tos : to_queues v.ends ≡ queue 3 ∷ []
  tos = ap (map (λ (o : Outlet). o.queue)) n.new.ends.to_is

  in_state : (k : ℕ) → k < 4 → Agrees (end_at w Consumer k) (new_intake (queue k)).state
  in_state k lt = rw (b.start Consumer k lt) (record { owned = refl; waiter = refl; ringer = refl; looked = λ h. absurd cc })

  out_state : (k : ℕ) → k < 4 → Agrees (end_at w Producer k) (new_outlet (queue k)).state
  out_state k lt = rw (b.start Producer k lt) (record { owned = refl; waiter = refl; ringer = refl; looked = λ h. absurd cc })

  kind_at : (r : Role) (k : ℕ) → k < 4 → (end_at w r k).kind ≡ Kind.Net
  kind_at Consumer k lt = ap (λ e. e.kind) (b.start Consumer k lt)
  kind_at Producer k lt = ap (λ e. e.kind) (b.start Producer k lt)

  pub new_stands : Stands w v
  new_stands = record {
    fits = record {
      ends_fit = record {
        input = subst (λ (i : Intake). Agrees (end_at w Consumer i.queue.0) i.state) (sym n.new.ends.input_is) (in_state 1 (omega arith));
        output = subst (λ (o : Outlet). Agrees (end_at w Producer o.queue.0) o.state) (sym n.new.ends.output_is) (out_state 0 (omega arith));
        from_clients = record {
          agrees = λ k i at. subst (λ (x : Intake). Agrees (end_at w Consumer x.queue.0) x.state) (sym (intake_one (queue 2) i k (ap (λ l. slice_get l k) (sym n.new.ends.from_is) ∙ at))) (in_state 2 (omega arith));
          apart = subst AreApart (sym froms) (one_apart (queue 2));
        };
        to_clients = record {
          agrees = λ k o at. subst (λ (x : Outlet). Agrees (end_at w Producer x.queue.0) x.state) (sym (outlet_one (queue 3) o k (ap (λ l. slice_get l k) (sym n.new.ends.to_is) ∙ at))) (out_state 3 (omega arith));
          apart = subst AreApart (sym tos) (one_apart (queue 3));
        };
        comes = subst (λ (i : Intake). (end_at w Consumer i.queue.0).kind ≡ Kind.Net) (sym n.new.ends.input_is) (kind_at Consumer 1 (omega arith));
        goes = subst (λ (o : Outlet). (end_at w Producer o.queue.0).kind ≡ Kind.Net) (sym n.new.ends.output_is) (kind_at Producer 0 (omega arith));
        come_from = λ k q at. subst (λ (x : QueueId). (end_at w Consumer x.0).kind ≡ Kind.Net) (sym (one_at (queue 2) q k (ap (λ l. slice_get l k) (sym froms) ∙ at)).1) (kind_at Consumer 2 (omega arith));
        go_to = λ k q at. subst (λ (x : QueueId). (end_at w Producer x.0).kind ≡ Kind.Net) (sym (one_at (queue 3) q k (ap (λ l. slice_get l k) (sym tos) ∙ at)).1) (kind_at Producer 3 (omega arith));
        inputs_apart = λ k q at same.
            let a : q ≡ queue 2 = (one_at (queue 2) q k (ap (λ l. slice_get l k) (sym froms) ∙ at)).1 in
            let c = ap (λ (x : QueueId). x.0) a in
            let i = ap (λ (x : Intake). x.queue.0) n.new.ends.input_is in
            omega (arith, c, i, same);
        outputs_apart = λ k q at same.
            let a : q ≡ queue 3 = (one_at (queue 3) q k (ap (λ l. slice_get l k) (sym tos) ∙ at)).1 in
            let c = ap (λ (x : QueueId). x.0) a in
            let o = ap (λ (x : Outlet). x.queue.0) n.new.ends.output_is in
            omega (arith, c, o, same);
        few_from = let l = ap length froms in omega (arith, l);
        few_to = let l = ap length tos in omega (arith, l);
      };
      work = n.stands.work;
      from_each = n.stands.from_each;
      to_each = n.stands.to_each;
    };
    long = b.long;
    kind = kind_at Producer 2 (omega arith);
    input = ap (λ (x : Intake). x.queue.0) n.new.ends.input_is;
    output = ap (λ (x : Outlet). x.queue.0) n.new.ends.output_is;
    from_client = froms;
    to_client = tos;
  }

-- what the hand does at an end that isn't the virtualiser's leaves it
beside : (w u : List Queue) (v : NetVirtTx) (role : Role) (place : ℕ) → OnlyAt role place w u → ((r : Role) (n : ℕ) → VirtOwns v.ends r n → r ≡ role → n ≡ place → ⊥) → Stands w v → Stands u v
beside w u v role place only away s = record {
  fits = record {
    ends_fit = record {
      input = subst (λ e. Agrees e v.ends.input.state) (sym (only.rest Consumer v.ends.input.queue.0 (away Consumer v.ends.input.queue.0 (inl refl)))) s.fits.ends_fit.input;
      output = subst (λ e. Agrees e v.ends.output.state) (sym (only.rest Producer v.ends.output.queue.0 (away Producer v.ends.output.queue.0 (inl refl)))) s.fits.ends_fit.output;
      from_clients = record {
        agrees = λ k i at. subst (λ e. Agrees e i.state) (sym (only.rest Consumer i.queue.0 (away Consumer i.queue.0 (inr (k, i.queue, map_get (λ (x : Intake). x.queue) v.ends.from_clients.ends.items k i at, refl))))) (s.fits.ends_fit.from_clients.agrees k i at);
        apart = s.fits.ends_fit.from_clients.apart;
      };
      to_clients = record {
        agrees = λ k o at. subst (λ e. Agrees e o.state) (sym (only.rest Producer o.queue.0 (away Producer o.queue.0 (inr (k, o.queue, map_get (λ (x : Outlet). x.queue) v.ends.to_clients.ends.items k o at, refl))))) (s.fits.ends_fit.to_clients.agrees k o at);
        apart = s.fits.ends_fit.to_clients.apart;
      };
      comes = only.kinds Consumer v.ends.input.queue.0 ∙ s.fits.ends_fit.comes;
      goes = only.kinds Producer v.ends.output.queue.0 ∙ s.fits.ends_fit.goes;
      come_from = λ k q at. only.kinds Consumer q.0 ∙ s.fits.ends_fit.come_from k q at;
      go_to = λ k q at. only.kinds Producer q.0 ∙ s.fits.ends_fit.go_to k q at;
      inputs_apart = s.fits.ends_fit.inputs_apart;
      outputs_apart = s.fits.ends_fit.outputs_apart;
      few_from = s.fits.ends_fit.few_from;
      few_to = s.fits.ends_fit.few_to;
    };
    work = s.fits.work;
    from_each = s.fits.from_each;
    to_each = s.fits.to_each;
  };
  long = only.long ∙ s.long;
  kind = only.kinds Producer 2 ∙ s.kind;
  input = s.input;
  output = s.output;
  from_client = s.from_client;
  to_client = s.to_client;
}

from_is : (w : List Queue) (v : NetVirtTx) → Stands w v → (k : ℕ) (q : QueueId) → slice_get (from_queues v.ends) k ≡ Some q → q.0 ≡ 2
from_is w v s k q at = ap (λ (x : QueueId). x.0) (one_at (queue 2) q k (ap (λ l. slice_get l k) (sym s.from_client) ∙ at)).1

to_is : (w : List Queue) (v : NetVirtTx) → Stands w v → (k : ℕ) (q : QueueId) → slice_get (to_queues v.ends) k ≡ Some q → q.0 ≡ 3
to_is w v s k q at = ap (λ (x : QueueId). x.0) (one_at (queue 3) q k (ap (λ l. slice_get l k) (sym s.to_client) ∙ at)).1

consumes : (w : List Queue) (v : NetVirtTx) → Stands w v → (n : ℕ) → VirtOwns v.ends Consumer n → (n ≡ 1) ⊎ (n ≡ 2)
consumes w v s n (inl e) = inl (e ∙ s.input)
consumes w v s n (inr (k, q, at, e)) = inr (e ∙ from_is w v s k q at)

produces : (w : List Queue) (v : NetVirtTx) → Stands w v → (n : ℕ) → VirtOwns v.ends Producer n → (n ≡ 0) ⊎ (n ≡ 3)
produces w v s n (inl e) = inl (e ∙ s.output)
produces w v s n (inr (k, q, at, e)) = inr (e ∙ to_is w v s k q at)

neither : (n a b c : ℕ) → (n ≡ a) ⊎ (n ≡ b) → n ≡ c → (a ≡ c → ⊥) → (b ≡ c → ⊥) → ⊥
neither n a b c (inl e) same x y = x (sym e ∙ same)
neither n a b c (inr e) same x y = y (sym e ∙ same)

pub after_send : (w u : List Queue) (v : NetVirtTx) → Stands w v → OnlyAt Producer 2 w u → Stands u v
after_send w u v s only = beside w u v Producer 2 only away s
  where
    away : (r : Role) (n : ℕ) → VirtOwns v.ends r n → r ≡ Producer → n ≡ 2 → ⊥
    away Consumer n own role place = absurd cc
    away Producer n own role place = neither n 0 3 2 (produces w v s n own) place (λ e. absurd cc) (λ e. absurd cc)

pub after_get : (w u : List Queue) (v : NetVirtTx) (n : ℕ) → (1 ≡ n → ⊥) → (2 ≡ n → ⊥) → Stands w v → OnlyAt Consumer n w u → Stands u v
after_get w u v m one two s only = beside w u v Consumer m only away s
  where
    away : (r : Role) (n : ℕ) → VirtOwns v.ends r n → r ≡ Consumer → n ≡ m → ⊥
    away Producer n own role place = absurd cc
    away Consumer n own role place = neither n 1 2 m (consumes w v s n own) place one two

-- a step of the virtualiser
pub after_step : (w u : List Queue) (v v' : NetVirtTx) (e : Event) → Stands w v → FitsTx (end_at u) v' → Stepped TxStandsFor (λ old d new. Happens old d new) w u v v' e → SameTx v v' → Stands u v'
after_step w u v v' e s fits st same = record {
  fits = fits;
  long = ap length st.happened.after_is ∙ (length-set w e.queue.0 _ ∙ s.long);
  kind = (moves w _ u st.happened).kinds Producer 2 ∙ s.kind;
  input = ap (λ (x : QueueId). x.0) same.ends.input ∙ s.input;
  output = ap (λ (x : QueueId). x.0) same.ends.output ∙ s.output;
  from_client = same.ends.from_clients ∙ s.from_client;
  to_client = same.ends.to_clients ∙ s.to_client;
}
