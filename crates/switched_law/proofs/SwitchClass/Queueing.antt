-- The queues of a switch, port by port.
use Rattle.std.proofs.Common.{◌≡◌, ◌+◌, ◌*◌, ◌<◌, ◌≤◌, ◌++◌, ◌⊎◌, inl, inr, ℕ, Some, List, [], ◌∷◌, length, length-append, slice_get, refl, sym, ap, ◌∙◌, subst, arith}
use Rattle.std.proofs.lemmas.Bool.{cases_lt}
use Rattle.buffer_kit.proofs.TwoLists.{get_front, get_behind}
use Rattle.wire_core.specs.declared.names.QueueRow.{QueueRow}
use Rattle.switched_law.specs.SwitchClass.Queues.{IsQueue, Added, GoesAt, HaveQueues, AreQueues}

pub four_pushed : (xs : List QueueRow) (a b c d : QueueRow) → (((xs ++ a ∷ []) ++ b ∷ []) ++ c ∷ []) ++ d ∷ [] ≡ xs ++ a ∷ b ∷ c ∷ d ∷ []
four_pushed [] a b c d = refl
four_pushed (x ∷ xs) a b c d = ap (λ l. x ∷ l) (four_pushed xs a b c d)

module _ (port switch : ℕ) (old new : List QueueRow) (a : Added port switch old new) where
  abbrev four : List QueueRow
  four = a.tx_active ∷ a.tx_free ∷ a.rx_active ∷ a.rx_free ∷ []

  -- what was there before is there
  pub still : (place p c : ℕ) → GoesAt old place p c → GoesAt new place p c
  still place p c g = record { row = g.row; at = subst (λ l. slice_get l place ≡ Some g.row) (sym a.new_is) (get_front old four place g.row g.at); is = g.is }

  -- a new one is behind them
  behind : (k p c : ℕ) (row : QueueRow) → slice_get four k ≡ Some row → IsQueue p c row → (place : ℕ) → place ≡ length old + k → GoesAt new place p c
  behind k p c row there is place e = record { row = row; at = subst (λ l. slice_get l place ≡ Some row) (sym a.new_is) (subst (λ n. slice_get (old ++ four) n ≡ Some row) (sym e) (get_behind old four k ∙ there)); is = is }

  pub first : (place : ℕ) → place ≡ length old → GoesAt new place port switch
  first place e = behind 0 port switch a.tx_active refl a.sends place (omega (arith, e))

  pub second : (place : ℕ) → place ≡ length old + 1 → GoesAt new place switch port
  second place e = behind 1 switch port a.tx_free refl a.comes_back place e

  pub third : (place : ℕ) → place ≡ length old + 2 → GoesAt new place switch port
  third place e = behind 2 switch port a.rx_active refl a.comes place e

  pub fourth : (place : ℕ) → place ≡ length old + 3 → GoesAt new place port switch
  fourth place e = behind 3 port switch a.rx_free refl a.gives place e

  pub four_more : length new ≡ length old + 4
  four_more = ap length a.new_is ∙ length-append old four

-- the queues of the ports below a number, and no others
pub record SoFar (ports switch : ℕ) (rows : List QueueRow) : Type 0 where
  pub many : length rows ≡ 4 * ports
  pub have : HaveQueues ports switch rows

pub none_yet : (switch : ℕ) → SoFar 0 switch []
none_yet switch = record {
  many = refl;
  have = record {
    tx_active = λ c lt. absurd (omega (arith, lt));
    tx_free = λ c lt. absurd (omega (arith, lt));
    rx_active = λ c lt. absurd (omega (arith, lt));
    rx_free = λ c lt. absurd (omega (arith, lt));
  };
}

pub one_more : (ports switch : ℕ) (old new : List QueueRow) → SoFar ports switch old → Added ports switch old new → SoFar (ports + 1) switch new
one_more ports switch old new s a =
    let n : length old ≡ 4 * ports = s.many in
    record {
      many = let m : length new ≡ length old + 4 = four_more ports switch old new a in omega (arith, n, m);
      have = record {
        tx_active = λ c lt. each c lt (λ c. 4 * c) (λ c. c) (λ c. switch) s.have.tx_active (first ports switch old new a (4 * ports) (sym n));
        tx_free = λ c lt. each c lt (λ c. 4 * c + 1) (λ c. switch) (λ c. c) s.have.tx_free (second ports switch old new a (4 * ports + 1) (omega (arith, n)));
        rx_active = λ c lt. each c lt (λ c. 4 * c + 2) (λ c. switch) (λ c. c) s.have.rx_active (third ports switch old new a (4 * ports + 2) (omega (arith, n)));
        rx_free = λ c lt. each c lt (λ c. 4 * c + 3) (λ c. c) (λ c. switch) s.have.rx_free (fourth ports switch old new a (4 * ports + 3) (omega (arith, n)));
      };
    }
  where
    either : (c : ℕ) → c < ports + 1 → (place from to : ℕ → ℕ) → ((d : ℕ) → d < ports → GoesAt old (place d) (from d) (to d)) → GoesAt new (place ports) (from ports) (to ports) → (c < ports) ⊎ (ports ≤ c) → GoesAt new (place c) (from c) (to c)
    either c lt place from to before last (inl less) = still ports switch old new a (place c) (from c) (to c) (before c less)
    either c lt place from to before last (inr past) = let same : ports ≡ c = omega (arith, lt, past) in subst (λ z. GoesAt new (place z) (from z) (to z)) same last

    each : (c : ℕ) → c < ports + 1 → (place from to : ℕ → ℕ) → ((d : ℕ) → d < ports → GoesAt old (place d) (from d) (to d)) → GoesAt new (place ports) (from ports) (to ports) → GoesAt new (place c) (from c) (to c)
    each c lt place from to before last = either c lt place from to before last (cases_lt c ports)

pub all_queues : (ports switch : ℕ) (rows : List QueueRow) → ports ≡ switch → SoFar ports switch rows → AreQueues switch rows
all_queues ports switch rows same s = subst (λ n. SoFar n switch rows → AreQueues switch rows) (sym same) (λ t. record { many = t.many; of_ports = t.have }) s
