-- How many entries are put in a play, and how many ends its actors have.
use Rattle.std.proofs.Common.{◌≡◌, ◌⊎◌, ◌==◌, ◌+◌, ◌*◌, ◌<◌, ◌≤◌, ℕ, zero, suc, Bool, true, false, Some, List, [], ◌∷◌, length, slice_get, refl, sym, ap, ◌∙◌, subst, arith, inl, inr}
use Rattle.std.proofs.lemmas.Bool.{cases_Bool, cases_lt, eqb-true, ne_eqb}
use Rattle.std.proofs.lemmas.List.{length-map}
use Rattle.line_text.specs.declared.ports_text.ports.Ports.{Ports}
use Rattle.wire_core.specs.declared.names.QueueRow.{QueueRow}
use Rattle.wire_core.specs.Bells.{bit}
use Rattle.wire_core.specs.Deeds.{Cargo}
use Rattle.wire_core.specs.Journal.{start_history, track}
use Rattle.wire_core.specs.Marks.{ends_of, all_sent, sum_below}
use Rattle.small_system.specs.Tales.{Turn, journal_of, passed_by}
use Rattle.switched_law.specs.declared.switch_class.member.Member.{Member}
use Rattle.switched_law.specs.SwitchClass.Queues.{AreQueues, GoesAt}
use Rattle.switched_law.specs.SwitchMoment.Puts.{all_put}
use Rattle.switched_law.proofs.SwitchMoment.Sums.{sum_same}
use Rattle.switched_law.specs.Playing.{IsPlayed}
use Rattle.switched_law.proofs.Standing.{Laws, holds}

-- which of the four queues of which port a number is
fourth : (n q : ℕ) → q < 4 * n → (c : ℕ) × (c < n) × ((q ≡ 4 * c) ⊎ ((q ≡ 4 * c + 1) ⊎ ((q ≡ 4 * c + 2) ⊎ (q ≡ 4 * c + 3))))
fourth zero q less = absurd (omega (arith, less))
fourth (suc n) q less = elim (cases_lt q (4 * n)) [
  | inl below ↦ (let rest = fourth n q below in let low = rest.1 in (rest.0, omega (arith, low), rest.2))
  | inr past ↦ (
    n,
    omega arith,
    elim (cases_lt q (4 * n + 1)) [
      | inl a ↦ inl (omega (arith, past, a))
      | inr b ↦ inr (elim (cases_lt q (4 * n + 2)) [
        | inl a ↦ inl (omega (arith, b, a))
        | inr d ↦ inr (elim (cases_lt q (4 * n + 3)) [
          | inl a ↦ inl (omega (arith, d, a))
          | inr e ↦ inr (omega (arith, less, e))
        ])
      ])
    ],
  )
]

-- the two ends of a row are of two actors
abbrev TwoOwners : QueueRow → Type 0
TwoOwners row = row.consumer.0 ≡ row.producer.0 → ⊥

two_at : (rows : List QueueRow) (q a b : ℕ) (row : QueueRow) → GoesAt rows q a b → (a ≡ b → ⊥) → slice_get rows q ≡ Some row → TwoOwners row
two_at rows q a b row goes off at e =
    let same : goes.row ≡ row = some_eq (sym goes.at ∙ at) in
    off (sym goes.is.producer_is ∙ (ap (λ (r : QueueRow). r.producer.0) same ∙ (sym e ∙ (sym (ap (λ (r : QueueRow). r.consumer.0) same) ∙ goes.is.consumer_is))))
  where
    some_eq : {X : Type 0} {x y : X} → Some x ≡ Some y → x ≡ y
    some_eq h = cc

two_owners : (n : ℕ) (rows : List QueueRow) → AreQueues n rows → (q : ℕ) (row : QueueRow) → q < 4 * n → slice_get rows q ≡ Some row → TwoOwners row
two_owners n rows are q row less at =
    let f = fourth n q less in
    let low = f.1 in
    elim f.2 [
      | inl e ↦ two_at rows q f.0 n row (subst (λ i. GoesAt rows i f.0 n) (sym e) (are.of_ports.tx_active f.0 low)) (λ s. omega (arith, low, s)) at
      | inr more ↦ elim more [
        | inl e ↦ two_at rows q n f.0 row (subst (λ i. GoesAt rows i n f.0) (sym e) (are.of_ports.tx_free f.0 low)) (λ s. omega (arith, low, s)) at
        | inr rest ↦ elim rest [
          | inl e ↦ two_at rows q n f.0 row (subst (λ i. GoesAt rows i n f.0) (sym e) (are.of_ports.rx_active f.0 low)) (λ s. omega (arith, low, s)) at
          | inr e ↦ two_at rows q f.0 n row (subst (λ i. GoesAt rows i f.0 n) (sym e) (are.of_ports.rx_free f.0 low)) (λ s. omega (arith, low, s)) at
        ]
      ]
    ]

few_bit : (b : Bool) → bit b ≤ 1
few_bit true = omega arith
few_bit false = omega arith

one_bit : (a : ℕ) (row : QueueRow) → TwoOwners row → bit (row.consumer.0 == a) + bit (row.producer.0 == a) ≤ 1
one_bit a row two = elim (cases_Bool (row.consumer.0 == a)) [
  | inl is ↦
      let other : bit (row.producer.0 == a) ≡ 0 = ap bit (ne_eqb row.producer.0 a (λ e. two (eqb-true row.consumer.0 a is ∙ sym e))) in
      let few = few_bit (row.consumer.0 == a) in
      omega (arith, other, few)
  | inr isnt ↦
      let none : bit (row.consumer.0 == a) ≡ 0 = ap bit isnt in
      let few = few_bit (row.producer.0 == a) in
      omega (arith, none, few)
]

ends_few : (a : ℕ) (rows : List QueueRow) → ((q : ℕ) (row : QueueRow) → slice_get rows q ≡ Some row → TwoOwners row) → ends_of a rows ≤ length rows
ends_few a [] two = omega arith
ends_few a (row ∷ rows) two =
    let one = one_bit a row (two 0 row refl) in
    let rest = ends_few a rows (λ q r at. two (suc q) r at) in
    omega (arith, one, rest)

within : (rows : List QueueRow) (q : ℕ) (row : QueueRow) → slice_get rows q ≡ Some row → q < length rows
within [] q row at = cc
within (r ∷ rows) zero row at = omega arith
within (r ∷ rows) (suc q) row at = let rest = within rows q row at in omega (arith, rest)

-- no actor has more ends than there are queues
pub ends_most : (n : ℕ) (rows : List QueueRow) → AreQueues n rows → (a : ℕ) → ends_of a rows ≤ 4 * n
ends_most n rows are a =
    let many = are.many in
    let few = ends_few a rows (λ q row at. let low = within rows q row at in two_owners n rows are q row (omega (arith, low, many)) at) in
    omega (arith, few, many)

-- what the journal shows of all puts
pub put_is : (laws : Laws) (ports : Ports) (rows : List QueueRow) (start : List Member) (turns : List (Turn Member)) → IsPlayed ports rows start turns → all_sent (start_history rows) rows (journal_of turns) ≡ all_put (length ports.macs) (passed_by turns)
put_is laws ports rows start turns p =
    ap (sum_below (λ n. length (track (start_history rows) n (journal_of turns)).sent)) p.queues.many
    ∙ sum_same (λ n. length (track (start_history rows) n (journal_of turns)).sent) (λ n. length ((passed_by turns).sent n)) (4 * length ports.macs)
    (λ n less. ap (λ l. length l) (sym ((holds laws ports rows start turns p).shows_sent n)) ∙ length-map ((passed_by turns).sent n) (λ (c : Cargo). c.0))
