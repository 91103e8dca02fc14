-- What is kept of an ended ring is what its owners knew of their ends.
use Rattle.std.proofs.Common.{◌≡◌, ◌∙◌, ◌<◌, ◌≤◌, ◌⊎◌, inl, inr, ◌++◌, ℕ, List, [], All, length, refl, sym, ap, subst, arith, Option, Some, slice_get}
use Rattle.std.specs.Option.{option_map_or}
use Rattle.std.proofs.lemmas.Bool.{cases_lt}
use Rattle.std.proofs.lemmas.Slice.Zip.{AllZip-long}
use Rattle.std.proofs.lemmas.Option.{get_or_from_slice_get}
use Rattle.cargo_core.specs.Items.{kind_of}
use Rattle.cargo_core.specs.declared.item.QueueKind.{QueueKind}
use Rattle.wire_core.specs.declared.names.Event.{Event}
use Rattle.wire_core.specs.declared.names.QueueRow.{QueueRow}
use Rattle.wire_core.specs.Deeds.{Cargo}
use Rattle.wire_core.specs.Ends.{Role, Consumer, Producer}
use Rattle.wire_core.specs.Journal.{owner_of}
use Rattle.spsc_queue.specs.declared.view.Half.{Half}
use Rattle.spsc_queue.specs.Known.Ends.{EndIs, RingIs, EndedIs}
use Rattle.seat_wires.specs.Places.{entries_known}
use Rattle.seat_wires.specs.Times.{times_known}
use Rattle.play_core.specs.Still.{IsPeopled}
use Rattle.play_core.proofs.Lists.{some_is, there_is, there_below}
use Rattle.actor_set.specs.declared.actor.Actor.{Actor}
use Rattle.wired_law.specs.Wiring.{AreOfKind}
use Rattle.order_law.specs.Orders.{noes_known}
use Rattle.order_law.specs.ActorParts.Parting.{Apart, AreApart, IsRingOf, ends_at, end_in, hostile_apart}
use Rattle.order_law.specs.ActorParts.Finished.{HasEnded, AreFinished}
use Rattle.cast_law.specs.Gone.Gone.{passed_of, left_at}
use Rattle.cast_law.proofs.GoneLemmas.Lists.{both_at, none_beyond}

-- what an end knew last
abbrev pub half_of : EndedIs → Role → Half
half_of e Consumer = e.consumer
half_of e Producer = e.producer

-- what is kept of the ring of a row
pub record IsKept (parts : List Apart) (ended : List EndedIs) (n : ℕ) (row : QueueRow) : Type 0 where
  pub e : EndedIs
  pub there : slice_get ended n ≡ Some e
  pub rest : e.producer.entries ≡ e.consumer.entries ++ e.left
  pub later : List ℕ
  pub times : e.producer.times ≡ e.consumer.times ++ later
  pub kinds : All (λ (x : Cargo). kind_of x.0 ≡ row.kind) e.producer.entries
  pub known : (r : Role) (p : Apart) → slice_get parts (owner_of row r) ≡ Some p
      → (entries_known (end_in (ends_at p r) n) ≡ (half_of e r).entries) × (times_known (end_in (ends_at p r) n) ≡ (half_of e r).times)
  pub noes : (r : Role) (p : Apart) → slice_get parts (owner_of row r) ≡ Some p → noes_known (end_in (ends_at p r) n) ≡ (half_of e r).noes

-- at each place all is what is said of all
all_there : (P : Cargo → Type 0) (xs : List Cargo) → All P xs → (k : ℕ) (x : Cargo) → slice_get xs k ≡ Some x → P x
all_there P xs all k x at = subst P (get_or_from_slice_get xs k x x at) (all k x (there_below xs k x at))

module _ (rows : List QueueRow) (rings : List RingIs) (parts : List Apart) (actors : List Actor) (ended : List EndedIs) (apart : AreApart rows rings parts) (peopled : IsPeopled rows (length parts)) (done : AreFinished rows rings parts actors ended) where
  pub ended_long : length ended ≡ length rows
  ended_long = omega (arith, done.many, AllZip-long (IsRingOf (hostile_apart parts)) rows rings apart.rings_are)

  pub kept_at : (n : ℕ) (row : QueueRow) → slice_get rows n ≡ Some row → IsKept parts ended n row
  kept_at n row at =
      let lt : n < length rows = there_below rows n row at in
      let g = there_is rings n (omega (arith, lt, AllZip-long (IsRingOf (hostile_apart parts)) rows rings apart.rings_are)) in
      let e = there_is ended n (omega (arith, lt, ended_long)) in
      let p = there_is parts (owner_of row Producer) (peopled n row at Producer) in
      let c = there_is parts (owner_of row Consumer) (peopled n row at Consumer) in
      let put = (apart.ends (owner_of row Producer) p.0 p.1).all Producer n row at refl in
      let take = (apart.ends (owner_of row Consumer) c.0 c.1).all Consumer n row at refl in
      let has : HasEnded g.0 put.0 take.0 e.0 = done.each n row g.0 e.0 at g.1 e.1 put.0 take.0
      (record { owner = p.0; there = p.1; end = put.1 }) (record { owner = c.0; there = c.1; end = take.1 }) in
      let sent : e.0.producer.entries ≡ put.0.knows.entries = ap (λ (h : Half). h.entries) has.producer in
      let taken : e.0.consumer.entries ≡ take.0.knows.entries = ap (λ (h : Half). h.entries) has.consumer in
      let sent_then : e.0.producer.times ≡ put.0.knows.times = ap (λ (h : Half). h.times) has.producer in
      let taken_then : e.0.consumer.times ≡ take.0.knows.times = ap (λ (h : Half). h.times) has.consumer in
      let kind : g.0.kind ≡ row.kind = (both_at (IsRingOf (hostile_apart parts)) rows rings apart.rings_are n row g.0 at g.1).0 in record {
        e = e.0;
        there = e.1;
        rest = sent ∙ (has.rest ∙ ap (λ (l : List Cargo). l ++ e.0.left) (sym taken));
        later = has.later;
        times = sent_then ∙ (has.times ∙ ap (λ (l : List ℕ). l ++ has.later) (sym taken_then));
        kinds = subst (λ (k : QueueKind). All (λ (x : Cargo). kind_of x.0 ≡ k) e.0.producer.entries) kind (subst (All (λ (x : Cargo). kind_of x.0 ≡ g.0.kind)) (sym sent) has.kinds);
        known = λ r q here. by r q here e.0 p.0 c.0 put.0 take.0 p.1 c.1 put.1 take.1 (sent, sent_then) (taken, taken_then);
        noes = λ r q here. looks r q here e.0 p.0 c.0 put.0 take.0 p.1 c.1 put.1 take.1 (ap (λ (h : Half). h.noes) has.producer) (ap (λ (h : Half). h.noes) has.consumer);
      }
    where
      looks : (r : Role) (q : Apart) → slice_get parts (owner_of row r) ≡ Some q → (e : EndedIs) (p c : Apart) (put take : EndIs) → slice_get parts (owner_of row Producer) ≡ Some p → slice_get parts (owner_of row Consumer) ≡ Some c
          → end_in (ends_at p Producer) n ≡ Some put → end_in (ends_at c Consumer) n ≡ Some take
          → e.producer.noes ≡ put.knows.noes → e.consumer.noes ≡ take.knows.noes → noes_known (end_in (ends_at q r) n) ≡ (half_of e r).noes
      looks Producer q here e p c put take at_p at_c put_is take_is sent taken =
          ap noes_known (ap (λ (z : Apart). end_in (ends_at z Producer) n) (some_is (sym here ∙ at_p)) ∙ put_is) ∙ sym sent
      looks Consumer q here e p c put take at_p at_c put_is take_is sent taken =
          ap noes_known (ap (λ (z : Apart). end_in (ends_at z Consumer) n) (some_is (sym here ∙ at_c)) ∙ take_is) ∙ sym taken

      by : (r : Role) (q : Apart) → slice_get parts (owner_of row r) ≡ Some q → (e : EndedIs) (p c : Apart) (put take : EndIs) → slice_get parts (owner_of row Producer) ≡ Some p → slice_get parts (owner_of row Consumer) ≡ Some c
          → end_in (ends_at p Producer) n ≡ Some put → end_in (ends_at c Consumer) n ≡ Some take
          → (e.producer.entries ≡ put.knows.entries) × (e.producer.times ≡ put.knows.times) → (e.consumer.entries ≡ take.knows.entries) × (e.consumer.times ≡ take.knows.times)
          → (entries_known (end_in (ends_at q r) n) ≡ (half_of e r).entries) × (times_known (end_in (ends_at q r) n) ≡ (half_of e r).times)
      by Producer q here e p c put take at_p at_c put_is take_is sent taken =
          let is : end_in (ends_at q Producer) n ≡ Some put = ap (λ (z : Apart). end_in (ends_at z Producer) n) (some_is (sym here ∙ at_p)) ∙ put_is in
          (ap entries_known is ∙ sym sent.0, ap times_known is ∙ sym sent.1)
      by Consumer q here e p c put take at_p at_c put_is take_is sent taken =
          let is : end_in (ends_at q Consumer) n ≡ Some take = ap (λ (z : Apart). end_in (ends_at z Consumer) n) (some_is (sym here ∙ at_c)) ∙ take_is in
          (ap entries_known is ∙ sym taken.0, ap times_known is ∙ sym taken.1)

  -- what passed is of the kinds of its queues
  pub kinds_kept : (calls : List Event) → AreOfKind rows (passed_of ended calls)
  kinds_kept calls n row at k c there =
      let kept = kept_at n row at in
      let sent : (passed_of ended calls).sent n ≡ kept.e.producer.entries = ap (λ (o : Option EndedIs). option_map_or (λ (e : EndedIs). e.producer.entries) o []) kept.there in
      all_there (λ (x : Cargo). kind_of x.0 ≡ row.kind) kept.e.producer.entries kept.kinds k c (ap (λ (l : List Cargo). slice_get l k) (sym sent) ∙ there)

  -- what was put is what was taken, and then what is left
  pub handed : (calls : List Event) (n : ℕ) → (passed_of ended calls).sent n ≡ (passed_of ended calls).taken n ++ left_at ended n
  handed calls n = by (cases_lt n (length rows))
    where
      by : (n < length rows) ⊎ (length rows ≤ n) → (passed_of ended calls).sent n ≡ (passed_of ended calls).taken n ++ left_at ended n
      by (inl lt) =
          let row = there_is rows n lt in
          let kept = kept_at n row.0 row.1 in
          subst (λ (o : Option EndedIs). option_map_or (λ (e : EndedIs). e.producer.entries) o [] ≡ option_map_or (λ (e : EndedIs). e.consumer.entries) o [] ++ option_map_or (λ (e : EndedIs). e.left) o []) (sym kept.there) kept.rest
      by (inr le) =
          subst (λ (o : Option EndedIs). option_map_or (λ (e : EndedIs). e.producer.entries) o [] ≡ option_map_or (λ (e : EndedIs). e.consumer.entries) o [] ++ option_map_or (λ (e : EndedIs). e.left) o []) (sym (none_beyond ended n (omega (arith, le, ended_long)))) refl
