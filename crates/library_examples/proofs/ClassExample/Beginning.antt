use Rattle.std.proofs.Common.{◌≡◌, ◌<◌, ℕ, true, Some, None, List, [], ◌∷◌, map, take, slice_get, refl, sym, ap, ◌∙◌, subst, arith, zero, suc}
use Rattle.std.proofs.lemmas.List.Elements.{All-nil, All-cons}
use Rattle.cargo_core.specs.Capacities.{IsCapacity}
use Rattle.cargo_core.specs.declared.item.QueueKind.TheVariants as Kind
use Rattle.wire_core.specs.declared.names.QueueId.{QueueId}
use Rattle.wire_core.specs.declared.names.QueueRow.{QueueRow}
use Rattle.wire_core.specs.declared.names.Side.TheVariants.{Forward, Backward}
use Rattle.wire_core.specs.Ends.{Role, Consumer, Producer, End, waiting_role}
use Rattle.wire_core.specs.Lists.{nothing_passed}
use Rattle.wire_core.specs.Queues.{starts, end_at}
use Rattle.wire_core.specs.Journal.{owner_of}
use Rattle.turn_kit.specs.declared.end_state.EndState.{EndState}
use Rattle.turn_kit.specs.Table.{Agrees, start_state}
use Rattle.turn_kit.specs.Turns.{Post, IsRound}
use Rattle.turn_kit.specs.Posts.{intake_post, outlet_post}
use Rattle.play_core.specs.Sheets.{IsSeat}
use Rattle.play_core.proofs.Lists.{some_is}
use Rattle.class_expect.specs.SerialSwitch.Carried.{byte_cargo}
use Rattle.small_system.specs.Meanings.{Own}
use Rattle.small_system.specs.Standing.{Begins}
use Rattle.library_examples.specs.declared.class_example.source.Source.{Source}
use Rattle.library_examples.specs.declared.class_example.joiner.Joiner.{Joiner}
use Rattle.library_examples.specs.declared.class_example.member.Member.{Member}
use Rattle.library_examples.specs.declared.class_example.member.Member.TheVariants as Members
use Rattle.library_examples.specs.ClassExample.Sources.{IsNewSource}
use Rattle.library_examples.specs.ClassExample.Joiners.{IsNewJoiner, joiner_round}
use Rattle.library_examples.specs.ClassExample.Members.{made_of, member_round, MemberStandsFor, FitsMember, member_means}
use Rattle.library_examples.specs.ClassExample.Pairs.{IsRow, pair_of}

-- Two sources and a joiner in their start state may begin.

-- an end in its start state fits one
fits_start : (e : End) (k : EndState) → (side : EndState) → k ≡ side → e.owned ≡ true → e.waiter ≡ side.waiter → e.ringer ≡ side.ringer → side.look ≡ None → Agrees e k
fits_start e k side is owned waiter ringer look = subst (Agrees e) (sym is) (record { owned = owned; waiter = waiter; ringer = ringer; looked = λ h. let no : None ≡ Some true = sym look ∙ h in cc })

module _ (a b : QueueRow) (s t : Source) (j : Joiner) (one other : List ℕ) (ra : IsRow 0 a) (rb : IsRow 1 b) (ns : IsNewSource (record { 0 = 0 }) one s) (nt : IsNewSource (record { 0 = 1 }) other t) (nj : IsNewJoiner (record { 0 = 0 }) (record { 0 = 1 }) j) where
  abbrev rows : List QueueRow
  rows = a ∷ b ∷ []

  abbrev actors : List Member
  actors = Members.Source s ∷ Members.Source t ∷ Members.Joiner j ∷ []

  at_zero : s.output.queue.0 ≡ 0
  at_zero = ap (λ (q : QueueId). q.0) ns.output

  at_one : t.output.queue.0 ≡ 1
  at_one = ap (λ (q : QueueId). q.0) nt.output

  first_at : j.first.queue.0 ≡ 0
  first_at = ap (λ (q : QueueId). q.0) nj.first_is

  second_at : j.second.queue.0 ≡ 1
  second_at = ap (λ (q : QueueId). q.0) nj.second_is

  two : (row : QueueRow) → row.capacity ≡ 2 → IsCapacity row.capacity
  two row c = subst IsCapacity (sym c) (1, omega arith, refl)

  owners : (n : ℕ) (row : QueueRow) → slice_get rows n ≡ Some row → (r : Role) → owner_of row r < 3
  owners zero row at Consumer = let e : a ≡ row = some_is at in subst (λ (x : QueueRow). x.consumer.0 < 3) e (subst (λ k. k < 3) (sym ra.consumer) (omega arith))
  owners zero row at Producer = let e : a ≡ row = some_is at in subst (λ (x : QueueRow). x.producer.0 < 3) e (subst (λ k. k < 3) (sym ra.producer) (omega arith))
  owners (suc zero) row at Consumer = let e : b ≡ row = some_is at in subst (λ (x : QueueRow). x.consumer.0 < 3) e (subst (λ k. k < 3) (sym rb.consumer) (omega arith))
  owners (suc zero) row at Producer = let e : b ≡ row = some_is at in subst (λ (x : QueueRow). x.producer.0 < 3) e (subst (λ k. k < 3) (sym rb.producer) (omega arith))
  owners (suc (suc n)) row at r = cc

  fits : (k : ℕ) (x : Member) → slice_get actors k ≡ Some x → FitsMember (end_at (starts rows)) x
  fits zero x at = subst (FitsMember (end_at (starts rows))) (some_is at) (record {
    output = subst (λ n. Agrees (end_at (starts rows) Producer n) s.output.state) (sym at_zero) (fits_start _ s.output.state (start_state Backward) ns.state refl refl refl refl);
    says = subst (λ n. (end_at (starts rows) Producer n).kind ≡ Kind.Byte) (sym at_zero) ra.kind;
    next = let z : s.next ≡ 0 = ns.next in omega arith;
  })
  fits (suc zero) x at = subst (FitsMember (end_at (starts rows))) (some_is at) (record {
    output = subst (λ n. Agrees (end_at (starts rows) Producer n) t.output.state) (sym at_one) (fits_start _ t.output.state (start_state Backward) nt.state refl refl refl refl);
    says = subst (λ n. (end_at (starts rows) Producer n).kind ≡ Kind.Byte) (sym at_one) rb.kind;
    next = let z : t.next ≡ 0 = nt.next in omega arith;
  })
  fits (suc (suc zero)) x at = subst (FitsMember (end_at (starts rows))) (some_is at) (record {
    first = subst (λ n. Agrees (end_at (starts rows) Consumer n) j.first.state) (sym first_at) (fits_start _ j.first.state (start_state Forward) nj.first_state refl refl refl refl);
    second = subst (λ n. Agrees (end_at (starts rows) Consumer n) j.second.state) (sym second_at) (fits_start _ j.second.state (start_state Forward) nj.second_state refl refl refl refl);
    apart = λ h. let no : 0 ≡ 1 = sym first_at ∙ (h ∙ second_at) in absurd (omega (arith, no));
  })
  fits (suc (suc (suc k))) x at = cc

  stands : (k : ℕ) (x : Member) → slice_get actors k ≡ Some x → MemberStandsFor x nothing_passed
  stands zero x at = subst (λ y. MemberStandsFor y nothing_passed) (some_is at) (record { sent_is = ap (λ n. map byte_cargo (take n s.script)) (sym ns.next) })
  stands (suc zero) x at = subst (λ y. MemberStandsFor y nothing_passed) (some_is at) (record { sent_is = ap (λ n. map byte_cargo (take n t.script)) (sym nt.next) })
  stands (suc (suc zero)) x at = subst (λ y. MemberStandsFor y nothing_passed) (some_is at) (record { claim_is = nj.claim_is; record_is = nj.recorded; first_alone = λ h. refl; second_alone = λ h. refl })
  stands (suc (suc (suc k))) x at = cc

  rounds : (k : ℕ) (x : Member) → slice_get actors k ≡ Some x → IsRound (member_round x)
  rounds zero x at = subst (λ y. IsRound (member_round y)) (some_is at) (record { some = omega arith; needs = refl; apart = one_post (outlet_post s.output) })
    where
      one_post : (o : Post) (k i : ℕ) (p q : Post) → slice_get (o ∷ []) k ≡ Some p → slice_get (o ∷ []) i ≡ Some q → p.queue ≡ q.queue → k ≡ i
      one_post o zero zero p q h g e = refl
      one_post o zero (suc i) p q h g e = cc
      one_post o (suc k) i p q h g e = cc
  rounds (suc zero) x at = subst (λ y. IsRound (member_round y)) (some_is at) (record { some = omega arith; needs = refl; apart = one_post (outlet_post t.output) })
    where
      one_post : (o : Post) (k i : ℕ) (p q : Post) → slice_get (o ∷ []) k ≡ Some p → slice_get (o ∷ []) i ≡ Some q → p.queue ≡ q.queue → k ≡ i
      one_post o zero zero p q h g e = refl
      one_post o zero (suc i) p q h g e = cc
      one_post o (suc k) i p q h g e = cc
  rounds (suc (suc zero)) x at = subst (λ y. IsRound (member_round y)) (some_is at) (record { some = omega arith; needs = refl; apart = two_posts })
    where
      differ : j.first.queue.0 ≡ j.second.queue.0 → ⊥
      differ h = let no : 0 ≡ 1 = sym first_at ∙ (h ∙ second_at) in absurd (omega (arith, no))

      two_posts : (k i : ℕ) (p q : Post) → slice_get (joiner_round j).posts k ≡ Some p → slice_get (joiner_round j).posts i ≡ Some q → p.queue ≡ q.queue → k ≡ i
      two_posts zero zero p q h g e = refl
      two_posts zero (suc zero) p q h g e = absurd (differ (ap (λ (o : Post). o.queue) (some_is h) ∙ (e ∙ ap (λ (o : Post). o.queue) (sym (some_is g)))))
      two_posts (suc zero) zero p q h g e = absurd (differ (ap (λ (o : Post). o.queue) (some_is g) ∙ (sym e ∙ ap (λ (o : Post). o.queue) (sym (some_is h)))))
      two_posts (suc zero) (suc zero) p q h g e = refl
      two_posts zero (suc (suc i)) p q h g e = cc
      two_posts (suc zero) (suc (suc i)) p q h g e = cc
      two_posts (suc (suc k)) i p q h g e = cc
  rounds (suc (suc (suc k))) x at = cc

  -- the seats of the rows
  abbrev SeatAt : ℕ → Role → ℕ → Type 0
  SeatAt k r n = IsSeat rows k (record { queue = n; role = r })

  seat_first : SeatAt 0 Producer 0
  seat_first = (a, refl, ra.producer)

  seat_second : SeatAt 1 Producer 1
  seat_second = (b, refl, rb.producer)

  seat_hears : SeatAt 2 Consumer 0
  seat_hears = (a, refl, ra.consumer)

  seat_hears_other : SeatAt 2 Consumer 1
  seat_hears_other = (b, refl, rb.consumer)

  -- an end at this post is this one
  seat_of_post : (k : ℕ) (o p : Post) (q : ℕ) (w : Role) → SeatAt k w q → o.queue ≡ q → waiting_role o.side ≡ w → o ≡ p → (r : Role) (n : ℕ) → p.queue ≡ n → waiting_role p.side ≡ r → SeatAt k r n
  seat_of_post k o p q w seat queue side is r n pn pr =
      let same_n : q ≡ n = sym queue ∙ (ap (λ (x : Post). x.queue) is ∙ pn) in
      let same_r : w ≡ r = sym side ∙ (ap (λ (x : Post). waiting_role x.side) is ∙ pr) in
      subst (λ x. SeatAt k x n) same_r (subst (SeatAt k w) same_n seat)

  given_source : (k : ℕ) (x : Source) (q : ℕ) → SeatAt k Producer q → x.output.queue.0 ≡ q → (r : Role) (n i : ℕ) (p : Post) → slice_get (outlet_post x.output ∷ []) i ≡ Some p → p.queue ≡ n → waiting_role p.side ≡ r → SeatAt k r n
  given_source k x q seat is r n zero p at pn pr = seat_of_post k (outlet_post x.output) p q Producer seat is refl (some_is at) r n pn pr
  given_source k x q seat is r n (suc i) p at pn pr = cc

  given_joiner : (r : Role) (n i : ℕ) (p : Post) → slice_get (joiner_round j).posts i ≡ Some p → p.queue ≡ n → waiting_role p.side ≡ r → SeatAt 2 r n
  given_joiner r n zero p at pn pr = seat_of_post 2 (intake_post j.first) p 0 Consumer seat_hears first_at refl (some_is at) r n pn pr
  given_joiner r n (suc zero) p at pn pr = seat_of_post 2 (intake_post j.second) p 1 Consumer seat_hears_other second_at refl (some_is at) r n pn pr
  given_joiner r n (suc (suc i)) p at pn pr = cc

  given : (k : ℕ) (x : Member) → slice_get actors k ≡ Some x → (r : Role) (n : ℕ) → Own member_means x r n → SeatAt k r n
  given zero x at r n o = by (subst (λ y. Own member_means y r n) (sym (some_is at)) o)
    where
      by : Own member_means (Members.Source s) r n → SeatAt 0 r n
      by o = given_source 0 s 0 seat_first at_zero r n o.place o.post o.there o.queue o.role
  given (suc zero) x at r n o = by (subst (λ y. Own member_means y r n) (sym (some_is at)) o)
    where
      by : Own member_means (Members.Source t) r n → SeatAt 1 r n
      by o = given_source 1 t 1 seat_second at_one r n o.place o.post o.there o.queue o.role
  given (suc (suc zero)) x at r n o = by (subst (λ y. Own member_means y r n) (sym (some_is at)) o)
    where
      by : Own member_means (Members.Joiner j) r n → SeatAt 2 r n
      by o = given_joiner r n o.place o.post o.there o.queue o.role
  given (suc (suc (suc k))) x at r n o = cc

  own_source : (x : Source) → Own member_means (Members.Source x) Producer x.output.queue.0
  own_source x = record { place = 0; post = outlet_post x.output; there = refl; queue = refl; role = refl }

  own_zero : Own member_means (Members.Source s) Producer 0
  own_zero = subst (Own member_means (Members.Source s) Producer) at_zero (own_source s)

  own_one : Own member_means (Members.Source t) Producer 1
  own_one = subst (Own member_means (Members.Source t) Producer) at_one (own_source t)

  own_hears : Own member_means (Members.Joiner j) Consumer 0
  own_hears = subst (Own member_means (Members.Joiner j) Consumer) first_at (record { place = 0; post = intake_post j.first; there = refl; queue = refl; role = refl })

  own_hears_other : Own member_means (Members.Joiner j) Consumer 1
  own_hears_other = subst (Own member_means (Members.Joiner j) Consumer) second_at (record { place = 1; post = intake_post j.second; there = refl; queue = refl; role = refl })

  -- whose seat it is
  owner_at : (n k : ℕ) (r : Role) → SeatAt k r n → (row : QueueRow) → slice_get rows n ≡ Some row → owner_of row r ≡ k
  owner_at n k r seat row at = let e : seat.0 ≡ row = some_is (sym seat.1 ∙ at) in subst (λ (x : QueueRow). owner_of x r ≡ k) e seat.2

  there_at : (k m : ℕ) (x y : Member) → slice_get actors k ≡ Some x → m ≡ k → slice_get actors m ≡ Some y → y ≡ x
  there_at k m x y at e is = some_is (sym is ∙ (ap (slice_get actors) e ∙ at))

  all : (k : ℕ) (x : Member) → slice_get actors k ≡ Some x → (r : Role) (n : ℕ) → SeatAt k r n → Own member_means x r n
  all k x at Producer zero seat = let e : 0 ≡ k = sym ra.producer ∙ owner_at 0 k Producer seat a refl in subst (λ y. Own member_means y Producer 0) (there_at k 0 x (Members.Source s) at e refl) own_zero
  all k x at Producer (suc zero) seat = let e : 1 ≡ k = sym rb.producer ∙ owner_at 1 k Producer seat b refl in subst (λ y. Own member_means y Producer 1) (there_at k 1 x (Members.Source t) at e refl) own_one
  all k x at Consumer zero seat = let e : 2 ≡ k = sym ra.consumer ∙ owner_at 0 k Consumer seat a refl in subst (λ y. Own member_means y Consumer 0) (there_at k 2 x (Members.Joiner j) at e refl) own_hears
  all k x at Consumer (suc zero) seat = let e : 2 ≡ k = sym rb.consumer ∙ owner_at 1 k Consumer seat b refl in subst (λ y. Own member_means y Consumer 1) (there_at k 2 x (Members.Joiner j) at e refl) own_hears_other
  all k x at r (suc (suc n)) seat = let no : None ≡ Some seat.0 = seat.1 in cc

  pub pair_begins : Begins member_means rows actors
  pair_begins = record {
    sized = record { few = omega arith; capacities = All-cons (λ (row : QueueRow). IsCapacity row.capacity) a (b ∷ []) (two a ra.capacity) (All-cons (λ (row : QueueRow). IsCapacity row.capacity) b [] (two b rb.capacity) (All-nil (λ (row : QueueRow). IsCapacity row.capacity))) };
    peopled = owners;
    few = omega arith;
    seated = record { given = given; all = all };
    fits = fits;
    rounds = rounds;
    stands = stands;
  }

  -- what they are made of
  pub pair_made : map made_of actors ≡ pair_of one other
  pair_made = rw (at_zero, ns.script_is, at_one, nt.script_is, first_at, second_at) refl
