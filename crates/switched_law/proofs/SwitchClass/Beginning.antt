-- A play may begin with the actors of a switch's system.
use Rattle.std.proofs.Common.{◌≡◌, ◌+◌, ◌*◌, ◌<◌, ◌≤◌, ◌++◌, ◌⊎◌, inl, inr, ℕ, Some, List, [], ◌∷◌, All, length, length-append, slice_get, get_or, refl, sym, ap, ◌∙◌, subst, arith}
use Rattle.std.proofs.lemmas.Bool.{cases_lt}
use Rattle.std.proofs.lemmas.Option.{slice_get-get_or}
use Rattle.cargo_core.specs.Capacities.{IsCapacity}
use Rattle.wire_core.specs.declared.names.QueueRow.{QueueRow}
use Rattle.wire_core.specs.Ends.{Role}
use Rattle.wire_core.specs.Lists.{nothing_passed}
use Rattle.wire_core.specs.Queues.{starts, end_at}
use Rattle.wire_core.specs.Journal.{owner_of}
use Rattle.turn_kit.specs.Turns.{IsRound}
use Rattle.play_core.specs.Sheets.{IsSeat}
use Rattle.play_core.proofs.Lists.{some_is, there_below}
use Rattle.buffer_kit.proofs.TwoLists.{get_front, get_behind}
use Rattle.client_programs.specs.declared.net.NetClient.{NetClient}
use Rattle.net_switch.specs.declared.switch.NetSwitch.{NetSwitch}
use Rattle.line_text.specs.declared.ports_text.ports.Ports.{Ports}
use Rattle.small_system.specs.Meanings.{Own}
use Rattle.small_system.specs.Standing.{Begins}
use Rattle.switched_law.specs.declared.switch_class.member.Member.{Member}
use Rattle.switched_law.specs.declared.switch_class.member.Member.TheVariants as Members
use Rattle.switched_law.specs.SwitchClass.Queues.{AreQueues}
use Rattle.switched_law.specs.SwitchClass.Members.{member_round, MemberStandsFor, FitsMember, member_means}
use Rattle.switched_law.specs.SwitchClass.Casting.{CanBeMade, AreMade, client_made, switch_made}
use Rattle.switched_law.specs.SwitchClass.Starting.{IsClientOf, IsSwitchOf, AreClients}
use Rattle.switched_law.proofs.SwitchClass.Lanes.{role_at, other, client_owns, switch_owns, roles, LaneRow, row_lane}
use Rattle.switched_law.proofs.SwitchClass.Starts.{client_queues, client_is_made, client_fits, client_is_round, client_given, client_all}
use Rattle.switched_law.proofs.SwitchClass.SwitchStarts.{switch_is_made, switch_fits, switch_is_round, switch_given, switch_all}

pub none_yet : (ports : Ports) → AreClients ports 0 []
none_yet ports = record { many = refl; each = λ k lt. absurd (omega (arith, lt)) }

pub one_more : (ports : Ports) (count : ℕ) (old new : List Member) (c : NetClient) → AreClients ports count old → IsClientOf ports count c → new ≡ old ++ Members.Client c ∷ [] → AreClients ports (count + 1) new
one_more ports count old new c are of is = record {
  many = let n : length old ≡ count = are.many in let m : length new ≡ length old + 1 = ap (λ l. length l) is ∙ length-append old (Members.Client c ∷ []) in omega (arith, n, m);
  each = λ port lt. by port lt (cases_lt port count);
}
  where
    by : (port : ℕ) → port < count + 1 → (port < count) ⊎ (count ≤ port) → (x : NetClient) × (slice_get new port ≡ Some (Members.Client x)) × IsClientOf ports port x
    by port lt (inl less) =
        let x = are.each port less in
        (x.0, subst (λ l. slice_get l port ≡ Some (Members.Client x.0)) (sym is) (get_front old (Members.Client c ∷ []) port (Members.Client x.0) x.1), x.2)
    by port lt (inr past) =
        let n : length old ≡ count = are.many in
        let same : count ≡ port = omega (arith, lt, past) in
        let here : length old + 0 ≡ port = omega (arith, lt, past, n) in
        (c, subst (λ l. slice_get l port ≡ Some (Members.Client c)) (sym is) (subst (λ k. slice_get (old ++ Members.Client c ∷ []) k ≡ Some (Members.Client c)) here (get_behind old (Members.Client c ∷ []) 0)), subst (λ k. IsClientOf ports k c) same of)

module _ (ports : Ports) (can : CanBeMade ports) (clients : List Member) (are : AreClients ports (length ports.macs) clients) (v : NetSwitch) (of : IsSwitchOf ports v) (actors : List Member) (is : actors ≡ clients ++ Members.Switch v ∷ []) where
  abbrev n : ℕ
  n = length ports.macs

  many : length actors ≡ n + 1
  many = let k : length clients ≡ n = are.many in let m : length actors ≡ length clients + 1 = ap (λ l. length l) is ∙ length-append clients (Members.Switch v ∷ []) in omega (arith, k, m)

  last : slice_get actors n ≡ Some (Members.Switch v)
  last =
      let here : length clients + 0 ≡ n = let k : length clients ≡ n = are.many in omega (arith, k) in
      subst (λ l. slice_get l n ≡ Some (Members.Switch v)) (sym is) (subst (λ k. slice_get (clients ++ Members.Switch v ∷ []) k ≡ Some (Members.Switch v)) here (get_behind clients (Members.Switch v ∷ []) 0))

  at_port : (k : ℕ) → k < n → (c : NetClient) × (slice_get actors k ≡ Some (Members.Client c)) × IsClientOf ports k c
  at_port k lt = let c = are.each k lt in (c.0, subst (λ l. slice_get l k ≡ Some (Members.Client c.0)) (sym is) (get_front clients (Members.Switch v ∷ []) k (Members.Client c.0) c.1), c.2)

  -- what holds of each client and of the switch holds of each actor
  all_actors : (P : ℕ → Member → Type 0) → ((k : ℕ) → k < n → (c : NetClient) → IsClientOf ports k c → P k (Members.Client c)) → P n (Members.Switch v) → (k : ℕ) (x : Member) → slice_get actors k ≡ Some x → P k x
  all_actors P clients_do switch_does k x at = by (cases_lt k n)
    where
      by : (k < n) ⊎ (n ≤ k) → P k x
      by (inl less) = let c = at_port k less in subst (P k) (some_is (sym c.1 ∙ at)) (clients_do k less c.0 c.2)
      by (inr past) =
          let lt : k < length actors = there_below actors k x at in
          let m = many in
          let same : n ≡ k = omega (arith, lt, m, past) in
          subst (λ j. P j x) same (subst (P n) (some_is (sym last ∙ subst (λ j. slice_get actors j ≡ Some x) (sym same) at)) switch_does)

  pub are_made : AreMade ports actors
  are_made = record {
    many = many;
    clients = λ port mac frames x address sends at.
        let c = at_port port (there_below ports.macs port mac address) in
        let m : c.2.mac ≡ mac = some_is (sym c.2.address ∙ address) in
        let f : c.2.frames ≡ frames = some_is (sym c.2.sends ∙ sends) in
        let made = client_is_made ports can port c.0 c.2 in
        subst (λ y. member_means.part y ≡ client_made port mac frames) (some_is (sym c.1 ∙ at)) (made ∙ (ap (λ a. client_made port a c.2.frames) m ∙ ap (client_made port mac) f));
    switch = λ x at. subst (λ y. member_means.part y ≡ switch_made ports.macs) (some_is (sym last ∙ at)) (switch_is_made ports can v of);
  }

  module _ (rows : List QueueRow) (q : AreQueues n rows) where
    capacities : All (λ (row : QueueRow). IsCapacity row.capacity) rows
    capacities k d lt =
        let x = row_lane n rows q k (get_or rows k d) (slice_get-get_or rows k d lt) in
        (2, omega arith, x.is.capacity_is)

    owners : (m : ℕ) (row : QueueRow) → slice_get rows m ≡ Some row → (r : Role) → owner_of row r < length actors
    owners m row at r = by (row_lane n rows q m row at)
      where
        by : LaneRow n m row → owner_of row r < length actors
        by x = have (roles x.in_lane.lane r)
          where
            have : (r ≡ role_at x.in_lane.lane) ⊎ (r ≡ other (role_at x.in_lane.lane)) → owner_of row r < length actors
            have (inl its) =
                let owns : owner_of row r ≡ x.in_lane.port = ap (owner_of row) its ∙ client_owns x.in_lane.lane x.in_lane.port n row x.is in
                let less = x.in_lane.below in let m = many in omega (arith, owns, less, m)
            have (inr others) =
                let owns : owner_of row r ≡ n = ap (owner_of row) others ∙ switch_owns x.in_lane.lane x.in_lane.port n row x.is in
                let m = many in omega (arith, owns, m)

    pub begins : Begins member_means rows actors
    begins = record {
      sized = record { few = let m : length rows ≡ 4 * n = q.many in let f = can.few in omega (arith, m, f); capacities = capacities };
      peopled = owners;
      few = let m = many in let f = can.few in omega (arith, m, f);
      seated = record {
        given = all_actors (λ k x. (r : Role) (m : ℕ) → Own member_means x r m → IsSeat rows k (record { queue = m; role = r })) (λ k lt c of_c. client_given c k (client_queues ports can k c of_c) n rows q lt) (switch_given ports can v of rows q);
        all = all_actors (λ k x. (r : Role) (m : ℕ) → IsSeat rows k (record { queue = m; role = r }) → Own member_means x r m) (λ k lt c of_c. client_all c k (client_queues ports can k c of_c) n rows q lt) (switch_all ports can v of rows q);
      };
      fits = all_actors (λ k x. FitsMember (end_at (starts rows)) x) (λ k lt c of_c. client_fits ports can k c of_c n rows q lt) (switch_fits ports can v of rows q);
      rounds = all_actors (λ k x. IsRound (member_round x)) (λ k lt c of_c. client_is_round c k (client_queues ports can k c of_c)) (switch_is_round ports can v of);
      stands = all_actors (λ k x. MemberStandsFor x nothing_passed) (λ k lt c of_c. of_c.stands) of.stands;
    }
