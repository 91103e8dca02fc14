-- The ends of the actors are those that the rows give them, each once.
use Rattle.std.proofs.Common.{◌≡◌, ◌+◌, ◌*◌, ◌<◌, ◌⊎◌, inl, inr, ℕ, zero, suc, Some, List, length, slice_get, refl, sym, ap, ◌∙◌, subst, arith}
use Rattle.wire_core.specs.declared.names.QueueRow.{QueueRow}
use Rattle.wire_core.specs.Ends.{Role, Consumer, Producer}
use Rattle.wire_core.specs.Journal.{owner_of}
use Rattle.play_core.specs.Moved.{Seat}
use Rattle.play_core.specs.Sheets.{AreApart}
use Rattle.play_core.proofs.Lists.{some_is, there_below}
use Rattle.small_system.specs.Meanings.{Own}
use Rattle.small_system.specs.Standing.{Begins}
use Rattle.switched_law.specs.declared.switch_class.member.Member.{Member}
use Rattle.switched_law.specs.SwitchClass.Queues.{AreQueues}
use Rattle.switched_law.specs.SwitchClass.Members.{member_means}
use Rattle.switched_law.proofs.SwitchClass.Lanes.{Lane, TxActive, TxFree, RxActive, RxFree, offset, role_at, other, client_owns, switch_owns, roles, same_lane, InLane, in_lane, LaneRow, lane_row, row_lane}
use Rattle.switched_law.specs.SwitchOwners.Owning.{client_keeper, ends_from}

-- the client's end in a lane, and the switch's
abbrev pub client_seat : ℕ → Lane → Seat
client_seat port l = record { queue = 4 * port + offset l; role = role_at l }

abbrev pub switch_seat : ℕ → Lane → Seat
switch_seat port l = record { queue = 4 * port + offset l; role = other (role_at l) }

ends_at : (ports first port : ℕ) (l : Lane) → port < ports → slice_get (ends_from first ports) (4 * port + offset l) ≡ Some (switch_seat (first + port) l)
ends_at zero first port l lt = absurd (omega (arith, lt))
ends_at (suc ports) first zero l lt = by l
  where
    seat : Role → ℕ → Seat
    seat r n = record { queue = n; role = r }

    by : (l_ : Lane) → slice_get (ends_from first (suc ports)) (4 * 0 + offset l_) ≡ Some (switch_seat (first + 0) l_)
    by TxActive = let e : 4 * first ≡ 4 * (first + 0) + 0 = omega arith in ap (λ n. Some (seat Consumer n)) e
    by TxFree = let e : 4 * first + 1 ≡ 4 * (first + 0) + 1 = omega arith in ap (λ n. Some (seat Producer n)) e
    by RxActive = let e : 4 * first + 2 ≡ 4 * (first + 0) + 2 = omega arith in ap (λ n. Some (seat Producer n)) e
    by RxFree = let e : 4 * first + 3 ≡ 4 * (first + 0) + 3 = omega arith in ap (λ n. Some (seat Consumer n)) e
ends_at (suc ports) first (suc port) l lt =
    let four : 4 * suc port + offset l ≡ suc (suc (suc (suc (4 * port + offset l)))) = omega arith in
    let next : first + 1 + port ≡ first + suc port = omega arith in
    ap (slice_get (ends_from first (suc ports))) four ∙ (ends_at ports (first + 1) port l (omega (arith, lt)) ∙ ap (λ k. Some (switch_seat k l)) next)

pub ends_there : (ports port : ℕ) (l : Lane) → port < ports → slice_get (ends_from 0 ports) (4 * port + offset l) ≡ Some (switch_seat port l)
ends_there ports port l lt = let z : 0 + port ≡ port = omega arith in ends_at ports 0 port l lt ∙ ap (λ k. Some (switch_seat k l)) z

ends_long : (ports first : ℕ) → length (ends_from first ports) ≡ 4 * ports
ends_long zero first = refl
ends_long (suc ports) first = let r = ends_long ports (first + 1) in omega (arith, r)

-- each end of the switch is that of a lane, at the place of its queue
pub record SwitchEnd (ports i : ℕ) (s : Seat) : Type 0 where
  pub in_lane : InLane ports i
  pub seat : s ≡ switch_seat in_lane.port in_lane.lane

switch_end : (ports i : ℕ) (s : Seat) → slice_get (ends_from 0 ports) i ≡ Some s → SwitchEnd ports i s
switch_end ports i s at =
    let lt : i < length (ends_from 0 ports) = there_below (ends_from 0 ports) i s at in
    let long = ends_long ports 0 in
    let x = in_lane ports i (omega (arith, lt, long)) in
    record { in_lane = x; seat = some_is (sym at ∙ (ap (slice_get (ends_from 0 ports)) x.is ∙ ends_there ports x.port x.lane x.below)) }

-- the place of a client's end
abbrev place_in : Lane → ℕ
place_in RxActive = 0
place_in RxFree = 1
place_in TxFree = 2
place_in TxActive = 3

pub record ClientEnd (port i : ℕ) (s : Seat) : Type 0 where
  pub lane : Lane
  pub place : i ≡ place_in lane
  pub seat : s ≡ client_seat port lane

client_end : (port i : ℕ) (s : Seat) → slice_get (client_keeper port).ends i ≡ Some s → ClientEnd port i s
client_end port zero s at = record { lane = RxActive; place = refl; seat = sym (some_is at) }
client_end port (suc zero) s at = record { lane = RxFree; place = refl; seat = sym (some_is at) }
client_end port (suc (suc zero)) s at = record { lane = TxFree; place = refl; seat = sym (some_is at) }
client_end port (suc (suc (suc zero))) s at = record { lane = TxActive; place = refl; seat = sym (some_is at) ∙ zero_more }
  where
    zero_more : record { queue = 4 * port; role = Producer } ≡ client_seat port TxActive
    zero_more = let e : 4 * port ≡ 4 * port + 0 = omega arith in ap (λ n. let x : Seat = record { queue = n; role = Producer } in x) e
client_end port (suc (suc (suc (suc i)))) s at = cc

client_there : (port : ℕ) (l : Lane) → slice_get (client_keeper port).ends (place_in l) ≡ Some (client_seat port l)
client_there port RxActive = refl
client_there port RxFree = refl
client_there port TxFree = refl
client_there port TxActive = let e : 4 * port ≡ 4 * port + 0 = omega arith in ap (λ n. let x : Seat = record { queue = n; role = Producer } in Some x) e

pub switch_apart : (ports : ℕ) → AreApart (ends_from 0 ports)
switch_apart ports i j s a b =
    let x = switch_end ports i s a in
    let y = switch_end ports j s b in
    x.in_lane.is ∙ (ap (λ (z : Seat). z.queue) (sym x.seat ∙ y.seat) ∙ sym y.in_lane.is)

pub client_apart : (port : ℕ) → AreApart (client_keeper port).ends
client_apart port i j s a b =
    let x = client_end port i s a in
    let y = client_end port j s b in
    let same = same_lane port port x.lane y.lane (ap (λ (z : Seat). z.queue) (sym x.seat ∙ y.seat)) in
    x.place ∙ (ap place_in same.1 ∙ sym y.place)

module _ (ports : ℕ) (rows : List QueueRow) (q : AreQueues ports rows) (start : List Member) (begins : Begins member_means rows start) where
  pub switch_given : (x : Member) → slice_get start ports ≡ Some x → (i : ℕ) (s : Seat) → slice_get (ends_from 0 ports) i ≡ Some s → Own member_means x s.role s.queue
  switch_given x here i s at =
      let e = switch_end ports i s at in
      let l = e.in_lane.lane in
      let g = lane_row ports rows q l e.in_lane.port e.in_lane.below in
      subst (λ (z : Seat). Own member_means x z.role z.queue) (sym e.seat) (begins.seated.all ports x here (other (role_at l)) (4 * e.in_lane.port + offset l) (g.row, g.at, switch_owns l e.in_lane.port ports g.row g.is))

  pub switch_all : (x : Member) → slice_get start ports ≡ Some x → (s : Seat) → Own member_means x s.role s.queue → (i : ℕ) × (slice_get (ends_from 0 ports) i ≡ Some s)
  switch_all x here s o = by (begins.seated.given ports x here s.role s.queue o)
    where
      by : (row : QueueRow) × (slice_get rows s.queue ≡ Some row) × (owner_of row s.role ≡ ports) → (i : ℕ) × (slice_get (ends_from 0 ports) i ≡ Some s)
      by seat = of_lane (row_lane ports rows q s.queue seat.0 seat.1)
        where
          of_lane : LaneRow ports s.queue seat.0 → (i : ℕ) × (slice_get (ends_from 0 ports) i ≡ Some s)
          of_lane x_ = have (roles x_.in_lane.lane s.role)
            where
              have : (s.role ≡ role_at x_.in_lane.lane) ⊎ (s.role ≡ other (role_at x_.in_lane.lane)) → (i : ℕ) × (slice_get (ends_from 0 ports) i ≡ Some s)
              have (inl its) =
                  let owns : owner_of seat.0 (role_at x_.in_lane.lane) ≡ x_.in_lane.port = client_owns x_.in_lane.lane x_.in_lane.port ports seat.0 x_.is in
                  let no : x_.in_lane.port ≡ ports = sym owns ∙ (ap (owner_of seat.0) (sym its) ∙ seat.2) in
                  let less = x_.in_lane.below in
                  absurd (omega (arith, no, less))
              have (inr others) =
                  let same : switch_seat x_.in_lane.port x_.in_lane.lane ≡ s = ap (λ n. let y : Seat = record { queue = n; role = other (role_at x_.in_lane.lane) } in y) (sym x_.in_lane.is) ∙ ap (λ (r : Role). let y : Seat = record { queue = s.queue; role = r } in y) (sym others) in
                  (4 * x_.in_lane.port + offset x_.in_lane.lane, ends_there ports x_.in_lane.port x_.in_lane.lane x_.in_lane.below ∙ ap (λ (z : Seat). Some z) same)

  pub client_given : (port : ℕ) → port < ports → (x : Member) → slice_get start port ≡ Some x → (i : ℕ) (s : Seat) → slice_get (client_keeper port).ends i ≡ Some s → Own member_means x s.role s.queue
  client_given port lt x here i s at =
      let e = client_end port i s at in
      let g = lane_row ports rows q e.lane port lt in
      subst (λ (z : Seat). Own member_means x z.role z.queue) (sym e.seat) (begins.seated.all port x here (role_at e.lane) (4 * port + offset e.lane) (g.row, g.at, client_owns e.lane port ports g.row g.is))

  pub client_all : (port : ℕ) → port < ports → (x : Member) → slice_get start port ≡ Some x → (s : Seat) → Own member_means x s.role s.queue → (i : ℕ) × (slice_get (client_keeper port).ends i ≡ Some s)
  client_all port lt x here s o = by (begins.seated.given port x here s.role s.queue o)
    where
      by : (row : QueueRow) × (slice_get rows s.queue ≡ Some row) × (owner_of row s.role ≡ port) → (i : ℕ) × (slice_get (client_keeper port).ends i ≡ Some s)
      by seat = of_lane (row_lane ports rows q s.queue seat.0 seat.1)
        where
          of_lane : LaneRow ports s.queue seat.0 → (i : ℕ) × (slice_get (client_keeper port).ends i ≡ Some s)
          of_lane x_ = have (roles x_.in_lane.lane s.role)
            where
              have : (s.role ≡ role_at x_.in_lane.lane) ⊎ (s.role ≡ other (role_at x_.in_lane.lane)) → (i : ℕ) × (slice_get (client_keeper port).ends i ≡ Some s)
              have (inl its) =
                  let owns : owner_of seat.0 (role_at x_.in_lane.lane) ≡ x_.in_lane.port = client_owns x_.in_lane.lane x_.in_lane.port ports seat.0 x_.is in
                  let port_is : x_.in_lane.port ≡ port = sym owns ∙ (ap (owner_of seat.0) (sym its) ∙ seat.2) in
                  let number : 4 * port + offset x_.in_lane.lane ≡ s.queue = ap (λ k. 4 * k + offset x_.in_lane.lane) (sym port_is) ∙ sym x_.in_lane.is in
                  let same : client_seat port x_.in_lane.lane ≡ s = ap (λ n. let y : Seat = record { queue = n; role = role_at x_.in_lane.lane } in y) number ∙ ap (λ (r : Role). let y : Seat = record { queue = s.queue; role = r } in y) (sym its) in
                  (place_in x_.in_lane.lane, client_there port x_.in_lane.lane ∙ ap (λ (z : Seat). Some z) same)
              have (inr others) =
                  let owns : owner_of seat.0 (other (role_at x_.in_lane.lane)) ≡ ports = switch_owns x_.in_lane.lane x_.in_lane.port ports seat.0 x_.is in
                  let no : ports ≡ port = sym owns ∙ (ap (owner_of seat.0) (sym others) ∙ seat.2) in
                  absurd (omega (arith, no, lt))
