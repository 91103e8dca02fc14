-- The switch in its start state: of what it is made, and that it fits the ends that the rows give
-- it.
use Rattle.std.proofs.Common.{◌≡◌, ◌+◌, ◌*◌, ◌<◌, ◌++◌, ◌⊎◌, inl, inr, ℕ, Some, List, [], ◌∷◌, length, map, slice_get, refl, sym, ap, ap₂, ◌∙◌, subst, arith}
use Rattle.std.proofs.lemmas.List.{length-map}
use Rattle.cargo_core.specs.declared.item.QueueKind.TheVariants as Kind
use Rattle.frame_core.specs.declared.mac.Mac.{Mac}
use Rattle.wire_core.specs.declared.names.QueueId.{QueueId}
use Rattle.wire_core.specs.declared.names.QueueRow.{QueueRow}
use Rattle.wire_core.specs.declared.names.Side.TheVariants.{Forward, Backward}
use Rattle.wire_core.specs.Ends.{Role, Consumer, Producer, waiting_role}
use Rattle.wire_core.specs.Queues.{starts, end_at}
use Rattle.wire_core.specs.Journal.{owner_of}
use Rattle.turn_kit.specs.Table.{Agrees, start_state}
use Rattle.turn_kit.specs.Turns.{Post, IsRound}
use Rattle.turn_kit.specs.Posts.{intake_post, outlet_post}
use Rattle.turn_kit.specs.ManyEnds.{FitsIntakes, FitsOutlets, intake_posts, outlet_posts}
use Rattle.turn_kit.specs.declared.ends.Intake.{Intake}
use Rattle.turn_kit.specs.declared.ends.Outlet.{Outlet}
use Rattle.turn_kit.specs.declared.intakes.Intakes.{Intakes}
use Rattle.turn_kit.specs.declared.outlets.Outlets.{Outlets}
use Rattle.play_core.specs.Sheets.{IsSeat}
use Rattle.play_core.proofs.Lists.{some_is, there_is, there_below, map_get, map_from}
use Rattle.buffer_kit.specs.Virtualising.{new_intake, new_outlet}
use Rattle.buffer_kit.proofs.TwoLists.{get_front}
use Rattle.line_text.proofs.Rows.{length_per_client}
use Rattle.line_text.specs.declared.ports_text.ports.Ports.{Ports}
use Rattle.net_switch.specs.SwitchDesk.Desks.{is_taking, is_returning, is_wanting, is_loaded}
use Rattle.net_switch.specs.declared.switch.NetSwitch.{NetSwitch}
use Rattle.net_switch.specs.declared.switch.PortEnds.{PortEnds}
use Rattle.net_switch.specs.Ends.{come_queues, back_queues, room_queues, copy_queues, switch_posts}
use Rattle.net_switch.specs.Switching.{FitsSwitch, switch_round, queue_of}
use Rattle.net_switch.proofs.Rounds.{needs_long}
use Rattle.small_system.specs.Meanings.{Own}
use Rattle.switched_law.specs.declared.switch_class.member.Member.TheVariants as Members
use Rattle.switched_law.specs.SwitchClass.Queues.{AreQueues}
use Rattle.switched_law.specs.SwitchClass.Members.{Switches, made_of, member_means}
use Rattle.switched_law.specs.SwitchClass.Casting.{CanBeMade, queues_at, switch_made}
use Rattle.switched_law.specs.SwitchClass.Starting.{queue_no, ends_of, AreEnds, IsSwitchOf}
use Rattle.switched_law.specs.SwitchClass.MemberLaws.{own_come, own_back, own_room, own_copy}
use Rattle.switched_law.proofs.SwitchClass.Lanes.{Lane, TxActive, TxFree, RxActive, RxFree, offset, role_at, other, client_owns, switch_owns, roles, same_lane, LaneRow, lane_row, row_lane, value_at, value_is, same_lists, get_split}
use Rattle.switched_law.proofs.SwitchClass.Starts.{takes_start, puts_start, kind_start}

-- the queues of ports, each at one place
ends_there : (macs : List Mac) (ends : List PortEnds) → AreEnds macs (length macs) ends → (k : ℕ) (p : PortEnds) → slice_get ends k ≡ Some p → (mac : Mac) × (slice_get macs k ≡ Some mac) × (p ≡ ends_of k mac)
ends_there macs ends are k p at =
    let n : length ends ≡ length macs = are.many in
    let lt : k < length ends = there_below ends k p at in
    let less : k < length macs = omega (arith, n, lt) in
    let m = there_is macs k less in
    (m.0, m.1, some_is (sym at ∙ are.each k m.0 less m.1))

ends_queues : (macs : List Mac) (ends : List PortEnds) → AreEnds macs (length macs) ends → (f : PortEnds → QueueId) (place : ℕ) → ((k : ℕ) (mac : Mac) → f (ends_of k mac) ≡ queue_no k place) → map f ends ≡ queues_at (length macs) place
ends_queues macs ends are f place is = same_lists (map f ends) (queues_at (length macs) place) (length-map ends f ∙ (are.many ∙ sym (length_per_client (length macs) (λ k. queue_no k place)))) (λ k q at.
    let p = map_from f ends k q at in
    let e = ends_there macs ends are k p.0 p.1 in
    let lt = there_below macs k e.0 e.1 in
    let same : queue_no k place ≡ q = sym (is k e.0) ∙ (ap f (sym e.2) ∙ p.2) in
    value_at (length macs) (λ k. queue_no k place) k lt ∙ ap (λ x. Some x) same)

ends_macs : (macs : List Mac) (ends : List PortEnds) → AreEnds macs (length macs) ends → map (λ (p : PortEnds). p.mac) ends ≡ macs
ends_macs macs ends are = same_lists (map (λ (p : PortEnds). p.mac) ends) macs (length-map ends (λ (p : PortEnds). p.mac) ∙ are.many) (λ k m at.
    let p = map_from (λ (p : PortEnds). p.mac) ends k m at in
    let e = ends_there macs ends are k p.0 p.1 in
    e.1 ∙ ap (λ x. Some x) (ap (λ (p : PortEnds). p.mac) (sym e.2) ∙ p.2))

intake_list : (qs : List QueueId) → map (λ (i : Intake). i.queue) (map new_intake qs) ≡ qs
intake_list [] = refl
intake_list (q ∷ qs) = ap (λ z. q ∷ z) (intake_list qs)

outlet_list : (qs : List QueueId) → map (λ (o : Outlet). o.queue) (map new_outlet qs) ≡ qs
outlet_list [] = refl
outlet_list (q ∷ qs) = ap (λ z. q ∷ z) (outlet_list qs)

-- which post of the switch is at the queue of a port in a lane
abbrev place_in : (ports : ℕ) → Lane → (port : ℕ) → ℕ
place_in ports TxActive port = port
place_in ports TxFree port = ports + port
place_in ports RxFree port = ports + (ports + port)
place_in ports RxActive port = ports + (ports + (ports + port))

pub record SwitchPost (ports place : ℕ) (p : Post) : Type 0 where
  pub lane : Lane
  pub port : ℕ
  pub below : port < ports
  pub place_is : place ≡ place_in ports lane port
  pub queue : p.queue ≡ 4 * port + offset lane
  pub role : waiting_role p.side ≡ other (role_at lane)

module _ (ports : Ports) (can : CanBeMade ports) (v : NetSwitch) (of : IsSwitchOf ports v) where
  abbrev macs : List Mac
  macs = ports.macs

  abbrev n : ℕ
  n = length macs

  come_items : v.ends.come.ends.items ≡ map new_intake (queues_at n 0)
  come_items = of.new.ends.come_is ∙ ap (map new_intake) (ends_queues macs of.ends of.are (λ (p : PortEnds). queue_of p.tx 0) 0 (λ k mac. refl))

  back_items : v.ends.back.ends.items ≡ map new_outlet (queues_at n 1)
  back_items = of.new.ends.back_is ∙ ap (map new_outlet) (ends_queues macs of.ends of.are (λ (p : PortEnds). queue_of p.tx 1) 1 (λ k mac. refl))

  room_items : v.ends.room.ends.items ≡ map new_intake (queues_at n 3)
  room_items = of.new.ends.room_is ∙ ap (map new_intake) (ends_queues macs of.ends of.are (λ (p : PortEnds). queue_of p.rx 1) 3 (λ k mac. refl))

  copy_items : v.ends.copy.ends.items ≡ map new_outlet (queues_at n 2)
  copy_items = of.new.ends.copy_is ∙ ap (map new_outlet) (ends_queues macs of.ends of.are (λ (p : PortEnds). queue_of p.rx 0) 2 (λ k mac. refl))

  come_are : come_queues v.ends ≡ queues_at n 0
  come_are = ap (map (λ (i : Intake). i.queue)) come_items ∙ intake_list (queues_at n 0)

  back_are : back_queues v.ends ≡ queues_at n 1
  back_are = ap (map (λ (o : Outlet). o.queue)) back_items ∙ outlet_list (queues_at n 1)

  room_are : room_queues v.ends ≡ queues_at n 3
  room_are = ap (map (λ (i : Intake). i.queue)) room_items ∙ intake_list (queues_at n 3)

  copy_are : copy_queues v.ends ≡ queues_at n 2
  copy_are = ap (map (λ (o : Outlet). o.queue)) copy_items ∙ outlet_list (queues_at n 2)

  macs_are : v.desk.macs.items ≡ macs
  macs_are = of.new.desk.macs_are ∙ ends_macs macs of.ends of.are

  pub switch_is_made : made_of (Members.Switch v) ≡ switch_made macs
  switch_is_made =
      ap₂ (λ a b. Switches a b (room_queues v.ends) (copy_queues v.ends) v.desk.macs.items) come_are back_are
      ∙ (ap₂ (λ a b. Switches (queues_at n 0) (queues_at n 1) a b v.desk.macs.items) room_are copy_are
      ∙ ap (Switches (queues_at n 0) (queues_at n 1) (queues_at n 3) (queues_at n 2)) macs_are)

  many_at : (place : ℕ) → length (queues_at n place) ≡ n
  many_at place = length_per_client n (λ k. queue_no k place)

  -- an end among those of a sort
  intake_there : (items : List Intake) (place : ℕ) → items ≡ map new_intake (queues_at n place) → (k : ℕ) (i : Intake) → slice_get items k ≡ Some i → (k < n) × (i ≡ new_intake (queue_no k place))
  intake_there items place are k i at =
      let q = map_from new_intake (queues_at n place) k i (subst (λ l. slice_get l k ≡ Some i) are at) in
      let x = value_is n (λ k. queue_no k place) k q.0 q.1 in
      (x.0, sym q.2 ∙ ap new_intake x.1)

  outlet_there : (items : List Outlet) (place : ℕ) → items ≡ map new_outlet (queues_at n place) → (k : ℕ) (i : Outlet) → slice_get items k ≡ Some i → (k < n) × (i ≡ new_outlet (queue_no k place))
  outlet_there items place are k i at =
      let q = map_from new_outlet (queues_at n place) k i (subst (λ l. slice_get l k ≡ Some i) are at) in
      let x = value_is n (λ k. queue_no k place) k q.0 q.1 in
      (x.0, sym q.2 ∙ ap new_outlet x.1)

  intake_at : (items : List Intake) (place : ℕ) → items ≡ map new_intake (queues_at n place) → (k : ℕ) → k < n → slice_get items k ≡ Some (new_intake (queue_no k place))
  intake_at items place are k lt = subst (λ l. slice_get l k ≡ Some (new_intake (queue_no k place))) (sym are) (map_get new_intake (queues_at n place) k (queue_no k place) (value_at n (λ k. queue_no k place) k lt))

  outlet_at : (items : List Outlet) (place : ℕ) → items ≡ map new_outlet (queues_at n place) → (k : ℕ) → k < n → slice_get items k ≡ Some (new_outlet (queue_no k place))
  outlet_at items place are k lt = subst (λ l. slice_get l k ≡ Some (new_outlet (queue_no k place))) (sym are) (map_get new_outlet (queues_at n place) k (queue_no k place) (value_at n (λ k. queue_no k place) k lt))

  come_many : length (intake_posts v.ends.come) ≡ n
  come_many = length-map v.ends.come.ends.items intake_post ∙ (ap (λ l. length l) come_items ∙ (length-map (queues_at n 0) new_intake ∙ many_at 0))

  back_many : length (outlet_posts v.ends.back) ≡ n
  back_many = length-map v.ends.back.ends.items outlet_post ∙ (ap (λ l. length l) back_items ∙ (length-map (queues_at n 1) new_outlet ∙ many_at 1))

  room_many : length (intake_posts v.ends.room) ≡ n
  room_many = length-map v.ends.room.ends.items intake_post ∙ (ap (λ l. length l) room_items ∙ (length-map (queues_at n 3) new_intake ∙ many_at 3))

  -- each post is that of a lane of a port
  in_post : (items : List Intake) (l : Lane) → items ≡ map new_intake (queues_at n (offset l)) → Consumer ≡ other (role_at l) → (place k : ℕ) (p : Post) → slice_get (map intake_post items) k ≡ Some p → place ≡ place_in n l k → SwitchPost n place p
  in_post items l are role place k p at is =
      let i = map_from intake_post items k p at in
      let x = intake_there items (offset l) are k i.0 i.1 in
      let same : p ≡ intake_post (new_intake (queue_no k (offset l))) = sym i.2 ∙ ap intake_post x.1 in
      record { lane = l; port = k; below = x.0; place_is = is; queue = ap (λ (z : Post). z.queue) same; role = ap (λ (z : Post). waiting_role z.side) same ∙ role }

  out_post : (items : List Outlet) (l : Lane) → items ≡ map new_outlet (queues_at n (offset l)) → Producer ≡ other (role_at l) → (place k : ℕ) (p : Post) → slice_get (map outlet_post items) k ≡ Some p → place ≡ place_in n l k → SwitchPost n place p
  out_post items l are role place k p at is =
      let i = map_from outlet_post items k p at in
      let x = outlet_there items (offset l) are k i.0 i.1 in
      let same : p ≡ outlet_post (new_outlet (queue_no k (offset l))) = sym i.2 ∙ ap outlet_post x.1 in
      record { lane = l; port = k; below = x.0; place_is = is; queue = ap (λ (z : Post). z.queue) same; role = ap (λ (z : Post). waiting_role z.side) same ∙ role }

  switch_post : (place : ℕ) (p : Post) → slice_get (switch_posts v.ends) place ≡ Some p → SwitchPost n place p
  switch_post place p at = first (get_split (intake_posts v.ends.come) (outlet_posts v.ends.back ++ (intake_posts v.ends.room ++ outlet_posts v.ends.copy)) place p at)
    where
      fourth : (j k m : ℕ) → place ≡ length (intake_posts v.ends.come) + j → j ≡ length (outlet_posts v.ends.back) + k → (slice_get (intake_posts v.ends.room) k ≡ Some p) ⊎ ((i : ℕ) × (slice_get (outlet_posts v.ends.copy) i ≡ Some p) × (k ≡ length (intake_posts v.ends.room) + i)) → SwitchPost n place p
      fourth j k m e f (inl there) = in_post v.ends.room.ends.items RxFree room_items refl place k p there (let c = come_many in let b = back_many in omega (arith, e, f, c, b))
      fourth j k m e f (inr there) = out_post v.ends.copy.ends.items RxActive copy_items refl place there.0 p there.1 (let c = come_many in let b = back_many in let r = room_many in let g = there.2 in omega (arith, e, f, c, b, r, g))

      second : (j : ℕ) → place ≡ length (intake_posts v.ends.come) + j → (slice_get (outlet_posts v.ends.back) j ≡ Some p) ⊎ ((k : ℕ) × (slice_get (intake_posts v.ends.room ++ outlet_posts v.ends.copy) k ≡ Some p) × (j ≡ length (outlet_posts v.ends.back) + k)) → SwitchPost n place p
      second j e (inl there) = out_post v.ends.back.ends.items TxFree back_items refl place j p there (let c = come_many in omega (arith, e, c))
      second j e (inr there) = fourth j there.0 0 e there.2 (get_split (intake_posts v.ends.room) (outlet_posts v.ends.copy) there.0 p there.1)

      first : (slice_get (intake_posts v.ends.come) place ≡ Some p) ⊎ ((j : ℕ) × (slice_get (outlet_posts v.ends.back ++ (intake_posts v.ends.room ++ outlet_posts v.ends.copy)) j ≡ Some p) × (place ≡ length (intake_posts v.ends.come) + j)) → SwitchPost n place p
      first (inl there) = in_post v.ends.come.ends.items TxActive come_items refl place place p there refl
      first (inr there) = second there.0 there.2 (get_split (outlet_posts v.ends.back) (intake_posts v.ends.room ++ outlet_posts v.ends.copy) there.0 p there.1)

  pub switch_is_round : IsRound (switch_round v)
  switch_is_round = record {
    some =
        let at = get_front (intake_posts v.ends.come) (outlet_posts v.ends.back ++ (intake_posts v.ends.room ++ outlet_posts v.ends.copy)) 0 (intake_post (new_intake (queue_no 0 0))) (map_get intake_post v.ends.come.ends.items 0 (new_intake (queue_no 0 0)) (intake_at v.ends.come.ends.items 0 come_items 0 can.some)) in
        there_below (switch_posts v.ends) 0 _ at;
    needs = needs_long v.ends (is_taking v.desk) (is_returning v.desk) (is_wanting v.desk) (is_loaded v.desk);
    apart = λ k j p q a b e.
        let x = switch_post k p a in
        let y = switch_post j q b in
        let same = same_lane x.port y.port x.lane y.lane (sym x.queue ∙ (e ∙ y.queue)) in
        x.place_is ∙ (ap₂ (λ l m. place_in n l m) same.1 same.0 ∙ sym y.place_is);
  }

  -- its end in a lane of a port
  own_there : (l : Lane) (port : ℕ) → port < n → (r : Role) (m : ℕ) → r ≡ other (role_at l) → m ≡ 4 * port + offset l → Own member_means (Members.Switch v) r m
  own_there TxActive port lt r m role is = own_come v port (new_intake (queue_no port 0)) r m (intake_at v.ends.come.ends.items 0 come_items port lt) role is
  own_there TxFree port lt r m role is = own_back v port (new_outlet (queue_no port 1)) r m (outlet_at v.ends.back.ends.items 1 back_items port lt) role is
  own_there RxActive port lt r m role is = own_copy v port (new_outlet (queue_no port 2)) r m (outlet_at v.ends.copy.ends.items 2 copy_items port lt) role is
  own_there RxFree port lt r m role is = own_room v port (new_intake (queue_no port 3)) r m (intake_at v.ends.room.ends.items 3 room_items port lt) role is

  module _ (rows : List QueueRow) (q : AreQueues n rows) where
    pub switch_given : (r : Role) (m : ℕ) → Own member_means (Members.Switch v) r m → IsSeat rows n (record { queue = m; role = r })
    switch_given r m o =
        let x = switch_post o.place o.post o.there in
        let g = lane_row n rows q x.lane x.port x.below in
        let number : 4 * x.port + offset x.lane ≡ m = sym x.queue ∙ o.queue in
        let role : other (role_at x.lane) ≡ r = sym x.role ∙ o.role in
        subst (λ s. IsSeat rows n (record { queue = m; role = s })) role (subst (λ k. IsSeat rows n (record { queue = k; role = other (role_at x.lane) })) number (g.row, g.at, switch_owns x.lane x.port n g.row g.is))

    pub switch_all : (r : Role) (m : ℕ) → IsSeat rows n (record { queue = m; role = r }) → Own member_means (Members.Switch v) r m
    switch_all r m s = by (row_lane n rows q m s.0 s.1)
      where
        by : LaneRow n m s.0 → Own member_means (Members.Switch v) r m
        by x = have (roles x.in_lane.lane r)
          where
            have : (r ≡ role_at x.in_lane.lane) ⊎ (r ≡ other (role_at x.in_lane.lane)) → Own member_means (Members.Switch v) r m
            have (inr its) = own_there x.in_lane.lane x.in_lane.port x.in_lane.below r m its x.in_lane.is
            have (inl others) =
                let owns : owner_of s.0 (role_at x.in_lane.lane) ≡ x.in_lane.port = client_owns x.in_lane.lane x.in_lane.port n s.0 x.is in
                let no : x.in_lane.port ≡ n = sym owns ∙ (ap (owner_of s.0) (sym others) ∙ s.2) in
                let less = x.in_lane.below in
                absurd (omega (arith, no, less))

    -- its ends are in their start state
    takes : (l : Lane) (xs : Intakes) → xs.ends.items ≡ map new_intake (queues_at n (offset l)) → FitsIntakes (end_at (starts rows)) xs
    takes l xs are = record {
      agrees = λ k i at.
          let x = intake_there xs.ends.items (offset l) are k i at in
          let g = lane_row n rows q l k x.0 in
          subst (λ (z : Intake). Agrees (end_at (starts rows) Consumer z.queue.0) z.state) (sym x.1) (takes_start rows (4 * k + offset l) g.row g.at (start_state Forward) refl);
      apart = λ k j a b at there e.
          let i = map_from (λ (i : Intake). i.queue) xs.ends.items k a at in
          let o = map_from (λ (i : Intake). i.queue) xs.ends.items j b there in
          let x = intake_there xs.ends.items (offset l) are k i.0 i.1 in
          let y = intake_there xs.ends.items (offset l) are j o.0 o.1 in
          let one : a ≡ queue_no k (offset l) = sym i.2 ∙ ap (λ (i : Intake). i.queue) x.1 in
          let two : b ≡ queue_no j (offset l) = sym o.2 ∙ ap (λ (i : Intake). i.queue) y.1 in
          (same_lane k j l l (sym (ap (λ (z : QueueId). z.0) one) ∙ (e ∙ ap (λ (z : QueueId). z.0) two))).0;
    }

    puts : (l : Lane) (xs : Outlets) → xs.ends.items ≡ map new_outlet (queues_at n (offset l)) → FitsOutlets (end_at (starts rows)) xs
    puts l xs are = record {
      agrees = λ k i at.
          let x = outlet_there xs.ends.items (offset l) are k i at in
          let g = lane_row n rows q l k x.0 in
          subst (λ (z : Outlet). Agrees (end_at (starts rows) Producer z.queue.0) z.state) (sym x.1) (puts_start rows (4 * k + offset l) g.row g.at (start_state Backward) refl);
      apart = λ k j a b at there e.
          let i = map_from (λ (i : Outlet). i.queue) xs.ends.items k a at in
          let o = map_from (λ (i : Outlet). i.queue) xs.ends.items j b there in
          let x = outlet_there xs.ends.items (offset l) are k i.0 i.1 in
          let y = outlet_there xs.ends.items (offset l) are j o.0 o.1 in
          let one : a ≡ queue_no k (offset l) = sym i.2 ∙ ap (λ (i : Outlet). i.queue) x.1 in
          let two : b ≡ queue_no j (offset l) = sym o.2 ∙ ap (λ (i : Outlet). i.queue) y.1 in
          (same_lane k j l l (sym (ap (λ (z : QueueId). z.0) one) ∙ (e ∙ ap (λ (z : QueueId). z.0) two))).0;
    }

    -- a queue among those of a sort
    queue_there : (qs : List QueueId) (l : Lane) → qs ≡ queues_at n (offset l) → (k : ℕ) (a : QueueId) → slice_get qs k ≡ Some a → (k < n) × (a ≡ queue_no k (offset l))
    queue_there qs l are k a at = value_is n (λ k. queue_no k (offset l)) k a (subst (λ z. slice_get z k ≡ Some a) are at)

    of_net : (qs : List QueueId) (l : Lane) (r : Role) → qs ≡ queues_at n (offset l) → (k : ℕ) (a : QueueId) → slice_get qs k ≡ Some a → (end_at (starts rows) r a.0).kind ≡ Kind.Net
    of_net qs l r are k a at =
        let x = queue_there qs l are k a at in
        let g = lane_row n rows q l k x.0 in
        subst (λ (z : QueueId). (end_at (starts rows) r z.0).kind ≡ Kind.Net) (sym x.1) (kind_start rows (4 * k + offset l) g.row g.at r g.is.kind)

    share_none : (qs rs : List QueueId) (l m : Lane) → (l ≡ m → ⊥) → qs ≡ queues_at n (offset l) → rs ≡ queues_at n (offset m) → (k j : ℕ) (a b : QueueId) → slice_get qs k ≡ Some a → slice_get rs j ≡ Some b → a.0 ≡ b.0 → ⊥
    share_none qs rs l m differ are also k j a b at there e =
        let x = queue_there qs l are k a at in
        let y = queue_there rs m also j b there in
        differ ((same_lane k j l m (sym (ap (λ (z : QueueId). z.0) x.1) ∙ (e ∙ ap (λ (z : QueueId). z.0) y.1))).1)

    many : (qs : List QueueId) (place : ℕ) → qs ≡ queues_at n place → length qs ≡ n
    many qs place are = ap (λ l. length l) are ∙ many_at place

    pub switch_fits : FitsSwitch (end_at (starts rows)) v
    switch_fits =
        let come_n = many (come_queues v.ends) 0 come_are in
        record {
          ends_fit = record {
            come = takes TxActive v.ends.come come_items;
            back = puts TxFree v.ends.back back_items;
            room = takes RxFree v.ends.room room_items;
            copy = puts RxActive v.ends.copy copy_items;
            come_net = of_net (come_queues v.ends) TxActive Consumer come_are;
            back_net = of_net (back_queues v.ends) TxFree Producer back_are;
            room_net = of_net (room_queues v.ends) RxFree Consumer room_are;
            copy_net = of_net (copy_queues v.ends) RxActive Producer copy_are;
            inputs_apart = share_none (come_queues v.ends) (room_queues v.ends) TxActive RxFree (λ e. cc) come_are room_are;
            outputs_apart = share_none (back_queues v.ends) (copy_queues v.ends) TxFree RxActive (λ e. cc) back_are copy_are;
            back_many = many (back_queues v.ends) 1 back_are ∙ sym come_n;
            room_many = many (room_queues v.ends) 3 room_are ∙ sym come_n;
            copy_many = many (copy_queues v.ends) 2 copy_are ∙ sym come_n;
            some = let s = can.some in omega (arith, come_n, s);
            few = let f = can.few in omega (arith, come_n, f);
          };
          desk = of.stands.fits;
          ports = of.stands.ports;
        }
