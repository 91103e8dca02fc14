use Rattle.std.proofs.Common.{◌≡◌, ◌+◌, ◌<◌, ◌≤◌, ℕ, Bool, true, false, Some, List, [], length, map, slice_get, refl, sym, ap, ◌∙◌, subst, arith}
use Rattle.std.proofs.lemmas.List.{length-map}
use Rattle.std.specs.Option.{option_map_or}
use Rattle.cargo_core.specs.Lists.{IsPrefix, PrefixMerge}
use Rattle.frame_core.specs.declared.mac.Mac.{Mac}
use Rattle.sdf_plan.specs.declared.plan.Plan.{Plan}
use Rattle.sdf_plan.specs.declared.plan.Net.{Net}
use Rattle.sdf_plan.specs.declared.plan.NetClient.{NetClient as Client}
use Rattle.trace_text.specs.declared.trace.Trace.{Trace}
use Rattle.trace_text.specs.Events.{net_clients, is_net_rogue}
use Rattle.region_layout.specs.Rows.{eth_number}
use Rattle.class_expect.specs.NetExpect.Expecting.{frames_for}
use Rattle.net_law.specs.Dropped.{Marks, left_for}
use Rattle.net_law.specs.Owners.Names.{ClientPools}
use Rattle.net_law.specs.Parts.Numbers.{client_first, device_at}
use Rattle.net_law.proofs.WireLemmas.Telling.{told_long}
use Rattle.net_law.specs.TxParts.Numbers.{NetPlace, own_pools}
use Rattle.net_quiet.specs.TxCast.Casting.{NoneHostile, net_marks, sends_at, sends_beside, wire_beside}
use Rattle.layout_laws.specs.Jobs.Jobs as jobs
use Rattle.layout_laws.specs.Jobs.Jobs.{HasJob}
use Rattle.cast_law.proofs.Restarted.{plays_calm, plays_rogue}
use Rattle.wire_core.specs.declared.names.Event.{Event}
use Rattle.wire_core.specs.Fates.{marked}
use Rattle.wire_core.specs.Queues.{items_of}
use Rattle.wire_core.proofs.Fating.{without_length}
use Rattle.play_core.specs.Moved.{Moved}
use Rattle.play_core.specs.Sheets.{Scene}
use Rattle.play_core.specs.Totals.{total}
use Rattle.play_core.specs.Names.{wild_in}
use Rattle.play_core.proofs.Lists.{map_get, there_below, there_is}
use Rattle.cast_law.proofs.Senders.{client_wild}
use Rattle.play_core.proofs.Merges.{prefix_merge_whole}
use Rattle.play_core.proofs.OneQueue.{whole_prefix}
use Rattle.net_quiet.specs.Still.{ArrivesAll, SendsAll, lens_from}
use Rattle.net_quiet.proofs.Leases.{leases_all}
use Rattle.actor_set.specs.Parts.{NetworkPart, HostilePart}
use Rattle.wired_law.specs.Wiring.{HasWholeIn}
use Rattle.cast_core.specs.Casts.{calm_part, job_part, net_place, client_pools}
use Rattle.cast_core.specs.Hostile.{acts_at, net_rogue_at}
use Rattle.cast_core.specs.Sources.{client_mac, client_program}
use Rattle.cast_core.proofs.Listing.{value_count, value_at, value_is}
use Rattle.layout_laws.specs.Seats.Named.{AreNetNamed}
use Rattle.layout_laws.proofs.SeatsLemmas.Naming.{net_named}
use Rattle.system_core.specs.Shows.{Crew, Shown, hostile_in, moved_in, wild_by}
use Rattle.system_core.specs.States.{crew_of, nobody}
use Rattle.system_core.specs.Lawful.{IsTold, TellsFrames}
use Rattle.system_core.specs.Crews.{number_named}
use Rattle.system_core.specs.Builds.{IsCastOf}
use Rattle.system_core.specs.Dropped.{NetDropsAsMany}
use Rattle.system_core.specs.GivesBack.{NetGivesBack}
use Rattle.system_core.specs.PlanPlays.{ShowsFrames, ShowsAllFrames}
use Rattle.system_core.proofs.Sending.{total_upon}
use Rattle.system_core.proofs.Scripts.{nets}

-- what is seen of the network class is what its frames bring, by all calls
module _ (plan : Plan) (net : Net) (trace : Trace) (s : Shown) (cast : IsCastOf plan trace s.setting) (has : plan.net ≡ Some net) (told : IsTold s) (calls : List Event) (calls_are : told.passed.calls ≡ calls) where
  abbrev place : NetPlace
  place = net_place plan trace

  -- which frames were dropped, as the calls tell
  abbrev marks : Marks
  marks = net_marks place calls

  whole : HasWholeIn s.setting.scene s.setting.rows place s.setting.cast
  whole = cast.whole net has

  tells : TellsFrames s told.passed place
  tells = told.frames place whole

  -- the scene has the frames that the trace gives its device
  frames : s.setting.scene.frames ≡ trace.frames
  frames = ap (λ (x : Scene). x.frames) cast.scene ∙ ap (λ o. option_map_or (λ (n : Net). trace.frames) o []) has

  who : s.setting.net ≡ crew_of (Some (eth_number plan).0) (map (λ (c : Client). number_named plan c.pd) net.client)
  who = cast.net ∙ ap (λ o. option_map_or (λ (n : Net). crew_of (Some (eth_number plan).0) (map (λ (c : Client). number_named plan c.pd) n.client)) o nobody) has

  named : AreNetNamed plan net
  named = net_named plan net has

  many : length (net_clients plan) ≡ length net.client
  many = ap length (nets plan net has)

  count_is : length s.state.net ≡ length place.macs
  count_is = told.net ∙ (ap (λ (c : Crew). length c.clients) who ∙ (length-map net.client (λ (k : Client). number_named plan k.pd) ∙ (sym many ∙ sym (value_count (length (net_clients plan)) (client_mac plan)))))

  -- the queue for sending of a client has a hostile end where the client is hostile
  pub wild_is : (c : ℕ) → c < length net.client → wild_by s.setting (client_first 0 c + 4) ≡ is_net_rogue plan c
  wild_is c below =
      let client = there_is net.client c below in
      subst (λ rs. wild_in (hostile_in s.setting) rs (client_first 0 c + 4) ≡ is_net_rogue plan c) (sym cast.rows) (client_wild plan trace s.setting.cast cast.parts net has c client.0 client.1)

  -- the client of a number, and its actor
  client_is : (c : ℕ) → c < length (net_clients plan) → (k : ℕ) × (slice_get s.setting.net.clients c ≡ Some k) × HasJob plan (jobs.NetClient c) k
  client_is c below =
      let client = there_is net.client c (omega (arith, below, many)) in (
        number_named plan client.0.pd,
        ap (λ (k : Crew). slice_get k.clients c) who ∙ map_get (λ (k : Client). number_named plan k.pd) net.client c client.0 client.1,
        named.client c client.0 client.1,
      )

  -- one that isn't hostile recorded a beginning of the frames for its address that weren't dropped
  calm_record : (c : ℕ) (mac : Mac) (got : List (List ℕ)) → is_net_rogue plan c ≡ false → slice_get place.macs c ≡ Some mac → slice_get s.state.net c ≡ Some got → IsPrefix got (left_for (marks c) mac trace.frames) × (length got ≡ length ((moved_in s.setting s.journal).taken (client_first 0 c + 2)))
  calm_record c mac got calm address at =
      let a = value_is (length (net_clients plan)) (client_mac plan) c mac address in
      let below : c < length (net_clients plan) = a.0 in
      let client = client_is c below in
      let part : slice_get s.setting.cast client.0 ≡ calm_part plan trace (jobs.NetClient c) = plays_calm plan trace s.setting.cast cast.parts (jobs.NetClient c) client.0 client.2 _ (calm_client c calm) refl in
      let some = whole.some c (client_pools plan c) (value_at (length (net_clients plan)) (client_pools plan) c below) in
      let is = tells.records c client.0 c (client_program plan trace c) (client_mac plan c) (own_pools (client_pools plan c)) got client.1 part some (value_at (length (net_clients plan)) (client_mac plan) c below) at in
      let by_calls : IsPrefix got (left_for (marks c) (client_mac plan c) s.setting.scene.frames) = subst (λ es. IsPrefix got (left_for (net_marks place es c) (client_mac plan c) s.setting.scene.frames)) calls_are is.0 in
      (subst (λ m. IsPrefix got (left_for (marks c) m trace.frames)) (sym a.1) (subst (λ fs. IsPrefix got (left_for (marks c) (client_mac plan c) fs)) frames by_calls), is.1)
    where
      calm_client : (c : ℕ) → is_net_rogue plan c ≡ false → job_part plan trace (jobs.NetClient c) ≡ calm_part plan trace (jobs.NetClient c)
      calm_client c calm = rw calm refl

  -- and a hostile one nothing
  silent : (c : ℕ) (got : List (List ℕ)) → is_net_rogue plan c ≡ true → slice_get s.state.net c ≡ Some got → got ≡ []
  silent c got hostile at =
      let lt = there_below s.state.net c got at in
      let client = client_is c (omega (arith, lt, count_is, value_count (length (net_clients plan)) (client_mac plan))) in
      let rogue = plays_rogue plan trace s.setting.cast cast.parts (jobs.NetClient c) client.0 client.2 _ (hostile_client c hostile) in
      told.net_silent c client.0 rogue.0 got client.1 rogue.1 at
    where
      hostile_client : (c : ℕ) → is_net_rogue plan c ≡ true → job_part plan trace (jobs.NetClient c) ≡ Some (HostilePart (net_rogue_at 0 c (client_pools plan c) (acts_at trace.net_acts c)))
      hostile_client c hostile = rw hostile refl

  record_begins : (c : ℕ) (mac : Mac) (got : List (List ℕ)) → slice_get place.macs c ≡ Some mac → slice_get s.state.net c ≡ Some got → IsPrefix got (left_for (marks c) mac trace.frames)
  record_begins c mac got address at = by (is_net_rogue plan c) refl
    where
      by : (b : Bool) → is_net_rogue plan c ≡ b → IsPrefix got (left_for (marks c) mac trace.frames)
      by true hostile = subst (λ xs. IsPrefix xs (left_for (marks c) mac trace.frames)) (sym (silent c got hostile at)) (left_for (marks c) mac trace.frames, refl)
      by false calm = (calm_record c mac got calm address at).0

  -- the frames that the entries tell of the wire
  abbrev sent : List (List ℕ)
  sent = wire_beside (wild_by s.setting) place trace.frames told.passed

  abbrev sends : List (List ℕ) → List (List (List ℕ))
  sends fs = sends_beside (wild_by s.setting) place fs told.passed

  wire_is : (s.state.wire ≡ Some sent) × PrefixMerge (sends trace.frames) sent
  wire_is =
      let part = plays_calm plan trace s.setting.cast cast.parts jobs.EthDevice (eth_number plan).0 named.device _ refl refl in
      let w = tells.wire (eth_number plan).0 (ap (λ (c : Crew). c.device) who) (part ∙ ap (λ fs. Some (NetworkPart (device_at 0 fs place.device_drops))) (sym frames)) in
      subst (λ fs. (s.state.wire ≡ Some (wire_beside (wild_by s.setting) place fs told.passed)) × PrefixMerge (sends fs) (wire_beside (wild_by s.setting) place fs told.passed)) frames w

  -- where none of them is hostile, all clients send by their programs
  pub sends_are : NoneHostile (wild_by s.setting) place → sends trace.frames ≡ sends_at marks 0 place.programs place.macs trace.frames
  sends_are none = subst (λ fs. sends fs ≡ sends_at marks 0 place.programs place.macs fs) frames (subst (λ es. sends s.setting.scene.frames ≡ sends_at (net_marks place es) 0 place.programs place.macs s.setting.scene.frames) calls_are (tells.plain none))

  pub shows_frames : ShowsFrames (is_net_rogue plan) (wild_by s.setting) place trace.frames marks told.passed s.state
  shows_frames = record {
    count_is = count_is;
    records = record_begins;
    hostile = silent;
    wire = wire_is.0;
    merges = wire_is.1;
  }

  -- where no client of the network is hostile and all frames went through that weren't dropped, all
  -- of these are seen
  module _ (none : NoneHostile (wild_by s.setting) place) (gives : NetGivesBack plan) (arrives : ArrivesAll s.setting.scene s.setting.scene.frames place (moved_in s.setting s.journal)) (sends_all : SendsAll place (moved_in s.setting s.journal)) (as_many : NetDropsAsMany place marks (moved_in s.setting s.journal))
      (few : (c : ℕ) (mac : Mac) → slice_get place.macs c ≡ Some mac → length (marks c) ≤ length ((moved_in s.setting s.journal).taken (client_first 0 c))) where
    abbrev went : Moved
    went = moved_in s.setting s.journal

    due_same : (mac : Mac) → length (frames_for mac s.setting.scene.frames) ≡ length (frames_for mac trace.frames)
    due_same mac = ap (λ fs. length (frames_for mac fs)) frames

    -- no more frames are marked than are for it
    marks_few : (c : ℕ) (mac : Mac) → slice_get place.macs c ≡ Some mac → length (marks c) ≤ length (frames_for mac trace.frames)
    marks_few c mac address =
        let settled = few c mac address in
        let leased = ap length (arrives.leased c mac address) in
        let long = leases_all s.setting.scene.frames place.pool.base mac (went.taken 4) arrives.received in
        let same = due_same mac in
        omega (arith, settled, leased, long, same)

    -- so what is left of these is as long as what came to it
    left_long : (c : ℕ) (mac : Mac) → slice_get place.macs c ≡ Some mac → length (left_for (marks c) mac trace.frames) ≡ length (went.taken (client_first 0 c + 2))
    left_long c mac address =
        let left = without_length (marks c) (frames_for mac trace.frames) (marks_few c mac address) in
        let all = arrives.got c mac address in
        let many = as_many c mac address in
        let same = due_same mac in
        omega (arith, left, all, many, same)

    record_whole : (c : ℕ) (mac : Mac) (got : List (List ℕ)) → slice_get place.macs c ≡ Some mac → slice_get s.state.net c ≡ Some got → got ≡ left_for (marks c) mac trace.frames
    record_whole c mac got address at =
        let is = calm_record c mac got (gives c) address at in
        let long = is.1 in
        let left = left_long c mac address in
        whole_prefix got (left_for (marks c) mac trace.frames) is.0 (omega (arith, long, left))

    record_lacks : (c : ℕ) (mac : Mac) (got : List (List ℕ)) → slice_get place.macs c ≡ Some mac → slice_get s.state.net c ≡ Some got → length got + marked (marks c) ≡ length (frames_for mac trace.frames)
    record_lacks c mac got address at =
        let is = ap length (record_whole c mac got address at) in
        let left = without_length (marks c) (frames_for mac trace.frames) (marks_few c mac address) in
        omega (arith, is, left)

    -- they send as many frames as the device took
    sent_long : total (sends_at marks 0 place.programs place.macs trace.frames) ≡ total (lens_from 0 went 0 place.programs place.macs)
    sent_long = total_upon marks trace.frames 0 went 0 place.programs place.macs (λ c mac address.
        let plus : c ≡ 0 + c = omega arith in
        subst (λ n. length (left_for (marks n) mac trace.frames) ≡ length (went.taken (client_first 0 n + 2))) plus (left_long c mac address))

    pub shows_all_frames : ShowsAllFrames place trace.frames marks s.state
    shows_all_frames = record {
      records = record_whole;
      lacks = record_lacks;
      wire = (
        sent,
        wire_is.0,
        (let all = sends_all.wire in
            let long : length sent ≡ length (items_of (told.passed.taken 2)) = told_long (map (λ (q : ClientPools). q.tx) place.pools) (sends trace.frames) [] (items_of (told.passed.taken 2)) in
            let took : length (items_of (told.passed.taken 2)) ≡ length (went.taken 2) = ap length (told.items.taken 2) in
            prefix_merge_whole (sends_at marks 0 place.programs place.macs trace.frames) sent (subst (λ l. PrefixMerge l sent) (sends_are none) wire_is.1) (omega (arith, long, took, all, sent_long))),
      );
    }
