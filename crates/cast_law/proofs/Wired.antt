-- The actors of a plan are wired: none is of the network, or they are the whole network at its
-- place.
use Rattle.std.proofs.Common.{◌≡◌, ◌⊎◌, ◌+◌, ◌*◌, ◌%◌, ◌==◌, ◌&&◌, ◌<◌, ◌≤◌, ◌++◌, ℕ, zero, suc, Bool, true, false, if◌then◌else◌, Option, Some, None, unwrap_or, inl, inr, List, [], ◌∷◌, length, map, flat_map, slice_get, refl, sym, ap, ap₂, ◌∙◌, subst, arith}
use Rattle.std.specs.List.{All}
use Rattle.std.specs.Option.{option_map, option_map_or}
use Rattle.std.proofs.lemmas.List.{append-nil}
use Rattle.frame_core.specs.declared.mac.Mac.{Mac}
use Rattle.frame_core.specs.Macs.{mac_of, mac_bytes, is_mac_text, byte_at}
use Rattle.wire_core.specs.declared.names.PoolRow.{PoolRow}
use Rattle.play_core.specs.Sheets.{Scene}
use Rattle.play_core.proofs.Lists.{some_is, map_get, map_from, there_is}
use Rattle.sdf_plan.specs.declared.plan.Plan.{Plan}
use Rattle.sdf_plan.specs.declared.plan.Net.{Net}
use Rattle.sdf_plan.specs.declared.plan.NetClient.{NetClient as NetClientKeys}
use Rattle.sdf_plan.specs.declared.plan.Blk.{Blk}
use Rattle.sdf_check.specs.Valid.{Valid}
use Rattle.trace_text.specs.declared.trace.Trace.{Trace}
use Rattle.trace_text.specs.Events.{net_clients}
use Rattle.trace_text.specs.Traces.{IsReadFor}
use Rattle.trace_text.specs.Limits.{frame_most}
use Rattle.trace_text.specs.Shapes.{HasShapes, IsFrame as IsTraceFrame}
use Rattle.trace_text.proofs.Shapes.{shapes-read}
use Rattle.region_layout.specs.Rows.{queues_of, pools_of, actor_named, eth_number, disk_number}
use Rattle.layout_laws.specs.Sound.{IsSoundPool}
use Rattle.layout_laws.proofs.Pools.{pools_sound}
use Rattle.layout_laws.proofs.Rooms.{has_rooms}
use Rattle.class_expect.specs.NetExpect.Expecting.{Program, Source}
use Rattle.client_programs.specs.Net.Programs.{program_with}
use Rattle.client_programs.specs.declared.net.program.NetProgram.{NetProgram}
use Rattle.client_programs.specs.declared.net.program.NetProgram.TheVariants as Programs
use Rattle.net_law.specs.Owners.Names.{ClientPools}
use Rattle.net_law.specs.Parts.Parts.{NetPart}
use Rattle.net_law.specs.Parts.Numbers.{device_at, client_at, client_first}
use Rattle.net_law.proofs.PartsLemmas.Items.{all_at}
use Rattle.net_law.specs.TxParts.Parts.{SendPart}
use Rattle.net_law.specs.TxParts.Numbers.{NetPlace, own_pools}
use Rattle.net_quiet.specs.TxCast.Casting.{AreFrames, IsClientOf}
use Rattle.blk_law.specs.Sheets.Numbers.{disk_at}
use Rattle.actor_set.specs.Parts.{Part, RoguePart, NetworkPart, SendingPart, BlockPart, HostilePart}
use Rattle.actor_set.specs.Actors.{part_of}
use Rattle.actor_set.specs.declared.actor.Actor.{Actor}
use Rattle.actor_set.specs.Laws.Kinds.{frames_of, hostiles, image_of, scene_of}
use Rattle.play_core.specs.Names.{wild_in}
use Rattle.cast_law.specs.Restarting.{disarmed}
use Rattle.cast_law.proofs.Senders.{ends_wild}
use Rattle.cast_law.proofs.Calming.{calm_net, job_view}
use Rattle.wired_law.specs.Wiring.{HasWhole, HasNoNetwork, IsOfNetwork}
use Rattle.layout_laws.specs.Jobs.Jobs.{Job, EthDevice, EthDriver, NetReceiver, NetSender, NetCopier, NetClient, UartDevice, UartDriver, SerialReceiver, SerialSender, SerialClient, DiskDevice, DiskDriver, BlkVirtualiser, BlkClient, HasJob}
use Rattle.layout_laws.proofs.JobsLemmas.Having.{one_actor, same_job, job_below}
use Rattle.layout_laws.specs.Seats.Ends.{HasNet, HasBlk as HasBlkClass, IsOf, net_count}
use Rattle.layout_laws.specs.Seats.Named.{AreNetNamed}
use Rattle.layout_laws.proofs.SeatsLemmas.Having.{job_is_of}
use Rattle.layout_laws.proofs.SeatsLemmas.Carrying.{net_kinds}
use Rattle.layout_laws.proofs.SeatsLemmas.Naming.{net_named, blk_named}
use Rattle.cast_core.specs.Casts.{client_pools, net_place, blk_place, calm_part, job_part, scene_for, AreCast}
use Rattle.cast_core.specs.Sources.{first_blk_pool, pool_at, no_mac, client_mac, client_kind, client_program}
use Rattle.cast_core.proofs.Joining.{frames_few}
use Rattle.cast_core.proofs.Rooms.{net_size}
use Rattle.cast_core.proofs.Listing.{value_count, value_at, value_is}

-- what is made of a list, where at most one element gives anything
none_of : {X Y : Type 0} (f : X → List Y) (xs : List X) → ((j : ℕ) (y : X) → slice_get xs j ≡ Some y → f y ≡ []) → flat_map f xs ≡ []
none_of f [] none = refl
none_of f (x ∷ xs) none = ap (λ l. l ++ flat_map f xs) (none 0 x refl) ∙ none_of f xs (λ j y at. none (suc j) y at)

single : {X Y : Type 0} (f : X → List Y) (xs : List X) (k : ℕ) (x : X) → slice_get xs k ≡ Some x → ((j : ℕ) (y : X) → slice_get xs j ≡ Some y → (j ≡ k → ⊥) → f y ≡ []) → flat_map f xs ≡ f x
single f [] k x at others = absurd cc
single f (y ∷ xs) zero x at others = ap (λ l. f y ++ l) (none_of f xs (λ j z z_at. others (suc j) z z_at (λ e. omega (arith, e)))) ∙ (append-nil (f y) ∙ ap f (some_is at))
single f (y ∷ xs) (suc k) x at others = ap (λ l. l ++ flat_map f xs) (others 0 y refl (λ e. omega (arith, e))) ∙ single f xs k x at (λ j z z_at ne. others (suc j) z z_at (λ e. ne (omega (arith, e))))

-- a client's address has six bytes
six_of : (text : List ℕ) → length (unwrap_or (mac_of text) no_mac).0 ≡ 6
unfolding mac_of mac_bytes
six_of text = by (is_mac_text text && byte_at text 0 % 2 == 0)
  where
    by : (b : Bool) → length (unwrap_or (if b then Some (record { 0 = mac_bytes text }) else None) no_mac).0 ≡ 6
    by true = refl
    by false = refl

client_six : (plan : Plan) (c : ℕ) → length (client_mac plan c).0 ≡ 6
client_six plan c = by (slice_get (net_clients plan) c)
  where
    by : (o : Option NetClientKeys) → length (option_map_or (λ (client : NetClientKeys). unwrap_or (mac_of client.mac) no_mac) o no_mac).0 ≡ 6
    by None = refl
    by (Some client) = six_of client.mac

-- a program that is a source's has the frames that the trace gives
script_is : (kind : NetProgram) (sent script : List (List ℕ)) → Source script ≡ program_with kind sent → script ≡ sent
script_is Programs.Sink sent script e = absurd cc
script_is Programs.Source sent script e = cc
script_is Programs.Echo sent script e = absurd cc

module _ (plan : Plan) (trace : Trace) (actors : List Actor) (valid : Valid plan) (made : AreCast plan trace actors) where
  abbrev cast : List Part
  cast = map part_of actors

  -- the actor of a job has the job's part, and each part is that of a job
  pub part_at : (job : Job) (k : ℕ) → HasJob plan job k → slice_get cast k ≡ job_part plan trace job
  part_at job k has =
      let below = job_below plan valid job k has in
      let many = made.count_is in
      let x = there_is actors k (omega (arith, below, many)) in
      let one = made.each k x.0 x.1 in
      map_get part_of actors k x.0 x.1 ∙ (sym one.part ∙ ap (job_part plan trace) (same_job plan valid one.job job k one.has has))

  job_at : (k : ℕ) (p : Part) → slice_get cast k ≡ Some p → (job : Job) × HasJob plan job k × ((calm_part plan trace job ≡ Some p) ⊎ ((r : RoguePart) × (p ≡ HostilePart r)))
  job_at k p at =
      let x = map_from part_of actors k p at in
      let one = made.each k x.0 x.1 in
      (one.job, one.has, job_view plan trace one.job p (one.part ∙ ap (λ (q : Part). Some q) x.2))

  pub job_of : (k : ℕ) (p : Part) → slice_get cast k ≡ Some p → ((r : RoguePart) → p ≡ HostilePart r → ⊥) → (job : Job) × HasJob plan job k × (calm_part plan trace job ≡ Some p)
  job_of k p at calm =
      let one = job_at k p at in
      elim one.2 [
        | inl is ↦ (one.0, one.1, is)
        | inr rogue ↦ absurd (calm rogue.0 rogue.1)
      ]

  -- the frames of the scene are those of the device
  frames_by : (job : Job) (p : Part) → calm_part plan trace job ≡ Some p → (job ≡ EthDevice → ⊥) → frames_of p ≡ []
  frames_by EthDevice p is not_device = absurd (not_device refl)
  frames_by EthDriver p is not_device = ap frames_of (sym (some_is is))
  frames_by NetReceiver p is not_device = ap frames_of (sym (some_is is))
  frames_by NetSender p is not_device = ap frames_of (sym (some_is is))
  frames_by (NetCopier c) p is not_device = ap frames_of (sym (some_is is))
  frames_by (NetClient c) p is not_device = ap frames_of (sym (some_is is))
  frames_by UartDevice p is not_device = ap frames_of (sym (some_is is))
  frames_by UartDriver p is not_device = ap frames_of (sym (some_is is))
  frames_by SerialReceiver p is not_device = ap frames_of (sym (some_is is))
  frames_by SerialSender p is not_device = ap frames_of (sym (some_is is))
  frames_by (SerialClient c) p is not_device = ap frames_of (sym (some_is is))
  frames_by DiskDevice p is not_device = ap frames_of (sym (some_is is))
  frames_by DiskDriver p is not_device = ap frames_of (sym (some_is is))
  frames_by BlkVirtualiser p is not_device = ap frames_of (sym (some_is is))
  frames_by (BlkClient c) p is not_device = ap frames_of (sym (some_is is))

  -- and the image is that of the disk
  image_by : (job : Job) (p : Part) → calm_part plan trace job ≡ Some p → (job ≡ DiskDevice → ⊥) → image_of p ≡ []
  image_by EthDevice p is not_disk = ap image_of (sym (some_is is))
  image_by EthDriver p is not_disk = ap image_of (sym (some_is is))
  image_by NetReceiver p is not_disk = ap image_of (sym (some_is is))
  image_by NetSender p is not_disk = ap image_of (sym (some_is is))
  image_by (NetCopier c) p is not_disk = ap image_of (sym (some_is is))
  image_by (NetClient c) p is not_disk = ap image_of (sym (some_is is))
  image_by UartDevice p is not_disk = ap image_of (sym (some_is is))
  image_by UartDriver p is not_disk = ap image_of (sym (some_is is))
  image_by SerialReceiver p is not_disk = ap image_of (sym (some_is is))
  image_by SerialSender p is not_disk = ap image_of (sym (some_is is))
  image_by (SerialClient c) p is not_disk = ap image_of (sym (some_is is))
  image_by DiskDevice p is not_disk = absurd (not_disk refl)
  image_by DiskDriver p is not_disk = ap image_of (sym (some_is is))
  image_by BlkVirtualiser p is not_disk = ap image_of (sym (some_is is))
  image_by (BlkClient c) p is not_disk = ap image_of (sym (some_is is))

  pub frames_there : (net : Net) → plan.net ≡ Some net → (scene_of cast).frames ≡ trace.frames
  frames_there net is =
      let device = (net_named plan net is).device in
      let k = (eth_number plan).0 in
      single frames_of cast k (NetworkPart (device_at 0 trace.frames false)) (part_at EthDevice k device)
      (λ j p at ne.
      let one = job_at j p at in
      elim one.2 [
        | inl is ↦ frames_by one.0 p is (λ e. ne (one_actor plan EthDevice j k (subst (λ job. HasJob plan job j) e one.1) device))
        | inr rogue ↦ ap frames_of rogue.1
      ])

  no_frames : plan.net ≡ None → (scene_of cast).frames ≡ []
  no_frames none = none_of frames_of cast (λ j p at.
      let one = job_at j p at in
      elim one.2 [
        | inl is ↦ frames_by one.0 p is (λ e. none_there (job_is_of plan EthDevice j (subst (λ job. HasJob plan job j) e one.1)))
        | inr rogue ↦ ap frames_of rogue.1
      ])
    where
      none_there : HasNet plan → ⊥
      none_there (net, is) = absurd cc

  pub image_there : (blk : Blk) → plan.blk ≡ Some blk → (scene_of cast).image ≡ trace.image
  image_there blk is =
      let disk = (blk_named plan blk is).device in
      let k = (disk_number plan).0 in
      single image_of cast k (BlockPart (disk_at (blk_place plan trace))) (part_at DiskDevice k disk)
      (λ j p at ne.
      let one = job_at j p at in
      elim one.2 [
        | inl is ↦ image_by one.0 p is (λ e. ne (one_actor plan DiskDevice j k (subst (λ job. HasJob plan job j) e one.1) disk))
        | inr rogue ↦ ap image_of rogue.1
      ])

  no_image : plan.blk ≡ None → (scene_of cast).image ≡ []
  no_image none = none_of image_of cast (λ j p at.
      let one = job_at j p at in
      elim one.2 [
        | inl is ↦ image_by one.0 p is (λ e. none_there (job_is_of plan DiskDevice j (subst (λ job. HasJob plan job j) e one.1)))
        | inr rogue ↦ ap image_of rogue.1
      ])
    where
      none_there : HasBlkClass plan → ⊥
      none_there (blk, is) = absurd cc

  pub scene_is : scene_of cast ≡ scene_for plan trace
  scene_is = ap₂ (λ (fs : List (List ℕ)) (bs : List ℕ). let s : Scene = record { frames = fs; image = bs } in s) (by plan.net refl) (with_disk plan.blk refl)
    where
      by : (o : Option Net) → plan.net ≡ o → (scene_of cast).frames ≡ option_map_or (λ (net : Net). trace.frames) plan.net []
      by None is = no_frames is ∙ sym (ap (λ (o : Option Net). option_map_or (λ (net : Net). trace.frames) o []) is)
      by (Some net) is = frames_there net is ∙ sym (ap (λ (o : Option Net). option_map_or (λ (net : Net). trace.frames) o []) is)

      with_disk : (o : Option Blk) → plan.blk ≡ o → (scene_of cast).image ≡ option_map_or (λ (blk : Blk). trace.image) plan.blk []
      with_disk None is = no_image is ∙ sym (ap (λ (o : Option Blk). option_map_or (λ (blk : Blk). trace.image) o []) is)
      with_disk (Some blk) is = image_there blk is ∙ sym (ap (λ (o : Option Blk). option_map_or (λ (blk : Blk). trace.image) o []) is)

  -- a part of the network has a job of the network class
  net_job : (job : Job) (q : NetPart) → calm_part plan trace job ≡ Some (NetworkPart q) → IsOf plan job → HasNet plan
  net_job EthDevice q e of = of
  net_job EthDriver q e of = of
  net_job NetReceiver q e of = of
  net_job NetSender q e of = of
  net_job (NetCopier c) q e of = of.0
  net_job (NetClient c) q e of = of.0
  net_job UartDevice q e of = absurd cc
  net_job UartDriver q e of = absurd cc
  net_job SerialReceiver q e of = absurd cc
  net_job SerialSender q e of = absurd cc
  net_job (SerialClient c) q e of = absurd cc
  net_job DiskDevice q e of = absurd cc
  net_job DiskDriver q e of = absurd cc
  net_job BlkVirtualiser q e of = absurd cc
  net_job (BlkClient c) q e of = absurd cc

  -- and the sending virtualiser's part is that of its job
  send_job : (job : Job) (q : SendPart) → calm_part plan trace job ≡ Some (SendingPart q) → job ≡ NetSender
  send_job EthDevice q e = absurd cc
  send_job EthDriver q e = absurd cc
  send_job NetReceiver q e = absurd cc
  send_job NetSender q e = refl
  send_job (NetCopier c) q e = absurd cc
  send_job (NetClient c) q e = absurd cc
  send_job UartDevice q e = absurd cc
  send_job UartDriver q e = absurd cc
  send_job SerialReceiver q e = absurd cc
  send_job SerialSender q e = absurd cc
  send_job (SerialClient c) q e = absurd cc
  send_job DiskDevice q e = absurd cc
  send_job DiskDriver q e = absurd cc
  send_job BlkVirtualiser q e = absurd cc
  send_job (BlkClient c) q e = absurd cc

  pub no_network : plan.net ≡ None → HasNoNetwork cast
  no_network none = record {
    none = λ k p at.
        let one = job_of k (NetworkPart p) at (λ r e. cc) in
        none_there (net_job one.0 p one.2 (job_is_of plan one.0 k one.1));
    no_sender = λ k p at.
        let one = job_of k (SendingPart p) at (λ r e. cc) in
        none_there (job_is_of plan NetSender k (subst (λ job. HasJob plan job k) (send_job one.0 p one.2) one.1));
  }
    where
      none_there : HasNet plan → ⊥
      none_there (net, is) = absurd cc

  module _ (net : Net) (is : plan.net ≡ Some net) (read : IsReadFor plan trace) where
    abbrev place : NetPlace
    place = net_place plan trace

    abbrev count : ℕ
    count = length (net_clients plan)

    counted : count ≡ length net.client
    counted = ap (λ (o : Option Net). length (option_map_or (λ (n : Net). n.client) o [])) is

    class_count : net_count plan ≡ length net.client
    class_count = ap (λ (o : Option Net). option_map_or (λ (n : Net). length n.client) o 0) is

    macs_many : length place.macs ≡ length net.client
    macs_many = value_count count (client_mac plan) ∙ counted

    frames_here : (scene_of cast).frames ≡ trace.frames
    frames_here = frames_there net is

    named : AreNetNamed plan net
    named = net_named plan net is

    shapes : HasShapes plan trace
    shapes = shapes-read plan trace read

    client_below : (c : ℕ) → c < net_count plan → c < count
    client_below c lt = let a = class_count in let b = counted in omega (arith, lt, a, b)

    net_is : (job : Job) (q : NetPart) → calm_part plan trace job ≡ Some (NetworkPart q) → IsOf plan job → IsOfNetwork place (scene_of cast).frames (NetworkPart q)
    net_is EthDevice q e of = inl (sym (some_is e) ∙ ap (λ fs. NetworkPart (device_at 0 fs false)) (sym frames_here))
    net_is EthDriver q e of = inr (inl (sym (some_is e)))
    net_is NetReceiver q e of = inr (inr (inl (sym (some_is e))))
    net_is NetSender q e of = absurd cc
    net_is (NetCopier c) q e of = inr (inr (inr (inr (inl (c, (let lt = of.1 in let a = class_count in let b = macs_many in omega (arith, lt, a, b)), sym (some_is e))))))
    net_is (NetClient c) q e of =
        let lt = client_below c of.1 in
        let who : IsClientOf place c (client_program plan trace c) (client_mac plan c) (client_pools plan c) = record {
          address = value_at count (client_mac plan) c lt;
          pools = value_at count (client_pools plan) c lt;
          plays = value_at count (client_program plan trace) c lt;
        } in
        inr (inr (inr (inr (inr (c, client_program plan trace c, client_mac plan c, client_pools plan c, who, sym (some_is e))))))
    net_is UartDevice q e of = absurd cc
    net_is UartDriver q e of = absurd cc
    net_is SerialReceiver q e of = absurd cc
    net_is SerialSender q e of = absurd cc
    net_is (SerialClient c) q e of = absurd cc
    net_is DiskDevice q e of = absurd cc
    net_is DiskDriver q e of = absurd cc
    net_is BlkVirtualiser q e of = absurd cc
    net_is (BlkClient c) q e of = absurd cc

    -- the client of a number is there
    client_of : (k : ℕ) → k < count → (c : NetClientKeys) × (slice_get net.client k ≡ Some c)
    client_of k lt = there_is net.client k (let a = counted in omega (arith, lt, a))

    client_part_is : (k : ℕ) (program : Program) (mac : Mac) (q : ClientPools) → program ≡ client_program plan trace k → mac ≡ client_mac plan k → q ≡ client_pools plan k → calm_part plan trace (NetClient k) ≡ Some (NetworkPart (client_at 0 k program mac (own_pools q)))
    client_part_is k program mac q a b c =
        ap (λ p. Some (NetworkPart (client_at 0 k p (client_mac plan k) (own_pools (client_pools plan k))))) (sym a)
        ∙ (ap (λ m. Some (NetworkPart (client_at 0 k program m (own_pools (client_pools plan k))))) (sym b)
        ∙ ap (λ r. Some (NetworkPart (client_at 0 k program mac (own_pools r)))) (sym c))

    sent_frames : (k : ℕ) → AreFrames (frame_most plan) (unwrap_or (slice_get trace.sends k) [])
    sent_frames k = by (slice_get trace.sends k) refl
      where
        by : (o : Option (List (List ℕ))) → slice_get trace.sends k ≡ o → AreFrames (frame_most plan) (unwrap_or o [])
        by None at = λ j frame j_at. cc
        by (Some sent) at = λ j frame j_at. all_at (IsTraceFrame (frame_most plan)) sent (all_at (All (IsTraceFrame (frame_most plan))) trace.sends shapes.sends k sent at) j frame j_at

    -- the queues on which a client sends are wild where its actor is hostile
    pub send_wild : (k : ℕ) (c : NetClientKeys) → slice_get net.client k ≡ Some c
        → (wild_in (hostiles cast) (queues_of plan) (client_first place.first k + 4) ≡ hostiles cast (actor_named plan c.pd).0) × (wild_in (hostiles cast) (queues_of plan) (client_first place.first k + 5) ≡ hostiles cast (actor_named plan c.pd).0)
    send_wild = ends_wild plan trace cast (λ job k has. ap (option_map disarmed) (part_at job k has)) net is

    pub whole_is : HasWhole (queues_of plan) place cast
    whole_is = record {
      pools_many = value_count count (client_pools plan) ∙ sym (value_count count (client_mac plan));
      programs_many = value_count count (client_program plan trace) ∙ sym (value_count count (client_mac plan));
      device = ((eth_number plan).0, part_at EthDevice (eth_number plan).0 named.device ∙ ap (λ fs. Some (NetworkPart (device_at 0 fs false))) (sym frames_here));
      waits = refl;
      driver = ((actor_named plan net.driver).0, part_at EthDriver (actor_named plan net.driver).0 named.driver);
      receiver = ((actor_named plan net.rx_virt).0, part_at NetReceiver (actor_named plan net.rx_virt).0 named.receiver);
      sender = ((actor_named plan net.tx_virt).0, part_at NetSender (actor_named plan net.tx_virt).0 named.sender);
      copier = λ k lt.
          let c = there_is net.client k (let a = macs_many in omega (arith, lt, a)) in
          ((actor_named plan c.0.copier).0, part_at (NetCopier k) (actor_named plan c.0.copier).0 (named.copier k c.0 c.1));
      client = λ k program mac q of calm.
          let a = value_is count (client_program plan trace) k program of.plays in
          let b = value_is count (client_mac plan) k mac of.address in
          let d = value_is count (client_pools plan) k q of.pools in
          let c = client_of k b.0 in
          let who = (actor_named plan c.0.pd).0 in
          let here = part_at (NetClient k) who (named.client k c.0 c.1) in
          (who, calm_net plan trace cast k who here (sym (send_wild k c.0 c.1).0 ∙ calm) ∙ client_part_is k program mac q a.1 b.1 d.1);
      both = λ k below.
          let c = there_is net.client k (let a = macs_many in omega (arith, below, a)) in
          let wild = send_wild k c.0 c.1 in
          wild.0 ∙ sym wild.1;
      only = λ k p at. let one = job_of k (NetworkPart p) at (λ r e. cc) in net_is one.0 p one.2 (job_is_of plan one.0 k one.1);
      only_sender = λ k p at.
          let one = job_of k (SendingPart p) at (λ r e. cc) in
          let same : calm_part plan trace NetSender ≡ Some (SendingPart p) = ap (calm_part plan trace) (sym (send_job one.0 p one.2)) ∙ one.2 in
          inr (inr (inr (inl (sym (some_is same)))));
      kinds = λ i lt.
          let row = net_kinds plan net is i (let a = macs_many in omega (arith, lt, a)) in
          let plus : i ≡ 0 + i = omega arith in
          (row.0, subst (λ n. slice_get (queues_of plan) n ≡ Some row.0) plus row.1, row.2);
      some = λ k q at.
          let v = value_is count (client_pools plan) k q at in
          let room = (has_rooms plan valid net is).rx_free k (let lt = v.0 in let a = counted in omega (arith, lt, a)) in
          let some : 1 ≤ room.1.buffers = (all_at (IsSoundPool plan) (pools_of plan) (pools_sound plan valid) (1 + 2 * k) room.1 room.3).buffers.0 in
          let many : q.rx.buffers ≡ room.1.buffers = ap (λ (r : ClientPools). r.rx.buffers) v.1 ∙ ap (λ (o : Option PoolRow). option_map_or (λ (r : PoolRow). r.buffers) o 0) room.3 in
          omega (arith, many, some);
      addresses = λ k mac at. ap (λ (m : Mac). length m.0) (value_is count (client_mac plan) k mac at).1 ∙ client_six plan k;
      frames = λ k frame at. all_at (IsTraceFrame (frame_most plan)) trace.frames shapes.frames k frame (ap (λ fs. slice_get fs k) (sym frames_here) ∙ at);
      scripts = λ k script at.
          let v = value_is count (client_program plan trace) k (Source script) at in
          let same : script ≡ unwrap_or (slice_get trace.sends k) [] = script_is (client_kind plan k) (unwrap_or (slice_get trace.sends k) []) script v.1 in
          subst (AreFrames (frame_most plan)) (sym same) (sent_frames k);
      told = let most = frames_few plan valid in omega (arith, most);
      fits = sized 0 (let long = front_long in omega (arith, long)) ((has_rooms plan valid net is).free.1) ((has_rooms plan valid net is).free.3);
      fits_client = λ k q at.
          let v = value_is count (client_pools plan) k q at in
          let below : k < length net.client = (let lt = v.0 in let a = counted in omega (arith, lt, a)) in
          let rx = (has_rooms plan valid net is).rx_free k below in
          let tx = (has_rooms plan valid net is).tx_free k below in
          let long = front_long in
          (subst (λ (r : ClientPools). frame_most plan ≤ r.rx.size) (sym v.1) (sized (1 + 2 * k) (omega (arith, below, long)) rx.1 rx.3), subst (λ (r : ClientPools). frame_most plan ≤ r.tx.size) (sym v.1) (sized (2 + 2 * k) (omega (arith, below, long)) tx.1 tx.3));
    }
      where
        -- the network's pools stand first
        front_long : first_blk_pool plan ≡ 1 + 2 * length net.client
        front_long = ap (λ (o : Option Net). option_map_or (λ (x : Net). 1 + 2 * length x.client) o 0) is

        -- the longest frame fits a buffer of each
        sized : (n : ℕ) → n < first_blk_pool plan → (row : PoolRow) → slice_get (pools_of plan) n ≡ Some row → frame_most plan ≤ (pool_at (pools_of plan) n).size
        sized n below row at =
            let size = (net_size plan n row valid below at).fits in
            let told : (pool_at (pools_of plan) n).size ≡ row.size = ap (λ (o : Option PoolRow). option_map_or (λ (r : PoolRow). r.size) o 0) at in
            omega (arith, size, told)

  pub network_is : IsReadFor plan trace → HasNoNetwork cast ⊎ ((net : NetPlace) × HasWhole (queues_of plan) net cast)
  network_is read = by plan.net refl
    where
      by : (o : Option Net) → plan.net ≡ o → HasNoNetwork cast ⊎ ((net : NetPlace) × HasWhole (queues_of plan) net cast)
      by None none = inl (no_network none)
      by (Some net) is = inr (net_place plan trace, whole_is net is read)
