-- A cast whose hostile clients have something else to do stands where it stood.
use Rattle.std.proofs.Common.{◌≡◌, ◌⊎◌, ◌∙◌, ◌++◌, ◌+◌, ◌*◌, ℕ, zero, suc, Bool, true, false, Some, None, Option, List, [], ◌∷◌, inl, inr, ⊎_elim, flat_map, length, map, slice_get, refl, sym, ap, subst}
use Rattle.std.proofs.lemmas.List.{length-map}
use Rattle.wire_core.specs.declared.names.PoolRow.{PoolRow}
use Rattle.wire_core.specs.declared.names.QueueRow.{QueueRow}
use Rattle.wire_core.specs.Journal.{Hostiles}
use Rattle.play_core.specs.Manners.{Manner, Calm, Hostile, is_hostile}
use Rattle.play_core.specs.Names.{wild_in}
use Rattle.play_core.specs.Sheets.{AreFilled, AreSeated, Scene, Sheet, IsSeat}
use Rattle.play_core.specs.Moved.{Seat}
use Rattle.play_core.specs.Still.{IsPeopled}
use Rattle.play_core.proofs.Lists.{map_get, map_from}
use Rattle.net_law.specs.TxParts.Numbers.{NetPlace}
use Rattle.blk_law.specs.Sheets.Numbers.{BlkPlace}
use Rattle.actor_set.specs.Parts.{Part, UartPart, DriverPart, RxPart, TxPart, ClientPart, NetworkPart, SendingPart, BlockPart, HostilePart, RoguePart}
use Rattle.actor_set.specs.Laws.Kinds.{frames_of, hostiles, image_of, manner_of, manners, scene_of, sheet}
use Rattle.wired_law.specs.Wiring.{HasPart, HasWholeIn, HasNoNetwork, HasBlkIn, HasNoBlock, IsWiredIn}
use Rattle.cast_law.specs.Pools.Places.{PoolPlace, HasNetAt, HasBlkAt, IsPlaced, ArePooled, IsInPlace}
use Rattle.cast_law.specs.Pools.Rogues.{IsNetRogue, IsBlkRogue, IsBareRogue, IsRogueOf, HasRogues}
use Rattle.std.specs.Option.{option_map, option_map_or}
use Rattle.play_core.proofs.Lists.{some_is}
use Rattle.sdf_plan.specs.declared.plan.Plan.{Plan}
use Rattle.trace_text.specs.declared.trace.Trace.{Trace}
use Rattle.layout_laws.specs.Jobs.Jobs.{Job, HasJob}
use Rattle.cast_core.specs.Casts.{job_part}
use Rattle.cast_law.specs.Jobs.{PlayJobs}
use Rattle.cast_law.specs.Restarting.{AreAlike, disarmed}

-- one part
hostile_same : (p : Part) → is_hostile (manner_of (disarmed p)) ≡ is_hostile (manner_of p)
hostile_same (UartPart rx tx input) = refl
hostile_same (DriverPart device_rx device_tx rx tx) = refl
hostile_same (RxPart rx clients drops) = refl
hostile_same (TxPart tx clients) = refl
hostile_same (ClientPart rx tx script) = refl
hostile_same (NetworkPart p) = refl
hostile_same (SendingPart p) = refl
hostile_same (BlockPart p) = refl
hostile_same (HostilePart p) = refl

frames_same : (p : Part) → frames_of (disarmed p) ≡ frames_of p
frames_same (UartPart rx tx input) = refl
frames_same (DriverPart device_rx device_tx rx tx) = refl
frames_same (RxPart rx clients drops) = refl
frames_same (TxPart tx clients) = refl
frames_same (ClientPart rx tx script) = refl
frames_same (NetworkPart p) = refl
frames_same (SendingPart p) = refl
frames_same (BlockPart p) = refl
frames_same (HostilePart p) = refl

image_same : (p : Part) → image_of (disarmed p) ≡ image_of p
image_same (UartPart rx tx input) = refl
image_same (DriverPart device_rx device_tx rx tx) = refl
image_same (RxPart rx clients drops) = refl
image_same (TxPart tx clients) = refl
image_same (ClientPart rx tx script) = refl
image_same (NetworkPart p) = refl
image_same (SendingPart p) = refl
image_same (BlockPart p) = refl
image_same (HostilePart p) = refl

sheet_same : (scene : Scene) (p : Part) → sheet scene (disarmed p) ≡ sheet scene p
sheet_same scene (UartPart rx tx input) = refl
sheet_same scene (DriverPart device_rx device_tx rx tx) = refl
sheet_same scene (RxPart rx clients drops) = refl
sheet_same scene (TxPart tx clients) = refl
sheet_same scene (ClientPart rx tx script) = refl
sheet_same scene (NetworkPart p) = refl
sheet_same scene (SendingPart p) = refl
sheet_same scene (BlockPart p) = refl
sheet_same scene (HostilePart p) = refl

calm_stays : (p : Part) → is_hostile (manner_of p) ≡ false → disarmed p ≡ p
calm_stays (UartPart rx tx input) calm = refl
calm_stays (DriverPart device_rx device_tx rx tx) calm = refl
calm_stays (RxPart rx clients drops) calm = refl
calm_stays (TxPart tx clients) calm = refl
calm_stays (ClientPart rx tx script) calm = refl
calm_stays (NetworkPart p) calm = refl
calm_stays (SendingPart p) calm = refl
calm_stays (BlockPart p) calm = refl
calm_stays (HostilePart p) calm = cc

-- a part that isn't hostile is the same
pub calm_same : (p q : Part) → is_hostile (manner_of p) ≡ false → disarmed q ≡ disarmed p → q ≡ p
calm_same p q calm same =
    let no : is_hostile (manner_of q) ≡ false = sym (hostile_same q) ∙ (ap (λ (z : Part). is_hostile (manner_of z)) same ∙ (hostile_same p ∙ calm)) in
    sym (calm_stays q no) ∙ (same ∙ calm_stays p calm)

-- a hostile one has the same queues and pages
pub record IsRogueAlike (p q : RoguePart) : Type 0 where
  pub inputs : q.inputs ≡ p.inputs
  pub outputs : q.outputs ≡ p.outputs
  pub pages : q.pages ≡ p.pages

rogue_or : RoguePart → Part → RoguePart
rogue_or r (HostilePart p) = p
rogue_or r (UartPart rx tx input) = r
rogue_or r (DriverPart device_rx device_tx rx tx) = r
rogue_or r (RxPart rx clients drops) = r
rogue_or r (TxPart tx clients) = r
rogue_or r (ClientPart rx tx script) = r
rogue_or r (NetworkPart p) = r
rogue_or r (SendingPart p) = r
rogue_or r (BlockPart p) = r

rogue_same : (p : RoguePart) (q : Part) → disarmed q ≡ disarmed (HostilePart p) → (r : RoguePart) × (q ≡ HostilePart r) × IsRogueAlike p r
unfolding rogue_or
rogue_same p (HostilePart q) same = (
  q,
  refl,
  record {
    inputs = ap (λ (z : Part). (rogue_or p z).inputs) same;
    outputs = ap (λ (z : Part). (rogue_or p z).outputs) same;
    pages = ap (λ (z : Part). (rogue_or p z).pages) same;
  },
)
rogue_same p (UartPart rx tx input) same = cc
rogue_same p (DriverPart device_rx device_tx rx tx) same = cc
rogue_same p (RxPart rx clients drops) same = cc
rogue_same p (TxPart tx clients) same = cc
rogue_same p (ClientPart rx tx script) same = cc
rogue_same p (NetworkPart q) same = cc
rogue_same p (SendingPart q) same = cc
rogue_same p (BlockPart q) same = cc

-- whether one is hostile that is there, or isn't
pub sort_same : (o : Option Part) → is_hostile (option_map_or manner_of (option_map disarmed o) Calm) ≡ is_hostile (option_map_or manner_of o Calm)
sort_same None = refl
sort_same (Some p) = hostile_same p

slice_disarmed : (cast : List Part) (k : ℕ) → slice_get (map disarmed cast) k ≡ option_map disarmed (slice_get cast k)
slice_disarmed [] k = refl
slice_disarmed (p ∷ cast) zero = refl
slice_disarmed (p ∷ cast) (suc k) = slice_disarmed cast k

-- what plays a job, by the job's part
there_disarmed : (o : Option Part) (p : Part) → option_map disarmed o ≡ Some (disarmed p) → (q : Part) × (o ≡ Some q) × (disarmed q ≡ disarmed p)
there_disarmed None p same = cc
there_disarmed (Some q) p same = (q, refl, some_is same)

module _ (plan : Plan) (trace : Trace) (cast : List Part) (plays : PlayJobs plan trace cast) (job : Job) (k : ℕ) (has : HasJob plan job k) where
  pub plays_calm : (p : Part) → job_part plan trace job ≡ Some p → is_hostile (manner_of p) ≡ false → slice_get cast k ≡ Some p
  plays_calm p is calm =
      let q = there_disarmed (slice_get cast k) p (plays job k has ∙ ap (option_map disarmed) is) in
      q.1 ∙ ap Some (calm_same p q.0 calm q.2)

  pub plays_rogue : (p : RoguePart) → job_part plan trace job ≡ Some (HostilePart p) → (r : RoguePart) × (slice_get cast k ≡ Some (HostilePart r)) × IsRogueAlike p r
  plays_rogue p is =
      let q = there_disarmed (slice_get cast k) (HostilePart p) (plays job k has ∙ ap (option_map disarmed) is) in
      let r = rogue_same p q.0 q.2 in
      (r.0, q.1 ∙ ap Some r.1, r.2)

  -- and the part of its job, by what plays it
  pub played : (p : Part) → slice_get cast k ≡ Some p → (q : Part) × (job_part plan trace job ≡ Some q) × (disarmed q ≡ disarmed p)
  played p at = there_disarmed (job_part plan trace job) p (sym (plays job k has) ∙ ap (option_map disarmed) at)

-- who of a cast is hostile, and its scene
hosts_at : (cast : List Part) (k : ℕ) → hostiles (map disarmed cast) k ≡ hostiles cast k
hosts_at [] k = refl
hosts_at (p ∷ cast) zero = hostile_same p
hosts_at (p ∷ cast) (suc k) = hosts_at cast k

flat_same : {X : Type 0} (f : Part → List X) → ((p : Part) → f (disarmed p) ≡ f p) → (cast : List Part) → flat_map f (map disarmed cast) ≡ flat_map f cast
flat_same f each [] = refl
flat_same f each (p ∷ cast) = λ i. each p i ++ flat_same f each cast i

scene_is : (cast : List Part) → scene_of (map disarmed cast) ≡ scene_of cast
scene_is cast = λ i. record { frames = flat_same frames_of frames_same cast i; image = flat_same image_of image_same cast i }

module _ (olds news : List Part) (alike : AreAlike olds news) where
  pub hosts_alike : hostiles news ≡ hostiles olds
  hosts_alike = λ i. λ k. (sym (hosts_at news k) ∙ (ap (λ (c : List Part). hostiles c k) alike ∙ hosts_at olds k)) i

  pub scene_alike : scene_of news ≡ scene_of olds
  scene_alike = sym (scene_is news) ∙ (ap scene_of alike ∙ scene_is olds)

  pub as_many : length news ≡ length olds
  as_many = sym (length-map news disarmed) ∙ (ap length alike ∙ length-map olds disarmed)

-- what stands at a place of one stands there in the other
pub part_alike : (olds news : List Part) → AreAlike olds news → (k : ℕ) (p : Part) → slice_get news k ≡ Some p → (q : Part) × (slice_get olds k ≡ Some q) × (disarmed q ≡ disarmed p)
part_alike olds news alike k p at = map_from disarmed olds k (disarmed p) (ap (λ (c : List Part). slice_get c k) (sym alike) ∙ map_get disarmed news k p at)

pub calm_there : (olds news : List Part) → AreAlike olds news → (k : ℕ) (p : Part) → is_hostile (manner_of p) ≡ false → slice_get news k ≡ Some p → slice_get olds k ≡ Some p
calm_there olds news alike k p calm at = let q = part_alike olds news alike k p at in q.1 ∙ ap Some (calm_same p q.0 calm q.2)

pub rogue_there : (olds news : List Part) → AreAlike olds news → (k : ℕ) (p : RoguePart) → slice_get news k ≡ Some (HostilePart p) → (r : RoguePart) × (slice_get olds k ≡ Some (HostilePart r)) × IsRogueAlike p r
rogue_there olds news alike k p at =
    let q = part_alike olds news alike k (HostilePart p) at in
    let r = rogue_same p q.0 q.2 in
    (r.0, q.1 ∙ ap Some r.1, r.2)

-- a hostile client stands where another does that is alike
net_rogue : (net : NetPlace) (k : ℕ) (q : _) (p r : RoguePart) → IsRogueAlike p r → IsNetRogue net k q p → IsNetRogue net k q r
net_rogue net k q p r same is = record { there = is.there; inputs = same.inputs ∙ is.inputs; outputs = same.outputs ∙ is.outputs; pages = same.pages ∙ is.pages }

blk_rogue : (rows : List QueueRow) (blk : BlkPlace) (k : ℕ) (q : _) (p r : RoguePart) → IsRogueAlike p r → IsBlkRogue rows blk k q p → IsBlkRogue rows blk k q r
blk_rogue rows blk k q p r same is = record { there = is.there; inputs = same.inputs ∙ is.inputs; outputs = same.outputs ∙ is.outputs; pages = same.pages ∙ is.pages; takes = is.takes; puts = is.puts }

bare_rogue : (rows : List QueueRow) (p r : RoguePart) → IsRogueAlike p r → IsBareRogue rows p → IsBareRogue rows r
bare_rogue rows p r same is = record { input = is.input; output = is.output; inputs = same.inputs ∙ is.inputs; outputs = same.outputs ∙ is.outputs; pages = same.pages ∙ is.pages; takes = is.takes; puts = is.puts }

rogue_of : (rows : List QueueRow) (n : Option NetPlace) (b : Option BlkPlace) (p r : RoguePart) → IsRogueAlike p r → IsRogueOf rows n b p → IsRogueOf rows n b r
rogue_of rows n b p r same (inl (net, k, q, is, rogue)) = inl (net, k, q, is, net_rogue net k q p r same rogue)
rogue_of rows n b p r same (inr (inl (blk, k, q, is, rogue))) = inr (inl (blk, k, q, is, blk_rogue rows blk k q p r same rogue))
rogue_of rows n b p r same (inr (inr rogue)) = inr (inr (bare_rogue rows p r same rogue))

alike_back : (p r : RoguePart) → IsRogueAlike p r → IsRogueAlike r p
alike_back p r same = record { inputs = sym same.inputs; outputs = sym same.outputs; pages = sym same.pages }

module _ (olds news : List Part) (alike : AreAlike olds news) where
  back : AreAlike news olds
  back = sym alike

  -- a part that isn't hostile is there
  has_part : (p : Part) → is_hostile (manner_of p) ≡ false → HasPart olds p → HasPart news p
  has_part p calm has = (has.0, calm_there news olds back has.0 p calm has.1)

  wild_alike : (rows : List QueueRow) (n : ℕ) → wild_in (hostiles news) rows n ≡ wild_in (hostiles olds) rows n
  wild_alike rows n = ap (λ (h : Hostiles). wild_in h rows n) (hosts_alike olds news alike)

  pub whole_alike : (scene : Scene) (rows : List QueueRow) (net : NetPlace) → HasWholeIn scene rows net olds → HasWholeIn scene rows net news
  whole_alike scene rows net has = record {
    pools_many = has.pools_many;
    programs_many = has.programs_many;
    device = has_part _ refl has.device;
    waits = has.waits;
    driver = has_part _ refl has.driver;
    receiver = has_part _ refl has.receiver;
    sender = has_part _ refl has.sender;
    copier = λ k lt. has_part _ refl (has.copier k lt);
    client = λ k program mac q of calm. has_part _ refl (has.client k program mac q of (sym (wild_alike rows _) ∙ calm));
    both = λ k lt. wild_alike rows _ ∙ (has.both k lt ∙ sym (wild_alike rows _));
    only = λ k p at. has.only k p (calm_there olds news alike k (NetworkPart p) refl at);
    only_sender = λ k p at. has.only_sender k p (calm_there olds news alike k (SendingPart p) refl at);
    kinds = has.kinds;
    some = has.some;
    addresses = has.addresses;
    frames = has.frames;
    scripts = has.scripts;
    told = has.told;
    fits = has.fits;
    fits_client = has.fits_client;
  }

  pub blk_alike : (scene : Scene) (rows : List QueueRow) (blk : BlkPlace) → HasBlkIn scene rows blk olds → HasBlkIn scene rows blk news
  blk_alike scene rows blk has = record {
    asks_many = has.asks_many;
    pools_many = has.pools_many;
    disk = has_part _ refl has.disk;
    driver = has_part _ refl has.driver;
    virt = has_part _ refl has.virt;
    client = λ k entry asks pool of calm. has_part _ refl (has.client k entry asks pool of (sym (wild_alike rows _) ∙ calm));
    only = λ k p at. has.only k p (calm_there olds news alike k (BlockPart p) refl at);
    requests = has.requests;
    some = has.some;
    blocks = has.blocks;
    some_blocks = has.some_blocks;
    image_long = has.image_long;
    image_is = has.image_is;
    sized = has.sized;
    apart = has.apart;
  }

  no_net : HasNoNetwork olds → HasNoNetwork news
  no_net none = record {
    none = λ k p at. none.none k p (calm_there olds news alike k (NetworkPart p) refl at);
    no_sender = λ k p at. none.no_sender k p (calm_there olds news alike k (SendingPart p) refl at);
  }

  no_blk : HasNoBlock olds → HasNoBlock news
  no_blk none k p at = none k p (calm_there olds news alike k (BlockPart p) refl at)

  pub wired_alike : (scene : Scene) (rows : List QueueRow) → IsWiredIn scene rows olds → IsWiredIn scene rows news
  wired_alike scene rows wired = record {
    network = ⊎_elim (λ none. inl (no_net none)) (λ has. inr (has.0, whole_alike scene rows has.0 has.1)) wired.network;
    block = ⊎_elim (λ none. inl (no_blk none)) (λ has. inr (has.0, blk_alike scene rows has.0 has.1)) wired.block;
  }

  pub rogues_alike : (rows : List QueueRow) (n : Option NetPlace) (b : Option BlkPlace) → HasRogues rows n b olds → HasRogues rows n b news
  rogues_alike rows n b has = record {
    net = λ net is k q at wild.
        let h = has.net net is k q at (sym (wild_alike rows _) ∙ wild) in
        let r = rogue_there news olds back h.0 h.1 h.2 in
        (h.0, r.0, r.1, net_rogue net k q h.1 r.0 r.2 h.3);
    blk = λ blk is k q at wild.
        let h = has.blk blk is k q at (sym (wild_alike rows _) ∙ wild) in
        let r = rogue_there news olds back h.0 h.1 h.2 in
        (h.0, r.0, r.1, blk_rogue rows blk k q h.1 r.0 r.2 h.3);
    only = λ j p at.
        let r = rogue_there olds news alike j p at in
        rogue_of rows n b r.0 p (alike_back p r.0 r.2) (has.only j r.0 r.1);
  }

  pub placed_alike : (rows : List QueueRow) (place : PoolPlace) → IsPlaced rows place olds → IsPlaced rows place news
  placed_alike rows place placed = record { net = net place.net placed.net; blk = blk place.blk placed.blk; rogues = rogues_alike rows place.net place.blk placed.rogues }
    where
      net : (o : Option NetPlace) → HasNetAt rows o olds → HasNetAt rows o news
      net None none = no_net none
      net (Some n) has = (subst (λ (s : Scene). HasWholeIn s rows n news) (sym (scene_alike olds news alike)) (whole_alike (scene_of olds) rows n has.0), has.1)

      blk : (o : Option BlkPlace) → HasBlkAt rows o olds → HasBlkAt rows o news
      blk None none = no_blk none
      blk (Some b) has = (subst (λ (s : Scene). HasBlkIn s rows b news) (sym (scene_alike olds news alike)) (blk_alike (scene_of olds) rows b has.0), has.1)

  pub pooled_alike : (rows : List QueueRow) (pools : List PoolRow) → ArePooled rows pools olds → ArePooled rows pools news
  pooled_alike rows pools pooled = (pooled.0, placed_alike rows pooled.0 pooled.1, pooled.2)

  sheet_there : (scene : Scene) (k : ℕ) (p : Part) → slice_get news k ≡ Some p → (q : Part) × (slice_get olds k ≡ Some q) × (sheet scene q ≡ sheet scene p)
  sheet_there scene k p at = let q = part_alike olds news alike k p at in (q.0, q.1, sym (sheet_same scene q.0) ∙ (ap (sheet scene) q.2 ∙ sheet_same scene p))

  pub seated_alike : (scene : Scene) (rows : List QueueRow) → AreSeated (sheet scene) rows olds → AreSeated (sheet scene) rows news
  seated_alike scene rows seated k p at i s there = let q = sheet_there scene k p at in seated k q.0 q.1 i s (ap (λ (z : Sheet). slice_get z.ends i) q.2 ∙ there)

  pub filled_alike : (scene : Scene) (rows : List QueueRow) → AreFilled (sheet scene) rows olds → AreFilled (sheet scene) rows news
  filled_alike scene rows filled k p at s seat = let q = sheet_there scene k p at in let e = filled k q.0 q.1 s seat in (e.0, ap (λ (z : Sheet). slice_get z.ends e.0) (sym q.2) ∙ e.1)

  pub in_place_alike : (rows : List QueueRow) (pools : List PoolRow) → IsInPlace rows pools olds → IsInPlace rows pools news
  in_place_alike rows pools is = record {
    peopled = subst (IsPeopled rows) (sym (as_many olds news alike)) is.peopled;
    seated = subst (λ (s : Scene). AreSeated (sheet s) rows news) (sym (scene_alike olds news alike)) (seated_alike (scene_of olds) rows is.seated);
    filled = subst (λ (s : Scene). AreFilled (sheet s) rows news) (sym (scene_alike olds news alike)) (filled_alike (scene_of olds) rows is.filled);
    pooled = pooled_alike rows pools is.pooled;
  }

  pub plays_alike : (plan : Plan) (trace : Trace) → PlayJobs plan trace olds → PlayJobs plan trace news
  plays_alike plan trace plays job k has = sym (slice_disarmed news k) ∙ (ap (λ (c : List Part). slice_get c k) alike ∙ (slice_disarmed olds k ∙ plays job k has))
