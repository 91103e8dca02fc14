-- Which actors of a plan are hostile: those of its hostile clients alone.
use Rattle.std.proofs.Common.{◌≡◌, ◌⊎◌, ◌||◌, ◌&&◌, not, ℕ, Bool, true, false, if◌then◌else◌, inl, inr, Option, Some, List, map, slice_get, refl, sym, ap, ◌∙◌}
use Rattle.std.specs.Option.{option_map_or}
use Rattle.wire_core.specs.declared.names.QueueRow.{QueueRow}
use Rattle.wire_core.specs.Journal.{Hostiles}
use Rattle.sdf_plan.specs.declared.plan.Plan.{Plan}
use Rattle.trace_text.specs.declared.trace.Trace.{Trace}
use Rattle.trace_text.specs.Events.{is_net_rogue, is_serial_rogue, is_blk_rogue}
use Rattle.play_core.specs.Manners.{Calm, is_hostile}
use Rattle.play_core.specs.Names.{carries_pages, is_wild, wild_in}
use Rattle.play_core.proofs.Lists.{some_is, map_from}
use Rattle.layout_laws.specs.Jobs.Jobs.{Job, EthDevice, EthDriver, NetReceiver, NetSender, NetCopier, NetClient, UartDevice, UartDriver, SerialReceiver, SerialSender, SerialClient, DiskDevice, DiskDriver, BlkVirtualiser, BlkClient}
use Rattle.actor_set.specs.Parts.{HostilePart, Part, RoguePart}
use Rattle.actor_set.specs.Actors.{part_of}
use Rattle.actor_set.specs.declared.actor.Actor.{Actor}
use Rattle.actor_set.specs.Laws.Kinds.{AllCalm, hostiles, manner_of}
use Rattle.cast_core.specs.Casts.{calm_part, client_pool, client_pools, job_part, AreCalmCast}
use Rattle.cast_core.specs.Hostile.{acts_at, blk_rogue_at, net_rogue_at, serial_rogue_at}
use Rattle.cast_core.specs.Sources.{first_blk, first_serial}

pub calm_job : (plan : Plan) (trace : Trace) (job : Job) (p : Part) → calm_part plan trace job ≡ Some p → manner_of p ≡ Calm
calm_job plan trace EthDevice p is = ap manner_of (some_is (sym is))
calm_job plan trace EthDriver p is = ap manner_of (some_is (sym is))
calm_job plan trace NetReceiver p is = ap manner_of (some_is (sym is))
calm_job plan trace NetSender p is = ap manner_of (some_is (sym is))
calm_job plan trace (NetCopier c) p is = ap manner_of (some_is (sym is))
calm_job plan trace (NetClient c) p is = ap manner_of (some_is (sym is))
calm_job plan trace UartDevice p is = ap manner_of (some_is (sym is))
calm_job plan trace UartDriver p is = ap manner_of (some_is (sym is))
calm_job plan trace SerialReceiver p is = ap manner_of (some_is (sym is))
calm_job plan trace SerialSender p is = ap manner_of (some_is (sym is))
calm_job plan trace (SerialClient c) p is = ap manner_of (some_is (sym is))
calm_job plan trace DiskDevice p is = ap manner_of (some_is (sym is))
calm_job plan trace DiskDriver p is = ap manner_of (some_is (sym is))
calm_job plan trace BlkVirtualiser p is = ap manner_of (some_is (sym is))
calm_job plan trace (BlkClient c) p is = ap manner_of (some_is (sym is))

-- so no actor of a plan is
pub all_calm : (plan : Plan) (trace : Trace) (actors : List Actor) → AreCalmCast plan trace actors → AllCalm (map part_of actors)
all_calm plan trace actors cast k p at =
    let x = map_from part_of actors k p at in
    let one = cast.each k x.0 x.1 in
    ap manner_of (sym x.2) ∙ calm_job plan trace one.job (part_of x.0) one.part

-- the part of a job is that where its client isn't hostile, or a hostile client's
pub job_view : (plan : Plan) (trace : Trace) (job : Job) (p : Part) → job_part plan trace job ≡ Some p → (calm_part plan trace job ≡ Some p) ⊎ ((r : RoguePart) × (p ≡ HostilePart r))
job_view plan trace EthDevice p is = inl is
job_view plan trace EthDriver p is = inl is
job_view plan trace NetReceiver p is = inl is
job_view plan trace NetSender p is = inl is
job_view plan trace (NetCopier c) p is = inl is
job_view plan trace (NetClient c) p is = by (is_net_rogue plan c) is
  where
    by : (b : Bool) → (if b then Some (HostilePart (net_rogue_at 0 c (client_pools plan c) (acts_at trace.net_acts c))) else calm_part plan trace (NetClient c)) ≡ Some p → (calm_part plan trace (NetClient c) ≡ Some p) ⊎ ((r : RoguePart) × (p ≡ HostilePart r))
    by true e = inr (net_rogue_at 0 c (client_pools plan c) (acts_at trace.net_acts c), sym (some_is e))
    by false e = inl e
job_view plan trace UartDevice p is = inl is
job_view plan trace UartDriver p is = inl is
job_view plan trace SerialReceiver p is = inl is
job_view plan trace SerialSender p is = inl is
job_view plan trace (SerialClient c) p is = by (is_serial_rogue plan c) is
  where
    by : (b : Bool) → (if b then Some (HostilePart (serial_rogue_at (first_serial plan) c (acts_at trace.serial_acts c))) else calm_part plan trace (SerialClient c)) ≡ Some p → (calm_part plan trace (SerialClient c) ≡ Some p) ⊎ ((r : RoguePart) × (p ≡ HostilePart r))
    by true e = inr (serial_rogue_at (first_serial plan) c (acts_at trace.serial_acts c), sym (some_is e))
    by false e = inl e
job_view plan trace DiskDevice p is = inl is
job_view plan trace DiskDriver p is = inl is
job_view plan trace BlkVirtualiser p is = inl is
job_view plan trace (BlkClient c) p is = by (is_blk_rogue plan c) is
  where
    by : (b : Bool) → (if b then Some (HostilePart (blk_rogue_at (first_blk plan) c (client_pool plan c) (acts_at trace.blk_acts c))) else calm_part plan trace (BlkClient c)) ≡ Some p → (calm_part plan trace (BlkClient c) ≡ Some p) ⊎ ((r : RoguePart) × (p ≡ HostilePart r))
    by true e = inr (blk_rogue_at (first_blk plan) c (client_pool plan c) (acts_at trace.blk_acts c), sym (some_is e))
    by false e = inl e

-- so it is that where its client isn't hostile, if it isn't a hostile client's
pub job_calm : (plan : Plan) (trace : Trace) (job : Job) (p : Part) → ((r : RoguePart) → p ≡ HostilePart r → ⊥) → job_part plan trace job ≡ Some p → calm_part plan trace job ≡ Some p
job_calm plan trace job p other is = by (job_view plan trace job p is)
  where
    by : (calm_part plan trace job ≡ Some p) ⊎ ((r : RoguePart) × (p ≡ HostilePart r)) → calm_part plan trace job ≡ Some p
    by (inl calm) = calm
    by (inr (r, hostile)) = absurd (other r hostile)

-- an actor of this part is hostile, or isn't, as the part is
pub hostile_there : (cast : List Part) (k : ℕ) (p : Part) → slice_get cast k ≡ Some p → hostiles cast k ≡ is_hostile (manner_of p)
hostile_there cast k p at = ap (λ (o : Option Part). is_hostile (option_map_or manner_of o Calm)) at

-- a client whose actor isn't hostile has the part of a client that isn't
pub calm_net : (plan : Plan) (trace : Trace) (cast : List Part) (c k : ℕ) → slice_get cast k ≡ job_part plan trace (NetClient c) → hostiles cast k ≡ false → slice_get cast k ≡ calm_part plan trace (NetClient c)
calm_net plan trace cast c k at calm = by (is_net_rogue plan c) at
  where
    by : (b : Bool) → slice_get cast k ≡ (if b then Some (HostilePart (net_rogue_at 0 c (client_pools plan c) (acts_at trace.net_acts c))) else calm_part plan trace (NetClient c)) → slice_get cast k ≡ calm_part plan trace (NetClient c)
    by true e = absurd (let no : true ≡ false = sym (hostile_there cast k (HostilePart (net_rogue_at 0 c (client_pools plan c) (acts_at trace.net_acts c))) e) ∙ calm in cc)
    by false e = e

pub calm_blk : (plan : Plan) (trace : Trace) (cast : List Part) (c k : ℕ) → slice_get cast k ≡ job_part plan trace (BlkClient c) → hostiles cast k ≡ false → slice_get cast k ≡ calm_part plan trace (BlkClient c)
calm_blk plan trace cast c k at calm = by (is_blk_rogue plan c) at
  where
    by : (b : Bool) → slice_get cast k ≡ (if b then Some (HostilePart (blk_rogue_at (first_blk plan) c (client_pool plan c) (acts_at trace.blk_acts c))) else calm_part plan trace (BlkClient c)) → slice_get cast k ≡ calm_part plan trace (BlkClient c)
    by true e = absurd (let no : true ≡ false = sym (hostile_there cast k (HostilePart (blk_rogue_at (first_blk plan) c (client_pool plan c) (acts_at trace.blk_acts c))) e) ∙ calm in cc)
    by false e = e

-- a queue whose entries carry pages is wild where one of its owners is hostile
pub wild_by : (hostile : Hostiles) (rows : List QueueRow) (n : ℕ) (row : QueueRow) → slice_get rows n ≡ Some row → carries_pages row.kind ≡ true → wild_in hostile rows n ≡ (hostile row.producer.0 || hostile row.consumer.0)
wild_by hostile rows n row at carries =
    ap (λ (o : Option QueueRow). option_map_or (is_wild hostile) o false) at
    ∙ (ap (λ b. not (not (hostile row.producer.0) && not (hostile row.consumer.0)) && b) carries ∙ either (hostile row.producer.0) (hostile row.consumer.0))
  where
    either : (a b : Bool) → (not (not a && not b) && true) ≡ (a || b)
    either true b = refl
    either false true = refl
    either false false = refl

-- where it isn't wild, its producer isn't hostile
pub producer_calm : (a b : Bool) → (a || b) ≡ false → a ≡ false
producer_calm true b e = absurd cc
producer_calm false b e = refl
