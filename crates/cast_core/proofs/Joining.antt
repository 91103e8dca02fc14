-- What the actors' making asks, of a valid plan and a trace that was read for it.
use Rattle.std.proofs.Common.{◌≡◌, ◌+◌, ◌*◌, ◌<◌, ◌≤◌, ◌^◌, ℕ, Option, Some, None, MatchOption, List, [], ◌∷◌, length, Result, Ok, Err, IfOk, refl, subst, ap, arith}
use Rattle.std.specs.List.{All}
use Rattle.std.specs.Option.{option_map_or}
use Rattle.std.proofs.lemmas.List.Elements.{All-nil, All-cons, All-head, All-tail}
use Rattle.cargo_core.specs.declared.memory.Memory.{Memory}
use Rattle.sdf_plan.specs.declared.plan.Plan.{Plan}
use Rattle.sdf_plan.specs.declared.plan.Net.{Net}
use Rattle.sdf_plan.specs.declared.plan.Serial.{Serial}
use Rattle.sdf_plan.specs.declared.plan.Blk.{Blk}
use Rattle.sdf_check.specs.Valid.{Valid}
use Rattle.region_layout.specs.Layouts.{layout_of}
use Rattle.region_layout.specs.Rows.{actors_of, queues_of, pools_of}
use Rattle.region_layout.specs.declared.layout.Layout.{Layout}
use Rattle.region_layout.proofs.NameLemmas.{few_actors}
use Rattle.region_layout.proofs.ValidLemmas.{net_frames, net_counts, serial_counts, blk_counts, small_numbers}
use Rattle.layout_laws.proofs.Lists.{all-at}
use Rattle.trace_text.specs.declared.trace.Trace.{Trace}
use Rattle.trace_text.specs.Events.{net_clients, serial_clients, blk_clients}
use Rattle.trace_text.specs.Traces.{IsReadFor}
use Rattle.trace_text.specs.Limits.{frame_most}
use Rattle.trace_text.specs.Shapes.{IsFrame, IsDisk}
use Rattle.trace_text.proofs.Limits.{limits_kept}
use Rattle.trace_text.proofs.Shapes.{shapes-read}
use Rattle.layout_laws.specs.Jobs.Jobs.{Job, HasJob}
use Rattle.actor_set.specs.Actors.{part_of}
use Rattle.actor_set.specs.StartStates.{IsNew}
use Rattle.actor_set.specs.declared.actor.Actor.{Actor}
use Rattle.expect_core.proofs.Replying.{few_asks}
use Rattle.cast_core.specs.Sources.{first_serial, first_blk, first_blk_pool}
use Rattle.cast_core.specs.Casts.{job_part, IsCast}
use Rattle.cast_core.specs.Making.{AreShort, HasFrames, HasAsks}

-- the tables of a layout
pub queues_are : (plan : Plan) (layout : Layout) → layout ≡ layout_of plan → layout.queues ≡ queues_of plan
unfolding layout_of
queues_are plan layout is = ap (λ (l : Layout). l.queues) is

pub pools_are : (plan : Plan) (layout : Layout) → layout ≡ layout_of plan → layout.pools ≡ pools_of plan
unfolding layout_of
pools_are plan layout is = ap (λ (l : Layout). l.pools) is

pub actors_are : (plan : Plan) (layout : Layout) → layout ≡ layout_of plan → layout.actors ≡ actors_of plan
unfolding layout_of
actors_are plan layout is = ap (λ (l : Layout). l.actors) is

pub few_all : (plan : Plan) → Valid plan → length (actors_of plan) ≤ 66
few_all plan valid = few_actors plan (small_numbers plan valid).domains

-- the clients of a class
pub net_count : (plan : Plan) (net : Net) → plan.net ≡ Some net → length (net_clients plan) ≡ length net.client
net_count plan net is = ap (λ (o : Option Net). length (option_map_or (λ (n : Net). n.client) o [])) is

pub serial_count : (plan : Plan) (serial : Serial) → plan.serial ≡ Some serial → length (serial_clients plan) ≡ length serial.client
serial_count plan serial is = ap (λ (o : Option Serial). length (option_map_or (λ (n : Serial). n.client) o [])) is

pub net_few : (plan : Plan) → Valid plan → length (net_clients plan) ≤ 8
net_few plan valid = by plan.net refl
  where
    by : (o : Option Net) → plan.net ≡ o → length (option_map_or (λ (n : Net). n.client) o []) ≤ 8
    by None is = omega arith
    by (Some net) is = (net_counts plan net valid is).0.1

pub serial_few : (plan : Plan) → Valid plan → length (serial_clients plan) ≤ 8
serial_few plan valid = by plan.serial refl
  where
    by : (o : Option Serial) → plan.serial ≡ o → length (option_map_or (λ (n : Serial). n.client) o []) ≤ 8
    by None is = omega arith
    by (Some serial) is = (serial_counts plan serial valid is).1

pub serial_some : (plan : Plan) → Valid plan → (serial : Serial) → plan.serial ≡ Some serial → 1 ≤ length (serial_clients plan)
serial_some plan valid serial is = let n = serial_count plan serial is in let some = (serial_counts plan serial valid is).0 in omega (arith, n, some)

pub first_few : (plan : Plan) → Valid plan → first_serial plan ≤ 56
first_few plan valid = by plan.net refl
  where
    by : (o : Option Net) → plan.net ≡ o → option_map_or (λ (net : Net). 8 + 6 * length net.client) o 0 ≤ 56
    by None is = omega arith
    by (Some net) is = let few = (net_counts plan net valid is).0.1 in omega (arith, few)

pub blk_count : (plan : Plan) (blk : Blk) → plan.blk ≡ Some blk → length (blk_clients plan) ≡ length blk.client
blk_count plan blk is = ap (λ (o : Option Blk). length (option_map_or (λ (b : Blk). b.client) o [])) is

pub blk_few : (plan : Plan) → Valid plan → length (blk_clients plan) ≤ 8
blk_few plan valid = by plan.blk refl
  where
    by : (o : Option Blk) → plan.blk ≡ o → length (option_map_or (λ (b : Blk). b.client) o []) ≤ 8
    by None is = omega arith
    by (Some blk) is = (blk_counts plan blk valid is).1

pub first_blk_few : (plan : Plan) → Valid plan → first_blk plan ≤ 76
first_blk_few plan valid = let first = first_few plan valid in let second = by plan.serial refl in omega (arith, first, second)
  where
    by : (o : Option Serial) → plan.serial ≡ o → option_map_or (λ (serial : Serial). 4 + 2 * length serial.client) o 0 ≤ 20
    by None is = omega arith
    by (Some serial) is = let few = (serial_counts plan serial valid is).1 in omega (arith, few)

pub first_blk_pool_few : (plan : Plan) → Valid plan → first_blk_pool plan ≤ 17
first_blk_pool_few plan valid = by plan.net refl
  where
    by : (o : Option Net) → plan.net ≡ o → option_map_or (λ (net : Net). 1 + 2 * length net.client) o 0 ≤ 17
    by None is = omega arith
    by (Some net) is = let few = (net_counts plan net valid is).0.1 in omega (arith, few)

pub has_asks : (plan : Plan) (trace : Trace) (blk : Blk) → IsReadFor plan trace → plan.blk ≡ Some blk → HasAsks trace (length (blk_clients plan))
has_asks plan trace blk read is =
    let limits = limits_kept plan trace read in
    let disk : IsDisk trace.image = subst (λ (o : Option Blk). MatchOption o (trace.image ≡ []) (λ _. IsDisk trace.image)) is (shapes-read plan trace read).image in
    record {
      count = limits.asks;
      few = λ c asks at. let one = few_asks trace.asks c asks at in let all = limits.requests in omega (arith, one, all);
      image = let long = disk.2 in let most = disk.3 in omega (arith, long, most);
    }

-- the longest frame of a valid plan
pub frames_few : (plan : Plan) → Valid plan → frame_most plan ≤ 9014
unfolding frame_most
frames_few plan valid = by plan.net refl
  where
    by : (o : Option Net) → plan.net ≡ o → option_map_or (λ (net : Net). net.max_frame) o 0 ≤ 9014
    by None is = omega arith
    by (Some net) is = (net_frames plan net valid is).1

-- the frames of a trace
short_frames : (most : ℕ) (frames : List (List ℕ)) → most ≤ 9014 → All (IsFrame most) frames → AreShort frames
short_frames most [] few all = All-nil (λ frame. length frame < 2 ^ 16)
short_frames most (x ∷ xs) few all =
    let one = (All-head (IsFrame most) x xs all).1 in
    let short : length x < 2 ^ 16 = omega (arith, one, few) in
    All-cons (λ frame. length frame < 2 ^ 16) x xs short (short_frames most xs few (All-tail (IsFrame most) x xs all))

pub has_frames : (plan : Plan) (trace : Trace) → Valid plan → IsReadFor plan trace → HasFrames trace (length (net_clients plan))
has_frames plan trace valid read = record {
  device = short_frames (frame_most plan) trace.frames (frames_few plan valid) (shapes-read plan trace read).frames;
  count = (limits_kept plan trace read).sends;
  client = λ c frames at. short_frames (frame_most plan) frames (frames_few plan valid) (all-at (All (IsFrame (frame_most plan))) trace.sends (shapes-read plan trace read).sends c frames at);
}

pub says_count : (plan : Plan) (trace : Trace) → IsReadFor plan trace → length trace.says ≡ length (serial_clients plan)
says_count plan trace read = (limits_kept plan trace read).says

-- an actor that was made for its job
pub is_cast : (plan : Plan) (trace : Trace) (k : ℕ) (job : Job) (r : Result Actor Memory) → HasJob plan job k → IfOk r IsNew → IfOk r (λ a. job_part plan trace job ≡ Some (part_of a)) → IfOk r (IsCast plan trace k)
is_cast plan trace k job (Ok a) has new part = record { job = job; has = has; new = new; part = part }
is_cast plan trace k job (Err e) has new part = tt
