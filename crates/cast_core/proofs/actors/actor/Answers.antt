use Rattle.std.proofs.Common.{◌≡◌, sym, ◌∙◌, subst, arith, length}
use Rattle.expect_core.proofs.Replying.{entry_few}
use Rattle.region_layout.specs.Rows.{queues_of, pools_of}
use Rattle.cast_core.specs.declared.jobs.Job.TheVariants as Class
use Rattle.cast_core.specs.Known.{HasRows, IsKnown, net_job, serial_job, blk_job}
use Rattle.trace_text.specs.declared.class.Class.TheVariants as Of
use Rattle.cast_core.specs.Hostile.{HasActs}
use Rattle.cast_core.specs.Making.{HasPools, HasFrames, HasBlkPools, HasAsks}
use Rattle.cast_core.proofs.Tables.{has_rows, some_known, known_has}
use Rattle.cast_core.proofs.Rooms.{has_pools, has_blk_pools}
use Rattle.cast_core.proofs.HostileLemmas.{net_acts, serial_acts, blk_acts}
use Rattle.cast_core.proofs.Joining.{queues_are, pools_are, net_count, net_few, frames_few, serial_few, serial_some, first_few, has_frames, says_count, is_cast, blk_count, blk_few, first_blk_few, first_blk_pool_few, has_asks}
use Rattle.cast_core.proofs.actors.actor.Goals as goal

pub job_of-requires-clause-rows : goal.job_of-requires-clause-rows
job_of-requires-clause-rows c =
    let rows : c.queues.result.now ≡ queues_of c.args.plan.now = c.queues.ensures ∙ queues_are c.args.plan.now c.args.layout.now c.requires.layout in
    subst (HasRows c.args.plan.now) (sym rows) (has_rows c.args.plan.now c.requires.valid)

pub job_of-requires-clause-some : goal.job_of-requires-clause-some
job_of-requires-clause-some c =
    let rows : c.queues.result.now ≡ queues_of c.args.plan.now = c.queues.ensures ∙ queues_are c.args.plan.now c.args.layout.now c.requires.layout in
    let some = some_known c.args.plan.now c.requires.valid c.args.number c.requires.there in
    (some.0, subst (λ l. IsKnown c.args.plan.now l c.args.number some.0) (sym rows) some.1)

pub net_clients-requires : goal.net_clients-requires
net_clients-requires c = let few = net_few c.args.plan.now c.requires.valid in omega (arith, few)

pub net_actor-requires-clause-few : goal.net_actor-requires-clause-few
net_actor-requires-clause-few c = let is = c.net_clients.ensures in let few = net_few c.args.plan.now c.requires.valid in omega (arith, few, is)

pub net_actor-requires-clause-rows : goal.net_actor-requires-clause-rows
net_actor-requires-clause-rows c = c.pools.ensures ∙ pools_are c.args.plan.now c.args.layout.now c.requires.layout

pub net_actor-requires-clause-longest : goal.net_actor-requires-clause-longest
net_actor-requires-clause-longest c = let most = frames_few c.args.plan.now c.requires.valid in omega (arith, most)

pub net_actor-requires-clause-pools : goal.net_actor-requires-clause-pools
net_actor-requires-clause-pools c =
    let rows : c.pools.result.now ≡ pools_of c.args.plan.now = c.pools.ensures ∙ pools_are c.args.plan.now c.args.layout.now c.requires.layout in
    let count : c.net_clients.result ≡ length c.in-Net.ensures.0.client = c.net_clients.ensures ∙ net_count c.args.plan.now c.in-Net.ensures.0 c.in-Net.ensures.1 in
    subst (λ n. HasPools c.pools.result.now n) (sym count)
    (subst (λ l. HasPools l (length c.in-Net.ensures.0.client)) (sym rows) (has_pools c.args.plan.now c.requires.valid c.in-Net.ensures.0 c.in-Net.ensures.1))

pub net_actor-requires-clause-frames : goal.net_actor-requires-clause-frames
net_actor-requires-clause-frames c = subst (HasFrames c.args.trace.now) (sym c.net_clients.ensures) (has_frames c.args.plan.now c.args.trace.now c.requires.valid c.requires.trace)

pub serial_clients-requires : goal.serial_clients-requires
serial_clients-requires c = let few = serial_few c.args.plan.now c.requires.valid in omega (arith, few)

pub serial_actor-requires-clause-some : goal.serial_actor-requires-clause-some
serial_actor-requires-clause-some c = let is = c.serial_clients.ensures in let some = serial_some c.args.plan.now c.requires.valid c.in-Serial.ensures.0 c.in-Serial.ensures.1 in omega (arith, some, is)

pub serial_actor-requires-clause-few : goal.serial_actor-requires-clause-few
serial_actor-requires-clause-few c = let is = c.serial_clients.ensures in let few = serial_few c.args.plan.now c.requires.valid in omega (arith, few, is)

pub serial_actor-requires-clause-numbered : goal.serial_actor-requires-clause-numbered
serial_actor-requires-clause-numbered c = let is = c.serial_clients.ensures in let few = serial_few c.args.plan.now c.requires.valid in let first = first_few c.args.plan.now c.requires.valid in omega (arith, few, first, is)

pub serial_actor-requires-clause-says : goal.serial_actor-requires-clause-says
serial_actor-requires-clause-says c = says_count c.args.plan.now c.args.trace.now c.requires.trace ∙ sym c.serial_clients.ensures

pub returns-in-Net : goal.returns-in-Net
returns-in-Net c =
    let rows : c.queues.result.now ≡ queues_of c.args.plan.now = c.queues.ensures ∙ queues_are c.args.plan.now c.args.layout.now c.requires.layout in
    let has = known_has c.args.plan.now (Class.Net c.in-Net.job) c.args.number (subst (λ l. IsKnown c.args.plan.now l c.args.number (Class.Net c.in-Net.job)) rows c.in-Net.ensures) in
    is_cast c.args.plan.now c.args.trace.now c.args.number (net_job c.in-Net.job) c.net_actor.result has c.net_actor.ensures.new c.net_actor.ensures.part

pub returns-in-Serial : goal.returns-in-Serial
returns-in-Serial c =
    let rows : c.queues.result.now ≡ queues_of c.args.plan.now = c.queues.ensures ∙ queues_are c.args.plan.now c.args.layout.now c.requires.layout in
    let has = known_has c.args.plan.now (Class.Serial c.in-Serial.job) c.args.number (subst (λ l. IsKnown c.args.plan.now l c.args.number (Class.Serial c.in-Serial.job)) rows c.in-Serial.ensures) in
    is_cast c.args.plan.now c.args.trace.now c.args.number (serial_job c.in-Serial.job) c.serial_actor.result has c.serial_actor.ensures.new c.serial_actor.ensures.part

pub blk_clients-requires : goal.blk_clients-requires
blk_clients-requires c = let few = blk_few c.args.plan.now c.requires.valid in omega (arith, few)

pub blk_actor-requires-clause-few : goal.blk_actor-requires-clause-few
blk_actor-requires-clause-few c = let is = c.blk_clients.ensures in let few = blk_few c.args.plan.now c.requires.valid in omega (arith, few, is)

pub blk_actor-requires-clause-queues : goal.blk_actor-requires-clause-queues
blk_actor-requires-clause-queues c = let few = first_blk_few c.args.plan.now c.requires.valid in omega (arith, few)

pub blk_actor-requires-clause-numbers : goal.blk_actor-requires-clause-numbers
blk_actor-requires-clause-numbers c = let few = first_blk_pool_few c.args.plan.now c.requires.valid in omega (arith, few)

pub blk_actor-requires-clause-rows : goal.blk_actor-requires-clause-rows
blk_actor-requires-clause-rows c = c.pools-in-Blk.ensures ∙ pools_are c.args.plan.now c.args.layout.now c.requires.layout

pub blk_actor-requires-clause-pools : goal.blk_actor-requires-clause-pools
blk_actor-requires-clause-pools c =
    let rows : c.pools-in-Blk.result.now ≡ pools_of c.args.plan.now = c.pools-in-Blk.ensures ∙ pools_are c.args.plan.now c.args.layout.now c.requires.layout in
    let count : c.blk_clients.result ≡ length c.in-Blk.ensures.0.client = c.blk_clients.ensures ∙ blk_count c.args.plan.now c.in-Blk.ensures.0 c.in-Blk.ensures.1 in
    subst (λ n. HasBlkPools c.args.plan.now c.pools-in-Blk.result.now n) (sym count)
    (subst (λ l. HasBlkPools c.args.plan.now l (length c.in-Blk.ensures.0.client)) (sym rows) (has_blk_pools c.args.plan.now c.requires.valid c.in-Blk.ensures.0 c.in-Blk.ensures.1))

pub blk_actor-requires-clause-entries : goal.blk_actor-requires-clause-entries
blk_actor-requires-clause-entries c = λ k lt.
    let count : c.blk_clients.result ≡ length c.in-Blk.ensures.0.client = c.blk_clients.ensures ∙ blk_count c.args.plan.now c.in-Blk.ensures.0 c.in-Blk.ensures.1 in
    entry_few c.args.plan.now k c.requires.valid (omega (arith, lt, count))

pub blk_actor-requires-clause-asks : goal.blk_actor-requires-clause-asks
blk_actor-requires-clause-asks c = subst (HasAsks c.args.trace.now) (sym c.blk_clients.ensures) (has_asks c.args.plan.now c.args.trace.now c.in-Blk.ensures.0 c.requires.trace c.in-Blk.ensures.1)

pub returns-in-Blk : goal.returns-in-Blk
returns-in-Blk c =
    let rows : c.queues.result.now ≡ queues_of c.args.plan.now = c.queues.ensures ∙ queues_are c.args.plan.now c.args.layout.now c.requires.layout in
    let has = known_has c.args.plan.now (Class.Blk c.in-Blk.job) c.args.number (subst (λ l. IsKnown c.args.plan.now l c.args.number (Class.Blk c.in-Blk.job)) rows c.in-Blk.ensures) in
    is_cast c.args.plan.now c.args.trace.now c.args.number (blk_job c.in-Blk.job) c.blk_actor.result has c.blk_actor.ensures.new c.blk_actor.ensures.part

pub net_actor-requires-clause-acts : goal.net_actor-requires-clause-acts
net_actor-requires-clause-acts c = subst (HasActs Of.Net c.args.trace.now.net_acts) (sym c.net_clients.ensures) (net_acts c.args.plan.now c.args.trace.now c.requires.trace)

pub serial_actor-requires-clause-acts : goal.serial_actor-requires-clause-acts
serial_actor-requires-clause-acts c = subst (HasActs Of.Serial c.args.trace.now.serial_acts) (sym c.serial_clients.ensures) (serial_acts c.args.plan.now c.args.trace.now c.requires.trace)

pub blk_actor-requires-clause-acts : goal.blk_actor-requires-clause-acts
blk_actor-requires-clause-acts c = subst (HasActs Of.Blk c.args.trace.now.blk_acts) (sym c.blk_clients.ensures) (blk_acts c.args.plan.now c.args.trace.now c.requires.trace)
