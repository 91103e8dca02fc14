-- Who has a job stands at the queues of its ends, and at no others.
use Rattle.std.proofs.Common.{◌≡◌, ℕ, Some, slice_get, sym, ap, ◌∙◌, subst, arith}
use Rattle.cargo_core.specs.declared.item.QueueKind.{QueueKind}
use Rattle.wire_core.specs.declared.names.QueueRow.{QueueRow}
use Rattle.wire_core.specs.Ends.{Role, Consumer, Producer}
use Rattle.wire_core.specs.Journal.{owner_of}
use Rattle.sdf_plan.specs.declared.plan.Plan.{Plan}
use Rattle.sdf_check.specs.Valid.{Valid}
use Rattle.region_layout.specs.Rows.{queues_of}
use Rattle.layout_laws.specs.Sound.{IsOwned}
use Rattle.layout_laws.proofs.Lists.{all-at}
use Rattle.layout_laws.proofs.Owners.{queues_owned}
use Rattle.play_core.specs.Moved.{Seat}
use Rattle.play_core.specs.Wants.{intake, outlet}
use Rattle.play_core.proofs.Lists.{some_is, there_is, there_below}
use Rattle.layout_laws.specs.Jobs.Jobs.{Job, HasJob}
use Rattle.layout_laws.specs.Jobs.Queues.{Owners, owners_of}
use Rattle.layout_laws.proofs.JobsLemmas.Having.{one_actor, same_job}
use Rattle.layout_laws.proofs.JobsLemmas.Owning.{owners_long, owners_there}
use Rattle.layout_laws.specs.Seats.Ends.{job_ends, job_kind, IsOf}
use Rattle.layout_laws.proofs.SeatsLemmas.Having.{job_is_of}
use Rattle.layout_laws.proofs.SeatsLemmas.Telling.{IsAmong, TellsAt, all_tell}
use Rattle.layout_laws.proofs.SeatsLemmas.Holding.{owner_at, end_held}
use Rattle.layout_laws.proofs.SeatsLemmas.Carrying.{between, all_carry}

-- the seat of an actor by the rows
abbrev pub IsSeated : Plan → QueueKind → ℕ → Role → ℕ → Type 0
IsSeated plan kind k r n = (row : QueueRow) × (slice_get (queues_of plan) n ≡ Some row) × (owner_of row r ≡ k) × (row.kind ≡ kind)

module _ (plan : Plan) where
  owner_has : (row : QueueRow) (o : Owners) (r : Role) → HasJob plan o.producer row.producer.0 → HasJob plan o.consumer row.consumer.0 → HasJob plan (owner_at o r) (owner_of row r)
  owner_has row o Consumer p c = c
  owner_has row o Producer p c = p

  tells_role : (n : ℕ) (o : Owners) (r : Role) → TellsAt plan n o → IsAmong (job_ends plan (owner_at o r)) (record { queue = n; role = r })
  tells_role n o Consumer h = h.1
  tells_role n o Producer h = h.0

  -- the job of a queue's owner
  pub job_at : (n : ℕ) (row : QueueRow) → slice_get (queues_of plan) n ≡ Some row → (r : Role) → (o : Owners) × (slice_get (owners_of plan) n ≡ Some o) × HasJob plan (owner_at o r) (owner_of row r)
  job_at n row at r = let o = owners_there plan n row at in (o.0, o.1, owner_has row o.0 r o.2 o.3)

  -- the row at an end of a job, and that its owner has the job
  pub row_at : (job : Job) → IsOf plan job → (i : ℕ) (s : Seat) → slice_get (job_ends plan job) i ≡ Some s
      → (row : QueueRow) × (slice_get (queues_of plan) s.queue ≡ Some row) × HasJob plan job (owner_of row s.role) × (row.kind ≡ job_kind plan job s.role s.queue)
  row_at job is i s at =
      let held = end_held plan job is i s at in
      let below = there_below (owners_of plan) s.queue held.0 held.1 in
      let long = owners_long plan in
      let row = there_is (queues_of plan) s.queue (omega (arith, below, long)) in
      let o = job_at s.queue row.0 row.1 s.role in
      let told : o.0 ≡ held.0 = some_is (sym o.1 ∙ held.1) in
      let same : owner_at o.0 s.role ≡ job = ap (λ (p : Owners). owner_at p s.role) told ∙ held.2 in
      let kind = all_carry plan s.queue row.0 o.0 row.1 o.1 in
      (row.0, row.1, subst (λ j. HasJob plan j (owner_of row.0 s.role)) same o.2, kind ∙ (ap (λ (p : Owners). between p.producer p.consumer) told ∙ held.3))

  pub has_seat : (job : Job) (k : ℕ) → HasJob plan job k → (i : ℕ) (s : Seat) → slice_get (job_ends plan job) i ≡ Some s → IsSeated plan (job_kind plan job s.role s.queue) k s.role s.queue
  has_seat job k has i s at = let row = row_at job (job_is_of plan job k has) i s at in (row.0, row.1, one_actor plan job (owner_of row.0 s.role) k row.2 has, row.3)

  -- who stands at an end of a job has it
  pub known_by : (job : Job) → IsOf plan job → (i : ℕ) (s : Seat) → slice_get (job_ends plan job) i ≡ Some s → (row : QueueRow) → slice_get (queues_of plan) s.queue ≡ Some row → HasJob plan job (owner_of row s.role)
  known_by job is i s at row there = let own = row_at job is i s at in subst (λ (x : QueueRow). HasJob plan job (owner_of x s.role)) (some_is (sym own.1 ∙ there)) own.2

  pub has_end : Valid plan → (n : ℕ) (row : QueueRow) → slice_get (queues_of plan) n ≡ Some row → (r : Role) (job : Job) → HasJob plan job (owner_of row r) → IsAmong (job_ends plan job) (record { queue = n; role = r })
  has_end valid n row at r job has =
      let o = job_at n row at r in
      let same : owner_at o.0 r ≡ job = same_job plan valid (owner_at o.0 r) job (owner_of row r) o.2 has in
      subst (λ j. IsAmong (job_ends plan j) (record { queue = n; role = r })) same (tells_role n o.0 r (all_tell plan n o.0 o.1))

  -- no job has both ends of a queue
  pub not_both : Valid plan → (job : Job) → IsOf plan job → (i j n : ℕ) → slice_get (job_ends plan job) i ≡ Some (intake n) → slice_get (job_ends plan job) j ≡ Some (outlet n) → ⊥
  not_both valid job is i j n a b =
      let taker = row_at job is i (intake n) a in
      let giver = row_at job is j (outlet n) b in
      let same : giver.0 ≡ taker.0 = some_is (sym giver.1 ∙ taker.1) in
      let p : HasJob plan job taker.0.producer.0 = subst (λ (x : QueueRow). HasJob plan job x.producer.0) same giver.2 in
      (all-at (IsOwned plan) (queues_of plan) (queues_owned plan valid) n taker.0 taker.1).differ (one_actor plan job taker.0.producer.0 taker.0.consumer.0 p taker.2)
