-- Which queues of the network's clients have a hostile end: those of its hostile clients.
use Rattle.std.proofs.Common.{◌≡◌, ◌+◌, ◌||◌, ◌<◌, ℕ, zero, suc, Bool, true, false, if◌then◌else◌, Option, Some, List, length, slice_get, refl, sym, ap, ap₂, ◌∙◌, arith}
use Rattle.std.specs.Option.{option_map_or}
use Rattle.wire_core.specs.declared.names.QueueRow.{QueueRow}
use Rattle.play_core.specs.Names.{carries_pages, wild_in}
use Rattle.play_core.specs.Wants.{intake, outlet}
use Rattle.play_core.proofs.Lists.{some_is, there_below}
use Rattle.sdf_plan.specs.declared.plan.Plan.{Plan}
use Rattle.sdf_plan.specs.declared.plan.Net.{Net}
use Rattle.sdf_plan.specs.declared.plan.NetClient.{NetClient as NetClientKeys}
use Rattle.trace_text.specs.declared.trace.Trace.{Trace}
use Rattle.trace_text.specs.Events.{is_net_rogue}
use Rattle.region_layout.specs.Rows.{actor_named, queues_of}
use Rattle.net_law.specs.Parts.Numbers.{client_at, client_first}
use Rattle.net_law.specs.TxParts.Numbers.{own_pools, sender_at}
use Rattle.trace_text.specs.Limits.{frame_most}
use Rattle.actor_set.specs.Parts.{HostilePart, NetworkPart, Part, SendingPart}
use Rattle.actor_set.specs.Laws.Kinds.{hostiles}
use Rattle.layout_laws.specs.Jobs.Jobs.{NetClient, NetSender, HasJob}
use Rattle.layout_laws.specs.Seats.Ends.{client_queue, ends_from, net_count, send_ends}
use Rattle.layout_laws.specs.Seats.Named.{AreNetNamed}
use Rattle.layout_laws.proofs.SeatsLemmas.Naming.{net_named}
use Rattle.layout_laws.proofs.SeatsLemmas.Seats.{has_seat}
use Rattle.cast_core.specs.Casts.{client_pools, job_part, net_place}
use Rattle.cast_core.specs.Hostile.{acts_at, net_rogue_at}
use Rattle.cast_core.specs.Sources.{client_mac, client_program}
use Rattle.cast_law.specs.Jobs.{PlayJobs}
use Rattle.cast_law.proofs.Calming.{hostile_there, wild_by}
use Rattle.cast_law.proofs.Restarted.{plays_calm, plays_rogue}

or_false : (b : Bool) → (b || false) ≡ b
or_false true = refl
or_false false = refl

-- the ends of the sending virtualiser at the queues of a client stand side by side
sends_among : (from count c : ℕ) → c < count → (i : ℕ) × (slice_get (ends_from send_ends from count) i ≡ Some (intake (client_queue (from + c) + 4))) × (slice_get (ends_from send_ends from count) (suc i) ≡ Some (outlet (client_queue (from + c) + 5)))
sends_among from zero c lt = absurd (omega (arith, lt))
sends_among from (suc count) zero lt = let e : from ≡ from + 0 = omega arith in (0, ap (λ n. Some (intake (client_queue n + 4))) e, ap (λ n. Some (outlet (client_queue n + 5))) e)
sends_among from (suc count) (suc c) lt =
    let later = sends_among (from + 1) count c (omega (arith, lt)) in
    let e : from + 1 + c ≡ from + suc c = omega arith in
    (suc (suc later.0), later.1 ∙ ap (λ n. Some (intake (client_queue n + 4))) e, later.2 ∙ ap (λ n. Some (outlet (client_queue n + 5))) e)

-- a cast that plays the jobs of its plan
module _ (plan : Plan) (trace : Trace) (cast : List Part) (plays : PlayJobs plan trace cast) (net : Net) (is : plan.net ≡ Some net) where
  named : AreNetNamed plan net
  named = net_named plan net is

  -- the queues on which a client sends are wild where its actor is hostile
  pub ends_wild : (k : ℕ) (c : NetClientKeys) → slice_get net.client k ≡ Some c
      → (wild_in (hostiles cast) (queues_of plan) (client_first 0 k + 4) ≡ hostiles cast (actor_named plan c.pd).0) × (wild_in (hostiles cast) (queues_of plan) (client_first 0 k + 5) ≡ hostiles cast (actor_named plan c.pd).0)
  ends_wild k c at =
      let client = (actor_named plan c.pd).0 in
      let sender = (actor_named plan net.tx_virt).0 in
      let has = named.client k c at in
      let below : k < net_count plan = (let lt = there_below net.client k c at in let a = ap (λ (o : Option Net). option_map_or (λ (n : Net). length n.client) o 0) is in omega (arith, lt, a)) in
      let active = has_seat plan (NetClient k) client has 3 (outlet (client_queue k + 4)) refl in
      let free = has_seat plan (NetClient k) client has 2 (intake (client_queue k + 5)) refl in
      let there = sends_among 0 (net_count plan) k below in
      let zero_more : 0 + k ≡ k = omega arith in
      let takes = has_seat plan NetSender sender named.sender (suc (suc there.0)) (intake (client_queue k + 4)) (there.1 ∙ ap (λ n. Some (intake (client_queue n + 4))) zero_more) in
      let gives = has_seat plan NetSender sender named.sender (suc (suc (suc there.0))) (outlet (client_queue k + 5)) (there.2 ∙ ap (λ n. Some (outlet (client_queue n + 5))) zero_more) in
      let calm : hostiles cast sender ≡ false = hostile_there cast sender (SendingPart (sender_at 0 (frame_most plan) (net_place plan trace).pools)) (plays_calm plan trace cast plays NetSender sender named.sender (SendingPart (sender_at 0 (frame_most plan) (net_place plan trace).pools)) refl refl) in
      let one : takes.0 ≡ active.0 = some_is (sym takes.1 ∙ active.1) in
      let other : gives.0 ≡ free.0 = some_is (sym gives.1 ∙ free.1) in
      let consumer : active.0.consumer.0 ≡ sender = sym (ap (λ (r : QueueRow). r.consumer.0) one) ∙ takes.2 in
      let producer : free.0.producer.0 ≡ sender = sym (ap (λ (r : QueueRow). r.producer.0) other) ∙ gives.2 in (
        wild_by (hostiles cast) (queues_of plan) (client_first 0 k + 4) active.0 active.1 (ap carries_pages active.3)
            ∙ (ap₂ (λ m n. hostiles cast m || hostiles cast n) active.2 consumer ∙ (ap (λ b. hostiles cast client || b) calm ∙ or_false (hostiles cast client))),
        wild_by (hostiles cast) (queues_of plan) (client_first 0 k + 5) free.0 free.1 (ap carries_pages free.3)
            ∙ (ap₂ (λ m n. hostiles cast m || hostiles cast n) producer free.2 ∙ ap (λ b. b || hostiles cast client) calm),
      )

  -- which it is where the plan has a hostile client there
  pub client_wild : (k : ℕ) (c : NetClientKeys) → slice_get net.client k ≡ Some c → wild_in (hostiles cast) (queues_of plan) (client_first 0 k + 4) ≡ is_net_rogue plan k
  client_wild k c at = (ends_wild k c at).0 ∙ by (is_net_rogue plan k) refl
    where
      owner : ℕ
      owner = (actor_named plan c.pd).0

      by : (t : Bool) → is_net_rogue plan k ≡ t → hostiles cast owner ≡ t
      by true hostile =
          let part : job_part plan trace (NetClient k) ≡ Some (HostilePart (net_rogue_at 0 k (client_pools plan k) (acts_at trace.net_acts k))) = rw hostile refl in
          let rogue = plays_rogue plan trace cast plays (NetClient k) owner (named.client k c at) (net_rogue_at 0 k (client_pools plan k) (acts_at trace.net_acts k)) part in
          hostile_there cast owner (HostilePart rogue.0) rogue.1
      by false calm =
          let part : job_part plan trace (NetClient k) ≡ Some (NetworkPart (client_at 0 k (client_program plan trace k) (client_mac plan k) (own_pools (client_pools plan k)))) = rw calm refl in
          hostile_there cast owner (NetworkPart (client_at 0 k (client_program plan trace k) (client_mac plan k) (own_pools (client_pools plan k)))) (plays_calm plan trace cast plays (NetClient k) owner (named.client k c at) (NetworkPart (client_at 0 k (client_program plan trace k) (client_mac plan k) (own_pools (client_pools plan k)))) part refl)
