-- The copier: what it must fit, what it stands for, and its row. It may drop the frame of a lease
-- where a look for a client's buffer answers no.
use Rattle.std.specs.Prelude.{◌≡◌, ◌⊎◌, ◌+◌, ◌≤◌, ◌&&◌, ℕ, nat_le, not, cond, Bool, true, false}
use Rattle.std.specs.Prelude.{Option, Some, None, is_some, is_none, List, [], ◌∷◌, ◌++◌, All}
use Rattle.std.specs.Prelude.{length, map, option_to_list}
use Rattle.std.specs.Option.{ForSome}
use Rattle.cargo_core.specs.declared.item.Body.{Body}
use Rattle.cargo_core.specs.declared.item.Body.TheVariants as Carried
use Rattle.cargo_core.specs.declared.item.QueueKind.TheVariants as Kind
use Rattle.cargo_core.specs.Items.{kind_of}
use Rattle.cargo_core.specs.Lists.{IsPrefix}
use Rattle.wire_core.specs.declared.names.QueueId.{QueueId}
use Rattle.wire_core.specs.declared.names.Event.{Event}
use Rattle.wire_core.specs.declared.names.Side.TheVariants.{Forward, Backward}
use Rattle.wire_core.specs.Bells.{bit}
use Rattle.wire_core.specs.Deeds.{Cargo}
use Rattle.wire_core.specs.Lists.{Passed}
use Rattle.wire_core.specs.Ends.{Role, Consumer, Producer, End}
use Rattle.wire_core.specs.Fates.{Reading, Came, Served, Refused, Other, Fate, fate_of, is_take_at}
use Rattle.wire_core.specs.Fates.{is_vain_at, without, marked, noes_at}
use Rattle.turn_kit.specs.Table.{Agrees, start_state}
use Rattle.turn_kit.specs.Turns.{Post, Round}
use Rattle.turn_kit.specs.Posts.{intake_post, outlet_post}
use Rattle.turn_kit.specs.Dropping.{dropping}
use Rattle.turn_kit.specs.Hands.{Balances, bodies_of, bodies_at}
use Rattle.buffer_kit.specs.Entries.{all_filled}
use Rattle.net_copier.specs.declared.Stage.{Stage}
use Rattle.net_copier.specs.declared.Stage.TheVariants as At
use Rattle.net_copier.specs.declared.NetCopier.{NetCopier}

-- the bytes that may be read by an entry's lease; none where it has no lease
abbrev pub leased_bytes : Cargo → List ℕ
leased_bytes (item, Carried.Lease lease) = lease.bytes
leased_bytes (item, Carried.Empty) = []
leased_bytes (item, Carried.Page page) = []

-- an entry of the leases is out of turn where its body is no lease, or one of more than 65,535
-- bytes
abbrev pub is_stray : Cargo → Bool
is_stray (item, Carried.Lease lease) = nat_le 65536 (length lease.bytes)
is_stray (item, Carried.Empty) = true
is_stray (item, Carried.Page page) = true

-- no entry is at hand, or this holds of the one that is
abbrev pub IfThere : Option Cargo → (Cargo → Type 0) → Type 0
IfThere None P = Unit {0}
IfThere (Some x) P = P x

-- the buffer for it isn't put
abbrev pub is_taken : Stage → Bool
is_taken At.Taken = true
is_taken At.Copied = false
is_taken At.Stray = false

-- the buffer for it is put, or it was dropped
abbrev pub is_copied : Stage → Bool
is_copied At.Taken = false
is_copied At.Copied = true
is_copied At.Stray = false

-- an entry that was taken is in turn, and one that strayed is not
abbrev pub IsAt : Stage → Cargo → Type 0
IsAt At.Taken x = is_stray x ≡ false
IsAt At.Copied x = is_stray x ≡ false
IsAt At.Stray x = is_stray x ≡ true

-- it needs a buffer: it has a lease, and took no buffer for it
abbrev pub is_wanting : NetCopier → Bool
is_wanting c = is_some c.lease && (is_none c.buffer && is_taken c.stage)

-- it owes the lease
abbrev pub is_returning : NetCopier → Bool
is_returning c = is_some c.lease && is_copied c.stage

-- what it has at hand is as its stage says; it has a buffer only for a lease in turn
pub record IsWork (c : NetCopier) : Type 0 where
  pub lease : IfThere c.lease (IsAt c.stage)
  pub buffered : is_some c.buffer ≡ true → (is_some c.lease ≡ true) × (c.stage ≡ At.Taken)

-- the ends are the copier's own, and as it keeps them; all are queues of the network, and so are
-- the entries in hand
pub record FitsCopier (ends : Role → ℕ → End) (c : NetCopier) : Type 0 where
  pub lease_input : Agrees (ends Consumer c.lease_input.queue.0) c.lease_input.state
  pub buffer_input : Agrees (ends Consumer c.buffer_input.queue.0) c.buffer_input.state
  pub buffer_output : Agrees (ends Producer c.buffer_output.queue.0) c.buffer_output.state
  pub lease_output : Agrees (ends Producer c.lease_output.queue.0) c.lease_output.state
  pub leases_come : (ends Consumer c.lease_input.queue.0).kind ≡ Kind.Net
  pub buffers_come : (ends Consumer c.buffer_input.queue.0).kind ≡ Kind.Net
  pub buffers_go : (ends Producer c.buffer_output.queue.0).kind ≡ Kind.Net
  pub leases_go : (ends Producer c.lease_output.queue.0).kind ≡ Kind.Net
  pub inputs_apart : c.lease_input.queue.0 ≡ c.buffer_input.queue.0 → ⊥
  pub outputs_apart : c.buffer_output.queue.0 ≡ c.lease_output.queue.0 → ⊥
  pub lease : ForSome c.lease (λ x. kind_of x.0 ≡ Kind.Net)
  pub buffer : ForSome c.buffer (λ x. kind_of x.0 ≡ Kind.Net)
  pub work : IsWork c

-- what a call is to the leases: each comes, and is served where a buffer is taken for it; under
-- drop it is refused where a look for one answers no
abbrev pub copier_word : (drops : Bool) (leases buffers : ℕ) → Reading
copier_word drops leases buffers before e = cond (is_take_at leases e) Came
    (cond (is_take_at buffers e) Served (cond (drops && is_vain_at Consumer buffers e) Refused
    Other))

-- what became of the leases by these calls
abbrev pub lease_fate : NetCopier → List Event → Fate
lease_fate c calls =
    fate_of (copier_word c.drops c.lease_input.queue.0 c.buffer_input.queue.0) calls

-- of each lease, whether it was dropped
abbrev pub leases_dropped : NetCopier → List Event → List Bool
leases_dropped c calls = (lease_fate c calls).dropped

-- it has a lease, which it neither copied nor dropped, and took no buffer for it
abbrev pub is_waiting : NetCopier → Bool
is_waiting c = is_some c.lease && (is_none c.buffer && not (is_copied c.stage))

-- its calls tell what became of the leases that it took: each is settled but one that waits, and
-- each look in vain for a buffer dropped one
pub record TellsLeases (c : NetCopier) (passed : Passed) : Type 0 where
  pub came : length (leases_dropped c passed.calls) + bit (is_waiting c) ≡ length
      (passed.taken c.lease_input.queue.0)
  pub waits : (lease_fate c passed.calls).waits ≡ is_waiting c
  pub each : noes_at Consumer c.buffer_input.queue.0 passed.calls
      ≡ marked (leases_dropped c passed.calls)

-- each lease that it took went back, or is in its hand; each buffer that it took was filled with
-- the lease of its place among those that weren't dropped, and was put, or is in its hand; each
-- buffer was put, or its lease dropped, before the lease went back, which was in turn; and where it
-- drops, its calls tell what became of the leases
pub record CopierStandsFor (c : NetCopier) (passed : Passed) : Type 0 where
  pub leases : passed.taken c.lease_input.queue.0 ≡ passed.sent c.lease_output.queue.0
      ++ option_to_list c.lease
  pub copies : passed.sent c.buffer_output.queue.0 ++ option_to_list c.buffer ≡ all_filled
      (map leased_bytes
      (without (leases_dropped c passed.calls) (passed.taken c.lease_input.queue.0)))
      (passed.taken c.buffer_input.queue.0)
  pub takes : length (passed.taken c.buffer_input.queue.0) ≡ length
      (passed.sent c.buffer_output.queue.0 ++ option_to_list c.buffer)
  pub puts : length (passed.sent c.buffer_output.queue.0) + marked (leases_dropped c passed.calls)
      ≡ length (passed.sent c.lease_output.queue.0) + bit (is_returning c)
  pub in_turn : All (λ (x : Cargo). is_stray x ≡ false) (passed.sent c.lease_output.queue.0)
  pub work : IsWork c
  pub tells : c.drops ≡ true → TellsLeases c passed

-- of the leases that it took in turn, which are all but for one that came last: what it put are the
-- client's buffers in their order, each with the bytes and the length of the lease of its place
-- among those that aren't dropped; it took no more buffers, with the dropped leases, than leases,
-- gave leases back as they came, and no more of them than it put buffers and dropped leases; and
-- where it drops, each look in vain for a buffer dropped one
pub record CopierRow (c : NetCopier) (passed : Passed) : Type 0 where
  pub leases : List Cargo
  pub stray : List Cargo
  pub taken : passed.taken c.lease_input.queue.0 ≡ leases ++ stray
  pub few : length stray ≤ 1
  pub in_turn : All (λ (x : Cargo). is_stray x ≡ false) leases
  pub out_of_turn : All (λ (x : Cargo). is_stray x ≡ true) stray
  pub copies : IsPrefix (passed.sent c.buffer_output.queue.0) (all_filled
      (map leased_bytes (without (leases_dropped c passed.calls) leases))
      (passed.taken c.buffer_input.queue.0))
  pub takes_for : length (passed.taken c.buffer_input.queue.0)
      + marked (leases_dropped c passed.calls) ≤ length leases
  pub gives_back : IsPrefix (passed.sent c.lease_output.queue.0) leases
  pub after_copy : length (passed.sent c.lease_output.queue.0) ≤ length
      (passed.sent c.buffer_output.queue.0) + marked (leases_dropped c passed.calls)
  pub each : c.drops ≡ true → noes_at Consumer c.buffer_input.queue.0 passed.calls
      ≡ marked (leases_dropped c passed.calls)
  pub settled : c.drops ≡ true → length (leases_dropped c passed.calls) ≤ length leases

-- what a copier stands for that never drops: each lease that it took went back, or is in its hand;
-- each buffer that it took was filled with the lease of its place, and was put, or is in its hand;
-- and each buffer was put before its lease, which was in turn
pub record HoldingCopierStands (c : NetCopier) (passed : Passed) : Type 0 where
  pub leases : passed.taken c.lease_input.queue.0 ≡ passed.sent c.lease_output.queue.0
      ++ option_to_list c.lease
  pub copies : passed.sent c.buffer_output.queue.0 ++ option_to_list c.buffer ≡ all_filled
      (map leased_bytes (passed.taken c.lease_input.queue.0)) (passed.taken c.buffer_input.queue.0)
  pub takes : length (passed.taken c.buffer_input.queue.0) ≡ length
      (passed.sent c.buffer_output.queue.0 ++ option_to_list c.buffer)
  pub puts : length (passed.sent c.buffer_output.queue.0) ≡ length
      (passed.sent c.lease_output.queue.0) + bit (is_returning c)
  pub in_turn : All (λ (x : Cargo). is_stray x ≡ false) (passed.sent c.lease_output.queue.0)
  pub work : IsWork c

-- the row of a copier that never drops. Of the leases that it took in turn, which are all but for
-- one that came last: what it put are the client's buffers in their order, each with the bytes and
-- the length of the lease of its place; it took no more buffers than leases, gave leases back as
-- they came, and no more of them than it put buffers
pub record HoldingCopierRow (c : NetCopier) (passed : Passed) : Type 0 where
  pub leases : List Cargo
  pub stray : List Cargo
  pub taken : passed.taken c.lease_input.queue.0 ≡ leases ++ stray
  pub few : length stray ≤ 1
  pub in_turn : All (λ (x : Cargo). is_stray x ≡ false) leases
  pub out_of_turn : All (λ (x : Cargo). is_stray x ≡ true) stray
  pub copies : IsPrefix (passed.sent c.buffer_output.queue.0) (all_filled
      (map leased_bytes leases) (passed.taken c.buffer_input.queue.0))
  pub takes_for : length (passed.taken c.buffer_input.queue.0) ≤ length leases
  pub gives_back : IsPrefix (passed.sent c.lease_output.queue.0) leases
  pub after_copy : length (passed.sent c.lease_output.queue.0) ≤ length
      (passed.sent c.buffer_output.queue.0)

-- one of its ends
abbrev pub CopierEnd : NetCopier → Role → ℕ → Type 0
CopierEnd c Consumer n = (n ≡ c.lease_input.queue.0) ⊎ (n ≡ c.buffer_input.queue.0)
CopierEnd c Producer n = (n ≡ c.buffer_output.queue.0) ⊎ (n ≡ c.lease_output.queue.0)

-- the queues stay, and whether it may drop
pub record SameCopier (old new : NetCopier) : Type 0 where
  pub lease_input : new.lease_input.queue ≡ old.lease_input.queue
  pub buffer_input : new.buffer_input.queue ≡ old.buffer_input.queue
  pub buffer_output : new.buffer_output.queue ≡ old.buffer_output.queue
  pub lease_output : new.lease_output.queue ≡ old.lease_output.queue
  pub drops : new.drops ≡ old.drops

-- a copier in its start state
pub record IsNewCopier (lease_active lease_free rx_active rx_free : QueueId) (drops : Bool)
    (c : NetCopier) : Type 0 where
  pub lease_input : c.lease_input ≡ record { queue = lease_active; state = start_state Forward }
  pub buffer_input : c.buffer_input ≡ record { queue = rx_free; state = start_state Forward }
  pub buffer_output : c.buffer_output ≡ record { queue = rx_active; state = start_state Backward }
  pub lease_output : c.lease_output ≡ record { queue = lease_free; state = start_state Backward }
  pub lease : c.lease ≡ None
  pub buffer : c.buffer ≡ None
  pub drop : c.drops ≡ drops
  pub last : c.turn.last ≡ 65535

-- what it has at hand stays
pub record SameWork (old new : NetCopier) : Type 0 where
  pub lease : new.lease ≡ old.lease
  pub stage : new.stage ≡ old.stage
  pub buffer : new.buffer ≡ old.buffer

-- the end where the client's buffers come
abbrev pub buffer_post : NetCopier → Post
buffer_post c = dropping c.drops (intake_post c.buffer_input)

-- its ends: it needs a lease while it has none, and a buffer while it has a lease and took no
-- buffer for it; it owes the buffer that is filled, and then the lease
abbrev pub copier_round : NetCopier → Round
copier_round c = record {
  posts = intake_post c.lease_input ∷ buffer_post c ∷ outlet_post c.buffer_output
      ∷ outlet_post c.lease_output ∷ [];
  needs = is_none c.lease ∷ is_wanting c ∷ is_some c.buffer ∷ is_returning c ∷ [];
  last = c.turn.last;
}

-- its ends where it waits for each
abbrev pub holding_copier_round : NetCopier → Round
holding_copier_round c = record {
  posts = intake_post c.lease_input ∷ intake_post c.buffer_input ∷ outlet_post c.buffer_output
      ∷ outlet_post c.lease_output ∷ [];
  needs = is_none c.lease ∷ is_wanting c ∷ is_some c.buffer ∷ is_returning c ∷ [];
  last = c.turn.last;
}

-- the bodies in its hand
abbrev pub copier_hand : NetCopier → List Body
copier_hand c = bodies_of (option_to_list c.lease ++ option_to_list c.buffer)

-- it keeps nothing
abbrev pub CopierBalances : NetCopier → Passed → Type 0
CopierBalances c passed = Balances [] (bodies_at passed.taken (c.lease_input.queue.0
    ∷ c.buffer_input.queue.0 ∷ [])) (bodies_at passed.sent (c.buffer_output.queue.0
    ∷ c.lease_output.queue.0 ∷ [])) (copier_hand c) []

-- the same without the last looks
abbrev pub copier_forgotten : NetCopier → NetCopier
copier_forgotten c = record c {
  lease_input = record c.lease_input { state = record c.lease_input.state { look = None } };
  buffer_input = record c.buffer_input { state = record c.buffer_input.state { look = None } };
  buffer_output = record c.buffer_output { state = record c.buffer_output.state { look = None } };
  lease_output = record c.lease_output { state = record c.lease_output.state { look = None } };
}
