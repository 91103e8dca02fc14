-- Actors drop no more than their ends look in vain, and so the network and the serial class.
use Rattle.std.proofs.Common.{◌≡◌, ◌⊎◌, ◌==◌, ◌||◌, ◌&&◌, ◌≤◌, ◌<◌, ◌+◌, ◌++◌, ℕ, zero, suc, Bool, true, false, cond, Option, Some, None, List, [], ◌∷◌, length, slice_get, refl, sym, ap, ◌∙◌, subst, arith, inl, inr}
use Rattle.std.specs.Option.{option_map_or}
use Rattle.std.proofs.lemmas.Bool.{and_parts, cases_lt, or_left, or_right, eq-eqb, eqb-true}
use Rattle.std.proofs.lemmas.List.{length-map}
use Rattle.wire_core.specs.declared.names.Entry.{Entry}
use Rattle.wire_core.specs.Bells.{bit}
use Rattle.wire_core.specs.Ends.{Role, Consumer, Producer, role_of}
use Rattle.wire_core.specs.Fates.{is_vain_at}
use Rattle.wire_core.specs.Journal.{History}
use Rattle.wire_core.specs.Marks.{Drops, dropped, is_role, is_vain_look, sum_below}
use Rattle.sdf_plan.specs.declared.plan.Plan.{Plan}
use Rattle.trace_text.specs.declared.trace.Trace.{Trace}
use Rattle.trace_text.specs.Events.{net_clients}
use Rattle.serial_virt.specs.Shares.{policy_at}
use Rattle.play_core.proofs.Lists.{some_is}
use Rattle.layout_laws.specs.Jobs.Jobs.{Job, EthDevice, EthDriver, NetReceiver, NetSender, NetCopier, NetClient, UartDevice, UartDriver, SerialReceiver, SerialSender, SerialClient, DiskDevice, DiskDriver, BlkVirtualiser, BlkClient}
use Rattle.cast_core.specs.Casts.{calm_part, net_place}
use Rattle.cast_core.specs.Sources.{net_drops}
use Rattle.cast_core.proofs.Listing.{value_count}
use Rattle.play_core.specs.Looks.{drops_at, noes_together}
use Rattle.play_core.specs.Moved.{Moved, Seat, gone_at, moved}
use Rattle.play_core.specs.Wants.{intake}
use Rattle.play_core.proofs.Looking.{drops_within}
use Rattle.net_law.specs.Hops.Hops.{net_gone}
use Rattle.net_law.specs.Parts.Numbers.{client_first, policy_at as for_client}
use Rattle.net_law.specs.TxParts.Numbers.{NetPlace}
use Rattle.serial_law.specs.Hops.Hops.{gone_from, serial_gone}
use Rattle.serial_law.specs.Serial.{SerialClass}
use Rattle.actor_set.specs.Parts.{Part}
use Rattle.actor_set.specs.Laws.Kinds.{drop_seats, dropping_ends, has_seat}
use Rattle.cast_bound.specs.Dropping.{drops_in, serial_seats, copier_seats, net_seats, line_seats, plan_seats, DropOnlyAt}

or_split : (a b : Bool) → (a || b) ≡ true → (a ≡ true) ⊎ (b ≡ true)
or_split true b h = inl refl
or_split false b h = inr h

both : (a b : Bool) → a ≡ true → b ≡ true → (a && b) ≡ true
both a b h k = rw h k

same_role : (a b : Role) → is_role a b ≡ true → is_role b a ≡ true
same_role Consumer Consumer h = refl
same_role Consumer Producer h = h
same_role Producer Consumer h = h
same_role Producer Producer h = refl

-- a look in vain at one of these ends is a drop where they drop
at_seats : (seats : List Seat) (e : Entry) → is_vain_look e.event.op e.event.answer ≡ true → has_seat seats (role_of e.event.op) e.event.queue.0 ≡ true → drops_at seats e ≡ true
at_seats [] e vain has = has
at_seats (s ∷ seats) e vain has = elim (or_split (is_role s.role (role_of e.event.op) && (s.queue == e.event.queue.0)) (has_seat seats (role_of e.event.op) e.event.queue.0) has) [
  | inl here ↦
      let parts = and_parts (is_role s.role (role_of e.event.op)) (s.queue == e.event.queue.0) here in
      let queue : (e.event.queue.0 == s.queue) ≡ true = eq-eqb e.event.queue.0 s.queue (sym (eqb-true s.queue e.event.queue.0 parts.1)) in
      or_left (is_vain_at s.role s.queue e.event) (drops_at seats e)
      (both (is_vain_look e.event.op e.event.answer) (is_role (role_of e.event.op) s.role && (e.event.queue.0 == s.queue)) vain
      (both (is_role (role_of e.event.op) s.role) (e.event.queue.0 == s.queue) (same_role s.role (role_of e.event.op) parts.0) queue))
  | inr there ↦ or_right (is_vain_at s.role s.queue e.event) (drops_at seats e) (at_seats seats e vain there)
]

-- what is dropped in a cast whose actors drop at these ends alone is a drop at one of them
in_seats : (cast : List Part) (seats : List Seat) → DropOnlyAt seats cast → (e : Entry) → drops_in cast e ≡ true → drops_at seats e ≡ true
in_seats cast seats only e h =
    let parts = and_parts (is_vain_look e.event.op e.event.answer) (option_map_or (λ p. has_seat (drop_seats p) (role_of e.event.op) e.event.queue.0) (slice_get cast e.actor.0) false) h in
    at_seats seats e parts.0 (by (slice_get cast e.actor.0) refl parts.1)
  where
    by : (o : Option Part) → slice_get cast e.actor.0 ≡ o → option_map_or (λ p. has_seat (drop_seats p) (role_of e.event.op) e.event.queue.0) o false ≡ true → has_seat seats (role_of e.event.op) e.event.queue.0 ≡ true
    by None is none = absurd cc
    by (Some p) is there = only e.actor.0 p is (role_of e.event.op) e.event.queue.0 there

bit_less : (a b : Bool) → (a ≡ true → b ≡ true) → bit a ≤ bit b
bit_less false b h = omega arith
bit_less true b h = let is : bit b ≡ 1 = ap bit (h refl) in omega (arith, is)

-- where fewer entries are drops, fewer are dropped
dropped_less : (d f : Drops) (journal : List Entry) → ((e : Entry) → d e ≡ true → f e ≡ true) → dropped d journal ≤ dropped f journal
dropped_less d f [] h = omega arith
dropped_less d f (e ∷ es) h =
    let rest = dropped_less d f es h in
    let one = bit_less (d e) (f e) (h e) in
    omega (arith, rest, one)

-- looks in vain at the clients' ends where bytes are dropped are bytes that were dropped
gone_is : (m : Moved) (all ds : List Bool) (c : ℕ) (qs : List ℕ) → ((k : ℕ) → policy_at all (c + k) ≡ policy_at ds k) → noes_together (dropping_ends qs ds) m ≤ gone_from all c qs m
gone_is m all ds c [] same = omega arith
gone_is m all [] c (q ∷ qs) same = omega arith
gone_is m all (true ∷ ds) c (q ∷ qs) same =
    let rest = gone_is m all ds (c + 1) qs (λ k. let n : c + 1 + k ≡ c + suc k = omega arith in ap (policy_at all) n ∙ same (suc k)) in
    let n : c ≡ c + 0 = omega arith in
    let policy : policy_at all c ≡ true = ap (policy_at all) n ∙ same 0 in
    let first : gone_at (policy_at all c) m Producer q ≡ m.noes Producer q = ap (λ b. cond b (m.noes Producer q) 0) policy in
    omega (arith, rest, first)
gone_is m all (false ∷ ds) c (q ∷ qs) same =
    let rest = gone_is m all ds (c + 1) qs (λ k. let n : c + 1 + k ≡ c + suc k = omega arith in ap (policy_at all) n ∙ same (suc k)) in
    omega (arith, rest)

-- and so of the whole class
pub serial_gone_is : (c : SerialClass) (m : Moved) → noes_together (serial_seats c) m ≤ serial_gone c m
serial_gone_is c m =
    let d = gone_is m c.drops c.drops 0 c.client_rx (λ k. let n : 0 + k ≡ k = omega arith in ap (policy_at c.drops) n) in
    omega (arith, d)

-- looks in vain at the copiers' ends where frames are dropped are frames that they dropped
copiers_gone : (net : NetPlace) (m : Moved) (count : ℕ) → noes_together (copier_seats net count) m ≡ sum_below (λ k. gone_at (for_client net.drops k) m Consumer (client_first net.first k + 3)) count
copiers_gone net m zero = refl
copiers_gone net m (suc j) = by (for_client net.drops j) (copiers_gone net m j)
  where
    by : (t : Bool) → noes_together (copier_seats net j) m ≡ sum_below (λ k. gone_at (for_client net.drops k) m Consumer (client_first net.first k + 3)) j → noes_together (cond t (intake (client_first net.first j + 3) ∷ copier_seats net j) (copier_seats net j)) m ≡ sum_below (λ k. gone_at (for_client net.drops k) m Consumer (client_first net.first k + 3)) j + gone_at t m Consumer (client_first net.first j + 3)
    by true rest = omega (arith, rest)
    by false rest = omega (arith, rest)

-- and so of the whole network
pub net_gone_is : (net : NetPlace) (m : Moved) → noes_together (net_seats net) m ≡ net_gone net m
net_gone_is net m = by net.device_drops
  where
    by : (t : Bool) → noes_together (cond t (intake net.first ∷ copier_seats net (length net.macs)) (copier_seats net (length net.macs))) m ≡ gone_at t m Consumer net.first + sum_below (λ k. gone_at (for_client net.drops k) m Consumer (client_first net.first k + 3)) (length net.macs)
    by true = let rest = copiers_gone net m (length net.macs) in omega (arith, rest)
    by false = let rest = copiers_gone net m (length net.macs) in omega (arith, rest)

-- ends in two lists looked in vain as often as those of each
pub noes_joined : (a b : List Seat) (m : Moved) → noes_together (a ++ b) m ≡ noes_together a m + noes_together b m
noes_joined [] b m = omega arith
noes_joined (s ∷ a) b m = let rest = noes_joined a b m in omega (arith, rest)

-- a cast that drops at these ends alone drops no more than they looked in vain
pub cast_dropped : (cast : List Part) (seats : List Seat) (history : History) (journal : List Entry) → DropOnlyAt seats cast → dropped (drops_in cast) journal ≤ noes_together seats (moved history journal)
cast_dropped cast seats history journal only =
    let a = dropped_less (drops_in cast) (drops_at seats) journal (in_seats cast seats only) in
    let b = drops_within seats history journal in
    omega (arith, a, b)

-- an end of the first of two lists, or of the second
in_first : (a b : List Seat) (r : Role) (n : ℕ) → has_seat a r n ≡ true → has_seat (a ++ b) r n ≡ true
in_first [] b r n h = absurd cc
in_first (s ∷ a) b r n h = elim (or_split (is_role s.role r && (s.queue == n)) (has_seat a r n) h) [
  | inl here ↦ or_left (is_role s.role r && (s.queue == n)) (has_seat (a ++ b) r n) here
  | inr there ↦ or_right (is_role s.role r && (s.queue == n)) (has_seat (a ++ b) r n) (in_first a b r n there)
]

in_second : (a b : List Seat) (r : Role) (n : ℕ) → has_seat b r n ≡ true → has_seat (a ++ b) r n ≡ true
in_second [] b r n h = h
in_second (s ∷ a) b r n h = or_right (is_role s.role r && (s.queue == n)) (has_seat (a ++ b) r n) (in_second a b r n h)

-- an end that stands before others where so it is, and one of the others
is_front : (s : Seat) (seats : List Seat) (r : Role) (n : ℕ) (t : Bool) → has_seat (cond t (s ∷ []) []) r n ≡ true → has_seat (cond t (s ∷ seats) seats) r n ≡ true
is_front s seats r n true h = elim (or_split (is_role s.role r && (s.queue == n)) false h) [
  | inl here ↦ or_left (is_role s.role r && (s.queue == n)) (has_seat seats r n) here
  | inr none ↦ absurd cc
]
is_front s seats r n false h = absurd cc

is_behind : (s : Seat) (seats : List Seat) (r : Role) (n : ℕ) (t : Bool) → has_seat seats r n ≡ true → has_seat (cond t (s ∷ seats) seats) r n ≡ true
is_behind s seats r n true h = or_right (is_role s.role r && (s.queue == n)) (has_seat seats r n) h
is_behind s seats r n false h = h

-- where an end is one only if so it is
is_so : (s : Seat) (r : Role) (n : ℕ) (t : Bool) → has_seat (cond t (s ∷ []) []) r n ≡ true → t ≡ true
is_so s r n true h = refl
is_so s r n false h = absurd cc

-- the end at which the copier of one of so many clients drops is one of theirs
copier_there : (net : NetPlace) (count k : ℕ) → k < count → (r : Role) (n : ℕ) → has_seat (cond (for_client net.drops k) (intake (client_first net.first k + 3) ∷ []) []) r n ≡ true → has_seat (copier_seats net count) r n ≡ true
copier_there net zero k below r n h = absurd (omega (arith, below))
copier_there net (suc j) k below r n h = elim (cases_lt k j) [
  | inl less ↦ is_behind (intake (client_first net.first j + 3)) (copier_seats net j) r n (for_client net.drops j) (copier_there net j k less r n h)
  | inr least ↦
      let same : k ≡ j = omega (arith, below, least) in
      is_front (intake (client_first net.first j + 3)) (copier_seats net j) r n (for_client net.drops j)
      (subst (λ i. has_seat (cond (for_client net.drops i) (intake (client_first net.first i + 3) ∷ []) []) r n ≡ true) same h)
]

-- a client with a policy to drop is one of those with policies
policy_within : (drops : List Bool) (k : ℕ) → for_client drops k ≡ true → k < length drops
policy_within [] k h = absurd cc
policy_within (d ∷ drops) zero h = omega arith
policy_within (d ∷ drops) (suc k) h = let rest = policy_within drops k h in omega (arith, rest)

-- a part that drops nowhere
no_seat : (q p : Part) → Some q ≡ Some p → drop_seats q ≡ [] → (r : Role) (n : ℕ) → has_seat (drop_seats p) r n ≡ true → ⊥
no_seat q p is none r n h =
    let no : true ≡ false = sym h ∙ (ap (λ (z : Part). has_seat (drop_seats z) r n) (some_is (sym is)) ∙ ap (λ seats. has_seat seats r n) none) in
    absurd cc

-- the part of a copier drops at ends of the plan's network alone
copier_in : (plan : Plan) (trace : Trace) (c : ℕ) (r : Role) (n : ℕ) → has_seat (cond (for_client (net_drops plan) c) (intake (client_first 0 c + 3) ∷ []) []) r n ≡ true → has_seat (net_seats (net_place plan trace)) r n ≡ true
copier_in plan trace c r n h =
    let some = policy_within (net_drops plan) c (is_so (intake (client_first 0 c + 3)) r n (for_client (net_drops plan) c) h) in
    let many : length (net_drops plan) ≡ length (net_clients plan) = simp length-map in
    let macs : length (net_place plan trace).macs ≡ length (net_clients plan) = value_count (length (net_clients plan)) _ in
    let below : c < length (net_place plan trace).macs = omega (arith, some, many, macs) in
    copier_there (net_place plan trace) (length (net_place plan trace).macs) c below r n h

-- the part of a job drops at ends of the plan's network and its serial clients alone
pub job_seats : (plan : Plan) (trace : Trace) (job : Job) (p : Part) → calm_part plan trace job ≡ Some p → (r : Role) (n : ℕ) → has_seat (drop_seats p) r n ≡ true → has_seat (plan_seats plan trace) r n ≡ true
job_seats plan trace EthDevice p is r n h = absurd (no_seat _ p is refl r n h)
job_seats plan trace EthDriver p is r n h = absurd (no_seat _ p is refl r n h)
job_seats plan trace NetReceiver p is r n h = absurd (no_seat _ p is refl r n h)
job_seats plan trace NetSender p is r n h = absurd (no_seat _ p is refl r n h)
job_seats plan trace (NetCopier c) p is r n h = in_first (net_seats (net_place plan trace)) (line_seats plan) r n (copier_in plan trace c r n (sym (ap (λ (z : Part). has_seat (drop_seats z) r n) (some_is (sym is))) ∙ h))
job_seats plan trace (NetClient c) p is r n h = absurd (no_seat _ p is refl r n h)
job_seats plan trace UartDevice p is r n h = absurd (no_seat _ p is refl r n h)
job_seats plan trace UartDriver p is r n h = absurd (no_seat _ p is refl r n h)
job_seats plan trace SerialReceiver p is r n h = in_second (net_seats (net_place plan trace)) (line_seats plan) r n (sym (ap (λ (z : Part). has_seat (drop_seats z) r n) (some_is (sym is))) ∙ h)
job_seats plan trace SerialSender p is r n h = absurd (no_seat _ p is refl r n h)
job_seats plan trace (SerialClient c) p is r n h = absurd (no_seat _ p is refl r n h)
job_seats plan trace DiskDevice p is r n h = absurd (no_seat _ p is refl r n h)
job_seats plan trace DiskDriver p is r n h = absurd (no_seat _ p is refl r n h)
job_seats plan trace BlkVirtualiser p is r n h = absurd (no_seat _ p is refl r n h)
job_seats plan trace (BlkClient c) p is r n h = absurd (no_seat _ p is refl r n h)
