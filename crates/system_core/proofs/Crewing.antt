use Rattle.std.proofs.Common.{◌≡◌, ◌+◌, ◌*◌, ◌++◌, ◌⊎◌, inl, inr, ◌≤◌, ℕ, zero, suc, Some, None, List, [], ◌∷◌, length, length-append, map, slice_get, refl, sym, ap, ◌∙◌, subst, arith}
use Rattle.std.specs.Option.{option_map_or}
use Rattle.std.proofs.lemmas.List.{length-map}
use Rattle.wire_core.specs.declared.names.QueueRow.{QueueRow}
use Rattle.sdf_plan.specs.declared.plan.Plan.{Plan}
use Rattle.sdf_plan.specs.declared.plan.Net.{Net}
use Rattle.sdf_plan.specs.declared.plan.NetClient.{NetClient}
use Rattle.sdf_plan.specs.declared.plan.Serial.{Serial}
use Rattle.sdf_plan.specs.declared.plan.SerialClient.{SerialClient}
use Rattle.sdf_plan.specs.declared.plan.Blk.{Blk}
use Rattle.sdf_plan.specs.declared.plan.BlkClient.{BlkClient}
use Rattle.region_layout.specs.Rows.{queues_of, eth_number, uart_number, disk_number}
use Rattle.play_core.specs.Wants.{intake}
use Rattle.play_core.proofs.Lists.{some_is, map_from}
use Rattle.layout_laws.specs.Jobs.Jobs.{Job, HasJob}
use Rattle.layout_laws.specs.Jobs.Jobs as jobs
use Rattle.sdf_check.specs.Valid.{Valid}
use Rattle.region_layout.proofs.ValidLemmas.{net_counts, serial_counts, blk_counts}
use Rattle.layout_laws.specs.Seats.Ends.{job_ends}
use Rattle.cast_core.specs.Known.{HasRows}
use Rattle.cast_core.proofs.Tables.{has_rows}
use Rattle.layout_laws.proofs.SeatsLemmas.Seats.{has_seat}
use Rattle.cast_core.specs.Sources.{first_serial, first_blk}
use Rattle.layout_laws.proofs.SeatsLemmas.Naming.{net_named, serial_named, blk_named}
use Rattle.system_core.specs.States.{crew_of, nobody}
use Rattle.system_core.specs.Crews.{number_named, net_crew, serial_crew, blk_crew, IsTaker, AreTakers}

same_lists : {T : Type 0} (xs ys : List T) → length xs ≡ length ys → ((k : ℕ) (x y : T) → slice_get xs k ≡ Some x → slice_get ys k ≡ Some y → x ≡ y) → xs ≡ ys
same_lists [] [] n same = refl
same_lists [] (y ∷ ys) n same = cc
same_lists (x ∷ xs) [] n same = cc
same_lists (x ∷ xs) (y ∷ ys) n same = let e : x ≡ y = same 0 x y refl refl in let r = same_lists xs ys (omega (arith, n)) (λ k a b. same (suc k) a b) in ap (λ z. z ∷ xs) e ∙ ap (λ zs. y ∷ zs) r

-- who takes where the actors of these numbers do is one of these
takers_are : {C : Type 0} (rows : List QueueRow) (first apart : ℕ) (numbers : List ℕ) (clients : List C) (name : C → ℕ) → AreTakers rows first apart (length clients) numbers
    → ((c : ℕ) (x : C) → slice_get clients c ≡ Some x → IsTaker rows (first + apart * c) (name x)) → numbers ≡ map name clients
takers_are rows first apart numbers clients name takers seat =
    same_lists numbers (map name clients) (takers.many ∙ sym (length-map clients name))
    (λ c k j p q.
    let x = map_from name clients c j q in
    let row = takers.each c k p in
    let own = seat c x.0 x.1 in
    let same : row.0 ≡ own.0 = some_is (sym row.1 ∙ own.1) in
    sym row.2 ∙ (ap (λ (r : QueueRow). r.consumer.0) same ∙ (own.2 ∙ x.2)))

-- one number more
pub takers_more : (rows : List QueueRow) (first apart count : ℕ) (numbers new : List ℕ) (actor : ℕ) → AreTakers rows first apart count numbers → new ≡ numbers ++ actor ∷ [] → IsTaker rows (first + apart * count) actor → AreTakers rows first apart (count + 1) new
takers_more rows first apart count numbers new actor old is one = record {
  many = let n : length numbers ≡ count = old.many in let m : length new ≡ length numbers + 1 = ap length is ∙ length-append numbers (actor ∷ []) in omega (arith, n, m);
  each = λ c k at. elim (last_or numbers actor k c (ap (λ xs. slice_get xs c) (sym is) ∙ at)) [
    | inl h ↦ old.each c k h
    | inr h ↦ subst (IsTaker rows (first + apart * c)) h.1 (subst (λ n. IsTaker rows (first + apart * n) actor) (sym (h.0 ∙ old.many)) one)
  ];
}
  where
    last_or : {X : Type 0} (xs : List X) (l x : X) (k : ℕ) → slice_get (xs ++ l ∷ []) k ≡ Some x → (slice_get xs k ≡ Some x) ⊎ ((k ≡ length xs) × (l ≡ x))
    last_or [] l x zero at = inr (refl, some_is at)
    last_or [] l x (suc k) at = cc
    last_or (y ∷ xs) l x zero at = inl at
    last_or (y ∷ xs) l x (suc k) at = elim (last_or xs l x k at) [ inl h ↦ inl h | inr h ↦ inr (ap suc h.0, h.1) ]

-- a queue has one taker
one_taker : (rows : List QueueRow) (queue a b : ℕ) → IsTaker rows queue a → IsTaker rows queue b → a ≡ b
one_taker rows queue a b x y = sym x.2 ∙ (ap (λ (r : QueueRow). r.consumer.0) (some_is (sym x.1 ∙ y.1)) ∙ y.2)

module _ (plan : Plan) (valid : Valid plan) (rows : List QueueRow) (rows_are : rows ≡ queues_of plan) where
  pub rows_enough : HasRows plan rows
  rows_enough = subst (HasRows plan) (sym rows_are) (has_rows plan valid)

  -- the actor of a job takes where the job does
  takes : (job : Job) (k : ℕ) → HasJob plan job k → (queue : ℕ) → slice_get (job_ends plan job) 0 ≡ Some (intake queue) → IsTaker rows queue k
  takes job k has queue at =
      let seat = has_seat plan job k has 0 (intake queue) at in
      (seat.0, ap (λ rs. slice_get rs queue) rows_are ∙ seat.1, seat.2)

  pub net_is : (net : Net) → plan.net ≡ Some net → (numbers : List ℕ) → AreTakers rows (10) 6 (length net.client) numbers → (device : ℕ) → IsTaker rows (0) device → crew_of (Some device) numbers ≡ net_crew plan
  net_is net has numbers takers device at =
      let named = net_named plan net has in
      let who : device ≡ (eth_number plan).0 = one_taker rows (0) device (eth_number plan).0 at (takes jobs.EthDevice (eth_number plan).0 named.device 0 refl) in
      let all = takers_are rows (10) 6 numbers net.client (λ (c : NetClient). number_named plan c.pd) takers (λ c x client.
      let e : 8 + 6 * c + 2 ≡ 10 + 6 * c = omega arith in
      subst (λ n. IsTaker rows n (number_named plan x.pd)) e (takes (jobs.NetClient c) (number_named plan x.pd) (named.client c x client) (8 + 6 * c + 2) refl)) in
      ap (λ k. crew_of (Some k) numbers) who
      ∙ (ap (crew_of (Some (eth_number plan).0)) all ∙ sym (ap (λ o. option_map_or (λ (n : Net). crew_of (Some (eth_number plan).0) (map (λ (c : NetClient). number_named plan c.pd) n.client)) o nobody) has))

  pub serial_is : (serial : Serial) → plan.serial ≡ Some serial → (first : ℕ) → first ≡ first_serial plan → (numbers : List ℕ) → AreTakers rows (first + 4) 2 (length serial.client) numbers → (device : ℕ) → IsTaker rows (first + 1) device → crew_of (Some device) numbers ≡ serial_crew plan
  serial_is serial has first first_is numbers takers device at =
      let named = serial_named plan serial has in
      let who : device ≡ (uart_number plan).0 =
      one_taker rows (first + 1) device (uart_number plan).0 at (subst (λ n. IsTaker rows (n + 1) (uart_number plan).0) (sym first_is) (takes jobs.UartDevice (uart_number plan).0 named.device (first_serial plan + 1) refl)) in
      let all = takers_are rows (first + 4) 2 numbers serial.client (λ (c : SerialClient). number_named plan c.pd) takers (λ c x client.
      subst (λ n. IsTaker rows (n + 4 + 2 * c) (number_named plan x.pd)) (sym first_is) (takes (jobs.SerialClient c) (number_named plan x.pd) (named.client c x client) (first_serial plan + 4 + 2 * c) refl)) in
      ap (λ k. crew_of (Some k) numbers) who
      ∙ (ap (crew_of (Some (uart_number plan).0)) all ∙ sym (ap (λ o. option_map_or (λ (n : Serial). crew_of (Some (uart_number plan).0) (map (λ (c : SerialClient). number_named plan c.pd) n.client)) o nobody) has))

  pub blk_is : (blk : Blk) → plan.blk ≡ Some blk → (first : ℕ) → first ≡ first_blk plan → (numbers : List ℕ) → AreTakers rows (first + 5) 2 (length blk.client) numbers → (device : ℕ) → IsTaker rows first device → crew_of (Some device) numbers ≡ blk_crew plan
  blk_is blk has first first_is numbers takers device at =
      let named = blk_named plan blk has in
      let who : device ≡ (disk_number plan).0 = one_taker rows first device (disk_number plan).0 at (subst (λ n. IsTaker rows n (disk_number plan).0) (sym first_is) (takes jobs.DiskDevice (disk_number plan).0 named.device (first_blk plan) refl)) in
      let all = takers_are rows (first + 5) 2 numbers blk.client (λ (c : BlkClient). number_named plan c.pd) takers (λ c x client.
      subst (λ n. IsTaker rows (n + 5 + 2 * c) (number_named plan x.pd)) (sym first_is) (takes (jobs.BlkClient c) (number_named plan x.pd) (named.client c x client) (first_blk plan + 5 + 2 * c) refl)) in
      ap (λ k. crew_of (Some k) numbers) who
      ∙ (ap (crew_of (Some (disk_number plan).0)) all ∙ sym (ap (λ o. option_map_or (λ (n : Blk). crew_of (Some (disk_number plan).0) (map (λ (c : BlkClient). number_named plan c.pd) n.client)) o nobody) has))

  pub blk_count : (blk : Blk) → plan.blk ≡ Some blk → length blk.client ≤ 8
  blk_count blk has = (blk_counts plan blk valid has).1

  pub net_count : (net : Net) → plan.net ≡ Some net → length net.client ≤ 8
  net_count net has = (net_counts plan net valid has).0.1

  pub serial_count : (serial : Serial) → plan.serial ≡ Some serial → length serial.client ≤ 8
  serial_count serial has = (serial_counts plan serial valid has).1

pub no_net : (plan : Plan) → plan.net ≡ None → nobody ≡ net_crew plan
no_net plan none = sym (ap (λ o. option_map_or (λ (n : Net). crew_of (Some (eth_number plan).0) (map (λ (c : NetClient). number_named plan c.pd) n.client)) o nobody) none)

pub no_serial : (plan : Plan) → plan.serial ≡ None → nobody ≡ serial_crew plan
no_serial plan none = sym (ap (λ o. option_map_or (λ (n : Serial). crew_of (Some (uart_number plan).0) (map (λ (c : SerialClient). number_named plan c.pd) n.client)) o nobody) none)

pub no_blk_crew : (plan : Plan) → plan.blk ≡ None → nobody ≡ blk_crew plan
no_blk_crew plan none = sym (ap (λ o. option_map_or (λ (n : Blk). crew_of (Some (disk_number plan).0) (map (λ (c : BlkClient). number_named plan c.pd) n.client)) o nobody) none)
