use Rattle.std.proofs.Common.{◌≡◌, ◌⊎◌, ◌<◌, ◌≤◌, ◌+◌, ◌*◌, ◌++◌, ℕ, zero, suc, Bool, true, false, max, is_some, Some, None, Option, List, [], ◌∷◌, length, map, flat_map, slice_get, refl, sym, ap, ◌∙◌, subst, arith, inl, inr, ⊎_elim}
use Rattle.std.specs.Option.{option_map_or, option_map}
use Rattle.std.proofs.lemmas.Bool.{cases_lt}
use Rattle.std.proofs.lemmas.List.{map-append}
use Rattle.sdf_plan.specs.declared.plan.Plan.{Plan}
use Rattle.sdf_plan.specs.declared.plan.Net.{Net}
use Rattle.sdf_plan.specs.declared.plan.NetClient.{NetClient}
use Rattle.sdf_plan.specs.declared.plan.Serial.{Serial}
use Rattle.sdf_plan.specs.declared.plan.SerialClient.{SerialClient}
use Rattle.sdf_plan.specs.declared.plan.Blk.{Blk}
use Rattle.sdf_plan.specs.declared.plan.BlkClient.{BlkClient}
use Rattle.trace_text.specs.declared.trace.Trace.{Trace}
use Rattle.sdf_check.specs.Names.{net_domains, net_client_domains, serial_domains, serial_client_domains, blk_domains, blk_client_domains}
use Rattle.sdf_check.specs.ClassRules.{class_domains, net_names, serial_names, blk_names}
use Rattle.sdf_check.specs.Valid.{Valid}
use Rattle.sdf_check.proofs.ClassLemmas.{domains_same}
use Rattle.region_layout.specs.Rows.{one_if, acting_count, actors_of, eth_number, uart_number, disk_number, net_queues, serial_queues, blk_queues, queues_of}
use Rattle.region_layout.proofs.SameLemmas.{queues_same}
use Rattle.region_layout.proofs.NameLemmas.{acting_and_devices}
use Rattle.expect_core.specs.Budgets.{counts_of, most_ends}
use Rattle.expect_core.specs.Budgets as Counted
use Rattle.layout_laws.specs.Sound.{IsActor}
use Rattle.layout_laws.proofs.Lists.{all-at}
use Rattle.layout_laws.proofs.Acting.{class_acts}
use Rattle.layout_laws.proofs.Once.{domains_once}
use Rattle.layout_laws.specs.RegionLaws.Budgets.Ends.{ends_of, IsMostEnds}
use Rattle.layout_laws.proofs.RegionLaws.BudgetsLemmas.Places.{IsIn, Distinct, some_is, distinct_of}
use Rattle.layout_laws.proofs.RegionLaws.BudgetsLemmas.Weights.{Weights, weight, numbers, AreWithin, ends_both, weight_both, numbers_both, within_both, weight_at, weight_most, distinct_both, in_left, in_right}
use Rattle.layout_laws.proofs.RegionLaws.BudgetsLemmas.Counts.{num, net_client_weights, net_weights, serial_client_weights, serial_weights, blk_client_weights, blk_weights, net_devices, serial_devices, blk_devices, net_ends, serial_ends, blk_ends}

map_from : {T U : Type 0} (f : T → U) (xs : List T) (k : ℕ) (y : U) → slice_get (map f xs) k ≡ Some y → (x : T) × (slice_get xs k ≡ Some x) × (f x ≡ y)
map_from f [] k y h = cc
map_from f (a ∷ xs) zero y h = (a, refl, some_is h)
map_from f (a ∷ xs) (suc k) y h = map_from f xs k y h

map_in : {T U : Type 0} (f : T → U) (xs : List T) (x : T) → IsIn x xs → IsIn (f x) (map f xs)
map_in {T} f xs x s = go xs s.0 s.1
  where
    go : (xs : List T) (k : ℕ) → slice_get xs k ≡ Some x → IsIn (f x) (map f xs)
    go [] k h = cc
    go (y ∷ ys) zero h = (0, ap (λ z. Some (f z)) (some_is h))
    go (y ∷ ys) (suc k) h = let r = go ys k h in (suc r.0, r.1)

wider : (ws : Weights) (m n : ℕ) → m ≤ n → AreWithin ws m → AreWithin ws n
wider [] m n le within = tt
wider (w ∷ ws) m n le within = let here = within.0 in (omega (arith, here, le), wider ws m n le within.1)

no_in : {T : Type 0} (a : T) → IsIn a [] → ⊥
no_in a s = let e = s.1 in cc

module _ (plan : Plan) (valid : Valid plan) where
  abbrev of_net : Option Net → Weights
  of_net o = option_map_or (net_weights plan) o []

  abbrev of_serial : Option Serial → Weights
  of_serial o = option_map_or (serial_weights plan) o []

  abbrev of_blk : Option Blk → Weights
  of_blk o = option_map_or (blk_weights plan) o []

  abbrev domains : Weights
  domains = of_net plan.net ++ of_serial plan.serial ++ of_blk plan.blk

  abbrev devices : Weights
  devices = net_devices plan plan.net ++ serial_devices plan plan.serial ++ blk_devices plan plan.blk

  abbrev whole : Weights
  whole = domains ++ devices

  -- the queues of each class, by the weights of its actors
  net_all : (k : ℕ) (o : Option Net) → ends_of k (option_map_or (net_queues plan) o []) ≡ weight k (net_devices plan o) + weight k (of_net o)
  net_all k None = refl
  net_all k (Some x) = let e = net_ends plan k x in omega (arith, e)

  serial_all : (k : ℕ) (o : Option Serial) → ends_of k (option_map_or (serial_queues plan) o []) ≡ weight k (serial_devices plan o) + weight k (of_serial o)
  serial_all k None = refl
  serial_all k (Some x) = let e = serial_ends plan k x in omega (arith, e)

  blk_all : (k : ℕ) (o : Option Blk) → ends_of k (option_map_or (blk_queues plan) o []) ≡ weight k (blk_devices plan o) + weight k (of_blk o)
  blk_all k None = refl
  blk_all k (Some x) = let e = blk_ends plan k x in omega (arith, e)

  all_ends : (k : ℕ) → ends_of k (queues_of plan) ≡ weight k whole
  all_ends k =
      let same = ap (ends_of k) (queues_same plan) in
      let rows = ends_both k (option_map_or (net_queues plan) plan.net [] ++ option_map_or (serial_queues plan) plan.serial []) (option_map_or (blk_queues plan) plan.blk []) in
      let first = ends_both k (option_map_or (net_queues plan) plan.net []) (option_map_or (serial_queues plan) plan.serial []) in
      let all = weight_both k domains devices in
      let d2 = weight_both k (of_net plan.net ++ of_serial plan.serial) (of_blk plan.blk) in
      let d1 = weight_both k (of_net plan.net) (of_serial plan.serial) in
      let v2 = weight_both k (net_devices plan plan.net ++ serial_devices plan plan.serial) (blk_devices plan plan.blk) in
      let v1 = weight_both k (net_devices plan plan.net) (serial_devices plan plan.serial) in
      let n = net_all k plan.net in
      let s = serial_all k plan.serial in
      let b = blk_all k plan.blk in
      omega (arith, same, rows, first, all, d2, d1, v2, v1, n, s, b)

  -- the numbers of the domains are those of the names that the classes have
  net_flat : (cs : List NetClient) → numbers (flat_map (net_client_weights plan) cs) ≡ map (num plan) (flat_map net_client_domains cs)
  net_flat [] = refl
  net_flat (x ∷ cs) = ap (λ ns. num plan x.pd ∷ num plan x.copier ∷ ns) (net_flat cs)

  serial_flat : (cs : List SerialClient) → numbers (flat_map (serial_client_weights plan) cs) ≡ map (num plan) (flat_map serial_client_domains cs)
  serial_flat [] = refl
  serial_flat (x ∷ cs) = ap (λ ns. num plan x.pd ∷ ns) (serial_flat cs)

  blk_flat : (cs : List BlkClient) → numbers (flat_map (blk_client_weights plan) cs) ≡ map (num plan) (flat_map blk_client_domains cs)
  blk_flat [] = refl
  blk_flat (x ∷ cs) = ap (λ ns. num plan x.pd ∷ ns) (blk_flat cs)

  net_numbers : (o : Option Net) → numbers (of_net o) ≡ map (num plan) (option_map_or (λ (x : Net). net_domains x ++ flat_map net_client_domains x.client) o [])
  net_numbers None = refl
  net_numbers (Some x) = ap (λ ns. num plan x.driver ∷ num plan x.rx_virt ∷ num plan x.tx_virt ∷ ns) (net_flat x.client)

  serial_numbers : (o : Option Serial) → numbers (of_serial o) ≡ map (num plan) (option_map_or (λ (x : Serial). serial_domains x ++ flat_map serial_client_domains x.client) o [])
  serial_numbers None = refl
  serial_numbers (Some x) = ap (λ ns. num plan x.driver ∷ num plan x.rx_virt ∷ num plan x.tx_virt ∷ ns) (serial_flat x.client)

  blk_numbers : (o : Option Blk) → numbers (of_blk o) ≡ map (num plan) (option_map_or (λ (x : Blk). blk_domains x ++ flat_map blk_client_domains x.client) o [])
  blk_numbers None = refl
  blk_numbers (Some x) = ap (λ ns. num plan x.driver ∷ num plan x.virt ∷ ns) (blk_flat x.client)

  abbrev net_part : List (List ℕ)
  net_part = net_names net_domains net_client_domains plan

  abbrev serial_part : List (List ℕ)
  serial_part = serial_names serial_domains serial_client_domains plan

  abbrev blk_part : List (List ℕ)
  blk_part = blk_names blk_domains blk_client_domains plan

  domain_numbers : numbers domains ≡ map (num plan) (class_domains plan)
  domain_numbers =
      numbers_both (of_net plan.net ++ of_serial plan.serial) (of_blk plan.blk)
      ∙ (ap (λ ns. ns ++ numbers (of_blk plan.blk)) (numbers_both (of_net plan.net) (of_serial plan.serial))
      ∙ (ap (λ ns. ns ++ numbers (of_serial plan.serial) ++ numbers (of_blk plan.blk)) (net_numbers plan.net)
      ∙ (ap (λ ns. map (num plan) net_part ++ ns ++ numbers (of_blk plan.blk)) (serial_numbers plan.serial)
      ∙ (ap (λ ns. map (num plan) net_part ++ map (num plan) serial_part ++ ns) (blk_numbers plan.blk)
      ∙ (ap (λ ns. ns ++ map (num plan) blk_part) (sym (map-append (num plan) net_part serial_part))
      ∙ (sym (map-append (num plan) (net_part ++ serial_part) blk_part) ∙ ap (map (num plan)) (sym (domains_same plan))))))))

  actor : (i : ℕ) (a : List ℕ) → slice_get (class_domains plan) i ≡ Some a → IsActor plan a
  actor i a at = all-at (IsActor plan) (class_domains plan) (class_acts plan valid) i a at

  names_differ : Distinct (map (num plan) (class_domains plan))
  names_differ = distinct_of (map (num plan) (class_domains plan)) (λ i j n lt p q.
      let a = map_from (num plan) (class_domains plan) i n p in
      let b = map_from (num plan) (class_domains plan) j n q in
      let same : num plan a.0 ≡ num plan b.0 = a.2 ∙ sym b.2 in
      let one : Some a.0 ≡ Some b.0 = sym (actor i a.0 a.1).0 ∙ (ap (slice_get (actors_of plan)) same ∙ (actor j b.0 b.1).0) in
      domains_once plan valid j b.0 b.1 (i, lt, a.1 ∙ one))

  domain_below : (n : ℕ) → IsIn n (numbers domains) → n < acting_count plan
  domain_below n s =
      let m = map_from (num plan) (class_domains plan) s.0 n (ap (λ ns. slice_get ns s.0) (sym domain_numbers) ∙ s.1) in
      subst (λ k. k < acting_count plan) m.2 (actor s.0 m.0 m.1).1

  -- the numbers of the devices
  in_net : (a : ℕ) (o : Option Net) → IsIn a (numbers (net_devices plan o)) → (a ≡ acting_count plan) × (is_some o ≡ true)
  unfolding eth_number
  in_net a None s = absurd (no_in a s)
  in_net a (Some x) (zero, at) = (sym (some_is at), refl)
  in_net a (Some x) (suc k, at) = absurd (no_in a (k, at))

  in_serial : (a : ℕ) (o : Option Serial) → IsIn a (numbers (serial_devices plan o)) → (a ≡ acting_count plan + one_if (is_some plan.net)) × (is_some o ≡ true)
  unfolding uart_number
  in_serial a None s = absurd (no_in a s)
  in_serial a (Some x) (zero, at) = (sym (some_is at), refl)
  in_serial a (Some x) (suc k, at) = absurd (no_in a (k, at))

  in_blk : (a : ℕ) (o : Option Blk) → IsIn a (numbers (blk_devices plan o)) → (a ≡ acting_count plan + one_if (is_some plan.net) + one_if (is_some plan.serial)) × (is_some o ≡ true)
  unfolding disk_number
  in_blk a None s = absurd (no_in a s)
  in_blk a (Some x) (zero, at) = (sym (some_is at), refl)
  in_blk a (Some x) (suc k, at) = absurd (no_in a (k, at))

  net_one : (o : Option Net) → Distinct (numbers (net_devices plan o))
  net_one None = tt
  net_one (Some x) = (no_in (eth_number plan).0, tt)

  serial_one : (o : Option Serial) → Distinct (numbers (serial_devices plan o))
  serial_one None = tt
  serial_one (Some x) = (no_in (uart_number plan).0, tt)

  blk_one : (o : Option Blk) → Distinct (numbers (blk_devices plan o))
  blk_one None = tt
  blk_one (Some x) = (no_in (disk_number plan).0, tt)

  one_more : (b : Bool) → b ≡ true → one_if b ≡ 1
  one_more true is = refl
  one_more false is = cc

  either_in : (a : ℕ) (xs ys : List ℕ) → IsIn a (xs ++ ys) → IsIn a xs ⊎ IsIn a ys
  either_in a xs ys s = go xs s.0 s.1
    where
      go : (xs : List ℕ) (k : ℕ) → slice_get (xs ++ ys) k ≡ Some a → IsIn a xs ⊎ IsIn a ys
      go [] k at = inr (k, at)
      go (z ∷ zs) zero at = inl (0, at)
      go (z ∷ zs) (suc k) at = elim (go zs k at) [
        | inl r ↦ inl (suc r.0, r.1)
        | inr r ↦ inr r
      ]

  first_two : Distinct (numbers (net_devices plan plan.net) ++ numbers (serial_devices plan plan.serial))
  first_two = distinct_both (numbers (net_devices plan plan.net)) (numbers (serial_devices plan plan.serial)) (net_one plan.net) (serial_one plan.serial) (λ a s t.
      let n = in_net a plan.net s in
      let u = in_serial a plan.serial t in
      let one = one_more (is_some plan.net) n.1 in
      let no : ⊥ = omega (arith, n.0, u.0, one) in no)

  device_numbers : numbers devices ≡ (numbers (net_devices plan plan.net) ++ numbers (serial_devices plan plan.serial)) ++ numbers (blk_devices plan plan.blk)
  device_numbers =
      numbers_both (net_devices plan plan.net ++ serial_devices plan plan.serial) (blk_devices plan plan.blk)
      ∙ ap (λ ns. ns ++ numbers (blk_devices plan plan.blk)) (numbers_both (net_devices plan plan.net) (serial_devices plan plan.serial))

  devices_differ : Distinct (numbers devices)
  devices_differ = subst (λ ns. Distinct ns) (sym device_numbers) (distinct_both (numbers (net_devices plan plan.net) ++ numbers (serial_devices plan plan.serial)) (numbers (blk_devices plan plan.blk)) first_two (blk_one plan.blk) (λ a s t.
      let d = in_blk a plan.blk t in
      elim (either_in a (numbers (net_devices plan plan.net)) (numbers (serial_devices plan plan.serial)) s) [
        | inl n ↦ let e = in_net a plan.net n in let one = one_more (is_some plan.net) e.1 in let no : ⊥ = omega (arith, e.0, d.0, one) in no
        | inr u ↦ let e = in_serial a plan.serial u in let one = one_more (is_some plan.serial) e.1 in let no : ⊥ = omega (arith, e.0, d.0, one) in no
      ]))

  device_behind : (a : ℕ) → IsIn a (numbers devices) → acting_count plan ≤ a
  device_behind a s =
      elim (either_in a (numbers (net_devices plan plan.net) ++ numbers (serial_devices plan plan.serial)) (numbers (blk_devices plan plan.blk)) (s.0, ap (λ ns. slice_get ns s.0) (sym device_numbers) ∙ s.1)) [
        | inl first ↦ elim (either_in a (numbers (net_devices plan plan.net)) (numbers (serial_devices plan plan.serial)) first) [
          | inl n ↦ let e = (in_net a plan.net n).0 in omega (arith, e)
          | inr u ↦ let e = (in_serial a plan.serial u).0 in omega (arith, e)
        ]
        | inr d ↦ let e = (in_blk a plan.blk d).0 in omega (arith, e)
      ]

  all_differ : Distinct (numbers whole)
  all_differ = subst (λ ns. Distinct ns) (sym (numbers_both domains devices)) (distinct_both (numbers domains) (numbers devices) (subst (λ ns. Distinct ns) (sym domain_numbers) names_differ) devices_differ (λ a s t.
      let below = domain_below a s in
      let behind = device_behind a t in
      let no : ⊥ = omega (arith, below, behind) in no))

  -- none has more than the formula says
  net_clients_within : (cs : List NetClient) (m : ℕ) → 4 ≤ m → AreWithin (flat_map (net_client_weights plan) cs) m
  net_clients_within [] m le = tt
  net_clients_within (x ∷ cs) m le = (le, (le, net_clients_within cs m le))

  serial_clients_within : (cs : List SerialClient) (m : ℕ) → 2 ≤ m → AreWithin (flat_map (serial_client_weights plan) cs) m
  serial_clients_within [] m le = tt
  serial_clients_within (x ∷ cs) m le = (le, serial_clients_within cs m le)

  blk_clients_within : (cs : List BlkClient) (m : ℕ) → 2 ≤ m → AreWithin (flat_map (blk_client_weights plan) cs) m
  blk_clients_within [] m le = tt
  blk_clients_within (x ∷ cs) m le = (le, blk_clients_within cs m le)

  abbrev net_most : Option Net → ℕ
  net_most o = Counted.net_ends (option_map (λ (x : Net). length x.client) o)

  abbrev serial_most : Option Serial → ℕ
  serial_most o = Counted.serial_ends (option_map (λ (x : Serial). length x.client) o)

  abbrev blk_most : Option Blk → ℕ
  blk_most o = Counted.blk_ends (option_map (λ (x : Blk). length x.client) o)

  net_within : (o : Option Net) → AreWithin (of_net o) (net_most o) × AreWithin (net_devices plan o) (net_most o)
  net_within None = (tt, tt)
  net_within (Some x) = ((omega arith, (omega arith, (omega arith, net_clients_within x.client (net_most (Some x)) (omega arith)))), (omega arith, tt))

  serial_within : (o : Option Serial) → AreWithin (of_serial o) (serial_most o) × AreWithin (serial_devices plan o) (serial_most o)
  serial_within None = (tt, tt)
  serial_within (Some x) = ((omega arith, (omega arith, (omega arith, serial_clients_within x.client (serial_most (Some x)) (omega arith)))), (omega arith, tt))

  blk_within : (o : Option Blk) → AreWithin (of_blk o) (blk_most o) × AreWithin (blk_devices plan o) (blk_most o)
  blk_within None = (tt, tt)
  blk_within (Some x) = ((omega arith, (omega arith, blk_clients_within x.client (blk_most (Some x)) (omega arith))), (omega arith, tt))

  abbrev most : ℕ
  most = max (net_most plan.net) (max (serial_most plan.serial) (blk_most plan.blk))

  all_within : AreWithin whole most
  all_within =
      let n : net_most plan.net ≤ most = omega arith in
      let s : serial_most plan.serial ≤ most = omega arith in
      let b : blk_most plan.blk ≤ most = omega arith in
      let net = net_within plan.net in
      let serial = serial_within plan.serial in
      let blk = blk_within plan.blk in
      within_both domains devices most
      (within_both (of_net plan.net ++ of_serial plan.serial) (of_blk plan.blk) most
      (within_both (of_net plan.net) (of_serial plan.serial) most (wider (of_net plan.net) (net_most plan.net) most n net.0) (wider (of_serial plan.serial) (serial_most plan.serial) most s serial.0)) (wider (of_blk plan.blk) (blk_most plan.blk) most b blk.0))
      (within_both (net_devices plan plan.net ++ serial_devices plan plan.serial) (blk_devices plan plan.blk) most
      (within_both (net_devices plan plan.net) (serial_devices plan plan.serial) most (wider (net_devices plan plan.net) (net_most plan.net) most n net.1) (wider (serial_devices plan plan.serial) (serial_most plan.serial) most s serial.1)) (wider (blk_devices plan plan.blk) (blk_most plan.blk) most b blk.1))

  -- and one has as many
  abbrev Has : Weights → ℕ → Type 0
  Has ws m = (a : ℕ) × IsIn (a, m) ws

  net_has : (o : Option Net) → 0 < net_most o → Has (of_net o) (net_most o)
  net_has None some = absurd (omega (arith, some))
  net_has (Some x) some =
      ⊎_elim (λ (lt : 2 + 2 * length x.client < 8).
      let is : 8 ≡ net_most (Some x) = omega (arith, lt) in
      (num plan x.driver, (0, ap (λ n. Some (num plan x.driver, n)) is)))
      (λ (le : 8 ≤ 2 + 2 * length x.client).
      let is : 2 + 2 * length x.client ≡ net_most (Some x) = omega (arith, le) in
      (num plan x.rx_virt, (1, ap (λ n. Some (num plan x.rx_virt, n)) is))) (cases_lt (2 + 2 * length x.client) 8)

  serial_has : (o : Option Serial) → 0 < serial_most o → Has (of_serial o) (serial_most o)
  serial_has None some = absurd (omega (arith, some))
  serial_has (Some x) some =
      ⊎_elim (λ (lt : 1 + length x.client < 4).
      let is : 4 ≡ serial_most (Some x) = omega (arith, lt) in
      (num plan x.driver, (0, ap (λ n. Some (num plan x.driver, n)) is)))
      (λ (le : 4 ≤ 1 + length x.client).
      let is : 1 + length x.client ≡ serial_most (Some x) = omega (arith, le) in
      (num plan x.rx_virt, (1, ap (λ n. Some (num plan x.rx_virt, n)) is))) (cases_lt (1 + length x.client) 4)

  blk_has : (o : Option Blk) → 0 < blk_most o → Has (of_blk o) (blk_most o)
  blk_has None some = absurd (omega (arith, some))
  blk_has (Some x) some =
      ⊎_elim (λ (lt : 2 + 2 * length x.client < 4).
      let is : 4 ≡ blk_most (Some x) = omega (arith, lt) in
      (num plan x.driver, (0, ap (λ n. Some (num plan x.driver, n)) is)))
      (λ (le : 4 ≤ 2 + 2 * length x.client).
      let is : 2 + 2 * length x.client ≡ blk_most (Some x) = omega (arith, le) in
      (num plan x.virt, (1, ap (λ n. Some (num plan x.virt, n)) is))) (cases_lt (2 + 2 * length x.client) 4)

  abbrev rest_most : ℕ
  rest_most = max (serial_most plan.serial) (blk_most plan.blk)

  domain_has : 0 < most → Has domains most
  domain_has some =
      ⊎_elim (λ (lt : net_most plan.net < rest_most).
      ⊎_elim (λ (less : serial_most plan.serial < blk_most plan.blk).
      let is : blk_most plan.blk ≡ most = omega (arith, lt, less) in
      let h = blk_has plan.blk (omega (arith, is, some)) in
      (h.0, in_right (h.0, most) (of_net plan.net ++ of_serial plan.serial) (of_blk plan.blk) (subst (λ n. IsIn (h.0, n) (of_blk plan.blk)) is h.1)))
      (λ (more : blk_most plan.blk ≤ serial_most plan.serial).
      let is : serial_most plan.serial ≡ most = omega (arith, lt, more) in
      let h = serial_has plan.serial (omega (arith, is, some)) in
      (h.0, in_left (h.0, most) (of_net plan.net ++ of_serial plan.serial) (of_blk plan.blk) (in_right (h.0, most) (of_net plan.net) (of_serial plan.serial) (subst (λ n. IsIn (h.0, n) (of_serial plan.serial)) is h.1))))
      (cases_lt (serial_most plan.serial) (blk_most plan.blk)))
      (λ (le : rest_most ≤ net_most plan.net).
      let is : net_most plan.net ≡ most = omega (arith, le) in
      let h = net_has plan.net (omega (arith, is, some)) in
      (h.0, in_left (h.0, most) (of_net plan.net ++ of_serial plan.serial) (of_blk plan.blk) (in_left (h.0, most) (of_net plan.net) (of_serial plan.serial) (subst (λ n. IsIn (h.0, n) (of_net plan.net)) is h.1))))
      (cases_lt (net_most plan.net) rest_most)

  pub most_is : (trace : Trace) → IsMostEnds (queues_of plan) (length (actors_of plan)) (most_ends (counts_of plan trace))
  most_is trace = record {
    within = λ k lt. let e = all_ends k in let le = weight_most k whole most all_differ all_within in omega (arith, e, le);
    reached = λ some.
        let h = domain_has some in
        let place = in_left (h.0, most) domains devices h.1 in
        let below = domain_below h.0 (map_in (λ (w : ℕ × ℕ). w.0) domains (h.0, most) h.1) in
        let count = acting_and_devices plan in
        (h.0, omega (arith, below, count), all_ends h.0 ∙ weight_at whole place.0 (h.0, most) all_differ place.1);
  }
