use Rattle.std.proofs.Common.{◌≡◌, ◌<◌, ◌≤◌, ℕ, zero, suc, inl, inr, Bool, true, false, cond, not, List, [], ◌∷◌, ◌++◌, map, filter, flat_map, Some, slice_get, codes, refl, ap, sym, ◌∙◌, subst, arith}
use Rattle.std.specs.List.{All}
use Rattle.std.specs.Option.{option_and_then}
use Rattle.std.specs.Str.{bytes_eq}
use Rattle.std.proofs.lemmas.List.Elements.{All-nil, All-cons, All-append}
use Rattle.std.proofs.lemmas.Option.{slice_get-map}
use Rattle.std.proofs.lemmas.Slice.Eq.{bytes_eq-Decides}
use Rattle.sdf_plan.specs.declared.plan.Plan.{Plan}
use Rattle.sdf_plan.specs.declared.plan.Domain.{Domain}
use Rattle.sdf_plan.specs.declared.plan.Net.{Net}
use Rattle.sdf_plan.specs.declared.plan.Serial.{Serial}
use Rattle.sdf_plan.specs.declared.plan.Blk.{Blk}
use Rattle.sdf_plan.specs.declared.class_table.role.Role.{Role}
use Rattle.sdf_plan.specs.declared.class_table.role.Role.TheVariants as For
use Rattle.sdf_check.specs.Names.{place_of, domain_names, domain_named, net_domains, net_client_domains, serial_domains, serial_client_domains, blk_domains, blk_client_domains}
use Rattle.sdf_plan.specs.ClassTable.Roles.{IsProgramOf}
use Rattle.sdf_plan.specs.ClassTable.Rows.{plays}
use Rattle.sdf_check.specs.ClassRules.{class_domains, net_names, serial_names, blk_names, the_domain, Plays}
use Rattle.sdf_check.specs.Valid.{Valid}
use Rattle.sdf_check.proofs.ClassLemmas.{domains_same}
use Rattle.sdf_check.proofs.ListLemmas.{get-left}
use Rattle.sdf_check.proofs.NamedLemmas.{named-none}
use Rattle.sdf_check.proofs.SoughtLemmas.{here-some, some-here, none-here}
use Rattle.sdf_check.proofs.SweepLemmas.{some-inj}
use Rattle.region_layout.specs.Rows.{acts, devices_of, actors_of, actor_named, acting_count}
use Rattle.region_layout.proofs.KeptLemmas.{net_keeps, net_client_keeps, serial_keeps, serial_client_keeps, blk_keeps, blk_client_keeps}
use Rattle.region_layout.proofs.WalkLemmas.{IsIn}
use Rattle.layout_laws.specs.Sound.{IsActor}
use Rattle.std.proofs.lemmas.List.{length-map}
use Rattle.layout_laws.proofs.Lists.{option_cases, get-below, all-names, all-class}
use Rattle.layout_laws.proofs.Found.{found-at, found-first}

abbrev acting_names : List Domain → List (List ℕ)
acting_names domains = map (λ (d : Domain). d.name) (filter acts domains)

idle_plays_nothing : (role : Role) → IsProgramOf role (codes "idle") → ⊥
idle_plays_nothing For.NetDriver h = cc
idle_plays_nothing For.NetRxVirt h = cc
idle_plays_nothing For.NetTxVirt h = cc
idle_plays_nothing For.NetCopier h = cc
idle_plays_nothing For.NetClient (inl h) = cc
idle_plays_nothing For.NetClient (inr (inl h)) = cc
idle_plays_nothing For.NetClient (inr (inr (inl h))) = cc
idle_plays_nothing For.NetClient (inr (inr (inr h))) = cc
idle_plays_nothing For.SerialDriver h = cc
idle_plays_nothing For.SerialRxVirt h = cc
idle_plays_nothing For.SerialTxVirt h = cc
idle_plays_nothing For.SerialClient (inl h) = cc
idle_plays_nothing For.SerialClient (inr (inl h)) = cc
idle_plays_nothing For.SerialClient (inr (inr h)) = cc
idle_plays_nothing For.BlkDriver h = cc
idle_plays_nothing For.BlkVirt h = cc
idle_plays_nothing For.BlkClient (inl h) = cc
idle_plays_nothing For.BlkClient (inr h) = cc

here : (b : Bool) (x : Domain) (rest : List Domain) (domain : Domain) → b ≡ true → x ≡ domain → IsIn domain.name (map (λ (d : Domain). d.name) (cond b (x ∷ rest) rest))
here true x rest domain acting same = (0, ap (λ (d : Domain). Some d.name) same)
here false x rest domain acting same = cc

after : (b : Bool) (x : Domain) (rest : List Domain) (name : List ℕ) → IsIn name (map (λ (d : Domain). d.name) rest) → IsIn name (map (λ (d : Domain). d.name) (cond b (x ∷ rest) rest))
after true x rest name there = (suc there.0, there.1)
after false x rest name there = there

-- a domain that acts stands among those that act
acting-there : (domains : List Domain) (d : ℕ) (domain : Domain) → slice_get domains d ≡ Some domain → acts domain ≡ true → IsIn domain.name (acting_names domains)
acting-there [] d domain at acting = cc
acting-there (x ∷ xs) zero domain at acting =
    let same : x ≡ domain = cc in
    let runs : acts x ≡ true = ap acts same ∙ acting in
    here (acts x) x (filter acts xs) domain runs same
acting-there (x ∷ xs) (suc d) domain at acting = after (acts x) x (filter acts xs) domain.name (acting-there xs d domain at acting)

-- a name that stands among those of the domains that act is that of the actor of its number, which is none of the devices
number-there : (plan : Plan) (name : List ℕ) → IsIn name (acting_names plan.protection_domain) → IsActor plan name
unfolding actor_named actors_of
number-there plan name there =
    let among : slice_get (actors_of plan) there.0 ≡ Some name = get-left (acting_names plan.protection_domain) (devices_of plan) there.0 name there.1 in
    let below : there.0 < acting_count plan = rw (← length-map (filter acts plan.protection_domain) (λ (d : Domain). d.name)) (get-below (acting_names plan.protection_domain) there.0 name there.1) in
    elim (option_cases (place_of name (actors_of plan))) [
      | inl none ↦ absurd (named-none name (actors_of plan) none (there.0, here-some (slice_get (actors_of plan) there.0) name (λ other. other ≡ name) among refl))
      | inr some ↦
          let first : some.0 ≤ there.0 = found-first name (actors_of plan) some.0 there.0 some.1 among in
          rw some.1 ((found-at name (actors_of plan) some.0 some.1).1, let less : some.0 < acting_count plan = omega (arith, first, below) in less)
    ]

not-false : (b : Bool) → not b ≡ false → b ≡ true
not-false true h = refl
not-false false h = cc

acts-or-plays-nothing : (plan : Plan) (name : List ℕ) (role : Role) (d : ℕ) (domain : Domain) → domain_named plan name ≡ Some d → slice_get plan.protection_domain d ≡ Some domain
    → ((Plays plan (plays name role) → ⊥) → ⊥) → (b : Bool) → acts domain ≡ b → IsIn name (acting_names plan.protection_domain)
acts-or-plays-nothing plan name role d domain named at never true is =
    let got : slice_get (domain_names plan) d ≡ Some name = (found-at name (domain_names plan) d named).1 in
    let own : slice_get (domain_names plan) d ≡ Some domain.name = slice_get-map (λ (x : Domain). x.name) plan.protection_domain d ∙ rw at refl in
    let same : domain.name ≡ name = some-inj (sym own ∙ got) in
    subst (λ n. IsIn n (acting_names plan.protection_domain)) same (acting-there plan.protection_domain d domain at is)
acts-or-plays-nothing plan name role d domain named at never false is =
    let the : the_domain plan name ≡ Some domain = ap (option_and_then (λ k. slice_get plan.protection_domain k)) named ∙ at in
    let idle : domain.program ≡ codes "idle" = (bytes_eq-Decides domain.program (codes "idle")).0 (not-false (bytes_eq domain.program (codes "idle")) is) in
    absurd (never (λ p. idle_plays_nothing role (subst (IsProgramOf role) idle (some-here (the_domain plan name) domain (λ (x : Domain). IsProgramOf role x.program) the p))))

-- a name whose domain can't fail to play a role is that of an actor
role-acts : (plan : Plan) (name : List ℕ) (role : Role) → ((Plays plan (plays name role) → ⊥) → ⊥) → IsActor plan name
role-acts plan name role never = elim (option_cases (domain_named plan name)) [
  | inl none ↦ absurd (never (λ p. none-here (the_domain plan name) (λ (x : Domain). IsProgramOf role x.program) (ap (option_and_then (λ d. slice_get plan.protection_domain d)) none) p))
  | inr some ↦ elim (option_cases (slice_get plan.protection_domain some.0)) [
    | inl none ↦ absurd (never (λ p. none-here (the_domain plan name) (λ (x : Domain). IsProgramOf role x.program) (ap (option_and_then (λ d. slice_get plan.protection_domain d)) some.1 ∙ none) p))
    | inr domain ↦ number-there plan name (acts-or-plays-nothing plan name role some.0 domain.0 some.1 domain.1 never (acts domain.0) refl)
  ]
]

one : (plan : Plan) (a : List ℕ) → IsActor plan a → All (IsActor plan) (a ∷ [])
one plan a x = All-cons (IsActor plan) a [] x (All-nil (IsActor plan))

two : (plan : Plan) (a b : List ℕ) → IsActor plan a → IsActor plan b → All (IsActor plan) (a ∷ b ∷ [])
two plan a b x y = All-cons (IsActor plan) a (b ∷ []) x (one plan b y)

three : (plan : Plan) (a b c : List ℕ) → IsActor plan a → IsActor plan b → IsActor plan c → All (IsActor plan) (a ∷ b ∷ c ∷ [])
three plan a b c x y z = All-cons (IsActor plan) a (b ∷ c ∷ []) x (two plan b c y z)

net_acts : (plan : Plan) → Valid plan → (net : Net) → plan.net ≡ Some net → All (IsActor plan) (net_domains net ++ flat_map net_client_domains net.client)
net_acts plan valid net is =
    let fine = net_keeps plan 21 valid (omega arith) (omega arith) net is in
    All-append (IsActor plan) (net_domains net) (flat_map net_client_domains net.client)
    (three plan net.driver net.rx_virt net.tx_virt
    (role-acts plan net.driver For.NetDriver (λ never. fine (inl (0, never)))) (role-acts plan net.rx_virt For.NetRxVirt (λ never. fine (inl (1, never))))
    (role-acts plan net.tx_virt For.NetTxVirt (λ never. fine (inl (2, never)))))
    (all-names (IsActor plan) net_client_domains net.client (λ c client there.
    let good = net_client_keeps plan 21 valid (omega arith) (omega arith) net c client is there in
    two plan client.pd client.copier (role-acts plan client.pd For.NetClient (λ never. good (inl (0, never))))
    (role-acts plan client.copier For.NetCopier (λ never. good (inl (1, never))))))

serial_acts : (plan : Plan) → Valid plan → (serial : Serial) → plan.serial ≡ Some serial → All (IsActor plan) (serial_domains serial ++ flat_map serial_client_domains serial.client)
serial_acts plan valid serial is =
    let fine = serial_keeps plan 21 valid (omega arith) (omega arith) serial is in
    All-append (IsActor plan) (serial_domains serial) (flat_map serial_client_domains serial.client)
    (three plan serial.driver serial.rx_virt serial.tx_virt
    (role-acts plan serial.driver For.SerialDriver (λ never. fine (inl (0, never)))) (role-acts plan serial.rx_virt For.SerialRxVirt (λ never. fine (inl (1, never))))
    (role-acts plan serial.tx_virt For.SerialTxVirt (λ never. fine (inl (2, never)))))
    (all-names (IsActor plan) serial_client_domains serial.client (λ c client there.
    let good = serial_client_keeps plan 21 valid (omega arith) (omega arith) serial c client is there in
    one plan client.pd (role-acts plan client.pd For.SerialClient (λ never. good (inl (0, never))))))

blk_acts : (plan : Plan) → Valid plan → (blk : Blk) → plan.blk ≡ Some blk → All (IsActor plan) (blk_domains blk ++ flat_map blk_client_domains blk.client)
blk_acts plan valid blk is =
    let fine = blk_keeps plan 21 valid (omega arith) (omega arith) blk is in
    All-append (IsActor plan) (blk_domains blk) (flat_map blk_client_domains blk.client)
    (two plan blk.driver blk.virt (role-acts plan blk.driver For.BlkDriver (λ never. fine (inl (0, never)))) (role-acts plan blk.virt For.BlkVirt (λ never. fine (inl (1, never)))))
    (all-names (IsActor plan) blk_client_domains blk.client (λ c client there.
    let good = blk_client_keeps plan 21 valid (omega arith) (omega arith) blk c client is there in
    one plan client.pd (role-acts plan client.pd For.BlkClient (λ never. good (inl (0, never))))))

-- each domain that a class element of a valid plan names
pub class_acts : (plan : Plan) → Valid plan → All (IsActor plan) (class_domains plan)
class_acts plan valid =
    let P = IsActor plan in
    let net = all-class P (λ (x : Net). net_domains x ++ flat_map net_client_domains x.client) plan.net (net_acts plan valid) in
    let serial = all-class P (λ (x : Serial). serial_domains x ++ flat_map serial_client_domains x.client) plan.serial (serial_acts plan valid) in
    let blk = all-class P (λ (x : Blk). blk_domains x ++ flat_map blk_client_domains x.client) plan.blk (blk_acts plan valid) in
    subst (All P) (sym (domains_same plan))
    (All-append P (net_names net_domains net_client_domains plan ++ serial_names serial_domains serial_client_domains plan) (blk_names blk_domains blk_client_domains plan)
    (All-append P (net_names net_domains net_client_domains plan) (serial_names serial_domains serial_client_domains plan) net serial) blk)
