use Rattle.std.proofs.Common.{◌≡◌, ℕ, zero, suc, ◌+◌, ◌*◌, ◌<◌, ◌≤◌, ◌⊎◌, inl, inr, ⊎_elim, List, [], ◌∷◌, ◌++◌, length, flat_map, Some, slice_get, refl, ap, sym, ◌∙◌, subst, arith, length-append}
use Rattle.sdf_plan.specs.declared.plan.Plan.{Plan}
use Rattle.sdf_plan.specs.declared.plan.Net.{Net}
use Rattle.sdf_plan.specs.declared.plan.NetClient.{NetClient}
use Rattle.sdf_plan.specs.declared.plan.Serial.{Serial}
use Rattle.sdf_plan.specs.declared.plan.SerialClient.{SerialClient}
use Rattle.sdf_plan.specs.declared.plan.Blk.{Blk}
use Rattle.sdf_plan.specs.declared.plan.BlkClient.{BlkClient}
use Rattle.sdf_check.specs.Names.{net_regions, net_client_regions, serial_regions, serial_client_regions, blk_regions, blk_client_regions}
use Rattle.sdf_check.specs.ClassRules.{class_regions, net_names, serial_names, blk_names}
use Rattle.sdf_check.proofs.ClassLemmas.{regions_same}
use Rattle.sdf_check.proofs.ListLemmas.{get-left, get-right}

-- a name of a client among those of all clients, of which each has as many
pub flat-at : {C : Type 0} (names : C → List (List ℕ)) (many : ℕ) (times : ℕ → ℕ) (clients : List C) (c i : ℕ) (client : C) (name : List ℕ) → ((x : C) → length (names x) ≡ many)
    → times 0 ≡ 0 → ((k : ℕ) → times (suc k) ≡ many + times k) → slice_get clients c ≡ Some client → slice_get (names client) i ≡ Some name
    → slice_get (flat_map names clients) (times c + i) ≡ Some name
flat-at names many times [] c i client name counts none steps there at = cc
flat-at {C} names many times (x ∷ rest) zero i client name counts none steps there at =
    let same : x ≡ client = cc in
    let here : slice_get (names x) i ≡ Some name = ap (λ (y : C). slice_get (names y) i) same ∙ at in
    let index : i ≡ times 0 + i = omega (arith, none) in
    subst (λ n. slice_get (names x ++ flat_map names rest) n ≡ Some name) index (get-left (names x) (flat_map names rest) i name here)
flat-at names many times (x ∷ rest) (suc c) i client name counts none steps there at =
    let later = flat-at names many times rest c i client name counts none steps there at in
    let size = counts x in
    let step = steps c in
    let index : length (names x) + (times c + i) ≡ times (suc c) + i = omega (arith, size, step) in
    subst (λ n. slice_get (names x ++ flat_map names rest) n ≡ Some name) index (get-right (names x) (flat_map names rest) (times c + i) name later)

flat-length : {C : Type 0} (names : C → List (List ℕ)) (many : ℕ) (times : ℕ → ℕ) (clients : List C) → ((x : C) → length (names x) ≡ many) → times 0 ≡ 0 → ((k : ℕ) → times (suc k) ≡ many + times k)
    → length (flat_map names clients) ≡ times (length clients)
flat-length names many times [] counts none steps = sym none
flat-length names many times (x ∷ rest) counts none steps =
    let later = flat-length names many times rest counts none steps in
    let size = counts x in
    let step = steps (length rest) in
    length-append (names x) (flat_map names rest) ∙ omega (arith, later, size, step)

abbrev net_part : Plan → List (List ℕ)
net_part plan = net_names net_regions net_client_regions plan

abbrev serial_part : Plan → List (List ℕ)
serial_part plan = serial_names serial_regions serial_client_regions plan

abbrev blk_part : Plan → List (List ℕ)
blk_part plan = blk_names blk_regions blk_client_regions plan

-- where the keys of the serial and of the block class begin
abbrev pub serial_at : Plan → ℕ
serial_at plan = length (net_part plan)

abbrev pub blk_at : Plan → ℕ
blk_at plan = serial_at plan + length (serial_part plan)

net-class : (plan : Plan) (k : ℕ) (name : List ℕ) → slice_get (net_part plan) k ≡ Some name → slice_get (class_regions plan) k ≡ Some name
net-class plan k name at = ap (λ names. slice_get names k) (regions_same plan) ∙ get-left (net_part plan ++ serial_part plan) (blk_part plan) k name (get-left (net_part plan) (serial_part plan) k name at)

serial-class : (plan : Plan) (k : ℕ) (name : List ℕ) → slice_get (serial_part plan) k ≡ Some name → slice_get (class_regions plan) (serial_at plan + k) ≡ Some name
serial-class plan k name at =
    ap (λ names. slice_get names (serial_at plan + k)) (regions_same plan)
    ∙ get-left (net_part plan ++ serial_part plan) (blk_part plan) (serial_at plan + k) name (get-right (net_part plan) (serial_part plan) k name at)

blk-class : (plan : Plan) (k : ℕ) (name : List ℕ) → slice_get (blk_part plan) k ≡ Some name → slice_get (class_regions plan) (blk_at plan + k) ≡ Some name
blk-class plan k name at =
    subst (λ n. slice_get (class_regions plan) (n + k) ≡ Some name) (length-append (net_part plan) (serial_part plan))
    (ap (λ names. slice_get names (length (net_part plan ++ serial_part plan) + k)) (regions_same plan) ∙ get-right (net_part plan ++ serial_part plan) (blk_part plan) k name at)

net-is : (plan : Plan) (net : Net) → plan.net ≡ Some net → net_part plan ≡ net_regions net ++ flat_map net_client_regions net.client
net-is plan net is = rw is refl

serial-is : (plan : Plan) (serial : Serial) → plan.serial ≡ Some serial → serial_part plan ≡ serial_regions serial ++ flat_map serial_client_regions serial.client
serial-is plan serial is = rw is refl

blk-is : (plan : Plan) (blk : Blk) → plan.blk ≡ Some blk → blk_part plan ≡ blk_regions blk ++ flat_map blk_client_regions blk.client
blk-is plan blk is = rw is refl

-- how many keys a class has
pub net-count : (net : Net) → length (net_regions net ++ flat_map net_client_regions net.client) ≡ 3 + 5 * length net.client
net-count net =
    let many = flat-length net_client_regions 5 (λ k. 5 * k) net.client (λ x. refl) (omega arith) (λ k. omega arith) in
    length-append (net_regions net) (flat_map net_client_regions net.client) ∙ ap (λ n. 3 + n) many

pub serial-count : (serial : Serial) → length (serial_regions serial ++ flat_map serial_client_regions serial.client) ≡ 2 + 2 * length serial.client
serial-count serial =
    let many = flat-length serial_client_regions 2 (λ k. 2 * k) serial.client (λ x. refl) (omega arith) (λ k. omega arith) in
    length-append (serial_regions serial) (flat_map serial_client_regions serial.client) ∙ ap (λ n. 2 + n) many

pub blk-count : (blk : Blk) → length (blk_regions blk ++ flat_map blk_client_regions blk.client) ≡ 2 + 2 * length blk.client
blk-count blk =
    let many = flat-length blk_client_regions 2 (λ k. 2 * k) blk.client (λ x. refl) (omega arith) (λ k. omega arith) in
    length-append (blk_regions blk) (flat_map blk_client_regions blk.client) ∙ ap (λ n. 2 + n) many

pub serial-begins : (plan : Plan) (net : Net) → plan.net ≡ Some net → serial_at plan ≡ 3 + 5 * length net.client
serial-begins plan net is = ap (λ (names : List (List ℕ)). length names) (net-is plan net is) ∙ net-count net

-- the keys of the elements
pub net-key : (plan : Plan) (net : Net) (i : ℕ) (name : List ℕ) → plan.net ≡ Some net → slice_get (net_regions net) i ≡ Some name → slice_get (class_regions plan) i ≡ Some name
net-key plan net i name is at =
    net-class plan i name (subst (λ (names : List (List ℕ)). slice_get names i ≡ Some name) (sym (net-is plan net is)) (get-left (net_regions net) (flat_map net_client_regions net.client) i name at))

pub net-client-key : (plan : Plan) (net : Net) (c i : ℕ) (client : NetClient) (name : List ℕ) → plan.net ≡ Some net → slice_get net.client c ≡ Some client
    → slice_get (net_client_regions client) i ≡ Some name → slice_get (class_regions plan) (3 + 5 * c + i) ≡ Some name
net-client-key plan net c i client name is there at =
    let flat = flat-at net_client_regions 5 (λ k. 5 * k) net.client c i client name (λ x. refl) (omega arith) (λ k. omega arith) there at in
    let same : 3 + (5 * c + i) ≡ 3 + 5 * c + i = omega arith in
    subst (λ n. slice_get (class_regions plan) n ≡ Some name) same
    (net-class plan (3 + (5 * c + i)) name (subst (λ (names : List (List ℕ)). slice_get names (3 + (5 * c + i)) ≡ Some name) (sym (net-is plan net is))
    (get-right (net_regions net) (flat_map net_client_regions net.client) (5 * c + i) name flat)))

pub serial-key : (plan : Plan) (serial : Serial) (i : ℕ) (name : List ℕ) → plan.serial ≡ Some serial → slice_get (serial_regions serial) i ≡ Some name → slice_get (class_regions plan) (serial_at plan + i) ≡ Some name
serial-key plan serial i name is at =
    serial-class plan i name (subst (λ (names : List (List ℕ)). slice_get names i ≡ Some name) (sym (serial-is plan serial is)) (get-left (serial_regions serial) (flat_map serial_client_regions serial.client) i name at))

pub serial-client-key : (plan : Plan) (serial : Serial) (c i : ℕ) (client : SerialClient) (name : List ℕ) → plan.serial ≡ Some serial → slice_get serial.client c ≡ Some client
    → slice_get (serial_client_regions client) i ≡ Some name → slice_get (class_regions plan) (serial_at plan + 2 + 2 * c + i) ≡ Some name
serial-client-key plan serial c i client name is there at =
    let flat = flat-at serial_client_regions 2 (λ k. 2 * k) serial.client c i client name (λ x. refl) (omega arith) (λ k. omega arith) there at in
    let same : serial_at plan + (2 + (2 * c + i)) ≡ serial_at plan + 2 + 2 * c + i = omega arith in
    subst (λ n. slice_get (class_regions plan) n ≡ Some name) same
    (serial-class plan (2 + (2 * c + i)) name (subst (λ (names : List (List ℕ)). slice_get names (2 + (2 * c + i)) ≡ Some name) (sym (serial-is plan serial is))
    (get-right (serial_regions serial) (flat_map serial_client_regions serial.client) (2 * c + i) name flat)))

pub blk-key : (plan : Plan) (blk : Blk) (i : ℕ) (name : List ℕ) → plan.blk ≡ Some blk → slice_get (blk_regions blk) i ≡ Some name → slice_get (class_regions plan) (blk_at plan + i) ≡ Some name
blk-key plan blk i name is at =
    blk-class plan i name (subst (λ (names : List (List ℕ)). slice_get names i ≡ Some name) (sym (blk-is plan blk is)) (get-left (blk_regions blk) (flat_map blk_client_regions blk.client) i name at))

pub blk-client-key : (plan : Plan) (blk : Blk) (c i : ℕ) (client : BlkClient) (name : List ℕ) → plan.blk ≡ Some blk → slice_get blk.client c ≡ Some client
    → slice_get (blk_client_regions client) i ≡ Some name → slice_get (class_regions plan) (blk_at plan + 2 + 2 * c + i) ≡ Some name
blk-client-key plan blk c i client name is there at =
    let flat = flat-at blk_client_regions 2 (λ k. 2 * k) blk.client c i client name (λ x. refl) (omega arith) (λ k. omega arith) there at in
    let same : blk_at plan + (2 + (2 * c + i)) ≡ blk_at plan + 2 + 2 * c + i = omega arith in
    subst (λ n. slice_get (class_regions plan) n ≡ Some name) same
    (blk-class plan (2 + (2 * c + i)) name (subst (λ (names : List (List ℕ)). slice_get names (2 + (2 * c + i)) ≡ Some name) (sym (blk-is plan blk is))
    (get-right (blk_regions blk) (flat_map blk_client_regions blk.client) (2 * c + i) name flat)))

-- the keys of pools
abbrev pub IsPool : Plan → ℕ → Type 0
IsPool plan key =
    ((key < serial_at plan) × ((key ≡ 2) ⊎ ((c : ℕ) × ((key ≡ 3 + 5 * c + 3) ⊎ (key ≡ 3 + 5 * c + 4)))))
    ⊎ ((blk_at plan ≤ key) × ((key ≡ blk_at plan + 1) ⊎ ((c : ℕ) × (key ≡ blk_at plan + 2 + 2 * c + 1))))

-- keys of queues
pub net-queue : (plan : Plan) (key : ℕ) → key < serial_at plan → (key ≡ 0) ⊎ (key ≡ 1) → IsPool plan key → ⊥
net-queue plan key below is pool =
    ⊎_elim (λ (h : (key < serial_at plan) × ((key ≡ 2) ⊎ ((c : ℕ) × ((key ≡ 3 + 5 * c + 3) ⊎ (key ≡ 3 + 5 * c + 4))))).
    ⊎_elim (λ (z : key ≡ 2). ⊎_elim (λ (e : key ≡ 0). let no : ⊥ = omega (arith, z, e) in no) (λ (e : key ≡ 1). let no : ⊥ = omega (arith, z, e) in no) is)
    (λ (w : (c : ℕ) × ((key ≡ 3 + 5 * c + 3) ⊎ (key ≡ 3 + 5 * c + 4))).
    let least : 3 ≤ key = ⊎_elim (λ (e : key ≡ 3 + 5 * w.0 + 3). let goal : 3 ≤ key = omega (arith, e) in goal) (λ (e : key ≡ 3 + 5 * w.0 + 4). let goal : 3 ≤ key = omega (arith, e) in goal) w.1 in
    ⊎_elim (λ (e : key ≡ 0). let no : ⊥ = omega (arith, least, e) in no) (λ (e : key ≡ 1). let no : ⊥ = omega (arith, least, e) in no) is) h.1)
    (λ (h : (blk_at plan ≤ key) × ((key ≡ blk_at plan + 1) ⊎ ((c : ℕ) × (key ≡ blk_at plan + 2 + 2 * c + 1)))). let no : ⊥ = omega (arith, h.0, below) in no) pool

pub net-client-queue : (plan : Plan) (key c : ℕ) → key < serial_at plan → (key ≡ 3 + 5 * c) ⊎ (key ≡ 3 + 5 * c + 1) ⊎ (key ≡ 3 + 5 * c + 2) → IsPool plan key → ⊥
net-client-queue plan key c below is pool =
    ⊎_elim (λ (h : (key < serial_at plan) × ((key ≡ 2) ⊎ ((d : ℕ) × ((key ≡ 3 + 5 * d + 3) ⊎ (key ≡ 3 + 5 * d + 4))))). none is h.1)
    (λ (h : (blk_at plan ≤ key) × ((key ≡ blk_at plan + 1) ⊎ ((d : ℕ) × (key ≡ blk_at plan + 2 + 2 * d + 1)))). let no : ⊥ = omega (arith, h.0, below) in no) pool
  where
    none : (key ≡ 3 + 5 * c) ⊎ (key ≡ 3 + 5 * c + 1) ⊎ (key ≡ 3 + 5 * c + 2) → (key ≡ 2) ⊎ ((d : ℕ) × ((key ≡ 3 + 5 * d + 3) ⊎ (key ≡ 3 + 5 * d + 4))) → ⊥
    none (inl e) (inl z) = omega (arith, e, z)
    none (inl e) (inr (d, inl f)) = omega (arith, e, f)
    none (inl e) (inr (d, inr f)) = omega (arith, e, f)
    none (inr (inl e)) (inl z) = omega (arith, e, z)
    none (inr (inl e)) (inr (d, inl f)) = omega (arith, e, f)
    none (inr (inl e)) (inr (d, inr f)) = omega (arith, e, f)
    none (inr (inr e)) (inl z) = omega (arith, e, z)
    none (inr (inr e)) (inr (d, inl f)) = omega (arith, e, f)
    none (inr (inr e)) (inr (d, inr f)) = omega (arith, e, f)

pub serial-queue : (plan : Plan) (key : ℕ) → serial_at plan ≤ key → key < blk_at plan → IsPool plan key → ⊥
serial-queue plan key above below pool =
    ⊎_elim (λ (h : (key < serial_at plan) × ((key ≡ 2) ⊎ ((d : ℕ) × ((key ≡ 3 + 5 * d + 3) ⊎ (key ≡ 3 + 5 * d + 4))))). let no : ⊥ = omega (arith, h.0, above) in no)
    (λ (h : (blk_at plan ≤ key) × ((key ≡ blk_at plan + 1) ⊎ ((d : ℕ) × (key ≡ blk_at plan + 2 + 2 * d + 1)))). let no : ⊥ = omega (arith, h.0, below) in no) pool

pub blk-queue : (plan : Plan) (key c : ℕ) → (key ≡ blk_at plan) ⊎ (key ≡ blk_at plan + 2 + 2 * c) → IsPool plan key → ⊥
blk-queue plan key c is pool =
    ⊎_elim (λ (h : (key < serial_at plan) × ((key ≡ 2) ⊎ ((d : ℕ) × ((key ≡ 3 + 5 * d + 3) ⊎ (key ≡ 3 + 5 * d + 4))))). under is h.0)
    (λ (h : (blk_at plan ≤ key) × ((key ≡ blk_at plan + 1) ⊎ ((d : ℕ) × (key ≡ blk_at plan + 2 + 2 * d + 1)))). none is h.1) pool
  where
    under : (key ≡ blk_at plan) ⊎ (key ≡ blk_at plan + 2 + 2 * c) → key < serial_at plan → ⊥
    under (inl e) less = omega (arith, e, less)
    under (inr e) less = omega (arith, e, less)

    none : (key ≡ blk_at plan) ⊎ (key ≡ blk_at plan + 2 + 2 * c) → (key ≡ blk_at plan + 1) ⊎ ((d : ℕ) × (key ≡ blk_at plan + 2 + 2 * d + 1)) → ⊥
    none (inl e) (inl z) = omega (arith, e, z)
    none (inl e) (inr (d, f)) = omega (arith, e, f)
    none (inr e) (inl z) = omega (arith, e, z)
    none (inr e) (inr (d, f)) = omega (arith, e, f)
