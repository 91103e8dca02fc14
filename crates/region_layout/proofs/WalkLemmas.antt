use Rattle.std.proofs.Common.{◌≡◌, ℕ, zero, suc, ◌+◌, ◌<◌, ◌≤◌, inl, inr, List, [], ◌∷◌, ◌++◌, length, map, Option, Some, slice_get, refl, ap, sym, ◌∙◌, subst, arith, add-zero, zero-add}
use Rattle.std.specs.Option.{option_map}
use Rattle.sdf_plan.specs.Places.{Outline, walk, places_from, domain_places, channel_places, class_places}
use Rattle.sdf_plan.specs.declared.place.Place.{Place}
use Rattle.sdf_plan.specs.declared.place.Place.TheVariants as At
use Rattle.sdf_plan.specs.declared.plan.Plan.{Plan}
use Rattle.sdf_plan.specs.declared.plan.Net.{Net}
use Rattle.sdf_plan.specs.declared.plan.Serial.{Serial}
use Rattle.sdf_plan.specs.declared.plan.Blk.{Blk}
use Rattle.sdf_plan.specs.Elements.{outline_of, domain_parts}
use Rattle.sdf_plan.specs.ClassTable.Table.{OfElement}
use Rattle.sdf_check.specs.Valid.{Valid, BreaksAtPlace, BreaksByRows, first_rule, last_rule}
use Rattle.sdf_check.proofs.ListLemmas.{get-left, get-right}
use Rattle.region_layout.proofs.NameLemmas.{length_map}

-- an element stands in a list
abbrev pub IsIn : {T : Type 0} → T → List T → Type 0
IsIn x xs = (k : ℕ) × (slice_get xs k ≡ Some x)

in_left : {T : Type 0} (x : T) (xs ys : List T) → IsIn x xs → IsIn x (xs ++ ys)
in_left x xs ys there = (there.0, get-left xs ys there.0 x there.1)

in_right : {T : Type 0} (x : T) (xs ys : List T) → IsIn x ys → IsIn x (xs ++ ys)
in_right x xs ys there = (length xs + there.0, get-right xs ys there.0 x there.1)

in_rest : {T : Type 0} (x y : T) (xs : List T) → IsIn x xs → IsIn x (y ∷ xs)
in_rest x y xs there = (suc there.0, there.1)

-- the elements of numbered places
place_at : (place : ℕ → Place) (first count k : ℕ) → k < count → slice_get (places_from place first count) k ≡ Some (place (first + k))
place_at place first zero k less = absurd (omega arith)
place_at place first (suc count) zero less = ap (λ n. Some (place n)) (sym (add-zero first))
place_at place first (suc count) (suc k) less =
    let less' : k < count = omega arith in
    let same : first + 1 + k ≡ first + suc k = omega arith in
    place_at place (first + 1) count k less' ∙ ap (λ n. Some (place n)) same

in_places : (place : ℕ → Place) (count k : ℕ) → k < count → IsIn (place k) (places_from place 0 count)
in_places place count k less = (k, place_at place 0 count k less ∙ ap (λ n. Some (place n)) (zero-add k))

in_domains : (d k : ℕ) (domains : List (ℕ × ℕ)) → k < length domains → IsIn (At.Domain (d + k)) (domain_places d domains)
in_domains d k [] less = absurd (omega arith)
in_domains d zero (parts ∷ rest) less =
    subst (λ n. IsIn (At.Domain n) (domain_places d (parts ∷ rest))) (sym (add-zero d)) (0, refl)
in_domains d (suc k) (parts ∷ rest) less =
    let less' : k < length rest = omega arith in
    let same : d + 1 + k ≡ d + suc k = omega arith in
    subst (λ n. IsIn (At.Domain n) (domain_places d (parts ∷ rest))) same
    (in_right (At.Domain (d + 1 + k)) ((At.Domain d ∷ places_from (λ m. At.Map d m) 0 parts.0) ++ places_from (λ i. At.Irq d i) 0 parts.1) (domain_places (d + 1) rest)
    (in_domains (d + 1) k rest less'))

abbrev to_regions : Outline → List Place
to_regions o = At.System ∷ places_from (λ r. At.Region r) 0 o.regions

abbrev to_domains : Outline → List Place
to_domains o = to_regions o ++ domain_places 0 o.domains

abbrev to_channels : Outline → List Place
to_channels o = to_domains o ++ channel_places 0 o.channels

abbrev to_net : Outline → List Place
to_net o = to_channels o ++ class_places At.Net (λ c. At.NetClient c) o.net

abbrev to_serial : Outline → List Place
to_serial o = to_net o ++ class_places At.Serial (λ c. At.SerialClient c) o.serial

abbrev to_blk : Outline → List Place
to_blk o = to_serial o ++ class_places At.Blk (λ c. At.BlkClient c) o.blk

-- what stands in a part of the walk stands in the walk
from_serial : (o : Outline) (place : Place) → IsIn place (to_serial o) → IsIn place (walk o)
from_serial o place there = in_left place (to_serial o) (class_places At.Blk (λ c. At.BlkClient c) o.blk) there

from_net : (o : Outline) (place : Place) → IsIn place (to_net o) → IsIn place (walk o)
from_net o place there = from_serial o place (in_left place (to_net o) (class_places At.Serial (λ c. At.SerialClient c) o.serial) there)

from_domains : (o : Outline) (place : Place) → IsIn place (to_domains o) → IsIn place (walk o)
from_domains o place there =
    from_net o place
    (in_left place (to_channels o) (class_places At.Net (λ c. At.NetClient c) o.net) (in_left place (to_domains o) (channel_places 0 o.channels) there))

-- each element of a plan stands in its walk
pub region_walked : (plan : Plan) (r : ℕ) → r < length plan.memory_region → IsIn (At.Region r) (walk (outline_of plan))
region_walked plan r less =
    from_domains (outline_of plan) (At.Region r)
    (in_left (At.Region r) (to_regions (outline_of plan)) (domain_places 0 (outline_of plan).domains)
    (in_rest (At.Region r) At.System (places_from (λ r. At.Region r) 0 (length plan.memory_region)) (in_places (λ r. At.Region r) (length plan.memory_region) r less)))

pub domain_walked : (plan : Plan) (d : ℕ) → d < length plan.protection_domain → IsIn (At.Domain d) (walk (outline_of plan))
domain_walked plan d less =
    let within : d < length (map domain_parts plan.protection_domain) = rw (length_map domain_parts plan.protection_domain) less in
    from_domains (outline_of plan) (At.Domain d)
    (in_right (At.Domain d) (to_regions (outline_of plan)) (domain_places 0 (outline_of plan).domains)
    (subst (λ n. IsIn (At.Domain n) (domain_places 0 (map domain_parts plan.protection_domain))) (zero-add d)
    (in_domains 0 d (map domain_parts plan.protection_domain) within)))

class_in : (class : Place) (client : ℕ → Place) (clients : Option ℕ) (count : ℕ) → clients ≡ Some count → IsIn class (class_places class client clients)
class_in class client clients count is = rw is (0, refl)

client_in : (class : Place) (client : ℕ → Place) (clients : Option ℕ) (count c : ℕ) → clients ≡ Some count → c < count → IsIn (client c) (class_places class client clients)
client_in class client clients count c is less = rw is (in_rest (client c) class (places_from client 0 count) (in_places client count c less))

counted : {T : Type 0} (count : T → ℕ) (o : Option T) (x : T) → o ≡ Some x → option_map count o ≡ Some (count x)
counted count o x is = rw is refl

net_counted : (plan : Plan) (net : Net) → plan.net ≡ Some net → (outline_of plan).net ≡ Some (length net.client)
net_counted plan net is = counted (λ (n : Net). length n.client) plan.net net is

serial_counted : (plan : Plan) (serial : Serial) → plan.serial ≡ Some serial → (outline_of plan).serial ≡ Some (length serial.client)
serial_counted plan serial is = counted (λ (s : Serial). length s.client) plan.serial serial is

blk_counted : (plan : Plan) (blk : Blk) → plan.blk ≡ Some blk → (outline_of plan).blk ≡ Some (length blk.client)
blk_counted plan blk is = counted (λ (b : Blk). length b.client) plan.blk blk is

in_net : (plan : Plan) (place : Place) → IsIn place (class_places At.Net (λ c. At.NetClient c) (outline_of plan).net) → IsIn place (walk (outline_of plan))
in_net plan place there =
    from_net (outline_of plan) place (in_right place (to_channels (outline_of plan)) (class_places At.Net (λ c. At.NetClient c) (outline_of plan).net) there)

in_serial : (plan : Plan) (place : Place) → IsIn place (class_places At.Serial (λ c. At.SerialClient c) (outline_of plan).serial) → IsIn place (walk (outline_of plan))
in_serial plan place there =
    from_serial (outline_of plan) place (in_right place (to_net (outline_of plan)) (class_places At.Serial (λ c. At.SerialClient c) (outline_of plan).serial) there)

in_blk : (plan : Plan) (place : Place) → IsIn place (class_places At.Blk (λ c. At.BlkClient c) (outline_of plan).blk) → IsIn place (walk (outline_of plan))
in_blk plan place there = in_right place (to_serial (outline_of plan)) (class_places At.Blk (λ c. At.BlkClient c) (outline_of plan).blk) there

pub net_walked : (plan : Plan) (net : Net) → plan.net ≡ Some net → IsIn At.Net (walk (outline_of plan))
net_walked plan net is = in_net plan At.Net (class_in At.Net (λ c. At.NetClient c) (outline_of plan).net (length net.client) (net_counted plan net is))

pub net_client_walked : (plan : Plan) (net : Net) (c : ℕ) → plan.net ≡ Some net → c < length net.client → IsIn (At.NetClient c) (walk (outline_of plan))
net_client_walked plan net c is less =
    in_net plan (At.NetClient c) (client_in At.Net (λ c. At.NetClient c) (outline_of plan).net (length net.client) c (net_counted plan net is) less)

pub serial_walked : (plan : Plan) (serial : Serial) → plan.serial ≡ Some serial → IsIn At.Serial (walk (outline_of plan))
serial_walked plan serial is =
    in_serial plan At.Serial (class_in At.Serial (λ c. At.SerialClient c) (outline_of plan).serial (length serial.client) (serial_counted plan serial is))

pub serial_client_walked : (plan : Plan) (serial : Serial) (c : ℕ) → plan.serial ≡ Some serial → c < length serial.client → IsIn (At.SerialClient c) (walk (outline_of plan))
serial_client_walked plan serial c is less =
    in_serial plan (At.SerialClient c) (client_in At.Serial (λ c. At.SerialClient c) (outline_of plan).serial (length serial.client) c (serial_counted plan serial is) less)

pub blk_walked : (plan : Plan) (blk : Blk) → plan.blk ≡ Some blk → IsIn At.Blk (walk (outline_of plan))
blk_walked plan blk is = in_blk plan At.Blk (class_in At.Blk (λ c. At.BlkClient c) (outline_of plan).blk (length blk.client) (blk_counted plan blk is))

pub blk_client_walked : (plan : Plan) (blk : Blk) (c : ℕ) → plan.blk ≡ Some blk → c < length blk.client → IsIn (At.BlkClient c) (walk (outline_of plan))
blk_client_walked plan blk c is less =
    in_blk plan (At.BlkClient c) (client_in At.Blk (λ c. At.BlkClient c) (outline_of plan).blk (length blk.client) c (blk_counted plan blk is) less)

-- an element of a valid plan breaks no rule, neither by its place nor by its rows
pub kept : (plan : Plan) (rule : ℕ) (place : Place) → Valid plan → first_rule ≤ rule → rule ≤ last_rule → IsIn place (walk (outline_of plan)) → BreaksAtPlace plan rule place → ⊥
kept plan rule place valid from to there bad = valid rule from to there.0 place there.1 (inl bad)

pub rows_kept : (plan : Plan) (rule : ℕ) (place : Place) → Valid plan → first_rule ≤ rule → rule ≤ last_rule → IsIn place (walk (outline_of plan))
    → OfElement plan place (BreaksByRows plan rule) → ⊥
rows_kept plan rule place valid from to there bad = valid rule from to there.0 place there.1 (inr bad)
