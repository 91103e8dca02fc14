use Rattle.std.proofs.Common.{◌≡◌, ℕ, zero, suc, ◌+◌, ◌*◌, ◌<◌, ◌≤◌, ◌⊎◌, inl, inr, ⊎_elim, List, [], ◌∷◌, ◌++◌, length, sum_by, Option, Some, None, slice_get, refl, ap, sym, ◌∙◌, arith, add-zero, zero-add}
use Rattle.std.specs.Option.{option_map, option_map_or, IsSomeAnd}
use Rattle.std.proofs.lemmas.Bool.{cases_lt}
use Rattle.std.proofs.lemmas.List.Sums.{sum_by-cons}
use Rattle.std.proofs.lemmas.Option.{slice_get_within}
use Rattle.sdf_plan.specs.Places.{Outline, walk, places_from, domain_places, channel_places, class_places}
use Rattle.sdf_plan.specs.declared.place.Place.{Place}
use Rattle.sdf_plan.specs.declared.place.Place.TheVariants as At
use Rattle.sdf_plan.specs.declared.plan.Plan.{Plan}
use Rattle.sdf_plan.specs.declared.plan.Net.{Net}
use Rattle.sdf_plan.specs.declared.plan.NetClient.{NetClient}
use Rattle.sdf_plan.specs.declared.plan.Serial.{Serial}
use Rattle.sdf_plan.specs.declared.plan.Blk.{Blk}
use Rattle.sdf_plan.specs.declared.plan.BlkClient.{BlkClient}
use Rattle.sdf_plan.specs.Elements.{outline_of}
use Rattle.sdf_check.specs.ClassRules.{IsClientCount, IsBufferCount}
use Rattle.sdf_check.specs.Valid.{Valid, BreaksAtPlace, first_rule, last_rule}
use Rattle.sdf_check.proofs.ListLemmas.{get-left, get-right}
use Rattle.sdf_check.proofs.SoughtLemmas.{here-some}
use Rattle.trace_text.specs.declared.trace.Trace.{Trace}
use Rattle.trace_text.specs.Traces.{KeepsLimits}
use Rattle.expect_core.specs.Budgets.{clients_or_none, counts_of, IsWithinLimits}

-- a place stands among places
abbrev IsIn : Place → List Place → Type 0
IsIn place places = (k : ℕ) × (slice_get places k ≡ Some place)

in_left : (place : Place) (xs ys : List Place) → IsIn place xs → IsIn place (xs ++ ys)
in_left place xs ys there = (there.0, get-left xs ys there.0 place there.1)

in_right : (place : Place) (xs ys : List Place) → IsIn place ys → IsIn place (xs ++ ys)
in_right place xs ys there = (length xs + there.0, get-right xs ys there.0 place there.1)

place_at : (place : ℕ → Place) (first count k : ℕ) → k < count → slice_get (places_from place first count) k ≡ Some (place (first + k))
place_at place first zero k less = absurd (omega arith)
place_at place first (suc count) zero less = ap (λ n. Some (place n)) (sym (add-zero first))
place_at place first (suc count) (suc k) less =
    let less' : k < count = omega arith in
    let same : first + 1 + k ≡ first + suc k = omega arith in
    place_at place (first + 1) count k less' ∙ ap (λ n. Some (place n)) same

client_in : (class : Place) (client : ℕ → Place) (count c : ℕ) → c < count → IsIn (client c) (class_places class client (Some count))
client_in class client count c less = (suc c, place_at client 0 count c less ∙ ap (λ n. Some (client n)) (zero-add c))

-- the walk up to the class of each sort
abbrev to_net : Outline → List Place
to_net o = At.System ∷ places_from (λ r. At.Region r) 0 o.regions ++ domain_places 0 o.domains ++ channel_places 0 o.channels ++ class_places At.Net (λ c. At.NetClient c) o.net

abbrev to_serial : Outline → List Place
to_serial o = to_net o ++ class_places At.Serial (λ c. At.SerialClient c) o.serial

in_net : (o : Outline) (place : Place) → IsIn place (class_places At.Net (λ c. At.NetClient c) o.net) → IsIn place (walk o)
in_net o place there =
    in_left place (to_serial o) (class_places At.Blk (λ c. At.BlkClient c) o.blk)
    (in_left place (to_net o) (class_places At.Serial (λ c. At.SerialClient c) o.serial)
    (in_right place (At.System ∷ places_from (λ r. At.Region r) 0 o.regions ++ domain_places 0 o.domains ++ channel_places 0 o.channels) (class_places At.Net (λ c. At.NetClient c) o.net) there))

in_serial : (o : Outline) (place : Place) → IsIn place (class_places At.Serial (λ c. At.SerialClient c) o.serial) → IsIn place (walk o)
in_serial o place there =
    in_left place (to_serial o) (class_places At.Blk (λ c. At.BlkClient c) o.blk) (in_right place (to_net o) (class_places At.Serial (λ c. At.SerialClient c) o.serial) there)

in_blk : (o : Outline) (place : Place) → IsIn place (class_places At.Blk (λ c. At.BlkClient c) o.blk) → IsIn place (walk o)
in_blk o place there = in_right place (to_serial o) (class_places At.Blk (λ c. At.BlkClient c) o.blk) there

-- no element of a valid plan passes a limit
kept : (plan : Plan) (place : Place) → Valid plan → IsIn place (walk (outline_of plan)) → BreaksAtPlace plan 30 place → ⊥
kept plan place valid there bad = valid 30 (omega arith) (omega arith) there.0 place there.1 (inl bad)

not_above : (a b : ℕ) → (a < b → ⊥) → b ≤ a
not_above a b past = ⊎_elim (λ (less : a < b). absurd (past less)) (λ (most : b ≤ a). most) (cases_lt a b)

counted : {T : Type 0} (count : T → ℕ) (o : Option T) (x : T) → o ≡ Some x → option_map count o ≡ Some (count x)
counted count o x is = rw is refl

-- a block client of a valid plan breaks no rule that is told of its place
pub blk_client_kept : (plan : Plan) (blk : Blk) (c : ℕ) (client : BlkClient) (rule : ℕ) → Valid plan → plan.blk ≡ Some blk → slice_get blk.client c ≡ Some client → first_rule ≤ rule → rule ≤ last_rule → BreaksAtPlace plan rule (At.BlkClient c) → ⊥
blk_client_kept plan blk c client rule valid is at from to bad =
    let there : IsIn (At.BlkClient c) (class_places At.Blk (λ c. At.BlkClient c) (outline_of plan).blk) =
    rw (counted (λ (b : Blk). length b.client) plan.blk blk is) (client_in At.Blk (λ c. At.BlkClient c) (length blk.client) c (slice_get_within blk.client c client at)) in
    let walked = in_blk (outline_of plan) (At.BlkClient c) there in
    valid rule from to walked.0 (At.BlkClient c) walked.1 (inl bad)

at_most_8 : (n : ℕ) → ((IsClientCount n → ⊥) → ⊥) → n ≤ 8
at_most_8 n h = not_above 8 n (λ more. h (λ is. let most = is.1 in absurd (omega arith)))

at_most_512 : (n : ℕ) → ((IsBufferCount n → ⊥) → ⊥) → n ≤ 512
at_most_512 n h = not_above 512 n (λ more. h (λ is. let most = is.1 in absurd (omega arith)))

net_limits : (plan : Plan) (net : Net) → Valid plan → plan.net ≡ Some net → (length net.client ≤ 8) × (net.rx_buffers ≤ 512)
net_limits plan net valid is =
    let there : IsIn At.Net (class_places At.Net (λ c. At.NetClient c) (outline_of plan).net) = rw (counted (λ (n : Net). length n.client) plan.net net is) (0, refl) in
    let fine = kept plan At.Net valid (in_net (outline_of plan) At.Net there) in
    let here : (((IsClientCount (length net.client) → ⊥) ⊎ (IsBufferCount net.rx_buffers → ⊥)) → ⊥) =
    λ bad. fine (here-some plan.net net (λ (x : Net). (IsClientCount (length x.client) → ⊥) ⊎ (IsBufferCount x.rx_buffers → ⊥)) is bad) in
    (at_most_8 (length net.client) (λ past. here (inl past)), at_most_512 net.rx_buffers (λ past. here (inr past)))

net_client_limit : (plan : Plan) (net : Net) (c : ℕ) (client : NetClient) → Valid plan → plan.net ≡ Some net → slice_get net.client c ≡ Some client → client.rx_buffers ≤ 512
net_client_limit plan net c client valid is at =
    let there : IsIn (At.NetClient c) (class_places At.Net (λ c. At.NetClient c) (outline_of plan).net) =
    rw (counted (λ (n : Net). length n.client) plan.net net is) (client_in At.Net (λ c. At.NetClient c) (length net.client) c (slice_get_within net.client c client at)) in
    let fine = kept plan (At.NetClient c) valid (in_net (outline_of plan) (At.NetClient c) there) in
    at_most_512 client.rx_buffers (λ past.
    fine (here-some plan.net net (λ (x : Net). IsSomeAnd (slice_get x.client c) (λ (y : NetClient). (IsBufferCount y.rx_buffers → ⊥) ⊎ (IsBufferCount y.tx_buffers → ⊥))) is
    (here-some (slice_get net.client c) client (λ (y : NetClient). (IsBufferCount y.rx_buffers → ⊥) ⊎ (IsBufferCount y.tx_buffers → ⊥)) at (inl past))))

serial_limit : (plan : Plan) (serial : Serial) → Valid plan → plan.serial ≡ Some serial → length serial.client ≤ 8
serial_limit plan serial valid is =
    let there : IsIn At.Serial (class_places At.Serial (λ c. At.SerialClient c) (outline_of plan).serial) = rw (counted (λ (s : Serial). length s.client) plan.serial serial is) (0, refl) in
    let fine = kept plan At.Serial valid (in_serial (outline_of plan) At.Serial there) in
    at_most_8 (length serial.client) (λ past. fine (here-some plan.serial serial (λ (x : Serial). IsClientCount (length x.client) → ⊥) is past))

blk_limit : (plan : Plan) (blk : Blk) → Valid plan → plan.blk ≡ Some blk → length blk.client ≤ 8
blk_limit plan blk valid is =
    let there : IsIn At.Blk (class_places At.Blk (λ c. At.BlkClient c) (outline_of plan).blk) = rw (counted (λ (b : Blk). length b.client) plan.blk blk is) (0, refl) in
    let fine = kept plan At.Blk valid (in_blk (outline_of plan) At.Blk there) in
    at_most_8 (length blk.client) (λ past. fine (here-some plan.blk blk (λ (x : Blk). IsClientCount (length x.client) → ⊥) is past))

-- a class that is there at most, or none, is within a limit
or_none : {T : Type 0} (count : T → ℕ) (most : ℕ) (class : Option T) → ((x : T) → class ≡ Some x → count x ≤ most) → clients_or_none (option_map count class) ≤ most
or_none count most None h = omega arith
or_none count most (Some x) h = h x refl

or_zero : {T : Type 0} (count : T → ℕ) (most : ℕ) (class : Option T) → ((x : T) → class ≡ Some x → count x ≤ most) → option_map_or count class 0 ≤ most
or_zero count most None h = omega arith
or_zero count most (Some x) h = h x refl

sum_limit : {T : Type 0} (count : T → ℕ) (most : ℕ) (xs : List T) → ((k : ℕ) (x : T) → slice_get xs k ≡ Some x → count x ≤ most) → sum_by count xs ≤ most * length xs
sum_limit count most [] h = omega arith
sum_limit count most (x ∷ xs) h =
    let here = h 0 x refl in
    let rest = sum_limit count most xs (λ k y at. h (suc k) y at) in
    rw (sum_by-cons count x xs) (omega arith)

buffers_limit : (class : Option Net)
    → ((net : Net) → class ≡ Some net → (length net.client ≤ 8) × ((c : ℕ) (client : NetClient) → slice_get net.client c ≡ Some client → client.rx_buffers ≤ 512))
    → sum_by (λ (c : NetClient). c.rx_buffers) (option_map_or (λ (net : Net). net.client) class []) ≤ 4096
buffers_limit None h = omega arith
buffers_limit (Some net) h =
    let few = (h net refl).0 in
    let all = sum_limit (λ (c : NetClient). c.rx_buffers) 512 net.client (h net refl).1 in
    omega arith

-- the counts of a valid plan, and of a trace that keeps the limits
pub within_limits : (plan : Plan) (trace : Trace) → Valid plan → KeepsLimits plan trace → IsWithinLimits (counts_of plan trace)
within_limits plan trace valid h = record {
  net = or_none (λ (n : Net). length n.client) 8 plan.net (λ net is. (net_limits plan net valid is).0);
  serial = or_none (λ (s : Serial). length s.client) 8 plan.serial (λ serial is. serial_limit plan serial valid is);
  blk = or_none (λ (b : Blk). length b.client) 8 plan.blk (λ blk is. blk_limit plan blk valid is);
  device_buffers = or_zero (λ (n : Net). n.rx_buffers) 512 plan.net (λ net is. (net_limits plan net valid is).1);
  client_buffers = buffers_limit plan.net (λ net is. ((net_limits plan net valid is).0, λ c client at. net_client_limit plan net c client valid is at));
  frames = h.frames;
  bytes = h.bytes;
  asks = h.requests;
}
