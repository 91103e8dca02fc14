-- The places of the table are the class part of the walk, with which it ends.
use Rattle.std.proofs.Common.{◌≡◌, List, [], ◌∷◌, ◌++◌, map, Option, Some, None, length, refl, sym, ap, ◌∙◌, append_assoc}
use Rattle.std.specs.Option.{option_map, option_map_or}
use Rattle.sdf_plan.specs.declared.place.Place.{Place}
use Rattle.sdf_plan.specs.declared.place.Place.TheVariants as At
use Rattle.sdf_plan.specs.declared.plan.Plan.{Plan}
use Rattle.sdf_plan.specs.declared.plan.Net.{Net}
use Rattle.sdf_plan.specs.declared.plan.Serial.{Serial}
use Rattle.sdf_plan.specs.declared.plan.Blk.{Blk}
use Rattle.sdf_plan.specs.Places.{walk, places_from, domain_places, channel_places, class_places}
use Rattle.sdf_plan.specs.Elements.{outline_of}
use Rattle.sdf_plan.specs.ClassTable.Table.{Element, net_elements, net_client_element, serial_elements, serial_client_element, blk_elements, blk_client_element, table_of, class_part}
use Rattle.sdf_plan.proofs.ClassTable.Numbered.{numbered-places}

abbrev places : List Element → List Place
places es = map (λ (e : Element). e.place) es

places-both : (xs ys : List Element) → places (xs ++ ys) ≡ places xs ++ places ys
places-both [] ys = refl
places-both (x ∷ xs) ys = ap (λ ps. x.place ∷ ps) (places-both xs ys)

net-places : (o : Option Net) → places (option_map_or net_elements o []) ≡ class_places At.Net (λ c. At.NetClient c) (option_map (λ (x : Net). length x.client) o)
net-places None = refl
net-places (Some net) = ap (λ ps. At.Net ∷ ps) (numbered-places (net_client_element net) (λ c. At.NetClient c) 0 net.client (λ k client. refl))

serial-places : (o : Option Serial) → places (option_map_or serial_elements o []) ≡ class_places At.Serial (λ c. At.SerialClient c) (option_map (λ (x : Serial). length x.client) o)
serial-places None = refl
serial-places (Some serial) = ap (λ ps. At.Serial ∷ ps) (numbered-places (serial_client_element serial) (λ c. At.SerialClient c) 0 serial.client (λ k client. refl))

blk-places : (o : Option Blk) → places (option_map_or blk_elements o []) ≡ class_places At.Blk (λ c. At.BlkClient c) (option_map (λ (x : Blk). length x.client) o)
blk-places None = refl
blk-places (Some blk) = ap (λ ps. At.Blk ∷ ps) (numbered-places (blk_client_element blk) (λ c. At.BlkClient c) 0 blk.client (λ k client. refl))

joined : (xs ys zs : List Element) (a b c : List Place) → places xs ≡ a → places ys ≡ b → places zs ≡ c → places (xs ++ ys ++ zs) ≡ a ++ b ++ c
joined xs ys zs a b c one two three =
    rw (← one, ← two, ← three) (places-both (xs ++ ys) zs ∙ ap (λ ps. ps ++ places zs) (places-both xs ys))

pub table_places : (plan : Plan) → places (table_of plan) ≡ class_part plan
unfolding table_of
table_places plan = joined _ _ _ _ _ _ (net-places plan.net) (serial-places plan.serial) (blk-places plan.blk)

behind : (x n s b : List Place) → x ++ n ++ s ++ b ≡ x ++ (n ++ s ++ b)
behind x n s b = append_assoc (x ++ n) s b ∙ append_assoc x n (s ++ b) ∙ ap (λ ps. x ++ ps) (sym (append_assoc n s b))

-- what stands before the classes in the walk
abbrev before : Plan → List Place
before plan =
    At.System ∷ places_from (λ r. At.Region r) 0 (outline_of plan).regions ++ domain_places 0 (outline_of plan).domains ++ channel_places 0 (outline_of plan).channels

pub walk-ends : (plan : Plan) → (before : List Place) × (walk (outline_of plan) ≡ before ++ class_part plan)
walk-ends plan = (
  before plan,
  behind (before plan) (class_places At.Net (λ c. At.NetClient c) (outline_of plan).net) (class_places At.Serial (λ c. At.SerialClient c) (outline_of plan).serial)
      (class_places At.Blk (λ c. At.BlkClient c) (outline_of plan).blk),
)
