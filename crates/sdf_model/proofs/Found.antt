use Rattle.std.proofs.Common.{◌≡◌, ℕ, zero, suc, ◌+◌, List, [], ◌∷◌, ◌++◌, length, map, codes, Option, Some, None, option_map, refl, ap, ◌∙◌, arith}
use Rattle.std.specs.List.{slice_get}
use Rattle.std.proofs.lemmas.Option.{same_Some}
use Rattle.toml.specs.Data.{Members}
use Rattle.sdf_plan.specs.declared.place.Place.{Place}
use Rattle.sdf_plan.specs.declared.place.Place.TheVariants as At
use Rattle.sdf_plan.specs.Places.{places_from, domain_places, channel_places, class_places, walk}
use Rattle.sdf_model.specs.Tree.{tables_at, table_at, part_at, element_at, outline_of}
use Rattle.sdf_model.specs.Elements.{Seen, nth, parts, domain_parts, channel_parts, class_parts, elements_of}

-- ---- the places of the elements are the walk

abbrev pub places : List Seen → List Place
places es = map (λ e. e.0) es

places-append : (xs ys : List Seen) → places (xs ++ ys) ≡ places xs ++ places ys
places-append [] ys = refl
places-append (x ∷ xs) ys = ap (λ l. x.0 ∷ l) (places-append xs ys)

parts-places : (first : Place) (n : ℕ) (ts : List Members) → places (parts first n ts) ≡ places_from (nth first) n (length ts)
parts-places first n [] = refl
parts-places first n (t ∷ ts) = ap (λ l. nth first n ∷ l) (parts-places first (n + 1) ts)

domain-places : (d : ℕ) (ts : List Members)
    → places (domain_parts d ts) ≡ domain_places d (map (λ t. (length (tables_at (codes "map") t), length (tables_at (codes "irq") t))) ts)
domain-places d [] = refl
domain-places d (t ∷ ts) =
    rw (
      places-append ((At.Domain d, t) ∷ parts (At.Map d 0) 0 (tables_at (codes "map") t) ++ parts (At.Irq d 0) 0 (tables_at (codes "irq") t)) (domain_parts (d + 1) ts),
      places-append (parts (At.Map d 0) 0 (tables_at (codes "map") t)) (parts (At.Irq d 0) 0 (tables_at (codes "irq") t)),
      parts-places (At.Map d 0) 0 (tables_at (codes "map") t),
      parts-places (At.Irq d 0) 0 (tables_at (codes "irq") t),
      domain-places (d + 1) ts,
    ) refl

channel-places : (c : ℕ) (ts : List Members) → places (channel_parts c ts) ≡ channel_places c (map (λ t. length (tables_at (codes "end") t)) ts)
channel-places c [] = refl
channel-places c (t ∷ ts) =
    rw (
      places-append ((At.Channel c, t) ∷ parts (At.End c 0) 0 (tables_at (codes "end") t)) (channel_parts (c + 1) ts),
      parts-places (At.End c 0) 0 (tables_at (codes "end") t),
      channel-places (c + 1) ts,
    ) refl

class-places : (class client : Place) (o : Option Members)
    → places (class_parts class client o) ≡ class_places class (nth client) (option_map (λ t. length (tables_at (codes "client") t)) o)
class-places class client None = refl
class-places class client (Some t) = ap (λ l. class ∷ l) (parts-places client 0 (tables_at (codes "client") t))

-- a list of elements after others
also : (xs ys : List Seen) (ps qs : List Place) → places xs ≡ ps → places ys ≡ qs → places (xs ++ ys) ≡ ps ++ qs
also xs ys ps qs a b = places-append xs ys ∙ ap (λ l. l ++ places ys) a ∙ ap (λ l. ps ++ l) b

six-places : (a b c d e f : List Seen) (pa pb pc pd pe pf : List Place) → places a ≡ pa → places b ≡ pb → places c ≡ pc → places d ≡ pd → places e ≡ pe → places f ≡ pf
    → places (a ++ b ++ c ++ d ++ e ++ f) ≡ pa ++ pb ++ pc ++ pd ++ pe ++ pf
six-places a b c d e f pa pb pc pd pe pf ha hb hc hd he hf =
    also (a ++ b ++ c ++ d ++ e) f _ _ (also (a ++ b ++ c ++ d) e _ _ (also (a ++ b ++ c) d _ _ (also (a ++ b) c _ _ (also a b _ _ ha hb) hc) hd) he) hf

pub elements-walk : (root : Members) → places (elements_of root) ≡ walk (outline_of root)
unfolding elements_of
elements-walk root =
    six-places ((At.System, root) ∷ parts (At.Region 0) 0 (tables_at (codes "memory_region") root)) (domain_parts 0 (tables_at (codes "protection_domain") root))
    (channel_parts 0 (tables_at (codes "channel") root)) (class_parts At.Net (At.NetClient 0) (table_at (codes "net") root))
    (class_parts At.Serial (At.SerialClient 0) (table_at (codes "serial") root)) (class_parts At.Blk (At.BlkClient 0) (table_at (codes "blk") root)) _ _ _ _ _ _
    (ap (λ l. At.System ∷ l) (parts-places (At.Region 0) 0 (tables_at (codes "memory_region") root)))
    (domain-places 0 (tables_at (codes "protection_domain") root))
    (channel-places 0 (tables_at (codes "channel") root))
    (class-places At.Net (At.NetClient 0) (table_at (codes "net") root))
    (class-places At.Serial (At.SerialClient 0) (table_at (codes "serial") root))
    (class-places At.Blk (At.BlkClient 0) (table_at (codes "blk") root))

-- ---- each element has the table at its place

abbrev pub Every : (Seen → Type 0) → List Seen → Type 0
Every P [] = Unit {0}
Every P (e ∷ es) = P e × Every P es

every-append : (P : Seen → Type 0) (xs ys : List Seen) → Every P xs → Every P ys → Every P (xs ++ ys)
every-append P [] ys a b = b
every-append P (x ∷ xs) ys a b = (a.0, every-append P xs ys a.1 b)

pub every-at : (P : Seen → Type 0) (es : List Seen) (k : ℕ) (e : Seen) → slice_get es k ≡ Some e → Every P es → P e
every-at P [] k e h a = cc
every-at P (x ∷ es) zero e h a = rw (← same_Some _ _ h) a.0
every-at P (x ∷ es) (suc k) e h a = every-at P es k e h a.1

abbrev pub Stands : (Place → Option Members) → Seen → Type 0
Stands get e = get e.0 ≡ Some e.1

-- the rest of a list is what stands in it from a number on
abbrev Rest : List Members → ℕ → List Members → Type 0
Rest all n ts = (m : ℕ) → slice_get all (n + m) ≡ slice_get ts m

rest-front : (all : List Members) (n : ℕ) (t : Members) (ts : List Members) → Rest all n (t ∷ ts) → slice_get all n ≡ Some t
rest-front all n t ts r = ap (slice_get all) (omega arith) ∙ r 0

rest-next : (all : List Members) (n : ℕ) (t : Members) (ts : List Members) → Rest all n (t ∷ ts) → Rest all (n + 1) ts
rest-next all n t ts r = λ m. ap (slice_get all) (omega arith) ∙ r (suc m)

rest-all : (all : List Members) → Rest all 0 all
rest-all all = λ m. ap (slice_get all) (omega arith)

parts-stand : (get : Place → Option Members) (first : Place) (all : List Members) (n : ℕ) (ts : List Members)
    → ((m : ℕ) → get (nth first m) ≡ slice_get all m) → Rest all n ts → Every (Stands get) (parts first n ts)
parts-stand get first all n [] is r = tt
parts-stand get first all n (t ∷ ts) is r = (is n ∙ rest-front all n t ts r, parts-stand get first all (n + 1) ts is (rest-next all n t ts r))

-- the parts of an element that is there
parts-of : (get : Place → Option Members) (first : Place) (key : List ℕ) (o : Option Members) (t : Members) → o ≡ Some t
    → ((m : ℕ) → get (nth first m) ≡ part_at key m o) → Every (Stands get) (parts first 0 (tables_at key t))
parts-of get first key o t is there =
    parts-stand get first (tables_at key t) 0 (tables_at key t) (λ m. there m ∙ ap (part_at key m) is) (rest-all (tables_at key t))

domains-stand : (root : Members) (d : ℕ) (ts : List Members) → Rest (tables_at (codes "protection_domain") root) d ts → Every (Stands (element_at root)) (domain_parts d ts)
domains-stand root d [] r = tt
domains-stand root d (t ∷ ts) r =
    let here : part_at (codes "protection_domain") d (Some root) ≡ Some t = rest-front _ d t ts r in
    every-append _ ((At.Domain d, t) ∷ parts (At.Map d 0) 0 (tables_at (codes "map") t) ++ parts (At.Irq d 0) 0 (tables_at (codes "irq") t)) (domain_parts (d + 1) ts) (
      here,
      every-append _ (parts (At.Map d 0) 0 (tables_at (codes "map") t)) (parts (At.Irq d 0) 0 (tables_at (codes "irq") t))
          (parts-of (element_at root) (At.Map d 0) (codes "map") _ t here (λ m. refl))
          (parts-of (element_at root) (At.Irq d 0) (codes "irq") _ t here (λ m. refl)),
    )
    (domains-stand root (d + 1) ts (rest-next _ d t ts r))

channels-stand : (root : Members) (c : ℕ) (ts : List Members) → Rest (tables_at (codes "channel") root) c ts → Every (Stands (element_at root)) (channel_parts c ts)
channels-stand root c [] r = tt
channels-stand root c (t ∷ ts) r =
    let here : part_at (codes "channel") c (Some root) ≡ Some t = rest-front _ c t ts r in
    every-append _ ((At.Channel c, t) ∷ parts (At.End c 0) 0 (tables_at (codes "end") t)) (channel_parts (c + 1) ts)
    (here, parts-of (element_at root) (At.End c 0) (codes "end") _ t here (λ m. refl))
    (channels-stand root (c + 1) ts (rest-next _ c t ts r))

class-stands : (get : Place → Option Members) (class client : Place) (o : Option Members) → get class ≡ o → ((m : ℕ) → get (nth client m) ≡ part_at (codes "client") m o)
    → Every (Stands get) (class_parts class client o)
class-stands get class client None is there = tt
class-stands get class client (Some t) is there = (is, parts-of get client (codes "client") (Some t) t refl there)

every-six : (P : Seen → Type 0) (a b c d e f : List Seen) → Every P a → Every P b → Every P c → Every P d → Every P e → Every P f → Every P (a ++ b ++ c ++ d ++ e ++ f)
every-six P a b c d e f ha hb hc hd he hf =
    every-append P (a ++ b ++ c ++ d ++ e) f (every-append P (a ++ b ++ c ++ d) e (every-append P (a ++ b ++ c) d (every-append P (a ++ b) c (every-append P a b ha hb) hc) hd) he) hf

pub elements-stand : (root : Members) → Every (Stands (element_at root)) (elements_of root)
unfolding elements_of
elements-stand root =
    let regions = tables_at (codes "memory_region") root in
    every-six (Stands (element_at root)) ((At.System, root) ∷ parts (At.Region 0) 0 regions) (domain_parts 0 (tables_at (codes "protection_domain") root))
    (channel_parts 0 (tables_at (codes "channel") root)) (class_parts At.Net (At.NetClient 0) (table_at (codes "net") root))
    (class_parts At.Serial (At.SerialClient 0) (table_at (codes "serial") root)) (class_parts At.Blk (At.BlkClient 0) (table_at (codes "blk") root))
    (refl, parts-stand (element_at root) (At.Region 0) regions 0 regions (λ m. refl) (rest-all regions))
    (domains-stand root 0 (tables_at (codes "protection_domain") root) (rest-all _))
    (channels-stand root 0 (tables_at (codes "channel") root) (rest-all _))
    (class-stands (element_at root) At.Net (At.NetClient 0) (table_at (codes "net") root) refl (λ m. refl))
    (class-stands (element_at root) At.Serial (At.SerialClient 0) (table_at (codes "serial") root) refl (λ m. refl))
    (class-stands (element_at root) At.Blk (At.BlkClient 0) (table_at (codes "blk") root) refl (λ m. refl))
