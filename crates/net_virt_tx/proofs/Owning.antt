-- The client at a place, and whose buffer begins at a device address.
use Rattle.std.proofs.Common.{◌≡◌, ◌⊎◌, ◌+◌, ◌*◌, ◌==◌, ◌<◌, ◌&&◌, ℕ, Bool, true, false, nat_le, nat_lt, inl, inr, Option, Some, None, [], ◌∷◌, All, length, slice_get, slice_index_or, refl, sym, ap, ◌∙◌, subst, arith}
use Rattle.std.specs.Option.{option_to_list, is_some}
use Rattle.std.proofs.lemmas.Bool.{cases_eq, and_parts, eqb-true, and_from, lt-ltb}
use Rattle.std.proofs.lemmas.List.{length-map}
use Rattle.std.proofs.lemmas.Option.{slice_get_within, slice_get-get_or}
use Rattle.std.proofs.lemmas.List.Elements.{All-nil, All-cons}
use Rattle.cargo_core.specs.declared.ranges.Range.{Range}
use Rattle.cargo_core.specs.Ranges.{IsOwner, IsNobodys, is_within}
use Rattle.cargo_core.specs.declared.item.Item.{Item}
use Rattle.wire_core.specs.Deeds.{Cargo, given}
use Rattle.buffer_kit.specs.Entries.{addr_of}
use Rattle.buffer_kit.proofs.ManyClients.{some_eq, entry_there}
use Rattle.net_virt_tx.specs.declared.client.Client.{Client}
use Rattle.net_virt_tx.specs.declared.traffic.Traffic.{Traffic}
use Rattle.net_virt_tx.specs.Clients.{IsClient, IsOf, is_away, is_marked, buffer_at, range_of}
use Rattle.net_virt_tx.specs.Traffics.{IsTraffic, leaving_in, senders}
use Rattle.net_virt_tx.proofs.Counting.{marked_within, ends_within}
use Rattle.net_virt_tx.proofs.Serving.{range_at}

-- a buffer that is away is in the client's range
pub away_of : (c : Client) → IsClient c → (x : Cargo) → is_away c (addr_of x.0) ≡ true → IsOf c.sender x
away_of c h x e =
    let one = and_parts (nat_le c.sender.base (addr_of x.0)) ((c.sender.base + buffer_at c (addr_of x.0) * c.sender.size == addr_of x.0) && is_marked c.away (buffer_at c (addr_of x.0))) e in
    let two = and_parts (c.sender.base + buffer_at c (addr_of x.0) * c.sender.size == addr_of x.0) (is_marked c.away (buffer_at c (addr_of x.0))) one.1 in
    let low = marked_within c.away (buffer_at c (addr_of x.0)) two.1 in
    let long = h.away_long in
    (buffer_at c (addr_of x.0), omega (arith, low, long), sym (eqb-true (c.sender.base + buffer_at c (addr_of x.0) * c.sender.size) (addr_of x.0) two.0))

pub away_within : (c : Client) → IsClient c → (a : ℕ) → is_away c a ≡ true → is_within (range_of c.sender) a ≡ true
away_within c h a e =
    let one = and_parts (nat_le c.sender.base a) ((c.sender.base + buffer_at c a * c.sender.size == a) && is_marked c.away (buffer_at c a)) e in
    let two = and_parts (c.sender.base + buffer_at c a * c.sender.size == a) (is_marked c.away (buffer_at c a)) one.1 in
    let low = marked_within c.away (buffer_at c a) two.1 in
    let long = h.away_long in
    let at = eqb-true (c.sender.base + buffer_at c a * c.sender.size) a two.0 in
    let within = ends_within c.sender.size (buffer_at c a) c.sender.buffers (omega (arith, low, long)) in
    let some = h.sized in
    and_from (nat_le c.sender.base a) (nat_lt a (c.sender.base + c.sender.buffers * c.sender.size)) one.0 (lt-ltb a (c.sender.base + c.sender.buffers * c.sender.size) (omega (arith, some, within, at)))

not_true : (b : Bool) → (b ≡ true → ⊥) → b ≡ false
not_true true h = absurd (h refl)
not_true false h = refl

-- where no range holds the address, nobody's buffer is away there
pub nobody_away : (w : Traffic) → IsTraffic w → (a : ℕ) → IsNobodys w.ranges a → (k : ℕ) (c : Client) → slice_get w.clients.items k ≡ Some c → is_away c a ≡ false
nobody_away w h a none k c at = not_true (is_away c a) (λ e.
    let r = range_at w h k c at in
    let there = slice_get_within w.ranges k (range_of c.sender) r in
    let same : slice_index_or w.ranges k (range_of c.sender) ≡ range_of c.sender = some_eq (sym (slice_get-get_or w.ranges k (range_of c.sender) there) ∙ r) in
    let no : is_within (range_of c.sender) a ≡ false = subst (λ (x : Range). is_within x a ≡ false) same (none k (range_of c.sender) there) in
    let yes = away_within c (h.each k c at) a e in
    let clash : true ≡ false = sym yes ∙ no in absurd cc)

-- where the owner's isn't, nobody's is
pub owner_away : (w : Traffic) → IsTraffic w → (a n : ℕ) → IsOwner w.ranges a n → (d : Client) → slice_get w.clients.items n ≡ Some d → is_away d a ≡ false → (k : ℕ) (c : Client) → slice_get w.clients.items k ≡ Some c → is_away c a ≡ false
owner_away w h a n own d there off k c at = by_test (cases_eq n k)
  where
    by_test : (n ≡ k) ⊎ (n ≡ k → ⊥) → is_away c a ≡ false
    by_test (inl e) = subst (λ (x : Client). is_away x a ≡ false) (some_eq (sym there ∙ (ap (slice_get w.clients.items) e ∙ at))) off
    by_test (inr ne) = not_true (is_away c a) (λ e.
        let no = h.apart.apart n k own.range (range_of c.sender) own.there (range_at w h k c at) ne a own.within in
        let yes = away_within c (h.each k c at) a e in
        let clash : true ≡ false = sym yes ∙ no in absurd cc)

pub owner_there : (w : Traffic) → IsTraffic w → (a n : ℕ) → IsOwner w.ranges a n → n < length w.clients.items
owner_there w h a n own =
    let l = slice_get_within w.ranges n own.range own.there in
    let m = ap length h.ranges_are in
    let p = length-map (senders w) range_of in
    let q = length-map w.clients.items (λ (c : Client). c.sender) in
    omega (arith, l, m, p, q)

-- a client that has something for the driver is there
pub leaving_there : (o : Option Client) → is_some (leaving_in o) ≡ true → (c : Client) × (o ≡ Some c) × (is_some c.leaving ≡ true)
leaving_there o h = entry_there (λ (c : Client). c.leaving) o h

-- what was put is of the load
pub put_of_load : (P : Cargo → Type 0) (item : Option Item) (load : Option Cargo) → ((x : Cargo) → load ≡ Some x → P x) → All P (option_to_list (given item load))
put_of_load P None load h = All-nil P
put_of_load P (Some i) None h = All-nil P
put_of_load P (Some i) (Some x) h = All-cons P x [] (h x refl) (All-nil P)

pub one_of : (P : Cargo → Type 0) (x : Cargo) → P x → All P (x ∷ [])
one_of P x h = All-cons P x [] h (All-nil P)
