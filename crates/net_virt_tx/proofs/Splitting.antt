-- What the virtualiser put is a merge of what each client's range has of it.
use Rattle.std.proofs.Common.{◌≡◌, ◌+◌, ◌-◌, ◌*◌, ◌≤◌, nat_le, nat_lt, ℕ, zero, suc, Bool, true, false, cond, Some, List, [], ◌∷◌, ◌++◌, All, length, map, slice_get, slice_set, refl, sym, ap, ◌∙◌, subst, arith}
use Rattle.std.specs.List.{filter}
use Rattle.std.proofs.lemmas.Bool.{and_parts, leb-true}
use Rattle.std.proofs.lemmas.List.{length-map, map-append}
use Rattle.cargo_core.specs.declared.item.Item.{Item}
use Rattle.cargo_core.specs.declared.item.Item.TheVariants as ItemOf
use Rattle.cargo_core.specs.Lists.{IsPrefix, Merge, merge_none, merge_next, PrefixMerge}
use Rattle.wire_core.specs.declared.names.QueueId.{QueueId}
use Rattle.wire_core.specs.Lists.{Lists}
use Rattle.cargo_core.specs.Ranges.{AreRanges}
use Rattle.wire_core.specs.Deeds.{Cargo}
use Rattle.buffer_kit.specs.Entries.{addr_of}
use Rattle.net_virt_tx.specs.declared.descriptors.Sender.{Sender}
use Rattle.net_virt_tx.specs.Descriptors.{to_client, to_device, with_addr}
use Rattle.net_virt_tx.specs.Serving.{is_good_of, is_own, own_of}
use Rattle.net_virt_tx.specs.Clients.{range_of}
use Rattle.net_virt_tx.specs.Sending.{IsAnyones, all_good}
use Rattle.net_virt_tx.proofs.Serving.{is_within_own}
use Rattle.turn_kit.proofs.Offers.{get_map}
use Rattle.buffer_kit.proofs.ManyClients.{some_eq}

-- of some entries, those in the range of a client
abbrev pub owned : List Cargo → Sender → List Cargo
owned xs s = filter (is_own s) xs

-- no entry is in two clients' ranges
apart_own : (ss : List Sender) → AreRanges (map range_of ss) → (k j : ℕ) (s r : Sender) → slice_get ss k ≡ Some s → slice_get ss j ≡ Some r → (k ≡ j → ⊥) → (x : Cargo) → is_own s x ≡ true → is_own r x ≡ false
apart_own ss h k j s r at at' ne x own = h.apart k j (range_of s) (range_of r) (get_map range_of ss k s at) (get_map range_of ss j r at') ne (addr_of x.0) own

set_one : {U : Type 0} (f g : Sender → U) (ss : List Sender) (k : ℕ) (s : Sender) → slice_get ss k ≡ Some s → ((j : ℕ) (r : Sender) → slice_get ss j ≡ Some r → (k ≡ j → ⊥) → f r ≡ g r) → slice_set (map f ss) k (g s) ≡ map g ss
set_one f g [] k s at same = absurd cc
set_one f g (r ∷ ss) zero s at same = ap (λ y. y ∷ map f ss) (ap g (some_eq (sym at))) ∙ ap (λ ys. g r ∷ ys) (rest ss (λ j t there. same (suc j) t there (λ e. absurd cc)))
  where
    rest : (ts : List Sender) → ((j : ℕ) (t : Sender) → slice_get ts j ≡ Some t → f t ≡ g t) → map f ts ≡ map g ts
    rest [] h = refl
    rest (t ∷ ts) h = ap (λ y. y ∷ map f ts) (h zero t refl) ∙ ap (λ ys. g t ∷ ys) (rest ts (λ j u there. h (suc j) u there))
set_one f g (r ∷ ss) (suc k) s at same = ap (λ y. y ∷ slice_set (map f ss) k (g s)) (same zero r refl (λ e. absurd cc)) ∙ ap (λ ys. g r ∷ ys) (set_one f g ss k s at (λ j t there ne. same (suc j) t there (λ e. ne (let p : suc k ≡ suc j = e in omega (arith, p)))))

later : (P : Cargo → Type 0) (x : Cargo) (xs : List Cargo) → All P (x ∷ xs) → All P xs
later P x xs h = λ k d l. h (suc k) d (omega (arith, l))

owned_more : (s : Sender) (x : Cargo) (xs : List Cargo) → is_own s x ≡ true → owned (x ∷ xs) s ≡ x ∷ owned xs s
owned_more s x xs own = ap (λ b. cond b (x ∷ filter (is_own s) xs) (filter (is_own s) xs)) own

owned_same : (s : Sender) (x : Cargo) (xs : List Cargo) → is_own s x ≡ false → owned (x ∷ xs) s ≡ owned xs s
owned_same s x xs other = ap (λ b. cond b (x ∷ filter (is_own s) xs) (filter (is_own s) xs)) other

none_owned : (ss : List Sender) (k : ℕ) (l : List Cargo) → slice_get (map (owned []) ss) k ≡ Some l → l ≡ []
none_owned [] k l at = absurd cc
none_owned (s ∷ ss) zero l at = sym (some_eq at)
none_owned (s ∷ ss) (suc k) l at = none_owned ss k l at

abbrev pub AreSized : List Sender → Type 0
AreSized ss = (k : ℕ) (s : Sender) → slice_get ss k ≡ Some s → 1 ≤ s.size

pub split : (ss : List Sender) → AreSized ss → AreRanges (map range_of ss) → (xs : List Cargo) → All (IsAnyones ss) xs → Merge (map (owned xs) ss) xs
split ss sized apart [] h = merge_none (map (owned []) ss) (λ k l at. none_owned ss k l at)
split ss sized apart (x ∷ xs) h = by_owner (h zero x (omega arith)) (split ss sized apart xs (later (IsAnyones ss) x xs h))
  where
    by_owner : IsAnyones ss x → Merge (map (owned xs) ss) xs → Merge (map (owned (x ∷ xs)) ss) (x ∷ xs)
    by_owner (k, s, at, of) rest =
        let own = is_within_own s (sized k s at) x of in
        merge_next (map (owned (x ∷ xs)) ss) k x (owned xs s) xs (get_map (owned (x ∷ xs)) ss k s at ∙ ap (λ l. Some l) (owned_more s x xs own))
        (subst (λ ls. Merge ls xs) (sym (set_one (owned (x ∷ xs)) (owned xs) ss k s at (λ j r there ne. owned_same r x xs (apart_own ss apart k j s r at there ne x own)))) rest)

-- an entry of a client's range with the device address of its offset is itself
there_again : (base : ℕ) (item : Item) → base ≤ addr_of item → with_addr (base + addr_of (with_addr (addr_of item - base) item)) (with_addr (addr_of item - base) item) ≡ item
there_again base (ItemOf.Net d) l = let e : base + (d.addr - base) ≡ d.addr = omega (arith, l) in ap (λ n. ItemOf.Net (record { addr = n; len = d.len })) e
there_again base (ItemOf.Byte b) l = refl
there_again base (ItemOf.Req r) l = refl
there_again base (ItemOf.Resp r) l = refl

owned_again : (s : Sender) (xs : List Cargo) → map (to_device s.base) (own_of s xs) ≡ owned xs s
owned_again s [] = refl
owned_again s (x ∷ xs) = by_own (owned_again s xs) (is_own s x) refl
  where
    by_own : map (to_device s.base) (own_of s xs) ≡ owned xs s → (t : Bool) → is_own s x ≡ t → map (to_device s.base) (map (to_client s.base) (cond (is_own s x) (x ∷ filter (is_own s) xs) (filter (is_own s) xs))) ≡ cond (is_own s x) (x ∷ filter (is_own s) xs) (filter (is_own s) xs)
    by_own rest true own =
        let l = leb-true s.base (addr_of x.0) (and_parts (nat_le s.base (addr_of x.0)) (nat_lt (addr_of x.0) (s.base + s.buffers * s.size)) own).0 in
        ap (λ b. map (to_device s.base) (map (to_client s.base) (cond b (x ∷ filter (is_own s) xs) (filter (is_own s) xs)))) own ∙ (ap (λ i. (i, x.1) ∷ map (to_device s.base) (own_of s xs)) (there_again s.base x.0 l) ∙ (ap (λ ys. x ∷ ys) rest ∙ sym (ap (λ b. cond b (x ∷ filter (is_own s) xs) (filter (is_own s) xs)) own)))
    by_own rest false own = ap (λ b. map (to_device s.base) (map (to_client s.base) (cond b (x ∷ filter (is_own s) xs) (filter (is_own s) xs)))) own ∙ (rest ∙ sym (ap (λ b. cond b (x ∷ filter (is_own s) xs) (filter (is_own s) xs)) own))

all_good_long : (ss : List Sender) (qs : List QueueId) (lists : Lists) → length qs ≡ length ss → length (all_good ss qs lists) ≡ length ss
all_good_long [] qs lists long = refl
all_good_long (s ∷ ss) [] lists long = absurd (omega (arith, long))
all_good_long (s ∷ ss) (q ∷ qs) lists long = let r = all_good_long ss qs lists (omega (arith, long)) in omega (arith, r)

begun : (ss : List Sender) (qs : List QueueId) (lists : Lists) (went : List Cargo) → ((k : ℕ) (s : Sender) (q : QueueId) → slice_get ss k ≡ Some s → slice_get qs k ≡ Some q → IsPrefix (own_of s went) (filter (is_good_of s) (lists q.0)))
    → (k : ℕ) (part whole : List Cargo) → slice_get (map (owned went) ss) k ≡ Some part → slice_get (all_good ss qs lists) k ≡ Some whole → IsPrefix part whole
begun [] qs lists went h k part whole at at' = absurd cc
begun (s ∷ ss) [] lists went h k part whole at at' = absurd cc
begun (s ∷ ss) (q ∷ qs) lists went h zero part whole at at' =
    let b = h zero s q refl refl in
    (map (to_device s.base) b.0, ap (λ l. l ++ map (to_device s.base) b.0) (sym (some_eq at) ∙ sym (owned_again s went)) ∙ (sym (map-append (to_device s.base) (own_of s went) b.0) ∙ (ap (map (to_device s.base)) b.1 ∙ some_eq at')))
begun (s ∷ ss) (q ∷ qs) lists went h (suc k) part whole at at' = begun ss qs lists went (λ j r t. h (suc j) r t) k part whole at at'

-- what went to the driver is a merge of beginnings of what the clients sent well
pub merges : (ss : List Sender) (qs : List QueueId) (lists : Lists) (went : List Cargo) → AreSized ss → AreRanges (map range_of ss) → length qs ≡ length ss → All (IsAnyones ss) went → ((k : ℕ) (s : Sender) (q : QueueId) → slice_get ss k ≡ Some s → slice_get qs k ≡ Some q → IsPrefix (own_of s went) (filter (is_good_of s) (lists q.0)))
    → PrefixMerge (all_good ss qs lists) went
merges ss qs lists went sized apart long within each = record {
  parts = map (owned went) ss;
  as_many = length-map ss (owned went) ∙ sym (all_good_long ss qs lists long);
  begins = λ k part whole at at'. begun ss qs lists went each k part whole at at';
  merged = split ss sized apart went within;
}
