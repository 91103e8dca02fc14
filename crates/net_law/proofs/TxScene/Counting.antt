-- How many descriptors of a client are bad: as many as it put back went back.
use Rattle.std.proofs.Common.{◌≡◌, ◌+◌, ◌++◌, ◌<◌, ℕ, zero, suc, Bool, true, false, not, cond, Some, List, [], ◌∷◌, All, length, slice_get, slice_set, refl, sym, ap, ◌∙◌, arith}
use Rattle.std.specs.Option.{option_to_list}
use Rattle.std.proofs.lemmas.List.{length-append}
use Rattle.cargo_core.specs.Lists.{Merge, merge_none, merge_next}
use Rattle.wire_core.specs.Bells.{bit}
use Rattle.wire_core.specs.Deeds.{Cargo}
use Rattle.play_core.proofs.Lists.{some_is}
use Rattle.net_virt_tx.specs.declared.client.Client.{Client}
use Rattle.net_virt_tx.specs.declared.descriptors.Sender.{Sender}
use Rattle.net_virt_tx.specs.Queued.{returns_list}
use Rattle.net_virt_tx.specs.Serving.{bad_ones, is_good_of}
use Rattle.net_virt_tx.specs.Clients.{ClientStands}

-- how many of these are bad
abbrev pub bad_many : Sender → List Cargo → ℕ
bad_many s [] = 0
bad_many s (x ∷ xs) = bit (not (is_good_of s x)) + bad_many s xs

pub bad_length : (s : Sender) (xs : List Cargo) → length (bad_ones s xs) ≡ bad_many s xs
bad_length s [] = refl
bad_length s (x ∷ xs) = by (is_good_of s x) (bad_length s xs)
  where
    by : (t : Bool) → length (bad_ones s xs) ≡ bad_many s xs → length (cond (not t) (x ∷ bad_ones s xs) (bad_ones s xs)) ≡ bit (not t) + bad_many s xs
    by true rest = omega (arith, rest)
    by false rest = omega (arith, rest)

abbrev bads_in : Sender → List (List Cargo) → ℕ
bads_in s [] = 0
bads_in s (l ∷ ls) = bad_many s l + bads_in s ls

bads_none : (s : Sender) (lists : List (List Cargo)) → ((k : ℕ) (l : List Cargo) → slice_get lists k ≡ Some l → l ≡ []) → bads_in s lists ≡ 0
bads_none s [] empty = refl
bads_none s (l ∷ ls) empty = omega (arith, ap (bad_many s) (empty 0 l refl), bads_none s ls (λ k m at. empty (suc k) m at))

bads_set : (s : Sender) (lists : List (List Cargo)) (k : ℕ) (x : Cargo) (l : List Cargo) → slice_get lists k ≡ Some (x ∷ l) → bads_in s lists ≡ bit (not (is_good_of s x)) + bads_in s (slice_set lists k l)
bads_set s [] k x l at = cc
bads_set s (m ∷ ls) zero x l at = omega (arith, ap (bad_many s) (some_is at))
bads_set s (m ∷ ls) (suc k) x l at = omega (arith, bads_set s ls k x l at)

bads_merge : (s : Sender) (lists : List (List Cargo)) (all : List Cargo) → Merge lists all → bad_many s all ≡ bads_in s lists
bads_merge s _ _ (merge_none lists empty) = sym (bads_none s lists empty)
bads_merge s _ _ (merge_next lists k x l all at rest) = omega (arith, bads_merge s (slice_set lists k l) all rest, bads_set s lists k x l at)

-- the bad ones are bad, and beginnings of them
bad_append : (s : Sender) (xs ys : List Cargo) → bad_many s (xs ++ ys) ≡ bad_many s xs + bad_many s ys
bad_append s [] ys = omega arith
bad_append s (x ∷ xs) ys = omega (arith, bad_append s xs ys)

few_bad : (s : Sender) (xs : List Cargo) → bad_many s xs < length xs + 1
few_bad s [] = omega arith
few_bad s (x ∷ xs) = by (is_good_of s x) (few_bad s xs)
  where
    by : (t : Bool) → bad_many s xs < length xs + 1 → bit (not t) + bad_many s xs < length (x ∷ xs) + 1
    by true rest = omega (arith, rest)
    by false rest = omega (arith, rest)

all_bad : (s : Sender) (xs : List Cargo) → bad_many s (bad_ones s xs) ≡ length (bad_ones s xs)
all_bad s [] = refl
all_bad s (x ∷ xs) = by (is_good_of s x) refl (all_bad s xs)
  where
    by : (t : Bool) → is_good_of s x ≡ t → bad_many s (bad_ones s xs) ≡ length (bad_ones s xs) → bad_many s (cond (not t) (x ∷ bad_ones s xs) (bad_ones s xs)) ≡ length (cond (not t) (x ∷ bad_ones s xs) (bad_ones s xs))
    by true e rest = rest
    by false e rest = let one = ap (λ b. bit (not b)) e in omega (arith, one, rest)

none_bad : (s : Sender) (xs : List Cargo) → All (λ (c : Cargo). is_good_of s c ≡ true) xs → bad_many s xs ≡ 0
none_bad s [] h = refl
none_bad s (x ∷ xs) h = let one = ap (λ b. bit (not b)) (h zero x (omega arith)) in omega (arith, one, none_bad s xs (λ k d l. h (suc k) d (omega (arith, l))))

-- of a client: as many bad ones went back as it put back
pub back_bad : (c : Client) (came sent returned back : List Cargo) (h : ClientStands c came sent returned back) → All (λ (x : Cargo). is_good_of c.sender x ≡ true) returned → bad_many c.sender back ≡ length h.bads
back_bad c came sent returned back h good =
    let s = c.sender in
    let merged = bads_merge s (h.bads ∷ h.rets ∷ []) back h.merged in
    let all = all_bad s came in
    let whole = ap (bad_many s) h.bads_are ∙ all in
    let parts = bad_append s h.bads (option_to_list c.bad) in
    let long = ap length h.bads_are in
    let long' = length-append h.bads (option_to_list c.bad) in
    let few = few_bad s h.bads in
    let few' = few_bad s (option_to_list c.bad) in
    let rets = none_bad s returned good in
    let rets' = ap (bad_many s) h.rets_are in
    let rets'' = bad_append s h.rets (returns_list c.returns) in
    omega (arith, merged, whole, parts, long, long', few, few', rets, rets', rets'')
