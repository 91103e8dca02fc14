-- Over all clients: what is at the driver and what leaves is what they had sent on.
use Rattle.std.proofs.Common.{◌≡◌, ◌+◌, ◌||◌, ℕ, zero, suc, Bool, true, false, cond, nat_lt, Option, Some, None, is_some, List, [], ◌∷◌, length, map, slice_get, refl, sym, ap, ◌∙◌, arith}
use Rattle.std.specs.List.{filter, list_any, sum_by}
use Rattle.std.specs.Option.{option_to_list}
use Rattle.std.proofs.lemmas.Bool.{lt-ltb, le-ltb}
use Rattle.std.proofs.lemmas.List.Sums.{sum_by-cons}
use Rattle.cargo_core.specs.Ranges.{AreRanges}
use Rattle.wire_core.specs.Bells.{bit}
use Rattle.wire_core.specs.Deeds.{Cargo}
use Rattle.play_core.proofs.Lists.{some_is, map_get}
use Rattle.blk_virt.specs.declared.client.Client.{Client}
use Rattle.blk_virt.specs.declared.requests.Holder.{Holder}
use Rattle.blk_virt.specs.Requests.{request_of, is_at, range_of}
use Rattle.blk_virt.specs.Serving.{own_of}
use Rattle.blk_virt.specs.Clients.{is_leaving}
use Rattle.blk_virt.specs.Desks.{IsSomeones}

-- how many of these have the entry at their buffers
abbrev at_sum : List Holder → Cargo → ℕ
at_sum [] x = 0
at_sum (h ∷ hs) x = bit (is_at h x) + at_sum hs x

-- how many of these entries are at buffers of each
abbrev pub own_sum : List Holder → List Cargo → ℕ
own_sum [] xs = 0
own_sum (h ∷ hs) xs = length (own_of h xs) + own_sum hs xs

abbrev AreApart : List Holder → Cargo → Type 0
AreApart hs x = (k j : ℕ) (g h : Holder) → slice_get hs k ≡ Some g → slice_get hs j ≡ Some h → (k ≡ j → ⊥) → is_at g x ≡ true → is_at h x ≡ false

none_at : (hs : List Holder) (x : Cargo) → ((k : ℕ) (h : Holder) → slice_get hs k ≡ Some h → is_at h x ≡ false) → at_sum hs x ≡ 0
none_at [] x off = refl
none_at (h ∷ hs) x off =
    let first : bit (is_at h x) ≡ 0 = ap bit (off 0 h refl) in
    let rest = none_at hs x (λ k g at. off (suc k) g at) in
    omega (arith, first, rest)

one_at : (hs : List Holder) (x : Cargo) → AreApart hs x → (k : ℕ) (h : Holder) → slice_get hs k ≡ Some h → is_at h x ≡ true → at_sum hs x ≡ 1
one_at [] x apart k h at on = cc
one_at (g ∷ hs) x apart zero h at on =
    let first : bit (is_at g x) ≡ 1 = ap (λ (y : Holder). bit (is_at y x)) (some_is at) ∙ ap bit on in
    let rest = none_at hs x (λ j f there. apart 0 (suc j) h f at there (λ e. cc) on) in
    omega (arith, first, rest)
one_at (g ∷ hs) x apart (suc k) h at on =
    let first : bit (is_at g x) ≡ 0 = ap bit (apart (suc k) 0 h g at refl (λ e. cc) on) in
    let rest = one_at hs x (λ i j f e there there' ne. apart (suc i) (suc j) f e there there' (λ same. ne (let p : suc i ≡ suc j = same in omega (arith, p)))) k h at on in
    omega (arith, first, rest)

own_one : (h : Holder) (x : Cargo) (xs : List Cargo) → length (own_of h (x ∷ xs)) ≡ bit (is_at h x) + length (own_of h xs)
own_one h x xs = by (is_at h x)
  where
    by : (b : Bool) → length (cond b (x ∷ filter (is_at h) xs) (filter (is_at h) xs)) ≡ bit b + length (filter (is_at h) xs)
    by true = omega arith
    by false = omega arith

sum_more : (hs : List Holder) (x : Cargo) (xs : List Cargo) → own_sum hs (x ∷ xs) ≡ at_sum hs x + own_sum hs xs
sum_more [] x xs = refl
sum_more (h ∷ hs) x xs =
    let first = own_one h x xs in
    let rest = sum_more hs x xs in
    omega (arith, first, rest)

sum_none : (hs : List Holder) → own_sum hs [] ≡ 0
sum_none [] = refl
sum_none (h ∷ hs) = let rest = sum_none hs in omega (arith, rest)

-- each entry is at the buffers of one of them
pub all_owned : (hs : List Holder) → AreRanges (map range_of hs) → (xs : List Cargo) → ((k : ℕ) (x : Cargo) → slice_get xs k ≡ Some x → IsSomeones hs x) → own_sum hs xs ≡ length xs
all_owned hs ranges [] within = sum_none hs
all_owned hs ranges (x ∷ xs) within =
    let some = within 0 x refl in
    let one = one_at hs x (λ k j g h at at' ne on. ranges.apart k j (range_of g) (range_of h) (map_get range_of hs k g at) (map_get range_of hs j h at') ne (request_of x.0).addr on) some.0 some.1 some.2 some.3 in
    let rest = all_owned hs ranges xs (λ k y at. within (suc k) y at) in
    let more = sum_more hs x xs in
    omega (arith, one, rest, more)

-- some client has a request to the driver where they have any together
abbrev pub leaving_sum : List Client → ℕ
leaving_sum cs = sum_by (λ (c : Client). length (option_to_list c.leaving)) cs

pub any_is : (cs : List Client) → list_any is_leaving cs ≡ nat_lt 0 (leaving_sum cs)
any_is [] = refl
any_is (c ∷ cs) = by (any_is cs) c.leaving refl
  where
    more : leaving_sum (c ∷ cs) ≡ length (option_to_list c.leaving) + leaving_sum cs
    more = sum_by-cons (λ (d : Client). length (option_to_list d.leaving)) c cs

    by : list_any is_leaving cs ≡ nat_lt 0 (leaving_sum cs) → (o : Option Cargo) → c.leaving ≡ o → (is_some c.leaving || list_any is_leaving cs) ≡ nat_lt 0 (leaving_sum (c ∷ cs))
    by rest None is =
        let none = ap (λ x. length (option_to_list x)) is in
        let same : leaving_sum (c ∷ cs) ≡ leaving_sum cs = omega (arith, more, none) in
        ap (λ x. is_some x || list_any is_leaving cs) is ∙ (rest ∙ ap (nat_lt 0) (sym same))
    by rest (Some x) is =
        let one = ap (λ y. length (option_to_list y)) is in
        ap (λ y. is_some y || list_any is_leaving cs) is ∙ sym (lt-ltb 0 (leaving_sum (c ∷ cs)) (omega (arith, more, one)))

pub less_by : (a r b : ℕ) → b ≡ a + r → nat_lt 0 r ≡ nat_lt a b
less_by a zero b e = sym (le-ltb a b (omega (arith, e)))
less_by a (suc r) b e = lt-ltb 0 (suc r) (omega arith) ∙ sym (lt-ltb a b (omega (arith, e)))
