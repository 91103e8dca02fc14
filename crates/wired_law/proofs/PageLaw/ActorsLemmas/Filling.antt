-- Stocks and filled buffers, counted one by one: what is filled stays of its length.
use Rattle.std.proofs.Common.{◌≡◌, ◌≤◌, ℕ, nat_le, Bool, true, false, if◌then◌else◌, List, [], ◌∷◌, length, map, reverse, refl, ap, arith}
use Rattle.std.specs.Option.{option_to_list}
use Rattle.std.proofs.lemmas.Bool.{leb-true}
use Rattle.std.proofs.lemmas.List.{reverse-append}
use Rattle.cargo_core.specs.declared.item.Body.{Body}
use Rattle.cargo_core.specs.declared.item.Body.TheVariants as Carried
use Rattle.cargo_core.specs.Pages.{Paged}
use Rattle.cargo_core.specs.Lists.{replaced}
use Rattle.wire_core.specs.Deeds.{Cargo}
use Rattle.turn_kit.specs.Hands.{bodies_of}
use Rattle.buffer_kit.specs.Entries.{filled_body, all_filled}
use Rattle.buffer_kit.specs.Pools.{page_bodies, given_entry}
use Rattle.buffer_kit.specs.Stocks.{stock_list, stock_hand}
use Rattle.buffer_kit.specs.declared.stock.Stock.{Stock}
use Rattle.buffer_kit.specs.Conserving.{Count, weight, counted, weighed}
use Rattle.buffer_kit.proofs.Conserving.{weighed-append, counted-append, counted-pages, front_long}

pages-reverse : (f : Count) (xs : List Paged) → counted f (page_bodies (reverse xs)) ≡ counted f (page_bodies xs)
pages-reverse f [] = refl
pages-reverse f (x ∷ xs) =
    let turned = ap (λ (ys : List Paged). counted f (page_bodies ys)) (reverse-append (x ∷ []) xs) in
    let parts = counted-pages f (reverse xs) (x ∷ []) in
    let rest = pages-reverse f xs in
    let one = counted-pages f (x ∷ []) xs in
    omega (arith, turned, parts, rest, one)

pub given_count : (f : Count) (base size : ℕ) (xs : List Paged) → weighed f (map (given_entry base size) xs) ≡ counted f (page_bodies xs)
given_count f base size [] = refl
given_count f base size (x ∷ xs) = omega (arith, given_count f base size xs)

-- what a stock has is what it has yet to give
pub stock_count : (f : Count) (s : Stock) → weighed f (stock_list s) ≡ counted f (stock_hand s)
stock_count f s =
    let parts = weighed-append f (option_to_list s.next) (map (given_entry s.base s.size) (reverse s.rest.items)) in
    let rest = given_count f s.base s.size (reverse s.rest.items) in
    let turned = pages-reverse f s.rest.items in
    let hand = counted-append f (bodies_of (option_to_list s.next)) (page_bodies s.rest.items) in
    omega (arith, parts, rest, turned, hand)

-- a body that is filled weighs what it weighed
filled_same : (f : Count) (bytes : List ℕ) (b : Body) → weight f (filled_body bytes b) ≡ weight f b
filled_same f bytes Carried.Empty = refl
filled_same f bytes (Carried.Lease lease) = refl
filled_same f bytes (Carried.Page page) = either (nat_le (length bytes) (length page.bytes)) refl
  where
    either : (t : Bool) → nat_le (length bytes) (length page.bytes) ≡ t → weight f (if t then Carried.Page (record { pool = page.pool; no = page.no; bytes = replaced page.bytes 0 bytes }) else Carried.Page page) ≡ weight f (Carried.Page page)
    either true fits = ap (f page.pool page.no) (front_long bytes page.bytes (leb-true (length bytes) (length page.bytes) fits))
    either false no_room = refl

-- and so do entries
pub all_filled_same : (f : Count) (fs : List (List ℕ)) (cs : List Cargo) → length cs ≤ length fs → weighed f (all_filled fs cs) ≡ weighed f cs
all_filled_same f [] [] few = refl
all_filled_same f [] (c ∷ cs) few = absurd (omega (arith, few))
all_filled_same f (b ∷ fs) [] few = refl
all_filled_same f (b ∷ fs) (c ∷ cs) few = omega (arith, filled_same f b c.1, all_filled_same f fs cs (omega (arith, few)))
