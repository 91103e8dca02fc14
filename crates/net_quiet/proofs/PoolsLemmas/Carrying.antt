use Rattle.std.proofs.Common.{◌≡◌, ◌⊎◌, ℕ, zero, suc, Bool, true, false, Option, Some, None, List, [], ◌∷◌, ◌++◌, length, slice_get, refl, sym, ap, ◌∙◌, subst, inl, inr}
use Rattle.cargo_core.specs.declared.item.Item.{Item}
use Rattle.cargo_core.specs.declared.item.Body.{Body}
use Rattle.cargo_core.specs.declared.item.Body.TheVariants as Carried
use Rattle.cargo_core.specs.Lists.{IsPrefix, replaced}
use Rattle.wire_core.specs.Deeds.{Cargo}
use Rattle.wire_core.specs.Ends.{Consumer, Producer}
use Rattle.wire_core.specs.Lists.{Passed}
use Rattle.play_core.specs.Moved.{Moved, Seat}
use Rattle.play_core.specs.Wants.{intake, outlet}
use Rattle.play_core.proofs.Lists.{some_is}
use Rattle.owner_law.specs.Things.{Buffer, Window, Names, Leases, Returns, Naming, Whole, Frame, Lease, Return, thing_of, thing_at, requests_of, buffer_of, buffer_at, is_named, as_buffer}
use Rattle.owner_law.specs.Pages.{as_page}
use Rattle.owner_law.proofs.Carrying.{get_first}
use Rattle.buffer_kit.specs.Entries.{filled_body, filled, all_filled}
use Rattle.net_law.specs.Owners.Ends.{NameBuffers}
use Rattle.net_law.proofs.OwnersLemmas.Few.{address_still}
use Rattle.owner_law.specs.Pools.Handing.{Carries, AllCarry, TakesPages, PutsPages}

-- ends one by one
module _ (naming : Naming) (m : Moved) (passed : Passed) where
  pub takes_here : (n : ℕ) (rest : List Seat) → TakesPages naming m passed (intake n ∷ rest) → AllCarry naming m n (passed.taken n)
  takes_here n rest takes = takes 0 (intake n) refl refl

  pub takes_rest : (s : Seat) (rest : List Seat) → TakesPages naming m passed (s ∷ rest) → TakesPages naming m passed rest
  takes_rest s rest takes i x at consumer = takes (suc i) x at consumer

  pub puts_none : PutsPages naming m passed []
  puts_none i x at producer = cc

  pub puts_in : (n : ℕ) (rest : List Seat) → PutsPages naming m passed rest → PutsPages naming m passed (intake n ∷ rest)
  puts_in n rest puts zero x at producer = let same : Consumer ≡ Producer = ap (λ (s : Seat). s.role) (some_is at) ∙ producer in cc
  puts_in n rest puts (suc i) x at producer = puts i x at producer

  pub puts_out : (n : ℕ) (rest : List Seat) → AllCarry naming m n (passed.sent n) → PutsPages naming m passed rest → PutsPages naming m passed (outlet n ∷ rest)
  puts_out n rest here puts zero x at producer = subst (λ (s : Seat). AllCarry naming m s.queue (passed.sent s.queue)) (some_is at) here
  puts_out n rest here puts (suc i) x at producer = puts i x at producer

-- an item that names a buffer
whole_named : (b : Buffer) (o : Option Buffer) → as_buffer b (thing_of Whole o) ≡ is_named b o
whole_named b None = refl
whole_named b (Some c) = refl

frame_named : (b : Buffer) (r : ℕ) (o : Option Buffer) → as_buffer b (thing_of (λ c. Frame c r) o) ≡ is_named b o
frame_named b r None = refl
frame_named b r (Some c) = refl

pub as_named : (ws : List Window) (names : Names) → NameBuffers ws names → (b : Buffer) (rs : List Item) (k : ℕ) (i : Item) → as_buffer b (thing_at names rs k i) ≡ is_named b (buffer_of ws i)
as_named ws names (inl h) b rs k i = subst (λ (x : Names). as_buffer b (thing_at x rs k i) ≡ is_named b (buffer_of ws i)) (sym h) (whole_named b (buffer_of ws i))
as_named ws names (inr h) b rs k i = subst (λ (x : Names). as_buffer b (thing_at x rs k i) ≡ is_named b (buffer_of ws i)) (sym h.1) (frame_named b (h.0 k) (buffer_of ws i))

-- leave to read a buffer
lease_none : (b : Buffer) (o : Option Buffer) → as_buffer b (thing_of Lease o) ≡ 0
lease_none b None = refl
lease_none b (Some c) = refl

return_none : (b : Buffer) (o : Option Buffer) → as_buffer b (thing_of Return o) ≡ 0
return_none b None = refl
return_none b (Some c) = refl

abbrev pub NameLeases : Names → Type 0
NameLeases names = (ws : List Window) × ((names ≡ Leases ws) ⊎ (names ≡ Returns ws))

pub as_none : (names : Names) → NameLeases names → (b : Buffer) (rs : List Item) (k : ℕ) (i : Item) → as_buffer b (thing_at names rs k i) ≡ 0
as_none names (ws, inl h) b rs k i = subst (λ (x : Names). as_buffer b (thing_at x rs k i) ≡ 0) (sym h) (lease_none b (buffer_of ws i))
as_none names (ws, inr h) b rs k i = subst (λ (x : Names). as_buffer b (thing_at x rs k i) ≡ 0) (sym h) (return_none b (buffer_of ws i))

-- an entry whose page is the buffer that its item names, by these windows; and one without a page
abbrev pub HasPage : List Window → Cargo → Type 0
HasPage ws c = (b : Buffer) → as_page b c.1 ≡ is_named b (buffer_of ws c.0)

abbrev pub HasNone : Cargo → Type 0
HasNone c = (b : Buffer) → as_page b c.1 ≡ 0

-- filling a buffer changes neither
page_still : (b : Buffer) (bytes : List ℕ) (body : Body) → as_page b (filled_body bytes body) ≡ as_page b body
page_still b bytes Carried.Empty = refl
page_still b bytes (Carried.Lease lease) = refl
page_still b bytes (Carried.Page page) = by (Rattle.std.specs.Prelude.nat_le (length bytes) (length page.bytes))
  where
    by : (t : Bool) → as_page b (Rattle.std.proofs.Common.cond t (Carried.Page (record { pool = page.pool; no = page.no; bytes = replaced page.bytes 0 bytes })) (Carried.Page page)) ≡ as_page b (Carried.Page page)
    by true = refl
    by false = refl

pub filled_page : (ws : List Window) (bytes : List ℕ) (c : Cargo) → HasPage ws c → HasPage ws (filled bytes c)
filled_page ws bytes c has b = page_still b bytes c.1 ∙ (has b ∙ sym (ap (λ a. is_named b (Rattle.std.specs.Option.option_and_then (buffer_at ws) a)) (address_still (length bytes) c.0)))

pub filled_at : (fs : List (List ℕ)) (cs : List Cargo) (k : ℕ) (c : Cargo) → slice_get (all_filled fs cs) k ≡ Some c → (bytes : List ℕ) × (d : Cargo) × (slice_get cs k ≡ Some d) × (filled bytes d ≡ c)
filled_at [] cs k c at = cc
filled_at (f ∷ fs) [] k c at = cc
filled_at (f ∷ fs) (d ∷ cs) zero c at = (f, d, refl, some_is at)
filled_at (f ∷ fs) (d ∷ cs) (suc k) c at = filled_at fs cs k c at

module _ (naming : Naming) (m : Moved) where
  pub page_carries : (ws : List Window) (n : ℕ) → NameBuffers ws (naming n) → (k : ℕ) (c : Cargo) → HasPage ws c → Carries naming m n k c
  page_carries ws n names k c has b = has b ∙ sym (as_named ws (naming n) names b (requests_of (naming n) m) k c.0)

  pub carries_page : (ws : List Window) (n : ℕ) → NameBuffers ws (naming n) → (k : ℕ) (c : Cargo) → Carries naming m n k c → HasPage ws c
  carries_page ws n names k c carry b = carry b ∙ as_named ws (naming n) names b (requests_of (naming n) m) k c.0

  pub none_carries : (n : ℕ) → NameLeases (naming n) → (k : ℕ) (c : Cargo) → HasNone c → Carries naming m n k c
  none_carries n names k c has b = has b ∙ sym (as_none (naming n) names b (requests_of (naming n) m) k c.0)

  pub carries_none : (n : ℕ) → NameLeases (naming n) → (k : ℕ) (c : Cargo) → Carries naming m n k c → HasNone c
  carries_none n names k c carry b = carry b ∙ as_none (naming n) names b (requests_of (naming n) m) k c.0

  -- what is handed on as it came
  pub passed_on : (ws : List Window) (from to : ℕ) → NameBuffers ws (naming from) → NameBuffers ws (naming to) → (came went : List Cargo) → IsPrefix went came → AllCarry naming m from came → AllCarry naming m to went
  passed_on ws from to names names' came went begins carry k c at = page_carries ws to names' k c (carries_page ws from names k c (carry k c (ap (λ cs. slice_get cs k) (sym begins.1) ∙ get_first went begins.0 k c at)))

  -- what is filled on its way
  pub filled_on : (ws : List Window) (fs : List (List ℕ)) (from to : ℕ) → NameBuffers ws (naming from) → NameBuffers ws (naming to) → (came went : List Cargo) → IsPrefix went (all_filled fs came) → AllCarry naming m from came → AllCarry naming m to went
  filled_on ws fs from to names names' came went begins carry k c at =
      let x = filled_at fs came k c (ap (λ cs. slice_get cs k) (sym begins.1) ∙ get_first went begins.0 k c at) in
      subst (λ (d : Cargo). Carries naming m to k d) x.3 (page_carries ws to names' k (filled x.0 x.1) (filled_page ws x.0 x.1 (carries_page ws from names k x.1 (carry k x.1 x.2))))

  -- leases
  pub leased_on : (from to : ℕ) → NameLeases (naming from) → NameLeases (naming to) → (came went : List Cargo) → IsPrefix went came → AllCarry naming m from came → AllCarry naming m to went
  leased_on from to names names' came went begins carry k c at = none_carries to names' k c (carries_none from names k c (carry k c (ap (λ cs. slice_get cs k) (sym begins.1) ∙ get_first went begins.0 k c at)))
