use Rattle.std.proofs.Common.{◌≡◌, ◌≤◌, ℕ, Option, List, [], ◌∷◌, ◌++◌, length, refl, ap, ap₂, ◌∙◌, arith, inl, inr}
use Rattle.cargo_core.specs.declared.item.Item.{Item}
use Rattle.cargo_core.specs.declared.item.Item.TheVariants as ItemOf
use Rattle.cargo_core.specs.Lists.{IsPrefix}
use Rattle.wire_core.specs.Deeds.{Cargo}
use Rattle.wire_core.specs.Bells.{bit}
use Rattle.wire_core.specs.Queues.{items_of}
use Rattle.owner_law.specs.Things.{times, names_in, Buffer, is_same, Window, buffer_of, address_of, Thing, Nothing, Whole, Frame, Naming, buffer_at}
use Rattle.owner_law.proofs.Named.{times_few, carried, buffers_are, frames_are, buffers_none, frames_none}
use Rattle.buffer_kit.specs.Entries.{with_len, filled, all_filled}
use Rattle.net_law.specs.Owners.Ends.{NameBuffers}
use Rattle.play_core.specs.Moved.{Moved}

-- a length says nothing of the buffer
pub address_still : (n : ℕ) (item : Item) → address_of (with_len n item) ≡ address_of item
address_still n (ItemOf.Net d) = refl
address_still n (ItemOf.Byte b) = refl
address_still n (ItemOf.Req r) = refl
address_still n (ItemOf.Resp r) = refl

-- the buffers that entries name
abbrev pub named : List Window → List Cargo → List (Option Buffer)
named ws cs = names_in ws (items_of cs)

-- a beginning of entries names a beginning of their buffers
pub named_begins : (ws : List Window) (xs ys : List Cargo) → IsPrefix xs ys → IsPrefix (named ws xs) (named ws ys)
named_begins ws xs ys begins = (named ws begins.0, parts xs begins.0 ∙ ap (named ws) begins.1)
  where
    parts : (xs_ ys_ : List Cargo) → named ws xs_ ++ named ws ys_ ≡ named ws (xs_ ++ ys_)
    parts [] ys_ = refl
    parts (x ∷ xs_) ys_ = ap (λ l. buffer_of ws x.0 ∷ l) (parts xs_ ys_)

pub few : (b : Buffer) (ws : List Window) (xs ys : List Cargo) → IsPrefix xs ys → times b (named ws xs) ≤ times b (named ws ys)
few b ws xs ys begins = times_few b (named ws xs) (named ws ys) (named_begins ws xs ys begins)

-- entries that were filled are those buffers, as far as they go
filled_begins : (ws : List Window) (fs : List (List ℕ)) (cs : List Cargo) → IsPrefix (named ws (all_filled fs cs)) (named ws cs)
filled_begins ws [] cs = (named ws cs, refl)
filled_begins ws (f ∷ fs) [] = ([], refl)
filled_begins ws (f ∷ fs) (c ∷ cs) =
    let rest = filled_begins ws fs cs in
    let head : buffer_of ws (filled f c).0 ≡ buffer_of ws c.0 = ap (λ a. Rattle.std.specs.Option.option_and_then (buffer_at ws) a) (address_still (length f) c.0) in
    (rest.0, ap₂ (λ x xs. x ∷ xs) head rest.1)

pub filled_few : (b : Buffer) (ws : List Window) (fs : List (List ℕ)) (xs cs : List Cargo) → IsPrefix xs (all_filled fs cs) → times b (named ws xs) ≤ times b (named ws cs)
filled_few b ws fs xs cs begins = omega (arith, few b ws xs (all_filled fs cs) begins, times_few b (named ws (all_filled fs cs)) (named ws cs) (filled_begins ws fs cs))

-- items that name buffers, whether these are lent or not
module _ (naming : Naming) (m : Moved) (q : ℕ) (items : List Item) (ws : List Window) where
  pub either_are : (f : Thing → ℕ) (b : Buffer) → NameBuffers ws (naming q) → f Nothing ≡ 0 → ((c : Buffer) → f (Whole c) ≡ bit (is_same c b)) → ((c : Buffer) (r : ℕ) → f (Frame c r) ≡ bit (is_same c b)) → carried naming m q items f ≡ times b (names_in ws items)
  either_are f b (inl h) none whole frame = buffers_are naming m q items ws f b h none whole
  either_are f b (inr h) none whole frame = frames_are naming m q items ws h.0 f b h.1 none frame

  pub either_none : (f : Thing → ℕ) → NameBuffers ws (naming q) → f Nothing ≡ 0 → ((c : Buffer) → f (Whole c) ≡ 0) → ((c : Buffer) (r : ℕ) → f (Frame c r) ≡ 0) → carried naming m q items f ≡ 0
  either_none f (inl h) none whole frame = buffers_none naming m q items ws f h none whole
  either_none f (inr h) none whole frame = frames_none naming m q items ws h.0 f h.1 none frame
