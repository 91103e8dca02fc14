-- What the block virtualiser does for one client, by what came from it, what went to the driver,
-- what came back from the driver and what went back to the client.
use Rattle.std.specs.Prelude.{◌≡◌, ◌+◌, ◌≤◌, true, if◌then◌else◌, Option, List, [], ◌∷◌, length}
use Rattle.std.specs.Prelude.{map}
use Rattle.std.specs.List.{filter}
use Rattle.cargo_core.specs.Lists.{IsPrefix}
use Rattle.wire_core.specs.Deeds.{Cargo}
use Rattle.blk_mbr.specs.declared.part.Part.{Part}
use Rattle.blk_virt.specs.declared.requests.Holder.{Holder}
use Rattle.blk_virt.specs.Requests.{request_of, goes_on, for_disk, numbered, refusal, passed_on}
use Rattle.blk_virt.specs.Requests.{page_named, brings, is_at}

-- of the requests at the driver, those at the client's buffers
abbrev pub own_of : Holder → List Cargo → List Cargo
own_of h sent = filter (is_at h) sent

-- of the responses from the driver, of which each answers the request of its place, those to
-- requests at the client's buffers
abbrev pub own_back : Holder → List Cargo → List Cargo → List Cargo
own_back h [] back = []
own_back h (x ∷ sent) [] = []
own_back h (x ∷ sent) (y ∷ back) =
    if is_at h x then (y ∷ own_back h sent back) else own_back h sent back

-- the answers to a client's requests, in their order: to one that is sent on what the disk answers
-- to it, and to any other its refusal; as far as the disk has answered
abbrev pub answers_to : Holder → Option Part → List Cargo → List Cargo → List Cargo
answers_to h part [] back = []
answers_to h part (x ∷ xs) [] =
    if goes_on h part x then [] else (refusal h part x ∷ answers_to h part xs [])
answers_to h part (x ∷ xs) (y ∷ back) =
    if goes_on h part x then (passed_on (request_of x.0).id y ∷ answers_to h part xs back)
    else (refusal h part x ∷ answers_to h part xs (y ∷ back))

-- each answer brings the buffer of its request
abbrev pub AllBring : List Cargo → List Cargo → Type 0
AllBring xs [] = Unit {0}
AllBring [] (y ∷ ys) = ⊥
AllBring (x ∷ xs) (y ∷ ys) = (brings (page_named x.1) y.1 ≡ true) × AllBring xs ys

-- requests, their numbers aside
abbrev pub unnumbered : List Cargo → List Cargo
unnumbered xs = map (numbered 0) xs

-- the client is served: at the driver are, at its buffers, those of its requests that are sent on,
-- in their order; what went back to it answers its requests in their order, each with its number
-- and its buffer; and at most one request of it is without an answer
pub record IsServed (h : Holder) (part : Option Part) (came sent back gave : List Cargo) :
    Type 0 where
  pub sends : IsPrefix (unnumbered (own_of h sent))
      (map (for_disk h part) (filter (goes_on h part) came))
  pub answers : IsPrefix gave (answers_to h part came (own_back h sent back))
  pub buffers : AllBring came gave
  pub one : length came ≤ length gave + 1
