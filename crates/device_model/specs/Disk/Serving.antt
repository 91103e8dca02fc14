-- How a disk does requests: a replay of them, in their order, on its image.
use Rattle.std.specs.Prelude.{◌≡◌, ℕ, ◌||◌, not, Bool, true, false, List, [], ◌∷◌, All}
use Rattle.cargo_core.specs.declared.item.BlkReq.{BlkReq}
use Rattle.cargo_core.specs.declared.item.BlkStatus.TheVariants as Answered
use Rattle.cargo_core.specs.declared.item.Body.{Body}
use Rattle.cargo_core.specs.declared.item.Code.{Code}
use Rattle.cargo_core.specs.declared.item.Code.TheVariants as Asked
use Rattle.cargo_core.specs.declared.item.Item.{Item}
use Rattle.cargo_core.specs.declared.item.Item.TheVariants as ItemOf
use Rattle.wire_core.specs.Deeds.{Cargo}
use Rattle.class_expect.specs.BlkExpect.BlkKit.Blocks.{has_blocks, blocks_at, with_blocks, moved_blocks}
use Rattle.class_expect.specs.BlkExpect.BlkKit.Pages.{has_room, carried_blocks, filled_body}

-- a request is out of turn where it is a read or a write past the image, or a write without a page
-- of its count of blocks
abbrev pub strays_by : Code → List ℕ → BlkReq → Body → Bool
strays_by Asked.Read image r body = not (has_blocks image r.block r.count)
strays_by Asked.Write image r body = not (has_blocks image r.block r.count)
    || not (has_room r.count body)
strays_by Asked.Flush image r body = false
strays_by Asked.Barrier image r body = false

-- so is an entry that is no request
abbrev pub is_stray : List ℕ → Cargo → Bool
is_stray image (ItemOf.Req r, body) = strays_by r.code image r body
is_stray image (ItemOf.Net d, body) = true
is_stray image (ItemOf.Byte b, body) = true
is_stray image (ItemOf.Resp r, body) = true

-- the response to a request: all went well
abbrev pub resp_to : BlkReq → Item
resp_to r = ItemOf.Resp (record {
  status = Answered.Ok;
  count = moved_blocks r.code r.count;
  id = r.id;
})

-- the body of a request goes back with its response; a read fills it with its blocks, where it is a
-- page that is long enough
abbrev pub body_back : Code → List ℕ → BlkReq → Body → Body
body_back Asked.Read image r body = filled_body (blocks_at image r.block r.count) body
body_back Asked.Write image r body = body
body_back Asked.Flush image r body = body
body_back Asked.Barrier image r body = body

-- a write stores the blocks that its page carries
abbrev pub stored : Code → List ℕ → BlkReq → Body → List ℕ
stored Asked.Read image r body = image
stored Asked.Write image r body = with_blocks image r.block (carried_blocks r.count body)
stored Asked.Flush image r body = image
stored Asked.Barrier image r body = image

-- the answer to an entry; one that is no request is never answered
abbrev pub answer_to : List ℕ → Cargo → Cargo
answer_to image (ItemOf.Req r, body) = (resp_to r, body_back r.code image r body)
answer_to image (ItemOf.Net d, body) = (ItemOf.Net d, body)
answer_to image (ItemOf.Byte b, body) = (ItemOf.Byte b, body)
answer_to image (ItemOf.Resp r, body) = (ItemOf.Resp r, body)

-- the image once an entry was done
abbrev pub done : List ℕ → Cargo → List ℕ
done image (ItemOf.Req r, body) = stored r.code image r body
done image (ItemOf.Net d, body) = image
done image (ItemOf.Byte b, body) = image
done image (ItemOf.Resp r, body) = image

-- the image once these were done in their order
abbrev pub image_after : List ℕ → List Cargo → List ℕ
image_after image [] = image
image_after image (x ∷ xs) = image_after (done image x) xs

-- the answers to these: each on the image that those before it left
abbrev pub answers_to : List ℕ → List Cargo → List Cargo
answers_to image [] = []
answers_to image (x ∷ xs) = answer_to image x ∷ answers_to (done image x) xs

-- each of these is in turn; only the length of the image matters, which stays
abbrev pub AreInTurn : List ℕ → List Cargo → Type 0
AreInTurn image xs = All (λ (x : Cargo). is_stray image x ≡ false) xs
