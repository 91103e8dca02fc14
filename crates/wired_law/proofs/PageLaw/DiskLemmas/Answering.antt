-- The disk conserves buffers one by one: what it fills stays of its length.
use Rattle.std.proofs.Common.{◌≡◌, ℕ, nat_le, Bool, true, false, if◌then◌else◌, List, [], ◌∷◌, length, refl, ap, ◌∙◌, arith}
use Rattle.std.specs.Option.{option_to_list}
use Rattle.std.proofs.lemmas.Bool.{leb-true}
use Rattle.cargo_core.specs.declared.item.Body.{Body}
use Rattle.cargo_core.specs.declared.item.Body.TheVariants as Carried
use Rattle.cargo_core.specs.declared.item.Code.TheVariants as Asked
use Rattle.cargo_core.specs.declared.item.Code.{Code}
use Rattle.cargo_core.specs.declared.item.BlkReq.{BlkReq}
use Rattle.cargo_core.specs.declared.item.Item.TheVariants as ItemOf
use Rattle.cargo_core.specs.Lists.{replaced}
use Rattle.wire_core.specs.Deeds.{Cargo}
use Rattle.wire_core.specs.Lists.{Passed}
use Rattle.turn_kit.specs.Hands.{bodies_at}
use Rattle.class_expect.specs.BlkExpect.BlkKit.Pages.{filled_body}
use Rattle.class_expect.specs.BlkExpect.BlkKit.Blocks.{blocks_at}
use Rattle.device_model.specs.Disk.Serving.{answer_to, answers_to, body_back, done}
use Rattle.device_model.specs.Disk.Disks.{DiskStandsFor, disk_hand, req, resp}
use Rattle.device_model.specs.declared.disk.DiskDevice.{DiskDevice}
use Rattle.buffer_kit.specs.Conserving.{Count, weight, Conserves, weighed}
use Rattle.buffer_kit.proofs.Conserving.{weighed-append, counted-at, front_long}

filled_same : (f : Count) (bytes : List ℕ) (b : Body) → weight f (filled_body bytes b) ≡ weight f b
filled_same f bytes Carried.Empty = refl
filled_same f bytes (Carried.Lease lease) = refl
filled_same f bytes (Carried.Page page) = either (nat_le (length bytes) (length page.bytes)) refl
  where
    either : (t : Bool) → nat_le (length bytes) (length page.bytes) ≡ t → weight f (if t then Carried.Page (record { pool = page.pool; no = page.no; bytes = replaced page.bytes 0 bytes }) else Carried.Page page) ≡ weight f (Carried.Page page)
    either true fits = ap (f page.pool page.no) (front_long bytes page.bytes (leb-true (length bytes) (length page.bytes) fits))
    either false no_room = refl

back_same : (f : Count) (code : Code) (image : List ℕ) (r : BlkReq) (b : Body) → weight f (body_back code image r b) ≡ weight f b
back_same f Asked.Read image r b = filled_same f (blocks_at image r.block r.count) b
back_same f Asked.Write image r b = refl
back_same f Asked.Flush image r b = refl
back_same f Asked.Barrier image r b = refl

one_same : (f : Count) (image : List ℕ) (x : Cargo) → weight f (answer_to image x).1 ≡ weight f x.1
one_same f image (ItemOf.Req r, b) = back_same f r.code image r b
one_same f image (ItemOf.Net d, b) = refl
one_same f image (ItemOf.Byte n, b) = refl
one_same f image (ItemOf.Resp r, b) = refl

all_same : (f : Count) (image : List ℕ) (xs : List Cargo) → weighed f (answers_to image xs) ≡ weighed f xs
all_same f image [] = refl
all_same f image (x ∷ xs) = omega (arith, one_same f image x, all_same f (done image x) xs)

pub disk_conserves : (start : List ℕ) (d : DiskDevice) (passed : Passed) → DiskStandsFor start d passed → Conserves [] (bodies_at passed.taken (req d ∷ [])) (bodies_at passed.sent (resp d ∷ [])) (disk_hand d) []
disk_conserves start d passed h f =
    let came = counted-at f passed.taken (req d) [] in
    let went = counted-at f passed.sent (resp d) [] in
    let taken = ap (weighed f) h.taken ∙ weighed-append f h.requests (option_to_list d.stray) in
    let sent = ap (weighed f) h.answered ∙ all_same f start h.requests in
    let parts = weighed-append f (passed.sent (resp d)) (option_to_list d.load) in
    let hand = weighed-append f (option_to_list d.load) (option_to_list d.stray) in
    omega (arith, came, went, taken, sent, parts, hand)
