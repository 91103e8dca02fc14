use Rattle.std.proofs.Common.{◌≡◌, ◌+◌, ℕ, Bool, if◌then◌else◌, List, [], ◌∷◌, ◌++◌, length, map, drop, refl, ap, ◌∙◌}
use Rattle.std.proofs.lemmas.Bool.{le-leb}
use Rattle.std.proofs.Math.Seq.{take-append_seam}
use Rattle.cargo_core.specs.declared.item.Item.{Item}
use Rattle.cargo_core.specs.declared.item.Item.TheVariants as ItemOf
use Rattle.cargo_core.specs.declared.item.Body.{Body}
use Rattle.cargo_core.specs.declared.item.Body.TheVariants as Carried
use Rattle.cargo_core.specs.declared.item.QueueKind.TheVariants as Kind
use Rattle.cargo_core.specs.Items.{kind_of}
use Rattle.cargo_core.specs.Lists.{IsPrefix, replaced}
use Rattle.wire_core.specs.Deeds.{Cargo}
use Rattle.buffer_kit.specs.Entries.{frame_of, filled, filled_body, all_filled, first_bytes, len_of, with_len}
use Rattle.net_law.specs.Receiving.{IsRoomy, AreRoomy, HasRoom}

len_is : (n : ℕ) (item : Item) → kind_of item ≡ Kind.Net → len_of (with_len n item) ≡ n
len_is n (ItemOf.Net d) h = refl
len_is n (ItemOf.Byte b) h = cc
len_is n (ItemOf.Req r) h = cc
len_is n (ItemOf.Resp r) h = cc

front_is : (bytes : List ℕ) (body : Body) → HasRoom (length bytes) body → first_bytes (length bytes) (filled_body bytes body) ≡ bytes
front_is bytes Carried.Empty room = absurd room
front_is bytes (Carried.Lease lease) room = absurd room
front_is bytes (Carried.Page page) room =
    ap (λ (b : Bool). first_bytes (length bytes) (if b then Carried.Page (record { pool = page.pool; no = page.no; bytes = replaced page.bytes 0 bytes }) else Carried.Page page)) (le-leb (length bytes) (length page.bytes) room)
    ∙ take-append_seam bytes (drop (0 + length bytes) page.bytes)

-- the frame of an entry that was filled
pub frame_is : (bytes : List ℕ) (c : Cargo) → IsRoomy bytes c → frame_of (filled bytes c) ≡ bytes
frame_is bytes c h = ap (λ n. first_bytes n (filled_body bytes c.1)) (len_is (length bytes) c.0 h.0) ∙ front_is bytes c.1 h.1

pub filled_len : (bytes : List ℕ) (c : Cargo) → IsRoomy bytes c → len_of (filled bytes c).0 ≡ length bytes
filled_len bytes c h = len_is (length bytes) c.0 h.0

-- the frames of filled entries are those that they were filled with
pub frames_are : (fs : List (List ℕ)) (cs : List Cargo) → AreRoomy fs cs → IsPrefix (map frame_of (all_filled fs cs)) fs
frames_are [] cs h = ([], refl)
frames_are (f ∷ fs) [] h = (f ∷ fs, refl)
frames_are (f ∷ fs) (c ∷ cs) h = let rest = frames_are fs cs h.1 in (rest.0, ap (λ x. x ∷ (map frame_of (all_filled fs cs) ++ rest.0)) (frame_is f c h.0) ∙ ap (λ xs. f ∷ xs) rest.1)

-- room for more frames than there are is room for these
pub roomy_front : (fs gs : List (List ℕ)) (cs : List Cargo) → AreRoomy (fs ++ gs) cs → AreRoomy fs cs
roomy_front [] gs cs h = tt
roomy_front (f ∷ fs) gs [] h = tt
roomy_front (f ∷ fs) gs (c ∷ cs) h = (h.0, roomy_front fs gs cs h.1)
