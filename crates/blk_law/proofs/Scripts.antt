use Rattle.std.proofs.Common.{◌≡◌, ◌+◌, ◌*◌, ◌≤◌, ℕ, nat_le, Bool, true, false, Option, Some, None, if◌then◌else◌, List, [], ◌∷◌, ◌++◌, length, take, drop, refl, sym, ap, ◌∙◌, subst, append_assoc, arith}
use Rattle.std.proofs.lemmas.Bool.{le-leb, leb-true}
use Rattle.std.proofs.lemmas.List.{take_all, take_at}
use Rattle.std.proofs.lemmas.List.Elements.{All-head, All-tail}
use Rattle.cargo_core.specs.declared.item.Ask.{Ask}
use Rattle.cargo_core.specs.declared.item.Body.TheVariants as Carried
use Rattle.cargo_core.specs.declared.item.Code.{Code}
use Rattle.cargo_core.specs.declared.item.Code.TheVariants as Asked
use Rattle.cargo_core.specs.Lists.{IsPrefix, replaced}
use Rattle.cargo_core.specs.Pages.{Paged}
use Rattle.wire_core.specs.Deeds.{Cargo}
use Rattle.class_expect.specs.BlkExpect.BlkKit.Pages.{carried_blocks}
use Rattle.blk_mbr.specs.declared.part.Part.{Part}
use Rattle.class_expect.specs.BlkExpect.Replies.{HasBytes, has_partition, partition_bytes, partition_in, replies_of}
use Rattle.client_programs.specs.Blk.Asking.{asked_bare, asked_from, asked_in, needs_buffer, page_for, replies_to, reply_to, written}
use Rattle.blk_law.specs.Replying.{AreAsked, AreSized, Carries, HaveRoom, IsAsked, IsSized, RecordsReplies, client_answers}
use Rattle.blk_law.proofs.Recording.{blocks_long, recorded}

-- a buffer that a write was written into carries its bytes
written_carries : (a : Ask) (page : Paged) → a.count ≤ 8 → length a.fill ≡ a.count * 4096 → 8 * 4096 ≤ length page.bytes → carried_blocks a.count (Carried.Page (written a.fill page)) ≡ take (a.count * 4096) a.fill
written_carries a page few long room = by (nat_le (length a.fill) (length page.bytes)) (le-leb (length a.fill) (length page.bytes) (omega (arith, few, long, room)))
  where
    by : (b : Bool) → b ≡ true → carried_blocks a.count (Carried.Page (if b then (record { pool = page.pool; no = page.no; bytes = replaced page.bytes 0 a.fill }) else page)) ≡ take (a.count * 4096) a.fill
    by true e = take_at a.fill (drop (0 + length a.fill) page.bytes) (a.count * 4096) long ∙ sym (take_all (a.count * 4096) a.fill (omega (arith, long)))
    by false e = cc

carries_by : (c : Code) (a : Ask) (page : Paged) → IsSized c a → 8 * 4096 ≤ length page.bytes → Carries c a (Carried.Page (page_for c a.fill page))
carries_by Asked.Read a page few room = le-leb (a.count * 4096) (length page.bytes) (omega (arith, few, room))
carries_by Asked.Write a page sized room = written_carries a page sized.0 sized.1 room
carries_by Asked.Flush a page sized room = tt
carries_by Asked.Barrier a page sized room = tt

bare_carries : (c : Code) (a : Ask) → needs_buffer c ≡ false → Carries c a Carried.Empty
bare_carries Asked.Read a no_need = cc
bare_carries Asked.Write a no_need = cc
bare_carries Asked.Flush a no_need = tt
bare_carries Asked.Barrier a no_need = tt

in_buffer : (a : Ask) (id : ℕ) (page : Paged) → IsSized a.code a → 8 * 4096 ≤ length page.bytes → IsAsked id a (asked_in a id page)
in_buffer a id page sized room = record { has_id = refl; code = refl; block = refl; count = refl; carries = carries_by a.code a page sized room }

bare : (a : Ask) (id : ℕ) → needs_buffer a.code ≡ false → IsAsked id a (asked_bare a id)
bare a id no_need = record { has_id = refl; code = refl; block = refl; count = refl; carries = bare_carries a.code a no_need }

-- one request more, with a buffer or without one, or none
next_bare : (a : Ask) (asks : List Ask) (id : ℕ) (rest : List Cargo) → AreAsked (id + 1) asks rest → (b : Bool) → needs_buffer a.code ≡ b → AreAsked id (a ∷ asks) (if b then [] else (asked_bare a id ∷ rest))
next_bare a asks id rest f true e = tt
next_bare a asks id rest f false e = (bare a id e, f)

next_in : (a : Ask) (asks : List Ask) (id : ℕ) (page : Paged) (with without : List Cargo) → IsSized a.code a → 8 * 4096 ≤ length page.bytes → AreAsked (id + 1) asks with → AreAsked (id + 1) asks without → (b : Bool) → needs_buffer a.code ≡ b → AreAsked id (a ∷ asks) (if b then (asked_in a id page ∷ with) else (asked_bare a id ∷ without))
next_in a asks id page with without sized room f g true e = (in_buffer a id page sized room, f)
next_in a asks id page with without sized room f g false e = (bare a id e, g)

-- what a client puts is what its script asks
pub asked : (asks : List Ask) (id : ℕ) (pages : List Paged) → AreSized asks → HaveRoom pages → AreAsked id asks (asked_from id asks pages)
asked [] id pages sized room = tt
asked (a ∷ asks) id [] sized room = next_bare a asks id (asked_from (id + 1) asks []) (asked asks (id + 1) [] (All-tail (λ (x : Ask). IsSized x.code x) a asks sized) room) (needs_buffer a.code) refl
asked (a ∷ asks) id (page ∷ pages) sized room =
    let others = All-tail (λ (x : Ask). IsSized x.code x) a asks sized in
    next_in a asks id page (asked_from (id + 1) asks pages) (asked_from (id + 1) asks (page ∷ pages)) (All-head (λ (x : Ask). IsSized x.code x) a asks sized) (All-head (λ (x : Paged). 8 * 4096 ≤ length x.bytes) page pages room)
    (asked asks (id + 1) pages others (All-tail (λ (x : Paged). 8 * 4096 ≤ length x.bytes) page pages room)) (asked asks (id + 1) (page ∷ pages) others room) (needs_buffer a.code) refl

-- and so is a beginning of it
pub asked_begins : (asks : List Ask) (id : ℕ) (ys zs : List Cargo) → AreAsked id asks (ys ++ zs) → AreAsked id asks ys
asked_begins asks id [] zs f = tt
asked_begins [] id (y ∷ ys) zs f = absurd f
asked_begins (a ∷ asks) id (y ∷ ys) zs f = (f.0, asked_begins asks (id + 1) ys zs f.1)

-- fewer responses give fewer replies
replies_begin : (asks : List Ask) (xs ys : List Cargo) → IsPrefix (replies_to asks xs) (replies_to asks (xs ++ ys))
replies_begin [] xs ys = ([], refl)
replies_begin (a ∷ asks) [] ys = (replies_to (a ∷ asks) ys, refl)
replies_begin (a ∷ asks) (x ∷ xs) ys = let more = replies_begin asks xs ys in (more.0, λ i. reply_to a x ∷ more.1 i)

-- the bytes of a partition are as many as it has
partition_size : (part : Option Part) (image : List ℕ) → has_partition part image ≡ true → HasBytes part (partition_bytes part image)
partition_size None image has = tt
partition_size (Some part) image has = blocks_long image part.first_block part.blocks (leb-true ((part.first_block + part.blocks) * 4096) (length image) has)

pub both : {T : Type 0} (xs ys zs : List T) → IsPrefix xs ys → IsPrefix ys zs → IsPrefix xs zs
both {T} xs ys zs f g = (f.0 ++ g.0, sym (append_assoc xs f.0 g.0) ∙ (ap (λ (ws : List T). ws ++ g.0) f.1 ∙ g.1))

pub records : (image : List ℕ) (entry : ℕ) (asks : List Ask) → has_partition (partition_in image entry) image ≡ true → AreSized asks → RecordsReplies image entry asks
records image entry asks has sized pages put came room script answers =
    let part : Option Part = partition_in image entry in
    let bytes : List ℕ = partition_bytes part image in
    let whole = asked asks 0 pages sized room in
    let begun : AreAsked 0 asks put = asked_begins asks 0 put script.0 (subst (AreAsked 0 asks) (sym script.1) whole) in
    let few : IsPrefix (replies_to asks came) (replies_to asks (client_answers part bytes put)) = subst (λ zs. IsPrefix (replies_to asks came) (replies_to asks zs)) answers.1 (replies_begin asks came answers.0) in
    both (replies_to asks came) (replies_to asks (client_answers part bytes put)) (replies_of image entry asks) few (recorded part asks put 0 bytes (partition_size part image has) begun)
