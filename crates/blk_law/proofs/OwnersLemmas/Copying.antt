-- A disk and a driver put what they took: requests on, and responses for requests.
use Rattle.std.proofs.Common.{◌≡◌, ◌+◌, ◌≤◌, ◌++◌, ℕ, List, [], ◌∷◌, length, map, flat_map, take, sum_by, refl, sym, ap, subst, arith}
use Rattle.std.proofs.lemmas.List.{length-map}
use Rattle.cargo_core.specs.Lists.{IsPrefix}
use Rattle.play_core.specs.Moved.{Moved, Seat}
use Rattle.play_core.specs.Wants.{intake, outlet}
use Rattle.play_core.specs.Sheets.{Scene}
use Rattle.play_core.proofs.Lists.{prefix_trans}
use Rattle.owner_law.specs.Things.{Buffer, Window, Naming, Thing, names_in, times, as_buffer, as_lease, lends}
use Rattle.owner_law.specs.Keeping.{Keeps, all_taken, all_put, things_in, things_out}
use Rattle.owner_law.proofs.Sums.{sum_flat}
use Rattle.owner_law.proofs.Named.{carried, buffers_are, buffers_none, keeps_plain}
use Rattle.net_law.specs.Parts.Parts.{Way}
use Rattle.net_law.specs.Parts.Rows.{AllCopy}
use Rattle.net_law.specs.Parts.Table.{way_ends}
use Rattle.blk_law.specs.Sheets.Parts.{DiskDevice, BlkDriver}
use Rattle.blk_law.specs.Sheets.Rows.{answer_item}
use Rattle.blk_law.specs.Sheets.Table.{blk_sheet}
use Rattle.blk_law.specs.Owners.Answering.{NamesAsked, NamesBlk, IsInOrder, PutsItsOwnInOrder}
use Rattle.blk_law.proofs.OwnersLemmas.Answers.{take_begins, take_of, take_more, fewer, answers_are, answers_none}

-- a beginning is no longer
pub no_longer : {T : Type 0} (xs ys : List T) → IsPrefix xs ys → length xs ≤ length ys
no_longer [] ys h = omega arith
no_longer (x ∷ xs) [] h = absurd (let e = h.1 in cc)
no_longer (x ∷ xs) (y ∷ ys) h = let tail : xs ++ h.0 ≡ ys = cc in let le = no_longer xs ys (h.0, tail) in omega (arith, le)

module _ (naming : Naming) (scene : Scene) (req resp : ℕ) (image : List ℕ) (names : NamesBlk naming (DiskDevice req resp image)) (m : Moved) (order : IsInOrder naming m) (row : IsPrefix (m.sent resp) (map answer_item (m.taken req))) where
  abbrev disk_ends : List Seat
  disk_ends = intake req ∷ outlet resp ∷ []

  disk_came : (f : Thing → ℕ) → sum_by f (all_taken naming m disk_ends) ≡ carried naming m req (m.taken req) f
  disk_came f = let parts : sum_by f (all_taken naming m disk_ends) ≡ 0 + carried naming m req (m.taken req) f + 0 = sum_flat f (things_in naming m) disk_ends in omega (arith, parts)

  disk_went : (f : Thing → ℕ) → sum_by f (all_put naming m disk_ends) ≡ carried naming m resp (m.sent resp) f
  disk_went f = let parts : sum_by f (all_put naming m disk_ends) ≡ 0 + 0 + carried naming m resp (m.sent resp) f = sum_flat f (things_out naming m) disk_ends in omega (arith, parts)

  disk_buffers : (b : Buffer) → sum_by (as_buffer b) (all_put naming m disk_ends) ≤ 0 + sum_by (as_buffer b) (all_taken naming m disk_ends)
  disk_buffers b =
      let ws = names.0 in
      let came = disk_came (as_buffer b) in
      let went = disk_went (as_buffer b) in
      let into = buffers_are naming m req (m.taken req) ws (as_buffer b) b names.1.0 refl (λ c. refl) in
      let out = answers_are naming m resp req ws names.1.1 (m.sent resp) (as_buffer b) b refl (λ c. refl) in
      let many : length (m.sent resp) ≤ length (m.taken req) = (let le = no_longer (m.sent resp) (map answer_item (m.taken req)) row in let same = length-map (m.taken req) answer_item in omega (arith, le, same)) in
      let here : take (length (m.sent resp)) (m.sent req) ≡ take (length (m.sent resp)) (m.taken req) = take_of (length (m.sent resp)) (m.taken req) (m.sent req) (order.hands_over req) many in
      let same : times b (names_in ws (take (length (m.sent resp)) (m.sent req))) ≡ times b (names_in ws (take (length (m.sent resp)) (m.taken req))) = ap (λ l. times b (names_in ws l)) here in
      let le = fewer b ws (take (length (m.sent resp)) (m.taken req)) (m.taken req) (take_begins (length (m.sent resp)) (m.taken req)) in
      omega (arith, came, went, into, out, same, le)

  disk_all : Keeps (λ pool. []) (all_taken naming m disk_ends) (all_put naming m disk_ends)
  disk_all =
      keeps_plain (λ pool. []) (all_taken naming m disk_ends) (all_put naming m disk_ends)
      (λ b. (let came = disk_came (lends b) in let none = buffers_none naming m req (m.taken req) names.0 (lends b) names.1.0 refl (λ c. refl) in omega (arith, came, none)))
      disk_buffers
      (λ b. (let went = disk_went (as_lease b) in let none = answers_none naming m resp req names.0 names.1.1 (m.sent resp) (as_lease b) refl (λ c. refl) in omega (arith, went, none)))

pub disk_keeps : (naming : Naming) (scene : Scene) (req resp : ℕ) (image : List ℕ) → NamesBlk naming (DiskDevice req resp image) → PutsItsOwnInOrder naming (blk_sheet scene (DiskDevice req resp image))
disk_keeps naming scene req resp image names m order apart row = disk_all naming scene req resp image names m order row

-- a driver has two ways
abbrev two_ways : (req disk_req disk_resp resp : ℕ) → List Way
two_ways req disk_req disk_resp resp = record { input = req; output = disk_req } ∷ record { input = disk_resp; output = resp } ∷ []

module _ (naming : Naming) (ws : List Window) (req disk_req disk_resp resp : ℕ) (asked : NamesAsked naming ws req resp) (passed_on : NamesAsked naming ws disk_req disk_resp) (m : Moved) (order : IsInOrder naming m)
    (there : IsPrefix (m.sent disk_req) (m.taken req)) (back : IsPrefix (m.sent resp) (m.taken disk_resp)) where
  abbrev driver_ends : List Seat
  driver_ends = intake req ∷ outlet disk_req ∷ intake disk_resp ∷ outlet resp ∷ []

  driver_came : (f : Thing → ℕ) → sum_by f (all_taken naming m driver_ends) ≡ carried naming m req (m.taken req) f + carried naming m disk_resp (m.taken disk_resp) f
  driver_came f = let parts : sum_by f (all_taken naming m driver_ends) ≡ 0 + carried naming m req (m.taken req) f + 0 + carried naming m disk_resp (m.taken disk_resp) f + 0 = sum_flat f (things_in naming m) driver_ends in omega (arith, parts)

  driver_went : (f : Thing → ℕ) → sum_by f (all_put naming m driver_ends) ≡ carried naming m disk_req (m.sent disk_req) f + carried naming m resp (m.sent resp) f
  driver_went f = let parts : sum_by f (all_put naming m driver_ends) ≡ 0 + 0 + carried naming m disk_req (m.sent disk_req) f + 0 + carried naming m resp (m.sent resp) f = sum_flat f (things_out naming m) driver_ends in omega (arith, parts)

  driver_buffers : (b : Buffer) → sum_by (as_buffer b) (all_put naming m driver_ends) ≤ 0 + sum_by (as_buffer b) (all_taken naming m driver_ends)
  driver_buffers b =
      let came = driver_came (as_buffer b) in
      let went = driver_went (as_buffer b) in
      let a = buffers_are naming m req (m.taken req) ws (as_buffer b) b asked.0 refl (λ c. refl) in
      let d = buffers_are naming m disk_req (m.sent disk_req) ws (as_buffer b) b passed_on.0 refl (λ c. refl) in
      let e = answers_are naming m disk_resp disk_req ws passed_on.1 (m.taken disk_resp) (as_buffer b) b refl (λ c. refl) in
      let g = answers_are naming m resp req ws asked.1 (m.sent resp) (as_buffer b) b refl (λ c. refl) in
      let out = length (m.sent resp) in
      let into = length (m.taken disk_resp) in
      let le : out ≤ into = no_longer (m.sent resp) (m.taken disk_resp) back in
      let le_sent : into ≤ length (m.sent disk_resp) = no_longer (m.taken disk_resp) (m.sent disk_resp) (order.hands_over disk_resp) in
      let le_asked : length (m.sent disk_resp) ≤ length (m.sent disk_req) = order.answered disk_resp disk_req ws passed_on.1 in
      let begins : IsPrefix (m.sent disk_req) (m.sent req) = prefix_trans (m.sent disk_req) (m.taken req) (m.sent req) there (order.hands_over req) in
      let here : take out (m.sent req) ≡ take out (m.sent disk_req) = take_of out (m.sent disk_req) (m.sent req) begins (omega (arith, le, le_sent, le_asked)) in
      let same : times b (names_in ws (take out (m.sent req))) ≡ times b (names_in ws (take out (m.sent disk_req))) = ap (λ l. times b (names_in ws l)) here in
      let more = fewer b ws (take out (m.sent disk_req)) (take into (m.sent disk_req)) (take_more out into (m.sent disk_req) le) in
      let few = fewer b ws (m.sent disk_req) (m.taken req) there in
      omega (arith, came, went, a, d, e, g, same, more, few)

  driver_all : Keeps (λ pool. []) (all_taken naming m driver_ends) (all_put naming m driver_ends)
  driver_all =
      keeps_plain (λ pool. []) (all_taken naming m driver_ends) (all_put naming m driver_ends)
      (λ b. (let came = driver_came (lends b) in let one = buffers_none naming m req (m.taken req) ws (lends b) asked.0 refl (λ c. refl) in let two = answers_none naming m disk_resp disk_req ws passed_on.1 (m.taken disk_resp) (lends b) refl (λ c. refl) in omega (arith, came, one, two)))
      driver_buffers
      (λ b. (let went = driver_went (as_lease b) in let one = buffers_none naming m disk_req (m.sent disk_req) ws (as_lease b) passed_on.0 refl (λ c. refl) in let two = answers_none naming m resp req ws asked.1 (m.sent resp) (as_lease b) refl (λ c. refl) in omega (arith, went, one, two)))

pub driver_keeps : (naming : Naming) (scene : Scene) (ways : List Way) → NamesBlk naming (BlkDriver ways) → PutsItsOwnInOrder naming (blk_sheet scene (BlkDriver ways))
driver_keeps naming scene ways names m order apart row =
    let n = names.1 in
    let copies : AllCopy (two_ways n.req n.disk_req n.disk_resp n.resp) m = subst (λ l. AllCopy l m) n.ways_are row in
    let all = driver_all naming names.0 n.req n.disk_req n.disk_resp n.resp n.asked n.passed_on m order (copies 0 (record { input = n.req; output = n.disk_req }) refl) (copies 1 (record { input = n.disk_resp; output = n.resp }) refl) in
    subst (λ l. Keeps (λ pool. []) (all_taken naming m (flat_map way_ends l)) (all_put naming m (flat_map way_ends l))) (sym n.ways_are) all
