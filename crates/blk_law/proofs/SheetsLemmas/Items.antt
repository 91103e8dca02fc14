-- The rows of a disk and of a client, of items.
use Rattle.std.proofs.Common.{◌≡◌, ◌⊎◌, ◌+◌, ◌-◌, ◌*◌, ◌%◌, ◌++◌, ◌<◌, ◌≤◌, ℕ, zero, suc, Bool, true, false, nat_le, nat_lt, cond, Some, None, inl, inr, List, [], ◌∷◌, length, map, take, slice_get, refl, sym, ap, ap₂, ◌∙◌, subst, arith, append_assoc, lt-ltb}
use Rattle.std.proofs.Math.Nat.{mod-eq_of_lt, add-mod_left}
use Rattle.std.proofs.lemmas.Bool.{cases_lt, le-ltb}
use Rattle.std.proofs.lemmas.List.{append-nil, length-append}
use Rattle.cargo_core.specs.Blocks.{blk_buffer_bytes}
use Rattle.cargo_core.specs.Lists.{IsPrefix, replaced}
use Rattle.cargo_core.specs.Pages.{Paged}
use Rattle.cargo_core.specs.declared.item.Ask.{Ask}
use Rattle.cargo_core.specs.declared.item.Body.{Body}
use Rattle.cargo_core.specs.declared.item.Body.TheVariants as Carried
use Rattle.cargo_core.specs.declared.item.Code.{Code}
use Rattle.cargo_core.specs.declared.item.Code.TheVariants as Asked
use Rattle.cargo_core.specs.declared.item.Item.TheVariants as ItemOf
use Rattle.wire_core.specs.Deeds.{Cargo}
use Rattle.wire_core.specs.Lists.{Passed}
use Rattle.wire_core.specs.Queues.{items_of}
use Rattle.play_core.specs.Moved.{Moved}
use Rattle.play_core.specs.Sheets.{Scene}
use Rattle.play_core.proofs.Lists.{some_is, there_is}
use Rattle.device_model.specs.Disk.Disks.{DiskRow, req, resp}
use Rattle.device_model.specs.Disk.Serving.{answer_to, answers_to, done}
use Rattle.device_model.specs.declared.disk.DiskDevice.{DiskDevice}
use Rattle.client_programs.specs.Blk.Asking.{needs_buffer, request_for, page_for, asked_in, asked_bare, asked_from, page_in, pages_in}
use Rattle.client_programs.specs.Blk.Clients.{BlkClientRow, req_queue, resp_queue}
use Rattle.client_programs.specs.declared.blk.BlkClient.{BlkClient}
use Rattle.blk_virt.specs.Requests.{page_named}
use Rattle.blk_virt.specs.declared.requests.PageName.{PageName}
use Rattle.buffer_kit.proofs.TwoLists.{get_front, get_behind}
use Rattle.net_law.specs.Owners.Ends.{AreItemsOf}
use Rattle.net_law.proofs.PartsLemmas.Items.{items_begin, items_long}
use Rattle.net_law.proofs.PartsLemmas.Leasing.{prefix_get}
use Rattle.blk_law.specs.Sheets.Rows.{answer_item, buffers_for, asked_items, client_requests, AsksInOrder}
use Rattle.blk_law.specs.Sheets.Table.{blk_sheet}
use Rattle.blk_law.specs.Sheets.Playing.{disk_part, blk_client_part, DiskInTurn, ClientInTurn}

-- a disk's answers, of items
answer_is : (image : List ℕ) (x : Cargo) → (answer_to image x).0 ≡ answer_item x.0
answer_is image (ItemOf.Req r, body) = refl
answer_is image (ItemOf.Net d, body) = refl
answer_is image (ItemOf.Byte b, body) = refl
answer_is image (ItemOf.Resp r, body) = refl

answers_are : (image : List ℕ) (xs : List Cargo) → items_of (answers_to image xs) ≡ map answer_item (items_of xs)
answers_are image [] = refl
answers_are image (x ∷ xs) = ap₂ (λ i l. i ∷ l) (answer_is image x) (answers_are (done image x) xs)

pub disk_row : (scene : Scene) (start : List ℕ) (d : DiskDevice) (passed : Passed) (m : Moved) → DiskInTurn start d passed → AreItemsOf (blk_sheet scene (disk_part start d)).ends passed m → DiskRow start d passed → (blk_sheet scene (disk_part start d)).row m
disk_row scene start d passed m turn items row =
    let all : passed.taken (req d) ≡ row.requests = row.taken ∙ (ap (λ l. row.requests ++ l) (turn.in_turn row) ∙ append-nil row.requests) in
    let said : IsPrefix (items_of (passed.sent (resp d))) (map answer_item (items_of row.requests)) = subst (IsPrefix (items_of (passed.sent (resp d)))) (answers_are start row.requests) (items_begin (passed.sent (resp d)) (answers_to start row.requests) row.answers) in
    subst (λ xs. IsPrefix xs (map answer_item (m.taken (req d)))) (sym (items 1 _ refl))
    (subst (λ ys. IsPrefix (items_of (passed.sent (resp d))) (map answer_item ys)) (ap items_of (sym all) ∙ sym (items 0 _ refl)) said)

-- a client's requests, of items, where its buffers come to hand by their numbers
requests_are : (id used hand buffers : ℕ) (asks : List Ask) (pages : List Paged) → hand ≡ used + length pages → ((j : ℕ) (p : Paged) → slice_get pages j ≡ Some p → p.no ≡ (used + j) % buffers) → items_of (asked_from id asks pages) ≡ asked_items id used hand buffers blk_buffer_bytes asks
requests_are id used hand buffers [] pages long numbered = refl
requests_are id used hand buffers (a ∷ asks) [] long numbered = by (needs_buffer a.code) (requests_are (id + 1) used hand buffers asks [] long numbered)
  where
    none : nat_lt used hand ≡ false
    none = le-ltb used hand (omega (arith, long))

    by : (t : Bool) → items_of (asked_from (id + 1) asks []) ≡ asked_items (id + 1) used hand buffers blk_buffer_bytes asks → items_of (cond t [] (asked_bare a id ∷ asked_from (id + 1) asks [])) ≡ cond t (cond (nat_lt used hand) (request_for a id ((used % buffers) * blk_buffer_bytes) ∷ asked_items (id + 1) (used + 1) hand buffers blk_buffer_bytes asks) []) (request_for a id 0 ∷ asked_items (id + 1) used hand buffers blk_buffer_bytes asks)
    by true rest = sym (ap (λ t. cond t (request_for a id ((used % buffers) * blk_buffer_bytes) ∷ asked_items (id + 1) (used + 1) hand buffers blk_buffer_bytes asks) []) none)
    by false rest = ap (λ l. request_for a id 0 ∷ l) rest
requests_are id used hand buffers (a ∷ asks) (p ∷ pages) long numbered =
    by (needs_buffer a.code)
    (requests_are (id + 1) used hand buffers asks (p ∷ pages) long numbered)
    (requests_are (id + 1) (used + 1) hand buffers asks pages (omega (arith, long)) (λ j q at. let shift : used + suc j ≡ used + 1 + j = omega arith in numbered (suc j) q at ∙ ap (λ n. n % buffers) shift))
  where
    some : nat_lt used hand ≡ true
    some = lt-ltb used hand (omega (arith, long))

    number : p.no ≡ used % buffers
    number = let plus : used + 0 ≡ used = omega arith in numbered 0 p refl ∙ ap (λ n. n % buffers) plus

    by : (t : Bool) → items_of (asked_from (id + 1) asks (p ∷ pages)) ≡ asked_items (id + 1) used hand buffers blk_buffer_bytes asks → items_of (asked_from (id + 1) asks pages) ≡ asked_items (id + 1) (used + 1) hand buffers blk_buffer_bytes asks
        → items_of (cond t (asked_in a id p ∷ asked_from (id + 1) asks pages) (asked_bare a id ∷ asked_from (id + 1) asks (p ∷ pages))) ≡ cond t (cond (nat_lt used hand) (request_for a id ((used % buffers) * blk_buffer_bytes) ∷ asked_items (id + 1) (used + 1) hand buffers blk_buffer_bytes asks) []) (request_for a id 0 ∷ asked_items (id + 1) used hand buffers blk_buffer_bytes asks)
    by true bare rest =
        ap₂ (λ n l. request_for a id (n * blk_buffer_bytes) ∷ l) number rest
        ∙ sym (ap (λ t. cond t (request_for a id ((used % buffers) * blk_buffer_bytes) ∷ asked_items (id + 1) (used + 1) hand buffers blk_buffer_bytes asks) []) some)
    by false bare rest = ap (λ l. request_for a id 0 ∷ l) bare

-- a buffer keeps its number in a request
pub number_kept : (code : Code) (bytes : List ℕ) (p : Paged) → (page_for code bytes p).no ≡ p.no
number_kept Asked.Write bytes p = by (nat_le (length bytes) (length p.bytes))
  where
    by : (t : Bool) → (let q : Paged = cond t (record { pool = p.pool; no = p.no; bytes = replaced p.bytes 0 bytes }) p in q.no) ≡ p.no
    by true = refl
    by false = refl
number_kept Asked.Read bytes p = refl
number_kept Asked.Flush bytes p = refl
number_kept Asked.Barrier bytes p = refl

-- the buffers of requests are those that came to hand, in their order
pages_asked : (id : ℕ) (asks : List Ask) (pages : List Paged) (j : ℕ) (p : Paged) → slice_get (pages_in (asked_from id asks pages)) j ≡ Some p → (q : Paged) × (slice_get pages j ≡ Some q) × (p.no ≡ q.no)
pages_asked id [] pages j p at = absurd cc
pages_asked id (a ∷ asks) [] j p at = by (needs_buffer a.code) at (λ h. pages_asked (id + 1) asks [] j p h)
  where
    by : (t : Bool) → slice_get (pages_in (cond t [] (asked_bare a id ∷ asked_from (id + 1) asks []))) j ≡ Some p → (slice_get (pages_in (asked_from (id + 1) asks [])) j ≡ Some p → (q : Paged) × (slice_get [] j ≡ Some q) × (p.no ≡ q.no)) → (q : Paged) × (slice_get [] j ≡ Some q) × (p.no ≡ q.no)
    by true h rest = absurd cc
    by false h rest = rest h
pages_asked id (a ∷ asks) (x ∷ pages) j p at = by (needs_buffer a.code) j at (λ i h. pages_asked (id + 1) asks (x ∷ pages) i p h) (λ i h. pages_asked (id + 1) asks pages i p h)
  where
    by : (t : Bool) (i : ℕ) → slice_get (pages_in (cond t (asked_in a id x ∷ asked_from (id + 1) asks pages) (asked_bare a id ∷ asked_from (id + 1) asks (x ∷ pages)))) i ≡ Some p → ((n : ℕ) → slice_get (pages_in (asked_from (id + 1) asks (x ∷ pages))) n ≡ Some p → (q : Paged) × (slice_get (x ∷ pages) n ≡ Some q) × (p.no ≡ q.no)) → ((n : ℕ) → slice_get (pages_in (asked_from (id + 1) asks pages)) n ≡ Some p → (q : Paged) × (slice_get pages n ≡ Some q) × (p.no ≡ q.no)) → (q : Paged) × (slice_get (x ∷ pages) i ≡ Some q) × (p.no ≡ q.no)
    by true zero h bare rest = (x, refl, ap (λ (y : Paged). y.no) (sym (some_is h)) ∙ number_kept a.code a.fill x)
    by true (suc n) h bare rest = rest n h
    by false i h bare rest = bare i h

-- two bodies of one name have buffers of one number, or none
page_same : (b c : Body) → page_named b ≡ page_named c → ((p : Paged) × (q : Paged) × (page_in b ≡ p ∷ []) × (page_in c ≡ q ∷ []) × (p.no ≡ q.no)) ⊎ ((page_in b ≡ []) × (page_in c ≡ []))
page_same (Carried.Page p) (Carried.Page q) e = inl (p, q, refl, refl, ap (λ (n : PageName). n.no) (some_is e))
page_same (Carried.Page p) (Carried.Lease q) e = absurd cc
page_same (Carried.Page p) Carried.Empty e = absurd cc
page_same (Carried.Lease p) (Carried.Page q) e = absurd cc
page_same (Carried.Lease p) (Carried.Lease q) e = inr (refl, refl)
page_same (Carried.Lease p) Carried.Empty e = inr (refl, refl)
page_same Carried.Empty (Carried.Page q) e = absurd cc
page_same Carried.Empty (Carried.Lease q) e = inr (refl, refl)
page_same Carried.Empty Carried.Empty e = inr (refl, refl)

-- responses that bring the buffers of their requests
abbrev AreBrought : List Cargo → List Cargo → Type 0
AreBrought put came = (k : ℕ) (x y : Cargo) → slice_get put k ≡ Some x → slice_get came k ≡ Some y → page_named y.1 ≡ page_named x.1

-- bring them in the order in which they were put
pages_brought : (put came : List Cargo) → length came ≤ length put → AreBrought put came → (j : ℕ) (p : Paged) → slice_get (pages_in came) j ≡ Some p → (q : Paged) × (slice_get (pages_in put) j ≡ Some q) × (p.no ≡ q.no)
pages_brought put [] few brought j p at = absurd cc
pages_brought [] (y ∷ came) few brought j p at = absurd (omega (arith, few))
pages_brought (x ∷ put) (y ∷ came) few brought j p at = by (page_same y.1 x.1 (brought 0 x y refl refl)) j at (λ i h. pages_brought put came (omega (arith, few)) (λ k a b a_at b_at. brought (suc k) a b a_at b_at) i p h)
  where
    by : ((a : Paged) × (b : Paged) × (page_in y.1 ≡ a ∷ []) × (page_in x.1 ≡ b ∷ []) × (a.no ≡ b.no)) ⊎ ((page_in y.1 ≡ []) × (page_in x.1 ≡ [])) → (i : ℕ) → slice_get (page_in y.1 ++ pages_in came) i ≡ Some p → ((n : ℕ) → slice_get (pages_in came) n ≡ Some p → (q : Paged) × (slice_get (pages_in put) n ≡ Some q) × (p.no ≡ q.no)) → (q : Paged) × (slice_get (page_in x.1 ++ pages_in put) i ≡ Some q) × (p.no ≡ q.no)
    by (inl (a, b, e, f, same)) zero h rest =
        let here : a ≡ p = some_is (sym (ap (λ l. slice_get (l ++ pages_in came) 0) e) ∙ h) in
        (b, ap (λ l. slice_get (l ++ pages_in put) 0) f, ap (λ (z : Paged). z.no) (sym here) ∙ same)
    by (inl (a, b, e, f, same)) (suc i) h rest =
        let r = rest i (sym (ap (λ l. slice_get (l ++ pages_in came) (suc i)) e) ∙ h) in
        (r.0, ap (λ l. slice_get (l ++ pages_in put) (suc i)) f ∙ r.1, r.2)
    by (inr (e, f)) i h rest =
        let r = rest i (sym (ap (λ l. slice_get (l ++ pages_in came) i) e) ∙ h) in
        (r.0, ap (λ l. slice_get (l ++ pages_in put) i) f ∙ r.1, r.2)

-- a request without a buffer brings none, and one with a buffer one
bare_none : (y x : Cargo) (a : Ask) (id : ℕ) → x ≡ asked_bare a id → page_named y.1 ≡ page_named x.1 → page_in y.1 ≡ []
bare_none (item, Carried.Page p) x a id is same = let e : page_named x.1 ≡ None = ap (λ (z : Cargo). page_named z.1) is in absurd cc
bare_none (item, Carried.Lease p) x a id is same = refl
bare_none (item, Carried.Empty) x a id is same = refl

in_one : (y x : Cargo) (a : Ask) (id : ℕ) (p : Paged) → x ≡ asked_in a id p → page_named y.1 ≡ page_named x.1 → (q : Paged) × (page_in y.1 ≡ q ∷ [])
in_one (item, Carried.Page q) x a id p is same = (q, refl)
in_one (item, Carried.Lease q) x a id p is same = let e : page_named x.1 ≡ Some (record { pool = (page_for a.code a.fill p).pool; no = (page_for a.code a.fill p).no }) = ap (λ (z : Cargo). page_named z.1) is in absurd cc
in_one (item, Carried.Empty) x a id p is same = let e : page_named x.1 ≡ Some (record { pool = (page_for a.code a.fill p).pool; no = (page_for a.code a.fill p).no }) = ap (λ (z : Cargo). page_named z.1) is in absurd cc

-- and as many as the requests needed
pages_many : (id : ℕ) (asks : List Ask) (pages : List Paged) (put came : List Cargo) → IsPrefix put (asked_from id asks pages) → length came ≤ length put → AreBrought put came → length (pages_in came) ≡ buffers_for (take (length came) asks)
pages_many id asks pages put [] begins few brought = refl
pages_many id asks pages [] (y ∷ came) begins few brought = absurd (omega (arith, few))
pages_many id [] pages (x ∷ put) (y ∷ came) begins few brought = let e : x ∷ (put ++ begins.0) ≡ [] = begins.1 in absurd cc
pages_many id (a ∷ asks) [] (x ∷ put) (y ∷ came) begins few brought = by (needs_buffer a.code) begins.1 (λ h. pages_many (id + 1) asks [] put came (begins.0, h) (omega (arith, few)) (λ k c d c_at d_at. brought (suc k) c d c_at d_at))
  where
    by : (t : Bool) → x ∷ (put ++ begins.0) ≡ cond t [] (asked_bare a id ∷ asked_from (id + 1) asks []) → (put ++ begins.0 ≡ asked_from (id + 1) asks [] → length (pages_in came) ≡ buffers_for (take (length came) asks)) → length (page_in y.1 ++ pages_in came) ≡ cond t (1 + buffers_for (take (length came) asks)) (buffers_for (take (length came) asks))
    by true e rest = absurd cc
    by false e rest =
        let head : x ≡ asked_bare a id = cc in
        let tail : put ++ begins.0 ≡ asked_from (id + 1) asks [] = cc in
        let none = bare_none y x a id head (brought 0 x y refl refl) in
        ap (λ l. length (l ++ pages_in came)) none ∙ rest tail
pages_many id (a ∷ asks) (p ∷ pages) (x ∷ put) (y ∷ came) begins few brought = by (needs_buffer a.code) begins.1 (λ h. pages_many (id + 1) asks (p ∷ pages) put came (begins.0, h) (omega (arith, few)) (λ k c d c_at d_at. brought (suc k) c d c_at d_at)) (λ h. pages_many (id + 1) asks pages put came (begins.0, h) (omega (arith, few)) (λ k c d c_at d_at. brought (suc k) c d c_at d_at))
  where
    by : (t : Bool) → x ∷ (put ++ begins.0) ≡ cond t (asked_in a id p ∷ asked_from (id + 1) asks pages) (asked_bare a id ∷ asked_from (id + 1) asks (p ∷ pages)) → (put ++ begins.0 ≡ asked_from (id + 1) asks (p ∷ pages) → length (pages_in came) ≡ buffers_for (take (length came) asks)) → (put ++ begins.0 ≡ asked_from (id + 1) asks pages → length (pages_in came) ≡ buffers_for (take (length came) asks)) → length (page_in y.1 ++ pages_in came) ≡ cond t (1 + buffers_for (take (length came) asks)) (buffers_for (take (length came) asks))
    by true e bare rest =
        let head : x ≡ asked_in a id p = cc in
        let tail : put ++ begins.0 ≡ asked_from (id + 1) asks pages = cc in
        let one = in_one y x a id p head (brought 0 x y refl refl) in
        let long = ap (λ l. length (l ++ pages_in came)) one.1 in
        let more = rest tail in
        omega (arith, long, more)
    by false e bare rest =
        let head : x ≡ asked_bare a id = cc in
        let tail : put ++ begins.0 ≡ asked_from (id + 1) asks (p ∷ pages) = cc in
        let none = bare_none y x a id head (brought 0 x y refl refl) in
        ap (λ l. length (l ++ pages_in came)) none ∙ bare tail

pages_begin : (xs ys : List Cargo) → IsPrefix xs ys → IsPrefix (pages_in xs) (pages_in ys)
pages_begin [] ys h = (pages_in ys, refl)
pages_begin (x ∷ xs) [] h = let e : x ∷ (xs ++ h.0) ≡ [] = h.1 in absurd cc
pages_begin (x ∷ xs) (y ∷ ys) h =
    let e : x ∷ (xs ++ h.0) ≡ y ∷ ys = h.1 in
    let head : x ≡ y = cc in
    let tail : xs ++ h.0 ≡ ys = cc in
    let rest = pages_begin xs ys (h.0, tail) in
    (rest.0, append_assoc (page_in x.1) (pages_in xs) rest.0 ∙ ap₂ (λ (z : Cargo) l. page_in z.1 ++ l) head rest.1)

-- a client, of whose responses each brought the buffer of its request
module _ (c : BlkClient) (passed : Passed) (turn : ClientInTurn c passed) (row : BlkClientRow c passed) where
  abbrev put : List Cargo
  put = passed.sent (req_queue c)

  abbrev came : List Cargo
  came = row.came

  abbrev asks : List Ask
  asks = c.asking.script.items

  abbrev hand : List Paged
  hand = row.start ++ pages_in came

  abbrev buffers : ℕ
  buffers = c.asking.buffers

  came_is : passed.taken (resp_queue c) ≡ came
  came_is = row.taken ∙ (ap (λ l. came ++ l) (turn.in_turn row) ∙ append-nil came)

  brought : AreBrought put came
  brought k x y x_at y_at = turn.brings k x y x_at (ap (λ l. slice_get l k) came_is ∙ y_at)

  start_many : length row.start ≡ buffers
  start_many = row.is_start.many

  -- the buffers come to hand in rising number, and again as they were used
  numbered_below : (n i : ℕ) → i < n → (p : Paged) → slice_get hand i ≡ Some p → p.no ≡ i % buffers
  numbered_below zero i lt p at = absurd (omega (arith, lt))
  numbered_below (suc n) i lt p at = by (cases_lt i (length row.start)) (numbered_below n)
    where
      by : (i < length row.start) ⊎ (length row.start ≤ i) → ((k : ℕ) → k < n → (q : Paged) → slice_get hand k ≡ Some q → q.no ≡ k % buffers) → p.no ≡ i % buffers
      by (inl within) below =
          let q = there_is row.start i within in
          let same : q.0 ≡ p = some_is (sym (get_front row.start (pages_in came) i q.0 q.1) ∙ at) in
          let many = start_many in
          ap (λ (z : Paged). z.no) (sym same) ∙ (row.is_start.are_pool.numbered i q.0 q.1 ∙ sym (mod-eq_of_lt (omega (arith, within, many))))
      by (inr past) below =
          let j = i - length row.start in
          let parts : i ≡ length row.start + j = omega (arith, past) in
          let behind : slice_get (pages_in came) j ≡ Some p = sym (get_behind row.start (pages_in came) j) ∙ (ap (slice_get hand) (sym parts) ∙ at) in
          let one = pages_brought put came row.answered brought j p behind in
          let two = pages_asked 0 asks hand j one.0 (prefix_get (pages_in put) (pages_in (asked_from 0 asks hand)) (pages_begin put (asked_from 0 asks hand) row.asks) j one.0 one.1) in
          let some = turn.some in
          let many = start_many in
          let before = below j (omega (arith, lt, parts, some, many)) two.0 two.1 in
          let whole : i ≡ buffers + j = omega (arith, parts, many) in
          one.2 ∙ (two.2 ∙ (before ∙ (sym (add-mod_left buffers j) ∙ ap (λ k. k % buffers) (sym whole))))

  pub client_row : (scene : Scene) (m : Moved) → AreItemsOf (blk_sheet scene (blk_client_part c)).ends passed m → (blk_sheet scene (blk_client_part c)).row m
  client_row scene m items =
      let many = pages_many 0 asks hand put came row.asks row.answered brought in
      let long = length-append row.start (pages_in came) in
      let start = start_many in
      let plus : (j : ℕ) (p : Paged) → slice_get hand j ≡ Some p → p.no ≡ (0 + j) % buffers = λ j p at. let zero_first : j ≡ 0 + j = omega arith in numbered_below (suc j) j (omega arith) p at ∙ ap (λ k. k % buffers) zero_first in
      let all : items_of (asked_from 0 asks hand) ≡ client_requests asks (record { number = c.asking.pool.0; base = 0; buffers = buffers; size = blk_buffer_bytes }) (length came) = requests_are 0 0 (buffers + buffers_for (take (length came) asks)) buffers asks hand (omega (arith, many, long, start)) plus in
      let said : AsksInOrder asks (record { number = c.asking.pool.0; base = 0; buffers = buffers; size = blk_buffer_bytes }) (items_of came) (items_of put) = record {
        begins = subst (λ n. IsPrefix (items_of put) (client_requests asks (record { number = c.asking.pool.0; base = 0; buffers = buffers; size = blk_buffer_bytes }) n)) (sym (items_long came)) (subst (IsPrefix (items_of put)) all (items_begin put (asked_from 0 asks hand) row.asks));
        answered = (let a = items_long came in let b = items_long put in let few = row.answered in omega (arith, a, b, few));
      } in
      subst (λ xs. AsksInOrder asks (record { number = c.asking.pool.0; base = 0; buffers = buffers; size = blk_buffer_bytes }) (m.taken (resp_queue c)) xs) (sym (items 1 _ refl))
      (subst (λ ys. AsksInOrder asks (record { number = c.asking.pool.0; base = 0; buffers = buffers; size = blk_buffer_bytes }) ys (items_of put)) (ap items_of (sym came_is) ∙ sym (items 0 _ refl)) said)
