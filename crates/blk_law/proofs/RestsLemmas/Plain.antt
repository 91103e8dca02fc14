-- What a disk and a client of the block class need and owe, by the items that passed.
use Rattle.std.proofs.Common.{◌≡◌, ◌+◌, ◌++◌, ◌≤◌, ◌*◌, ◌%◌, ◌&&◌, ℕ, zero, suc, Bool, true, false, not, nat_lt, if◌then◌else◌, Option, Some, None, is_some, is_none, List, [], ◌∷◌, length, take, slice_get, length-append, refl, sym, ap, ◌∙◌, arith}
use Rattle.std.specs.Option.{option_to_list}
use Rattle.std.proofs.lemmas.Bool.{lt-ltb, le-ltb}
use Rattle.std.proofs.lemmas.List.{append-nil}
use Rattle.cargo_core.specs.Blocks.{blk_buffer_bytes}
use Rattle.cargo_core.specs.declared.item.Ask.{Ask}
use Rattle.cargo_core.specs.declared.item.Item.{Item}
use Rattle.cargo_core.specs.declared.item.Body.{Body}
use Rattle.cargo_core.specs.declared.item.Body.TheVariants as Carried
use Rattle.cargo_core.specs.Pages.{Paged}
use Rattle.wire_core.specs.Bells.{bit}
use Rattle.wire_core.specs.Deeds.{Cargo}
use Rattle.wire_core.specs.Queues.{Queue, end_at}
use Rattle.wire_core.specs.Lists.{Passed}
use Rattle.play_core.specs.Moved.{Moved}
use Rattle.play_core.specs.Sheets.{Scene}
use Rattle.device_model.specs.declared.disk.DiskDevice.{DiskDevice}
use Rattle.device_model.specs.Disk.Disks.{FitsDisk, DiskStandsFor, disk_round}
use Rattle.device_model.specs.Disk.Disks as disk
use Rattle.device_model.specs.Disk.Serving.{answers_to, done}
use Rattle.client_programs.specs.declared.blk.BlkClient.{BlkClient}
use Rattle.client_programs.specs.declared.blk.asking.Asking.{Asking}
use Rattle.client_programs.specs.Blk.Clients.{FitsBlkClient, BlkClientStandsFor, blk_client_round}
use Rattle.client_programs.specs.Blk.Clients as client
use Rattle.client_programs.specs.Blk.Asking.{needs_buffer, asked_from, asked_in, asked_bare, request_for, page_in, pages_in, and_one, made, left}
use Rattle.play_core.proofs.Lists.{some_is, there_is, there_below}
use Rattle.buffer_kit.proofs.TwoLists.{get_front}
use Rattle.blk_virt.specs.Requests.{page_named}
use Rattle.net_law.specs.Parts.Table.{is_short}
use Rattle.blk_law.specs.Sheets.Rows.{asked_items, buffers_for, client_requests}
use Rattle.blk_law.specs.Sheets.Table.{blk_sheet}
use Rattle.blk_law.specs.Sheets.Playing.{disk_part, blk_client_part, DiskInTurn, ClientInTurn}
use Rattle.play_core.specs.Rests.Showing.{HaveItems}
use Rattle.play_core.specs.Rests.Meeting.{Meet}
use Rattle.play_core.proofs.RestsLemmas.Settling.{took, put, none_is, held_is}

pub and_true : (b : Bool) → (b && true) ≡ b
and_true true = refl
and_true false = refl

answers_long : (image : List ℕ) (xs : List Cargo) → length (answers_to image xs) ≡ length xs
answers_long image [] = refl
answers_long image (x ∷ xs) = ap suc (answers_long (done image x) xs)

-- as many requests can be made as there are buffers in hand
asked_long : (id id' used hand buffers size : ℕ) (asks : List Ask) (pages : List Paged) → used + length pages ≡ hand → length (asked_items id used hand buffers size asks) ≡ length (asked_from id' asks pages)
asked_long id id' used hand buffers size [] [] e = refl
asked_long id id' used hand buffers size [] (page ∷ pages) e = refl
asked_long id id' used hand buffers size (a ∷ asks) [] e = by (needs_buffer a.code) (asked_long (id + 1) (id' + 1) used hand buffers size asks [] e)
  where
    full : nat_lt used hand ≡ false
    full = le-ltb used hand (omega (arith, e))

    by : (b : Bool) → length (asked_items (id + 1) used hand buffers size asks) ≡ length (asked_from (id' + 1) asks [])
        → length (if b then (if nat_lt used hand then (request_for a id ((used % buffers) * size) ∷ asked_items (id + 1) (used + 1) hand buffers size asks) else []) else (request_for a id 0 ∷ asked_items (id + 1) used hand buffers size asks)) ≡ length (if b then [] else (asked_bare a id' ∷ asked_from (id' + 1) asks []))
    by true rest = ap (λ t. length (if t then (request_for a id ((used % buffers) * size) ∷ asked_items (id + 1) (used + 1) hand buffers size asks) else [])) full
    by false rest = ap suc rest
asked_long id id' used hand buffers size (a ∷ asks) (page ∷ pages) e = by (needs_buffer a.code) (asked_long (id + 1) (id' + 1) (used + 1) hand buffers size asks pages (omega (arith, e))) (asked_long (id + 1) (id' + 1) used hand buffers size asks (page ∷ pages) e)
  where
    some : nat_lt used hand ≡ true
    some = lt-ltb used hand (omega (arith, e))

    by : (b : Bool) → length (asked_items (id + 1) (used + 1) hand buffers size asks) ≡ length (asked_from (id' + 1) asks pages) → length (asked_items (id + 1) used hand buffers size asks) ≡ length (asked_from (id' + 1) asks (page ∷ pages))
        → length (if b then (if nat_lt used hand then (request_for a id ((used % buffers) * size) ∷ asked_items (id + 1) (used + 1) hand buffers size asks) else []) else (request_for a id 0 ∷ asked_items (id + 1) used hand buffers size asks)) ≡ length (if b then (asked_in a id' page ∷ asked_from (id' + 1) asks pages) else (asked_bare a id' ∷ asked_from (id' + 1) asks (page ∷ pages)))
    by true rest rest' = ap (λ t. length (if t then (request_for a id ((used % buffers) * size) ∷ asked_items (id + 1) (used + 1) hand buffers size asks) else [])) some ∙ ap suc rest
    by false rest rest' = ap suc rest'

-- the body of a request names a buffer where it needs one
abbrev IsNamed : Cargo → Ask → Type 0
IsNamed x a = is_some (page_named x.1) ≡ needs_buffer a.code

named_step : (x : Cargo) (a : Ask) (first : Cargo) (b : Ask) (asks : List Ask) (rest : List Cargo) → IsNamed first b → ((k : ℕ) → slice_get rest k ≡ Some x → slice_get asks k ≡ Some a → IsNamed x a) → (k : ℕ) → slice_get (first ∷ rest) k ≡ Some x → slice_get (b ∷ asks) k ≡ Some a → IsNamed x a
named_step x a first b asks rest is later zero at at' = ap (λ (y : Cargo). is_some (page_named y.1)) (sym (some_is at)) ∙ (is ∙ ap (λ (d : Ask). needs_buffer d.code) (some_is at'))
named_step x a first b asks rest is later (suc k) at at' = later k at at'

named_at : (id : ℕ) (asks : List Ask) (pages : List Paged) (x : Cargo) (a : Ask) (k : ℕ) → slice_get (asked_from id asks pages) k ≡ Some x → slice_get asks k ≡ Some a → IsNamed x a
named_at id [] [] x a k at at' = cc
named_at id [] (page ∷ pages) x a k at at' = cc
named_at id (b ∷ asks) [] x a k at at' = by (needs_buffer b.code) refl at (λ j. named_at (id + 1) asks [] x a j)
  where
    by : (t : Bool) → needs_buffer b.code ≡ t → slice_get (if t then [] else (asked_bare b id ∷ asked_from (id + 1) asks [])) k ≡ Some x → ((j : ℕ) → slice_get (asked_from (id + 1) asks []) j ≡ Some x → slice_get asks j ≡ Some a → IsNamed x a) → IsNamed x a
    by true e there later = cc
    by false e there later = named_step x a (asked_bare b id) b asks (asked_from (id + 1) asks []) (sym e) later k there at'
named_at id (b ∷ asks) (page ∷ pages) x a k at at' = by (needs_buffer b.code) refl at (λ j. named_at (id + 1) asks pages x a j) (λ j. named_at (id + 1) asks (page ∷ pages) x a j)
  where
    by : (t : Bool) → needs_buffer b.code ≡ t → slice_get (if t then (asked_in b id page ∷ asked_from (id + 1) asks pages) else (asked_bare b id ∷ asked_from (id + 1) asks (page ∷ pages))) k ≡ Some x → ((j : ℕ) → slice_get (asked_from (id + 1) asks pages) j ≡ Some x → slice_get asks j ≡ Some a → IsNamed x a)
        → ((j : ℕ) → slice_get (asked_from (id + 1) asks (page ∷ pages)) j ≡ Some x → slice_get asks j ≡ Some a → IsNamed x a) → IsNamed x a
    by true e there later later' = named_step x a (asked_in b id page) b asks (asked_from (id + 1) asks pages) (sym e) later k there at'
    by false e there later later' = named_step x a (asked_bare b id) b asks (asked_from (id + 1) asks (page ∷ pages)) (sym e) later' k there at'

page_count : (b : Body) → length (page_in b) ≡ bit (is_some (page_named b))
page_count (Carried.Page page) = refl
page_count (Carried.Lease lease) = refl
page_count Carried.Empty = refl

take_none : (script : List Ask) → buffers_for (take 0 script) ≡ 0
take_none [] = refl
take_none (a ∷ script) = refl

-- the responses brought the buffers of their requests
pages_long : (script : List Ask) (came : List Cargo) → length came ≤ length script → ((j : ℕ) (x : Cargo) (a : Ask) → slice_get came j ≡ Some x → slice_get script j ≡ Some a → length (page_in x.1) ≡ bit (needs_buffer a.code)) → length (pages_in came) ≡ buffers_for (take (length came) script)
pages_long script [] few each = sym (take_none script)
pages_long [] (x ∷ came) few each = absurd (omega (arith, few))
pages_long (a ∷ script) (x ∷ came) few each = by (needs_buffer a.code) (each 0 x a refl refl) (pages_long script came (omega (arith, few)) (λ j y b at at'. each (suc j) y b at at'))
  where
    by : (b : Bool) → length (page_in x.1) ≡ bit b → length (pages_in came) ≡ buffers_for (take (length came) script) → length (page_in x.1 ++ pages_in came) ≡ (if b then (1 + buffers_for (take (length came) script)) else buffers_for (take (length came) script))
    by true first rest = let parts = length-append (page_in x.1) (pages_in came) in omega (arith, first, rest, parts)
    by false first rest = let parts = length-append (page_in x.1) (pages_in came) in omega (arith, first, rest, parts)

module _ (scene : Scene) (w : List Queue) (passed : Passed) (m : Moved) (h : HaveItems passed m) where
  module _ (image : List ℕ) (d : DiskDevice) (turn : DiskInTurn image d passed) (st : DiskStandsFor image d passed) where
    no_stray : d.stray ≡ None
    no_stray = turn.free

    owes : is_some d.load ≡ is_short (m.sent (disk.resp d)) (m.taken (disk.req d))
    owes =
        let all = ap (λ l. length l) st.answered in
        let parts = length-append (passed.sent (disk.resp d)) (option_to_list d.load) in
        let long = answers_long image st.requests in
        let came = ap (λ l. length l) (st.taken ∙ ap (λ o. st.requests ++ option_to_list o) no_stray ∙ append-nil st.requests) in
        held_is d.load (length (m.sent (disk.resp d))) (length (m.taken (disk.req d))) (omega (arith, all, parts, long, came, took passed m h (disk.req d), put passed m h (disk.resp d)))

    asks : disk.is_asking d ≡ not (is_short (m.sent (disk.resp d)) (m.taken (disk.req d)))
    asks = ap (λ o. is_none d.load && is_none o) no_stray ∙ (and_true (is_none d.load) ∙ (none_is d.load ∙ ap not owes))

    pub disk_meets : FitsDisk (end_at w) d → Meet (end_at w) (disk_round d).posts (disk_round d).needs ((blk_sheet scene (disk_part image d)).wants m)
    disk_meets f = (record { needs = asks; agrees = f.input }, (record { needs = owes; agrees = f.output }, tt))

  module _ (c : BlkClient) (turn : ClientInTurn c passed) (f : FitsBlkClient (end_at w) c) (st : BlkClientStandsFor c passed) where
    abbrev asking : Asking
    asking = c.asking

    abbrev script : List Ask
    script = c.asking.script.items

    free : c.stray ≡ None
    free = turn.free

    came_is : passed.taken (client.resp_queue c) ≡ st.came
    came_is = st.taken ∙ (ap (λ o. st.came ++ option_to_list o) free ∙ append-nil st.came)

    puts : (k : ℕ) (x : Cargo) → slice_get (passed.sent (client.req_queue c)) k ≡ Some x → slice_get (asked_from 0 script (st.start ++ pages_in st.came)) k ≡ Some x
    puts k x at =
        let all = st.stands.asks [] ∙ ap (λ ps. asked_from 0 script (st.start ++ ps)) (append-nil (pages_in st.came)) in
        ap (λ l. slice_get l k) (sym all) ∙ get_front (passed.sent (client.req_queue c)) (option_to_list asking.next ++ asked_from (made asking) (left asking) (asking.kept.pages ++ [])) k x at

    -- each response brought the buffer of what was asked
    brought : (j : ℕ) (y : Cargo) (a : Ask) → slice_get st.came j ≡ Some y → slice_get script j ≡ Some a → length (page_in y.1) ≡ bit (needs_buffer a.code)
    brought j y a at at' =
        let below = there_below st.came j y at in
        let x = there_is (passed.sent (client.req_queue c)) j (omega (arith, below, st.stands.answered)) in
        let same = turn.brings j x.0 y x.1 (ap (λ l. slice_get l j) came_is ∙ at) in
        let named = named_at 0 script (st.start ++ pages_in st.came) x.0 a j (puts j x.0 x.1) at' in
        page_count y.1 ∙ ap bit (ap is_some same ∙ named)

    made_least : asking.sent ≤ made asking
    made_least = by asking.next
      where
        by : (o : Option Cargo) → asking.sent ≤ and_one asking.sent o
        by None = omega arith
        by (Some x) = omega arith

    abbrev due : List Item
    due = client_requests script (record { number = asking.pool.0; base = 0; buffers = asking.buffers; size = blk_buffer_bytes }) (length (m.taken (client.resp_queue c)))

    -- so many requests can be made, with the buffers that it had and those that came
    due_is : length due ≡ length (asked_from 0 script (st.start ++ pages_in st.came))
    due_is =
        let came = sym (took passed m h (client.resp_queue c)) ∙ ap (λ l. length l) came_is in
        let within = f.asking.within in
        let pages = pages_long script st.came (omega (arith, st.stands.answered, st.stands.sent_many, made_least, within)) brought in
        let parts = length-append st.start (pages_in st.came) in
        ap (λ n. length (asked_items 0 0 (asking.buffers + buffers_for (take n script)) asking.buffers blk_buffer_bytes script)) came
        ∙ asked_long 0 0 0 (asking.buffers + buffers_for (take (length st.came) script)) asking.buffers blk_buffer_bytes script (st.start ++ pages_in st.came) (omega (arith, pages, parts, st.is_start.many))

    total : length (passed.sent (client.req_queue c)) + (length (option_to_list asking.next) + length (asked_from (made asking) (left asking) asking.kept.pages)) ≡ length (asked_from 0 script (st.start ++ pages_in st.came))
    total =
        let asks = ap (λ l. length l) (ap (λ ps. passed.sent (client.req_queue c) ++ (option_to_list asking.next ++ asked_from (made asking) (left asking) ps)) (sym (append-nil asking.kept.pages)) ∙ (st.stands.asks [] ∙ ap (λ ps. asked_from 0 script (st.start ++ ps)) (append-nil (pages_in st.came)))) in
        let parts = length-append (passed.sent (client.req_queue c)) (option_to_list asking.next ++ asked_from (made asking) (left asking) asking.kept.pages) in
        let more = length-append (option_to_list asking.next) (asked_from (made asking) (left asking) asking.kept.pages) in
        omega (arith, asks, parts, more)

    owes_is : client.is_asking c ≡ is_short (m.sent (client.req_queue c)) due
    owes_is = ap (λ o. is_some asking.next && is_none o) free ∙ (and_true (is_some asking.next) ∙ by asking.next refl)
      where
        by : (o : Option Cargo) → asking.next ≡ o → is_some asking.next ≡ is_short (m.sent (client.req_queue c)) due
        by None is =
            let same : made asking ≡ asking.sent = ap (and_one asking.sent) is in
            let none = ap (λ l. length l) (ap (λ n. asked_from n (left asking) asking.kept.pages) same ∙ f.asking.ready is) in
            let nothing = ap (λ o. length (option_to_list o)) is in
            ap is_some is ∙ sym (le-ltb _ _ (omega (arith, total, due_is, none, nothing, put passed m h (client.req_queue c))))
        by (Some x) is =
            let one = ap (λ o. length (option_to_list o)) is in
            ap is_some is ∙ sym (lt-ltb _ _ (omega (arith, total, due_is, one, put passed m h (client.req_queue c))))

    pub client_meets : Meet (end_at w) (blk_client_round c).posts (blk_client_round c).needs ((blk_sheet scene (blk_client_part c)).wants m)
    client_meets = (record { needs = ap is_none free; agrees = f.responses }, (record { needs = owes_is; agrees = f.requests }, tt))
