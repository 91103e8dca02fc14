use Rattle.std.proofs.Common.{◌≡◌, ◌+◌, ◌-◌, ◌++◌, ◌≤◌, ℕ, zero, suc, Bool, true, false, nat_le, if◌then◌else◌, Some, List, [], ◌∷◌, All, length, map, take, drop, slice_get, refl, sym, ap, ap₂, ◌∙◌, subst, arith}
use Rattle.std.proofs.lemmas.Bool.{leb-true}
use Rattle.std.proofs.lemmas.List.{append-nil, length-append, length-drop, length-map, length-take-le, map-append}
use Rattle.cargo_core.specs.Lists.{IsPrefix}
use Rattle.frame_core.specs.declared.mac.Mac.{Mac}
use Rattle.frame_core.specs.Frames.{turned_round}
use Rattle.cargo_core.specs.Pages.{Paged}
use Rattle.wire_core.specs.Deeds.{Cargo}
use Rattle.wire_core.specs.Lists.{Passed}
use Rattle.wire_core.specs.Queues.{items_of}
use Rattle.play_core.specs.Moved.{Moved}
use Rattle.play_core.specs.Sheets.{Scene}
use Rattle.play_core.proofs.Lists.{some_is}
use Rattle.owner_law.specs.Things.{Window}
use Rattle.turn_kit.specs.declared.pipe.Pipe.{Pipe}
use Rattle.pipe_driver.specs.Drivers.{PipesRow}
use Rattle.buffer_kit.specs.declared.stock.Stock.{Stock}
use Rattle.buffer_kit.specs.Entries.{all_filled, frame_of, len_of}
use Rattle.buffer_kit.specs.Pools.{given_entry}
use Rattle.buffer_kit.specs.Stocks.{IsStart}
use Rattle.client_programs.specs.declared.net.program.NetProgram.{NetProgram}
use Rattle.client_programs.specs.declared.net.program.NetProgram.TheVariants as Kind
use Rattle.client_programs.specs.Net.Programs.{program_with, program_of, sent_for, frames_out, answer_to, is_echo}
use Rattle.client_programs.specs.Net.Sending.{SendsFrames}
use Rattle.client_programs.specs.Net.Clients.{ClientRow, rx_active, rx_free, tx_active, tx_free}
use Rattle.client_programs.specs.declared.net.NetClient.{NetClient}
use Rattle.net_copier.specs.Copying.{is_stray, leased_bytes}
use Rattle.owner_law.specs.Pools.Places.{by_offset, numbers_from}
use Rattle.net_law.specs.Owners.Ends.{AreItemsOf}
use Rattle.net_law.proofs.Beginnings.{begins_map}
use Rattle.net_law.specs.Parts.Parts.{Way}
use Rattle.net_law.specs.Parts.Rows.{ServesClient, sent_lens, answer_len, is_answering, sized_items, given_item, given_items}
use Rattle.net_law.specs.Parts.Table.{net_sheet}
use Rattle.net_law.specs.Parts.Playing.{driver_part, client_part, stock_pool, AreLeases, AreWhole, HasBuffers, AnswersWhole}
use Rattle.net_law.proofs.PartsLemmas.Pairs.{carry}

pub all_at : {X : Type 0} (P : X → Type 0) (xs : List X) → All P xs → (k : ℕ) (x : X) → slice_get xs k ≡ Some x → P x
all_at P [] all k x at = cc
all_at P (y ∷ xs) all zero x at = subst P (some_is at) (all 0 y (omega arith))
all_at P (y ∷ xs) all (suc k) x at = all_at P xs (λ j d lt. all (suc j) d (omega (arith, lt))) k x at

pub items_begin : (xs ys : List Cargo) → IsPrefix xs ys → IsPrefix (items_of xs) (items_of ys)
items_begin xs ys h = begins_map (λ (c : Cargo). c.0) xs ys h

pub items_long : (cs : List Cargo) → length (items_of cs) ≡ length cs
items_long cs = length-map cs (λ (c : Cargo). c.0)

-- entries that are filled have the items with those lengths
pub sized_is : (fs : List (List ℕ)) (cs : List Cargo) → items_of (all_filled fs cs) ≡ sized_items (map (λ f. length f) fs) (items_of cs)
sized_is [] cs = refl
sized_is (f ∷ fs) [] = refl
sized_is (f ∷ fs) (c ∷ cs) = ap (λ l. Rattle.buffer_kit.specs.Entries.with_len (length f) c.0 ∷ l) (sized_is fs cs)

pub driver_row : (scene : Scene) (ps : List Pipe) (passed : Passed) (m : Moved) → AreItemsOf (net_sheet scene (driver_part ps)).ends passed m → PipesRow ps passed → (net_sheet scene (driver_part ps)).row m
driver_row scene [] passed m items row k w at = cc
driver_row scene (p ∷ ps) passed m items row zero w at =
    let came : m.taken p.input.queue.0 ≡ items_of (passed.taken p.input.queue.0) = items 0 _ refl in
    let gone : m.sent p.output.queue.0 ≡ items_of (passed.sent p.output.queue.0) = items 1 _ refl in
    let said : IsPrefix (m.sent p.output.queue.0) (m.taken p.input.queue.0) = subst (λ l. IsPrefix l (m.taken p.input.queue.0)) (sym gone) (subst (IsPrefix (items_of (passed.sent p.output.queue.0))) (sym came) (items_begin (passed.sent p.output.queue.0) (passed.taken p.input.queue.0) row.0)) in
    subst (λ (v : Way). IsPrefix (m.sent v.output) (m.taken v.input)) (some_is at) said
driver_row scene (p ∷ ps) passed m items row (suc k) w at = driver_row scene ps passed m (λ i s is. items (suc (suc i)) s is) row.1 k w at

-- leases say how long they are
pub lens_are : (cs : List Cargo) → AreLeases cs → map (λ (f : List ℕ). length f) (map leased_bytes cs) ≡ map len_of (items_of cs)
lens_are [] leases = refl
lens_are (c ∷ cs) leases = ap₂ (λ n l. n ∷ l) (sym (leases 0 c refl).long) (lens_are cs (λ k d at. leases (suc k) d at))

get_last : (xs : List Cargo) (x : Cargo) (ys : List Cargo) → slice_get (xs ++ x ∷ ys) (length xs) ≡ Some x
get_last [] x ys = refl
get_last (z ∷ xs) x ys = get_last xs x ys

-- where all are leases, none strays
pub none_strays : (taken leases stray : List Cargo) → taken ≡ leases ++ stray → All (λ (x : Cargo). is_stray x ≡ true) stray → AreLeases taken → taken ≡ leases
none_strays taken leases [] is out all = is ∙ append-nil leases
none_strays taken leases (x ∷ stray) is out all =
    let lease = all (length leases) x (ap (λ l. slice_get l (length leases)) is ∙ get_last leases x stray) in
    let e : false ≡ true = sym lease.in_turn ∙ out 0 x (omega arith) in
    cc

-- the entries by which a pool's buffers are given have these items
given_are : (w : Window) (pages : List Paged) (first : ℕ) → ((i : ℕ) (p : Paged) → slice_get pages i ≡ Some p → p.no ≡ first + i) → items_of (map (given_entry w.base w.size) pages) ≡ map (given_item w) (numbers_from first (length pages))
given_are w [] first numbered = refl
given_are w (p ∷ pages) first numbered =
    let head : p.no ≡ first = numbered 0 p refl ∙ plus in
    ap₂ (λ n l. given_item w n ∷ l) head (given_are w pages (first + 1) (λ i q at. numbered (suc i) q at ∙ shift i))
  where
    plus : first + 0 ≡ first
    plus = omega arith

    shift : (i : ℕ) → first + suc i ≡ first + 1 + i
    shift i = omega arith

-- a stock's start entries have the items of its window
stock_items : (s : Stock) (pages : List Paged) → s.base ≡ 0 → IsStart s pages → items_of (map (given_entry s.base s.size) pages) ≡ given_items (by_offset (stock_pool s))
stock_items s pages base is =
    let w : Window = by_offset (stock_pool s) in
    ap items_of (ap (λ b. map (given_entry b s.size) pages) base) ∙ (given_are w pages 0 (λ i p at. is.are_pool.numbered i p at ∙ first i) ∙ ap (λ n. map (given_item w) (numbers_from 0 n)) is.many)
  where
    first : (i : ℕ) → i ≡ 0 + i
    first i = omega arith

items_more : (xs ys : List Cargo) → items_of (xs ++ ys) ≡ items_of xs ++ items_of ys
items_more xs ys = map-append (λ (d : Cargo). d.0) xs ys

turned_long : (mac : Mac) (f : List ℕ) → 14 ≤ length f → length (turned_round f mac) ≡ 6 + length mac.0 + (length f - 12)
turned_long mac f le =
    let dropped = length-drop 6 f in
    let first = length-take-le 6 (drop 6 f) (omega (arith, le, dropped)) in
    let last = length-drop 12 f in
    let a = length-append (take 6 (drop 6 f) ++ mac.0) (drop 12 f) in
    let b = length-append (take 6 (drop 6 f)) mac.0 in
    let is : length (turned_round f mac) ≡ length ((take 6 (drop 6 f) ++ mac.0) ++ drop 12 f) = refl in
    omega (arith, le, first, last, a, b, is)

-- an answer is as long as its frame's length tells
pub answer_long : (mac : Mac) (f : List ℕ) → length (answer_to mac f) ≡ answer_len mac (length f)
answer_long mac f = by (nat_le 14 (length f)) refl
  where
    by : (b : Bool) → nat_le 14 (length f) ≡ b → length (if b then turned_round f mac else f) ≡ (if b then 6 + length mac.0 + (length f - 12) else length f)
    by true e = turned_long mac f (leb-true 14 (length f) e)
    by false e = refl

answers_long : (mac : Mac) (cs : List Cargo) → AreWhole cs → map (λ (f : List ℕ). length f) (map (answer_to mac) (map frame_of cs)) ≡ map (λ item. answer_len mac (len_of item)) (items_of cs)
answers_long mac [] whole = refl
answers_long mac (c ∷ cs) whole = ap₂ (λ n l. n ∷ l) (answer_long mac (frame_of c) ∙ ap (answer_len mac) (whole 0 c refl)) (answers_long mac cs (λ k d at. whole (suc k) d at))

-- the frames that a client sends for those that came are as long as their items tell
pub sent_by : (k : NetProgram) (script : List (List ℕ)) (mac : Mac) (came : List Cargo) → (is_echo k ≡ true → AreWhole came) → map (λ (f : List ℕ). length f) (sent_for (program_with k script) mac (map frame_of came)) ≡ sent_lens (program_with k script) mac (items_of came)
sent_by Kind.Sink script mac came h = refl
sent_by Kind.Source script mac came h = refl
sent_by Kind.Echo script mac came h = answers_long mac came (h refl)

pub echo_is : (k : NetProgram) (script : List (List ℕ)) → is_answering (program_with k script) ≡ is_echo k
echo_is Kind.Sink script = refl
echo_is Kind.Source script = refl
echo_is Kind.Echo script = refl

pub client_row : (scene : Scene) (c : NetClient) (passed : Passed) (m : Moved) → HasBuffers c → AnswersWhole c passed → AreItemsOf (net_sheet scene (client_part c)).ends passed m → ClientRow c passed → (net_sheet scene (client_part c)).row m
client_row scene c passed m has whole items row =
    let came = passed.taken (rx_active c) in
    let gave = passed.sent (rx_free c) in
    let back = passed.taken (tx_free c) in
    let put = passed.sent (tx_active c) in
    let rx : Window = by_offset (stock_pool c.stock) in
    let tx : Window = by_offset (stock_pool c.outbox.stock) in
    let first = map (given_entry c.stock.base c.stock.size) row.start in
    let spare = map (given_entry c.outbox.stock.base c.outbox.stock.size) row.spare in
    let all : items_of (first ++ came) ≡ given_items rx ++ items_of came = items_more first came ∙ ap (λ l. l ++ items_of came) (stock_items c.stock row.start has.base row.is_start) in
    let all_spare : items_of (spare ++ back) ≡ given_items tx ++ items_of back = items_more spare back ∙ ap (λ l. l ++ items_of back) (stock_items c.outbox.stock row.spare has.spare_base row.is_spare) in
    let frames = frames_out c.program (map frame_of came) in
    let lens = sent_lens (program_of c.program) c.program.mac (items_of came) in
    let same : map (λ (f : List ℕ). length f) frames ≡ lens = sent_by c.program.kind c.program.script c.program.mac came whole in
    let many : length frames ≡ length lens = sym (length-map frames (λ (f : List ℕ). length f)) ∙ ap length same in
    let spare_long : length spare ≡ c.outbox.stock.buffers = length-map row.spare (given_entry c.outbox.stock.base c.outbox.stock.size) ∙ row.is_spare.many in
    let sent : SendsFrames frames spare back put = row.sends in
    let said : ServesClient (program_of c.program) c.program.mac rx tx (items_of came) (items_of gave) (items_of back) (items_of put) = record {
      sized = row.is_start.are_pool.some;
      spare_sized = row.is_spare.are_pool.some;
      given = subst (IsPrefix (items_of gave)) all (items_begin gave (first ++ came) row.given);
      sends = record {
        filled = subst (IsPrefix (items_of put)) (sized_is frames (spare ++ back) ∙ (ap (sized_items (map (λ f. length f) frames)) all_spare ∙ ap (λ ns. sized_items ns (given_items tx ++ items_of back)) same)) (items_begin put (all_filled frames (spare ++ back)) sent.filled);
        needed = λ some. let n = sent.needed (omega (arith, some, items_long back)) in omega (arith, n, spare_long, items_long back, many);
        none_in_hand = λ some. omega (arith, sent.none_in_hand (omega (arith, some, items_long back)), spare_long, items_long back, items_long put);
      };
      answered = λ echo. omega (arith, row.answered (sym (echo_is c.program.kind c.program.script) ∙ echo), items_long came, items_long put);
    } in
    carry (λ x y z u. ServesClient (program_of c.program) c.program.mac rx tx x y z u) (items_of came) (items_of gave) (items_of back) (items_of put) (m.taken (rx_active c)) (m.sent (rx_free c)) (m.taken (tx_free c)) (m.sent (tx_active c)) (sym (items 0 _ refl)) (sym (items 1 _ refl)) (sym (items 2 _ refl)) (sym (items 3 _ refl)) said
