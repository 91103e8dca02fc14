use Rattle.std.proofs.Common.{◌≡◌, ◌⊎◌, ◌+◌, ◌++◌, ◌<◌, ◌≤◌, ◌&&◌, ◌||◌, ℕ, Bool, true, false, not, nat_lt, Option, Some, None, is_some, is_none, List, [], ◌∷◌, length, map, length-append, refl, sym, ap, ◌∙◌, arith, inl, inr}
use Rattle.std.specs.Option.{option_to_list}
use Rattle.std.proofs.lemmas.Bool.{lt-ltb, le-ltb}
use Rattle.std.proofs.lemmas.List.{length-map}
use Rattle.cargo_core.specs.declared.item.Item.{Item}
use Rattle.wire_core.specs.Deeds.{Cargo}
use Rattle.wire_core.specs.Queues.{Queue, end_at}
use Rattle.wire_core.specs.Lists.{Passed}
use Rattle.play_core.specs.Moved.{Moved}
use Rattle.play_core.specs.Sheets.{Scene}
use Rattle.buffer_kit.specs.Entries.{frame_of}
use Rattle.buffer_kit.specs.Pools.{given_entry}
use Rattle.buffer_kit.specs.Stocks.{stock_list}
use Rattle.buffer_kit.proofs.Filling.{filled_length}
use Rattle.client_programs.specs.declared.net.NetClient.{NetClient}
use Rattle.client_programs.specs.Net.Programs.{program_of, is_echo, frames_out}
use Rattle.client_programs.specs.Net.Sending.{needs_buffer, is_sending, is_through}
use Rattle.client_programs.specs.Net.Clients.{FitsClient, ClientStandsFor, is_giving, needs_frame, client_round, client_owes, client_frames, rx_active, rx_free, tx_active, tx_free}
use Rattle.client_programs.proofs.NetLemmas.Sending.{echo_long}
use Rattle.net_law.specs.Parts.Rows.{sized_items, sent_lens, is_answering, given_item, given_items}
use Rattle.net_law.specs.Parts.Table.{net_sheet}
use Rattle.net_law.specs.Parts.Playing.{client_part, AnswersWhole, stock_pool}
use Rattle.owner_law.specs.Pools.Places.{by_offset, numbers_from}
use Rattle.net_law.proofs.PartsLemmas.Items.{sent_by, echo_is}
use Rattle.net_law.proofs.PartsLemmas.Plain.{numbers_length}
use Rattle.play_core.specs.Rests.Showing.{HaveItems}
use Rattle.play_core.specs.Rests.Meeting.{Meet}
use Rattle.play_core.proofs.RestsLemmas.Settling.{both, took, put}
use Rattle.net_law.proofs.RestsLemmas.Plain.{none_left, some_left}

-- whether a client owes a buffer, and whether it holds one that came, by how many came and went
owing_is : (next load : Option Cargo) (stock gave due : ℕ) → (next ≡ None → stock ≡ 0) → (is_some next ≡ true → 0 < stock) → gave + (stock + length (option_to_list load)) ≡ due → (is_some next || is_some load) ≡ nat_lt gave due
owing_is None None stock gave due none some all = sym (le-ltb gave due (let z = none refl in omega (arith, z, all)))
owing_is None (Some x) stock gave due none some all = sym (lt-ltb gave due (omega (arith, all)))
owing_is (Some y) load stock gave due none some all = sym (lt-ltb gave due (let z = some refl in omega (arith, z, all)))

holding_is : (next load : Option Cargo) (stock gave own came : ℕ) → (next ≡ None → stock ≡ 0) → gave + (stock + length (option_to_list load)) ≡ own + came → length (option_to_list load) ≤ came → (is_some next ≡ true → came ≤ length (option_to_list load)) → is_none load ≡ not (nat_lt 0 came && nat_lt gave (own + came))
holding_is next (Some x) stock gave own came none all some first = rw (lt-ltb 0 came some, lt-ltb gave (own + came) (omega (arith, all))) refl
holding_is None None stock gave own came none all some first =
    let z = none refl in
    rw (le-ltb gave (own + came) (omega (arith, z, all))) (sym (ap not (off (nat_lt 0 came))))
  where
    off : (b : Bool) → (b && false) ≡ false
    off true = refl
    off false = refl
holding_is (Some y) None stock gave own came none all some first = rw (le-ltb 0 came (first refl)) refl

-- as many items are sized as there are lengths, or as there are items
sized_as : (ns : List ℕ) (xs : List Item) → (length (sized_items ns xs) ≤ length ns) × (length (sized_items ns xs) ≤ length xs) × ((length (sized_items ns xs) ≡ length ns) ⊎ (length (sized_items ns xs) ≡ length xs))
sized_as [] xs = (omega arith, omega arith, inl refl)
sized_as (n ∷ ns) [] = (omega arith, omega arith, inr refl)
sized_as (n ∷ ns) (x ∷ xs) = let rest = sized_as ns xs in (omega (arith, rest.0), omega (arith, rest.1), either rest.2)
  where
    either : ((length (sized_items ns xs) ≡ length ns) ⊎ (length (sized_items ns xs) ≡ length xs)) → (length (sized_items (n ∷ ns) (x ∷ xs)) ≡ length (n ∷ ns)) ⊎ (length (sized_items (n ∷ ns) (x ∷ xs)) ≡ length (x ∷ xs))
    either (inl e) = inl (omega (arith, e))
    either (inr e) = inr (omega (arith, e))

-- a frame is still to be answered where fewer were put than came
unanswered : (load : Option Cargo) (next frames put : ℕ) → put + length (option_to_list load) ≡ next → next ≤ frames → not (is_none load && not (nat_lt next frames)) ≡ nat_lt put frames
unanswered None next frames put sum few = twice (nat_lt next frames) ∙ ap (λ n. nat_lt n frames) same
  where
    same : next ≡ put
    same = omega (arith, sum)

    twice : (b : Bool) → not (not b) ≡ b
    twice true = refl
    twice false = refl
unanswered (Some x) next frames put sum few = sym (lt-ltb put frames (omega (arith, sum, few)))

-- a buffer is needed where more frames are to be sent than were put, and all buffers were put
needed_is : (load ready : Option Cargo) (next stock frames put had : ℕ) → put + length (option_to_list load) ≡ next → had ≡ next + stock → next ≤ frames → (ready ≡ None → stock ≡ 0) → (is_some ready ≡ true → 0 < stock) → (is_none load && (is_none ready && nat_lt next frames)) ≡ (nat_lt put frames && not (nat_lt put had))
needed_is (Some x) ready next stock frames put had sum all few none some = rw (lt-ltb put had (omega (arith, sum, all))) (off (nat_lt put frames))
  where
    off : (b : Bool) → false ≡ (b && false)
    off true = refl
    off false = refl
needed_is None (Some y) next stock frames put had sum all few none some = rw (lt-ltb put had (let z = some refl in omega (arith, z, sum, all))) (off (nat_lt put frames))
  where
    off : (b : Bool) → false ≡ (b && false)
    off true = refl
    off false = refl
needed_is None None next stock frames put had sum all few none some =
    rw (le-ltb put had (let z = none refl in omega (arith, z, sum, all))) (on (nat_lt next frames) (nat_lt put frames) (ap (λ n. nat_lt n frames) same))
  where
    same : next ≡ put
    same = omega (arith, sum)

    on : (a b : Bool) → a ≡ b → a ≡ (b && true)
    on true true e = refl
    on true false e = cc
    on false true e = cc
    on false false e = refl

-- something is to be put where fewer were put than frames are to be sent, and than buffers came
sending_is : (load ready : Option Cargo) (next stock frames put had least : ℕ) → put + length (option_to_list load) ≡ next → had ≡ next + stock → next ≤ frames → (ready ≡ None → stock ≡ 0) → (is_some ready ≡ true → 0 < stock) → least ≤ frames → least ≤ had → (least ≡ frames) ⊎ (least ≡ had) → (is_some load || (is_some ready && nat_lt next frames)) ≡ nat_lt put least
sending_is (Some x) ready next stock frames put had least sum all few none some a b (inl e) = sym (lt-ltb put least (omega (arith, sum, few, e)))
sending_is (Some x) ready next stock frames put had least sum all few none some a b (inr e) = sym (lt-ltb put least (omega (arith, sum, all, e)))
sending_is None None next stock frames put had least sum all few none some a b either = sym (le-ltb put least (let z = none refl in omega (arith, z, sum, all, b)))
sending_is None (Some y) next stock frames put had least sum all few none some a b (inl e) = ap (λ n. nat_lt n frames) same ∙ ap (nat_lt put) (sym e)
  where
    same : next ≡ put
    same = omega (arith, sum)
sending_is None (Some y) next stock frames put had least sum all few none some a b (inr e) =
    let z = some refl in
    lt-ltb next frames (omega (arith, z, sum, all, e, a)) ∙ sym (lt-ltb put least (omega (arith, z, sum, all, e)))

-- a client needs and owes what its sheet says of its items
module _ (scene : Scene) (w : List Queue) (passed : Passed) (m : Moved) (h : HaveItems passed m) where
  pub client_meets : (c : NetClient) → AnswersWhole c passed → FitsClient (end_at w) c → ClientStandsFor c passed → Meet (end_at w) (client_round c).posts (client_round c).needs ((net_sheet scene (client_part c)).wants m)
  client_meets c whole f st =
      let load = c.frames.pipe.load in
      let n = length (m.sent (rx_free c)) in
      let t = length (m.taken (rx_active c)) in
      let q = length (stock_list c.stock) in
      let all = ap (λ l. length l) st.given in
      let gone = length-append (passed.sent (rx_free c)) (client_owes c) in
      let owes = length-append (stock_list c.stock) (option_to_list load) in
      let come = length-append (map (given_entry c.stock.base c.stock.size) st.start) (passed.taken (rx_active c)) in
      let own = length-map st.start (given_entry c.stock.base c.stock.size) in
      let came_is = took passed m h (rx_active c) in
      let sum : n + (q + length (option_to_list load)) ≡ c.stock.buffers + t = omega (arith, all, gone, owes, come, own, st.is_start.many, came_is, put passed m h (rx_free c)) in
      let gives : is_giving c ≡ nat_lt n (c.stock.buffers + t) = owing_is c.stock.next load q n (c.stock.buffers + t) (none_left c.stock f.stock) (some_left c.stock) sum in
      let holds : is_none load ≡ not (nat_lt 0 t && nat_lt n (c.stock.buffers + t)) = holding_is c.stock.next load q n c.stock.buffers t (none_left c.stock f.stock) sum (omega (arith, st.came_in, came_is)) (λ some. let few = st.first some in omega (arith, few, came_is)) in
      let o = c.outbox in
      let fs = client_frames c in
      let p = length (m.sent (tx_active c)) in
      let b = length (m.taken (tx_free c)) in
      let s = st.sends in
      let sq = length (stock_list o.stock) in
      let where_ = sent_lens (program_of c.program) c.program.mac (m.taken (rx_active c)) in
      let got_long : length c.frames.tape.shown ≡ t = ap (λ l. length l) st.got ∙ (length-map (passed.taken (rx_active c)) frame_of ∙ came_is) in
      let lens : map (λ (frame : List ℕ). length frame) fs ≡ where_ = ap (λ l. map (λ (frame : List ℕ). length frame) (frames_out c.program l)) st.got ∙ (sent_by c.program.kind c.program.script c.program.mac (passed.taken (rx_active c)) whole ∙ ap (sent_lens (program_of c.program) c.program.mac) (h.taken (rx_active c))) in
      let long : length where_ ≡ length fs = ap (λ l. length l) (sym lens) ∙ length-map fs (λ (frame : List ℕ). length frame) in
      let put_is = put passed m h (tx_active c) in
      let filled = ap (λ l. length l) s.filled ∙ filled_length fs s.used (omega (arith, s.many, s.few)) in
      let parts = length-append (passed.sent (tx_active c)) (option_to_list o.load) in
      let sent : p + length (option_to_list o.load) ≡ o.next = omega (arith, filled, parts, put_is, s.many) in
      let had_all = ap (λ l. length l) s.had in
      let had_parts = length-append (map (given_entry o.stock.base o.stock.size) s.start) (passed.taken (tx_free c)) in
      let had_own = length-map s.start (given_entry o.stock.base o.stock.size) in
      let rest = length-append s.used (stock_list o.stock) in
      let had : o.stock.buffers + b ≡ o.next + sq = omega (arith, had_all, had_parts, had_own, rest, s.many, s.is_start.many, took passed m h (tx_free c)) in
      let w_tx = by_offset (stock_pool o.stock) in
      let items = given_items w_tx ++ m.taken (tx_free c) in
      let made : length (given_items w_tx) ≡ length (numbers_from 0 o.stock.buffers) = length-map (numbers_from 0 o.stock.buffers) (given_item w_tx) in
      let items_long : length items ≡ o.stock.buffers + b = omega (arith, length-append (given_items w_tx) (m.taken (tx_free c)), made, numbers_length 0 o.stock.buffers) in
      let ns = where_ in
      let ns_long : length ns ≡ length fs = long in
      let least = sized_as ns items in
      let buffer : needs_buffer o (length fs) ≡ (nat_lt p (length where_) && not (nat_lt p (o.stock.buffers + b))) =
      needed_is o.load o.stock.next o.next sq (length fs) p (o.stock.buffers + b) sent had s.few (none_left o.stock f.outbox.stock) (some_left o.stock) ∙ ap (λ k. nat_lt p k && not (nat_lt p (o.stock.buffers + b))) (sym long) in
      let sends : is_sending o (length fs) ≡ nat_lt p (length (sized_items ns items)) =
      sending_is o.load o.stock.next o.next sq (length fs) p (o.stock.buffers + b) (length (sized_items ns items)) sent had s.few (none_left o.stock f.outbox.stock) (some_left o.stock) (omega (arith, least.0, ns_long)) (omega (arith, least.1, items_long)) (either (length (sized_items ns items)) (length ns) (length items) (length fs) (o.stock.buffers + b) ns_long items_long least.2) in
      let frame : needs_frame c ≡ (not (nat_lt 0 t && nat_lt n (c.stock.buffers + t)) && not (is_answering (program_of c.program) && nat_lt p t)) =
      both holds (ap not (echo_by (is_echo c.program.kind) (is_answering (program_of c.program)) (not (is_through o (length fs))) (nat_lt p t) (sym (echo_is c.program.kind c.program.script)) (λ echo. unanswered o.load o.next (length fs) p sent s.few ∙ ap (nat_lt p) (echo_long c.program c.frames.tape.shown echo ∙ got_long)))) in (
        record { needs = frame; agrees = f.frames.input },
        (
          record { needs = gives; agrees = f.frames.output },
          (record { needs = buffer; agrees = f.sent }, (record { needs = sends; agrees = f.send }, tt)),
        ),
      )
    where
      either : (k a b x y : ℕ) → a ≡ x → b ≡ y → (k ≡ a) ⊎ (k ≡ b) → (k ≡ x) ⊎ (k ≡ y)
      either k a b x y e g (inl i) = inl (i ∙ e)
      either k a b x y e g (inr i) = inr (i ∙ g)

      echo_by : (a b x y : Bool) → a ≡ b → (a ≡ true → x ≡ y) → (a && x) ≡ (b && y)
      echo_by true b x y e g = let r = g refl in cc
      echo_by false b x y e g = cc
