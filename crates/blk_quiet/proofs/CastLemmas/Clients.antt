-- What comes back to a client answers its requests, each with its buffer; and what it puts then.
use Rattle.std.proofs.Common.{◌≡◌, ◌+◌, ◌*◌, ◌++◌, ◌&&◌, ◌<◌, ◌≤◌, ℕ, zero, suc, Bool, true, false, not, nat_le, cond, Option, Some, List, [], ◌∷◌, length, map, drop, slice_get, refl, sym, ap, ◌∙◌, subst, arith, eq-eqb, lt-ltb}
use Rattle.std.specs.List.{filter}
use Rattle.std.proofs.lemmas.Bool.{leb-true}
use Rattle.std.proofs.lemmas.List.{length-append}
use Rattle.cargo_core.specs.Blocks.{blk_buffer_bytes}
use Rattle.cargo_core.specs.Lists.{replaced}
use Rattle.cargo_core.specs.Pages.{Paged}
use Rattle.cargo_core.specs.declared.item.Ask.{Ask}
use Rattle.cargo_core.specs.declared.item.Body.{Body}
use Rattle.cargo_core.specs.declared.item.Body.TheVariants as Carried
use Rattle.cargo_core.specs.declared.item.Code.{Code}
use Rattle.cargo_core.specs.declared.item.PoolId.{PoolId}
use Rattle.cargo_core.specs.declared.item.Code.TheVariants as Asked
use Rattle.wire_core.specs.declared.names.QueueId.{QueueId}
use Rattle.wire_core.specs.Deeds.{Cargo}
use Rattle.wire_core.specs.Lists.{Passed}
use Rattle.play_core.proofs.Lists.{some_is, map_get, there_is, there_below}
use Rattle.play_core.proofs.Walks.{begins_few}
use Rattle.buffer_kit.specs.Virtualising.{from_queues, to_queues}
use Rattle.owner_law.specs.Pools.Places.{PoolAt}
use Rattle.net_law.proofs.PartsLemmas.Leasing.{prefix_get}
use Rattle.blk_mbr.specs.declared.part.Part.{Part}
use Rattle.device_model.specs.Disk.Serving.{answer_to}
use Rattle.client_programs.specs.Blk.Asking.{needs_buffer, page_for, asked_in, asked_bare, asked_from, pages_in}
use Rattle.client_programs.specs.Blk.Clients.{BlkClientRow, req_queue, resp_queue}
use Rattle.client_programs.specs.declared.blk.BlkClient.{BlkClient}
use Rattle.blk_virt.specs.Desks.{holders}
use Rattle.blk_virt.specs.Requests.{for_disk, goes_on, is_at, is_own, moves_blocks, numbered, page_named, passed_on, refusal, request_of}
use Rattle.blk_virt.specs.Serving.{AllBring, answers_to, own_of, own_back, unnumbered}
use Rattle.blk_virt.specs.declared.requests.Holder.{Holder}
use Rattle.blk_virt.specs.declared.requests.PageName.{PageName}
use Rattle.net_law.proofs.PartsLemmas.Turning.{replaced_long}
use Rattle.blk_law.proofs.SheetsLemmas.Items.{number_kept}
use Rattle.blk_law.specs.Sheets.Numbers.{BlkPlace, IsBlkClientOf}
use Rattle.blk_quiet.specs.Cast.Casting.{AreRequests, IsBlkCast, IsAskingClient, IsOfPool, IsRequest, IsWhole, holder_of}
use Rattle.blk_quiet.proofs.CastLemmas.Numbers.{client_queues, client_pool}
use Rattle.blk_quiet.proofs.CastLemmas.Answers.{answer_named, answer_whole}
use Rattle.blk_quiet.proofs.CastLemmas.Turning.{drop_get, parts, response_at, served, shares_at, shared}

-- a body has the buffer of another, as long as that
abbrev IsLike : Body → Body → Type 0
IsLike a b = (page_named b ≡ page_named a) × (IsWhole a → IsWhole b)

like_same : (x y z w : Cargo) → z ≡ x → w ≡ y → IsLike z.1 w.1 → IsLike x.1 y.1
like_same x y z w e f l = subst (λ (c : Cargo). IsLike x.1 c.1) f (subst (λ (c : Cargo). IsLike c.1 w.1) e l)

like_self : (x y z : Cargo) (b : Cargo) → z ≡ x → b ≡ y → b.1 ≡ z.1 → IsLike x.1 y.1
like_self x y z b e f g = like_same x y z b e f (ap page_named g, λ whole. subst IsWhole (sym g) whole)

-- each of these responses has the buffer of the request of its place
abbrev pub AreLike : List Cargo → List Cargo → Type 0
AreLike xs ys = (k : ℕ) (x y : Cargo) → slice_get xs k ≡ Some x → slice_get ys k ≡ Some y → IsLike x.1 y.1

-- so have those to one client's requests
own_like : (h : Holder) (sent back : List Cargo) → AreLike sent back → AreLike (own_of h sent) (own_back h sent back)
own_like h [] back named k x y at bt = cc
own_like h (z ∷ sent) [] named k x y at bt = cc
own_like h (z ∷ sent) (w ∷ back) named k x y at bt = by (is_at h z) k at bt (λ n a b. own_like h sent back (λ i c d c_at d_at. named (suc i) c d c_at d_at) n x y a b)
  where
    by : (t : Bool) (n : ℕ) → slice_get (cond t (z ∷ own_of h sent) (own_of h sent)) n ≡ Some x → slice_get (cond t (w ∷ own_back h sent back) (own_back h sent back)) n ≡ Some y → ((i : ℕ) → slice_get (own_of h sent) i ≡ Some x → slice_get (own_back h sent back) i ≡ Some y → IsLike x.1 y.1) → IsLike x.1 y.1
    by true zero a b rest = like_same x y z w (some_is a) (some_is b) (named 0 z w refl refl)
    by true (suc n) a b rest = rest n a b
    by false n a b rest = rest n a b

own_few : (h : Holder) (sent back : List Cargo) → length (own_back h sent back) ≤ length (own_of h sent)
own_few h [] back = omega arith
own_few h (z ∷ sent) [] = omega arith
own_few h (z ∷ sent) (w ∷ back) = by (is_at h z) (own_few h sent back)
  where
    by : (t : Bool) → length (own_back h sent back) ≤ length (own_of h sent) → length (cond t (w ∷ own_back h sent back) (own_back h sent back)) ≤ length (cond t (z ∷ own_of h sent) (own_of h sent))
    by true le = omega (arith, le)
    by false le = le

-- and so has each answer to a client
answers_like : (h : Holder) (part : Option Part) (xs back : List Cargo) → AreLike (filter (goes_on h part) xs) back → AreLike xs (answers_to h part xs back)
answers_like h part [] back named k x y at bt = cc
answers_like h part (z ∷ xs) [] named k x y at bt = by (goes_on h part z) k at bt (λ n a b. answers_like h part xs [] (λ i c d c_at d_at. cc) n x y a b)
  where
    by : (t : Bool) (n : ℕ) → slice_get (z ∷ xs) n ≡ Some x → slice_get (cond t [] (refusal h part z ∷ answers_to h part xs [])) n ≡ Some y → ((i : ℕ) → slice_get xs i ≡ Some x → slice_get (answers_to h part xs []) i ≡ Some y → IsLike x.1 y.1) → IsLike x.1 y.1
    by true n a b rest = absurd cc
    by false zero a b rest = like_self x y z (refusal h part z) (some_is a) (some_is b) refl
    by false (suc n) a b rest = rest n a b
answers_like h part (z ∷ xs) (w ∷ back) named k x y at bt = by (goes_on h part z) refl k at bt (λ e n a b. answers_like h part xs back (λ i c d c_at d_at. named (suc i) c d (ap (λ t. slice_get (cond t (z ∷ filter (goes_on h part) xs) (filter (goes_on h part) xs)) (suc i)) e ∙ c_at) d_at) n x y a b) (λ e n a b. answers_like h part xs (w ∷ back) (λ i c d c_at d_at. named i c d (ap (λ t. slice_get (cond t (z ∷ filter (goes_on h part) xs) (filter (goes_on h part) xs)) i) e ∙ c_at) d_at) n x y a b)
  where
    by : (t : Bool) → goes_on h part z ≡ t → (n : ℕ) → slice_get (z ∷ xs) n ≡ Some x → slice_get (cond t (passed_on (request_of z.0).id w ∷ answers_to h part xs back) (refusal h part z ∷ answers_to h part xs (w ∷ back))) n ≡ Some y
        → (goes_on h part z ≡ true → (i : ℕ) → slice_get xs i ≡ Some x → slice_get (answers_to h part xs back) i ≡ Some y → IsLike x.1 y.1)
        → (goes_on h part z ≡ false → (i : ℕ) → slice_get xs i ≡ Some x → slice_get (answers_to h part xs (w ∷ back)) i ≡ Some y → IsLike x.1 y.1) → IsLike x.1 y.1
    by true e zero a b on off =
        let first : slice_get (filter (goes_on h part) (z ∷ xs)) 0 ≡ Some z = ap (λ t. slice_get (cond t (z ∷ filter (goes_on h part) xs) (filter (goes_on h part) xs)) 0) e in
        like_same x y z (passed_on (request_of z.0).id w) (some_is a) (some_is b) (named 0 z w first refl)
    by true e (suc n) a b on off = on e n a b
    by false e zero a b on off = like_self x y z (refusal h part z) (some_is a) (some_is b) refl
    by false e (suc n) a b on off = off e n a b

gave_few : (xs ys : List Cargo) → AllBring xs ys → length ys ≤ length xs
gave_few xs [] h = omega arith
gave_few [] (y ∷ ys) h = absurd h
gave_few (x ∷ xs) (y ∷ ys) h = let rest = gave_few xs ys h.1 in omega (arith, rest)

-- a buffer of a pool
abbrev IsBuffer : PoolAt → Paged → Type 0
IsBuffer pool p = (p.pool.0 ≡ pool.number) × (p.no < pool.buffers) × (8 * 4096 ≤ length p.bytes)

of_pool : (pool : PoolAt) (a b : Body) → page_named b ≡ page_named a → IsOfPool pool a → IsOfPool pool b
of_pool pool (Carried.Page p) (Carried.Page q) e is =
    let same = some_is e in
    (ap (λ (n : PageName). n.pool.0) same ∙ is.0, subst (λ n. n < pool.buffers) (sym (ap (λ (n : PageName). n.no) same)) is.1)
of_pool pool (Carried.Lease p) (Carried.Page q) e is = absurd cc
of_pool pool Carried.Empty (Carried.Page q) e is = absurd cc
of_pool pool a (Carried.Lease q) e is = tt
of_pool pool a Carried.Empty e is = tt

pages_buffers : (pool : PoolAt) (ys : List Cargo) → ((i : ℕ) (y : Cargo) → slice_get ys i ≡ Some y → IsOfPool pool y.1 × IsWhole y.1) → (j : ℕ) (p : Paged) → slice_get (pages_in ys) j ≡ Some p → IsBuffer pool p
pages_buffers pool [] each j p at = cc
pages_buffers pool ((item, Carried.Page q) ∷ ys) each zero p at = let is = each 0 (item, Carried.Page q) refl in subst (IsBuffer pool) (some_is at) (is.0.0, is.0.1, is.1)
pages_buffers pool ((item, Carried.Page q) ∷ ys) each (suc j) p at = pages_buffers pool ys (λ i y y_at. each (suc i) y y_at) j p at
pages_buffers pool ((item, Carried.Lease q) ∷ ys) each j p at = pages_buffers pool ys (λ i y y_at. each (suc i) y y_at) j p at
pages_buffers pool ((item, Carried.Empty) ∷ ys) each j p at = pages_buffers pool ys (λ i y y_at. each (suc i) y y_at) j p at

both_buffers : (pool : PoolAt) (ps qs : List Paged) → ((i : ℕ) (p : Paged) → slice_get ps i ≡ Some p → IsBuffer pool p) → ((i : ℕ) (p : Paged) → slice_get qs i ≡ Some p → IsBuffer pool p) → (i : ℕ) (p : Paged) → slice_get (ps ++ qs) i ≡ Some p → IsBuffer pool p
both_buffers pool [] qs one two i p at = two i p at
both_buffers pool (x ∷ ps) qs one two zero p at = one 0 p at
both_buffers pool (x ∷ ps) qs one two (suc i) p at = both_buffers pool ps qs (λ j q q_at. one (suc j) q q_at) two i p at

-- a buffer that a request takes is the same one
page_buffer : (pool : PoolAt) (code : Code) (bytes : List ℕ) (p : Paged) → IsBuffer pool p → IsBuffer pool (page_for code bytes p)
page_buffer pool Asked.Write bytes p is = by (nat_le (length bytes) (length p.bytes)) refl
  where
    by : (t : Bool) → nat_le (length bytes) (length p.bytes) ≡ t → IsBuffer pool (cond t (record { pool = p.pool; no = p.no; bytes = replaced p.bytes 0 bytes }) p)
    by true e = (is.0, is.1, (let long = replaced_long bytes p.bytes (leb-true (length bytes) (length p.bytes) e) in let room = is.2 in omega (arith, long, room)))
    by false e = is
page_buffer pool Asked.Read bytes p is = is
page_buffer pool Asked.Flush bytes p is = is
page_buffer pool Asked.Barrier bytes p is = is

-- requests in a pool's buffers
in_request : (pool : PoolAt) (a : Ask) (id : ℕ) (p : Paged) → IsBuffer pool p → IsRequest pool (asked_in a id p)
in_request pool a id p is =
    let q = page_for a.code a.fill p in
    let b = page_buffer pool a.code a.fill p is in
    let same = number_kept a.code a.fill p in
    let own : is_own (holder_of pool) (asked_in a id p) ≡ true = rw (eq-eqb q.pool.0 pool.number b.0, lt-ltb q.no pool.buffers b.1, eq-eqb (p.no * blk_buffer_bytes) (q.no * blk_buffer_bytes) (omega (arith, same))) refl in
    record { good = ap (λ t. moves_blocks a.code && not t) own ∙ and_no (moves_blocks a.code); whole = b.2; own = (b.0, b.1) }
  where
    and_no : (t : Bool) → (t && not true) ≡ false
    and_no true = refl
    and_no false = refl

bare_request : (pool : PoolAt) (a : Ask) (id : ℕ) → needs_buffer a.code ≡ false → IsRequest pool (asked_bare a id)
bare_request pool a id none = record { good = ap (λ t. t && true) (moves_same a.code ∙ none); whole = tt; own = tt }
  where
    moves_same : (code : Code) → moves_blocks code ≡ needs_buffer code
    moves_same Asked.Read = refl
    moves_same Asked.Write = refl
    moves_same Asked.Flush = refl
    moves_same Asked.Barrier = refl

asked_requests : (pool : PoolAt) (id : ℕ) (asks : List Ask) (pages : List Paged) → ((i : ℕ) (p : Paged) → slice_get pages i ≡ Some p → IsBuffer pool p) → (j : ℕ) (x : Cargo) → slice_get (asked_from id asks pages) j ≡ Some x → IsRequest pool x
asked_requests pool id [] pages each j x at = cc
asked_requests pool id (a ∷ asks) [] each j x at = by (needs_buffer a.code) refl j at (λ i h. asked_requests pool (id + 1) asks [] each i x h)
  where
    by : (t : Bool) → needs_buffer a.code ≡ t → (i : ℕ) → slice_get (cond t [] (asked_bare a id ∷ asked_from (id + 1) asks [])) i ≡ Some x → ((n : ℕ) → slice_get (asked_from (id + 1) asks []) n ≡ Some x → IsRequest pool x) → IsRequest pool x
    by true e i h rest = absurd cc
    by false e zero h rest = subst (IsRequest pool) (some_is h) (bare_request pool a id e)
    by false e (suc i) h rest = rest i h
asked_requests pool id (a ∷ asks) (p ∷ pages) each j x at = by (needs_buffer a.code) refl j at (λ i h. asked_requests pool (id + 1) asks pages (λ n q q_at. each (suc n) q q_at) i x h) (λ i h. asked_requests pool (id + 1) asks (p ∷ pages) each i x h)
  where
    by : (t : Bool) → needs_buffer a.code ≡ t → (i : ℕ) → slice_get (cond t (asked_in a id p ∷ asked_from (id + 1) asks pages) (asked_bare a id ∷ asked_from (id + 1) asks (p ∷ pages))) i ≡ Some x → ((n : ℕ) → slice_get (asked_from (id + 1) asks pages) n ≡ Some x → IsRequest pool x) → ((n : ℕ) → slice_get (asked_from (id + 1) asks (p ∷ pages)) n ≡ Some x → IsRequest pool x) → IsRequest pool x
    by true e zero h rest bare = subst (IsRequest pool) (some_is h) (in_request pool a id p (each 0 p refl))
    by true e (suc i) h rest bare = rest i h
    by false e zero h rest bare = subst (IsRequest pool) (some_is h) (bare_request pool a id e)
    by false e (suc i) h rest bare = bare i h

module _ (place : BlkPlace) (passed : Passed) (h : IsBlkCast place passed) where
  -- the virtualiser's client of a number
  place_of : (k entry : ℕ) (asks : List Ask) (pool : PoolAt) → IsBlkClientOf place k entry asks pool → (g : Holder) × (q : QueueId) × (r : QueueId) × (slice_get (holders h.virt.work.desk) k ≡ Some g) × (slice_get (from_queues h.virt.ends) k ≡ Some q) × (slice_get (to_queues h.virt.ends) k ≡ Some r) × (q.0 ≡ place.first + 4 + 2 * k) × (r.0 ≡ place.first + 5 + 2 * k)
  place_of k entry asks pool of =
      let below = there_below place.entries k entry of.has_entry in
      let many = (shared place passed h).0 in
      let from_each = h.from_each in
      let to_each = h.to_each in
      let g = there_is (holders h.virt.work.desk) k (omega (arith, below, many)) in
      let q = there_is (from_queues h.virt.ends) k (omega (arith, below, many, from_each)) in
      let r = there_is (to_queues h.virt.ends) k (omega (arith, below, many, to_each)) in
      let s = shares_at place passed h k g.0 q.0 r.0 g.1 q.1 r.1 in
      (g.0, q.0, r.0, g.1, q.1, r.1, s.4.2, s.4.3)

  -- a response behind the first has the buffer of its request
  later_like : AreLike (drop 1 (passed.sent h.virt.ends.output.queue.0)) (drop 1 h.virt_row.back)
  later_like k x y at bt =
      let b : slice_get h.virt_row.back (suc k) ≡ Some y = sym (drop_get h.virt_row.back k) ∙ bt in
      let t : slice_get (passed.taken h.virt.ends.input.queue.0) (suc k) ≡ Some y = prefix_get h.virt_row.back (passed.taken h.virt.ends.input.queue.0) (h.virt_row.stray, sym h.virt_row.taken) (suc k) y b in
      let r = response_at place passed h (suc k) y t in
      let same : r.0 ≡ x = some_is (sym r.2 ∙ (sym (drop_get (passed.sent h.virt.ends.output.queue.0) k) ∙ at)) in
      like_same x y r.0 (answer_to r.1 r.0) same r.3 (answer_named r.1 r.0, answer_whole r.1 r.0)

  module _ (k entry : ℕ) (asks : List Ask) (pool : PoolAt) (of : IsBlkClientOf place k entry asks pool) where
    abbrev req_at : ℕ
    req_at = place.first + 4 + 2 * k

    abbrev resp_at : ℕ
    resp_at = place.first + 5 + 2 * k

    -- what comes back to a client has the buffers of its requests
    pub client_like : AreLike (passed.sent req_at) (passed.taken resp_at)
    client_like j x y at bt =
        let s = place_of k entry asks pool of in
        let g = s.0 in
        let part = parts place passed h g.partition in
        let serves = served place passed h k g s.1 s.2 s.3 s.4 s.5 in
        let came = passed.taken s.1.0 in
        let sent = drop 1 (passed.sent h.virt.ends.output.queue.0) in
        let back = drop 1 h.virt_row.back in
        let given : slice_get (passed.sent s.2.0) j ≡ Some y = ap (λ n. slice_get (passed.sent n) j) s.7 ∙ prefix_get (passed.taken resp_at) (passed.sent resp_at) (h.hands_over resp_at) j y bt in
        let answer = prefix_get (passed.sent s.2.0) (answers_to g part came (own_back g sent back)) serves.answers j y given in
        let few = begins_few (passed.sent s.2.0) (answers_to g part came (own_back g sent back)) serves.answers in
        let below = there_below (passed.sent s.2.0) j y given in
        let many = gave_few came (passed.sent s.2.0) serves.buffers in
        let z = there_is came j (omega (arith, below, many)) in
        let put : slice_get (passed.sent req_at) j ≡ Some z.0 = ap (λ n. slice_get (passed.sent n) j) (sym s.6) ∙ prefix_get came (passed.sent s.1.0) (h.hands_over s.1.0) j z.0 z.1 in
        let same : z.0 ≡ x = some_is (sym put ∙ at) in
        let goes : AreLike (filter (goes_on g part) came) (own_back g sent back) = λ i a b a_at b_at.
        let i_below = there_below (own_back g sent back) i b b_at in
        let own_many = own_few g sent back in
        let own = there_is (own_of g sent) i (omega (arith, i_below, own_many)) in
        let bare : slice_get (unnumbered (own_of g sent)) i ≡ Some (numbered 0 own.0) = map_get (numbered 0) (own_of g sent) i own.0 own.1 in
        let disk = prefix_get (unnumbered (own_of g sent)) (map (for_disk g part) (filter (goes_on g part) came)) serves.sends i (numbered 0 own.0) bare in
        let here : for_disk g part a ≡ numbered 0 own.0 = some_is (sym (map_get (for_disk g part) (filter (goes_on g part) came) i a a_at) ∙ disk) in
        let body : own.0.1 ≡ a.1 = ap (λ (c : Cargo). c.1) (sym here) in
        subst (λ (e : Body). IsLike e b.1) body (own_like g sent back later_like i own.0 b own.1 b_at) in
        like_same x y z.0 y same refl (answers_like g part came (own_back g sent back) goes j z.0 y z.1 answer)

    -- no more comes back than it put
    pub client_few : length (passed.taken resp_at) ≤ length (passed.sent req_at)
    client_few =
        let s = place_of k entry asks pool of in
        let serves = served place passed h k s.0 s.1 s.2 s.3 s.4 s.5 in
        let a = begins_few (passed.taken resp_at) (passed.sent resp_at) (h.hands_over resp_at) in
        let b = gave_few (passed.taken s.1.0) (passed.sent s.2.0) serves.buffers in
        let c = begins_few (passed.taken s.1.0) (passed.sent s.1.0) (h.hands_over s.1.0) in
        let d = ap (λ n. length (passed.sent n)) s.7 in
        let e = ap (λ n. length (passed.sent n)) s.6 in
        omega (arith, a, b, c, d, e)

    pub client_none : (c : BlkClient) → IsAskingClient place k asks pool c passed → (came stray : List Cargo) → passed.taken (resp_queue c) ≡ came ++ stray → ((stray ≡ [] → ⊥) → length (passed.sent (req_queue c)) ≤ length came) → stray ≡ []
    client_none c is came [] whole out = refl
    client_none c is came (x ∷ xs) whole out =
        let own = client_queues place.first k asks pool c is.part in
        let low = out (λ none. absurd cc) in
        let all = ap length whole in
        let parts_long = length-append came (x ∷ xs) in
        let few = client_few in
        let a = ap (λ n. length (passed.taken n)) own.1 in
        let b = ap (λ n. length (passed.sent n)) own.0 in
        absurd (omega (arith, low, all, parts_long, few, a, b))

    pub client_in_turn : (c : BlkClient) → IsAskingClient place k asks pool c passed → (row : BlkClientRow c passed) → row.stray ≡ []
    client_in_turn c is row = client_none c is row.came row.stray row.taken row.out_of_turn

    -- and its own buffers, as long as they were
    pub back_own : AreRequests pool (passed.sent req_at) → (j : ℕ) (y : Cargo) → slice_get (passed.taken resp_at) j ≡ Some y → IsOfPool pool y.1 × IsWhole y.1
    back_own ask j y at =
        let below = there_below (passed.taken resp_at) j y at in
        let few = client_few in
        let x = there_is (passed.sent req_at) j (omega (arith, below, few)) in
        let is = ask j x.0 x.1 in
        let like = client_like j x.0 y x.1 at in
        (of_pool pool x.0.1 y.1 like.0 is.own, like.1 is.whole)

    -- where such came back it puts requests in them alone
    pub client_puts : (c : BlkClient) → IsAskingClient place k asks pool c passed → ((j : ℕ) (y : Cargo) → slice_get (passed.taken resp_at) j ≡ Some y → IsOfPool pool y.1 × IsWhole y.1) → AreRequests pool (passed.sent req_at)
    client_puts c is back j x at =
        let own = client_queues place.first k asks pool c is.part in
        let row = is.row in
        let many = client_pool place.first k asks pool c is.part in
        let came : (i : ℕ) (y : Cargo) → slice_get row.came i ≡ Some y → IsOfPool pool y.1 × IsWhole y.1 = λ i y y_at. back i y (ap (λ n. slice_get (passed.taken n) i) (sym own.1) ∙ prefix_get row.came (passed.taken (resp_queue c)) (row.stray, sym row.taken) i y y_at) in
        let start : (i : ℕ) (p : Paged) → slice_get row.start i ≡ Some p → IsBuffer pool p = λ i p p_at.
        let below = there_below row.start i p p_at in
        let n = row.is_start.are_pool.numbered i p p_at in
        let m = row.is_start.many in
        let e = many.1 in
        (ap (λ (z : PoolId). z.0) (row.is_start.are_pool.same_pool i p p_at) ∙ many.0, omega (arith, below, n, m, e), (let long = row.is_start.are_pool.sized i p p_at in omega (arith, long))) in
        asked_requests pool 0 c.asking.script.items (row.start ++ pages_in row.came) (both_buffers pool row.start (pages_in row.came) start (pages_buffers pool row.came came)) j x
        (prefix_get (passed.sent (req_queue c)) (asked_from 0 c.asking.script.items (row.start ++ pages_in row.came)) row.asks j x (ap (λ n. slice_get (passed.sent n) j) own.0 ∙ at))
