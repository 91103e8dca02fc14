-- The virtualiser puts no buffer more often than it took it: each request that it took goes to the
-- driver once and comes back, or is answered, and then goes to its client once.
use Rattle.std.proofs.Common.{◌≡◌, ◌+◌, ◌<◌, ◌≤◌, ◌==◌, ◌&&◌, ◌++◌, ℕ, zero, suc, Bool, true, false, cond, Option, Some, None, List, [], ◌∷◌, All, map, slice_get, refl, sym, ap, ◌∙◌, subst, arith, eq-eqb, ne_eqb}
use Rattle.std.specs.Option.{option_and_then}
use Rattle.std.proofs.lemmas.Bool.{eqb-true}
use Rattle.std.proofs.lemmas.List.Elements.{All-head, All-tail}
use Rattle.cargo_core.specs.Lists.{IsPrefix}
use Rattle.cargo_core.specs.Pages.{Paged}
use Rattle.cargo_core.specs.declared.item.Item.{Item}
use Rattle.cargo_core.specs.declared.item.Item.TheVariants as ItemOf
use Rattle.wire_core.specs.Bells.{bit}
use Rattle.wire_core.specs.Deeds.{Cargo}
use Rattle.wire_core.specs.Queues.{items_of}
use Rattle.play_core.proofs.Lists.{some_is}
use Rattle.owner_law.specs.Things.{Buffer, is_same, Window, begins_at, number_at, buffer_at, buffer_of, address_of, names_in, is_named, times}
use Rattle.owner_law.proofs.Named.{times_few}
use Rattle.i2c_text.specs.declared.report.BusStatus.{BusStatus}
use Rattle.i2c_virt.specs.declared.i2c_kit.alone.Request.{Request}
use Rattle.i2c_virt.specs.I2cKit.Entries.{own_place, shared_place, item_at}
use Rattle.bus_law.proofs.I2cLaw.Meeting.{in_filter}
use Rattle.i2c_virt.specs.Owners.{verdict}
use Rattle.i2c_virt.specs.Desks.{Judged, IsPassedOn, AreGiven, forwarded, own_entry, shared_entry}
use Rattle.i2c_virt.specs.Works.{Took, IsTook, IsSomeones, judged_from, judged_of, is_of, of_client}
use Rattle.bus_law.specs.BusOwners.Naming.{own_window, shared_windows}
use Rattle.bus_law.proofs.BusOwners.Names.{own_named, shared_named}
use Rattle.bus_law.proofs.BusOwners.Clients.{times_more}

-- a page is a buffer of client k
pub record IsBufferOf (k : ℕ) (p : Paged) : Type 0 where
  pub own : p.pool.0 ≡ k
  pub within : p.no < 2

abbrev pub AllBuffers : (k : ℕ) → List Judged → Type 0
AllBuffers k [] = Unit {0}
AllBuffers k (j ∷ js) = IsBufferOf k j.0 × AllBuffers k js

-- the requests of client k are in its buffers
judged_one : (n k : ℕ) (t : Took) (v : Option BusStatus) (rest : List Judged) → IsTook n t → AllBuffers k rest → (s : Bool) → (t.request.client == k) ≡ s → AllBuffers k ((cond s ((t.page, v) ∷ []) []) ++ rest)
judged_one n k t v rest h all true is = (record { own = h.own ∙ eqb-true t.request.client k is; within = h.within }, all)
judged_one n k t v rest h all false is = all

pub judged_all : (n k : ℕ) (before : List Request) (log : List Took) → All (IsTook n) log → AllBuffers k (judged_from k before log)
judged_all n k before [] took = tt
judged_all n k before (t ∷ more) took = judged_one n k t (verdict before t.request) (judged_from k (before ++ t.request ∷ []) more) (All-head (IsTook n) t more took) (judged_all n k (before ++ t.request ∷ []) more (All-tail (IsTook n) t more took)) (t.request.client == k) refl

-- what goes to the driver of them is in its buffers too
pub forwarded_at : (k : ℕ) (js : List Judged) → AllBuffers k js → (i : ℕ) (x : Cargo) → slice_get (forwarded js) i ≡ Some x → (p : Paged) × (x ≡ shared_entry p) × IsBufferOf k p
forwarded_at k [] all i x at = cc
forwarded_at k ((p, Some s) ∷ js) all i x at = forwarded_at k js all.1 i x at
forwarded_at k ((p, None) ∷ js) all zero x at = (p, sym (some_is at), all.0)
forwarded_at k ((p, None) ∷ js) all (suc i) x at = forwarded_at k js all.1 i x at

module _ (n : ℕ) (b : Buffer) where
  abbrev pub shared : List Window
  shared = shared_windows 0 n

  abbrev pub own : ℕ → List Window
  own k = own_window k ∷ []

  -- how often a buffer is named on the shared queues, and on those of a client
  abbrev pub shared_times : List Cargo → ℕ
  shared_times xs = times b (names_in shared (items_of xs))

  abbrev pub own_times : ℕ → List Cargo → ℕ
  own_times k xs = times b (names_in (own k) (items_of xs))

  -- one where it is this buffer of client k
  abbrev pub mine : (k num : ℕ) → ℕ
  mine k num = bit (is_same (record { pool = k; no = num }) b)

  shared_more : (x : Cargo) (xs : List Cargo) → shared_times (x ∷ xs) ≡ is_named b (buffer_of shared x.0) + shared_times xs
  shared_more x xs = times_more b (buffer_of shared x.0) (names_in shared (items_of xs))

  own_more : (k : ℕ) (x : Cargo) (xs : List Cargo) → own_times k (x ∷ xs) ≡ is_named b (buffer_of (own k) x.0) + own_times k xs
  own_more k x xs = times_more b (buffer_of (own k) x.0) (names_in (own k) (items_of xs))

  own_name : (k : ℕ) (p : Paged) → p.no < 2 → is_named b (buffer_of (own k) (item_at (own_place p.no))) ≡ mine k p.no
  own_name k p few = ap (is_named b) (own_named k p.no few)

  shared_name : (k : ℕ) → k < n → (p : Paged) → IsBufferOf k p → is_named b (buffer_of shared (item_at (shared_place p.pool p.no))) ≡ mine k p.no
  shared_name k lt p is = ap (λ c. is_named b (buffer_of shared (item_at (shared_place (record { 0 = c }) p.no)))) is.own ∙ ap (is_named b) (shared_named n k p.no lt is.within)

  -- of client k, how often it is among requests, among those answered and among those that go on
  abbrev pub all_times : ℕ → List Judged → ℕ
  all_times k [] = 0
  all_times k (j ∷ js) = mine k j.0.no + all_times k js

  abbrev pub kept_times : ℕ → List Judged → ℕ
  kept_times k [] = 0
  kept_times k ((p, Some s) ∷ js) = mine k p.no + kept_times k js
  kept_times k ((p, None) ∷ js) = kept_times k js

  abbrev pub sent_on : ℕ → List Judged → ℕ
  sent_on k [] = 0
  sent_on k ((p, Some s) ∷ js) = sent_on k js
  sent_on k ((p, None) ∷ js) = mine k p.no + sent_on k js

  pub in_two : (k : ℕ) (js : List Judged) → all_times k js ≡ kept_times k js + sent_on k js
  in_two k [] = refl
  in_two k ((p, Some s) ∷ js) = let h = in_two k js in omega (arith, h)
  in_two k ((p, None) ∷ js) = let h = in_two k js in omega (arith, h)

  pub taken_times : (k : ℕ) (js : List Judged) → AllBuffers k js → own_times k (map (λ (j : Judged). own_entry j.0) js) ≡ all_times k js
  taken_times k [] all = refl
  taken_times k (j ∷ js) all =
      let h = taken_times k js all.1 in
      let m = own_more k (own_entry j.0) (map (λ (i : Judged). own_entry i.0) js) in
      let o = own_name k j.0 all.0.within in
      omega (arith, h, m, o)

  pub on_times : (k : ℕ) → k < n → (js : List Judged) → AllBuffers k js → shared_times (forwarded js) ≡ sent_on k js
  on_times k lt [] all = refl
  on_times k lt ((p, Some s) ∷ js) all = on_times k lt js all.1
  on_times k lt ((p, None) ∷ js) all =
      let h = on_times k lt js all.1 in
      let m = shared_more (shared_entry p) (forwarded js) in
      let o = shared_name k lt p all.0 in
      omega (arith, h, m, o)

  pub given_times : (k : ℕ) → k < n → (js : List Judged) (back zs : List Cargo) → AllBuffers k js → AreGiven js back zs → own_times k zs ≤ kept_times k js + shared_times back
  given_times k lt js back [] all given = omega arith
  given_times k lt [] back (z ∷ zs) all given = absurd given
  given_times k lt ((p, Some s) ∷ js) back (z ∷ zs) all given =
      let h = given_times k lt js back zs all.1 given.1 in
      let m = own_more k z zs in
      let o : is_named b (buffer_of (own k) z.0) ≡ mine k p.no = ap (λ (x : Cargo). is_named b (buffer_of (own k) x.0)) given.0 ∙ own_name k p all.0.within in
      omega (arith, h, m, o)
  given_times k lt ((p, None) ∷ js) [] (z ∷ zs) all given = absurd given
  given_times k lt ((p, None) ∷ js) (y ∷ back) (z ∷ zs) all given =
      let on : IsPassedOn p y z = given.0 in
      let h = given_times k lt js back zs all.1 given.1 in
      let number : on.page.no ≡ p.no = on.same_number in
      let is : IsBufferOf k on.page = record { own = ap (λ q. q.0) on.same_pool ∙ all.0.own; within = subst (λ m. m < 2) (sym number) all.0.within } in
      let m = own_more k z zs in
      let w = shared_more y back in
      let o : is_named b (buffer_of (own k) z.0) ≡ mine k on.page.no = ap (λ (x : Cargo). is_named b (buffer_of (own k) x.0)) on.given_is ∙ own_name k on.page is.within in
      let e : is_named b (buffer_of shared y.0) ≡ mine k on.page.no = ap (λ (x : Cargo). is_named b (buffer_of shared x.0)) on.came_is ∙ shared_name k lt on.page is in
      omega (arith, h, m, w, o, e)

  -- a client's own queues name no other client's buffers
  not_mine : (k num : ℕ) → (k ≡ b.pool → ⊥) → mine k num ≡ 0
  not_mine k num off = ap (λ t. bit (t && (num == b.no))) (ne_eqb k b.pool off)

  outside : (k : ℕ) → (k ≡ b.pool → ⊥) → (item : Item) → is_named b (buffer_of (own k) item) ≡ 0
  outside k off (ItemOf.Net d) = by (begins_at (own_window k) d.addr)
    where
      by : (t : Bool) → is_named b (cond t (Some (record { pool = k; no = number_at (own_window k) d.addr })) None) ≡ 0
      by true = not_mine k (number_at (own_window k) d.addr) off
      by false = refl
  outside k off (ItemOf.Byte x) = refl
  outside k off (ItemOf.Req r) = none (address_of (ItemOf.Req r))
    where
      none : (o : Option ℕ) → is_named b (option_and_then (buffer_at (own k)) o) ≡ 0
      none None = refl
      none (Some a) = by (begins_at (own_window k) a)
        where
          by : (t : Bool) → is_named b (cond t (Some (record { pool = k; no = number_at (own_window k) a })) None) ≡ 0
          by true = not_mine k (number_at (own_window k) a) off
          by false = refl
  outside k off (ItemOf.Resp r) = refl

  pub others_none : (k : ℕ) → (k ≡ b.pool → ⊥) → (xs : List Cargo) → own_times k xs ≡ 0
  others_none k off [] = refl
  others_none k off (x ∷ xs) = let h = others_none k off xs in let m = own_more k x xs in let o = outside k off x.0 in omega (arith, h, m, o)

  -- what is of one client among more
  fewer_one : (k : ℕ) (x : Cargo) (xs : List Cargo) → shared_times (of_client k xs) ≤ shared_times xs → (s : Bool) → shared_times (cond s (x ∷ of_client k xs) (of_client k xs)) ≤ shared_times (x ∷ xs)
  fewer_one k x xs h true = let m = shared_more x xs in let w = shared_more x (of_client k xs) in omega (arith, h, m, w)
  fewer_one k x xs h false = let m = shared_more x xs in omega (arith, h, m)

  pub fewer_times : (k : ℕ) (xs : List Cargo) → shared_times (of_client k xs) ≤ shared_times xs
  fewer_times k [] = omega arith
  fewer_times k (x ∷ xs) = fewer_one k x xs (fewer_times k xs) (is_of k x)

  -- an entry on its way to the driver
  pub record IsSent (x : Cargo) : Type 0 where
    pub client : ℕ
    pub there : client < n
    pub page : Paged
    pub is : x ≡ shared_entry page
    pub buffer : IsBufferOf client page

  sent_name : (x : Cargo) (s : IsSent x) → is_named b (buffer_of shared x.0) ≡ mine s.client s.page.no
  sent_name x s = ap (λ (y : Cargo). is_named b (buffer_of shared y.0)) s.is ∙ shared_name s.client s.there s.page s.buffer

  sent_of : (x : Cargo) (s : IsSent x) (k : ℕ) → is_of k x ≡ (s.client == k)
  sent_of x s k = ap (is_of k) s.is ∙ ap (λ m. m == k) s.buffer.own

  sent_one : (x : Cargo) (xs : List Cargo) → IsSent x → shared_times xs ≤ shared_times (of_client b.pool xs) → (t : Bool) → is_of b.pool x ≡ t → shared_times (x ∷ xs) ≤ shared_times (cond t (x ∷ of_client b.pool xs) (of_client b.pool xs))
  sent_one x xs s h true is = let m = shared_more x xs in let w = shared_more x (of_client b.pool xs) in omega (arith, h, m, w)
  sent_one x xs s h false is =
      let off : s.client ≡ b.pool → ⊥ = λ e. (let wrong : false ≡ true = sym (sym (sent_of x s b.pool) ∙ is) ∙ eq-eqb s.client b.pool e in cc) in
      let z : is_named b (buffer_of shared x.0) ≡ 0 = sent_name x s ∙ not_mine s.client s.page.no off in
      let m = shared_more x xs in
      omega (arith, h, m, z)

  pub sent_times : (xs : List Cargo) → ((i : ℕ) (x : Cargo) → slice_get xs i ≡ Some x → IsSent x) → shared_times xs ≤ shared_times (of_client b.pool xs)
  sent_times [] all = omega arith
  sent_times (x ∷ xs) all = sent_one x xs (all 0 x refl) (sent_times xs (λ i y at. all (suc i) y at)) (is_of b.pool x) refl

  pub sent_none : (xs : List Cargo) → ((i : ℕ) (x : Cargo) → slice_get xs i ≡ Some x → IsSent x) → n ≤ b.pool → shared_times xs ≡ 0
  sent_none [] all le = refl
  sent_none (x ∷ xs) all le =
      let s = all 0 x refl in
      let lt : s.client < n = s.there in
      let z : is_named b (buffer_of shared x.0) ≡ 0 = sent_name x s ∙ not_mine s.client s.page.no (λ e. absurd (omega (arith, e, lt, le))) in
      let h = sent_none xs (λ i y at. all (suc i) y at) le in
      let m = shared_more x xs in
      omega (arith, h, m, z)

  -- fewer entries name it no more often
  names_append : (ws : List Window) (xs ys : List Cargo) → names_in ws (items_of (xs ++ ys)) ≡ names_in ws (items_of xs) ++ names_in ws (items_of ys)
  names_append ws [] ys = refl
  names_append ws (x ∷ xs) ys = ap (λ l. buffer_of ws x.0 ∷ l) (names_append ws xs ys)

  pub first_times : (ws : List Window) (xs ys : List Cargo) → IsPrefix xs ys → times b (names_in ws (items_of xs)) ≤ times b (names_in ws (items_of ys))
  first_times ws xs ys h = times_few b (names_in ws (items_of xs)) (names_in ws (items_of ys)) (names_in ws (items_of h.0), sym (names_append ws xs h.0) ∙ ap (λ l. names_in ws (items_of l)) h.1)

-- what the virtualiser put to the driver are buffers of clients
pub all_sent : (n : ℕ) (b : Buffer) (log : List Took) (sent : List Cargo) → All (IsTook n) log → ((i : ℕ) (x : Cargo) → slice_get sent i ≡ Some x → IsSomeones n x) → ((k : ℕ) → k < n → IsPrefix (of_client k sent) (forwarded (judged_of k log))) → (i : ℕ) (x : Cargo) → slice_get sent i ≡ Some x → IsSent n b x
all_sent n b log sent took someones sends i x at =
    let s = someones i x at in
    let f = in_filter (is_of s.client) sent i x at s.is in
    let pre = sends s.client s.there in
    let there : slice_get (forwarded (judged_of s.client log)) f.0 ≡ Some x = ap (λ l. slice_get l f.0) (sym pre.1) ∙ front (of_client s.client sent) pre.0 f.0 x f.1 in
    let p = forwarded_at s.client (judged_of s.client log) (judged_all n s.client [] log took) f.0 x there in
    record { client = s.client; there = s.there; page = p.0; is = p.1; buffer = p.2 }
  where
    front : (xs ys : List Cargo) (k : ℕ) (y : Cargo) → slice_get xs k ≡ Some y → slice_get (xs ++ ys) k ≡ Some y
    front [] ys k y at = cc
    front (z ∷ xs) ys zero y at = at
    front (z ∷ xs) ys (suc k) y at = front xs ys k y at
