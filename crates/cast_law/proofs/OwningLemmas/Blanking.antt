-- Entries without the pages of some pools, and at some queues without any: of other pools as much is
-- counted of them.
use Rattle.std.proofs.Common.{◌≡◌, ◌≢◌, ◌⊎◌, ◌==◌, ◌&&◌, ◌++◌, ◌+◌, ℕ, zero, suc, Bool, true, false, cond, if◌then◌else◌, Option, Some, None, List, [], ◌∷◌, length, map, flat_map, slice_get, sum_by, refl, sym, ap, ◌∙◌, subst, arith, inl, inr, eq-eqb}
use Rattle.std.proofs.Math.Dec.{eqb}
use Rattle.std.proofs.lemmas.Bool.Decides.{eqb_tells}
use Rattle.std.proofs.lemmas.List.Sums.{sum_by-cons}
use Rattle.cargo_core.specs.Bodies.{buffers_in, buffers_of}
use Rattle.cargo_core.specs.declared.item.Body.{Body}
use Rattle.cargo_core.specs.declared.item.Body.TheVariants as Carried
use Rattle.cargo_core.specs.declared.item.PoolId.{PoolId}
use Rattle.wire_core.specs.Bells.{bit}
use Rattle.wire_core.specs.Deeds.{Cargo}
use Rattle.wire_core.specs.Ends.{Role, Consumer, Producer}
use Rattle.wire_core.specs.Lists.{Passed}
use Rattle.wire_core.specs.Queues.{Queue, items_of, no_queue, queue_at}
use Rattle.turn_kit.specs.Hands.{bodies_of}
use Rattle.turn_kit.proofs.Holding.{buffers-append, buffers-cons}
use Rattle.play_core.specs.Moved.{Seat}
use Rattle.play_core.specs.Names.{Wild}
use Rattle.play_core.proofs.Lists.{some_is}
use Rattle.owner_law.specs.Pages.{as_page}
use Rattle.owner_law.specs.Things.{Buffer}
use Rattle.owner_law.specs.Pools.Lines.{bodies_in, bodies_out, came, went}

module _ (off : ℕ → Bool) where
  -- a body that isn't a page of these pools
  abbrev pub hidden : Body → Body
  hidden Carried.Empty = Carried.Empty
  hidden (Carried.Page page) = cond (off page.pool.0) Carried.Empty (Carried.Page page)
  hidden (Carried.Lease lease) = Carried.Lease lease

  -- it is the page of the same buffer, where that is of another pool
  pub hidden_page : (b : Buffer) (x : Body) → as_page b (hidden x) ≡ cond (off b.pool) 0 (as_page b x)
  hidden_page b Carried.Empty = by (off b.pool)
    where
      by : (t : Bool) → 0 ≡ cond {A = ℕ} t 0 0
      by true = refl
      by false = refl
  hidden_page b (Carried.Lease lease) = by (off b.pool)
    where
      by : (t : Bool) → 0 ≡ cond {A = ℕ} t 0 0
      by true = refl
      by false = refl
  hidden_page b (Carried.Page page) = by (eqb_tells page.pool.0 b.pool)
    where
      same : (t : Bool) → as_page b (cond t Carried.Empty (Carried.Page page)) ≡ cond t 0 (as_page b (Carried.Page page))
      same true = refl
      same false = refl

      none : (t u : Bool) → (page.pool.0 == b.pool) ≡ false → as_page b (cond t Carried.Empty (Carried.Page page)) ≡ cond u 0 (as_page b (Carried.Page page))
      none true true e = refl
      none true false e = sym (ap (λ z. bit (z && (page.no == b.no))) e)
      none false true e = ap (λ z. bit (z && (page.no == b.no))) e
      none false false e = refl

      by : ((eqb page.pool.0 b.pool ≡ true) × (page.pool.0 ≡ b.pool)) ⊎ ((eqb page.pool.0 b.pool ≡ false) × (page.pool.0 ≢ b.pool)) → as_page b (cond (off page.pool.0) Carried.Empty (Carried.Page page)) ≡ cond (off b.pool) 0 (as_page b (Carried.Page page))
      by (inl e) = same (off page.pool.0) ∙ ap (λ n. cond (off n) 0 (as_page b (Carried.Page page))) e.1
      by (inr e) = none (off page.pool.0) (off b.pool) e.0

  -- and is counted as often
  one_count : (pool : PoolId) (x : Body) → buffers_in pool (hidden x) ≡ cond (off pool.0) 0 (buffers_in pool x)
  one_count pool Carried.Empty = by (off pool.0)
    where
      by : (t : Bool) → 0 ≡ cond {A = ℕ} t 0 0
      by true = refl
      by false = refl
  one_count pool (Carried.Lease lease) = by (off pool.0)
    where
      by : (t : Bool) → 0 ≡ cond {A = ℕ} t 0 0
      by true = refl
      by false = refl
  one_count pool (Carried.Page page) = by (eqb_tells page.pool.0 pool.0)
    where
      same : (t : Bool) → buffers_in pool (cond t Carried.Empty (Carried.Page page)) ≡ cond t 0 (buffers_in pool (Carried.Page page))
      same true = refl
      same false = refl

      none : (t u : Bool) → (page.pool.0 == pool.0) ≡ false → buffers_in pool (cond t Carried.Empty (Carried.Page page)) ≡ cond u 0 (buffers_in pool (Carried.Page page))
      none true true e = refl
      none true false e = sym (ap (λ (z : Bool). cond {A = ℕ} z 1 0) e)
      none false true e = ap (λ (z : Bool). cond {A = ℕ} z 1 0) e
      none false false e = refl

      by : ((eqb page.pool.0 pool.0 ≡ true) × (page.pool.0 ≡ pool.0)) ⊎ ((eqb page.pool.0 pool.0 ≡ false) × (page.pool.0 ≢ pool.0)) → buffers_in pool (cond (off page.pool.0) Carried.Empty (Carried.Page page)) ≡ cond (off pool.0) 0 (buffers_in pool (Carried.Page page))
      by (inl e) = same (off page.pool.0) ∙ ap (λ n. cond (off n) 0 (buffers_in pool (Carried.Page page))) e.1
      by (inr e) = none (off page.pool.0) (off pool.0) e.0

  pub hidden_count : (pool : PoolId) (xs : List Body) → buffers_of pool (map hidden xs) ≡ cond (off pool.0) 0 (buffers_of pool xs)
  hidden_count pool [] = by (off pool.0)
    where
      by : (t : Bool) → 0 ≡ cond {A = ℕ} t 0 0
      by true = refl
      by false = refl
  hidden_count pool (x ∷ xs) = by (off pool.0) (one_count pool x) (hidden_count pool xs)
    where
      by : (t : Bool) → buffers_in pool (hidden x) ≡ cond t 0 (buffers_in pool x) → buffers_of pool (map hidden xs) ≡ cond t 0 (buffers_of pool xs) → buffers_of pool (map hidden (x ∷ xs)) ≡ cond t 0 (buffers_of pool (x ∷ xs))
      by true one rest = omega (arith, buffers-cons pool (hidden x) (map hidden xs), one, rest)
      by false one rest = omega (arith, buffers-cons pool (hidden x) (map hidden xs), buffers-cons pool x xs, one, rest)

  -- an entry so; at such a queue it has no body
  abbrev pub blank : Bool → Cargo → Cargo
  blank wild c = (c.0, cond wild Carried.Empty (hidden c.1))

  pub blank_items : (wild : Bool) (cs : List Cargo) → items_of (map (blank wild) cs) ≡ items_of cs
  blank_items wild [] = refl
  blank_items wild (c ∷ cs) = ap (λ is. c.0 ∷ is) (blank_items wild cs)

  pub blank_at : (wild : Bool) (cs : List Cargo) (k : ℕ) (c : Cargo) → slice_get (map (blank wild) cs) k ≡ Some c → (d : Cargo) × (slice_get cs k ≡ Some d) × (blank wild d ≡ c)
  blank_at wild [] k c at = cc
  blank_at wild (d ∷ cs) zero c at = (d, refl, some_is at)
  blank_at wild (d ∷ cs) (suc k) c at = blank_at wild cs k c at

  -- of another pool as much is counted; at such a queue there was nothing of it
  pub blank_count : (pool : PoolId) (wild : Bool) (cs : List Cargo) → (wild ≡ true → off pool.0 ≡ false → buffers_of pool (bodies_of cs) ≡ 0) → buffers_of pool (bodies_of (map (blank wild) cs)) ≡ cond (off pool.0) 0 (buffers_of pool (bodies_of cs))
  blank_count pool false cs none = ap (buffers_of pool) (same cs) ∙ hidden_count pool (bodies_of cs)
    where
      same : (ds : List Cargo) → bodies_of (map (blank false) ds) ≡ map hidden (bodies_of ds)
      same [] = refl
      same (d ∷ ds) = ap (λ l. hidden d.1 ∷ l) (same ds)
  blank_count pool true cs none = empty cs ∙ by (off pool.0) refl
    where
      empty : (ds : List Cargo) → buffers_of pool (bodies_of (map (blank true) ds)) ≡ 0
      empty [] = refl
      empty (d ∷ ds) = omega (arith, buffers-cons pool Carried.Empty (bodies_of (map (blank true) ds)), empty ds)

      by : (t : Bool) → off pool.0 ≡ t → 0 ≡ cond t 0 (buffers_of pool (bodies_of cs))
      by true e = refl
      by false e = sym (none refl e)

-- where no entry is a page of a pool, none is counted
pub none_count : (pool : PoolId) (cs : List Cargo) → ((k : ℕ) (c : Cargo) → slice_get cs k ≡ Some c → (b : Buffer) → b.pool ≡ pool.0 → as_page b c.1 ≡ 0) → buffers_of pool (bodies_of cs) ≡ 0
none_count pool [] none = refl
none_count pool (c ∷ cs) none = omega (arith, buffers-cons pool c.1 (bodies_of cs), here c.1 (none 0 c refl), none_count pool cs (λ k d at. none (suc k) d at))
  where
    here : (x : Body) → ((b : Buffer) → b.pool ≡ pool.0 → as_page b x ≡ 0) → buffers_in pool x ≡ 0
    here Carried.Empty each = refl
    here (Carried.Lease lease) each = refl
    here (Carried.Page page) each = by (eqb_tells page.pool.0 pool.0)
      where
        by : ((eqb page.pool.0 pool.0 ≡ true) × (page.pool.0 ≡ pool.0)) ⊎ ((eqb page.pool.0 pool.0 ≡ false) × (page.pool.0 ≢ pool.0)) → buffers_in pool (Carried.Page page) ≡ 0
        by (inl e) =
            let mine : as_page (record { pool = pool.0; no = page.no }) (Carried.Page page) ≡ 0 = each (record { pool = pool.0; no = page.no }) refl in
            let one : bit (true && true) ≡ 0 = sym (rw (e.0, eq-eqb page.no page.no refl) refl) ∙ mine in
            absurd (omega (arith, one))
        by (inr e) = ap (λ (z : Bool). cond {A = ℕ} z 1 0) e.0

-- all that passed, and what stands in the queues, without these pages
module _ (off : ℕ → Bool) (wild : Wild) where
  abbrev pub blanked : Passed → Passed
  blanked passed = record { sent = λ n. map (blank off (wild n)) (passed.sent n); taken = λ n. map (blank off (wild n)) (passed.taken n); calls = passed.calls }

  abbrev pub world_from : ℕ → List Queue → List Queue
  world_from k [] = []
  world_from k (q ∷ qs) = record q { entries = map (blank off (wild k)) q.entries } ∷ world_from (k + 1) qs

  pub world_long : (k : ℕ) (qs : List Queue) → length (world_from k qs) ≡ length qs
  world_long k [] = refl
  world_long k (q ∷ qs) = ap suc (world_long (k + 1) qs)

  pub world_at : (k : ℕ) (qs : List Queue) (n : ℕ) → (queue_at (world_from k qs) n).entries ≡ map (blank off (wild (k + n))) (queue_at qs n).entries
  world_at k [] n = refl
  world_at k (q ∷ qs) zero = let plus : k ≡ k + 0 = omega arith in ap (λ m. map (blank off (wild m)) q.entries) plus
  world_at k (q ∷ qs) (suc n) = let shift : k + 1 + n ≡ k + suc n = omega arith in world_at (k + 1) qs n ∙ ap (λ m. map (blank off (wild m)) (queue_at qs n).entries) shift

  pub world_count : (pool : PoolId) → off pool.0 ≡ false → (k : ℕ) (qs : List Queue) → ((n : ℕ) → wild (k + n) ≡ true → buffers_of pool (bodies_of (queue_at qs n).entries) ≡ 0) → sum_by (λ (q : Queue). buffers_of pool (bodies_of q.entries)) (world_from k qs) ≡ sum_by (λ (q : Queue). buffers_of pool (bodies_of q.entries)) qs
  world_count pool free k [] none = refl
  world_count pool free k (q ∷ qs) none =
      let plus : k + 0 ≡ k = omega arith in
      let here : buffers_of pool (bodies_of (map (blank off (wild k)) q.entries)) ≡ buffers_of pool (bodies_of q.entries) = blank_count off pool (wild k) q.entries (λ e f. none 0 (ap wild plus ∙ e)) ∙ ap (λ t. cond t 0 (buffers_of pool (bodies_of q.entries))) free in
      omega (
        arith,
        sum_by-cons (λ (r : Queue). buffers_of pool (bodies_of r.entries)) (record q { entries = map (blank off (wild k)) q.entries }) (world_from (k + 1) qs),
        sum_by-cons (λ (r : Queue). buffers_of pool (bodies_of r.entries)) q qs,
        here,
        world_count pool free (k + 1) qs (λ n e. none (suc n) (let shift : k + suc n ≡ k + 1 + n = omega arith in ap wild shift ∙ e)),
      )

  -- what came to an actor, and what went
  module _ (pool : PoolId) (passed : Passed) (taken_none : (n : ℕ) → wild n ≡ true → off pool.0 ≡ false → buffers_of pool (bodies_of (passed.taken n)) ≡ 0) (sent_none : (n : ℕ) → wild n ≡ true → off pool.0 ≡ false → buffers_of pool (bodies_of (passed.sent n)) ≡ 0) where
    nothing : 0 ≡ cond {A = ℕ} (off pool.0) 0 0
    nothing = by (off pool.0)
      where
        by : (t : Bool) → 0 ≡ cond {A = ℕ} t 0 0
        by true = refl
        by false = refl

    one_came : (r : Role) (n : ℕ) → buffers_of pool (bodies_in (blanked passed) r n) ≡ cond (off pool.0) 0 (buffers_of pool (bodies_in passed r n))
    one_came Consumer n = blank_count off pool (wild n) (passed.taken n) (taken_none n)
    one_came Producer n = nothing

    one_went : (r : Role) (n : ℕ) → buffers_of pool (bodies_out (blanked passed) r n) ≡ cond (off pool.0) 0 (buffers_of pool (bodies_out passed r n))
    one_went Consumer n = nothing
    one_went Producer n = blank_count off pool (wild n) (passed.sent n) (sent_none n)

    pub came_count : (ends : List Seat) → buffers_of pool (came (blanked passed) ends) ≡ cond (off pool.0) 0 (buffers_of pool (came passed ends))
    came_count [] = nothing
    came_count (s ∷ ends) = by (off pool.0) (one_came s.role s.queue) (came_count ends)
      where
        by : (t : Bool) → buffers_of pool (bodies_in (blanked passed) s.role s.queue) ≡ cond t 0 (buffers_of pool (bodies_in passed s.role s.queue)) → buffers_of pool (came (blanked passed) ends) ≡ cond t 0 (buffers_of pool (came passed ends)) → buffers_of pool (came (blanked passed) (s ∷ ends)) ≡ cond t 0 (buffers_of pool (came passed (s ∷ ends)))
        by true one rest = omega (arith, buffers-append pool (bodies_in (blanked passed) s.role s.queue) (came (blanked passed) ends), one, rest)
        by false one rest = omega (arith, buffers-append pool (bodies_in (blanked passed) s.role s.queue) (came (blanked passed) ends), buffers-append pool (bodies_in passed s.role s.queue) (came passed ends), one, rest)

    pub went_count : (ends : List Seat) → buffers_of pool (went (blanked passed) ends) ≡ cond (off pool.0) 0 (buffers_of pool (went passed ends))
    went_count [] = nothing
    went_count (s ∷ ends) = by (off pool.0) (one_went s.role s.queue) (went_count ends)
      where
        by : (t : Bool) → buffers_of pool (bodies_out (blanked passed) s.role s.queue) ≡ cond t 0 (buffers_of pool (bodies_out passed s.role s.queue)) → buffers_of pool (went (blanked passed) ends) ≡ cond t 0 (buffers_of pool (went passed ends)) → buffers_of pool (went (blanked passed) (s ∷ ends)) ≡ cond t 0 (buffers_of pool (went passed (s ∷ ends)))
        by true one rest = omega (arith, buffers-append pool (bodies_out (blanked passed) s.role s.queue) (went (blanked passed) ends), one, rest)
        by false one rest = omega (arith, buffers-append pool (bodies_out (blanked passed) s.role s.queue) (went (blanked passed) ends), buffers-append pool (bodies_out passed s.role s.queue) (went passed ends), one, rest)
