-- What all actors put and took together is what was put to the queues and taken there.
use Rattle.std.proofs.Common.{◌≡◌, ◌+◌, ◌<◌, ℕ, zero, suc, Some, List, [], ◌∷◌, ◌++◌, length, map, drop, slice_get, refl, sym, ap, ◌∙◌, arith}
use Rattle.std.specs.List.{sum_by}
use Rattle.std.proofs.lemmas.List.Sums.{sum_by-cons}
use Rattle.wire_core.specs.declared.names.QueueRow.{QueueRow}
use Rattle.wire_core.specs.Deeds.{Cargo}
use Rattle.wire_core.specs.Ends.{Role, Consumer, Producer}
use Rattle.wire_core.specs.Lists.{Passed}
use Rattle.wire_core.specs.Marks.{sum_below, is_role}
use Rattle.play_core.specs.Moved.{Seat}
use Rattle.owner_law.specs.Keeping.{Keeper}
use Rattle.owner_law.specs.Pools.Lines.{bodies_in, bodies_out, came, went}
use Rattle.owner_law.proofs.Sums.{when}
use Rattle.owner_law.proofs.Counting.{below_plus, below_same}
use Rattle.owner_law.proofs.CountsLemmas.Seats.{all_ends}
use Rattle.buffer_kit.specs.Conserving.{Count, counted, weighed}
use Rattle.buffer_kit.proofs.Conserving.{weighed-append, counted-append}
use Rattle.wired_law.specs.PageLaw.Holders.{PageHolder, AreHeld, keeper, has, queue_has, now_counted, start_counted}

-- a sum over actors is one over their ends
sum_keepers : (g : Keeper → ℕ) (hs : List PageHolder) → sum_by g (map keeper hs) ≡ sum_by (λ h. g (keeper h)) hs
sum_keepers g [] = refl
sum_keepers g (h ∷ hs) = omega (arith, sum_by-cons g (keeper h) (map keeper hs), sum_by-cons (λ h. g (keeper h)) h hs, sum_keepers g hs)

-- four sums over actors
sums : (hs : List PageHolder) (a b c d : PageHolder → ℕ) → ((k : ℕ) (h : PageHolder) → slice_get hs k ≡ Some h → a h + b h ≡ c h + d h) → sum_by a hs + sum_by b hs ≡ sum_by c hs + sum_by d hs
sums [] a b c d each = refl
sums (h ∷ hs) a b c d each = omega (arith, sum_by-cons a h hs, sum_by-cons b h hs, sum_by-cons c h hs, sum_by-cons d h hs, each zero h refl, sums hs a b c d (λ k g at. each (suc k) g at))

sum_alike : (hs : List PageHolder) (a b : PageHolder → ℕ) → ((h : PageHolder) → a h ≡ b h) → sum_by a hs ≡ sum_by b hs
sum_alike [] a b same = refl
sum_alike (h ∷ hs) a b same = omega (arith, sum_by-cons a h hs, sum_by-cons b h hs, same h, sum_alike hs a b same)

rest_is : (xs : List Cargo) (ys : List Cargo) → drop (length xs) (xs ++ ys) ≡ ys
rest_is [] ys = refl
rest_is (x ∷ xs) ys = rest_is xs ys

module _ (f : Count) (passed : Passed) where
  abbrev took : Seat → ℕ
  took s = when (is_role s.role Consumer) (weighed f (passed.taken s.queue))

  abbrev put : Seat → ℕ
  put s = when (is_role s.role Producer) (weighed f (passed.sent s.queue))

  in_is : (r : Role) (n : ℕ) → counted f (bodies_in passed r n) ≡ when (is_role r Consumer) (weighed f (passed.taken n))
  in_is Consumer n = refl
  in_is Producer n = refl

  out_is : (r : Role) (n : ℕ) → counted f (bodies_out passed r n) ≡ when (is_role r Producer) (weighed f (passed.sent n))
  out_is Consumer n = refl
  out_is Producer n = refl

  pub all_in : (ends : List Seat) → counted f (came passed ends) ≡ sum_by took ends
  all_in [] = refl
  all_in (s ∷ ends) = omega (arith, counted-append f (bodies_in passed s.role s.queue) (came passed ends), sum_by-cons took s ends, in_is s.role s.queue, all_in ends)

  pub all_out : (ends : List Seat) → counted f (went passed ends) ≡ sum_by put ends
  all_out [] = refl
  all_out (s ∷ ends) = omega (arith, counted-append f (bodies_out passed s.role s.queue) (went passed ends), sum_by-cons put s ends, out_is s.role s.queue, all_out ends)

  module _ (rows : List QueueRow) (holders : List PageHolder) (h : AreHeld rows holders passed) where
    all_taken : sum_by (λ (x : PageHolder). counted f (came passed x.ends)) holders ≡ sum_below (λ n. weighed f (passed.taken n)) (length rows)
    all_taken =
        sum_alike holders (λ x. counted f (came passed x.ends)) (λ x. sum_by took x.ends) (λ x. all_in x.ends)
        ∙ (sym (sum_keepers (λ (p : Keeper). sum_by took p.ends) holders)
        ∙ all_ends rows (map keeper holders) h.ends Consumer (λ n. weighed f (passed.taken n)))

    all_sent : sum_by (λ (x : PageHolder). counted f (went passed x.ends)) holders ≡ sum_below (λ n. weighed f (passed.sent n)) (length rows)
    all_sent =
        sum_alike holders (λ x. counted f (went passed x.ends)) (λ x. sum_by put x.ends) (λ x. all_out x.ends)
        ∙ (sym (sum_keepers (λ (p : Keeper). sum_by put p.ends) holders)
        ∙ all_ends rows (map keeper holders) h.ends Producer (λ n. weighed f (passed.sent n)))

    -- what was put to a queue is what was taken there and what stands there
    queue_whole : (n : ℕ) → n < length rows → weighed f (passed.sent n) ≡ weighed f (passed.taken n) + queue_has f passed n
    queue_whole n lt =
        let p = h.flows n lt in
        let whole = ap (weighed f) (sym p.1) ∙ weighed-append f (passed.taken n) p.0 in
        let left = ap (weighed f) (sym (rest_is (passed.taken n) p.0) ∙ ap (drop (length (passed.taken n))) p.1) in
        omega (arith, whole, left)

    pub whole : now_counted f rows holders passed ≡ start_counted f holders
    whole =
        let each = sums holders (λ (x : PageHolder). counted f x.start) (λ x. counted f (came passed x.ends)) (λ x. counted f (went passed x.ends)) (has f) (λ k x at. h.conserve k x at f) in
        let queues = below_same (λ n. weighed f (passed.sent n)) (λ n. weighed f (passed.taken n) + queue_has f passed n) (length rows) queue_whole in
        let parts = below_plus (λ n. weighed f (passed.taken n)) (queue_has f passed) (length rows) in
        omega (arith, each, queues, parts, all_taken, all_sent)
