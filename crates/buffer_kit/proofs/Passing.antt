-- What an entry more adds to what passed at the ends of a virtualiser, whatever is counted.
use Rattle.std.proofs.Common.{◌≡◌, ◌+◌, ◌==◌, ℕ, zero, suc, Some, List, [], ◌∷◌, ◌++◌, map, slice_get, refl, sym, ap, ◌∙◌, arith}
use Rattle.std.proofs.lemmas.Bool.{ne_eqb}
use Rattle.std.proofs.lemmas.List.{append-nil}
use Rattle.cargo_core.specs.declared.item.PoolId.{PoolId}
use Rattle.cargo_core.specs.Bodies.{buffers_of}
use Rattle.wire_core.specs.declared.names.QueueId.{QueueId}
use Rattle.wire_core.specs.Deeds.{Cargo}
use Rattle.wire_core.specs.Lists.{Lists, with, if_there}
use Rattle.wire_core.proofs.Places.{if_there_here}
use Rattle.turn_kit.specs.Hands.{bodies_of, bodies_at}
use Rattle.turn_kit.specs.ManyEnds.{AreApart}
use Rattle.buffer_kit.specs.Conserving.{Count, counted, weighed, of_pool}
use Rattle.buffer_kit.proofs.Conserving.{weighed-append, counted-at, pool_counted}

some_eq : {X : Type 0} {a b : X} → Some a ≡ Some b → a ≡ b
some_eq h = cc

-- where nothing came, the lists stay
pub none_more : (lists more : Lists) → ((n : ℕ) → more n ≡ []) → with lists more ≡ lists
none_more lists more h = λ i n. (ap (λ c. lists n ++ c) (h n) ∙ append-nil (lists n)) i

-- a queue beside the one of the call
pub beside : (m n : ℕ) (c : List Cargo) → (m ≡ n → ⊥) → if_there (m == n) c ≡ []
beside m n c ne = ap (λ b. if_there b c) (ne_eqb m n ne)

pub counted_more : (f : Count) (lists more : Lists) (ns : List ℕ) → counted f (bodies_at (with lists more) ns) ≡ counted f (bodies_at lists ns) + counted f (bodies_at more ns)
counted_more f lists more [] = refl
counted_more f lists more (n ∷ ns) =
    let all = counted-at f (with lists more) n ns in
    let a = counted-at f lists n ns in
    let b = counted-at f more n ns in
    let here = weighed-append f (lists n) (more n) in
    let rest = counted_more f lists more ns in
    omega (arith, all, a, b, here, rest)

none_at : (f : Count) (more : Lists) (qs : List QueueId) → ((k : ℕ) (q : QueueId) → slice_get qs k ≡ Some q → more q.0 ≡ []) → counted f (bodies_at more (map (λ q. q.0) qs)) ≡ 0
none_at f more [] h = refl
none_at f more (q ∷ qs) h =
    let all = counted-at f more q.0 (map (λ q. q.0) qs) in
    let here = ap (weighed f) (h zero q refl) in
    let rest = none_at f more qs (λ k r at. h (suc k) r at) in
    omega (arith, all, here, rest)

one_at : (f : Count) (more : Lists) (c : List Cargo) (qs : List QueueId) (k : ℕ) (q : QueueId) → slice_get qs k ≡ Some q → AreApart qs → ((n : ℕ) → more n ≡ if_there (q.0 == n) c) → counted f (bodies_at more (map (λ q. q.0) qs)) ≡ weighed f c
one_at f more c [] k q at apart h = cc
one_at f more c (x ∷ qs) zero q at apart h =
    let all = counted-at f more x.0 (map (λ q. q.0) qs) in
    let put : more x.0 ≡ c = ap (λ (r : QueueId). more r.0) (some_eq at) ∙ (h q.0 ∙ if_there_here q.0 c) in
    let here = ap (weighed f) put in
    let rest = none_at f more qs (λ j r there. h r.0 ∙ beside q.0 r.0 c (λ e. let no : zero ≡ suc j = apart zero (suc j) q r at there e in cc)) in
    omega (arith, all, here, rest)
one_at f more c (x ∷ qs) (suc k) q at apart h =
    let all = counted-at f more x.0 (map (λ q. q.0) qs) in
    let none : more x.0 ≡ [] = h x.0 ∙ beside q.0 x.0 c (λ e. let no : suc k ≡ zero = apart (suc k) zero q x at refl e in cc) in
    let here = ap (weighed f) none in
    let rest = one_at f more c qs k q at (λ a b y z g i e. let s : suc a ≡ suc b = apart (suc a) (suc b) y z g i e in cc) h in
    omega (arith, all, here, rest)

-- what moved at the first of the queues, or at one behind it
pub counted_first : (f : Count) (more : Lists) (c : List Cargo) (n : ℕ) (qs : List QueueId) → ((k : ℕ) (q : QueueId) → slice_get qs k ≡ Some q → n ≡ q.0 → ⊥) → ((m : ℕ) → more m ≡ if_there (n == m) c) → counted f (bodies_at more (n ∷ map (λ q. q.0) qs)) ≡ weighed f c
counted_first f more c n qs apart h =
    let all = counted-at f more n (map (λ q. q.0) qs) in
    let here = ap (weighed f) (h n ∙ if_there_here n c) in
    let rest = none_at f more qs (λ k q at. h q.0 ∙ beside n q.0 c (apart k q at)) in
    omega (arith, all, here, rest)

pub counted_later : (f : Count) (more : Lists) (c : List Cargo) (n : ℕ) (qs : List QueueId) (k : ℕ) (q : QueueId) → slice_get qs k ≡ Some q → AreApart qs → (n ≡ q.0 → ⊥) → ((m : ℕ) → more m ≡ if_there (q.0 == m) c) → counted f (bodies_at more (n ∷ map (λ q. q.0) qs)) ≡ weighed f c
counted_later f more c n qs k q at apart ne h =
    let all = counted-at f more n (map (λ q. q.0) qs) in
    let none : more n ≡ [] = h n ∙ beside q.0 n c (λ e. ne (sym e)) in
    let here = ap (weighed f) none in
    let rest = one_at f more c qs k q at apart h in
    omega (arith, all, here, rest)

-- the same by pool
pub count_more : (pool : PoolId) (lists more : Lists) (ns : List ℕ) → buffers_of pool (bodies_at (with lists more) ns) ≡ buffers_of pool (bodies_at lists ns) + buffers_of pool (bodies_at more ns)
count_more pool lists more ns = omega (arith, counted_more (of_pool pool) lists more ns, pool_counted pool (bodies_at (with lists more) ns), pool_counted pool (bodies_at lists ns), pool_counted pool (bodies_at more ns))

pub first_more : (pool : PoolId) (more : Lists) (c : List Cargo) (n : ℕ) (qs : List QueueId) → ((k : ℕ) (q : QueueId) → slice_get qs k ≡ Some q → n ≡ q.0 → ⊥) → ((m : ℕ) → more m ≡ if_there (n == m) c) → buffers_of pool (bodies_at more (n ∷ map (λ q. q.0) qs)) ≡ buffers_of pool (bodies_of c)
first_more pool more c n qs apart h = pool_counted pool (bodies_at more (n ∷ map (λ q. q.0) qs)) ∙ (counted_first (of_pool pool) more c n qs apart h ∙ sym (pool_counted pool (bodies_of c)))

pub later_more : (pool : PoolId) (more : Lists) (c : List Cargo) (n : ℕ) (qs : List QueueId) (k : ℕ) (q : QueueId) → slice_get qs k ≡ Some q → AreApart qs → (n ≡ q.0 → ⊥) → ((m : ℕ) → more m ≡ if_there (q.0 == m) c) → buffers_of pool (bodies_at more (n ∷ map (λ q. q.0) qs)) ≡ buffers_of pool (bodies_of c)
later_more pool more c n qs k q at apart ne h = pool_counted pool (bodies_at more (n ∷ map (λ q. q.0) qs)) ∙ (counted_later (of_pool pool) more c n qs k q at apart ne h ∙ sym (pool_counted pool (bodies_of c)))
