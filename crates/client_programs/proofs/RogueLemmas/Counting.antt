-- What stands at a list of queues of which no two are one, and what is taken out of a list, counted.
use Rattle.std.proofs.Common.{◌≡◌, ◌==◌, ◌<◌, ◌+◌, ◌++◌, ℕ, zero, suc, List, [], ◌∷◌, length, All, get_or, remove, refl, sym, ap, ◌∙◌, arith}
use Rattle.cargo_core.specs.declared.item.Body.{Body}
use Rattle.wire_core.specs.Deeds.{Cargo}
use Rattle.wire_core.specs.Lists.{Lists, if_there, with}
use Rattle.wire_core.proofs.Sinces.{eqb_refl, eqb_apart}
use Rattle.turn_kit.specs.Hands.{bodies_of, bodies_at}
use Rattle.buffer_kit.specs.Conserving.{Count, weight, counted}
use Rattle.buffer_kit.proofs.Conserving.{counted-append, weighed-append}
use Rattle.client_programs.specs.Rogue.Clients.{AreApart}

-- what was taken out is counted no more
pub counted-remove : (f : Count) (bs : List Body) (i : ℕ) (d : Body) → i < length bs → counted f bs ≡ weight f (get_or bs i d) + counted f (remove bs i)
counted-remove f [] i d h = omega (arith, h)
counted-remove f (b ∷ bs) zero d h = refl
counted-remove f (b ∷ bs) (suc i) d h = omega (arith, counted-remove f bs i d (omega (arith, h)))

-- what stands at a list of queues, with more
pub at-with : (f : Count) (lists more : Lists) (ns : List ℕ) → counted f (bodies_at (with lists more) ns) ≡ counted f (bodies_at lists ns) + counted f (bodies_at more ns)
at-with f lists more [] = refl
at-with f lists more (n ∷ ns) = omega (arith, counted-append f (bodies_of (lists n ++ more n)) (bodies_at (with lists more) ns), weighed-append f (lists n) (more n), at-with f lists more ns, counted-append f (bodies_of (lists n)) (bodies_at lists ns), counted-append f (bodies_of (more n)) (bodies_at more ns))

-- nothing more
pub at-none : (f : Count) (more : Lists) (ns : List ℕ) → ((n : ℕ) → more n ≡ []) → counted f (bodies_at more ns) ≡ 0
at-none f more [] none = refl
at-none f more (n ∷ ns) none = omega (arith, counted-append f (bodies_of (more n)) (bodies_at more ns), ap (λ c. counted f (bodies_of c)) (none n), at-none f more ns none)

beside : (f : Count) (q : ℕ) (c : List Cargo) (ns : List ℕ) → All (λ m. q ≡ m → ⊥) ns → counted f (bodies_at (λ n. if_there (q == n) c) ns) ≡ 0
beside f q c [] all = refl
beside f q c (n ∷ ns) all = omega (arith, counted-append f (bodies_of (if_there (q == n) c)) (bodies_at (λ n. if_there (q == n) c) ns), ap (λ b. counted f (bodies_of (if_there b c))) (eqb_apart q n (all 0 q (omega arith))), beside f q c ns (λ k d h. all (suc k) d (omega (arith, h))))

-- entries at one of the queues
pub at-one : (f : Count) (c : List Cargo) (d : ℕ) (ns : List ℕ) (k : ℕ) → AreApart ns → k < length ns → counted f (bodies_at (λ n. if_there (get_or ns k d == n) c) ns) ≡ counted f (bodies_of c)
at-one f c d [] k apart h = omega (arith, h)
at-one f c d (n ∷ ns) zero apart h = omega (arith, counted-append f (bodies_of (if_there (n == n) c)) (bodies_at (λ m. if_there (n == m) c) ns), ap (λ b. counted f (bodies_of (if_there b c))) (eqb_refl n), beside f n c ns apart.0)
at-one f c d (n ∷ ns) (suc k) apart h = omega (arith, counted-append f (bodies_of (if_there (get_or ns k d == n) c)) (bodies_at (λ m. if_there (get_or ns k d == m) c) ns), ap (λ b. counted f (bodies_of (if_there b c))) (eqb_apart (get_or ns k d) n (λ s. other ns k apart.0 (omega (arith, h)) (sym s))), at-one f c d ns k apart.1 (omega (arith, h)))
  where
    other : (ms : List ℕ) (j : ℕ) → All (λ m. n ≡ m → ⊥) ms → j < length ms → n ≡ get_or ms j d → ⊥
    other ms j all l = all j d l

pub given_weight : (f : Count) (old new : List Body) (i : ℕ) (b : Body) → b ≡ get_or old i b → i < length old → new ≡ remove old i → counted f old ≡ weight f b + counted f new
given_weight f old new i b value h items = rw items (counted-remove f old i b h ∙ ap (λ x. weight f x + counted f (remove old i)) (sym value))
