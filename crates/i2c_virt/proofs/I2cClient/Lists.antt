use Rattle.std.proofs.Common.{◌≡◌, ℕ, ◌+◌, ◌%◌, List, [], ◌∷◌, ◌++◌, length, slice_get, Some, None, Option, refl, sym, ap, ◌∙◌, subst, arith}
use Rattle.std.specs.Option.{option_to_list}
use Rattle.cargo_core.specs.declared.item.PoolId.{PoolId}
use Rattle.cargo_core.specs.Pages.{Paged}
use Rattle.wire_core.specs.Deeds.{Cargo}
use Rattle.i2c_text.specs.declared.bus.BusAsk.{BusAsk}
use Rattle.i2c_text.specs.declared.report.BusReply.{BusReply}
use Rattle.i2c_virt.specs.I2cClient.Hands.{IsBuffer, AreBuffers, buffer_of}
use Rattle.i2c_virt.specs.I2cClient.Asking.{IsAsked, AreAsked, IsAnswered, AreAnswered}

-- Lists of buffers, of requests and of replies, one longer.

pub buffers_push : (pool : PoolId) (k : ℕ) (ps : List Paged) (p : Paged) → IsBuffer pool (k + length ps) p → AreBuffers pool k ps → AreBuffers pool k (ps ++ p ∷ [])
buffers_push pool k [] p b h = let e : k + 0 ≡ k = omega arith in (subst (λ n. IsBuffer pool n p) e b, tt)
buffers_push pool k (q ∷ ps) p b h =
    let e : k + length (q ∷ ps) ≡ (k + 1) + length ps = omega arith in
    (h.0, buffers_push pool (k + 1) ps p (subst (λ n. IsBuffer pool n p) e b) h.1)

some_same : {T : Type 0} (x y : T) → Some x ≡ Some y → x ≡ y
some_same x y h = cc

pub asked_push : (pool : PoolId) (k : ℕ) (asks : List BusAsk) (xs : List Cargo) (a : BusAsk) (x : Cargo) → slice_get asks (length xs) ≡ Some a → IsAsked pool (k + length xs) a x → AreAsked pool k asks xs → AreAsked pool k asks (xs ++ x ∷ [])
asked_push pool k [] [] a x at is h = cc
asked_push pool k (b ∷ asks) [] a x at is h =
    let e : k + 0 ≡ k = omega arith in
    (subst (λ c. IsAsked pool k c x) (sym (some_same b a at)) (subst (λ n. IsAsked pool n a x) e is), tt)
asked_push pool k [] (y ∷ xs) a x at is h = absurd h
asked_push pool k (b ∷ asks) (y ∷ xs) a x at is h =
    let e : k + length (y ∷ xs) ≡ (k + 1) + length xs = omega arith in
    (h.0, asked_push pool (k + 1) asks xs a x at (subst (λ n. IsAsked pool n a x) e is) h.1)

-- fewer are asked too
pub asked_before : (pool : PoolId) (k : ℕ) (asks : List BusAsk) (xs ys : List Cargo) → AreAsked pool k asks (xs ++ ys) → AreAsked pool k asks xs
asked_before pool k asks [] ys h = tt
asked_before pool k [] (x ∷ xs) ys h = absurd h
asked_before pool k (a ∷ asks) (x ∷ xs) ys h = (h.0, asked_before pool (k + 1) asks xs ys h.1)

pub answered_push : (pool : PoolId) (k : ℕ) (asks : List BusAsk) (ys : List Cargo) (rs : List BusReply) (a : BusAsk) (y : Cargo) (r : BusReply) → slice_get asks (length rs) ≡ Some a → IsAnswered pool (k + length rs) a y r → AreAnswered pool k asks ys rs → AreAnswered pool k asks (ys ++ y ∷ []) (rs ++ r ∷ [])
answered_push pool k [] [] [] a y r at is h = cc
answered_push pool k (b ∷ asks) [] [] a y r at is h =
    let e : k + 0 ≡ k = omega arith in
    (subst (λ c. IsAnswered pool k c y r) (sym (some_same b a at)) (subst (λ n. IsAnswered pool n a y r) e is), tt)
answered_push pool k asks [] (s ∷ rs) a y r at is h = absurd h
answered_push pool k asks (z ∷ ys) [] a y r at is h = absurd h
answered_push pool k [] (z ∷ ys) (s ∷ rs) a y r at is h = absurd h
answered_push pool k (b ∷ asks) (z ∷ ys) (s ∷ rs) a y r at is h =
    let e : k + length (s ∷ rs) ≡ (k + 1) + length rs = omega arith in
    (h.0, answered_push pool (k + 1) asks ys rs a y r at (subst (λ n. IsAnswered pool n a y r) e is) h.1)

-- as many replies as entries
pub answered_many : (pool : PoolId) (k : ℕ) (asks : List BusAsk) (ys : List Cargo) (rs : List BusReply) → AreAnswered pool k asks ys rs → length rs ≡ length ys
answered_many pool k asks [] [] h = refl
answered_many pool k asks [] (s ∷ rs) h = absurd h
answered_many pool k asks (z ∷ ys) [] h = absurd h
answered_many pool k [] (z ∷ ys) (s ∷ rs) h = absurd h
answered_many pool k (b ∷ asks) (z ∷ ys) (s ∷ rs) h = let e = answered_many pool (k + 1) asks ys rs h.1 in omega (arith, e)
