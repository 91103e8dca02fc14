use Rattle.std.proofs.Common.{◌≡◌, ◌+◌, ◌*◌, ◌/◌, ◌%◌, ◌^◌, ◌<◌, ◌≤◌, ℕ, sym, ap, ◌∙◌, arith}
use Rattle.std.proofs.lemmas.Nat.{mul-mod_first, mod-mul-add}
use Rattle.std.proofs.Math.Nat.{mod-eq_of_lt}
use Rattle.wire_core.specs.Picks.{next_seed, place_of}
use Rattle.wire_core.proofs.Seeds.{mod_then_add}

-- the inverse of the multiplier modulo 2^64, and what takes the increment back
abbrev inverse : ℕ
inverse = 13877824140714322085

abbrev back : ℕ
back = 17004049032820588209

-- the product of multiplier and inverse is 1 beside so many times 2^64
abbrev turns : ℕ
turns = 4787856489426250814

-- the seed after which x is drawn
abbrev seed_of : ℕ → ℕ
seed_of x = (x + back) * inverse % 2 ^ 64

whole : (x : ℕ) → (x + back) * inverse * 6364136223846793005 + 1442695040888963407 ≡ (1 + (x + back) * turns) * 2 ^ 64 + x
whole x = omega arith

pub seed_draws : (x : ℕ) → x < 2 ^ 64 → next_seed (seed_of x) ≡ x
unfolding next_seed
seed_draws x lt =
    sym (mod_then_add (seed_of x * 6364136223846793005) 1442695040888963407 (2 ^ 64))
    ∙ (ap (λ n. (n + 1442695040888963407) % 2 ^ 64) (mul-mod_first ((x + back) * inverse) 6364136223846793005 (2 ^ 64))
    ∙ (mod_then_add ((x + back) * inverse * 6364136223846793005) 1442695040888963407 (2 ^ 64)
    ∙ (ap (λ n. n % 2 ^ 64) (whole x)
    ∙ mod-mul-add (1 + (x + back) * turns) (2 ^ 64) x lt)))

seed_small : (x : ℕ) → seed_of x < 2 ^ 64
seed_small x = omega arith

pub drawn_by : (x : ℕ) → x < 2 ^ 64 → (seed : ℕ) × (seed < 2 ^ 64) × (next_seed seed ≡ x)
drawn_by x lt = (seed_of x, seed_small x, seed_draws x lt)

shifted : (place : ℕ) → place * 2 ^ 33 / 2 ^ 33 ≡ place
shifted place = omega arith

pub picked_by : (place count : ℕ) → place < count → count ≤ 2 ^ 31 → (seed : ℕ) × (seed < 2 ^ 64) × (place_of (next_seed seed) count ≡ place)
picked_by place count lt few =
    let d = drawn_by (place * 2 ^ 33) (omega (arith, lt, few)) in
    (d.0, d.1, ap (λ x. place_of x count) d.2 ∙ (ap (λ n. n % count) (shifted place) ∙ mod-eq_of_lt lt))
