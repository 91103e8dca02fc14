use Rattle.std.proofs.Common.{◌≡◌, ◌+◌, ℕ, List, [], ◌∷◌, map, refl, sym, ap, ◌∙◌, arith}
use Rattle.std.proofs.lemmas.List.Sums.{sum-map, sum_by-cons}
use Rattle.cargo_core.specs.declared.item.PoolId.{PoolId}
use Rattle.cargo_core.specs.declared.item.Item.{Item}
use Rattle.cargo_core.specs.declared.item.Body.{Body}
use Rattle.cargo_core.specs.Bodies.{buffers_of, buffers_in}
use Rattle.class_expect.specs.SerialSwitch.Carried.{byte_cargo}

-- entries that carry bytes carry no buffer
pub bytes_hold_none : (pool : PoolId) (bs : List ℕ) → buffers_of pool (map (λ (c : Item × Body). c.1) (map byte_cargo bs)) ≡ 0
bytes_hold_none pool [] = refl
bytes_hold_none pool (b ∷ bs) =
    let rest : List Body = map (λ (c : Item × Body). c.1) (map byte_cargo bs) in
    let first = sum-map (buffers_in pool) ((byte_cargo b).1 ∷ rest) ∙ sum_by-cons (buffers_in pool) (byte_cargo b).1 rest in
    let others = sum-map (buffers_in pool) rest in
    let none = bytes_hold_none pool bs in
    omega (arith, first, others, none)
