use Rattle.std.proofs.Common.{◌≡◌, ◌+◌, ℕ, Bool, List, [], ◌∷◌, length, map, is_none, refl, arith}
use Rattle.turn_kit.specs.declared.ends.Intake.{Intake}
use Rattle.turn_kit.specs.declared.ends.Outlet.{Outlet}
use Rattle.turn_kit.specs.Posts.{intake_post, outlet_post}
use Rattle.turn_kit.specs.ManyEnds.{outlet_posts, needs_from, is_here}
use Rattle.turn_kit.proofs.Dropped.{drops_length}
use Rattle.serial_virt.specs.declared.rx.SerialVirtRx.{SerialVirtRx}
use Rattle.serial_virt.specs.declared.tx.SerialVirtTx.{SerialVirtTx}
use Rattle.serial_virt.specs.Receiving.{rx_round, holding_rx_round, place_loaded}
use Rattle.serial_virt.specs.Sending.{tx_round}

outlet_needs : (owner : ℕ → Bool) (place : ℕ) (ends : List Outlet) → length (needs_from owner place (map (λ (o : Outlet). o.queue) ends)) ≡ length (map outlet_post ends)
outlet_needs owner place [] = refl
outlet_needs owner place (o ∷ ends) = let h = outlet_needs owner (place + 1) ends in omega (arith, h)

intake_needs : (need : ℕ → Bool) (place : ℕ) (ends : List Intake) → length (needs_from need place (map (λ (i : Intake). i.queue) ends)) ≡ length (map intake_post ends)
intake_needs need place [] = refl
intake_needs need place (i ∷ ends) = let h = intake_needs need (place + 1) ends in omega (arith, h)

-- each end of the virtualisers has its need
pub rx_size : (v : SerialVirtRx) → length (rx_round v).needs ≡ length (rx_round v).posts
rx_size v = let h = outlet_needs (is_here (place_loaded v)) 0 v.outputs.ends.items in let d = drops_length v.drops.items (outlet_posts v.outputs) in omega (arith, h, d)

-- the same of one that never drops
pub held_size : (v : SerialVirtRx) → length (holding_rx_round v).needs ≡ length (holding_rx_round v).posts
held_size v = let h = outlet_needs (is_here (place_loaded v)) 0 v.outputs.ends.items in omega (arith, h)

pub tx_size : (v : SerialVirtTx) → length (tx_round v).needs ≡ length (tx_round v).posts
tx_size v = let h = intake_needs (λ place. is_none v.load) 0 v.inputs.ends.items in omega (arith, h)
