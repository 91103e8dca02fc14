-- What was put to the driver is what came back from it and what stands on the way.
use Rattle.std.proofs.Common.{◌≡◌, ℕ, List, [], ◌∷◌, ◌++◌, length, drop, refl, sym, ap, ◌∙◌, append_assoc}
use Rattle.std.specs.Option.{option_to_list}
use Rattle.cargo_core.specs.Lists.{IsPrefix}
use Rattle.wire_core.specs.Deeds.{Cargo}
use Rattle.wire_core.specs.Lists.{Passed}
use Rattle.turn_kit.specs.Pipes.{PipeStandsFor}
use Rattle.turn_kit.specs.declared.pipe.Pipe.{Pipe}
use Rattle.wired_law.specs.PageLaw.Holders.{standing}
use Rattle.wired_law.specs.PageLaw.Paths.{IsWay, on_way}

rest_is : (xs ys : List Cargo) → drop (length xs) (xs ++ ys) ≡ ys
rest_is [] ys = refl
rest_is (x ∷ xs) ys = rest_is xs ys

-- a queue
pub stood : (passed : Passed) (n : ℕ) → IsPrefix (passed.taken n) (passed.sent n) → passed.sent n ≡ passed.taken n ++ standing passed n
stood passed n p = sym p.1 ∙ ap (λ l. passed.taken n ++ l) (sym (rest_is (passed.taken n) p.0) ∙ ap (drop (length (passed.taken n))) p.1)

-- a queue and the pipe behind it
hop : (passed : Passed) (p : Pipe) (n m : ℕ) → IsPrefix (passed.taken n) (passed.sent n) → p.input.queue.0 ≡ n → m ≡ p.output.queue.0 → PipeStandsFor p passed → passed.sent n ≡ passed.sent m ++ (option_to_list p.load ++ standing passed n)
hop passed p n m flows at to h =
    stood passed n flows
    ∙ (ap (λ l. l ++ standing passed n) (ap passed.taken (sym at) ∙ (h ∙ ap (λ k. passed.sent k ++ option_to_list p.load) (sym to)))
    ∙ append_assoc (passed.sent m) (option_to_list p.load) (standing passed n))

pub way_is : (down device up : Pipe) (input output : ℕ) (passed : Passed) → IsWay down device up input output passed → passed.sent output ≡ passed.taken input ++ on_way down device up input output passed
way_is down device up input output passed w =
    let a = hop passed down output down.output.queue.0 (w.begins output) w.to_driver refl w.first in
    let b = hop passed device down.output.queue.0 device.output.queue.0 (w.begins down.output.queue.0) w.to_device refl w.second in
    let c = hop passed up device.output.queue.0 input (w.begins device.output.queue.0) w.from_device w.from_driver w.third in
    let d = stood passed input (w.begins input) in
    let l1 = option_to_list down.load ++ standing passed output in
    let l2 = option_to_list device.load ++ (standing passed down.output.queue.0 ++ l1) in
    let l3 = option_to_list up.load ++ (standing passed device.output.queue.0 ++ l2) in
    a ∙ (ap (λ l. l ++ l1) b ∙ (joined (passed.sent device.output.queue.0) (option_to_list device.load) (standing passed down.output.queue.0) l1
    ∙ (ap (λ l. l ++ l2) c ∙ (joined (passed.sent input) (option_to_list up.load) (standing passed device.output.queue.0) l2
    ∙ (ap (λ l. l ++ l3) d ∙ append_assoc (passed.taken input) (standing passed input) l3)))))
  where
    joined : (w x y z : List Cargo) → (w ++ (x ++ y)) ++ z ≡ w ++ (x ++ (y ++ z))
    joined w x y z = append_assoc w (x ++ y) z ∙ ap (λ l. w ++ l) (append_assoc x y z)
