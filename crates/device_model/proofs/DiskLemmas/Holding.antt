use Rattle.std.proofs.Common.{ℕ, List, ap, ◌∙◌, arith}
use Rattle.std.specs.Option.{option_to_list}
use Rattle.cargo_core.specs.Bodies.{buffers_of}
use Rattle.wire_core.specs.Lists.{Passed}
use Rattle.turn_kit.specs.Hands.{bodies_of}
use Rattle.turn_kit.proofs.Holding.{at_one, cargo-append}
use Rattle.device_model.specs.declared.disk.DiskDevice.{DiskDevice}
use Rattle.device_model.specs.Disk.Disks.{DiskStandsFor, DiskBalances, req, resp}
use Rattle.device_model.proofs.DiskLemmas.Replaying.{answers_in}

-- what it took is what it put and what it has
pub balance_of : (start : List ℕ) (d : DiskDevice) (passed : Passed) → DiskStandsFor start d passed → DiskBalances d passed
balance_of start d passed h pool =
    let came = at_one pool passed.taken (req d) in
    let went = at_one pool passed.sent (resp d) in
    let taken = ap (λ cs. buffers_of pool (bodies_of cs)) h.taken ∙ cargo-append pool h.requests (option_to_list d.stray) in
    let answered = ap (λ cs. buffers_of pool (bodies_of cs)) h.answered ∙ answers_in pool start h.requests in
    let parts = cargo-append pool (passed.sent (resp d)) (option_to_list d.load) in
    let hand = cargo-append pool (option_to_list d.load) (option_to_list d.stray) in
    omega (arith, came, went, taken, answered, parts, hand)
