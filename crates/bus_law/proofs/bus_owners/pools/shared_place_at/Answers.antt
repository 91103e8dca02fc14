use Rattle.std.proofs.Common.{◌≡◌, ◌*◌, ◌/◌, sym, arith}
use Rattle.bus_law.proofs.BusOwners.Replaying.{shared_at, shared_off}
use Rattle.bus_law.proofs.bus_owners.pools.shared_place_at.Goals as goal

pub returns-then-place-from-clause-place : goal.returns-then-place-from-clause-place
returns-then-place-from-clause-place c = sym (shared_off 0 c.args.clients c.args.address (λ m e hi.
    let many = c.from.ensures in
    let past = c.if-place-from.true in
    omega (arith, e, hi, many, past)))

pub returns-then-place-address-clause-place : goal.returns-then-place-address-clause-place
returns-then-place-address-clause-place c = sym (shared_off 0 c.args.clients c.args.address (λ m e hi.
    let back : c.args.address / 64 * 64 ≡ c.args.address = omega (arith, e) in
    c.if-place-address.true back))

pub returns-clause-place : goal.returns-clause-place
returns-clause-place c =
    let many = c.from.ensures in
    let within = c.if-place-from.false in
    sym (shared_at 0 c.args.clients c.args.address (c.args.address / 64) (sym c.if-place-address.false) (omega arith) (omega (arith, many, within)))
