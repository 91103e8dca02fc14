use Rattle.std.proofs.Common.{◌+◌, ◌*◌, ◌∙◌, Bool, false, Result, Ok, Err, IfOk, get_or, ap}
use Rattle.std.proofs.lemmas.Option.{get_or_from_slice_get}
use Rattle.bus_law.specs.BusOwners.Pools.{line_by}
use Rattle.bus_law.proofs.bus_owners.pools.line_in.Goals as goal

-- what holds of a result that is good
good : {V E : Type 0} (P Q : V → Type 0) → ((v : V) → P v → Q v) → (r : Result V E) → IfOk r P → IfOk r Q
good P Q f (Ok v) h = f v h
good P Q f (Err e) h = tt

pub returns : goal.returns
returns c =
    let q = c.args.queued.now in
    let k = c.args.client in
    good _ _ (λ line is first second a b.
    is ∙ (ap (λ (x : Bool). line_by k x (get_or q (2 * k + 1) false)) (get_or_from_slice_get q (2 * k) first false a)
    ∙ ap (λ (x : Bool). line_by k first x) (get_or_from_slice_get q (2 * k + 1) second false b))) c.line.result c.line.ensures
