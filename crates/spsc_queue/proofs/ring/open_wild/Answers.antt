use Rattle.std.proofs.Common.{rules, ◌≡◌, ℕ, ◌+◌, true, List, set, replicate, sym, subst, None}
use Rattle.atomic_table.specs.Table.{opening}
use Rattle.spsc_queue.specs.Rule.{RingHolds, first_view}
use Rattle.spsc_queue.proofs.Opening.{starts_wild, capacity_fits}
use Rattle.spsc_queue.proofs.ring.open_wild.Goals as goal

pub vacant-requires : goal.vacant-requires
vacant-requires c = let fits = capacity_fits c.args.capacity c.requires in let e : c.deref.result.now ≡ set (replicate (36 + c.args.capacity) 0) 2 1 = search rules in
    subst (λ (z : List ℕ). RingHolds true c.args.kind (opening z (replicate c.args.capacity None) (first_view record { kind = c.args.kind; wild = true }))) (sym e) (starts_wild c.args.kind c.args.capacity 1 fits.0 fits.1 fits.2)
