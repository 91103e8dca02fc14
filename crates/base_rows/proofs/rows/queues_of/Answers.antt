use Rattle.std.proofs.Common.{◌≡◌, length, ap, arith, rules, sym, subst}
use Rattle.std.proofs.lemmas.List.Elements.{All-push, All-same}
use Rattle.std.proofs.lemmas.Result.{IfOk-weaker}
use Rattle.cargo_core.specs.Capacities.{IsCapacity}
use Rattle.wire_core.specs.Queues.{starts}
use Rattle.base_rows.specs.Hands.{AreQueues}
use Rattle.base_rows.proofs.Started.{new_queues}
use Rattle.base_rows.proofs.rows.queues_of.Goals as goal

pub loop-place-preserved : goal.loop-place-preserved
loop-place-preserved c = (
  search rules,
  All-same (λ r. r.kind ≡ c.args.kind) _ _ c.in_ok-push.ensures.items
      (All-push (λ r. r.kind ≡ c.args.kind) _ _ c.loop-place.invariant.1 c.in_ok-row.ensures.kind),
  All-same (λ r. IsCapacity r.capacity) _ _ c.in_ok-push.ensures.items
      (All-push (λ r. IsCapacity r.capacity) _ _ c.loop-place.invariant.2
      (subst IsCapacity (sym c.in_ok-row.ensures.capacity) c.requires)),
)

pub new-requires : goal.new-requires
new-requires c = record {
  few = omega (arith, c.loop-place.auto._place-end, c.ranges.count.fits, c.loop-place.invariant.0, ap length c.deref.ensures.value);
  capacities = All-same (λ r. IsCapacity r.capacity) _ _ c.deref.ensures.value c.loop-place.invariant.2;
}

pub returns : goal.returns
returns c = IfOk-weaker c.new.result (λ w. w ≡ starts c.deref.result.now) (λ w. AreQueues c.args.kind c.args.count w)
    (λ w e. subst (AreQueues c.args.kind c.args.count) (sym e) (new_queues c.args.kind c.deref.result.now c.args.count (All-same (λ r. r.kind ≡ c.args.kind) _ _ c.deref.ensures.value c.loop-place.invariant.1)
    (let long = ap length c.deref.ensures.value in let many = c.loop-place.invariant.0 in let most = c.loop-place.auto._place-end in let over = c.loop-place-test.false in omega (arith, long, many, most, over))))
    c.new.ensures
