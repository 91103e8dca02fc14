use Rattle.std.proofs.Common.{rules, ◌≡◌, ◌∙◌, List, Result, IfOk, length, take, map, sym, ap, subst}
use Rattle.cargo_core.specs.declared.census.Census.{Census}
use Rattle.wire_core.specs.declared.names.Entry.{Entry}
use Rattle.bus_law.specs.BusOwners.Pools.{table_after, pool_lines}
use Rattle.bus_law.specs.declared.i2c_actors.member.Member.{Member}
use Rattle.i2c_play.specs.Plays.{recorded}
use Rattle.i2c_play.proofs.playing.report.Goals as goal

pub returns-clause-told : goal.returns-clause-told
returns-clause-told c =
    let s = c.args.small in
    let n = c.args.bus.now.clients in
    record {
      journal = c.from_vec.ensures ∙ c.into_parts-world.ensures.journal;
      counted = c.len.ensures ∙ (c.into_parts-world.result.2.ok.0 ∙ ap length c.into_parts-world.ensures.journal);
      replies = c.in_ok-replies.ensures ∙ ap (λ (l : List Member). map recorded (take n l)) (c.deref.ensures.value ∙ c.into_parts-world.ensures.actors);
      pools = subst (λ (r : Result (List Census) _). IfOk r (λ lines. lines ≡ pool_lines n (table_after n s.rows s.journal))) c.in_ok-pools.was (subst (λ (j : List Entry). IfOk c.bus_pools.result (λ lines. lines ≡ pool_lines n (table_after n s.rows j))) (c.deref-2.ensures.value ∙ c.into_parts-world.ensures.journal) (c.bus_pools.ensures s.rows));
    }
