use Rattle.std.proofs.Common.{◌≡◌, Some, slice_get, refl, sym, ap, ◌∙◌, subst}
use Rattle.cargo_core.specs.declared.item.PoolId.{PoolId}
use Rattle.i2c_virt.proofs.Working.{desk_read, response_parts, away_desk, back_work, back_answered, back_turn}
use Rattle.i2c_virt.proofs.Loosening.{rises_at}
use Rattle.i2c_virt.proofs.work.Work.take_back.Goals as goal

pub returns-clause-work : goal.returns-clause-work
returns-clause-work c =
    let w = c.args.self.now in
    let p = c.in-Page.page in
    let x = c.index_mut-desk.result.now in
    let r = response_parts w c.args.entry p c.in-Page.is c.requires.due in
    let k : p.pool.0 ≡ c.from-client.result = sym (c.from-client.ensures ∙ ap (λ (q : PoolId). q.0) c.pool.ensures) in
    let at = desk_read w.desks.items c.from-client.result x r.desk (subst (λ n. slice_get w.desks.items n ≡ Some r.desk) k r.there) c.index_mut-desk.ensures.value in
    back_work w _ c.from-client.result x c.take_back.new.self at refl c.requires.work p c.take_back.ensures (away_desk w c.args.entry p x r (subst (λ n. slice_get w.desks.items n ≡ Some x) (sym k) at)) k refl

pub returns-clause-answered : goal.returns-clause-answered
returns-clause-answered c =
    let w = c.args.self.now in
    let p = c.in-Page.page in
    let x = c.index_mut-desk.result.now in
    let r = response_parts w c.args.entry p c.in-Page.is c.requires.due in
    let k : p.pool.0 ≡ c.from-client.result = sym (c.from-client.ensures ∙ ap (λ (q : PoolId). q.0) c.pool.ensures) in
    let at = desk_read w.desks.items c.from-client.result x r.desk (subst (λ n. slice_get w.desks.items n ≡ Some r.desk) k r.there) c.index_mut-desk.ensures.value in
    back_turn _ _ _ c.requires.due (back_answered w _ c.from-client.result x c.take_back.new.self at refl c.requires.work p c.take_back.ensures (away_desk w c.args.entry p x r (subst (λ n. slice_get w.desks.items n ≡ Some x) (sym k) at)) k refl c.args.entry r.is refl)

pub returns-clause-rises : goal.returns-clause-rises
returns-clause-rises c = rises_at c.args.self.now _ c.from-client.result c.take_back.new.self refl refl
