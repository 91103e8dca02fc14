use Rattle.std.proofs.Common.{◌≡◌, ◌<◌, ◌++◌, [], ◌∷◌, refl, sym, ap, ◌∙◌, length, length-set, slice_get, slice_set, Some, subst, arith}
use Rattle.std.specs.Vec.{vec_len}
use Rattle.std.proofs.lemmas.Option.{slice_get_read, slice_get_within}
use Rattle.small_system.specs.Meanings.{Acts}
use Rattle.small_system.specs.Shows.{shown, IsAsked, StepsAt}
use Rattle.small_system.specs.Inside.{IsSmall}
use Rattle.small_system.proofs.Keeping.{runner_there, rung_there, all_fit, told_then, fit_then, steps_at, small_then, entry_by, written_last, longer, taken_back, after_ok, after_err}
use Rattle.small_system.proofs.Telling.{stands_now}
use Rattle.small_system.proofs.small.Small.step_at.Goals as goal
use Rattle.player_kit.proofs.Listing.{set_same}

pub index_mut-requires : goal.index_mut-requires
index_mut-requires g c =
    let n = c.push_reserved.ensures.len in
    let l = c.len-last.ensures in
    omega (arith, n, l)

pub index_mut-actor-requires : goal.index_mut-actor-requires
index_mut-actor-requires g c =
    let lt : c.at-number.result < length c.self.inside.actors.items = runner_there g.A.SmallActor.means _ c.self.inside.running c.self.invariant c.args.place c.at-number.result c.at-number.ensures in
    let v : vec_len c.self.inside.actors ≡ length c.self.inside.actors.items = c.self.inside.actors.ok.0 in
    omega arith

pub step-requires : goal.step-requires
step-requires g c =
    let lt : c.at-number.result < length c.self.inside.actors.items = runner_there g.A.SmallActor.means _ c.self.inside.running c.self.invariant c.args.place c.at-number.result c.at-number.ensures in
    (stands_now g.A.SmallActor.means g.met.A.SmallActor.lawful _ c.self.invariant.told).holds.fits c.at-number.result c.index_mut-actor.result.now (slice_get_read c.self.inside.actors.items _ c.at-number.result c.index_mut-actor.result.now refl lt c.index_mut-actor.ensures.value)

pub index-actor-requires : goal.index-actor-requires
index-actor-requires g c =
    let lt : c.at-number.result < length c.self.inside.actors.items = runner_there g.A.SmallActor.means _ c.self.inside.running c.self.invariant c.args.place c.at-number.result c.at-number.ensures in
    let v : vec_len c.self.inside.actors ≡ length c.self.inside.actors.items = c.self.inside.actors.ok.0 in
    omega arith

pub take_back-requires : goal.take_back-requires
take_back-requires g c = longer c.self.inside.journal.items c.push_reserved.new.self.items c.len-last.result c.at-number.result c.event_place.result c.index_mut.result.now c.step.new.event (c.push_reserved.ensures.items ∙ ap (λ j. j ++ entry_by c.at-number.result c.event_place.result ∷ []) c.in_ok-reserve.ensures.items) (c.len-last.ensures ∙ (c.reserve.new.self.ok.0 ∙ ap length c.in_ok-reserve.ensures.items)) c.index_mut.ensures.value

-- after want of memory nothing changed
pub invariant_of-self-in-Err : goal.invariant_of-self-in-Err
invariant_of-self-in-Err g c =
    let lt : c.at-number.result < length c.self.inside.actors.items = runner_there g.A.SmallActor.means _ c.self.inside.running c.self.invariant c.args.place c.at-number.result c.at-number.ensures in
    let here : slice_get c.self.inside.actors.items c.at-number.result ≡ Some c.index_mut-actor.result.now = slice_get_read c.self.inside.actors.items _ c.at-number.result c.index_mut-actor.result.now refl lt c.index_mut-actor.ensures.value in
    let set : slice_set c.self.inside.actors.items c.at-number.result c.step.new.self ≡ c.self.inside.actors.items = ap (slice_set c.self.inside.actors.items c.at-number.result) (after_err _ c.step.result _ c.in-Err.is c.step.ensures.unchanged) ∙ set_same c.self.inside.actors.items c.at-number.result c.index_mut-actor.result.now here in
    rw (after_err _ c.step.result _ c.in-Err.is c.step.ensures.no_call, c.take_back.ensures ∙ taken_back c.self.inside.journal.items c.push_reserved.new.self.items c.len-last.result c.at-number.result c.event_place.result c.index_mut.result.now c.step.new.event (c.push_reserved.ensures.items ∙ ap (λ j. j ++ entry_by c.at-number.result c.event_place.result ∷ []) c.in_ok-reserve.ensures.items) (c.len-last.ensures ∙ (c.reserve.new.self.ok.0 ∙ ap length c.in_ok-reserve.ensures.items)) c.index_mut.ensures.value) (subst (λ xs. IsSmall g.A.SmallActor.means (shown c.self.inside.rows.items c.self.inside.start.value.items c.self.inside.world xs c.self.inside.journal.items) c.self.inside.running) (sym set) c.self.invariant)

pub is_idle-idle-requires : goal.is_idle-idle-requires
is_idle-idle-requires g c = fit_then g.A.SmallActor.means g.met.A.SmallActor.lawful c.self.inside.rows.items c.self.inside.start.value.items c.self.inside.world c.step.new.world c.self.inside.actors.items c.self.inside.journal.items c.at-number.result c.index_mut-actor.result.now c.step.new.self c.step.new.event c.args.place c.self.inside.running c.self.invariant c.at-number.ensures c.index_mut-actor.ensures.value (after_ok (Acts g.A.SmallActor.means c.self.inside.world c.step.new.world c.index_mut-actor.result.now c.step.new.self c.step.new.event) c.step.result c.in-Ok.field-0 c.in-Ok.is c.step.ensures.acts) c.step.ensures.fits c.index-actor.result.now c.index-actor.ensures

pub note-requires-clause-there : goal.note-requires-clause-there
note-requires-clause-there g c = slice_get_within c.self.inside.running.list c.args.place c.at-number.result c.at-number.ensures

pub is_woken-woken-requires-clause-there : goal.is_woken-woken-requires-clause-there
is_woken-woken-requires-clause-there g c = λ k rung. rw c.deref.ensures.value (rung_there g.A.SmallActor.means g.met.A.SmallActor.lawful (shown c.self.inside.rows.items c.self.inside.start.value.items c.self.inside.world c.self.inside.actors.items c.self.inside.journal.items) c.self.invariant.told c.at-number.result c.step.new.self c.step.new.event c.index-row.result.now k (after_ok (Acts g.A.SmallActor.means c.self.inside.world c.step.new.world c.index_mut-actor.result.now c.step.new.self c.step.new.event) c.step.result c.in-Ok.field-0 c.in-Ok.is c.step.ensures.acts).happened.there c.index-row.ensures (sym c.rung_at-rung.ensures ∙ rung))

pub is_woken-woken-requires-clause-fit : goal.is_woken-woken-requires-clause-fit
is_woken-woken-requires-clause-fit g c = λ k x at. all_fit g.A.SmallActor.means g.met.A.SmallActor.lawful _ (told_then g.A.SmallActor.means g.met.A.SmallActor.lawful c.self.inside.rows.items c.self.inside.start.value.items c.self.inside.world c.step.new.world c.self.inside.actors.items c.self.inside.journal.items c.at-number.result c.index_mut-actor.result.now c.step.new.self c.step.new.event c.args.place c.self.inside.running c.self.invariant c.at-number.ensures c.index_mut-actor.ensures.value (after_ok (Acts g.A.SmallActor.means c.self.inside.world c.step.new.world c.index_mut-actor.result.now c.step.new.self c.step.new.event) c.step.result c.in-Ok.field-0 c.in-Ok.is c.step.ensures.acts) c.step.ensures.fits) k x (ap (λ xs. slice_get xs k) (sym c.deref.ensures.value) ∙ at)

pub note-requires-clause-room : goal.note-requires-clause-room
note-requires-clause-room g c = (small_then g.A.SmallActor.means g.met.A.SmallActor.lawful c.self.inside.rows.items c.self.inside.start.value.items c.self.inside.world c.step.new.world c.self.inside.actors.items c.self.inside.journal.items c.at-number.result c.index_mut-actor.result.now c.step.new.self c.step.new.event c.args.place c.self.inside.running c.self.invariant c.at-number.ensures c.index_mut-actor.ensures.value (after_ok (Acts g.A.SmallActor.means c.self.inside.world c.step.new.world c.index_mut-actor.result.now c.step.new.self c.step.new.event) c.step.result c.in-Ok.field-0 c.in-Ok.is c.step.ensures.acts) c.step.ensures.fits c.index-actor.result.now c.index-row.result.now c.rung_at-rung.result c.is_woken-woken.result c.is_idle-idle.result c.index-actor.ensures c.index-row.ensures c.is_idle-idle.ensures c.rung_at-rung.ensures (subst (λ xs. IsAsked g.A.SmallActor.means xs c.step.new.world c.rung_at-rung.result c.is_woken-woken.result) c.deref.ensures.value c.is_woken-woken.ensures)).few

pub invariant_of-self-2 : goal.invariant_of-self-2
invariant_of-self-2 g c =
    rw (written_last c.self.inside.journal.items c.push_reserved.new.self.items c.len-last.result c.at-number.result c.event_place.result c.index_mut.result.now c.step.new.event (c.push_reserved.ensures.items ∙ ap (λ j. j ++ entry_by c.at-number.result c.event_place.result ∷ []) c.in_ok-reserve.ensures.items) (c.len-last.ensures ∙ (c.reserve.new.self.ok.0 ∙ ap length c.in_ok-reserve.ensures.items)) c.index_mut.ensures.value, c.note.ensures)
    (small_then g.A.SmallActor.means g.met.A.SmallActor.lawful c.self.inside.rows.items c.self.inside.start.value.items c.self.inside.world c.step.new.world c.self.inside.actors.items c.self.inside.journal.items c.at-number.result c.index_mut-actor.result.now c.step.new.self c.step.new.event c.args.place c.self.inside.running c.self.invariant c.at-number.ensures c.index_mut-actor.ensures.value (after_ok (Acts g.A.SmallActor.means c.self.inside.world c.step.new.world c.index_mut-actor.result.now c.step.new.self c.step.new.event) c.step.result c.in-Ok.field-0 c.in-Ok.is c.step.ensures.acts) c.step.ensures.fits c.index-actor.result.now c.index-row.result.now c.rung_at-rung.result c.is_woken-woken.result c.is_idle-idle.result c.index-actor.ensures c.index-row.ensures c.is_idle-idle.ensures c.rung_at-rung.ensures (subst (λ xs. IsAsked g.A.SmallActor.means xs c.step.new.world c.rung_at-rung.result c.is_woken-woken.result) c.deref.ensures.value c.is_woken-woken.ensures)).small

pub returns-clause-ok : goal.returns-clause-ok
returns-clause-ok g c =
    rw (written_last c.self.inside.journal.items c.push_reserved.new.self.items c.len-last.result c.at-number.result c.event_place.result c.index_mut.result.now c.step.new.event (c.push_reserved.ensures.items ∙ ap (λ j. j ++ entry_by c.at-number.result c.event_place.result ∷ []) c.in_ok-reserve.ensures.items) (c.len-last.ensures ∙ (c.reserve.new.self.ok.0 ∙ ap length c.in_ok-reserve.ensures.items)) c.index_mut.ensures.value) (subst (λ s. StepsAt g.A.SmallActor.means c.args.place s (shown c.self.inside.rows.items c.self.inside.start.value.items c.step.new.world (slice_set c.self.inside.actors.items c.at-number.result c.step.new.self) (c.self.inside.journal.items ++ entry_by c.at-number.result c.step.new.event ∷ []))) c.self.view_is (steps_at g.A.SmallActor.means g.met.A.SmallActor.lawful c.self.inside.rows.items c.self.inside.start.value.items c.self.inside.world c.step.new.world c.self.inside.actors.items c.self.inside.journal.items c.at-number.result c.index_mut-actor.result.now c.step.new.self c.step.new.event c.args.place c.self.inside.running c.self.invariant c.at-number.ensures c.index_mut-actor.ensures.value (after_ok (Acts g.A.SmallActor.means c.self.inside.world c.step.new.world c.index_mut-actor.result.now c.step.new.self c.step.new.event) c.step.result c.in-Ok.field-0 c.in-Ok.is c.step.ensures.acts) c.step.ensures.fits))

pub index-row-requires : goal.index-row-requires
index-row-requires g c =
    let holds = (stands_now g.A.SmallActor.means g.met.A.SmallActor.lawful (shown c.self.inside.rows.items c.self.inside.start.value.items c.self.inside.world c.self.inside.actors.items c.self.inside.journal.items) c.self.invariant.told).holds in
    let lt : c.step.new.event.queue.0 < length c.self.inside.rows.items = subst (λ n. c.step.new.event.queue.0 < n) holds.size (after_ok (Acts g.A.SmallActor.means c.self.inside.world c.step.new.world c.index_mut-actor.result.now c.step.new.self c.step.new.event) c.step.result c.in-Ok.field-0 c.in-Ok.is c.step.ensures.acts).happened.there in
    let v : vec_len c.self.inside.rows ≡ length c.self.inside.rows.items = c.self.inside.rows.ok.0 in
    omega arith
