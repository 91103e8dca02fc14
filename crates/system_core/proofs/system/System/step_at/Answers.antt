use Rattle.std.proofs.Common.{◌≡◌, ◌<◌, ◌++◌, ℕ, [], ◌∷◌, refl, sym, ap, ◌∙◌, length, length-set, map, slice_get, slice_set, Some, List, subst, arith, append_assoc}
use Rattle.std.specs.Vec.{vec_len}
use Rattle.std.proofs.lemmas.Option.{slice_get_read, slice_get_within}
use Rattle.wire_core.specs.Journal.{EachMoment}
use Rattle.wire_core.specs.Marks.{Brisk}
use Rattle.play_core.specs.Names.{Noted, notes_of, wild_in}
use Rattle.actor_set.specs.Actors.{part_of}
use Rattle.actor_set.specs.Laws.Kinds.{hostiles, scene_of}
use Rattle.player_kit.specs.Calls.Noting.{kept_at, notes_in}
use Rattle.cast_bound.specs.Dropping.{drops_in}
use Rattle.system_core.specs.Shows.{Setting, Shown, KeepsSetting, hostile_in, runs, NamesTell, RowsStand}
use Rattle.system_core.specs.States.{history_of, begun, names_left}
use Rattle.system_core.specs.Lawful.{IsFitted}
use Rattle.system_core.specs.Inside.{setting_of}
use Rattle.system_core.proofs.SystemStep.{entry_of}
use Rattle.system_core.specs.Plays.{runnable_now}
use Rattle.system_core.specs.Asking.{IsAsked}
use Rattle.system_core.specs.Systems.{Holds, HoldsBefore, PutTheirOwn}
use Rattle.system_core.proofs.Stepping.{caller_owns, rung_there, system_then}
use Rattle.system_core.proofs.Hearing.{runner_there}
use Rattle.system_core.proofs.Entering.{last_long, longer, taken_back, written_last, after_ok, after_err}
use Rattle.system_core.proofs.Noting.{before_on, kept_there, may_here, names_then, none_more, plain_step, refitted}
use Rattle.system_core.proofs.system.System.step_at.Goals as goal
use Rattle.player_kit.proofs.Listing.{set_same}

-- where there is no room nothing changed
pub invariant_of-self : goal.invariant_of-self
invariant_of-self c = record {
  fitted = rw c.make_room.ensures.names c.self.invariant.fitted;
  before = rw c.make_room.ensures.names c.self.invariant.before;
  holds = rw (c.make_room.ensures.journal, c.make_room.ensures.names) c.self.invariant.holds;
  rows_hold = rw (c.make_room.ensures.journal, c.make_room.ensures.names) c.self.invariant.rows_hold;
  names_tell = rw (c.make_room.ensures.journal, c.make_room.ensures.names) c.self.invariant.names_tell;
  brisk = rw c.make_room.ensures.journal c.self.invariant.brisk;
  own = rw c.make_room.ensures.journal c.self.invariant.own;
  kept = c.self.invariant.kept;
  none_last = c.self.invariant.none_last;
  running = rw (c.make_room.ensures.journal, c.make_room.ensures.names) c.self.invariant.running;
  room = c.self.invariant.room;
}

pub at-number-requires : goal.at-number-requires
at-number-requires c = subst (λ n. c.args.place < n) (sym (ap length c.self.invariant.running ∙ ap (λ (s : Shown). length (runnable_now s)) c.self.view_is)) c.requires

pub index_mut-actor-requires : goal.index_mut-actor-requires
index_mut-actor-requires c =
    let lt : c.at-number.result < length c.self.inside.actors.items = runner_there c.self.inside c.self.invariant c.args.place c.at-number.result c.at-number.ensures in
    let v : vec_len c.self.inside.actors ≡ length c.self.inside.actors.items = c.self.inside.actors.ok.0 in
    omega arith

pub step-requires-clause-fits : goal.step-requires-clause-fits
step-requires-clause-fits c =
    let lt : c.at-number.result < length c.self.inside.actors.items = runner_there c.self.inside c.self.invariant c.args.place c.at-number.result c.at-number.ensures in
    c.self.invariant.holds.fits c.at-number.result c.index_mut-actor.result.now (slice_get_read c.self.inside.actors.items _ c.at-number.result c.index_mut-actor.result.now refl lt c.index_mut-actor.ensures.value)

pub step-requires-clause-may : goal.step-requires-clause-may
step-requires-clause-may c =
    let lt : c.at-number.result < length c.self.inside.actors.items = runner_there c.self.inside c.self.invariant c.args.place c.at-number.result c.at-number.ensures in
    let here : slice_get c.self.inside.actors.items c.at-number.result ≡ Some c.index_mut-actor.result.now = slice_get_read c.self.inside.actors.items _ c.at-number.result c.index_mut-actor.result.now refl lt c.index_mut-actor.ensures.value in
    may_here c.self.inside c.self.invariant c.args.place c.at-number.result c.index_mut-actor.result.now c.at-number.ensures here

pub index_mut-requires : goal.index_mut-requires
index_mut-requires c =
    let p = ap length c.push_reserved.ensures.items in
    let n = last_long c.make_room.new.journal.items (entry_of c.at-number.result c.event_place.result) in
    let l = c.len-last.ensures in
    let v = c.make_room.new.journal.ok.0 in
    let w = c.push_reserved.new.self.ok.0 in
    omega (arith, p, n, l, v, w)

pub take_back-requires : goal.take_back-requires
take_back-requires c = longer c.self.inside.journal.items c.push_reserved.new.self.items c.len-last.result c.at-number.result c.event_place.result c.index_mut.result.now c.step.new.event (c.push_reserved.ensures.items ∙ ap (λ j. j ++ entry_of c.at-number.result c.event_place.result ∷ []) c.in_ok-make_room.ensures.journal) (c.len-last.ensures ∙ (c.make_room.new.journal.ok.0 ∙ ap length c.in_ok-make_room.ensures.journal)) c.index_mut.ensures.value

pub index-actor-requires : goal.index-actor-requires
index-actor-requires c =
    let lt : c.at-number.result < length c.self.inside.actors.items = runner_there c.self.inside c.self.invariant c.args.place c.at-number.result c.at-number.ensures in
    let v : vec_len c.self.inside.actors ≡ length c.self.inside.actors.items = c.self.inside.actors.ok.0 in
    omega arith

-- after want of memory nothing changed
pub invariant_of-self-in-Err : goal.invariant_of-self-in-Err
invariant_of-self-in-Err c =
    let lt : c.at-number.result < length c.self.inside.actors.items = runner_there c.self.inside c.self.invariant c.args.place c.at-number.result c.at-number.ensures in
    let here : slice_get c.self.inside.actors.items c.at-number.result ≡ Some c.index_mut-actor.result.now = slice_get_read c.self.inside.actors.items _ c.at-number.result c.index_mut-actor.result.now refl lt c.index_mut-actor.ensures.value in
    let set : slice_set c.self.inside.actors.items c.at-number.result c.step.new.self ≡ c.self.inside.actors.items = ap (slice_set c.self.inside.actors.items c.at-number.result) (after_err _ c.step.result _ c.in-Err.is c.step.ensures.unchanged) ∙ set_same c.self.inside.actors.items c.at-number.result c.index_mut-actor.result.now here in
    let same : record (begun (history_of c.self.inside.rows.items c.self.inside.past.value.items) c.self.inside.rows.items c.self.inside.pools.items (slice_set c.self.inside.actors.items c.at-number.result c.step.new.self) c.self.inside.net c.self.inside.serial c.self.inside.blk) { names = names_left 0 c.self.inside.past.value.items ++ c.self.inside.names.items } ≡ setting_of c.self.inside = ap (λ xs. record (begun (history_of c.self.inside.rows.items c.self.inside.past.value.items) c.self.inside.rows.items c.self.inside.pools.items xs c.self.inside.net c.self.inside.serial c.self.inside.blk) { names = names_left 0 c.self.inside.past.value.items ++ c.self.inside.names.items }) set in
    let back = c.take_back.ensures ∙ taken_back c.self.inside.journal.items c.push_reserved.new.self.items c.len-last.result c.at-number.result c.event_place.result c.index_mut.result.now c.step.new.event (c.push_reserved.ensures.items ∙ ap (λ j. j ++ entry_of c.at-number.result c.event_place.result ∷ []) c.in_ok-make_room.ensures.journal) (c.len-last.ensures ∙ (c.make_room.new.journal.ok.0 ∙ ap length c.in_ok-make_room.ensures.journal)) c.index_mut.ensures.value in
    record {
      fitted = rw c.in_ok-make_room.ensures.names (subst IsFitted (sym same) c.self.invariant.fitted);
      before = rw c.in_ok-make_room.ensures.names (subst HoldsBefore (sym same) c.self.invariant.before);
      holds = rw (after_err _ c.step.result _ c.in-Err.is c.step.ensures.no_call, back, c.in_ok-make_room.ensures.names) (subst (λ xs. Holds (history_of c.self.inside.rows.items c.self.inside.past.value.items) c.self.inside.rows.items (setting_of c.self.inside).names c.self.inside.wires.world xs c.self.inside.journal.items) (sym set) c.self.invariant.holds);
      rows_hold = rw (back, c.in_ok-make_room.ensures.names) (subst (λ z. EachMoment (RowsStand z) c.self.inside.journal.items) (sym same) c.self.invariant.rows_hold);
      names_tell = rw (back, c.in_ok-make_room.ensures.names) (subst (λ z. EachMoment (NamesTell z) c.self.inside.journal.items) (sym same) c.self.invariant.names_tell);
      brisk = rw back (subst (λ z. Brisk (hostile_in z) z.rows (drops_in z.cast) c.self.inside.journal.items) (sym same) c.self.invariant.brisk);
      own = rw back (subst (λ z. PutTheirOwn z c.self.inside.journal.items) (sym same) c.self.invariant.own);
      kept = rw (after_err _ c.step.result _ c.in-Err.is c.step.ensures.no_call) (subst (λ z. (n : ℕ) → kept_at c.self.inside.wires.kept.items n ≡ wild_in (hostile_in z) z.rows n) (sym same) c.self.invariant.kept);
      none_last = rw (after_err _ c.step.result _ c.in-Err.is c.step.ensures.no_call) c.self.invariant.none_last;
      running = rw (back, c.in_ok-make_room.ensures.names) (c.self.invariant.running ∙ ap (λ z. runs z c.self.inside.journal.items) (sym same));
      room = rw length-set c.self.invariant.room;
    }

pub keep_name-requires : goal.keep_name-requires
keep_name-requires c is = c.in_ok-make_room.ensures.name c.step.new.event.queue.0 (rw c.deref.ensures.value (kept_there c.self.inside.wires c.step.new.wires c.index_mut-actor.result.now c.step.new.self c.step.new.event (after_ok _ c.step.result _ c.in-Ok.is c.step.ensures.stepped) c.self.invariant.none_last is))

pub reach-other-requires : goal.reach-other-requires
reach-other-requires c =
    let lt : c.at-number.result < length c.self.inside.actors.items = runner_there c.self.inside c.self.invariant c.args.place c.at-number.result c.at-number.ensures in
    caller_owns _ _ _ _ c.self.inside.actors.items _ c.self.invariant.holds c.at-number.result c.index_mut-actor.result.now c.step.new.event c.index-row.result.now lt (after_ok _ c.step.result _ c.in-Ok.is c.step.ensures.stepped).happened.happened.there c.index_mut-actor.ensures.value c.index-row.ensures (after_ok _ c.step.result _ c.in-Ok.is c.step.ensures.own)

pub note-requires-clause-there : goal.note-requires-clause-there
note-requires-clause-there c = slice_get_within c.self.inside.running.list c.args.place c.at-number.result c.at-number.ensures

pub is_runnable-runs-requires : goal.is_runnable-runs-requires
is_runnable-runs-requires c = record { there = λ k rung. rw c.deref-2.ensures.value (rung_there _ _ _ _ c.self.inside.actors.items _ c.self.invariant.holds c.at-number.result c.step.new.self c.step.new.event c.index-row.result.now k (after_ok _ c.step.result _ c.in-Ok.is c.step.ensures.stepped).happened.happened.there c.index-row.ensures (sym c.reach-other.ensures ∙ rung)) }

pub note-requires-clause-room : goal.note-requires-clause-room
note-requires-clause-room c = (system_then (history_of c.self.inside.rows.items c.self.inside.past.value.items) c.self.inside.rows.items (setting_of c.self.inside).names c.self.inside.pools.items c.self.inside.net c.self.inside.serial c.self.inside.blk c.self.inside.wires.world c.step.new.wires.world c.self.inside.actors.items c.self.inside.journal.items c.at-number.result c.index_mut-actor.result.now c.step.new.self c.index-actor.result.now c.step.new.event c.index-row.result.now c.reach-other.result c.is_runnable-runs.result c.is_idle-idle.result c.args.place c.self.inside.running.list c.self.inside.running.room
    c.self.invariant.fitted c.self.invariant.holds c.self.invariant.rows_hold c.self.invariant.names_tell c.self.invariant.running c.self.invariant.room c.self.invariant.brisk c.self.invariant.before.flows c.self.invariant.own c.at-number.ensures c.index_mut-actor.ensures.value (after_ok _ c.step.result _ c.in-Ok.is c.step.ensures.own) (plain_step c.self.inside.wires c.step.new.wires c.index_mut-actor.result.now c.step.new.self c.step.new.event (after_ok _ c.step.result _ c.in-Ok.is c.step.ensures.stepped)) (after_ok _ c.step.result _ c.in-Ok.is c.step.ensures.turned) c.step.ensures.fits c.step.ensures.part c.index-actor.ensures c.index-row.ensures c.is_idle-idle.ensures c.reach-other.ensures (subst (λ xs. IsAsked xs c.step.new.wires.world c.reach-other.result c.is_runnable-runs.result) c.deref-2.ensures.value c.is_runnable-runs.ensures)).few

pub invariant_of-self-2 : goal.invariant_of-self-2
invariant_of-self-2 c =
    let put = written_last c.self.inside.journal.items c.push_reserved.new.self.items c.len-last.result c.at-number.result c.event_place.result c.index_mut.result.now c.step.new.event (c.push_reserved.ensures.items ∙ ap (λ j. j ++ entry_of c.at-number.result c.event_place.result ∷ []) c.in_ok-make_room.ensures.journal) (c.len-last.ensures ∙ (c.make_room.new.journal.ok.0 ∙ ap length c.in_ok-make_room.ensures.journal)) c.index_mut.ensures.value in
    let s = (system_then (history_of c.self.inside.rows.items c.self.inside.past.value.items) c.self.inside.rows.items (setting_of c.self.inside).names c.self.inside.pools.items c.self.inside.net c.self.inside.serial c.self.inside.blk c.self.inside.wires.world c.step.new.wires.world c.self.inside.actors.items c.self.inside.journal.items c.at-number.result c.index_mut-actor.result.now c.step.new.self c.index-actor.result.now c.step.new.event c.index-row.result.now c.reach-other.result c.is_runnable-runs.result c.is_idle-idle.result c.args.place c.self.inside.running.list c.self.inside.running.room
    c.self.invariant.fitted c.self.invariant.holds c.self.invariant.rows_hold c.self.invariant.names_tell c.self.invariant.running c.self.invariant.room c.self.invariant.brisk c.self.invariant.before.flows c.self.invariant.own c.at-number.ensures c.index_mut-actor.ensures.value (after_ok _ c.step.result _ c.in-Ok.is c.step.ensures.own) (plain_step c.self.inside.wires c.step.new.wires c.index_mut-actor.result.now c.step.new.self c.step.new.event (after_ok _ c.step.result _ c.in-Ok.is c.step.ensures.stepped)) (after_ok _ c.step.result _ c.in-Ok.is c.step.ensures.turned) c.step.ensures.fits c.step.ensures.part c.index-actor.ensures c.index-row.ensures c.is_idle-idle.ensures c.reach-other.ensures (subst (λ xs. IsAsked xs c.step.new.wires.world c.reach-other.result c.is_runnable-runs.result) c.deref-2.ensures.value c.is_runnable-runs.ensures)) in
    let st = (after_ok _ c.step.result _ c.in-Ok.is c.step.ensures.stepped) in
    let wild = wild_in (hostiles (map part_of c.self.inside.actors.items)) c.self.inside.rows.items in
    let notes : List Noted = notes_of wild (record { event = c.step.new.event; body = st.body }) in
    let was : List Noted = names_left 0 c.self.inside.past.value.items in
    let ns : List Noted = (was ++ c.self.inside.names.items) ++ notes in
    let nm : was ++ c.keep_name.new.names.items ≡ ns = ap (λ (xs : List Noted). was ++ xs) (c.keep_name.ensures.names ∙ (ap (λ xs. xs ++ notes_in c.step.new.event.queue.0 c.step.new.wires.last) c.in_ok-make_room.ensures.names ∙ names_then c.self.inside.names.items wild c.self.inside.wires c.step.new.wires c.index_mut-actor.result.now c.step.new.self c.step.new.event st c.self.invariant.kept c.self.invariant.none_last)) ∙ sym (append_assoc was c.self.inside.names.items notes) in
    let later : Setting = record (setting_of c.self.inside) { names = ns } in
    let same : record (begun (history_of c.self.inside.rows.items c.self.inside.past.value.items) c.self.inside.rows.items c.self.inside.pools.items (slice_set c.self.inside.actors.items c.at-number.result c.step.new.self) c.self.inside.net c.self.inside.serial c.self.inside.blk) { names = ns } ≡ later = ap (λ cast. record { history = history_of c.self.inside.rows.items c.self.inside.past.value.items; rows = c.self.inside.rows.items; pools = c.self.inside.pools.items; cast = cast; scene = scene_of cast; names = ns; net = c.self.inside.net; serial = c.self.inside.serial; blk = c.self.inside.blk }) s.cast_is in
    record {
      fitted = rw nm (subst IsFitted (sym same) (refitted (setting_of c.self.inside) ns c.self.invariant.fitted (none_more (setting_of c.self.inside) (record { event = c.step.new.event; body = st.body }) c.self.invariant.fitted)));
      before = rw nm (subst HoldsBefore (sym same) (before_on (setting_of c.self.inside) ns c.self.invariant.before));
      holds = rw (put, nm) s.holds;
      rows_hold = rw (put, nm) (subst (λ z. EachMoment (RowsStand z) (c.self.inside.journal.items ++ entry_of c.at-number.result c.step.new.event ∷ [])) (sym same) s.rows_hold);
      names_tell = rw (put, nm) (subst (λ z. EachMoment (NamesTell z) (c.self.inside.journal.items ++ entry_of c.at-number.result c.step.new.event ∷ [])) (sym same) s.names_tell);
      brisk = rw (put) (subst (λ z. Brisk (hostile_in z) z.rows (drops_in z.cast) (c.self.inside.journal.items ++ entry_of c.at-number.result c.step.new.event ∷ [])) (sym same) s.brisk);
      own = rw (put) (subst (λ z. PutTheirOwn z (c.self.inside.journal.items ++ entry_of c.at-number.result c.step.new.event ∷ [])) (sym same) s.own);
      kept = subst (λ z. (n : ℕ) → kept_at c.step.new.wires.kept.items n ≡ wild_in (hostile_in z) z.rows n) (sym same) (λ n. ap (λ k. kept_at k.items n) st.happened.kept ∙ c.self.invariant.kept n);
      none_last = c.keep_name.ensures.none;
      running = rw (put, c.note.ensures, nm) (s.running ∙ ap (λ z. runs z (c.self.inside.journal.items ++ entry_of c.at-number.result c.step.new.event ∷ [])) (sym same));
      room = rw c.note.ensures s.room_is;
    }

pub returns-clause-ok : goal.returns-clause-ok
returns-clause-ok c =
    let put = written_last c.self.inside.journal.items c.push_reserved.new.self.items c.len-last.result c.at-number.result c.event_place.result c.index_mut.result.now c.step.new.event (c.push_reserved.ensures.items ∙ ap (λ j. j ++ entry_of c.at-number.result c.event_place.result ∷ []) c.in_ok-make_room.ensures.journal) (c.len-last.ensures ∙ (c.make_room.new.journal.ok.0 ∙ ap length c.in_ok-make_room.ensures.journal)) c.index_mut.ensures.value in
    let s = (system_then (history_of c.self.inside.rows.items c.self.inside.past.value.items) c.self.inside.rows.items (setting_of c.self.inside).names c.self.inside.pools.items c.self.inside.net c.self.inside.serial c.self.inside.blk c.self.inside.wires.world c.step.new.wires.world c.self.inside.actors.items c.self.inside.journal.items c.at-number.result c.index_mut-actor.result.now c.step.new.self c.index-actor.result.now c.step.new.event c.index-row.result.now c.reach-other.result c.is_runnable-runs.result c.is_idle-idle.result c.args.place c.self.inside.running.list c.self.inside.running.room
    c.self.invariant.fitted c.self.invariant.holds c.self.invariant.rows_hold c.self.invariant.names_tell c.self.invariant.running c.self.invariant.room c.self.invariant.brisk c.self.invariant.before.flows c.self.invariant.own c.at-number.ensures c.index_mut-actor.ensures.value (after_ok _ c.step.result _ c.in-Ok.is c.step.ensures.own) (plain_step c.self.inside.wires c.step.new.wires c.index_mut-actor.result.now c.step.new.self c.step.new.event (after_ok _ c.step.result _ c.in-Ok.is c.step.ensures.stepped)) (after_ok _ c.step.result _ c.in-Ok.is c.step.ensures.turned) c.step.ensures.fits c.step.ensures.part c.index-actor.ensures c.index-row.ensures c.is_idle-idle.ensures c.reach-other.ensures (subst (λ xs. IsAsked xs c.step.new.wires.world c.reach-other.result c.is_runnable-runs.result) c.deref-2.ensures.value c.is_runnable-runs.ensures)) in
    let st = (after_ok _ c.step.result _ c.in-Ok.is c.step.ensures.stepped) in
    let wild = wild_in (hostiles (map part_of c.self.inside.actors.items)) c.self.inside.rows.items in
    let notes : List Noted = notes_of wild (record { event = c.step.new.event; body = st.body }) in
    let was : List Noted = names_left 0 c.self.inside.past.value.items in
    let nm : was ++ c.keep_name.new.names.items ≡ (was ++ c.self.inside.names.items) ++ notes = ap (λ (xs : List Noted). was ++ xs) (c.keep_name.ensures.names ∙ (ap (λ xs. xs ++ notes_in c.step.new.event.queue.0 c.step.new.wires.last) c.in_ok-make_room.ensures.names ∙ names_then c.self.inside.names.items wild c.self.inside.wires c.step.new.wires c.index_mut-actor.result.now c.step.new.self c.step.new.event st c.self.invariant.kept c.self.invariant.none_last)) ∙ sym (append_assoc was c.self.inside.names.items notes) in
    let later : Setting = record (setting_of c.self.inside) { names = was ++ c.keep_name.new.names.items } in
    let stays = ap (λ cast. record { history = history_of c.self.inside.rows.items c.self.inside.past.value.items; rows = c.self.inside.rows.items; pools = c.self.inside.pools.items; cast = cast; scene = scene_of cast; names = was ++ c.keep_name.new.names.items; net = c.self.inside.net; serial = c.self.inside.serial; blk = c.self.inside.blk }) s.cast_is in
    let after : Setting = record (begun (history_of c.self.inside.rows.items c.self.inside.past.value.items) c.self.inside.rows.items c.self.inside.pools.items (slice_set c.self.inside.actors.items c.at-number.result c.step.new.self) c.self.inside.net c.self.inside.serial c.self.inside.blk) { names = was ++ c.keep_name.new.names.items } in
    let keeps : KeepsSetting (setting_of c.self.inside) later = record { names = (notes, sym nm); stays = refl } in
    record {
      actor = c.at-number.result;
      there = subst (λ (s : Shown). slice_get (runnable_now s) c.args.place ≡ Some c.at-number.result) c.self.view_is (rw (← c.self.invariant.running) c.at-number.ensures);
      appends = record {
        event = c.step.new.event;
        setting = subst (λ (z : Shown). KeepsSetting z.setting after) c.self.view_is (subst (KeepsSetting (setting_of c.self.inside)) (sym stays) keeps);
        journal = put ∙ rw (ap (λ (s : Shown). s.journal) c.self.view_is) refl;
      };
    }
