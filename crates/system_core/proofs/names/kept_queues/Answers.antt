use Rattle.std.proofs.Common.{List, Bool, [], ◌∷◌, ◌++◌, map, take, sym, refl, ap, ◌∙◌, arith}
use Rattle.std.proofs.lemmas.Option.{slice_get_read}
use Rattle.play_core.specs.Names.{is_wild}
use Rattle.actor_set.specs.Actors.{part_of}
use Rattle.actor_set.specs.Laws.Kinds.{hostiles}
use Rattle.player_kit.specs.Calls.Noting.{kept_at}
use Rattle.system_core.proofs.Keeping.{kept_more, kept_none, kept_rows, kept_whole}
use Rattle.system_core.proofs.names.kept_queues.Goals as goal
use Rattle.system_core.proofs.names.kept_queues.Goals.{then-has_hostile+else-loop-row-test, else-has_hostile}

pub loop-row-preserved : goal.loop-row-preserved
loop-row-preserved c =
    let of = is_wild (hostiles (map part_of c.args.actors.now)) in
    c.in_ok-push.ensures.items
    ∙ (ap (λ ks. ks ++ c.is_wild.result ∷ []) c.loop-row.invariant
    ∙ (ap (λ (b : Bool). map of (take c.loop-row.row-index c.args.rows.now) ++ b ∷ []) c.is_wild.ensures
    ∙ sym (kept_more of c.args.rows.now c.loop-row.row-index c.row-item.result (slice_get_read c.args.rows.now _ c.loop-row.row-index c.row-item.result refl c.loop-row-test.true c.row-item.is))))

pub returns : goal.returns
returns c = elim c.if-has_hostile.branch [
  | then-has_hostile+else-loop-row-test w ↦ λ n. ap (λ v. kept_at v.items n) w.kept-is ∙ (ap (λ (ks : List Bool). kept_at ks n) (w.loop-row.invariant ∙ kept_whole (is_wild (hostiles (map part_of c.args.actors.now))) c.args.rows.now w.loop-row.row-index (omega arith)) ∙ kept_rows (hostiles (map part_of c.args.actors.now)) c.args.rows.now n)
  | else-has_hostile w ↦ λ n. ap (λ v. kept_at v.items n) w.kept-is ∙ (ap (λ (ks : List Bool). kept_at ks n) c.new-kept.ensures.items ∙ kept_none (map part_of c.args.actors.now) c.args.rows.now (c.has_hostile.ensures w.if-has_hostile.false) n)
]
