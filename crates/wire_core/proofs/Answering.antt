use Rattle.std.proofs.Common.{◌≡◌, ◌&&◌, Bool, true, false, refl, ap, ◌∙◌}
use Rattle.wire_core.specs.declared.names.Op.{Op}
use Rattle.wire_core.specs.declared.names.Op.TheVariants as Do
use Rattle.wire_core.specs.declared.names.Answer.{Answer}
use Rattle.wire_core.specs.declared.names.Answer.TheVariants.{Yes}
use Rattle.wire_core.specs.Deeds.{Deed, answer_of}
use Rattle.wire_core.specs.Queues.{Queue, Bells, May, Answers, Tells, Finds, is_store, is_filled, has_room, sees, finds_room, after}

yes_is : (b c : Bool) (a : Answer) → a ≡ answer_of (b && c) → a ≡ Yes → b ≡ true
yes_is true c a h y = refl
yes_is false c a h y = cc

answers_find : (filled room : Bool) (c d : Bool) (b : Bells) (o : Op) (a : Answer) → Answers filled room (filled && c) (room && d) b o a → Finds filled room o a
answers_find filled room c d b Do.See a h = yes_is filled c a h
answers_find filled room c d b Do.Room a h = yes_is room d a h
answers_find filled room c d b Do.Take a h = h.1
answers_find filled room c d b Do.Put a h = h.1
answers_find filled room c d b (Do.Ask s) a h = tt
answers_find filled room c d b (Do.Waive s) a h = tt
answers_find filled room c d b (Do.Wake s) a h = tt
answers_find filled room c d b (Do.Wanted s) a h = tt
answers_find filled room c d b (Do.Settle s) a h = tt
answers_find filled room c d b (Do.Ring s) a h = tt
answers_find filled room c d b (Do.Store w v) a h = tt

-- a look answers yes, and an entry is moved, only where one stands there or has room
pub finds : (q : Queue) (d : Deed) → May q d → Finds (is_filled q) (has_room q) d.event.op d.event.answer
finds q d m = answers_find (is_filled q) (has_room q) _ _ q.bells d.event.op d.event.answer m.tells

and_true : (b : Bool) → (b && true) ≡ b
and_true true = refl
and_true false = refl

plain_tells : (filled room seen roomed : Bool) (b : Bells) (o : Op) (a : Answer) → seen ≡ filled → roomed ≡ room → is_store o ≡ false → Answers filled room seen roomed b o a → Tells filled room b o a
plain_tells filled room seen roomed b Do.See a e r c h = h ∙ ap answer_of e
plain_tells filled room seen roomed b Do.Room a e r c h = h ∙ ap answer_of r
plain_tells filled room seen roomed b Do.Take a e r c h = h
plain_tells filled room seen roomed b Do.Put a e r c h = h
plain_tells filled room seen roomed b (Do.Ask s) a e r c h = h
plain_tells filled room seen roomed b (Do.Waive s) a e r c h = h
plain_tells filled room seen roomed b (Do.Wake s) a e r c h = h
plain_tells filled room seen roomed b (Do.Wanted s) a e r c h = h
plain_tells filled room seen roomed b (Do.Settle s) a e r c h = h
plain_tells filled room seen roomed b (Do.Ring s) a e r c h = h
plain_tells filled room seen roomed b (Do.Store w v) a e r c h = cc

-- where no word was stored, looks answer by the entries alone
pub tells : (q : Queue) (d : Deed) → May q d → q.indices.stored ≡ false → is_store d.event.op ≡ false → Tells (is_filled q) (has_room q) q.bells d.event.op d.event.answer
tells q d m none plain = plain_tells (is_filled q) (has_room q) (sees q) (finds_room q) q.bells d.event.op d.event.answer (rw none (and_true (is_filled q))) (rw none (and_true (has_room q))) plain m.tells

still : (q : Queue) (d : Deed) (o : Op) → d.event.op ≡ o → is_store o ≡ false → (after q d).indices.stored ≡ q.indices.stored
still q d Do.See e h = rw e refl
still q d Do.Room e h = rw e refl
still q d Do.Take e h = rw e refl
still q d Do.Put e h = rw e refl
still q d (Do.Ask s) e h = rw e refl
still q d (Do.Waive s) e h = rw e refl
still q d (Do.Wake s) e h = rw e refl
still q d (Do.Wanted s) e h = rw e refl
still q d (Do.Settle s) e h = rw e refl
still q d (Do.Ring s) e h = rw e refl
still q d (Do.Store w v) e h = cc

pub stays : (q : Queue) (d : Deed) → is_store d.event.op ≡ false → (after q d).indices.stored ≡ q.indices.stored
stays q d h = still q d d.event.op refl h
