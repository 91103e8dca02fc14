use Rattle.std.proofs.Common.{◌≡◌, ◌≢◌, ◌&&◌, ◌||◌, not, Bool, true, false, Option, Some, None, refl, sym, ap, ◌∙◌, subst}
use Rattle.wire_core.specs.declared.names.Event.{Event}
use Rattle.wire_core.specs.declared.names.Side.{Side}
use Rattle.wire_core.specs.declared.names.Side.TheVariants.{Forward, Backward}
use Rattle.wire_core.specs.declared.names.Answer.{Answer}
use Rattle.wire_core.specs.declared.names.Answer.TheVariants.{Done, Yes, No}
use Rattle.wire_core.specs.declared.names.Waiter.{Waiter}
use Rattle.wire_core.specs.declared.names.Waiter.TheVariants as Wait
use Rattle.wire_core.specs.declared.names.Ringer.{Ringer}
use Rattle.wire_core.specs.declared.names.Ringer.TheVariants as Rung
use Rattle.wire_core.specs.Bells.{is_free}
use Rattle.wire_core.specs.Ends.{is_busy_or_off, is_clear}
use Rattle.wire_core.specs.Marks.{is_vain_look}
use Rattle.turn_kit.specs.declared.end_state.EndState.{EndState}
use Rattle.turn_kit.specs.Table.{next_of, state_after, start_state, is_settled}
use Rattle.turn_kit.specs.Calls.{may_answer}
use Rattle.turn_kit.specs.Turns.{Post, Posted, forgotten_if}
use Rattle.turn_kit.specs.Dropping.{dropping, IsEager}

pub eager_start : (side : Side) → IsEager (start_state side)
eager_start Forward = record { waiter = refl; look = λ e. cc }
eager_start Backward = record { waiter = refl; look = λ e. cc }

-- one call of the table, and a no is forgotten
eager_by : (ringer : Ringer) (w : Waiter) (look : Option Bool) (need : Bool) (s : Side) (a : Answer) → is_busy_or_off w ≡ true → look ≢ Some false
    → may_answer (next_of ringer w need look s) a ≡ true
    → IsEager (forgotten_if (is_vain_look (next_of ringer w need look s) a) (state_after (record { waiter = w; ringer = ringer; look = look }) (next_of ringer w need look s) a))
eager_by Rung.Put w look need Forward a b l m = record { waiter = b; look = l }
eager_by Rung.Put w look need Backward a b l m = record { waiter = b; look = l }
eager_by Rung.Hot w look need s a b l m = record { waiter = b; look = l }
eager_by Rung.Ringing w look need s a b l m = record { waiter = b; look = l }
eager_by Rung.Free Wait.Asked look need s a b l m = cc
eager_by Rung.Free Wait.Clear look need s a b l m = cc
eager_by Rung.Free Wait.Busy (Some true) false Forward a b l m = record { waiter = refl; look = λ e. cc }
eager_by Rung.Free Wait.Busy (Some false) false Forward a b l m = absurd (l refl)
eager_by Rung.Free Wait.Busy None false Forward a b l m = record { waiter = refl; look = λ e. cc }
eager_by Rung.Free Wait.Off look false Forward Yes b l m = record { waiter = refl; look = λ e. cc }
eager_by Rung.Free Wait.Off look false Forward No b l m = record { waiter = refl; look = l }
eager_by Rung.Free Wait.Off look false Forward Done b l m = record { waiter = refl; look = l }
eager_by Rung.Free Wait.Busy (Some true) true Forward a b l m = record { waiter = refl; look = λ e. cc }
eager_by Rung.Free Wait.Busy (Some false) true Forward a b l m = absurd (l refl)
eager_by Rung.Free Wait.Busy None true Forward Yes b l m = record { waiter = refl; look = λ e. cc }
eager_by Rung.Free Wait.Busy None true Forward No b l m = record { waiter = refl; look = λ e. cc }
eager_by Rung.Free Wait.Busy None true Forward Done b l m = cc
eager_by Rung.Free Wait.Off (Some true) true Forward a b l m = record { waiter = refl; look = λ e. cc }
eager_by Rung.Free Wait.Off (Some false) true Forward a b l m = absurd (l refl)
eager_by Rung.Free Wait.Off None true Forward Yes b l m = record { waiter = refl; look = λ e. cc }
eager_by Rung.Free Wait.Off None true Forward No b l m = record { waiter = refl; look = λ e. cc }
eager_by Rung.Free Wait.Off None true Forward Done b l m = cc
eager_by Rung.Free Wait.Busy (Some true) false Backward a b l m = record { waiter = refl; look = λ e. cc }
eager_by Rung.Free Wait.Busy (Some false) false Backward a b l m = absurd (l refl)
eager_by Rung.Free Wait.Busy None false Backward a b l m = record { waiter = refl; look = λ e. cc }
eager_by Rung.Free Wait.Off look false Backward Yes b l m = record { waiter = refl; look = λ e. cc }
eager_by Rung.Free Wait.Off look false Backward No b l m = record { waiter = refl; look = l }
eager_by Rung.Free Wait.Off look false Backward Done b l m = record { waiter = refl; look = l }
eager_by Rung.Free Wait.Busy (Some true) true Backward a b l m = record { waiter = refl; look = λ e. cc }
eager_by Rung.Free Wait.Busy (Some false) true Backward a b l m = absurd (l refl)
eager_by Rung.Free Wait.Busy None true Backward Yes b l m = record { waiter = refl; look = λ e. cc }
eager_by Rung.Free Wait.Busy None true Backward No b l m = record { waiter = refl; look = λ e. cc }
eager_by Rung.Free Wait.Busy None true Backward Done b l m = cc
eager_by Rung.Free Wait.Off (Some true) true Backward a b l m = record { waiter = refl; look = λ e. cc }
eager_by Rung.Free Wait.Off (Some false) true Backward a b l m = absurd (l refl)
eager_by Rung.Free Wait.Off None true Backward Yes b l m = record { waiter = refl; look = λ e. cc }
eager_by Rung.Free Wait.Off None true Backward No b l m = record { waiter = refl; look = λ e. cc }
eager_by Rung.Free Wait.Off None true Backward Done b l m = cc

pub eager_next : (p q : Post) (need : Bool) (e : Event) → Posted (dropping true p) need e (dropping true q) → IsEager p.state → IsEager q.state
eager_next p q need e posted h =
    let k = p.state in
    let op = posted.op in
    let is : q.state ≡ forgotten_if (is_vain_look e.op e.answer) (state_after k e.op e.answer) = ap (λ (x : Post). x.state) posted.after in
    let by = eager_by k.ringer k.waiter k.look need p.side e.answer h.waiter h.look (subst (λ o. may_answer o e.answer ≡ true) op posted.answer) in
    subst IsEager (sym (is ∙ ap (λ o. forgotten_if (is_vain_look o e.answer) (state_after k o e.answer)) op)) by

restless_by : (free : Bool) (w : Waiter) → is_busy_or_off w ≡ true → (free && (not true || is_clear w)) ≡ false
restless_by true Wait.Busy h = refl
restless_by true Wait.Off h = refl
restless_by true Wait.Asked h = cc
restless_by true Wait.Clear h = cc
restless_by false w h = refl

pub eager_restless : (k : EndState) → IsEager k → is_settled k true ≡ false
eager_restless k h = restless_by (is_free k.ringer) k.waiter h.waiter

pub eager_forgets : (k : EndState) → IsEager k → IsEager (record k { look = None })
eager_forgets k h = record { waiter = h.waiter; look = λ e. cc }
