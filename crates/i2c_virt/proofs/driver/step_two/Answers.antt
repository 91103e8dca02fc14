use Rattle.std.proofs.Common.{◌≡◌, ◌-◌, ℕ, zero, suc, refl, [], ◌∷◌, ap, sym, subst, arith}
use Rattle.wire_core.specs.declared.names.Event.{Event}
use Rattle.turn_kit.specs.Posts.{intake_post, outlet_post}
use Rattle.turn_kit.specs.declared.pipe.Pipe.{Pipe}
use Rattle.pipe_driver.specs.Drivers.{PipesPosted}
use Rattle.wire_core.specs.Deeds.{deed_of, put_of}
use Rattle.turn_kit.specs.Pipes.{arrival}
use Rattle.pipe_driver.proofs.Moved.{first_fits_in, first_fits_out, rest_fits, first_steps_in, first_steps_out, rest_steps}
use Rattle.i2c_virt.proofs.driver.step_two.Goals as goal

pub returns-then-place-eq0-clause-fits : goal.returns-then-place-eq0-clause-fits
returns-then-place-eq0-clause-fits g c = first_fits_in _ _ c.step_in.new.event c.step_in.ensures.moves c.args.pipes.now.first c.step_in.new.pipe (c.args.pipes.now.rest ∷ []) c.requires.fits c.step_in.ensures.fits c.step_in.ensures.role c.step_in.ensures.on c.step_in.ensures.input c.step_in.ensures.output

pub returns-then-place-eq0-clause-stepped : goal.returns-then-place-eq0-clause-stepped
returns-then-place-eq0-clause-stepped g c = first_steps_in g.W.Wires.did c.args.wires.now c.step_in.new.wires (deed_of c.step_in.new.event (arrival c.args.pipes.now.first.load c.step_in.new.pipe.load)) c.step_in.ensures.did _ c.args.pipes.now.first c.step_in.new.pipe (c.args.pipes.now.rest ∷ []) c.requires.fits c.step_in.ensures.role c.step_in.ensures.on c.step_in.ensures.kept

pub returns-then-place-eq1-clause-fits : goal.returns-then-place-eq1-clause-fits
returns-then-place-eq1-clause-fits g c = first_fits_out _ _ c.step_out.new.event c.step_out.ensures.moves c.args.pipes.now.first c.step_out.new.pipe (c.args.pipes.now.rest ∷ []) c.requires.fits c.step_out.ensures.fits c.step_out.ensures.role c.step_out.ensures.on c.step_out.ensures.input c.step_out.ensures.output

pub returns-then-place-eq1-clause-stepped : goal.returns-then-place-eq1-clause-stepped
returns-then-place-eq1-clause-stepped g c = first_steps_out g.W.Wires.did c.args.wires.now c.step_out.new.wires (deed_of c.step_out.new.event (put_of c.step_out.new.event c.args.pipes.now.first.load)) c.step_out.ensures.did _ c.args.pipes.now.first c.step_out.new.pipe (c.args.pipes.now.rest ∷ []) c.requires.fits c.step_out.ensures.role c.step_out.ensures.on c.step_out.ensures.kept

pub returns-clause-fits : goal.returns-clause-fits
returns-clause-fits g c = rest_fits _ _ c.step_one.new.event c.step_one.ensures.moves c.args.pipes.now.first (c.args.pipes.now.rest ∷ []) (c.step_one.new.pipe ∷ []) c.requires.fits c.step_one.ensures.fits c.step_one.ensures.own c.step_one.ensures.inputs c.step_one.ensures.outputs

pub returns-clause-stepped : goal.returns-clause-stepped
returns-clause-stepped g c = rest_steps g.W.Wires.did c.args.wires.now c.step_one.new.wires c.step_one.new.event _ c.args.pipes.now.first (c.args.pipes.now.rest ∷ []) (c.step_one.new.pipe ∷ []) c.requires.fits c.step_one.ensures.own c.step_one.ensures.stepped

-- what the second pipe of two posts, the two post at the place after the first pipe's
posted_on : (p q q' : Pipe) (k place : ℕ) (e : Event) → place ≡ suc (suc k) → PipesPosted (q ∷ []) k e (q' ∷ []) → PipesPosted (p ∷ q ∷ []) place e (p ∷ q' ∷ [])
posted_on p q q' k place e is h = subst (λ n. PipesPosted (p ∷ q ∷ []) n e (p ∷ q' ∷ [])) (sym is) (record {
  need = h.need;
  needed = h.needed;
  posted = record {
    post = h.posted.post;
    moved = h.posted.moved;
    there = h.posted.there;
    posted = h.posted.posted;
    after = ap (λ ps. intake_post p.input ∷ outlet_post p.output ∷ ps) h.posted.after;
  };
})

two_past : (place : ℕ) → (place ≡ 0 → ⊥) → (place ≡ 1 → ⊥) → place ≡ suc (suc (place - 2))
two_past zero h g = absurd (h refl)
two_past (suc zero) h g = absurd (g refl)
two_past (suc (suc k)) h g = omega arith

pub returns-clause-posted : goal.returns-clause-posted
returns-clause-posted g c = posted_on c.args.pipes.now.first c.args.pipes.now.rest c.step_one.new.pipe _ c.args.place c.step_one.new.event (two_past c.args.place c.if-place-eq0.false c.if-place-eq1.false) c.step_one.ensures.posted
