use Rattle.std.proofs.Common.{◌≡◌, ℕ, List, [], ◌∷◌, sym, ap, ◌∙◌, subst, inl, inr}
use Rattle.std.proofs.lemmas.List.{append-nil}
use Rattle.wire_core.specs.declared.names.QueueId.{QueueId}
use Rattle.wire_core.specs.declared.names.Event.{Event}
use Rattle.wire_core.specs.Deeds.{Deed}
use Rattle.wire_core.specs.Lists.{Passed, Stepped, with_deed}
use Rattle.wire_core.specs.Ends.{Role, Consumer, Producer, End, Moves, role_of}
use Rattle.wire_core.proofs.Beside.{take_beside, put_beside}
use Rattle.turn_kit.specs.Pipes.{FitsPipe, PipeStandsFor}
use Rattle.turn_kit.specs.declared.pipe.Pipe.{Pipe}
use Rattle.pipe_driver.specs.Drivers.{EachPipe, FitsPipes, PipesStandFor, PipesEnd, IsOneOf, IsNoneOf, inputs_of, outputs_of}

-- a call was made at neither end of a pipe
record Beside (e : Event) (p : Pipe) : Type 0 where
  pub input : role_of e.op ≡ Consumer → e.queue.0 ≡ p.input.queue.0 → ⊥
  pub output : role_of e.op ≡ Producer → e.queue.0 ≡ p.output.queue.0 → ⊥

not_one : (n m : ℕ) (ns : List ℕ) → IsNoneOf n ns → IsOneOf m ns → m ≡ n → ⊥
not_one n m [] none one e = one
not_one n m (x ∷ ns) none (inl h) e = none.0 (sym e ∙ h)
not_one n m (x ∷ ns) none (inr h) e = not_one n m ns none.1 h e

-- a call at an input, or at an output, is at none of the other pipes
beside_in : (e : Event) (n : ℕ) → role_of e.op ≡ Consumer → e.queue.0 ≡ n → (ps : List Pipe) → IsNoneOf n (inputs_of ps) → EachPipe (Beside e) ps
beside_in e n role on [] none = tt
beside_in e n role on (p ∷ ps) none = (record { input = λ r q. none.0 (sym on ∙ q); output = λ r q. let no : Consumer ≡ Producer = sym role ∙ r in cc }, beside_in e n role on ps none.1)

beside_out : (e : Event) (n : ℕ) → role_of e.op ≡ Producer → e.queue.0 ≡ n → (ps : List Pipe) → IsNoneOf n (outputs_of ps) → EachPipe (Beside e) ps
beside_out e n role on [] none = tt
beside_out e n role on (p ∷ ps) none = (record { input = λ r q. let no : Producer ≡ Consumer = sym role ∙ r in cc; output = λ r q. none.0 (sym on ∙ q) }, beside_out e n role on ps none.1)

-- and a call at one of the others is not at this one
beside_first : (e : Event) (p : Pipe) (ps : List Pipe) → PipesEnd ps (role_of e.op) e.queue.0 → IsNoneOf p.input.queue.0 (inputs_of ps) → IsNoneOf p.output.queue.0 (outputs_of ps) → Beside e p
beside_first e p ps own ins outs = record {
  input = λ r. not_one p.input.queue.0 e.queue.0 (inputs_of ps) ins (subst (λ (x : Role). PipesEnd ps x e.queue.0) r own);
  output = λ r. not_one p.output.queue.0 e.queue.0 (outputs_of ps) outs (subst (λ (x : Role). PipesEnd ps x e.queue.0) r own);
}

-- such a pipe fits and stands for what it did
module _ (ends ends' : Role → ℕ → End) (e : Event) (moves : Moves ends e ends') where
  fits_beside : (p : Pipe) → Beside e p → FitsPipe ends p → FitsPipe ends' p
  fits_beside p b f =
      let i = moves.others Consumer p.input.queue.0 (λ r n. b.input (sym r) (sym n)) in
      let o = moves.others Producer p.output.queue.0 (λ r n. b.output (sym r) (sym n)) in
      record {
        input = rw i f.input;
        output = rw o f.output;
        kinds = rw (i, o) f.kinds;
        load = rw o f.load;
      }

  each_fits : (ps : List Pipe) → EachPipe (Beside e) ps → EachPipe (FitsPipe ends) ps → EachPipe (FitsPipe ends') ps
  each_fits [] b f = tt
  each_fits (p ∷ ps) b f = (fits_beside p b.0 f.0, each_fits ps b.1 f.1)

  -- the first pipe moved
  first_fits : (p p' : Pipe) (ps : List Pipe) → FitsPipes ends (p ∷ ps) → FitsPipe ends' p' → EachPipe (Beside e) ps → p'.input.queue ≡ p.input.queue → p'.output.queue ≡ p.output.queue → FitsPipes ends' (p' ∷ ps)
  first_fits p p' ps f new b i o = record {
    each = (new, each_fits ps b f.each.1);
    inputs = (subst (λ (q : QueueId). IsNoneOf q.0 (inputs_of ps)) (sym i) f.inputs.0, f.inputs.1);
    outputs = (subst (λ (q : QueueId). IsNoneOf q.0 (outputs_of ps)) (sym o) f.outputs.0, f.outputs.1);
  }

  pub first_fits_in : (p p' : Pipe) (ps : List Pipe) → FitsPipes ends (p ∷ ps) → FitsPipe ends' p' → role_of e.op ≡ Consumer → e.queue ≡ p.input.queue → p'.input.queue ≡ p.input.queue → p'.output ≡ p.output → FitsPipes ends' (p' ∷ ps)
  first_fits_in p p' ps f new role on i o = first_fits p p' ps f new (beside_in e p.input.queue.0 role (ap (λ (q : QueueId). q.0) on) ps f.inputs.0) i (ap (λ x. x.queue) o)

  pub first_fits_out : (p p' : Pipe) (ps : List Pipe) → FitsPipes ends (p ∷ ps) → FitsPipe ends' p' → role_of e.op ≡ Producer → e.queue ≡ p.output.queue → p'.input ≡ p.input → p'.output.queue ≡ p.output.queue → FitsPipes ends' (p' ∷ ps)
  first_fits_out p p' ps f new role on i o = first_fits p p' ps f new (beside_out e p.output.queue.0 role (ap (λ (q : QueueId). q.0) on) ps f.outputs.0) (ap (λ x. x.queue) i) o

  -- another one moved
  pub rest_fits : (p : Pipe) (ps ps' : List Pipe) → FitsPipes ends (p ∷ ps) → FitsPipes ends' ps' → PipesEnd ps (role_of e.op) e.queue.0 → inputs_of ps' ≡ inputs_of ps → outputs_of ps' ≡ outputs_of ps → FitsPipes ends' (p ∷ ps')
  rest_fits p ps ps' f new own i o = record {
    each = (fits_beside p (beside_first e p ps own f.inputs.0 f.outputs.0) f.each.0, new.each);
    inputs = (subst (IsNoneOf p.input.queue.0) (sym i) f.inputs.0, new.inputs);
    outputs = (subst (IsNoneOf p.output.queue.0) (sym o) f.outputs.0, new.outputs);
  }

-- what passed at a pipe where no call was made is as it was
stands_beside : (d : Deed) (passed : Passed) (p : Pipe) → Beside d.event p → PipeStandsFor p passed → PipeStandsFor p (with_deed passed d)
stands_beside d passed p b h = rw (take_beside d p.input.queue.0 b.input, put_beside d p.output.queue.0 b.output, append-nil, append-nil) h

each_stands : (d : Deed) (passed : Passed) (ps : List Pipe) → EachPipe (Beside d.event) ps → PipesStandFor ps passed → PipesStandFor ps (with_deed passed d)
each_stands d passed [] b h = tt
each_stands d passed (p ∷ ps) b h = (stands_beside d passed p b.0 h.0, each_stands d passed ps b.1 h.1)

module _ {W : Type 0} (did : W → Deed → W → Type 0) (w w' : W) (d : Deed) (happened : did w d w') (ends : Role → ℕ → End) where
  pub first_steps_in : (p p' : Pipe) (ps : List Pipe) → FitsPipes ends (p ∷ ps) → role_of d.event.op ≡ Consumer → d.event.queue ≡ p.input.queue → ((passed : Passed) → PipeStandsFor p passed → PipeStandsFor p' (with_deed passed d)) → Stepped PipesStandFor did w w' (p ∷ ps) (p' ∷ ps) d.event
  first_steps_in p p' ps f role on kept = record {
    body = d.body;
    happened = happened;
    kept = λ passed h. (kept passed h.0, each_stands d passed ps (beside_in d.event p.input.queue.0 role (ap (λ (q : QueueId). q.0) on) ps f.inputs.0) h.1);
  }

  pub first_steps_out : (p p' : Pipe) (ps : List Pipe) → FitsPipes ends (p ∷ ps) → role_of d.event.op ≡ Producer → d.event.queue ≡ p.output.queue → ((passed : Passed) → PipeStandsFor p passed → PipeStandsFor p' (with_deed passed d)) → Stepped PipesStandFor did w w' (p ∷ ps) (p' ∷ ps) d.event
  first_steps_out p p' ps f role on kept = record {
    body = d.body;
    happened = happened;
    kept = λ passed h. (kept passed h.0, each_stands d passed ps (beside_out d.event p.output.queue.0 role (ap (λ (q : QueueId). q.0) on) ps f.outputs.0) h.1);
  }

pub rest_steps : {W : Type 0} (did : W → Deed → W → Type 0) (w w' : W) (e : Event) (ends : Role → ℕ → End) (p : Pipe) (ps ps' : List Pipe) → FitsPipes ends (p ∷ ps) → PipesEnd ps (role_of e.op) e.queue.0 → Stepped PipesStandFor did w w' ps ps' e → Stepped PipesStandFor did w w' (p ∷ ps) (p ∷ ps') e
rest_steps did w w' e ends p ps ps' f own s = record {
  body = s.body;
  happened = s.happened;
  kept = λ passed h. (stands_beside (record { event = e; body = s.body }) passed p (beside_first e p ps own f.inputs.0 f.outputs.0) h.0, s.kept passed h.1);
}
