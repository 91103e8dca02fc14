use Rattle.std.proofs.Common.{◌≡◌, ℕ, List, [], ◌∷◌, map, None, refl, sym, ap, subst}
use Rattle.wire_core.specs.Lists.{Passed}
use Rattle.wire_core.specs.Ends.{Role, Consumer, Producer, End}
use Rattle.turn_kit.specs.Table.{Agrees}
use Rattle.turn_kit.specs.Pipes.{FitsPipe, PipeStandsFor}
use Rattle.turn_kit.specs.declared.pipe.Pipe.{Pipe}
use Rattle.turn_kit.specs.declared.end_state.EndState.{EndState}
use Rattle.pipe_driver.specs.Drivers.{EachPipe, FitsPipes, PipesStandFor, AreDistinct, inputs_of, outputs_of, pipe_forgotten}

still_agrees : (e : End) (k : EndState) → Agrees e k → Agrees e (record k { look = None })
still_agrees e k h = record { owned = h.owned; waiter = h.waiter; ringer = h.ringer; looked = λ no_look. cc }

pipe_fits : (ends : Role → ℕ → End) (p : Pipe) → FitsPipe ends p → FitsPipe ends (pipe_forgotten p)
pipe_fits ends p f = record {
  input = still_agrees (ends Consumer p.input.queue.0) p.input.state f.input;
  output = still_agrees (ends Producer p.output.queue.0) p.output.state f.output;
  kinds = f.kinds;
  load = f.load;
}

-- what a pipe keeps as its looks are forgotten, each does
each_forgot : (P : Pipe → Type 0) → ((p : Pipe) → P p → P (pipe_forgotten p)) → (ps : List Pipe) → EachPipe P ps → EachPipe P (map pipe_forgotten ps)
each_forgot P keeps [] h = tt
each_forgot P keeps (p ∷ ps) h = (keeps p h.0, each_forgot P keeps ps h.1)

inputs_stay : (ps : List Pipe) → inputs_of (map pipe_forgotten ps) ≡ inputs_of ps
inputs_stay [] = refl
inputs_stay (p ∷ ps) = ap (λ (ns : List ℕ). p.input.queue.0 ∷ ns) (inputs_stay ps)

outputs_stay : (ps : List Pipe) → outputs_of (map pipe_forgotten ps) ≡ outputs_of ps
outputs_stay [] = refl
outputs_stay (p ∷ ps) = ap (λ (ns : List ℕ). p.output.queue.0 ∷ ns) (outputs_stay ps)

pub forgotten_fit : (ends : Role → ℕ → End) (ps ps' : List Pipe) → ps' ≡ map pipe_forgotten ps → FitsPipes ends ps → FitsPipes ends ps'
forgotten_fit ends ps ps' e f = subst (FitsPipes ends) (sym e) (record {
  each = each_forgot (FitsPipe ends) (pipe_fits ends) ps f.each;
  inputs = subst AreDistinct (sym (inputs_stay ps)) f.inputs;
  outputs = subst AreDistinct (sym (outputs_stay ps)) f.outputs;
})

pub forgotten_stand : (passed : Passed) (ps ps' : List Pipe) → ps' ≡ map pipe_forgotten ps → PipesStandFor ps passed → PipesStandFor ps' passed
forgotten_stand passed ps ps' e h = subst (λ (qs : List Pipe). PipesStandFor qs passed) (sym e) (each_forgot (λ (p : Pipe). PipeStandsFor p passed) (λ p s. s) ps h)
