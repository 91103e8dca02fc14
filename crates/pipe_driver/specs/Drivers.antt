-- Lists of pipes: what a driver must fit, what it stands for, and its row, for any number of pipes.
use Rattle.std.specs.Prelude.{◌≡◌, ◌⊎◌, ℕ, Bool, is_some, is_none, Some, None, List, [], ◌∷◌, ◌++◌}
use Rattle.std.specs.Prelude.{map, slice_get, option_to_list}
use Rattle.cargo_core.specs.declared.item.Body.{Body}
use Rattle.cargo_core.specs.Lists.{IsPrefix}
use Rattle.wire_core.specs.declared.names.Event.{Event}
use Rattle.wire_core.specs.Lists.{Passed}
use Rattle.wire_core.specs.Ends.{Role, Consumer, Producer, End}
use Rattle.turn_kit.specs.Turns.{Post, PostedAt, Round}
use Rattle.turn_kit.specs.Posts.{intake_post, outlet_post}
use Rattle.turn_kit.specs.Hands.{Balances, bodies_of, bodies_at}
use Rattle.turn_kit.specs.declared.pipe.Pipe.{Pipe}
use Rattle.turn_kit.specs.Pipes.{FitsPipe, PipeStandsFor}

-- each pipe has a property
abbrev pub EachPipe : (Pipe → Type 0) → List Pipe → Type 0
EachPipe P [] = Unit {0}
EachPipe P (p ∷ ps) = P p × EachPipe P ps

-- a queue is one of these
abbrev pub IsOneOf : ℕ → List ℕ → Type 0
IsOneOf n [] = ⊥
IsOneOf n (m ∷ ms) = (n ≡ m) ⊎ IsOneOf n ms

-- a queue is none of these
abbrev pub IsNoneOf : ℕ → List ℕ → Type 0
IsNoneOf n [] = Unit {0}
IsNoneOf n (m ∷ ms) = (n ≡ m → ⊥) × IsNoneOf n ms

-- no two of these queues are one
abbrev pub AreDistinct : List ℕ → Type 0
AreDistinct [] = Unit {0}
AreDistinct (n ∷ ns) = IsNoneOf n ns × AreDistinct ns

-- the queues that pipes take from, in their order
abbrev pub inputs_of : List Pipe → List ℕ
inputs_of ps = map (λ (p : Pipe). p.input.queue.0) ps

-- the queues that they put to
abbrev pub outputs_of : List Pipe → List ℕ
outputs_of ps = map (λ (p : Pipe). p.output.queue.0) ps

-- a driver's ends are its own, and as it keeps them; no two inputs are of one queue, and no two
-- outputs
pub record FitsPipes (ends : Role → ℕ → End) (ps : List Pipe) : Type 0 where
  pub each : EachPipe (FitsPipe ends) ps
  pub inputs : AreDistinct (inputs_of ps)
  pub outputs : AreDistinct (outputs_of ps)

-- what came in at each pipe is what went out there, and what is loaded
abbrev pub PipesStandFor : List Pipe → Passed → Type 0
PipesStandFor ps passed = EachPipe (λ p. PipeStandsFor p passed) ps

-- each output copies its input
abbrev pub PipesRow : List Pipe → Passed → Type 0
PipesRow ps passed =
    EachPipe (λ p. IsPrefix (passed.sent p.output.queue.0) (passed.taken p.input.queue.0)) ps

-- one of a driver's ends
abbrev pub PipesEnd : List Pipe → Role → ℕ → Type 0
PipesEnd ps Consumer n = IsOneOf n (inputs_of ps)
PipesEnd ps Producer n = IsOneOf n (outputs_of ps)

-- the ends, each pipe's input before its output
abbrev pub pipe_posts : List Pipe → List Post
pipe_posts [] = []
pipe_posts (p ∷ ps) = intake_post p.input ∷ outlet_post p.output ∷ pipe_posts ps

-- an input is needed where nothing of it is loaded, an output is owed what is loaded
abbrev pub pipe_needs : List Pipe → List Bool
pipe_needs [] = []
pipe_needs (p ∷ ps) = is_none p.load ∷ is_some p.load ∷ pipe_needs ps

-- the ends of a driver, and which it needs
abbrev pub pipes_round : List Pipe → ℕ → Round
pipes_round ps last = record { posts = pipe_posts ps; needs = pipe_needs ps; last = last }

-- one call of the table at the end at a place, with its own need
pub record PipesPosted (old : List Pipe) (place : ℕ) (e : Event) (new : List Pipe) : Type 0 where
  pub need : Bool
  pub needed : slice_get (pipe_needs old) place ≡ Some need
  pub posted : PostedAt (pipe_posts old) place need e (pipe_posts new)

-- the bodies in a driver's hand: those of what it took and has yet to put
abbrev pub pipes_hand : List Pipe → List Body
pipes_hand [] = []
pipes_hand (p ∷ ps) = bodies_of (option_to_list p.load) ++ pipes_hand ps

-- it keeps nothing
abbrev pub PipesBalance : List Pipe → Passed → Type 0
PipesBalance ps passed =
    Balances [] (bodies_at passed.taken (inputs_of ps)) (bodies_at passed.sent (outputs_of ps))
    (pipes_hand ps) []

-- the same pipe without the last looks
abbrev pub pipe_forgotten : Pipe → Pipe
pipe_forgotten p = record p {
  input = record p.input { state = record p.input.state { look = None } };
  output = record p.output { state = record p.output.state { look = None } };
}
