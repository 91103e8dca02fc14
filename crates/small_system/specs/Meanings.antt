-- What an actor means to who plays it: its ends, what it stands for and how its ends stand, and
-- what one step of it does.
use Rattle.std.specs.Prelude.{◌≡◌, ℕ, false, Option, Some, List, slice_get}
use Rattle.std.specs.List.{AllByRecursion}
use Rattle.cargo_core.specs.declared.item.Body.{Body}
use Rattle.wire_core.specs.declared.names.Event.{Event}
use Rattle.wire_core.specs.Ends.{Role, End, role_of, waiting_role}
use Rattle.wire_core.specs.Deeds.{Deed}
use Rattle.wire_core.specs.Lists.{Passed, with_deed}
use Rattle.wire_core.specs.Queues.{Queue, Happens}
use Rattle.turn_kit.specs.Turns.{Post, Round, Turned}

-- the meanings of an actor
pub record Means (A : Type 0) : Type 1 where
  -- what it is made of, which no step changes
  pub Part : Type 0
  pub part : A → Part
  -- its ends, what is needed there, and the end that it stepped last
  pub round : A → Round
  -- what passed is what it stands for: the entries at its ends and the order of its calls there;
  -- that they meet its row is part of it
  pub StandsFor : A → Passed → Type 0
  -- its ends stand so on the wires
  pub Fits : (Role → ℕ → End) → A → Type 0

-- an end of the actor
pub record Own {A : Type 0} (m : Means A) (x : A) (r : Role) (n : ℕ) : Type 0 where
  pub place : ℕ
  pub post : Post
  pub there : slice_get (m.round x).posts place ≡ Some post
  pub queue : post.queue ≡ n
  pub role : waiting_role post.side ≡ r

-- an actor fits some ends
abbrev pub IsFit : {A : Type 0} → Means A → A → Type 0
IsFit {A} m x = (ends : Role → ℕ → End) × m.Fits ends x

-- one step of an actor: a turn of it, by which it stands for one entry more
pub record Steps {A : Type 0} (m : Means A) (old new : A) (d : Deed) : Type 0 where
  pub turned : Turned (m.round old) d.event (m.round new)
  pub kept : (p : Passed) → m.StandsFor old p → m.StandsFor new (with_deed p d)
  pub part : m.part new ≡ m.part old

-- one step on queues: just this call happened there
pub record Acts {A : Type 0} (m : Means A) (world world' : List Queue) (old new : A) (e : Event)
    : Type 0 where
  pub body : Option Body
  pub happened : Happens world (record { event = e; body = body }) world'
  pub steps : Steps m old new (record { event = e; body = body })

-- the laws of an actor's meanings
pub record Lawful {A : Type 0} (m : Means A) : Type 0 where
  -- how it fits is said of its own ends alone
  pub fits_beside : (a b : Role → ℕ → End) (x : A)
      → ((r : Role) (n : ℕ) → Own m x r n → b r n ≡ a r n) → m.Fits a x → m.Fits b x
  -- a call at no end of its own leaves what it stands for
  pub stands_beside : (ends : Role → ℕ → End) (p : Passed) (d : Deed) (x : A) → m.Fits ends x
      → (Own m x (role_of d.event.op) d.event.queue.0 → ⊥) → m.StandsFor x p
      → m.StandsFor x (with_deed p d)
  -- at each of its ends it waits, and drops nothing
  pub waits : (x : A) → AllByRecursion (λ (p : Post). p.drops ≡ false) (m.round x).posts
