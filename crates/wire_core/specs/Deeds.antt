-- What a call did: its event and the body that it moved.
use Rattle.std.specs.Prelude.{Bool, true, false, Option, Some, None, option_map, List, [], ◌∷◌}
use Rattle.cargo_core.specs.declared.item.Item.{Item}
use Rattle.cargo_core.specs.declared.item.Body.{Body}
use Rattle.wire_core.specs.declared.names.Event.{Event}
use Rattle.wire_core.specs.declared.names.QueueId.{QueueId}
use Rattle.wire_core.specs.declared.names.Op.{Op}
use Rattle.wire_core.specs.declared.names.Answer.{Answer}
use Rattle.wire_core.specs.declared.names.Answer.TheVariants.{Done, Yes, No}

-- one call as it happened: its event, and the body that it moved
pub record Deed : Type 0 where
  pub event : Event
  pub body : Option Body

-- an entry of a queue
abbrev pub Cargo : Type 0
Cargo = Item × Body

-- a look's answer: yes where it saw something
abbrev pub answer_of : Bool → Answer
answer_of true = Yes
answer_of false = No

-- a call that answers yes or no
abbrev pub look_deed : QueueId → Op → Bool → Deed
look_deed q o b = record {
  event = record { queue = q; op = o; answer = answer_of b; item = None };
  body = None;
}

-- a call that answers nothing
abbrev pub plain_deed : QueueId → Op → Deed
plain_deed q o = record {
  event = record { queue = q; op = o; answer = Done; item = None };
  body = None;
}

-- a call that moves an entry
abbrev pub move_deed : QueueId → Op → Cargo → Deed
move_deed q o c = record {
  event = record { queue = q; op = o; answer = Done; item = Some c.0 };
  body = Some c.1;
}

-- an item with its body, where both are there
abbrev pub joined : Option Item → Option Body → List Cargo
joined (Some item) (Some body) = (item, body) ∷ []
joined (Some item) None = []
joined None body = []

-- the entry that it moved, if any
abbrev pub cargo_of : Deed → List Cargo
cargo_of d = joined d.event.item d.body

-- the call of an event that took or gave this entry, or moved none
abbrev pub deed_of : Event → Option Cargo → Deed
deed_of e c = record { event = e; body = option_map (λ x. x.1) c }

-- the entry of an event that carries one
abbrev pub given : Option Item → Option Cargo → Option Cargo
given None load = None
given (Some item) load = load

-- what went, of a load that this event put or did not put
abbrev pub put_of : Event → Option Cargo → Option Cargo
put_of e load = given e.item load
