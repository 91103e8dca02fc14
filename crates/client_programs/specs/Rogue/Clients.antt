-- The hostile client: what it must fit, what it stands for, and its row.
use Rattle.std.specs.Prelude.{◌≡◌, ◌<◌, ◌≤◌, ◌+◌, ◌^◌, ◌++◌, ℕ, Bool, true, false, List, [], ◌∷◌}
use Rattle.std.specs.Prelude.{length, drop, map, All, vec_len, vec_capacity, Some, slice_get, ◌⊎◌}
use Rattle.std.specs.Prelude.{Option, option_to_list, remove}
use Rattle.cargo_core.specs.declared.act.Act.{Act}
use Rattle.cargo_core.specs.declared.act.Act.TheVariants as Acts
use Rattle.cargo_core.specs.declared.item.Body.{Body}
use Rattle.cargo_core.specs.declared.item.Body.TheVariants as Carried
use Rattle.cargo_core.specs.declared.item.QueueKind.{QueueKind}
use Rattle.cargo_core.specs.declared.item.QueueKind.TheVariants as Kind
use Rattle.cargo_core.specs.Pages.{Paged}
use Rattle.wire_core.specs.declared.names.Event.{Event}
use Rattle.wire_core.specs.declared.names.Op.{Op}
use Rattle.wire_core.specs.declared.names.Op.TheVariants as Do
use Rattle.wire_core.specs.declared.names.QueueId.{QueueId}
use Rattle.wire_core.specs.Deeds.{Deed}
use Rattle.wire_core.specs.Ends.{Role, Consumer, Producer, End, is_busy_or_off, is_free_or_put}
use Rattle.wire_core.specs.Ends.{role_of}
use Rattle.wire_core.specs.Lists.{Passed, Stepped}
use Rattle.wire_core.specs.Queues.{is_store}
use Rattle.turn_kit.specs.Hands.{Balances, bodies_at}
use Rattle.buffer_kit.specs.Conserving.{Conserves}
use Rattle.buffer_kit.specs.Pools.{page_bodies}
use Rattle.client_programs.specs.declared.rogue.Rogue.{Rogue}
use Rattle.client_programs.specs.Rogue.Acts.{Left, next_acts, queue_of, IsNext, left_after}

-- the queues of its ends, its inputs first
abbrev pub ends_of : Rogue → List QueueId
ends_of r = r.inputs.items ++ r.outputs.items

-- the numbers of queues
abbrev pub numbers : List QueueId → List ℕ
numbers ends = map (λ q. q.0) ends

-- what it has yet to do
abbrev pub left_of : Rogue → Left
left_of r = record {
  acts = drop r.next r.acts.items;
  looked = r.looked;
  kept = length r.kept.items;
}

-- what it had yet to do where its journal began
abbrev pub left_at_start : Rogue → Left
left_at_start r = record { acts = drop r.first r.acts.items; looked = false; kept = r.had }

-- an act names an end of its sort
abbrev pub IsActOf : (inputs ends : ℕ) → Act → Type 0
IsActOf inputs ends (Acts.Take k) = k < inputs
IsActOf inputs ends (Acts.Put k a l) = (inputs ≤ k) × (k < ends)
IsActOf inputs ends (Acts.Give k p a l) = (inputs ≤ k) × (k < ends)
IsActOf inputs ends (Acts.Store k w v) = k < ends

-- the kinds of entries that it can put
abbrev pub can_put : QueueKind → Bool
can_put Kind.Net = true
can_put Kind.Byte = true
can_put Kind.Req = true
can_put Kind.Resp = false

-- no queue stands twice
abbrev pub AreApart : List ℕ → Type 0
AreApart [] = Unit {0}
AreApart (n ∷ ns) = All (λ m. n ≡ m → ⊥) ns × AreApart ns

-- how many of the acts take
abbrev pub takes : List Act → ℕ
takes [] = 0
takes (Acts.Take k ∷ xs) = 1 + takes xs
takes (Acts.Put k a l ∷ xs) = takes xs
takes (Acts.Give k p a l ∷ xs) = takes xs
takes (Acts.Store k w v ∷ xs) = takes xs

-- what it is made of fits together: its acts name ends of its own, no two of these on one side are
-- of one queue, there is room for each entry that it may keep, and these can be counted
pub record IsRogue (r : Rogue) : Type 0 where
  pub kind : can_put r.kind ≡ true
  pub place : r.next ≤ length r.acts.items
  pub acts : All (IsActOf (length r.inputs.items)
      (length r.inputs.items + length r.outputs.items)) r.acts.items
  pub inputs : AreApart (numbers r.inputs.items)
  pub outputs : AreApart (numbers r.outputs.items)
  pub room : vec_len r.kept + takes (drop r.next r.acts.items) ≤ vec_capacity r.kept
  pub few : vec_len r.kept + takes (drop r.next r.acts.items) < 2 ^ 32

-- what it asks of an end: that it is its own, that it may look there, and move an entry
pub record FitsEnd (e : End) : Type 0 where
  pub owned : e.owned ≡ true
  pub waiter : is_busy_or_off e.waiter ≡ true
  pub ringer : is_free_or_put e.ringer ≡ true

-- the end of the first act has its look, where there is one that isn't used
abbrev pub HasLook : (Role → ℕ → End) → List QueueId → Bool → List Act → Type 0
HasLook ends queues false acts = Unit {0}
HasLook ends queues true [] = ⊥
HasLook ends queues true (Acts.Take k ∷ xs) = (ends Consumer (queue_of queues k)).looked ≡ true
HasLook ends queues true (Acts.Put k a l ∷ xs) = (ends Producer (queue_of queues k)).looked ≡ true
HasLook ends queues true (Acts.Give k p a l ∷ xs) =
    (ends Producer (queue_of queues k)).looked ≡ true
HasLook ends queues true (Acts.Store k w v ∷ xs) = ⊥

-- its ends are its own and as it asks; what it puts to is of its kind
pub record FitsRogue (ends : Role → ℕ → End) (r : Rogue) : Type 0 where
  pub is : IsRogue r
  pub inputs : All (λ q. FitsEnd (ends Consumer q.0)) r.inputs.items
  pub outputs : All (λ q. FitsEnd (ends Producer q.0) × ((ends Producer q.0).kind ≡ r.kind))
      r.outputs.items
  pub look : HasLook ends (ends_of r) r.looked
      (next_acts (length r.kept.items) (drop r.next r.acts.items))

-- a call of a hostile client is one of these: it never asks, waives, wakes, wants or rings
abbrev pub IsRogueOp : Op → Type 0
IsRogueOp Do.See = Unit {0}
IsRogueOp Do.Take = Unit {0}
IsRogueOp Do.Put = Unit {0}
IsRogueOp Do.Room = Unit {0}
IsRogueOp (Do.Store w v) = Unit {0}
IsRogueOp (Do.Ask s) = ⊥
IsRogueOp (Do.Waive s) = ⊥
IsRogueOp (Do.Wake s) = ⊥
IsRogueOp (Do.Wanted s) = ⊥
IsRogueOp (Do.Settle s) = ⊥
IsRogueOp (Do.Ring s) = ⊥

-- each buffer is in one place: those that it had at the start and those that came are those that
-- went and those that it keeps
abbrev pub RogueStandsFor : Rogue → Passed → Type 0
RogueStandsFor r passed = Conserves (page_bodies r.start.value.items)
    (bodies_at passed.taken (numbers r.inputs.items))
    (bodies_at passed.sent (numbers r.outputs.items)) r.kept.items []

-- the act at a place is the next one
pub record IsAt (r : Rogue) (place : ℕ) (x : Act) : Type 0 where
  pub next : next_acts (length r.kept.items) (drop r.next r.acts.items)
      ≡ drop place r.acts.items
  pub there : slice_get r.acts.items place ≡ Some x

-- an act puts at an end
abbrev pub puts_at : Act → ℕ → Type 0
puts_at (Acts.Take k) end = ⊥
puts_at (Acts.Put k a l) end = k ≡ end
puts_at (Acts.Give k p a l) end = k ≡ end
puts_at (Acts.Store k w v) end = ⊥

-- the act at a place is the next one, and puts at an end
pub record IsPutting (r : Rogue) (place end : ℕ) : Type 0 where
  pub act : Act
  pub at : IsAt r place act
  pub puts : puts_at act end

-- its ends, its kind, its acts and the buffers of which it had all at the start stay
pub record SameRogue (old new : Rogue) : Type 0 where
  pub kind : new.kind ≡ old.kind
  pub inputs : new.inputs ≡ old.inputs
  pub outputs : new.outputs ≡ old.outputs
  pub acts : new.acts ≡ old.acts
  pub first : new.first ≡ old.first
  pub had : new.had ≡ old.had
  pub start : new.start ≡ old.start

-- it made the next call, which is one that it makes at all, and what is left is told by the answer
pub record Acted (old : Rogue) (e : Event) (new : Rogue) : Type 0 where
  pub next : IsNext old.kind (ends_of old) (left_of old) e
  pub after : left_of new ≡ left_after (left_of old) e.answer
  pub op : IsRogueOp e.op

-- what is kept after the next call, by the body that it moved: what is taken stands behind the
-- others; a give puts what stands at its place, which is gone; no other call changes what is kept
abbrev pub Keeps : Bool → List Act → (old : List Body) → Option Body → (new : List Body) → Type 0
Keeps false acts old body new = new ≡ old
Keeps true [] old body new = new ≡ old
Keeps true (Acts.Take k ∷ xs) old body new = new ≡ old ++ option_to_list body
Keeps true (Acts.Put k a l ∷ xs) old body new = (body ≡ Some Carried.Empty) × (new ≡ old)
Keeps true (Acts.Give k p a l ∷ xs) old body new = (slice_get old p ≡ body) × (new ≡ remove old p)
Keeps true (Acts.Store k w v ∷ xs) old body new = new ≡ old

-- one step: the next call was made and nothing else, and what it stands for has this call's entry
-- more
pub record RogueStepped {W : Type 0} (ends : W → Role → ℕ → End) (did : W → Deed → W → Type 0)
    (wires wires' : W) (old new : Rogue) (event : Event) : Type 0 where
  pub fits : FitsRogue (ends wires') new
  pub acted : Acted old event new
  pub same : SameRogue old new
  pub stepped : Stepped RogueStandsFor did wires wires' old new event
  pub keeps : Keeps old.looked (next_acts (length old.kept.items) (drop old.next old.acts.items))
      old.kept.items stepped.body new.kept.items

-- it has all its acts before it, and its pages
pub record IsNewRogue (kind : QueueKind) (inputs outputs : List QueueId) (pages : List Paged)
    (acts : List Act) (r : Rogue) : Type 0 where
  pub is : IsRogue r
  pub puts : r.kind ≡ kind
  pub from : r.inputs.items ≡ inputs
  pub to : r.outputs.items ≡ outputs
  pub left : left_of r ≡ record { acts = acts; looked = false; kept = length pages }
  pub keeps : r.kept.items ≡ page_bodies pages
  pub had : r.start.value.items ≡ pages
  pub start : left_at_start r ≡ left_of r

-- the look is forgotten, and a journal begins with what is left; all else stays
pub record HasForgotten (old new : Rogue) : Type 0 where
  pub left : left_of new
      ≡ record { acts = (left_of old).acts; looked = false; kept = (left_of old).kept }
  pub start : left_at_start new ≡ left_of new
  pub inputs : new.inputs ≡ old.inputs
  pub outputs : new.outputs ≡ old.outputs
  pub kind : new.kind ≡ old.kind
  pub acts : new.acts ≡ old.acts
  pub kept : new.kept ≡ old.kept
  pub pages : new.start ≡ old.start

-- one of its ends
abbrev pub RogueEnd : Rogue → Role → ℕ → Type 0
RogueEnd r Consumer n =
    (k : ℕ) × (q : QueueId) × (slice_get r.inputs.items k ≡ Some q) × (n ≡ q.0)
RogueEnd r Producer n =
    (k : ℕ) × (q : QueueId) × (slice_get r.outputs.items k ≡ Some q) × (n ≡ q.0)

-- a call is at one of its ends; a store, which is at the end whose word it is, is at a queue of
-- which it has an end
abbrev pub IsOwnCall : Rogue → Event → Type 0
IsOwnCall r e = RogueEnd r (role_of e.op) e.queue.0
    ⊎ ((is_store e.op ≡ true) × (role : Role) × RogueEnd r role e.queue.0)

-- of each pool: what it had at the start, and what came, is what went, and what it keeps
abbrev pub RogueBalances : Rogue → Passed → Type 0
RogueBalances r passed = Balances (page_bodies r.start.value.items)
    (bodies_at passed.taken (numbers r.inputs.items))
    (bodies_at passed.sent (numbers r.outputs.items)) r.kept.items []
