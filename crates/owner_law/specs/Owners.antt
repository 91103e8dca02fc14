-- The table of owners, which a journal is replayed on: it gives each buffer its one place, and each
-- lease its own.
use Rattle.std.specs.Prelude.{◌≡◌, ◌==◌, ◌-◌, ◌≤◌, ℕ, zero, suc, Bool, false, if◌then◌else◌, Option}
use Rattle.std.specs.Prelude.{Some, None, List, [], ◌∷◌, ◌++◌, length, replicate, count_by}
use Rattle.cargo_core.specs.declared.item.Item.{Item}
use Rattle.wire_core.specs.declared.names.Entry.{Entry}
use Rattle.wire_core.specs.declared.names.Op.{Op}
use Rattle.wire_core.specs.declared.names.Op.TheVariants as Do
use Rattle.wire_core.specs.Journal.{History, EachEntry}
use Rattle.play_core.specs.Moved.{Moved, moved}
use Rattle.owner_law.specs.Things.{Buffer, is_same, Naming, Thing, Nothing, Whole, Frame, Lease}
use Rattle.owner_law.specs.Things.{Return, thing_at, requests_of}

-- where things stand: in a queue, or in the hand of an actor
pub data Spot : Type 0 where
  InQueue : ℕ → Spot
  InHand : ℕ → Spot

-- the same spot
abbrev pub is_spot : Spot → Spot → Bool
is_spot (InQueue n) (InQueue q) = n == q
is_spot (InQueue n) (InHand k) = false
is_spot (InHand k) (InQueue n) = false
is_spot (InHand k) (InHand j) = k == j

-- the place of a buffer: at a spot, or lent to so many receivers; a buffer that isn't there has
-- none
pub data Place : Type 0 where
  Nowhere : Place
  At : Spot → Place
  Lent : (receivers : ℕ) → Place

-- of each buffer its place, and the spots at which its leases are
pub record Table : Type 0 where
  pub place : Buffer → Place
  pub leases : Buffer → List Spot

-- how many leases of a buffer are at a spot
abbrev pub leases_at : Table → Buffer → Spot → ℕ
leases_at t b spot = count_by (λ s. is_spot s spot) (t.leases b)

-- a thing stands at a spot: the buffer itself, or a lease of it
abbrev pub Stands : Table → Spot → Thing → Type 0
Stands t spot Nothing = Unit {0}
Stands t spot (Whole b) = t.place b ≡ At spot
Stands t spot (Frame b receivers) = t.place b ≡ At spot
Stands t spot (Lease b) = 1 ≤ leases_at t b spot
Stands t spot (Return b) = 1 ≤ leases_at t b spot

-- the buffer is at another place, and all else as it was
abbrev pub with_place : Table → Buffer → Place → Table
with_place t b place = record {
  place = λ c. if is_same b c then place else t.place c;
  leases = t.leases;
}

-- the leases of a buffer are at other spots, and all else is as it was
abbrev pub with_leases : Table → Buffer → List Spot → Table
with_leases t b spots = record {
  place = t.place;
  leases = λ c. if is_same b c then spots else t.leases c;
}

-- spots without one of those at which this one is
abbrev pub without : Spot → List Spot → List Spot
without spot [] = []
without spot (s ∷ spots) = if is_spot s spot then spots else s ∷ without spot spots

-- a lease moves from spot to spot
abbrev pub with_lease_moved : Table → Buffer → (from to : Spot) → Table
with_lease_moved t b from to = with_leases t b (to ∷ without from (t.leases b))

-- a put moves a thing from the actor's hand to the queue
abbrev pub after_put : Table → (actor queue : ℕ) → Thing → Table
after_put t actor queue Nothing = t
after_put t actor queue (Whole b) = with_place t b (At (InQueue queue))
after_put t actor queue (Frame b receivers) = with_place t b (At (InQueue queue))
after_put t actor queue (Lease b) = with_lease_moved t b (InHand actor) (InQueue queue)
after_put t actor queue (Return b) = with_lease_moved t b (InHand actor) (InQueue queue)

-- a buffer with a frame that is for receivers is lent to them; one whose frame is for nobody is in
-- the hand of who took it
abbrev pub frame_place : (actor receivers : ℕ) → Place
frame_place actor zero = At (InHand actor)
frame_place actor (suc more) = Lent (suc more)

-- one receiver of a lent buffer less: after the last one it is in the hand of who took the lease
-- back
abbrev pub returned_place : (actor : ℕ) → Place → Place
returned_place actor Nowhere = Nowhere
returned_place actor (At spot) = At spot
returned_place actor (Lent receivers) = if receivers == 1 then At (InHand actor) else
    Lent (receivers - 1)

-- a take moves a thing from the queue to the actor's hand; of a buffer that it lends, as many
-- leases as there are receivers are in that hand; a lease that comes back is no more
abbrev pub after_take : Table → (actor queue : ℕ) → Thing → Table
after_take t actor queue Nothing = t
after_take t actor queue (Whole b) = with_place t b (At (InHand actor))
after_take t actor queue (Frame b receivers) = with_leases
    (with_place t b (frame_place actor receivers)) b
    (replicate receivers (InHand actor) ++ t.leases b)
after_take t actor queue (Lease b) = with_lease_moved t b (InQueue queue) (InHand actor)
after_take t actor queue (Return b) = with_leases
    (with_place t b (returned_place actor (t.place b))) b (without (InQueue queue) (t.leases b))

-- nothing moves, or a thing is put or taken
pub data Move : Type 0 where
  Stays : Move
  Puts : Thing → Move
  Takes : Thing → Move

-- a put moves what its item carries
abbrev pub put_move : Option Item → (Item → Thing) → Move
put_move None thing = Stays
put_move (Some item) thing = Puts (thing item)

-- a take moves what its item carries
abbrev pub take_move : Option Item → (Item → Thing) → Move
take_move None thing = Stays
take_move (Some item) thing = Takes (thing item)

-- what a call moves, of which puts and takes alone move something
abbrev pub call_move : Op → Option Item → (put take : Item → Thing) → Move
call_move Do.Put item put take = put_move item put
call_move Do.Take item put take = take_move item take
call_move Do.See item put take = Stays
call_move Do.Room item put take = Stays
call_move (Do.Ask s) item put take = Stays
call_move (Do.Waive s) item put take = Stays
call_move (Do.Wanted s) item put take = Stays
call_move (Do.Settle s) item put take = Stays
call_move (Do.Ring s) item put take = Stays
call_move (Do.Store w v) item put take = Stays
call_move (Do.Wake s) item put take = Stays

-- what an entry of the journal moves, where so much went through the queues before it
abbrev pub move_of : Naming → Moved → Entry → Move
move_of naming m e = call_move e.event.op e.event.item
    (thing_at (naming e.event.queue.0) (requests_of (naming e.event.queue.0) m)
    (length (m.sent e.event.queue.0)))
    (thing_at (naming e.event.queue.0) (requests_of (naming e.event.queue.0) m)
    (length (m.taken e.event.queue.0)))

-- the table after a call of an actor at a queue
abbrev pub after_move : Table → (actor queue : ℕ) → Move → Table
after_move t actor queue Stays = t
after_move t actor queue (Puts thing) = after_put t actor queue thing
after_move t actor queue (Takes thing) = after_take t actor queue thing

-- a move finds its buffer or lease in the place that it leaves
abbrev pub Finds : Table → (actor queue : ℕ) → Move → Type 0
Finds t actor queue Stays = Unit {0}
Finds t actor queue (Puts thing) = Stands t (InHand actor) thing
Finds t actor queue (Takes thing) = Stands t (InQueue queue) thing

-- the table after the entries that follow these, of which it shows what they left
abbrev pub replay_from : Naming → History → (before : List Entry) → Table → List Entry → Table
replay_from naming history before t [] = t
replay_from naming history before t (e ∷ es) = replay_from naming history (before ++ e ∷ [])
    (after_move t e.actor.0 e.event.queue.0 (move_of naming (moved history before) e)) es

-- the table after a journal that began with this one
abbrev pub replay : Naming → History → Table → List Entry → Table
replay naming history t journal = replay_from naming history [] t journal

-- how many receivers a buffer is lent to
abbrev pub receivers : Place → ℕ
receivers Nowhere = 0
receivers (At spot) = 0
receivers (Lent n) = n

-- each lent buffer has a receiver, and has as many as leases of it are in queues and hands; of a
-- buffer that isn't lent there is no lease
pub record AreCounted (t : Table) : Type 0 where
  pub leases : (b : Buffer) → receivers (t.place b) ≡ length (t.leases b)
  pub some : (b : Buffer) (n : ℕ) → t.place b ≡ Lent n → 1 ≤ n

-- each move so far found its buffer or lease in the place that it leaves, and lent buffers are
-- counted
pub record OneOwner (naming : Naming) (history : History) (start : Table)
    (journal : List Entry) : Type 0 where
  pub found : EachEntry (λ before e. Finds (replay naming history start before) e.actor.0
      e.event.queue.0 (move_of naming (moved history before) e)) journal
  pub counted : AreCounted (replay naming history start journal)
