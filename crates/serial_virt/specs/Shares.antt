-- What the receiving virtualiser stands for of one client by itself: it may drop a byte for want of
-- room in the client's queue.
use Rattle.std.specs.Prelude.{◌≡◌, ◌==◌, ◌+◌, ◌&&◌, ◌||◌, ℕ, Bool, true, false, cond, nat_lt, flat_map}
use Rattle.std.specs.Prelude.{Option, Some, None, List, [], ◌++◌, ◌∷◌, length, map, slice_index_or}
use Rattle.cargo_core.specs.declared.item.Item.{Item}
use Rattle.wire_core.specs.declared.names.QueueId.{QueueId}
use Rattle.wire_core.specs.declared.names.Event.{Event}
use Rattle.wire_core.specs.declared.names.Op.{Op}
use Rattle.wire_core.specs.declared.names.Op.TheVariants as Do
use Rattle.wire_core.specs.Bells.{bit}
use Rattle.wire_core.specs.Deeds.{Cargo}
use Rattle.wire_core.specs.Ends.{Producer}
use Rattle.wire_core.specs.Fates.{Reading, Came, Served, Refused, Other, Fate, fate_of, is_take_at}
use Rattle.wire_core.specs.Fates.{is_vain_at, without, marked}
use Rattle.class_expect.specs.SerialSwitch.Carried.{byte_of, byte_cargo}
use Rattle.class_expect.specs.SerialSwitch.Switching.{input_of}

-- it is a put
abbrev pub is_put : Op → Bool
is_put Do.Put = true
is_put Do.Take = false
is_put Do.See = false
is_put Do.Room = false
is_put (Do.Ask s) = false
is_put (Do.Waive s) = false
is_put (Do.Wake s) = false
is_put (Do.Wanted s) = false
is_put (Do.Settle s) = false
is_put (Do.Ring s) = false
is_put (Do.Store w v) = false

-- a put at queue n
abbrev pub is_put_at : ℕ → Event → Bool
is_put_at n e = is_put e.op && (e.queue.0 == n)

-- the byte that an event's item is
abbrev pub byte_told : Option Item → List ℕ
byte_told (Some item) = byte_of item
byte_told None = []

-- the bytes that were taken at the input
abbrev pub heard : (input : ℕ) → List Event → List ℕ
heard input calls = flat_map (λ e. cond (is_take_at input e) (byte_told e.item) []) calls

-- of one client of so many: whether bytes for it may be dropped, and its queue
pub record Taker : Type 0 where
  pub clients : ℕ
  pub client : ℕ
  pub drops : Bool
  pub queue : ℕ

-- what came to this client so far
abbrev pub came_to : (input : ℕ) → Taker → List Event → List ℕ
came_to input t calls = input_of t.clients t.client (heard input calls)

-- what a call is to a client's bytes: one comes where a take gives it one, is served where it is
-- put, and under drop is refused where a look for room in its queue answers no
abbrev pub serial_word : (input : ℕ) → Taker → Reading
serial_word input t before e =
    cond (is_take_at input e)
    (cond (nat_lt (length (came_to input t before)) (length (came_to input t (before ++ e ∷ []))))
    Came Other)
    (cond (is_put_at t.queue e) Served
    (cond (t.drops && is_vain_at Producer t.queue e) Refused Other))

-- what became of a client's bytes by these calls
abbrev pub byte_fate : (input : ℕ) → Taker → List Event → Fate
byte_fate input t calls = fate_of (serial_word input t) calls

-- a look in vain for room in one of these queues, where bytes for its client may be dropped: it
-- drops one
abbrev pub is_byte_drop : List QueueId → (drops : List Bool) → Event → Bool
is_byte_drop [] drops e = false
is_byte_drop (q ∷ queues) [] e = false
is_byte_drop (q ∷ queues) (d ∷ drops) e =
    (d && is_vain_at Producer q.0 e) || is_byte_drop queues drops e

-- the calls tell what became of a client's bytes: each is settled but one that waits, which is
-- owed, and each look in vain for room dropped one
pub record ClientTells (f : Fate) (noes : ℕ) (input : List ℕ) (owed : List Cargo) : Type 0 where
  pub came : length f.dropped + bit f.waits ≡ length input
  pub waits : bit f.waits ≡ length owed
  pub each : noes ≡ marked f.dropped

-- a client's bytes: what was put to it, and what is owed to it, are those that weren't dropped; and
-- where some may be, the calls tell what became of them
pub record ClientStands (drops : Bool) (f : Fate) (noes : ℕ) (input : List ℕ)
    (sent owed : List Cargo) : Type 0 where
  pub given : sent ++ owed ≡ map byte_cargo (without f.dropped input)
  pub tells : drops ≡ true → ClientTells f noes input owed

-- whether bytes for the client of a place may be dropped
abbrev pub policy_at : List Bool → ℕ → Bool
policy_at drops k = slice_index_or drops k false

-- the client of a place, with its policy
abbrev pub taker_at : List QueueId → List Bool → ℕ → QueueId → Taker
taker_at queues drops k q = record {
  clients = length queues;
  client = k;
  drops = policy_at drops k;
  queue = q.0;
}

-- no byte may be dropped
abbrev pub AllHold : List Bool → Type 0
AllHold drops = (k : ℕ) → policy_at drops k ≡ false
