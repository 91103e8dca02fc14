-- What a hostile client has yet to do, and which call comes next: a function of the acts that are
-- left, of the number of entries that it keeps, and of its last look.
use Rattle.std.specs.Prelude.{◌≡◌, ◌+◌, ◌-◌, ◌%◌, ◌^◌, ℕ, Bool, true, false, nat_lt, List, [], ◌∷◌}
use Rattle.std.specs.Prelude.{if◌then◌else◌, Option, Some, None, slice_index_or, length}
use Rattle.cargo_core.specs.declared.act.Act.{Act}
use Rattle.cargo_core.specs.declared.act.Act.TheVariants as Acts
use Rattle.cargo_core.specs.declared.item.Item.{Item}
use Rattle.cargo_core.specs.declared.item.Item.TheVariants as Carried
use Rattle.cargo_core.specs.declared.item.QueueKind.{QueueKind}
use Rattle.cargo_core.specs.declared.item.QueueKind.TheVariants as Kind
use Rattle.cargo_core.specs.declared.item.Code.TheVariants as Asked
use Rattle.wire_core.specs.declared.names.QueueId.{QueueId}
use Rattle.wire_core.specs.declared.names.Event.{Event}
use Rattle.wire_core.specs.declared.names.Op.{Op}
use Rattle.wire_core.specs.declared.names.Op.TheVariants as Do
use Rattle.wire_core.specs.declared.names.Answer.{Answer}
use Rattle.wire_core.specs.declared.names.Answer.TheVariants.{Done, Yes, No}
use Rattle.wire_core.specs.Bells.{bit}

-- what is left to do: the acts, whether the look of the first of them answered yes, and how many
-- entries are kept
pub record Left : Type 0 where
  pub acts : List Act
  pub looked : Bool
  pub kept : ℕ

-- an act makes a call but where it gives what stands at a place at which nothing is kept
abbrev pub makes_call : ℕ → Act → Bool
makes_call kept (Acts.Take k) = true
makes_call kept (Acts.Put k a l) = true
makes_call kept (Acts.Give k p a l) = nat_lt p kept
makes_call kept (Acts.Store k w v) = true

-- the acts from the first on that makes a call
abbrev pub next_acts : ℕ → List Act → List Act
next_acts kept [] = []
next_acts kept (x ∷ xs) = if makes_call kept x then x ∷ xs else next_acts kept xs

-- there are none
abbrev pub is_none_left : List Act → Bool
is_none_left [] = true
is_none_left (x ∷ xs) = false

-- no act that makes a call is left
abbrev pub is_done : Left → Bool
is_done left = is_none_left (next_acts left.kept left.acts)

-- the number of the end at which an act is
abbrev pub act_end : Act → ℕ
act_end (Acts.Take k) = k
act_end (Acts.Put k a l) = k
act_end (Acts.Give k p a l) = k
act_end (Acts.Store k w v) = k

-- the call that an act makes next: a look, and after a yes its move
abbrev pub act_op : Bool → Act → Op
act_op looked (Acts.Take k) = if looked then Do.Take else Do.See
act_op looked (Acts.Put k a l) = if looked then Do.Put else Do.Room
act_op looked (Acts.Give k p a l) = if looked then Do.Put else Do.Room
act_op looked (Acts.Store k w v) = Do.Store w v

-- the item that an address and a length tell, at a queue of this kind
abbrev pub item_for : QueueKind → ℕ → ℕ → Item
item_for Kind.Net a l = Carried.Net (record { addr = a; len = l % 65536 })
item_for Kind.Byte a l = Carried.Byte (l % 256)
item_for Kind.Req a l = Carried.Req
    (record { addr = a; block = l % 2 ^ 32; id = 0; count = 1; code = Asked.Write })
item_for Kind.Resp a l = Carried.Byte (l % 256)

-- the item that the call moves, where the act itself tells it; what is taken it doesn't
abbrev pub ItemFits : QueueKind → Bool → Act → Option Item → Type 0
ItemFits kind true (Acts.Take k) item = Unit {0}
ItemFits kind true (Acts.Put k a l) item = item ≡ Some (item_for kind a l)
ItemFits kind true (Acts.Give k p a l) item = item ≡ Some (item_for kind a l)
ItemFits kind true (Acts.Store k w v) item = item ≡ None
ItemFits kind false x item = item ≡ None

-- what is left after an act's look: the act itself after a yes; after a no it is given up
abbrev pub after_look : Act → List Act → ℕ → Answer → Left
after_look x xs kept Yes = record { acts = x ∷ xs; looked = true; kept = kept }
after_look x xs kept No = record { acts = xs; looked = false; kept = kept }
after_look x xs kept Done = record { acts = xs; looked = false; kept = kept }

-- what is left after an act's next call, where these follow it: what it takes is kept, and what it
-- gives is kept no more
abbrev pub after_act : Bool → Act → List Act → ℕ → Answer → Left
after_act true (Acts.Take k) xs kept a = record { acts = xs; looked = false; kept = kept + 1 }
after_act true (Acts.Put k x l) xs kept a = record { acts = xs; looked = false; kept = kept }
after_act true (Acts.Give k p x l) xs kept a = record { acts = xs; looked = false; kept = kept - 1 }
after_act false (Acts.Take k) xs kept a = after_look (Acts.Take k) xs kept a
after_act false (Acts.Put k x l) xs kept a = after_look (Acts.Put k x l) xs kept a
after_act false (Acts.Give k p x l) xs kept a = after_look (Acts.Give k p x l) xs kept a
after_act looked (Acts.Store k w v) xs kept a = record { acts = xs; looked = looked; kept = kept }

-- the same of the first of some acts
abbrev pub after_first : Bool → ℕ → List Act → Answer → Left
after_first looked kept [] a = record { acts = []; looked = looked; kept = kept }
after_first looked kept (x ∷ xs) a = after_act looked x xs kept a

-- what is left after one call that answers so
abbrev pub left_after : Left → Answer → Left
left_after left a = after_first left.looked left.kept (next_acts left.kept left.acts) a

-- the queue of the end of a number, its inputs first
abbrev pub queue_of : List QueueId → ℕ → ℕ
queue_of ends k = (slice_index_or ends k (record { 0 = 0 })).0

-- a call is the one that an act makes next
pub record IsCall (kind : QueueKind) (ends : List QueueId) (looked : Bool) (x : Act) (e : Event) :
    Type 0 where
  pub queue : e.queue.0 ≡ queue_of ends (act_end x)
  pub op : e.op ≡ act_op looked x
  pub item : ItemFits kind looked x e.item

-- it is the one that the first of some acts makes
abbrev pub IsNextOf : QueueKind → List QueueId → Bool → List Act → Event → Type 0
IsNextOf kind ends looked [] e = ⊥
IsNextOf kind ends looked (x ∷ xs) e = IsCall kind ends looked x e

-- the first call of what is left
abbrev pub IsNext : QueueKind → List QueueId → Left → Event → Type 0
IsNext kind ends left e = IsNextOf kind ends left.looked (next_acts left.kept left.acts) e

-- what is left after these calls
abbrev pub left_from : Left → List Event → Left
left_from left [] = left
left_from left (e ∷ es) = left_from (left_after left e.answer) es

-- these calls are those of the acts, one by one
abbrev pub Follows : QueueKind → List QueueId → Left → List Event → Type 0
Follows kind ends left [] = Unit {0}
Follows kind ends left (e ∷ es) =
    IsNext kind ends left e × Follows kind ends (left_after left e.answer) es

-- how many calls are left at most: two an act
abbrev pub calls_left : Left → ℕ
calls_left left = length left.acts + length left.acts - bit left.looked

-- whether all is done after these calls: how a hostile actor goes about
abbrev pub is_done_after : Left → List Event → Bool
is_done_after left es = is_done (left_from left es)
