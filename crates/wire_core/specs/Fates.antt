-- What becomes of the things that come to an actor one after another, as frames to a copier: each
-- is served or dropped before the next comes. It is read off the order of the actor's calls.
use Rattle.std.specs.Prelude.{◌≡◌, ◌==◌, ◌&&◌, ◌+◌, ℕ, Bool, true, false, cond, List, [], ◌∷◌, ◌++◌}
use Rattle.std.specs.Prelude.{length}
use Rattle.wire_core.specs.declared.names.Event.{Event}
use Rattle.wire_core.specs.declared.names.Op.{Op}
use Rattle.wire_core.specs.declared.names.Op.TheVariants as Do
use Rattle.wire_core.specs.Bells.{bit}
use Rattle.wire_core.specs.Ends.{Role, role_of}
use Rattle.wire_core.specs.Marks.{is_vain_look, is_role}

-- it is a take
abbrev pub is_take : Op → Bool
is_take Do.Take = true
is_take Do.Put = false
is_take Do.See = false
is_take Do.Room = false
is_take (Do.Ask s) = false
is_take (Do.Waive s) = false
is_take (Do.Wake s) = false
is_take (Do.Wanted s) = false
is_take (Do.Settle s) = false
is_take (Do.Ring s) = false
is_take (Do.Store w v) = false

-- a take from queue n
abbrev pub is_take_at : ℕ → Event → Bool
is_take_at n e = is_take e.op && (e.queue.0 == n)

-- a look in vain at the end of this role of queue n
abbrev pub is_vain_at : Role → ℕ → Event → Bool
is_vain_at r n e = is_vain_look e.op e.answer && (is_role (role_of e.op) r && (e.queue.0 == n))

-- how many looks in vain there were at an end
abbrev pub noes_at : Role → ℕ → List Event → ℕ
noes_at r n [] = 0
noes_at r n (e ∷ es) = bit (is_vain_at r n e) + noes_at r n es

-- what a call is to the things that come
pub data Word : Type 0 where
  Came : Word
  Served : Word
  Refused : Word
  Other : Word

-- of the things that came, in their order, whether each was dropped; and whether one more came, of
-- which it isn't settled
pub record Fate : Type 0 where
  pub dropped : List Bool
  pub waits : Bool

-- nothing came yet
abbrev pub no_fate : Fate
no_fate = record { dropped = []; waits = false }

-- what waits is dropped, or isn't
abbrev pub settled_as : Bool → Fate → Fate
settled_as drop f = record {
  dropped = f.dropped ++ cond f.waits (drop ∷ []) [];
  waits = false;
}

-- what became of the things after one call more
abbrev pub fate_after : Fate → Word → Fate
fate_after f Came = record (settled_as false f) { waits = true }
fate_after f Served = settled_as false f
fate_after f Refused = settled_as true f
fate_after f Other = f

-- what a call is, by itself and the calls before it
abbrev pub Reading : Type 0
Reading = (before : List Event) → Event → Word

-- what became of them from a fate on, by calls that come after those before
abbrev pub fate_from : Reading → (before : List Event) → Fate → List Event → Fate
fate_from reading before f [] = f
fate_from reading before f (e ∷ es) =
    fate_from reading (before ++ e ∷ []) (fate_after f (reading before e)) es

-- what became of the things by these calls
abbrev pub fate_of : Reading → List Event → Fate
fate_of reading calls = fate_from reading [] no_fate calls

-- a list without the elements that are marked; what stands behind the marks stays
abbrev pub without : {X : Type 0} → List Bool → List X → List X
without [] xs = xs
without (b ∷ bs) [] = []
without (true ∷ bs) (x ∷ xs) = without bs xs
without (false ∷ bs) (x ∷ xs) = x ∷ without bs xs

-- how many are marked
abbrev pub marked : List Bool → ℕ
marked [] = 0
marked (b ∷ bs) = bit b + marked bs

-- a word that refuses
abbrev pub IsRefused : Word → Type 0
IsRefused Refused = Unit {0}
IsRefused Came = ⊥
IsRefused Served = ⊥
IsRefused Other = ⊥

-- the thing of a place was dropped where a call refused it: one that waited as so many before it
-- were settled
pub record IsDroppedAt (reading : Reading) (calls : List Event) (place : ℕ) : Type 0 where
  pub before : List Event
  pub look : Event
  pub after : List Event
  pub whole : calls ≡ before ++ look ∷ after
  pub refused : reading before look ≡ Refused
  pub waited : (fate_of reading before).waits ≡ true
  pub place_is : length (fate_of reading before).dropped ≡ place

-- none of these calls is anything to the things that come
abbrev pub AreOther : Reading → (before : List Event) → List Event → Type 0
AreOther reading before [] = Unit {0}
AreOther reading before (e ∷ es) =
    (reading before e ≡ Other) × AreOther reading (before ++ e ∷ []) es
