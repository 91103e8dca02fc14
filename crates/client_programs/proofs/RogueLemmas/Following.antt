-- The calls that follow an account of acts.
use Rattle.std.proofs.Common.{◌≡◌, ◌≤◌, ◌+◌, ◌-◌, ◌++◌, ℕ, Bool, true, false, if◌then◌else◌, List, [], ◌∷◌, length, refl, sym, ◌∙◌, arith}
use Rattle.cargo_core.specs.declared.item.QueueKind.{QueueKind}
use Rattle.wire_core.specs.declared.names.QueueId.{QueueId}
use Rattle.wire_core.specs.declared.names.Event.{Event}
use Rattle.wire_core.specs.declared.names.Answer.{Answer}
use Rattle.wire_core.specs.declared.names.Answer.TheVariants.{Done, Yes, No}
use Rattle.wire_core.specs.Bells.{bit}
use Rattle.wire_core.specs.Lists.{nothing_passed}
use Rattle.cargo_core.specs.declared.act.Act.{Act}
use Rattle.cargo_core.specs.declared.act.Act.TheVariants as Acts
use Rattle.client_programs.specs.declared.rogue.Rogue.{Rogue}
use Rattle.turn_kit.specs.Hands.{bodies_at}
use Rattle.buffer_kit.specs.Conserving.{Count, counted}
use Rattle.buffer_kit.specs.Pools.{page_bodies}
use Rattle.client_programs.specs.Rogue.Acts.{Left, makes_call, next_acts, after_first, left_after, left_from, calls_left, Follows, IsNext, IsNextOf, is_done}
use Rattle.client_programs.specs.Rogue.Clients.{RogueStandsFor, numbers, takes}

pub takes_few : (xs : List Act) → takes xs ≤ length xs
takes_few [] = omega arith
takes_few (Acts.Take k ∷ xs) = omega (arith, takes_few xs)
takes_few (Acts.Put k a l ∷ xs) = omega (arith, takes_few xs)
takes_few (Acts.Give k p a l ∷ xs) = omega (arith, takes_few xs)
takes_few (Acts.Store k w v ∷ xs) = omega (arith, takes_few xs)

nothing : (f : Count) (ns : List ℕ) → counted f (bodies_at (λ n. []) ns) ≡ 0
nothing f [] = refl
nothing f (n ∷ ns) = nothing f ns

pub starts_stand : (r : Rogue) → r.kept.items ≡ page_bodies r.start.value.items → RogueStandsFor r nothing_passed
starts_stand r kept f = rw kept (omega (arith, nothing f (numbers r.inputs.items), nothing f (numbers r.outputs.items)))

-- one call more
pub from_more : (p : Left) (es : List Event) (e : Event) → left_from p (es ++ e ∷ []) ≡ left_after (left_from p es) e.answer
from_more p [] e = refl
from_more p (x ∷ es) e = from_more (left_after p x.answer) es e

pub follows_more : (kind : QueueKind) (ends : List QueueId) (p : Left) (es : List Event) (e : Event) → Follows kind ends p es → IsNext kind ends (left_from p es) e → Follows kind ends p (es ++ e ∷ [])
follows_more kind ends p [] e h next = (next, tt)
follows_more kind ends p (x ∷ es) e h next = (h.0, follows_more kind ends (left_after p x.answer) es e h.1 next)

-- the next call is a function of what is left
same_of : (kind : QueueKind) (ends : List QueueId) (looked : Bool) (xs : List Act) (e f : Event) → IsNextOf kind ends looked xs e → IsNextOf kind ends looked xs f → (e.queue.0 ≡ f.queue.0) × (e.op ≡ f.op)
same_of kind ends looked [] e f a b = absurd a
same_of kind ends looked (x ∷ xs) e f a b = (a.queue ∙ sym b.queue, a.op ∙ sym b.op)

pub next_same : (kind : QueueKind) (ends : List QueueId) (p : Left) (e f : Event) → IsNext kind ends p e → IsNext kind ends p f → (e.queue.0 ≡ f.queue.0) × (e.op ≡ f.op)
next_same kind ends p e f a b = same_of kind ends p.looked (next_acts p.kept p.acts) e f a b

-- there is a next call exactly where not all is done
pub next_none : (kind : QueueKind) (ends : List QueueId) (p : Left) (e : Event) → IsNext kind ends p e → is_done p ≡ false
next_none kind ends p e h = of_list (next_acts p.kept p.acts) refl h
  where
    of_list : (xs : List Act) → next_acts p.kept p.acts ≡ xs → IsNextOf kind ends p.looked xs e → is_done p ≡ false
    of_list [] s n = absurd n
    of_list (x ∷ xs) s n = rw s refl

-- each call leaves one less, at most two an act
fewer_acts : (kept : ℕ) (xs : List Act) → length (next_acts kept xs) ≤ length xs
fewer_acts kept [] = omega arith
fewer_acts kept (x ∷ xs) = one (fewer_acts kept xs) (makes_call kept x)
  where
    one : length (next_acts kept xs) ≤ length xs → (b : Bool) → length (if b then x ∷ xs else next_acts kept xs) ≤ length (x ∷ xs)
    one h true = omega arith
    one h false = omega (arith, h)

less_with : (kind : QueueKind) (ends : List QueueId) (looked : Bool) (kept : ℕ) (xs : List Act) (e : Event) (a : Answer) → IsNextOf kind ends looked xs e → calls_left (after_first looked kept xs a) + 1 ≤ length xs + length xs - bit looked
less_with kind ends looked kept [] e a h = absurd h
less_with kind ends true kept (Acts.Take k ∷ xs) e a h = omega arith
less_with kind ends true kept (Acts.Put k y l ∷ xs) e a h = omega arith
less_with kind ends true kept (Acts.Give k p y l ∷ xs) e a h = omega arith
less_with kind ends false kept (Acts.Take k ∷ xs) e Yes h = omega arith
less_with kind ends false kept (Acts.Take k ∷ xs) e No h = omega arith
less_with kind ends false kept (Acts.Take k ∷ xs) e Done h = omega arith
less_with kind ends false kept (Acts.Put k y l ∷ xs) e Yes h = omega arith
less_with kind ends false kept (Acts.Put k y l ∷ xs) e No h = omega arith
less_with kind ends false kept (Acts.Put k y l ∷ xs) e Done h = omega arith
less_with kind ends false kept (Acts.Give k p y l ∷ xs) e Yes h = omega arith
less_with kind ends false kept (Acts.Give k p y l ∷ xs) e No h = omega arith
less_with kind ends false kept (Acts.Give k p y l ∷ xs) e Done h = omega arith
less_with kind ends true kept (Acts.Store k w v ∷ xs) e a h = omega arith
less_with kind ends false kept (Acts.Store k w v ∷ xs) e a h = omega arith

pub less_left : (kind : QueueKind) (ends : List QueueId) (p : Left) (e : Event) → IsNext kind ends p e → calls_left (left_after p e.answer) + 1 ≤ calls_left p
less_left kind ends p e h = omega (arith, less_with kind ends p.looked p.kept (next_acts p.kept p.acts) e e.answer h, fewer_acts p.kept p.acts)

pub bounded : (kind : QueueKind) (ends : List QueueId) (p : Left) (es : List Event) → Follows kind ends p es → length es + calls_left (left_from p es) ≤ calls_left p
bounded kind ends p [] h = omega arith
bounded kind ends p (e ∷ es) h = omega (arith, less_left kind ends p e h.0, bounded kind ends (left_after p e.answer) es h.1)
