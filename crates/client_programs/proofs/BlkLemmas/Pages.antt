-- The buffers in hand, in front and behind.
use Rattle.std.proofs.Common.{◌≡◌, ◌+◌, ◌<◌, ◌↔◌, IsSome, length, subst, List, [], ◌∷◌, ◌++◌, Option, Some, None, reverse, refl, ap, ◌∙◌, arith}
use Rattle.std.specs.Option.{option_to_list}
use Rattle.std.proofs.lemmas.List.{append-nil, reverse-append}
use Rattle.cargo_core.specs.declared.item.PoolId.{PoolId}
use Rattle.cargo_core.specs.Bodies.{buffers_of}
use Rattle.cargo_core.specs.Pages.{Paged}
use Rattle.buffer_kit.specs.Pools.{page_bodies}
use Rattle.buffer_kit.proofs.Counts.{pages-append, pages-reverse}

pub both_count : (pool : PoolId) (front back : List Paged) → buffers_of pool (page_bodies (reverse front ++ back)) ≡ buffers_of pool (page_bodies front) + buffers_of pool (page_bodies back)
both_count pool front back =
    let all = pages-append pool (reverse front) back in
    let turned = pages-reverse pool front in
    omega (arith, all, turned)

-- the last of a list is the first of it reversed
pub popped : {X : Type 0} (old new : List X) (x : Option X) → old ≡ new ++ option_to_list x → reverse old ≡ option_to_list x ++ reverse new
popped old new None e = ap reverse (e ∙ append-nil new)
popped old new (Some x) e = ap reverse e ∙ reverse-append new (x ∷ [])

pub none_popped : {X : Type 0} (old : List X) (x : Option X) → (IsSome x ↔ (0 < length old)) → x ≡ None → old ≡ []
none_popped [] x h none = refl
none_popped {X = X} (y ∷ old) x h none = let some = subst (λ (o : Option X). IsSome o) none (h.1 (omega arith)) in absurd cc
