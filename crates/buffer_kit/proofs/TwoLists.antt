-- An actor with two lists of ends, one behind the other.
use Rattle.std.proofs.Common.{◌≡◌, ◌+◌, ◌&&◌, ℕ, zero, suc, Bool, true, false, Some, List, [], ◌∷◌, ◌++◌, length, slice_get, slice_set, refl, sym, ap, ◌∙◌, add-zero, zero-add, arith}
use Rattle.wire_core.specs.declared.names.QueueId.{QueueId}
use Rattle.wire_core.specs.declared.names.Event.{Event}
use Rattle.turn_kit.specs.Table.{is_settled}
use Rattle.turn_kit.specs.Turns.{Post, PostedAt, Choosing, choice_with, offered_from, settled_all}
use Rattle.turn_kit.specs.ManyEnds.{needs_from}

-- offering ends changes no count
pub offered_count : (c : Choosing) (place : ℕ) (ps : List Post) (ns : List Bool) → (offered_from c place ps ns).count ≡ c.count
offered_count c place [] ns = refl
offered_count c place (p ∷ ps) [] = refl
offered_count c place (p ∷ ps) (n ∷ ns) = offered_count (choice_with c (record { queue = p.queue; place = place }) (is_settled p.state n)) (place + 1) ps ns

-- one list is offered after the other
pub offered_append : (c : Choosing) (place : ℕ) (ps qs : List Post) (ns ms : List Bool) → length ns ≡ length ps → offered_from c place (ps ++ qs) (ns ++ ms) ≡ offered_from (offered_from c place ps ns) (place + length ps) qs ms
offered_append c place [] qs [] ms e = ap (λ n. offered_from c n qs ms) (sym (add-zero place))
offered_append c place [] qs (n ∷ ns) ms e = absurd (omega (arith, e))
offered_append c place (p ∷ ps) qs [] ms e = absurd (omega (arith, e))
offered_append c place (p ∷ ps) qs (n ∷ ns) ms e =
    let now : Choosing = choice_with c (record { queue = p.queue; place = place }) (is_settled p.state n) in
    let on : place + 1 + length ps ≡ place + length (p ∷ ps) = omega arith in
    offered_append now (place + 1) ps qs ns ms (omega (arith, e)) ∙ ap (λ k. offered_from (offered_from now (place + 1) ps ns) k qs ms) on

and_assoc : (a b c : Bool) → (a && (b && c)) ≡ ((a && b) && c)
and_assoc true b c = refl
and_assoc false b c = refl

-- both lists are settled where each is
pub settled_append : (ps qs : List Post) (ns ms : List Bool) → length ns ≡ length ps → settled_all (ps ++ qs) (ns ++ ms) ≡ (settled_all ps ns && settled_all qs ms)
settled_append [] qs [] ms e = refl
settled_append [] qs (n ∷ ns) ms e = absurd (omega (arith, e))
settled_append (p ∷ ps) qs [] ms e = absurd (omega (arith, e))
settled_append (p ∷ ps) qs (n ∷ ns) ms e = ap (λ b. is_settled p.state n && b) (settled_append ps qs ns ms (omega (arith, e))) ∙ and_assoc (is_settled p.state n) (settled_all ps ns) (settled_all qs ms)

pub get_front : {X : Type 0} (xs ys : List X) (k : ℕ) (x : X) → slice_get xs k ≡ Some x → slice_get (xs ++ ys) k ≡ Some x
get_front [] ys k x h = cc
get_front (z ∷ xs) ys zero x h = h
get_front (z ∷ xs) ys (suc k) x h = get_front xs ys k x h

past : (n k : ℕ) → suc n + k ≡ suc (n + k)
past n k = omega arith

pub get_behind : {X : Type 0} (xs ys : List X) (k : ℕ) → slice_get (xs ++ ys) (length xs + k) ≡ slice_get ys k
get_behind [] ys k = ap (slice_get ys) (zero-add k)
get_behind (z ∷ xs) ys k = ap (slice_get (z ∷ (xs ++ ys))) (past (length xs) k) ∙ get_behind xs ys k

set_front : {X : Type 0} (xs ys : List X) (k : ℕ) (x y : X) → slice_get xs k ≡ Some x → slice_set (xs ++ ys) k y ≡ slice_set xs k y ++ ys
set_front [] ys k x y h = cc
set_front (z ∷ xs) ys zero x y h = refl
set_front (z ∷ xs) ys (suc k) x y h = ap (λ l. z ∷ l) (set_front xs ys k x y h)

set_behind : {X : Type 0} (xs ys : List X) (k : ℕ) (y : X) → slice_set (xs ++ ys) (length xs + k) y ≡ xs ++ slice_set ys k y
set_behind [] ys k y = ap (λ n. slice_set ys n y) (zero-add k)
set_behind (z ∷ xs) ys k y = ap (λ n. slice_set (z ∷ (xs ++ ys)) n y) (past (length xs) k) ∙ ap (λ l. z ∷ l) (set_behind xs ys k y)

-- an end of the first list moved, or one of the second
pub posted_front : (ps ps' qs : List Post) (k : ℕ) (need : Bool) (e : Event) → PostedAt ps k need e ps' → PostedAt (ps ++ qs) k need e (ps' ++ qs)
posted_front ps ps' qs k need e h = record {
  post = h.post;
  moved = h.moved;
  there = get_front ps qs k h.post h.there;
  posted = h.posted;
  after = ap (λ l. l ++ qs) h.after ∙ sym (set_front ps qs k h.post h.moved h.there);
}

pub posted_behind : (ps qs qs' : List Post) (k : ℕ) (need : Bool) (e : Event) → PostedAt qs k need e qs' → PostedAt (ps ++ qs) (length ps + k) need e (ps ++ qs')
posted_behind ps qs qs' k need e h = record {
  post = h.post;
  moved = h.moved;
  there = get_behind ps qs k ∙ h.there;
  posted = h.posted;
  after = ap (λ l. ps ++ l) h.after ∙ sym (set_behind ps qs k h.moved);
}

pub needs_length : (need : ℕ → Bool) (from : ℕ) (qs : List QueueId) → length (needs_from need from qs) ≡ length qs
needs_length need from [] = refl
needs_length need from (q ∷ qs) = ap suc (needs_length need (from + 1) qs)

-- needs that are the same at each place
pub needs_same : (need need' : ℕ → Bool) (from : ℕ) (qs : List QueueId) → ((k : ℕ) → need' k ≡ need k) → needs_from need' from qs ≡ needs_from need from qs
needs_same need need' from [] h = refl
needs_same need need' from (q ∷ qs) h = ap (λ b. b ∷ needs_from need' (from + 1) qs) (h from) ∙ ap (λ l. need from ∷ l) (needs_same need need' (from + 1) qs h)
