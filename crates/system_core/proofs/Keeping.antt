-- Of which queues names are kept, by the rows and by who is hostile.
use Rattle.std.proofs.Common.{◌≡◌, ◌≤◌, ◌+◌, ◌++◌, ℕ, zero, suc, Bool, false, Some, List, [], ◌∷◌, length, map, take, slice_get, refl, sym, ap, ◌∙◌, subst, arith}
use Rattle.wire_core.specs.declared.names.QueueRow.{QueueRow}
use Rattle.wire_core.specs.Journal.{Hostiles}
use Rattle.play_core.specs.Manners.{Calm, Hostile, Manner, is_hostile}
use Rattle.play_core.specs.Names.{is_wild, wild_in}
use Rattle.play_core.proofs.Lists.{some_is}
use Rattle.actor_set.specs.Parts.{Part}
use Rattle.actor_set.specs.Actors.{part_of}
use Rattle.actor_set.specs.declared.actor.Actor.{Actor}
use Rattle.actor_set.specs.Laws.Kinds.{AllCalm, hostiles, manner_of}
use Rattle.actor_set.proofs.LawsLemmas.Told.{none_wild}
use Rattle.player_kit.specs.Calls.Noting.{kept_at}

-- none of these actors is hostile
abbrev pub AreQuiet : List Actor → Type 0
AreQuiet [] = Unit {0}
AreQuiet (x ∷ xs) = (is_hostile (manner_of (part_of x)) ≡ false) × AreQuiet xs

quiet_next : (xs : List Actor) (i : ℕ) (x : Actor) → slice_get xs i ≡ Some x → AreQuiet (take i xs) → is_hostile (manner_of (part_of x)) ≡ false → AreQuiet (take (suc i) xs)
quiet_next [] i x at quiet calm = cc
quiet_next (y ∷ ys) zero x at quiet calm = (subst (λ z. is_hostile (manner_of (part_of z)) ≡ false) (sym (some_is at)) calm, tt)
quiet_next (y ∷ ys) (suc i) x at quiet calm = (quiet.0, quiet_next ys i x at quiet.1 calm)

pub quiet_more : (xs : List Actor) (i : ℕ) (x : Actor) → slice_get xs i ≡ Some x → AreQuiet (take i xs) → is_hostile (manner_of (part_of x)) ≡ false → AreQuiet (take (i + 1) xs)
quiet_more xs i x at quiet calm = let one : i + 1 ≡ suc i = omega arith in subst (λ n. AreQuiet (take n xs)) (sym one) (quiet_next xs i x at quiet calm)

pub quiet_whole : (xs : List Actor) (i : ℕ) → length xs ≤ i → AreQuiet (take i xs) → AreQuiet xs
quiet_whole [] i le quiet = tt
quiet_whole (x ∷ xs) zero le quiet = absurd (omega (arith, le))
quiet_whole (x ∷ xs) (suc i) le quiet = (quiet.0, quiet_whole xs i (omega (arith, le)) quiet.1)

quiet_manner : (m : Manner) → is_hostile m ≡ false → m ≡ Calm
quiet_manner Calm is = refl
quiet_manner (Hostile done) is = cc

pub quiet_calm : (xs : List Actor) → AreQuiet xs → AllCalm (map part_of xs)
quiet_calm [] quiet k p at = cc
quiet_calm (x ∷ xs) quiet zero p at = ap manner_of (sym (some_is at)) ∙ quiet_manner (manner_of (part_of x)) quiet.0
quiet_calm (x ∷ xs) quiet (suc k) p at = quiet_calm xs quiet.1 k p at

-- what is said of a row is said at its place
pub kept_rows : (hostile : Hostiles) (rows : List QueueRow) (n : ℕ) → kept_at (map (is_wild hostile) rows) n ≡ wild_in hostile rows n
kept_rows hostile [] n = refl
kept_rows hostile (row ∷ rows) zero = refl
kept_rows hostile (row ∷ rows) (suc n) = kept_rows hostile rows n

pub kept_none : (cast : List Part) (rows : List QueueRow) → AllCalm cast → (n : ℕ) → kept_at [] n ≡ wild_in (hostiles cast) rows n
kept_none cast rows calm n = sym (none_wild cast calm rows n)

kept_next : (f : QueueRow → Bool) (rows : List QueueRow) (i : ℕ) (row : QueueRow) → slice_get rows i ≡ Some row → map f (take (suc i) rows) ≡ map f (take i rows) ++ f row ∷ []
kept_next f [] i row at = cc
kept_next f (x ∷ rows) zero row at = ap (λ y. f y ∷ []) (some_is at)
kept_next f (x ∷ rows) (suc i) row at = ap (λ l. f x ∷ l) (kept_next f rows i row at)

pub kept_more : (f : QueueRow → Bool) (rows : List QueueRow) (i : ℕ) (row : QueueRow) → slice_get rows i ≡ Some row → map f (take (i + 1) rows) ≡ map f (take i rows) ++ f row ∷ []
kept_more f rows i row at = let one : i + 1 ≡ suc i = omega arith in ap (λ n. map f (take n rows)) one ∙ kept_next f rows i row at

pub kept_whole : (f : QueueRow → Bool) (rows : List QueueRow) (i : ℕ) → length rows ≤ i → map f (take i rows) ≡ map f rows
kept_whole f [] zero le = refl
kept_whole f [] (suc i) le = refl
kept_whole f (x ∷ rows) zero le = absurd (omega (arith, le))
kept_whole f (x ∷ rows) (suc i) le = ap (λ l. f x ∷ l) (kept_whole f rows i (omega (arith, le)))
