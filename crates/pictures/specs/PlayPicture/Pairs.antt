-- Which put and which take belong together.
use Rattle.std.specs.Prelude.{ℕ, ◌+◌, ◌-◌, ◌==◌, Bool, false, Option, Some, None, List, [], ◌∷◌}
use Rattle.std.specs.Prelude.{if◌then◌else◌, count_by, take}
use Rattle.std.specs.Option.{option_map}
use Rattle.wire_core.specs.declared.names.Entry.{Entry}
use Rattle.wire_core.specs.declared.names.Op.{Op}
use Rattle.wire_core.specs.declared.names.Op.TheVariants as Do
use Rattle.pictures.specs.declared.play_picture.pairs.Way.{Way}
use Rattle.pictures.specs.declared.play_picture.pairs.Way.TheVariants as By

-- whether a call moves an entry in this way
abbrev pub is_way : Way → Op → Bool → Bool
is_way By.Put Do.Put same = same
is_way By.Take Do.Take same = same
is_way _ _ same = false

-- whether an entry of the journal moves an entry of this queue in this way
abbrev pub moves : Way → ℕ → Entry → Bool
moves way queue e = is_way way e.event.op (e.event.queue.0 == queue)

-- the way back
abbrev pub other : Way → Way
other By.Put = By.Take
other By.Take = By.Put

-- the place of the first element that passes and before which so many pass
abbrev pub place_of_nth : {T : Type 0} → (T → Bool) → ℕ → List T → Option ℕ
place_of_nth p n [] = None
place_of_nth p n (x ∷ xs) =
    if p x then (if n == 0 then Some 0 else option_map (λ k. k + 1) (place_of_nth p (n - 1) xs))
    else option_map (λ k. k + 1) (place_of_nth p n xs)

-- the place of the entry that takes what an entry at this place puts, or puts what it takes: as
-- many of its queue are before it as are before this one
abbrev pub partner_of : Way → List Entry → ℕ → Entry → Option ℕ
partner_of way journal k e = place_of_nth (moves (other way) e.event.queue.0)
    (count_by (moves way e.event.queue.0) (take k journal)) journal
