use Rattle.std.proofs.Common.{◌≡◌, ◌&&◌, ◌+◌, ℕ, zero, suc, Bool, not, Option, Some, List, [], ◌∷◌, length, map, slice_get, slice_set, refl, ap, ◌∙◌}
use Rattle.wire_core.specs.declared.names.Event.{Event}
use Rattle.turn_kit.specs.Table.{is_settled}
use Rattle.turn_kit.specs.Turns.{Post, Posted, PostedAt, Choosing, choice_with, offered_from, unsettled_from, lower_if, settled_all}
use Rattle.turn_kit.specs.declared.turns.Stand.{Stand}
use Rattle.turn_kit.proofs.Offers.{get_map, map_set}
use Rattle.turn_kit.specs.Dropping.{dropping, with_drops}

pub some_same : {X : Type 0} {a b : X} → Some a ≡ Some b → a ≡ b
some_same h = cc

-- whether ends may drop changes nothing of how they are offered, nor of how they are settled
pub offered_same : (c : Choosing) (place : ℕ) (ds : List Bool) (ps : List Post) (ns : List Bool) → offered_from c place (with_drops ds ps) ns ≡ offered_from c place ps ns
offered_same c place [] ps ns = refl
offered_same c place (d ∷ ds) [] ns = refl
offered_same c place (d ∷ ds) (p ∷ ps) [] = refl
offered_same c place (d ∷ ds) (p ∷ ps) (n ∷ ns) = offered_same (choice_with c (record { queue = p.queue; place = place }) (is_settled p.state n)) (place + 1) ds ps ns

pub settled_same : (ds : List Bool) (ps : List Post) (ns : List Bool) → settled_all (with_drops ds ps) ns ≡ settled_all ps ns
settled_same [] ps ns = refl
settled_same (d ∷ ds) [] ns = refl
settled_same (d ∷ ds) (p ∷ ps) [] = refl
settled_same (d ∷ ds) (p ∷ ps) (n ∷ ns) = ap (λ b. is_settled p.state n && b) (settled_same ds ps ns)

pub unsettled_same : (x : Option Stand) (place : ℕ) (ds : List Bool) (ps : List Post) (ns : List Bool) → unsettled_from x place (with_drops ds ps) ns ≡ unsettled_from x place ps ns
unsettled_same x place [] ps ns = refl
unsettled_same x place (d ∷ ds) [] ns = refl
unsettled_same x place (d ∷ ds) (p ∷ ps) [] = refl
unsettled_same x place (d ∷ ds) (p ∷ ps) (n ∷ ns) = unsettled_same (lower_if (not (is_settled p.state n)) x (record { queue = p.queue; place = place })) (place + 1) ds ps ns

pub drops_length : (ds : List Bool) (ps : List Post) → length (with_drops ds ps) ≡ length ps
drops_length [] ps = refl
drops_length (d ∷ ds) [] = refl
drops_length (d ∷ ds) (p ∷ ps) = ap suc (drops_length ds ps)

pub drops_get : (ds : List Bool) (ps : List Post) (k : ℕ) (d : Bool) (p : Post) → slice_get ds k ≡ Some d → slice_get ps k ≡ Some p → slice_get (with_drops ds ps) k ≡ Some (dropping d p)
drops_get [] ps k d p at there = cc
drops_get (e ∷ ds) [] k d p at there = cc
drops_get (e ∷ ds) (q ∷ ps) zero d p at there = rw (some_same at, some_same there) refl
drops_get (e ∷ ds) (q ∷ ps) (suc k) d p at there = drops_get ds ps k d p at there

pub drops_set : (ds : List Bool) (ps : List Post) (k : ℕ) (d : Bool) (p : Post) → slice_get ds k ≡ Some d → with_drops ds (slice_set ps k p) ≡ slice_set (with_drops ds ps) k (dropping d p)
drops_set [] ps k d p at = cc
drops_set (e ∷ ds) [] k d p at = refl
drops_set (e ∷ ds) (q ∷ ps) zero d p at = rw (some_same at) refl
drops_set (e ∷ ds) (q ∷ ps) (suc k) d p at = ap (λ xs. dropping e q ∷ xs) (drops_set ds ps k d p at)

-- one end of a list had its turn
pub posted_drops : {X : Type 0} → (f : X → Post) (ds : List Bool) (xs : List X) (k : ℕ) (x moved : X) (d need : Bool) (e : Event) → slice_get ds k ≡ Some d → slice_get xs k ≡ Some x → Posted (dropping d (f x)) need e (dropping d (f moved)) → PostedAt (with_drops ds (map f xs)) k need e (with_drops ds (map f (slice_set xs k moved)))
posted_drops f ds xs k x moved d need e at there p = record {
  post = dropping d (f x);
  moved = dropping d (f moved);
  there = drops_get ds (map f xs) k d (f x) at (get_map f xs k x there);
  posted = p;
  after = ap (with_drops ds) (map_set f xs k moved) ∙ drops_set ds (map f xs) k d (f moved) at;
}
