-- Where the buffers of a cast at play are: all that is counted of them is in queues and with actors.
use Rattle.std.proofs.Common.{◌≡◌, ◌+◌, ◌<◌, ◌≤◌, ℕ, zero, suc, Some, List, [], ◌∷◌, ◌++◌, drop, length, map, flat_map, slice_get, refl, sym, ap, ◌∙◌, subst, arith}
use Rattle.std.specs.List.{sum_by}
use Rattle.std.proofs.lemmas.List.Sums.{sum_by-cons}
use Rattle.cargo_core.specs.declared.item.Body.{Body}
use Rattle.wire_core.specs.declared.names.PoolRow.{PoolRow}
use Rattle.wire_core.specs.declared.names.QueueRow.{QueueRow}
use Rattle.wire_core.specs.declared.names.Entry.{Entry}
use Rattle.wire_core.specs.Deeds.{Cargo}
use Rattle.wire_core.specs.Ends.{Role, End}
use Rattle.wire_core.specs.Journal.{History}
use Rattle.wire_core.specs.Lists.{Passed}
use Rattle.wire_core.specs.Marks.{sum_below}
use Rattle.wire_core.specs.Queues.{Queue, queue_at, end_at}
use Rattle.play_core.specs.Sheets.{Scene, Sheet, AreApart, AreFilled, AreSeated}
use Rattle.play_core.specs.Still.{IsPeopled}
use Rattle.play_core.specs.Moved.{moved}
use Rattle.play_core.proofs.Lists.{map_from, map_get, some_is}
use Rattle.owner_law.specs.Keeping.{Keeper, AreKeepers, keeper_of}
use Rattle.owner_law.specs.Pages.{CarryPages}
use Rattle.owner_law.specs.Pools.Lines.{came, went}
use Rattle.owner_law.specs.Pools.Places.{PoolAt}
use Rattle.owner_law.proofs.Casts.{cast_keepers}
use Rattle.owner_law.proofs.PoolsLemmas.Handing.{carry_takes}
use Rattle.buffer_kit.specs.Conserving.{Count, counted, weighed, the_page, of_other_length, Conserves}
use Rattle.turn_kit.specs.Hands.{bodies_of}
use Rattle.buffer_kit.proofs.Conserving.{counted-append}
use Rattle.wired_law.specs.PageLaw.Holders.{PageHolder, AreHeld, keeper, has, queue_has, start_counted}
use Rattle.wired_law.proofs.PageLaw.ActorsLemmas.Pages.{same_sum, first_sum}
use Rattle.wired_law.proofs.PageLaw.LawLemmas.Summing.{whole}
use Rattle.actor_set.specs.Parts.{Part}
use Rattle.actor_set.specs.Actors.{IsWhole, actor_hand, part_of}
use Rattle.actor_set.specs.declared.actor.Actor.{Actor}
use Rattle.actor_set.specs.Laws.Kinds.{sheet, scene_of}
use Rattle.actor_set.proofs.LawsLemmas.Starts.{fits_whole}
use Rattle.wired_law.specs.Wiring.{AreAtWork}
use Rattle.cast_law.specs.Pools.Places.{PoolPlace, IsPlaced, HasPools, cast_naming, place_pools, place_sizes}
use Rattle.cast_law.specs.Pools.Pooling.{AreAtPlay, AreOverQueues}
use Rattle.cast_law.specs.Pages.Paging.{AllStand, actor_lends, shown_bodies, page_holder, page_holders, actor_weighs, cast_weighs, part_pools, part_weighs, pools_weigh}
use Rattle.cast_law.proofs.PoolsLemmas.Apart.{ends_apart}
use Rattle.cast_law.proofs.PoolsLemmas.Naming.{names_at}
use Rattle.cast_law.proofs.PagesLemmas.Lending.{kept_lends}
use Rattle.cast_law.proofs.PagesLemmas.Beside.{lengths_part, lengths_place, once_all}
use Rattle.cast_law.proofs.PagesLemmas.Acting.{actor_conserves, start_weighs}

-- a part's sheet without what it has
abbrev bare : Scene → Part → Sheet
bare scene p = record (sheet scene p) { hand = λ pool. [] }

holders_same : (scene : Scene) (actors : List Actor) (passed : Passed) (stand : AllStand actors passed) → map (λ p. keeper_of (bare scene p)) (map part_of actors) ≡ map keeper (page_holders scene actors passed stand)
holders_same scene [] passed stand = refl
holders_same scene (x ∷ actors) passed stand = ap (λ (ks : List Keeper). keeper_of (bare scene (part_of x)) ∷ ks) (holders_same scene actors passed (λ k y at. stand (suc k) y at))

holders_conserve : (scene : Scene) (actors : List Actor) (passed : Passed) (stand : AllStand actors passed) → ((k : ℕ) (x : Actor) → slice_get actors k ≡ Some x → IsWhole x) → (k : ℕ) (h : PageHolder) → slice_get (page_holders scene actors passed stand) k ≡ Some h → Conserves h.start (came passed h.ends) (went passed h.ends) h.hand h.kept
holders_conserve scene [] passed stand fit k h at = cc
holders_conserve scene (x ∷ actors) passed stand fit zero h at = subst (λ (y : PageHolder). Conserves y.start (came passed y.ends) (went passed y.ends) y.hand y.kept) (some_is at) (actor_conserves scene passed x (fit 0 x refl) (stand 0 x refl))
holders_conserve scene (x ∷ actors) passed stand fit (suc k) h at = holders_conserve scene actors passed (λ j y there. stand (suc j) y there) (λ j y there. fit (suc j) y there) k h at

has_weighs : (f : Count) (scene : Scene) (actors : List Actor) (passed : Passed) (stand : AllStand actors passed) → sum_by (has f) (page_holders scene actors passed stand) ≡ sum_by (actor_weighs f passed) actors
has_weighs f scene [] passed stand = refl
has_weighs f scene (x ∷ actors) passed stand =
    let rest = page_holders scene actors passed (λ k y at. stand (suc k) y at) in
    omega (arith, sum_by-cons (has f) (page_holder scene x passed (stand 0 x refl)) rest, sum_by-cons (actor_weighs f passed) x actors, has_weighs f scene actors passed (λ k y at. stand (suc k) y at))

starts_weigh : (f : Count) (scene : Scene) (actors : List Actor) (passed : Passed) (stand : AllStand actors passed) → ((k : ℕ) (x : Actor) → slice_get actors k ≡ Some x → IsWhole x) → start_counted f (page_holders scene actors passed stand) ≡ pools_weigh f (map part_of actors)
starts_weigh f scene [] passed stand fit = refl
starts_weigh f scene (x ∷ actors) passed stand fit =
    let rest = page_holders scene actors passed (λ k y at. stand (suc k) y at) in
    omega (
      arith,
      sum_by-cons (λ (h : PageHolder). counted f h.start) (page_holder scene x passed (stand 0 x refl)) rest,
      sum_by-cons (part_weighs f) (part_of x) (map part_of actors),
      start_weighs passed f x (fit 0 x refl) (stand 0 x refl),
      starts_weigh f scene actors passed (λ k y at. stand (suc k) y at) (λ k y at. fit (suc k) y at),
    )

pub rest_is : (xs ys : List Cargo) → drop (length xs) (xs ++ ys) ≡ ys
rest_is [] ys = refl
rest_is (x ∷ xs) ys = rest_is xs ys

-- what is counted queue by queue is counted of all
pub queues_sum : (g : List Cargo → ℕ) (world : List Queue) → sum_below (λ n. g (queue_at world n).entries) (length world) ≡ sum_by (λ (q : Queue). g q.entries) world
queues_sum g [] = refl
queues_sum g (q ∷ world) =
    omega (arith, first_sum (λ n. g (queue_at (q ∷ world) n).entries) (length world), queues_sum g world, sum_by-cons (λ (r : Queue). g r.entries) q world)

pub counted-flat : {X : Type 0} (f : Count) (g : X → List Body) (xs : List X) → counted f (flat_map g xs) ≡ sum_by (λ x. counted f (g x)) xs
counted-flat f g [] = refl
counted-flat f g (x ∷ xs) = omega (arith, counted-append f (g x) (flat_map g xs), sum_by-cons (λ y. counted f (g y)) x xs, counted-flat f g xs)

pub sums_alike : (xs : List Actor) (g h : Actor → ℕ) → ((k : ℕ) (x : Actor) → slice_get xs k ≡ Some x → g x ≡ h x) → sum_by g xs ≡ sum_by h xs
sums_alike [] g h same = refl
sums_alike (x ∷ xs) g h same = omega (arith, sum_by-cons g x xs, sum_by-cons h x xs, same 0 x refl, sums_alike xs g h (λ k y at. same (suc k) y at))

-- at work, each with just the ends that the rows give it
module _ (ends : Role → ℕ → End) (rows : List QueueRow) (actors : List Actor) (passed : Passed) (peopled : IsPeopled rows (length (map part_of actors))) (seated : AreSeated (sheet (scene_of (map part_of actors))) rows (map part_of actors)) (filled : AreFilled (sheet (scene_of (map part_of actors))) rows (map part_of actors)) (work : AreAtWork ends rows actors passed) where
  abbrev parts : List Part
  parts = map part_of actors

  abbrev kept : List PageHolder
  kept = page_holders (scene_of parts) actors passed work.stands

  all_whole : (k : ℕ) (x : Actor) → slice_get actors k ≡ Some x → IsWhole x
  all_whole k x at = fits_whole ends x (work.fits k x at)

  pub work_held : AreHeld rows kept passed
  work_held = record {
    ends = subst (AreKeepers rows) (holders_same (scene_of parts) actors passed work.stands)
        (cast_keepers (bare (scene_of parts)) parts
        (λ k p at. let x = map_from part_of actors k p at in subst (λ q. AreApart (sheet (scene_of parts) q).ends) x.2 (ends_apart ends (scene_of parts) x.0 (work.fits k x.0 x.1)))
        rows seated filled peopled);
    flows = λ n lt. work.hands_over n;
    conserve = holders_conserve (scene_of parts) actors passed work.stands all_whole;
  }

  -- what the queues and the actors have is what all pools weigh
  pub work_weighs : (f : Count) → sum_below (queue_has f passed) (length rows) + sum_by (actor_weighs f passed) actors ≡ pools_weigh f parts
  work_weighs f =
      let all = whole f passed rows kept work_held in
      let start = starts_weigh f (scene_of parts) actors passed work.stands all_whole in
      let hands = has_weighs f (scene_of parts) actors passed work.stands in
      omega (arith, all, start, hands)

module _ (rows : List QueueRow) (actors : List Actor) (passed : Passed) (world : List Queue) (over : AreOverQueues rows actors passed world) where
  abbrev cast : List Part
  cast = map part_of actors

  abbrev scene : Scene
  scene = scene_of cast

  abbrev held : List PageHolder
  held = page_holders scene actors passed over.stands

  abbrev work : AreAtWork (end_at world) rows actors passed
  work = record { fits = over.fits; stands = over.stands; hands_over = λ n. ((queue_at world n).entries, sym (over.stands_there n)); kinds = over.kinds }

  pub cast_held : AreHeld rows held passed
  cast_held = work_held (end_at world) rows actors passed over.peopled over.seated over.filled work

  pub cast_whole : (f : Count) → cast_weighs f passed world actors ≡ pools_weigh f cast
  cast_whole f =
      let all = work_weighs (end_at world) rows actors passed over.peopled over.seated over.filled work f in
      let each = same_sum (queue_has f passed) (λ n. weighed f (queue_at world n).entries) (length rows) (λ n lt. ap (weighed f) (ap (drop (length (passed.taken n))) (over.stands_there n) ∙ rest_is (passed.taken n) (queue_at world n).entries)) in
      let many = ap (sum_below (λ n. weighed f (queue_at world n).entries)) (sym over.size) in
      let queues = queues_sum (weighed f) world in
      omega (arith, all, each, many, queues)

  -- so each buffer is there once, and none of a pool has another length
  module _ (pools : List PoolRow) (place : PoolPlace) (placed : IsPlaced rows place cast) (has : HasPools pools place) where
    pub cast_once : (pool number : ℕ) → number < place_sizes place pool → cast_weighs (the_page (record { 0 = pool }) number) passed world actors ≡ 1
    cast_once pool number lt = cast_whole (the_page (record { 0 = pool }) number) ∙ once_all rows pools place cast over.seated placed has pool number lt

    pub cast_lengths : (i : ℕ) (p : Part) → slice_get cast i ≡ Some p → (j : ℕ) (q : PoolAt) → slice_get (part_pools p) j ≡ Some q → 1 ≤ q.buffers → cast_weighs (of_other_length (record { 0 = q.number }) q.size) passed world actors ≡ 0
    cast_lengths i p at j q there some = cast_whole (of_other_length (record { 0 = q.number }) q.size) ∙ lengths_part rows pools place cast over.seated placed has i p at j q there some

    pub place_lengths : (i : ℕ) (q : PoolAt) → slice_get (place_pools place) i ≡ Some q → 1 ≤ q.buffers → cast_weighs (of_other_length (record { 0 = q.number }) q.size) passed world actors ≡ 0
    place_lengths i q at some = cast_whole (of_other_length (record { 0 = q.number }) q.size) ∙ lengths_place rows pools place cast over.seated placed has i q at some

-- where nobody is hostile and entries carry what their items name, actors keep what they have lent alone
module _ (history : History) (rows : List QueueRow) (actors : List Actor) (journal : List Entry) (passed : Passed) (world : List Queue) (play : AreAtPlay history rows actors journal passed world) (pools : List PoolRow) (place : PoolPlace) (placed : IsPlaced rows place (map part_of actors)) (has : HasPools pools place) where
  pub cast_shown : CarryPages (cast_naming (scene_of (map part_of actors)) place) (moved history journal) passed → (f : Count) → counted f (shown_bodies world actors) ≡ pools_weigh f (map part_of actors)
  cast_shown carry f =
      let parts : List Part = map part_of actors in
      let scene : Scene = scene_of parts in
      let same = sums_alike actors (actor_weighs f passed) (λ x. counted f (actor_hand x ++ actor_lends x)) (λ k x at.
      let names = names_at rows parts play.calm play.over.seated place.net place.blk placed.net placed.blk k (part_of x) (map_get part_of actors k x at) in
      let takes = carry_takes (cast_naming scene place) (moved history journal) passed (sheet scene (part_of x)).ends carry (λ n. ((queue_at world n).entries, sym (play.over.stands_there n))) in
      let lent = kept_lends (cast_naming scene place) scene (moved history journal) passed f x names takes in
      omega (arith, lent, counted-append f (actor_hand x) (actor_lends x))) in
      let all = counted-append f (flat_map (λ (q : Queue). bodies_of q.entries) world) (flat_map (λ x. actor_hand x ++ actor_lends x) actors) in
      let queues = counted-flat f (λ (q : Queue). bodies_of q.entries) world in
      let hands = counted-flat f (λ x. actor_hand x ++ actor_lends x) actors in
      omega (arith, cast_whole rows actors passed world play.over f, same, all, queues, hands)
