-- Where nobody is hostile, the table of owners is that of all pools.
use Rattle.std.proofs.Common.{◌≡◌, ◌==◌, ◌||◌, ◌+◌, ◌*◌, ℕ, Bool, false, cond, Option, None, Some, List, [], ◌∷◌, map, refl, ap, ap₂, ◌∙◌}
use Rattle.wire_core.specs.declared.names.QueueRow.{QueueRow}
use Rattle.play_core.specs.Names.{Wild, wild_in}
use Rattle.owner_law.specs.Keeping.{keeper_of}
use Rattle.owner_law.specs.Things.{Answers, Buffers, Frames, Leases, Names, NoBuffers, Returns, Window}
use Rattle.owner_law.specs.Pools.Places.{PoolAt}
use Rattle.net_law.specs.Owners.Names.{ClientPools}
use Rattle.net_law.specs.Parts.Numbers.{client_first}
use Rattle.net_law.specs.TxParts.Numbers.{NetPlace}
use Rattle.blk_law.specs.Sheets.Numbers.{BlkPlace}
use Rattle.actor_set.specs.Parts.{Part}
use Rattle.actor_set.specs.Laws.Kinds.{AllCalm, hostiles, scene_of, sheet}
use Rattle.actor_set.proofs.LawsLemmas.Told.{none_wild}
use Rattle.cast_law.specs.Pools.Beside.{in_blk, in_net, is_blk_rogues, is_net_rogues, is_rogues}
use Rattle.cast_law.specs.Pools.Owning.{keeper_beside, names_beside, owner_keepers, owner_naming, windows_beside}
use Rattle.cast_law.specs.Pools.Places.{PoolPlace, cast_naming}
use Rattle.cast_law.specs.Pools.Pooling.{keepers_at}

module _ (w : Wild) (none : (n : ℕ) → w n ≡ false) where
  no_net : (first k : ℕ) (qs : List ClientPools) (pool : ℕ) → is_net_rogues w first k qs pool ≡ false
  no_net first k [] pool = refl
  no_net first k (q ∷ qs) pool = ap (λ t. cond t ((q.rx.number == pool) || ((q.tx.number == pool) || is_net_rogues w first (k + 1) qs pool)) (is_net_rogues w first (k + 1) qs pool)) (none (client_first first k + 4)) ∙ no_net first (k + 1) qs pool

  no_blk : (first k : ℕ) (qs : List PoolAt) (pool : ℕ) → is_blk_rogues w first k qs pool ≡ false
  no_blk first k [] pool = refl
  no_blk first k (q ∷ qs) pool = ap (λ t. cond t ((q.number == pool) || is_blk_rogues w first (k + 1) qs pool) (is_blk_rogues w first (k + 1) qs pool)) (none (first + 4 + 2 * k)) ∙ no_blk first (k + 1) qs pool

  not_net : (n : Option NetPlace) (pool : ℕ) → in_net w n pool ≡ false
  not_net None pool = refl
  not_net (Some net) pool = no_net net.first 0 net.pools pool

  not_blk : (b : Option BlkPlace) (pool : ℕ) → in_blk w b pool ≡ false
  not_blk None pool = refl
  not_blk (Some blk) pool = no_blk blk.first 0 blk.pools pool

  no_rogues : (place : PoolPlace) (pool : ℕ) → is_rogues w place pool ≡ false
  no_rogues place pool = ap (λ t. t || in_blk w place.blk pool) (not_net place.net pool) ∙ not_blk place.blk pool

module _ (off : ℕ → Bool) (none : (n : ℕ) → off n ≡ false) where
  same_windows : (ws : List Window) → windows_beside off ws ≡ ws
  same_windows [] = refl
  same_windows (w ∷ ws) = ap (λ t. cond t (windows_beside off ws) (w ∷ windows_beside off ws)) (none w.pool) ∙ ap (λ l. w ∷ l) (same_windows ws)

  same_names : (names : Names) → names_beside off names ≡ names
  same_names NoBuffers = refl
  same_names (Buffers ws) = ap Buffers (same_windows ws)
  same_names (Frames ws receivers) = ap (λ l. Frames l receivers) (same_windows ws)
  same_names (Leases ws) = ap Leases (same_windows ws)
  same_names (Returns ws) = ap Returns (same_windows ws)
  same_names (Answers q ws) = ap (λ l. Answers q l) (same_windows ws)

module _ (rows : List QueueRow) (place : PoolPlace) (cast : List Part) (calm : AllCalm cast) where
  abbrev w : Wild
  w = wild_in (hostiles cast) rows

  none_off : (pool : ℕ) → is_rogues w place pool ≡ false
  none_off = no_rogues w (none_wild cast calm rows) place

  pub plain_naming : (n : ℕ) → owner_naming rows place cast n ≡ cast_naming (scene_of cast) place n
  plain_naming n = ap (λ t. cond t NoBuffers (names_beside (is_rogues w place) (cast_naming (scene_of cast) place n))) (none_wild cast calm rows n) ∙ same_names (is_rogues w place) none_off (cast_naming (scene_of cast) place n)

  one_keeper : (p : Part) → keeper_beside (is_rogues w place) (sheet (scene_of cast) p) ≡ keeper_of (sheet (scene_of cast) p)
  one_keeper p = (λ i. record { ends = (sheet (scene_of cast) p).ends; hand = λ pool. cond (none_off pool i) [] ((sheet (scene_of cast) p).hand pool) })

  each_keeper : (ps : List Part) → map (λ p. keeper_beside (is_rogues w place) (sheet (scene_of cast) p)) ps ≡ map (λ p. keeper_of (sheet (scene_of cast) p)) ps
  each_keeper [] = refl
  each_keeper (p ∷ ps) = ap₂ (λ k ks. k ∷ ks) (one_keeper p) (each_keeper ps)

  pub plain_keepers : owner_keepers rows place cast ≡ keepers_at cast
  plain_keepers = each_keeper cast
