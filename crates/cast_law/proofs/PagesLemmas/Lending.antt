-- What the serial class took are no buffers, so what actors keep is what they have lent.
use Rattle.std.proofs.Common.{◌≡◌, ◌==◌, ◌&&◌, ℕ, suc, Some, List, [], ◌∷◌, slice_get, refl, arith, eq-eqb}
use Rattle.cargo_core.specs.declared.item.Body.{Body}
use Rattle.cargo_core.specs.declared.item.Body.TheVariants as Carried
use Rattle.wire_core.specs.Bells.{bit}
use Rattle.wire_core.specs.Deeds.{Cargo}
use Rattle.wire_core.specs.Lists.{Passed}
use Rattle.turn_kit.specs.Hands.{bodies_at}
use Rattle.play_core.specs.Moved.{Moved, Seat}
use Rattle.play_core.specs.Sheets.{Scene}
use Rattle.play_core.specs.Wants.{intake}
use Rattle.owner_law.specs.Things.{Buffer, Naming}
use Rattle.owner_law.specs.Pages.{as_page}
use Rattle.owner_law.specs.Pools.Handing.{TakesPages, NameNothing}
use Rattle.owner_law.proofs.PoolsLemmas.Plain.{HasNone, plain_takes}
use Rattle.buffer_kit.specs.Conserving.{Count, weight, counted, weighed}
use Rattle.buffer_kit.proofs.Conserving.{counted-at}
use Rattle.serial_law.specs.Pools.SerialEnds.{terminal_ends, rx_ends}
use Rattle.actor_set.specs.Actors.{part_of}
use Rattle.actor_set.specs.declared.actor.Actor.{Actor}
use Rattle.actor_set.specs.declared.actor.Actor.TheVariants as Kinds
use Rattle.actor_set.specs.Laws.Kinds.{sheet}
use Rattle.cast_law.specs.Pools.Holders.{NamesAt}
use Rattle.cast_law.specs.Pages.Paging.{actor_kept, actor_lends}

-- a body that is no page weighs nothing
none_weighs : (f : Count) (body : Body) → ((b : Buffer) → as_page b body ≡ 0) → weight f body ≡ 0
none_weighs f Carried.Empty none = refl
none_weighs f (Carried.Lease lease) none = refl
none_weighs f (Carried.Page page) none =
    let one : bit ((page.pool.0 == page.pool.0) && (page.no == page.no)) ≡ 1 = rw (eq-eqb page.pool.0 page.pool.0 refl, eq-eqb page.no page.no refl) refl in
    absurd (omega (arith, one, none (record { pool = page.pool.0; no = page.no })))

pub all_none : (f : Count) (cs : List Cargo) → ((k : ℕ) (c : Cargo) → slice_get cs k ≡ Some c → HasNone c) → weighed f cs ≡ 0
all_none f [] none = refl
all_none f (c ∷ cs) none = omega (arith, none_weighs f c.1 (none 0 c refl), all_none f cs (λ k d at. none (suc k) d at))

module _ (naming : Naming) (scene : Scene) (m : Moved) (passed : Passed) (f : Count) where
  taken_none : (ends : List Seat) (n : ℕ) → NameNothing naming ends → TakesPages naming m passed ends → slice_get ends 0 ≡ Some (intake n) → counted f (bodies_at passed.taken (n ∷ [])) ≡ 0
  taken_none ends n none takes at = omega (arith, counted-at f passed.taken n [], all_none f (passed.taken n) (λ k c c_at. plain_takes naming m passed ends none takes 0 (intake n) at refl k c c_at))

  pub kept_lends : (x : Actor) → NamesAt naming scene (part_of x) → TakesPages naming m passed (sheet scene (part_of x)).ends → counted f (actor_kept x passed) ≡ counted f (actor_lends x)
  kept_lends (Kinds.UartDevice x) names takes = taken_none (terminal_ends x.terminal) x.terminal.input.queue.0 names takes refl
  kept_lends (Kinds.UartDriver x) names takes = refl
  kept_lends (Kinds.SerialVirtRx x) names takes = taken_none (rx_ends x) x.input.queue.0 names takes refl
  kept_lends (Kinds.SerialVirtTx x) names takes = refl
  kept_lends (Kinds.SerialClient x) names takes = taken_none (terminal_ends x.terminal) x.terminal.input.queue.0 names takes refl
  kept_lends (Kinds.EthDevice x) names takes = refl
  kept_lends (Kinds.EthDriver x) names takes = refl
  kept_lends (Kinds.NetVirtRx x) names takes = refl
  kept_lends (Kinds.NetCopier x) names takes = refl
  kept_lends (Kinds.NetClient x) names takes = refl
  kept_lends (Kinds.NetVirtTx x) names takes = refl
  kept_lends (Kinds.DiskDevice x) names takes = refl
  kept_lends (Kinds.BlkDriver x) names takes = refl
  kept_lends (Kinds.BlkVirt x) names takes = refl
  kept_lends (Kinds.BlkClient x) names takes = refl
  kept_lends (Kinds.Rogue x) names takes = refl
