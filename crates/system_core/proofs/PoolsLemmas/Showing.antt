-- The buffers of a plan have their owners, and what a report says of its pools is what the table of
-- owners says.
use Rattle.std.proofs.Common.{List, sym, subst}
use Rattle.wire_core.specs.Journal.{EachMoment}
use Rattle.wire_core.specs.declared.names.QueueRow.{QueueRow}
use Rattle.play_core.specs.Sheets.{AreFilled, AreSeated}
use Rattle.owner_law.specs.Owners.{OneOwner, Table}
use Rattle.owner_law.specs.Things.{Naming}
use Rattle.sdf_plan.specs.declared.plan.Plan.{Plan}
use Rattle.sdf_check.specs.Valid.{Valid}
use Rattle.region_layout.specs.Rows.{pools_of}
use Rattle.trace_text.specs.declared.trace.Trace.{Trace}
use Rattle.actor_set.specs.Parts.{Part}
use Rattle.actor_set.specs.Laws.Kinds.{sheet, scene_of}
use Rattle.cast_law.specs.Pools.Owning.{BeginsBeside, HasOwnersBeside, owner_naming}
use Rattle.cast_law.specs.Pools.Places.{PoolPlace, IsPlaced, HasPools, place_sizes}
use Rattle.cast_law.proofs.OwningLemmas.Beginning.{begins_beside, pools_beside}
use Rattle.cast_law.specs.Places.{pool_place}
use Rattle.cast_law.proofs.Pooled.{pooled}
use Rattle.system_core.specs.Shows.{Shown}
use Rattle.system_core.specs.Builds.{BeginsAnew, IsCastOf}
use Rattle.system_core.specs.Lawful.{StandsLawful}
use Rattle.system_core.specs.PoolLines.{AreLinesOf}
use Rattle.system_core.specs.Pools.{HaveOneOwner, IsFirstTable, is_theirs, owners_table, table_after, TellsOwners}
use Rattle.system_core.proofs.PoolsLemmas.Placing.{placed}
use Rattle.system_core.proofs.PoolsLemmas.Staying.{each_follows, pool_stays}

module _ (plan : Plan) (trace : Trace) (s : Shown) (valid : Valid plan) (cast_is : IsCastOf plan trace s.setting) (stands : StandsLawful s) where
  abbrev place : PoolPlace
  place = pool_place plan trace

  abbrev rows : List QueueRow
  rows = s.setting.rows

  abbrev cast : List Part
  cast = s.setting.cast

  abbrev naming : Naming
  naming = owner_naming rows place cast

  pools : HasPools (pools_of plan) place
  pools = pooled plan trace

  here : IsPlaced rows place cast
  here = placed plan trace s valid cast_is stands.fitted.scene_is

  seated : AreSeated (sheet (scene_of cast)) rows cast
  seated = subst (λ z. AreSeated (sheet z) rows cast) stands.fitted.scene_is stands.fitted.seated

  filled : AreFilled (sheet (scene_of cast)) rows cast
  filled = subst (λ z. AreFilled (sheet z) rows cast) stands.fitted.scene_is stands.fitted.ends

  numbered : HasPools s.setting.pools place
  numbered = subst (λ ps. HasPools ps place) (sym cast_is.pools) pools

  -- the system begins with a table of owners
  owners : HasOwnersBeside s.setting.history rows place cast
  owners = stands.fitted.owners place here numbered

  first_table : IsFirstTable place s owners.table
  first_table = record { begins = owners.begins; pools = owners.pools }

  -- at the start state with the one in which each pool's buffers are in its owner's hand
  first_anew : BeginsAnew s.setting → IsFirstTable place s (owners_table place s)
  first_anew anew = record {
    begins = subst (λ h. BeginsBeside h rows place cast (owners_table place s)) (sym anew) (begins_beside rows place cast s.setting.pools here numbered seated filled);
    pools = pools_beside rows place cast s.setting.pools here numbered seated filled;
  }

  -- a buffer that has a place has one at each moment
  one_owner : (first : Table) → IsFirstTable place s first → EachMoment (HaveOneOwner place first s) s.journal
  one_owner first is =
      each_follows (OneOwner naming s.setting.history first) (HaveOneOwner place first s)
      (λ j now. record { pools = λ k free. pool_stays naming s.setting.history first k (place_sizes place k) (is.pools k free) j; moves = now })
      s.journal (stands.lawful.owners place here first is.begins)

  -- the lines are those of such a table
  shows_lines : (first : Table) → IsFirstTable place s first → AreLinesOf (is_theirs place s) (table_after place first s s.journal) (pools_of plan) s.state.pools
  shows_lines first is = subst (λ ps. AreLinesOf (is_theirs place s) (table_after place first s s.journal) ps s.state.pools) cast_is.pools (stands.told.pools place here numbered first is.begins)

  pub tells_owners : TellsOwners plan place s
  tells_owners = record {
    table = owners.table;
    first = first_table;
    anew = first_anew;
    owners = one_owner;
    lines = shows_lines;
    unlent = stands.told.unlent place here numbered;
    adds = stands.told.adds;
    buffers = stands.told.buffers place here numbered;
  }
