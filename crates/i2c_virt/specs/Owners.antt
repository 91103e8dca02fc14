-- What the virtualiser knows of who has which address, and how it judges a request.
use Rattle.std.specs.Prelude.{◌≡◌, ◌<◌, ◌++◌, ℕ, if◌then◌else◌, Option, Some, None, List, [], ◌∷◌}
use Rattle.std.specs.Prelude.{length, slice_get}
use Rattle.i2c_text.specs.declared.bus.BusAsk.{BusAsk}
use Rattle.i2c_text.specs.declared.report.BusStatus.{BusStatus}
use Rattle.i2c_text.specs.declared.report.BusStatus.TheVariants as Ended
use Rattle.i2c_virt.specs.declared.i2c_kit.alone.Request.{Request}
use Rattle.i2c_virt.specs.declared.i2c_kit.page.Operation.{Operation}
use Rattle.i2c_virt.specs.declared.i2c_kit.page.Operation.TheVariants as Does
use Rattle.i2c_virt.specs.I2cKit.Grants.{is_claim, is_free_for, is_owner, owner_after}
use Rattle.i2c_virt.specs.I2cKit.Replies.{has_it, may_have_it}
use Rattle.i2c_virt.specs.declared.owners.TheConstants.{ADDRESSES}

-- these are the clients that have the addresses after these requests were taken, by address
pub record KnowsOwners (clients : List (Option ℕ)) (requests : List Request) : Type 0 where
  pub size : length clients ≡ ADDRESSES
  pub each : (a : ℕ) → a < ADDRESSES → slice_get clients a ≡ Some (owner_after requests a)

-- how the virtualiser answers a request by itself, after those before it: a claim by whether
-- another client has the address, a transfer where its client hasn't the address; the others go to
-- the driver
abbrev pub verdict : List Request → Request → Option BusStatus
verdict before r =
    if is_claim r.ask then Some (if may_have_it before r then Ended.Ok else Ended.Taken)
    else if has_it before r then None
    else Some Ended.Unclaimed

-- the same by the client that has the address
abbrev pub judged : Option ℕ → (client : ℕ) → Operation → Option BusStatus
judged owner client Does.Claim =
    Some (if is_free_for owner client then Ended.Ok else Ended.Taken)
judged owner client Does.Read = if is_owner owner client then None else Some Ended.Unclaimed
judged owner client Does.Write = if is_owner owner client then None else Some Ended.Unclaimed

-- the client that has the address then
abbrev pub owner_then : Option ℕ → (client : ℕ) → Operation → Option ℕ
owner_then (Some owner) client o = Some owner
owner_then None client Does.Claim = Some client
owner_then None client Does.Read = None
owner_then None client Does.Write = None
