-- What the rows of the bus's actors say of one moment, for one client.
use Rattle.std.specs.Prelude.{◌≡◌, ◌++◌, ◌<◌, ℕ, List, All, map}
use Rattle.cargo_core.specs.Lists.{IsPrefix}
use Rattle.cargo_core.specs.declared.item.PoolId.{PoolId}
use Rattle.wire_core.specs.Deeds.{Cargo}
use Rattle.i2c_text.specs.declared.bus.BusAsk.{BusAsk}
use Rattle.i2c_text.specs.declared.report.BusReply.{BusReply}
use Rattle.i2c_virt.specs.I2cKit.Devices.{new_devices}
use Rattle.i2c_virt.specs.I2cKit.Serving.{answers_to}
use Rattle.i2c_virt.specs.Desks.{AreGiven, forwarded}
use Rattle.i2c_virt.specs.Works.{Took, IsTook, IsSomeones, judged_of, entries_of, of_client}
use Rattle.i2c_virt.specs.I2cClient.Asking.{AreAsked, AreAnswered}

-- of what was taken from the clients in turn, what went to the driver, and what came back from
-- there: each client's transfers went there in their order, and what came back are the first of the
-- bus's answers
pub record AreServed (clients : ℕ) (addresses : List ℕ) (log : List Took) (sent back : List Cargo)
    : Type 0 where
  pub took : All (IsTook clients) log
  pub someones : All (IsSomeones clients) sent
  pub sends : (k : ℕ) → k < clients → IsPrefix (of_client k sent) (forwarded (judged_of k log))
  pub answers : IsPrefix back (answers_to (new_devices addresses) sent)

-- of one client, what it put, what it was given, and what it took of that and recorded: it put its
-- requests in their order, the first of which were taken, and was given answers to these
pub record IsServed (client : ℕ) (pool : PoolId) (script : List BusAsk) (log : List Took)
    (back put given came : List Cargo) (replies : List BusReply) : Type 0 where
  pub asks : AreAsked pool 0 script put
  pub taken : IsPrefix (entries_of client log) put
  pub answers : AreGiven (judged_of client log) (of_client client back) given
  pub comes : IsPrefix came given
  pub recorded : AreAnswered pool 0 script came replies
