-- What a client is answered, by how each of its requests was judged.
use Rattle.std.specs.Prelude.{ℕ, ◌==◌, ◌++◌, if◌then◌else◌, Option, Some, None, List, [], ◌∷◌}
use Rattle.i2c_text.specs.declared.bus.BusAsk.{BusAsk}
use Rattle.i2c_text.specs.declared.report.BusReply.{BusReply}
use Rattle.i2c_text.specs.declared.report.BusStatus.{BusStatus}
use Rattle.i2c_virt.specs.declared.i2c_kit.alone.Request.{Request}
use Rattle.i2c_virt.specs.I2cKit.Replies.{bare_reply}
use Rattle.i2c_virt.specs.Owners.{verdict}

-- how a client's requests were judged, each by all that were taken before it: by the status of the
-- virtualiser's own answer, or by none where it went to the driver
abbrev pub verdicts_of : (client : ℕ) → (before : List Request) → List Request
    → List (Option BusStatus)
verdicts_of client before [] = []
verdicts_of client before (r ∷ more) =
    (if r.client == client then verdict before r ∷ [] else [])
    ++ verdicts_of client (before ++ r ∷ []) more

-- a request that is judged so goes to the driver, or doesn't
abbrev pub sent_on : Option BusStatus → BusAsk → List BusAsk
sent_on None ask = ask ∷ []
sent_on (Some status) ask = []

-- those of a client's requests that went to the driver
abbrev pub transfers_of : (client : ℕ) → (before : List Request) → List Request → List BusAsk
transfers_of client before [] = []
transfers_of client before (r ∷ more) =
    (if r.client == client then sent_on (verdict before r) r.ask else [])
    ++ transfers_of client (before ++ r ∷ []) more

-- the virtualiser's own answers and these of the devices, each at its place, as far as the devices'
-- answers go
abbrev pub combined : List (Option BusStatus) → (served : List BusReply) → List BusReply
combined [] served = []
combined (Some status ∷ more) served = bare_reply status ∷ combined more served
combined (None ∷ more) [] = []
combined (None ∷ more) (reply ∷ served) = reply ∷ combined more served
