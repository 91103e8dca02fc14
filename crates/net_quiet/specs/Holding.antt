-- The network at its queues where its device and its copiers wait for buffers: what then came and
-- was sent where nobody is runnable.
use Rattle.std.specs.Prelude.{◌≡◌, ◌+◌, ℕ, false, Some, List, [], ◌∷◌, length, slice_get}
use Rattle.frame_core.specs.declared.mac.Mac.{Mac}
use Rattle.play_core.specs.Moved.{Moved}
use Rattle.play_core.specs.Sheets.{Scene}
use Rattle.play_core.specs.Totals.{total}
use Rattle.class_expect.specs.NetExpect.Expecting.{Program, frames_for, sends_of}
use Rattle.net_law.specs.Owners.Names.{ClientPools}
use Rattle.net_law.specs.Parts.Numbers.{client_first, policy_at}
use Rattle.net_law.specs.Parts.Rows.{leases_from}
use Rattle.net_law.specs.TxParts.Numbers.{NetPlace}
use Rattle.net_quiet.specs.TxCast.Casting.{IsClientOf}

-- no frame may be dropped
pub record NetHolds (net : NetPlace) : Type 0 where
  pub device : net.device_drops ≡ false
  pub copiers : (k : ℕ) → policy_at net.drops k ≡ false

-- what each client sends by its program, of those frames that the device receives
abbrev pub holding_sends : List Program → List Mac → (frames : List (List ℕ))
    → List (List (List ℕ))
holding_sends [] macs frames = []
holding_sends (program ∷ programs) [] frames = []
holding_sends (program ∷ programs) (mac ∷ macs) frames =
    sends_of program mac frames ∷ holding_sends programs macs frames

-- all frames came into the device's buffers and up to the receiving virtualiser; each copier took
-- the leases of those that are for its client, and the client as many frames as these
pub record HoldingArrives (scene : Scene) (net : NetPlace) (m : Moved) : Type 0 where
  pub frames : length (m.taken net.first) ≡ length scene.frames
  pub received : length (m.taken (net.first + 4)) ≡ length scene.frames
  pub leased : (k : ℕ) (mac : Mac) → slice_get net.macs k ≡ Some mac
      → m.taken (client_first net.first k)
      ≡ leases_from scene.frames net.pool.base mac 0 (m.taken (net.first + 4))
  pub got : (k : ℕ) (mac : Mac) → slice_get net.macs k ≡ Some mac
      → length (m.taken (client_first net.first k + 2)) ≡ length (frames_for mac scene.frames)

-- each client put as many entries to be sent as it sends frames by its program, and the device took
-- all of them
pub record HoldingSends (scene : Scene) (net : NetPlace) (m : Moved) : Type 0 where
  pub puts : (k : ℕ) (program : Program) (mac : Mac) (q : ClientPools)
      → IsClientOf net k program mac q
      → length (m.sent (client_first net.first k + 4)) ≡ length (sends_of program mac scene.frames)
  pub wire : length (m.taken (net.first + 2))
      ≡ total (holding_sends net.programs net.macs scene.frames)
