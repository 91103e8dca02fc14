use Rattle.std.proofs.Common.{◌≡◌, ℕ, true, false, Some, None, Option, List, slice_get, refl, ap, ◌∙◌}
use Rattle.std.specs.Option.{option_map_or}
use Rattle.wire_core.specs.declared.names.QueueRow.{QueueRow}
use Rattle.wire_core.specs.Journal.{is_calm}
use Rattle.play_core.specs.Manners.{Calm, is_hostile}
use Rattle.play_core.specs.Sheets.{Scene, IsOwn}
use Rattle.serial_law.specs.Parts.{SerialPart, SerialDevice, SerialDriver, SerialReceiver, SerialSender, SerialClient}
use Rattle.serial_law.specs.Table.{serial_sheet}
use Rattle.serial_law.proofs.Own.{serial_own}
use Rattle.net_law.proofs.PartsLemmas.Following.{net_own}
use Rattle.net_law.proofs.TxParts.Following.{send_own}
use Rattle.blk_law.proofs.SheetsLemmas.Following.{blk_own}
use Rattle.actor_set.specs.Parts.{Part, UartPart, DriverPart, RxPart, TxPart, ClientPart, NetworkPart, SendingPart, BlockPart, HostilePart}
use Rattle.actor_set.specs.Laws.Kinds.{AllCalm, serial_part, sheet, manner_of, manners, hostiles}
use Rattle.actor_set.specs.Rogues.{pages_in}
use Rattle.actor_set.proofs.RogueLemmas.Sheeting.{own_sheet}

-- where nobody is hostile, each actor is calm
pub calm_manner : (cast : List Part) → AllCalm cast → (k : ℕ) → manners cast k ≡ Calm
calm_manner cast calm k = go (slice_get cast k) refl
  where
    go : (o : Option Part) → slice_get cast k ≡ o → option_map_or manner_of (slice_get cast k) Calm ≡ Calm
    go None at = ap (λ o. option_map_or manner_of o Calm) at
    go (Some p) at = ap (λ o. option_map_or manner_of o Calm) at ∙ calm k p at

pub calm_actor : (cast : List Part) → AllCalm cast → (k : ℕ) → hostiles cast k ≡ false
calm_actor cast calm k = ap is_hostile (calm_manner cast calm k)

-- how an actor goes about is told by its part
pub manner_at : (cast : List Part) (k : ℕ) (p : Part) → slice_get cast k ≡ Some p → manners cast k ≡ manner_of p
manner_at cast k p at = ap (λ o. option_map_or manner_of o Calm) at

-- an actor whose part is calm isn't hostile
pub calm_at : (cast : List Part) (k : ℕ) (p : Part) → slice_get cast k ≡ Some p → manner_of p ≡ Calm → hostiles cast k ≡ false
calm_at cast k p at calm = ap is_hostile (manner_at cast k p at ∙ calm)

pub calm_row : (cast : List Part) → AllCalm cast → (row : QueueRow) → is_calm (hostiles cast) row ≡ true
calm_row cast calm row = rw (calm_actor cast calm row.producer.0, calm_actor cast calm row.consumer.0) refl

-- what is said of a part speaks of its ends alone
pub sheet_own : (scene : Scene) (p : Part) → IsOwn (sheet scene p)
sheet_own scene (UartPart rx tx input) = serial_own (SerialDevice rx tx input)
sheet_own scene (DriverPart device_rx device_tx rx tx) = serial_own (SerialDriver device_rx device_tx rx tx)
sheet_own scene (RxPart rx clients drops) = serial_own (SerialReceiver rx clients drops)
sheet_own scene (TxPart tx clients) = serial_own (SerialSender tx clients)
sheet_own scene (ClientPart rx tx script) = serial_own (SerialClient rx tx script)
sheet_own scene (NetworkPart p) = net_own scene p
sheet_own scene (SendingPart p) = send_own p
sheet_own scene (BlockPart p) = blk_own scene p
sheet_own scene (HostilePart p) = own_sheet p.inputs p.outputs (pages_in p.pages)

pub sheet_is : (scene : Scene) (p : SerialPart) → sheet scene (serial_part p) ≡ serial_sheet p
sheet_is scene (SerialDevice rx tx input) = refl
sheet_is scene (SerialDriver device_rx device_tx rx tx) = refl
sheet_is scene (SerialReceiver rx clients drops) = refl
sheet_is scene (SerialSender tx clients) = refl
sheet_is scene (SerialClient rx tx script) = refl
