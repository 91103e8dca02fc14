-- The table of the network as more frames are accepted.
use Rattle.std.specs.Prelude.{◌≤◌, length}
use Rattle.play_core.specs.Moved.{Moved}
use Rattle.play_core.specs.Sheets.{Scene}
use Rattle.net_law.specs.Parts.Parts.{NetPart, NetDevice, NetDriver, NetReceiver, NetCopier}
use Rattle.net_law.specs.Parts.Parts.{NetClient}

-- what is said of an actor reads no frame but those that are accepted: of the receiving
-- virtualiser, since no more came to it
abbrev pub ReadsWithin : Scene → NetPart → Moved → Type 0
ReadsWithin scene (NetReceiver active free pool clients) m =
    length (m.taken active) ≤ length scene.frames
ReadsWithin scene (NetDevice rf ra ta tf frames drops) m = Unit {0}
ReadsWithin scene (NetDriver ways) m = Unit {0}
ReadsWithin scene (NetCopier la lf ra rf drops) m = Unit {0}
ReadsWithin scene (NetClient program mac ra rf ta tf rx tx) m = Unit {0}
