-- What the classes of inks are called.
use Rattle.std.specs.Prelude.{ℕ, ◌%◌, List, [], ◌++◌, codes}
use Rattle.std.specs.Fmt.{decimal}
use Rattle.cargo_core.specs.declared.item.QueueKind.{QueueKind}
use Rattle.cargo_core.specs.declared.item.QueueKind.TheVariants as Kind
use Rattle.picture_kit.specs.declared.ink.Ink.{Ink}
use Rattle.picture_kit.specs.declared.ink.Ink.TheVariants as In

-- the class of an ink, but for its number
abbrev pub ink_stem : Ink → List ℕ
ink_stem In.Domain = codes "domain"
ink_stem In.Device = codes "device"
ink_stem In.Lane = codes "lane"
ink_stem In.Net = codes "net"
ink_stem In.Byte = codes "byte"
ink_stem In.Req = codes "req"
ink_stem In.Resp = codes "resp"
ink_stem In.Channel = codes "channel"
ink_stem In.Region = codes "region"
ink_stem (In.Shade n) = codes "shade shade"
ink_stem In.Heading = codes "heading"
ink_stem In.Label = codes "label"
ink_stem In.Asked = codes "asked"
ink_stem In.Rung = codes "rung"
ink_stem In.Woken = codes "woken"
ink_stem In.Refused = codes "refused"
ink_stem In.Loose = codes "loose"

-- the number at its end: eight shades come in turn
abbrev pub ink_number : Ink → List ℕ
ink_number (In.Shade n) = decimal (n % 8)
ink_number _ = []

-- the class of an ink
abbrev pub ink_text : Ink → List ℕ
ink_text ink = ink_stem ink ++ ink_number ink

-- the ink of the arrows of a queue
abbrev pub kind_ink : QueueKind → Ink
kind_ink Kind.Net = In.Net
kind_ink Kind.Byte = In.Byte
kind_ink Kind.Req = In.Req
kind_ink Kind.Resp = In.Resp
