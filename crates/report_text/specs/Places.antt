-- How a place in a description prints: its element, with the numbers that lead to it.
use Rattle.std.specs.Prelude.{ℕ, List, [], ◌++◌, codes}
use Rattle.std.specs.Fmt.{decimal}
use Rattle.sdf_plan.specs.declared.place.Place.{Place}
use Rattle.sdf_plan.specs.declared.place.Place.TheVariants as At

-- an element of a list: the list's name, the element's number in brackets, and what follows
abbrev pub numbered : List ℕ → ℕ → List ℕ → List ℕ
numbered name n rest = name ++ (codes "[" ++ (decimal n ++ (codes "]" ++ rest)))

-- the text of a place: the keys that lead to it, joined by dots
abbrev pub place_text : Place → List ℕ
place_text At.System = codes "system"
place_text (At.Region r) = numbered (codes "memory_region") r []
place_text (At.Domain d) = numbered (codes "protection_domain") d []
place_text (At.Map d m) = numbered (codes "protection_domain") d (numbered (codes ".map") m [])
place_text (At.Irq d i) = numbered (codes "protection_domain") d (numbered (codes ".irq") i [])
place_text (At.Channel c) = numbered (codes "channel") c []
place_text (At.End c e) = numbered (codes "channel") c (numbered (codes ".end") e [])
place_text At.Net = codes "net"
place_text (At.NetClient c) = numbered (codes "net.client") c []
place_text At.Serial = codes "serial"
place_text (At.SerialClient c) = numbered (codes "serial.client") c []
place_text At.Blk = codes "blk"
place_text (At.BlkClient c) = numbered (codes "blk.client") c []
