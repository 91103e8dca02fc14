-- Entries that wait for room.
use Rattle.std.specs.Prelude.{◌≡◌, None, List, [], ◌++◌}
use Rattle.std.specs.Option.{option_to_list}
use Rattle.wire_core.specs.Deeds.{Cargo}
use Rattle.net_virt_tx.specs.declared.returns.Returns.{Returns}

-- the entries that wait, the first of them first
abbrev pub returns_list : Returns → List Cargo
returns_list r = option_to_list r.next ++ r.later.shown

-- the first one is ready where any waits
abbrev pub IsReady : Returns → Type 0
IsReady r = r.next ≡ None → r.later.shown ≡ []
