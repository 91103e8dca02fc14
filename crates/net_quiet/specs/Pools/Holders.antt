-- An actor of the network as one that has buffers of pools.
use Rattle.std.specs.Prelude.{◌==◌, ℕ, if◌then◌else◌, List}
use Rattle.cargo_core.specs.declared.item.Body.{Body}
use Rattle.play_core.specs.Sheets.{Sheet}
use Rattle.owner_law.specs.Keeping.{keeper_of}
use Rattle.net_virt_rx.specs.Sharing.{lent_many}
use Rattle.net_virt_rx.specs.declared.NetVirtRx.{NetVirtRx}
use Rattle.owner_law.specs.Pools.Lines.{Holder}

-- an actor of this sheet, with what is in its hand and what it has lent
abbrev pub holder_of : Sheet → (hand : List Body) → (lent : ℕ → ℕ) → Holder
holder_of s hand lent = record { keeper = keeper_of s; hand = hand; lent = lent }

-- an actor that lends nothing
abbrev pub no_lent : ℕ → ℕ
no_lent pool = 0

-- of its own pool the receiving virtualiser has lent the buffers that have a receiver
abbrev pub rx_lent : NetVirtRx → ℕ → ℕ
rx_lent v pool = if v.work.stock.pool.0 == pool
    then lent_many v.work.stock.buffers v.work.lent else 0
