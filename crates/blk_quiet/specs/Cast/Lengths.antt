-- How long the pages of the block class's clients are.
use Rattle.std.specs.Prelude.{◌≡◌, ◌*◌, ◌≤◌, length}
use Rattle.cargo_core.specs.Blocks.{block_bytes}
use Rattle.cargo_core.specs.declared.item.Body.{Body}
use Rattle.cargo_core.specs.declared.item.Body.TheVariants as Carried
use Rattle.blk_virt.specs.declared.requests.Holder.{Holder}

-- a page of a client's pool takes eight blocks; of others nothing is asked
abbrev pub IsLongFor : Holder → Body → Type 0
IsLongFor h (Carried.Page page) = page.pool.0 ≡ h.pool.0 → 8 * block_bytes ≤ length page.bytes
IsLongFor h (Carried.Lease lease) = Unit {0}
IsLongFor h Carried.Empty = Unit {0}
