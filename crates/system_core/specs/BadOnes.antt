-- What the virtualisers count as bad: how many bad entries they took of their clients, as the
-- bodies tell of what passed.
use Rattle.std.specs.Prelude.{◌+◌, ◌-◌, ◌^◌, ℕ, not, min, List, [], ◌∷◌, length, sum_by}
use Rattle.std.specs.List.{filter}
use Rattle.wire_core.specs.Lists.{Passed}
use Rattle.net_virt_tx.specs.Descriptors.{is_good}
use Rattle.blk_virt.specs.Requests.{is_bad}
use Rattle.net_law.specs.TxParts.Parts.{Shipper}
use Rattle.blk_law.specs.Sheets.Parts.{Sharer, BlkPart, DiskDevice, BlkDriver, BlkVirt, BlkClient}
use Rattle.blk_quiet.specs.Cast.Casting.{holder_of}
use Rattle.actor_set.specs.Parts.{Part, UartPart, DriverPart, RxPart, TxPart, ClientPart}
use Rattle.actor_set.specs.Parts.{NetworkPart, SendingPart, BlockPart, HostilePart}

-- how many descriptors were taken of the network's clients that are no good ones: none sends a
-- frame in a buffer of its client's
abbrev pub bad_sends : Passed → List Shipper → ℕ
bad_sends passed [] = 0
bad_sends passed (c ∷ cs) = length (filter (λ x. not (is_good (record { 0 = c.pool.number })
    c.pool.buffers c.pool.size c.most x)) (passed.taken c.active)) + bad_sends passed cs

-- how many requests were taken of the block clients that are bad: each would read or write in a
-- buffer that isn't its client's own
abbrev pub bad_asks : Passed → List Sharer → ℕ
bad_asks passed [] = 0
bad_asks passed (c ∷ cs) =
    length (filter (is_bad (holder_of c.pool)) (passed.taken c.req)) + bad_asks passed cs

-- how many bad entries an actor of the block class took: the virtualiser alone takes of clients
abbrev pub bad_of_block : Passed → BlkPart → ℕ
bad_of_block passed (DiskDevice req resp image) = 0
bad_of_block passed (BlkDriver ways) = 0
bad_of_block passed (BlkVirt req resp sectors pool clients) = bad_asks passed clients
bad_of_block passed (BlkClient req resp asks pool) = 0

-- how many an actor took: none but the two virtualisers to which clients send
abbrev pub bad_by : Passed → Part → ℕ
bad_by passed (UartPart rx tx input) = 0
bad_by passed (DriverPart device_rx device_tx rx tx) = 0
bad_by passed (RxPart rx clients drops) = 0
bad_by passed (TxPart tx clients) = 0
bad_by passed (ClientPart rx tx script) = 0
bad_by passed (NetworkPart p) = 0
bad_by passed (SendingPart p) = bad_sends passed p.clients
bad_by passed (BlockPart p) = bad_of_block passed p
bad_by passed (HostilePart p) = 0

-- how many the actors of a cast took, in a count of 64 bits, which stands still at its end
abbrev pub bad_among : Passed → List Part → ℕ
bad_among passed cast = min (sum_by (bad_by passed) cast) (2 ^ 64 - 1)
