-- What the sending virtualiser does for one client, by what came from it, what went to the driver,
-- what came back from the driver and what went back to the client.
use Rattle.std.specs.Prelude.{◌+◌, ◌*◌, ◌&&◌, Bool, not, nat_le, nat_lt, List, [], ◌∷◌, map}
use Rattle.std.specs.List.{filter}
use Rattle.cargo_core.specs.Lists.{IsPrefix, PrefixMerge}
use Rattle.wire_core.specs.Deeds.{Cargo}
use Rattle.buffer_kit.specs.Entries.{addr_of}
use Rattle.net_virt_tx.specs.Descriptors.{is_good, to_client}
use Rattle.net_virt_tx.specs.declared.descriptors.Sender.{Sender}

-- a descriptor of the client is good
abbrev pub is_good_of : Sender → Cargo → Bool
is_good_of s c = is_good s.pool s.buffers s.size s.most c

-- the buffer of an entry is in the client's range of device addresses
abbrev pub is_own : Sender → Cargo → Bool
is_own s c = nat_le s.base (addr_of c.0) && nat_lt (addr_of c.0) (s.base + s.buffers * s.size)

-- of these entries of the driver's queues, those in the client's range, with their offsets there
abbrev pub own_of : Sender → List Cargo → List Cargo
own_of s cs = map (to_client s.base) (filter (is_own s) cs)

-- of what came from the client, what is bad
abbrev pub bad_ones : Sender → List Cargo → List Cargo
bad_ones s came = filter (λ c. not (is_good_of s c)) came

-- the client is served: what went to the driver in its range are its good descriptors, in their
-- order; and what went back to it is a merge of its bad ones as they are, and of what came back in
-- its range, each as far as it went
pub record IsServed (s : Sender) (came went returned back : List Cargo) : Type 0 where
  pub sends : IsPrefix (own_of s went) (filter (is_good_of s) came)
  pub gives_back : PrefixMerge (bad_ones s came ∷ own_of s returned ∷ []) back
