-- Who owns the buffers of each pool, in the order of the pools of a layout: the network's receiving
-- pool, of each network client its receiving and its sending pool, the block class's own pool, and
-- the pool of each block client.
use Rattle.std.specs.Prelude.{ℕ, Option, Some, None, List, [], ◌∷◌, ◌++◌}
use Rattle.std.specs.List.{flat_map}
use Rattle.sdf_plan.specs.declared.plan.Plan.{Plan}
use Rattle.sdf_plan.specs.declared.plan.Net.{Net}
use Rattle.sdf_plan.specs.declared.plan.NetClient.{NetClient}
use Rattle.sdf_plan.specs.declared.plan.Blk.{Blk}
use Rattle.sdf_plan.specs.declared.plan.BlkClient.{BlkClient}

-- a network client's received frames lie with its copier, and what it sends with itself
abbrev pub net_client_owners : NetClient → List (List ℕ)
net_client_owners client = client.copier ∷ client.pd ∷ []

-- the frames from the device lie with the receiving virtualiser
abbrev pub net_owners : Option Net → List (List ℕ)
net_owners None = []
net_owners (Some net) = net.rx_virt ∷ flat_map net_client_owners net.client

-- the blocks of a client lie with itself
abbrev pub blk_client_owner : BlkClient → List (List ℕ)
blk_client_owner client = client.pd ∷ []

-- what the block class reads for itself lies with its virtualiser
abbrev pub blk_owners : Option Blk → List (List ℕ)
blk_owners None = []
blk_owners (Some blk) = blk.virt ∷ flat_map blk_client_owner blk.client

-- the owner of each pool
abbrev pub owners_of : Plan → List (List ℕ)
owners_of plan = net_owners plan.net ++ blk_owners plan.blk
