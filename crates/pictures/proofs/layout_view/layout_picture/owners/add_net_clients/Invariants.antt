use Rattle.std.proofs.Common.{◌≡◌, ◌++◌, drop}
use Rattle.std.specs.List.{flat_map}
use Rattle.pictures.specs.LayoutView.LayoutPicture.Owners.{net_client_owners}
use Rattle.pictures.proofs.layout_view.layout_picture.owners.add_net_clients.Given as goal

abbrev pub invariant-loop-client : goal.invariant-loop-client
invariant-loop-client l = l.owners ++ flat_map net_client_owners (drop l.client-index l.clients) ≡ l.initial.owners ++ flat_map net_client_owners l.clients
