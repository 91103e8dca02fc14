use Rattle.std.proofs.Common.{◌≡◌, ◌++◌, drop}
use Rattle.std.specs.List.{flat_map}
use Rattle.pictures.specs.LayoutView.LayoutPicture.Owners.{blk_client_owner}
use Rattle.pictures.proofs.layout_view.layout_picture.owners.add_blk_clients.Given as goal

abbrev pub invariant-loop-client : goal.invariant-loop-client
invariant-loop-client l = l.owners ++ flat_map blk_client_owner (drop l.client-index l.clients) ≡ l.initial.owners ++ flat_map blk_client_owner l.clients
