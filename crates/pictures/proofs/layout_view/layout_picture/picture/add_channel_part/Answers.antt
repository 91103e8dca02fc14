use Rattle.std.proofs.lemmas.Result.{on_ok_weaker}
use Rattle.pictures.specs.LayoutView.LayoutPicture.Pictures.{channel_part}
use Rattle.pictures.proofs.LayoutView.LayoutPicture.DrawLemmas.{headed}
use Rattle.pictures.proofs.layout_view.layout_picture.picture.add_channel_part.Goals as goal

pub returns : goal.returns
unfolding channel_part
returns c = on_ok_weaker c.add_channels.result (λ e. headed _ _ _ _ _ (rw c.channel_y-y.ensures at c.in_ok-add_heading.ensures) e) c.add_channels.ensures
