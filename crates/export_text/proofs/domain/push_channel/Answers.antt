use Rattle.std.proofs.Common.{map}
use Rattle.export_text.specs.System.{end_tag}
use Rattle.export_text.proofs.ElementLemmas.{element-written}
use Rattle.export_text.proofs.domain.push_channel.Goals as goal

pub returns : goal.returns
returns c =
    element-written _ _ _ _ (map end_tag c.args.channel.now.end) _ _ (rw c.in_ok-open.ensures at c.in_ok-push.ensures.ok)
    (rw c.as_slice.ensures at c.in_ok-push_ends.ensures) (rw c.in_ok-close.ensures at c.in_ok-push-2.ensures.ok)
