use Rattle.std.proofs.Common.{◌≡◌, ◌++◌, take}
use Rattle.view_plays.specs.PlayView.PageText.Page.{parts_text}
use Rattle.view_plays.proofs.play_view.page_text.page.push_parts.Given as goal

abbrev pub invariant-loop-part : goal.invariant-loop-part
invariant-loop-part l = l.to ≡ l.initial.to ++ parts_text (take l.part-index l.parts)
