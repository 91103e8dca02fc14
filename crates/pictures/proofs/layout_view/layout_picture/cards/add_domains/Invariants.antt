use Rattle.std.proofs.Common.{◌≡◌, ◌++◌, drop, map}
use Rattle.pictures.specs.LayoutView.LayoutPicture.Cards.{domain_card}
use Rattle.pictures.proofs.layout_view.layout_picture.cards.add_domains.Given as goal

abbrev pub invariant-loop-domain : goal.invariant-loop-domain
invariant-loop-domain l = l.cards ++ map domain_card (drop l.domain-index l.domains) ≡ l.initial.cards ++ map domain_card l.domains
