-- The names of a moment tell of all that passed.
use Rattle.std.proofs.Common.{◌≡◌, ◌≤◌, suc, List, [], length, sym, subst}
use Rattle.std.proofs.lemmas.List.{append-nil}
use Rattle.wire_core.specs.Lists.{Passed}
use Rattle.wire_core.specs.Queues.{items_of}
use Rattle.play_core.specs.Moved.{Moved}
use Rattle.play_core.specs.Names.{Wild, names_at, names_of}
use Rattle.play_core.specs.Wants.{intake, outlet}
use Rattle.play_core.proofs.Naming.{few_begin, taken_told}
use Rattle.net_law.specs.Owners.Ends.{AreItemsOf}
use Rattle.net_law.specs.Receiving.{HandsOver}
use Rattle.net_law.specs.TxParts.Parts.{SendPart, Shipper}
use Rattle.net_law.specs.TxScene.Playing.{TellsBack, TellsOf}
use Rattle.net_law.specs.TxScene.Table.{LiesWithin, both_sheet}
use Rattle.net_law.proofs.PartsLemmas.Pairs.{twice, pair_first, pair_second}

pub tells_came : (wild : Wild) (passed : Passed) → HandsOver passed → (clients : List Shipper) → TellsOf wild (names_at passed) clients passed
tells_came wild passed flows clients k c at w = taken_told passed c.active (flows c.active)

pub tells_back : (wild : Wild) (passed : Passed) (clients : List Shipper) → TellsBack wild (names_at passed) clients passed
tells_back wild passed clients k c at w = ([], append-nil (names_of (passed.sent c.free)))

pub lies_within : (wild : Wild) (p : SendPart) (passed : Passed) (m : Moved) → HandsOver passed → AreItemsOf (both_sheet wild (names_at passed) p).ends passed m → LiesWithin wild (names_at passed) p m
lies_within wild p passed m flows items k c at w =
    let came : m.taken c.active ≡ items_of (passed.taken c.active) = items (suc (suc (twice k))) _ (pair_first (λ (x : Shipper). intake x.active) (λ x. outlet x.free) p.clients k c at) in
    let went : m.sent c.free ≡ items_of (passed.sent c.free) = items (suc (suc (suc (twice k)))) _ (pair_second (λ (x : Shipper). intake x.active) (λ x. outlet x.free) p.clients k c at) in (
      subst (λ l. length l ≤ length (names_at passed c.active)) (sym came) (few_begin (passed.taken c.active) (passed.sent c.active) (flows c.active)),
      subst (λ l. length l ≤ length (names_at passed c.free)) (sym went) (few_begin (passed.sent c.free) (passed.sent c.free) ([], append-nil (passed.sent c.free))),
    )
