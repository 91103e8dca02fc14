use Rattle.std.proofs.Common.{rules, sym, ap, ◌∙◌, ◌≡◌, ◌+◌, ◌%◌, get_or, None, arith}
use Rattle.std.proofs.lemmas.List.{get_or_read}
use Rattle.plain_wires.specs.Pages.{pages_among}
use Rattle.plain_wires.proofs.Rounds.{none_stands, one_more}
use Rattle.plain_wires.proofs.slots.pages_from.Goals as goal

pub loop-place-init : goal.loop-place-init
loop-place-init c = (sym (ap (pages_among c.args.pool) (none_stands c.args.slots.now c.args.capacity c.args.head)), omega arith)

pub loop-place-preserved : goal.loop-place-preserved
loop-place-preserved c =
    let at : get_or c.args.slots.now (((c.args.head + c.loop-place.place) % 65536) % c.args.capacity) None ≡ c.index-slots-slot_of.result = ap (λ i. get_or c.args.slots.now i None) (sym c.slot_of.ensures) ∙ sym (get_or_read c.args.slots.now c.slot_of.result c.index-slots-slot_of.result (search rules) c.index-slots-slot_of.is None) in
    (ap (λ n. c.loop-place.pages + n) c.page_in-pages.ensures.pages ∙ one_more c.args.pool c.args.slots.now c.args.capacity c.args.head c.loop-place.place c.loop-place.pages c.index-slots-slot_of.result c.requires.sized c.loop-place.invariant.0 at, let some = c.loop-place.invariant.1 in let one = c.page_in-pages.ensures.few in omega (arith, some, one))
