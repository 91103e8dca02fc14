use Rattle.std.proofs.Common.{◌≡◌, false, [], slice_set, slice_index_or, sym, ap, ◌∙◌, arith}
use Rattle.std.specs.Option.{option_map}
use Rattle.std.proofs.lemmas.List.{get_or_read}
use Rattle.buffer_kit.specs.Pools.{given_entry}
use Rattle.net_virt_rx.specs.declared.sharer.Sharer.{Sharer}
use Rattle.net_virt_rx.proofs.Moving.{lent_some, page_within, gave_work, gave_stands, gave_held}
use Rattle.net_virt_rx.proofs.sharer.Sharer.give_back.Goals as goal

pub give_back-page-requires : goal.give_back-page-requires
give_back-page-requires c = lent_some c.args.self.now c.requires.work c.args.no c.args.client c.requires.within c.requires.out

pub restock_if-requires-clause-within : goal.restock_if-requires-clause-within
restock_if-requires-clause-within c = page_within c.args.self.now c.requires.work c.requires.idle c.args.client c.args.no c.requires.within c.requires.out c.give_back-page.result c.give_back-page.new.self c.give_back-page.ensures

is_new : (c : goal.After-restock_if) → c.restock_if.new.self ≡ record c.args.self.now { lent = c.give_back-page.new.self; out = c.restock_if.new.self.out; stock = record c.args.self.now.stock { next = option_map (given_entry c.args.self.now.stock.base c.args.self.now.stock.size) c.give_back-page.result } }
is_new c = c.restock_if.ensures ∙ ap (λ t. record c.args.self.now { lent = c.give_back-page.new.self; out = t; stock = record c.args.self.now.stock { next = option_map (given_entry c.args.self.now.stock.base c.args.self.now.stock.size) c.give_back-page.result } }) (ap (λ (v : Sharer). v.out) (sym c.restock_if.ensures))

out_new : (c : goal.After-restock_if) → c.restock_if.new.self.out.items ≡ slice_set c.args.self.now.out.items c.args.no (slice_set (slice_index_or c.args.self.now.out.items c.args.no []) c.args.client false)
out_new c =
    let long = c.requires.work.out_long in
    ap (λ (v : Sharer). v.out.items) c.restock_if.ensures ∙ ap (λ f. slice_set c.args.self.now.out.items c.args.no f) (c.remove.ensures ∙ ap (λ xs. slice_set xs c.args.client false) (get_or_read c.args.self.now.out.items c.args.no c.index_mut-out.result.now (omega (arith, long, c.requires.within)) c.index_mut-out.ensures.value []))

pub returns-clause-work : goal.returns-clause-work
returns-clause-work c = gave_work c.args.self.now c.requires.work c.requires.idle c.args.client c.args.no c.requires.within c.requires.out c.give_back-page.result c.give_back-page.new.self c.give_back-page.ensures c.restock_if.new.self (is_new c) (out_new c)

pub returns-clause-stands : goal.returns-clause-stands
returns-clause-stands c = gave_stands c.args.self.now c.requires.work c.requires.idle c.args.client c.args.no c.requires.within c.requires.out c.give_back-page.result c.give_back-page.new.self c.give_back-page.ensures c.restock_if.new.self (is_new c) (out_new c)

pub returns-clause-held : goal.returns-clause-held
returns-clause-held c = gave_held c.args.self.now c.requires.work c.requires.idle c.args.client c.args.no c.requires.within c.requires.out c.give_back-page.result c.give_back-page.new.self c.give_back-page.ensures c.restock_if.new.self (is_new c) (out_new c)
