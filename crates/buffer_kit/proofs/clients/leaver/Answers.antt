use Rattle.std.proofs.Common.{take, refl, sym, ap, ◌∙◌, add-one}
use Rattle.std.specs.List.{list_any}
use Rattle.std.specs.Option.{is_some}
use Rattle.std.proofs.lemmas.Option.{slice_get_read}
use Rattle.buffer_kit.specs.Clients.{entry_in}
use Rattle.buffer_kit.proofs.ManyClients.{any_at, none_so, none_all}
use Rattle.buffer_kit.proofs.clients.leaver.Goals as goal

pub returns-then-is_leaving : goal.returns-then-is_leaving
returns-then-is_leaving g c =
    let at = slice_get_read c.args.clients.now _ c.loop-place.place c.index-clients-place.result refl c.loop-place-test.true c.index-clients-place.is in
    let e = sym c.is_leaving.ensures ∙ c.if-is_leaving.true in
    (any_at (λ x. is_some (g.C.Served.leaving x)) c.args.clients.now c.loop-place.place c.index-clients-place.result at e, ap (λ o. is_some (entry_in g.C.Served.leaving o)) at ∙ e, c.loop-place.invariant)

pub loop-place-preserved : goal.loop-place-preserved
loop-place-preserved g c =
    let at = slice_get_read c.args.clients.now _ c.loop-place.place c.index-clients-place.result refl c.loop-place-test.true c.index-clients-place.is in
    let e = sym c.is_leaving.ensures ∙ c.if-is_leaving.false in
    ap (λ n. list_any (λ x. is_some (g.C.Served.leaving x)) (take n c.args.clients.now)) (add-one c.loop-place.place) ∙ none_so (λ x. is_some (g.C.Served.leaving x)) c.args.clients.now c.loop-place.place c.index-clients-place.result at e c.loop-place.invariant

pub returns : goal.returns
returns g c = none_all (λ x. is_some (g.C.Served.leaving x)) c.args.clients.now c.loop-place.place c.loop-place-test.false c.loop-place.invariant
