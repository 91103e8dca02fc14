use Rattle.std.proofs.Common.{◌≤◌, Some, length, map, ap, ◌∙◌, sym, refl, arith}
use Rattle.blk_virt.specs.Openings.{first_read}
use Rattle.blk_virt.specs.Virtualising.{new_client}
use Rattle.blk_virt.proofs.Starting.{new_work, new_virt}
use Rattle.blk_virt.proofs.virtualiser.BlkVirt.new.Goals as goal

pub returns-clause-work : goal.returns-clause-work
returns-clause-work c =
    let room : length c.args.clients.items ≤ c.in_ok-line.line.room = let e = c.len.ensures in let r = c.in_ok-line.ensures.room in omega (arith, e, r) in
    new_work c.args.clients.items c.requires.clients _ c.args.page (c.in_ok-clients.ensures ∙ ap (map new_client) c.deref-5.ensures.value) c.in_ok-line.ensures.shown room c.new-3.ensures.own
    (c.new-3.ensures.first ∙ ap (λ b. Some (first_read b c.args.page)) (sym c.new-3.ensures.base)) c.new-3.ensures.block refl refl

pub returns-clause-stands : goal.returns-clause-stands
returns-clause-stands c =
    let room : length c.args.clients.items ≤ c.in_ok-line.line.room = let e = c.len.ensures in let r = c.in_ok-line.ensures.room in omega (arith, e, r) in
    new_virt c.args.clients.items c.requires.clients _ c.args.page (c.in_ok-clients.ensures ∙ ap (map new_client) c.deref-5.ensures.value) c.in_ok-line.ensures.shown room c.new-3.ensures.own
    (c.new-3.ensures.first ∙ ap (λ b. Some (first_read b c.args.page)) (sym c.new-3.ensures.base)) c.new-3.ensures.block refl refl c.requires.own _ _ _ _
