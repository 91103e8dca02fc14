use Rattle.std.proofs.Common.{◌≡◌, true, false, Some, [], ◌∷◌, sym, ap, ◌∙◌, subst}
use Rattle.wire_core.specs.Deeds.{Cargo}
use Rattle.blk_virt.specs.declared.client.Client.{Client}
use Rattle.blk_virt.specs.Requests.{goes_on, for_disk, number_of, page_named, refusal}
use Rattle.blk_virt.specs.Clients.{Moved}
use Rattle.blk_virt.proofs.Moving.{accepted, refused, idle_parts}
use Rattle.blk_virt.proofs.client.Client.receive.Goals as goal

pub returns-then-goes_on-clause-moved : goal.returns-then-goes_on-clause-moved
returns-then-goes_on-clause-moved c =
    let goes : goes_on c.args.self.now.holder c.args.part c.args.entry ≡ true = ap (λ (v : Client). goes_on v.holder c.args.part c.args.entry) (sym c.count_bad.ensures) ∙ (sym c.goes_on.ensures ∙ c.if-goes_on.true) in
    subst (λ (n : Client). Moved c.args.part c.args.self.now n (c.args.entry ∷ []) [] [] []) (sym (c.accept.ensures ∙ ap (λ (v : Client). record v { current = Some (record { id = number_of c.args.entry; page = page_named c.args.entry.1 }); leaving = Some (for_disk v.holder c.args.part c.args.entry) }) c.count_bad.ensures))
    (accepted c.args.self.now c.requires.work c.args.part c.args.entry (idle_parts c.args.self.now.current c.args.self.now.held c.requires.idle) goes)

pub returns-else-goes_on-clause-moved : goal.returns-else-goes_on-clause-moved
returns-else-goes_on-clause-moved c =
    let no : goes_on c.args.self.now.holder c.args.part c.args.entry ≡ false = ap (λ (v : Client). goes_on v.holder c.args.part c.args.entry) (sym c.count_bad.ensures) ∙ (sym c.goes_on.ensures ∙ c.if-goes_on.false) in
    subst (λ (n : Client). Moved c.args.part c.args.self.now n (c.args.entry ∷ []) [] [] [])
    (sym (ap (λ (a : Cargo). record c.count_bad.new.self { held = Some a }) c.refuse.ensures ∙ ap (λ (v : Client). record v { held = Some (refusal v.holder c.args.part c.args.entry) }) c.count_bad.ensures))
    (refused c.args.self.now c.requires.work c.args.part c.args.entry (idle_parts c.args.self.now.current c.args.self.now.held c.requires.idle) no)
