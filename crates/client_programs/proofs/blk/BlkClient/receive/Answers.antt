use Rattle.std.proofs.Common.{Option, sym, ◌∙◌, subst, refl}
use Rattle.std.specs.Option.{option_to_list}
use Rattle.std.proofs.lemmas.Bool.{ltb-false}
use Rattle.wire_core.specs.Deeds.{Cargo}
use Rattle.wire_core.specs.Lists.{with}
use Rattle.client_programs.specs.Blk.Clients.{BlkStands}
use Rattle.client_programs.proofs.BlkLemmas.Standing.{in_turn, out_of_turn}
use Rattle.client_programs.proofs.blk.BlkClient.receive.Goals as goal

pub returns-then-is_due-clause-stands : goal.returns-then-is_due-clause-stands
returns-then-is_due-clause-stands c = λ i o passed took put calls takes puts h.
    subst (λ (s : Option Cargo). BlkStands i o c.receive.new.self (option_to_list s) (record { taken = with passed.taken took; sent = with passed.sent put; calls = calls })) (sym c.requires.free)
    (in_turn i o c.args.self.now.asking c.receive.new.self c.receive.ensures.same passed took put calls h c.args.entry takes puts c.receive.ensures.stands c.receive.ensures.held)

pub returns-else-is_due-clause-stands : goal.returns-else-is_due-clause-stands
returns-else-is_due-clause-stands c = λ i o passed took put calls takes puts h.
    out_of_turn i o c.args.self.now.asking c.args.self.now.asking (record { script = refl; same_pool = refl; buffers = refl }) passed took put calls h c.args.entry takes puts c.requires.asking
    (ltb-false _ _ (sym c.is_due.ensures ∙ c.if-is_due.false))
