use Rattle.std.proofs.Common.{◌≡◌, ◌<◌, refl, sym, ap, ◌∙◌, subst}
use Rattle.std.proofs.lemmas.Option.{slice_get_read, slice_get_within}
use Rattle.buffer_kit.specs.Clients.{entry_in}
use Rattle.buffer_kit.specs.Entries.{filled}
use Rattle.buffer_kit.proofs.ManyClients.{some_eq}
use Rattle.net_switch.specs.declared.switch_desk.slot.Slot.{Slot}
use Rattle.net_switch.proofs.SwitchDesk.Moves.{first_held}
use Rattle.net_switch.proofs.switch_desk.desk.Desk.filled.Goals as goal

pub index-requires : goal.index-requires
index-requires c =
    let f = first_held c.args.self.now c.requires.desk c.args.port c.in-Some.sender (sym c.in-Some.ensures) in
    subst (λ n. c.in-Some.sender < n) (sym c.args.self.now.slots.ok.0) (slice_get_within c.args.self.now.slots.items c.in-Some.sender f.0 f.2)

pub unreachable-requires : goal.unreachable-requires
unreachable-requires c =
    let f = first_held c.args.self.now c.requires.desk c.args.port c.in-Some.sender (sym c.in-Some.ensures) in
    let at = slice_get_read c.args.self.now.slots.items _ c.in-Some.sender c.index.result.now refl (slice_get_within c.args.self.now.slots.items c.in-Some.sender f.0 f.2) c.index.ensures in
    let same : f.0 ≡ c.index.result.now = some_eq (sym f.2 ∙ at) in
    let bad = sym f.3 ∙ (ap (λ (s : Slot). s.frame) same ∙ c.in-None-frame.is) in cc

pub returns : goal.returns
returns c =
    let f = first_held c.args.self.now c.requires.desk c.args.port c.in-Some.sender (sym c.in-Some.ensures) in
    let at = slice_get_read c.args.self.now.slots.items _ c.in-Some.sender c.index.result.now refl (slice_get_within c.args.self.now.slots.items c.in-Some.sender f.0 f.2) c.index.ensures in
    record {
      sender = c.in-Some.sender;
      held = _;
      is_first = sym c.in-Some.ensures;
      is_held = ap (entry_in (λ (s : Slot). s.frame)) at ∙ c.in-Some-frame.is;
      copy_is = c.fill.ensures ∙ ap (λ l. filled l c.args.entry) c.frame.ensures.frame;
    }
