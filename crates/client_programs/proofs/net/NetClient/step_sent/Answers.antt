use Rattle.std.proofs.Common.{[], ◌∙◌, sym, ap, refl}
use Rattle.std.specs.Option.{option_map, option_to_list}
use Rattle.client_programs.specs.Net.Sending.{needs_buffer}
use Rattle.client_programs.specs.Net.Clients.{rx_active, rx_free, tx_active, tx_free}
use Rattle.client_programs.proofs.NetLemmas.Sending.{needed_some, nothing_came}
use Rattle.client_programs.proofs.NetLemmas.Standing.{buffer_came_back, buffers_took, held_by, no_buffer_more}
use Rattle.client_programs.proofs.net.NetClient.step_sent.Goals as goal

pub returns-then-is_some-clause-stepped : goal.returns-then-is_some-clause-stepped
returns-then-is_some-clause-stepped g c =
    let old = c.args.self.now in
    let got = c.step-got.result.1 in
    let some = sym c.is_some.ensures ∙ c.if-is_some.true in
    let need = sym (c.needs_buffer-need.ensures ∙ ap (needs_buffer old.outbox) c.frame_count.ensures) ∙ needed_some got c.needs_buffer-need.result c.step-got.ensures.needed some in
    record {
      body = option_map (λ x. x.1) got;
      happened = c.step-got.ensures.did;
      kept = λ p h. buffers_took old _ p _ _ [] (option_to_list got) (record { rx_active = refl; rx_free = refl; tx_active = refl; tx_free = c.step-got.ensures.queue }) c.requires.inputs_apart c.step-got.ensures.takes c.step-got.ensures.puts
          (buffer_came_back old c.step-got.new.self got (p.taken (rx_active old)) (p.sent (rx_free old)) (p.taken (tx_free old)) (p.sent (tx_active old)) some need c.requires.outbox.stock h);
    }

pub returns-else-is_some-clause-stepped : goal.returns-else-is_some-clause-stepped
returns-else-is_some-clause-stepped g c =
    let old = c.args.self.now in
    let got = c.step-got.result.1 in
    let none = nothing_came got (sym c.is_some.ensures ∙ c.if-is_some.false) in
    record {
      body = option_map (λ x. x.1) got;
      happened = c.step-got.ensures.did;
      kept = λ p h. buffers_took old _ p _ _ [] (option_to_list got) (record { rx_active = refl; rx_free = refl; tx_active = refl; tx_free = c.step-got.ensures.queue }) c.requires.inputs_apart c.step-got.ensures.takes c.step-got.ensures.puts
          (no_buffer_more _ (p.taken (rx_active old)) (p.sent (rx_free old)) (p.taken (tx_free old)) (p.sent (tx_active old)) (option_to_list got) none
          (held_by old _ (p.taken (rx_active old)) (p.sent (rx_free old)) (p.taken (tx_free old)) (p.sent (tx_active old)) refl refl refl refl refl h));
    }
