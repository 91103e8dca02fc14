use Rattle.std.proofs.Common.{◌∙◌, ◌==◌, ◌++◌, ◌∷◌, [], sym, ap, refl, Some}
use Rattle.std.specs.Option.{option_map, option_to_list}
use Rattle.wire_core.specs.Lists.{if_there}
use Rattle.client_programs.specs.Net.Clients.{rx_active, rx_free, tx_active, tx_free}
use Rattle.client_programs.proofs.NetLemmas.Sending.{needed_so}
use Rattle.client_programs.proofs.NetLemmas.Standing.{frame_came, frames_took, needing, nothing_more, held_by}
use Rattle.client_programs.proofs.net.NetClient.step_input.Goals as goal

pub returns-in-Some-clause-stepped : goal.returns-in-Some-clause-stepped
returns-in-Some-clause-stepped g c =
    let old = c.args.self.now in
    let e = c.in-Some.entry in
    let got = c.step-got.result.1 in
    let need = needing old (sym c.needs_frame-need.ensures ∙ needed_so got c.needs_frame-need.result c.step-got.ensures.needed e c.in-Some.is) in
    let queue = c.step-got.ensures.queue in
    record {
      body = option_map (λ x. x.1) got;
      happened = c.step-got.ensures.did;
      kept = λ p h. frames_took old _ p _ _ [] (e ∷ []) (record { rx_active = queue; rx_free = refl; tx_active = refl; tx_free = refl }) c.requires.fits.inputs_apart
          (λ n. c.step-got.ensures.takes n ∙ ap (λ o. if_there (rx_active old == n) (option_to_list o)) c.in-Some.is) c.step-got.ensures.puts
          (frame_came old (record { pipe = record { input = c.step-got.new.self; output = old.frames.pipe.output; load = Some e }; tape = c.push.new.self }) e (p.taken (rx_active old)) (p.sent (rx_free old)) (p.taken (tx_free old)) (p.sent (tx_active old)) need.0 refl (c.push.ensures ∙ ap (λ f. old.frames.tape.shown ++ f ∷ []) c.frame.ensures.frame) need.1 h);
    }

pub returns-in_default-clause-stepped : goal.returns-in_default-clause-stepped
returns-in_default-clause-stepped g c =
    let old = c.args.self.now in
    let got = c.step-got.result.1 in
    record {
      body = option_map (λ x. x.1) got;
      happened = c.step-got.ensures.did;
      kept = λ p h. frames_took old _ p _ _ [] (option_to_list got) (record { rx_active = c.step-got.ensures.queue; rx_free = refl; tx_active = refl; tx_free = refl }) c.requires.fits.inputs_apart c.step-got.ensures.takes c.step-got.ensures.puts
          (nothing_more _ (p.taken (rx_active old)) (p.sent (rx_free old)) (p.taken (tx_free old)) (p.sent (tx_active old)) (option_to_list got) (ap option_to_list c.in_default.is)
          (held_by old _ (p.taken (rx_active old)) (p.sent (rx_free old)) (p.taken (tx_free old)) (p.sent (tx_active old)) refl refl refl refl refl h));
    }
