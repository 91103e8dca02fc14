use Rattle.std.proofs.Common.{[], ◌∙◌, ◌++◌, not, sym, ap, refl}
use Rattle.std.specs.Option.{option_map, option_to_list}
use Rattle.wire_core.specs.Deeds.{put_of}
use Rattle.client_programs.specs.Net.Clients.{rx_active, rx_free, tx_active, tx_free}
use Rattle.client_programs.proofs.NetLemmas.Sending.{stock_empty, nothing_in, went_list, still_same}
use Rattle.client_programs.proofs.NetLemmas.Standing.{load_went, stock_went, buffers_put}
use Rattle.client_programs.proofs.net.NetClient.step_output.Goals as goal

pub returns-then-is_none-clause-stepped : goal.returns-then-is_none-clause-stepped
returns-then-is_none-clause-stepped g c =
    let old = c.args.self.now in
    let went = put_of c.step_output.result old.frames.pipe.load in
    let none = nothing_in old.stock.next c.is_none.result c.is_none.ensures c.if-is_none.true in
    let empty = stock_empty old.stock c.requires.stock none in
    record {
      body = option_map (λ x. x.1) went;
      happened = c.step_output.ensures.did;
      kept = λ p h. buffers_put old _ p _ _ [] (option_to_list went) (record { rx_active = ap (λ i. i.queue) c.step_output.ensures.input; rx_free = c.step_output.ensures.output; tx_active = refl; tx_free = refl }) c.requires.outputs_apart c.step_output.ensures.takes c.step_output.ensures.puts
          (load_went old c.step_output.new.self (option_to_list went) (p.taken (rx_active old)) (p.sent (rx_free old)) (p.taken (tx_free old)) (p.sent (tx_active old)) none empty c.step_output.ensures.load c.step_output.ensures.tape h);
    }

pub returns-then-is_none-2-clause-stepped : goal.returns-then-is_none-2-clause-stepped
returns-then-is_none-2-clause-stepped g c =
    let old = c.args.self.now in
    let went = put_of c.step-event.result old.stock.next in
    let some = c.is_none.ensures ∙ ap not c.if-is_none.false in
    record {
      body = option_map (λ x. x.1) went;
      happened = c.step-event.ensures.did;
      kept = λ p h. buffers_put old _ p _ _ [] (option_to_list went) (record { rx_active = refl; rx_free = c.step-event.ensures.queue; tx_active = refl; tx_free = refl }) c.requires.outputs_apart c.step-event.ensures.takes c.step-event.ensures.puts
          (stock_went old (record { pipe = record { input = old.frames.pipe.input; output = c.step-event.new.self; load = old.frames.pipe.load }; tape = old.frames.tape }) c.refill.new.self (option_to_list went) (p.taken (rx_active old)) (p.sent (rx_free old)) (p.taken (tx_free old)) (p.sent (tx_active old)) some
          (went_list old.stock c.step-event.new.load (option_to_list went) c.step-event.ensures.load ∙ ap (λ l. option_to_list went ++ l) (sym c.refill.ensures.list)) (still_same old.stock c.refill.new.self c.step-event.new.load c.refill.ensures.same) refl refl h);
    }

pub returns-else-is_none-2-clause-stepped : goal.returns-else-is_none-2-clause-stepped
returns-else-is_none-2-clause-stepped g c =
    let old = c.args.self.now in
    let went = put_of c.step-event.result old.stock.next in
    let some = c.is_none.ensures ∙ ap not c.if-is_none.false in
    record {
      body = option_map (λ x. x.1) went;
      happened = c.step-event.ensures.did;
      kept = λ p h. buffers_put old _ p _ _ [] (option_to_list went) (record { rx_active = refl; rx_free = c.step-event.ensures.queue; tx_active = refl; tx_free = refl }) c.requires.outputs_apart c.step-event.ensures.takes c.step-event.ensures.puts
          (stock_went old (record { pipe = record { input = old.frames.pipe.input; output = c.step-event.new.self; load = old.frames.pipe.load }; tape = old.frames.tape }) (record old.stock { next = c.step-event.new.load }) (option_to_list went) (p.taken (rx_active old)) (p.sent (rx_free old)) (p.taken (tx_free old)) (p.sent (tx_active old)) some
          (went_list old.stock c.step-event.new.load (option_to_list went) c.step-event.ensures.load) (record { same_pool = refl; buffers = refl; base = refl; size = refl }) refl refl h);
    }
