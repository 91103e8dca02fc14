use Rattle.std.proofs.Common.{◌≡◌, ◌==◌, ◌++◌, Option, None, [], ◌∷◌, map, take, reverse, slice_index_or, is_none, false, sym, ap, ◌∙◌, subst, refl, append_assoc}
use Rattle.std.specs.Option.{option_map, option_to_list}
use Rattle.cargo_core.specs.Loans.{page_at}
use Rattle.wire_core.specs.Deeds.{put_of, deed_of, Cargo}
use Rattle.wire_core.specs.Lists.{if_there, with_deed}
use Rattle.buffer_kit.specs.Pools.{given_entry}
use Rattle.buffer_kit.specs.Stocks.{SameStock, stock_list}
use Rattle.buffer_kit.specs.Virtualising.{from_queues, to_queues}
use Rattle.net_virt_rx.specs.declared.sharer.Sharer.{Sharer}
use Rattle.net_virt_rx.specs.Sharing.{IsSharer, lease_entry}
use Rattle.net_virt_rx.proofs.Steps.{still, moved, none_if, puts_none, is_nothing, is_something, load_stays, stray_gone, given_work, hand_less, buffer_out}
use Rattle.net_virt_rx.proofs.NetVirtRx.step_output.Goals as goal

pub returns-then-is_none-clause-stepped : goal.returns-then-is_none-clause-stepped
returns-then-is_none-clause-stepped g c = record {
  body = option_map (λ x. x.1) (put_of c.step_output.result None);
  happened = c.step_output.ensures.did;
  kept = λ passed h. still c.args.self.now.ends c.step_output.new.self c.step_output.ensures.same c.args.self.now.work c.args.self.now.work refl passed _ _ _ c.step_output.ensures.takes (λ n. c.step_output.ensures.puts n ∙ puts_none c.step_output.result c.args.self.now.ends.output.queue.0 n) h;
}

same : (g : _) (c : goal.After-refill g) → SameStock c.args.self.now.work.stock c.refill.new.self
same g c = record { same_pool = c.refill.ensures.same.same_pool; buffers = c.refill.ensures.same.buffers; base = c.refill.ensures.same.base; size = c.refill.ensures.same.size }

list_is : (g : _) (c : goal.After-refill g) → stock_list c.args.self.now.work.stock ≡ option_to_list (put_of c.step_output-event.result c.args.self.now.work.stock.next) ++ stock_list c.refill.new.self
list_is g c =
    let rest = map (given_entry c.args.self.now.work.stock.base c.args.self.now.work.stock.size) (reverse c.args.self.now.work.stock.rest.items) in
    ap (λ l. l ++ rest) c.step_output-event.ensures.load ∙ (append_assoc (option_to_list (put_of c.step_output-event.result c.args.self.now.work.stock.next)) (option_to_list c.step_output-event.new.load) rest ∙ ap (λ l. option_to_list (put_of c.step_output-event.result c.args.self.now.work.stock.next) ++ l) (sym c.refill.ensures.list))

loaded : (g : _) (c : goal.After-refill g) → is_none c.args.self.now.work.stock.next ≡ false
loaded g c = is_something c.args.self.now.work.stock.next c.is_none.result c.is_none.ensures c.if-is_none.false

work : (g : _) (c : goal.After-refill g) → IsSharer (record c.args.self.now.work { stock = c.refill.new.self })
work g c = given_work c.args.self.now.work c.requires.work c.refill.new.self c.refill.ensures.stock (same g c) (c.refill.ensures.list ∙ ap (λ (n : Option Cargo). stock_list (record c.args.self.now.work.stock { next = n })) (is_nothing c.step_output-event.new.load c.is_none-2.result c.is_none-2.ensures c.if-is_none-2.true)) (loaded g c)

pub returns-then-is_none-2-clause-fits : goal.returns-then-is_none-2-clause-fits
returns-then-is_none-2-clause-fits g c = record {
  ends_fit = c.step_output-event.ensures.fits;
  work = work g c;
  from_each = rw c.step_output-event.ensures.same.from_clients c.requires.from_each;
  to_each = rw c.step_output-event.ensures.same.to_clients c.requires.to_each;
}

pub returns-then-is_none-2-clause-stepped : goal.returns-then-is_none-2-clause-stepped
returns-then-is_none-2-clause-stepped g c =
    let w = c.args.self.now.work in
    let w' : Sharer = record c.args.self.now.work { stock = c.refill.new.self } in
    record {
      body = option_map (λ x. x.1) (put_of c.step_output-event.result c.args.self.now.work.stock.next);
      happened = c.step_output-event.ensures.did;
      kept = λ passed h. moved c.args.self.now.ends c.step_output-event.new.self c.step_output-event.ensures.same w' (with_deed passed (deed_of c.step_output-event.result (put_of c.step_output-event.result c.args.self.now.work.stock.next)))
          (buffer_out c.args.self.now.ends.input.queue.0 c.args.self.now.ends.output.queue.0 (from_queues c.args.self.now.ends) (to_queues c.args.self.now.ends) w w' (record { stock = same g c; macs = refl }) (work g c) passed _ _ _ h (option_to_list (put_of c.step_output-event.result c.args.self.now.work.stock.next)) c.requires.to_each c.step_output-event.ensures.takes
          (stray_gone w.stray w.stock.next c.requires.work.strayed (loaded g c)) refl refl (λ pool. hand_less pool w w' (option_to_list (put_of c.step_output-event.result c.args.self.now.work.stock.next)) (list_is g c) refl) (λ b j. refl)
          (λ j. ap (λ n. if_there (slice_index_or w.owed j false) (lease_entry n w.shared (take w.len (page_at w.lent w.shared).bytes) ∷ [])) c.refill.ensures.same.size) (list_is g c) c.requires.ends_fit.outputs_apart c.step_output-event.ensures.puts);
    }

pub returns-else-is_none-2-clause-fits : goal.returns-else-is_none-2-clause-fits
returns-else-is_none-2-clause-fits g c =
    let some = is_something c.step_output-event.new.load c.is_none-2.result c.is_none-2.ensures c.if-is_none-2.false in
    record {
      ends_fit = c.step_output-event.ensures.fits;
      work = subst (λ (n : Option Cargo). IsSharer (record c.args.self.now.work { stock = record c.args.self.now.work.stock { next = n } })) (sym (load_stays c.args.self.now.work.stock.next (put_of c.step_output-event.result c.args.self.now.work.stock.next) c.step_output-event.new.load c.step_output-event.ensures.load some).0) c.requires.work;
      from_each = rw c.step_output-event.ensures.same.from_clients c.requires.from_each;
      to_each = rw c.step_output-event.ensures.same.to_clients c.requires.to_each;
    }

pub returns-else-is_none-2-clause-stepped : goal.returns-else-is_none-2-clause-stepped
returns-else-is_none-2-clause-stepped g c =
    let some = is_something c.step_output-event.new.load c.is_none-2.result c.is_none-2.ensures c.if-is_none-2.false in
    let s = load_stays c.args.self.now.work.stock.next (put_of c.step_output-event.result c.args.self.now.work.stock.next) c.step_output-event.new.load c.step_output-event.ensures.load some in
    record {
      body = option_map (λ x. x.1) (put_of c.step_output-event.result c.args.self.now.work.stock.next);
      happened = c.step_output-event.ensures.did;
      kept = λ passed h. still c.args.self.now.ends c.step_output-event.new.self c.step_output-event.ensures.same c.args.self.now.work (record c.args.self.now.work { stock = record c.args.self.now.work.stock { next = c.step_output-event.new.load } })
          (ap (λ (n : Option Cargo). record c.args.self.now.work { stock = record c.args.self.now.work.stock { next = n } }) s.0) passed _ _ _ c.step_output-event.ensures.takes (λ n. c.step_output-event.ensures.puts n ∙ (ap (λ l. if_there (c.args.self.now.ends.output.queue.0 == n) l) s.1 ∙ none_if (c.args.self.now.ends.output.queue.0 == n))) h;
    }
