use Rattle.std.proofs.Common.{◌∙◌, ◌<◌, ◌∷◌, [], length, slice_index_or, sym, ap, subst}
use Rattle.std.proofs.lemmas.Option.{slice_get-get_or}
use Rattle.client_programs.specs.Net.Programs.{frames_out}
use Rattle.client_programs.proofs.NetLemmas.Sending.{fits_filled, rest_less, outbox_filled, taken_list, still_same, not_some}
use Rattle.client_programs.proofs.net.outbox.Outbox.load_next.Goals as goal

pub returns-in-Some-clause-fits : goal.returns-in-Some-clause-fits
returns-in-Some-clause-fits c =
    let old = c.args.self.now in
    let frames = frames_out c.args.program.now c.args.came.now in
    let left : old.next < length frames = subst (λ n. old.next < n) c.count.ensures c.if-count-self.false in
    let f = slice_index_or frames old.next [] in
    fits_filled old c.refill.new.self c.in-Some.entry c.fill.result f frames c.refill.ensures.stock c.requires.fits.stock.kind (sym c.take.ensures.value ∙ c.in-Some.is) (c.fill.ensures f (slice_get-get_or frames old.next [] left)) left

pub returns-in-Some-clause-kept : goal.returns-in-Some-clause-kept
returns-in-Some-clause-kept c = λ back put h.
    let old = c.args.self.now in
    let frames = frames_out c.args.program.now c.args.came.now in
    let left : old.next < length frames = subst (λ n. old.next < n) c.count.ensures c.if-count-self.false in
    let f = slice_index_or frames old.next [] in
    let next = sym c.take.ensures.value ∙ c.in-Some.is in
    outbox_filled old c.refill.new.self c.in-Some.entry c.fill.result f frames back put (not_some old.load c.is_some.result c.is_some.ensures c.if-is_some.false)
    (taken_list old.stock c.take.new.self c.in-Some.entry next c.take.ensures.after ∙ ap (λ l. c.in-Some.entry ∷ l) (sym c.refill.ensures.list))
    (still_same old.stock c.refill.new.self c.take.new.self c.refill.ensures.same)
    (slice_get-get_or frames old.next [] left) (c.fill.ensures f (slice_get-get_or frames old.next [] left)) left h

pub returns-in-Some-clause-few : goal.returns-in-Some-clause-few
returns-in-Some-clause-few c = rest_less (record c.args.self.now.stock { next = c.take.new.self }) c.refill.new.self c.take.ensures.after c.refill.ensures.list
