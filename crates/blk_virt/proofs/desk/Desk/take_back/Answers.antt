use Rattle.std.proofs.Common.{◌<◌, inr, length, slice_get, slice_set, refl, sym, ap, ◌∙◌, subst}
use Rattle.std.proofs.lemmas.Option.{slice_get_read}
use Rattle.buffer_kit.proofs.ManyClients.{some_eq}
use Rattle.blk_virt.specs.declared.desk.Desk.{Desk}
use Rattle.blk_virt.specs.Clients.{is_away}
use Rattle.blk_virt.proofs.Desking.{first_is}
use Rattle.blk_virt.proofs.desk.Desk.take_back.Goals as goal

pub take_back-requires-clause-away : goal.take_back-requires-clause-away
take_back-requires-clause-away c =
    let f = first_is c.args.self.now c.requires.desk c.call-place.result c.call-place.new.self.line.shown c.call-place.ensures.line in
    let at = ap (λ (w : Desk). slice_get w.clients.items c.call-place.result) (sym c.call-place.ensures.others) ∙ slice_get_read c.call-place.new.self.clients.items _ c.call-place.result c.index_mut-client.result.now refl (subst (λ (w : Desk). c.call-place.result < length w.clients.items) (sym c.call-place.ensures.others) c.call-place.ensures.there) c.index_mut-client.ensures.value in
    ap is_away (some_eq (sym at ∙ f.1)) ∙ f.2

pub returns : goal.returns
returns c =
    let f = first_is c.args.self.now c.requires.desk c.call-place.result c.call-place.new.self.line.shown c.call-place.ensures.line in
    let at = ap (λ (w : Desk). slice_get w.clients.items c.call-place.result) (sym c.call-place.ensures.others) ∙ slice_get_read c.call-place.new.self.clients.items _ c.call-place.result c.index_mut-client.result.now refl (subst (λ (w : Desk). c.call-place.result < length w.clients.items) (sym c.call-place.ensures.others) c.call-place.ensures.there) c.index_mut-client.ensures.value in
    record {
      moved = (
        c.call-place.result,
        c.call-place.ensures.line,
        λ part. record {
          was = c.index_mut-client.result.now;
          now = c.take_back.new.self;
          there = at;
          clients = ap (λ (w : Desk). slice_set w.clients.items c.call-place.result c.take_back.new.self) c.call-place.ensures.others;
          moved = c.take_back.ensures.moved part;
          line = inr (inr (c.call-place.ensures.line, ap is_away (some_eq (sym at ∙ f.1)) ∙ f.2, c.take_back.ensures.back));
          room = c.call-place.ensures.room;
        },
      );
    }
