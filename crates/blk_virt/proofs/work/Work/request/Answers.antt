use Rattle.std.proofs.Common.{◌≡◌, ◌&&◌, [], ◌∷◌, slice_get, is_none, sym, ap, ◌∙◌, refl, arith}
use Rattle.std.proofs.lemmas.Bool.{and_parts}
use Rattle.std.proofs.lemmas.Option.{slice_get_read, slice_get_within}
use Rattle.blk_mbr.specs.Partitions.{part_of}
use Rattle.buffer_kit.proofs.ManyClients.{some_eq, so_there}
use Rattle.blk_virt.specs.declared.client.Client.{Client}
use Rattle.blk_virt.specs.Clients.{is_away, is_idle}
use Rattle.blk_virt.specs.Openings.{sector_of, is_open}
use Rattle.blk_virt.specs.Desks.{needs_at, desk_cargo}
use Rattle.blk_virt.proofs.Answering.{moved_desk, moved_held, same_holders}
use Rattle.blk_virt.proofs.Working.{request_came, work_parts, idle_not_away}
use Rattle.blk_virt.proofs.work.Work.request.Goals as goal

pub returns-clause-work : goal.returns-clause-work
returns-clause-work c = record {
  desk = moved_desk c.args.self.now.desk c.receive.new.self c.requires.work.desk c.args.place c.part-part.result (c.args.entry ∷ []) [] [] [] c.receive.ensures.moved;
  told = c.requires.work.told;
  first = c.requires.work.first;
}

pub returns-clause-same : goal.returns-clause-same
returns-clause-same c = record {
  clients = same_holders c.args.self.now.desk c.receive.new.self c.requires.work.desk c.args.place c.part-part.result (c.args.entry ∷ []) [] [] [] c.receive.ensures.moved;
  own = refl;
  base = refl;
  sectors = refl;
}

pub returns-clause-stands : goal.returns-clause-stands
returns-clause-stands c = λ start back sent came gave h.
    let p = and_parts (is_none c.args.self.now.stray) (is_open c.args.self.now.opening && needs_at c.args.self.now.desk c.args.place) c.requires.needed in
    let q = and_parts (is_open c.args.self.now.opening) (needs_at c.args.self.now.desk c.args.place) p.1 in
    let l = so_there is_idle (slice_get c.args.self.now.desk.clients.items c.args.place) q.1 in
    let m = c.receive.ensures.moved in
    let was : m.was ≡ l.0 = some_eq (sym m.there ∙ l.1) in
    let read = slice_get_read c.args.self.now.desk.clients.items _ c.args.place c.index.result.now refl (slice_get_within c.args.self.now.desk.clients.items c.args.place l.0 l.1) c.index.ensures in
    request_came c.args.self.now start back sent came gave h c.requires.work c.args.entry c.receive.new.self c.args.place c.part-part.result q.0 m (ap is_away was ∙ idle_not_away l.0 l.2) (ap (λ v. v.shown) c.receive.ensures.line)
    (λ y is. c.part-part.ensures.part y is ∙ ap (λ (v : Client). part_of (sector_of y.1) c.args.self.now.opening.disk_sectors v.holder.partition) (some_eq (sym read ∙ m.there)))

pub returns-clause-held : goal.returns-clause-held
returns-clause-held c = λ f.
    let was = work_parts f c.args.self.now.opening.first c.args.self.now.opening.block (desk_cargo c.args.self.now.desk) c.args.self.now.stray in
    let now = work_parts f c.args.self.now.opening.first c.args.self.now.opening.block (desk_cargo c.receive.new.self) c.args.self.now.stray in
    let m = moved_held c.args.self.now.desk c.receive.new.self c.requires.work.desk c.args.place c.part-part.result (c.args.entry ∷ []) [] [] [] c.receive.ensures.moved f in
    omega (arith, was, now, m)
