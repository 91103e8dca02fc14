use Rattle.std.proofs.Common.{Some, None, Option, [], ◌∷◌, ◌++◌, inl, inr, refl, sym, ap, ◌∙◌, subst, arith}
use Rattle.std.specs.Option.{option_to_list}
use Rattle.std.proofs.lemmas.Bool.{and_parts}
use Rattle.wire_core.specs.Deeds.{Cargo}
use Rattle.buffer_kit.proofs.ManyClients.{some_eq}
use Rattle.blk_virt.specs.declared.opening.Block.{Block}
use Rattle.blk_virt.specs.declared.opening.Opening.{Opening}
use Rattle.blk_virt.specs.Requests.{brings}
use Rattle.buffer_kit.specs.Conserving.{weighed}
use Rattle.blk_virt.specs.Openings.{has_sector, is_open, block_of, block_cargo}
use Rattle.blk_virt.specs.Desks.{is_due, desk_cargo}
use Rattle.blk_virt.specs.Works.{IsWork, WorkStands, work_cargo}
use Rattle.blk_virt.proofs.Answering.{moved_desk, moved_held, same_holders}
use Rattle.blk_virt.proofs.Working.{first_came, later_came, strays, work_parts, first_parts}
use Rattle.blk_virt.proofs.work.Work.receive.Goals as goal

pub returns-then-is_first-clause-stands : goal.returns-then-is_first-clause-stands
returns-then-is_first-clause-stands c = λ start back sent came gave h.
    inl (refl, subst (λ (o : Opening). WorkStands (record c.args.self.now { opening = o }) start (back ++ c.args.entry ∷ []) came sent gave) (sym c.open.ensures) (first_came c.args.self.now start back sent came gave h c.args.entry (sym c.is_first.ensures ∙ c.if-is_first.true)))

pub returns-then-is_first-clause-held : goal.returns-then-is_first-clause-held
returns-then-is_first-clause-held c = λ f.
    let o = c.args.self.now.opening in
    let p = first_parts o.first o.block (brings (Some o.own) c.args.entry.1) (has_sector c.args.entry.1) (sym c.is_first.ensures ∙ c.if-is_first.true) in
    let was = work_parts f o.first o.block (desk_cargo c.args.self.now.desk) c.args.self.now.stray in
    let now = work_parts f o.first (Some (block_of o.disk_sectors c.args.entry)) (desk_cargo c.args.self.now.desk) c.args.self.now.stray in
    let new = ap (λ (v : Opening). weighed f (work_cargo (record c.args.self.now { opening = v }))) c.open.ensures in
    let none = ap (λ (b : Option Block). weighed f (block_cargo b)) p.1 in
    omega (arith, was, now, new, none)

pub returns-then-is_due-clause-work : goal.returns-then-is_due-clause-work
returns-then-is_due-clause-work c = let t = c.take_back.ensures.moved in record {
  desk = moved_desk c.args.self.now.desk c.take_back.new.self c.requires.work.desk t.0 None [] [] (c.args.entry ∷ []) [] (t.2 None);
  told = c.requires.work.told;
  first = c.requires.work.first;
}

pub returns-then-is_due-clause-same : goal.returns-then-is_due-clause-same
returns-then-is_due-clause-same c = let t = c.take_back.ensures.moved in record {
  clients = same_holders c.args.self.now.desk c.take_back.new.self c.requires.work.desk t.0 None [] [] (c.args.entry ∷ []) [] (t.2 None);
  own = refl;
  base = refl;
  sectors = refl;
}

pub returns-then-is_due-clause-stands : goal.returns-then-is_due-clause-stands
returns-then-is_due-clause-stands c = λ start back sent came gave h.
    let t = c.take_back.ensures.moved in
    let p = and_parts (is_open c.args.self.now.opening) (is_due c.args.self.now.desk c.args.entry) (sym c.is_due.ensures ∙ c.if-is_due.true) in
    inl (refl, later_came c.args.self.now start back sent came gave h c.requires.work c.args.entry c.take_back.new.self t.0 p.0 t.1 t.2)

pub returns-then-is_due-clause-held : goal.returns-then-is_due-clause-held
returns-then-is_due-clause-held c = λ f.
    let t = c.take_back.ensures.moved in
    let o = c.args.self.now.opening in
    let was = work_parts f o.first o.block (desk_cargo c.args.self.now.desk) c.args.self.now.stray in
    let now = work_parts f o.first o.block (desk_cargo c.take_back.new.self) c.args.self.now.stray in
    let m = moved_held c.args.self.now.desk c.take_back.new.self c.requires.work.desk t.0 None [] [] (c.args.entry ∷ []) [] (t.2 None) f in
    omega (arith, was, now, m)

pub returns-else-is_due-clause-stands : goal.returns-else-is_due-clause-stands
returns-else-is_due-clause-stands c = λ start back sent came gave h.
    inr (strays c.args.self.now start back sent came gave h c.requires.work c.args.entry (sym c.is_first.ensures ∙ c.if-is_first.false) (sym c.is_due.ensures ∙ c.if-is_due.false), refl)

pub returns-else-is_due-clause-held : goal.returns-else-is_due-clause-held
returns-else-is_due-clause-held c = λ f.
    let w = c.args.self.now in
    let was = work_parts f w.opening.first w.opening.block (desk_cargo w.desk) w.stray in
    let now = work_parts f w.opening.first w.opening.block (desk_cargo w.desk) (Some c.args.entry) in
    let free = ap (λ (x : Option Cargo). weighed f (option_to_list x)) c.requires.free in
    omega (arith, was, now, free)

pub returns-then-is_first-clause-work : goal.returns-then-is_first-clause-work
returns-then-is_first-clause-work c = subst (λ (o : Opening). IsWork (record c.args.self.now { opening = o })) (sym c.open.ensures) (record {
  desk = c.requires.work.desk;
  told = λ b e. (c.args.entry, sym (some_eq e));
  first = c.requires.work.first;
})
