use Rattle.std.proofs.Common.{length, ap, ◌∙◌}
use Rattle.buffer_kit.specs.Virtualising.{blk_kinds}
use Rattle.blk_virt.proofs.Stepping.{moved}
use Rattle.blk_virt.proofs.virtualiser.BlkVirt.forget.Goals as goal

pub returns-clause-fits : goal.returns-clause-fits
returns-clause-fits c = λ ends h. record {
  ends_fit = c.forget.ensures.fits blk_kinds ends h.ends_fit;
  work = h.work;
  from_each = ap length c.forget.ensures.same.from_clients ∙ h.from_each;
  to_each = ap length c.forget.ensures.same.to_clients ∙ h.to_each;
}

pub returns-clause-lists : goal.returns-clause-lists
returns-clause-lists c = λ passed h. moved c.args.self.now.ends c.forget.new.self c.forget.ensures.same c.args.self.now.work passed h
