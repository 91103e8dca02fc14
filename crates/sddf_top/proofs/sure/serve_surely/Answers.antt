use Rattle.std.proofs.Common.{◌≡◌, inl, inr, arith}
use Rattle.decision_core.specs.declared.status.Status.TheVariants as Ended
use Rattle.sddf_top.proofs.ServeLemmas.{starved}
use Rattle.sddf_top.proofs.sure.serve_surely.Goals as goal

pub returns : goal.returns
returns c =
    let read : c.serve_alone.result ≡ Ended.ReadFault → ⊥ = λ e. let f : 0 ≡ 1 = (c.serve_alone.ensures.read_fault e).counted in omega (arith, f) in
    let write : c.serve_alone.result ≡ Ended.WriteFault → ⊥ = λ e. let f : 0 ≡ 1 = (c.serve_alone.ensures.write_fault e).counted in omega (arith, f) in
    record {
      read = read;
      write = write;
      complete = λ decision h e. elim (c.serve_alone.ensures.complete decision h e) [
        | inl ok ↦ inl ok
        | inr f ↦ inr (starved c.serve_alone.result read write f)
      ];
    }
