use Rattle.std.proofs.Common.{◌^◌, ◌∙◌, arith}
use Rattle.sdf_model.proofs.TableCounts.{text-fits}
use Rattle.sdf_model.proofs.Judging.{kept-text, judged-text, no-document, ok-along, refused-along}
use Rattle.sdf_model.proofs.First.{keeps-first, refused-first, plan-first}
use Rattle.sdf_model.proofs.read.read_description.Goals as goal

pub returns-in-Ok-clause-accepted : goal.returns-in-Ok-clause-accepted
returns-in-Ok-clause-accepted c =
    ok-along _ _ (λ plan h. (_, c.in-Ok.ensures.ok, kept-text c.args.bytes.now _ c.in-Ok.ensures.ok h.0, h.1)) c.read_root.result c.read_root.ensures.accepted

pub returns-in-Ok-clause-refused : goal.returns-in-Ok-clause-refused
returns-in-Ok-clause-refused c =
    refused-along _ _ (judged-text c.args.bytes.now _ c.in-Ok.ensures.ok) c.read_root.result c.read_root.ensures.refused

pub returns-in-None-clause-refused : goal.returns-in-None-clause-refused
returns-in-None-clause-refused c =
    no-document c.args.bytes.now (λ root doc. cc (c.in-Err.ensures.refused c.in-None.ensures doc.0, doc.1))

pub read_root-requires : goal.read_root-requires
read_root-requires c = text-fits c.args.bytes.now _ (2 ^ 32) c.in-Ok.ensures.ok.1 (omega (arith, c.requires))

pub returns-in-Ok-clause-accepted_first : goal.returns-in-Ok-clause-accepted_first
returns-in-Ok-clause-accepted_first c = λ first.
    let one = first _ c.in-Ok.ensures.ok.1 in
    ok-along _ _ (λ plan h. (_, c.in-Ok.ensures.ok, keeps-first c.args.bytes.now first (kept-text c.args.bytes.now _ c.in-Ok.ensures.ok h.0), h.1 ∙ plan-first _ one h.0)) c.read_root.result c.read_root.ensures.accepted

pub returns-in-Ok-clause-refused_first : goal.returns-in-Ok-clause-refused_first
returns-in-Ok-clause-refused_first c = λ first.
    refused-along _ _ (λ r h. refused-first c.args.bytes.now first r (judged-text c.args.bytes.now _ c.in-Ok.ensures.ok r h)) c.read_root.result c.read_root.ensures.refused

pub returns-in-None-clause-refused_first : goal.returns-in-None-clause-refused_first
returns-in-None-clause-refused_first c = λ first.
    refused-first c.args.bytes.now first _ (no-document c.args.bytes.now (λ root doc. cc (c.in-Err.ensures.refused c.in-None.ensures doc.0, doc.1)))
