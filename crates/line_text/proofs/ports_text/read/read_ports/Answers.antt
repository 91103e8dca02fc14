use Rattle.std.proofs.Common.{◌≡◌, ◌+◌, length, sym, ◌∙◌}
use Rattle.std.proofs.lemmas.Result.{err_from_is_err_and}
use Rattle.std.proofs.lemmas.Bool.{eqb-true}
use Rattle.std.proofs.lemmas.List.{nil_from_length}
use Rattle.line_text.proofs.PortsText.SoFar.{so_far_none, so_far_lists, so_far_more, so_far_bad, so_far_missing, so_far_good, so_far_ports}
use Rattle.line_text.proofs.ports_text.read.read_ports.Goals as goal

pub loop-rest-init : goal.loop-rest-init
loop-rest-init c = so_far_none c.args.bytes.now c.new-reader.result c.new-reader.ensures

pub read_line-requires : goal.read_line-requires
read_line-requires c = so_far_lists c.args.bytes.now c.loop-rest.rest.now c.loop-rest.number c.loop-rest.reader c.loop-rest.invariant

pub returns-in_err-read_line-clause-bad : goal.returns-in_err-read_line-clause-bad
returns-in_err-read_line-clause-bad c =
    let p = err_from_is_err_and c.from_residual.result c.from_residual.ensures.1 in
    λ number is. absurd (let told = p.2 in cc)

pub returns-then-not-branch-clause-bad : goal.returns-then-not-branch-clause-bad
returns-then-not-branch-clause-bad c =
    let bad = rw c.if-not-branch.true at c.in_ok-read_line.ensures in
    λ number is.
    let same : c.loop-rest.number + 1 ≡ number = cc in
    rw (← same) (so_far_bad c.args.bytes.now c.loop-rest.rest.now c.next_line.result.0.now c.next_line.result.1.now c.loop-rest.number c.loop-rest.reader c.read_line.new.self c.loop-rest.invariant c.next_line.ensures.lines bad)

pub loop-rest-preserved : goal.loop-rest-preserved
loop-rest-preserved c =
    let taken = rw c.if-not-branch.false at c.in_ok-read_line.ensures in
    so_far_more c.args.bytes.now c.loop-rest.rest.now c.next_line.result.0.now c.next_line.result.1.now c.loop-rest.number c.loop-rest.reader c.read_line.new.self c.loop-rest.invariant c.next_line.ensures.lines c.next_line.ensures.shorter taken

pub returns-then-lacks_ports-clause-bad : goal.returns-then-lacks_ports-clause-bad
returns-then-lacks_ports-clause-bad c =
    let empty = nil_from_length c.loop-rest.rest.now (eqb-true (length c.loop-rest.rest.now) 0 (sym c.is_empty.ensures ∙ c.loop-rest-test.false)) in
    let all = rw empty at c.loop-rest.invariant in
    λ number is.
    let same : c.loop-rest.number + 1 ≡ number = cc in
    rw (← same) (so_far_missing c.args.bytes.now c.loop-rest.number c.loop-rest.reader all (sym c.lacks_ports.ensures ∙ c.if-lacks_ports.true))

pub returns-clause-good : goal.returns-clause-good
returns-clause-good c =
    let empty = nil_from_length c.loop-rest.rest.now (eqb-true (length c.loop-rest.rest.now) 0 (sym c.is_empty.ensures ∙ c.loop-rest-test.false)) in
    let all = rw empty at c.loop-rest.invariant in
    so_far_good c.args.bytes.now c.loop-rest.number c.loop-rest.reader all (sym c.lacks_ports.ensures ∙ c.if-lacks_ports.false)

pub returns-clause-ports : goal.returns-clause-ports
returns-clause-ports c =
    let empty = nil_from_length c.loop-rest.rest.now (eqb-true (length c.loop-rest.rest.now) 0 (sym c.is_empty.ensures ∙ c.loop-rest-test.false)) in
    let all = rw empty at c.loop-rest.invariant in
    so_far_ports c.args.bytes.now c.loop-rest.number c.loop-rest.reader all
