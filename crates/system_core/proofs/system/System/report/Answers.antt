use Rattle.std.proofs.Common.{◌≡◌, ℕ, List, Option, ap, ap₂, sym, ◌∙◌, arith, length, map, nat_eq, slice_get}
use Rattle.std.specs.Option.{option_map}
use Rattle.std.specs.Vec.{vec_len}
use Rattle.wire_core.specs.declared.names.PoolRow.{PoolRow}
use Rattle.wire_core.specs.Queues.{end_at}
use Rattle.expect_core.specs.declared.report.Report.{Report}
use Rattle.actor_set.specs.declared.actor.Actor.{Actor}
use Rattle.actor_set.proofs.LawsLemmas.Starts.{fits_whole}
use Rattle.cast_law.specs.PoolLines.PoolLines.{counted_lines}
use Rattle.cast_law.specs.Pools.Holders.{holders_of}
use Rattle.system_core.specs.Inside.{shown_of}
use Rattle.system_core.specs.Plays.{runnable_now}
use Rattle.system_core.specs.Reports.{report_of}
use Rattle.system_core.specs.States.{bad_in, frames_from, record_from, replies_from}
use Rattle.system_core.proofs.Lining.{few_pools, no_more}
use Rattle.system_core.proofs.system.System.report.Goals as goal

pub lines-requires-clause-whole : goal.lines-requires-clause-whole
lines-requires-clause-whole c k x at = fits_whole (end_at c.self.inside.wires.world) x (c.self.invariant.holds.fits k x (ap (λ xs. slice_get xs k) (sym c.deref-7.ensures.value) ∙ at))

pub lines-requires-clause-few : goal.lines-requires-clause-few
lines-requires-clause-few c = rw c.deref-6.ensures.value (few_pools c.self.inside c.self.invariant)

pub lines-requires-clause-all : goal.lines-requires-clause-all
lines-requires-clause-all c = rw (c.deref-6.ensures.value, c.deref-7.ensures.value) (no_more c.self.inside c.self.invariant)

-- each of its parts is what the system shows
pub returns : goal.returns
returns c =
    let told : Report = record { quiet = nat_eq c.len.result 0; steps = c.len-2.result; wire = c.in_ok-wire.field-0; net = c.in_ok-frame_records.field-0; line = c.in_ok-line.field-0; serial = c.in_ok-records.field-0; blk = c.in_ok-replies.field-0; pools = c.in_ok-lines.field-0; bad = c.bad.result } in
    let count : c.len.result ≡ length (runnable_now (shown_of c.self.inside)) = c.len.ensures ∙ ap length c.self.invariant.running in
    let steps : c.len-2.result ≡ length c.self.inside.journal.items = (let e = c.len-2.ensures in let v : vec_len c.self.inside.journal ≡ length c.self.inside.journal.items = c.self.inside.journal.ok.0 in omega (arith, e, v)) in
    let wire = c.in_ok-wire.ensures ∙ ap₂ (λ (xs : List Actor) (d : Option ℕ). option_map (frames_from xs) d) c.deref.ensures.value c.device.ensures in
    let net = c.in_ok-frame_records.ensures ∙ ap₂ (λ (xs : List Actor) (ks : List ℕ). map (frames_from xs) ks) c.deref-2.ensures.value c.clients.ensures in
    let line = c.in_ok-line.ensures ∙ ap₂ (λ (xs : List Actor) (d : Option ℕ). option_map (record_from xs) d) c.deref-3.ensures.value c.device-2.ensures in
    let serial = c.in_ok-records.ensures ∙ ap₂ (λ (xs : List Actor) (ks : List ℕ). map (record_from xs) ks) c.deref-4.ensures.value c.clients-2.ensures in
    let blk = c.in_ok-replies.ensures ∙ ap₂ (λ (xs : List Actor) (ks : List ℕ). map (replies_from xs) ks) c.deref-5.ensures.value c.clients-3.ensures in
    let pools = c.in_ok-lines.ensures ∙ ap₂ (λ (ps : List PoolRow) (xs : List Actor). counted_lines c.self.inside.wires.world (holders_of xs) 0 ps) c.deref-6.ensures.value c.deref-7.ensures.value in
    let bad = c.bad.ensures ∙ ap bad_in c.deref-8.ensures.value in
    let same : told ≡ report_of (shown_of c.self.inside) = λ i. record { quiet = nat_eq (count i) 0; steps = steps i; wire = wire i; net = net i; line = line i; serial = serial i; blk = blk i; pools = pools i; bad = bad i } in
    same ∙ ap report_of c.self.view_is
