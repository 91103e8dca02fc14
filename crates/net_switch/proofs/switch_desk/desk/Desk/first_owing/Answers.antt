use Rattle.std.proofs.Common.{ℕ, Bool, take, slice_index_or, sym, ap, ◌∙◌, add-one}
use Rattle.std.specs.List.{find}
use Rattle.std.proofs.lemmas.Option.{slice_get-get_or}
use Rattle.net_switch.specs.SwitchDesk.Desks.{owes}
use Rattle.net_switch.proofs.SwitchDesk.Owing.{find_now, find_later}
use Rattle.net_switch.proofs.switch_desk.desk.Desk.first_owing.Goals as goal

pub returns-then-owes : goal.returns-then-owes
returns-then-owes c =
    let xs = c.as_slice-senders.result.now in
    let k = c.loop-sender.sender-index in
    let p : ℕ → Bool = λ sender. owes c.args.self.now sender c.args.port in
    sym (ap (find p) (sym c.as_slice-senders.ensures)
    ∙ find_now p xs k (slice_index_or xs k 0) (slice_get-get_or xs k 0 c.loop-sender-test.true) (sym c.owes.ensures ∙ c.if-owes.true) c.loop-sender.invariant)

pub loop-sender-preserved : goal.loop-sender-preserved
loop-sender-preserved c =
    let xs = c.as_slice-senders.result.now in
    let k = c.loop-sender.sender-index in
    let p : ℕ → Bool = λ sender. owes c.args.self.now sender c.args.port in
    ap (λ n. find p (take n xs)) (add-one k)
    ∙ find_later p xs k (slice_index_or xs k 0) (slice_get-get_or xs k 0 c.loop-sender-test.true) (sym c.owes.ensures ∙ c.if-owes.false) c.loop-sender.invariant
