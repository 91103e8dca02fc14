use Rattle.std.proofs.Common.{ap, ◌∙◌, ◌++◌, ◌≡◌, ℕ, string_bytes}
use Rattle.workload.specs.Draws.{moved, drawn}
use Rattle.workload.specs.Lines.{rx_line, send_line, in_line, say_line, blk_lines}
use Rattle.workload.specs.Generated.{numbered, generated_text}
use Rattle.workload.proofs.Drawing.{begin, behind, then_six}
use Rattle.workload.proofs.generated.generate.Goals as goal

pub returns : goal.returns
unfolding generated_text
returns c =
    let n = c.args.number in
    let received = c.in_ok-add_received.ensures in
    let sent = c.in_ok-add_sent.ensures in
    let input = c.in_ok-add_input.ensures in
    let said = c.in_ok-add_said.ensures in
    let a : c.add_received.new.draws.x ≡ moved n 256 = received.draws in
    let b : c.add_sent.new.draws.x ≡ moved n 288 = sent.draws ∙ behind n 256 32 _ a in
    let m : moved c.add_sent.new.draws.x 1024 ≡ moved n 1312 = behind n 288 1024 _ b in
    let d : c.add_input.new.draws.x ≡ moved n 2336 = input.draws ∙ behind n 1312 1024 _ m in
    let e : c.add_said.new.draws.x ≡ moved n 2848 = said.draws ∙ behind n 2336 512 _ d in
    then_six _ _ _ _ _ _ _ _ _ _ _ _ _ c.new-text.ensures.bytes
    (received.text ∙ ap (λ (x : ℕ). string_bytes c.new-text.result ++ numbered rx_line 0 (drawn x 256)) (begin n))
    (sent.text ∙ ap (λ (x : ℕ). string_bytes c.add_received.new.to ++ numbered send_line 0 (drawn x 32)) a)
    (input.text
    ∙ ap (λ (x : ℕ). string_bytes c.add_sent.new.to ++ in_line (drawn x 1024) (drawn (moved c.add_sent.new.draws.x 1024) 1024)) b
    ∙ ap (λ (x : ℕ). string_bytes c.add_sent.new.to ++ in_line (drawn (moved n 288) 1024) (drawn x 1024)) m)
    (said.text ∙ ap (λ (x : ℕ). string_bytes c.add_input.new.to ++ say_line (drawn x 512)) d)
    c.in_ok-add_disk.ensures
    (c.in_ok-add_asked.ensures ∙ ap (λ (x : ℕ). string_bytes c.add_disk.new.to ++ numbered blk_lines 0 (drawn x 32)) e)
