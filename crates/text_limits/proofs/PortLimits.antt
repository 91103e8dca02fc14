use Rattle.std.proofs.Common.{◌≡◌, ℕ, zero, suc, ◌+◌, ◌≤◌, Bool, true, false, cond, leb, ltb, eqb, ◌&&◌, ◌||◌, List, [], ◌∷◌, ◌++◌, length, sum_by, count_by, get_or, Option, Some, None, refl, ap, sym, ◌∙◌, arith, add-one, append-nil}
use Rattle.std.specs.List.{flat_map}
use Rattle.std.specs.Option.{option_to_list}
use Rattle.std.proofs.lemmas.Bool.{leb-false, ltb-false, eq-eqb}
use Rattle.std.proofs.lemmas.List.{length-append}
use Rattle.std.proofs.lemmas.List.Concat.{flat_map-append}
use Rattle.std.proofs.lemmas.Option.{slice_get-get_or}
use Rattle.line_text.specs.Texts.{lines_of}
use Rattle.line_text.specs.Lists.{per_client}
use Rattle.line_text.proofs.Rows.{length_per_client}
use Rattle.line_text.specs.declared.ports_text.line.Line.{Line}
use Rattle.line_text.specs.declared.ports_text.line.Line.TheVariants as Says
use Rattle.line_text.specs.declared.ports_text.ports.Ports.{Ports}
use Rattle.line_text.specs.PortsText.Lines.{meaning}
use Rattle.line_text.specs.PortsText.Given.{macs_said, macs_in, sends_said, is_send, is_among, is_out_of_place, is_bad_after, lines_before, ports_from, ports_of, HasNoBadLine, ArePorts}
use Rattle.line_text.proofs.PortsText.SoFar.{said_more, bad_line, bad_end, no_lines}
use Rattle.text_limits.specs.Limits.{KeepsPortLimits}
use Rattle.text_limits.proofs.Totals.{sum_more, none_total, one_total, total}

-- what counts towards the limits is within them
record IsWithin (lines : List Line) : Type 0 where
  pub sends : count_by is_send lines ≤ 1024
  pub ports : length (macs_in lines) ≤ 8

sends_more : (lines : List Line) (e : Line) → count_by is_send (lines ++ e ∷ []) ≡ count_by is_send lines + cond (is_send e) 1 0
sends_more lines e = sum_more (λ x. cond (is_send x) 1 0) lines e

ports_more : (lines : List Line) (e : Line) → length (macs_in (lines ++ e ∷ [])) ≡ length (macs_in lines) + length (macs_said e)
ports_more lines e =
    ap length (flat_map-append macs_said lines (e ∷ []) ∙ ap (λ more. flat_map macs_said lines ++ more) (append-nil (macs_said e)))
    ∙ length-append (macs_in lines) (macs_said e)

or_left : (a b : Bool) → (a || b) ≡ false → a ≡ false
or_left true b h = cc
or_left false b h = refl

or_right : (a b : Bool) → (a || b) ≡ false → b ≡ false
or_right true b h = cc
or_right false b h = h

-- what one more line adds to the counts fits in
fits : (lines : List Line) (e : Line) → IsWithin lines → is_out_of_place lines e ≡ false
    → (count_by is_send lines + cond (is_send e) 1 0 ≤ 1024) × (length (macs_in lines) + length (macs_said e) ≤ 8)
fits lines Says.Skipped h taken = (omega (arith, h.sends), omega (arith, h.ports))
fits lines (Says.Port mac) h taken =
    let few = leb-false 8 (length (macs_in lines)) (or_right (ltb 0 (count_by is_send lines)) (leb 8 (length (macs_in lines))) (or_left _ (is_among mac (macs_in lines)) taken)) in
    (omega (arith, h.sends), omega (arith, few))
fits lines (Says.Send c frame) h taken =
    let few = leb-false 1024 (count_by is_send lines) (or_right (leb (length (macs_in lines)) c) (leb 1024 (count_by is_send lines)) taken) in
    (omega (arith, few), omega (arith, h.ports))

within_more : (lines : List Line) (m : Option Line) → IsWithin lines → is_bad_after lines m ≡ false → IsWithin (lines ++ option_to_list m)
within_more lines None h taken = cc
within_more lines (Some e) h taken = let all = fits lines e h taken in record {
  sends = rw (sends_more lines e) all.0;
  ports = rw (ports_more lines e) all.1;
}

within_before : (text : List ℕ) (k : ℕ) → HasNoBadLine text → k ≤ length (lines_of text) → IsWithin (lines_before text k)
within_before text zero good within = rw (no_lines text) (record { sends = omega arith; ports = omega arith })
within_before text (suc k) good within =
    let at = slice_get-get_or (lines_of text) k [] (omega (arith, within)) in
    let line = get_or (lines_of text) k [] in
    rw (← add-one k, said_more text k line at)
    (within_more (lines_before text k) (meaning line) (within_before text k good (omega (arith, within))) (sym (bad_line text k line at) ∙ good k))

-- the text names two ports
has_ports : (text : List ℕ) → HasNoBadLine text → 2 ≤ length (macs_in (lines_before text (length (lines_of text))))
has_ports text good =
    let n = length (lines_of text) in
    let last : (eqb n n && ltb (length (macs_in (lines_before text n))) 2) ≡ false = sym (bad_end text n (omega arith)) ∙ good n in
    let some : ltb (length (macs_in (lines_before text n))) 2 ≡ false = rw (eq-eqb n n refl) at last in
    ltb-false (length (macs_in (lines_before text n))) 2 some

-- one line gives as many frames as it counts
one_send : (n : ℕ) (e : Line) → sum_by length (per_client n (λ k. sends_said k e)) ≤ cond (is_send e) 1 0
one_send n Says.Skipped = rw (none_total n (λ k. sends_said k Says.Skipped) (λ k. refl)) (omega arith)
one_send n (Says.Port mac) = rw (none_total n (λ k. sends_said k (Says.Port mac)) (λ k. refl)) (omega arith)
one_send n (Says.Send c frame) = let most = one_total n c (frame ∷ []) (λ k. sends_said k (Says.Send c frame)) (λ k. refl) in omega (arith, most)

from_lines : (lines : List Line) → IsWithin lines → 2 ≤ length (macs_in lines) → KeepsPortLimits (ports_from lines)
unfolding ports_from
from_lines lines h some = record {
  enough = some;
  few = h.ports;
  lists = length_per_client (length (macs_in lines)) _;
  sends =
      let most = total (length (macs_in lines)) sends_said (λ e. cond (is_send e) 1 0) lines (one_send (length (macs_in lines))) in
      omega (arith, most, h.sends);
}

-- ports that were read keep the limits
pub ports_kept : (ports : Ports) → ArePorts ports → KeepsPortLimits ports
unfolding ports_of
ports_kept ports h =
    rw h.given (from_lines (lines_before h.text (length (lines_of h.text))) (within_before h.text (length (lines_of h.text)) h.good (omega arith)) (has_ports h.text h.good))
