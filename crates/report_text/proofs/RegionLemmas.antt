use Rattle.std.proofs.Common.{◌≡◌, ℕ, ◌+◌, ◌<◌, ◌≤◌, min, ⊎_elim, List, [], ◌∷◌, ◌++◌, length, drop, slice_get, Some, refl, ap, sym, ◌∙◌, append_assoc, append-nil, arith}
use Rattle.std.proofs.lemmas.Bool.{cases_lt}
use Rattle.std.proofs.lemmas.List.{drop_all}
use Rattle.sdf_plan.specs.declared.plan.Region.{Region}
use Rattle.report_text.specs.Lines.{text_of}
use Rattle.report_text.specs.Layouts.{region_line, region_lines}
use Rattle.report_text.proofs.LineLemmas.{drop_at}

-- one more region written: what is written and what is left stay the whole
pub region_written : (regions : List Region) (bases : List ℕ) (k : ℕ) (region : Region) (base : ℕ) (old new whole : List ℕ)
    → slice_get regions k ≡ Some region → slice_get bases k ≡ Some base → new ≡ old ++ text_of (region_line region base ∷ [])
    → old ++ text_of (region_lines (drop k regions) (drop k bases)) ≡ whole → new ++ text_of (region_lines (drop (k + 1) regions) (drop (k + 1) bases)) ≡ whole
region_written regions bases k region base old new whole at at' is so =
    let rest = text_of (region_lines (drop (k + 1) regions) (drop (k + 1) bases)) in
    ap (λ w. w ++ rest) is ∙ append_assoc old (region_line region base ++ 10 ∷ []) rest ∙ ap (λ w. old ++ w) (append_assoc (region_line region base) (10 ∷ []) rest)
    ∙ sym (rw (drop_at regions k region at, drop_at bases k base at') refl) ∙ so

-- no line is left where the regions or the bases end
no_bases_left : (regions : List Region) → region_lines regions [] ≡ []
no_bases_left [] = refl
no_bases_left (region ∷ regions) = refl

none_left : (regions : List Region) (bases : List ℕ) (k : ℕ) → min (length regions) (length bases) ≤ k → region_lines (drop k regions) (drop k bases) ≡ []
none_left regions bases k h =
    ⊎_elim (λ (more : k < length regions). rw (drop_all k bases (omega (arith, h))) (no_bases_left (drop k regions)))
    (λ (few : length regions ≤ k). rw (drop_all k regions few) refl) (cases_lt k (length regions))

-- at the end of the loop all is written
pub all_written : (regions : List Region) (bases : List ℕ) (k : ℕ) (new whole : List ℕ) → min (length regions) (length bases) ≤ k
    → new ++ text_of (region_lines (drop k regions) (drop k bases)) ≡ whole → new ≡ whole
all_written regions bases k new whole h so = sym (rw (none_left regions bases k h) (append-nil new)) ∙ so
