use Rattle.std.proofs.Common.{◌≡◌, ℕ, zero, suc, ◌+◌, ◌<◌, ◌≤◌, inl, inr, true, false, eqb, ◌&&◌, List, [], ◌∷◌, ◌++◌, length, take, drop, count_by, Option, Some, None, is_some, slice_get, refl, ap, sym, ◌∙◌, arith, add-one, below_more}
use Rattle.std.specs.List.{filter_map, cons_option}
use Rattle.std.specs.Option.{option_to_list}
use Rattle.std.proofs.lemmas.Bool.{cases_Bool, cases_lt, eqb-true}
use Rattle.std.proofs.lemmas.Option.{slice_get_past, slice_get_within}
use Rattle.std.proofs.lemmas.List.Elements.{filter_map-append}
use Rattle.sdf_plan.specs.declared.plan.Plan.{Plan}
use Rattle.trace_text.specs.declared.reader.Reader.{Reader}
use Rattle.line_text.specs.Texts.{lines_of}
use Rattle.trace_text.specs.Events.{Event, meaning}
use Rattle.trace_text.specs.Traces.{events_before, is_bad, is_bad_after, is_disk_line, trace_from, trace_of, HasNoBadLine, IsLeastBadLine}
use Rattle.trace_text.specs.Reading.{reader_after, after_line, HasLists}
use Rattle.trace_text.proofs.Judged.{and_left}
use Rattle.trace_text.proofs.Forms.{equal_length}
use Rattle.trace_text.proofs.Grown.{has_lists, taken_after, bad_after}
use Rattle.line_text.proofs.Pieces.{lines_none}

-- the lines before the rest were read, none of them bad
pub record IsSoFar (plan : Plan) (text rest : List ℕ) (number : ℕ) (reader : Reader) : Type 0 where
  pub lines : drop number (lines_of text) ≡ lines_of rest
  pub within : number ≤ length (lines_of text)
  pub counted : number + length rest ≤ length text
  pub read : reader ≡ reader_after plan (events_before plan text number)
  pub good : (k : ℕ) → k < number → is_bad plan text k ≡ false

take_snoc : {T : Type 0} (ls : List T) (k : ℕ) (l : T) → slice_get ls k ≡ Some l → take (suc k) ls ≡ take k ls ++ l ∷ []
take_snoc [] k l h = cc
take_snoc (x ∷ xs) zero l h = let same : x ≡ l = cc in ap (λ y. y ∷ []) same
take_snoc (x ∷ xs) (suc k) l h = ap (λ rest. x ∷ rest) (take_snoc xs k l h)

at_drop : {T : Type 0} (ls : List T) (k : ℕ) (l : T) (rest : List T) → drop k ls ≡ l ∷ rest → (slice_get ls k ≡ Some l) × (drop (suc k) ls ≡ rest)
at_drop [] zero l rest h = cc
at_drop [] (suc k) l rest h = cc
at_drop (x ∷ xs) zero l rest h = (cc, cc)
at_drop (x ∷ xs) (suc k) l rest h = at_drop xs k l rest h

drop_end : {T : Type 0} (ls : List T) (k : ℕ) → drop k ls ≡ [] → length ls ≤ k
drop_end [] k h = omega arith
drop_end (x ∷ xs) zero h = cc
drop_end (x ∷ xs) (suc k) h = let rest = drop_end xs k h in omega arith

one_meaning : (m : Option Event) → cons_option m [] ≡ option_to_list m
one_meaning None = refl
one_meaning (Some e) = refl

pub events_more : (plan : Plan) (text : List ℕ) (k : ℕ) (line : List ℕ) → slice_get (lines_of text) k ≡ Some line
    → events_before plan text (k + 1) ≡ events_before plan text k ++ option_to_list (meaning plan line)
unfolding events_before
events_more plan text k line h =
    rw (add-one k, take_snoc (lines_of text) k line h, filter_map-append (meaning plan) (take k (lines_of text)) (line ∷ []))
    (ap (λ more. filter_map (meaning plan) (take k (lines_of text)) ++ more) (one_meaning (meaning plan line)))

pub bad_line : (plan : Plan) (text : List ℕ) (k : ℕ) (line : List ℕ) → slice_get (lines_of text) k ≡ Some line
    → is_bad plan text k ≡ is_bad_after (events_before plan text k) (meaning plan line)
unfolding is_bad
bad_line plan text k line h = rw h refl

pub bad_end : (plan : Plan) (text : List ℕ) (k : ℕ) → length (lines_of text) ≤ k
    → is_bad plan text k ≡ (eqb k (length (lines_of text)) && (is_some plan.blk && eqb (count_by is_disk_line (events_before plan text k)) 0))
unfolding is_bad
bad_end plan text k h = rw (slice_get_past (lines_of text) k h) refl

pub no_events : (plan : Plan) (text : List ℕ) → events_before plan text 0 ≡ []
unfolding events_before
no_events plan text = refl

pub so_far_none : (plan : Plan) (text : List ℕ) (reader : Reader) → reader ≡ reader_after plan [] → IsSoFar plan text text 0 reader
so_far_none plan text reader h = record {
  lines = refl;
  within = omega arith;
  counted = omega arith;
  read = h ∙ ap (reader_after plan) (sym (no_events plan text));
  good = λ k none. absurd (omega arith);
}

pub so_far_lists : (plan : Plan) (text rest : List ℕ) (number : ℕ) (reader : Reader) → IsSoFar plan text rest number reader → HasLists plan reader
so_far_lists plan text rest number reader h = rw h.read (has_lists plan (events_before plan text number))

pub so_far_more : (plan : Plan) (text rest line after : List ℕ) (number : ℕ) (reader reader' : Reader) → IsSoFar plan text rest number reader
    → lines_of rest ≡ line ∷ lines_of after → length after < length rest → after_line reader (meaning plan line) ≡ Some reader' → IsSoFar plan text after (number + 1) reader'
so_far_more plan text rest line after number reader reader' h first shorter taken =
    let place = at_drop (lines_of text) number line (lines_of after) (h.lines ∙ first) in
    let step = taken_after plan (events_before plan text number) (meaning plan line) reader' (rw h.read at taken) in
    let inside = slice_get_within (lines_of text) number line place.0 in
    record {
      lines = rw (add-one number) place.1;
      within = omega arith;
      counted = omega (arith, h.counted);
      read = step.1 ∙ ap (reader_after plan) (sym (events_more plan text number line place.0));
      good = below_more (λ k. is_bad plan text k ≡ false) number h.good (bad_line plan text number line place.0 ∙ step.0);
    }

pub so_far_bad : (plan : Plan) (text rest line after : List ℕ) (number : ℕ) (reader : Reader) → IsSoFar plan text rest number reader
    → lines_of rest ≡ line ∷ lines_of after → after_line reader (meaning plan line) ≡ None → IsLeastBadLine plan text (number + 1)
so_far_bad plan text rest line after number reader h first bad =
    let place = at_drop (lines_of text) number line (lines_of after) (h.lines ∙ first) in
    record {
      at = number;
      counted = refl;
      bad = bad_line plan text number line place.0 ∙ bad_after plan (events_before plan text number) (meaning plan line) (rw h.read at bad);
      before = h.good;
    }

so_far_all : (plan : Plan) (text : List ℕ) (number : ℕ) (reader : Reader) → IsSoFar plan text [] number reader → number ≡ length (lines_of text)
so_far_all plan text number reader h =
    let past = drop_end (lines_of text) number (h.lines ∙ lines_none) in
    omega (arith, h.within)

disk_lines_are : (plan : Plan) (text : List ℕ) (number : ℕ) (reader : Reader) → IsSoFar plan text [] number reader → reader.disk_lines ≡ count_by is_disk_line (events_before plan text number)
disk_lines_are plan text number reader h = ap (λ (r : Reader). r.disk_lines) h.read

pub so_far_missing : (plan : Plan) (text : List ℕ) (number : ℕ) (reader : Reader) → IsSoFar plan text [] number reader
    → (is_some plan.blk && eqb reader.disk_lines 0) ≡ true → IsLeastBadLine plan text (number + 1)
so_far_missing plan text number reader h missing =
    let all = so_far_all plan text number reader h in
    let disk = disk_lines_are plan text number reader h in
    record {
      at = number;
      counted = refl;
      bad = bad_end plan text number (omega arith) ∙ rw (equal_length number (length (lines_of text)) all, ← disk) missing;
      before = h.good;
    }

pub so_far_good : (plan : Plan) (text : List ℕ) (number : ℕ) (reader : Reader) → IsSoFar plan text [] number reader
    → (is_some plan.blk && eqb reader.disk_lines 0) ≡ false → HasNoBadLine plan text
so_far_good plan text number reader h there k =
    let all = so_far_all plan text number reader h in
    let disk = disk_lines_are plan text number reader h in
    elim (cases_lt k number) [
      | inl before ↦ h.good k before
      | inr after ↦ bad_end plan text k (omega arith) ∙ (elim (cases_Bool (eqb k (length (lines_of text)))) [
        | inl is ↦ let same : k ≡ number = eqb-true k (length (lines_of text)) is ∙ sym all in rw (is, same, ← disk) there
        | inr isnt ↦ and_left _ _ isnt
      ])
    ]

pub so_far_trace : (plan : Plan) (text : List ℕ) (number : ℕ) (reader : Reader) → IsSoFar plan text [] number reader → reader.trace ≡ trace_of plan text
unfolding trace_of
so_far_trace plan text number reader h =
    ap (λ (r : Reader). r.trace) h.read ∙ ap (λ k. trace_from plan (events_before plan text k)) (so_far_all plan text number reader h)
