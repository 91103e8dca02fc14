use Rattle.std.proofs.Common.{◌≡◌, ℕ, zero, suc, ◌+◌, ◌<◌, ◌≤◌, inl, inr, Bool, true, false, eqb, ltb, ◌&&◌, List, [], ◌∷◌, ◌++◌, length, take, drop, Option, Some, None, slice_get, refl, ap, sym, ◌∙◌, arith, add-one, below_more}
use Rattle.std.specs.List.{filter_map, cons_option}
use Rattle.std.specs.Option.{option_to_list}
use Rattle.std.proofs.lemmas.Bool.{cases_Bool, cases_lt, eqb-true, eqb-false}
use Rattle.std.proofs.lemmas.Option.{slice_get_past, slice_get_within}
use Rattle.std.proofs.lemmas.List.Elements.{filter_map-append}
use Rattle.line_text.specs.declared.ports_text.line.Line.{Line}
use Rattle.line_text.specs.declared.ports_text.reader.Reader.{Reader}
use Rattle.line_text.specs.Texts.{lines_of}
use Rattle.line_text.specs.PortsText.Lines.{meaning}
use Rattle.line_text.specs.PortsText.Given.{macs_in, lines_before, is_bad, is_bad_after, ports_from, ports_of, HasNoBadLine, IsLeastBadLine}
use Rattle.line_text.specs.PortsText.Reading.{reader_after, IsRead, HasLists}
use Rattle.line_text.proofs.PortsText.Grown.{has_lists, taken_after, bad_after}
use Rattle.line_text.proofs.Pieces.{lines_none}

-- the lines before the rest were read, none of them bad
pub record IsSoFar (text rest : List ℕ) (number : ℕ) (reader : Reader) : Type 0 where
  pub lines : drop number (lines_of text) ≡ lines_of rest
  pub within : number ≤ length (lines_of text)
  pub counted : number + length rest ≤ length text
  pub read : reader ≡ reader_after (lines_before text number)
  pub good : (k : ℕ) → k < number → is_bad text k ≡ false

take_snoc : {T : Type 0} (ls : List T) (k : ℕ) (l : T) → slice_get ls k ≡ Some l → take (suc k) ls ≡ take k ls ++ l ∷ []
take_snoc [] k l h = cc
take_snoc (x ∷ xs) zero l h = let same : x ≡ l = cc in ap (λ y. y ∷ []) same
take_snoc (x ∷ xs) (suc k) l h = ap (λ rest. x ∷ rest) (take_snoc xs k l h)

at_drop : {T : Type 0} (ls : List T) (k : ℕ) (l : T) (rest : List T) → drop k ls ≡ l ∷ rest → (slice_get ls k ≡ Some l) × (drop (suc k) ls ≡ rest)
at_drop [] zero l rest h = cc
at_drop [] (suc k) l rest h = cc
at_drop (x ∷ xs) zero l rest h = (cc, cc)
at_drop (x ∷ xs) (suc k) l rest h = at_drop xs k l rest h

drop_end : {T : Type 0} (ls : List T) (k : ℕ) → drop k ls ≡ [] → length ls ≤ k
drop_end [] k h = omega arith
drop_end (x ∷ xs) zero h = cc
drop_end (x ∷ xs) (suc k) h = let rest = drop_end xs k h in omega arith

one_meaning : (m : Option Line) → cons_option m [] ≡ option_to_list m
one_meaning None = refl
one_meaning (Some e) = refl

pub said_more : (text : List ℕ) (k : ℕ) (line : List ℕ) → slice_get (lines_of text) k ≡ Some line
    → lines_before text (k + 1) ≡ lines_before text k ++ option_to_list (meaning line)
unfolding lines_before
said_more text k line h =
    rw (add-one k, take_snoc (lines_of text) k line h, filter_map-append meaning (take k (lines_of text)) (line ∷ []))
    (ap (λ more. filter_map meaning (take k (lines_of text)) ++ more) (one_meaning (meaning line)))

pub bad_line : (text : List ℕ) (k : ℕ) (line : List ℕ) → slice_get (lines_of text) k ≡ Some line
    → is_bad text k ≡ is_bad_after (lines_before text k) (meaning line)
unfolding is_bad
bad_line text k line h = rw h refl

pub bad_end : (text : List ℕ) (k : ℕ) → length (lines_of text) ≤ k
    → is_bad text k ≡ (eqb k (length (lines_of text)) && ltb (length (macs_in (lines_before text k))) 2)
unfolding is_bad
bad_end text k h = rw (slice_get_past (lines_of text) k h) refl

pub no_lines : (text : List ℕ) → lines_before text 0 ≡ []
unfolding lines_before
no_lines text = refl

pub so_far_none : (text : List ℕ) (reader : Reader) → reader ≡ reader_after [] → IsSoFar text text 0 reader
so_far_none text reader h = record {
  lines = refl;
  within = omega arith;
  counted = omega arith;
  read = h ∙ ap reader_after (sym (no_lines text));
  good = λ k none. absurd (omega arith);
}

pub so_far_lists : (text rest : List ℕ) (number : ℕ) (reader : Reader) → IsSoFar text rest number reader → HasLists reader
so_far_lists text rest number reader h = rw h.read (has_lists (lines_before text number))

pub so_far_more : (text rest line after : List ℕ) (number : ℕ) (reader reader' : Reader) → IsSoFar text rest number reader
    → lines_of rest ≡ line ∷ lines_of after → length after < length rest → IsRead reader reader' true (meaning line) → IsSoFar text after (number + 1) reader'
so_far_more text rest line after number reader reader' h first shorter taken =
    let place = at_drop (lines_of text) number line (lines_of after) (h.lines ∙ first) in
    let step = taken_after (lines_before text number) (meaning line) reader' (rw h.read at taken) in
    let inside = slice_get_within (lines_of text) number line place.0 in
    record {
      lines = rw (add-one number) place.1;
      within = omega arith;
      counted = omega (arith, h.counted);
      read = step.1 ∙ ap reader_after (sym (said_more text number line place.0));
      good = below_more (λ k. is_bad text k ≡ false) number h.good (bad_line text number line place.0 ∙ step.0);
    }

pub so_far_bad : (text rest line after : List ℕ) (number : ℕ) (reader reader' : Reader) → IsSoFar text rest number reader
    → lines_of rest ≡ line ∷ lines_of after → IsRead reader reader' false (meaning line) → IsLeastBadLine text (number + 1)
so_far_bad text rest line after number reader reader' h first bad =
    let place = at_drop (lines_of text) number line (lines_of after) (h.lines ∙ first) in
    record {
      at = number;
      counted = refl;
      bad = bad_line text number line place.0 ∙ bad_after (lines_before text number) (meaning line) reader' (rw h.read at bad);
      before = h.good;
    }

so_far_all : (text : List ℕ) (number : ℕ) (reader : Reader) → IsSoFar text [] number reader → number ≡ length (lines_of text)
so_far_all text number reader h =
    let past = drop_end (lines_of text) number (h.lines ∙ lines_none) in
    omega (arith, h.within)

macs_are : (text : List ℕ) (number : ℕ) (reader : Reader) → IsSoFar text [] number reader → reader.ports.macs ≡ macs_in (lines_before text number)
unfolding ports_from
macs_are text number reader h = ap (λ (r : Reader). r.ports.macs) h.read

equal : (n m : ℕ) → n ≡ m → eqb n m ≡ true
equal n m h = elim (cases_Bool (eqb n m)) [
  | inl is ↦ is
  | inr isnt ↦ absurd (eqb-false n m isnt h)
]

and_left : (a b : Bool) → a ≡ false → (a && b) ≡ false
and_left a b h = rw h refl

pub so_far_missing : (text : List ℕ) (number : ℕ) (reader : Reader) → IsSoFar text [] number reader
    → ltb (length reader.ports.macs) 2 ≡ true → IsLeastBadLine text (number + 1)
so_far_missing text number reader h missing =
    let all = so_far_all text number reader h in
    let macs = macs_are text number reader h in
    record {
      at = number;
      counted = refl;
      bad = bad_end text number (omega arith) ∙ rw (equal number (length (lines_of text)) all, ← macs) missing;
      before = h.good;
    }

pub so_far_good : (text : List ℕ) (number : ℕ) (reader : Reader) → IsSoFar text [] number reader
    → ltb (length reader.ports.macs) 2 ≡ false → HasNoBadLine text
so_far_good text number reader h there k =
    let all = so_far_all text number reader h in
    let macs = macs_are text number reader h in
    elim (cases_lt k number) [
      | inl before ↦ h.good k before
      | inr after ↦ bad_end text k (omega arith) ∙ (elim (cases_Bool (eqb k (length (lines_of text)))) [
        | inl is ↦ let same : k ≡ number = eqb-true k (length (lines_of text)) is ∙ sym all in rw (is, same, ← macs) there
        | inr isnt ↦ and_left _ _ isnt
      ])
    ]

pub so_far_ports : (text : List ℕ) (number : ℕ) (reader : Reader) → IsSoFar text [] number reader → reader.ports ≡ ports_of text
unfolding ports_of
so_far_ports text number reader h =
    ap (λ (r : Reader). r.ports) h.read ∙ ap (λ k. ports_from (lines_before text k)) (so_far_all text number reader h)
