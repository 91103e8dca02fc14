use Rattle.std.proofs.Common.{◌≡◌, ℕ, ◌⊎◌, inl, inr, Bool, true, false, ◌&&◌, List, Option, Some, None, refl}
use Rattle.std.specs.Option.{option_and_then}
use Rattle.trace_text.specs.declared.reader.Reader.{Reader}
use Rattle.line_text.specs.Texts.{number_of}
use Rattle.line_text.specs.Data.{data_of}
use Rattle.trace_text.specs.Events.{Event, kept_if, with_number, with_data}
use Rattle.trace_text.specs.Reading.{after_line, is_refused, reader_with}

-- why an event isn't taken
abbrev pub Fails : Reader → Bool → Event → Type 0
Fails r holds event = (holds ≡ false) ⊎ (is_refused r event ≡ true)

pub judged_none : {T : Type 0} (r : Reader) (value : Option T) (event : T → Option Event) → ((x : T) → value ≡ Some x → after_line r (event x) ≡ None)
    → after_line r (option_and_then event value) ≡ None
judged_none r None event h = refl
judged_none r (Some x) event h = h x refl

pub number_none : (r : Reader) (word : List ℕ) (event : ℕ → Option Event) → ((n : ℕ) → number_of word ≡ Some n → after_line r (event n) ≡ None) → after_line r (with_number word event) ≡ None
number_none r word event h = judged_none r (number_of word) event h

pub data_none : (r : Reader) (word : List ℕ) (event : List ℕ → Option Event) → ((bytes : List ℕ) → data_of word ≡ Some bytes → after_line r (event bytes) ≡ None) → after_line r (with_data word event) ≡ None
data_none r word event h = judged_none r (data_of word) event h

pub kept_none : (r : Reader) (holds : Bool) (event : Event) → Fails r holds event → after_line r (kept_if holds (Some event)) ≡ None
kept_none r false event h = refl
kept_none r true event (inl h) = cc
kept_none r true event (inr h) = rw h refl

pub kept_taken : (r : Reader) (holds : Bool) (event : Event) → holds ≡ true → is_refused r event ≡ false → after_line r (kept_if holds (Some event)) ≡ Some (reader_with r event)
kept_taken r holds event h taken = rw (h, taken) refl

pub and_left : (a b : Bool) → a ≡ false → (a && b) ≡ false
and_left a b h = rw h refl

pub and_right : (a b : Bool) → b ≡ false → (a && b) ≡ false
and_right true b h = h
and_right false b h = refl

pub and_true : (a b : Bool) → a ≡ true → b ≡ true → (a && b) ≡ true
and_true a b ha hb = rw ha hb
