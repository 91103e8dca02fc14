use Rattle.std.proofs.Common.{◌≡◌, ℕ, Bool, true, false, eqb, leb, ◌&&◌, ◌<◌, List, [], ◌∷◌, length, Some, None, Option, codes, refl, ap, ◌∙◌, inl, inr}
use Rattle.std.specs.Option.{option_map, option_and_then}
use Rattle.std.proofs.lemmas.Bool.{lt-leb}
use Rattle.frame_core.specs.declared.mac.Mac.{Mac}
use Rattle.frame_core.specs.Frames.{is_frame_of}
use Rattle.frame_core.specs.Macs.{mac_of}
use Rattle.line_text.specs.Texts.{words_of, same_text, is_skipped}
use Rattle.line_text.specs.Data.{data_of}
use Rattle.line_text.proofs.Pieces.{parts_cons}
use Rattle.line_text.specs.declared.ports_text.line.Line.{Line}
use Rattle.line_text.specs.declared.ports_text.line.Line.TheVariants as Says
use Rattle.line_text.specs.PortsText.Lines.{port_of, if_frame, frame_of, send_said, words_say, meaning}

and_false : (b : Bool) → (b && false) ≡ false
and_false true = refl
and_false false = refl

pub meaning_skipped : (line : List ℕ) → is_skipped line ≡ true → meaning line ≡ Some Says.Skipped
unfolding meaning
meaning_skipped line h = rw h refl

pub meaning_words : (line : List ℕ) → is_skipped line ≡ false → meaning line ≡ words_say (words_of line)
unfolding meaning
meaning_words line h = rw h refl

pub one_word : (a : List ℕ) → words_say (a ∷ []) ≡ None
unfolding words_say
one_word a = refl

pub two_port : (name a : List ℕ) (m : Option Mac) → same_text name (codes "port") ≡ true → m ≡ mac_of a
    → option_map (λ mac. Says.Port mac) m ≡ words_say (name ∷ a ∷ [])
unfolding words_say
two_port name a m h e = rw h (ap (option_map (λ mac. Says.Port mac)) e)

pub two_other : (name a : List ℕ) → same_text name (codes "port") ≡ false → words_say (name ∷ a ∷ []) ≡ None
unfolding words_say
two_other name a h = rw h refl

-- what a line that sends is made of
abbrev pub send_by : Option ℕ → Option (List ℕ) → Option Line
send_by c f = option_and_then (λ c. option_map (λ bytes. Says.Send c bytes) f) c

pub three_send : (name a b : List ℕ) (c : Option ℕ) (f : Option (List ℕ)) → same_text name (codes "send") ≡ true → c ≡ port_of a → f ≡ frame_of b
    → send_by c f ≡ words_say (name ∷ a ∷ b ∷ [])
unfolding words_say send_said
three_send name a b c f h e g = rw h (ap (λ c. send_by c f) e ∙ ap (λ f. send_by (port_of a) f) g)

pub three_other : (name a b : List ℕ) → same_text name (codes "send") ≡ false → words_say (name ∷ a ∷ b ∷ []) ≡ None
unfolding words_say
three_other name a b h = rw h refl

four_words : (name a b x : List ℕ) (more : List (List ℕ)) → words_say (name ∷ a ∷ b ∷ x ∷ more) ≡ None
unfolding words_say
four_words name a b x more = refl

-- four words or more say nothing
pub too_many : (name a b text : List ℕ) → words_say (name ∷ a ∷ b ∷ words_of text) ≡ None
too_many name a b text =
    let more = parts_cons (λ x. eqb x 32) text in
    rw more.2 (four_words name a b more.0 more.1)

-- a word that stands for more bytes than a frame has, or for none
pub no_frame : (word : List ℕ) → ((bytes : List ℕ) → data_of word ≡ Some bytes → 1514 < length bytes) → frame_of word ≡ None
no_frame word h = none (data_of word) h
  where
    long : (bytes : List ℕ) → 1514 < length bytes → if_frame bytes ≡ None
    long bytes h = rw (lt-leb (length bytes) 1514 h, and_false (leb 14 (length bytes))) refl

    none : (m : Option (List ℕ)) → ((bytes : List ℕ) → m ≡ Some bytes → 1514 < length bytes) → option_and_then if_frame m ≡ None
    none None h = refl
    none (Some bytes) h = long bytes (h bytes refl)

-- a word that stands for bytes that are no frame, or are one
pub not_frame : (word bytes : List ℕ) → data_of word ≡ Some bytes → is_frame_of bytes 1514 ≡ false → frame_of word ≡ None
not_frame word bytes h is = ap (option_and_then if_frame) h ∙ rw is refl

pub some_frame : (word bytes : List ℕ) → data_of word ≡ Some bytes → is_frame_of bytes 1514 ≡ true → frame_of word ≡ Some bytes
some_frame word bytes h is = ap (option_and_then if_frame) h ∙ rw is refl
