use Rattle.std.proofs.Common.{◌≡◌, ℕ, true, false, eqb, List, [], ◌∷◌, length, Some, None, Option, codes, refl, ap, ◌∙◌, inl, inr}
use Rattle.std.specs.Option.{option_map, option_and_then}
use Rattle.std.proofs.lemmas.Bool.{eqb-true, cases_Bool}
use Rattle.i2c_text.specs.declared.bus.BusAsk.TheVariants as Asks
use Rattle.i2c_text.specs.declared.line.Line.{Line}
use Rattle.i2c_text.specs.declared.line.Line.TheVariants as Says
use Rattle.line_text.specs.Texts.{parts_of, words_of, lines_of, same_text, is_skipped, number_from}
use Rattle.i2c_text.specs.Texts.{bytes_of}
use Rattle.i2c_text.specs.Lines.{words_say, meaning, read_said, write_said, client_of, address_of}
use Rattle.line_text.proofs.Pieces.{parts_cons}

pub meaning_skipped : (line : List ℕ) → is_skipped line ≡ true → meaning line ≡ Some Says.Skipped
unfolding meaning
meaning_skipped line h = rw h refl

pub meaning_words : (line : List ℕ) → is_skipped line ≡ false → meaning line ≡ words_say (words_of line)
unfolding meaning
meaning_words line h = rw h refl

pub one_word : (a : List ℕ) → words_say (a ∷ []) ≡ None
unfolding words_say
one_word a = refl

pub two_clients : (name a : List ℕ) (n : Option ℕ) → same_text name (codes "clients") ≡ true → n ≡ number_from 1 8 a
    → option_map (λ count. Says.Clients count) n ≡ words_say (name ∷ a ∷ [])
unfolding words_say
two_clients name a n h e = rw h (ap (option_map (λ count. Says.Clients count)) e)

pub two_device : (name a : List ℕ) (n : Option ℕ) → same_text name (codes "clients") ≡ false → same_text name (codes "device") ≡ true → n ≡ address_of a
    → option_map (λ address. Says.Device address) n ≡ words_say (name ∷ a ∷ [])
unfolding words_say
two_device name a n h i e = rw (h, i) (ap (option_map (λ address. Says.Device address)) e)

pub two_other : (name a : List ℕ) → same_text name (codes "clients") ≡ false → same_text name (codes "device") ≡ false → words_say (name ∷ a ∷ []) ≡ None
unfolding words_say
two_other name a h i = rw (h, i) refl

-- what a claim is made of
abbrev pub claim_by : Option ℕ → Option ℕ → Option Line
claim_by c d = option_and_then (λ c. option_map (λ a. Says.Ask c (Asks.Claim a)) d) c

pub three_claim : (name a b : List ℕ) (c d : Option ℕ) → same_text name (codes "claim") ≡ true → c ≡ client_of a → d ≡ address_of b → claim_by c d ≡ words_say (name ∷ a ∷ b ∷ [])
unfolding words_say
three_claim name a b c d h e f = rw h (ap (λ c. claim_by c d) e ∙ ap (λ d. claim_by (client_of a) d) f)

-- what a read is made of
abbrev pub read_by : Option ℕ → Option ℕ → Option ℕ → Option Line
read_by c d n = option_and_then (λ c. option_and_then (λ a. option_map (λ n. Says.Ask c (Asks.Read a n)) n) d) c

pub read_is : (a b x : List ℕ) (c d n : Option ℕ) → c ≡ client_of a → d ≡ address_of b → n ≡ number_from 1 32 x → read_by c d n ≡ read_said a b x
unfolding read_said
read_is a b x c d n e f g =
    ap (λ c. read_by c d n) e ∙ (ap (λ d. read_by (client_of a) d n) f ∙ ap (λ n. read_by (client_of a) (address_of b) n) g)

-- what a write is made of
abbrev pub write_by : Option ℕ → Option ℕ → Option (List ℕ) → Option Line
write_by c d m = option_and_then (λ c. option_and_then (λ a. option_map (λ b. Says.Ask c (Asks.Write a b)) m) d) c

pub write_is : (a b x : List ℕ) (c d : Option ℕ) (m : Option (List ℕ)) → c ≡ client_of a → d ≡ address_of b → m ≡ bytes_of x → write_by c d m ≡ write_said a b x
unfolding write_said
write_is a b x c d m e f g =
    ap (λ c. write_by c d m) e ∙ (ap (λ d. write_by (client_of a) d m) f ∙ ap (λ m. write_by (client_of a) (address_of b) m) g)

pub three_other : (name a b : List ℕ) → same_text name (codes "claim") ≡ false → words_say (name ∷ a ∷ b ∷ []) ≡ None
unfolding words_say
three_other name a b h = rw h refl

pub four_read : (name a b x : List ℕ) → same_text name (codes "read") ≡ true → words_say (name ∷ a ∷ b ∷ x ∷ []) ≡ read_said a b x
unfolding words_say
four_read name a b x h = rw h refl

pub four_write : (name a b x : List ℕ) → same_text name (codes "read") ≡ false → same_text name (codes "write") ≡ true → words_say (name ∷ a ∷ b ∷ x ∷ []) ≡ write_said a b x
unfolding words_say
four_write name a b x h i = rw (h, i) refl

pub four_other : (name a b x : List ℕ) → same_text name (codes "read") ≡ false → same_text name (codes "write") ≡ false → words_say (name ∷ a ∷ b ∷ x ∷ []) ≡ None
unfolding words_say
four_other name a b x h i = rw (h, i) refl

five_words : (name a b x y : List ℕ) (more : List (List ℕ)) → words_say (name ∷ a ∷ b ∷ x ∷ y ∷ more) ≡ None
unfolding words_say
five_words name a b x y more = refl

-- five words or more say nothing
pub too_many : (name a b x text : List ℕ) → words_say (name ∷ a ∷ b ∷ x ∷ words_of text) ≡ None
too_many name a b x text =
    let more = parts_cons (λ x. eqb x 32) text in
    rw more.2 (five_words name a b x more.0 more.1)
