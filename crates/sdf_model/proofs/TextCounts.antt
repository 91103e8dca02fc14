use Rattle.std.proofs.Common.{◌≡◌, ℕ, zero, suc, ◌+◌, ◌≤◌, ◌<◌, Bool, true, false, ◌==◌, nat_lt, List, [], ◌∷◌, ◌++◌, length, drop, slice_index, unwrap_or, is_some, Option, Some, None, option_map, option_and_then, IfSome, refl, sym, inl, inr, ◌⊎◌, arith}
use Rattle.std.proofs.lemmas.Bool.{cases_Bool, false≢true}
use Rattle.std.specs.Prelude.{encode_utf8, ◌&&◌, nat_le, take}
use Rattle.std.specs.List.{list_all}
use Rattle.std.specs.Char.{is_digit}
use Rattle.std.specs.Str.Parse.{digits_value}
use Rattle.std.proofs.lemmas.Bool.Decides.{nat_tests}
use Rattle.std.proofs.lemmas.List.{length-drop}
use Rattle.std.specs.List.{prefix_len}
use Rattle.toml_parser.specs.Lexical.{Read, first, skip_turn, skip_from, skip_blank, skip_ws, starts_newline, is_bare, dot, backslash, line_feed, carriage_return, left_bracket, right_bracket, left_brace, right_brace, comma, equals}
use Rattle.toml_parser.specs.Strings.{Key, key, key_after, simple_key, quoted, one_line, body, special, escape, escape_char, hex_escape, hex_len, is_scalar, simple_escape, at_delims, after_piece, prepend, trim_newline, starts_string, is_plain, recursion_limit}
use Rattle.toml_parser.specs.Numbers.{unquoted, word_len, word_value}
use Rattle.toml_parser.specs.declared.scalar.Scalar.{Scalar}
use Rattle.toml_parser.specs.declared.scalar.Scalar.TheVariants as Scalars
use Rattle.toml.specs.Data.{Data, string, array, table, Items, no_items, Members, push_item}
use Rattle.toml.specs.Parse.{read_map, after_byte, after_element, key_equals, keyval, items, members, scalar_data, atom, val, header_key, expression, ends_line, line, lines, skip_bom, parse_document}
use Rattle.toml.specs.Tables.{Nodes, no_nodes, Expression, key_value, std_table, Document, define, put, close}
use Rattle.sdf_model.specs.Counts.{elements_in, elements_of_items, elements_of_members}
use Rattle.sdf_model.proofs.EditedCounts.{map-some, push-elements, elements_of_nodes, elements_defined, put-elements, define-elements}

-- what is read leaves at most so many bytes
abbrev pub Leaves : {A : Type 0} → Read A → ℕ → Type 0
Leaves {A} r n = IfSome {T = A × List ℕ} r (λ p. length p.1 ≤ n)

-- the same where what was read is counted
abbrev pub Holds : {A : Type 0} → (A → ℕ) → Read A → ℕ → Type 0
Holds {A} size r n = IfSome {T = A × List ℕ} r (λ p. size p.0 + length p.1 ≤ n)

-- what leaves at most so many bytes leaves at most more
weaken : {A : Type 0} (r : Read A) (m n : ℕ) → Leaves r m → m ≤ n → Leaves r n
weaken None m n h i = tt
weaken (Some p) m n h i = omega (arith, h, i)

drop-within : (n : ℕ) (text : List ℕ) → length (drop n text) ≤ length text
drop-within n text = omega (arith, length-drop n text)

-- a text that begins with a byte isn't empty
some-first : (text : List ℕ) (c : ℕ) → 0 < c → (first text == c) ≡ true → 0 < length text
some-first [] c h e = grind (arith, nat_tests)
some-first (x ∷ xs) c h e = omega arith

skip_from-within : (comments inside : Bool) (text : List ℕ) → length (skip_from comments inside text) ≤ length text
unfolding skip_from
skip_from-within comments inside [] = omega arith
skip_from-within comments inside (c ∷ cs) =
    let next = skip_from-within comments (unwrap_or (skip_turn comments inside c (first cs)) false) cs in
    elim (cases_Bool (is_some (skip_turn comments inside c (first cs)))) [
      | inl more ↦ rw more (omega (arith, next))
      | inr stop ↦ rw stop (omega arith)
    ]

skip_ws-within : (text : List ℕ) → length (skip_ws text) ≤ length text
unfolding skip_ws
skip_ws-within text = drop-within _ text

cases_option : {A : Type 0} (o : Option A) → (o ≡ None) ⊎ ((x : A) × (o ≡ Some x))
cases_option None = inl refl
cases_option (Some x) = inr (x, refl)

after_byte-within : (byte : ℕ) (text : List ℕ) → IfSome (after_byte byte text) (λ rest. length rest ≤ length text)
after_byte-within byte text = elim (cases_Bool (first text == byte)) [ inl t ↦ rw t (drop-within 1 text) | inr f ↦ rw f tt ]

after_element-within : (closing : ℕ) (text : List ℕ) → IfSome (after_element closing text) (λ rest. length rest ≤ length text)
unfolding after_element
after_element-within closing text =
    let w = skip_from-within true false text in
    elim (cases_Bool (first (skip_blank text) == comma)) [
      | inl t ↦ rw t (omega (arith, drop-within 1 (skip_blank text), w))
      | inr f ↦ rw f (elim (cases_Bool (first (skip_blank text) == closing)) [ inl t ↦ rw t w | inr g ↦ rw g tt ])
    ]

hex_escape-within : (n : ℕ) (text : List ℕ) → Leaves (hex_escape n text) (length text)
unfolding hex_escape
hex_escape-within n text =
    elim (cases_Bool ((nat_le n (length text) && list_all (λ c. is_digit c 16) (take n text)) && is_scalar (digits_value 16 (take n text)))) [
      | inl t ↦ rw t (drop-within n text)
      | inr f ↦ rw f tt
    ]

simple-within : (o : Option ℕ) (rest : List ℕ) (n : ℕ) → length rest ≤ n → Leaves {A = ℕ} (option_map (λ c. (c, rest)) o) n
simple-within None rest n h = tt
simple-within (Some c) rest n h = h

escape_char-within : (text : List ℕ) → Leaves (escape_char text) (length text)
unfolding escape_char
escape_char-within text =
    let d = drop-within 1 text in
    elim (cases_Bool (nat_lt 0 (hex_len (first text)))) [
      | inl t ↦ rw t (weaken (hex_escape (hex_len (first text)) (drop 1 text)) (length (drop 1 text)) (length text) (hex_escape-within (hex_len (first text)) (drop 1 text)) d)
      | inr f ↦ rw f (simple-within (simple_escape (first text)) (drop 1 text) (length text) d)
    ]

encoded-within : (o : Read ℕ) (n : ℕ) → Leaves o n → Leaves {A = List ℕ} (option_map (λ p. (encode_utf8 p.0, p.1)) o) n
encoded-within None n h = tt
encoded-within (Some p) n h = h

escape-within : (multi : Bool) (text : List ℕ) → Leaves (escape multi text) (length text)
unfolding escape
escape-within multi text =
    elim (cases_Bool (multi && starts_newline (skip_ws text))) [
      | inl t ↦ rw t (skip_from-within false false text)
      | inr f ↦ rw f (encoded-within (escape_char text) (length text) (escape_char-within text))
    ]

at_delims-within : (delim : ℕ) (text : List ℕ) → Leaves (at_delims delim text) (length text)
at_delims-within delim text =
    elim (cases_Bool (prefix_len (λ c. c == delim) text == 3)) [
      | inl t ↦ rw t (drop-within 3 text)
      | inr f ↦ rw f (elim (cases_Bool (nat_lt (prefix_len (λ c. c == delim) text) 6)) [ inl t ↦ rw t (drop-within 1 text) | inr g ↦ rw g tt ])
    ]

wrapped-within : (o : Read (List ℕ)) (n : ℕ) → Leaves o n → Leaves {A = Option (List ℕ)} (option_map (λ p. (Some p.0, p.1)) o) n
wrapped-within None n h = tt
wrapped-within (Some p) n h = h

special-within : (delim : ℕ) (multi : Bool) (text : List ℕ) → Leaves (special delim multi text) (length text)
unfolding special
special-within delim multi text =
    let d = drop-within 1 text in
    elim (cases_Bool (first text == delim)) [
      | inl t ↦ rw t (elim (cases_Bool multi) [ inl m ↦ rw m (at_delims-within delim text) | inr m ↦ rw m d ])
      | inr f ↦ rw f (elim (cases_Bool (first text == backslash)) [
        | inl b ↦ rw b (wrapped-within (escape multi (drop 1 text)) (length text) (weaken (escape multi (drop 1 text)) (length (drop 1 text)) (length text) (escape-within multi (drop 1 text)) d))
        | inr g ↦ rw g (elim (cases_Bool (multi && starts_newline text)) [ inl s ↦ rw s d | inr s ↦ rw s tt ])
      ])
    ]

prepend-within : (front : List ℕ) (o : Read (List ℕ)) (n : ℕ) → Leaves o n → Leaves (prepend front o) n
prepend-within front None n h = tt
prepend-within front (Some p) n h = h

after_piece-within : (more : List ℕ → Read (List ℕ)) → ((text : List ℕ) → Leaves (more text) (length text)) → (piece : Option (List ℕ)) (rest : List ℕ) (n : ℕ) → length rest ≤ n
    → Leaves (after_piece more piece rest) n
after_piece-within more g None rest n h = h
after_piece-within more g (Some bytes) rest n h = prepend-within bytes (more rest) n (weaken (more rest) (length rest) n (g rest) h)

piece-within : (more : List ℕ → Read (List ℕ)) → ((text : List ℕ) → Leaves (more text) (length text)) → (o : Read (Option (List ℕ))) (n : ℕ) → Leaves o n
    → Leaves (option_and_then (λ p. after_piece more p.0 p.1) o) n
piece-within more g None n h = tt
piece-within more g (Some p) n h = after_piece-within more g p.0 p.1 n h

body-within : (delim : ℕ) (multi : Bool) (n : ℕ) (text : List ℕ) → Leaves (body delim multi n text) (length text)
unfolding body
body-within delim multi zero text = tt
body-within delim multi (suc n) text =
    let d = drop-within 1 text in
    elim (cases_Bool (is_plain delim multi (first text))) [
      | inl t ↦ rw t (prepend-within (first text ∷ []) (body delim multi n (drop 1 text)) (length text) (weaken (body delim multi n (drop 1 text)) (length (drop 1 text)) (length text) (body-within delim multi n (drop 1 text)) d))
      | inr f ↦ rw f (piece-within (body delim multi n) (body-within delim multi n) (special delim multi text) (length text) (special-within delim multi text))
    ]

trim-within : (text : List ℕ) → length (trim_newline text) ≤ length text
trim-within text =
    elim (cases_Bool (first text == line_feed)) [
      | inl t ↦ rw t (drop-within 1 text)
      | inr f ↦ rw f (elim (cases_Bool (first text == carriage_return && slice_index text 1 == line_feed)) [ inl t ↦ rw t (drop-within 2 text) | inr g ↦ rw g (omega arith) ])
    ]

one_line-within : (text : List ℕ) → Leaves (one_line text) (length (drop 1 text))
unfolding one_line
one_line-within text = body-within (first text) false (length text) (drop 1 text)

quoted-within : (text : List ℕ) → Leaves (quoted text) (length (drop 1 text))
unfolding quoted
quoted-within text =
    let d : length (drop 3 text) ≤ length (drop 1 text) = omega (arith, length-drop 3 text, length-drop 1 text) in
    elim (cases_Bool (slice_index text 1 == first text && slice_index text 2 == first text)) [
      | inl t ↦ rw t (weaken (body (first text) true (length text) (trim_newline (drop 3 text))) (length (trim_newline (drop 3 text))) (length (drop 1 text))
          (body-within (first text) true (length text) (trim_newline (drop 3 text))) (omega (arith, d, trim-within (drop 3 text))))
      | inr f ↦ rw f (one_line-within text)
    ]

simple_key-within : (text : List ℕ) → Leaves (simple_key text) (length text)
unfolding simple_key
simple_key-within text =
    elim (cases_Bool (starts_string text)) [
      | inl t ↦ rw t (weaken (one_line text) (length (drop 1 text)) (length text) (one_line-within text) (drop-within 1 text))
      | inr f ↦ rw f (elim (cases_Bool (is_bare (first text))) [ inl t ↦ rw t (drop-within (prefix_len is_bare text) text) | inr g ↦ rw g tt ])
    ]

key_after-within : (n : ℕ) (path : List (List ℕ)) (text : List ℕ) → Leaves (key_after n path text) (length text)
unfolding key_after
key_after-within zero path text = tt
key_after-within (suc n) path text =
    elim (cases_option (simple_key text)) [
      | inl none ↦ rw none tt
      | inr found ↦
          let (part, some) = found in
          let h : length part.1 ≤ length text = rw some at (simple_key-within text) in
          let w = skip_ws-within part.1 in
          let v = skip_ws-within (drop 1 (skip_ws part.1)) in
          let d = drop-within 1 (skip_ws part.1) in
          rw some (elim (cases_Bool (first (skip_ws part.1) == dot)) [
            | inl t ↦ rw t (weaken (key_after n (path ++ part.0 ∷ []) (skip_ws (drop 1 (skip_ws part.1)))) (length (skip_ws (drop 1 (skip_ws part.1)))) (length text)
                (key_after-within n (path ++ part.0 ∷ []) (skip_ws (drop 1 (skip_ws part.1)))) (omega (arith, h, w, v, d)))
            | inr f ↦ rw f (omega (arith, h, w))
          ])
    ]

key-within : (text : List ℕ) → Leaves (key text) (length text)
key-within text = key_after-within recursion_limit [] text

-- what was read is counted, and fewer than so many bytes are left with it
abbrev pub Shortens : {A : Type 0} → (A → ℕ) → Read A → ℕ → Type 0
Shortens {A} size r n = IfSome {T = A × List ℕ} r (λ p. size p.0 + length p.1 < n)

weaken-holds : {A : Type 0} (size : A → ℕ) (r : Read A) (m n : ℕ) → Holds size r m → m ≤ n → Holds size r n
weaken-holds size None m n h i = tt
weaken-holds size (Some p) m n h i = omega (arith, h, i)

drop-less : (n x : ℕ) (xs : List ℕ) → (n == 0) ≡ false → length (drop n (x ∷ xs)) < suc (length xs)
drop-less zero x xs e = absurd (false≢true (sym e))
drop-less (suc n) x xs e = let d = drop-within n xs in omega (arith, d)

drop-one : (text : List ℕ) → 0 < length text → length (drop 1 text) < length text
drop-one [] h = absurd (omega (arith, h))
drop-one (x ∷ xs) h = omega arith

some-string : (text : List ℕ) → starts_string text ≡ true → 0 < length text
some-string [] e = absurd (false≢true e)
some-string (x ∷ xs) e = omega arith

scalar-elements : (s : Scalar) → elements_in (scalar_data s) ≡ 0
scalar-elements (Scalars.Boolean b) = refl
scalar-elements (Scalars.Integer z) = refl
scalar-elements (Scalars.Float x) = refl
scalar-elements (Scalars.Datetime d) = refl

scalar-shortens : (o : Option Scalar) (rest : List ℕ) (n : ℕ) → length rest < n → Shortens elements_in (read_map scalar_data (option_map (λ d. (d, rest)) o)) n
scalar-shortens None rest n h = tt
scalar-shortens (Some s) rest n h = omega (arith, h, scalar-elements s)

unquoted-shortens : (text : List ℕ) → Shortens elements_in (read_map scalar_data (unquoted text)) (length text)
unfolding unquoted word_len
unquoted-shortens [] = tt
unquoted-shortens (x ∷ xs) =
    elim (cases_Bool (word_len (x ∷ xs) == 0)) [
      | inl t ↦ rw t tt
      | inr f ↦ rw f (scalar-shortens (word_value (take (word_len (x ∷ xs)) (x ∷ xs))) (drop (word_len (x ∷ xs)) (x ∷ xs)) (suc (length xs)) (drop-less (word_len (x ∷ xs)) x xs f))
    ]

string-shortens : (r : Read (List ℕ)) (m n : ℕ) → Leaves r m → m < n → Shortens elements_in (read_map string r) n
string-shortens None m n h i = tt
string-shortens (Some p) m n h i = omega (arith, h, i)

atom-shortens : (text : List ℕ) → Shortens elements_in (atom text) (length text)
unfolding atom
atom-shortens text =
    elim (cases_Bool (starts_string text)) [
      | inl t ↦ rw t (string-shortens (quoted text) (length (drop 1 text)) (length text) (quoted-within text) (drop-one text (some-string text t)))
      | inr f ↦ rw f (unquoted-shortens text)
    ]

key_equals-within : (text : List ℕ) → Leaves (key_equals text) (length text)
unfolding key_equals
key_equals-within text =
    elim (cases_option (key text)) [
      | inl none ↦ rw none tt
      | inr found ↦
          let (k, some) = found in
          let h : length k.1 ≤ length text = rw some at (key-within text) in
          rw some (elim (cases_Bool (first k.1 == equals)) [
            | inl t ↦ rw t (omega (arith, h, drop-within 1 k.1, skip_ws-within (drop 1 k.1)))
            | inr f ↦ rw f tt
          ])
    ]

-- how many elements the value of a pair has
abbrev pub elements_of_pair : Key × Data → ℕ
elements_of_pair p = elements_in p.1

module _ (val : List ℕ → Read Data) (shortens : (text : List ℕ) → Shortens elements_in (val text) (length text)) where
  keyval-shortens : (text : List ℕ) → Shortens elements_of_pair (keyval val text) (length text)
  keyval-shortens text =
      elim (cases_option (key_equals text)) [
        | inl none ↦ rw none tt
        | inr found ↦
            let (k, some) = found in
            let h : length k.1 ≤ length text = rw some at (key_equals-within text) in
            rw some (elim (cases_option (val k.1)) [
              | inl none ↦ rw none tt
              | inr more ↦
                  let (v, one) = more in
                  let i : elements_in v.0 + length v.1 < length k.1 = rw one at (shortens k.1) in
                  rw one (omega (arith, h, i))
            ])
      ]

  items-holds : (n : ℕ) (found : Items) (text : List ℕ) → Holds elements_of_items (items val n found text) (elements_of_items found + length text)
  unfolding items
  items-holds zero found text = tt
  items-holds (suc n) found text =
      let w = skip_from-within true false text in
      elim (cases_Bool (first (skip_blank text) == right_bracket)) [
        | inl t ↦ rw t (omega (arith, w, drop-within 1 (skip_blank text)))
        | inr f ↦ rw f (elim (cases_option (val (skip_blank text))) [
          | inl none ↦ rw none tt
          | inr here ↦
              let (v, one) = here in
              let i : elements_in v.0 + length v.1 < length (skip_blank text) = rw one at (shortens (skip_blank text)) in
              rw one (elim (cases_option (after_element right_bracket v.1)) [
                | inl none ↦ rw none tt
                | inr more ↦
                    let (rest, some) = more in
                    let j : length rest ≤ length v.1 = rw some at (after_element-within right_bracket v.1) in
                    rw some (weaken-holds elements_of_items (items val n (push_item found v.0) rest) (elements_of_items (push_item found v.0) + length rest) (elements_of_items found + length text)
                    (items-holds n (push_item found v.0) rest) (omega (arith, w, i, j, push-elements found v.0)))
              ])
        ])
      ]

  members-holds : (n : ℕ) (found : Nodes) (text : List ℕ) → Holds elements_of_members (members val n found text) (elements_of_nodes found + length text)
  unfolding members
  members-holds zero found text = tt
  members-holds (suc n) found text =
      let w = skip_from-within true false text in
      elim (cases_Bool (first (skip_blank text) == right_brace)) [
        | inl t ↦ rw t (omega (arith, w, drop-within 1 (skip_blank text)))
        | inr f ↦ rw f (elim (cases_option (keyval val (skip_blank text))) [
          | inl none ↦ rw none tt
          | inr here ↦
              let (e, one) = here in
              let i : elements_in e.0.1 + length e.1 < length (skip_blank text) = rw one at (keyval-shortens (skip_blank text)) in
              rw one (elim (cases_option (put e.0.0 e.0.1 found)) [
                | inl none ↦ rw none tt
                | inr next ↦
                    let (new, two) = next in
                    let p : elements_of_nodes new ≤ elements_of_nodes found + elements_in e.0.1 = rw two at (put-elements e.0.0 e.0.1 found) in
                    rw two (elim (cases_option (after_element right_brace e.1)) [
                      | inl none ↦ rw none tt
                      | inr more ↦
                          let (rest, some) = more in
                          let j : length rest ≤ length e.1 = rw some at (after_element-within right_brace e.1) in
                          rw some (weaken-holds elements_of_members (members val n new rest) (elements_of_nodes new + length rest) (elements_of_nodes found + length text)
                          (members-holds n new rest) (omega (arith, w, i, j, p)))
                    ])
              ])
        ])
      ]

array-shortens : (r : Read Items) (m n : ℕ) → Holds elements_of_items r m → m < n → Shortens elements_in (read_map array r) n
array-shortens None m n h i = tt
array-shortens (Some p) m n h i = omega (arith, h, i)

table-shortens : (r : Read Members) (m n : ℕ) → Holds elements_of_members r m → m < n → Shortens elements_in (read_map table r) n
table-shortens None m n h i = tt
table-shortens (Some p) m n h i = omega (arith, h, i)

val-shortens : (depth : ℕ) (text : List ℕ) → Shortens elements_in (val depth text) (length text)
unfolding val
val-shortens zero text = atom-shortens text
val-shortens (suc depth) text =
    elim (cases_Bool (first text == left_bracket)) [
      | inl t ↦ rw t (array-shortens (items (val depth) (length text) no_items (drop 1 text)) (0 + length (drop 1 text)) (length text)
          (items-holds (val depth) (val-shortens depth) (length text) no_items (drop 1 text)) (omega (arith, drop-one text (some-first text left_bracket (omega arith) t))))
      | inr f ↦ rw f (elim (cases_Bool (first text == left_brace)) [
        | inl t ↦ rw t (table-shortens (members (val depth) (length text) no_nodes (drop 1 text)) (0 + length (drop 1 text)) (length text)
            (members-holds (val depth) (val-shortens depth) (length text) no_nodes (drop 1 text)) (omega (arith, drop-one text (some-first text left_brace (omega arith) t))))
        | inr g ↦ rw g (atom-shortens text)
      ])
    ]

header_key-within : (text : List ℕ) → Leaves (header_key text) (length text)
unfolding header_key
header_key-within text =
    elim (cases_option (key (skip_ws text))) [
      | inl none ↦ rw none tt
      | inr found ↦
          let (k, some) = found in
          let h : length k.1 ≤ length (skip_ws text) = rw some at (key-within (skip_ws text)) in
          rw some (elim (cases_Bool (first k.1 == right_bracket)) [
            | inl t ↦ rw t (omega (arith, h, skip_ws-within text, drop-within 1 k.1))
            | inr f ↦ rw f tt
          ])
    ]

and-first : (a b : Bool) → (a && b) ≡ true → a ≡ true
and-first true b e = refl
and-first false b e = e

-- how many elements an expression adds
abbrev pub elements_of_expression : Expression → ℕ
elements_of_expression e = elements_defined e.1

std-holds : (r : Read Key) (n : ℕ) → Leaves r n → Holds elements_of_expression (read_map (λ k. (k, std_table)) r) n
std-holds None n h = tt
std-holds (Some p) n h = omega (arith, h)

pair-holds : (r : Read (Key × Data)) (n : ℕ) → Shortens elements_of_pair r n → Holds elements_of_expression (read_map (λ p. (p.0, key_value p.1)) r) n
pair-holds None n h = tt
pair-holds (Some p) n h = omega (arith, h)

expression-holds : (text : List ℕ) → Holds elements_of_expression (expression text) (length text)
unfolding expression
expression-holds text =
    elim (cases_Bool (first text == left_bracket && slice_index text 1 == left_bracket)) [
      | inl t ↦ rw t (elim (cases_option (header_key (drop 2 text))) [
        | inl none ↦ rw none tt
        | inr found ↦
            let (k, some) = found in
            let h : length k.1 ≤ length (drop 2 text) = rw some at (header_key-within (drop 2 text)) in
            let l = drop-one text (some-first text left_bracket (omega arith) (and-first _ _ t)) in
            rw some (elim (cases_Bool (first k.1 == right_bracket)) [
              | inl b ↦ rw b (omega (arith, h, l, length-drop 1 text, length-drop 2 text, drop-within 1 k.1))
              | inr g ↦ rw g tt
            ])
      ])
      | inr f ↦ rw f (elim (cases_Bool (first text == left_bracket)) [
        | inl t ↦ rw t (weaken-holds elements_of_expression (read_map (λ k. (k, std_table)) (header_key (drop 1 text))) (length (drop 1 text)) (length text)
            (std-holds (header_key (drop 1 text)) (length (drop 1 text)) (header_key-within (drop 1 text))) (drop-within 1 text))
        | inr g ↦ rw g (pair-holds (keyval (val recursion_limit) text) (length text) (keyval-shortens (val recursion_limit) (val-shortens recursion_limit) text))
      ])
    ]

line-holds : (text : List ℕ) → Holds elements_of_expression (line text) (length text)
unfolding line
line-holds text =
    elim (cases_option (expression text)) [
      | inl none ↦ rw none tt
      | inr found ↦
          let (e, some) = found in
          let h : elements_of_expression e.0 + length e.1 ≤ length text = rw some at (expression-holds text) in
          rw some (elim (cases_Bool (ends_line (skip_ws e.1))) [ inl t ↦ rw t h | inr f ↦ rw f tt ])
    ]

weaken-document : (o : Option Document) (m n : ℕ) → IfSome o (λ doc. elements_of_nodes doc.0 ≤ m) → m ≤ n → IfSome o (λ doc. elements_of_nodes doc.0 ≤ n)
weaken-document None m n h i = tt
weaken-document (Some doc) m n h i = omega (arith, h, i)

lines-holds : (n : ℕ) (doc : Document) (text : List ℕ) → IfSome (lines n doc text) (λ last. elements_of_nodes last.0 ≤ elements_of_nodes doc.0 + length text)
unfolding lines
lines-holds zero doc text = tt
lines-holds (suc n) doc text =
    let w = skip_from-within true false text in
    elim (cases_Bool (length (skip_blank text) == 0)) [
      | inl t ↦ rw t (omega arith)
      | inr f ↦ rw f (elim (cases_option (line (skip_blank text))) [
        | inl none ↦ rw none tt
        | inr here ↦
            let (e, one) = here in
            let h : elements_of_expression e.0 + length e.1 ≤ length (skip_blank text) = rw one at (line-holds (skip_blank text)) in
            rw one (elim (cases_option (define doc e.0)) [
              | inl none ↦ rw none tt
              | inr more ↦
                  let (next, some) = more in
                  let d : elements_of_nodes next.0 ≤ elements_of_nodes doc.0 + elements_of_expression e.0 = rw some at (define-elements doc e.0) in
                  rw some (weaken-document (lines n next e.1) (elements_of_nodes next.0 + length e.1) (elements_of_nodes doc.0 + length text) (lines-holds n next e.1) (omega (arith, w, h, d)))
            ])
      ])
    ]

bom-within : (text : List ℕ) → length (skip_bom text) ≤ length text
unfolding skip_bom
bom-within text =
    elim (cases_Bool ((first text == 0xEF && slice_index text 1 == 0xBB) && slice_index text 2 == 0xBF)) [ inl t ↦ rw t (drop-within 3 text) | inr f ↦ rw f (omega arith) ]

-- a document has no more elements than its text has bytes
pub document-elements : (text : List ℕ) → IfSome (parse_document text) (λ root. elements_of_members root ≤ length text)
unfolding parse_document
document-elements text =
    map-some (lines (suc (length text)) (no_nodes, []) (skip_bom text)) (λ doc. close doc.0) (λ doc. elements_of_nodes doc.0 ≤ 0 + length (skip_bom text)) (λ root. elements_of_members root ≤ length text)
    (lines-holds (suc (length text)) (no_nodes, []) (skip_bom text)) (λ doc h. omega (arith, h, bom-within text))
