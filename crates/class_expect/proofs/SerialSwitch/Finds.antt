use Rattle.std.proofs.Common.{◌≡◌, ◌≢◌, ℕ, suc, zero, ◌+◌, ◌<◌, ◌≤◌, Bool, true, false, ◌&&◌, nat_lt, ◌==◌, if◌then◌else◌, List, [], ◌∷◌, ◌++◌, length, take, drop, get_or, Some, None, slice_get, option_to_list, refl, sym, ap, ◌∙◌, subst, append_assoc, arith, length-append, add-one, ltb-true}
use Rattle.std.specs.List.{flat_map}
use Rattle.std.specs.Char.{is_ascii_digit}
use Rattle.std.proofs.lemmas.List.{length-drop, drop-drop}
use Rattle.std.proofs.lemmas.Option.{slice_get_within}
use Rattle.std.proofs.lemmas.Bool.Decides.{eqb_tells}
use Rattle.class_expect.specs.declared.serial_switch.plain.Found.{Found}
use Rattle.class_expect.specs.SerialSwitch.Switching.{Plain, AreDigits, IsRest, Split, bytes_of, ended, escape, confirm, byte_in, number_in, given_by, given_of, input_of, last_client}
use Rattle.class_expect.specs.SerialSwitch.Finding.{StopsAt, Finds, IsRead}
use Rattle.class_expect.proofs.SerialSwitch.Splits.{ended_is_piece, ended_bytes, pieces_text, are_pieces_more, only_split}
use Rattle.class_expect.proofs.SerialSwitch.Steps.{selected-append, given_of-append}

some_eq : {X : Type 0} {a b : X} → Some a ≡ Some b → a ≡ b
some_eq h = cc

are_digits_take : (xs : List ℕ) (n : ℕ) → AreDigits (take n xs) → n < length xs → is_ascii_digit (get_or xs n 0) ≡ true → AreDigits (take (suc n) xs)
are_digits_take [] n h l d = tt
are_digits_take (x ∷ xs) zero h l d = (d, tt)
are_digits_take (x ∷ xs) (suc n) h l d = (h.0, are_digits_take xs n h.1 (omega arith) d)

pub one_digit_more : (xs : List ℕ) (n : ℕ) → AreDigits (take n xs) → n < length xs → is_ascii_digit (get_or xs n 0) ≡ true → AreDigits (take (n + 1) xs)
one_digit_more xs n h l d = rw add-one (are_digits_take xs n h l d)

take_get_drop : (xs : List ℕ) (n x : ℕ) → slice_get xs n ≡ Some x → take n xs ++ (x ∷ drop (suc n) xs) ≡ xs
take_get_drop [] n x h = cc
take_get_drop (y ∷ ys) zero x h = ap (λ k. k ∷ ys) (sym (some_eq h))
take_get_drop (y ∷ ys) (suc n) x h = ap (λ k. y ∷ k) (take_get_drop ys n x h)

length_take : (xs : List ℕ) (n : ℕ) → n < length xs → length (take n xs) ≡ n
length_take [] n l = absurd (omega arith)
length_take (y ∷ ys) zero l = refl
length_take (y ∷ ys) (suc n) l = ap suc (length_take ys n (omega arith))

pub plain_found : (input : List ℕ) (b : ℕ) → slice_get input 0 ≡ Some b → b ≢ escape → Finds (record { length = 1; gives = Some b; selects = None }) input
plain_found [] b h ne = cc
plain_found (x ∷ xs) b h ne = record { piece = Plain b; is_piece = ne; begins = ap (λ k. k ∷ xs) (sym (some_eq h)); long = refl; gives = refl; selects = refl }

stops_and : (n x : ℕ) → (b : Bool) → nat_lt n 4 ≡ b → (n < 4 → is_ascii_digit x ≡ false) → (is_ascii_digit x && nat_lt n 4) ≡ false
stops_and n x true e h = ap (λ d. d && nat_lt n 4) (h (ltb-true n 4 e))
stops_and n x false e h = and_no (is_ascii_digit x) (nat_lt n 4) e
  where
    and_no : (a b : Bool) → b ≡ false → (a && b) ≡ false
    and_no true b f = f
    and_no false b f = refl

ended_found_in : (input : List ℕ) (f : Found) (n e : ℕ) → slice_get input 0 ≡ Some escape → n ≤ 4 → AreDigits (take n (drop 1 input)) → StopsAt n (drop 1 input) → slice_get (drop 1 input) n ≡ Some e
    → f.length ≡ length (take n (drop 1 input)) + 2 → option_to_list f.gives ≡ byte_in (ended (take n (drop 1 input)) e) → option_to_list f.selects ≡ number_in (ended (take n (drop 1 input)) e) → Finds f input
ended_found_in [] f n e h few ds stops at long gives selects = cc
ended_found_in (x ∷ xs) f n e h few ds stops at long gives selects =
    let within : n < length xs = slice_get_within xs n e at in
    let count : length (take n xs) ≡ n = length_take xs n within in
    let few' : length (take n xs) ≤ 4 = omega (arith, count) in
    let far : f.length ≡ suc (suc n) = omega (arith, long, count) in
    let last : length (escape ∷ (take n xs ++ e ∷ [])) ≡ length (take n xs) + 2 = omega (arith, length-append (take n xs) (e ∷ [])) in
    let bytes = ended_bytes (take n xs) e (eqb_tells e escape) (eqb_tells e confirm) in
    record {
      piece = ended (take n xs) e;
      is_piece = ended_is_piece (take n xs) e ds few' (subst (λ k. (is_ascii_digit e && nat_lt k 4) ≡ false) (sym count) (stops_and n e _ refl (λ l. stops e l at))) (eqb_tells e escape) (eqb_tells e confirm);
      begins = ap (λ bs. bs ++ drop f.length (x ∷ xs)) bytes ∙ (ap (λ k. escape ∷ ((take n xs ++ e ∷ []) ++ drop k (x ∷ xs))) far ∙ (ap (λ bs. escape ∷ bs) (append_assoc (take n xs) (e ∷ []) (drop (suc n) xs) ∙ take_get_drop xs n e at) ∙ ap (λ k. k ∷ xs) (sym (some_eq h))));
      long = long ∙ sym (ap length bytes ∙ last);
      gives = gives;
      selects = selects;
    }

-- the same of what stands after the first byte
pub ended_found : (input inside : List ℕ) (f : Found) (n e : ℕ) → inside ≡ drop 1 input → slice_get input 0 ≡ Some escape → n ≤ 4 → AreDigits (take n inside) → StopsAt n inside → slice_get inside n ≡ Some e
    → f.length ≡ length (take n inside) + 2 → option_to_list f.gives ≡ byte_in (ended (take n inside) e) → option_to_list f.selects ≡ number_in (ended (take n inside) e) → Finds f input
ended_found input inside f n e is h few ds stops at long gives selects = ended_found_in input f n e h few (subst (λ xs. AreDigits (take n xs)) is ds) (subst (StopsAt n) is stops) (subst (λ xs. slice_get xs n ≡ Some e) is at)
    (subst (λ xs. f.length ≡ length (take n xs) + 2) is long) (subst (λ xs. option_to_list f.gives ≡ byte_in (ended (take n xs) e)) is gives) (subst (λ xs. option_to_list f.selects ≡ number_in (ended (take n xs) e)) is selects)

-- one piece more
pub read_more : (clients client : ℕ) (input : List ℕ) (at selected_now : ℕ) (given : List ℕ) (f : Found) (given' : List ℕ) → IsRead clients client input at selected_now given → Finds f (drop at input)
    → given' ≡ given ++ (if selected_now == client then option_to_list f.gives else []) → IsRead clients client input (at + f.length) (last_client clients selected_now (option_to_list f.selects)) given'
read_more clients client input at selected_now given f given' h found more =
    let parts : length (bytes_of found.piece) + length (drop f.length (drop at input)) ≡ length (drop at input) = sym (length-append (bytes_of found.piece) (drop f.length (drop at input))) ∙ ap length found.begins in
    record {
      pieces = h.pieces ++ found.piece ∷ [];
      are_pieces = are_pieces_more h.pieces found.piece h.are_pieces found.is_piece;
      text = ap (λ bs. bs ++ drop (at + f.length) input) (pieces_text h.pieces found.piece) ∙ (append_assoc (flat_map bytes_of h.pieces) (bytes_of found.piece) (drop (at + f.length) input) ∙ (ap (λ bs. flat_map bytes_of h.pieces ++ (bytes_of found.piece ++ bs)) (sym (drop-drop f.length at input)) ∙ (ap (λ bs. flat_map bytes_of h.pieces ++ bs) found.begins ∙ h.text)));
      within = omega (arith, found.long, h.within, parts, length-drop at input);
      chosen = ap (last_client clients selected_now) found.selects ∙ (ap (λ k. last_client clients k (number_in found.piece)) h.chosen ∙ sym (selected-append clients h.pieces found.piece));
      has = more ∙ (ap (λ g. g ++ (if selected_now == client then option_to_list f.gives else [])) h.has ∙ (ap (λ b. given_of clients client h.pieces ++ (if selected_now == client then b else [])) found.gives ∙ (ap (λ k. given_of clients client h.pieces ++ given_by k client found.piece) h.chosen ∙ sym (given_of-append clients client h.pieces found.piece))));
    }

pub read_all : (clients client : ℕ) (input : List ℕ) (at selected_now : ℕ) (given : List ℕ) → IsRead clients client input at selected_now given → IsRest (drop at input) → given ≡ input_of clients client input
read_all clients client input at selected_now given h rest = h.has ∙ ap (λ (s : Split). given_of clients client s.pieces) (only_split input (record { pieces = h.pieces; rest = drop at input }) (record { pieces = h.are_pieces; rest = rest; text = h.text }))
