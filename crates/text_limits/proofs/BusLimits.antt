use Rattle.std.proofs.Common.{◌≡◌, ℕ, zero, suc, ◌+◌, ◌≤◌, Bool, true, false, cond, leb, eqb, ◌&&◌, ◌||◌, inl, inr, List, [], ◌∷◌, ◌++◌, length, sum_by, count_by, get_or, codes, Option, Some, None, refl, sym, ◌∙◌, arith, add-one}
use Rattle.std.specs.Option.{option_map, option_and_then, option_to_list}
use Rattle.std.proofs.lemmas.Bool.{cases_Bool, leb-true, leb-false, ltb-false, eqb-false, eq-eqb}
use Rattle.std.proofs.lemmas.Option.{slice_get-get_or}
use Rattle.i2c_text.specs.declared.bus.Bus.{Bus}
use Rattle.i2c_text.specs.declared.bus.BusAsk.TheVariants as Asks
use Rattle.i2c_text.specs.declared.line.Line.{Line}
use Rattle.i2c_text.specs.declared.line.Line.TheVariants as Says
use Rattle.line_text.specs.Texts.{lines_of, words_of, is_skipped, same_text, number_of, number_from}
use Rattle.i2c_text.specs.Texts.{bytes_of}
use Rattle.line_text.specs.Lists.{per_client}
use Rattle.line_text.proofs.Rows.{length_per_client}
use Rattle.i2c_text.specs.Lines.{words_say, meaning, client_of, address_of, read_said, write_said}
use Rattle.i2c_text.specs.Buses.{clients_said, clients_in, asks_said, is_ask, is_said, is_out_of_place, is_bad_after, lines_before, bus_from, bus_of, HasNoBadLine, IsReadBus}
use Rattle.i2c_text.proofs.SoFar.{said_more, bad_line, bad_end, no_lines}
use Rattle.text_limits.specs.Limits.{KeepsBusLimits}
use Rattle.text_limits.proofs.Totals.{sum_more, none_total, one_total, total}

-- a line names at most 8 clients
abbrev Names8 : Option Line → Type 0
Names8 None = Unit {0}
Names8 (Some e) = clients_said e ≤ 8

record IsFew (m : Option Line) : Type 0 where
  pub names : Names8 m

either_8 : (b : Bool) (x y : Option Line) → IsFew x → IsFew y → IsFew (cond b x y)
either_8 true x y h i = h
either_8 false x y h i = i

then_8 : {A : Type 0} (m : Option A) (f : A → Option Line) → ((a : A) → IsFew (f a)) → IsFew (option_and_then f m)
then_8 None f h = record { names = tt }
then_8 (Some a) f h = h a

map_8 : {A : Type 0} (m : Option A) (f : A → Line) → ((a : A) → clients_said (f a) ≤ 8) → IsFew (option_map f m)
map_8 None f h = record { names = tt }
map_8 (Some a) f h = record { names = h a }

none_8 : IsFew None
none_8 = record { names = tt }

and_right : (a b : Bool) → (a && b) ≡ true → b ≡ true
and_right true b h = h
and_right false b h = cc

or_right : (a b : Bool) → (a || b) ≡ false → b ≡ false
or_right true b h = cc
or_right false b h = h

number_8 : (m : Option ℕ) → IsFew (option_map (λ n. Says.Clients n) (option_and_then (λ n. cond (leb 1 n && leb n 8) (Some n) None) m))
number_8 None = none_8
number_8 (Some n) = elim (cases_Bool (leb 1 n && leb n 8)) [
  | inl is ↦ rw is (record { names = leb-true n 8 (and_right (leb 1 n) (leb n 8) is) })
  | inr isnt ↦ rw isnt none_8
]

words_8 : (ws : List (List ℕ)) → IsFew (words_say ws)
unfolding words_say read_said write_said
words_8 [] = none_8
words_8 (a ∷ []) = none_8
words_8 (a ∷ b ∷ []) = either_8 _ _ _ (number_8 (number_of b)) (either_8 _ _ _ (map_8 (address_of b) (λ d. Says.Device d) (λ d. omega arith)) none_8)
words_8 (a ∷ b ∷ c ∷ []) = either_8 _ _ _ (then_8 _ _ (λ d. map_8 (address_of c) (λ e. Says.Ask d (Asks.Claim e)) (λ e. omega arith))) none_8
words_8 (a ∷ b ∷ c ∷ d ∷ []) =
    either_8 (same_text a (codes "read")) (read_said b c d) _ (then_8 (client_of b) _ (λ e. then_8 (address_of c) _ (λ f. map_8 (number_from 1 32 d) (λ n. Says.Ask e (Asks.Read f n)) (λ n. omega arith))))
    (either_8 (same_text a (codes "write")) (write_said b c d) None (then_8 (client_of b) _ (λ e. then_8 (address_of c) _ (λ f. map_8 (bytes_of d) (λ n. Says.Ask e (Asks.Write f n)) (λ n. omega arith)))) none_8)
words_8 (a ∷ b ∷ c ∷ d ∷ e ∷ ws) = none_8

line_8 : (line : List ℕ) → IsFew (meaning line)
unfolding meaning
line_8 line = either_8 (is_skipped line) (Some Says.Skipped) (words_say (words_of line)) (record { names = omega arith }) (words_8 (words_of line))

-- what counts towards the limits is within them
record IsWithin (lines : List Line) : Type 0 where
  pub asks : count_by is_ask lines ≤ 1024
  pub clients : clients_in lines ≤ 8
  pub unsaid : count_by is_said lines ≡ 0 → clients_in lines ≡ 0

asks_more : (lines : List Line) (e : Line) → count_by is_ask (lines ++ e ∷ []) ≡ count_by is_ask lines + cond (is_ask e) 1 0
asks_more lines e = sum_more (λ x. cond (is_ask x) 1 0) lines e

said_count : (lines : List Line) (e : Line) → count_by is_said (lines ++ e ∷ []) ≡ count_by is_said lines + cond (is_said e) 1 0
said_count lines e = sum_more (λ x. cond (is_said x) 1 0) lines e

clients_more : (lines : List Line) (e : Line) → clients_in (lines ++ e ∷ []) ≡ clients_in lines + clients_said e
clients_more lines e = sum_more clients_said lines e

-- what one more line adds to the counts fits in
fits : (lines : List Line) (e : Line) → IsWithin lines → clients_said e ≤ 8 → is_out_of_place lines e ≡ false
    → (count_by is_ask lines + cond (is_ask e) 1 0 ≤ 1024) × (clients_in lines + clients_said e ≤ 8) × (count_by is_said lines + cond (is_said e) 1 0 ≡ 0 → clients_in lines + clients_said e ≡ 0)
fits lines Says.Skipped h small taken = (omega (arith, h.asks), omega (arith, h.clients), λ none. omega (arith, h.unsaid (omega (arith, none))))
fits lines (Says.Clients n) h small taken =
    let none = h.unsaid (omega (arith, ltb-false 0 (count_by is_said lines) taken)) in
    (omega (arith, h.asks), omega (arith, none, small), λ one. absurd (omega (arith, one)))
fits lines (Says.Device a) h small taken = (omega (arith, h.asks), omega (arith, h.clients), λ one. absurd (omega (arith, one)))
fits lines (Says.Ask c ask) h small taken =
    let few = leb-false 1024 (count_by is_ask lines) (or_right (leb (clients_in lines) c) (leb 1024 (count_by is_ask lines)) taken) in
    (omega (arith, few), omega (arith, h.clients), λ one. absurd (omega (arith, one)))

within_more : (lines : List Line) (m : Option Line) → IsWithin lines → Names8 m → is_bad_after lines m ≡ false → IsWithin (lines ++ option_to_list m)
within_more lines None h small taken = cc
within_more lines (Some e) h small taken = let all = fits lines e h small taken in record {
  asks = rw (asks_more lines e) all.0;
  clients = rw (clients_more lines e) all.1;
  unsaid = λ none. clients_more lines e ∙ all.2 (sym (said_count lines e) ∙ none);
}

within_before : (text : List ℕ) (k : ℕ) → HasNoBadLine text → k ≤ length (lines_of text) → IsWithin (lines_before text k)
within_before text zero good within = rw (no_lines text) (record { asks = omega arith; clients = omega arith; unsaid = λ h. refl })
within_before text (suc k) good within =
    let at = slice_get-get_or (lines_of text) k [] (omega (arith, within)) in
    let line = get_or (lines_of text) k [] in
    rw (← add-one k, said_more text k line at)
    (within_more (lines_before text k) (meaning line) (within_before text k good (omega (arith, within))) ((line_8 line).names)
    (sym (bad_line text k line at) ∙ good k))

-- the text names clients
has_clients : (text : List ℕ) → HasNoBadLine text → 1 ≤ clients_in (lines_before text (length (lines_of text)))
has_clients text good =
    let n = length (lines_of text) in
    let last : (eqb n n && eqb (clients_in (lines_before text n)) 0) ≡ false = sym (bad_end text n (omega arith)) ∙ good n in
    let some : eqb (clients_in (lines_before text n)) 0 ≡ false = rw (eq-eqb n n refl) at last in
    let differ = eqb-false (clients_in (lines_before text n)) 0 some in
    omega (arith, differ)

-- one line gives as many requests as it counts
one_ask : (n : ℕ) (e : Line) → sum_by length (per_client n (λ k. asks_said k e)) ≤ cond (is_ask e) 1 0
one_ask n Says.Skipped = rw (none_total n (λ k. asks_said k Says.Skipped) (λ k. refl)) (omega arith)
one_ask n (Says.Clients m) = rw (none_total n (λ k. asks_said k (Says.Clients m)) (λ k. refl)) (omega arith)
one_ask n (Says.Device a) = rw (none_total n (λ k. asks_said k (Says.Device a)) (λ k. refl)) (omega arith)
one_ask n (Says.Ask c ask) = let most = one_total n c (ask ∷ []) (λ k. asks_said k (Says.Ask c ask)) (λ k. refl) in omega (arith, most)

from_lines : (lines : List Line) → IsWithin lines → 1 ≤ clients_in lines → KeepsBusLimits (bus_from lines)
unfolding bus_from
from_lines lines h some = record {
  enough = some;
  few = h.clients;
  lists = length_per_client (clients_in lines) _;
  asks =
      let most = total (clients_in lines) asks_said (λ e. cond (is_ask e) 1 0) lines (one_ask (clients_in lines)) in
      omega (arith, most, h.asks);
}

-- a bus that was read keeps the limits
pub bus_kept : (bus : Bus) → IsReadBus bus → KeepsBusLimits bus
unfolding bus_of
bus_kept bus h =
    rw h.given (from_lines (lines_before h.text (length (lines_of h.text))) (within_before h.text (length (lines_of h.text)) h.good (omega arith)) (has_clients h.text h.good))
