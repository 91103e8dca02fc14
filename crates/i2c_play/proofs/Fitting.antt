-- The actors of a bus that was read can be made.
use Rattle.std.proofs.Common.{◌≡◌, ◌+◌, ◌<◌, ◌≤◌, ◌&&◌, ◌==◌, ◌^◌, ◌⊎◌, inl, inr, ℕ, zero, suc, Bool, true, false, cond, leb, nat_le, Option, Some, None, List, [], ◌∷◌, ◌++◌, length, sum_by, flat_map, slice_get, get_or, codes, refl, sym, ap, ◌∙◌, subst, arith, add-one}
use Rattle.std.specs.Option.{option_map, option_and_then, option_to_list}
use Rattle.std.proofs.lemmas.Bool.{cases_Bool}
use Rattle.std.proofs.lemmas.List.Sums.{sum_by-cons}
use Rattle.std.proofs.lemmas.Option.{slice_get-get_or}
use Rattle.i2c_text.specs.declared.bus.Bus.{Bus}
use Rattle.i2c_text.specs.declared.bus.BusAsk.{BusAsk}
use Rattle.i2c_text.specs.declared.bus.BusAsk.TheVariants as Asks
use Rattle.i2c_text.specs.declared.line.Line.{Line}
use Rattle.i2c_text.specs.declared.line.Line.TheVariants as Says
use Rattle.line_text.specs.Texts.{lines_of, words_of, is_skipped, same_text, number_of, number_from, digits_meaning}
use Rattle.line_text.specs.Lists.{per_client}
use Rattle.i2c_text.specs.Texts.{bytes_of}
use Rattle.i2c_text.specs.Lines.{words_say, meaning, client_of, address_of, read_said, write_said}
use Rattle.i2c_text.specs.Buses.{asks_said, lines_before, bus_from, bus_of, clients_in, IsReadBus}
use Rattle.i2c_text.proofs.SoFar.{said_more, no_lines}
use Rattle.i2c_virt.specs.I2cKit.Pages.{is_request, is_address, is_count}
use Rattle.i2c_virt.specs.I2cClient.Asking.{AreRequests}
use Rattle.bus_law.specs.I2cActors.Casting.{IsFitBus}
use Rattle.bus_law.proofs.I2cActors.Places.{get_split}
use Rattle.play_core.proofs.Lists.{some_is}
use Rattle.text_limits.specs.Limits.{KeepsBusLimits}

-- a line asks for what can be asked, where it asks
abbrev pub GoodLine : Line → Type 0
GoodLine Says.Skipped = Unit {0}
GoodLine (Says.Clients n) = Unit {0}
GoodLine (Says.Device a) = Unit {0}
GoodLine (Says.Ask c ask) = is_request ask ≡ true

abbrev Good : Option Line → Type 0
Good None = Unit {0}
Good (Some e) = GoodLine e

record IsGood (m : Option Line) : Type 0 where
  pub good : Good m

none_good : IsGood None
none_good = record { good = tt }

either_good : (b : Bool) (x y : Option Line) → IsGood x → IsGood y → IsGood (cond b x y)
either_good true x y h i = h
either_good false x y h i = i

then_good : {A : Type 0} (m : Option A) (f : A → Option Line) → ((a : A) → IsGood (f a)) → IsGood (option_and_then f m)
then_good None f h = none_good
then_good (Some a) f h = h a

map_good : {A : Type 0} (m : Option A) (f : A → Line) → ((a : A) → GoodLine (f a)) → IsGood (option_map f m)
map_good None f h = none_good
map_good (Some a) f h = record { good = h a }

-- a number within bounds that a word spells
cond_then : (b : Bool) (n : ℕ) (f : ℕ → Option Line) → (b ≡ true → IsGood (f n)) → IsGood (option_and_then f (cond b (Some n) None))
cond_then true n f h = h refl
cond_then false n f h = none_good

cond_map : (b : Bool) (n : ℕ) (f : ℕ → Line) → (b ≡ true → GoodLine (f n)) → IsGood (option_map f (cond b (Some n) None))
cond_map true n f h = record { good = h refl }
cond_map false n f h = none_good

from_then : (least most : ℕ) (m : Option ℕ) (f : ℕ → Option Line) → ((n : ℕ) → (nat_le least n && nat_le n most) ≡ true → IsGood (f n)) → IsGood (option_and_then f (option_and_then (λ n. cond (nat_le least n && nat_le n most) (Some n) None) m))
from_then least most None f h = none_good
from_then least most (Some n) f h = cond_then (nat_le least n && nat_le n most) n f (h n)

from_map : (least most : ℕ) (m : Option ℕ) (f : ℕ → Line) → ((n : ℕ) → (nat_le least n && nat_le n most) ≡ true → GoodLine (f n)) → IsGood (option_map f (option_and_then (λ n. cond (nat_le least n && nat_le n most) (Some n) None) m))
from_map least most None f h = none_good
from_map least most (Some n) f h = cond_map (nat_le least n && nat_le n most) n f (h n)

bytes_cond : (b : Bool) (bytes : List ℕ) (f : List ℕ → Line) → (b ≡ true → GoodLine (f bytes)) → IsGood (option_map f (cond b (Some bytes) None))
bytes_cond true bytes f h = record { good = h refl }
bytes_cond false bytes f h = none_good

bytes_map : (m : Option (List ℕ)) (f : List ℕ → Line) → ((bytes : List ℕ) → is_count (length bytes) ≡ true → GoodLine (f bytes)) → IsGood (option_map f (option_and_then (λ bytes. cond (nat_le 1 (length bytes) && nat_le (length bytes) 32) (Some bytes) None) m))
bytes_map None f h = none_good
bytes_map (Some bytes) f h = bytes_cond (nat_le 1 (length bytes) && nat_le (length bytes) 32) bytes f (h bytes)

both : (a b : Bool) → a ≡ true → b ≡ true → (a && b) ≡ true
both true b h i = i
both false b h i = cc

words_good : (ws : List (List ℕ)) → IsGood (words_say ws)
unfolding words_say read_said write_said bytes_of
words_good [] = none_good
words_good (a ∷ []) = none_good
words_good (a ∷ b ∷ []) = either_good _ _ _ (map_good (number_from 1 8 b) (λ n. Says.Clients n) (λ n. tt)) (either_good _ _ _ (map_good (address_of b) (λ d. Says.Device d) (λ d. tt)) none_good)
words_good (a ∷ b ∷ c ∷ []) = either_good _ _ _ (then_good (client_of b) _ (λ d. from_map 8 119 (number_of c) (λ e. Says.Ask d (Asks.Claim e)) (λ e h. h))) none_good
words_good (a ∷ b ∷ c ∷ d ∷ []) =
    either_good (same_text a (codes "read")) (read_said b c d) _ (then_good (client_of b) _ (λ e. from_then 8 119 (number_of c) _ (λ f h. from_map 1 32 (number_of d) (λ n. Says.Ask e (Asks.Read f n)) (λ n i. both (is_address f) (is_count n) h i))))
    (either_good (same_text a (codes "write")) (write_said b c d) None (then_good (client_of b) _ (λ e. from_then 8 119 (number_of c) _ (λ f h. bytes_map (digits_meaning d) (λ n. Says.Ask e (Asks.Write f n)) (λ n i. both (is_address f) (is_count (length n)) h i)))) none_good)
words_good (a ∷ b ∷ c ∷ d ∷ e ∷ ws) = none_good

line_good : (line : List ℕ) → IsGood (meaning line)
unfolding meaning
line_good line = either_good (is_skipped line) (Some Says.Skipped) (words_say (words_of line)) (record { good = tt }) (words_good (words_of line))

-- so are all lines of a text
abbrev AllGood : List Line → Type 0
AllGood [] = Unit {0}
AllGood (e ∷ es) = GoodLine e × AllGood es

one_good : (es : List Line) (m : Option Line) → AllGood es → Good m → AllGood (es ++ option_to_list m)
one_good [] None h g = tt
one_good [] (Some e) h g = (g, tt)
one_good (x ∷ es) m h g = (h.0, one_good es m h.1 g)

good_before : (text : List ℕ) (k : ℕ) → k ≤ length (lines_of text) → AllGood (lines_before text k)
good_before text zero within = rw (no_lines text) tt
good_before text (suc k) within =
    let at = slice_get-get_or (lines_of text) k [] (omega (arith, within)) in
    let line = get_or (lines_of text) k [] in
    rw (← add-one k, said_more text k line at) (one_good (lines_before text k) (meaning line) (good_before text k (omega (arith, within))) (line_good line).good)

-- what a line gives to a client
said_one : (b : Bool) (ask : BusAsk) → is_request ask ≡ true → (k : ℕ) (q : BusAsk) → slice_get (cond b (ask ∷ []) []) k ≡ Some q → is_request q ≡ true
said_one true ask h zero q at = subst (λ x. is_request x ≡ true) (some_is at) h
said_one true ask h (suc k) q at = cc
said_one false ask h k q at = cc

said_good : (c : ℕ) (e : Line) → GoodLine e → AreRequests (asks_said c e)
said_good c Says.Skipped h k q at = cc
said_good c (Says.Clients n) h k q at = cc
said_good c (Says.Device a) h k q at = cc
said_good c (Says.Ask d ask) h k q at = said_one (d == c) ask h k q at

either_said : (c : ℕ) (e : Line) (es : List Line) → GoodLine e → AreRequests (flat_map (asks_said c) es) → (k : ℕ) (q : BusAsk) → (slice_get (asks_said c e) k ≡ Some q) ⊎ ((j : ℕ) × (slice_get (flat_map (asks_said c) es) j ≡ Some q) × (k ≡ length (asks_said c e) + j)) → is_request q ≡ true
either_said c e es g rest k q (inl i) = said_good c e g k q i
either_said c e es g rest k q (inr i) = rest i.0 q i.1

all_said : (c : ℕ) (es : List Line) → AllGood es → AreRequests (flat_map (asks_said c) es)
all_said c [] h k q at = cc
all_said c (e ∷ es) h k q at = either_said c e es h.0 (all_said c es h.1) k q (get_split (asks_said c e) (flat_map (asks_said c) es) k q at)

-- the list of a client
of_client : {T : Type 0} (n : ℕ) (f : ℕ → T) (c : ℕ) (x : T) → slice_get (per_client n f) c ≡ Some x → f c ≡ x
of_client zero f c x at = cc
of_client (suc n) f zero x at = some_is at
of_client (suc n) f (suc c) x at = of_client n (λ k. f (suc k)) c x at

module _ (bus : Bus) (read : IsReadBus bus) where
  abbrev lines : List Line
  lines = lines_before read.text (length (lines_of read.text))

  bus_is : bus ≡ bus_from lines
  unfolding bus_of
  bus_is = read.given

  asks_are : bus.asks ≡ per_client (clients_in lines) (λ c. flat_map (asks_said c) lines)
  unfolding bus_from
  asks_are = ap (λ (b : Bus). b.asks) bus_is

  asks_good : (c : ℕ) (asks : List BusAsk) → slice_get bus.asks c ≡ Some asks → AreRequests asks
  asks_good c asks at = subst AreRequests (of_client (clients_in lines) (λ d. flat_map (asks_said d) lines) c asks (ap (λ l. slice_get l c) (sym asks_are) ∙ at)) (all_said c lines (good_before read.text (length (lines_of read.text)) (omega arith)))

-- a list is no longer than all together
one_of : {T : Type 0} (lists : List (List T)) (c : ℕ) (l : List T) → slice_get lists c ≡ Some l → length l ≤ sum_by length lists
one_of [] c l at = cc
one_of (x ∷ lists) zero l at = let e = ap length (some_is at) in let s = sum_by-cons length x lists in omega (arith, e, s)
one_of (x ∷ lists) (suc c) l at = let h = one_of lists c l at in let s = sum_by-cons length x lists in omega (arith, h, s)

pub fit_bus : (bus : Bus) → IsReadBus bus → KeepsBusLimits bus → IsFitBus bus
fit_bus bus read keeps = record {
  few = let h = keeps.few in omega (arith, h);
  each = keeps.lists;
  good = asks_good bus read;
  short = λ c asks at. let h = one_of bus.asks c asks at in let s = keeps.asks in omega (arith, h, s);
}
