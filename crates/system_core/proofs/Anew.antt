-- Where nothing was taken before the journal begins, its own calls tell all that was dropped.
use Rattle.std.proofs.Common.{◌≡◌, ◌++◌, ◌&&◌, ℕ, Bool, true, false, cond, nat_lt, List, [], ◌∷◌, length, refl, sym, ap, ◌∙◌, arith, append_assoc}
use Rattle.std.proofs.lemmas.Bool.{le-ltb}
use Rattle.std.proofs.lemmas.Grind.{flat_map-append}
use Rattle.std.proofs.lemmas.List.{append-nil}
use Rattle.wire_core.specs.declared.names.Event.{Event}
use Rattle.wire_core.specs.Ends.{Producer}
use Rattle.wire_core.specs.Fates.{Came, Served, Refused, Other, Fate, Reading, no_fate, fate_after, fate_from, is_take_at, is_vain_at}
use Rattle.class_expect.specs.SerialSwitch.Switching.{input_of}
use Rattle.serial_virt.specs.Shares.{Taker, byte_fate, byte_told, came_to, heard, is_put_at, policy_at, serial_word}
use Rattle.serial_law.specs.Dropped.{taker, told_marks}

-- what became of things by calls is what became of them by the first and then by the others
from_append : (word : Reading) (bs : List Event) (f : Fate) (xs ys : List Event) → fate_from word bs f (xs ++ ys) ≡ fate_from word (bs ++ xs) (fate_from word bs f xs) ys
from_append word bs f [] ys = ap (λ cs. fate_from word cs f ys) (sym (append-nil bs))
from_append word bs f (x ∷ xs) ys =
    from_append word (bs ++ x ∷ []) (fate_after f (word bs x)) xs ys
    ∙ ap (λ cs. fate_from word cs (fate_from word (bs ++ x ∷ []) (fate_after f (word bs x)) xs) ys) (append_assoc bs (x ∷ []) xs)

-- two lists that are nothing together are nothing each
both_nothing : (xs ys : List ℕ) → xs ++ ys ≡ [] → (xs ≡ []) × (ys ≡ [])
both_nothing [] ys is = (refl, is)
both_nothing (x ∷ xs) ys is = cc

-- nothing came and nothing waits, so nothing is settled
still : (a b c : Bool) → fate_after no_fate (cond a Other (cond b Served (cond c Refused Other))) ≡ no_fate
still true b c = refl
still false true c = refl
still false false true = refl
still false false false = refl

module _ (rx : ℕ) (t : Taker) where
  abbrev word : Reading
  word = serial_word rx t

  heard_both : (xs ys : List Event) → heard rx (xs ++ ys) ≡ heard rx xs ++ heard rx ys
  heard_both xs ys = flat_map-append (λ (e : Event). cond (is_take_at rx e) (byte_told e.item) []) xs ys

  -- a call at which no byte was taken brings none to the client
  word_at : (before : List Event) (e : Event) → heard rx (before ++ e ∷ []) ≡ heard rx before → word before e ≡ cond (is_take_at rx e) Other (cond (is_put_at t.queue e) Served (cond (t.drops && is_vain_at Producer t.queue e) Refused Other))
  word_at before e same =
      let many : length (came_to rx t (before ++ e ∷ [])) ≡ length (came_to rx t before) = ap (λ bs. length (input_of t.clients t.client bs)) same in
      let none : nat_lt (length (came_to rx t before)) (length (came_to rx t (before ++ e ∷ []))) ≡ false = le-ltb (length (came_to rx t before)) (length (came_to rx t (before ++ e ∷ []))) (omega (arith, many)) in
      ap (λ b. cond (is_take_at rx e) (cond b Came Other) (cond (is_put_at t.queue e) Served (cond (t.drops && is_vain_at Producer t.queue e) Refused Other))) none

  quiet : (before es : List Event) → heard rx es ≡ [] → fate_from word before no_fate es ≡ no_fate
  quiet before [] none = refl
  quiet before (e ∷ es) none =
      let two = both_nothing (cond (is_take_at rx e) (byte_told e.item) []) (heard rx es) none in
      let same : heard rx (before ++ e ∷ []) ≡ heard rx before = heard_both before (e ∷ []) ∙ (ap (λ y. heard rx before ++ (y ++ [])) two.0 ∙ append-nil (heard rx before)) in
      ap (λ w. fate_from word (before ++ e ∷ []) (fate_after no_fate w) es) (word_at before e same)
      ∙ (ap (λ f. fate_from word (before ++ e ∷ []) f es) (still (is_take_at rx e) (is_put_at t.queue e) (t.drops && is_vain_at Producer t.queue e)) ∙ quiet (before ++ e ∷ []) es two.1)

  -- calls at which nothing was taken don't matter to those behind them
  shift : (past before : List Event) (f : Fate) (es : List Event) → heard rx past ≡ [] → fate_from word (past ++ before) f es ≡ fate_from word before f es
  shift past before f [] none = refl
  shift past before f (e ∷ es) none =
      let was : heard rx (past ++ before) ≡ heard rx before = heard_both past before ∙ ap (λ x. x ++ heard rx before) none in
      let now : heard rx ((past ++ before) ++ e ∷ []) ≡ heard rx (before ++ e ∷ []) = ap (heard rx) (append_assoc past before (e ∷ [])) ∙ (heard_both past (before ++ e ∷ []) ∙ ap (λ x. x ++ heard rx (before ++ e ∷ [])) none) in
      let same : word (past ++ before) e ≡ word before e = (λ i. cond (is_take_at rx e) (cond (nat_lt (length (input_of t.clients t.client (was i))) (length (input_of t.clients t.client (now i)))) Came Other) (cond (is_put_at t.queue e) Served (cond (t.drops && is_vain_at Producer t.queue e) Refused Other))) in
      ap (λ w. fate_from word ((past ++ before) ++ e ∷ []) (fate_after f w) es) same
      ∙ (ap (λ cs. fate_from word cs (fate_after f (word before e)) es) (append_assoc past before (e ∷ [])) ∙ shift past (before ++ e ∷ []) (fate_after f (word before e)) es none)

  fate_anew : (past es : List Event) → heard rx past ≡ [] → byte_fate rx t (past ++ es) ≡ byte_fate rx t es
  fate_anew past es none =
      from_append word [] no_fate past es
      ∙ (ap (λ f. fate_from word past f es) (quiet [] past none) ∙ (ap (λ cs. fate_from word cs no_fate es) (sym (append-nil past)) ∙ shift past [] no_fate es none))

pub marks_anew : (rx : ℕ) (clients : List ℕ) (drops : List Bool) (past es : List Event) (k : ℕ) → (policy_at drops k ≡ true → heard rx past ≡ []) → told_marks rx clients drops (past ++ es) k ≡ told_marks rx clients drops es k
marks_anew rx clients drops past es k = by (policy_at drops k)
  where
    by : (b : Bool) → (b ≡ true → heard rx past ≡ []) → cond b (byte_fate rx (taker clients drops k) (past ++ es)).dropped [] ≡ cond b (byte_fate rx (taker clients drops k) es).dropped []
    by true none = ap (λ (f : Fate). f.dropped) (fate_anew rx (taker clients drops k) past es (none refl))
    by false none = refl
