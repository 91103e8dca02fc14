-- What the calls of a bell make of what its two ends did.
use Rattle.std.proofs.Common.{◌≡◌, ℕ, ◌+◌, Bool, true, false, not, ◌&&◌, nat_lt, nat_eq, List, length, refl, sym, ap, ◌∙◌, arith}
use Rattle.std.proofs.lemmas.Bool.{lt-ltb, le-ltb}
use Rattle.wire_core.specs.Bells.{bit}
use mathlib.Core.Option as maybe
use Rattle.cargo_core.specs.declared.item.QueueKind.{QueueKind}
use Rattle.spsc_queue.specs.declared.view.Half.{Half}
use Rattle.spsc_queue.specs.Rule.{Slot, wrap, laid, WordsTold, EndsHold, words_of}

pub bit_is : (b : Bool) → nat_eq (bit b) 1 ≡ b
bit_is true = refl
bit_is false = refl

none_left : (b c : Bool) → c ≡ false → true ≡ not (b && c)
none_left true c is = ap not (sym is)
none_left false c is = refl

-- a wish more
pub wish_told : (flag pending wishes : Bool) (asks settled rings woken : ℕ) → WordsTold flag pending wishes asks settled rings woken → WordsTold false pending true (asks + 1) settled rings woken
wish_told flag pending wishes asks settled rings woken h = let le = h.settled_within in record { flag_is = ap not (sym (lt-ltb settled (asks + 1) (omega (arith, le)))); settled_within = omega (arith, le); pending_is = h.pending_is; woken_within = h.woken_within }

-- the waiter wants none
pub waive_told : (flag pending wishes : Bool) (asks settled rings woken : ℕ) → WordsTold flag pending wishes asks settled rings woken → WordsTold true pending false asks settled rings woken
waive_told flag pending wishes asks settled rings woken h = record { flag_is = refl; settled_within = h.settled_within; pending_is = h.pending_is; woken_within = h.woken_within }

-- what was pending was taken
pub wake_told : (flag pending wishes : Bool) (asks settled rings woken : ℕ) → WordsTold flag pending wishes asks settled rings woken → WordsTold flag false wishes asks settled rings rings
wake_told flag pending wishes asks settled rings woken h = record { flag_is = h.flag_is; settled_within = h.settled_within; pending_is = sym (le-ltb rings rings (omega arith)); woken_within = omega arith }

-- a wish was taken back
pub settle_told : (flag pending wishes : Bool) (asks settled rings woken : ℕ) → WordsTold flag pending wishes asks settled rings woken → WordsTold true pending wishes asks asks rings woken
settle_told flag pending wishes asks settled rings woken h = record { flag_is = none_left wishes (nat_lt asks asks) (le-ltb asks asks (omega arith)); settled_within = omega arith; pending_is = h.pending_is; woken_within = h.woken_within }

-- a notification more
pub ring_told : (flag pending wishes : Bool) (asks settled rings woken : ℕ) → WordsTold flag pending wishes asks settled rings woken → WordsTold flag true wishes asks settled (rings + 1) woken
ring_told flag pending wishes asks settled rings woken h = let le = h.woken_within in record { flag_is = h.flag_is; settled_within = h.settled_within; pending_is = sym (lt-ltb woken (rings + 1) (omega (arith, le))); woken_within = omega (arith, le) }

-- the words are what the two ends did
pub words_are : (kind : QueueKind) (n : ℕ) (words : List ℕ) (homes : List (maybe.Option Slot)) (p c : Half) → EndsHold false kind n words homes p c → words ≡ words_of p c
words_are kind n words homes p c e = e.shared.words_are ∙ (λ i. laid (wrap (length c.entries)) (wrap (length p.entries)) (bit (e.shared.forward_told.flag_is i)) (bit (e.shared.forward_told.pending_is i)) (bit (e.shared.backward_told.flag_is i)) (bit (e.shared.backward_told.pending_is i)))
