use Rattle.std.proofs.Common.{◌≡◌, ◌⊎◌, ◌+◌, ◌≤◌, ℕ, Bool, true, false, not, inl, inr, refl, arith}
use Rattle.wire_core.specs.declared.names.BellState.{BellState}
use Rattle.wire_core.specs.declared.names.Waiter.{Waiter}
use Rattle.wire_core.specs.declared.names.Waiter.TheVariants as Wait
use Rattle.wire_core.specs.declared.names.Ringer.TheVariants as Rung
use Rattle.wire_core.specs.declared.names.Answer.{Answer}
use Rattle.wire_core.specs.Deeds.{answer_of}
use Rattle.wire_core.specs.Ends.{is_clear, is_free_or_put, looked_waiter, wanted_ringer}
use Rattle.wire_core.specs.Queues.{waked}
use Rattle.wire_core.specs.Bells.{BellHolds, bit, at_work}

look_not_clear : (w : Waiter) (ready : Bool) → is_clear w ≡ false → looked_waiter w (answer_of ready) ≡ Wait.Clear → ready ≡ false
look_not_clear Wait.Clear ready c h = cc
look_not_clear Wait.Busy ready c h = cc
look_not_clear Wait.Off ready c h = cc
look_not_clear Wait.Asked true c h = cc
look_not_clear Wait.Asked false c h = refl

look_was_asked : (w : Waiter) (a : Answer) → is_clear w ≡ false → ((looked_waiter w a ≡ Wait.Asked) ⊎ (looked_waiter w a ≡ Wait.Clear)) → w ≡ Wait.Asked
look_was_asked Wait.Clear a c h = cc
look_was_asked Wait.Busy a c h = elim h [ inl e ↦ cc | inr e ↦ cc ]
look_was_asked Wait.Off a c h = elim h [ inl e ↦ cc | inr e ↦ cc ]
look_was_asked Wait.Asked a c h = refl

-- a look that answers whether the bell is ready
pub look_holds : (b : BellState) (ready : Bool) (n : ℕ) → is_clear b.waiter ≡ false → BellHolds b ready n → BellHolds (record b { waiter = looked_waiter b.waiter (answer_of ready) }) ready n
look_holds b ready n c h = record { signalled = λ w r. let f : ready ≡ false = look_not_clear b.waiter ready c w in cc; asked = λ w. h.asked (inl (look_was_asked b.waiter (answer_of ready) c w)); counted = h.counted }

pub ask_holds : (b : BellState) (ready : Bool) (n : ℕ) → BellHolds b ready n → BellHolds (record b { flag = false; waiter = Wait.Asked }) ready n
ask_holds b ready n h = record { signalled = λ w r. cc; asked = λ w. inl refl; counted = h.counted }

pub waive_holds : (b : BellState) (ready : Bool) (n : ℕ) → BellHolds b ready n → BellHolds (record b { flag = true; waiter = Wait.Off }) ready n
waive_holds b ready n h = record { signalled = λ w r. cc; asked = λ w. elim w [ inl e ↦ cc | inr e ↦ cc ]; counted = h.counted }

pub wake_holds : (b : BellState) (ready : Bool) (n : ℕ) (p : Bool) → b.pending ≡ p → BellHolds b ready n → BellHolds (waked b (answer_of p)) ready n
wake_holds b ready n false e h = h
wake_holds b ready n true e h = record { signalled = λ w r. cc; asked = λ w. elim w [ inl e ↦ cc | inr e ↦ cc ]; counted = let c : bit b.pending + at_work b.ringer ≤ n = h.counted in omega arith }

pub wanted_holds : (b : BellState) (ready : Bool) (n : ℕ) (f : Bool) → b.flag ≡ f → b.ringer ≡ Rung.Put → BellHolds b ready n → BellHolds (record b { ringer = wanted_ringer (answer_of (not f)) }) ready n
wanted_holds b ready n false e p h = record { signalled = λ w r. inr refl; asked = λ w. inl e; counted = rw p at h.counted }
wanted_holds b ready n true e p h = record {
  signalled = λ w r. elim (h.asked (inr w)) [ inl f ↦ cc | inr g ↦ elim g [ inl q ↦ inl q | inr q ↦ cc ] ];
  asked = λ w. elim (h.asked w) [ inl f ↦ inl f | inr g ↦ elim g [ inl q ↦ inr (inl q) | inr q ↦ cc ] ];
  counted = let c = rw p at h.counted in omega arith;
}

pub settle_holds : (b : BellState) (ready : Bool) (n : ℕ) → b.ringer ≡ Rung.Hot → BellHolds b ready n → BellHolds (record b { flag = true; ringer = Rung.Ringing }) ready n
settle_holds b ready n p h = record { signalled = λ w r. inr refl; asked = λ w. inr (inr refl); counted = rw p at h.counted }

pub ring_holds : (b : BellState) (ready : Bool) (n : ℕ) → b.ringer ≡ Rung.Ringing → BellHolds b ready n → BellHolds (record b { pending = true; ringer = Rung.Free }) ready n
ring_holds b ready n p h = record { signalled = λ w r. inl refl; asked = λ w. inr (inl refl); counted = let c = rw p at h.counted in omega arith }

bit_le : (p : Bool) → bit p ≤ 1
bit_le true = omega arith
bit_le false = omega arith

-- the ringer's own move makes the bell ready, or more so
pub move_holds : (b : BellState) (ready ready' : Bool) (n : ℕ) → is_free_or_put b.ringer ≡ true → BellHolds b ready n → BellHolds (record b { ringer = Rung.Put }) ready' (n + 1)
move_holds b ready ready' n p h = record {
  signalled = λ w r. inr refl;
  asked = λ w. elim (h.asked w) [ inl f ↦ inl f | inr g ↦ elim g [ inl q ↦ inr (inl q) | inr q ↦ let f : is_free_or_put Rung.Ringing ≡ true = rw q at p in cc ] ];
  counted = let c : bit b.pending + at_work b.ringer ≤ n = h.counted in omega arith;
}

-- the waiter's own move, which it makes only where it isn't clear
pub beside_holds : (b : BellState) (ready ready' : Bool) (n : ℕ) → is_clear b.waiter ≡ false → BellHolds b ready n → BellHolds b ready' n
beside_holds b ready ready' n c h = record { signalled = λ w r. let f : is_clear Wait.Clear ≡ false = rw w at c in cc; asked = h.asked; counted = h.counted }
