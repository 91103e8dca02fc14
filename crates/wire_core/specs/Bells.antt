-- The bell law.
use Rattle.std.specs.Prelude.{◌≡◌, ◌⊎◌, ℕ, ◌+◌, ◌≤◌, Bool, true, false}
use Rattle.wire_core.specs.declared.names.BellState.{BellState}
use Rattle.wire_core.specs.declared.names.Waiter.TheVariants as Wait
use Rattle.wire_core.specs.declared.names.Ringer.{Ringer}
use Rattle.wire_core.specs.declared.names.Ringer.TheVariants as Rung

-- the ringer owes nothing
abbrev pub is_free : Ringer → Bool
is_free Rung.Free = true
is_free Rung.Put = false
is_free Rung.Hot = false
is_free Rung.Ringing = false

-- 1 where it is so, else 0
abbrev pub bit : Bool → ℕ
bit true = 1
bit false = 0

-- 1 where the ringer owes something, else 0
abbrev pub at_work : Ringer → ℕ
at_work Rung.Free = 0
at_work Rung.Put = 1
at_work Rung.Hot = 1
at_work Rung.Ringing = 1

-- the bell law, of a bell that is ready or not and whose ringer moved this many entries so far:
-- where the waiter is clear and the bell is ready, it is signalled or about to be; where it asked,
-- the flag says so, or a notification stands there or is due; and no notification is without an
-- entry of its own
pub record BellHolds (b : BellState) (ready : Bool) (count : ℕ) : Type 0 where
  pub signalled : b.waiter ≡ Wait.Clear → ready ≡ true
      → (b.pending ≡ true) ⊎ (is_free b.ringer ≡ false)
  pub asked : ((b.waiter ≡ Wait.Asked) ⊎ (b.waiter ≡ Wait.Clear))
      → (b.flag ≡ false) ⊎ ((b.pending ≡ true) ⊎ (b.ringer ≡ Rung.Ringing))
  pub counted : bit b.pending + at_work b.ringer ≤ count
