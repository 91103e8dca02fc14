-- Ends that are as before but for their last looks.
use Rattle.std.specs.Prelude.{◌≡◌}
use Rattle.wire_core.specs.Ends.{End}

-- the same end, whatever its last look answered
pub record SameButLook (e e' : End) : Type 0 where
  pub owned : e'.owned ≡ e.owned
  pub kind : e'.kind ≡ e.kind
  pub waiter : e'.waiter ≡ e.waiter
  pub ringer : e'.ringer ≡ e.ringer
