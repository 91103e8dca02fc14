use Rattle.std.proofs.Common.{◌≡◌, ℕ, Bool, cond, Some, List, [], length, slice_get, sym, ap, ◌∙◌, subst, arith}
use Rattle.cargo_core.specs.Lists.{IsPrefix}
use Rattle.wire_core.specs.Ends.{Producer}
use Rattle.wire_core.specs.Fates.{without, marked}
use Rattle.wire_core.proofs.Fating.{without_none}
use Rattle.class_expect.specs.SerialSwitch.Switching.{input_of}
use Rattle.serial_virt.specs.Shares.{AllHold, policy_at}
use Rattle.play_core.specs.Moved.{Moved}
use Rattle.serial_law.specs.Bytes.{bytes_in, byte_items}
use Rattle.serial_law.specs.Table.{Marks, SharesOut, SharesSome, due_to}
use Rattle.serial_law.specs.Serial.{SerialClass, ArrivesInPart, ArrivesWhole}
use Rattle.serial_law.specs.Beside.{Rogues, ArrivesBeside}
use Rattle.serial_law.specs.Holding.{HoldingShares, HoldingInPart, HoldingWhole, HoldingBeside}

-- nothing is marked of a client that holds
none_marked : (marks : Marks) (drops : List Bool) (rx : ℕ) (clients : List ℕ) (m : Moved) → AllHold drops → SharesOut marks drops rx clients m → (c q : ℕ) → slice_get clients c ≡ Some q → marked (marks c) ≡ 0
none_marked marks drops rx clients m all out c q at = out.as_many c q at ∙ ap (λ b. cond b (m.noes Producer q) 0) (all c)

-- so all of its bytes stay
all_left : (marks : Marks) (drops : List Bool) (rx : ℕ) (clients : List ℕ) (m : Moved) → AllHold drops → SharesOut marks drops rx clients m → (c q : ℕ) → slice_get clients c ≡ Some q → (xs : List ℕ) → without (marks c) xs ≡ xs
all_left marks drops rx clients m all out c q at xs = without_none (marks c) xs (none_marked marks drops rx clients m all out c q at)

pub shares_hold : (drops : List Bool) (rx : ℕ) (clients : List ℕ) (m : Moved) → AllHold drops → SharesSome drops rx clients m → HoldingShares rx clients m
shares_hold drops rx clients m all some = record {
  owner = some.out.owner;
  owed = some.out.owed;
  few = some.out.few;
  given = λ c q at. some.out.given c q at ∙ ap byte_items (all_left some.marks drops rx clients m all some.out c q at (input_of (length clients) c (bytes_in (m.taken rx))));
}

pub hold_shares : (drops : List Bool) (rx : ℕ) (clients : List ℕ) (m : Moved) → AllHold drops → HoldingShares rx clients m → SharesSome drops rx clients m
hold_shares drops rx clients m all row = record {
  marks = λ c. [];
  out = record {
    owner = row.owner;
    owed = row.owed;
    few = row.few;
    given = row.given;
    settled = λ c q at. omega arith;
    as_many = λ c q at. sym (ap (λ b. cond b (m.noes Producer q) 0) (all c));
  };
}

pub due_whole : (all : ℕ) (bytes : List ℕ) (drops : List Bool) (c q : ℕ) (m : Moved) → AllHold drops → due_to all bytes drops c q m ≡ length (input_of all c bytes)
due_whole all bytes drops c q m holds = let none : cond (policy_at drops c) (m.noes Producer q) 0 ≡ 0 = ap (λ b. cond b (m.noes Producer q) 0) (holds c) in omega (arith, none)

module _ (c : SerialClass) (marks : Marks) (m : Moved) (all : AllHold c.drops) (out : SharesOut marks c.drops c.rx c.client_rx m) where
  left : (k q : ℕ) → slice_get c.client_rx k ≡ Some q → without (marks k) (input_of (length c.client_rx) k c.input) ≡ input_of (length c.client_rx) k c.input
  left k q at = all_left marks c.drops c.rx c.client_rx m all out k q at (input_of (length c.client_rx) k c.input)

  pub part_holds : ArrivesInPart marks c m → HoldingInPart c m
  part_holds h = record { records = λ k q at. subst (IsPrefix (bytes_in (m.taken q))) (left k q at) (h.records k q at); line = h.line }

  pub whole_holds : ArrivesWhole marks c m → HoldingWhole c m
  whole_holds h = record { records = λ k q at. h.records k q at ∙ left k q at; line = h.line }

  pub beside_holds : (rogues : Rogues) → ArrivesBeside marks rogues c m → HoldingBeside rogues c m
  beside_holds rogues h = record { records = λ k q at. subst (IsPrefix (bytes_in (m.taken q))) (left k q at) (h.records k q at); line = h.line }
