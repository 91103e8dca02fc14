-- A disk's row from what it stands for.
use Rattle.std.proofs.Common.{◌≤◌, ℕ, zero, suc, refl, Option, Some, None, List, All, length, arith}
use Rattle.std.specs.Option.{option_to_list, ForSome}
use Rattle.wire_core.specs.Deeds.{Cargo}
use Rattle.wire_core.specs.Lists.{Passed}
use Rattle.device_model.specs.declared.disk.DiskDevice.{DiskDevice}
use Rattle.device_model.specs.Disk.Disks.{DiskStandsFor, DiskRow}

few : (o : Option Cargo) → length (option_to_list o) ≤ 1
few None = omega arith
few (Some x) = omega arith

all_of : (P : Cargo → Type 0) (o : Option Cargo) → ForSome o P → All P (option_to_list o)
all_of P None some k d lt = absurd (omega (arith, lt))
all_of P (Some x) some zero d lt = some x refl
all_of P (Some x) some (suc k) d lt = absurd (omega (arith, lt))

pub disk_row_of : (start : List ℕ) (d : DiskDevice) (passed : Passed) → DiskStandsFor start d passed → DiskRow start d passed
disk_row_of start d passed st = record {
  requests = st.requests;
  stray = option_to_list d.stray;
  taken = st.taken;
  few = few d.stray;
  in_turn = st.in_turn;
  out_of_turn = all_of _ d.stray st.out_of_turn;
  answers = (option_to_list d.load, st.answered);
}
