-- The report of a system: its state, in the form that is printed.
use Rattle.std.specs.Prelude.{◌==◌, length}
use Rattle.expect_core.specs.declared.report.Report.{Report}
use Rattle.system_core.specs.Shows.{Shown}
use Rattle.system_core.specs.Plays.{runnable_now}

-- what is seen of a system, whether it is quiet, and how many steps were made
abbrev pub report_of : Shown → Report
report_of s = record {
  quiet = length (runnable_now s) == 0;
  steps = length s.journal;
  wire = s.state.wire;
  net = s.state.net;
  line = s.state.line;
  serial = s.state.serial;
  blk = s.state.blk;
  pools = s.state.pools;
  bad = s.state.bad;
}
