-- A pipe that records the frames which pass through it.
use Rattle.std.specs.Prelude.{◌≡◌, map}
use Rattle.wire_core.specs.Lists.{Passed}
use Rattle.turn_kit.specs.Pipes.{PipeStandsFor}
use Rattle.buffer_kit.specs.Entries.{frame_of}
use Rattle.buffer_kit.specs.declared.recorder.Recorder.{Recorder}

-- what it took is what it put and what is loaded, and its record is the frames of what it took
pub record RecorderStandsFor (r : Recorder) (passed : Passed) : Type 0 where
  pub moved : PipeStandsFor r.pipe passed
  pub recorded : r.tape.shown ≡ map frame_of (passed.taken r.pipe.input.queue.0)
