-- How much a trace may have.
use Rattle.std.specs.Prelude.{ℕ}
use Rattle.std.specs.Option.{option_map_or}
use Rattle.sdf_plan.specs.declared.plan.Net.{Net}
use Rattle.sdf_plan.specs.declared.plan.Plan.{Plan}

-- how many lines of frames there may be, and how many of requests
abbrev pub lines_most : ℕ
lines_most = 1024

-- how many bytes of serial input and of what clients say there may be together
abbrev pub stream_most : ℕ
stream_most = 81920

-- how many bytes a frame has at least, without its checksum
abbrev pub frame_least : ℕ
frame_least = 14

-- how many bytes a frame has at most, in a plan with a network class
unfoldable pub frame_most : Plan → ℕ
frame_most plan = option_map_or (λ (net : Net). net.max_frame) plan.net 0
