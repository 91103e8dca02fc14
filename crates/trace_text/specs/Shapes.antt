-- What a trace that was read is made of, for those who play it and needn't know the lines.
use Rattle.std.specs.Prelude.{◌≡◌, ℕ, ◌*◌, ◌≤◌, ◌<◌, All, List, [], length, MatchOption}
use Rattle.cargo_core.specs.Blocks.{block_bytes}
use Rattle.cargo_core.specs.declared.act.Act.{Act}
use Rattle.cargo_core.specs.declared.act.Act.TheVariants as Does
use Rattle.cargo_core.specs.declared.item.Ask.{Ask}
use Rattle.cargo_core.specs.declared.item.Code.{Code}
use Rattle.cargo_core.specs.declared.item.Code.TheVariants as Asked
use Rattle.sdf_plan.specs.declared.plan.Plan.{Plan}
use Rattle.trace_text.specs.declared.class.Class.{Class}
use Rattle.trace_text.specs.declared.class.Class.TheVariants as Of
use Rattle.trace_text.specs.declared.trace.Trace.{Trace}
use Rattle.trace_text.specs.Events.{inputs_of}
use Rattle.trace_text.specs.Limits.{frame_least, frame_most}

-- the bytes of a frame, where one has at most so many: 14 to this
abbrev pub IsFrame : ℕ → List ℕ → Type 0
IsFrame most frame = (frame_least ≤ length frame) × (length frame ≤ most)

-- the bytes of a disk: 1 to 8,192 blocks of 4,096 bytes
abbrev pub IsDisk : List ℕ → Type 0
IsDisk image =
    (blocks : ℕ) × (1 ≤ blocks) × (length image ≡ blocks * block_bytes) × (blocks ≤ 8192)

-- a request for 1 to 8 blocks from one on, whose number has 32 bits
abbrev pub NamesBlocks : Ask → Type 0
NamesBlocks ask = (ask.block ≤ 4294967295) × (1 ≤ ask.count) × (ask.count ≤ 8)

-- a request that names no block and has no bytes
abbrev pub NamesNoBlock : Ask → Type 0
NamesNoBlock ask = (ask.block ≡ 0) × (ask.count ≡ 0) × (ask.fill ≡ [])

-- the form of a request of a code: a write alone has bytes of its own, those of its blocks
abbrev pub HasForm : Code → Ask → Type 0
HasForm Asked.Read ask = NamesBlocks ask × (ask.fill ≡ [])
HasForm Asked.Write ask = NamesBlocks ask × (length ask.fill ≡ ask.count * block_bytes)
HasForm Asked.Flush ask = NamesNoBlock ask
HasForm Asked.Barrier ask = NamesNoBlock ask

-- a request in the form of its code
abbrev pub IsAsk : Ask → Type 0
IsAsk ask = HasForm ask.code ask

-- an act of a hostile client of a class is on one of its queues: it takes from an input, puts into
-- an output, and stores in the words of either
abbrev pub IsActOn : Class → Act → Type 0
IsActOn class (Does.Take k) = k < inputs_of class
IsActOn class (Does.Put k address long) = (inputs_of class ≤ k) × (k < 2 * inputs_of class)
IsActOn class (Does.Give k place address long) =
    (inputs_of class ≤ k) × (k < 2 * inputs_of class)
IsActOn class (Does.Store k word value) = k < 2 * inputs_of class

-- the frames, requests, acts and disk of a trace are such, with a disk exactly where the plan has a
-- block class
pub record HasShapes (plan : Plan) (trace : Trace) : Type 0 where
  pub frames : All (IsFrame (frame_most plan)) trace.frames
  pub sends : All (All (IsFrame (frame_most plan))) trace.sends
  pub asks : All (All IsAsk) trace.asks
  pub net_acts : All (All (IsActOn Of.Net)) trace.net_acts
  pub serial_acts : All (All (IsActOn Of.Serial)) trace.serial_acts
  pub blk_acts : All (All (IsActOn Of.Blk)) trace.blk_acts
  pub image : MatchOption plan.blk (trace.image ≡ []) (λ _. IsDisk trace.image)
