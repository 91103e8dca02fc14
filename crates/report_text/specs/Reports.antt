-- The lines of a report, field by field.
use Rattle.std.specs.Prelude.{ℕ, ◌+◌, Bool, true, false, Option, Some, None, List, [], ◌∷◌, ◌++◌}
use Rattle.std.specs.Prelude.{length, map, codes}
use Rattle.std.specs.Fmt.{decimal}
use Rattle.hex.specs.Hex.{encode_lower}
use Rattle.cargo_core.specs.declared.item.BlkStatus.{BlkStatus}
use Rattle.cargo_core.specs.declared.item.BlkStatus.TheVariants as Answered
use Rattle.cargo_core.specs.declared.item.Reply.{Reply}
use Rattle.expect_core.specs.declared.report.Report.{Report}
use Rattle.cargo_core.specs.declared.census.Census.{Census}
use Rattle.report_text.specs.Lines.{text_of}
use Rattle.report_text.specs.Runs.{runs_of, runs_text}

-- how the play ended
abbrev pub ending_line : Bool → List ℕ
ending_line true = codes "quiet"
ending_line false = codes "spent"

-- how many steps were made
abbrev pub steps_line : ℕ → List ℕ
steps_line n = codes "steps " ++ decimal n

-- how many frames the wire has
abbrev pub wire_line : List (List ℕ) → List ℕ
wire_line frames = codes "wire " ++ decimal (length frames)

-- the frames of the wire: their number, and each on a line
abbrev pub wire_lines : Option (List (List ℕ)) → List (List ℕ)
wire_lines None = []
wire_lines (Some frames) = wire_line frames ∷ map encode_lower frames

-- how many frames a network client has
abbrev pub net_line : ℕ → List (List ℕ) → List ℕ
net_line c frames =
    codes "net " ++ (decimal c ++ (codes " frames " ++ decimal (length frames)))

-- the frames of a network client
abbrev pub net_lines : ℕ → List (List ℕ) → List (List ℕ)
net_lines c frames = net_line c frames ∷ map encode_lower frames

-- bytes on one line, where there are any
abbrev pub byte_lines : List ℕ → List (List ℕ)
byte_lines [] = []
byte_lines (b ∷ bytes) = encode_lower (b ∷ bytes) ∷ []

-- how many bytes the serial line has
abbrev pub uart_line : List ℕ → List ℕ
uart_line bytes = codes "uart " ++ decimal (length bytes)

-- the bytes of the serial line
abbrev pub uart_lines : Option (List ℕ) → List (List ℕ)
uart_lines None = []
uart_lines (Some bytes) = uart_line bytes ∷ byte_lines bytes

-- how many bytes a serial client has
abbrev pub serial_line : ℕ → List ℕ → List ℕ
serial_line c bytes =
    codes "serial " ++ (decimal c ++ (codes " bytes " ++ decimal (length bytes)))

-- the bytes of a serial client
abbrev pub serial_lines : ℕ → List ℕ → List (List ℕ)
serial_lines c bytes = serial_line c bytes ∷ byte_lines bytes

-- how a request ended
abbrev pub status_text : BlkStatus → List ℕ
status_text Answered.Ok = codes "ok"
status_text Answered.Invalid = codes "invalid"
status_text Answered.NoDevice = codes "no_device"

-- the bytes that a read gave, as runs, behind a space
abbrev pub given_text : List ℕ → List ℕ
given_text [] = []
given_text (b ∷ bytes) = 32 ∷ runs_text (runs_of (b ∷ bytes))

-- a response: its id, its status and its count, and what a read gave
abbrev pub reply_line : Reply → List ℕ
reply_line r =
    decimal r.resp.id ++ (codes " " ++ (status_text r.resp.status
    ++ (codes " " ++ (decimal r.resp.count ++ given_text r.bytes))))

-- how many responses a block client has
abbrev pub blk_line : ℕ → List Reply → List ℕ
blk_line c replies =
    codes "blk " ++ (decimal c ++ (codes " replies " ++ decimal (length replies)))

-- the responses of a block client
abbrev pub blk_lines : ℕ → List Reply → List (List ℕ)
blk_lines c replies = blk_line c replies ∷ map reply_line replies

-- where the buffers of a pool are
abbrev pub pool_line : Census → List ℕ
pool_line p =
    codes "pool " ++ (p.name ++ (codes " buffers " ++ (decimal p.buffers
    ++ (codes " queues " ++ (decimal p.queues ++ (codes " hands " ++ (decimal p.hands
    ++ (codes " lent " ++ decimal p.lent))))))))

-- how many descriptors were refused
abbrev pub bad_line : ℕ → List ℕ
bad_line n = codes "bad " ++ decimal n

-- the lines of each element of a list in turn, counted from a number on
abbrev pub each_numbered : {T : Type 0} → (ℕ → T → List (List ℕ)) → ℕ → List T → List (List ℕ)
each_numbered lines c [] = []
each_numbered lines c (x ∷ xs) = lines c x ++ each_numbered lines (c + 1) xs

-- the lines of a report; those of a class that the description lacks are not there
abbrev pub report_lines : Report → List (List ℕ)
report_lines r =
    ending_line r.quiet ∷ steps_line r.steps
    ∷ wire_lines r.wire ++ each_numbered net_lines 0 r.net
    ++ uart_lines r.line ++ each_numbered serial_lines 0 r.serial
    ++ each_numbered blk_lines 0 r.blk
    ++ map pool_line r.pools ++ bad_line r.bad ∷ []

-- the text of a report
abbrev pub report_text : Report → List ℕ
report_text r = text_of (report_lines r)

-- the line of what is there, where it is there
abbrev pub line_or_none : {T : Type 0} → (T → List ℕ) → Option T → List (List ℕ)
line_or_none line None = []
line_or_none line (Some x) = line x ∷ []

-- one line of each element of a list in turn, counted from a number on
abbrev pub one_numbered : {T : Type 0} → (ℕ → T → List ℕ) → ℕ → List T → List (List ℕ)
one_numbered line c [] = []
one_numbered line c (x ∷ xs) = line c x ∷ one_numbered line (c + 1) xs

-- the lines of a report but for those of frames, bytes and responses
abbrev pub summary_lines : Report → List (List ℕ)
summary_lines r =
    ending_line r.quiet ∷ steps_line r.steps
    ∷ line_or_none wire_line r.wire ++ one_numbered net_line 0 r.net
    ++ line_or_none uart_line r.line ++ one_numbered serial_line 0 r.serial
    ++ one_numbered blk_line 0 r.blk
    ++ map pool_line r.pools ++ bad_line r.bad ∷ []

-- the summary of a report
abbrev pub summary_text : Report → List ℕ
summary_text r = text_of (summary_lines r)
