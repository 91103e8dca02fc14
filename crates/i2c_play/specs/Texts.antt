-- The lines of the report of a bus, field by field.
use Rattle.std.specs.Prelude.{ℕ, List, [], ◌∷◌, ◌++◌, length, map, codes}
use Rattle.std.specs.Fmt.{decimal}
use Rattle.hex.specs.Hex.{encode_lower}
use Rattle.i2c_text.specs.declared.report.BusReply.{BusReply}
use Rattle.i2c_text.specs.declared.report.BusReport.{BusReport}
use Rattle.i2c_text.specs.declared.report.BusStatus.{BusStatus}
use Rattle.i2c_text.specs.declared.report.BusStatus.TheVariants as Ended
use Rattle.report_text.specs.Lines.{text_of}
use Rattle.report_text.specs.Reports.{ending_line, steps_line, pool_line}
use Rattle.report_text.specs.Reports.{each_numbered, one_numbered}

-- how a request ended
abbrev pub status_text : BusStatus → List ℕ
status_text Ended.Ok = codes "ok"
status_text Ended.Taken = codes "taken"
status_text Ended.Unclaimed = codes "unclaimed"
status_text Ended.NoAck = codes "no_ack"

-- the bytes that a read gave, behind a space
abbrev pub given_text : List ℕ → List ℕ
given_text [] = []
given_text (b ∷ bytes) = 32 ∷ encode_lower (b ∷ bytes)

-- the answer to a client's request of a number: how it ended, and what a read gave
abbrev pub reply_line : ℕ → BusReply → List ℕ
reply_line k r = decimal k ++ (codes " " ++ (status_text r.status ++ given_text r.bytes))

-- how many of a client's requests were answered
abbrev pub replies_line : ℕ → List BusReply → List ℕ
replies_line c replies =
    codes "i2c " ++ (decimal c ++ (codes " replies " ++ decimal (length replies)))

-- the answers to a client's requests
abbrev pub replies_lines : ℕ → List BusReply → List (List ℕ)
replies_lines c replies = replies_line c replies ∷ one_numbered reply_line 0 replies

-- the lines of the report
abbrev pub bus_lines : BusReport → List (List ℕ)
bus_lines r =
    ending_line r.quiet ∷ steps_line r.steps
    ∷ each_numbered replies_lines 0 r.replies ++ map pool_line r.pools

-- the text of the report
abbrev pub bus_text : BusReport → List ℕ
bus_text r = text_of (bus_lines r)
