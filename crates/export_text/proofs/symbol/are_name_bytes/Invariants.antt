use Rattle.std.proofs.Common.{◌≡◌, drop}
use Rattle.std.specs.List.{list_all}
use Rattle.picture_kit.specs.XmlText.Reading.{is_name_byte}
use Rattle.export_text.proofs.symbol.are_name_bytes.Given as goal

abbrev pub invariant-loop-byte : goal.invariant-loop-byte
invariant-loop-byte l = list_all is_name_byte l.bytes ≡ list_all is_name_byte (drop l.byte-index l.bytes)
