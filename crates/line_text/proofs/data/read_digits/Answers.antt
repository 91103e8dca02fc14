use Rattle.std.proofs.Common.{sym, ◌∙◌, arith, length}
use Rattle.line_text.proofs.DataPieces.{digits_too_long, digits_taken, half_written}
use Rattle.line_text.proofs.data.read_digits.Goals as goal

pub returns-then-digits-most : goal.returns-then-digits-most
returns-then-digits-most c = digits_too_long c.args.digits.now c.args.most (length c.args.into.now) (omega arith) c.requires

pub returns-in-Ok : goal.returns-in-Ok
returns-in-Ok c =
    let decoded = half_written c.args.digits.now c.decode_to_slice.new.out _ c.decode_to_slice.result c.in-Ok.field-0 (c.as_mut_slice-room.ensures.len ∙ c.in_ok-bytes.ensures.len) c.in-Ok.is c.decode_to_slice.ensures.value in
    rw c.in_ok-extend_from_slice-in-Ok.ensures.ok
    (digits_taken c.args.digits.now c.args.into.now c.decode_to_slice.new.out c.args.most (sym c.is_empty.ensures ∙ c.if-is_empty.false) decoded (omega arith) c.requires)
