use Rattle.std.proofs.Common.{◌≡◌, length, Some, None, inl, inr, refl, sym, ◌∙◌, arith}
use Rattle.std.proofs.lemmas.Bool.{eqb-true, eqb-false}
use Rattle.i2c_text.proofs.Pieces.{no_bytes, bytes_read, bytes_refused}
use Rattle.i2c_text.proofs.hexadecimal.read_bytes.Goals as goal

pub returns-then-is_empty : goal.returns-then-is_empty
returns-then-is_empty c = sym (no_bytes c.args.word.now (inl (eqb-true _ _ (sym c.is_empty.ensures ∙ c.if-is_empty.true))))

pub returns-then-count-gt-MOST : goal.returns-then-count-gt-MOST
returns-then-count-gt-MOST c = sym (no_bytes c.args.word.now (inr (omega arith)))

pub returns-in-Ok : goal.returns-in-Ok
returns-in-Ok c = rw c.in_ok-read-in-Ok.ensures (sym (bytes_read c.args.word.now c.decode_to_slice.new.out _ c.decode_to_slice.result c.in-Ok.field-0 (c.as_mut_slice-room.ensures.len ∙ c.in_ok-bytes.ensures.len) (eqb-false _ _ (sym c.is_empty.ensures ∙ c.if-is_empty.false)) (omega arith) c.in-Ok.is c.decode_to_slice.ensures.value))

pub returns : goal.returns
returns c = sym (bytes_refused c.args.word.now c.decode_to_slice.new.out _ c.decode_to_slice.result c.in-Err.field-0 (c.as_mut_slice-room.ensures.len ∙ c.in_ok-bytes.ensures.len) c.in-Err.is c.decode_to_slice.ensures.value)
