use Rattle.std.proofs.Common.{◌≡◌, Some, None, refl, sym, ◌∙◌}
use Rattle.i2c_text.specs.Lines.{address_of}
use Rattle.line_text.specs.Texts.{number_from}
use Rattle.i2c_text.proofs.Words.{read_is}
use Rattle.i2c_text.proofs.line.read_read.Goals as goal

pub returns-in_err-client : goal.returns-in_err-client
returns-in_err-client c = rw c.from_residual.ensures (read_is c.args.client.now c.args.address.now c.args.word.now None (address_of c.args.address.now) (number_from 1 32 c.args.word.now) c.in_err-client.ensures refl refl)

pub returns-in_err-address : goal.returns-in_err-address
returns-in_err-address c = rw c.from_residual-in_err-address.ensures (read_is c.args.client.now c.args.address.now c.args.word.now (Some c.in_ok-client.client) None (number_from 1 32 c.args.word.now) c.in_ok-client.ensures c.in_err-address.ensures refl)

pub returns-in_err-count : goal.returns-in_err-count
returns-in_err-count c = rw c.from_residual-in_err-count.ensures (read_is c.args.client.now c.args.address.now c.args.word.now (Some c.in_ok-client.client) (Some c.in_ok-address.address) None c.in_ok-client.ensures c.in_ok-address.ensures c.in_err-count.ensures)

pub returns : goal.returns
returns c = read_is c.args.client.now c.args.address.now c.args.word.now (Some c.in_ok-client.client) (Some c.in_ok-address.address) (Some c.in_ok-count.count) c.in_ok-client.ensures c.in_ok-address.ensures c.in_ok-count.ensures
