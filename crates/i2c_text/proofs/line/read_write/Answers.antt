use Rattle.std.proofs.Common.{◌≡◌, Some, None, refl, sym, ◌∙◌}
use Rattle.i2c_text.specs.Lines.{address_of}
use Rattle.i2c_text.specs.Texts.{bytes_of}
use Rattle.i2c_text.proofs.Words.{write_is}
use Rattle.i2c_text.proofs.line.read_write.Goals as goal

pub returns-in-None : goal.returns-in-None
returns-in-None c = write_is c.args.client.now c.args.address.now c.args.word.now None (address_of c.args.address.now) (bytes_of c.args.word.now) c.in-None.ensures refl refl

pub returns-in-None-read_between : goal.returns-in-None-read_between
returns-in-None-read_between c = write_is c.args.client.now c.args.address.now c.args.word.now (Some c.in-Some.client) None (bytes_of c.args.word.now) c.in-Some.ensures c.in-None-read_between.ensures refl

pub returns-in-None-2 : goal.returns-in-None-2
returns-in-None-2 c = let none = rw c.in-None-2.is at c.in_ok-bytes.ensures in write_is c.args.client.now c.args.address.now c.args.word.now (Some c.in-Some.client) (Some c.in-Some-read_between.address) None c.in-Some.ensures c.in-Some-read_between.ensures none

pub returns : goal.returns
returns c = let read = rw c.in-Some-2.is at c.in_ok-bytes.ensures in write_is c.args.client.now c.args.address.now c.args.word.now (Some c.in-Some.client) (Some c.in-Some-read_between.address) (Some c.in-Some-2.bytes) c.in-Some.ensures c.in-Some-read_between.ensures read
