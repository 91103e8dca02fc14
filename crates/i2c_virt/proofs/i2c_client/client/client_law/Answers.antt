use Rattle.i2c_virt.proofs.I2cClient.Standing.{row_of}
use Rattle.i2c_virt.proofs.i2c_client.client.client_law.Goals as goal

pub returns : goal.returns
returns c = row_of
