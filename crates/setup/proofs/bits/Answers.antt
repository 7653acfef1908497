-- `setup::bits` meets its contract. Assumes nothing.
use Rattle.std.proofs.Common.{arith}
use Rattle.definitions.specs.Setup.{setup_bits}
use Rattle.setup.proofs.bits.Goals as goal

pub returns : goal.returns
unfolding setup_bits
returns c = omega (arith, c.from_le_bytes.ensures, c.fits-setup 0, c.fits-setup 1)
