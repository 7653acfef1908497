-- `records::load` meets its contract. Assumes nothing.
use Rattle.records.specs.Record.{load_law}
use Rattle.records.proofs.load.Goals as goal

pub returns : goal.returns
returns c = load_law c.args.w.now c.args.p c.requires cc
