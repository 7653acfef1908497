-- `engine::wt_world_log` meets its contract: a log that is there lies among the words. Assumes nothing.
use Rattle.std.proofs.Common.{◌+◌, ◌<◌, ◌≤◌, arith}
use Rattle.definitions.specs.Words.{log_start}
use Rattle.reading.specs.Tested.{length_given}
use Rattle.engine.proofs.wt_world_log.Goals as goal
use Rattle.engine.proofs.wt_world_log.Goals.{In-Ok}

inside : (c : In-Ok) → (c.args.p < 16) × (log_start c.args.p c.args.causal + c.in-Ok.n ≤ 20480)
inside c = length_given c.args.w.now _ _ _ c.in-Ok.ensures

pub start-requires : goal.start-requires
start-requires c = (inside (goal.at.start-requires c).In-Ok).0

pub overflow_cast-start : goal.overflow_cast-start
overflow_cast-start c = omega (arith, c.start.ensures, inside (goal.at.overflow_cast-start c).In-Ok)

pub overflow_cast-items : goal.overflow_cast-items
overflow_cast-items c = omega (arith, inside (goal.at.overflow_cast-items c).In-Ok)
