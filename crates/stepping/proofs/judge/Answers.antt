-- `stepping::judge` meets its contract: bytes that ask for no step are refused as malformed. Assumes nothing.
use Rattle.std.proofs.Common.{sym, ap, ◌∙◌}
use Rattle.std.proofs.lemmas.Result.{err_from_is_err_and}
use Rattle.definitions.specs.World.{view}
use Rattle.given.specs.Given.{asked_for}
use Rattle.stepping.specs.Stepping.{malformed_refused, malformed_number}
use Rattle.stepping.proofs.judge.Goals as goal

pub returns-in_err-x : goal.returns-in_err-x
returns-in_err-x c =
    let f = c.from_residual in
    let h = c.in_err-x.ensures in
    let p = err_from_is_err_and f.result f.ensures.1 in
    rw (p.1, p.2) (malformed_number h.value h.ok_part
    ∙ malformed_refused (view c.args.w.now) (ap asked_for (sym h.ok_part) ∙ c.take.ensures))
