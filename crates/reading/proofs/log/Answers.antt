-- `reading::log` meets its contract: 1, 2, then 5 leave it empty, else the world is sound and the process there.
-- Assumes nothing.
use Rattle.std.proofs.Common.{◌<◌, sym, ◌∙◌}
use Rattle.definitions.specs.World.{size, addr, view}
use Rattle.definitions.specs.Words.{log_refusal}
use Rattle.definitions.specs.Answers.{refusal_number}
use Rattle.answers.specs.Laws.{refusal_some}
use Rattle.keeps.specs.Keeps.{SoundWords}
use Rattle.reading.specs.Tested.{present, process_inside, log_inside, log_refused, log_there}
use Rattle.reading.proofs.log.Goals as goal
use Rattle.reading.proofs.log.Goals.{In-Ok}

-- the world is sound, and the process there
there : (c : In-Ok) → let a = c.args in
    SoundWords a.w.now × (a.p < view a.w.now size)
there c = present c.args.w.now (addr size) c.args.p 4 (sym c.in-Ok.ensures.answer)

pub returns-in_default : goal.returns-in_default
unfolding log_refusal
returns-in_default c =
    let a = c.args in
    let r = c.in_default.field-0 in
    log_refused a.w.now a.p (refusal_number r) a.causal (refusal_some r) c.in_default.ensures.answer

pub part-requires : goal.part-requires
part-requires c =
    let a = c.args in
    let t = there (goal.at.part-requires c).In-Ok in
    rw c.in-Ok.ensures.words record {
      p_in = process_inside a.w.now a.p t.0 t.1;
      inside = log_inside a.w.now a.p a.causal t.0 t.1;
    }

pub returns : goal.returns
returns c =
    let a = c.args in
    let t = there (goal.at.returns c).In-Ok in
    (rw c.in-Ok.ensures.words at c.part.ensures) ∙ log_there a.w.now a.p a.causal t.0 t.1
