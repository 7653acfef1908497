-- `bench::wt_bench_deliverable` meets its contract: the words of a sound world are within their bounds. Assumes nothing.
use mathlib.Core.Path.{sym, ◌∙◌}
use Rattle.world.specs.SoundLaws.{sound_facts}
use Rattle.bounds.specs.Bounds.{sound_bounds}
use Rattle.bench.proofs.wt_bench_deliverable.Goals as goal

pub fits_all-requires-clause-bounds : goal.fits_all-requires-clause-bounds
fits_all-requires-clause-bounds c = sound_bounds _ (sound_facts _ (sym c.test.ensures ∙ c.if-not-test.false))
