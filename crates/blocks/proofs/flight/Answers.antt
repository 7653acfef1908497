-- `blocks::flight` meets its contract: no letter at all, or each kind by its origins. Assumes nothing.
use mathlib.Core.Path.{refl, sym, ap, ◌∙◌}
use Prim.Native.Nat.{◌+◌, ◌*◌}
use native.Mathlib.Omega.{arith}
use Rattle.definitions.specs.General.{with}
use Rattle.ranges.specs.Laws.{zeros_part}
use Rattle.blocks.specs.Known.{sender_low}
use Rattle.blocks.specs.Message.{low, flight_law, quiet_law}
use Rattle.blocks.proofs.flight.Goals as goal

pub returns-then-zeros : goal.returns-then-zeros
returns-then-zeros c =
    let a = c.args in
    quiet_law a.w.now a.m a.t.now c.requires.ready c.requires.m_in
    (sym (zeros_part a.w.now (6867 + a.m * 187 + 138) _ 48 (omega arith)
    (omega (arith, c.told-w, low a.w.now a.m a.t.now c.requires.ready c.requires.m_in))) ∙ sym c.zeros.ensures ∙ c.if-zeros.true)

pub join-requires : goal.join-requires
join-requires c =
    let a = c.args in
    omega (arith, c.word.ensures, sender_low a.w.now a.t.now c.requires.ready a.m c.requires.m_in)

pub returns : goal.returns
returns c =
    let a = c.args in
    let z = flight_law a.w.now a.m a.t.now c.requires.ready c.requires.m_in c.fits-w c.join.result _
    (c.join.ensures ∙ ap (with 0) c.word.ensures) refl in
    rw (c.letters.ensures, c.letters-2.ensures, c.letters-3.ensures) z
