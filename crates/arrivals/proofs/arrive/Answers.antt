-- `arrivals::arrive` meets its contract. Assumes nothing.
use native.Mathlib.Omega.{arith}
use Rattle.arrivals.specs.Arrival.{arrived_marked, arrived_followed, follows}
use Rattle.arrivals.proofs.arrive.Goals as goal

pub follow-requires : goal.follow-requires
follow-requires c =
    let a = c.args in
    follows a.w.now c.touch.new.w a.x.now a.letter.kind a.letter.message a.letter.from a.letter.to a.quiescent c.requires
    (omega arith) c.touch.ensures.words

pub returns-then-touch : goal.returns-then-touch
returns-then-touch c =
    let a = c.args in
    arrived_followed a.w.now c.touch.new.w a.x.now a.letter.kind a.letter.message a.letter.from a.letter.to a.quiescent c.requires
    (omega arith) c.touch.ensures.words (omega arith) c.follow.ensures.words
    c.follow.ensures.index c.follow.ensures.place

pub returns : goal.returns
returns c =
    let a = c.args in
    arrived_marked a.w.now c.touch.new.w a.x.now a.letter.kind a.letter.message a.letter.from a.letter.to a.quiescent c.requires
    (omega arith) c.touch.ensures.words 3072 (c.touch.ensures.over c.if-touch.false)
