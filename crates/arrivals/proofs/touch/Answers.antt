-- `arrivals::touch` meets its contract. Assumes nothing.
use native.Mathlib.Omega.{arith}
use Rattle.world.specs.Layout.{Changes}
use Rattle.arrivals.specs.Arrival.{marked_of, marked_bounds, marked_count, marked_words}
use Rattle.arrivals.proofs.touch.Goals as goal
use Rattle.arrivals.proofs.touch.Goals.{After-set_mark}

-- the letter is out, and its mark is set
changed : (c : After-set_mark)
    → let a = c.args in
    Changes a.w.now c.set_mark.new.w (λ s. marked_of s a.letter.kind a.letter.message a.letter.from a.letter.to)
changed c s e = c.set_mark.ensures _ (c.take_out.ensures s e)

pub has_marks-requires : goal.has_marks-requires
has_marks-requires c =
    let a = c.args in
    let l = a.letter in
    let u = c.set_mark.new.w in
    let h = c.requires.bounds in
    let e = changed (goal.at.has_marks-requires c).After-set_mark in
    record {
      p_in = c.requires.to_in;
      m_in = omega (arith, c.requires.message_in, marked_count a.w.now u l.kind l.message l.from l.to c.told-w h e);
      bounds = marked_bounds a.w.now u l.kind l.message l.from l.to c.told-w h e;
      index = marked_words a.w.now u l.kind l.message l.from l.to c.told-w h e c.requires.index;
    }
