-- A letter leaves flight, and an OK sets its mark, on words. Assumes nothing.
use Rattle.std.specs.Prelude.{◌≡◌, Bool, true, false, List, ℕ, ◌<◌, eqb, set}
use Rattle.std.proofs.Common.{ap, ◌∙◌}
use Rattle.std.proofs.lemmas.List.{set-get_or}
use Rattle.definitions.specs.General.{with, without, pick}
use Rattle.definitions.specs.World.{marks, flight, addr, State, put, encode, view}
use Rattle.definitions.specs.Machine.{leave, mark}
use Rattle.world.specs.Layout.{Changes, set_encode, reads_cell}
use Rattle.bounds.specs.Bounds.{Bounds}

-- ---- the bounds on the way
pub bounds_pick : (b : Bool) (s t : State) → Bounds s → Bounds t → Bounds (pick b s t)
bounds_pick true s t h k = h
bounds_pick false s t h k = k

pub bounds_marked : (s : State) (k m q p : ℕ) → Bounds s → Bounds (mark (leave s k m q p) k m q p)
unfolding leave mark put
bounds_marked s k m q p h = bounds_pick (eqb k 2) _ (leave s k m q p) h h

-- ---- the letter leaves flight
pub leave_law : (w : List ℕ) (k m q p : ℕ) {x y : ℕ} → k < 3 → m < 64 → q < 16 → x ≡ view w (flight m k q)
    → y ≡ without x p → Changes w (set w (addr (flight m k q)) y) (λ s. leave s k m q p)
unfolding leave
leave_law w k m q p {x} {y} hk hm hq ex ey s e =
    ap (λ (l : List ℕ). set l (addr (flight m k q)) y) e ∙ set_encode s (flight m k q) y (hm, hk, hq)
    ∙ ap (λ (v : ℕ). encode (put s (flight m k q) v))
    (ey ∙ ap (λ (z : ℕ). without z p) (ex ∙ reads_cell w (flight m k q) (hm, hk, hq) s e))

-- ---- the mark of an OK; of another letter the word is written as it was
pub mark_law : (w : List ℕ) (k m q p : ℕ) {x y : ℕ} → m < 64 → p < 16 → x ≡ view w (marks p m)
    → y ≡ pick (eqb k 2) (with x q) x → Changes w (set w (addr (marks p m)) y) (λ s. mark s k m q p)
unfolding mark
mark_law w k m q p {x} {y} hm hp ex ey s e = go (eqb k 2) ey
  where
    go : (b : Bool) → y ≡ pick b (with x q) x
        → set w (addr (marks p m)) y ≡ encode (pick b (put s (marks p m) (with (s (marks p m)) q)) s)
    go true z =
        ap (λ (l : List ℕ). set l (addr (marks p m)) y) e ∙ set_encode s (marks p m) y (hp, hm)
        ∙ ap (λ (v : ℕ). encode (put s (marks p m) v))
        (z ∙ ap (λ (v : ℕ). with v q) (ex ∙ reads_cell w (marks p m) (hp, hm) s e))
    go false z = ap (set w (addr (marks p m))) (z ∙ ex) ∙ set-get_or w (addr (marks p m)) 0 ∙ e
