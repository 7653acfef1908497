-- The test "deliverable-at", read off words. Assumes nothing.
use Rattle.std.specs.Prelude.{◌≡◌, List, leb, eqb, get_or, take, drop}
use Rattle.std.proofs.Math.Path.{sym, ap, ap₂}
use Rattle.std.proofs.Common.{◌∙◌, arith, get_or-take, get_or-drop}
use Rattle.std.proofs.Math.Bool.{not}
use Prim.Native.Nat.{ℕ, ◌+◌, ◌-◌, ◌*◌, ◌≤◌, ◌<◌}
use Rattle.definitions.specs.General.{absent, every}
use Rattle.definitions.specs.World.{size, group, delivered, causal_length, fifo, causal, sender, stamp, State, encode, view}
use Rattle.definitions.specs.Machine.{fits, deliverable, deliverable_at}
use Rattle.base.specs.Search.{every_cong}
use Rattle.base.specs.Tests.{both, either}
use Rattle.world.specs.Layout.{get_encode}
use Rattle.world.specs.Awaited.{deliverable_every}
use Rattle.bounds.specs.Bounds.{Bounds}
use Rattle.counters.specs.Counters.{rows_at_most}

-- ---- what the tests read of words
module _ (s : State) (h : Bounds s) (p : ℕ) (hp : p < 16) where
  pub fits_words : (m : ℕ) → m < 64 → (q : ℕ) → q < 16 → fits (view (encode s)) p m q ≡ fits s p m q
  fits_words m hm q hq =
      let g = get_encode s (group p) (omega arith) in
      let l : s (group p) < 8 = h.groups p hp in
      ap₂ (λ (a b : ℕ). either (eqb q a)
      (leb (view (encode s) (stamp m b q)) (view (encode s) (delivered p q))))
      (get_encode s (sender m) (omega arith)) g
      ∙ ap₂ (λ (a b : ℕ). either (eqb q (s (sender m))) (leb a b))
      (get_encode s (stamp m (s (group p)) q) (omega arith)) (get_encode s (delivered p q) (omega arith))

  pub deliverable_words : (i : ℕ) → i < 64 → deliverable_at (view (encode s)) p i ≡ deliverable_at s p i
  unfolding deliverable_at absent
  deliverable_words i hi =
      let m : ℕ = s (fifo p i) in
      let lm : s (fifo p i) < 64 = h.logged p i hp hi in
      ap₂ both
      (ap₂ (λ (n k : ℕ). every n (λ j. not (eqb (view (encode s) (causal p j)) k)))
      (get_encode s (causal_length p) (omega arith)) (get_encode s (fifo p i) (omega arith))
      ∙ every_cong (s (causal_length p)) (λ j. not (eqb (view (encode s) (causal p j)) m))
      (λ j. not (eqb (s (causal p j)) m))
      (λ j l. ap (λ (x : ℕ). not (eqb x m))
      (get_encode s (causal p j) (omega (arith, h.fifo_lengths p hp, h.counts, h.causal_lengths p hp)))))
      (deliverable_every (view (encode s)) p (view (encode s) (fifo p i))
      ∙ ap₂ (λ (n k : ℕ). every n (fits (view (encode s)) p k)) (get_encode s size tt)
      (get_encode s (fifo p i) (omega arith))
      ∙ every_cong (s size) (fits (view (encode s)) p m) (fits s p m)
      (λ q l. fits_words m lm q (omega (arith, h.sizes)))
      ∙ sym (deliverable_every s p m))

-- ---- the counters of a message for a group, and del of a process, as parts of the words
-- The 16 words from b on, as the code lends them.
abbrev row : List ℕ → ℕ → List ℕ
row w b = take (b + 16 - b) (drop b w)

pub fits_rows : (w : List ℕ) (p g m : ℕ) → g ≡ view w (group p) → view w size ≤ 16
    → every (view w size) (rows_at_most (view w (sender m)) (row w (6867 + m * 187 + 2 + g * 16))
    (row w (3 + p * 429 + 154))) ≡ deliverable (view w) p m
fits_rows w p g m e few =
    (every_cong (view w size) _ (fits (view w) p m)
    (λ q l. ap₂ (λ (a b : ℕ). either (eqb q (view w (sender m))) (leb a b))
    (at (6867 + m * 187 + 2 + g * 16) q (omega arith)
    ∙ ap (λ (x : ℕ). get_or w x 0) (place q) ∙ ap (λ (x : ℕ). view w (stamp m x q)) e)
    (at (3 + p * 429 + 154) q (omega arith))))
    ∙ sym (deliverable_every (view w) p m)
  where
    at : (b q : ℕ) → q < 16 → get_or (row w b) q 0 ≡ get_or w (b + q) 0
    at b q l = get_or-take (b + 16 - b) (drop b w) q 0 (omega arith) ∙ get_or-drop b w q 0

    place : (q : ℕ) → 6867 + m * 187 + 2 + g * 16 + q ≡ 6867 + m * 187 + 2 + (g * 16 + q)
    place q = omega arith
