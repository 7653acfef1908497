-- What is counted for groups and processes, against the table of limits: the counters and sequence counts of
-- a process, the stamps and sequence numbers of a message, and what was delivered. Assumes nothing.
use Rattle.std.specs.Prelude.{◌≡◌, Bool, true, ◌&&◌, List, ℕ, ◌+◌, ◌*◌, ◌/◌, ◌%◌, ◌<◌}
use Rattle.std.proofs.Math.Path.{sym, ap, ap₂}
use Rattle.std.proofs.Common.{◌∙◌}
use native.Mathlib.Omega.{arith}
use Rattle.std.proofs.Math.Dec.{leb}
use Rattle.std.proofs.Math.ListN.{get_or}
use Rattle.definitions.specs.General.{pick}
use Rattle.definitions.specs.World.{Cell, State, count, addr, view, is_process, has_group}
use Rattle.definitions.specs.Sound.{word, fine}
use Rattle.base.specs.Tests.{both}
use Rattle.world.specs.Layout.{Within}
use Rattle.ranges.specs.Ranges.{within_at}
use Rattle.ranges.specs.Laws.{every_split}
use Rattle.limits.specs.Limits.{word_limit}
use Rattle.regions.specs.Runs.{fine_run, run_split, run_of}
use Rattle.blocks.specs.Known.{Bounds}

-- a word at most its limit
counted : (u e : Bool) (x k y : ℕ) → u ≡ e → y ≡ pick e k 0 → leb x y ≡ word u x (leb x k)
counted u e x k y p q = ap (leb x) q ∙ sym (word_limit e x k) ∙ ap (λ (a : Bool). word a x (leb x k)) (sym p)

module _ (w t : List ℕ) (h : Bounds (view w) t) (b : Bool) (here : b ≡ true) where
  -- a table of 8 groups by 16 processes and then 8 groups, from a on
  pub table_law : (a : ℕ) (pair : ℕ → ℕ → Cell) (one : ℕ → Cell)
      → ((g q : ℕ) → g < 8 → q < 16 → Within (pair g q)) → ((g q : ℕ) → addr (pair g q) ≡ a + (g * 16 + q))
      → ((g : ℕ) → g < 8 → Within (one g)) → ((g : ℕ) → addr (one g) ≡ a + 128 + g)
      → ((g q : ℕ) → fine (view w) (pair g q)
      ≡ word (b && has_group (view w) g && is_process (view w) q)
      (view w (pair g q)) (leb (view w (pair g q)) (view w count)))
      → ((g : ℕ) → fine (view w) (one g)
      ≡ word (b && has_group (view w) g) (view w (one g)) (leb (view w (one g)) (view w count)))
      → within_at w a t 0 136 ≡ fine_run (view w) a 136
  unfolding within_at
  table_law a pair one wp ap' wo ao fp fo =
      every_split 128 8 (λ i. leb (get_or w (a + i) 0) (get_or t (0 + i) 0))
      ∙ ap₂ both
      (run_of s a 128 (λ i. pair (i / 16) (i % 16)) (λ i. leb (get_or w (a + i) 0) (get_or t (0 + i) 0))
      (λ i l. wp (i / 16) (i % 16) (omega arith) (omega arith)) (λ i l. place i)
      (λ i l. counted (b && has_group s (i / 16) && is_process s (i % 16))
      (has_group s (i / 16) && is_process s (i % 16)) (get_or w (a + i) 0) (s count) _
      (ap (λ (x : Bool). x && has_group s (i / 16) && is_process s (i % 16)) here)
      (ap (λ (j : ℕ). get_or t j 0) (let e : 0 + i ≡ i / 16 * 16 + i % 16 = omega arith in e)
      ∙ h.pairs (i / 16) (i % 16) (omega arith) (omega arith))
      ∙ ap (λ (x : ℕ). word (b && has_group s (i / 16) && is_process s (i % 16)) x (leb x (s count)))
      (ap (λ (j : ℕ). get_or w j 0) (sym (place i))) ∙ sym (fp (i / 16) (i % 16))))
      (run_of s (a + 128) 8 one (λ i. leb (get_or w (a + (128 + i)) 0) (get_or t (0 + (128 + i)) 0)) wo
      (λ i l. ao i)
      (λ i l. counted (b && has_group s i) (has_group s i) (get_or w (a + (128 + i)) 0) (s count) _
      (ap (λ (x : Bool). x && has_group s i) here)
      (ap (λ (j : ℕ). get_or t j 0) (let e : 0 + (128 + i) ≡ 128 + i = omega arith in e) ∙ h.alone i l)
      ∙ ap (λ (x : ℕ). word (b && has_group s i) x (leb x (s count)))
      (ap (λ (j : ℕ). get_or w j 0) (let z = ao i in let e : a + (128 + i) ≡ addr (one i) = omega arith in e))
      ∙ sym (fo i)))
      ∙ sym (run_split s a 128 8)
    where
      s : State
      s = view w

      place : (i : ℕ) → addr (pair (i / 16) (i % 16)) ≡ a + i
      place i = ap' (i / 16) (i % 16) ∙ (let e : a + (i / 16 * 16 + i % 16) ≡ a + i = omega arith in e)

  -- 16 processes, from a on
  pub row_law : (a : ℕ) (one : ℕ → Cell) → ((q : ℕ) → q < 16 → Within (one q))
      → ((q : ℕ) → addr (one q) ≡ a + q)
      → ((q : ℕ) → fine (view w) (one q)
      ≡ word (b && is_process (view w) q) (view w (one q)) (leb (view w (one q)) (view w count)))
      → within_at w a t 136 16 ≡ fine_run (view w) a 16
  unfolding within_at
  row_law a one wo ao fo =
      run_of (view w) a 16 one (λ i. leb (get_or w (a + i) 0) (get_or t (136 + i) 0)) wo (λ i l. ao i)
      (λ i l. counted (b && is_process (view w) i) (is_process (view w) i) (get_or w (a + i) 0) (view w count) _
      (ap (λ (x : Bool). x && is_process (view w) i) here)
      (h.processes i l)
      ∙ ap (λ (x : ℕ). word (b && is_process (view w) i) x (leb x (view w count)))
      (ap (λ (j : ℕ). get_or w j 0) (sym (ao i))) ∙ sym (fo i))
