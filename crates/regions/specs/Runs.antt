-- A run of words that are all fine: in two parts, as a region of cells, and one word. Assumes nothing.
use Rattle.std.specs.Prelude.{◌≡◌, refl, Bool, true, false, ◌&&◌, ℕ, ◌+◌, ◌-◌, ◌≤◌, ◌<◌}
use Rattle.std.proofs.Common.{sym, ap, ◌∙◌, arith}
use Rattle.definitions.specs.General.{every}
use Rattle.definitions.specs.World.{Cell, State, addr, cell_at}
use Rattle.definitions.specs.Sound.{fine}
use Rattle.base.specs.Tests.{both, both_i}
use Rattle.base.specs.Search.{every_true, every_intro, every_cong}
use Rattle.world.specs.Layout.{Within, cell_at_addr}
use Rattle.ranges.specs.Laws.{every_split}

-- The n words from a on are fine.
unfoldable pub fine_run : State → ℕ → ℕ → Bool
fine_run s a n = every n (λ i. fine s (cell_at (a + i)))

pub run_split : (s : State) (a n k : ℕ) → fine_run s a (n + k) ≡ (fine_run s a n && fine_run s (a + n) k)
unfolding fine_run
run_split s a n k =
    every_split n k (λ i. fine s (cell_at (a + i)))
    ∙ ap (both (every n (λ i. fine s (cell_at (a + i)))))
    (every_cong k (λ i. fine s (cell_at (a + (n + i)))) (λ i. fine s (cell_at (a + n + i)))
    (λ i l. let e : a + (n + i) ≡ a + n + i = omega arith in ap (λ (x : ℕ). fine s (cell_at x)) e))

-- the run is a region of cells, each with its own test
pub run_of : (s : State) (a n : ℕ) (c : ℕ → Cell) (f : ℕ → Bool) → ((i : ℕ) → i < n → Within (c i))
    → ((i : ℕ) → i < n → addr (c i) ≡ a + i) → ((i : ℕ) → i < n → f i ≡ fine s (c i))
    → every n f ≡ fine_run s a n
unfolding fine_run
run_of s a n c f inside place h =
    every_cong n f (λ i. fine s (cell_at (a + i)))
    (λ i l. h i l ∙ ap (fine s) (sym (ap cell_at (sym (place i l)) ∙ cell_at_addr (c i) (inside i l))))

pub run_one : (s : State) (c : Cell) → Within c → fine s c ≡ fine_run s (addr c) 1
unfolding every
run_one s c h = go (fine s c) ∙ run_of s (addr c) 1 (λ _. c) (λ _. fine s c) (λ _ _. h) (λ i l. omega arith)
    (λ _ _. refl)
  where
    go : (b : Bool) → b ≡ elim b [ true ↦ true | false ↦ false ]
    go true = refl
    go false = refl

-- ---- as facts: two runs side by side, a part of a run, a cell of it
pub run_join : (s : State) (a n k b t : ℕ) → b ≡ a + n → t ≡ n + k → fine_run s a n ≡ true → fine_run s b k
    ≡ true
    → fine_run s a t ≡ true
run_join s a n k b t eb et p q =
    ap (fine_run s a) et ∙ run_split s a n k
    ∙ both_i (fine_run s a n) (fine_run s (a + n) k) p (ap (λ (x : ℕ). fine_run s x k) (sym eb) ∙ q)

pub run_part : (s : State) (a n : ℕ) → fine_run s a n ≡ true → (b k : ℕ) → a ≤ b → b + k ≤ a + n
    → fine_run s b k ≡ true
unfolding fine_run
run_part s a n e b k lo hi =
    every_intro k (λ i. fine s (cell_at (b + i)))
    (λ i l. let z : a + (b + i - a) ≡ b + i = omega arith in
    ap (λ (x : ℕ). fine s (cell_at x)) (sym z)
    ∙ every_true n (λ i. fine s (cell_at (a + i))) e (b + i - a) (omega arith))

pub run_cell : (s : State) (a n : ℕ) → fine_run s a n ≡ true → (c : Cell) → Within c → a ≤ addr c
    → addr c < a + n
    → fine s c ≡ true
run_cell s a n e c h lo hi = run_one s c h ∙ run_part s a n e (addr c) 1 lo (omega arith)

-- in two parts at a place
pub run_cut : (s : State) (a n k b t : ℕ) → b ≡ a + n → t ≡ n + k
    → (fine_run s a n && fine_run s b k) ≡ fine_run s a t
run_cut s a n k b t eb et =
    ap (λ (x : ℕ). fine_run s a n && fine_run s x k) eb ∙ sym (run_split s a n k) ∙ ap (fine_run s a) (sym et)
