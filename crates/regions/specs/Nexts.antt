-- "next[q], for q below n, is 1 plus the number of q's messages in that FIFO log": the test of next against the count for
-- each sender. Assumes nothing.
use Rattle.std.specs.Prelude.{◌≡◌, refl, Bool, true, false, ◌&&◌, List, ℕ, ◌+◌, ◌*◌, ◌≤◌, ◌<◌, ltb, eqb, length, get_or}
use Rattle.std.proofs.Common.{sym, ap, ap₂, ◌∙◌, arith, lt-ltb}
use Rattle.definitions.specs.General.{pick, every, tally}
use Rattle.definitions.specs.World.{size, next, fifo_length, view, is_process}
use Rattle.definitions.specs.Sound.{word, logged_of, fit, fine}
use Rattle.regions.specs.Runs.{fine_run, run_of}
use Rattle.regions.specs.Rows.{Block}

-- Item i of the log from a on is of sender q.
abbrev pub from_at : List ℕ → ℕ → ℕ → ℕ → Bool
from_at w a q i = eqb (get_or w (6867 + get_or w (a + i) 0 * 187) 0) q

-- t has how many of the n items from a on are of each sender.
pub record Counted (w : List ℕ) (a n : ℕ) (t : List ℕ) : Type 0 where
  pub long : length t ≡ 16
  pub entries : (q : ℕ) → q < 16 → get_or t q 0 ≡ tally n (from_at w a q)

pub record Small (t : List ℕ) : Type 0 where
  pub long : length t ≡ 16
  pub small : (q : ℕ) → q < 16 → get_or t q 0 ≤ 64

-- What next[q] is where x messages of q are in the log, of n processes.
unfoldable pub next_of : ℕ → ℕ → ℕ → ℕ
next_of x n q = pick (ltb q n) (x + 1) 0

unfoldable pub nexts_at : List ℕ → ℕ → ℕ → List ℕ → Bool
nexts_at w a n t = every 16 (λ q. eqb (get_or w (a + q) 0) (next_of (get_or t q 0) n q))

-- ---- next against it
word_equal : (b : Bool) (x k : ℕ) → eqb x (pick b k 0) ≡ word b x (eqb x k)
word_equal true x k = refl
word_equal false x k = refl

pub nexts_law : (w : List ℕ) (p n l : ℕ) (t : List ℕ) → Block w p → n ≡ view w size → l
    ≡ view w (fifo_length p)
    → Counted w (3 + p * 429 + 301) l t
    → nexts_at w (3 + p * 429 + 138) n t ≡ fine_run (view w) (3 + p * 429 + 138) 16
unfolding nexts_at next_of fine fit logged_of
nexts_law w p n l t b en el c =
    run_of (view w) (3 + p * 429 + 138) 16 (next p)
    (λ q. eqb (view w (next p q)) (pick (ltb q n) (get_or t q 0 + 1) 0)) (λ q h. (b.low, h)) (λ q h. refl)
    (λ q h.
    let z : get_or t q 0 + 1 ≡ 1 + tally (view w (fifo_length p)) (from_at w (3 + p * 429 + 301) q) =
    omega (arith, c.entries q h, ap (λ (k : ℕ). tally k (from_at w (3 + p * 429 + 301) q)) el) in
    ap₂ (λ (k y : ℕ). eqb (view w (next p q)) (pick (ltb q k) y 0)) en z
    ∙ word_equal (is_process (view w) q) (view w (next p q))
    (1 + tally (view w (fifo_length p)) (from_at w (3 + p * 429 + 301) q))
    ∙ sym (ap (λ (a : Bool). word (a && is_process (view w) q) (view w (next p q))
    (eqb (view w (next p q)) (1 + tally (view w (fifo_length p)) (from_at w (3 + p * 429 + 301) q))))
    (lt-ltb p (view w size) b.here)))
