-- Next may rise before the causal deliveries: they neither look at it nor change it. Assumes nothing.
use Rattle.std.specs.Prelude.{◌≡◌, refl, ℕ, ◌-◌}
use Rattle.std.proofs.Common.{sym, ap, ◌∙◌}
use Rattle.std.proofs.Math.Path.{fun_ext}
use Rattle.definitions.specs.World.{Cell, size, count, rule, group, trust, counter, sequence, next, delivered, up, fifo_length, causal_length, held, marks, fifo, causal, sender, mask, stamp, number, flight, order, unused, State, put}
use Rattle.definitions.specs.Machine.{with_tables, lowest_short, lowest_awaited, short_of, awaited, deliverable, deliverable_at, merge, causal_one, causal_all, raised_next}
use Rattle.base.specs.Loop.{loop_related}

-- one causal delivery: each cell is the same
next_first : (s : State) (p q i : ℕ) (c : Cell)
    → causal_one (raised_next s p q) p i c ≡ raised_next (causal_one s p i) p q c
unfolding causal_one merge with_tables raised_next put
next_first s p q i size = refl
next_first s p q i count = refl
next_first s p q i rule = refl
next_first s p q i (group x) = refl
next_first s p q i (trust x) = refl
next_first s p q i (counter x g y) = refl
next_first s p q i (sequence x g) = refl
next_first s p q i (next x y) = refl
next_first s p q i (delivered x y) = refl
next_first s p q i (up x) = refl
next_first s p q i (fifo_length x) = refl
next_first s p q i (causal_length x) = refl
next_first s p q i (held x j) = refl
next_first s p q i (marks x j) = refl
next_first s p q i (fifo x j) = refl
next_first s p q i (causal x j) = refl
next_first s p q i (sender j) = refl
next_first s p q i (mask j) = refl
next_first s p q i (stamp j g y) = refl
next_first s p q i (number j g) = refl
next_first s p q i (flight j k y) = refl
next_first s p q i (order j) = refl
next_first s p q i (unused a) = refl

-- all of them
pub next_before : (s : State) (p q : ℕ) → causal_all (raised_next s p q) p ≡ raised_next (causal_all s p) p q
unfolding causal_all raised_next put deliverable_at deliverable awaited short_of lowest_short lowest_awaited
next_before s p q =
    loop_related (λ t. t (fifo_length p)) (λ t. deliverable_at t p) (λ t. causal_one t p)
    (λ _ t u. u ≡ raised_next t p q) (λ t u. u ≡ raised_next t p q) (λ _ t u e. e)
    (λ _ t u e. ap (λ (v : State). v (fifo_length p)) (sym e))
    (λ _ t u e j _. ap (λ (v : State). deliverable_at v p j) (sym e))
    (λ _ t u j _ _ e. ap (λ (v : State). causal_one v p j) e ∙ fun_ext (next_first t p q j))
    (s (fifo_length p) - s (causal_length p)) s (raised_next s p q) refl
