-- The events of a step: the deliveries that the causal logs have gained. A step at one process gives that
-- process's new deliveries and no others. Assumes nothing.
use Rattle.std.specs.Prelude.{◌≡◌, refl, List, ◌∷◌, ◌≢◌}
use Rattle.std.proofs.Common.{sym, ap, ap₂, ◌∙◌, arith, not-suc-le-zero}
use Prim.Native.Nat.{ℕ, zero, suc, ◌+◌, ◌-◌, ◌<◌}
use Rattle.std.proofs.Math.Decide.{ℕ_discrete}
use Rattle.definitions.specs.World.{causal_length, causal, State}
use Rattle.definitions.specs.History.{Event, got, deliveries, grown, gained}

-- deliveries read off equal items
pub deliveries_same : (p a n : ℕ) (f g : ℕ → ℕ) (es : List Event)
    → ((i : ℕ) → i < n → f (a + i) ≡ g (a + i)) → deliveries p a n f es ≡ deliveries p a n g es
unfolding deliveries
deliveries_same p a zero f g es h = refl
deliveries_same p a (suc n) f g es h =
    ap₂ (λ (x : ℕ) (l : List Event). got p x ∷ l) (h n (omega arith))
    (deliveries_same p a n f g es (λ i l. h i (omega arith)))

-- what a delivery keeps, the events of a step keep
module _ (P : List Event → Type 0) (keep : (p m : ℕ) (es : List Event) → P es → P (got p m ∷ es)) where
  deliveries_keep : (p a k : ℕ) (log : ℕ → ℕ) (es : List Event) → P es → P (deliveries p a k log es)
  unfolding deliveries
  deliveries_keep p a zero log es h = h
  deliveries_keep p a (suc k) log es h = keep p _ _ (deliveries_keep p a k log es h)

  pub gained_keeps : (k : ℕ) (s t : State) (es : List Event) → P es → P (gained k s t es)
  unfolding gained
  gained_keeps zero s t es h = h
  gained_keeps (suc k) s t es h =
      deliveries_keep k (s (causal_length k)) (t (causal_length k) - s (causal_length k)) (λ i. t (causal k i))
      (gained k s t es) (gained_keeps k s t es h)

-- a log that has not grown gives none
pub grown_none : (p : ℕ) (s t : State) (es : List Event) → t (causal_length p) ≡ s (causal_length p)
    → grown p (s (causal_length p)) t es ≡ es
unfolding deliveries
grown_none p s t es e =
    let z : t (causal_length p) - s (causal_length p) ≡ 0 = omega arith in
    ap (λ (n : ℕ). deliveries p (s (causal_length p)) n (λ i. t (causal p i)) es) z

-- logs that have not grown give none
pub gained_none : (n : ℕ) (s t : State) (es : List Event)
    → ((r : ℕ) → r < n → t (causal_length r) ≡ s (causal_length r))
    → gained n s t es ≡ es
unfolding gained
gained_none zero s t es h = refl
gained_none (suc n) s t es h =
    ap (grown n (s (causal_length n)) t) (gained_none n s t es (λ r l. h r (omega arith)))
    ∙ grown_none n s t es (h n (omega arith))

-- where only the log of p has grown
pub gained_one : (n p : ℕ) (s t : State) (es : List Event) → p < n
    → ((r : ℕ) → p ≢ r → t (causal_length r) ≡ s (causal_length r))
    → gained n s t es ≡ grown p (s (causal_length p)) t es
unfolding gained
gained_one zero p s t es l h = absurd (not-suc-le-zero l)
gained_one (suc n) p s t es l h = elim (ℕ_discrete p n) [
  | yes e ↦ ap (grown n (s (causal_length n)) t) (gained_none n s t es (λ r k. h r (omega arith)))
      ∙ ap (λ (x : ℕ). grown x (s (causal_length x)) t es) (sym e)
  | no e ↦ ap (grown n (s (causal_length n)) t) (gained_one n p s t es (omega arith) h)
      ∙ grown_none n s t (grown p (s (causal_length p)) t es) (h n e)
]
