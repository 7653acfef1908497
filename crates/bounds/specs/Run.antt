-- A loop of the code over words beside a loop of the definitions over states: the words hold a state from
-- which what is left of the definition's loop ends where the whole loop ends. Assumes nothing.
use Rattle.std.specs.Prelude.{◌≡◌, Bool, true, false, List, ltb}
use Rattle.std.proofs.Math.Path.{refl}
use Rattle.std.proofs.Common.{sym, ap, ◌∙◌, arith, ltb-true}
use Prim.Native.Nat.{ℕ, zero, suc, ◌-◌, ◌≤◌, ◌<◌}
use Rattle.definitions.specs.General.{chosen, loop}
use Rattle.definitions.specs.World.{State, encode}
use Rattle.base.specs.Loop.{loop_turn, loop_stops, loop_none}
use Rattle.world.specs.Layout.{Changes}

module _ (bound : State → ℕ) (test : State → ℕ → Bool) (act : State → ℕ → State) where
  -- with so many turns left; P is what the turns keep
  pub record Run (P : ℕ → State → Type 0) (end : State) (w : List ℕ) (left : ℕ) : Type 0 where
    pub state : State
    pub words : w ≡ encode state
    pub kept : P left state
    pub rest : end ≡ loop bound test act left state

  -- one turn
  unfoldable pub run_more : {P : ℕ → State → Type 0} {end : State} {w u : List ℕ} {left i : ℕ}
      → ((k : ℕ) (t : State) (x : ℕ) → x < bound t → P (suc k) t → P k (act t x))
      → (r : Run P end w left) → 0 < left → i < bound r.state → i ≡ chosen bound test act r.state
      → Changes w u (λ x. act x i) → Run P end u (left - 1)
  run_more {P} {end} {w} {u} {left} {i} keep r h l e ch =
      let z : State = r.state in
      let k : left ≡ suc (left - 1) = omega arith in
      let q : chosen bound test act z < bound z = omega (arith, e) in
      record {
        state = act z i;
        words = ch z r.words;
        kept = keep (left - 1) z i l (rw k at r.kept);
        rest = r.rest ∙ ap (λ (n : ℕ). loop bound test act n z) k ∙ loop_turn bound test act (left - 1) z q
            ∙ ap (λ (x : ℕ). loop bound test act (left - 1) (act z x)) (sym e);
      }

  -- no turn is left
  pub run_end : {P : ℕ → State → Type 0} {end : State} {w : List ℕ} → Run P end w 0 → w ≡ encode end
  run_end r = r.words ∙ ap encode (sym (r.rest ∙ loop_none bound test act r.state))

  -- nothing passes the test
  pub run_stop : {P : ℕ → State → Type 0} {end : State} {w : List ℕ} {left i : ℕ} → (r : Run P end w left)
      → bound r.state ≤ i → i ≡ chosen bound test act r.state → w ≡ encode end
  run_stop {left = left} r h e =
      let q : bound r.state ≤ chosen bound test act r.state = omega (arith, e) in
      r.words ∙ ap encode (sym (r.rest ∙ loop_stops bound test act left r.state q))

  -- what the turns keep, with fewer turns left after each, gives at the end what it gives with any number left
  pub loop_leaves : (P : ℕ → State → Type 0) (Q : State → Type 0)
      → ((k : ℕ) (t : State) (x : ℕ) → x < bound t → P (suc k) t → P k (act t x))
      → ((k : ℕ) (t : State) → P k t → Q t) → (k : ℕ) (s : State) → P k s → Q (loop bound test act k s)
  unfolding loop
  loop_leaves P Q keep gives zero s h = gives 0 s h
  loop_leaves P Q keep gives (suc k) s h =
      go (ltb i (bound s)) refl (λ z. loop_leaves P Q keep gives k (act s i) z)
    where
      i : ℕ
      i = chosen bound test act s

      go : (b : Bool) → ltb i (bound s) ≡ b → (P k (act s i) → Q (loop bound test act k (act s i)))
          → Q (elim b [ true ↦ loop bound test act k (act s i) | false ↦ s ])
      go true e next = next (keep k s i (ltb-true i (bound s) e) h)
      go false e next = gives (suc k) s h
