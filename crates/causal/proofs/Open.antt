-- The loop of the code beside the definition's (specs/Open): a place is delivered, and the end. Assumes nothing.
use Rattle.std.specs.Prelude.{◌≡◌, None, ℕ, ◌+◌, ◌-◌, ◌<◌, get_or, set, length}
use Rattle.std.proofs.Math.Path.{refl, ap, subst}
use Rattle.std.proofs.Common.{sym, ◌∙◌, arith, set-set}
use mathlib.Core.List.{List}
use Rattle.base.specs.Tests.{clash}
use Rattle.definitions.specs.General.{bit, without}
use Rattle.base.specs.Bits.{bit_zero}
use Rattle.bounds.specs.Bounds.{Bounds}
use Rattle.bounds.specs.Run.{run_more, run_stop}
use Rattle.causal.specs.Causal.{kept_more}
use Rattle.index.specs.Index.{Index}
use Rattle.index.specs.Changes.{index_causal, logs_causal}
use Rattle.definitions.specs.World.{fifo_length, causal_length, State, put, encode, view}
use Rattle.world.specs.Layout.{Changes, put_same}
use Rattle.definitions.specs.Machine.{deliverable_at, with_tables, merge, causal_one, causal_all}
use Rattle.causal.specs.Open.{First, Earliest, earliest_none, none_state, earliest_is, earliest_past, Going, stored, going_open, going_bounds, own, out, shorter}

module _ (p n : ℕ) (s : State) (w x : List ℕ) (places : ℕ) (hp : p < 16) (long : length x ≡ 112)
    (g : Going p n s w x places) where
  abbrev t : State
  t = g.run.state

  abbrev b : Bounds t
  b = g.run.kept.bounds

  -- a place is delivered
  module _ {i : ℕ} (e : First (view w) p i) where
    pub going_more : {u : List ℕ} {next : ℕ} → Changes w u (λ z. causal_one z p i) → next ≡ without places i
        → Going p n s u x next
    unfolding run_more causal_one merge with_tables put
    going_more {u} {next} c en =
        let f = (own p n s w x places hp long g e).within in
        let m = shorter p n s w x places hp long g e in
        let k = put_same t (causal_length p) (causal_length p) (t (causal_length p) + 1) refl in
        let q : 0 < g.left = omega (arith, g.full, g.run.kept.log) in
        record {
          left = g.left - 1;
          run = run_more (λ z. z (fifo_length p)) (λ z. deliverable_at z p) (λ z. causal_one z p) (kept_more p n) g.run q f
              (earliest_is t p i (own p n s w x places hp long g e)) c;
          full = omega (arith, g.full, k);
          logs = logs_causal t p i (set x (96 + p) places) next b g.index hp f g.logs was (out p n s w x places hp long g e);
          index = subst (λ (y : List ℕ). Index (causal_one t p i) y) (set-set x (96 + p) places next)
              (index_causal t p i (set x (96 + p) places) next b g.index hp f g.logs was);
        }
      where
        was : next ≡ without (get_or (set x (96 + p) places) (96 + p) 0) i
        was = en ∙ ap (λ (y : ℕ). without y i) (sym (stored p n s w x places hp long g))

  -- none can be delivered: the words and the index at the end
  pub going_stop : Earliest (view w) p None → w ≡ encode (causal_all s p)
  going_stop e =
      run_stop (λ z. z (fifo_length p)) (λ z. deliverable_at z p) (λ z. causal_one z p) g.run
      (earliest_past t p (none_state w t p g.run.words (going_bounds p n s w x places hp long g) hp e)) refl

  pub going_end : places ≡ 0 → w ≡ encode (causal_all s p)
  going_end e =
      going_stop (earliest_none (view w) p (omega (arith, (going_bounds p n s w x places hp long g).fifo_lengths p hp, (going_bounds p n s w x places hp long g).counts))
      (λ j l o. clash ((going_open p n s w x places hp long g) j l ∙ o) (ap (λ (y : ℕ). bit y j) e ∙ bit_zero j)))
