-- The answer for every run, over states: a message in the FIFO log of p and not in its causal log is told a process q and a
-- message of it. Of q's messages to the group before the waiting one there are more than del[q], which counts those that p
-- has delivered causally; the one with del[q] of them ahead of it has the count del[q] + 1. Assumes nothing.
use Rattle.std.specs.Prelude.{◌≡◌, true, ◌⊎◌}
use Rattle.std.proofs.Common.{sym, ap, ◌∙◌, arith}
use Rattle.std.proofs.Math.Bool.{false}
use Rattle.std.proofs.Math.Logic.{inl, inr}
use Prim.Native.Nat.{ℕ, suc, ◌+◌, ◌≤◌, ◌<◌}
use Rattle.std.proofs.Math.Decide.{ℕ_discrete}
use Rattle.std.proofs.lemmas.Bool.{not-false}
use Rattle.definitions.specs.General.{tally, in_at}
use Rattle.definitions.specs.World.{size, count, group, fifo, sender, stamp, State}
use Rattle.definitions.specs.Machine.{fits, message_of, lowest_short, awaited}
use Rattle.definitions.specs.History.{Before, Run}
use Rattle.base.specs.Tests.{bool_cases, le_or_lt, clash, both, both_l, both_r, both_i, same}
use Rattle.base.specs.Count.{tally_past, tally_cong, Nth, nth, nth_of}
use Rattle.world.specs.Awaited.{short_is, lowest_short_law, Next}
use Rattle.effects.specs.Views.{Messages, messages, process}
use Rattle.order.specs.Knowledge.{Knowledge}
use Rattle.order.specs.Counters.{of_to, of, Counting, sender_before, stamp_lt}
use Rattle.order.specs.Logs.{waits, Stuck}
use Rattle.order.specs.Cascade.{Fifo, Causal}
use Rattle.order.specs.Runs.{Whole}

-- ---- over the views: m knows of more of q's messages to g than d; the one with the count d + 1
pub data OneWith (w : Messages) (g q d : ℕ) : Type 0 where
  one_with : (y : ℕ) → y < w.total → of_to w q g y ≡ true → w.stamp y g q ≡ d + 1 → OneWith w g q d

module _ {n : ℕ} {w : Messages} {k : Knowledge} (c : Counting n w k) (m g q d : ℕ) (hm : m < w.total)
    (more : d < w.stamp m g q) where
  pub next_there : OneWith w g q d
  unfolding tally
  next_there =
      go (nth_of w.total (λ z. both (k.before m z) (of_to w q g z)) d (omega (arith, c.stamps m g q hm)))
    where
      go : Nth w.total (λ z. both (k.before m z) (of_to w q g z)) d → OneWith w g q d
      go (nth y hy e t) =
          let b = both_l (k.before m y) (of_to w q g y) e in
          let o = both_r (k.before m y) (of_to w q g y) e in
          let past = tally_past w.total (suc y) (λ z. both (k.before y z) (of_to w q g z)) (omega arith)
          (λ z l. above y z l (bool_cases (both (k.before y z) (of_to w q g z)))) in
          let even = tally_cong (suc y) (λ z. both (k.before y z) (of_to w q g z))
          (λ z. both (k.before m z) (of_to w q g z))
          (λ z l. alike y z hy b o (omega arith)) in
          let up : tally (suc y) (λ z. both (k.before m z) (of_to w q g z))
          ≡ suc (tally y (λ z. both (k.before m z) (of_to w q g z))) = rw e in
          one_with y hy o (omega (arith, c.stamps y g q hy, past, even, up, t))
        where
          above : (y z : ℕ) → suc y ≤ z → (both (k.before y z) (of_to w q g z) ≡ true)
              ⊎ (both (k.before y z) (of_to w q g z) ≡ false)
              → both (k.before y z) (of_to w q g z) ≡ false
          above y z l (inr e) = e
          above y z l (inl e) =
              absurd (omega (arith, (c.closed.before y).low z (both_l (k.before y z) (of_to w q g z) e)))

          alike : (y z : ℕ) → y < w.total → k.before m y ≡ true → of_to w q g y ≡ true → z ≤ y
              → both (k.before y z) (of_to w q g z) ≡ both (k.before m z) (of_to w q g z)
          alike y z hy b o l =
              same (both (k.before y z) (of_to w q g z)) (both (k.before m z) (of_to w q g z))
              (λ e.
              let oz = both_r (k.before y z) (of_to w q g z) e in
              both_i (k.before m z) (of_to w q g z)
              ((c.closed.before m).prefix y z b l (of w q g z oz ∙ sym (of w q g y o))) oz)
              (λ e.
              let oz = both_r (k.before m z) (of_to w q g z) e in
              both_i (k.before y z) (of_to w q g z)
              (sender_before c y z hy l (of w q g z oz ∙ sym (of w q g y o))) oz)

-- ---- of a run: what the answer says of a message that waits
pub record Told (r : Run State) (p m : ℕ) : Type 0 where
  pub of : ℕ
  pub message : ℕ
  pub answer : awaited r.now p m ≡ message_of of message
  pub exists : message < r.now count
  pub next : Next r.now p of message
  pub precedes : Before r.seen message m
  pub undelivered : ¬ Causal r.now p message

module _ {r : Run State} (w : Whole r) (p m : ℕ) (f : Fifo r.now p m) (out : ¬ Causal r.now p m) where
  abbrev g : ℕ
  g = r.now (group p)

  -- a message
  pub message_low : m < r.now count
  message_low = elim f [ in_at i h e ↦ rw e at ((w.meaning.each p).fifo_log.old i h) ]

  -- some process falls short
  pub some_short : lowest_short r.now p m < r.now size
  some_short = elim f [ in_at i h e ↦ go i e (w.quiet p i h) ]
    where
      go : (i : ℕ) → r.now (fifo p i) ≡ m
          → Stuck (r.now size) (messages r.now) (process r.now p) (r.now (fifo p i))
          → lowest_short r.now p m < r.now size
      go i e (inl a) = absurd (out (rw e at a))
      go i e (inr (waits q hq ne lt)) = elim (le_or_lt (r.now size) (lowest_short r.now p m)) [
        | inr l ↦ l
        | inl l ↦ clash
            (not-false (fits r.now p m q) ((lowest_short_law r.now p m).miss q (omega arith) (omega arith)))
            (short_is r.now p m q (record {
              other = λ d. ne (d ∙ ap (λ (y : ℕ). r.now (sender y)) (sym e));
              above = rw e at lt;
            }))
      ]

-- of q's messages to the group only one is next, so that lowest and highest are the same
pub next_once : {r : Run State} → Whole r → (p q x y : ℕ) → x < r.now count → y < r.now count → Next r.now p q x
    → Next r.now p q y → x ≡ y
next_once {r} w p q x y hx hy nx ny = elim (ℕ_discrete x y) [
  | yes e ↦ e
  | no d ↦ elim (le_or_lt x y) [
    | inl l ↦ absurd (rises x y hy (omega arith) nx ny)
    | inr l ↦ absurd (rises y x hx l ny nx)
  ]
]
  where
    rises : (a b : ℕ) → b < r.now count → a < b → Next r.now p q a → Next r.now p q b → ⊥
    rises a b h l na nb =
        omega (
          arith,
          stamp_lt w.meaning.counting b a (r.now (group p)) h l nb.to,
          na.turn,
          nb.turn,
          ap (λ (v : ℕ). r.now (stamp a (r.now (group p)) v)) nb.of,
          ap (λ (v : ℕ). r.now (stamp b (r.now (group p)) v)) nb.of,
        )
