-- The record of a sender, raised for each group of a mask: its counters and its sequence counts each have
-- some entries raised by 1, one for each group that the mask names. Assumes nothing.
use Rattle.std.specs.Prelude.{◌≡◌, Bool, true, false, ◌≢◌, ltb, length, get_or, set}
use Rattle.std.proofs.Math.Path.{refl}
use Rattle.std.proofs.Common.{sym, ap, ◌∙◌, add-one, not-suc-le-zero, arith, ltb-true, ltb-false, length-set, get_or-set_same, get_or-set_other}
use mathlib.Core.List.{List}
use Prim.Native.Nat.{ℕ, zero, suc, ◌+◌, ◌*◌, ◌≤◌, ◌<◌}
use Rattle.std.proofs.Math.Decide.{ℕ_discrete}
use Rattle.std.proofs.Math.ListN.{get_or-eq_default}
use Rattle.std.proofs.Math.Seq.{set_out}
use Rattle.definitions.specs.General.{pick, bit, tabulate}
use Rattle.definitions.specs.World.{counter, sequence, State}
use Rattle.base.specs.Tabulate.{length_tabulate, get_d_tabulate}
use Rattle.records.specs.declared.Process.{Process}

-- ---- entries of a list raised
-- entry i raised by 1
abbrev pub bump : List ℕ → ℕ → List ℕ
bump l i = set l i (get_or l i 0 + 1)

-- for each group below k that the mask names, the entry at its place
unfoldable pub bumps : (ℕ → ℕ) → ℕ → ℕ → List ℕ → List ℕ
bumps place groups zero l = l
bumps place groups (suc k) l =
    let x = bumps place groups k l in
    pick (bit groups k) (bump x (place k)) x

module _ (place : ℕ → ℕ) (groups : ℕ) (l : List ℕ) where
  pub length_bumps : (k : ℕ) → length (bumps place groups k l) ≡ length l
  unfolding bumps
  length_bumps zero = refl
  length_bumps (suc k) = go (bit groups k) (length_bumps k)
    where
      x : List ℕ
      x = bumps place groups k l

      go : (b : Bool) → length x ≡ length l → length (pick b (bump x (place k)) x) ≡ length l
      go true e = length-set x (place k) _ ∙ e
      go false e = e

  -- an entry that is no group's place stands
  pub not_bumped : (k j : ℕ) → ((g : ℕ) → g < k → j ≢ place g)
      → get_or (bumps place groups k l) j 0 ≡ get_or l j 0
  unfolding bumps
  not_bumped zero j n = refl
  not_bumped (suc k) j n = go (bit groups k) (not_bumped k j (λ g h. n g (omega arith)))
    where
      x : List ℕ
      x = bumps place groups k l

      go : (b : Bool) → get_or x j 0 ≡ get_or l j 0 → get_or (pick b (bump x (place k)) x) j 0 ≡ get_or l j 0
      go true e = get_or-set_other x (place k) j _ 0 (n k (omega arith)) ∙ e
      go false e = e

  -- the entry at a group's place is raised if the mask names the group
  pub bumped : (k : ℕ) → ((g : ℕ) → g < k → place g < length l)
      → ((g h : ℕ) → g < k → h < k → g ≢ h → place g ≢ place h)
      → (g : ℕ) → g < k
      → get_or (bumps place groups k l) (place g) 0 ≡ pick (bit groups g) (get_or l (place g) 0 + 1)
      (get_or l (place g) 0)
  unfolding bumps
  bumped zero inside apart g h = absurd (not-suc-le-zero h)
  bumped (suc k) inside apart g h =
      go (bit groups k) refl (ℕ_discrete g k)
      (λ z. bumped k (λ i a. inside i (omega arith)) (λ i j a b. apart i j (omega arith) (omega arith)) g z)
    where
      x : List ℕ
      x = bumps place groups k l

      first : get_or x (place k) 0 ≡ get_or l (place k) 0
      first =
          not_bumped k (place k) (λ i a. apart k i (omega arith) (omega arith) (λ e. absurd (omega arith)))

      here : (b : Bool) → bit groups k ≡ b → g ≡ k
          → get_or (pick b (bump x (place k)) x) (place k) 0 ≡ pick b (get_or l (place k) 0 + 1)
          (get_or l (place k) 0)
          → get_or (pick b (bump x (place k)) x) (place g) 0
          ≡ pick (bit groups g) (get_or l (place g) 0 + 1) (get_or l (place g) 0)
      here b e d z =
          ap (λ (i : ℕ). get_or (pick b (bump x (place k)) x) (place i) 0) d ∙ z
          ∙ ap (λ (t : Bool). pick t (get_or l (place k) 0 + 1) (get_or l (place k) 0)) (sym e)
          ∙ ap (λ (i : ℕ). pick (bit groups i) (get_or l (place i) 0 + 1) (get_or l (place i) 0)) (sym d)

      go : (b : Bool) → bit groups k ≡ b → Dec (g ≡ k)
          → (g < k → get_or (pick false (bump x (place k)) x) (place g) 0
          ≡ pick (bit groups g) (get_or l (place g) 0 + 1) (get_or l (place g) 0))
          → get_or (pick b (bump x (place k)) x) (place g) 0
          ≡ pick (bit groups g) (get_or l (place g) 0 + 1) (get_or l (place g) 0)
      go true e (yes d) ih =
          here true e d
          (get_or-set_same x (place k) _ 0 (omega (arith, length_bumps k, inside k (omega arith)))
          ∙ ap (λ (y : ℕ). y + 1) first)
      go false e (yes d) ih = here false e d first
      go true e (no n) ih =
          get_or-set_other x (place k) (place g) _ 0 (apart g k h (omega arith) n) ∙ ih (omega arith)
      go false e (no n) ih = ih (omega arith)

-- ---- the record raised
abbrev pub raised_one : Process → ℕ → ℕ → Process
raised_one r p g = record {
  group = r.group;
  trust = r.trust;
  counters = bump r.counters (g * 16 + p);
  sequences = bump r.sequences g;
  next = r.next;
  delivered = r.delivered;
}

-- for each group below k that the mask names
abbrev pub raised_below : ℕ → ℕ → ℕ → Process → Process
raised_below k p groups r = record {
  group = r.group;
  trust = r.trust;
  counters = bumps (λ g. g * 16 + p) groups k r.counters;
  sequences = bumps (λ g. g) groups k r.sequences;
  next = r.next;
  delivered = r.delivered;
}

pub raised_start : (p groups : ℕ) (r : Process) → r ≡ raised_below 0 p groups r
unfolding bumps
raised_start p groups r = refl

pub raised_more : (k p groups : ℕ) (r : Process) {x y : Process} → x ≡ raised_below k p groups r
    → y ≡ pick (bit groups k) (raised_one x p k) x → y ≡ raised_below (k + 1) p groups r
unfolding bumps
raised_more k p groups r ex ey =
    ey ∙ ap (λ (z : Process). pick (bit groups k) (raised_one z p k) z) ex ∙ go (bit groups k) refl
    ∙ ap (λ (n : ℕ). raised_below n p groups r) (sym (add-one k))
  where
    go : (b : Bool) → bit groups k ≡ b
        → pick b (raised_one (raised_below k p groups r) p k) (raised_below k p groups r)
        ≡ raised_below (suc k) p groups r
    go true e = rw e
    go false e = rw e

-- ---- no entry is near the largest word
abbrev pub Below : ℕ → List ℕ → Type 0
Below b l = (i : ℕ) → get_or l i 0 < b

below_bump : (b : ℕ) (l : List ℕ) (j : ℕ) → Below b l → Below (b + 1) (bump l j)
below_bump b l j h i = go (ℕ_discrete i j) (ltb j (length l)) refl
  where
    go : Dec (i ≡ j) → (t : Bool) → ltb j (length l) ≡ t → get_or (bump l j) i 0 < b + 1
    go (no n) t f = omega (arith, get_or-set_other l j i (get_or l j 0 + 1) 0 n, h i)
    go (yes e) true f =
        rw e (omega (arith, get_or-set_same l j (get_or l j 0 + 1) 0 (ltb-true j (length l) f), h j))
    go (yes e) false f =
        omega (
          arith,
          ap (λ (x : List ℕ). get_or x i 0)
              (set_out l j (get_or l j 0 + 1) (ltb-false j (length l) f)),
          h i,
        )

pub below_raised : (t : Bool) (b : ℕ) (r : Process) (p g : ℕ) {q : Process} → q ≡ pick t (raised_one r p g) r
    → Below b r.counters → Below b r.sequences
    → (Below (b + 1) q.counters) × (Below (b + 1) q.sequences)
below_raised true b r p g e h k = (
  λ i. rw (ap (λ (x : Process). get_or x.counters i 0) e) (below_bump b r.counters (g * 16 + p) h i),
  λ i. rw (ap (λ (x : Process). get_or x.sequences i 0) e) (below_bump b r.sequences g k i),
)
below_raised false b r p g e h k = (
  λ i. rw (ap (λ (x : Process). get_or x.counters i 0) e) (omega (arith, h i)),
  λ i. rw (ap (λ (x : Process). get_or x.sequences i 0) e) (omega (arith, k i)),
)

-- the counters and sequence counts of p are low
pub record Low (s : State) (p : ℕ) : Type 0 where
  pub counters_low : (g q : ℕ) → g < 8 → q < 16 → s (counter p g q) ≤ 64
  pub sequences_low : (g : ℕ) → g < 8 → s (sequence p g) ≤ 64

pub below_tabulate : (n b : ℕ) (f : ℕ → ℕ) → 0 < b → ((i : ℕ) → i < n → f i < b) → Below b (tabulate n f)
below_tabulate n b f pos h i = go (ltb i n) refl
  where
    go : (t : Bool) → ltb i n ≡ t → get_or (tabulate n f) i 0 < b
    go true e = omega (arith, get_d_tabulate n f i 0 (ltb-true i n e), h i (ltb-true i n e))
    go false e =
        let l : length (tabulate n f) ≤ i = omega (arith, length_tabulate n f, ltb-false i n e) in
        omega (arith, get_or-eq_default (tabulate n f) 0 {n = i} l)
