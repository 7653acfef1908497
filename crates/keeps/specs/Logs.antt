-- The logs of all processes, of which one gets an item more: the test of each item still passes, and the
-- messages of a sender are one more where the new item is his. The argument: what stood in a log stays, and
-- the new item stands at the old length. It rests on counting (base) and on the test of an item (world,
-- Sound). Assumes nothing.
use Rattle.std.specs.Prelude.{◌≡◌, refl, Bool, ◌&&◌, ◌≢◌, ℕ, suc, ◌+◌, ◌≤◌, ◌<◌, ltb, leb, eqb}
use Rattle.std.proofs.Common.{sym, ap, ap₂, ◌∙◌, subst, add-one, ltb-true, ltb-false, lt-ltb, le-ltb, le-leb, eq-eqb, ne_eqb}
use Rattle.std.proofs.Math.Path.{fun_ext}
use Rattle.std.proofs.Math.Bool.{true, false}
use native.Mathlib.Omega.{arith}
use Rattle.std.proofs.Math.Decide.{ℕ_discrete}
use Rattle.definitions.specs.General.{pick, in_at, tally, absent}
use Rattle.definitions.specs.World.{Cell, State, put}
use Rattle.definitions.specs.Sound.{word, item}
use Rattle.base.specs.Tests.{clash, both_l, both_r, both_i}
use Rattle.base.specs.Count.{tally_cong, absent_cong, absent_in, in_absent}
use Rattle.world.specs.Layout.{put_same, put_other}
use Rattle.world.specs.SoundLaws.{word_in, word_out, word_is}
use Rattle.keeps.specs.Forms.{word_to}

-- an item passes a test that is no stricter
pub item_weaker : (n : ℕ) (ok ok' : ℕ → Bool) (log : ℕ → ℕ) (i x : ℕ) → (ok x ≡ true → ok' x ≡ true)
    → item n ok log i x ≡ true → item n ok' log i x ≡ true
unfolding item
item_weaker n ok ok' log i x weak =
    word_to (ltb i n) x x _ _
    (λ u t. both_i (ok' x) (absent i x log) (weak (both_l (ok x) (absent i x log) t))
    (both_r (ok x) (absent i x log) t))
    (λ u z. z)

-- one log with m at its end: each item passes
item_more : (n m : ℕ) (ok : ℕ → Bool) (log log' : ℕ → ℕ) → log' n ≡ m → ((i : ℕ) → n ≢ i → log' i ≡ log i)
    → ok m ≡ true → absent n m log ≡ true
    → (i : ℕ) → item n ok log i (log i) ≡ true → item (n + 1) ok log' i (log' i) ≡ true
unfolding item
item_more n m ok log log' here old okay new i e = go (ℕ_discrete n i)
  where
    -- the items below i are as before where i is at most the old length
    before : i ≤ n → (x : ℕ) → absent i x log' ≡ absent i x log
    before l x = absent_cong i i x log' log refl (λ j k. old j (λ d. omega arith))

    go : Dec (n ≡ i) → word (ltb i (n + 1)) (log' i) (ok (log' i) && absent i (log' i) log') ≡ true
    go (yes q) =
        let v : log' i ≡ m = ap log' (sym q) ∙ here in
        word_is (ltb i (n + 1)) (log' i) _
        (λ u. both_i (ok (log' i)) (absent i (log' i) log') (ap ok v ∙ okay)
        (before (omega arith) (log' i) ∙ ap₂ (λ (j x : ℕ). absent j x log) (sym q) v ∙ new))
        (λ u. absurd (omega (arith, ltb-false i (n + 1) u)))
    go (no q) =
        let v : log' i ≡ log i = old i q in
        word_is (ltb i (n + 1)) (log' i) _
        (λ u. let l : i < n = omega (arith, ltb-true i (n + 1) u) in
        let t = word_in (ltb i n) (log i) _ e (lt-ltb i n l) in
        both_i (ok (log' i)) (absent i (log' i) log') (ap ok v ∙ both_l (ok (log i)) (absent i (log i) log) t)
        (before (omega arith) (log' i) ∙ ap (λ (x : ℕ). absent i x log) v
        ∙ both_r (ok (log i)) (absent i (log i) log) t))
        (λ u. v ∙ word_out (ltb i n) (log i) _ e (le-ltb i n (omega (arith, ltb-false i (n + 1) u))))

-- Lengths and logs of all processes, before and after: m is appended at p, and elsewhere nothing changes.
pub record Longer (p m : ℕ) (len : ℕ → ℕ) (log : ℕ → ℕ → ℕ) (len' : ℕ → ℕ) (log' : ℕ → ℕ → ℕ) : Type 0 where
  pub length_here : len' p ≡ len p + 1
  pub item_here : log' p (len p) ≡ m
  pub items_here : (i : ℕ) → len p ≢ i → log' p i ≡ log p i
  pub length_there : (x : ℕ) → p ≢ x → len' x ≡ len x
  pub items_there : (x : ℕ) → p ≢ x → log' x ≡ log x

module _ {p m : ℕ} {len len' : ℕ → ℕ} {log log' : ℕ → ℕ → ℕ} (l : Longer p m len log len' log') where
  -- no log is shorter than it was
  pub longer_length : (x : ℕ) → len x ≤ len' x
  longer_length x = go (ℕ_discrete p x)
    where
      go : Dec (p ≡ x) → len x ≤ len' x
      go (yes e) = subst (λ (y : ℕ). len y ≤ len' y) e (omega (arith, l.length_here))
      go (no n) = omega (arith, l.length_there x n)

  -- a bound of the lengths holds where it left room at p
  pub longer_bound : (used : ℕ → Bool) (bound : ℕ → ℕ) → used p ≡ true → len p < bound p
      → (x : ℕ) → word (used x) (len x) (leb (len x) (bound x)) ≡ true
      → word (used x) (len' x) (leb (len' x) (bound x)) ≡ true
  longer_bound used bound here room x e = go (ℕ_discrete p x)
    where
      go : Dec (p ≡ x) → word (used x) (len' x) (leb (len' x) (bound x)) ≡ true
      go (yes d) = subst (λ (y : ℕ). word (used y) (len' y) (leb (len' y) (bound y)) ≡ true) d
          (word_is (used p) (len' p) _ (λ _. le-leb (len' p) (bound p) (omega (arith, l.length_here)))
          (λ u. clash here u))
      go (no n) = ap (λ (k : ℕ). word (used x) k (leb k (bound x))) (l.length_there x n) ∙ e

  -- what was listed still is
  pub longer_listed : (x y : ℕ) → absent (len x) y (log x) ≡ false → absent (len' x) y (log' x) ≡ false
  longer_listed x y e = in_absent (elim (absent_in (len x) y (log x) e) [
    | in_at i k d ↦ in_at i (omega (arith, longer_length x)) (same i k (ℕ_discrete p x) ∙ d)
  ])
    where
      same : (i : ℕ) → i < len x → Dec (p ≡ x) → log' x i ≡ log x i
      same i k (yes e) =
          subst (λ (z : ℕ). log' z i ≡ log z i) e (l.items_here i (λ d. omega (arith, ap len e)))
      same i k (no n) = ap (λ (f : ℕ → ℕ). f i) (l.items_there x n)

  -- every item passes, if m does and is new to the log of p; used says whose words are in use
  pub longer_item : (used : ℕ → Bool) (ok : ℕ → ℕ → Bool) → used p ≡ true → ok p m ≡ true
      → absent (len p) m (log p) ≡ true
      → (x i : ℕ) → word (used x) (log x i) (item (len x) (ok x) (log x) i (log x i)) ≡ true
      → word (used x) (log' x i) (item (len' x) (ok x) (log' x) i (log' x i)) ≡ true
  longer_item used ok here okay new x i = go (ℕ_discrete p x)
    where
      go : Dec (p ≡ x) → word (used x) (log x i) (item (len x) (ok x) (log x) i (log x i)) ≡ true
          → word (used x) (log' x i) (item (len' x) (ok x) (log' x) i (log' x i)) ≡ true
      go (yes d) = subst (λ (y : ℕ). word (used y) (log y i) (item (len y) (ok y) (log y) i (log y i)) ≡ true
          → word (used y) (log' y i) (item (len' y) (ok y) (log' y) i (log' y i)) ≡ true) d
          (word_to (used p) (log p i) (log' p i) _ _
          (λ u t. ap (λ (n : ℕ). item n (ok p) (log' p) i (log' p i)) l.length_here
          ∙ item_more (len p) m (ok p) (log p) (log' p) l.item_here l.items_here okay new i t)
          (λ u z. clash here u))
      go (no n) = λ e.
          ap₂ (λ (k : ℕ) (f : ℕ → ℕ). word (used x) (f i) (item k (ok x) f i (f i)))
          (l.length_there x n) (l.items_there x n)
          ∙ e

  -- the items that pass a test are one more at p, if m passes it
  pub longer_tally : (f : ℕ → Bool) (x : ℕ)
      → tally (len' x) (λ i. f (log' x i)) ≡ tally (len x) (λ i. f (log x i)) + pick (eqb p x && f m) 1 0
  unfolding tally
  longer_tally f x = go (ℕ_discrete p x)
    where
      one_more : (b : Bool) (n k : ℕ) → n ≡ k → pick b (suc n) n ≡ k + pick b 1 0
      one_more true n k e = omega arith
      one_more false n k e = omega arith

      go : Dec (p ≡ x)
          → tally (len' x) (λ i. f (log' x i)) ≡ tally (len x) (λ i. f (log x i)) + pick (eqb p x && f m) 1 0
      go (yes d) = subst (λ (y : ℕ). tally (len' y) (λ i. f (log' y i))
          ≡ tally (len y) (λ i. f (log y i)) + pick (eqb p y && f m) 1 0) d
          (ap (λ (n : ℕ). tally n (λ i. f (log' p i))) (l.length_here ∙ add-one (len p))
          ∙ one_more (f (log' p (len p))) _ _
          (tally_cong (len p) (λ i. f (log' p i)) (λ i. f (log p i))
          (λ i k. ap f (l.items_here i (λ e. omega arith))))
          ∙ ap₂ (λ (b c : Bool). tally (len p) (λ i. f (log p i)) + pick (b && c) 1 0)
          (sym (eq-eqb p p refl)) (ap f l.item_here))
      go (no n) =
          ap₂ (λ (k : ℕ) (g : ℕ → ℕ). tally k (λ i. f (g i))) (l.length_there x n) (l.items_there x n)
          ∙ rw (ne_eqb p x n) (omega arith)

-- Logs that stand in cells, lengths and items apart: storing m at the end and the length after it appends m.
module _ (len : ℕ → Cell) (log : ℕ → ℕ → Cell) (apart : (p x i : ℕ) → len p ≢ log x i)
    (same_length : (p x : ℕ) → len p ≡ len x → p ≡ x)
    (same_log : (p i x j : ℕ) → log p i ≡ log x j → (p ≡ x) × (i ≡ j)) where
  pub put_longer : (s : State) (p m : ℕ)
      → let t = put (put s (log p (s (len p))) m) (len p) (s (len p) + 1) in
      Longer p m (λ x. s (len x)) (λ x i. s (log x i)) (λ x. t (len x)) (λ x i. t (log x i))
  put_longer s p m = record {
    length_here = put_same t (len p) (len p) (s (len p) + 1) refl;
    item_here = length_kept p (s (len p)) ∙ put_same s (log p (s (len p))) (log p (s (len p))) m refl;
    items_here = λ i n. length_kept p i
        ∙ put_other s (log p (s (len p))) (log p i) m (λ e. n (same_log p (s (len p)) p i e).1);
    length_there = λ x n. put_other t (len p) (len x) (s (len p) + 1) (λ e. n (same_length p x e))
        ∙ put_other s (log p (s (len p))) (len x) m (λ e. apart x p (s (len p)) (sym e));
    items_there = λ x n. fun_ext (λ i. length_kept x i
        ∙ put_other s (log p (s (len p))) (log x i) m (λ e. n (same_log p (s (len p)) x i e).0));
  }
    where
      t : State
      t = put s (log p (s (len p))) m

      length_kept : (x i : ℕ) → put t (len p) (s (len p) + 1) (log x i) ≡ t (log x i)
      length_kept x i = put_other t (len p) (log x i) (s (len p) + 1) (apart p x i)
