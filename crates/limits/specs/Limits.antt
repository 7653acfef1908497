-- The limits of what is counted: count where the group and the process exist, else 0; and of the items of a log: 63,
-- and 0 past its end. Assumes nothing.
use Rattle.std.specs.Prelude.{◌≡◌, refl, Bool, true, false, ◌&&◌, List, ◌⊎◌, ℕ, ◌+◌, ◌*◌, ◌≤◌, ◌<◌, ltb, leb, eqb, length, get_or, set}
use Rattle.std.proofs.Common.{sym, ap, ap₂, ◌∙◌, inl, inr, arith, length-set, get_or-set_same, get_or-set_other, eq-eqb, ne_eqb, le-leb, lt-ltb, le-ltb}
use Rattle.std.proofs.Math.Decide.{ℕ_discrete}
use Rattle.std.proofs.lemmas.Bool.{lt-leb}
use Rattle.definitions.specs.General.{pick, bit}
use Rattle.definitions.specs.Sound.{word}
use Rattle.base.specs.Tests.{both, le_or_lt}

-- ---- n places from a on that now hold v
pub record Filled (t : List ℕ) (a n v : ℕ) (new : List ℕ) : Type 0 where
  pub long : length new ≡ length t
  pub inside : (i : ℕ) → i < n → get_or new (a + i) 0 ≡ v
  pub before : (j : ℕ) → j < a → get_or new j 0 ≡ get_or t j 0
  pub after : (j : ℕ) → a + n ≤ j → get_or new j 0 ≡ get_or t j 0

-- ---- a table of the limits; of the groups, those below k as yet
pub record Partial (n groups count k : ℕ) (t : List ℕ) : Type 0 where
  pub long : length t ≡ 280
  pub pairs : (g q : ℕ) → g < 8 → q < 16
      → get_or t (g * 16 + q) 0 ≡ pick (ltb g k && (bit groups g && ltb q n)) count 0
  pub alone : (g : ℕ) → g < 8 → get_or t (128 + g) 0 ≡ pick (ltb g k && bit groups g) count 0
  pub processes : (q : ℕ) → q < 16 → get_or t (136 + q) 0 ≡ pick (ltb q n) count 0
  pub items : (i : ℕ) → i < 64 → get_or t (152 + i) 0 ≡ 63
  pub past : (i : ℕ) → i < 64 → get_or t (216 + i) 0 ≡ 0

pub record Limits (n groups count : ℕ) (t : List ℕ) : Type 0 where
  pub long : length t ≡ 280
  pub pairs : (g q : ℕ) → g < 8 → q < 16 → get_or t (g * 16 + q) 0 ≡ pick (bit groups g && ltb q n) count 0
  pub alone : (g : ℕ) → g < 8 → get_or t (128 + g) 0 ≡ pick (bit groups g) count 0
  pub processes : (q : ℕ) → q < 16 → get_or t (136 + q) 0 ≡ pick (ltb q n) count 0
  pub items : (i : ℕ) → i < 64 → get_or t (152 + i) 0 ≡ 63
  pub past : (i : ℕ) → i < 64 → get_or t (216 + i) 0 ≡ 0

module _ (n groups count : ℕ) (few : n ≤ 16) where
  -- the rows of the processes and of a log's items
  pub partial_none : (zero one two : List ℕ) → length zero ≡ 280 → ((j : ℕ) → j < 280 → get_or zero j 0 ≡ 0)
      → Filled zero 136 n count one → Filled one 152 64 63 two → Partial n groups count 0 two
  partial_none zero one two l h a b = record {
    long = b.long ∙ a.long ∙ l;
    pairs = λ g q hg hq. low (g * 16 + q) (omega arith)
        ∙ sym (ap (λ (x : Bool). pick (x && (bit groups g && ltb q n)) count 0) (le-ltb g 0 (omega arith)));
    alone = λ g hg. low (128 + g) (omega arith)
        ∙ sym (ap (λ (x : Bool). pick (x && bit groups g) count 0) (le-ltb g 0 (omega arith)));
    processes = λ q hq. b.before (136 + q) (omega arith) ∙ row q hq (le_or_lt n q);
    items = b.inside;
    past = λ i hi. b.after (216 + i) (omega arith) ∙ a.after (216 + i) (omega arith) ∙ h (216 + i) (omega arith);
  }
    where
      low : (j : ℕ) → j < 136 → get_or two j 0 ≡ 0
      low j k = b.before j (omega arith) ∙ a.before j k ∙ h j (omega arith)

      row : (q : ℕ) → q < 16 → (n ≤ q) ⊎ (q < n) → get_or one (136 + q) 0 ≡ pick (ltb q n) count 0
      row q hq (inl k) =
          a.after (136 + q) (omega arith) ∙ h (136 + q) (omega arith)
          ∙ sym (ap (λ (x : Bool). pick x count 0) (le-ltb q n k))
      row q hq (inr k) = a.inside q k ∙ sym (ap (λ (x : Bool). pick x count 0) (lt-ltb q n k))

  -- one group more: it exists, or not
  reach : (g k : ℕ) → (g ≡ k → ⊥) → ltb g (k + 1) ≡ ltb g k
  reach g k d = go (le_or_lt k g)
    where
      go : (k ≤ g) ⊎ (g < k) → ltb g (k + 1) ≡ ltb g k
      go (inl a) = le-ltb g (k + 1) (omega arith) ∙ sym (le-ltb g k a)
      go (inr a) = lt-ltb g (k + 1) (omega arith) ∙ sym (lt-ltb g k a)

  pub partial_same : (k : ℕ) (t : List ℕ) → bit groups k ≡ false → Partial n groups count k t
      → Partial n groups count (k + 1) t
  partial_same k t e h = record {
    long = h.long;
    pairs = λ g q hg hq. h.pairs g q hg hq ∙ pair g (ltb q n) (ℕ_discrete g k);
    alone = λ g hg. h.alone g hg ∙ one g (ℕ_discrete g k);
    processes = h.processes;
    items = h.items;
    past = h.past;
  }
    where
      none : (a b : Bool) → (a && false) ≡ (b && false)
      none true true = refl
      none true false = refl
      none false true = refl
      none false false = refl

      pair : (g : ℕ) (b : Bool) → Dec (g ≡ k)
          → pick (ltb g k && (bit groups g && b)) count 0 ≡ pick (ltb g (k + 1) && (bit groups g && b)) count 0
      pair g b (yes d) =
          let z : bit groups g ≡ false = ap (bit groups) d ∙ e in
          ap (λ (x : Bool). pick (ltb g k && (x && b)) count 0) z
          ∙ ap (λ (x : Bool). pick x count 0) (none (ltb g k) (ltb g (k + 1)))
          ∙ sym (ap (λ (x : Bool). pick (ltb g (k + 1) && (x && b)) count 0) z)
      pair g b (no d) = sym (ap (λ (x : Bool). pick (x && (bit groups g && b)) count 0) (reach g k d))

      one : (g : ℕ) → Dec (g ≡ k) → pick (ltb g k && bit groups g) count 0 ≡ pick (ltb g (k + 1) && bit groups g) count 0
      one g (yes d) =
          let z : bit groups g ≡ false = ap (bit groups) d ∙ e in
          ap (λ (x : Bool). pick (ltb g k && x) count 0) z
          ∙ ap (λ (x : Bool). pick x count 0) (none (ltb g k) (ltb g (k + 1)))
          ∙ sym (ap (λ (x : Bool). pick (ltb g (k + 1) && x) count 0) z)
      one g (no d) = sym (ap (λ (x : Bool). pick (x && bit groups g) count 0) (reach g k d))

  pub partial_more : (k : ℕ) (t row : List ℕ) → k < 8 → bit groups k ≡ true → Filled t (k * 16) n count row
      → Partial n groups count k t → Partial n groups count (k + 1) (set row (128 + k) count)
  partial_more k t row hk e f h = record {
    long = simp length-set (f.long ∙ h.long);
    pairs = λ g q hg hq. other (g * 16 + q) (λ z. omega arith) ∙ pair g q hg hq (ℕ_discrete g k);
    alone = λ g hg. one g hg (ℕ_discrete g k);
    processes = λ q hq. kept (136 + q) (omega arith) (λ z. omega arith) ∙ h.processes q hq;
    items = λ i hi. kept (152 + i) (omega arith) (λ z. omega arith) ∙ h.items i hi;
    past = λ i hi. kept (216 + i) (omega arith) (λ z. omega arith) ∙ h.past i hi;
  }
    where
      new : List ℕ
      new = set row (128 + k) count

      other : (j : ℕ) → (j ≡ 128 + k → ⊥) → get_or (set row (128 + k) count) j 0 ≡ get_or row j 0
      other j d = get_or-set_other row (128 + k) j count 0 d

      kept : (j : ℕ) → k * 16 + n ≤ j → (j ≡ 128 + k → ⊥) → get_or (set row (128 + k) count) j 0 ≡ get_or t j 0
      kept j l d = other j d ∙ f.after j l

      beside : (g q : ℕ) → q < 16 → (g ≡ k → ⊥) → (k ≤ g) ⊎ (g < k) → get_or row (g * 16 + q) 0 ≡ get_or t (g * 16 + q) 0
      beside g q hq d (inl a) = f.after (g * 16 + q) (omega arith)
      beside g q hq d (inr a) = f.before (g * 16 + q) (omega arith)

      here : (q : ℕ) → q < 16 → (n ≤ q) ⊎ (q < n) → get_or row (k * 16 + q) 0 ≡ pick (ltb q n) count 0
      here q hq (inl a) =
          f.after (k * 16 + q) (omega arith) ∙ h.pairs k q hk hq
          ∙ ap (λ (x : Bool). pick (x && (bit groups k && ltb q n)) count 0) (le-ltb k k (omega arith))
          ∙ sym (ap (λ (x : Bool). pick x count 0) (le-ltb q n a))
      here q hq (inr a) = f.inside q a ∙ sym (ap (λ (x : Bool). pick x count 0) (lt-ltb q n a))

      in_reach : (g : ℕ) → g ≡ k → (ltb g (k + 1) && bit groups g) ≡ true
      in_reach g d = ap₂ both (lt-ltb g (k + 1) (omega arith)) (ap (bit groups) d ∙ e)

      pair : (g q : ℕ) → g < 8 → q < 16 → Dec (g ≡ k)
          → get_or row (g * 16 + q) 0 ≡ pick (ltb g (k + 1) && (bit groups g && ltb q n)) count 0
      pair g q hg hq (yes d) =
          ap (λ (x : ℕ). get_or row (x * 16 + q) 0) d ∙ here q hq (le_or_lt n q)
          ∙ sym (ap₂ (λ (a b : Bool). pick (a && (b && ltb q n)) count 0) (lt-ltb g (k + 1) (omega arith))
          (ap (bit groups) d ∙ e))
      pair g q hg hq (no d) =
          beside g q hq d (le_or_lt k g) ∙ h.pairs g q hg hq
          ∙ sym (ap (λ (x : Bool). pick (x && (bit groups g && ltb q n)) count 0) (reach g k d))

      one : (g : ℕ) → g < 8 → Dec (g ≡ k)
          → get_or (set row (128 + k) count) (128 + g) 0 ≡ pick (ltb g (k + 1) && bit groups g) count 0
      one g hg (yes d) =
          ap (λ (x : ℕ). get_or (set row (128 + k) count) (128 + x) 0) d
          ∙ get_or-set_same row (128 + k) count 0 (let y = f.long in let z = h.long in omega arith)
          ∙ sym (ap (λ (x : Bool). pick x count 0) (in_reach g d))
      one g hg (no d) =
          kept (128 + g) (omega arith) (λ z. d (omega arith)) ∙ h.alone g hg
          ∙ sym (ap (λ (x : Bool). pick (x && bit groups g) count 0) (reach g k d))

  pub partial_all : (k : ℕ) (t : List ℕ) → k ≡ 8 → Partial n groups count k t → Limits n groups count t
  partial_all k t e h = record {
    long = h.long;
    pairs = λ g q hg hq. h.pairs g q hg hq
        ∙ ap (λ (x : Bool). pick (x && (bit groups g && ltb q n)) count 0) (lt-ltb g k (omega arith));
    alone = λ g hg. h.alone g hg ∙ ap (λ (x : Bool). pick (x && bit groups g) count 0) (lt-ltb g k (omega arith));
    processes = h.processes;
    items = h.items;
    past = h.past;
  }

-- in use and at most c, or zero: at most the limit
pub word_limit : (b : Bool) (x c : ℕ) → word b x (leb x c) ≡ leb x (pick b c 0)
word_limit true x c = refl
word_limit false x c = go (ℕ_discrete x 0)
  where
    go : Dec (x ≡ 0) → eqb x 0 ≡ leb x 0
    go (yes e) = eq-eqb x 0 e ∙ sym (le-leb x 0 (omega arith))
    go (no n) = ne_eqb x 0 n ∙ sym (lt-leb x 0 (omega arith))
