-- The index that the test leaves: what the messages enter, and the whole. Assumes nothing.
use Rattle.std.specs.Prelude.{◌≡◌, refl, Bool, true, false, List, ◌⊎◌, ℕ, ◌+◌, ◌≤◌, ◌<◌, ltb, eqb, length, get_or, set}
use Rattle.std.proofs.Math.Path.{sym, ap, ap₂}
use Rattle.std.proofs.Common.{◌∙◌, subst, inl, inr, length-set, get_or-set_same, get_or-set_other, lt-ltb, le-ltb, eq-eqb, ne_eqb, eqb-true}
use Rattle.std.proofs.Math.Bool.{not}
use native.Mathlib.Omega.{arith}
use Rattle.std.proofs.Math.Decide.{ℕ_discrete}
use Rattle.std.specs.Int.Bits.{bit_or}
use Rattle.definitions.specs.General.{pick, every, absent, bit, with}
use Rattle.definitions.specs.World.{State, size, count, sender, fifo_length, causal_length, fifo, causal, view, is_process}
use Rattle.definitions.specs.Sound.{word, fit, fine, sound}
use Rattle.definitions.specs.Machine.{addressees}
use Rattle.base.specs.Tests.{both, clash, le_or_lt}
use Rattle.base.specs.Bits.{bit_zero, or_with}
use Rattle.world.specs.SoundLaws.{sound_facts}
use Rattle.sets.specs.Lowest.{Has}
use Rattle.sets.specs.Below.{has_none, has_more}
use Rattle.sets.specs.Powers.{Powers}
use Rattle.index.specs.Index.{Index}
use Rattle.limits.specs.Addressees.{Addressees, addressees_of}
use Rattle.blocks.specs.declared.Known.{Known}
use Rattle.blocks.specs.Known.{Tables}
use Rattle.blocks.specs.Places.{in_log, open_place, Rows}

-- The index has room for what is known.
pub record Room (t : Known) : Type 0 where
  pub few : t.count ≤ 64
  pub small : (m : ℕ) → m < 64 → get_or t.from m 0 < 16
  pub powers : Powers t.bits

-- x has what the first k messages enter.
pub record Entered (to from : List ℕ) (k : ℕ) (x : List ℕ) : Type 0 where
  pub long : length x ≡ 112
  pub to_at : (m : ℕ) → m < k → get_or x m 0 ≡ get_or to m 0
  pub own : (q : ℕ) → q < 16 → Has (get_or x (64 + q) 0) (λ m. both (ltb m k) (eqb (get_or from m 0) q))
  pub none : (j : ℕ) → 80 ≤ j → j < 112 → get_or x j 0 ≡ 0

-- The world is sound; and then x is its index.
pub record Tested (s : State) (good : Bool) (x : List ℕ) : Type 0 where
  pub is_good : good ≡ sound s
  pub index : good ≡ true → Index s x

pub tested_not : (s : State) (x : List ℕ) → false ≡ sound s → Tested s false x
tested_not s x e = record { is_good = e; index = λ q. clash {b = false} q refl }

-- ---- the loop over the messages: none yet, one more
pub entered_none : (to from x : List ℕ) → length x ≡ 112 → ((j : ℕ) → j < 112 → get_or x j 0 ≡ 0) → Entered to from 0 x
entered_none to from x l h = record {
  long = l;
  to_at = λ m k. absurd (omega arith);
  own = λ q k. subst (λ (y : ℕ). Has y (λ m. both (ltb m 0) (eqb (get_or from m 0) q))) (sym (h (64 + q) (omega arith)))
      (has_none (λ m. eqb (get_or from m 0) q));
  none = λ j _ k. h j k;
}

pub entered_more : (to from bits : List ℕ) (k q : ℕ) (x : List ℕ) → k < 64 → Powers bits → q ≡ get_or from k 0 → q < 16
    → Entered to from k x
    → Entered to from (k + 1) (set (set x (64 + q) (bit_or (get_or x (64 + q) 0) (get_or bits k 0))) k (get_or to k 0))
entered_more to from bits k q x hk pw eq hq h = record {
  long = simp (length-set, length-set) h.long;
  to_at = λ m l. at m l (ℕ_discrete m k);
  own = λ y l. go y l (ℕ_discrete y q);
  none = λ j a b. other j (λ e. omega arith) ∙ get_or-set_other x (64 + q) j v 0 (λ e. omega arith) ∙ h.none j a b;
}
  where
    v : ℕ
    v = bit_or (get_or x (64 + q) 0) (get_or bits k 0)

    one : List ℕ
    one = set x (64 + q) (bit_or (get_or x (64 + q) 0) (get_or bits k 0))

    two : List ℕ
    two = set (set x (64 + q) (bit_or (get_or x (64 + q) 0) (get_or bits k 0))) k (get_or to k 0)

    other : (j : ℕ) → (j ≡ k → ⊥) → get_or two j 0 ≡ get_or one j 0
    other j d = get_or-set_other one k j (get_or to k 0) 0 d

    at : (m : ℕ) → m < k + 1 → Dec (m ≡ k) → get_or two m 0 ≡ get_or to m 0
    at m l (yes e) =
        ap (λ (y : ℕ). get_or two y 0) e
        ∙ get_or-set_same one k (get_or to k 0) 0 (simp length-set (let z = h.long in omega arith))
        ∙ ap (λ (y : ℕ). get_or to y 0) (sym e)
    at m l (no d) = other m d ∙ get_or-set_other x (64 + q) m v 0 (λ e. omega arith) ∙ h.to_at m (omega arith)

    go : (y : ℕ) → y < 16 → Dec (y ≡ q)
        → Has (get_or two (64 + y) 0) (λ m. both (ltb m (k + 1)) (eqb (get_or from m 0) y))
    go y l (yes e) =
        has_more (get_or x (64 + y) 0) (get_or two (64 + y) 0) k (λ m. eqb (get_or from m 0) y) true (h.own y l)
        (sym (eq-eqb (get_or from k 0) y (sym eq ∙ sym e)))
        (other (64 + y) (λ z. omega arith)
        ∙ ap (λ (z : ℕ). get_or one (64 + z) 0) e
        ∙ get_or-set_same x (64 + q) v 0 (let z = h.long in omega arith)
        ∙ ap (bit_or (get_or x (64 + q) 0)) (pw.at k hk) ∙ or_with (get_or x (64 + q) 0) k
        ∙ ap (λ (z : ℕ). with (get_or x (64 + z) 0) k) (sym e))
    go y l (no d) =
        has_more (get_or x (64 + y) 0) (get_or two (64 + y) 0) k (λ m. eqb (get_or from m 0) y) false (h.own y l)
        (sym (ne_eqb (get_or from k 0) y (λ z. d (sym z ∙ sym eq))))
        (other (64 + y) (λ z. omega arith)
        ∙ get_or-set_other x (64 + q) (64 + y) v 0 (λ z. d (omega arith)))

-- ---- the whole
module _ (w : List ℕ) (t : Known) (en : t.size ≡ view w size) (ec : t.count ≡ view w count) (few : t.count ≤ 64)
    (a : Addressees (view w) t.addressees) (b : Tables (view w) t) (x₁ x₂ : List ℕ) (e : Entered t.addressees t.from t.count x₁)
    (r : Rows (view w) t.size true x₁ x₂) (yes : sound (view w) ≡ true) where
  -- the logs of an absent process are empty
  empty : (b : Bool) (x : ℕ) (c : Bool) → b ≡ false → word b x c ≡ true → x ≡ 0
  empty true x c q p = clash {b = true} refl q
  empty false x c q p = eqb-true x 0 p

  no_log : (p : ℕ) → t.size ≤ p → p < 16 → view w (fifo_length p) ≡ 0
  unfolding fine fit
  no_log p l k =
      empty (is_process (view w) p) (view w (fifo_length p)) _ (le-ltb p (view w size) (omega arith))
      (sound_facts (view w) yes (fifo_length p) k)

  none_listed : (p m : ℕ) → view w (fifo_length p) ≡ 0 → false ≡ in_log (view w) p m
  unfolding absent every
  none_listed p m z = sym (ap (λ (k : ℕ). not (absent k m (λ i. view w (fifo p i)))) z)

  none_open : (p i : ℕ) → view w (fifo_length p) ≡ 0 → false ≡ open_place (view w) p i
  none_open p i z =
      sym (ap (λ (b : Bool). both b (absent (view w (causal_length p)) (view w (fifo p i)) (λ j. view w (causal p j))))
      (ap (ltb i) z ∙ le-ltb i 0 (omega arith)))

  pub index_law : Index (view w) x₂
  unfolding addressees_of
  index_law = record {
    long = r.long;
    to = λ m l. let k : m < t.count = omega arith in
        r.before m (omega arith) ∙ e.to_at m k ∙ a.at m (omega arith)
        ∙ ap (λ (b : Bool). pick b (addressees (view w) m) 0) (lt-ltb m (view w count) l);
    own = λ q l m k. ap (λ (y : ℕ). bit y m) (r.before (64 + q) (omega arith)) ∙ e.own q l m k
        ∙ is_own q m (le_or_lt t.count m);
    listed = λ p l m k. of_log p l m k (le_or_lt t.size p);
    opened = λ p l i k. of_place p l i k (le_or_lt t.size p);
  }
    where
      is_own : (q m : ℕ) → (t.count ≤ m) ⊎ (m < t.count)
          → both (ltb m t.count) (eqb (get_or t.from m 0) q) ≡ both (ltb m (view w count)) (eqb (view w (sender m)) q)
      is_own q m (inl l) =
          ap (λ (b : Bool). both b (eqb (get_or t.from m 0) q)) (le-ltb m t.count l)
          ∙ sym (ap (λ (b : Bool). both b (eqb (view w (sender m)) q)) (le-ltb m (view w count) (omega arith)))
      is_own q m (inr l) =
          ap₂ (λ (k y : ℕ). both (ltb m k) (eqb y q)) ec (b.senders.at m l)

      of_log : (p : ℕ) → p < 16 → (m : ℕ) → m < 64 → (t.size ≤ p) ⊎ (p < t.size)
          → bit (get_or x₂ (80 + p) 0) m ≡ in_log (view w) p m
      of_log p l m k (inl z) =
          ap (λ (y : ℕ). bit y m) (r.listed_past p z l ∙ e.none (80 + p) (omega arith) (omega arith))
          ∙ bit_zero m ∙ none_listed p m (no_log p z l)
      of_log p l m k (inr z) = r.listed refl p z m k

      of_place : (p : ℕ) → p < 16 → (i : ℕ) → i < 64 → (t.size ≤ p) ⊎ (p < t.size)
          → bit (get_or x₂ (96 + p) 0) i ≡ open_place (view w) p i
      of_place p l i k (inl z) =
          ap (λ (y : ℕ). bit y i) (r.opened_past p z l ∙ e.none (96 + p) (omega arith) (omega arith))
          ∙ bit_zero i ∙ none_open p i (no_log p z l)
      of_place p l i k (inr z) = r.opened refl p z i k
