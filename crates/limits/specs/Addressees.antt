-- The addressees of each message as a mask of processes. Assumes nothing.
use Rattle.std.specs.Prelude.{◌≡◌, refl, Bool, true, false, ◌&&◌, List, ℕ, ◌+◌, ◌<◌, ltb, length, get_or, set}
use Rattle.std.proofs.Common.{sym, ap, ◌∙◌, arith, add-one, get_or-set_same, get_or-set_other, ltb-true, ltb-false, lt-ltb, le-ltb}
use Rattle.std.proofs.Math.Decide.{ℕ_discrete}
use Rattle.definitions.specs.General.{pick, bit, with, mask_of}
use Rattle.definitions.specs.World.{State, size, count, group, is_process, is_message}
use Rattle.definitions.specs.Sound.{addressee, fit, fine}
use Rattle.definitions.specs.Machine.{addressees}
use Rattle.base.specs.Tests.{both_l}
use Rattle.base.specs.Bits.{bit_zero}
use Rattle.world.specs.SoundLaws.{word_le, addressees_bit}
use Rattle.heads.specs.Known.{Placed}

-- The group of p is among those of a mask.
abbrev pub group_bit : State → ℕ → ℕ → Bool
group_bit s to p = bit to (s (group p))

-- The addressees of m; none where there is no such message.
unfoldable pub addressees_of : State → ℕ → ℕ
addressees_of s m = pick (is_message s m) (addressees s m) 0

-- A table of the addressees.
pub record Addressees (s : State) (t : List ℕ) : Type 0 where
  pub long : length t ≡ 64
  pub at : (m : ℕ) → m < 64 → get_or t m 0 ≡ addressees_of s m

-- a group that may be is below 8
pub group_low : (s : State) → Placed s → (p : ℕ) → p < s size → s (group p) < 8
unfolding fine fit
group_low s h p l =
    let z = word_le (is_process s p) (s (group p)) 7 _ (h.fine_groups p l)
    (λ _ t. let y = ltb-true (s (group p)) 8 (both_l (ltb (s (group p)) 8) _ t) in omega arith) in
    omega arith

-- one process more
pub mask_more : (p : ℕ) (f : ℕ → Bool) (b : Bool) → b ≡ f p
    → mask_of (p + 1) f ≡ pick b (with (mask_of p f) p) (mask_of p f)
unfolding mask_of
mask_more p f b e =
    ap (λ (k : ℕ). mask_of k f) (add-one p)
    ∙ ap (λ (a : Bool). pick a (with (mask_of p f) p) (mask_of p f)) (sym e)

-- p is in the mask exactly where it is an addressee
pub addressee_bit : (s : State) (m p : ℕ) → bit (addressees_of s m) p ≡ (is_message s m && addressee s m p)
unfolding addressees_of
addressee_bit s m p = go (is_message s m)
  where
    go : (b : Bool) → bit (pick b (addressees s m) 0) p ≡ (b && addressee s m p)
    go true = addressees_bit s m p
    go false = bit_zero p

-- ---- the loop: the table is right below k, and zero from there on
pub record Partly (s : State) (k : ℕ) (t : List ℕ) : Type 0 where
  pub long : length t ≡ 64
  pub at : (m : ℕ) → m < 64 → get_or t m 0 ≡ pick (ltb m k) (addressees s m) 0

pub partly_none : (s : State) (t : List ℕ) → length t ≡ 64 → ((m : ℕ) → m < 64 → get_or t m 0 ≡ 0)
    → Partly s 0 t
partly_none s t l h = record { long = l; at = λ m k. h m k ∙ sym (none m) }
  where
    none : (m : ℕ) → pick (ltb m 0) (addressees s m) 0 ≡ 0
    none m = ap (λ (b : Bool). pick b (addressees s m) 0) (le-ltb m 0 (omega arith))

pub partly_more : (s : State) (k v : ℕ) (t t' : List ℕ) → t' ≡ set t k v → length t' ≡ 64 → k < 64
    → v ≡ addressees s k → Partly s k t → Partly s (k + 1) t'
partly_more s k v t t' et l hk ev h = record {
  long = l;
  at = λ m b. ap (λ (x : List ℕ). get_or x m 0) et
      ∙ go m b (ℕ_discrete m k);
}
  where
    step : (m : ℕ) → (m ≡ k → ⊥) → ltb m k ≡ ltb m (k + 1)
    step m n = at (ltb m k) refl
      where
        at : (b : Bool) → ltb m k ≡ b → ltb m k ≡ ltb m (k + 1)
        at true e = e ∙ sym (lt-ltb m (k + 1) (let z = ltb-true m k e in omega arith))
        at false e = e ∙ sym (le-ltb m (k + 1) (let z = ltb-false m k e in omega arith))

    go : (m : ℕ) → m < 64 → Dec (m ≡ k) → get_or (set t k v) m 0 ≡ pick (ltb m (k + 1)) (addressees s m) 0
    go m b (yes e) =
        ap (λ (x : ℕ). get_or (set t k v) x 0) e ∙ get_or-set_same t k v 0 (let z = h.long in omega arith) ∙ ev
        ∙ ap (addressees s) (sym e)
        ∙ sym (ap (λ (x : Bool). pick x (addressees s m) 0) (lt-ltb m (k + 1) (omega arith)))
    go m b (no n) =
        get_or-set_other t k m v 0 n ∙ h.at m b ∙ ap (λ (x : Bool). pick x (addressees s m) 0) (step m n)

pub partly_all : (s : State) (k : ℕ) (t : List ℕ) → k ≡ s count → Partly s k t → Addressees s t
unfolding addressees_of
partly_all s k t e h = record {
  long = h.long;
  at = λ m l. h.at m l ∙ ap (λ (x : ℕ). pick (ltb m x) (addressees s m) 0) e;
}
