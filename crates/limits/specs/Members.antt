-- The processes of each group, and those of the groups of a mask. Assumes nothing.
use Rattle.std.specs.Prelude.{◌≡◌, refl, Bool, true, false, ◌&&◌, ◌||◌, List, ℕ, ◌+◌, ◌^◌, ◌≤◌, ◌<◌, eqb, length, get_or, set}
use Rattle.std.proofs.Common.{sym, ap, ap₂, ◌∙◌, subst, arith, pow_mono, get_or-set_same, get_or-set_other, eq-eqb, ne_eqb, eqb-true}
use Rattle.std.proofs.Math.Decide.{ℕ_discrete}
use Rattle.std.specs.Int.Bits.{bit_or}
use Rattle.definitions.specs.General.{some, bit, with, mask_of}
use Rattle.definitions.specs.World.{State, group}
use Rattle.base.specs.Tests.{both_l, both_r, both_i, same, or_false}
use Rattle.base.specs.Search.{some_i, some_e}
use Rattle.base.specs.Bits.{bit_zero, bit_of_or, bit_mask_of, mask_of_member}
use Rattle.ranges.specs.Laws.{some_none, some_next}
use Rattle.base.specs.Sets.{bit_ext, mask_of_low}
use Rattle.limits.specs.Addressees.{group_bit, mask_more}

-- p is of group g.
abbrev pub of_group : State → ℕ → ℕ → Bool
of_group s g p = eqb (s (group p)) g

-- t has, of the first n processes, those of each group.
pub record Members (s : State) (n : ℕ) (t : List ℕ) : Type 0 where
  pub long : length t ≡ 8
  pub at : (g : ℕ) → g < 8 → get_or t g 0 ≡ mask_of n (of_group s g)

-- r has the processes of those of the first k groups that the mask names.
pub record Joined (t : List ℕ) (to k r : ℕ) : Type 0 where
  pub have : (p : ℕ) → bit r p ≡ some k (λ g. bit to g && bit (get_or t g 0) p)

-- ---- the processes of each group: none yet, one more
pub members_none : (s : State) (t : List ℕ) → length t ≡ 8 → ((g : ℕ) → g < 8 → get_or t g 0 ≡ 0)
    → Members s 0 t
unfolding mask_of
members_none s t l h = record { long = l; at = h }

pub members_more : (s : State) (p x v : ℕ) (t t' : List ℕ) → t' ≡ set t x v → length t' ≡ 8 → x ≡ s (group p)
    → x < 8
    → v ≡ with (get_or t x 0) p → Members s p t → Members s (p + 1) t'
members_more s p x v t t' et l ex hx ev h = record {
  long = l;
  at = λ g k. ap (λ (y : List ℕ). get_or y g 0) et ∙ go g k (ℕ_discrete x g);
}
  where
    go : (g : ℕ) → g < 8 → Dec (x ≡ g) → get_or (set t x v) g 0 ≡ mask_of (p + 1) (of_group s g)
    go g k (yes e) =
        subst (λ (y : ℕ). get_or (set t x v) y 0 ≡ mask_of (p + 1) (of_group s y)) e
        (get_or-set_same t x v 0 (let z = h.long in omega arith) ∙ ev ∙ ap (λ (y : ℕ). with y p) (h.at x hx)
        ∙ sym (mask_more p (of_group s x) true (sym (eq-eqb (s (group p)) x (sym ex)))))
    go g k (no e) =
        get_or-set_other t x g v 0 (λ z. e (sym z)) ∙ h.at g k
        ∙ sym (mask_more p (of_group s g) false (sym (ne_eqb (s (group p)) g (λ z. e (ex ∙ z)))))

-- ---- the groups of a mask: none yet, one that it names, one that it does not
pub joined_none : (t : List ℕ) (to : ℕ) → Joined t to 0 0
joined_none t to = record { have = λ p. bit_zero p ∙ sym (some_none (λ g. bit to g && bit (get_or t g 0) p)) }

pub joined_more : (t : List ℕ) (to g r : ℕ) → bit to g ≡ true → Joined t to g r
    → Joined t to (g + 1) (bit_or r (get_or t g 0))
joined_more t to g r e h = record {
  have = λ p. bit_of_or r (get_or t g 0) p
      ∙ ap₂ ◌||◌ (h.have p) (ap (λ (b : Bool). b && bit (get_or t g 0) p) (sym e))
      ∙ sym (some_next (λ g. bit to g && bit (get_or t g 0) p) g);
}

pub joined_same : (t : List ℕ) (to g r : ℕ) → bit to g ≡ false → Joined t to g r → Joined t to (g + 1) r
joined_same t to g r e h = record {
  have = λ p. h.have p ∙ sym (or_false (some g (λ g. bit to g && bit (get_or t g 0) p)))
      ∙ ap (λ (b : Bool). some g (λ g. bit to g && bit (get_or t g 0) p) || (b && bit (get_or t g 0) p)) (sym e)
      ∙ sym (some_next (λ g. bit to g && bit (get_or t g 0) p) g);
}

-- ---- the two together
pub joined_all : (s : State) (n to r : ℕ) (t : List ℕ) → n ≤ 16 → ((p : ℕ) → p < n → s (group p) < 8)
    → r < 2 ^ 16 → Members s n t → Joined t to 8 r → r ≡ mask_of n (group_bit s to)
joined_all s n to r t few low hr m h =
    bit_ext 16 r (mask_of n (group_bit s to)) hr
    (let z = mask_of_low n (group_bit s to) in let k : 2 ^ n ≤ 2 ^ 16 = pow_mono few in omega arith)
    (λ p _. h.have p ∙ same (some 8 (λ g. bit to g && bit (get_or t g 0) p))
    (bit (mask_of n (group_bit s to)) p) (there p) (back p))
  where
    there : (p : ℕ) → some 8 (λ g. bit to g && bit (get_or t g 0) p) ≡ true → bit (mask_of n (group_bit s to)) p
        ≡ true
    there p e =
        let z = some_e 8 (λ g. bit to g && bit (get_or t g 0) p) e in
        let g : ℕ = z.0 in
        let x = mask_of_member n (of_group s g) p
        (ap (λ (y : ℕ). bit y p) (sym (m.at g z.1)) ∙ both_r (bit to g) (bit (get_or t g 0) p) z.2) in
        bit_mask_of n (group_bit s to) p x.0
        ∙ ap (bit to) (eqb-true (s (group p)) g x.1) ∙ both_l (bit to g) (bit (get_or t g 0) p) z.2

    back : (p : ℕ) → bit (mask_of n (group_bit s to)) p ≡ true → some 8 (λ g. bit to g && bit (get_or t g 0) p)
        ≡ true
    back p e =
        let x = mask_of_member n (group_bit s to) p e in
        let g : ℕ = s (group p) in
        some_i 8 (λ g. bit to g && bit (get_or t g 0) p) g (low p x.0)
        (both_i (bit to g) (bit (get_or t g 0) p) x.1
        (ap (λ (y : ℕ). bit y p) (m.at g (low p x.0)) ∙ bit_mask_of n (of_group s g) p x.0
        ∙ eq-eqb (s (group p)) g refl))
