-- The tests of the cascade by the index: the marks that a process waits for counted from three masks, and whether it has
-- the message in its FIFO log by a set. Assumes nothing.
use Rattle.std.specs.Prelude.{◌≡◌, refl, Bool, true, false, not, List, ◌⊎◌, ℕ, ◌+◌, ◌≤◌, ◌<◌, eqb, get_or}
use Rattle.std.proofs.Common.{ap, ◌∙◌, inl, inr, arith, eqb-true, eq-eqb}
use Rattle.std.specs.Int.Bits.{bit_and, bit_xor}
use Rattle.definitions.specs.General.{bit, every, tally}
use Rattle.definitions.specs.World.{size, trust, marks, State, addressed, outside_fifo}
use Rattle.definitions.specs.Machine.{addressees, marked}
use Rattle.base.specs.Tests.{bool_cases, same, both, either, and_false}
use Rattle.base.specs.Bits.{differs, bit_of_and, bit_of_xor, bit_mask_of, bit_mask_of_above}
use Rattle.base.specs.Search.{every_true, every_intro}
use Rattle.base.specs.Count.{tally_past, tally_zero, tally_cong, tally_pos}
use Rattle.index.specs.Index.{Index}

-- the processes that p trusts and has no mark of
abbrev pub trusted_unmarked : State → ℕ → ℕ → ℕ
trusted_unmarked s p m = bit_and (s (trust p)) (bit_xor (s (trust p)) (s (marks p m)))

-- q is a trusted addressee of m of which p has no mark
abbrev pub unmarked : State → ℕ → ℕ → ℕ → Bool
unmarked s p m q = not (marked s p m q)

module _ (s : State) (p m : ℕ) where
  -- an addressee among them is unmarked
  unmarked_bits : (q : ℕ) → both (bit (trusted_unmarked s p m) q) (addressed s m q) ≡ unmarked s p m q
  unmarked_bits q =
      ap (λ (b : Bool). both b (addressed s m q))
      (bit_of_and (s (trust p)) (bit_xor (s (trust p)) (s (marks p m))) q
      ∙ ap (both (bit (s (trust p)) q)) (bit_of_xor (s (trust p)) (s (marks p m)) q))
      ∙ turned (bit (s (trust p)) q) (bit (s (marks p m)) q) (addressed s m q)
    where
      turned : (t k a : Bool) → both (both t (differs t k)) a ≡ not (either (not (both t a)) k)
      turned true true true = refl
      turned true true false = refl
      turned true false true = refl
      turned true false false = refl
      turned false k a = refl

  -- the addressees among them are counted
  pub missing_count : {x a r : ℕ} → s size ≤ 16 → x ≡ trusted_unmarked s p m → a ≡ bit_and x (addressees s m)
      → r ≡ tally 16 (bit a) → r ≡ tally (s size) (unmarked s p m)
  missing_count {x} {a} h ex ea er =
      er
      ∙ tally_past 16 (s size) (bit a) h
      (λ q l. bits q ∙ ap (both (bit (trusted_unmarked s p m) q)) (bit_mask_of_above (s size) (addressed s m) q l)
      ∙ and_false (bit (trusted_unmarked s p m) q))
      ∙ tally_cong (s size) (bit a) (unmarked s p m)
      (λ q l. bits q ∙ ap (both (bit (trusted_unmarked s p m) q)) (bit_mask_of (s size) (addressed s m) q l)
      ∙ unmarked_bits q)
    where
      bits : (q : ℕ) → bit a q ≡ both (bit (trusted_unmarked s p m) q) (bit (addressees s m) q)
      bits q =
          ap (λ (y : ℕ). bit y q) ea ∙ bit_of_and x (addressees s m) q
          ∙ ap (λ (y : ℕ). both (bit y q) (bit (addressees s m) q)) ex

-- none is missing
pub none_missing : (s : State) (p m : ℕ) {x : ℕ} → x ≡ tally (s size) (unmarked s p m)
    → eqb x 0 ≡ every (s size) (marked s p m)
none_missing s p m {x} ex =
    same (eqb x 0) (every (s size) (marked s p m))
    (λ e. every_intro (s size) (marked s p m) (λ q l. there q l (eqb-true x 0 e) (bool_cases (marked s p m q))))
    (λ e. eq-eqb x 0 (ex ∙ tally_zero (s size) (unmarked s p m)
    (λ q l. ap not (every_true (s size) (marked s p m) e q l))))
  where
    there : (q : ℕ) → q < s size → x ≡ 0 → (marked s p m q ≡ true) ⊎ (marked s p m q ≡ false) → marked s p m q ≡ true
    there q l z (inl e) = e
    there q l z (inr e) =
        let y = tally_pos (s size) (unmarked s p m) q l (ap not e) in absurd (omega (arith, ex))

-- outside the FIFO log
pub outside_is : (s : State) (p m : ℕ) {x : List ℕ} {b : Bool} → Index s x → p < 16 → m < 64
    → b ≡ bit (get_or x (80 + p) 0) m → not b ≡ outside_fifo s p m
outside_is s p m z hp hm eb = ap not (eb ∙ z.listed p hp m hm) ∙ twice (outside_fifo s p m)
  where
    twice : (c : Bool) → not (not c) ≡ c
    twice true = refl
    twice false = refl
