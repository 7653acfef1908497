-- The groups that 48 bits name, as the code reads them; and the test of a setup record, taken apart. Assumes nothing.
use Rattle.std.specs.Prelude.{◌≡◌, refl, Bool, true, false, ◌&&◌, ◌||◌, List, ℕ, ◌-◌, ◌*◌, ◌/◌, ◌%◌, ◌^◌, ◌≤◌, ◌<◌, leb, eqb, length}
use Rattle.std.proofs.Common.{arith, eq-eqb, ne_eqb, le-leb, eqb-true, leb-true}
use Rattle.std.proofs.lemmas.Bool.{lt-leb}
use Rattle.definitions.specs.General.{every, byte}
use Rattle.definitions.specs.World.{has_group}
use Rattle.definitions.specs.Setup.{fresh, setup_bits, setup_group, made, good_setup}
use Rattle.base.specs.Tests.{both_l, both_r}

-- The group of process i.
unfoldable pub group_in : ℕ → ℕ → ℕ
group_in bits i = bits / 2 ^ (3 * i) % 8

pub group_small : (bits i : ℕ) → group_in bits i < 8
unfolding group_in
group_small bits i = omega arith

-- Group 0, or one behind a group that a process has.
unfoldable pub follows : ℕ → ℕ → ℕ → Bool
follows bits n p = eqb (group_in bits p) 0 || has_group (fresh n (group_in bits)) (group_in bits p - 1)

-- Every process's group does.
unfoldable pub no_gap : ℕ → ℕ → Bool
no_gap bits n = every n (follows bits n)

-- the same as the definitions of the world have it
pub no_gap_is : (bytes : List ℕ)
    → no_gap (setup_bits bytes) (byte bytes 1)
    ≡ every (byte bytes 1) (λ p. eqb (setup_group bytes p) 0 || has_group (made bytes) (setup_group bytes p - 1))
unfolding no_gap follows group_in setup_group made
no_gap_is bytes = refl

-- ---- the test of a setup record, behind its length and its first byte
unfoldable pub good_rest : ℕ → ℕ → Bool
good_rest n bits = leb 1 n && leb n 16 && eqb (bits / 2 ^ (3 * n)) 0 && no_gap bits n

pub good_front : (bytes : List ℕ) → length bytes ≡ 8 → byte bytes 0 ≡ 0
    → good_setup bytes ≡ good_rest (byte bytes 1) (setup_bits bytes)
unfolding good_setup good_rest
good_front bytes e z = rw (eq-eqb (length bytes) 8 e, eq-eqb (byte bytes 0) 0 z, no_gap_is bytes)

pub wrong_length : (bytes : List ℕ) → (length bytes ≡ 8 → ⊥) → false ≡ good_setup bytes
unfolding good_setup
wrong_length bytes n = rw (ne_eqb (length bytes) 8 n)

pub wrong_first : (bytes : List ℕ) → length bytes ≡ 8 → (byte bytes 0 ≡ 0 → ⊥) → false ≡ good_setup bytes
unfolding good_setup
wrong_first bytes e n = rw (eq-eqb (length bytes) 8 e, ne_eqb (byte bytes 0) 0 n)

pub too_few : (n bits : ℕ) → n < 1 → good_rest n bits ≡ false
unfolding good_rest
too_few n bits h = rw (lt-leb 1 n h)

pub too_many : (n bits : ℕ) → 1 ≤ n → 16 < n → good_rest n bits ≡ false
unfolding good_rest
too_many n bits l h = rw (le-leb 1 n l, lt-leb n 16 h)

pub bits_past : (n bits : ℕ) → 1 ≤ n → n ≤ 16 → (bits / 2 ^ (3 * n) ≡ 0 → ⊥) → good_rest n bits ≡ false
unfolding good_rest
bits_past n bits l h e = rw (le-leb 1 n l, le-leb n 16 h, ne_eqb (bits / 2 ^ (3 * n)) 0 e)

pub gap_decides : (n bits : ℕ) → 1 ≤ n → n ≤ 16 → bits / 2 ^ (3 * n) ≡ 0 → good_rest n bits ≡ no_gap bits n
unfolding good_rest
gap_decides n bits l h e = rw (le-leb 1 n l, le-leb n 16 h, eq-eqb (bits / 2 ^ (3 * n)) 0 e)

-- what a good setup record tells: its length, and how many processes it has at most
pub good_facts : (bytes : List ℕ) → good_setup bytes ≡ true → (length bytes ≡ 8) × (byte bytes 1 ≤ 16)
unfolding good_setup
good_facts bytes e =
    let n : ℕ = byte bytes 1 in
    let t1 : Bool = eqb (length bytes) 8 in
    let t2 : Bool = t1 && eqb (byte bytes 0) 0 in
    let t3 : Bool = t2 && leb 1 n in
    let t4 : Bool = t3 && leb n 16 in
    let t5 : Bool = t4 && eqb (setup_bits bytes / 2 ^ (3 * n)) 0 in
    let e4 : t4 ≡ true = both_l t4 (eqb (setup_bits bytes / 2 ^ (3 * n)) 0) (both_l t5 _ e) in (
      eqb-true (length bytes) 8
          (both_l t1 (eqb (byte bytes 0) 0) (both_l t2 (leb 1 n) (both_l t3 (leb n 16) e4))),
      leb-true n 16 (both_r t3 (leb n 16) e4),
    )
