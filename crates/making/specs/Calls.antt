-- What the tests of making decide, and the words it starts from. Assumes nothing.
use Rattle.std.specs.Prelude.{◌≡◌, refl, true, false, List, ℕ, length, set, replicate}
use Rattle.std.proofs.Common.{ap, ◌∙◌, eq-eqb, ne_eqb}
use Rattle.definitions.specs.World.{encode}
use Rattle.definitions.specs.Setup.{good_setup, setup_refusal, made}
use Rattle.definitions.specs.Words.{making_refusal, made_words}
use Rattle.making.specs.Begun.{begun, begun_none}

-- words that were cleared, with n in the first
pub start_words : (w u : List ℕ) (n : ℕ) (groups : ℕ → ℕ) → length w ≡ 20480 → u ≡ replicate (length w) 0
    → set u 0 n ≡ encode (begun n groups 0)
start_words w u n groups l e =
    ap (λ (x : List ℕ). set x 0 n) (e ∙ ap (λ (k : ℕ). replicate k 0) l) ∙ begun_none n groups

pub wrong_length : (w bytes : List ℕ) → (length w ≡ 20480 → ⊥)
    → (1 ≡ making_refusal w bytes) × (w ≡ made_words w bytes)
unfolding making_refusal made_words
wrong_length w bytes n = rw (ne_eqb (length w) 20480 n) (refl, refl)

pub wrong_setup : (w bytes : List ℕ) → length w ≡ 20480 → good_setup bytes ≡ false
    → (3 ≡ making_refusal w bytes) × (w ≡ made_words w bytes)
unfolding making_refusal made_words setup_refusal
wrong_setup w bytes l e = rw (eq-eqb (length w) 20480 l, e) (refl, refl)

pub right_setup : (w bytes : List ℕ) → length w ≡ 20480 → good_setup bytes ≡ true
    → (0 ≡ making_refusal w bytes) × (encode (made bytes) ≡ made_words w bytes)
unfolding making_refusal made_words setup_refusal
right_setup w bytes l e = rw (eq-eqb (length w) 20480 l, e) (refl, refl)
