-- Refusals as document 01's numbers, with 0 for none, and the order in which they are given. Assumes nothing.
use Rattle.std.specs.Prelude.{◌≡◌, refl, Bool, true, false, ℕ, suc, eqb}
use Rattle.std.proofs.Common.{arith, eqb-true, ne_eqb}
use Rattle.std.proofs.lemmas.Bool.{eqb-false}
use Rattle.definitions.specs.General.{pick, needs, or_else, gives, refuses, reply}

-- nothing is refused: the test passed, and nothing is refused after it
pub needs_none : (n : ℕ) (ok : Bool) (rest : ℕ) → needs (suc n) ok rest ≡ 0 → (ok ≡ true) × (rest ≡ 0)
needs_none n true rest e = (refl, e)
needs_none n false rest e = absurd (omega arith)

pub or_else_none : (first second : ℕ) → or_else first second ≡ 0 → (first ≡ 0) × (second ≡ 0)
or_else_none first second e = go (eqb first 0) refl e
  where
    go : (b : Bool) → eqb first 0 ≡ b → pick b second first ≡ 0 → (first ≡ 0) × (second ≡ 0)
    go true q h = (eqb-true first 0 q, h)
    go false q h = absurd (eqb-false first 0 q h)

-- ---- a reply
-- it gives a value: nothing is refused, and the value is the call's
pub reply_gives : {A : Type 0} (n : ℕ) (a b : A) → gives a ≡ reply n b → (n ≡ 0) × (a ≡ b)
reply_gives n a b e = go (eqb n 0) refl e
  where
    go : (ok : Bool) → eqb n 0 ≡ ok → gives a ≡ pick ok (gives b) (refuses n) → (n ≡ 0) × (a ≡ b)
    go true q h = (eqb-true n 0 q, cc)
    go false q h = let z : ◌≡◌ {A = ℕ} 0 1 = cc in absurd (omega arith)

-- it refuses: the number is the call's, and not 0
pub reply_refuses : {A : Type 0} (m n : ℕ) (b : A) → refuses m ≡ reply n b → (m ≡ n) × (n ≡ 0 → ⊥)
reply_refuses m n b e = go (eqb n 0) refl e
  where
    go : (ok : Bool) → eqb n 0 ≡ ok → refuses m ≡ pick ok (gives b) (refuses n) → (m ≡ n) × (n ≡ 0 → ⊥)
    go true q h = let z : ◌≡◌ {A = ℕ} 0 1 = cc in absurd (omega arith)
    go false q h = (cc, eqb-false n 0 q)

-- what is refused is answered with its number
pub refused_reply : {A : Type 0} (m n : ℕ) (b : A) → (m ≡ 0 → ⊥) → m ≡ n → refuses m ≡ reply n b
refused_reply m n b h e = rw (← e, ne_eqb m 0 h)
