-- What a step as the code holds it means, and how its bytes are read, kind by kind. Assumes nothing.
use Rattle.std.specs.Prelude.{◌≡◌, refl, Bool, true, false, not, ◌&&◌, ◌||◌, List, ℕ, ◌≤◌, ltb, eqb, length, Option, Some, None}
use Rattle.std.proofs.Common.{sym, ap, ◌∙◌, eq-eqb, ne_eqb, lt-ltb, le-ltb}
use Rattle.definitions.specs.General.{pick, every, byte, low_first}
use Rattle.definitions.specs.Steps.{Step, multicasts, arrives, loses, trusts, crashes, malformed, zeros_from, read}
use Rattle.base.specs.Search.{every_intro}
use Rattle.cells.specs.declared.Letter.{Letter}
use Rattle.given.specs.declared.Given.{Given}
use Rattle.given.specs.declared.Given.TheVariants as given

-- The step that it means.
abbrev pub step_of : Given → Step
step_of (given.Multicast p groups o) = multicasts p groups o
step_of (given.Arrival l) = arrives l.kind l.message l.from l.to
step_of (given.Loss l) = loses l.kind l.message l.from l.to
step_of (given.Trust p set) = trusts p set
step_of (given.Crash p) = crashes p

-- The step that bytes ask for, which is none where they are malformed.
abbrev pub asked_for : Option Given → Step
asked_for (Some g) = step_of g
asked_for None = malformed

-- The bytes of a letter are well formed; and then it is this.
abbrev pub letter_good : List ℕ → Bool
letter_good bytes = ltb (byte bytes 1) 3 && zeros_from bytes 5

abbrev pub letter_in : List ℕ → Option Letter
letter_in bytes =
    pick (letter_good bytes)
    (Some (record { kind = byte bytes 1; message = byte bytes 2; from = byte bytes 3; to = byte bytes 4 })) None

-- ---- zeros from i on
-- byte j passes
abbrev pub passes : List ℕ → ℕ → ℕ → Bool
passes bytes i j = ltb j i || eqb (byte bytes j) 0

pub zeros_start : (bytes : List ℕ) (i : ℕ) → true ≡ every i (passes bytes i)
zeros_start bytes i =
    sym (every_intro i (passes bytes i) (λ j h. ap (λ (b : Bool). b || eqb (byte bytes j) 0) (lt-ltb j i h)))

pub zeros_next : (bytes : List ℕ) (i j : ℕ) → i ≤ j → eqb (byte bytes j) 0 ≡ passes bytes i j
zeros_next bytes i j l = sym (ap (λ (b : Bool). b || eqb (byte bytes j) 0) (le-ltb j i l))

-- ---- the bytes by their kind
abbrev pub read_as : ℕ → List ℕ → Step
read_as k bytes =
    pick (eqb k 1 && zeros_from bytes 5) (multicasts (byte bytes 1) (byte bytes 2) (low_first bytes 3))
    (pick (eqb k 2 && ltb (byte bytes 1) 3 && zeros_from bytes 5)
    (arrives (byte bytes 1) (byte bytes 2) (byte bytes 3) (byte bytes 4))
    (pick (eqb k 3 && ltb (byte bytes 1) 3 && zeros_from bytes 5)
    (loses (byte bytes 1) (byte bytes 2) (byte bytes 3) (byte bytes 4))
    (pick (eqb k 4 && zeros_from bytes 4) (trusts (byte bytes 1) (low_first bytes 2))
    (pick (eqb k 5 && zeros_from bytes 2) (crashes (byte bytes 1)) malformed))))

pub read_short : (bytes : List ℕ) → (length bytes ≡ 8 → ⊥) → malformed ≡ read bytes
unfolding read
read_short bytes n =
    sym (ap (λ (b : Bool). pick (not b) malformed (read_as (byte bytes 0) bytes))
    (ne_eqb (length bytes) 8 n))

pub read_kind : (bytes : List ℕ) (k : ℕ) → length bytes ≡ 8 → byte bytes 0 ≡ k → read bytes ≡ read_as k bytes
unfolding read
read_kind bytes k l e =
    ap (λ (b : Bool). pick (not b) malformed (read_as (byte bytes 0) bytes)) (eq-eqb (length bytes) 8 l)
    ∙ ap (λ (x : ℕ). read_as x bytes) e

-- a kind that is none
pub read_other : (bytes : List ℕ) → length bytes ≡ 8 → (byte bytes 0 ≡ 1 → ⊥) → (byte bytes 0 ≡ 2 → ⊥)
    → (byte bytes 0 ≡ 3 → ⊥) → (byte bytes 0 ≡ 4 → ⊥) → (byte bytes 0 ≡ 5 → ⊥) → malformed ≡ read bytes
read_other bytes l n1 n2 n3 n4 n5 =
    sym (read_kind bytes (byte bytes 0) l refl
    ∙ rw (
      ne_eqb (byte bytes 0) 1 n1,
      ne_eqb (byte bytes 0) 2 n2,
      ne_eqb (byte bytes 0) 3 n3,
      ne_eqb
          (byte bytes 0) 4 n4,
      ne_eqb (byte bytes 0) 5 n5,
    ))

-- a kind that is one, not well formed: x is what it would be
pub read_no : (bytes : List ℕ) (k : ℕ) (b : Bool) (x : Step) → length bytes ≡ 8 → byte bytes 0 ≡ k
    → read_as k bytes ≡ pick b x malformed → b ≡ false → malformed ≡ read bytes
read_no bytes k b x l e d t = sym (read_kind bytes k l e ∙ d ∙ rw t)

-- and well formed
pub read_yes : (bytes : List ℕ) (k : ℕ) (b : Bool) (x : Step) → length bytes ≡ 8 → byte bytes 0 ≡ k
    → read_as k bytes ≡ pick b x malformed → b ≡ true → x ≡ read bytes
read_yes bytes k b x l e d t = sym (read_kind bytes k l e ∙ d ∙ rw t)

-- ---- a letter
-- The loss or the arrival of a letter.
abbrev pub letter_step : Bool → ℕ → ℕ → ℕ → ℕ → Step
letter_step lost k m q p = pick lost (loses k m q p) (arrives k m q p)

pub letter_as : (lost : Bool) (bytes : List ℕ)
    → read_as (pick lost 3 2) bytes
    ≡ pick (letter_good bytes)
    (letter_step lost (byte bytes 1) (byte bytes 2) (byte bytes 3) (byte bytes 4)) malformed
letter_as true bytes = refl
letter_as false bytes = refl

-- The step that it is, lost or arrived.
abbrev pub letter_asked : Bool → Option Letter → Step
letter_asked lost (Some l) = letter_step lost l.kind l.message l.from l.to
letter_asked lost None = malformed

pub letter_read : (lost : Bool) (bytes : List ℕ) (o : Option Letter) → length bytes ≡ 8 → byte bytes 0 ≡ pick lost 3 2
    → o ≡ letter_in bytes → letter_asked lost o ≡ read bytes
letter_read lost bytes o l k e =
    ap (letter_asked lost) e ∙ go (letter_good bytes) ∙ sym (read_kind bytes (pick lost 3 2) l k ∙ letter_as lost bytes)
  where
    go : (b : Bool) → letter_asked lost (pick b (Some (record {
      kind = byte bytes 1;
      message = byte bytes 2;
      from = byte bytes 3;
      to = byte bytes 4;
    })) None)
        ≡ pick b (letter_step lost (byte bytes 1) (byte bytes 2) (byte bytes 3) (byte bytes 4)) malformed
    go true = refl
    go false = refl

-- ---- a multicast
pub same_multicast : {p groups o x y z : ℕ} → p ≡ x → groups ≡ y → o ≡ z
    → multicasts p groups o ≡ multicasts x y z
same_multicast a b c = cc
