-- The general words that the definitions are written in: choice, refusals by number and what a call answers, tests
-- of the numbers below n and sums over them, a loop, lists, masks, bytes. They rest on the kit's library, as all of
-- this crate. Assumes nothing.
use Rattle.std.specs.Prelude.{◌≡◌, Bool, true, false, not, ◌&&◌, ◌||◌, List, [], ◌∷◌, ◌++◌, ℕ, zero, suc, ◌+◌, ◌-◌, ◌*◌, ◌/◌, ◌%◌, ◌^◌, ◌<◌, ltb, eqb, length, get_or, replicate}

-- ---- choice, and refusals as document 01's numbers with 0 for none
-- a where the test passes, else b.
abbrev pub pick : {A : Type 0} → Bool → A → A → A
pick true a b = a
pick false a b = b

-- Refusal n where the test fails, else what comes after it.
abbrev pub needs : ℕ → Bool → ℕ → ℕ
needs n ok rest = pick ok rest n

-- The first refusal, and where there is none the second.
abbrev pub or_else : ℕ → ℕ → ℕ
or_else first second = pick (eqb first 0) second first

-- What a call leaves in words or bytes that it was lent: new ones where the refusal is 0, else what was there.
abbrev pub unless_refused : ℕ → List ℕ → List ℕ → List ℕ
unless_refused n new before = pick (eqb n 0) new before

-- What a call that gives a value answers: the value, or the number of a refusal. "A refusal returns its number
-- only."
pub data Reply (A : Type 0) : Type 0 where
  gives : A → Reply A
  refuses : ℕ → Reply A

abbrev pub reply : {A : Type 0} → ℕ → A → Reply A
reply n a = pick (eqb n 0) (gives a) (refuses n)

-- Of a reply: the refusal, 0 for none; and a number of the value, or on a refusal what stood there before.
abbrev pub refusal_in : {A : Type 0} → Reply A → ℕ
refusal_in (gives a) = 0
refusal_in (refuses n) = n

abbrev pub value_in : {A : Type 0} → (A → ℕ) → Reply A → ℕ → ℕ
value_in f (gives a) before = f a
value_in f (refuses n) before = before

-- ---- tests of the numbers 0, .., n - 1, and sums over them
-- All pass.
unfoldable pub every : ℕ → (ℕ → Bool) → Bool
every zero f = true
every (suc n) f = elim (f n) [ true ↦ every n f | false ↦ false ]

-- One passes.
unfoldable pub some : ℕ → (ℕ → Bool) → Bool
some n f = not (every n (λ i. not (f i)))

-- How many pass.
unfoldable pub tally : ℕ → (ℕ → Bool) → ℕ
tally zero f = 0
tally (suc n) f = pick (f n) (suc (tally n f)) (tally n f)

-- The sum of f 0, f 1, .., f (n - 1).
unfoldable pub sum : ℕ → (ℕ → ℕ) → ℕ
sum zero f = 0
sum (suc n) f = sum n f + f n

-- The first of i, i + 1, .. (k of them) that passes; i + k where none does.
unfoldable pub first_from : ℕ → ℕ → (ℕ → Bool) → ℕ
first_from zero i f = i
first_from (suc k) i f = elim (f i) [ true ↦ i | false ↦ first_from k (suc i) f ]

-- "while some x below a bound passes a test, take the first" and act on it, at most k times (the fuel).
module _ {S : Type 0} (bound : S → ℕ) (test : S → ℕ → Bool) (act : S → ℕ → S) where
  unfoldable pub chosen : S → ℕ
  chosen s = first_from (bound s) 0 (test s)

  unfoldable pub loop : ℕ → S → S
  loop zero s = s
  loop (suc k) s = elim (ltb (chosen s) (bound s)) [ true ↦ loop k (act s (chosen s)) | false ↦ s ]

-- ---- lists
-- m is one of f 0, f 1, .., f (n - 1).
pub data In (n : ℕ) (f : ℕ → ℕ) (m : ℕ) : Type 0 where
  in_at : (i : ℕ) → i < n → f i ≡ m → In n f m

-- It is none of them, as a test.
unfoldable pub absent : ℕ → ℕ → (ℕ → ℕ) → Bool
absent n m f = every n (λ i. not (eqb (f i) m))

-- m stands in the list.
abbrev pub Listed : List ℕ → ℕ → Type 0
Listed xs m = In (length xs) (λ i. get_or xs i 0) m

-- The list of n items from f i on; from f 0 on.
unfoldable pub tab_from : {A : Type 0} → ℕ → ℕ → (ℕ → A) → List A
tab_from i zero f = []
tab_from i (suc n) f = let h = f i in let t = tab_from (suc i) n f in h ∷ t

unfoldable pub tabulate : {A : Type 0} → ℕ → (ℕ → A) → List A
tabulate n f = tab_from 0 n f

-- ---- a mask as a set of numbers
-- p is in m.
unfoldable pub bit : ℕ → ℕ → Bool
bit m p = eqb (m / 2 ^ p % 2) 1

-- m with p, and m without p.
unfoldable pub with : ℕ → ℕ → ℕ
with m p = pick (bit m p) m (m + 2 ^ p)

unfoldable pub without : ℕ → ℕ → ℕ
without m p = pick (bit m p) (m - 2 ^ p) m

-- The mask of the numbers below n that pass.
unfoldable pub mask_of : ℕ → (ℕ → Bool) → ℕ
mask_of zero f = 0
mask_of (suc n) f = pick (f n) (with (mask_of n f) n) (mask_of n f)

-- Of the numbers below n, m has only those that pass.
unfoldable pub only : ℕ → ℕ → (ℕ → Bool) → Bool
only n m f = every n (λ i. not (bit m i) || f i)

-- ---- bytes
-- Every item is a byte.
abbrev pub Bytes : List ℕ → Type 0
Bytes s = (i : ℕ) → get_or s i 0 < 256

-- Byte i.
abbrev pub byte : List ℕ → ℕ → ℕ
byte bytes i = get_or bytes i 0

-- The 16 bits at byte i, "low byte first"; "high byte first".
abbrev pub low_first : List ℕ → ℕ → ℕ
low_first bytes i = byte bytes i + byte bytes (i + 1) * 256

abbrev pub high_first : List ℕ → ℕ → ℕ
high_first bytes i = byte bytes i * 256 + byte bytes (i + 1)

-- The bytes, and zeros behind them up to the length n.
unfoldable pub filled : ℕ → List ℕ → List ℕ
filled n bytes = bytes ++ replicate (n - length bytes) 0

-- Every byte is zero.
unfoldable pub all_zero : List ℕ → Bool
all_zero [] = true
all_zero (b ∷ bytes) = eqb b 0 && all_zero bytes
