-- Where the search for the lowest letter may start: no letter that can move stands before the place. Assumes nothing.
use Rattle.std.specs.Prelude.{◌≡◌, Bool, true, false, ◌⊎◌, eqb}
use Rattle.std.proofs.Math.Path.{refl, ap₂}
use Rattle.std.proofs.Common.{sym, ap, ◌∙◌, subst, arith, ltb-true, ltb-false, le-ltb}
use Rattle.std.proofs.Math.Bool.{◌&&◌}
use Rattle.std.proofs.Math.Logic.{inl, inr}
use Prim.Native.Nat.{ℕ, zero, suc, ◌+◌, ◌-◌, ◌≤◌, ◌<◌}
use Rattle.std.proofs.Math.Nat.{sub-zero}
use Rattle.std.proofs.Math.Dec.{ltb}
use Rattle.definitions.specs.General.{first_from, bit, mask_of}
use Rattle.definitions.specs.World.{Cell, size, count, up, flight, State}
use Rattle.definitions.specs.Machine.{arrival}
use Rattle.definitions.specs.Steps.{is_up}
use Rattle.definitions.specs.Settle.{Choice, letter, nothing, moves, receiver, origin, kind, movable, letter_of, lowest, any}
use Rattle.base.specs.Search.{first_law, first_skip, first_past}
use Rattle.base.specs.Bits.{mask_of_cong}
use Rattle.world.specs.Layout.{Within}
use Rattle.world.specs.SoundLaws.{Sound, size_high}
use Rattle.quiescence.specs.Quiescent.{arrival_size, arrival_count, arrival_up}
use Rattle.letters.specs.declared.Place.{Place}

-- ---- before a place, by message, kind, origin
abbrev pub Before : ℕ → ℕ → ℕ → Place → Type 0
Before m k q at = (m < at.message) ⊎ ((m ≡ at.message) × ((k < at.kind) ⊎ ((k ≡ at.kind) × (q < at.origin))))

-- No letter that can move stands before the place, which is one of the search.
pub record Passed (s : State) (at : Place) : Type 0 where
  pub messages : at.message ≤ s count
  pub low : at.message < 64
  pub kinds : at.kind < 3
  pub origins : at.origin ≤ s size
  pub none : (m k q p : ℕ) → Before m k q at → k < 3 → q < s size → p < s size → moves s m k q p ≡ false

-- ---- a search that starts late finds the same
pub first_later : (f : ℕ → Bool) (n i : ℕ) → i ≤ n → ((j : ℕ) → j < i → f j ≡ false)
    → first_from n 0 f ≡ first_from (n - i) i f
first_later f n zero h none = ap (λ (k : ℕ). first_from k 0 f) (sym (sub-zero n))
first_later f n (suc i) h none =
    first_later f n i (omega arith) (λ j l. none j (omega arith))
    ∙ first_skip f n i (omega arith) (none i (omega arith)) ∙ plain
  where
    plain : first_from (n - (i + 1)) (i + 1) f ≡ first_from (n - suc i) (suc i) f
    plain = let e : i + 1 ≡ suc i = omega arith in ap (λ (k : ℕ). first_from (n - k) k f) e

none_first : (f : ℕ → Bool) (n : ℕ) → ((j : ℕ) → j < n → f j ≡ false) → ltb (first_from n 0 f) n ≡ false
none_first f n none =
    let z = first_past n 0 f (λ j _ l. none j (omega arith)) in le-ltb (first_from n 0 f) n (omega arith)

-- ---- what a place passed tells of the search
module _ (s : State) where
  unmoved_origin : (m k q : ℕ) → ((p : ℕ) → p < s size → moves s m k q p ≡ false)
      → ltb (receiver any s m k q) (s size) ≡ false
  unfolding receiver
  unmoved_origin m k q none = none_first (moves s m k q) (s size) none

  unmoved_kind : (m k : ℕ) → ((q p : ℕ) → q < s size → p < s size → moves s m k q p ≡ false)
      → ltb (origin any s m k) (s size) ≡ false
  unfolding origin
  unmoved_kind m k none =
      none_first (λ q. ltb (receiver any s m k q) (s size)) (s size)
      (λ q l. unmoved_origin m k q (λ p h. none q p l h))

  unmoved_message : (m : ℕ) → ((k q p : ℕ) → k < 3 → q < s size → p < s size → moves s m k q p ≡ false)
      → movable any s m ≡ false
  unfolding movable kind
  unmoved_message m none =
      none_first (λ k. ltb (origin any s m k) (s size)) 3 (λ k l. unmoved_kind m k (λ q p. none k q p l))

  module _ (at : Place) (h : Passed s at) where
    pub from_message : first_from (s count) 0 (movable any s) ≡ first_from (s count - at.message) at.message (movable any s)
    from_message =
        first_later (movable any s) (s count) at.message h.messages
        (λ m l. unmoved_message m (λ k q p. h.none m k q p (inl l)))

    pub from_kind : kind any s at.message
        ≡ first_from (3 - at.kind) at.kind (λ k. ltb (origin any s at.message k) (s size))
    unfolding kind
    from_kind =
        let l = h.kinds in
        first_later (λ k. ltb (origin any s at.message k) (s size)) 3 at.kind (omega arith)
        (λ k l. unmoved_kind at.message k
        (λ q p. h.none at.message k q p (inr (refl, inl l)) (omega (arith, h.kinds))))

    pub from_origin : origin any s at.message at.kind
        ≡ first_from (s size - at.origin) at.origin (λ q. ltb (receiver any s at.message at.kind q) (s size))
    unfolding origin
    from_origin =
        first_later (λ q. ltb (receiver any s at.message at.kind q) (s size)) (s size) at.origin h.origins
        (λ q l. unmoved_origin at.message at.kind q
        (λ p. h.none at.message at.kind q p (inr (refl, inr (refl, l))) h.kinds (omega (arith, h.origins))))

-- the search from its start
pub start_passed : (s : State) → Passed s (record { message = 0; kind = 0; origin = 0 })
start_passed s = record {
  messages = omega arith;
  low = omega arith;
  kinds = omega arith;
  origins = omega arith;
  none = λ m k q p b _ _ _. elim b [
    | inl l ↦ absurd (omega arith)
    | inr e ↦ elim e.1 [ inl l ↦ absurd (omega arith) | inr x ↦ absurd (let l = x.1 in omega arith) ]
  ];
}

-- ---- no letter that can move stands before the lowest
miss : (n : ℕ) (f : ℕ → Bool) → ltb (first_from n 0 f) n ≡ false → (i : ℕ) → i < n → f i ≡ false
miss n f e i h =
    let l = ltb-false (first_from n 0 f) n e in (first_law n 0 f).miss i (omega arith) (omega arith)

earlier : (n : ℕ) (f : ℕ → Bool) (x : ℕ) → first_from n 0 f ≡ x → (i : ℕ) → i < x → f i ≡ false
earlier n f x e i h = (first_law n 0 f).miss i (omega arith) (omega (arith, e))

module _ (s : State) where
  no_receiver : (m k q : ℕ) → ltb (receiver any s m k q) (s size) ≡ false → (p : ℕ) → p < s size
      → moves s m k q p ≡ false
  unfolding receiver
  no_receiver m k q e = miss (s size) (moves s m k q) e

  no_origin : (m k : ℕ) → ltb (origin any s m k) (s size) ≡ false → (q p : ℕ) → q < s size → p < s size
      → moves s m k q p ≡ false
  unfolding origin
  no_origin m k e q p hq = no_receiver m k q (miss (s size) (λ q. ltb (receiver any s m k q) (s size)) e q hq) p

  no_kind : (m : ℕ) → movable any s m ≡ false → (k q p : ℕ) → k < 3 → q < s size → p < s size → moves s m k q p ≡ false
  unfolding movable kind
  no_kind m e k q p hk = no_origin m k (miss 3 (λ k. ltb (origin any s m k) (s size)) e k hk) q p

  abbrev IsLetter : Choice → Type 0
  IsLetter (letter k m q p) = Unit {0}
  IsLetter nothing = ⊥

  -- what the lowest letter is the first of
  record Lowest (k m q : ℕ) : Type 0 where
    first_message : first_from (s count) 0 (movable any s) ≡ m
    first_kind : kind any s m ≡ k
    first_origin : origin any s m k ≡ q
    low_message : m < s count

  lowest_first : (k m q p : ℕ) → lowest any s ≡ letter k m q p → Lowest k m q
  unfolding lowest letter_of
  lowest_first k m q p e = go (ltb x (s count)) refl e
    where
      x : ℕ
      x = first_from (s count) 0 (movable any s)

      go : (b : Bool) → ltb x (s count) ≡ b
          → elim b as (λ _. Choice) [ true ↦ letter_of any s x | false ↦ nothing ] ≡ letter k m q p → Lowest k m q
      go true h z =
          let em : x ≡ m = cc in
          let ek : kind any s x ≡ k = cc in
          let eq : origin any s x (kind any s x) ≡ q = cc in
          let l = ltb-true x (s count) h in
          record {
            first_message = em;
            first_kind = ap (kind any s) (sym em) ∙ ek;
            first_origin = ap₂ (origin any s) (sym em) (sym ek) ∙ eq;
            low_message = omega (arith, em);
          }
      go false h z = absurd (subst IsLetter (sym z) tt)

  -- and so none that moves stands before it
  pub lowest_before : (k m q p : ℕ) → lowest any s ≡ letter k m q p → (x j o r : ℕ)
      → Before x j o (record { message = m; kind = k; origin = q }) → j < 3 → o < s size → r < s size
      → moves s x j o r ≡ false
  unfolding kind origin
  lowest_before k m q p e x j o r b hj ho hr = go b
    where
      f : Lowest k m q
      f = lowest_first k m q p e

      go : Before x j o (record { message = m; kind = k; origin = q }) → moves s x j o r ≡ false
      go (inl l) = no_kind x (earlier (s count) (movable any s) m f.first_message x l) j o r hj ho hr
      go (inr (ex, inl l)) =
          ap (λ (y : ℕ). moves s y j o r) ex
          ∙ no_origin m j (earlier 3 (λ i. ltb (origin any s m i) (s size)) k f.first_kind j l) o r ho hr
      go (inr (ex, inr (ej, l))) =
          ap₂ (λ (y i : ℕ). moves s y i o r) ex ej
          ∙ no_receiver m k o
          (earlier (s size) (λ i. ltb (receiver any s m k i) (s size)) q f.first_origin o l) r hr

-- ---- after the arrival of the lowest letter, in words t of the state that it leaves
module _ (s t : State) (k m q p : ℕ) (h : Sound s) (same : (c : Cell) → Within c → t c ≡ arrival s k m q p c) where
  pub sizes : t size ≡ s size
  sizes = same size tt ∙ arrival_size s k m q p

  pub counts : t count ≡ s count
  counts = same count tt ∙ arrival_count s k m q p

  lives : (r : ℕ) → r < 16 → is_up t r ≡ is_up s r
  lives r l = ap (λ (x : ℕ). eqb x 1) (same (up r) l ∙ arrival_up s k m q p r)

  -- the up processes are the same
  pub still_up : (live : ℕ) → live ≡ mask_of (s size) (is_up s) → live ≡ mask_of (t size) (is_up t)
  still_up live ups =
      ups ∙ ap (λ (n : ℕ). mask_of n (is_up s)) (sym sizes)
      ∙ mask_of_cong (t size) (is_up s) (is_up t)
      (λ r l. sym (lives r (omega (arith, sizes, size_high s h))))

  -- where the letters of x, j, o are the same, none moves that did not
  pub unmoved : (x j o r : ℕ) → r < 16 → t (flight x j o) ≡ s (flight x j o) → moves s x j o r ≡ false
      → moves t x j o r ≡ false
  unfolding moves
  unmoved x j o r hr f z = ap₂ ◌&&◌ (ap (λ (y : ℕ). bit y r) f) (lives r hr) ∙ z
