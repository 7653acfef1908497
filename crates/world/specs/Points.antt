-- A call is its arrivals, one after the other. After i of them (Point) it has ended, or it goes on as one that begins
-- there, in some turn; so a call that made i leaves what one leaves that is allowed i, and each of the i is an arrival of
-- a letter that the choice names (Each). Of any choice and any arrival. Assumes nothing.
use Rattle.std.specs.Prelude.{◌≡◌, refl}
use Rattle.std.proofs.Common.{sym, ◌∙◌, arith}
use Rattle.std.proofs.Math.Path.{ap}
use Prim.Native.Nat.{ℕ, zero, suc, ◌+◌, ◌-◌, ◌≤◌, ◌<◌}
use Rattle.definitions.specs.Settle.{Choice, letter, nothing, done, stopped, Settled, settle_from}
use Rattle.definitions.specs.Answers.{arrivals_in}
use Rattle.world.specs.SettleLaws.{goes_on}

module _ {S : Type 0} (choose : ℕ → S → Choice) (arrive : S → ℕ → ℕ → ℕ → ℕ → S) where
  -- ---- one arrival, or the end
  pub one_more : (a b n t : ℕ) (s : S) (k m q p : ℕ) → a ≡ suc b → choose t s ≡ letter k m q p
      → settle_from choose arrive a n t s ≡ settle_from choose arrive b (n + 1) (p + 1) (arrive s k m q p)
  unfolding settle_from
  one_more a b n t s k m q p d e =
      ap (λ (x : ℕ). settle_from choose arrive x n t s) d
      ∙ ap (λ (c : Choice).
      goes_on c (λ k m q p. settle_from choose arrive b (n + 1) (p + 1) (arrive s k m q p)) s n) e

  pub no_more : (b n t : ℕ) (s : S) → choose t s ≡ nothing
      → settle_from choose arrive b n t s ≡ record { world = s; ending = done n }
  unfolding settle_from
  no_more zero n t s e = ap (λ (c : Choice). goes_on c (λ k m q p. record { world = s; ending = stopped n }) s n) e
  no_more (suc b) n t s e =
      ap (λ (c : Choice).
      goes_on c (λ k m q p. settle_from choose arrive b (n + 1) (p + 1) (arrive s k m q p)) s n) e

  -- allowed none, it makes none
  pub none_made : (n t : ℕ) (s : S)
      → ((settle_from choose arrive 0 n t s).world ≡ s)
      × (arrivals_in (settle_from choose arrive 0 n t s).ending ≡ n)
  unfolding settle_from
  none_made n t s = go (choose t s)
    where
      go : (c : Choice)
          → ((goes_on c (λ k m q p. record { world = s; ending = stopped n }) s n).world ≡ s)
          × (arrivals_in (goes_on c (λ k m q p. record { world = s; ending = stopped n }) s n).ending ≡ n)
      go (letter k m q p) = (refl, refl)
      go nothing = (refl, refl)

  -- ---- with what each arrival keeps, of turns and states
  module _ (P : ℕ → S → Type 0)
      (keep : (t : ℕ) (s : S) (k m q p : ℕ) → choose t s ≡ letter k m q p → P t s → P (p + 1) (arrive s k m q p)) where
    -- after i arrivals, n having been made before, from the turn of t: fewer than i were made, and no letter was left; or
    -- whatever number b more is allowed, it goes on from there in the turn of some x
    pub data Point (i n t : ℕ) (s : S) : Type 0 where
      ended : (j : ℕ) → j < i
          → ((a : ℕ) → j ≤ a → settle_from choose arrive a n t s ≡ settle_from choose arrive j n t s)
          → (settle_from choose arrive j n t s).ending ≡ done (n + j)
          → Point i n t s
      goes : (x : ℕ) → P x (settle_from choose arrive i n t s).world
          → ((a b : ℕ) → a ≡ i + b
          → settle_from choose arrive a n t s
          ≡ settle_from choose arrive b (n + i) x (settle_from choose arrive i n t s).world)
          → Point i n t s

    pub point : (i n t : ℕ) (s : S) → P t s → Point i n t s
    point zero n t s h =
        let f = (none_made n t s).0 in
        goes t (rw f h) (λ a b e. let d : a ≡ b = omega arith in let c : n ≡ n + 0 = omega arith in cc)
    point (suc i) n t s h =
        go (choose t s) refl (λ k m q p e. point i (n + 1) (p + 1) (arrive s k m q p) (keep t s k m q p e h))
      where
        -- after the first
        later : (k m q p : ℕ) → choose t s ≡ letter k m q p → Point i (n + 1) (p + 1) (arrive s k m q p)
            → Point (suc i) n t s
        later k m q p e (ended j l same d) =
            let f = one_more (suc j) j n t s k m q p refl e in
            let c : n + 1 + j ≡ n + suc j = omega arith in
            ended (suc j) (omega arith)
            (λ a g. one_more a (a - 1) n t s k m q p (omega arith) e ∙ same (a - 1) (omega arith) ∙ sym f)
            (ap (λ (u : Settled S). u.ending) f ∙ d ∙ ap done c)
        later k m q p e (goes x h same) =
            let f = ap (λ (u : Settled S). u.world) (one_more (suc i) i n t s k m q p refl e) in
            let c : n + 1 + i ≡ n + suc i = omega arith in
            goes x (rw f h)
            (λ a b g.
            let d = one_more a (i + b) n t s k m q p (omega arith) e ∙ same (i + b) b refl in
            cc)

        go : (c : Choice) → choose t s ≡ c
            → ((k m q p : ℕ) → choose t s ≡ letter k m q p → Point i (n + 1) (p + 1) (arrive s k m q p))
            → Point (suc i) n t s
        go nothing e ih =
            let f = no_more 0 n t s e in
            let c : n ≡ n + 0 = omega arith in
            ended 0 (omega arith) (λ a _. no_more a n t s e ∙ sym f)
            (ap (λ (u : Settled S). u.ending) f ∙ ap done c)
        go (letter k m q p) e ih = later k m q p e (ih k m q p e)

    -- ---- the arrival after j others is of a letter that the choice names, in the turn of some x
    pub data Next (j n t : ℕ) (s : S) : Type 0 where
      next : (x k m q p : ℕ) → P x (settle_from choose arrive j n t s).world
          → choose x (settle_from choose arrive j n t s).world ≡ letter k m q p
          → (settle_from choose arrive (j + 1) n t s).world ≡ arrive (settle_from choose arrive j n t s).world k m q p
          → Next j n t s

    -- a call that made i arrivals
    pub record Each (b n t : ℕ) (s : S) (i : ℕ) : Type 0 where
      pub allowed : i ≤ b
      pub leaves : (settle_from choose arrive b n t s).world ≡ (settle_from choose arrive i n t s).world
      pub each : (j : ℕ) → j < i → Next j n t s

    module _ (b n t : ℕ) (s : S) (h : P t s) (i : ℕ)
        (made : arrivals_in (settle_from choose arrive b n t s).ending ≡ n + i) where
      few : (i ≤ b) × ((settle_from choose arrive b n t s).world ≡ (settle_from choose arrive i n t s).world)
      few = go (point b n t s h)
        where
          go : Point b n t s
              → (i ≤ b) × ((settle_from choose arrive b n t s).world ≡ (settle_from choose arrive i n t s).world)
          go (ended j l same d) =
              let f = same b (omega arith) in
              let c : i ≡ j = omega (arith, ap (λ (u : Settled S). arrivals_in u.ending) f, ap arrivals_in d) in
              (omega arith, ap (λ (u : Settled S). u.world) f ∙ (cc))
          go (goes x _ same) =
              let W = (settle_from choose arrive b n t s).world in
              let f = same b 0 (omega arith) in
              let c : i ≡ b =
              omega (arith, ap (λ (u : Settled S). arrivals_in u.ending) f, (none_made (n + b) x W).1) in
              (omega arith, cc)

      pub made_each : Each b n t s i
      made_each = record {
        allowed = few.0;
        leaves = few.1;
        each = λ j l. at j l (point j n t s h);
      }
        where
          at : (j : ℕ) → j < i → Point j n t s → Next j n t s
          at j l (ended i' l' same d) =
              absurd (omega (
                arith,
                few.0,
                ap (λ (u : Settled S). arrivals_in u.ending) (same b (omega (arith, few.0))),
                ap arrivals_in d,
              ))
          at j l (goes x hx same) = go (choose x W) refl
            where
              W : S
              W = (settle_from choose arrive j n t s).world

              go : (c : Choice) → choose x (settle_from choose arrive j n t s).world ≡ c → Next j n t s
              go nothing e =
                  absurd (omega (
                    arith,
                    ap (λ (u : Settled S). arrivals_in u.ending)
                        (same b (b - j) (omega (arith, few.0)) ∙ no_more (b - j) (n + j) x W e),
                  ))
              go (letter k m q p) e =
                  next x k m q p hx e
                  (ap (λ (u : Settled S). u.world)
                  (same (j + 1) 1 refl ∙ one_more 1 0 (n + j) x W k m q p refl e)
                  ∙ (none_made (n + j + 1) (p + 1) (arrive W k m q p)).0)
