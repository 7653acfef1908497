-- The loop of the definitions, "while some x below a bound passes a test, take the first", with fuel; what it
-- keeps, that its fuel suffices, and two loops side by side. Assumes nothing.
use Rattle.std.specs.Prelude.{◌≡◌, ◌⊎◌}
use Rattle.std.proofs.Math.Path.{refl, ap}
use Rattle.std.proofs.Common.{sym, ap₂, ◌∙◌, subst, inl, inr, arith}
use Rattle.std.proofs.Math.Bool.{Bool, true, false}
use Prim.Native.Nat.{ℕ, zero, suc, ◌≤◌, ◌<◌}
use Rattle.std.proofs.Math.Dec.{ltb}
use borrow.Author.Tests.{lt-ltb, le-ltb, ltb-true, ltb-false}
use Rattle.definitions.specs.General.{first_from, chosen, loop}
use Rattle.base.specs.Tests.{bool_cases}
use Rattle.base.specs.Search.{first_law, first_cong}

module _ {S : Type 0} (bound : S → ℕ) (test : S → ℕ → Bool) (act : S → ℕ → S) where
  -- the loop, and what it takes next
  abbrev turns : ℕ → S → S
  turns k s = loop bound test act k s

  abbrev first : S → ℕ
  first s = chosen bound test act s

  -- what is kept by each turn is kept by the loop
  pub loop_keeps : (P : S → Type 0)
      → ((s : S) (m : ℕ) → m < bound s → test s m ≡ true → ((j : ℕ) → j < m → test s j ≡ false) → P s
      → P (act s m))
      → (k : ℕ) (s : S) → P s → P (turns k s)
  unfolding loop chosen
  loop_keeps P keep zero s p = p
  loop_keeps P keep (suc k) s p =
      go (ltb (first s) (bound s)) refl (λ q. loop_keeps P keep k (act s (first s)) q)
    where
      go : (b : Bool) → ltb (first s) (bound s) ≡ b → (P (act s (first s)) → P (turns k (act s (first s))))
          → P (elim b [ true ↦ turns k (act s (first s)) | false ↦ s ])
      go true e ih =
          let r = first_law (bound s) 0 (test s) in
          let l = ltb-true (first s) (bound s) e in
          ih (keep s (first s) l (r.hit (omega arith)) (λ j h. r.miss j (omega arith) h) p)
      go false e ih = p

  -- the fuel suffices: with a number that falls at each turn, nothing passes at the end
  pub loop_ends : (size : S → ℕ)
      → ((s : S) (m : ℕ) → m < bound s → test s m ≡ true → size (act s m) < size s)
      → (k : ℕ) (s : S) → size s ≤ k → (i : ℕ) → i < bound (turns k s) → test (turns k s) i ≡ false
  unfolding loop chosen
  loop_ends size falls zero s z i h = go (bool_cases (test s i))
    where
      go : (test s i ≡ true) ⊎ (test s i ≡ false) → test s i ≡ false
      go (inl e) = let l = falls s i h e in absurd (omega arith)
      go (inr e) = e
  loop_ends size falls (suc k) s z i h =
      go (ltb (first s) (bound s)) refl (λ q. loop_ends size falls k (act s (first s)) q) i h
    where
      after : Bool → S
      after b = elim b [ true ↦ turns k (act s (first s)) | false ↦ s ]

      go : (b : Bool) → ltb (first s) (bound s) ≡ b
          → (size (act s (first s)) ≤ k → (i : ℕ) → i < bound (after true) → test (after true) i ≡ false)
          → (i : ℕ) → i < bound (after b) → test (after b) i ≡ false
      go true e ih i h =
          let r = first_law (bound s) 0 (test s) in
          let l = ltb-true (first s) (bound s) e in
          let d = falls s (first s) l (r.hit (omega arith)) in
          ih (omega arith) i h
      go false e ih i h =
          let r = first_law (bound s) 0 (test s) in
          let l = ltb-false (first s) (bound s) e in
          r.miss i (omega arith) (omega arith)

  -- one turn, and the end, as a loop of the code takes them
  pub loop_turn : (k : ℕ) (s : S) → first s < bound s → turns (suc k) s ≡ turns k (act s (first s))
  unfolding loop
  loop_turn k s h =
      ap (λ (b : Bool). elim b [ true ↦ turns k (act s (first s)) | false ↦ s ])
      (lt-ltb (first s) (bound s) h)

  pub loop_stops : (k : ℕ) (s : S) → bound s ≤ first s → turns k s ≡ s
  unfolding loop
  loop_stops zero s h = refl
  loop_stops (suc k) s h =
      ap (λ (b : Bool). elim b [ true ↦ turns k (act s (first s)) | false ↦ s ])
      (le-ltb (first s) (bound s) h)

  pub loop_none : (s : S) → turns 0 s ≡ s
  unfolding loop
  loop_none s = refl

-- Two loops from related states end in related states. R k: related with k turns left; Q: at the end.
module _ {S : Type 0} (bound : S → ℕ) (test : S → ℕ → Bool) (act : S → ℕ → S)
    (R : ℕ → S → S → Type 0) (Q : S → S → Type 0)
    (ends : (k : ℕ) (s t : S) → R k s t → Q s t)
    (bounds : (k : ℕ) (s t : S) → R k s t → bound s ≡ bound t)
    (tests : (k : ℕ) (s t : S) → R k s t → (i : ℕ) → i < bound s → test s i ≡ test t i)
    (turns : (k : ℕ) (s t : S) (i : ℕ) → i < bound s → test s i ≡ true → R (suc k) s t
    → R k (act s i) (act t i))
  where
    pub loop_related : (k : ℕ) (s t : S) → R k s t → Q (loop bound test act k s) (loop bound test act k t)
    unfolding loop chosen
    loop_related zero s t r = ends 0 s t r
    loop_related (suc k) s t r = go (ltb c (bound s)) refl (λ z. loop_related k (act s c) (act t c) z)
      where
        c : ℕ
        c = chosen bound test act s

        rest : S → S
        rest x = loop bound test act k x

        same_choice : c ≡ chosen bound test act t
        same_choice =
            first_cong (bound s) 0 (test s) (test t) (λ j a b. tests (suc k) s t r j (omega arith))
            ∙ ap (λ (n : ℕ). first_from n 0 (test t)) (bounds (suc k) s t r)

        right : (b : Bool) → ltb c (bound s) ≡ b
            → loop bound test act (suc k) t ≡ elim b [ true ↦ rest (act t c) | false ↦ t ]
        right b e =
            ap₂ (λ (x : ℕ) (y : Bool). elim y as (λ _. S) [ true ↦ rest (act t x) | false ↦ t ])
            (sym same_choice)
            (sym (ap₂ ltb same_choice (bounds (suc k) s t r)) ∙ e)

        go : (b : Bool) → ltb c (bound s) ≡ b
            → (R k (act s c) (act t c) → Q (rest (act s c)) (rest (act t c)))
            → Q (elim b [ true ↦ rest (act s c) | false ↦ s ]) (loop bound test act (suc k) t)
        go true e ih =
            let f = first_law (bound s) 0 (test s) in
            let l = ltb-true c (bound s) e in
            subst (Q (rest (act s c))) (sym (right true e)) (ih (turns k s t c l (f.hit (omega arith)) r))
        go false e ih = subst (Q s) (sym (right false e)) (ends (suc k) s t r)
