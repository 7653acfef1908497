-- The block of a message: its parts, in the order of the test, are the whole block. Assumes nothing.
use Rattle.std.specs.Prelude.{◌≡◌, refl, Bool, ◌&&◌, List, ℕ, ◌+◌, ◌*◌, ◌/◌, ◌%◌, ◌^◌, ◌<◌}
use Rattle.std.proofs.Math.Path.{sym, ap}
use Rattle.std.proofs.Common.{ap₂, ◌∙◌}
use Rattle.std.proofs.Math.Bool.{true, false}
use native.Mathlib.Omega.{arith}
use Rattle.std.proofs.Math.Dec.{eqb}
use Rattle.std.proofs.Math.ListN.{get_or}
use borrow.Author.Tests.{lt-ltb, eq-eqb, eqb-true}
use Rattle.definitions.specs.General.{every, bit, with, only}
use Rattle.definitions.specs.World.{State, count, sender, mask, stamp, number, flight, order, view, is_message}
use Rattle.definitions.specs.Sound.{addressee, sends, word, fit, fine}
use Rattle.base.specs.Tests.{both}
use Rattle.base.specs.Search.{every_true, every_intro}
use Rattle.base.specs.Bits.{only_none}
use Rattle.ranges.specs.Ranges.{zeros_at, within_at}
use Rattle.limits.specs.Addressees.{addressees_of}
use Rattle.regions.specs.Runs.{fine_run, run_of, run_one, run_join, run_cut}
use Rattle.regions.specs.Letters.{letters_at, letters_law, sender_origin, addressee_origin}
use Rattle.blocks.specs.declared.Known.{Known}
use Rattle.blocks.specs.Known.{Ready}
use Rattle.blocks.specs.Counted.{table_law}

-- The blocks of the first k messages are fine.
unfoldable pub messages_fine : State → ℕ → Bool
messages_fine s k = every k (λ m. fine_run s (6867 + m * 187) 187)

module _ (w : List ℕ) (m : ℕ) (t : Known) (h : Ready w t) (l : m < t.count) where
  there : m < view w count
  there = let e = h.sized.count_is in omega arith

  is_there : is_message (view w) m ≡ true
  is_there = lt-ltb m (view w count) there

  pub low : m < 64
  low = let e = h.sized.few in omega arith

  stamps_law : within_at w (6867 + m * 187 + 2) t.limits 0 136 ≡ fine_run (view w) (6867 + m * 187 + 2) 136
  unfolding fine fit
  stamps_law =
      table_law w t.limits h.bounds (is_message (view w) m) is_there (6867 + m * 187 + 2) (stamp m)
      (number m)
      (λ g q a b. (low, a, b)) (λ g q. refl) (λ g a. (low, a)) (λ g. omega arith) (λ g q. refl) (λ g. refl)

  -- any order number may stand
  order_law : true ≡ fine_run (view w) (6867 + m * 187 + 186) 1
  unfolding fine fit
  order_law =
      ap (λ (b : Bool). word b (view w (order m)) true) (sym is_there) ∙ run_one (view w) (order m) low

  head_law : fine_run (view w) (6867 + m * 187) 2 ≡ true
  head_law =
      run_join (view w) (6867 + m * 187) 1 1 (6867 + m * 187 + 1) 2 refl refl
      (sym (run_one (view w) (sender m) low) ∙ h.headed.fine_senders m there)
      (sym (run_one (view w) (mask m) low) ∙ h.headed.fine_masks m there)

  -- ---- the letters of the three kinds, in flight or none
  module _ (small : (i : ℕ) → get_or w i 0 < 2 ^ 16) where
    -- the letters of kind k, at the place a
    kind_law : (k a origins : ℕ) → k < 3 → a ≡ 6867 + m * 187 + 138 + k * 16
        → ((q : ℕ) → q < 16 → bit origins q ≡ sends (view w) m k q)
        → letters_at w a origins (addressees_of (view w) m) ≡ fine_run (view w) a 16
    kind_law k a origins hk e from =
        ap (λ (x : ℕ). letters_at w x origins (addressees_of (view w) m)) e
        ∙ letters_law w m k origins low hk there from small ∙ ap (λ (x : ℕ). fine_run (view w) x 16) (sym e)

    -- all three
    pub flight_law : (v to : ℕ) → v ≡ with 0 (view w (sender m)) → to ≡ get_or t.addressees m 0
        → ((letters_at w (6867 + m * 187 + 138) v to && letters_at w (6867 + m * 187 + 138 + 16) to to)
        && letters_at w (6867 + m * 187 + 138 + 32) to to) ≡ fine_run (view w) (6867 + m * 187 + 138) 48
    flight_law v to ev et =
        ap₂ both
        (ap₂ both
        (ap (letters_at w a v) is
        ∙ kind_law 0 a v (omega arith) (omega arith) (λ q _. sender_origin (view w) m q v ev))
        (others 1 (a + 16) (omega arith) (omega arith) (omega arith))
        ∙ run_cut (view w) a 16 16 (a + 16) 32 refl refl)
        (others 2 (a + 32) (omega arith) (omega arith) (omega arith))
        ∙ run_cut (view w) a 32 16 (a + 32) 48 refl refl
      where
        a : ℕ
        a = 6867 + m * 187 + 138

        is : to ≡ addressees_of (view w) m
        is = et ∙ h.to.at m low

        others : (k b : ℕ) → 0 < k → k < 3 → b ≡ 6867 + m * 187 + 138 + k * 16
            → letters_at w b to to ≡ fine_run (view w) b 16
        others k b pos hk e =
            ap (λ (x : ℕ). letters_at w b x x) is
            ∙ kind_law k b (addressees_of (view w) m) hk e (λ q _. addressee_origin (view w) m k q pos is_there)

  pub quiet_law : zeros_at w (6867 + m * 187 + 138) 48 ≡ true → true
      ≡ fine_run (view w) (6867 + m * 187 + 138) 48
  unfolding zeros_at fine fit
  quiet_law e =
      sym (every_intro 48 (λ _. true) (λ _ _. refl))
      ∙ run_of (view w) (6867 + m * 187 + 138) 48 (λ i. flight m (i / 16) (i % 16)) (λ _. true)
      (λ i l. (low, omega arith, omega arith)) (λ i l. omega arith)
      (λ i l.
      let x : 6867 + m * 187 + 138 + (i / 16 * 16 + i % 16) ≡ 6867 + m * 187 + 138 + i = omega arith in
      sym (silent (is_message (view w) m && sends (view w) m (i / 16) (i % 16))
      (view w (flight m (i / 16) (i % 16)))
      (ap (λ (j : ℕ). get_or w j 0) x
      ∙ eqb-true _ 0 (every_true 48 (λ j. eqb (get_or w (6867 + m * 187 + 138 + j) 0) 0) e i l))))
    where
      silent : (b : Bool) (x : ℕ) → x ≡ 0 → word b x (only 16 x (addressee (view w) m)) ≡ true
      silent true x q =
          ap (λ (y : ℕ). only 16 y (addressee (view w) m)) q ∙ only_none 16 (addressee (view w) m)
      silent false x q = eq-eqb x 0 q

  pub message_law :
      (within_at w (6867 + m * 187 + 2) t.limits 0 136 && fine_run (view w) (6867 + m * 187 + 138) 48)
      ≡ fine_run (view w) (6867 + m * 187) 187
  message_law =
      ap₂ both stamps_law refl ∙ run_cut (view w) (b + 2) 136 48 (b + 138) 184 (omega arith) refl
      ∙ alone (fine_run (view w) (b + 2) 184)
      ∙ ap (both (fine_run (view w) (b + 2) 184)) order_law
      ∙ run_cut (view w) (b + 2) 184 1 (b + 186) 185 (omega arith) refl
      ∙ ap (λ (x : Bool). x && fine_run (view w) (b + 2) 185) (sym head_law)
      ∙ run_cut (view w) b 2 185 (b + 2) 187 refl refl
    where
      b : ℕ
      b = 6867 + m * 187

      alone : (x : Bool) → x ≡ both x true
      alone true = refl
      alone false = refl
