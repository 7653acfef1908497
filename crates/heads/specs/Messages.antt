-- The sender and the mask of each message. Assumes nothing.
use Rattle.std.specs.Prelude.{◌≡◌, refl, Bool, true, false, not, ◌&&◌, List, ℕ, ◌^◌, ◌<◌, ltb, eqb}
use Rattle.std.proofs.Common.{sym, ap, ap₂, ◌∙◌, arith, lt-ltb}
use Rattle.std.specs.Int.Bits.{bit_and}
use Rattle.definitions.specs.General.{every, only}
use Rattle.definitions.specs.World.{State, sender, mask, view, is_process, is_message, has_group}
use Rattle.definitions.specs.Sound.{word, fit, fine}
use Rattle.base.specs.Sets.{subset_only}
use Rattle.heads.specs.Known.{Sized, Grouped}

-- A message may have this sender, of n processes, and this mask, of these groups.
unfoldable pub head_ok : ℕ → ℕ → ℕ → ℕ → Bool
head_ok from to n groups = (ltb from n && not (eqb to 0)) && eqb (bit_and to groups) to

-- The first k messages have senders and masks that may be.
unfoldable pub heads_fine : State → ℕ → Bool
heads_fine s k = every k (λ m. fine s (sender m) && fine s (mask m))

and_assoc : (a b c : Bool) → ((a && b) && c) ≡ (a && (b && c))
and_assoc true b c = refl
and_assoc false b c = refl

pub head_law : (w : List ℕ) (n count groups m from to : ℕ) → Sized w n count → Grouped (view w) groups
    → m < count
    → from ≡ view w (sender m) → to ≡ view w (mask m) → to < 2 ^ 16
    → head_ok from to n groups ≡ (fine (view w) (sender m) && fine (view w) (mask m))
unfolding head_ok fine fit
head_law w n count groups m from to z g l ef et small =
    and_assoc (ltb from n) (not (eqb to 0)) (eqb (bit_and to groups) to)
    ∙ ap (λ (b : Bool). ltb from n && (not (eqb to 0) && b))
    (subset_only 16 to groups (has_group (view w)) small (λ i _. g.exist i))
    ∙ ap₂ (λ (a b : ℕ). ltb from a && (not (eqb b 0) && only 16 b (has_group (view w)))) z.size_is et
    ∙ ap (λ (a : ℕ). is_process (view w) a
    && (not (eqb (view w (mask m)) 0) && only 16 (view w (mask m)) (has_group (view w)))) ef
    ∙ sym (ap₂ (λ (a b : Bool). word a (view w (sender m)) (is_process (view w) (view w (sender m)))
    && word b (view w (mask m)) (not (eqb (view w (mask m)) 0)
    && only 16 (view w (mask m)) (has_group (view w)))) here here)
  where
    here : is_message (view w) m ≡ true
    here = lt-ltb m _ (let e = z.count_is in omega arith)
