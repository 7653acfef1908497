-- What the searches read off lent words and what the answer is made of. Assumes nothing.
use Rattle.std.specs.Prelude.{◌≡◌, refl, Bool, true, false, not, ◌&&◌, List, ℕ, ◌+◌, ◌≤◌, ◌<◌, ltb, leb, get_or}
use Rattle.std.proofs.Common.{sym, ap, ◌∙◌, inl, inr, arith}
use borrow.Author.Tests.{lt-ltb, le-ltb, le-leb, lt-leb}
use Rattle.std.specs.Prelude.{length, take, drop}
use Rattle.std.proofs.lemmas.List.{get_or-take, get_or-drop, length-take-le, length-drop}
use Rattle.definitions.specs.General.{absent}
use Rattle.definitions.specs.World.{size, count, fifo_length, causal_length, fifo, causal, State, view, outside_fifo, outside_causal}
use Rattle.definitions.specs.Machine.{yes_now, message_of, process_alone, lowest_short, lowest_awaited, short_of, awaited}
use Rattle.definitions.specs.Words.{log_length, log_start}
use Rattle.base.specs.Count.{absent_cong}
use Rattle.base.specs.Tests.{le_or_lt, either}

-- ---- above is not at most
not_leb : (x y : ℕ) → not (leb x y) ≡ ltb y x
not_leb x y = elim (le_or_lt x y) [
  | inl l ↦ ap not (le-leb x y l) ∙ sym (le-ltb y x l)
  | inr l ↦ ap not (lt-leb x y l) ∙ sym (lt-ltb y x l)
]

-- the test of an entry in the search: not the sender's, and above del
pub falls_short : (own : Bool) (x del : ℕ) → (not own && ltb del x) ≡ not (either own (leb x del))
falls_short true x del = refl
falls_short false x del = sym (not_leb x del)

-- ---- the logs: m is none of their items
part_lacks : (w : List ℕ) (a n m : ℕ) (log : List ℕ) (f : ℕ → ℕ) → log ≡ take n (drop a w) → a + n ≤ length w
    → ((i : ℕ) → get_or w (a + i) 0 ≡ f i) → absent (length log) m (λ i. get_or log i 0) ≡ absent n m f
part_lacks w a n m log f e h s =
    let long : length log ≡ n = ap (λ (x : List ℕ). length x) e ∙ length-take-le n (drop a w) (omega (arith, length-drop a w)) in
    absent_cong (length log) n m (λ i. get_or log i 0) f long
    (λ i k. ap (λ (x : List ℕ). get_or x i 0) e ∙ get_or-take n (drop a w) i 0 (omega (arith, long)) ∙ get_or-drop a w i 0 ∙ s i)

module _ (w : List ℕ) (p m : ℕ) (log : List ℕ) where
  pub not_in_fifo : log ≡ take (log_length (view w) p false) (drop (log_start p false) w)
      → log_start p false + log_length (view w) p false ≤ length w
      → absent (length log) m (λ i. get_or log i 0) ≡ outside_fifo (view w) p m
  not_in_fifo e h =
      part_lacks w (log_start p false) (view w (fifo_length p)) m log (λ i. view w (fifo p i)) e h
      (λ i. ap (λ (a : ℕ). get_or w a 0) (omega arith))

  pub not_in_causal : log ≡ take (log_length (view w) p true) (drop (log_start p true) w)
      → log_start p true + log_length (view w) p true ≤ length w
      → absent (length log) m (λ i. get_or log i 0) ≡ outside_causal (view w) p m
  not_in_causal e h =
      part_lacks w (log_start p true) (view w (causal_length p)) m log (λ i. view w (causal p i)) e h
      (λ i. ap (λ (a : ℕ). get_or w a 0) (omega arith))

-- ---- the answer, by what the two searches found
module _ (s : State) (p m : ℕ) where
  pub none_short : s size ≤ lowest_short s p m → yes_now ≡ awaited s p m
  unfolding awaited
  none_short l = rw (le-ltb (lowest_short s p m) (s size) l)

  module _ (q : ℕ) (e : q ≡ lowest_short s p m) (l : q < s size) where
    pub none_next : s count ≤ lowest_awaited s p q → process_alone q ≡ awaited s p m
    unfolding awaited short_of
    none_next h = rw (← e, lt-ltb q (s size) l, le-ltb (lowest_awaited s p q) (s count) h)

    pub one_next : (x : ℕ) → x ≡ lowest_awaited s p q → x < s count → message_of q x ≡ awaited s p m
    unfolding awaited short_of
    one_next x d h = rw (← e, lt-ltb q (s size) l, ← d, lt-ltb x (s count) h)
