-- Lists given by a function, and a run of words replaced. Assumes nothing.
use Rattle.std.specs.Prelude.{◌≡◌, refl, List, ◌∷◌, ◌++◌, ℕ, zero, suc, ◌+◌, ◌-◌, ◌≤◌, ◌<◌, set, take}
use Rattle.std.proofs.Common.{sym, ◌∙◌, arith, le_of_suc-le-suc, not-suc-le-zero, length-set, length-drop, length-append, ext_get_or, get_or-drop, drop-drop, take-suc, take-suc-set, drop-set-lt, take_at, add-one, append_assoc}
use Rattle.std.proofs.Math.Path.{ap}
use Rattle.std.proofs.Math.ListN.{length, get_or, drop, length-take, get_or-append}
use Rattle.std.proofs.Math.Seq.{get_or-take, get_or-append-add, append_snoc, drop-append-add}
use Rattle.std.proofs.Math.Nat.{add-sub_cancel_left}
use Rattle.definitions.specs.General.{tab_from, tabulate}

length_tab_from : {A : Type 0} (i n : ℕ) (f : ℕ → A) → length (tab_from i n f) ≡ n
unfolding tab_from
length_tab_from i zero f = refl
length_tab_from i (suc n) f = ap suc (length_tab_from (suc i) n f)

get_d_tab_from : {A : Type 0} (i n : ℕ) (f : ℕ → A) (j : ℕ) (d : A) → j < n
    → get_or (tab_from i n f) j d ≡ f (i + j)
unfolding tab_from
get_d_tab_from i zero f j d h = absurd (not-suc-le-zero h)
get_d_tab_from i (suc n) f zero d h = ap f (omega arith)
get_d_tab_from i (suc n) f (suc j) d h =
    get_d_tab_from (suc i) n f j d (le_of_suc-le-suc h) ∙ ap f (omega arith)

pub length_tabulate : {A : Type 0} (n : ℕ) (f : ℕ → A) → length (tabulate n f) ≡ n
unfolding tabulate
length_tabulate n f = length_tab_from 0 n f

pub get_d_tabulate : {A : Type 0} (n : ℕ) (f : ℕ → A) (j : ℕ) (d : A) → j < n → get_or (tabulate n f) j d ≡ f j
unfolding tabulate
get_d_tabulate n f j d h = get_d_tab_from 0 n f j d h ∙ ap f (omega arith)

-- a list of n entries that are f's is f's list
pub is_tabulate : {A : Type 0} (d : A) (n : ℕ) (f : ℕ → A) (xs : List A) → length xs ≡ n
    → ((i : ℕ) → i < n → get_or xs i d ≡ f i) → xs ≡ tabulate n f
is_tabulate d n f xs l h =
    ext_get_or d xs (tabulate n f) (l ∙ sym (length_tabulate n f))
    (λ j hj. let k : j < n = omega arith in h j k ∙ sym (get_d_tabulate n f j d k))

-- w with the words from base on replaced by xs
unfoldable pub splice : List ℕ → ℕ → List ℕ → List ℕ
splice w base xs = take base w ++ (xs ++ drop (length xs) (drop base w))

pub length_splice : (w : List ℕ) (b : ℕ) (xs : List ℕ) → b + length xs ≤ length w
    → length (splice w b xs) ≡ length w
unfolding splice
length_splice w b xs h = simp (length-append, length-drop, length-take) (omega arith)

module _ (w : List ℕ) (b : ℕ) (xs : List ℕ) (fits : b + length xs ≤ length w) where
  pub splice_below : (j : ℕ) → j < b → get_or (splice w b xs) j 0 ≡ get_or w j 0
  unfolding splice
  splice_below j h = get_or-append (take b w) _ 0 j (simp length-take (omega arith)) ∙ get_or-take b w j 0 h

  -- at b + i
  from : (i : ℕ) → get_or (splice w b xs) (b + i) 0 ≡ get_or (xs ++ drop (length xs) (drop b w)) i 0
  unfolding splice
  from i =
      let e : length (take b w) ≡ b = simp length-take (omega arith) in
      ap (λ (n : ℕ). get_or (take b w ++ (xs ++ drop (length xs) (drop b w))) (n + i) 0) (sym e)
      ∙ get_or-append-add (take b w) _ i 0

  pub splice_in : (j : ℕ) → b ≤ j → j < b + length xs → get_or (splice w b xs) j 0 ≡ get_or xs (j - b) 0
  splice_in j h k =
      let e : b + (j - b) ≡ j = omega arith in
      ap (λ (n : ℕ). get_or (splice w b xs) n 0) (sym e)
      ∙ from (j - b) ∙ get_or-append xs _ 0 (j - b) (omega arith)

  pub splice_above : (j : ℕ) → b + length xs ≤ j → get_or (splice w b xs) j 0 ≡ get_or w j 0
  splice_above j h =
      let e : b + (length xs + (j - b - length xs)) ≡ j = omega arith in
      ap (λ (n : ℕ). get_or (splice w b xs) n 0) (sym e) ∙ from (length xs + (j - b - length xs))
      ∙ get_or-append-add xs _ (j - b - length xs) 0
      ∙ get_or-drop (length xs) (drop b w) (j - b - length xs) 0
      ∙ get_or-drop b w (length xs + (j - b - length xs)) 0 ∙ ap (λ (n : ℕ). get_or w n 0) e

-- ---- stores and splices side by side are one splice
abbrev beside : List ℕ → ℕ → List ℕ → List ℕ
beside w b xs = take b w ++ xs ++ drop (b + length xs) w

splice_beside : (w : List ℕ) (b : ℕ) (xs : List ℕ) → splice w b xs ≡ beside w b xs
unfolding splice
splice_beside w b xs =
    sym (append_assoc (take b w) xs (drop (length xs) (drop b w)))
    ∙ ap (λ (l : List ℕ). take b w ++ xs ++ l) (drop-drop (length xs) b w)

pub splice_cons : (w : List ℕ) (at x : ℕ) (xs : List ℕ) → at < length w
    → splice (set w at x) (at + 1) xs ≡ splice w at (x ∷ xs)
splice_cons w at x xs h = splice_beside (set w at x) (at + 1) xs ∙ go ∙ sym (splice_beside w at (x ∷ xs))
  where
    go : beside (set w at x) (at + 1) xs ≡ beside w at (x ∷ xs)
    go = let k : suc at + length xs ≡ at + suc (length xs) = omega arith in
        let d : drop (suc at + length xs) (set w at x) ≡ drop (suc at + length xs) w =
        drop-set-lt (suc at + length xs) w at x (omega arith) in
        rw (add-one at, take-suc-set w at x h, append_snoc (take at w) x xs, d, k)

pub splice_two : (w : List ℕ) (at x y : ℕ) (xs : List ℕ) → at + 1 < length w
    → splice (set (set w at x) (at + 1) y) (at + 2) xs ≡ splice w at (x ∷ y ∷ xs)
splice_two w at x y xs h =
    let e : at + 2 ≡ at + 1 + 1 = omega arith in
    let l : at + 1 < length (set w at x) = simp length-set (omega arith) in
    rw (e, splice_cons (set w at x) (at + 1) y xs l, splice_cons w at x (y ∷ xs) (omega arith))

pub splice_append : (w : List ℕ) (at : ℕ) (xs ys : List ℕ) (k : ℕ) → k ≡ at + length xs
    → k + length ys ≤ length w → splice (splice w at xs) k ys ≡ splice w at (xs ++ ys)
splice_append w at xs ys k e h =
    ap (λ (l : List ℕ). splice l k ys) (splice_beside w at xs) ∙ splice_beside (beside w at xs) k ys
    ∙ go ∙ sym (splice_beside w at (xs ++ ys))
  where
    go : beside (beside w at xs) k ys ≡ beside w at (xs ++ ys)
    go =
        let p : List ℕ = take at w ++ xs in
        let q : List ℕ = drop (at + length xs) w in
        let lp : length p ≡ k = simp (length-append, length-take) (omega arith) in
        let n : at + length xs + length ys ≡ at + length (xs ++ ys) = simp length-append (omega arith) in
        let d : drop (k + length ys) (p ++ q) ≡ drop (at + length (xs ++ ys)) w =
        ap (λ (n : ℕ). drop (n + length ys) (p ++ q)) (sym lp) ∙ drop-append-add p q (length ys)
        ∙ drop-drop (length ys) (at + length xs) w
        ∙ ap (λ (n : ℕ). drop n w) n in
        rw (take_at p q k lp, d, append_assoc (take at w) xs ys)

-- ---- filling
-- an array a agrees with s below i, and now at i
pub filled_more : {A : Type 0} (d : A) (a s : List A) (i : ℕ) → i < length a → i < length s
    → take i a ≡ take i s → take (i + 1) (set a i (get_or s i d)) ≡ take (i + 1) s
filled_more d a s i ha hs e = rw (add-one i, take-suc-set a i (get_or s i d) ha, take-suc s i d hs, e)

-- what was copied out of &w[base..base + n]
pub got_part : (w ys : List ℕ) (base n : ℕ) → ys ≡ take (base + n - base) (drop base w)
    → ys ≡ take n (drop base w)
got_part w ys base n e = e ∙ rw (add-sub_cancel_left base n)

-- what was copied into &mut w[base..base + n]
pub put_part : (w a ys : List ℕ) (base n : ℕ) → ys ≡ a → length a ≡ n
    → take base w ++ (ys ++ drop (base + n - base) (drop base w)) ≡ splice w base a
unfolding splice
put_part w a ys base n e l = rw (e, add-sub_cancel_left base n, ← l)
