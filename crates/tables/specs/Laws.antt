-- Laws of tables. Assumes nothing.
use Rattle.std.specs.Prelude.{◌≡◌, refl, List, [], ◌∷◌, ◌++◌, ℕ, zero, suc, ◌+◌, ◌*◌, ◌<◌, max}
use Rattle.std.proofs.Common.{sym, ap, ◌∙◌, append-nil, append_assoc, not-suc-le-zero, le_of_suc-le-suc, suc-mul, zero-mul, add_comm, add-one, arith, take-suc, get_or-drop, get_or-take, get_or-append-add, drop-drop}
use denote.Array.{Array, each}
use denote.Shadow.{shadow}
use denote.Plain.{UInt}
use Rattle.std.specs.Int.{w16}
use mir.Val.{Val}
use lib.ListN.{length, take, drop, get_or, length-drop, length-take, length-append, drop_of_length-le, get_or-append}
use Rattle.base.specs.Tabulate.{splice}
use Rattle.tables.specs.Table.{zip, max_row, max_table, table_at, concat}

pub length_table : (n k : ℕ) (w : List ℕ) → length (table_at n k w) ≡ n
unfolding table_at
length_table zero k w = refl
length_table (suc n) k w = ap suc (length_table n k (drop k w))

-- row g of a table
pub row_of : (n k : ℕ) (w : List ℕ) (g : ℕ) → g < n → get_or (table_at n k w) g [] ≡ take k (drop (g * k) w)
unfolding table_at
row_of zero k w g h = absurd (not-suc-le-zero h)
row_of (suc n) k w zero h = rw (zero-mul k)
row_of (suc n) k w (suc g) h =
    row_of n k (drop k w) g (le_of_suc-le-suc h)
    ∙ ap (take k) (drop-drop (g * k) k w
    ∙ ap (λ (x : ℕ). drop x w) (add_comm k (g * k) ∙ sym (suc-mul g k)))

pub concat_snoc : (rs : List (List ℕ)) (r : List ℕ) → concat (rs ++ (r ∷ [])) ≡ concat rs ++ r
unfolding concat
concat_snoc [] r = append-nil r
concat_snoc (x ∷ rs) r = ap (λ (l : List ℕ). x ++ l) (concat_snoc rs r) ∙ sym (append_assoc x (concat rs) r)

pub concat_more : (t : List (List ℕ)) (g : ℕ) → g < length t
    → concat (take (g + 1) t) ≡ concat (take g t) ++ get_or t g []
concat_more t g h = rw (add-one g, take-suc t g [] h) (concat_snoc (take g t) (get_or t g []))

-- what owning an array of arrays tells: each row is as long as its type says
pub row_long : (n : ℕ) (xs : List (List ℕ)) (us : List Val) (i : ℕ) → i < length xs
    → shadow (each (List ℕ) (Array (UInt w16) n).own_val xs us) → length (get_or xs i []) ≡ n
row_long n [] us i h p = absurd (not-suc-le-zero h)
row_long n (x ∷ xs) [] i h p = absurd p
row_long n (x ∷ xs) (u ∷ us) zero h p = p.0.1.0.1
row_long n (x ∷ xs) (u ∷ us) (suc i) h p = row_long n xs us i (le_of_suc-le-suc h) p.1

pub length_rows : (n : ℕ) (xs : List (List ℕ)) (us : List Val)
    → shadow (each (List ℕ) (Array (UInt w16) n).own_val xs us) → length (concat xs) ≡ length xs * n
unfolding concat
length_rows n [] us p = sym (zero-mul n)
length_rows n (x ∷ xs) [] p = absurd p
length_rows n (x ∷ xs) (u ∷ us) p =
    let e : length x ≡ n = p.0.1.0.1 in
    let ih : length (concat xs) ≡ length xs * n = length_rows n xs us p.1 in
    rw (length-append x (concat xs), e, ih, suc-mul (length xs) n) (add_comm n (length xs * n))

pub splice_whole : (w xs : List ℕ) → length xs ≡ length w → splice w 0 xs ≡ xs
unfolding splice
splice_whole w xs e = rw (drop_of_length-le w {i = length xs} (omega arith), append-nil xs)

pub splice_nil : (w : List ℕ) (at : ℕ) → splice w at [] ≡ w
unfolding splice
splice_nil w at = lib.ListN.take-append-drop at w

-- ---- entries
pub length_zip : {A : Type 0} (f : A → A → A) (xs ys : List A) → length xs ≡ length ys
    → length (zip f xs ys) ≡ length xs
unfolding zip
length_zip f [] ys e = refl
length_zip f (x ∷ xs) [] e = sym e
length_zip f (x ∷ xs) (y ∷ ys) e = ap suc (length_zip f xs ys (omega arith))

pub get_d_zip : {A : Type 0} (f : A → A → A) (d : A) (xs ys : List A) (i : ℕ) → i < length xs → i < length ys
    → get_or (zip f xs ys) i d ≡ f (get_or xs i d) (get_or ys i d)
unfolding zip
get_d_zip f d [] ys i h k = absurd (not-suc-le-zero h)
get_d_zip f d (x ∷ xs) [] i h k = absurd (not-suc-le-zero k)
get_d_zip f d (x ∷ xs) (y ∷ ys) zero h k = refl
get_d_zip f d (x ∷ xs) (y ∷ ys) (suc i) h k = get_d_zip f d xs ys i (le_of_suc-le-suc h) (le_of_suc-le-suc k)

-- entry q of row g
pub get_d_concat : (k : ℕ) (t : List (List ℕ)) (g q : ℕ)
    → ((i : ℕ) → i < length t → length (get_or t i []) ≡ k) → g < length t → q < k
    → get_or (concat t) (g * k + q) 0 ≡ get_or (get_or t g []) q 0
unfolding concat
get_d_concat k [] g q l h b = absurd (not-suc-le-zero h)
get_d_concat k (x ∷ t) zero q l h b =
    let lx : length x ≡ k = l 0 (omega arith) in
    let e : 0 * k + q ≡ q = ap (λ (n : ℕ). n + q) (zero-mul k) ∙ omega arith in
    rw e (get_or-append x (concat t) 0 q (omega arith))
get_d_concat k (x ∷ t) (suc g) q l h b =
    let lx : length x ≡ k = l 0 (omega arith) in
    let e : suc g * k + q ≡ length x + (g * k + q) = ap (λ (n : ℕ). n + q) (suc-mul g k) ∙ omega arith in
    rw e (get_or-append-add x (concat t) (g * k + q) 0
    ∙ get_d_concat k t g q (λ i m. l (suc i) (omega arith)) (le_of_suc-le-suc h) b)

-- entry q of row g of the merged counters
pub merged_at : (c : List ℕ) (t : List (List ℕ)) (g q : ℕ) → length c ≡ 128 → length t ≡ 8
    → ((i : ℕ) → i < 8 → length (get_or t i []) ≡ 16) → g < 8 → q < 16
    → get_or (concat (max_table (table_at 8 16 c) t)) (g * 16 + q) 0 ≡ max (get_or c (g * 16 + q) 0)
    (get_or (get_or t g []) q 0)
unfolding max_table max_row
merged_at c t g q lc lt rows hg hq =
    get_d_concat 16 (zip max_row a t) g q
    (λ i h. ap length (row i (below i h))
    ∙ length_zip max (get_or a i []) (get_or t i []) (arow i (below i h) ∙ sym (rows i (below i h)))
    ∙ arow i (below i h)) (omega (arith, lz)) hq
    ∙ ap (λ (l : List ℕ). get_or l q 0) (row g hg)
    ∙ get_d_zip max 0 (get_or a g []) (get_or t g []) q (omega (arith, arow g hg)) (omega (arith, rows g hg))
    ∙ ap (λ (x : ℕ). max x (get_or (get_or t g []) q 0))
    (ap (λ (l : List ℕ). get_or l q 0) (row_of 8 16 c g hg) ∙ get_or-take 16 (drop (g * 16) c) q 0 hq
    ∙ get_or-drop (g * 16) c q 0)
  where
    a : List (List ℕ)
    a = table_at 8 16 c

    la : length a ≡ 8
    la = length_table 8 16 c

    lz : length (zip max_row a t) ≡ 8
    lz = length_zip max_row a t (la ∙ sym lt) ∙ la

    below : (i : ℕ) → i < length (zip max_row a t) → i < 8
    below i h = omega (arith, lz)

    arow : (i : ℕ) → i < 8 → length (get_or a i []) ≡ 16
    arow i h = ap length (row_of 8 16 c i h) ∙ simp (length-take, length-drop) (omega arith)

    row : (i : ℕ) → i < 8 → get_or (zip max_row a t) i [] ≡ zip max (get_or a i []) (get_or t i [])
    row i h = get_d_zip max_row [] a t i (omega (arith, la)) (omega arith)
