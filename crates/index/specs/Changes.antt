-- What the changes of a step do to the index. Most touch no word that it looks at. A message appended to a FIFO log
-- puts a member in and a place; a causal delivery takes a place out; a new message has its addressees and goes to its
-- sender's set. Assumes nothing.
use Rattle.std.specs.Prelude.{◌≡◌, Bool, true, false, not, List, ◌≢◌, ◌⊎◌, ℕ, ◌+◌, ◌<◌, ◌≤◌, ltb, eqb, get_or, set}
use Rattle.std.proofs.Math.Path.{refl, ap, subst}
use Rattle.std.proofs.Common.{sym, ap₂, ◌∙◌, inl, inr, arith, get_or-set_same, get_or-set_other, lt-ltb, le-ltb, ltb-true, ltb-false, ne_eqb}
use Rattle.std.proofs.Math.Decide.{ℕ_discrete}
use Rattle.std.proofs.Math.ListN.{length-set}
use Rattle.definitions.specs.General.{bit, with, without, absent, in_at}
use Rattle.base.specs.Bits.{mask_of_cong, bit_with, with_hit, with_other, without_hit, without_other}
use Rattle.base.specs.Count.{absent_cong, absent_out}
use Rattle.base.specs.Tests.{both, both_i, both_r, either, eqb_refl, is_other, le_or_lt, or_false}
use Rattle.base.specs.Search.{every_next}
use Rattle.bounds.specs.Bounds.{Bounds}
use Rattle.definitions.specs.World.{size, count, group, sender, mask, fifo_length, causal_length, fifo, causal, State, put, outside_fifo, outside_causal}
use Rattle.world.specs.Layout.{put_same, put_other, put_at}
use Rattle.definitions.specs.Machine.{with_tables, merge, causal_one, appended, raised_next, numbered, addressees}
use Rattle.index.specs.Index.{frame, Index, Logs, is_open, is_from, in_fifo}

-- ---- a log with one item more
grown : (n m x : ℕ) (f g : ℕ → ℕ) → g n ≡ m → ((j : ℕ) → j < n → g j ≡ f j)
    → absent (n + 1) x g ≡ both (not (eqb m x)) (absent n x f)
unfolding absent
grown n m x f g e h =
    every_next (λ i. not (eqb (g i) x)) n
    ∙ ap₂ both (ap (λ (y : ℕ). not (eqb y x)) e) (absent_cong n n x g f refl h)

pushed_apart : (n m : ℕ) (f g : ℕ → ℕ) → ((i j : ℕ) → i < j → j < n → f i ≢ f j) → absent n m f ≡ true → g n ≡ m
    → ((j : ℕ) → n ≢ j → g j ≡ f j) → (i j : ℕ) → i < j → j < n + 1 → g i ≢ g j
pushed_apart n m f g old new e h i j l k q = go (ℕ_discrete n j)
  where
    at_i : g i ≡ f i
    at_i = h i (λ d. omega arith)

    go : Dec (n ≡ j) → ⊥
    go (yes d) = absent_out n m f new (in_at i (omega arith) (sym at_i ∙ q ∙ ap g (sym d) ∙ e))
    go (no d) = old i j l (omega arith) (sym at_i ∙ q ∙ h j d)

-- ---- a change that it does not look at
pub index_next : (s : State) (x : List ℕ) → Index s x → (p q : ℕ) → Index (raised_next s p q) x
unfolding raised_next put
index_next s x z p q = z

-- ---- a causal delivery
module _ (s : State) (p i : ℕ) where
  abbrev delivered_one : State
  delivered_one = causal_one s p i

  causal_here : (x : ℕ)
      → outside_causal delivered_one p x ≡ both (not (eqb (s (fifo p i)) x)) (outside_causal s p x)
  unfolding causal_one merge with_tables put
  causal_here x =
      let n = s (causal_length p) in
      let m = s (fifo p i) in
      ap (λ (k : ℕ). absent k x (λ j. put s (causal p n) m (causal p j)))
      (put_same s (causal_length p) (causal_length p) (n + 1) refl)
      ∙ grown n m x (λ j. s (causal p j)) (λ j. put s (causal p n) m (causal p j))
      (put_same s (causal p n) (causal p n) m refl)
      (λ j l. put_other s (causal p n) (causal p j) m (λ e. let z : n ≡ j = cc in omega arith))

  causal_there : (r x : ℕ) → p ≢ r → outside_causal delivered_one r x ≡ outside_causal s r x
  unfolding causal_one merge with_tables put
  causal_there r x d =
      let n = s (causal_length p) in
      let m = s (fifo p i) in
      absent_cong (put s (causal_length p) (n + 1) (causal_length r)) (s (causal_length r)) x
      (λ j. put s (causal p n) m (causal r j)) (λ j. s (causal r j))
      (put_other s (causal_length p) (causal_length r) (n + 1) (λ e. d (let z : p ≡ r = cc in z)))
      (λ j l. put_other s (causal p n) (causal r j) m (λ e. d (let z : p ≡ r = cc in z)))

  module _ (x : List ℕ) (v : ℕ) (h : Bounds s) (z : Index s x) (hp : p < 16) (hi : i < s (fifo_length p))
      (logs : Logs s p) (ev : v ≡ without (get_or x (96 + p) 0) i) where
    abbrev y : List ℕ
    y = set x (96 + p) v

    off : (a : ℕ) → a ≢ 96 + p → get_or y a 0 ≡ get_or x a 0
    off a d = get_or-set_other x (96 + p) a v 0 d

    same_open : (j : ℕ) → i ≢ j → (b : Bool) → ltb j (s (fifo_length p)) ≡ b
        → both b (outside_causal s p (s (fifo p j))) ≡ both b (outside_causal delivered_one p (s (fifo p j)))
    same_open j d false e = refl
    same_open j d true e =
        sym (causal_here (s (fifo p j))
        ∙ ap (λ (b : Bool). both b (outside_causal s p (s (fifo p j)))) (is_other (s (fifo p i)) (s (fifo p j)) (apart (le_or_lt i j))))
      where
        apart : (i ≤ j) ⊎ (j < i) → s (fifo p i) ≡ s (fifo p j) → ⊥
        apart (inl l) q = logs.once i j (omega arith) (ltb-true j (s (fifo_length p)) e) q
        apart (inr l) q = logs.once j i l hi (sym q)

    place : (j : ℕ) → j < 64 → Dec (i ≡ j) → bit (without (get_or x (96 + p) 0) i) j
        ≡ both (ltb j (s (fifo_length p))) (outside_causal delivered_one p (s (fifo p j)))
    place j hj (yes e) =
        subst (λ (k : ℕ). bit (without (get_or x (96 + p) 0) i) k
        ≡ both (ltb k (s (fifo_length p))) (outside_causal delivered_one p (s (fifo p k)))) e
        (without_hit (get_or x (96 + p) 0) i ∙ sym
        (ap (both (ltb i (s (fifo_length p)))) (causal_here (s (fifo p i))
        ∙ ap (λ (b : Bool). both (not b) (outside_causal s p (s (fifo p i)))) (eqb_refl (s (fifo p i))))
        ∙ no_more (ltb i (s (fifo_length p)))))
      where
        no_more : (b : Bool) → both b false ≡ false
        no_more true = refl
        no_more false = refl
    place j hj (no d) =
        without_other (get_or x (96 + p) 0) i j d ∙ z.opened p hp j hj
        ∙ same_open j d (ltb j (s (fifo_length p))) refl

    pub index_causal : Index delivered_one y
    unfolding causal_one merge with_tables put
    index_causal = record {
      long = length-set x (96 + p) v ∙ z.long;
      to = λ m l. off m (λ e. omega (arith, h.counts)) ∙ z.to m l;
      own = λ q hq m hm. ap (λ (k : ℕ). bit k m) (off (64 + q) (λ e. omega arith)) ∙ z.own q hq m hm;
      listed = λ r hr m hm. ap (λ (k : ℕ). bit k m) (off (80 + r) (λ e. omega arith)) ∙ z.listed r hr m hm;
      opened = λ r hr j hj. go r hr j hj (ℕ_discrete p r);
    }
      where
        go : (r : ℕ) → r < 16 → (j : ℕ) → j < 64 → Dec (p ≡ r) → bit (get_or y (96 + r) 0) j
            ≡ both (ltb j (s (fifo_length r))) (outside_causal delivered_one r (s (fifo r j)))
        go r hr j hj (yes e) =
            subst (λ (k : ℕ). bit (get_or y (96 + k) 0) j
            ≡ both (ltb j (s (fifo_length k))) (outside_causal delivered_one k (s (fifo k j)))) e
            (ap (λ (k : ℕ). bit k j) (get_or-set_same x (96 + p) v 0 (omega (arith, z.long)) ∙ ev)
            ∙ place j hj (ℕ_discrete i j))
        go r hr j hj (no d) =
            ap (λ (k : ℕ). bit k j) (off (96 + r) (λ e. d (omega arith))) ∙ z.opened r hr j hj
            ∙ ap (both (ltb j (s (fifo_length r)))) (sym (causal_there r (s (fifo r j)) d))

    pub logs_causal : outside_causal s p (s (fifo p i)) ≡ true → Logs delivered_one p
    unfolding causal_one merge with_tables put
    logs_causal new = record {
      once = logs.once;
      exist = logs.exist;
      apart = λ a b l k. pushed_apart (s (causal_length p)) (s (fifo p i)) (λ j. s (causal p j))
          (λ j. put s (causal p (s (causal_length p))) (s (fifo p i)) (causal p j)) logs.apart new
          (put_same s (causal p (s (causal_length p))) (causal p (s (causal_length p))) (s (fifo p i)) refl)
          (λ j d. put_other s (causal p (s (causal_length p))) (causal p j) (s (fifo p i))
          (λ e. d (let q : s (causal_length p) ≡ j = cc in q)))
          a b l (omega (arith, put_same s (causal_length p) (causal_length p) (s (causal_length p) + 1) refl));
      inside = λ m e. causal_here m ∙ both_i (not (eqb (s (fifo p i)) m)) (outside_causal s p m)
          (is_other (s (fifo p i)) m
          (λ d. absent_out (s (fifo_length p)) m (λ j. s (fifo p j)) e (in_at i hi d)))
          (logs.inside m e);
    }

-- ---- a message appended to the FIFO log
module _ (s : State) (p m : ℕ) where
  abbrev longer : State
  longer = appended s p m

  length_here : longer (fifo_length p) ≡ s (fifo_length p) + 1
  unfolding appended put
  length_here = put_same s (fifo_length p) (fifo_length p) (s (fifo_length p) + 1) refl

  length_there : (r : ℕ) → p ≢ r → longer (fifo_length r) ≡ s (fifo_length r)
  unfolding appended put
  length_there r d =
      put_other s (fifo_length p) (fifo_length r) (s (fifo_length p) + 1) (λ e. d (let z : p ≡ r = cc in z))

  item_new : longer (fifo p (s (fifo_length p))) ≡ m
  unfolding appended put
  item_new = put_same s (fifo p (s (fifo_length p))) (fifo p (s (fifo_length p))) m refl

  item_old : (j : ℕ) → s (fifo_length p) ≢ j → longer (fifo p j) ≡ s (fifo p j)
  unfolding appended put
  item_old j d =
      put_other s (fifo p (s (fifo_length p))) (fifo p j) m (λ e. d (let z : s (fifo_length p) ≡ j = cc in z))

  item_there : (r j : ℕ) → p ≢ r → longer (fifo r j) ≡ s (fifo r j)
  unfolding appended put
  item_there r j d =
      put_other s (fifo p (s (fifo_length p))) (fifo r j) m (λ e. d (let z : p ≡ r = cc in z))

  pub fifo_here : (x : ℕ) → outside_fifo longer p x ≡ both (not (eqb m x)) (outside_fifo s p x)
  fifo_here x =
      ap (λ (k : ℕ). absent k x (λ j. longer (fifo p j))) length_here
      ∙ grown (s (fifo_length p)) m x (λ j. s (fifo p j)) (λ j. longer (fifo p j)) item_new
      (λ j l. item_old j (λ e. omega arith))

  fifo_there : (r x : ℕ) → p ≢ r → outside_fifo longer r x ≡ outside_fifo s r x
  fifo_there r x d =
      absent_cong (longer (fifo_length r)) (s (fifo_length r)) x (λ j. longer (fifo r j)) (λ j. s (fifo r j))
      (length_there r d) (λ j l. item_there r j d)

  -- the causal logs are as before
  causal_kept : (r x : ℕ) → outside_causal longer r x ≡ outside_causal s r x
  unfolding appended put
  causal_kept r x = refl

  pub logs_appended : Logs s p → m < s count → outside_fifo s p m ≡ true → Logs longer p
  unfolding appended put
  logs_appended logs low new = record {
    once = λ i j l k. pushed_apart (s (fifo_length p)) m (λ x. s (fifo p x)) (λ x. longer (fifo p x)) logs.once new
        item_new item_old i j l (omega (arith, length_here));
    exist = λ i l. put_at s (fifo p (s (fifo_length p))) (fifo p i) m (λ v. v < s count) (λ _. low)
        (λ d. logs.exist i (let e : s (fifo_length p) ≢ i = λ q. d (ap (fifo p) q) in omega (arith, length_here)));
    inside = λ x e. causal_kept p x ∙ logs.inside x (both_r (not (eqb m x)) (outside_fifo s p x) (sym (fifo_here x) ∙ e));
    apart = logs.apart;
  }

  module _ (x : List ℕ) (a b : ℕ) (h : Bounds s) (z : Index s x) (hp : p < 16)
      (room : s (fifo_length p) < 64) (new : outside_causal s p m ≡ true)
      (ea : a ≡ with (get_or x (80 + p) 0) m) (eb : b ≡ with (get_or x (96 + p) 0) (s (fifo_length p))) where
    abbrev u : List ℕ
    u = set (set x (80 + p) a) (96 + p) b

    apart_from : (k : ℕ) → k ≢ 80 + p → k ≢ 96 + p → get_or u k 0 ≡ get_or x k 0
    apart_from k d e =
        get_or-set_other (set x (80 + p) a) (96 + p) k b 0 e ∙ get_or-set_other x (80 + p) k a 0 d

    at_listed : get_or u (80 + p) 0 ≡ a
    at_listed =
        get_or-set_other (set x (80 + p) a) (96 + p) (80 + p) b 0 (λ e. omega arith)
        ∙ get_or-set_same x (80 + p) a 0 (omega (arith, z.long))

    at_opened : get_or u (96 + p) 0 ≡ b
    at_opened =
        get_or-set_same (set x (80 + p) a) (96 + p) b 0 (omega (arith, z.long, length-set x (80 + p) a))

    member : (j : ℕ) → j < 64 → bit a j ≡ not (outside_fifo longer p j)
    member j hj =
        ap (λ (k : ℕ). bit k j) ea ∙ bit_with (get_or x (80 + p) 0) m j
        ∙ ap (λ (c : Bool). either c (eqb m j)) (z.listed p hp j hj)
        ∙ turned (outside_fifo s p j) (eqb m j) ∙ ap not (sym (fifo_here j))
      where
        turned : (o e : Bool) → either (not o) e ≡ not (both (not e) o)
        turned true true = refl
        turned true false = refl
        turned false true = refl
        turned false false = refl

    place_of : (j : ℕ) → j < 64 → Dec (s (fifo_length p) ≡ j) → bit b j
        ≡ both (ltb j (longer (fifo_length p))) (outside_causal longer p (longer (fifo p j)))
    place_of j hj (yes e) =
        subst (λ (k : ℕ). bit b k
        ≡ both (ltb k (longer (fifo_length p))) (outside_causal longer p (longer (fifo p k)))) e
        (ap (λ (k : ℕ). bit k (s (fifo_length p))) eb ∙ with_hit (get_or x (96 + p) 0) (s (fifo_length p))
        ∙ sym (both_i (ltb (s (fifo_length p)) (longer (fifo_length p))) _
        (lt-ltb (s (fifo_length p)) (longer (fifo_length p)) (omega (arith, length_here)))
        (ap (outside_causal longer p) item_new ∙ causal_kept p m ∙ new)))
    place_of j hj (no d) =
        ap (λ (k : ℕ). bit k j) eb ∙ with_other (get_or x (96 + p) 0) (s (fifo_length p)) j d
        ∙ z.opened p hp j hj
        ∙ ap₂ both (below (ltb j (s (fifo_length p))) refl)
        (sym (ap (outside_causal longer p) (item_old j d) ∙ causal_kept p (s (fifo p j))))
      where
        below : (c : Bool) → ltb j (s (fifo_length p)) ≡ c → ltb j (s (fifo_length p)) ≡ ltb j (longer (fifo_length p))
        below true e =
            e ∙ sym (lt-ltb j (longer (fifo_length p)) (omega (arith, length_here, ltb-true j (s (fifo_length p)) e)))
        below false e =
            e ∙ sym (le-ltb j (longer (fifo_length p)) (omega (arith, length_here, ltb-false j (s (fifo_length p)) e)))

    to_kept : (k : ℕ) → k < longer count → get_or u k 0 ≡ addressees longer k
    unfolding appended put
    to_kept k l = apart_from k (λ e. omega (arith, h.counts)) (λ e. omega (arith, h.counts)) ∙ z.to k l

    own_kept : (q : ℕ) → q < 16 → (k : ℕ) → k < 64 → bit (get_or u (64 + q) 0) k ≡ is_from (frame longer) q k
    unfolding appended put
    own_kept q hq k hk =
        ap (λ (c : ℕ). bit c k) (apart_from (64 + q) (λ e. omega arith) (λ e. omega arith)) ∙ z.own q hq k hk

    pub index_appended : Index longer u
    index_appended = record {
      long = length-set (set x (80 + p) a) (96 + p) b ∙ length-set x (80 + p) a ∙ z.long;
      to = to_kept;
      own = own_kept;
      listed = λ r hr j hj. in_log r hr j hj (ℕ_discrete p r);
      opened = λ r hr j hj. at_place r hr j hj (ℕ_discrete p r);
    }
      where
        in_log : (r : ℕ) → r < 16 → (j : ℕ) → j < 64 → Dec (p ≡ r) → bit (get_or u (80 + r) 0) j
            ≡ not (outside_fifo longer r j)
        in_log r hr j hj (yes e) =
            subst (λ (k : ℕ). bit (get_or u (80 + k) 0) j ≡ not (outside_fifo longer k j)) e
            (ap (λ (k : ℕ). bit k j) at_listed ∙ member j hj)
        in_log r hr j hj (no d) =
            ap (λ (k : ℕ). bit k j) (apart_from (80 + r) (λ e. d (omega arith)) (λ e. omega arith))
            ∙ z.listed r hr j hj ∙ ap not (sym (fifo_there r j d))

        at_place : (r : ℕ) → r < 16 → (j : ℕ) → j < 64 → Dec (p ≡ r) → bit (get_or u (96 + r) 0) j
            ≡ both (ltb j (longer (fifo_length r))) (outside_causal longer r (longer (fifo r j)))
        at_place r hr j hj (yes e) =
            subst (λ (k : ℕ). bit (get_or u (96 + k) 0) j
            ≡ both (ltb j (longer (fifo_length k))) (outside_causal longer k (longer (fifo k j)))) e
            (ap (λ (k : ℕ). bit k j) at_opened ∙ place_of j hj (ℕ_discrete (s (fifo_length p)) j))
        at_place r hr j hj (no d) =
            ap (λ (k : ℕ). bit k j) (apart_from (96 + r) (λ e. omega arith) (λ e. d (omega arith)))
            ∙ z.opened r hr j hj
            ∙ ap₂ both (ap (ltb j) (sym (length_there r d)))
            (sym (ap (outside_causal longer r) (item_there r j d) ∙ causal_kept r (s (fifo r j))))

-- ---- a new message: its addressees, and its sender's set
module _ (s : State) (p groups o : ℕ) where
  abbrev one_more : State
  one_more = numbered s p groups o

  sender_new : one_more (sender (s count)) ≡ p
  unfolding numbered put
  sender_new = put_same s (sender (s count)) (sender (s count)) p refl

  sender_old : (k : ℕ) → s count ≢ k → one_more (sender k) ≡ s (sender k)
  unfolding numbered put
  sender_old k d = put_other s (sender (s count)) (sender k) p (λ e. d (let z : s count ≡ k = cc in z))

  mask_old : (k : ℕ) → s count ≢ k → one_more (mask k) ≡ s (mask k)
  unfolding numbered put
  mask_old k d = put_other s (mask (s count)) (mask k) groups (λ e. d (let z : s count ≡ k = cc in z))

  module _ (x : List ℕ) (a b : ℕ) (h : Bounds s) (z : Index s x) (hp : p < 16) (room : s count < 64)
      (ea : a ≡ addressees one_more (s count)) (eb : b ≡ with (get_or x (64 + p) 0) (s count)) where
    abbrev y2 : List ℕ
    y2 = set (set x (s count) a) (64 + p) b

    kept : (k : ℕ) → k ≢ s count → k ≢ 64 + p → get_or y2 k 0 ≡ get_or x k 0
    kept k d e = get_or-set_other (set x (s count) a) (64 + p) k b 0 e ∙ get_or-set_other x (s count) k a 0 d

    count_more : one_more count ≡ s count + 1
    unfolding numbered put
    count_more = refl

    to_old : (k : ℕ) → s count ≢ k → addressees one_more k ≡ addressees s k
    unfolding numbered put
    to_old k d = mask_of_cong (s size) _ _ (λ q l. ap (λ (c : ℕ). bit c (s (group q))) (mask_old k d))

    from_more : (q k : ℕ) → Dec (s count ≡ k) → is_from (frame one_more) q k ≡ either (is_from (frame s) q k) (both (eqb (s count) k) (eqb p q))
    from_more q k (yes e) =
        subst (λ (c : ℕ). is_from (frame one_more) q c ≡ either (is_from (frame s) q c) (both (eqb (s count) c) (eqb p q))) e
        (ap₂ both (lt-ltb (s count) (one_more count) (omega (arith, count_more))) (ap (λ (c : ℕ). eqb c q) sender_new)
        ∙ sym (ap₂ (λ (c d : Bool). either (both c (eqb (s (sender (s count))) q)) (both d (eqb p q)))
        (le-ltb (s count) (s count) (omega arith)) (eqb_refl (s count))))
    from_more q k (no d) =
        ap₂ both (below (ltb k (s count)) refl) (ap (λ (c : ℕ). eqb c q) (sender_old k d))
        ∙ sym (or_false (is_from (frame s) q k))
        ∙ sym (ap (λ (c : Bool). either (is_from (frame s) q k) (both c (eqb p q))) (ne_eqb (s count) k d))
      where
        below : (c : Bool) → ltb k (s count) ≡ c → ltb k (one_more count) ≡ ltb k (s count)
        below true e = lt-ltb k (one_more count) (omega (arith, count_more, ltb-true k (s count) e)) ∙ sym e
        below false e = le-ltb k (one_more count) (omega (arith, count_more, ltb-false k (s count) e)) ∙ sym e

    listed_all : (r : ℕ) → r < 16 → (k : ℕ) → k < 64 → bit (get_or y2 (80 + r) 0) k ≡ in_fifo (frame one_more) r k
    unfolding numbered put
    listed_all r hr k hk =
        ap (λ (c : ℕ). bit c k) (kept (80 + r) (λ e. omega arith) (λ e. omega arith)) ∙ z.listed r hr k hk

    opened_all : (r : ℕ) → r < 16 → (k : ℕ) → k < 64 → bit (get_or y2 (96 + r) 0) k ≡ is_open (frame one_more) r k
    unfolding numbered put
    opened_all r hr k hk =
        ap (λ (c : ℕ). bit c k) (kept (96 + r) (λ e. omega arith) (λ e. omega arith)) ∙ z.opened r hr k hk

    pub index_numbered : Index one_more y2
    index_numbered = record {
      long = length-set (set x (s count) a) (64 + p) b ∙ length-set x (s count) a ∙ z.long;
      to = λ k l. to_all k (omega (arith, count_more)) (ℕ_discrete (s count) k);
      own = λ q hq k hk. own_all q hq k hk (ℕ_discrete p q);
      listed = listed_all;
      opened = opened_all;
    }
      where
        to_all : (k : ℕ) → k < s count + 1 → Dec (s count ≡ k) → get_or y2 k 0 ≡ addressees one_more k
        to_all k l (yes e) =
            subst (λ (c : ℕ). get_or y2 c 0 ≡ addressees one_more c) e
            (get_or-set_other (set x (s count) a) (64 + p) (s count) b 0 (λ e. omega arith)
            ∙ get_or-set_same x (s count) a 0 (omega (arith, z.long)) ∙ ea)
        to_all k l (no d) =
            kept k (λ e. d (sym e)) (λ e. omega arith) ∙ z.to k (omega arith) ∙ sym (to_old k d)

        own_all : (q : ℕ) → q < 16 → (k : ℕ) → k < 64 → Dec (p ≡ q) → bit (get_or y2 (64 + q) 0) k ≡ is_from (frame one_more) q k
        own_all q hq k hk (yes e) =
            subst (λ (c : ℕ). bit (get_or y2 (64 + c) 0) k ≡ is_from (frame one_more) c k) e
            (ap (λ (c : ℕ). bit c k)
            (get_or-set_same (set x (s count) a) (64 + p) b 0 (omega (arith, z.long, length-set x (s count) a)) ∙ eb)
            ∙ bit_with (get_or x (64 + p) 0) (s count) k
            ∙ ap₂ either (z.own p hp k hk) (sym (yes_and (eqb (s count) k) (eqb_refl p)))
            ∙ sym (from_more p k (ℕ_discrete (s count) k)))
          where
            yes_and : (c : Bool) {d : Bool} → d ≡ true → both c d ≡ c
            yes_and true e = e
            yes_and false e = refl
        own_all q hq k hk (no d) =
            ap (λ (c : ℕ). bit c k) (kept (64 + q) (λ e. omega arith) (λ e. d (omega arith))) ∙ z.own q hq k hk
            ∙ same_or (is_from (frame s) q k) (eqb (s count) k) (ne_eqb p q d)
            ∙ sym (from_more q k (ℕ_discrete (s count) k))
          where
            same_or : (c d : Bool) {e : Bool} → e ≡ false → c ≡ either c (both d e)
            same_or true d e = refl
            same_or false true e = sym e
            same_or false false e = refl
