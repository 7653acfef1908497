-- The parts of the test are the whole world: what exists, the blocks, and the ranges of zeros. Assumes
-- nothing.
use Rattle.std.specs.Prelude.{◌≡◌, Bool, ◌&&◌, Some, List, ℕ, zero, suc, ◌+◌, ◌-◌, ◌*◌, ◌≤◌, ◌<◌, ltb, eqb, length}
use Rattle.std.proofs.Math.Path.{refl, ap, ap₂}
use Rattle.std.proofs.Common.{sym, ◌∙◌, arith, suc-mul, zero-mul}
use Rattle.std.proofs.Math.Bool.{true, false}
use Rattle.std.proofs.Math.Dec.{leb}
use borrow.Author.Tests.{leb-true, le-leb, eq-eqb, eqb-true}
use Rattle.definitions.specs.General.{pick, every}
use Rattle.definitions.specs.World.{State, size, count, rule, group, sender, mask, cell_at, view, has_group}
use Rattle.definitions.specs.Sound.{fit, fine, sound}
use Rattle.base.specs.Tests.{both, both_l, both_r, both_i, and_swap, clash}
use Rattle.base.specs.Search.{every_true, every_intro, every_cong}
use Rattle.world.specs.SoundLaws.{sound_facts}
use Rattle.ranges.specs.Ranges.{zeros_at}
use Rattle.heads.specs.Known.{Sized, Grouped, Placed, Headed}
use Rattle.heads.specs.Groups.{GroupTest}
use Rattle.heads.specs.Messages.{heads_fine}
use Rattle.limits.specs.Limits.{Limits}
use Rattle.limits.specs.Addressees.{Addressees}
use Rattle.regions.specs.Runs.{fine_run, run_one, run_split, run_join, run_cut}
use Rattle.blocks.specs.declared.Known.{Known}
use Rattle.blocks.specs.Known.{Ready}
use Rattle.blocks.specs.Process.{processes_fine}
use Rattle.blocks.specs.Message.{messages_fine}
use Rattle.soundness.specs.Absent.{zeros_run, absent_process, absent_message}

-- ---- a sound world is one run of fine words
sound_run : (s : State) → fine_run s 0 20480 ≡ sound s
unfolding fine_run sound
sound_run s =
    every_cong 20480 (λ i. fine s (cell_at (0 + i))) (λ a. fine s (cell_at a))
    (λ i l. let e : 0 + i ≡ i = omega arith in ap (λ (x : ℕ). fine s (cell_at x)) e)

-- n runs of length k, one after the other
every_suc : (n : ℕ) (f : ℕ → Bool) → every (suc n) f ≡ (f n && every n f)
unfolding every
every_suc n f = go (f n)
  where
    go : (b : Bool) → elim b [ true ↦ every n f | false ↦ false ] ≡ (b && every n f)
    go true = refl
    go false = refl

blocks_run : (s : State) (a k n : ℕ) → every n (λ i. fine_run s (a + i * k) k) ≡ fine_run s a (n * k)
unfolding every fine_run
blocks_run s a k zero = none ∙ ap (fine_run s a) (sym (zero-mul k))
  where
    none : true ≡ fine_run s a 0
    none = refl
blocks_run s a k (suc n) =
    every_suc n (λ i. fine_run s (a + i * k) k)
    ∙ ap (both (fine_run s (a + n * k) k)) (blocks_run s a k n)
    ∙ and_swap (fine_run s (a + n * k) k) (fine_run s a (n * k))
    ∙ sym (run_split s a (n * k) k) ∙ ap (fine_run s a) (sym (suc-mul n k))

-- ---- a part that is not fine
pub not_sound : (s : State) (b : Bool) → b ≡ false → (sound s ≡ true → b ≡ true) → false ≡ sound s
not_sound s b e f = go (sound s) refl
  where
    go : (x : Bool) → sound s ≡ x → false ≡ sound s
    go true q = clash (f q) e
    go false q = sym q

-- ---- what exists
module _ (w : List ℕ) (n messages spare : ℕ) (en : n ≡ view w size) (ec : messages ≡ view w count)
    (er : spare ≡ view w rule) where
  pub header_sound : sound (view w) ≡ true → (((leb 1 n && leb n 16) && leb messages 64) && eqb spare 0)
      ≡ true
  unfolding fine fit
  header_sound e =
      rw (en, ec, er)
      (both_i ((leb 1 (view w size) && leb (view w size) 16) && leb (view w count) 64) (eqb (view w rule) 0)
      (both_i (leb 1 (view w size) && leb (view w size) 16) (leb (view w count) 64)
      (sound_facts (view w) e size tt)
      (sound_facts (view w) e count tt)) (sound_facts (view w) e rule tt))

  pub header_sized : length w ≡ 20480 → (((leb 1 n && leb n 16) && leb messages 64) && eqb spare 0) ≡ true
      → Sized w n messages
  header_sized l e =
      let a = both_l ((leb 1 n && leb n 16) && leb messages 64) (eqb spare 0) e in
      let b = both_l (leb 1 n && leb n 16) (leb messages 64) a in
      record {
        long = l;
        size_is = en;
        low = leb-true 1 n (both_l (leb 1 n) (leb n 16) b);
        high = leb-true n 16 (both_r (leb 1 n) (leb n 16) b);
        count_is = ec;
        few = leb-true messages 64 (both_r (leb 1 n && leb n 16) (leb messages 64) a);
        spare = sym er ∙ eqb-true spare 0 (both_r ((leb 1 n && leb n 16) && leb messages 64) (eqb spare 0) e);
      }

pub groups_sound : (s : State) (n : ℕ) → n ≤ 16 → sound s ≡ true → every n (λ p. fine s (group p)) ≡ true
groups_sound s n h e = every_intro n (λ p. fine s (group p)) (λ p l. sound_facts s e (group p) (omega arith))

pub groups_placed : (s : State) (n set : ℕ) → n ≡ s size → GroupTest s n (Some set) → Placed s
groups_placed s n set en h = record {
  fine_groups = λ p l. every_true n (λ q. fine s (group q)) (sym h.is_good) p (omega arith);
}

pub heads_sound : (s : State) (k : ℕ) → k ≤ 64 → sound s ≡ true → heads_fine s k ≡ true
unfolding heads_fine
heads_sound s k h e =
    every_intro k (λ m. fine s (sender m) && fine s (mask m))
    (λ m l. let r : m < 64 = omega arith in
    both_i (fine s (sender m)) (fine s (mask m)) (sound_facts s e (sender m) r) (sound_facts s e (mask m) r))

pub heads_headed : (s : State) (k : ℕ) → k ≡ s count → heads_fine s k ≡ true → Headed s
unfolding heads_fine
heads_headed s k ek e = record {
  fine_senders = λ m l. both_l (fine s (sender m)) (fine s (mask m)) (at m (omega arith));
  fine_masks = λ m l. both_r (fine s (sender m)) (fine s (mask m)) (at m (omega arith));
}
  where
    at : (m : ℕ) → m < k → (fine s (sender m) && fine s (mask m)) ≡ true
    at m l = every_true k (λ m. fine s (sender m) && fine s (mask m)) e m l

-- ---- the tables
pub ready : (w : List ℕ) (t : Known) (groups c : ℕ) → Sized w t.size t.count
    → Grouped (view w) groups → Placed (view w) → Headed (view w) → c ≡ view w count
    → Limits t.size groups c t.limits
    → Addressees (view w) t.addressees → Ready w t
ready w t groups c z g p h ec l a = record {
  sized = z;
  placed = p;
  headed = h;
  bounds = record {
    long = l.long;
    pairs = λ x q k m. l.pairs x q k m ∙ ap₂ (λ (b : Bool) (y : ℕ). pick (b && ltb q t.size) y 0) (g.exist x) ec
        ∙ ap (λ (y : ℕ). pick (has_group (view w) x && ltb q y) (view w count) 0) z.size_is;
    alone = λ x k. l.alone x k ∙ ap₂ (λ (b : Bool) (y : ℕ). pick b y 0) (g.exist x) ec;
    processes = λ q k. l.processes q k ∙ ap₂ (λ (x y : ℕ). pick (ltb q x) y 0) z.size_is ec;
    items = l.items;
    past = l.past;
  };
  to = a;
}

-- ---- what is past the blocks of the processes
unfoldable pub beyond_fine : List ℕ → ℕ → ℕ → Bool
beyond_fine w n messages =
    (zeros_at w (3 + n * 429) (6864 - n * 429) && messages_fine (view w) messages)
    && zeros_at w (6867 + messages * 187) (13613 - messages * 187)

-- ---- the whole
module _ (w : List ℕ) (n messages : ℕ) (z : Sized w n messages) where
  top : fine_run (view w) 0 3 ≡ true
  unfolding fine fit
  top =
      run_join (view w) 0 1 2 1 3 refl refl (sym (run_one (view w) size tt)
      ∙ both_i (leb 1 (view w size)) (leb (view w size) 16)
      (le-leb 1 (view w size) (omega (arith, z.size_is, z.low)))
      (le-leb (view w size) 16 (omega (arith, z.size_is, z.high))))
      (run_join (view w) 1 1 1 2 2 refl refl
      (sym (run_one (view w) count tt) ∙ le-leb (view w count) 64 (omega (arith, z.count_is, z.few)))
      (sym (run_one (view w) rule tt) ∙ eq-eqb (view w rule) 0 z.spare))

  whole_law : (((processes_fine (view w) n && zeros_at w (3 + n * 429) (6864 - n * 429))
      && messages_fine (view w) messages)
      && zeros_at w (6867 + messages * 187) (13613 - messages * 187)) ≡ sound (view w)
  unfolding processes_fine messages_fine
  whole_law =
      ap₂ both
      (ap₂ both
      (ap₂ both (blocks_run s 3 429 n) (zeros_run w (3 + n * 429) (6864 - n * 429) (omega (arith, z.high))
      (λ c k lo hi. absent_process w c k (omega (arith, z.size_is)) (omega (arith, z.high))))
      ∙ run_cut s 3 (n * 429) (6864 - n * 429) (3 + n * 429) 6864 refl (omega (arith, z.high)))
      (blocks_run s 6867 187 messages)
      ∙ run_cut s 3 6864 (messages * 187) 6867 (6864 + messages * 187) refl refl)
      (zeros_run w (6867 + messages * 187) (13613 - messages * 187) (omega (arith, z.few))
      (λ c k lo hi. absent_message w c k (omega (arith, z.count_is)) (omega (arith, z.few))))
      ∙ run_cut s 3 (6864 + messages * 187) (13613 - messages * 187) (6867 + messages * 187) 20477
      (omega arith) (omega (arith, z.few))
      ∙ ap (λ (b : Bool). b && fine_run s 3 20477) (sym top) ∙ run_cut s 0 3 20477 3 20480 refl refl
      ∙ sound_run s
    where
      s : State
      s = view w

  pub beyond_law : (processes_fine (view w) n && beyond_fine w n messages) ≡ sound (view w)
  unfolding beyond_fine
  beyond_law =
      assoc (processes_fine (view w) n) (zeros_at w (3 + n * 429) (6864 - n * 429)) (messages_fine (view w) messages)
      (zeros_at w (6867 + messages * 187) (13613 - messages * 187))
      ∙ whole_law
    where
      assoc : (a b c d : Bool) → (a && ((b && c) && d)) ≡ (((a && b) && c) && d)
      assoc true b c d = refl
      assoc false b c d = refl
