-- What letters, marks and held messages tell of each other, after every list (Net): an OK, flying or marked,
-- comes from a process that holds the message, in turn or past it; whoever holds a message has told every
-- addressee, and so has whoever is in turn and the sender, unless an end is down or the letter still flies.
-- Every change of a world that loses no letter between up processes, and sends what it owes (Progress), keeps
-- this. Assumes nothing.
use Rattle.std.specs.Prelude.{◌≡◌, refl, true, ◌⊎◌, ◌≢◌, ℕ, ◌<◌}
use Rattle.std.proofs.Common.{sym, ◌∙◌, inl, inr, arith}
use Rattle.definitions.specs.General.{bit}
use Rattle.definitions.specs.World.{size, count, up, fifo_length, marks, fifo, sender, State, addressed}
use Rattle.effects.specs.Cascade.{Near}
use Rattle.effects.specs.Arrival.{Held, Fly}
use Rattle.effects.specs.Spent.{Once}

-- ---- words
-- p has the mark of r
abbrev pub Mark : State → ℕ → ℕ → ℕ → Type 0
Mark s p m r = bit (s (marks p m)) r ≡ true

-- r is down
abbrev pub Down : State → ℕ → Type 0
Down s r = s (up r) ≢ 1

-- what was told from r to u: it has been done, an end is down, or it still flies
pub data Told (r_down u_down done flying : Type 0) : Type 0 where
  is_done : done → Told r_down u_down done flying
  from_down : r_down → Told r_down u_down done flying
  to_down : u_down → Told r_down u_down done flying
  flies : flying → Told r_down u_down done flying

-- with both ends up and no letter left it has been done
pub told_done : {r_down u_down done flying : Type 0} → (¬ r_down) → (¬ u_down) → (¬ flying)
    → Told r_down u_down done flying → done
told_done r u f (is_done d) = d
told_done r u f (from_down d) = absurd (r d)
told_done r u f (to_down d) = absurd (u d)
told_done r u f (flies d) = absurd (f d)

-- ---- what holds after every list, of the messages and processes that there are
pub record Net (s : State) : Type 0 where
  -- what is in a FIFO log is held
  pub kept : (p i : ℕ) → p < s size → i < s (fifo_length p) → Held s p (s (fifo p i))
  -- an OK, in flight or marked, comes from a holder in turn or past it
  pub ok_flies : (m r u : ℕ) → m < s count → r < s size → u < s size → Fly s m 2 r u → Held s r m × Near s m r
  pub ok_marked : (m r u : ℕ) → m < s count → r < s size → u < s size → Mark s u m r → Held s r m × Near s m r
  -- a holder has told every addressee of the message, and, in turn or past it, that it is in turn
  pub relayed : (m r u : ℕ) → m < s count → r < s size → u < s size → Held s r m → addressed s m u ≡ true
      → Told (Down s r) (Down s u) (Held s u m) (Fly s m 1 r u ⊎ Fly s m 2 r u)
  pub okayed : (m r u : ℕ) → m < s count → r < s size → u < s size → Held s r m → Near s m r
      → addressed s m u ≡ true
      → Told (Down s r) (Down s u) (Mark s u m r) (Fly s m 2 r u)
  -- and so has the sender
  pub posted : (m u : ℕ) → m < s count → u < s size → addressed s m u ≡ true
      → Told (Down s (s (sender m))) (Down s u) (Held s u m) (Fly s m 0 (s (sender m)) u)

-- ---- a change that keeps it
-- what became of the letter of kind k for m from r to u
pub data Flown (t : State) (m k r u : ℕ) : Type 0 where
  still : Fly t m k r u → Flown t m k r u
  landed : Held t u m → (k ≡ 2 → Mark t u m r) → Flown t m k r u
  lost_from : Down t r → Flown t m k r u
  lost_to : Down t u → Flown t m k r u

-- m flies from r to every addressee, by one of the kinds of the test
abbrev pub ToAll : State → ℕ → ℕ → (ℕ → ℕ → Type 0) → Type 0
ToAll t m r fly = (u : ℕ) → u < t size → addressed t m u ≡ true → fly r u

-- from s to t
pub record Progress (s t : State) : Type 0 where
  pub same_size : t size ≡ s size
  pub same_to : (m r : ℕ) → m < s count → addressed t m r ≡ addressed s m r
  pub same_sender : (m : ℕ) → m < s count → t (sender m) ≡ s (sender m)
  -- held and in turn stay so, and no letter is sent twice; marked stays so; down is for good
  pub once : Once s t
  pub mark_on : (m r p : ℕ) → m < s count → r < s size → Mark s p m r → Mark t p m r
  pub down_on : (r : ℕ) → Down s r → Down t r
  -- letters
  pub flown : (m k r u : ℕ) → m < s count → r < s size → u < s size → addressed s m u ≡ true → Fly s m k r u
      → Flown t m k r u
  pub old_ok : (m r u : ℕ) → m < t count → r < s size → u < s size → Fly s m 2 r u → m < s count
  pub new_mark : (m r p : ℕ) → m < t count → r < s size → p < s size → Mark t p m r
      → ((m < s count) × Mark s p m r) ⊎ ((m < s count) × Fly s m 2 r p)
  -- a new holder, one newly in turn, and the sender of a new message, write to all
  pub new_holder : (m r : ℕ) → m < t count → r < s size → Held t r m
      → ((m < s count) × Held s r m) ⊎ ToAll t m r (λ r u. Fly t m 1 r u ⊎ Fly t m 2 r u)
  pub new_near : (m r : ℕ) → m < t count → r < s size → Held t r m → Near t m r
      → ((m < s count) × Held s r m × Near s m r) ⊎ ToAll t m r (λ r u. Fly t m 2 r u)
  pub new_message : (m : ℕ) → m < t count → (m < s count) ⊎ ToAll t m (t (sender m)) (λ r u. Fly t m 0 r u)
  -- and what is new in a FIFO log is held
  pub logged : (p i : ℕ) → p < s size → i < t (fifo_length p)
      → ((i < s (fifo_length p)) × (t (fifo p i) ≡ s (fifo p i)) × (s (fifo p i) < s count))
      ⊎ Held t p (t (fifo p i))
  pub senders : (m : ℕ) → m < s count → s (sender m) < s size

-- such a change keeps what letters tell
pub net_progress : (s t : State) → Progress s t → Net s → Net t
net_progress s t g n = record {
  kept = λ p i hp hi. elim (g.logged p i (small p hp) hi) [
    | inl a ↦ rw a.1 (g.once.held_on (s (fifo p i)) p a.2 (n.kept p i (small p hp) a.0))
    | inr a ↦ a
  ];
  ok_flies = λ m r u hm hr hu f. elim (g.once.new_letter 2 m r u f) [
    | inl a ↦
        let o = g.old_ok m r u hm (small r hr) (small u hu) a in
        on m r o (n.ok_flies m r u o (small r hr) (small u hu) a)
    | inr a ↦ a.1.1
  ];
  ok_marked = λ m r u hm hr hu f. elim (g.new_mark m r u hm (small r hr) (small u hu) f) [
    | inl a ↦ on m r a.0 (n.ok_marked m r u a.0 (small r hr) (small u hu) a.1)
    | inr a ↦ on m r a.0 (n.ok_flies m r u a.0 (small r hr) (small u hu) a.1)
  ];
  relayed = λ m r u hm hr hu h a. elim (g.new_holder m r hm (small r hr) h) [
    | inr all ↦ flies (all u hu a)
    | inl o ↦
        let a' = old m u o.0 a in
        told m r u (g.once.held_on m u o.0) (λ f. elim f [
          | inl x ↦ letter 1 m r u o.0 (small r hr) (small u hu) a' (λ d _. d) inl x
          | inr x ↦ letter 2 m r u o.0 (small r hr) (small u hu) a' (λ d _. d) inr x
        ]) (n.relayed m r u o.0 (small r hr) (small u hu) o.1 a')
  ];
  okayed = λ m r u hm hr hu h y a. elim (g.new_near m r hm (small r hr) h y) [
    | inr all ↦ flies (all u hu a)
    | inl o ↦
        let a' = old m u o.0 a in
        told m r u (g.mark_on m r u o.0 (small r hr))
        (letter 2 m r u o.0 (small r hr) (small u hu) a' (λ _ d. d refl) (λ f. f))
        (n.okayed m r u o.0 (small r hr) (small u hu) o.1 o.2 a')
  ];
  posted = λ m u hm hu a. elim (g.new_message m hm) [
    | inr all ↦ flies (all u hu a)
    | inl o ↦ rw (g.same_sender m o) (told m (s (sender m)) u (g.once.held_on m u o)
        (letter 0 m (s (sender m)) u o (g.senders m o) (small u hu) (old m u o a) (λ d _. d) (λ f. f))
        (n.posted m u o (small u hu) (old m u o a)))
  ];
}
  where
    small : (r : ℕ) → r < t size → r < s size
    small r h = omega (arith, g.same_size)

    old : (m u : ℕ) → m < s count → addressed t m u ≡ true → addressed s m u ≡ true
    old m u h a = sym (g.same_to m u h) ∙ a

    on : (m r : ℕ) → m < s count → Held s r m × Near s m r → Held t r m × Near t m r
    on m r h y = (g.once.held_on m r h y.0, g.once.near_on m r h y.1)

    -- what was told still is: what was done stays done, and a letter that flew still flies, has landed or is
    -- lost
    told : (m r u : ℕ) {done done' fly fly' : Type 0} → (done → done')
        → (fly → Told (Down t r) (Down t u) done' fly')
        → Told (Down s r) (Down s u) done fly → Told (Down t r) (Down t u) done' fly'
    told m r u on fl (is_done x) = is_done (on x)
    told m r u on fl (from_down x) = from_down (g.down_on r x)
    told m r u on fl (to_down x) = to_down (g.down_on u x)
    told m r u on fl (flies x) = fl x

    -- one letter of kind k
    letter : (k m r u : ℕ) {done fly : Type 0} → m < s count → r < s size → u < s size
        → addressed s m u ≡ true → (Held t u m → (k ≡ 2 → Mark t u m r) → done) → (Fly t m k r u → fly)
        → Fly s m k r u → Told (Down t r) (Down t u) done fly
    letter k m r u hm hr hu a lands flying x = elim (g.flown m k r u hm hr hu a x) [
      | still f ↦ flies (flying f)
      | landed h d ↦ is_done (lands h d)
      | lost_from d ↦ from_down d
      | lost_to d ↦ to_down d
    ]
