-- The fresh world that a setup record makes, and refusal 3: document 01, sections "The world" and "Logs and
-- journal" (record 0). It rests on the cells of World. Assumes nothing.
use Rattle.std.specs.Prelude.{Bool, ◌&&◌, ◌||◌, List, ℕ, ◌+◌, ◌-◌, ◌*◌, ◌/◌, ◌%◌, ◌^◌, ltb, leb, eqb, length}
use Rattle.definitions.specs.General.{pick, needs, every, byte}
use Rattle.definitions.specs.World.{size, count, rule, group, trust, counter, sequence, next, delivered, up, fifo_length, causal_length, held, marks, fifo, causal, sender, mask, stamp, number, flight, order, unused, State, has_group}

-- ---- a fresh world of n processes, process p of group (groups p)
-- "next[q] (fresh: 1 for q below n), del[q], all else 0. The trust set starts as all n processes." A process
-- is up until it crashes. Words of absent processes are zero.
unfoldable pub fresh : ℕ → (ℕ → ℕ) → State
fresh n groups size = n
fresh n groups count = 0
fresh n groups rule = 0
fresh n groups (group p) = pick (ltb p n) (groups p) 0
fresh n groups (trust p) = pick (ltb p n) (2 ^ n - 1) 0
fresh n groups (counter p g q) = 0
fresh n groups (sequence p g) = 0
fresh n groups (next p q) = pick (ltb p n && ltb q n) 1 0
fresh n groups (delivered p q) = 0
fresh n groups (up p) = pick (ltb p n) 1 0
fresh n groups (fifo_length p) = 0
fresh n groups (causal_length p) = 0
fresh n groups (held p m) = 0
fresh n groups (marks p m) = 0
fresh n groups (fifo p i) = 0
fresh n groups (causal p i) = 0
fresh n groups (sender m) = 0
fresh n groups (mask m) = 0
fresh n groups (stamp m g q) = 0
fresh n groups (number m g) = 0
fresh n groups (flight m k q) = 0
fresh n groups (order m) = 0
fresh n groups (unused i) = 0

-- ---- the setup record: "0, n, then 48 bits, low byte first"
unfoldable pub setup_bits : List ℕ → ℕ
setup_bits bytes =
    byte bytes 2
    + byte bytes 3 * 256
    + byte bytes 4 * 256 ^ 2
    + byte bytes 5 * 256 ^ 3
    + byte bytes 6 * 256 ^ 4
    + byte bytes 7 * 256 ^ 5

-- "bits 3i to 3i+2 are the group of process i"
unfoldable pub setup_group : List ℕ → ℕ → ℕ
setup_group bytes i = setup_bits bytes / 2 ^ (3 * i) % 8

-- The fresh world that a setup record makes.
unfoldable pub made : List ℕ → State
made bytes = fresh (byte bytes 1) (setup_group bytes)

-- 8 bytes, the first 0, n from 1 to 16, the bits "zero from n on", and the groups "numbered from 0 without a
-- gap": below each that a process has comes another.
unfoldable pub good_setup : List ℕ → Bool
good_setup bytes =
    eqb (length bytes) 8
    && eqb (byte bytes 0) 0
    && leb 1 (byte bytes 1)
    && leb (byte bytes 1) 16
    && eqb (setup_bits bytes / 2 ^ (3 * byte bytes 1)) 0
    && every (byte bytes 1)
    (λ p. eqb (setup_group bytes p) 0 || has_group (made bytes) (setup_group bytes p - 1))

-- "3 setup record not as above, or not 8 bytes"; 0 where it is taken.
unfoldable pub setup_refusal : List ℕ → ℕ
setup_refusal bytes = needs 3 (good_setup bytes) 0
