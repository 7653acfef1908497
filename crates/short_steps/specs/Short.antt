-- The trust step and the crash on words. Assumes nothing.
use Rattle.std.specs.Prelude.{◌≡◌, List, ℕ, ◌<◌, length, set}
use Rattle.std.proofs.Common.{sym}
use Rattle.definitions.specs.World.{trust, up, addr, put, encode, view}
use Rattle.definitions.specs.Machine.{cascade, trust_set, crash}
use Rattle.world.specs.Layout.{Changes, encode_view, changes_put, changes_own}
use Rattle.bounds.specs.Bounds.{Bounds, bounds_stored}
use Rattle.index.specs.Index.{Index, Logs, index_words, logs_words}

-- the words with another trust set keep the bounds
pub bounds_trust : (w : List ℕ) (p v : ℕ) → length w ≡ 20480 → p < 16 → Bounds (view w)
    → Bounds (view (set w (addr (trust p)) v))
unfolding put
bounds_trust w p v l hp h = bounds_stored w (trust p) v l hp h

-- and the index and the logs
pub index_trusted : (w x : List ℕ) (p v : ℕ) → length w ≡ 20480 → p < 16 → Bounds (view w) → Index (view w) x
    → Index (view (set w (addr (trust p)) v)) x
unfolding put
index_trusted w x p v l hp h z =
    index_words (set w (addr (trust p)) v) (put (view w) (trust p) v)
    (changes_own w (set w (addr (trust p)) v) (λ s. put s (trust p) v) l (changes_put w (trust p) v hp)) h z

pub logs_trusted : (w : List ℕ) (p v : ℕ) → length w ≡ 20480 → p < 16 → Bounds (view w) → Logs (view w) p
    → Logs (view (set w (addr (trust p)) v)) p
unfolding put
logs_trusted w p v l hp h z =
    logs_words (set w (addr (trust p)) v) (put (view w) (trust p) v)
    (changes_own w (set w (addr (trust p)) v) (λ s. put s (trust p) v) l (changes_put w (trust p) v hp)) h p hp z

-- the store, then the cascade
pub trust_law : (w u : List ℕ) (p v : ℕ) → length w ≡ 20480 → p < 16
    → Changes (set w (addr (trust p)) v) u (λ s. cascade s p) → u ≡ encode (trust_set (view w) p v)
unfolding trust_set
trust_law w u p v l hp c = c _ (changes_put w (trust p) v hp (view w) (sym (encode_view w l)))

pub crash_law : (w : List ℕ) (p : ℕ) → length w ≡ 20480 → p < 16
    → set w (addr (up p)) 0 ≡ encode (crash (view w) p)
unfolding crash
crash_law w p l hp = changes_own w (set w (addr (up p)) 0) (λ s. put s (up p) 0) l (changes_put w (up p) 0 hp)
